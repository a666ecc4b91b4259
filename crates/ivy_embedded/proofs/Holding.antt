-- What is lent stays had: by turns that begin no call that may not be made, and by strings that are
-- not wanted.
use Rattle.std.proofs.Common.{◌≡◌, ◌≢◌, ◌⊎◌, inl, inr, ℕ, ◌<◌, Bool, true, false, not, List, Option, Some, None, refl, sym, ap, ◌∙◌, subst}
use Rattle.std.proofs.lemmas.Bool.{cases_Bool, eq-eqb, ne_eqb}
use Rattle.std.proofs.lemmas.Bool.Decides.{eqb_tells}
use Rattle.ivy_model.specs.declared.Call.{Call}
use Rattle.ivy_pagetable.specs.declared.Access.{Access}
use Rattle.ivy_pagetable.specs.declared.Access.TheVariants.{Nil, Read, Write}
use Rattle.ivy_pagetable.specs.declared.Entry.{Entry}
use Rattle.ivy_pagetable.specs.declared.Entry.TheVariants as entry
use Rattle.ivy_pagetable.specs.declared.Word.{Word}
use Rattle.ivy_pagetable.specs.stated.States.{IdleState}
use Rattle.ivy_pagetable.specs.stated.Accesses.{reads, suffices, writes}
use Rattle.ivy_pagetable.specs.stated.Tables.{entry_at}
use Rattle.ivy_pagetable.specs.stated.Words.{needs_write}
use Rattle.ivy_coherence.specs.declared.leaving.Leaving.{Leaving}
use Rattle.ivy_coherence.specs.Leavings.{access_at}
use Rattle.ivy_coherence.proofs.keeping.Left.{access_left}
use Rattle.ivy_memory.specs.declared.memory.Asked.TheVariants as asked
use Rattle.ivy_memory.specs.stated.Asking.{asked_of}
use Rattle.ivy_program.specs.stated.InstructionSteps.{Asks, step_of}
use Rattle.ivy_host.specs.stated.Hosts.{Host}
use Rattle.ivy_host.specs.stated.Managers.{Managed}
use Rattle.ivy_embedded.specs.declared.lending.Lending.{Lending}
use Rattle.ivy_embedded.specs.declared.lending.Lending.TheVariants.{Unlent, ToRead, ToWrite}
use Rattle.ivy_embedded.specs.Lending.{is_had, is_more, left_for, lending_in, permits, suffices_for}
use Rattle.ivy_embedded.proofs.Turning.{IsTurned}
use Rattle.ivy_embedded.proofs.Delivered.{IsLeftBy, table_of}

pub unlent_or : (l : Lending) → (l ≡ Unlent) ⊎ (l ≢ Unlent)
unlent_or Unlent = inl refl
unlent_or ToRead = inr (λ e. absurd cc)
unlent_or ToWrite = inr (λ e. absurd cc)

unlent_had : (o : Option Access) → is_had o Unlent ≡ true
unlent_had None = refl
unlent_had (Some access) = refl

pub had_unlent : (o : Option Access) (l : Lending) → l ≡ Unlent → is_had o l ≡ true
had_unlent o l is = rw is (unlent_had o)

had_some : (access : Access) (l : Lending) → is_had (Some access) l ≡ true
    → suffices_for access l ≡ true
had_some access Unlent h = refl
had_some access ToRead h = h
had_some access ToWrite h = h

some_had : (access : Access) (l : Lending) → suffices_for access l ≡ true
    → is_had (Some access) l ≡ true
some_had access Unlent h = refl
some_had access ToRead h = h
some_had access ToWrite h = h

none_had : (l : Lending) → is_had None l ≡ true → l ≢ Unlent → ⊥
none_had Unlent h lent = lent refl
none_had ToRead h lent = absurd cc
none_had ToWrite h lent = absurd cc

-- no word waits at a page that is lent, and the access is enough
had_idle : (e : Entry) (l : Lending) → is_had (access_at e) l ≡ true → l ≢ Unlent
    → (s : IdleState) × (e ≡ entry.Idle s) × (suffices_for s.access l ≡ true)
had_idle (entry.Idle s) l h lent = (s, refl, had_some s.access l h)
had_idle (entry.AwaitRead s) l h lent = absurd (none_had l h lent)
had_idle (entry.AwaitWrite s) l h lent = absurd (none_had l h lent)
had_idle (entry.AwaitAcks s) l h lent = absurd (none_had l h lent)

pub idle_had : (e : Entry) (s : IdleState) (l : Lending) → e ≡ entry.Idle s
    → suffices_for s.access l ≡ true → is_had (access_at e) l ≡ true
idle_had e s l is h = rw is (some_had s.access l h)

-- a word that may be asked for of a page that is lent hits
may_hit : (l : Lending) (w : Word) (access : Access) → permits l w ≡ true
    → suffices_for access l ≡ true → l ≢ Unlent → suffices access w ≡ true
may_hit Unlent w access may h lent = absurd (lent refl)
may_hit ToRead w access may h lent = elim (cases_Bool (needs_write w)) [
  | inl writes ↦
      let f : false ≡ true = sym (ap not writes) ∙ may in absurd cc
  | inr reads ↦ rw reads h
]
may_hit ToWrite w access may h lent = absurd cc

-- what is left is enough, where no more is lent
left_enough : (l : Lending) (access : Access) → is_more l (left_for access) ≡ false
    → suffices_for access l ≡ true
left_enough Unlent access h = refl
left_enough ToRead Nil h = absurd cc
left_enough ToRead Read h = refl
left_enough ToRead Write h = refl
left_enough ToWrite Nil h = absurd cc
left_enough ToWrite Read h = absurd cc
left_enough ToWrite Write h = refl

-- no page is lent for more than this leaves of it
abbrev pub IsNoMore : List Lending → Option Leaving → Type 0
IsNoMore lent left = (l : Leaving) → left ≡ Some l
    → is_more (lending_in lent l.page) (left_for l.access) ≡ false

access_enough : (lent : List Lending) (p : ℕ) (access : Access) (left : Option Leaving)
    → suffices_for access (lending_in lent p) ≡ true → IsNoMore lent left
    → suffices_for (access_left p access left) (lending_in lent p) ≡ true
access_enough lent p access None h none = h
access_enough lent p access (Some l) h none = elim (eqb_tells l.page p) [
  | inl y ↦
      rw (eq-eqb l.page p y.1)
      (left_enough (lending_in lent p) l.access
      (ap (λ q. is_more (lending_in lent q) (left_for l.access)) (sym y.1) ∙ none l refl))
  | inr y ↦ rw (ne_eqb l.page p y.1) h
]

module _ (lent : List Lending) where
  -- each page that is lent is had
  abbrev pub IsHeld : Host Managed → Type 0
  IsHeld n = (p : ℕ) → is_had (access_at (entry_at (table_of n) p)) (lending_in lent p) ≡ true

  -- a call that the program asks for, and that begins to wait, may be one of such a page
  abbrev pub MayWait : Host Managed → Host Managed → Type 0
  MayWait n new = (call : Call) (p : ℕ) (w : Word) → step_of n.process ≡ Asks call
      → new.history ≡ n.history → asked_of n.memory.coherence.config call ≡ asked.Word p w
      → permits (lending_in lent p) w ≡ true

  pub turned_held : (n new : Host Managed) → IsTurned n new → IsHeld n → MayWait n new → IsHeld new
  turned_held n new t held may p = elim (unlent_or (lending_in lent p)) [
    | inl none ↦ had_unlent (access_at (entry_at (table_of new) p)) (lending_in lent p) none
    | inr some ↦
        let old = had_idle (entry_at (table_of n) p) (lending_in lent p) (held p) some in
        elim (t.entries p old.0 old.1) [
          | inl same ↦ idle_had (entry_at (table_of new) p) old.0 (lending_in lent p) same old.2
          | inr waits ↦
              let hits = may_hit (lending_in lent p) waits.word old.0.access
              (may waits.call p waits.word waits.asks waits.quiet waits.of) old.2 some in
              let f : true ≡ false = sym hits ∙ waits.short in absurd cc
        ]
  ]

  pub left_held : (n new : Host Managed) (left : Option Leaving) → IsHeld n → IsNoMore lent left
      → ((p : ℕ) (s : IdleState) → entry_at (table_of n) p ≡ entry.Idle s → lending_in lent p ≢ Unlent
      → IsLeftBy n p s left new)
      → IsHeld new
  left_held n new left held none leaves p = elim (unlent_or (lending_in lent p)) [
    | inl free ↦ had_unlent (access_at (entry_at (table_of new) p)) (lending_in lent p) free
    | inr some ↦
        let old = had_idle (entry_at (table_of n) p) (lending_in lent p) (held p) some in
        let at = (leaves p old.0 old.1 some).table in
        idle_had (entry_at (table_of new) p) at.idle (lending_in lent p) at.entry
        (subst (λ a. suffices_for a (lending_in lent p) ≡ true) (sym at.access)
        (access_enough lent p old.0.access left old.2 none))
  ]
