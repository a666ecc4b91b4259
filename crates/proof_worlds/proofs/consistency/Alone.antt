-- Who may write owns the page and counts no copies, and who may read is counted: so who carries out
-- a word has its page alone.
use Rattle.std.proofs.Common.{◌≡◌, ◌≢◌, ℕ, Bool, true, false, List, [], ◌∷◌, Option, Some, None, refl, sym, ap, subst, ◌∙◌, if◌then◌else◌}
use Rattle.std.specs.Ordering.{nat_cmp}
use Rattle.std.specs.FinSet as set
use Rattle.std.specs.FinSet.{contains-empty}
use Rattle.std.proofs.lemmas.List.Elements.{All-nil, All-cons, All-append}
use Rattle.ivy_model.specs.declared.Call.{Call}
use Rattle.ivy_model.specs.declared.Config.{Config}
use Rattle.ivy_model.specs.declared.Record.{Record}
use Rattle.ivy_model.specs.declared.Reply.{Reply}
use Rattle.ivy_pagetable.specs.declared.Access.{Access}
use Rattle.ivy_pagetable.specs.declared.Access.TheVariants.{Nil, Read, Write}
use Rattle.ivy_pagetable.specs.declared.Entry.{Entry}
use Rattle.ivy_pagetable.specs.declared.Entry.TheVariants as entry
use Rattle.ivy_pagetable.specs.declared.Out.{Out}
use Rattle.ivy_pagetable.specs.declared.Word.{Word}
use Rattle.ivy_pagetable.specs.stated.Accesses.{reads as can_read, writes as can_write, suffices}
use Rattle.ivy_pagetable.specs.stated.Entries.{readable, writable, is_owner, copies_of}
use Rattle.ivy_pagetable.specs.stated.States.{IdleState}
use Rattle.ivy_pagetable.specs.stated.Words.{needs_write}
use Rattle.ivy_memory.specs.declared.Asked.TheVariants as asked
use Rattle.ivy_memory.specs.stated.Memories.{reply_of}
use Rattle.proof_table.specs.stated.Letters.{Net}
use Rattle.proof_table.specs.stated.Orderly.{reads, At, IsOrderly}
use Rattle.proof_worlds.specs.consistency.Alone.{HasNoPart, IsAlone, AreAlone}
use Rattle.proof_worlds.proofs.refinement.LiftedEvents.{Carries, CarriesAll}
use Rattle.proof_worlds.proofs.consistency.CarriedWords.{Copies}
use Rattle.proof_worlds.proofs.consistency.Owing.{owed, owed_along, AreWordsOf, IsWordOf}

enough_reads : (a : Access) (write : Bool) → (if write then can_write a else can_read a) ≡ true
    → can_read a ≡ true
enough_reads Nil true h = h
enough_reads Read true h = refl
enough_reads Write true h = refl
enough_reads a false h = h

-- no node has a copy beside one that may write
no_copy_beside : (c : Config) (n : Net) → IsOrderly c n → (x p : ℕ) → writable (n.entry x p) ≡ true
    → (j : ℕ) → j ≢ x → readable (n.entry j p) ≡ true → ⊥
no_copy_beside c n o x p writes j ne has = (
    let sole : (is_owner (n.entry x p) ≡ true) × (copies_of (n.entry x p) ≡ set.empty) =
    o.alone x p writes in
    let counted : set.contains (copies_of (n.entry x p)) j ≡ true =
    o.counted p x j (copies_of (n.entry x p)) (At x) (refl, sole.0, refl) ne (reads has) in
    let f : true ≡ false =
    sym counted ∙ ap (λ t. set.contains t j) sole.1 ∙ contains-empty nat_cmp j in
    cc
    )

-- where access suffices for a word at a node of an orderly net, no other node has a part in its page
pub carried_alone : (c : Config) (n : Net) → IsOrderly c n → (x p : ℕ) (s : IdleState) (w : Word)
    → n.entry x p ≡ entry.Idle s → suffices s.access w ≡ true → (j : ℕ) → j ≢ x
    → HasNoPart (n.entry j p) w
carried_alone c n o x p s w idle enough j ne = record {
  none_writes = λ writes.
      no_copy_beside c n o j p writes x (λ e. ne (sym e))
      (ap readable idle ∙ enough_reads s.access (needs_write w) enough);
  none_has = λ write has.
      no_copy_beside c n o x p
      (ap writable idle
      ∙ (ap (λ (b : Bool). if b then can_write s.access else can_read s.access) (sym write) ∙ enough)) j
      ne has;
}

module _ (c : Config) (was : ℕ → ℕ → Entry) where
  -- so it is of the call whose word is carried out, of the entries before the event
  pub carries_alone : {S : Type 0} {x page : ℕ} {f flat : ℕ → List ℕ} {word : Word} {out : Out}
      (me : ℕ) (called : Call) → me ≡ x → IsWordOf c called page word
      → Carries (Copies {S = S} c) was c x f page word out flat → IsAlone c was me called
  carries_alone {x = x} {page = page} {word = word} me called same of k p w is j ne =
      let both : asked.Word page word ≡ asked.Word p w = sym of ∙ is in
      let at : page ≡ p = cc in
      let one : word ≡ w = cc in
      let other : j ≢ x = λ e. ne (e ∙ sym same) in
      subst (HasNoPart (was j p)) one
      (subst (λ q. HasNoPart (was j q) word) at
      (subst (λ e. HasNoPart e word) (k.elsewhere j page other)
      (carried_alone c k.net k.holds.0 x page k.state word k.idle k.enough j other)))

  -- and of what is owed of it
  pub owed_alone : (me : ℕ) (called : Call) (o : Option Reply) → IsAlone c was me called
      → AreAlone c was (owed me (Some called) o)
  owed_alone me called None alone = All-nil (λ (r : Record). IsAlone c was r.node r.call)
  owed_alone me called (Some y) alone =
      All-cons (λ (r : Record). IsAlone c was r.node r.call)
      (record { node = me; call = called; reply = y }) [] alone
      (All-nil (λ (r : Record). IsAlone c was r.node r.call))

  -- and of the calls made along with it
  pub along_alone : (S : Type 0) (x me page : ℕ) (calls : List Call) (words : List Word)
      (f : ℕ → List ℕ) (outs : List Out) (flat : ℕ → List ℕ) → me ≡ x → AreWordsOf c page calls words
      → CarriesAll (Copies {S = S} c) was c x f page words outs flat
      → AreAlone c was (owed_along me calls outs)
  along_alone S x me page [] words f outs flat same are carries =
      All-nil (λ (r : Record). IsAlone c was r.node r.call)
  along_alone S x me page (k ∷ ks) [] f outs flat same are carries = absurd are
  along_alone S x me page (k ∷ ks) (w ∷ ws) f [] flat same are carries = absurd carries
  along_alone S x me page (k ∷ ks) (w ∷ ws) f (o ∷ os) flat same are carries =
      All-append (λ (r : Record). IsAlone c was r.node r.call) (owed me (Some k) (reply_of o))
      (owed_along me ks os)
      (owed_alone me k (reply_of o) (carries_alone me k same are.0 carries.1))
      (along_alone S x me page ks ws carries.0 os flat same are.2 carries.2)
