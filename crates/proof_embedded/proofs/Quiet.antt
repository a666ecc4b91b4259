-- Acts of a node's site while its pages are lent: before each, the pages that are lent are had, and by
-- none is a call made that writes a page which is lent to be read.
use Rattle.std.proofs.Common.{◌≡◌, ◌≢◌, inl, inr, ℕ, zero, suc, ◌+◌, ◌*◌, ◌/◌, ◌%◌, ◌<◌, Bool, true, false, not, List, [], ◌∷◌, ◌++◌, drop, length, map, slice_get, get_or, Contains, Option, Some, None, refl, sym, ap, subst, ◌∙◌, arith}
use Rattle.std.proofs.lemmas.Option.{none-some, same_Some, slice_get_past}
use Rattle.ivy_model.specs.declared.Act.TheVariants as act
use Rattle.ivy_model.specs.declared.Call.{Call}
use Rattle.ivy_model.specs.declared.Call.TheVariants.{Load, Store}
use Rattle.ivy_model.specs.declared.Config.{Config}
use Rattle.ivy_model.specs.declared.Record.{Record}
use Rattle.ivy_model.specs.declared.Reply.TheVariants.{Done}
use Rattle.ivy_model.specs.declared.Row.TheVariants.{Stores}
use Rattle.ivy_model.specs.Rows.{row}
use Rattle.ivy_model.specs.stated.Serves.{access_refusal}
use Rattle.ivy_pagetable.specs.declared.Word.{Word}
use Rattle.ivy_pagetable.specs.stated.Words.{needs_write, word_with}
use Rattle.ivy_memory.specs.declared.Asked.TheVariants as asked
use Rattle.ivy_memory.specs.stated.Asking.{asked_of, word_unless}
use Rattle.ivy_memory.specs.stated.Memories.{in_progress}
use Rattle.ivy_program.specs.Programs.{IsCalled}
use Rattle.ivy_program.specs.stated.InstructionSteps.{AsksRow, Process, answered_with}
use Rattle.ivy_host.specs.stated.Hosts.{Host, answered_by}
use Rattle.ivy_host.specs.stated.Managers.{Managed}
use Rattle.ivy_site.specs.Handed.{site_handed}
use Rattle.ivy_site.specs.SiteView.{SiteView}
use Rattle.ivy_embedded.specs.declared.lending.Lending.{Lending}
use Rattle.ivy_embedded.specs.declared.lending.Lending.TheVariants.{ToRead}
use Rattle.ivy_embedded.specs.Lending.{HasUnanswered, LendsSoundly, lending_asked, lending_in, may_ask, permits}
use Rattle.ivy_embedded.specs.Nodes.{Embedded}
use Rattle.ivy_embedded.proofs.Going.{IsOwn, core_of}
use Rattle.ivy_embedded.proofs.Holding.{IsHeld}
use Rattle.ivy_embedded.proofs.Unanswered.{answered_less, asks_unanswered, handed_or}
use Rattle.proof_lent.proofs.Members.{In, drop_front}
use Rattle.proof_lent.proofs.WordCalls.{refused_apart}
use Rattle.proof_embedded.proofs.Acting.{Act, Acts, Hands, WasSent}

pub contains_in : {X : Type 0} (xs : List X) (x : X) → Contains xs x → In xs x
contains_in [] x h = absurd (let low = h.1 in omega (arith, low))
contains_in (y ∷ ys) x h = at h.0 h.1 h.2 (contains_in ys x)
  where
    at : (k : ℕ) → k < length (y ∷ ys) → get_or (y ∷ ys) k x ≡ x → (Contains ys x → In ys x)
        → In (y ∷ ys) x
    at zero low is rest = inl is
    at (suc k) low is rest = inr (rest (k, omega (arith, low), is))

-- a call writes no page that is lent to be read
abbrev pub IsQuiet : Config → List Lending → Call → Type 0
IsQuiet c lent call = (p : ℕ) (w : Word) → asked_of c call ≡ asked.Word p w
    → lending_in lent p ≡ ToRead → needs_write w ≡ false

not_true : (b : Bool) → not b ≡ true → b ≡ false
not_true true h = absurd cc
not_true false h = refl

-- one that may be made does not
pub may_quiet : (c : Config) (lent : List Lending) (call : Call)
    → may_ask lent (asked_of c call) ≡ true → IsQuiet c lent call
may_quiet c lent call may p w is read =
    not_true (needs_write w)
    (sym (ap (λ l. permits l w) read) ∙ (sym (ap (may_ask lent) is) ∙ may))

load_writes_none : (o : Option ℕ) (page width offset p : ℕ) (w : Word)
    → word_unless o page (word_with width offset act.Load) ≡ asked.Word p w → needs_write w ≡ false
load_writes_none (Some code) page width offset p w is = absurd (refused_apart code p w is)
load_writes_none None page width offset p w is =
    let same : word_with width offset act.Load ≡ w = cc in ap needs_write (sym same)

-- nor does a load
pub load_quiet : (c : Config) (lent : List Lending) (width addr : ℕ) → IsQuiet c lent (Load width addr)
load_quiet c lent width addr p w is read =
    load_writes_none (access_refusal c width addr) (addr / c.page_size) width (addr % c.page_size) p w is

-- nor does a store, at an address where words are of no page that is lent to be read
no_word_read : (lent : List Lending) (o : Option ℕ) (page p : ℕ) (w stored loaded : Word)
    → word_unless o page stored ≡ asked.Word p w → lending_in lent p ≡ ToRead
    → lending_asked lent (word_unless o page loaded) ≢ ToRead → ⊥
no_word_read lent (Some code) page p w stored loaded is read not = refused_apart code p w is
no_word_read lent None page p w stored loaded is read not =
    let same : page ≡ p = cc in not (ap (lending_in lent) same ∙ read)

store_quiet : (c : Config) (lent : List Lending) (addr value : ℕ)
    → lending_asked lent (asked_of c (Load 8 addr)) ≢ ToRead → IsQuiet c lent (Store 8 addr value)
store_quiet c lent addr value not p w is read =
    absurd (no_word_read lent (access_refusal c 8 addr) (addr / c.page_size) p w
    (word_with 8 (addr % c.page_size) (act.Store value)) (word_with 8 (addr % c.page_size) act.Load)
    is read not)

-- nor do the stores of a row
pub stores_quiet : (c : Config) (lent : List Lending) (me addr : ℕ) (numbers : List ℕ)
    → ((k : ℕ) → k < length numbers
    → lending_asked lent (asked_of c (Load 8 (addr + 8 * k))) ≢ ToRead)
    → (r : Record) → In (row Stores me addr numbers) r → IsQuiet c lent r.call
stores_quiet c lent me addr [] none r h = absurd h
stores_quiet c lent me addr (number ∷ more) none r (inl e) =
    let first : addr + 8 * 0 ≡ addr = omega arith in
    subst (λ (q : Record). IsQuiet c lent q.call) e
    (store_quiet c lent addr number
    (subst (λ a. lending_asked lent (asked_of c (Load 8 a)) ≢ ToRead) first
    (none 0 (omega arith))))
stores_quiet c lent me addr (number ∷ more) none r (inr h) =
    stores_quiet c lent me (addr + 8) more
    (λ k low. (let on : addr + 8 * suc k ≡ addr + 8 + 8 * k = omega arith in
    subst (λ a. lending_asked lent (asked_of c (Load 8 a)) ≢ ToRead) on
    (none (suc k) (omega (arith, low))))) r h

module _ (c : Config) (lent : List Lending) where
  -- the calls without a reply do not
  abbrev pub AreQuiet : Host Managed → Type 0
  AreQuiet n = (call : Call) → HasUnanswered n.process call → IsQuiet c lent call

  -- the pages that are lent are had before it, and what it answers, and leaves in progress, is quiet
  pub record IsQuietAct (a b : SiteView) : Type 0 where
    pub held : IsHeld lent (core_of a)
    pub grown : (call : Call)
        → In (map (λ (r : Record). r.call) (drop (length (core_of a).history) (core_of b).history)) call
        → IsQuiet c lent call
    pub asked : (call : Call) → In (answered_by (core_of b)).asked call → IsQuiet c lent call

  -- to hand in calls does nothing
  abbrev pub IsFine : Act → SiteView → SiteView → Type 0
  IsFine (Hands rows) a b = Unit {0}
  IsFine x a b = IsQuietAct a b

  -- all this is done, one after another, with no other strings than these delivered
  abbrev pub AllAct : List (List ℕ) → List Act → SiteView → SiteView → Type 0
  AllAct strings [] a b = b ≡ a
  AllAct strings (x ∷ xs) a b = (mid : SiteView) × Acts x a mid × WasSent strings x
      × IsFine x a mid × AllAct strings xs mid b

  pub record Chain (strings : List (List ℕ)) (a b : SiteView) : Type 0 where
    pub acts : List Act
    pub all : AllAct strings acts a b

pub drop_all : {X : Type 0} (xs : List X) → drop (length xs) xs ≡ []
drop_all [] = refl
drop_all (x ∷ xs) = drop_all xs

module _ (c : Config) (lent : List Lending) (a b : SiteView) where
  abbrev HasGrownQuietly : Type 0
  HasGrownQuietly = (call : Call)
      → In (map (λ (r : Record). r.call) (drop (length (core_of a).history) (core_of b).history)) call
      → IsQuiet c lent call

  -- by no record
  pub none_grown : (core_of b).history ≡ (core_of a).history → HasGrownQuietly
  none_grown same call h =
      absurd (subst (λ rs. In (map (λ (r : Record). r.call) rs) call)
      (ap (drop (length (core_of a).history)) same ∙ drop_all (core_of a).history) h)

  -- or by one
  pub one_grown : (r : Record) → (core_of b).history ≡ (core_of a).history ++ r ∷ []
      → IsQuiet c lent r.call → HasGrownQuietly
  one_grown r is quiet call h =
      only (subst (λ rs. In (map (λ (r : Record). r.call) rs) call)
      (ap (drop (length (core_of a).history)) is ∙ drop_front (core_of a).history (r ∷ [])) h)
    where
      only : In (r.call ∷ []) call → IsQuiet c lent call
      only (inl e) = subst (IsQuiet c lent) e quiet
      only (inr h) = absurd h

row_unanswered : (p : Process) (calls : List Call) → IsCalled p.program → AsksRow p calls
    → (call : Call) → In calls call → HasUnanswered p call
row_unanswered p [] called asks call h = absurd h
row_unanswered p (k ∷ ks) called asks call (inl e) =
    subst (HasUnanswered p) e (asks_unanswered p k called asks.0)
row_unanswered p (k ∷ ks) called asks call (inr h) =
    answered_less p Done call
    (row_unanswered (answered_with p Done) ks called (asks.1 Done) call h)

-- a call in progress has no reply yet
pub asked_unanswered : (n : Host Managed) → IsOwn n → (call : Call) → In (answered_by n).asked call
    → HasUnanswered n.process call
asked_unanswered n own call h = at n.memory.asked refl h
  where
    at : (o : Option Call) → n.memory.asked ≡ o → In (in_progress o n.memory.along) call
        → HasUnanswered n.process call
    at None is h = absurd h
    at (Some k) is h =
        row_unanswered n.process (k ∷ n.memory.along) own.called (own.asking k is) call h

pub asked_quiet : (c : Config) (lent : List Lending) (n : Host Managed) → IsOwn n
    → AreQuiet c lent n → (call : Call) → In (answered_by n).asked call → IsQuiet c lent call
asked_quiet c lent n own quiet call h = quiet call (asked_unanswered n own call h)

-- of a node that lends soundly

pub sound_quiet : (c : Config) (lent : List Lending) (e : Embedded) → LendsSoundly e
    → e.site.config ≡ c → e.lent ≡ lent → AreQuiet c lent (core_of e.site)
sound_quiet c lent e sound config same call h =
    may_quiet c lent call
    (subst (λ l. may_ask l (asked_of c call) ≡ true) same
    (subst (λ k. may_ask e.lent (asked_of k call) ≡ true) config (sound.calls call h)))

pub sound_held : (e : Embedded) → LendsSoundly e → IsHeld e.lent (core_of e.site)
sound_held e sound p = sound.had p

-- with one call more
one_call : (call other : Call) (k : ℕ) → slice_get (call ∷ []) k ≡ Some other → call ≡ other
one_call call other zero is = same_Some call other is
one_call call other (suc k) is =
    absurd (none-some other (sym (slice_get_past List.[] k (omega arith)) ∙ is))

pub handed_quiet : (c : Config) (lent : List Lending) (a : SiteView) (call : Call)
    → AreQuiet c lent (core_of a) → IsQuiet c lent call
    → AreQuiet c lent (core_of (site_handed ((call ∷ []) ∷ []) a))
handed_quiet c lent a call quiet own other h =
    elim (handed_or ((call ∷ []) ∷ []) (core_of a).process other h) [
      | inl before ↦ quiet other before
      | inr at ↦ subst (IsQuiet c lent) (one_call call other at.0 at.1) own
    ]
