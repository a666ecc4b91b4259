-- No two nodes hold the lock that node 0 makes.
use Rattle.std.proofs.Common.{◌≡◌, ◌≢◌, ℕ, ◌+◌, ◌/◌, ◌%◌, ◌^◌, ◌<◌, inl, inr, true, false, IsTrue}
use Rattle.std.proofs.Common.{if◌then◌else◌, List, [], ◌∷◌, ◌++◌, length, refl, sym, ap, ap₂}
use Rattle.std.proofs.Common.{subst, ◌∙◌, append_assoc, append-nil, arith}
use Rattle.std.specs.List.{AllByRecursion as Each, slice_index_or}
use Rattle.std.proofs.lemmas.Bool.{both_ways, cases_eq, cases_lt}
use Rattle.std.proofs.lemmas.Option.{same_Some}
use Rattle.ivy_model.specs.declared.config.Config.{Config}
use Rattle.ivy_model.specs.declared.call.Call.TheVariants.{Store}
use Rattle.ivy_model.specs.declared.call.Record.{Record}
use Rattle.ivy_model.specs.declared.call.Reply.TheVariants.{Done}
use Rattle.ivy_model.specs.stated.Legal.{ServesAll}
use Rattle.ivy_model.specs.stated.Memory.{Memory, first}
use Rattle.ivy_model.specs.stated.Serves.{Serves, access_refusal}
use Rattle.ivy_model.proofs.Sizes.{by_option}
use Rattle.ivy_calls.specs.declared.answer.Answer.{Answer}
use Rattle.ivy_calls.specs.Answers.{by, answers_of}
use Rattle.ivy_calls.specs.Shared.{AreShared}
use Rattle.ivy_calls.proofs.Answers.{answers_of-append, answers_of-nobody}
use Rattle.ivy_sync.specs.excluding.Locks.{held_after, holds, KeepsLock}
use Rattle.ivy_sync.specs.meeting.Barriers.{CrossesAt, least_of}
use Rattle.ivy_sync.specs.meeting.Broadcasts.{GetsOnce, GivesOnce}
use Rattle.ivy_sync.specs.meeting.Phases.{IsSetUp, SetsUp}
use Rattle.ivy_sync.specs.Doing.{AsksInVain, allots, arrives, asks, clears, loads, passes, stores}
use Rattle.ivy_sync.specs.HeapWords.{word, IsHeapWord, IsWhole, NoWrite, is_write_in, last, LeadsThrough}
use Rattle.ivy_sync.proofs.answers.Cuts.{nodes_there, part_cut, leads_cut}
use Rattle.ivy_sync.proofs.answers.First.{first_count, first_run}
use Rattle.ivy_sync.proofs.answers.HeapWords.{whole_quiet}
use Rattle.ivy_sync.proofs.answers.Lists.{All-append, All-both, two_cuts}
use Rattle.ivy_sync.proofs.excluding.Locked.{after_leaving, after_other, after_taking, by_refusals, in_other}
use Rattle.ivy_sync.proofs.excluding.Locked.{in_own, locked_keeps, refusals_hold}
use Rattle.ivy_sync.proofs.excluding.Locks.{holds-append, left_locks-are_free, may_quiet, mutual-exclusion}
use Rattle.ivy_sync.proofs.meeting.Broadcasts.{broadcasts-arrive}
use Rattle.ivy_sync.proofs.meeting.Phases.{set_up-is_there}
use Rattle.example_programs.specs.MadeLock.{HasHeld, IsTellingPlace, MadeLocksExclude}
use Rattle.example_programs.specs.declared.made_lock.MadeLock.{MadeLock}
use Rattle.example_programs.proofs.Summing.{item_at}

-- where a store was carried out lies a word of the heap
stored_there : (c : Config) (old new : Memory) (a value : ℕ) → Serves c old (Store 8 a value) Done new
    → IsHeapWord c a
stored_there c old new a value served =
    by_option (access_refusal c 8 a) served (λ e _. e) (λ code _ refused. absurd (cc (refused.0)))

-- what a node does after it knows where the lock lies
abbrev takes_once : ℕ → List Answer → List Answer
takes_once a refusals = refusals ++ asks a 0 ∷ stores a 0 ∷ []

-- the history of node 0, and of another node
abbrev giving : ℕ → ℕ → ℕ → ℕ → ℕ → List Answer → List Answer
giving a d k least found refusals =
    ((clears a ++ stores d a ∷ []) ++ arrives k ∷ []) ++ (passes k least found ∷ takes_once a refusals)

abbrev getting : ℕ → ℕ → ℕ → ℕ → ℕ → List Answer → List Answer
getting a d k least found refusals =
    arrives k ∷ passes k least found ∷ loads d a ∷ takes_once a refusals

takes_keep : (a : ℕ) (refusals : List Answer) → Each (AsksInVain a) refusals
    → KeepsLock a false (takes_once a refusals)
takes_keep a refusals each = locked_keeps a refusals each [] [] tt tt

takes_leave : (a : ℕ) (refusals : List Answer) → Each (AsksInVain a) refusals
    → holds a false (takes_once a refusals) ≡ false
takes_leave a refusals each =
    holds-append a false refusals (asks a 0 ∷ stores a 0 ∷ [])
    ∙ ap (λ h. holds a h (asks a 0 ∷ stores a 0 ∷ [])) (refusals_hold a refusals each)
    ∙ ap (λ h. holds a h (stores a 0 ∷ [])) (after_taking a) ∙ after_leaving a 0 true

takes_apart : (a d : ℕ) (refusals : List Answer) → (a / 8 ≢ d / 8) → Each (AsksInVain a) refusals
    → NoWrite d (takes_once a refusals)
takes_apart a d refusals apart each =
    let P : Answer → Type 0 = λ r. is_write_in d r.call ≡ false in
    let out = in_other d a apart in
    All-both P refusals (asks a 0 ∷ stores a 0 ∷ []) (by_refusals a P (λ _. out) refusals each)
    (out, (out, tt))

-- answers after none of which a node holds the lock that did not hold it before
abbrev NeverHolds : ℕ → List Answer → Type 0
NeverHolds a rs = Each (λ (r : Answer). held_after a false r ≡ false) rs

never_holds : (a : ℕ) (rs : List Answer) → NeverHolds a rs → holds a false rs ≡ false
never_holds a [] h = refl
never_holds a (r ∷ rs) h = ap (λ x. holds a x rs) h.0 ∙ never_holds a rs h.1

-- a node's history, about the barrier behind which all know where the lock lies
record HasParts (a d k least i : ℕ) (history : List Answer) : Type 0 where
  before : List Answer
  refusals : List Answer
  after : List Answer
  crosses : CrossesAt k least before after history
  keeps : KeepsLock a false after
  leaves : holds a false after ≡ false
  never : NeverHolds a (before ++ arrives k ∷ [])
  others : i ≢ 0 → before ≡ []
  made : i ≡ 0 → before ≡ clears a ++ stores d a ∷ []

module _ (a d k least found : ℕ) (refusals : List Answer) (each : Each (AsksInVain a) refusals)
    (apart : a / 8 ≢ d / 8) where
  abbrev gave : List Answer
  gave = giving a d k least found refusals

  abbrev got : List Answer
  got = getting a d k least found refusals

  gives_once : (history : List Answer) → history ≡ gave → a < 2 ^ 64 → GivesOnce d k least a history
  gives_once history whole fits = record {
    before = clears a;
    after = takes_once a refusals;
    found = found;
    whole = whole;
    fits = fits;
    alone = (refl, (refl, tt));
    unwritten = (refl, (in_other d a apart, tt));
    left = takes_apart a d refusals apart each;
  }

  gets_once : (history : List Answer) → history ≡ got → GetsOnce d k least a history
  gets_once history whole = record {
    before = [];
    after = takes_once a refusals;
    found = found;
    whole = whole;
    alone = tt;
    unwritten = tt;
    left = takes_apart a d refusals apart each;
  }

  maker : (i : ℕ) (history : List Answer) → i ≡ 0 → history ≡ gave
      → HasParts a d k least i history
  maker i history is whole = record {
    before = clears a ++ stores d a ∷ [];
    refusals = refusals;
    after = takes_once a refusals;
    crosses = record { found = found; whole = whole; alone = (refl, (refl, (refl, tt))) };
    keeps = takes_keep a refusals each;
    leaves = takes_leave a refusals each;
    never = (
      refl,
      (after_leaving a 0 false, (after_other a d a false (λ e. apart (sym e)), (refl, tt))),
    );
    others = λ ne. absurd (ne is);
    made = λ _. refl;
  }

  other : (i : ℕ) (history : List Answer) → i ≢ 0 → history ≡ got → HasParts a d k least i history
  other i history ne whole = record {
    before = [];
    refusals = refusals;
    after = loads d a ∷ takes_once a refusals;
    crosses = record { found = found; whole = whole; alone = tt };
    keeps = (may_quiet a false (loads d a).call refl, takes_keep a refusals each);
    leaves = takes_leave a refusals each;
    never = (refl, tt);
    others = λ _. refl;
    made = λ is. absurd (ne is);
  }

module _ (c : Config) (work : MadeLock) (order : List Record) (outs : List ℕ)
    (place : IsTellingPlace c work) (shared : AreShared c (HasHeld work) order outs) (end : Memory)
    (led : ServesAll c (first c) order end) where
  abbrev out_of : ℕ → ℕ
  out_of i = slice_index_or outs i 0

  abbrev a : ℕ
  a = out_of 0

  abbrev d : ℕ
  d = work.told.addr

  abbrev k : ℕ
  k = work.told.barrier.count

  run : LeadsThrough c (first c) order end
  run = first_run c order end shared.config led

  some : 0 < c.nodes
  some = let from = shared.config.nodes_from in omega (arith, from)

  held : (i : ℕ) → i < c.nodes → HasHeld work i (answers_of i order) (out_of i)
  held i l =
      let all = shared.all in
      shared.each i (out_of i) (item_at outs i 0 (omega (arith, l, all)))

  least : least_of work.told.barrier ≡ 0 + c.nodes
  least = ap₂ (λ (x : ℕ) (y : ℕ). x + y) place.first place.nodes

  -- what a node was answered, about the address that it gives
  record Played (i addr : ℕ) (history : List Answer) : Type 0 where
    found : ℕ
    refusals : List Answer
    each : Each (AsksInVain addr) refusals
    gave : i ≡ 0 → history ≡ giving addr d k (0 + c.nodes) found refusals
    got : i ≢ 0 → history ≡ getting addr d k (0 + c.nodes) found refusals

  played : (i : ℕ) (l : i < c.nodes) → Played i (out_of i) (answers_of i order)
  played i l =
      let w = held i l in
      let addr : ℕ = out_of i in
      let rest : List Answer = w.locks.refusals ++ asks addr 0 ∷ [] in
      let whole : answers_of i order ≡ (w.start ++ rest) ++ stores addr 0 ∷ [] =
      w.whole ∙ ap (λ (l : List Answer). l ++ stores addr 0 ∷ []) w.locks.whole in
      let tail : rest ++ stores addr 0 ∷ [] ≡ takes_once addr w.locks.refusals =
      append_assoc w.locks.refusals (asks addr 0 ∷ []) (stores addr 0 ∷ []) in
      elim (cases_eq i 0) [
        | inl is ↦
            let g = w.met.tells is in
            record {
              found = g.found;
              refusals = w.locks.refusals;
              each = w.locks.each;
              gave = λ _.
                  whole ∙ ap (λ (l : List Answer). (l ++ rest) ++ stores addr 0 ∷ []) g.whole
                  ∙ ap (λ (l : List Answer). ((clears addr ++ stores d addr ∷ []) ++ arrives k ∷ [])
                  ++ (passes k (least_of work.told.barrier) g.found ∷ l)) tail
                  ∙ ap (λ n. giving addr d k n g.found w.locks.refusals) least;
              got = λ ne. absurd (ne is);
            }
        | inr ne ↦
            let g = w.met.told ne in
            record {
              found = g.crosses.found;
              refusals = w.locks.refusals;
              each = w.locks.each;
              gave = λ is. absurd (ne is);
              got = λ _.
                  whole ∙ ap (λ (l : List Answer). (l ++ rest) ++ stores addr 0 ∷ []) g.whole
                  ∙ ap (λ (l : List Answer). ((l ++ loads d addr ∷ []) ++ rest) ++ stores addr 0 ∷ [])
                  g.crosses.whole
                  ∙ ap (λ (l : List Answer). arrives k ∷ passes k (least_of work.told.barrier)
                  g.crosses.found ∷ loads d addr ∷ l) tail
                  ∙ ap (λ n. getting addr d k n g.crosses.found w.locks.refusals) least;
            }
      ]

  giver : GivesOnce d k (0 + c.nodes) a (answers_of 0 order)
  giver =
      let w = played 0 some in
      gives_once a d k (0 + c.nodes) w.found w.refusals w.each (held 0 some).apart
      (answers_of 0 order) (w.gave refl) (held 0 some).fits

  -- all give the address that node 0 gives
  same : (i : ℕ) → i < c.nodes → out_of i ≡ a
  same i l =
      elim (cases_eq i 0) [
        | inl is ↦ ap out_of is
        | inr ne ↦
            broadcasts-arrive c (first c) end order d k 0 0 a out_of run
            (first_count c k place.count) place.word some giver
            (λ j m other.
            let w = played j m in
            gets_once (out_of j) d k (0 + c.nodes) w.found w.refusals w.each (held j m).apart
            (answers_of j order) (w.got other)) i l ne
      ]

  apart : a / 8 ≢ d / 8
  apart = (held 0 some).apart

  parts_of : (i : ℕ) (l : i < c.nodes) → Played i a (answers_of i order)
      → HasParts a d k (0 + c.nodes) i (answers_of i order)
  parts_of i l w =
      elim (cases_eq i 0) [
        | inl is ↦
            maker a d k (0 + c.nodes) w.found w.refusals w.each apart i (answers_of i order) is
            (w.gave is)
        | inr ne ↦
            other a d k (0 + c.nodes) w.found w.refusals w.each apart i (answers_of i order) ne
            (w.got ne)
      ]

  parts : (i : ℕ) (l : i < c.nodes) → HasParts a d k (0 + c.nodes) i (answers_of i order)
  parts i l =
      parts_of i l (subst (λ addr. Played i addr (answers_of i order)) (same i l) (played i l))

  abbrev before : (i : ℕ) → i < c.nodes → List Answer
  before i l = (parts i l).before

  abbrev after : (i : ℕ) → i < c.nodes → List Answer
  after i l = (parts i l).after

  set_up : IsSetUp c (first c) order end k (0 + c.nodes) before after
  set_up =
      set_up-is_there c (first c) end order k 0 before after run (first_count c k place.count)
      (λ j m. (parts j m).crosses)

  -- the lock is a word of the heap, since node 0 cleared it
  lock_place : IsHeapWord c a
  lock_place =
      let w = played 0 some in
      let at = part_cut 0 order (allots 8 a ∷ []) (stores a 0)
      (stores d a ∷ arrives k ∷ passes k (0 + c.nodes) w.found ∷ takes_once a w.refusals) (w.gave refl) in
      let to = leads_cut c (first c) end at.front (by 0 (stores a 0) ∷ at.back)
      (subst (λ rs. ServesAll c (first c) rs end) at.whole led) in
      stored_there c to.0 to.2.0 a 0 to.2.1.served

  sets : SetsUp c before a 0 some
  sets = record {
    place = lock_place;
    whole = subst (Each (λ (r : Answer). IsWhole a r.call)) (sym ((parts 0 some).made refl)) (
      whole_quiet a (allots 8 a).call refl,
      (λ _. (refl, refl), (whole_quiet a (stores d a).call (in_other a d (λ e. apart (sym e))), tt)),
    );
    alone = λ j m ne. subst (NoWrite a) (sym ((parts j m).others ne)) tt;
  }

  -- so it is free where the order is cut
  free_there : word c set_up.cut.mid a ≡ 0
  free_there =
      set_up.words a 0 some sets
      ∙ ap (last a (word c (first c) a)) ((parts 0 some).made refl)
      ∙ ap (λ b. if b then a % 2 ^ 64 else last a (word c (first c) a) (clears a))
      (in_other a d (λ e. apart (sym e)))
      ∙ ap (λ b. if b then 0 else word c (first c) a) (in_own a)

  rest_keeps : (i : ℕ) → i < c.nodes → KeepsLock a false (answers_of i set_up.cut.rest)
  rest_keeps i l =
      let w = set_up.cut.rests i l in
      subst (KeepsLock a false) (sym w.1)
      (may_quiet a false (passes k (0 + c.nodes) w.0).call refl, (parts i l).keeps)

  rest_leaves : (i : ℕ) → i < c.nodes → holds a false (answers_of i set_up.cut.rest) ≡ false
  rest_leaves i l =
      ap (holds a false) (set_up.cut.rests i l).1 ∙ (parts i l).leaves

  pub free : word c end a ≡ 0
  free =
      left_locks-are_free c set_up.cut.mid end set_up.cut.rest a set_up.leads lock_place free_there
      rest_keeps rest_leaves

  -- before the cut nobody holds it
  first_never : (i : ℕ) (xs ys : List Record) → set_up.cut.first ≡ xs ++ ys
      → holds a false (answers_of i xs) ≡ false
  first_never i xs ys e =
      elim (cases_lt i c.nodes) [
        | inl l ↦
            let whole : answers_of i xs ++ answers_of i ys ≡ before i l ++ arrives k ∷ [] =
            sym (answers_of-append i xs ys) ∙ ap (answers_of i) (sym e) ∙ set_up.cut.firsts i l in
            never_holds a (answers_of i xs)
            (All-append (λ (r : Answer). held_after a false r ≡ false) (answers_of i xs)
            (answers_of i ys)
            (subst (NeverHolds a) (sym whole) (parts i l).never)).0
        | inr past ↦
            ap (holds a false)
            (answers_of-nobody i c.nodes xs past
            (All-append (λ (r : Record). r.node < c.nodes) xs ys
            (subst (Each (λ (r : Record). r.node < c.nodes)) e
            (nodes_there c (first c) set_up.cut.mid set_up.cut.first set_up.cut.leads))).0)
      ]

  -- and behind it who holds it took it there
  later_holds : (i : ℕ) (xs : List Record) → holds a false (answers_of i (set_up.cut.first ++ xs))
      ≡ holds a false (answers_of i xs)
  later_holds i xs =
      ap (holds a false) (answers_of-append i set_up.cut.first xs)
      ∙ holds-append a false (answers_of i set_up.cut.first) (answers_of i xs)
      ∙ ap (λ h. holds a h (answers_of i xs))
      (first_never i set_up.cut.first [] (sym (append-nil set_up.cut.first)))

  pub one : (xs ys : List Record) → order ≡ xs ++ ys → (i j : ℕ)
      → IsTrue (holds a false (answers_of i xs)) → IsTrue (holds a false (answers_of j xs)) → i ≡ j
  one xs ys e i j p q =
      elim (two_cuts xs ys set_up.cut.first set_up.cut.rest (sym e ∙ set_up.cut.whole)) [
        | inl w ↦
            absurd (both_ways (holds a false (answers_of i xs)) (first_never i xs w.0 w.1) p)
        | inr w ↦
            let here : (m : ℕ) → holds a false (answers_of m xs) ≡ holds a false (answers_of m w.0) =
            λ m. ap (λ (rs : List Record). holds a false (answers_of m rs)) w.1 ∙ later_holds m w.0 in
            mutual-exclusion c set_up.cut.mid end w.0 ys a
            (subst (λ rs. LeadsThrough c set_up.cut.mid rs end) w.2 set_up.leads) lock_place free_there
            (λ m l. subst (λ rs. KeepsLock a false (answers_of m rs)) w.2 (rest_keeps m l)) i j
            (subst IsTrue (here i) p) (subst IsTrue (here j) q)
      ]

-- an item is the same whatever stands for one that is not there
any_default : (xs : List ℕ) (i d : ℕ) → i < length xs → slice_index_or xs i d ≡ slice_index_or xs i 0
any_default xs i d less =
    same_Some (slice_index_or xs i d) (slice_index_or xs i 0)
    (sym (item_at xs i d less) ∙ item_at xs i 0 less)

pub made_locks-exclude : MadeLocksExclude
made_locks-exclude c work order outs place shared = record {
  addr = slice_index_or outs 0 0;
  same = λ i d less.
      let all = shared.all in
      any_default outs i d less
      ∙ same c work order outs place shared shared.legal.0 shared.legal.1 i (omega (arith, less, all));
  one = one c work order outs place shared shared.legal.0 shared.legal.1;
  free = λ end led. free c work order outs place shared end led;
}
