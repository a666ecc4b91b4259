-- No two nodes are inside at once.
use Rattle.std.proofs.Common.{◌≡◌, ℕ, zero, suc, ◌-◌, ◌%◌, ◌^◌, ◌<◌, Bool, cond, false, inl, inr}
use Rattle.std.proofs.Common.{List, [], ◌∷◌, ◌++◌, refl, sym, ap, subst, ◌∙◌, arith}
use Rattle.std.proofs.Common.{mod-eq_of_lt, append_assoc}
use Rattle.std.specs.List.{AllByRecursion as Each}
use Rattle.std.proofs.lemmas.Bool.{cases_eq}
use Rattle.std.proofs.lemmas.Option.{slice_get_cases}
use Rattle.ivy_model.specs.declared.config.Config.{Config}
use Rattle.ivy_model.specs.declared.call.Call.TheVariants.{Store}
use Rattle.ivy_model.specs.declared.call.Record.{Record}
use Rattle.ivy_model.specs.declared.call.Reply.TheVariants.{Done, Value}
use Rattle.ivy_model.specs.stated.Memory.{Memory, first}
use Rattle.ivy_model.specs.stated.Legal.{ServesAll}
use Rattle.ivy_model.proofs.Sizes.{leads_sized, serves_sized}
use Rattle.ivy_calls.specs.declared.answer.Answer.{Answer}
use Rattle.ivy_calls.specs.Answers.{by, answers, answers_of}
use Rattle.ivy_calls.specs.Shared.{AreShared}
use Rattle.ivy_calls.proofs.Answers.{answers-append, answers_of-append}
use Rattle.ivy_sync.specs.Doing.{loads, stores}
use Rattle.ivy_sync.specs.excluding.Registers.{ReadsTheLast}
use Rattle.ivy_sync.specs.HeapWords.{word, IsHeapWord, is_write_in, LeadsThrough, NoWrite, Reads}
use Rattle.ivy_sync.proofs.answers.Cuts.{IsPartCut, all_from, all_parts, leads_cut, nodes_there, own_or, part_all, part_cut}
use Rattle.ivy_sync.proofs.answers.First.{first_run}
use Rattle.ivy_sync.proofs.answers.Lists.{All-append, All-both, one_more, two_cuts}
use Rattle.ivy_sync.proofs.excluding.Locked.{in_own, in_other}
use Rattle.ivy_sync.proofs.meeting.Phases.{no_write_whole}
use Rattle.ivy_sync.proofs.excluding.Registers.{reads_all, reads_same}
use Rattle.ivy_sync.proofs.answers.HeapWords.{word_step}
use Rattle.example_programs.specs.declared.peterson.TwoCount.{TwoCount}
use Rattle.example_programs.specs.Peterson.{wish_of, LetsIn, IsInside, HasCounted}
use Rattle.example_programs.specs.Peterson.{IsPetersonPlace, NoTwoInside}
use Rattle.example_programs.proofs.Keeping.{apart, asked_last, asked_last-push, Follows}
use Rattle.example_programs.proofs.Keeping.{follows_begin, follows_end, follows_quiet, last_quiet}
use Rattle.example_programs.proofs.Keeping.{tries_quiet, counted_follows, counted_other}

abbrev Quiet : ℕ → Answer → Type 0
Quiet a r = is_write_in a r.call ≡ false

-- where it reads the word at a, it is answered v
abbrev Finds : ℕ → ℕ → Answer → Type 0
Finds a v r = Reads a r.call → r.reply ≡ Value v

pub value_is : (x y : ℕ) → Value x ≡ Value y → x ≡ y
value_is x y e = cc

-- what was stored in a word that nobody writes after is read there
found_after : (c : Config) (old new : Memory) (front : List Record) (i a v : ℕ)
    (back : List Record) → LeadsThrough c old (front ++ by i (stores a v) ∷ back) new
    → IsHeapWord c a → v < 2 ^ 64 → NoWrite a (answers back) → Each (Finds a v) (answers back)
found_after c old new front i a v back run at few quiet =
    let w = leads_cut c old new front (by i (stores a v) ∷ back) run.led in
    let sized = leads_sized c old w.0 front run.config run.sized w.1 in
    let made = w.2.1 in
    let value : word c w.2.0 a ≡ v =
    word_step c w.0 w.2.0 a (Store 8 a v) Done run.config sized at made.width (λ _. (refl, refl))
    made.served
    ∙ ap (λ b. cond b (v % 2 ^ 64) (word c w.0 a)) (in_own a) ∙ mod-eq_of_lt few in
    let later = serves_sized c w.0 w.2.0 (Store 8 a v) Done run.config made.width sized made.served in
    reads_same a v (answers back) quiet
    (subst (λ u. ReadsTheLast a u (answers back)) value
    (reads_all c w.2.0 new back a
    (record { config = run.config; sized = later; led = w.2.2 }) at
    (no_write_whole a (answers back) quiet)))

-- what holds of all holds of those behind
behind : {A : Type 0} (P : A → Type 0) (xs : List A) (y : A) (ys : List A) → Each P (xs ++ y ∷ ys)
    → Each P ys
behind P xs y ys h = (All-append P xs (y ∷ ys) h).1.1

pub there_in : {A : Type 0} (P : A → Type 0) (xs : List A) (y : A) (ys : List A)
    → Each P (xs ++ y ∷ ys) → P y
there_in P xs y ys h = (All-append P xs (y ∷ ys) h).1.0

answers_behind : (P : Answer → Type 0) (xs : List Record) (y : Record) (ys : List Record)
    → Each P (answers (xs ++ y ∷ ys)) → Each P (answers ys)
answers_behind P xs y ys h =
    (All-append P (answers xs) (answers (y ∷ ys))
    (subst (Each P) (answers-append xs (y ∷ ys)) h)).1.1

part_behind : (P : Answer → Type 0) (i : ℕ) (xs : List Record) (y : Record) (ys : List Record)
    → Each P (answers_of i (xs ++ y ∷ ys)) → Each P (answers_of i ys)
part_behind P i xs y ys h =
    (All-append P (answers_of i (xs ++ y ∷ [])) (answers_of i ys)
    (subst (Each P)
    (ap (answers_of i) (one_more xs y ys) ∙ answers_of-append i (xs ++ y ∷ []) ys) h)).1

-- where a node is inside the order is cut at the stores of its wish and of the turn, with which it
-- entered
record HasEntered (work : TwoCount) (before : List Record) (i : ℕ) : Type 0 where
  front : List Record
  mid : List Record
  back : List Record
  whole : before
      ≡ front ++ by i (stores (wish_of work.lock i) 1)
      ∷ (mid ++ by i (stores work.lock.turn (1 - i)) ∷ back)
  wish : NoWrite (wish_of work.lock i)
      (answers (mid ++ by i (stores work.lock.turn (1 - i)) ∷ back))
  turn : NoWrite work.lock.turn (answers_of i back)
  last : Answer
  lets_in : LetsIn work.lock i last
  tries : List Answer
  since : List Answer
  tried : answers_of i back ≡ (tries ++ last ∷ []) ++ since

-- what holds of all its answers since then holds of the last try
of_last : (P : Answer → Type 0) (work : TwoCount) (before : List Record) (i : ℕ)
    (e : HasEntered work before i) → Each P (answers e.back) → P e.last
of_last P work before i e all =
    there_in P e.tries e.last []
    (All-append P (e.tries ++ e.last ∷ []) e.since
    (subst (Each P) e.tried (part_all P i e.back all))).0

module _ (c : Config) (work : TwoCount) (order : List Record) (outs : List ℕ)
    (place : IsPetersonPlace c work) (shared : AreShared c (HasCounted work) order outs)
    (before after : List Record) (cut : order ≡ before ++ after) where
  abbrev wish_at : ℕ → ℕ
  wish_at i = wish_of work.lock i

  abbrev turn : ℕ
  turn = work.lock.turn

  led : (mid : Memory) × ServesAll c (first c) before mid × ServesAll c mid after shared.legal.0
  led =
      leads_cut c (first c) shared.legal.0 before after
      (subst (λ rs. ServesAll c (first c) rs shared.legal.0) cut shared.legal.1)

  run : LeadsThrough c (first c) before led.0
  run = first_run c before led.0 shared.config led.1

  nodes : Each (λ (r : Record). r.node < c.nodes) before
  nodes = nodes_there c (first c) led.0 before led.1

  counted : (i : ℕ) → i < c.nodes → (out : ℕ) × HasCounted work i (answers_of i order) out
  counted i less =
      let all = shared.all in
      elim ((slice_get_cases outs i).1) [
        | inl there ↦ (there.0, shared.each i there.0 there.2)
        | inr past ↦ let long = past.0 in absurd (omega (arith, long, all, less))
      ]

  either : (i : ℕ) → i < c.nodes → i < 2
  either i less = (counted i less).1.either

  split : (i : ℕ) → answers_of i order ≡ answers_of i before ++ answers_of i after
  split i = ap (answers_of i) cut ∙ answers_of-append i before after

  -- what the node writes, up to the cut
  follows : (i : ℕ) → i < c.nodes → Follows (wish_at i) turn false (answers_of i before)
  follows i less =
      let d = counted i less in
      follows_begin (wish_at i) turn false (answers_of i before) (answers_of i after)
      (subst (Follows (wish_at i) turn false) (split i)
      (counted_follows work i (apart c work i place d.1.either) (answers_of i order) d.0 d.1))

  other_quiet : (i j : ℕ) → i < c.nodes → j < c.nodes → (j ≡ i → ⊥)
      → NoWrite (wish_at i) (answers_of j before)
  other_quiet i j one two ne =
      let d = counted j two in
      let i_few = either i one in
      let j_few = either j two in
      let other : 1 - j ≡ i = omega (arith, i_few, j_few, ne) in
      subst (λ x. NoWrite (wish_at x) (answers_of j before)) other
      (All-append (Quiet (wish_at (1 - j))) (answers_of j before) (answers_of j after)
      (subst (NoWrite (wish_at (1 - j))) (split j)
      (counted_other work j (apart c work j place d.1.either) (answers_of j order) d.0 d.1))).0

  -- after the stores the node tried until it was let in
  module _ (i : ℕ) (inside : IsInside work.lock i (answers_of i before)) where
    abbrev rest : List Answer
    rest = (inside.entered.tries ++ inside.entered.last ∷ []) ++ inside.since

    history : answers_of i before
        ≡ inside.earlier ++ stores (wish_at i) 1 ∷ (stores turn (1 - i) ∷ rest)
    history =
        inside.whole ∙ ap (λ (l : List Answer). inside.earlier ++ (l ++ inside.since))
        inside.entered.whole

    wished : IsPartCut i before inside.earlier (stores (wish_at i) 1) (stores turn (1 - i) ∷ rest)
    wished =
        part_cut i before inside.earlier (stores (wish_at i) 1) (stores turn (1 - i) ∷ rest) history

    turned : IsPartCut i wished.back [] (stores turn (1 - i)) rest
    turned = part_cut i wished.back [] (stores turn (1 - i)) rest wished.backs

    is_node : i < c.nodes
    is_node =
        there_in (λ (r : Record). r.node < c.nodes) wished.front (by i (stores (wish_at i) 1))
        wished.back
        (subst (Each (λ (r : Record). r.node < c.nodes)) wished.whole nodes)

    abbrev asked : Bool
    asked = asked_last (wish_at i) false inside.earlier

    since_quiet : NoWrite turn inside.since
    since_quiet =
        follows_quiet (wish_at i) turn inside.since
        (subst (λ b. Follows (wish_at i) turn b inside.since)
        (ap (asked_last (wish_at i) asked) inside.entered.whole
        ∙ asked_last-push (wish_at i) asked
        (stores (wish_at i) 1 ∷ stores turn (1 - i) ∷ inside.entered.tries) inside.entered.last
        ∙ last_quiet (wish_at i) work.lock i inside.entered.last inside.entered.lets_in)
        (follows_end (wish_at i) turn asked inside.entry inside.since
        (follows_end (wish_at i) turn false inside.earlier (inside.entry ++ inside.since)
        (subst (Follows (wish_at i) turn false) inside.whole (follows i is_node)))))
        inside.stays

    rest_quiet : (a : ℕ) → NoWrite a inside.since → NoWrite a rest
    rest_quiet a quiet =
        All-both (Quiet a) (inside.entered.tries ++ inside.entered.last ∷ []) inside.since
        (tries_quiet a work.lock i inside.entry inside.entered) quiet

    wish_quiet : NoWrite (wish_at i) (answers wished.back)
    wish_quiet =
        all_from (Quiet (wish_at i)) i wished.back
        (own_or (Quiet (wish_at i)) i c.nodes wished.back
        (behind (λ (r : Record). r.node < c.nodes) wished.front (by i (stores (wish_at i) 1))
        wished.back (subst (Each (λ (r : Record). r.node < c.nodes)) wished.whole nodes))
        (λ j less ne. part_behind (Quiet (wish_at i)) j wished.front (by i (stores (wish_at i) 1))
        wished.back
        (subst (λ rs. NoWrite (wish_at i) (answers_of j rs)) wished.whole
        (other_quiet i j is_node less ne))))
        (subst (NoWrite (wish_at i)) (sym wished.backs) (
          in_other (wish_at i) turn (apart c work i place (either i is_node)).turn_own,
          rest_quiet (wish_at i) inside.stays,
        ))

    has_entered : HasEntered work before i
    has_entered = record {
      front = wished.front;
      mid = turned.front;
      back = turned.back;
      whole =
          wished.whole
          ∙ ap (λ rs. wished.front ++ by i (stores (wish_at i) 1) ∷ rs) turned.whole;
      wish = subst (λ rs. NoWrite (wish_at i) (answers rs)) turned.whole wish_quiet;
      turn = subst (NoWrite turn) (sym turned.backs) (rest_quiet turn since_quiet);
      last = inside.entered.last;
      lets_in = inside.entered.lets_in;
      tries = inside.entered.tries;
      since = inside.since;
      tried = turned.backs;
    }

  wish_word : (i : ℕ) → i < 2 → IsHeapWord c (wish_at i)
  wish_word zero few = place.wish_0
  wish_word (suc zero) few = place.wish_1
  wish_word (suc (suc n)) few = absurd (omega (arith, few))

  -- the order up to the store of the turn
  abbrev cut_at : (i : ℕ) → HasEntered work before i → List Record
  cut_at i e = e.front ++ by i (stores (wish_at i) 1) ∷ e.mid

  at_turn : (i : ℕ) (e : HasEntered work before i)
      → before ≡ cut_at i e ++ by i (stores turn (1 - i)) ∷ e.back
  at_turn i e =
      e.whole
      ∙ sym (append_assoc e.front (by i (stores (wish_at i) 1) ∷ e.mid)
      (by i (stores turn (1 - i)) ∷ e.back))

  -- who gave the turn away last was not let in
  module _ (i j : ℕ) (i_node : i < c.nodes) (j_node : j < c.nodes) (ne : i ≡ j → ⊥)
      (one : HasEntered work before i) (two : HasEntered work before j) (between : List Record)
      (later : one.back ≡ between ++ by j (stores turn (1 - j)) ∷ two.back) where
    wish_found : Each (Finds (wish_at i) 1) (answers two.back)
    wish_found =
        answers_behind (Finds (wish_at i) 1) between (by j (stores turn (1 - j))) two.back
        (subst (λ rs. Each (Finds (wish_at i) 1) (answers rs)) later
        (answers_behind (Finds (wish_at i) 1) one.mid (by i (stores turn (1 - i))) one.back
        (found_after c (first c) led.0 one.front i (wish_at i) 1
        (one.mid ++ by i (stores turn (1 - i)) ∷ one.back)
        (subst (λ rs. LeadsThrough c (first c) rs led.0) one.whole run)
        (wish_word i (either i i_node)) (omega arith) one.wish)))

    part_quiet : (k : ℕ) → k < c.nodes → NoWrite turn (answers_of k two.back)
    part_quiet k less =
        elim (cases_eq k j) [
          | inl same ↦ subst (λ x. NoWrite turn (answers_of x two.back)) (sym same) two.turn
          | inr other ↦
              let few = either k less in
              let i_few = either i i_node in
              let j_few = either j j_node in
              let same : i ≡ k = omega (arith, few, i_few, j_few, other, ne) in
              subst (λ x. NoWrite turn (answers_of x two.back)) same
              (part_behind (Quiet turn) i between (by j (stores turn (1 - j))) two.back
              (subst (λ rs. NoWrite turn (answers_of i rs)) later one.turn))
        ]

    turn_found : Each (Finds turn (1 - j)) (answers two.back)
    turn_found =
        found_after c (first c) led.0 (cut_at j two) j turn (1 - j) two.back
        (subst (λ rs. LeadsThrough c (first c) rs led.0) (at_turn j two) run) place.turn (omega arith)
        (all_parts (Quiet turn) c.nodes two.back
        (behind (λ (r : Record). r.node < c.nodes) (cut_at j two) (by j (stores turn (1 - j)))
        two.back (subst (Each (λ (r : Record). r.node < c.nodes)) (at_turn j two) nodes))
        part_quiet)

    not_let_in : LetsIn work.lock j two.last → ⊥
    not_let_in (inl e) =
        let i_few = either i i_node in
        let j_few = either j j_node in
        let other : 1 - j ≡ i = omega (arith, i_few, j_few, ne) in
        let found : Finds (wish_at i) 1 (loads (wish_at (1 - j)) 0) =
        subst (Finds (wish_at i) 1) e (of_last (Finds (wish_at i) 1) work before j two wish_found) in
        let number = value_is 0 1 (found (refl, ap (λ x. wish_at x) other, refl)) in
        omega (arith, number)
    not_let_in (inr e) =
        let found : Finds turn (1 - j) (loads turn j) =
        subst (Finds turn (1 - j)) e (of_last (Finds turn (1 - j)) work before j two turn_found) in
        let number = value_is j (1 - j) (found (refl, refl, refl)) in
        omega (arith, number)

    never : ⊥
    never = not_let_in two.lets_in

  -- of two stores of the turn one is the later
  later_one : (i j : ℕ) → i < c.nodes → j < c.nodes → (i ≡ j → ⊥) → (one : HasEntered work before i)
      (two : HasEntered work before j) (ds : List Record)
      → by i (stores turn (1 - i)) ∷ one.back ≡ ds ++ by j (stores turn (1 - j)) ∷ two.back → ⊥
  later_one i j i_node j_node ne one two [] e =
      let head : by i (stores turn (1 - i)) ≡ by j (stores turn (1 - j)) = cc in
      ne (ap (λ (r : Record). r.node) head)
  later_one i j i_node j_node ne one two (d ∷ ds) e =
      never i j i_node j_node ne one two ds (cc)

  apart_nodes : (i j : ℕ) → IsInside work.lock i (answers_of i before)
      → IsInside work.lock j (answers_of j before) → (i ≡ j → ⊥) → ⊥
  apart_nodes i j inside also ne =
      let one = has_entered i inside in
      let two = has_entered j also in
      let i_node = is_node i inside in
      let j_node = is_node j also in
      elim (two_cuts (cut_at i one) (by i (stores turn (1 - i)) ∷ one.back) (cut_at j two)
      (by j (stores turn (1 - j)) ∷ two.back) (sym (at_turn i one) ∙ at_turn j two)) [
        | inl w ↦ later_one i j i_node j_node ne one two w.0 w.2
        | inr w ↦ later_one j i j_node i_node (λ e. ne (sym e)) two one w.0 w.2
      ]

  alone : (i j : ℕ) → IsInside work.lock i (answers_of i before)
      → IsInside work.lock j (answers_of j before) → i ≡ j
  alone i j inside also =
      elim (cases_eq i j) [
        | inl same ↦ same
        | inr ne ↦ absurd (apart_nodes i j inside also ne)
      ]

pub no-two_inside : NoTwoInside
no-two_inside c work order outs place shared before after cut i j inside also =
    alone c work order outs place shared before after cut i j inside also
