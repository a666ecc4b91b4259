-- What comes out of a pipeline is the map of what went in.
use Rattle.std.proofs.Common.{◌≡◌, ℕ, ◌+◌, ◌^◌, ◌<◌, ◌≤◌, inl, inr, List, [], ◌∷◌, ◌++◌, map}
use Rattle.std.proofs.Common.{length, Some}
use Rattle.std.proofs.Common.{refl, sym, ap, subst, ◌∙◌, append-nil, arith}
use Rattle.std.proofs.Common.{length-append}
use Rattle.std.specs.Prelude.{slice_get}
use Rattle.std.specs.List.{slice_index_or}
use Rattle.std.specs.Global.{Vec}
use Rattle.std.proofs.lemmas.Bool.{cases_eq, cases_order}
use Rattle.std.proofs.lemmas.List.{length-map, map-append}
use Rattle.ivy_model.specs.declared.config.Config.{Config}
use Rattle.ivy_model.specs.declared.call.Record.{Record}
use Rattle.ivy_model.specs.stated.Memory.{first}
use Rattle.ivy_calls.specs.declared.answer.Answer.{Answer}
use Rattle.ivy_calls.specs.Answers.{answers_of}
use Rattle.ivy_calls.specs.Shared.{AreShared}
use Rattle.ivy_sync.specs.declared.queue.Queue.{Queue}
use Rattle.ivy_sync.specs.queueing.Queues.{IsEmptyQueue, LeavesAlone, AreApart, SendsAll, TakesAll}
use Rattle.ivy_sync.specs.queueing.Queues.{AddsSend, AddsTake, sends_value, takes_value}
use Rattle.ivy_sync.specs.HeapWords.{LeadsThrough}
use Rattle.ivy_sync.proofs.answers.First.{first_run}
use Rattle.ivy_sync.proofs.queueing.Pushing.{alone_both, sends_push, takes_push, sends_more}
use Rattle.ivy_sync.proofs.queueing.Pushing.{takes_more, sends_leave, takes_leave, sends_leave_first}
use Rattle.ivy_sync.proofs.queueing.Pushing.{takes_leave_first}
use Rattle.ivy_sync.proofs.queueing.Queues.{queues-keep_order}
use Rattle.example_programs.specs.Pipeline.{Feeds, Relays, CollectsAll, HasPiped, PipelinesMap}
use Rattle.example_programs.proofs.Summing.{item_at}

-- what is taken as often as was sent is all of it
pub nothing_more : (vs ws rest : List ℕ) → vs ≡ ws ++ rest → length ws ≡ length vs → vs ≡ ws
nothing_more vs ws [] e long = e ∙ append-nil ws
nothing_more vs ws (x ∷ rest) e long =
    let k = length-append ws (x ∷ rest) in
    let same = ap length e in absurd (omega (arith, k, same, long))

module _ (c : Config) (f : ℕ → ℕ) (p q : Queue) (values : List ℕ) (order : List Record)
    (outs : List (Vec ℕ)) (out : Vec ℕ) (three : 3 ≤ c.nodes) (first_empty : IsEmptyQueue c
    (first c) p)
    (second_empty : IsEmptyQueue c (first c) q)
    (shared : AreShared c (λ me history (o : Vec ℕ). HasPiped f p q values me history o.items) order
    outs)
    (given : slice_get outs 2 ≡ Some out) where
  run : LeadsThrough c (first c) order shared.legal.0
  run = first_run c order shared.legal.0 shared.config shared.legal.1

  piped : (i : ℕ) → i < c.nodes
      → HasPiped f p q values i (answers_of i order) (slice_index_or outs i out).items
  piped i l =
      let all = shared.all in
      shared.each i (slice_index_or outs i out) (item_at outs i out (omega (arith, l, all)))

  feeds : Feeds p q values (answers_of 0 order)
  feeds = (piped 0 (omega (arith, three))).feeds refl

  relays : Relays f p q values (answers_of 1 order)
  relays = (piped 1 (omega (arith, three))).relays refl

  collects : CollectsAll p q values (answers_of 2 order) out.items
  collects = (shared.each 2 out given).collects refl

  past : (m : ℕ) → (m ≡ 0 → ⊥) → (m ≡ 1 → ⊥) → (m ≡ 2 → ⊥) → 2 < m
  past m a b d =
      elim (cases_order m 2) [
        | inl same ↦ absurd (d same)
        | inr other ↦ elim other [
          | inl below ↦
              elim (cases_order m 1) [
                | inl one ↦ absurd (b one)
                | inr other' ↦ elim other' [
                  | inl none ↦ absurd (a (omega (arith, none)))
                  | inr above ↦ absurd (omega (arith, above, below))
                ]
              ]
          | inr above ↦ above
        ]
      ]

  first_alone : (m : ℕ) → m < c.nodes → (m ≡ 0 → ⊥) → (m ≡ 1 → ⊥) → LeavesAlone p
      (answers_of m order)
  first_alone m l a b =
      elim (cases_eq m 2) [
        | inl same ↦ subst (λ i. LeavesAlone p (answers_of i order)) (sym same) collects.alone
        | inr ne ↦ ((piped m l).others (past m a b ne)).0
      ]

  second_alone : (m : ℕ) → m < c.nodes → (m ≡ 1 → ⊥) → (m ≡ 2 → ⊥) → LeavesAlone q
      (answers_of m order)
  second_alone m l a b =
      elim (cases_eq m 0) [
        | inl same ↦ subst (λ i. LeavesAlone q (answers_of i order)) (sym same) feeds.alone
        | inr ne ↦ ((piped m l).others (past m ne a b)).1
      ]

  taken_all : values ≡ relays.taken
  taken_all =
      let w = queues-keep_order c (first c) shared.legal.0 order p 0 1 values relays.taken run
      first_empty
      feeds.sends relays.takes first_alone in
      nothing_more values relays.taken w.0 w.1 relays.all

  pub maps : out.items ≡ map f values
  maps =
      let w = queues-keep_order c (first c) shared.legal.0 order q 1 2
      (map f relays.taken) out.items run
      second_empty relays.sends collects.takes second_alone in
      let e = length-map relays.taken f in
      let all = collects.all in
      let all' = relays.all in
      sym (nothing_more (map f relays.taken) out.items w.0 w.1 (omega (arith, e, all, all')))
      ∙ ap (map f) (sym taken_all)

pub pipelines-map : PipelinesMap
pipelines-map c f p q values order outs out three first_empty second_empty shared given =
    maps c f p q values order outs out three first_empty second_empty shared given

-- one value more is fed
pub feeds_push : (p q : Queue) (values : List ℕ) (k v : ℕ) (old new : List Answer) → AreApart p q
    → 0 < p.size → Feeds p q values old → k ≡ length values → v < 2 ^ 64 → AddsSend p k v old new
    → Feeds p q (values ++ v ∷ []) new
feeds_push p q values k v old new apart some h e fits w = record {
  sends = sends_push p 0 k values v old new h.sends (omega (arith, e)) fits w;
  alone =
      subst (LeavesAlone q) (sym w.whole)
      (alone_both q old (sends_value p k v w.found) h.alone (sends_leave p q apart some k v
      w.found));
}

-- relayed
pub record IsRelayed (f : ℕ → ℕ) (p q : Queue) (n : ℕ) (history : List Answer) : Type 0 where
  pub taken : List ℕ
  pub all : length taken ≡ n
  pub takes : TakesAll p 0 taken history
  pub sends : SendsAll q 0 (map f taken) history

pub relays_push : (f : ℕ → ℕ) (p q : Queue) (n k k' v v' : ℕ) (old mid new : List Answer)
    → AreApart p q → 0 < p.size → IsRelayed f p q n old → k ≡ n → k' ≡ n → v' ≡ f v → v' < 2 ^ 64
    → AddsTake p k v old mid → AddsSend q k' v' mid new
    → IsRelayed f p q (n + 1) new
relays_push f p q n k k' v v' old mid new apart some h e e' is fits takes sends =
    let long = h.all in
    let first_place : k ≡ 0 + length h.taken = omega (arith, e, long) in
    let len = length-map h.taken f in
    let second_place : k' ≡ 0 + length (map f h.taken) = omega (arith, e', long, len) in
    let took = takes_push p 0 k h.taken v old mid h.takes first_place takes in
    let sent = sends_push q 0 k' (map f h.taken) v' mid new
    (subst (SendsAll q 0 (map f h.taken)) (sym takes.whole)
    (sends_more q 0 (map f h.taken) old (takes_value p k v takes.found) h.sends
    (takes_leave p q apart some k v takes.found))) second_place fits sends in
    record {
      taken = h.taken ++ v ∷ [];
      all = (let l = length-append h.taken (v ∷ []) in omega (arith, l, long));
      takes =
          subst (TakesAll p 0 (h.taken ++ v ∷ [])) (sym sends.whole)
          (takes_more p 0 (h.taken ++ v ∷ []) mid (sends_value q k' v' sends.found) took
          (sends_leave_first p q apart some k' v' sends.found));
      sends =
          subst (λ vs. SendsAll q 0 vs new)
          (ap (λ x. map f h.taken ++ x ∷ []) is ∙ sym (map-append f h.taken (v ∷ []))) sent;
    }

-- and collected
pub collects_push : (p q : Queue) (k v : ℕ) (out : List ℕ) (old new : List Answer) → AreApart p q
    → 0 < p.size → TakesAll q 0 out old → LeavesAlone p old → k ≡ length out
    → AddsTake q k v old new
    → TakesAll q 0 (out ++ v ∷ []) new × LeavesAlone p new
collects_push p q k v out old new apart some takes alone e w = (
  takes_push q 0 k out v old new takes (omega (arith, e)) w,
  subst (LeavesAlone p) (sym w.whole)
      (alone_both p old (takes_value q k v w.found) alone
      (takes_leave_first p q apart some k v w.found)),
)
