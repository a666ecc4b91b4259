-- A call of the heap that is in progress: its request comes to node 0, the answer comes back, and
-- the node's next turn records the reply. So it is under either manager.
use Rattle.std.proofs.Common.{◌≡◌, ◌≢◌, ◌⊎◌, ◌<◌, ◌≤◌, ◌+◌, ◌-◌, ℕ, zero, suc, Bool, true, false, not, List, [], ◌∷◌, ◌++◌, length, drop, slice_get, Some, if◌then◌else◌, refl, sym, ap, ◌∙◌, subst, inl, inr, arith, append-nil}
use Rattle.std.proofs.lemmas.Bool.{cases_eq}
use Rattle.std.proofs.lemmas.List.{length-append, drop-append-le, drop-drop, drop_all}
use Rattle.std.proofs.lemmas.List.Elements.{filter-append}
use Rattle.std.proofs.lemmas.Option.{same_Some, none-some}
use Rattle.ivy_model.specs.declared.Config.{Config}
use Rattle.ivy_model.specs.declared.Call.{Call}
use Rattle.ivy_model.specs.declared.Record.{Record}
use Rattle.ivy_model.specs.declared.Reply.{Reply}
use Rattle.ivy_model.specs.stated.Config.{IsConfig}
use Rattle.ivy_wire.specs.stated.Data.{Message}
use Rattle.ivy_wire.specs.stated.Posts.{parcel_to}
use Rattle.ivy_program.specs.stated.Programs.{Program}
use Rattle.ivy_link.specs.stated.Paired.{posted}
use Rattle.ivy_moves.specs.stated.Cores.{Outcome}
use Rattle.ivy_moves.specs.stated.Following.{fifo_of}
use Rattle.ivy_moves.specs.stated.FifoWorld.{FifoWorld, Delivers, Steps, rests, turns, delivers}
use Rattle.ivy_moves.specs.stated.Worlds.{World}
use Rattle.proof_answers.specs.answers.NodeRounds.{IsRound, AreRounds}
use Rattle.ivy_host.specs.stated.Hosts.{Host, host_rules, serving}
use Rattle.ivy_host.specs.stated.Managers.{Managed, managed_ops}
use Rattle.ivy_host.specs.declared.opening.Opening.{Opening}
use Rattle.ivy_host.specs.stated.Openings.{managed_start}
use Rattle.ivy_host.specs.stated.Sound.{IsSoundHost}
use Rattle.ivy_alloc.specs.declared.HeapRequest.{HeapRequest}
use Rattle.ivy_alloc.specs.declared.HeapRequest.TheVariants as heap_request
use Rattle.ivy_alloc.specs.declared.HeapCall.{HeapCall}
use Rattle.ivy_alloc.specs.stated.HeapCalls.{is_of_pages, told_of as heap_told_of, answer_to, reply_told}
use Rattle.ivy_memory.specs.declared.Asked.TheVariants as kinds
use Rattle.ivy_memory.specs.stated.Asking.{asked_of}
use Rattle.ivy_memory.specs.stated.Memories.{first_reply, reply_there}
use Rattle.proof_worlds.specs.stated.HeapRequests.{about_heap, heap_way, IsAtRest, IsHeapRequestAt, resting, asking, answered}
use Rattle.proof_worlds.specs.stated.FifoRuns.{IsReachedInOrder, FollowsInOrder}
use Rattle.ivy_host.proofs.Pages.{page_serving, serve-pages}
use Rattle.ivy_alloc.proofs.HeapSides.{answer_heap}
use Rattle.proof_worlds.proofs.refinement.HeapDeliveries.{HeapDelivery, serves, learns}
use Rattle.proof_worlds.proofs.refinement.HeapWays.{heap_there, heap_quiet, way_turned, way_other, way_page}
use Rattle.proof_worlds.proofs.refinement.LiftedWorlds.{IsSoundWorldBy, fits_heap}
use Rattle.proof_answers.proofs.fairness.Leading.{HasGrown as Grown, Records, told_of, grown_on, later_on, round_on, all_there, reply_records, rounds_record}
use Rattle.proof_answers.proofs.answers.Later.{IsLaterAt, served_asked, served_history, core_elsewhere, core_here}

-- where none of some messages is of the heap, none of the last of them is
tail_none : (b : Bool) (m : Message) (ms : List Message) → (if b then m ∷ ms else ms) ≡ []
    → ms ≡ []
tail_none true m ms is =
    absurd (none-some m (ap (λ (z : List Message). slice_get z 0) (sym is)))
tail_none false m ms is = is

none_after : (k : ℕ) (ms : List Message) → about_heap ms ≡ [] → about_heap (drop k ms) ≡ []
none_after zero ms is = is
none_after (suc k) [] is = refl
none_after (suc k) (m ∷ ms) is =
    none_after k ms (tail_none (not (is_of_pages m.content)) m (about_heap ms) is)

-- to a list of one, none were added
none_added : (m n : Message) (xs ys : List Message) → xs ≡ m ∷ [] → xs ++ ys ≡ n ∷ [] → ys ≡ []
none_added m n xs [] one two = refl
none_added m n xs (y ∷ ys) one two = absurd (
    let a : length (xs ++ y ∷ ys) ≡ length xs + length (y ∷ ys) = length-append xs (y ∷ ys) in
    let b = ap length one in
    let d = ap length two in
    omega (arith, a, b, d)
    )

not_empty : (m : Message) (xs ys : List Message) → xs ≡ m ∷ [] → xs ++ ys ≡ [] → ⊥
not_empty m xs ys one none =
    let a : length (xs ++ ys) ≡ length xs + length ys = length-append xs ys in
    let b = ap length one in
    let d = ap length none in
    omega (arith, a, b, d)

-- One message of the heap is under way from one node to another, and none was posted but among the
-- first so many.
record IsOnWay (limit a b : ℕ) (o : FifoWorld (Host Managed)) : Type 0 where
  message : Message
  way : heap_way o a b ≡ message ∷ []
  within : limit ≤ length (o.posted a b)
  last : about_heap (drop limit (o.posted a b)) ≡ []

-- it was posted before now
on_way : (a b : ℕ) (o : FifoWorld (Host Managed)) (m : Message) → heap_way o a b ≡ m ∷ []
    → IsOnWay (length (o.posted a b)) a b o
on_way a b o m way = record {
  message = m;
  way = way;
  within = omega arith;
  last = ap about_heap (drop_all (length (o.posted a b)) (o.posted a b) (omega arith));
}

-- so it is not where as many were delivered
arrives : (limit a b : ℕ) (o : FifoWorld (Host Managed)) → IsOnWay limit a b o
    → limit ≤ o.delivered a b → ⊥
arrives limit a b o is all =
    let past = o.delivered a b - limit in
    let sum : limit + past ≡ o.delivered a b = omega (arith, all) in
    let none : heap_way o a b ≡ [] =
    ap (λ k. about_heap (drop k (o.posted a b))) (sym sum)
    ∙ ap about_heap (sym (drop-drop past limit (o.posted a b)))
    ∙ none_after past (drop limit (o.posted a b)) is.last in
    none-some is.message (ap (λ (z : List Message). slice_get z 0) (sym none ∙ is.way))

-- a step takes none of the messages of the heap that are under way from one node to another
record TakesNone (a b : ℕ) (o o' : FifoWorld (Host Managed)) : Type 0 where
  more : List Message
  sent : o'.posted a b ≡ o.posted a b ++ more
  way : heap_way o' a b ≡ heap_way o a b ++ about_heap more

-- or delivers one
record TakesOne (a b : ℕ) (o o' : FifoWorld (Host Managed)) : Type 0 where
  source : ℕ
  dest : ℕ
  delivery : Delivers (host_rules managed_ops) o source dest o'
  from : a ≡ source
  to : b ≡ dest
  heap : is_of_pages delivery.message.content ≡ false

-- where it takes none, and there is one afterwards, it is on its way as before
still_on_way : (limit a b : ℕ) (o o' : FifoWorld (Host Managed)) → IsOnWay limit a b o
    → TakesNone a b o o' → (m : Message) → heap_way o' a b ≡ m ∷ [] → IsOnWay limit a b o'
still_on_way limit a b o o' is takes m way = record {
  message = m;
  way = way;
  within = (let low = is.within in
      let e : length (o'.posted a b) ≡ length (o.posted a b) + length takes.more =
      ap length takes.sent ∙ length-append (o.posted a b) takes.more in
      omega (arith, low, e));
  last = ap (λ l. about_heap (drop limit l)) takes.sent
      ∙ ap about_heap (drop-append-le limit (o.posted a b) takes.more is.within)
      ∙ filter-append (λ (x : Message). not (is_of_pages x.content)) (drop limit (o.posted a b))
      takes.more
      ∙ ap (λ l. l ++ about_heap takes.more) is.last
      ∙ none_added is.message m (heap_way o a b) (about_heap takes.more) is.way (sym takes.way ∙ way);
}

module _ {sends : Bool} (c : Config) (o o' : FifoWorld (Host Managed))
    (world : IsSoundWorldBy sends managed_ops c o) (a b : ℕ) where
  takes_by : (source x : ℕ) (t : Delivers (host_rules managed_ops) o source x o') (about : Bool)
      → is_of_pages t.message.content ≡ about → TakesNone a b o o' ⊎ TakesOne a b o o'
  takes_by source x t true about =
      let pages = serve-pages managed_ops t.core source t.message about in
      inl (record {
        more = posted a b (serving managed_ops t.core source t.message).posted;
        sent = ap (λ g. g a b) t.posted;
        way = way_page (host_rules managed_ops) o o' world.within source x t about pages a b
            ∙ sym (append-nil (heap_way o a b))
            ∙ ap (λ l. heap_way o a b ++ l) (sym (heap_quiet a b (serving managed_ops t.core source t.message).posted pages));
      })
  takes_by source x t false heap = elim (cases_eq a source) [
    | inr ne ↦ inl (other (λ same. absurd (ne same)))
    | inl from ↦ elim (cases_eq b x) [
      | inr ne ↦ inl (other (λ same. ne))
      | inl to ↦
          inr (record { source = source; dest = x; delivery = t; from = from; to = to; heap = heap })
    ]
  ]
    where
      other : (a ≡ source → b ≢ x) → TakesNone a b o o'
      other apart = record {
        more = posted a b (serving managed_ops t.core source t.message).posted;
        sent = ap (λ g. g a b) t.posted;
        way = way_other (host_rules managed_ops) o o' world.within source x t a b apart;
      }

  takes : Steps (host_rules managed_ops) o o' → TakesNone a b o o' ⊎ TakesOne a b o o'
  takes (rests same) = inl (record {
    more = [];
    sent = ap (λ (z : FifoWorld (Host Managed)). z.posted a b) same ∙ sym (append-nil (o.posted a b));
    way = ap (λ (z : FifoWorld (Host Managed)). heap_way z a b) same
        ∙ sym (append-nil (heap_way o a b));
  })
  takes (turns x t) = inl (record {
    more = posted a b t.outcome.posted;
    sent = ap (λ g. g a b) t.posted;
    way = way_turned o o' t.outcome.posted world.within t.posted t.delivered a b;
  })
  takes (delivers source x t) = takes_by source x t (is_of_pages t.message.content) refl

module _ (opened : Opening) (c : Config) (limits : IsConfig c) (programs : List Program)
    (many : length programs ≡ c.nodes) (i : ℕ) (called : Call) (k : HeapCall)
    (of : asked_of c called ≡ kinds.Heap k) (history : List Record) where
  abbrev Follower : World (Host Managed) → Type 0
  Follower v = FollowsInOrder managed_ops (managed_start opened) c programs v

  abbrev order_of : (v : World (Host Managed)) → Follower v → FifoWorld (Host Managed)
  order_of v f = fifo_of v f.posted

  abbrev IsRun : FifoWorld (Host Managed) → Type 0
  IsRun o = IsReachedInOrder managed_ops (managed_start opened) c programs o

  abbrev HasGrown : FifoWorld (Host Managed) → Type 0
  HasGrown o = Grown opened c limits programs many i history o

  world : (o : FifoWorld (Host Managed)) → IsRun o
      → IsSoundWorldBy (managed_start opened).sends_on managed_ops c o
  world o run = (told_of opened c limits programs many o run).faithful.sound

  -- the call is in progress
  record IsBusy (h : Host Managed) : Type 0 where
    asked : h.memory.asked ≡ Some called
    records : h.history ≡ history

  -- its reply came, or was recorded
  data IsTold (o : FifoWorld (Host Managed)) : Type 0 where
    told : (h : Host Managed) → slice_get o.cores i ≡ Some h → IsBusy h → (r : Reply)
        → h.memory.side.heap_request ≡ Some (heap_request.Told r) → IsTold o
    recorded : HasGrown o → IsTold o

  -- or node 0 has answered
  data IsServed (limit : ℕ) (o : FifoWorld (Host Managed)) : Type 0 where
    coming : (h : Host Managed) → slice_get o.cores i ≡ Some h → IsBusy h → IsOnWay limit 0 i o
        → IsServed limit o
    came : IsTold o → IsServed limit o

  -- or it was asked
  data IsSent (limit : ℕ) (o : FifoWorld (Host Managed)) : Type 0 where
    going : (h : Host Managed) → slice_get o.cores i ≡ Some h → IsBusy h → heap_way o 0 i ≡ []
        → IsOnWay limit i 0 o → IsSent limit o
    went : (back : ℕ) → IsServed back o → IsSent limit o

  module _ (o : FifoWorld (Host Managed)) (run : IsRun o) (h : Host Managed)
      (there : slice_get o.cores i ≡ Some h) (busy : IsBusy h) where
    sound : IsSoundHost managed_ops c i h
    sound = (world o run).sound i h there

    owed : (e : HeapRequest) × (h.memory.side.heap_request ≡ Some e)
    owed = sound.memory.side.owed k (record {
      call = called;
      asked = busy.asked;
      of = ap (λ d. asked_of d called) sound.config ∙ of;
    })

    -- node 0 asks nobody
    away : i ≢ 0
    away home = none-some owed.0 (sym (sound.memory.side.none (sound.me ∙ home)) ∙ owed.1)

    told_at : (e : HeapRequest) → h.memory.side.heap_request ≡ Some e → IsAtRest h.memory.side.heap_request → IsTold o
    told_at (heap_request.Asked j number) is rest = absurd (subst IsAtRest is rest)
    told_at (heap_request.Told r) is rest = told h there busy r is

    heap_request_at : IsHeapRequestAt i h.memory.side.heap_request (heap_way o i 0) (heap_way o 0 i)
    heap_request_at = (world o run).heap_requests.each i h away there

    sent_by : IsHeapRequestAt i h.memory.side.heap_request (heap_way o i 0) (heap_way o 0 i)
        → IsSent (length (o.posted i 0)) o
    sent_by (resting rest there_none back) = went 0 (came (told_at owed.0 owed.1 rest))
    sent_by (asking j number asks way back) = going h there busy back (on_way i 0 o _ way)
    sent_by (answered j number body r asks none back tells can) =
        went (length (o.posted 0 i)) (coming h there busy (on_way 0 i o _ back))

    -- so node 0 was asked
    is_sent : IsSent (length (o.posted i 0)) o
    is_sent = sent_by heap_request_at

  module _ (o o' : FifoWorld (Host Managed)) (run : IsRun o)
      (step : Steps (host_rules managed_ops) o o') where
    run' : IsRun o'
    run' = (o ∷ run.0, (run.1, step))

    -- it is in progress on, or was recorded
    busy_on : (h : Host Managed) → slice_get o.cores i ≡ Some h → IsBusy h
        → HasGrown o' ⊎ ((h' : Host Managed) × (slice_get o'.cores i ≡ Some h') × IsBusy h')
    busy_on h there busy = by_more m.0 m.1 m.2 m.2.more refl
      where
        m : (m : Host Managed) × (slice_get o'.cores i ≡ Some m) × IsLaterAt h m
        m = (later_on opened c limits programs many o o' run step).at i h there

        by_more : (h' : Host Managed) → slice_get o'.cores i ≡ Some h' → (later : IsLaterAt h h')
            → (more : List Record) → later.more ≡ more
            → HasGrown o' ⊎ ((h' : Host Managed) × (slice_get o'.cores i ≡ Some h') × IsBusy h')
        by_more h' now later [] none = inr (
          h',
          now,
          record {
            asked = later.asked called busy.asked none;
            records = later.history ∙ ap (λ l. h.history ++ l) none ∙ append-nil h.history
                ∙ busy.records;
          },
        )
        by_more h' now later (r ∷ rs) some = inl (
          h',
          now,
          (let a : length h'.history ≡ length h.history + length later.more =
              ap length later.history ∙ length-append h.history later.more in
              let b : length h.history ≡ length history = ap length busy.records in
              let d : length later.more ≡ length (r ∷ rs) = ap length some in
              omega (arith, a, b, d)),
        )

    -- a message that comes to the node
    module _ (h : Host Managed) (there : slice_get o.cores i ≡ Some h) (busy : IsBusy h)
        (source x : ℕ) (t : Delivers (host_rules managed_ops) o source x o') (same : i ≡ x) where
      abbrev served : Host Managed
      served = (serving managed_ops t.core source t.message).after

      it : t.core ≡ h
      it = same_Some t.core h (sym t.there ∙ ap (slice_get o.cores) (sym same) ∙ there)

      now : slice_get o'.cores i ≡ Some served
      now = core_here o o' x t.core served i t.there t.cores same

      still_busy : IsBusy served
      still_busy = record {
        asked = served_asked t.core source t.message
            ∙ ap (λ (z : Host Managed). z.memory.asked) it ∙ busy.asked;
        records = served_history t.core source t.message
            ∙ ap (λ (z : Host Managed). z.history) it ∙ busy.records;
      }

      -- one of the heap tells the reply
      learned : is_of_pages t.message.content ≡ false → IsTold o'
      learned heap = by_rule (fits_heap managed_ops c o o' (world o run) source x t heap)
        where
          by_rule : HeapDelivery managed_ops o source x t.core t.message → IsTold o'
          by_rule (serves home off asker at j number asks on none is state keeps does) =
              absurd (away o run h there busy (same ∙ home))
          by_rule (learns off home j number r asks back tells does) =
              told served now still_busy r (ap (λ (z : Outcome (Host Managed)). z.after.memory.side.heap_request) does)

      -- one about a page leaves what is known
      told_still : (r : Reply) → h.memory.side.heap_request ≡ Some (heap_request.Told r) → (about : Bool)
          → is_of_pages t.message.content ≡ about → IsTold o'
      told_still r is false heap = learned heap
      told_still r is true about =
          told served now still_busy r
          (ap (λ (z : Outcome (Host Managed)). z.after.memory.side.heap_request)
          (page_serving managed_ops t.core source t.message about)
          ∙ ap (λ (z : Host Managed). z.memory.side.heap_request) it ∙ is)

    told_on : IsTold o → IsTold o'
    told_on (recorded grown) =
        recorded (grown_on opened c limits programs many i history o o' run step grown)
    told_on (told h there busy r is) = by_steps step
      where
        there_on : Steps (host_rules managed_ops) o o'
            → Records opened c limits programs many i history h
        there_on any = reply_records opened c limits programs many i history h called busy.asked
            busy.records r
            (ap (λ e. first_reply (reply_told e) (reply_there h.memory.coherence.done)) is)

        by_steps : Steps (host_rules managed_ops) o o' → IsTold o'
        by_steps (rests same) =
            told h (ap (λ (z : FifoWorld (Host Managed)). slice_get z.cores i) same ∙ there) busy r is
        by_steps (turns x t) = elim (cases_eq i x) [
          | inr ne ↦
              told h (core_elsewhere o o' x t.core t.outcome.after i t.there t.cores ne ∙ there)
              busy r is
          | inl same ↦ (
              let it : t.core ≡ h =
              same_Some t.core h (sym t.there ∙ ap (slice_get o.cores) (sym same) ∙ there) in
              let out = there_on step in
              let made : t.outcome ≡ out.0 =
              same_Some t.outcome out.0 (sym t.turned ∙ ap (λ z. (host_rules managed_ops).turn z) it ∙ out.1) in
              recorded (
                t.outcome.after,
                core_here o o' x t.core t.outcome.after i t.there t.cores same,
                subst (λ (z : Outcome (Host Managed)). length history < length z.after.history)
                    (sym made) out.2,
              )
              )
        ]
        by_steps (delivers source x t) = elim (cases_eq i x) [
          | inr ne ↦
              told h (core_elsewhere o o' x t.core _ i t.there t.cores ne ∙ there) busy r is
          | inl same ↦
              told_still h there busy source x t same r is (is_of_pages t.message.content) refl
        ]

    served_on : (limit : ℕ) → IsServed limit o → IsServed limit o'
    served_on limit (came is) = came (told_on is)
    served_on limit (coming h there busy way) =
        by_takes (takes c o o' (world o run) 0 i step)
      where
        by_heap_request : TakesNone 0 i o o' → (h' : Host Managed) → slice_get o'.cores i ≡ Some h'
            → IsBusy h' → IsHeapRequestAt i h'.memory.side.heap_request (heap_way o' i 0) (heap_way o' 0 i)
            → IsServed limit o'
        by_heap_request none h' there' on (resting rest there_none back) =
            came (told_at o' run' h' there' on (owed o' run' h' there' on).0 (owed o' run' h' there' on).1 rest)
        by_heap_request none h' there' on (asking j number asks there_way back) =
            absurd (not_empty way.message (heap_way o 0 i) (about_heap none.more) way.way
            (sym none.way ∙ back))
        by_heap_request none h' there' on (answered j number body r asks there_none back tells can) =
            coming h' there' on (still_on_way limit 0 i o o' way none _ back)

        by_takes : TakesNone 0 i o o' ⊎ TakesOne 0 i o o' → IsServed limit o'
        by_takes (inr one) =
            came (learned h there busy one.source one.dest one.delivery one.to one.heap)
        by_takes (inl none) = elim (busy_on h there busy) [
          | inl grown ↦ came (recorded grown)
          | inr on ↦ by_heap_request none on.0 on.1 on.2 (heap_request_at o' run' on.0 on.1 on.2)
        ]

    -- the request that comes to node 0 is answered
    answer_comes : (h : Host Managed) → slice_get o.cores i ≡ Some h → IsBusy h → TakesOne i 0 o o'
        → heap_way o' 0 i ≡ [] → ⊥
    answer_comes h there busy one none =
        by_rule (fits_heap managed_ops c o o' (world o run) one.source one.dest one.delivery one.heap)
      where
        by_rule : HeapDelivery managed_ops o one.source one.dest one.delivery.core one.delivery.message
            → ⊥
        by_rule (learns off home j number r asks back tells does) = off (sym one.to)
        by_rule (serves home off asker at j number asks on gone is state keeps does) =
            let body = answer_to j (heap_told_of state j).reply in
            let answers : about_heap
            (posted 0 i (serving managed_ops one.delivery.core one.source one.delivery.message).posted)
            ≡ _ =
            ap (λ (z : Outcome (Host Managed)). about_heap (posted 0 i z.posted)) does
            ∙ ap (λ z. about_heap (posted 0 i (parcel_to z one.source one.source number body ∷ []))) home
            ∙ ap (λ z. about_heap (posted 0 i (parcel_to 0 z one.source number body ∷ [])))
            (sym one.from)
            ∙ heap_there 0 i one.source number body (answer_heap j (heap_told_of state j).reply) in
            let way = way_other (host_rules managed_ops) o o' (world o run).within one.source one.dest
            one.delivery 0 i (λ same. absurd (away o run h there busy (one.from ∙ sym same))) in
            let a = ap length (sym way ∙ none) in
            let b = length-append (heap_way o 0 i) (about_heap
            (posted 0 i (serving managed_ops one.delivery.core one.source one.delivery.message).posted)) in
            let d = ap length answers in
            omega (arith, a, b, d)

    sent_on : (limit : ℕ) → IsSent limit o → IsSent limit o'
    sent_on limit (went back is) = went back (served_on back is)
    sent_on limit (going h there busy back way) = elim (busy_on h there busy) [
      | inl grown ↦ went 0 (came (recorded grown))
      | inr on ↦
          by_heap_request on.0 on.1 on.2 (takes c o o' (world o run) i 0 step)
          (heap_request_at o' run' on.0 on.1 on.2)
    ]
      where
        by_heap_request : (h' : Host Managed) → slice_get o'.cores i ≡ Some h' → IsBusy h'
            → TakesNone i 0 o o' ⊎ TakesOne i 0 o o'
            → IsHeapRequestAt i h'.memory.side.heap_request (heap_way o' i 0) (heap_way o' 0 i)
            → IsSent limit o'
        by_heap_request h' there' on any (resting rest there_none none) =
            went 0 (came (told_at o' run' h' there' on (owed o' run' h' there' on).0
            (owed o' run' h' there' on).1 rest))
        by_heap_request h' there' on any (answered j number body r asks none comes tells can) =
            went (length (o'.posted 0 i)) (coming h' there' on (on_way 0 i o' _ comes))
        by_heap_request h' there' on (inl none) (asking j number asks goes back_none) =
            going h' there' on back_none (still_on_way limit i 0 o o' way none _ goes)
        by_heap_request h' there' on (inr one) (asking j number asks goes back_none) =
            absurd (answer_comes h there busy one back_none)

  -- a round brings the request to node 0
  sent_round : (u v : World (Host Managed)) (f : Follower u) → IsRound c i u v
      → IsSent (length (f.posted i 0)) (order_of u f)
      → (g : Follower v) × (back : ℕ) × IsServed back (order_of v g)
  sent_round u v f round is =
      let l = round_on opened c limits programs many (IsSent (length (f.posted i 0)))
      (λ o o' run step. sent_on o o' run step (length (f.posted i 0))) i u v f round is in
      let s = served_by l.follows l.kept in
      (l.follows, s.0, s.1)
    where
      served_by : (g : Follower v) → IsSent (length (f.posted i 0)) (order_of v g)
          → (back : ℕ) × IsServed back (order_of v g)
      served_by g (went back served) = (back, served)
      served_by g (going h there busy none way) =
          absurd (arrives (length (f.posted i 0)) i 0 (order_of v g) way
          (all_there opened c limits programs many i u v f round g i 0))

  -- and one brings the answer back
  served_round : (back : ℕ) (u v : World (Host Managed)) (f : Follower u) → IsRound c i u v
      → IsServed back (order_of u f) → (g : Follower v) × IsTold (order_of v g)
  served_round back u v f round is =
      let l = round_on opened c limits programs many (IsServed (length (f.posted 0 i)))
      (λ o o' run step. served_on o o' run step (length (f.posted 0 i))) i u v f round (anew is) in
      (l.follows, told_by l.follows l.kept)
    where
      anew : IsServed back (order_of u f) → IsServed (length (f.posted 0 i)) (order_of u f)
      anew (came t) = came t
      anew (coming h there busy way) =
          coming h there busy (on_way 0 i (order_of u f) way.message way.way)

      told_by : (g : Follower v) → IsServed (length (f.posted 0 i)) (order_of v g)
          → IsTold (order_of v g)
      told_by g (came t) = t
      told_by g (coming h there busy way) =
          absurd (arrives (length (f.posted 0 i)) 0 i (order_of v g) way
          (all_there opened c limits programs many i u v f round g 0 i))

  -- then the node's turn records the reply
  told_records : (o : FifoWorld (Host Managed)) → IsRun o → IsTold o
      → HasGrown o
      ⊎ ((h : Host Managed) × (slice_get o.cores i ≡ Some h)
      × Records opened c limits programs many i history h)
  told_records o run (recorded grown) = inl grown
  told_records o run (told h there busy r is) = inr (
    h,
    there,
    reply_records opened c limits programs many i history h called busy.asked busy.records r
        (ap (λ e. first_reply (reply_told e) (reply_there h.memory.coherence.done)) is),
  )

  -- so three rounds answer the node
  pub three_rounds_answer : (more : ℕ) (u v : World (Host Managed)) (f : Follower u) (h : Host Managed)
      → slice_get (order_of u f).cores i ≡ Some h → h.memory.asked ≡ Some called
      → h.history ≡ history → AreRounds c i (suc (suc (suc more))) u v
      → (g : Follower v) × HasGrown (order_of v g)
  three_rounds_answer more u v f h there asked records are =
      let busy : IsBusy h = record { asked = asked; records = records } in
      let one = sent_round u are.0 f are.1 (is_sent (order_of u f) f.reached h there busy) in
      let two = served_round one.1 are.0 are.2.0 one.0 are.2.1 one.2 in
      rounds_record opened c limits programs many i history IsTold told_on told_records more are.2.0
      v two.0
      are.2.2 two.1
