-- Each step of the FIFO world keeps it faithful, and adds to the order at its end. For every
-- manager that keeps the laws.
use Rattle.std.proofs.Common.{◌≡◌, ◌≢◌, ℕ, zero, suc, ◌+◌, Bool, true, false, List, [], ◌∷◌, ◌++◌, length, get_or, set, slice_get, Some, None, eq-eqb, refl, ap, sym, subst, ◌∙◌, inl, inr, arith, if◌then◌else◌, ◌==◌}
use Rattle.std.specs.Prelude.{All}
use Rattle.std.proofs.lemmas.Bool.{cases_eq}
use Rattle.std.proofs.lemmas.List.{append-nil, length-append}
use Rattle.std.proofs.lemmas.List.Elements.{All-nil}
use Rattle.std.proofs.lemmas.Option.{none-some, same_Some, slice_get-get_or}
use Rattle.ivy_model.specs.declared.Config.{Config}
use Rattle.ivy_model.specs.declared.Record.{Record}
use Rattle.ivy_model.specs.stated.Config.{IsConfig}
use Rattle.ivy_model.specs.Memory.{IsSized}
use Rattle.ivy_model.specs.stated.Explains.{part}
use Rattle.ivy_model.specs.stated.Memory.{first}
use Rattle.ivy_model.specs.stated.Memory as model
use Rattle.ivy_model.proofs.Sizes.{first_sized, leads_sized}
use Rattle.ivy_wire.specs.stated.Data.{Content, Message, Parcel}
use Rattle.ivy_wire.specs.stated.Posts.{parcel_to}
use Rattle.ivy_link.specs.stated.Paired.{posted}
use Rattle.ivy_pagetable.specs.declared.Entry.{Entry}
use Rattle.ivy_pagetable.specs.stated.Manager.{Ops}
use Rattle.ivy_pagetable.specs.Manager.{Laws}
use Rattle.ivy_program.specs.stated.Programs.{Program}
use Rattle.ivy_moves.specs.stated.Cores.{Outcome}
use Rattle.ivy_moves.specs.stated.FifoWorld.{FifoWorld, Steps, Delivers}
use Rattle.ivy_alloc.specs.declared.HeapRequest.TheVariants as heap_request
use Rattle.ivy_alloc.specs.stated.HeapCalls.{is_of_pages, told_of, request, answer_to}
use Rattle.ivy_alloc.proofs.HeapSides.{answer_heap, replied}
use Rattle.ivy_memory.proofs.serving.Pages.{IsOfPages, begun-pages}
use Rattle.ivy_host.specs.stated.Hosts.{Host, host_rules, serving, fetch_of}
use Rattle.ivy_host.specs.stated.Sound.{IsSoundHost}
use Rattle.ivy_host.proofs.Pages.{serve-pages}
use Rattle.ivy_host.proofs.WellBehaved.{well_behaved}
use Rattle.proof_table.specs.stated.Orderly.{IsOrderly}
use Rattle.proof_worlds.specs.stated.HeapRequests.{about_heap, heap_way, call_message, IsHeapRequestAt, resting, asking, answered}
use Rattle.proof_worlds.proofs.refinement.Led.{get_set}
use Rattle.proof_worlds.proofs.refinement.LiftedWorlds.{net_of, IsSoundWorldBy, steps_sound}
use Rattle.proof_worlds.proofs.refinement.HostTurns.{HostTurn, answers, tries_again, goes_on, refuses, asks_for, serves_heap, asks_heap, carries_fetch, asks, made_along, without_call, asked_posted}
use Rattle.proof_worlds.proofs.refinement.FetchTurns.{carried-leaves}
use Rattle.ivy_memory.specs.stated.Beside.{nothing_beside}
use Rattle.proof_worlds.proofs.refinement.HeapWays.{way_turned, way_other, way_page, heap_there, heap_elsewhere, heap_quiet}
use Rattle.proof_worlds.proofs.refinement.HeapDeliveries.{HeapDelivery, serves, learns}
use Rattle.proof_worlds.proofs.refinement.LiftedHosts.{WorldTells, rested, turned, delivered, heap_delivered, kept-steps}
use Rattle.proof_worlds.specs.consistency.Copied.{IsCopied}
use Rattle.proof_worlds.proofs.consistency.CopiedRows.{copied-kept}
use Rattle.proof_worlds.proofs.consistency.Owing.{Adds, pending}
use Rattle.proof_worlds.specs.consistency.Alone.{IsAlone, AreAlone, IsOf, AreOf}
use Rattle.proof_worlds.proofs.consistency.CarriedWords.{Copies}
use Rattle.proof_worlds.proofs.consistency.OwingEvents.{message_adds}
use Rattle.proof_worlds.proofs.consistency.OwingTurns.{turn_adds}
use Rattle.proof_worlds.proofs.consistency.Faithful.{IsFaithful, HasPrograms, faithful-on, programs-on}
use Rattle.proof_worlds.proofs.consistency.FaithfulHeap.{with_heap, with_reply, given_alone, given_own, serves_faithful, learns_faithful}

-- after a step: more stands in the order, each node of which had alone what it asked for; where one
-- node alone is not as it was, all words among it are that node's; and each node keeps its program
pub record GoesOn {S : Type 0} (sends : Bool) (ops : Ops S) (c : Config)
    (o o' : FifoWorld (Host S))
    (order : List Record) : Type 0 where
  pub more : List Record
  pub faithful : IsFaithful sends ops c o' (order ++ more)
  pub alone : AreAlone c (net_of o).entry more
  pub mine : (x : ℕ) → ((j : ℕ) → j ≢ x → slice_get o'.cores j ≡ slice_get o.cores j)
      → AreOf c x more
  pub programs : (programs : List Program) → HasPrograms programs o
      → HasPrograms programs o'

-- a record that is this node's stands in its part
in_part : (y : ℕ) (rs : List Record) (k : ℕ) (r : Record) → slice_get rs k ≡ Some r → r.node ≡ y
    → part y rs ≡ [] → ⊥
in_part y [] k r is own none = none-some r is
in_part y (z ∷ rs) zero r is own none =
    let test : (z.node == y) ≡ true =
    eq-eqb z.node y (ap (λ (q : Record). q.node) (same_Some z r is) ∙ own) in
    let f : z ∷ part y rs ≡ [] =
    sym (ap (λ b. if b then z ∷ part y rs else part y rs) test) ∙ none in cc
in_part y (z ∷ rs) (suc k) r is own none =
    either (z.node == y) refl (in_part y rs k r is own)
  where
    either : (b : Bool) → (z.node == y) ≡ b → (part y rs ≡ [] → ⊥) → ⊥
    either true test later =
        let f : z ∷ part y rs ≡ [] =
        sym (ap (λ b. if b then z ∷ part y rs else part y rs) test) ∙ none in cc
    either false test later =
        later (sym (ap (λ b. if b then z ∷ part y rs else part y rs) test) ∙ none)

nothing_more : (xs more : List Record) → xs ≡ xs ++ more → more ≡ []
nothing_more xs [] same = refl
nothing_more xs (r ∷ rs) same =
    absurd (let long = length-append xs (r ∷ rs) in let e = ap length same in omega (arith, long, e))

-- what an event of a node adds are its own records; and none, where it leaves the node as it was
adds_own : {S : Type 0} {was : ℕ → ℕ → Entry} {old : model.Memory} {ms : List Message} (c : Config)
    (o o' : FifoWorld (Host S)) (i : ℕ) (n n' : Host S) (pages : ℕ → List ℕ)
    → slice_get o.cores i ≡ Some n → o'.cores ≡ set o.cores i n'
    → (a : Adds c was old i n n' ms pages) → (x : ℕ)
    → ((j : ℕ) → j ≢ x → slice_get o'.cores j ≡ slice_get o.cores j) → AreOf c x a.more
adds_own {S = S} {ms = ms} c o o' i n n' pages there cores a x same k d below page word is =
    elim (cases_eq i x) [
      | inl mover ↦ elim (cases_eq r.node i) [
        | inl own ↦ own ∙ mover
        | inr other ↦ absurd (in_part r.node a.more k r at refl (a.other r.node other))
      ]
      | inr ne ↦ absurd (none-some r (ap (λ rs. slice_get rs k) (sym (none ne)) ∙ at))
    ]
  where
    r : Record
    r = get_or a.more k d

    at : slice_get a.more k ≡ Some (get_or a.more k d)
    at = slice_get-get_or a.more k d below

    now : slice_get o'.cores i ≡ Some n'
    now = ap (λ ns. slice_get ns i) cores
        ∙ elim (get_set o.cores i n n' i there) [ inl y ↦ y.1 | inr y ↦ absurd (y.0 refl) ]

    none : i ≢ x → a.more ≡ []
    none ne =
        let kept : n' ≡ n = same_Some n' n (sym now ∙ same i ne ∙ there) in
        nothing_more (n.history ++ pending n ms) a.more
        (ap (λ (y : Host S). y.history ++ pending y ms) (sym kept) ∙ a.history)

-- A turn posts no message of the heap that goes from node 0.
module _ {S : Type 0} (ops : Ops S) (c : Config) (x : ℕ) (h : Host S) (good : IsSoundHost ops c x h)
    (out : Outcome (Host S)) where
  none_posted : (j : ℕ) → out.posted ≡ [] → about_heap (posted 0 j out.posted) ≡ []
  none_posted j none = ap (λ ps. about_heap (posted 0 j ps)) none

  pages_posted : (j : ℕ) (ps : List Parcel) → out.posted ≡ ps → All IsOfPages ps
      → about_heap (posted 0 j out.posted) ≡ []
  pages_posted j ps same pages = ap (λ l. about_heap (posted 0 j l)) same ∙ heap_quiet 0 j ps pages

  home_quiet : HostTurn ops c h out → (j : ℕ) → about_heap (posted 0 j out.posted) ≡ []
  home_quiet (answers called r asked there is) j =
      none_posted j (ap (λ (z : Outcome (Host S)). z.posted) is)
  home_quiet (tries_again called page word asked untold free of inside lies is) j =
      pages_posted j (asks ops (without_call h) page word).posted
      (asked_posted ops (without_call h) called nothing_beside page word out is)
      (begun-pages ops (without_call h).memory.coherence page word (length h.history + 1))
  home_quiet (goes_on s idle step is) j = none_posted j (ap (λ (z : Outcome (Host S)). z.posted) is)
  home_quiet (refuses called code idle step refusal is) j =
      none_posted j (ap (λ (z : Outcome (Host S)). z.posted) is)
  home_quiet (asks_for called page word idle step of inside lies few is) j =
      pages_posted j (asks ops h page word).posted
      (asked_posted ops h called (made_along h page word) page word out is)
      (begun-pages ops h.memory.coherence page word (length h.history + 1))
  home_quiet (serves_heap called k heap idle step of there is) j =
      none_posted j (ap (λ (z : Outcome (Host S)). z.posted) is)
  home_quiet (asks_heap called k idle step of away is) j =
      ap (λ (z : Outcome (Host S)). about_heap (posted 0 j z.posted)) is
      ∙ heap_elsewhere h.memory.coherence.me 0 0 j h.memory.coherence.me (length h.history + 1)
      (request k) (λ home. absurd (good.memory.side.away away home))
  home_quiet (carries_fetch fetch next is) j =
      pages_posted j (fetch_of ops h fetch).posted (ap (λ (z : Outcome (Host S)). z.posted) is)
      (carried-leaves ops h fetch good.memory.coherent).pages

module _ {S : Type 0} {sends : Bool} (ops : Ops S) (laws : Laws ops) (c : Config)
    (config : IsConfig c) (o o' : FifoWorld (Host S)) (order : List Record)
    (f : IsFaithful sends ops c o order) where
  sized : IsSized c f.memory
  sized = leads_sized c (first c) f.memory order config (first_sized c) f.legal

  module _ (pages : ℕ → List ℕ) (sound : IsSoundWorldBy sends ops c o')
      (orderly : IsOrderly c (net_of o'))
      (copied : IsCopied c (net_of o') pages) where
    event_on : (i : ℕ) (n n' : Host S) → slice_get o.cores i ≡ Some n → o'.cores ≡ set o.cores i n'
        → ((j : ℕ) → heap_way o' 0 j ≡ heap_way o 0 j)
        → Adds c (net_of o).entry f.memory i n n' (heap_way o 0 i) pages
        → GoesOn sends ops c o o' order
    event_on i n n' there cores ways a = record {
      more = a.more;
      faithful =
          faithful-on ops c o o' order i n n' pages f there a cores ways sound orderly copied;
      alone = a.alone;
      mine = λ x same. adds_own c o o' i n n' pages there cores a x same;
      programs = λ programs. programs-on ops c programs o o' i n n' there a.program cores;
    }

    -- the answer of node 0, on its way to the node that asked
    module _ (source x : ℕ) (t : Delivers (host_rules ops) o source x o') (home : x ≡ 0)
        (away : source ≢ 0) (number : ℕ) (body : Content)
        (posts : (serving ops t.core source t.message).posted
        ≡ parcel_to x source source number body ∷ []) where
      served_way : (j : ℕ)
          → heap_way o' 0 j
          ≡ heap_way o 0 j ++ about_heap (posted 0 j (parcel_to 0 source source number body ∷ []))
      served_way j =
          way_other (host_rules ops) o o' f.sound.within source x t 0 j
          (λ same. absurd (away (sym same)))
          ∙ ap (λ ps. heap_way o 0 j ++ about_heap (posted 0 j ps))
          (posts ∙ ap (λ i. parcel_to i source source number body ∷ []) home)

      way_there : heap_way o 0 source ≡ [] → is_of_pages body ≡ false
          → heap_way o' 0 source ≡ call_message source number body ∷ []
      way_there none heap =
          served_way source
          ∙ ap (λ ms. ms ++ about_heap
          (posted 0 source (parcel_to 0 source source number body ∷ []))) none
          ∙ heap_there 0 source source number body heap

      way_others : (j : ℕ) → j ≢ source → heap_way o' 0 j ≡ heap_way o 0 j
      way_others j ne =
          served_way j
          ∙ ap (λ ms. heap_way o 0 j ++ ms)
          (heap_elsewhere 0 source 0 j source number body (λ same e. ne (sym e)))
          ∙ append-nil (heap_way o 0 j)

    -- a message of the heap
    heap_on : pages ≡ f.pages → (source x : ℕ) (t : Delivers (host_rules ops) o source x o')
        → HeapDelivery ops o source x t.core t.message → GoesOn sends ops c o o' order
    heap_on same source x t
        (serves home away asker there k number asked before back message heap has does) = record {
          more = _;
          faithful =
              serves_faithful ops c o o' order f sound orderly
              (subst (IsCopied c (net_of o')) same copied) x source number t.core asker k heap home away
              t.there there asked has
              (t.cores ∙ ap (λ (y : Outcome (Host S)). set o.cores x y.after) does) back
              (call_message source number (answer_to k (told_of heap k).reply))
              (way_there source x t home away number (answer_to k (told_of heap k).reply)
              (ap (λ (y : Outcome (Host S)). y.posted) does) back
              (answer_heap k (told_of heap k).reply))
              (replied heap k)
              (way_others source x t home away number (answer_to k (told_of heap k).reply)
              (ap (λ (y : Outcome (Host S)). y.posted) does));
          alone =
              given_alone ops c o o' order f sound orderly
              (subst (IsCopied c (net_of o')) same copied) x source number t.core asker k heap home away
              t.there there asked has
              (t.cores ∙ ap (λ (y : Outcome (Host S)). set o.cores x y.after) does) back
              (call_message source number (answer_to k (told_of heap k).reply))
              (way_there source x t home away number (answer_to k (told_of heap k).reply)
              (ap (λ (y : Outcome (Host S)). y.posted) does) back
              (answer_heap k (told_of heap k).reply))
              (replied heap k)
              (way_others source x t home away number (answer_to k (told_of heap k).reply)
              (ap (λ (y : Outcome (Host S)). y.posted) does))
              (net_of o).entry;
          mine =
              given_own ops c o o' order f sound orderly
              (subst (IsCopied c (net_of o')) same copied) x source number t.core asker k heap home away
              t.there there asked has
              (t.cores ∙ ap (λ (y : Outcome (Host S)). set o.cores x y.after) does) back
              (call_message source number (answer_to k (told_of heap k).reply))
              (way_there source x t home away number (answer_to k (told_of heap k).reply)
              (ap (λ (y : Outcome (Host S)). y.posted) does) back
              (answer_heap k (told_of heap k).reply))
              (replied heap k)
              (way_others source x t home away number (answer_to k (told_of heap k).reply)
              (ap (λ (y : Outcome (Host S)). y.posted) does));
          programs =
              λ programs. programs-on ops c programs o o' x t.core (with_heap t.core heap k) t.there
              refl (t.cores ∙ ap (λ (y : Outcome (Host S)). set o.cores x y.after) does);
        }
    heap_on same source x t (learns away from k number r asked before reply does) = record {
      more = [];
      alone = All-nil (λ (r : Record). IsAlone c (net_of o).entry r.node r.call);
      mine = λ x same. All-nil (λ (r : Record). IsOf c x r);
      faithful = subst (IsFaithful sends ops c o') (sym (append-nil order))
          (learns_faithful ops c o o' order f sound orderly
          (subst (IsCopied c (net_of o')) same copied) x number t.core k r t.message t.there
          asked (t.cores ∙ ap (λ (y : Outcome (Host S)). set o.cores x y.after) does) before
          reply
          (λ j ne. way_other (host_rules ops) o o' f.sound.within source x t 0 j (λ same. ne)
          ∙ ap (λ ps. heap_way o 0 j ++ about_heap (posted 0 j ps))
          (ap (λ (y : Outcome (Host S)). y.posted) does) ∙ append-nil (heap_way o 0 j)));
      programs =
          λ programs. programs-on ops c programs o o' x t.core (with_reply t.core r) t.there refl
          (t.cores ∙ ap (λ (y : Outcome (Host S)). set o.cores x y.after) does);
    }

    -- nothing is on its way from node 0 to a node that has no answer to wait for
    way_at_rest : (x : ℕ) (core : Host S) → slice_get o.cores x ≡ Some core
        → core.memory.side.heap ≡ None → core.memory.side.heap_request ≡ None → heap_way o 0 x ≡ []
    way_at_rest x core there away rest =
        at (f.sound.heap_requests.each x core
        (λ home. (f.sound.sound x core there).memory.side.away away
        ((f.sound.sound x core there).me ∙ home)) there)
      where
        at : IsHeapRequestAt x core.memory.side.heap_request (heap_way o x 0) (heap_way o 0 x)
            → heap_way o 0 x ≡ []
        at (resting quiet there back) = back
        at (asking k number asks there back) = back
        at (answered k number body r asks there back reply can) =
            absurd (none-some (heap_request.Asked k number) (sym rest ∙ asks))

    tells_on : WorldTells ops (Copies {S = S} c) c f.pages o o' pages
        → GoesOn sends ops c o o' order
    tells_on (rested same flat) = record {
      more = [];
      alone = All-nil (λ (r : Record). IsAlone c (net_of o).entry r.node r.call);
      mine = λ x same. All-nil (λ (r : Record). IsOf c x r);
      faithful =
          subst (IsFaithful sends ops c o') (sym (append-nil order))
          (subst (λ x. IsFaithful sends ops c x order) (sym same) f);
      programs =
          λ programs has. subst (λ (x : FifoWorld (Host S)). HasPrograms programs x) (sym same) has;
    }
    tells_on (turned x t turn tells) =
        event_on x t.core t.outcome.after t.there t.cores
        (λ j. way_turned o o' t.outcome.posted f.sound.within t.posted t.delivered 0 j
        ∙ ap (λ ms. heap_way o 0 j ++ ms)
        (home_quiet ops c x t.core (f.sound.sound x t.core t.there) t.outcome turn j)
        ∙ append-nil (heap_way o 0 j))
        (turn_adds ops c config (net_of o).entry x f.memory sized f.pages f.shows t.core
        (f.sound.sound x t.core t.there) (f.running x t.core t.there) (heap_way o 0 x)
        (λ h. f.blocks x t.core h t.there) (way_at_rest x t.core t.there) t.outcome turn pages
        tells)
    tells_on (delivered source x t about tells) =
        event_on x t.core (serving ops t.core source t.message).after t.there t.cores
        (way_page (host_rules ops) o o' f.sound.within source x t about
        (serve-pages ops t.core source t.message about) 0)
        (message_adds ops c config (net_of o).entry x f.memory sized f.pages f.shows t.core
        (f.sound.sound x t.core t.there) (f.running x t.core t.there) (heap_way o 0 x) source
        t.message about pages tells)
    tells_on (heap_delivered source x t delivery same) = heap_on same source x t delivery

  -- each step of the FIFO world keeps it, and adds to the order at its end
  pub faithful_next : Steps (host_rules ops) o o' → GoesOn sends ops c o o' order
  faithful_next step =
      let all =
      kept-steps {P = Copies {S = S} c} laws c (copied-kept ops c config) (ops.first c 0) o o'
      f.pages f.sound (f.orderly, f.copied) step in
      tells_on all.0 (steps_sound ops c (well_behaved laws c) o o' f.sound step) all.1.0 all.1.1 all.2
