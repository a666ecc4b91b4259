-- What each row keeps, each event of a FIFO world keeps.
use Rattle.std.proofs.Common.{◌≡◌, ◌<◌, ◌≤◌, ℕ, Bool, true, false, List, [], ◌∷◌, Option, slice_set, refl, ap, ◌∙◌, subst, if◌then◌else◌}
use Rattle.ivy_model.specs.declared.Config.{Config}
use Rattle.ivy_wire.specs.stated.Posts.{parcel_to}
use Rattle.ivy_link.specs.stated.Paired.{extended}
use Rattle.ivy_pagetable.specs.declared.Out.{Out}
use Rattle.ivy_pagetable.specs.declared.Word.{Word}
use Rattle.ivy_pagetable.specs.stated.Words.{IsWord}
use Rattle.ivy_pagetable.specs.stated.Manager.{Ops}
use Rattle.ivy_pagetable.specs.Manager.{Laws}
use Rattle.ivy_coherence.specs.stated.Coherent.{Coherent}
use Rattle.ivy_coherence.specs.stated.MessageSteps.{handled}
use Rattle.ivy_coherence.specs.stated.PageFaults.{begun, fetch}
use Rattle.ivy_coherence.proofs.keeping.Same.{handled-same, fetch-same}
use Rattle.ivy_memory.proofs.keeping.WellBehaved.{with_done-sound}
use Rattle.ivy_moves.specs.stated.FifoWorld.{FifoWorld, Turns, Delivers, one_more}
use Rattle.ivy_alloc.specs.stated.HeapCalls.{told_of, answer_to}
use Rattle.ivy_alloc.proofs.HeapSides.{answer_heap}
use Rattle.ivy_memory.proofs.serving.Pages.{is_of_pages, handled-pages, begun-pages, fetch-pages}
use Rattle.ivy_host.specs.stated.Hosts.{Host, host_rules, serving}
use Rattle.ivy_moves.specs.stated.Cores.{Outcome}
use Rattle.ivy_wire.specs.stated.Data.{Message}
use Rattle.ivy_memory.specs.stated.Memories.{by_coherence}
use Rattle.ivy_host.proofs.Pages.{page_serving}
use Rattle.ivy_host.specs.stated.Sound.{IsSoundHost}
use Rattle.proof_table.specs.stated.Letters.{Letter, Net}
use Rattle.proof_table.specs.transitions.TableSteps.{taken, Row, IsPreservedBy}
use Rattle.proof_table.proofs.transitions.Alike.{alike_holds}
use Rattle.proof_worlds.proofs.refinement.LiftedEvents.{IsNode, ComesTo, SameNet, comes_alike, Tells, Starts}
use Rattle.proof_worlds.proofs.refinement.LiftedMessages.{kept-handled}
use Rattle.proof_worlds.proofs.refinement.LiftedTurns.{kept-begun, kept-fetch, kept-quiet}
use Rattle.proof_worlds.proofs.refinement.HeapWays.{within_taken}
use Rattle.proof_worlds.proofs.refinement.HeapDeliveries.{HeapDelivery, serves, learns}
use Rattle.proof_worlds.proofs.refinement.LiftedWorlds.{net_with, net_of, managers_of, pages_among, all_pages, node_of, leads_to, letter_first, letter_taken, heap_taken, IsSent, IsSoundWorldBy}

module _ {S : Type 0} {sends : Bool} {ops : Ops S} {P : (ℕ → S) → Net → (ℕ → List ℕ) → Type 0}
    (laws : Laws ops) (c : Config) (kept : IsPreservedBy sends ops c P) (spare : S)
    (o o' : FifoWorld (Host S)) (f : ℕ → List ℕ) (w : IsSoundWorldBy sends ops c o) (h : P (managers_of spare o) (net_of o) f) where
  -- P of the world after an event, and of these pages
  abbrev pub Then : (ℕ → List ℕ) → Type 0
  Then flat = P (managers_of spare o') (net_of o') flat

  -- what a message about a page does to a node
  abbrev told : ℕ → Host S → Message → Outcome (Host S)
  told source n m =
      record {
        after = record n { memory = (by_coherence ops n.memory source m).after };
        posted = (by_coherence ops n.memory source m).posted;
      }

  -- a message about a page is delivered
  pub kept-delivers : (source x : ℕ) (t : Delivers (host_rules ops) o source x o')
      → is_of_pages t.message.content ≡ true
      → (flat : ℕ → List ℕ) × Then flat
      × Tells P (net_of o).entry c x f t.core.memory.coherence
      (handled ops t.core.memory.coherence source t.message).after flat
  kept-delivers source x t about =
      let k : Coherent S = t.core.memory.coherence in
      let good : IsSoundHost ops c x t.core = w.sound x t.core t.there in
      let sent : IsSent c source x t.message =
      w.sent source x (o.delivered source x) t.message t.first in
      let letters : List Letter = record { source = source; dest = x; message = t.message } ∷ [] in
      let mid : Net = net_with o (one_more o.delivered source x) letters in
      let node : IsNode (managers_of spare o) mid x k =
      node_of spare o (one_more o.delivered source x) letters x t.core t.there good.me in
      let taken_first : P (managers_of spare o) mid f
      = alike_holds (managers_of spare o) (managers_of spare o)
      (taken (net_of o) source x t.message) mid
      (letter_taken o source x t.message t.first about spare) P f
      (kept.by
      (Row.takes
      (record {
        source = source;
        dest = x;
        message = t.message;
        none = refl;
        first = letter_first o source x t.message t.first about;
      })) tt h) in
      let all =
      kept-handled laws c x (managers_of spare o) mid f k source t.message good.config good.me
      kept (w.rule x t.core t.there) good.memory.coherent node sent.below sent.apart sent.fits refl taken_first in (
        all.0,
        all.1 (managers_of spare o') (net_of o')
            (subst (λ ps. ComesTo (managers_of spare o) mid x (handled ops k source t.message).after
            ps (managers_of spare o') (net_of o'))
            (all_pages (handled ops k source t.message).posted
            (handled-pages ops k source t.message))
            (leads_to spare o o' (one_more o.delivered source x) letters x t.core
            (told source t.core t.message).after (handled ops k source t.message).posted t.there
            (t.cores
            ∙ ap (λ (z : Outcome (Host S)). slice_set o.cores x z.after)
            (page_serving ops t.core source t.message about))
            ((handled-same ops k source t.message).me ∙ good.me)
            (t.posted
            ∙ ap (λ (z : Outcome (Host S)). extended o.posted z.posted)
            (page_serving ops t.core source t.message about)) t.delivered
            (within_taken o w.within source x t.message t.first))),
        all.2,
      )

  -- what a message of the heap leaves as it is
  coherence_kept : (source x : ℕ) (core : Host S) (m : Message) → HeapDelivery ops o source x core m
      → (serving ops core source m).after.memory.coherence ≡ core.memory.coherence
  coherence_kept source x core m
      (serves home away asker at k number asks on_way none same heap is does) =
      ap (λ (z : Outcome (Host S)). z.after.memory.coherence) does
  coherence_kept source x core m (learns away home k number r asks back tells does) =
      ap (λ (z : Outcome (Host S)). z.after.memory.coherence) does

  no_letters : (source x : ℕ) (core : Host S) (m : Message) → HeapDelivery ops o source x core m
      → pages_among (serving ops core source m).posted ≡ []
  no_letters source x core m
      (serves home away asker at k number asks on_way none same heap is does) =
      ap (λ (z : Outcome (Host S)). pages_among z.posted) does
      ∙ ap (λ b. if b
      then parcel_to x source source number (answer_to k (told_of heap k).reply) ∷ [] else [])
      (answer_heap k (told_of heap k).reply)
  no_letters source x core m (learns away home k number r asks back tells does) =
      ap (λ (z : Outcome (Host S)). pages_among z.posted) does

  -- a message of the heap is delivered
  pub kept-heap : (source x : ℕ) (t : Delivers (host_rules ops) o source x o')
      → is_of_pages t.message.content ≡ false → HeapDelivery ops o source x t.core t.message
      → Then f
  kept-heap source x t heap fits =
      let good : IsSoundHost ops c x t.core = w.sound x t.core t.there in
      let k : Coherent S = t.core.memory.coherence in
      let e : Outcome (Host S) = serving ops t.core source t.message in
      let same : e.after.memory.coherence ≡ k = coherence_kept source x t.core t.message fits in
      let mid : Net = net_with o (one_more o.delivered source x) [] in
      let start : P (managers_of spare o) mid f =
      alike_holds (managers_of spare o) (managers_of spare o) (net_of o) mid
      (heap_taken o source x t.message t.first heap spare) P f h in
      kept-quiet c kept x (managers_of spare o) (managers_of spare o') mid (net_of o') f k
      e.after.memory.coherence
      (node_of spare o (one_more o.delivered source x) [] x t.core t.there good.me) refl start
      (ap (λ (z : Coherent S). z.manager) same) (ap (λ (z : Coherent S). z.table) same)
      (ap (λ (z : Coherent S). z.breaches) same)
      (subst (λ ps. ComesTo (managers_of spare o) mid x e.after.memory.coherence ps
      (managers_of spare o') (net_of o')) (no_letters source x t.core t.message fits)
      (leads_to spare o o' (one_more o.delivered source x) [] x t.core e.after e.posted t.there
      t.cores (ap (λ (z : Coherent S). z.me) same ∙ good.me) t.posted t.delivered
      (within_taken o w.within source x t.message t.first)))

  -- a turn after which the node's entries, bytes, manager and count are as before, and that posts
  -- no message about a page
  pub kept-still : (x : ℕ) (t : Turns (host_rules ops) o x o')
      → t.outcome.after.memory.coherence.me ≡ t.core.memory.coherence.me
      → t.outcome.after.memory.coherence.manager ≡ t.core.memory.coherence.manager
      → t.outcome.after.memory.coherence.table ≡ t.core.memory.coherence.table
      → t.outcome.after.memory.coherence.breaches ≡ t.core.memory.coherence.breaches
      → pages_among t.outcome.posted ≡ [] → Then f
  kept-still x t me manager table breaches none =
      let good : IsSoundHost ops c x t.core = w.sound x t.core t.there in
      kept-quiet c kept x (managers_of spare o) (managers_of spare o') (net_of o) (net_of o') f
      t.core.memory.coherence t.outcome.after.memory.coherence
      (node_of spare o o.delivered [] x t.core t.there good.me) refl h manager table breaches
      (subst (λ ps. ComesTo (managers_of spare o) (net_of o) x t.outcome.after.memory.coherence ps
      (managers_of spare o') (net_of o')) none
      (leads_to spare o o' o.delivered [] x t.core t.outcome.after t.outcome.posted t.there t.cores
      (me ∙ good.me) t.posted t.delivered w.within))

  -- a turn in which a word is asked for, whatever answer stands there
  pub kept-begins : (x : ℕ) (t : Turns (host_rules ops) o x o') (d : Option Out) (page : ℕ)
      (word : Word) (number : ℕ) → page < c.pages → IsWord c.page_size word → 1 ≤ number
      → t.outcome.after.memory.coherence.me ≡ t.core.memory.coherence.me
      → SameNet t.outcome.after.memory.coherence
      (begun ops (record t.core.memory.coherence { done = d }) page word number).after
      → t.outcome.posted
      ≡ (begun ops (record t.core.memory.coherence { done = d }) page word number).posted
      → (flat : ℕ → List ℕ) × Then flat
      × Starts P (net_of o).entry c x f page word number (record t.core.memory.coherence { done = d })
      (begun ops (record t.core.memory.coherence { done = d }) page word number).need
      (begun ops (record t.core.memory.coherence { done = d }) page word number).after flat
  kept-begins x t d page word number inside is_word numbered me after posts =
      let k : Coherent S = record t.core.memory.coherence { done = d } in
      let good : IsSoundHost ops c x t.core = w.sound x t.core t.there in
      let there : IsNode (managers_of spare o) (net_of o) x t.core.memory.coherence =
      node_of spare o o.delivered [] x t.core t.there good.me in
      let node : IsNode (managers_of spare o) (net_of o) x k =
      record {
        me = there.me;
        manager = there.manager;
        entries = there.entries;
        pages = there.pages;
        breaches = there.breaches;
      } in
      let all =
      kept-begun c x (managers_of spare o) (net_of o) f k page word number good.config good.me
      kept (with_done-sound t.core.memory.coherence d good.memory.coherent) node refl h inside
      is_word numbered in (
        all.0,
        all.1 (managers_of spare o') (net_of o')
            (comes_alike after
            (subst (λ ps. ComesTo (managers_of spare o) (net_of o) x
            t.outcome.after.memory.coherence ps (managers_of spare o') (net_of o'))
            (all_pages (begun ops k page word number).posted
            (begun-pages ops k page word number))
            (leads_to spare o o' o.delivered [] x t.core t.outcome.after
            (begun ops k page word number).posted t.there t.cores (me ∙ good.me)
            (t.posted ∙ ap (extended o.posted) posts) t.delivered w.within))),
        all.2,
      )

  -- a turn in which a page is fetched
  pub kept-fetches : (x : ℕ) (t : Turns (host_rules ops) o x o') (page : ℕ) (writes : Bool)
      (number : ℕ) → page < c.pages → 1 ≤ number
      → t.outcome.after.memory.coherence ≡ (fetch ops t.core.memory.coherence page writes number).after
      → t.outcome.posted ≡ (fetch ops t.core.memory.coherence page writes number).posted → Then f
  kept-fetches x t page writes number inside numbered after posts =
      let k : Coherent S = t.core.memory.coherence in
      let good : IsSoundHost ops c x t.core = w.sound x t.core t.there in
      let node : IsNode (managers_of spare o) (net_of o) x k =
      node_of spare o o.delivered [] x t.core t.there good.me in
      kept-fetch c x (managers_of spare o) (net_of o) f k page writes number good.config good.me
      kept good.memory.coherent node refl h inside numbered (managers_of spare o') (net_of o')
      (subst (λ (z : Coherent S). ComesTo (managers_of spare o) (net_of o) x z
      (fetch ops k page writes number).posted (managers_of spare o') (net_of o')) after
      (subst (λ ps. ComesTo (managers_of spare o) (net_of o) x t.outcome.after.memory.coherence ps
      (managers_of spare o') (net_of o'))
      (all_pages (fetch ops k page writes number).posted (fetch-pages ops k page writes number))
      (leads_to spare o o' o.delivered [] x t.core t.outcome.after
      (fetch ops k page writes number).posted t.there t.cores
      (ap (λ (z : Coherent S). z.me) after ∙ (fetch-same ops k page writes number).me ∙ good.me)
      (t.posted ∙ ap (extended o.posted) posts) t.delivered w.within)))
