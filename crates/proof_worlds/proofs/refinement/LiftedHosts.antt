-- What each row keeps, each step of a FIFO world keeps; and what the flat memory is told by it.
use Rattle.std.proofs.Common.{◌≡◌, ℕ, ◌<◌, ◌+◌, Bool, true, false, List, [], ◌∷◌, length, None, refl, sym, ap, ◌∙◌, subst, arith, if◌then◌else◌}
use Rattle.ivy_model.specs.declared.Config.{Config}
use Rattle.ivy_wire.specs.stated.Data.{Parcel}
use Rattle.ivy_wire.specs.stated.Posts.{parcel_to}
use Rattle.ivy_pagetable.specs.declared.Entry.{Entry}
use Rattle.ivy_pagetable.specs.stated.Manager.{Ops}
use Rattle.ivy_pagetable.specs.Manager.{Laws}
use Rattle.ivy_coherence.specs.stated.MessageSteps.{handled}
use Rattle.ivy_moves.specs.stated.Cores.{Outcome}
use Rattle.ivy_moves.specs.stated.FifoWorld.{FifoWorld, Turns, Delivers, Steps, rests, turns, delivers}
use Rattle.ivy_alloc.specs.stated.HeapCalls.{request}
use Rattle.ivy_memory.specs.stated.Beside.{Beside, nothing_beside}
use Rattle.ivy_alloc.proofs.HeapSides.{request_heap}
use Rattle.ivy_memory.proofs.serving.Pages.{is_of_pages}
use Rattle.ivy_memory.specs.stated.Memories.{MemoryFetch}
use Rattle.ivy_host.proofs.Turns.{either_fetch}
use Rattle.ivy_program.specs.stated.Programs.{HandedFetch}
use Rattle.ivy_host.specs.stated.Hosts.{Host, host_rules, fetch_of, fetched_with}
use Rattle.proof_table.specs.stated.Letters.{Net}
use Rattle.proof_table.specs.transitions.TableSteps.{IsPreservedBy}
use Rattle.proof_worlds.proofs.refinement.HeapDeliveries.{HeapDelivery}
use Rattle.proof_worlds.proofs.refinement.LiftedEvents.{Tells, Starts}
use Rattle.proof_worlds.proofs.refinement.LiftedWorlds.{net_of, managers_of, pages_among, IsSoundWorldBy, fits_heap}
use Rattle.proof_worlds.proofs.refinement.LiftedSteps.{kept-delivers, kept-heap, kept-still, kept-begins, kept-fetches}
pub use Rattle.proof_worlds.proofs.refinement.HostTurns.{number_of, asks, asked_for, without_call, HostTurn, answers, tries_again, goes_on, refuses, asks_for, serves_heap, asks_heap, carries_fetch, turn_cases}
use Rattle.proof_worlds.proofs.refinement.HostTurns.{made_along, taken-net, marks, asked_coherence, asked_posted}

-- what a turn tells the flat memory
abbrev pub TurnTells : {S : Type 0} {ops : Ops S} → ((ℕ → S) → Net → (ℕ → List ℕ) → Type 0)
    → (ℕ → ℕ → Entry) → (c : Config) → ℕ → (ℕ → List ℕ) → (h : Host S) (out : Outcome (Host S)) → HostTurn ops c h out
    → (ℕ → List ℕ) → Type 0
TurnTells P was c x f h out (answers called r asked there is) flat = flat ≡ f
TurnTells {ops = ops} P was c x f h out
    (tries_again called page word asked untold free of inside is_word is) flat =
    Starts P was c x f page word (number_of h) (without_call h).memory.coherence
    (asks ops (without_call h) page word).need (asks ops (without_call h) page word).after flat
TurnTells P was c x f h out (goes_on s idle step is) flat = flat ≡ f
TurnTells P was c x f h out (refuses called code idle step refusal is) flat = flat ≡ f
TurnTells {ops = ops} P was c x f h out (asks_for called page word idle step of inside is_word few is)
    flat =
    Starts P was c x f page word (number_of h) h.memory.coherence (asks ops h page word).need
    (asks ops h page word).after flat
TurnTells P was c x f h out (serves_heap called k heap idle step of there is) flat = flat ≡ f
TurnTells P was c x f h out (asks_heap called k idle step of none is) flat = flat ≡ f
TurnTells P was c x f h out (carries_fetch fetch next is) flat = flat ≡ f

-- What a step of the FIFO world tells the flat memory's pages: one in which a message of the
-- heap is delivered, nothing.
pub data WorldTells {S : Type 0} (ops : Ops S) (P : (ℕ → S) → Net → (ℕ → List ℕ) → Type 0)
    (c : Config) (f : ℕ → List ℕ) (o o' : FifoWorld (Host S)) (flat : ℕ → List ℕ) : Type 0 where
  rested : o' ≡ o → flat ≡ f → WorldTells ops P c f o o' flat
  turned : (x : ℕ) (t : Turns (host_rules ops) o x o') (turn : HostTurn ops c t.core t.outcome)
      → TurnTells P (net_of o).entry c x f t.core t.outcome turn flat → WorldTells ops P c f o o' flat
  delivered : (source x : ℕ) (t : Delivers (host_rules ops) o source x o')
      → is_of_pages t.message.content ≡ true
      → Tells P (net_of o).entry c x f t.core.memory.coherence
      (handled ops t.core.memory.coherence source t.message).after flat
      → WorldTells ops P c f o o' flat
  heap_delivered : (source x : ℕ) (t : Delivers (host_rules ops) o source x o')
      → HeapDelivery ops o source x t.core t.message → flat ≡ f → WorldTells ops P c f o o' flat

module _ {S : Type 0} {sends : Bool} {ops : Ops S} {P : (ℕ → S) → Net → (ℕ → List ℕ) → Type 0}
    (laws : Laws ops) (c : Config) (kept : IsPreservedBy sends ops c P) (spare : S)
    (o o' : FifoWorld (Host S)) (f : ℕ → List ℕ) (w : IsSoundWorldBy sends ops c o) (h : P (managers_of spare o) (net_of o) f) where
  abbrev Then : (ℕ → List ℕ) → Type 0
  Then flat = P (managers_of spare o') (net_of o') flat

  -- a turn after which the node's coherence is the one before, but for its answer, and that posts
  -- no message about a page
  still : (x : ℕ) (t : Turns (host_rules ops) o x o') (after : Host S) (ps : List Parcel)
      → t.outcome ≡ record { after = after; posted = ps } → pages_among ps ≡ []
      → after.memory.coherence.me ≡ t.core.memory.coherence.me
      → after.memory.coherence.manager ≡ t.core.memory.coherence.manager
      → after.memory.coherence.table ≡ t.core.memory.coherence.table
      → after.memory.coherence.breaches ≡ t.core.memory.coherence.breaches → Then f
  still x t after ps is none me manager table breaches =
      kept-still laws c kept spare o o' f w h x t
      (ap (λ (z : Outcome (Host S)). z.after.memory.coherence.me) is ∙ me)
      (ap (λ (z : Outcome (Host S)). z.after.memory.coherence.manager) is ∙ manager)
      (ap (λ (z : Outcome (Host S)). z.after.memory.coherence.table) is ∙ table)
      (ap (λ (z : Outcome (Host S)). z.after.memory.coherence.breaches) is ∙ breaches)
      (ap (λ (z : Outcome (Host S)). pages_among z.posted) is ∙ none)

  -- a fetch is carried out
  fetch-then : (x : ℕ) (t : Turns (host_rules ops) o x o') (fetch : HandedFetch)
      → t.outcome ≡ fetched_with t.core (fetch_of ops t.core fetch) → Then f
  fetch-then x t fetch =
      either_fetch ops (λ (z : MemoryFetch S). t.outcome ≡ fetched_with t.core z → Then f) t.core
      fetch (λ is. still x t _ [] is refl refl refl refl refl)
      (λ inside below is.
      kept-fetches laws c kept spare o o' f w h x t fetch.page fetch.write
      (length t.core.history + 1)
      (subst (λ d. fetch.page < d.pages) (w.sound x t.core t.there).config inside)
      (omega arith) (ap (λ (z : Outcome (Host S)). z.after.memory.coherence) is)
      (ap (λ (z : Outcome (Host S)). z.posted) is))

  pub kept-turns : (x : ℕ) (t : Turns (host_rules ops) o x o')
      (turn : HostTurn ops c t.core t.outcome)
      → (flat : ℕ → List ℕ) × Then flat × TurnTells P (net_of o).entry c x f t.core t.outcome turn flat
  kept-turns x t (answers called r asked there is) =
      let net = taken-net t.core.memory t.core.memory.along in
      (f, still x t _ [] is refl net.me net.manager net.table net.breaches, refl)
  kept-turns x t (goes_on s idle step is) = (f, still x t _ [] is refl refl refl refl refl, refl)
  kept-turns x t (refuses called code idle step refusal is) =
      (f, still x t _ [] is refl refl refl refl refl, refl)
  kept-turns x t (serves_heap called k heap idle step of there is) =
      (f, still x t _ [] is refl refl refl refl refl, refl)
  kept-turns x t (asks_heap called k idle step of none is) = (
    f,
    still x t _ _ is
        (ap (λ b. if b
        then parcel_to t.core.memory.coherence.me 0 t.core.memory.coherence.me (number_of t.core)
        (request k) ∷ [] else []) (request_heap k)) refl refl refl refl,
    refl,
  )
  kept-turns x t (asks_for called page word idle step of inside is_word few is) =
      let more : Beside = made_along t.core page word in
      let after = asked_coherence ops t.core called more page word t.outcome is in
      kept-begins laws c kept spare o o' f w h x t t.core.memory.coherence.done page word
      (number_of t.core) inside is_word (omega arith)
      (after.me ∙ (marks ops t.core called more page word).same.me) after
      (asked_posted ops t.core called more page word t.outcome is)
  kept-turns x t (tries_again called page word asked untold free of inside is_word is) =
      let after =
      asked_coherence ops (without_call t.core) called nothing_beside page word t.outcome is in
      kept-begins laws c kept spare o o' f w h x t None page word (number_of t.core) inside is_word
      (omega arith)
      (after.me ∙ (marks ops (without_call t.core) called nothing_beside page word).same.me) after
      (asked_posted ops (without_call t.core) called nothing_beside page word t.outcome is)
  kept-turns x t (carries_fetch fetch next is) =
      (f, fetch-then x t fetch is, refl)

  -- each step of a sound world keeps what each row keeps
  pub kept-steps : Steps (host_rules ops) o o'
      → (flat : ℕ → List ℕ) × Then flat × WorldTells ops P c f o o' flat
  kept-steps (rests same) =
      (f, subst (λ z. P (managers_of spare z) (net_of z) f) (sym same) h, rested same refl)
  kept-steps (turns x t) =
      let turn : HostTurn ops c t.core t.outcome =
      turn_cases ops c x t.core (w.sound x t.core t.there) t.outcome t.turned in
      let all = kept-turns x t turn in
      (all.0, all.1, turned x t turn all.2)
  kept-steps (delivers source x t) = either (is_of_pages t.message.content) refl
    where
      either : (b : Bool) → is_of_pages t.message.content ≡ b
          → (flat : ℕ → List ℕ) × Then flat × WorldTells ops P c f o o' flat
      either true about =
          let all = kept-delivers laws c kept spare o o' f w h source x t about in
          (all.0, all.1, delivered source x t about all.2)
      either false heap =
          let fits : HeapDelivery ops o source x t.core t.message =
          fits_heap ops c o o' w source x t heap in (
            f,
            kept-heap laws c kept spare o o' f w h source x t heap fits,
            heap_delivered source x t fits refl,
          )
