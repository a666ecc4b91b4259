-- Turns and messages keep what holds of a node, and post only what can be sent. For every manager
-- that keeps the laws.
use Rattle.std.proofs.Common.{◌≡◌, ◌≢◌, ℕ, zero, suc, ◌+◌, ◌^◌, ◌<◌, Bool, true, false, List, []}
use Rattle.std.proofs.Common.{◌∷◌, length, map, get_or, Option, Some, None, nat_lt, slice_get, refl}
use Rattle.std.proofs.Common.{◌++◌, sym, ap, ◌∙◌, subst, arith, if◌then◌else◌}
use Rattle.std.specs.Prelude.{All}
use Rattle.std.proofs.lemmas.Bool.{ltb-true}
use Rattle.std.proofs.lemmas.List.{length-append}
use Rattle.std.proofs.lemmas.Option.{same_Some, none-some}
use Rattle.ivy_model.specs.declared.Config.{Config}
use Rattle.ivy_model.specs.declared.Call.{Call}
use Rattle.ivy_model.specs.declared.Reply.{Reply}
use Rattle.ivy_model.specs.stated.Config.{IsConfig}
use Rattle.ivy_model.specs.stated.Legal.{HasWidth}
use Rattle.ivy_wire.specs.stated.Data.{Message}
use Rattle.ivy_wire.specs.stated.Spelling.{FitsMessage, FitsParcel}
use Rattle.ivy_pagetable.specs.stated.Manager.{Ops}
use Rattle.ivy_pagetable.specs.Manager.{Laws, IsNew}
use Rattle.ivy_coherence.proofs.keeping.Accesses.{fetch-keeps}
use Rattle.ivy_coherence.proofs.keeping.IdleServing.{all_none}
use Rattle.ivy_coherence.proofs.keeping.Same.{fetch-same}
use Rattle.ivy_program.specs.stated.Programs.{Program}
use Rattle.ivy_program.specs.stated.InstructionSteps.{Process, Step, Local, Asks, Ends, step_of, at_state, answered_with, AsksRow, along_of}
use Rattle.ivy_program.proofs.running.Along.{asks_along, along_wide}
use Rattle.ivy_program.proofs.running.Running.{asked_legal}
use Rattle.ivy_moves.specs.stated.Cores.{Outcome}
use Rattle.ivy_moves.specs.stated.Nodes.{Node}
use Rattle.ivy_moves.specs.Following.{IsWellBehaved}
use Rattle.ivy_moves.specs.stated.Following.{IsOpening}
use Rattle.ivy_alloc.specs.declared.CallProgress.{CallProgress}
use Rattle.ivy_alloc.specs.declared.CallProgress.TheVariants.{Given, Awaited, Unserved}
use Rattle.ivy_memory.specs.stated.Memories.{NodeMemory, CallBegun, MemoryFetch, call_begun, memory_fetched, polled}
use Rattle.ivy_memory.specs.stated.Sound.{IsSoundMemory}
use Rattle.ivy_program.specs.stated.Programs.{HandedFetch}
use Rattle.ivy_host.specs.stated.Sound.{IsSoundHost}
use Rattle.ivy_host.specs.stated.Hosts.{Host, recorded, quietly, begins_with, begins_as, begins, steps, turned_at, turn_of, fetch_of, fetched_with, serving, host_rules}
use Rattle.ivy_host.specs.stated.Openings.{Start, first_host, first_node, first_nodes, opening}
use Rattle.ivy_host.proofs.Starts.{IsStart}
use Rattle.ivy_host.proofs.Turns.{either_turn, either_fetch}
use Rattle.ivy_memory.proofs.keeping.WellBehaved.{SameNode, KeepsMemory, new_sound-memory, told_memory, told-sound, call-sound}
use Rattle.ivy_memory.proofs.keeping.Fetches.{fetch-told}
use Rattle.ivy_memory.proofs.keeping.Begun.{GoesOn, IsBegunAs, IsBegun, call-begun}
use Rattle.ivy_memory.proofs.keeping.Polling.{polled-keeps, polled-begun}
use Rattle.ivy_memory.proofs.keeping.Same.{told-same, told-asked, told-along, told-number}

-- the calls in progress are those that the program makes
abbrev pub IsAskingHost : {S : Type 0} → Host S → Type 0
IsAskingHost n =
    (k : Call) → n.memory.asked ≡ Some k → AsksRow n.process (k ∷ n.memory.along)

-- the first one of them is its next
pub asks_first : {S : Type 0} (n : Host S) → IsAskingHost n → (k : Call)
    → n.memory.asked ≡ Some k → step_of n.process ≡ Asks k
asks_first n asking k is = (asking k is).0

-- it makes the first ones of the calls that it makes
pub first_asks : (p : Process) (calls more : List Call) → AsksRow p (calls ++ more) → AsksRow p calls
first_asks p [] more row = tt
first_asks p (call ∷ calls) more row =
    (row.0, λ r. first_asks (answered_with p r) calls more (row.1 r))

module _ {S : Type 0} where
  goes-asking : (m : NodeMemory S) (p : Process) (calls : List Call) (number : ℕ)
      → GoesOn calls number m → AsksRow p calls → (j : Call) → m.asked ≡ Some j
      → AsksRow p (j ∷ m.along)
  goes-asking m p calls number goes row j is =
      let x = goes.first j is in first_asks p (j ∷ m.along) x.0 (subst (AsksRow p) x.1 row)

  -- whatever the call is answered: the program makes it and those along with it, and later ones
  -- after its reply
  pub begins_with-asking : (i : ℕ) (n : Host S) (k : Call) (calls later : List Call)
      (a : CallBegun S) (r : CallProgress) (o : Outcome (Host S)) → AsksRow n.process (k ∷ calls)
      → ((q : Reply) → AsksRow (answered_with n.process q) later)
      → IsBegunAs k calls later i a.after r → begins_with n k a r ≡ Some o → IsAskingHost o.after
  begins_with-asking i n k calls later a Awaited o asks rest begun at =
      subst (λ (x : Outcome (Host S)). IsAskingHost x.after)
      (same_Some (record { after = record n { memory = a.after }; posted = a.posted }) o at)
      (goes-asking a.after n.process (k ∷ calls) i begun asks)
  begins_with-asking i n k calls later a (Given r) o asks rest begun at =
      subst (λ (x : Outcome (Host S)). IsAskingHost x.after)
      (same_Some (record { after = recorded n a.after k r; posted = a.posted }) o at)
      (goes-asking a.after (answered_with n.process r) later (i + 1) begun (rest r))
  begins_with-asking i n k calls later a Unserved o asks rest begun at = absurd (none-some o at)

module _ {S : Type 0} (ops : Ops S) where
  begins_if-asking : (n : Host S) (k : Call) (b : Bool) (o : Outcome (Host S))
      → n.memory.asked ≡ None → step_of n.process ≡ Asks k
      → (if b
      then begins_as n k (call_begun ops n.memory k (along_of n.process) (length n.history + 1))
      else None) ≡ Some o → IsAskingHost o.after
  begins_if-asking n k false o idle asks is = absurd (none-some o is)
  begins_if-asking n k true o idle asks is =
      let calls : List Call = along_of n.process in
      let a : CallBegun S = call_begun ops n.memory k calls (length n.history + 1) in
      begins_with-asking (length n.history + 1) n k calls [] a a.answer o (asks_along n.process k asks) (λ r. tt)
      (call-begun ops n.memory k calls (length n.history + 1) idle) is

  pub begins-asking : (n : Host S) (k : Call) (o : Outcome (Host S)) → n.memory.asked ≡ None
      → step_of n.process ≡ Asks k → begins ops n k ≡ Some o → IsAskingHost o.after
  begins-asking n k o idle asks is =
      begins_if-asking n k (nat_lt (length n.history + 1) (2 ^ 64)) o idle asks is

  steps-asking : (n : Host S) (t : Step) (o : Outcome (Host S)) → n.memory.asked ≡ None
      → step_of n.process ≡ t → steps ops n t ≡ Some o → IsAskingHost o.after
  steps-asking n (Local t) o idle at is =
      subst (λ (x : Outcome (Host S)). IsAskingHost x.after)
      (same_Some (quietly (record n { process = at_state n.process t })) o is)
      (λ j h. absurd (none-some j (sym idle ∙ h)))
  steps-asking n (Asks k) o idle at is = begins-asking n k o idle at is
  steps-asking n Ends o idle at is = absurd (none-some o is)

  at-asking : (n : Host S) (a : Option Call) (o : Outcome (Host S)) → IsAskingHost n
      → n.memory.asked ≡ a → turned_at ops n a ≡ Some o → IsAskingHost o.after
  at-asking n (Some k) o asking at is =
      let a : CallBegun S = polled ops n.memory in
      let row = asking k at in
      begins_with-asking n.memory.number n k n.memory.along n.memory.along a a.answer o row row.1
      (polled-begun ops n.memory k at) is
  at-asking n None o asking at is = steps-asking n (step_of n.process) o at refl is

  fetched-asking : (n : Host S) → IsAskingHost n → (f : HandedFetch)
      → IsAskingHost (fetched_with n (fetch_of ops n f)).after
  fetched-asking n asking f =
      either_fetch ops (λ (x : MemoryFetch S). IsAskingHost (fetched_with n x).after) n f asking
      (λ inside below. asking)

  -- after a turn, the calls in progress are those that the program makes, if it was so before
  pub turn-asking : (n : Host S) (o : Outcome (Host S)) → IsAskingHost n → turn_of ops n ≡ Some o
      → IsAskingHost o.after
  turn-asking n o asking is =
      either_turn ops (λ (x : Outcome (Host S)). IsAskingHost x.after) n o
      (at-asking n n.memory.asked o asking refl) (fetched-asking n asking) is

  -- and so after a message, if it was so before
  pub serve-asking : (n : Host S) (from : ℕ) (m : Message) → IsAskingHost n
      → IsAskingHost (serving ops n from m).after
  unfolding serving
  serve-asking n from m h k asked =
      subst (λ calls. AsksRow n.process (k ∷ calls)) (sym (told-along ops n.memory from m))
      (h k (sym (told-asked ops n.memory from m) ∙ asked))

  pub first-asking : (start : Start S) (c : Config) (me : ℕ) (p : Program)
      → IsAskingHost (first_host start c me p)
  first-asking start c me p j h = absurd (none-some j h)

module _ {S : Type 0} {ops : Ops S} (laws : Laws ops) where
  -- what an event of node i has to keep
  abbrev KeepsWellBehaved : Config → ℕ → Outcome (Host S) → Type 0
  KeepsWellBehaved c i o = IsSoundHost ops c i o.after × All (FitsParcel c i) o.posted

  keeps_well_behaved : (c : Config) (i : ℕ) (n : Host S) (o : Outcome (Host S)) → IsSoundHost ops c i n
      → IsSoundMemory ops o.after.memory → SameNode n.memory.coherence o.after.memory.coherence
      → All (FitsParcel n.memory.coherence.config n.memory.coherence.me) o.posted
      → ((k : Call) → o.after.memory.asked ≡ Some k
      → o.after.memory.number ≡ length o.after.history + 1) → IsAskingHost o.after → KeepsWellBehaved c i o
  keeps_well_behaved c i n o s good same fits numbered asking = (
    record {
      memory = good;
      config = same.config ∙ s.config;
      me = same.me ∙ s.me;
      asking = asking;
      numbered = numbered;
    },
    subst (λ k. All (FitsParcel k i) o.posted) s.config
        (subst (λ j. All (FitsParcel n.memory.coherence.config j) o.posted) s.me fits),
  )

  begins_with-well_behaved : (c : Config) (i : ℕ) (n : Host S) (k : Call) (calls later : List Call)
      (a : CallBegun S) (r : CallProgress) (o : Outcome (Host S)) → IsSoundHost ops c i n
      → KeepsMemory ops n.memory a → IsBegunAs k calls later (length n.history + 1) a.after r
      → IsAskingHost o.after → begins_with n k a r ≡ Some o → KeepsWellBehaved c i o
  begins_with-well_behaved c i n k calls later a (Given r) o s h begun asking is =
      let same : record { after = recorded n a.after k r; posted = a.posted } ≡ o =
      same_Some _ o is in
      subst (KeepsWellBehaved c i) same
      (keeps_well_behaved c i n (record { after = recorded n a.after k r; posted = a.posted }) s h.0 h.2 h.1
      (λ j asked. begun.numbered j asked
      ∙ ap (λ m. m + 1) (sym (length-append n.history _)))
      (subst (λ (x : Outcome (Host S)). IsAskingHost x.after) (sym same) asking))
  begins_with-well_behaved c i n k calls later a Awaited o s h begun asking is =
      let same : record { after = record n { memory = a.after }; posted = a.posted } ≡ o =
      same_Some _ o is in
      subst (KeepsWellBehaved c i) same
      (keeps_well_behaved c i n (record { after = record n { memory = a.after }; posted = a.posted }) s h.0
      h.2 h.1 begun.numbered
      (subst (λ (x : Outcome (Host S)). IsAskingHost x.after) (sym same) asking))
  begins_with-well_behaved c i n k calls later a Unserved o s h begun asking is = absurd (none-some o is)

  begins_if-well_behaved : (c : Config) (i : ℕ) (n : Host S) (k : Call) (b : Bool) (o : Outcome (Host S))
      → IsSoundHost ops c i n → n.memory.asked ≡ None → HasWidth k
      → nat_lt (length n.history + 1) (2 ^ 64) ≡ b → IsAskingHost o.after
      → (if b
      then begins_as n k (call_begun ops n.memory k (along_of n.process) (length n.history + 1))
      else None) ≡ Some o → KeepsWellBehaved c i o
  begins_if-well_behaved c i n k false o s idle w small asking is = absurd (none-some o is)
  begins_if-well_behaved c i n k true o s idle w small asking is =
      let number : ℕ = length n.history + 1 in
      let calls : List Call = along_of n.process in
      let a : CallBegun S = call_begun ops n.memory k calls number in
      let below : number < 2 ^ 64 = ltb-true number (2 ^ 64) small in
      begins_with-well_behaved c i n k calls [] a a.answer o s
      (call-sound laws n.memory k calls number s.memory idle w (along_wide n.process) (omega arith)
      below)
      (call-begun ops n.memory k calls number idle) asking is

  begins-well_behaved : (c : Config) (i : ℕ) (n : Host S) (k : Call) (o : Outcome (Host S))
      → IsSoundHost ops c i n → n.memory.asked ≡ None → step_of n.process ≡ Asks k
      → begins ops n k ≡ Some o → KeepsWellBehaved c i o
  begins-well_behaved c i n k o s idle asks is =
      begins_if-well_behaved c i n k (nat_lt (length n.history + 1) (2 ^ 64)) o s idle
      (asked_legal n.process.program n.process.state k asks) refl
      (begins-asking ops n k o idle asks is) is

  steps-well_behaved : (c : Config) (i : ℕ) (n : Host S) (t : Step) (o : Outcome (Host S))
      → IsSoundHost ops c i n → n.memory.asked ≡ None → step_of n.process ≡ t
      → steps ops n t ≡ Some o → KeepsWellBehaved c i o
  steps-well_behaved c i n (Local t) o s idle at is =
      subst (KeepsWellBehaved c i) (same_Some _ o is)
      (keeps_well_behaved c i n (quietly (record n { process = at_state n.process t })) s s.memory
      (record { config = refl; me = refl; sends_on = refl })
      (all_none (FitsParcel n.memory.coherence.config n.memory.coherence.me))
      (λ j h. absurd (none-some j (sym idle ∙ h))) (λ j h. absurd (none-some j (sym idle ∙ h))))
  steps-well_behaved c i n (Asks k) o s idle at is = begins-well_behaved c i n k o s idle at is
  steps-well_behaved c i n Ends o s idle at is = absurd (none-some o is)

  at-well_behaved : (c : Config) (i : ℕ) (n : Host S) (a : Option Call) (o : Outcome (Host S))
      → IsSoundHost ops c i n → n.memory.asked ≡ a → turned_at ops n a ≡ Some o → KeepsWellBehaved c i o
  at-well_behaved c i n (Some k) o s at is =
      let a : CallBegun S = polled ops n.memory in
      let calls : List Call = n.memory.along in
      begins_with-well_behaved c i n k calls calls a a.answer o s (polled-keeps laws n.memory k s.memory at)
      (subst (λ number. IsBegun k calls calls number a) (s.numbered k at)
      (polled-begun ops n.memory k at))
      (at-asking ops n (Some k) o s.asking at is) is
  at-well_behaved c i n None o s at is = steps-well_behaved c i n _ o s at refl is

  -- a fetch leaves the call in progress and its number as they are
  fetched-well_behaved : (c : Config) (i : ℕ) (n : Host S) (f : HandedFetch) → IsSoundHost ops c i n
      → KeepsWellBehaved c i (fetched_with n (fetch_of ops n f))
  fetched-well_behaved c i n f s =
      either_fetch ops (λ (x : MemoryFetch S). KeepsWellBehaved c i (fetched_with n x)) n f
      (keeps_well_behaved c i n
      (fetched_with n (record { begun = false; after = n.memory; posted = [] })) s s.memory
      (record { config = refl; me = refl; sends_on = refl })
      (all_none (FitsParcel n.memory.coherence.config n.memory.coherence.me)) s.numbered s.asking)
      (λ inside below.
      (let number : ℕ = length n.history + 1 in
      let kept = fetch-keeps laws n.memory.coherence f.page f.write number s.memory.coherent inside
      (omega arith) below in
      let is = fetch-same ops n.memory.coherence f.page f.write number in
      keeps_well_behaved c i n
      (fetched_with n (memory_fetched ops n.memory f.page f.write number)) s
      (told_memory n.memory _ s.memory (fetch-told ops n.memory.coherence f.page f.write number) kept.0)
      (record { config = is.config; me = is.me; sends_on = is.sends_on }) kept.1 s.numbered s.asking))

  turn-well_behaved : (c : Config) (i : ℕ) (n : Host S) (o : Outcome (Host S)) → IsSoundHost ops c i n
      → turn_of ops n ≡ Some o → KeepsWellBehaved c i o
  turn-well_behaved c i n o s is =
      either_turn ops (KeepsWellBehaved c i) n o (at-well_behaved c i n _ o s refl)
      (λ f. fetched-well_behaved c i n f s) is

  serve-well_behaved : (c : Config) (i source : ℕ) (n : Host S) (m : Message) → IsSoundHost ops c i n
      → source < c.nodes → source ≢ i → FitsMessage c m → KeepsWellBehaved c i (serving ops n source m)
  unfolding serving
  serve-well_behaved c i source n m s below foreign fits =
      let told =
      told-sound laws n.memory source m s.memory
      (subst (λ k. source < k.nodes) (sym s.config) below)
      (subst (λ j. source ≢ j) (sym s.me) foreign)
      (subst (λ k. FitsMessage k m) (sym s.config) fits) in
      keeps_well_behaved c i n _ s told.0 (told-same ops n.memory source m) told.1
      (λ k asked. told-number ops n.memory source m
      ∙ s.numbered k (sym (told-asked ops n.memory source m) ∙ asked))
      (serve-asking ops n source m s.asking)

  -- turns and messages keep what holds of a node, and post only what can be sent
  pub well_behaved : (c : Config) → IsWellBehaved (host_rules ops) c (IsSoundHost ops c)
  well_behaved c = record {
    turn = λ i n o s is. turn-well_behaved c i n o s is;
    serve = λ i source n m s below foreign fits. serve-well_behaved c i source n m s below foreign fits;
  }

pub first_length : {S : Type 0} (start : Start S) (c : Config) (me : ℕ) (ps : List Program)
    → length (first_nodes start c me ps) ≡ length ps
first_length start c me [] = refl
first_length start c me (p ∷ ps) = ap suc (first_length start c (me + 1) ps)

first_at : {S : Type 0} (start : Start S) (c : Config) (me k : ℕ) (ps : List Program) (i : ℕ)
    (n : Node (Host S)) → me + i ≡ k → slice_get (first_nodes start c me ps) i ≡ Some n
    → (p : Program) × (n ≡ first_node start c k p) × (i < length ps)
first_at start c me k [] i n at is = absurd (none-some n is)
first_at start c me k (p ∷ ps) zero n at is =
    (p, sym (same_Some _ n is) ∙ ap (λ j. first_node start c j p) (omega (arith, at)), omega arith)
first_at start c me k (p ∷ ps) (suc i) n at is =
    let rest = first_at start c (me + 1) k ps i n (omega (arith, at)) is in
    (rest.0, rest.1, (let below = rest.2 in omega (arith, below)))

-- a host as it begins, with a new manager
pub first_sound-host : {S : Type 0} {ops : Ops S} (start : Start S) (c : Config) (i : ℕ)
    (p : Program) → IsConfig c → i < c.nodes → IsNew ops c i (start.manager c i)
    → IsSoundHost ops c i (first_host start c i p)
first_sound-host start c i p limits here new = record {
  memory = new_sound-memory start.sends_on c i (start.manager c i) limits here new;
  config = refl;
  me = refl;
  asking = λ k asked. absurd (none-some k asked);
  numbered = λ k asked. absurd (none-some k asked);
}

none_early : (programs : List Program) (i : ℕ)
    → ◌≡◌ {A = List (List ℕ)} (get_or (map (λ (p : Program). []) programs) i []) []
none_early [] i = refl
none_early (p ∷ ps) zero = refl
none_early (p ∷ ps) (suc i) = none_early ps i

-- the world as it begins
pub opening_is : {S : Type 0} {ops : Ops S} (start : Start S) (c : Config) (programs : List Program)
    → IsConfig c → IsStart ops c start → length programs ≡ c.nodes
    → IsOpening c (IsSoundHost ops c) (opening start c programs)
opening_is {S} {ops} start c programs limits new many = record {
  nodes = first_length start c 0 programs ∙ many;
  sound = λ i n is. (let x = first_at start c 0 i programs i n (omega arith) is in
      let here : i < c.nodes = (let below = x.2 in omega (arith, below, many)) in
      subst (λ (m : Node (Host S)). IsSoundHost ops c i m.core) (sym x.1)
      (first_sound-host start c i x.0 limits here (new i here)));
  links = λ i n is.
      (let x = first_at start c 0 i programs i n (omega arith) is in
      ap (λ (m : Node (Host S)). m.link) x.1);
  sent = refl;
  early = none_early programs;
}
