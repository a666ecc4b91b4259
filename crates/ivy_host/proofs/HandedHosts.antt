-- Neither a turn that does something nor a message sees what a node's owner will call later, or
-- have it fetch.
use Rattle.std.proofs.Common.{◌≡◌, ◌≢◌, ◌∙◌, ℕ, zero, suc, ◌+◌, ◌^◌, ◌≤◌, ◌⊎◌, inl, inr, nat_lt, List, [], ◌∷◌, ◌++◌, length, map, append-nil, slice_get, Bool, true, false, Option, Some, None, option_map, if◌then◌else◌, refl, sym, ap, subst, arith}
use Rattle.std.proofs.lemmas.Bool.{ltb-false}
use Rattle.std.proofs.lemmas.Option.{same_Some, none-some, slice_get_within, slice_get_past}
use Rattle.ivy_model.specs.declared.Call.{Call}
use Rattle.ivy_model.specs.declared.Config.{Config}
use Rattle.ivy_model.specs.declared.Reply.{Reply}
use Rattle.ivy_wire.specs.stated.Data.{Message}
use Rattle.ivy_pagetable.specs.stated.Manager.{Ops}
use Rattle.ivy_program.specs.stated.Programs.{HandedFetch, Program, Written, Called, calls_in}
use Rattle.ivy_program.specs.Programs.{ahead, fetch_after, handed}
use Rattle.ivy_program.specs.stated.InstructionSteps.{Step, Local, Asks, Ends, step, step_of, after_reply, along, called_at, at_state, along_of}
use Rattle.ivy_program.specs.stated.States.{State}
use Rattle.ivy_program.proofs.reading.Orders.{get_front}
use Rattle.ivy_program.proofs.running.Handing.{ahead_along, ahead_reply, ahead_step, handed_reply, handed_along, handed_step}
use Rattle.ivy_moves.specs.Carrying.{IsUnseen, IsChangedBy, changed, node_changed}
use Rattle.ivy_moves.specs.stated.Cores.{Outcome}
use Rattle.ivy_moves.specs.stated.Nodes.{Node}
use Rattle.ivy_alloc.specs.declared.CallProgress.{CallProgress}
use Rattle.ivy_alloc.specs.declared.CallProgress.TheVariants.{Given, Awaited, Unserved}
use Rattle.ivy_memory.specs.stated.Memories.{NodeMemory, CallBegun, call_begun, in_progress, polled}
use Rattle.ivy_host.specs.stated.Fetches.{due_of, if_reached}
use Rattle.ivy_host.specs.stated.Openings.{Start, first_node, first_nodes, opening}
use Rattle.ivy_host.specs.stated.Hosts.{Host, host_rules, asks_reply, begins_as, begins_with, due, fetch_of, fetched_with, or_fetches, quietly, recorded, serving, steps, turn_of, turned_at, turned_by}
use Rattle.ivy_host.specs.Handing.{handing, fetching}

-- what may become of a program without its steps' knowing: its owner makes further calls, or has
-- further pages fetched
record IsLonger (change : Program → Program) : Type 0 where
  steps : (p : Program) (s : State) (t : Step) → step p s ≡ t → t ≢ Ends → step (change p) s ≡ t
  along : (p : Program) (s : State) → step p s ≢ Ends → along (change p) s ≡ along p s
  reply : (p : Program) (s : State) (r : Reply)
      → after_reply (change p) s r ≡ after_reply p s r

module _ {S : Type 0} (ops : Ops S) (change : Program → Program) (longer : IsLonger change) where
  abbrev later : Host S → Host S
  later n =
      record n { process = record { program = change n.process.program; state = n.process.state } }

  recorded-later : (n : Host S) (m : NodeMemory S) (c : Call) (r : Reply)
      → recorded (later n) m c r ≡ later (recorded n m c r)
  recorded-later n m c r =
      ap (λ s. record (recorded n m c r) {
        process = record { program = change n.process.program; state = s };
      })
      (longer.reply n.process.program n.process.state r)

  with_later : (n : Host S) (c : Call) (a : CallBegun S) (r : CallProgress) (o : Outcome (Host S))
      → begins_with n c a r ≡ Some o
      → begins_with (later n) c a r ≡ Some (changed later o)
  with_later n c a (Given r) o e =
      ap (λ k. Some (record { after = k; posted = a.posted })) (recorded-later n a.after c r)
      ∙ ap (λ x. Some (changed later x))
      (same_Some (record { after = recorded n a.after c r; posted = a.posted }) o e)
  with_later n c a Awaited o e =
      ap (λ x. Some (changed later x))
      (same_Some (record { after = record n { memory = a.after }; posted = a.posted }) o e)
  with_later n c a Unserved o e = absurd (none-some o e)

  begun-later : (b : Bool) (n : Host S) (c : Call) (a : CallBegun S) (o : Outcome (Host S))
      → (if b then begins_as n c a else None) ≡ Some o
      → (if b then begins_as (later n) c a else None) ≡ Some (changed later o)
  begun-later true n c a o e = with_later n c a a.answer o e
  begun-later false n c a o e = absurd (none-some o e)

  stepped-later : (n : Host S) (s : Step) (o : Outcome (Host S)) → step_of n.process ≡ s
      → steps ops n s ≡ Some o
      → steps ops (later n) (step (change n.process.program) n.process.state)
      ≡ Some (changed later o)
  stepped-later n (Local s) o is e =
      ap (steps ops (later n))
      (longer.steps n.process.program n.process.state (Local s) is (λ x. cc))
      ∙ ap (λ x. Some (changed later x))
      (same_Some (quietly (record n { process = at_state n.process s })) o e)
  stepped-later n (Asks c) o is e =
      ap (steps ops (later n))
      (longer.steps n.process.program n.process.state (Asks c) is (λ x. cc))
      ∙ ap (λ ks. if nat_lt (length n.history + 1) (2 ^ 64)
      then begins_as (later n) c (call_begun ops n.memory c ks (length n.history + 1)) else None)
      (longer.along n.process.program n.process.state
      (λ ends. let f : Ends ≡ Asks c = sym ends ∙ is in cc))
      ∙ begun-later (nat_lt (length n.history + 1) (2 ^ 64)) n c
      (call_begun ops n.memory c (along_of n.process) (length n.history + 1)) o e
  stepped-later n Ends o is e = absurd (none-some o e)

  -- a turn that is none of a fetch
  turned-later : (n : Host S) (asked : Option Call) (o : Outcome (Host S))
      → turned_at ops n asked ≡ Some o → turned_at ops (later n) asked ≡ Some (changed later o)
  turned-later n (Some c) o e =
      let a = polled ops n.memory in with_later n c a a.answer o e
  turned-later n None o e = stepped-later n (step_of n.process) o refl e

  -- a call that can do nothing still can't
  none_later : (n : Host S) (c : Call) (a : CallBegun S) (r : CallProgress)
      → begins_with n c a r ≡ None → begins_with (later n) c a r ≡ None
  none_later n c a (Given r) is = absurd (none-some _ (sym is))
  none_later n c a Awaited is = absurd (none-some _ (sym is))
  none_later n c a Unserved is = refl

  asks-later : (n : Host S) (asked : Option Call) (r : Option (Outcome (Host S)))
      → asks_reply ops n asked ≡ r
      → asks_reply ops (later n) asked ≡ option_map (changed later) r
  asks-later n None (Some o) is = absurd (none-some o is)
  asks-later n None None is = refl
  asks-later n (Some c) (Some o) is =
      let a = polled ops n.memory in with_later n c a a.answer o is
  asks-later n (Some c) None is = let a = polled ops n.memory in none_later n c a a.answer is

  or-later : (n : Host S) (f : HandedFetch) (r : Option (Outcome (Host S))) (o : Outcome (Host S))
      → or_fetches ops n f r ≡ Some o
      → or_fetches ops (later n) f (option_map (changed later) r) ≡ Some (changed later o)
  or-later n f (Some x) o e = ap (λ y. Some (changed later y)) (same_Some x o e)
  or-later n f None o e =
      ap (λ y. Some (changed later y)) (same_Some (fetched_with n (fetch_of ops n f)) o e)

  -- a fetch that is due is carried out
  due-later : (n : Host S) (f : HandedFetch) (o : Outcome (Host S))
      → turned_by ops n (Some f) ≡ Some o
      → turned_by ops (later n) (Some f) ≡ Some (changed later o)
  due-later n f o e =
      let r = asks_reply ops n n.memory.asked in
      ap (or_fetches ops (later n) f) (asks-later n n.memory.asked r refl)
      ∙ or-later n f r o e

  by-later : (n : Host S) (d : Option HandedFetch) (o : Outcome (Host S))
      → turned_by ops n d ≡ Some o → turned_by ops (later n) d ≡ Some (changed later o)
  by-later n None o e = turned-later n n.memory.asked o e
  by-later n (Some f) o e = due-later n f o e

  serve_later : (n : Host S) (from : ℕ) (m : Message)
      → serving ops (later n) from m ≡ changed later (serving ops n from m)
  unfolding serving
  serve_later n from m = refl

-- further calls

handed-longer : (more : List (List Call)) → IsLonger (handed more)
handed-longer more = record {
  steps = handed_step more;
  along = handed_along more;
  reply = handed_reply more;
}

-- which fetch is due does not say either
due-handed : (more : List (List Call)) (p : Program) (reached used : ℕ)
    → due_of (handed more p) reached used ≡ due_of p reached used
due-handed more (Written is) reached used = refl
due-handed more (Called rows fs) reached used = refl

module _ {S : Type 0} (ops : Ops S) (more : List (List Call)) where
  turn_handed : (n : Host S) (o : Outcome (Host S)) → turn_of ops n ≡ Some o
      → turn_of ops (handing more n) ≡ Some (changed (handing more) o)
  unfolding turn_of
  turn_handed n o e =
      ap (turned_by ops (handing more n))
      (due-handed more n.process.program
      (n.process.state.place + length (in_progress n.memory.asked n.memory.along)) n.used)
      ∙ by-later ops (handed more) (handed-longer more) n (due n) o e

  -- so the change is seen by none
  pub unseen : IsUnseen (host_rules ops) (handing more)
  unseen = record {
    turn = turn_handed;
    serve = serve_later ops (handed more) (handed-longer more);
  }

-- a fetch that is handed later

ahead-longer : (page : ℕ) (write : Bool) → IsLonger (ahead page write)
ahead-longer page write = record {
  steps = λ p s t is goes. ahead_step page write p s ∙ is;
  along = λ p s goes. ahead_along page write p s;
  reply = ahead_reply page write;
}

-- the next fetch, with one more behind
next-longer : (xs : List HandedFetch) (x f : HandedFetch) (i : ℕ) → slice_get xs i ≡ Some f
    → slice_get (xs ++ x ∷ []) i ≡ Some f
next-longer xs x f i is = get_front xs (x ∷ []) i (slice_get_within xs i f is) ∙ is

-- it is one of these, or the one more where there was none
next-last : (xs : List HandedFetch) (x : HandedFetch) (i : ℕ) → slice_get xs i ≡ None
    → (slice_get (xs ++ x ∷ []) i ≡ None) ⊎ (slice_get (xs ++ x ∷ []) i ≡ Some x)
next-last [] x zero none = inr refl
next-last [] x (suc i) none = inl refl
next-last (y ∷ xs) x zero none = absurd (none-some y (sym none))
next-last (y ∷ xs) x (suc i) none = next-last xs x i none

-- own code makes no call past those that it has made
ends-past : (rows : List (List Call)) (place : ℕ) → length (calls_in rows) ≤ place
    → called_at (slice_get (calls_in rows) place) ≡ Ends
ends-past rows place past = ap called_at (slice_get_past (calls_in rows) place past)

module _ {S : Type 0} (ops : Ops S) (page : ℕ) (write : Bool) where
  abbrev goes-on : IsLonger (ahead page write)
  goes-on = ahead-longer page write

  abbrev reached_by : Host S → ℕ
  reached_by n = n.process.state.place + length (in_progress n.memory.asked n.memory.along)

  -- The one more is due, and none was before: so each call that was handed has begun. A turn that
  -- did something asked the call in progress for its reply.
  more-due : (n : Host S) (rows : List (List Call)) (fs : List HandedFetch) (f : HandedFetch)
      (o : Outcome (Host S)) → n.process.program ≡ Called rows fs
      → length (calls_in rows) ≤ reached_by n
      → (asked : Option Call) → n.memory.asked ≡ asked → turned_at ops n asked ≡ Some o
      → or_fetches ops (fetching page write n) f (asks_reply ops (fetching page write n) asked)
      ≡ Some (changed (fetching page write) o)
  more-due n rows fs f o own reached (Some c) is e =
      ap (or_fetches ops (fetching page write n) f)
      (asks-later ops (ahead page write) goes-on n (Some c) (Some o) e)
  more-due n rows fs f o own reached None is e =
      let past : length (calls_in rows) ≤ n.process.state.place + length (in_progress None n.memory.along) =
      subst (λ (a : Option Call). length (calls_in rows)
      ≤ n.process.state.place + length (in_progress a n.memory.along)) is reached in
      let ends : step_of n.process ≡ Ends =
      ap (λ (p : Program). step p n.process.state) own
      ∙ ends-past rows n.process.state.place (omega (arith, past)) in
      absurd (none-some o (sym (ap (steps ops n) ends) ∙ e))

  -- where none was due
  if-more : (n : Host S) (rows : List (List Call)) (fs : List HandedFetch) (f : HandedFetch)
      (b : Bool) (o : Outcome (Host S)) → n.process.program ≡ Called rows fs
      → f.after ≡ length (calls_in rows) → nat_lt (reached_by n) f.after ≡ b
      → turned_at ops n n.memory.asked ≡ Some o
      → turned_by ops (fetching page write n) (if b then None else Some f)
      ≡ Some (changed (fetching page write) o)
  if-more n rows fs f true o own many is e =
      turned-later ops (ahead page write) goes-on n n.memory.asked o e
  if-more n rows fs f false o own many is e =
      more-due n rows fs f o own
      (let low = ltb-false (reached_by n) f.after is in omega (arith, low, many)) n.memory.asked refl
      e

  none-next : (n : Host S) (rows : List (List Call)) (fs : List HandedFetch)
      (d : Option HandedFetch) (o : Outcome (Host S)) → n.process.program ≡ Called rows fs
      → (d ≡ None) ⊎ (d ≡ Some (fetch_after rows page write))
      → turned_at ops n n.memory.asked ≡ Some o
      → turned_by ops (fetching page write n) (if_reached (reached_by n) d)
      ≡ Some (changed (fetching page write) o)
  none-next n rows fs d o own (inl none) e =
      ap (λ x. turned_by ops (fetching page write n) (if_reached (reached_by n) x)) none
      ∙ turned-later ops (ahead page write) goes-on n n.memory.asked o e
  none-next n rows fs d o own (inr some) e =
      let f = fetch_after rows page write in
      ap (λ x. turned_by ops (fetching page write n) (if_reached (reached_by n) x)) some
      ∙ if-more n rows fs f (nat_lt (reached_by n) f.after) o own refl refl e

  -- a fetch that is next, due or not, is next still
  some-next : (n : Host S) (f : HandedFetch) (b : Bool) (o : Outcome (Host S))
      → turned_by ops n (if b then None else Some f) ≡ Some o
      → turned_by ops (fetching page write n) (if b then None else Some f)
      ≡ Some (changed (fetching page write) o)
  some-next n f true o e = turned-later ops (ahead page write) goes-on n n.memory.asked o e
  some-next n f false o e = due-later ops (ahead page write) goes-on n f o e

  called-later : (n : Host S) (rows : List (List Call)) (fs : List HandedFetch)
      (d : Option HandedFetch) (o : Outcome (Host S)) → n.process.program ≡ Called rows fs
      → slice_get fs n.used ≡ d
      → turned_by ops n (if_reached (reached_by n) d) ≡ Some o
      → turned_by ops (fetching page write n)
      (if_reached (reached_by n) (slice_get (fs ++ fetch_after rows page write ∷ []) n.used))
      ≡ Some (changed (fetching page write) o)
  called-later n rows fs (Some f) o own is e =
      ap (λ x. turned_by ops (fetching page write n) (if_reached (reached_by n) x))
      (next-longer fs (fetch_after rows page write) f n.used is)
      ∙ some-next n f (nat_lt (reached_by n) f.after) o e
  called-later n rows fs None o own is e =
      none-next n rows fs (slice_get (fs ++ fetch_after rows page write ∷ []) n.used) o own
      (next-last fs (fetch_after rows page write) n.used is) e

  program-later : (n : Host S) (p : Program) (o : Outcome (Host S)) → n.process.program ≡ p
      → turned_by ops n (due_of p (reached_by n) n.used) ≡ Some o
      → turned_by ops (fetching page write n) (due_of (ahead page write p) (reached_by n) n.used)
      ≡ Some (changed (fetching page write) o)
  program-later n (Written is) o own e =
      turned-later ops (ahead page write) goes-on n n.memory.asked o e
  program-later n (Called rows fs) o own e = called-later n rows fs (slice_get fs n.used) o own refl e

  turn_later : (n : Host S) (o : Outcome (Host S)) → turn_of ops n ≡ Some o
      → turn_of ops (fetching page write n) ≡ Some (changed (fetching page write) o)
  unfolding turn_of
  turn_later n o e = program-later n n.process.program o refl e

  -- this change too is seen by none
  pub fetch_unseen : IsUnseen (host_rules ops) (fetching page write)
  fetch_unseen = record {
    turn = turn_later;
    serve = serve_later ops (ahead page write) goes-on;
  }

-- no further calls change nothing
pub handed_none : (p : Program) → handed [] p ≡ p
handed_none (Written is) = refl
handed_none (Called rows fs) = ap (λ xs. Called xs fs) (append-nil rows)

pub handing_none : {S : Type 0} (n : Host S) → handing [] n ≡ n
handing_none n =
    ap (λ p. record n { process = record { program = p; state = n.process.state } })
    (handed_none n.process.program)

-- the further calls that each of these programs was handed, by its number
pub record AreHanded (more : ℕ → List (List Call)) (old new : List Program) : Type 0 where
  pub count : length new ≡ length old
  pub each : (i : ℕ) (p : Program) → slice_get old i ≡ Some p
      → slice_get new i ≡ Some (handed (more i) p)

as_many : {X Y : Type 0} (xs ys : List X) (y : Y) → length ys ≡ length xs
    → map (λ (x : X). y) ys ≡ map (λ (x : X). y) xs
as_many [] [] y e = refl
as_many [] (z ∷ ys) y e = absurd (omega (arith, e))
as_many (x ∷ xs) [] y e = absurd (omega (arith, e))
as_many (x ∷ xs) (z ∷ ys) y e = ap (λ l. y ∷ l) (as_many xs ys y (omega (arith, e)))

module _ {S : Type 0} (start : Start S) (c : Config) where
  first_nodes-at : (me i k : ℕ) (ps : List Program) → k ≡ me + i
      → slice_get (first_nodes start c me ps) i ≡ option_map (first_node start c k) (slice_get ps i)
  first_nodes-at me i k [] e = refl
  first_nodes-at me zero k (p ∷ ps) e =
      ap (λ j. Some (first_node start c j p)) (let same : me ≡ k = omega (arith, e) in same)
  first_nodes-at me (suc i) k (p ∷ ps) e = first_nodes-at (me + 1) i k ps (omega (arith, e))

  first_nodes-length : (me : ℕ) (ps : List Program) → length (first_nodes start c me ps) ≡ length ps
  first_nodes-length me [] = refl
  first_nodes-length me (p ∷ ps) = ap suc (first_nodes-length (me + 1) ps)

  module _ (more : ℕ → List (List Call)) (old new : List Program) (h : AreHanded more old new) where
    handed-at : (i : ℕ) (n : Node (Host S)) (o : Option Program) → slice_get old i ≡ o
        → option_map (first_node start c i) o ≡ Some n
        → slice_get (first_nodes start c 0 new) i ≡ Some (node_changed (handing (more i)) n)
    handed-at i n None there is = absurd (none-some n is)
    handed-at i n (Some p) there is =
        first_nodes-at 0 i i new (omega arith)
        ∙ ap (option_map (first_node start c i)) (h.each i p there)
        ∙ ap (λ m. Some (node_changed (handing (more i)) m)) (same_Some (first_node start c i p) n is)

    -- the opening of the longer programs is the other one, with this change at each node
    pub opening_handed :
        IsChangedBy (λ i. handing (more i)) (opening start c old) (opening start c new)
    opening_handed = record {
      there = λ i n at. handed-at i n (slice_get old i) refl
          (sym (first_nodes-at 0 i i old (omega arith)) ∙ at);
      count = first_nodes-length 0 new ∙ h.count ∙ sym (first_nodes-length 0 old);
      sent = refl;
      early = as_many old new [] h.count;
    }
