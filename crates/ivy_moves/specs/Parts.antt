-- The parts of a run: the events of each node, in order, that its moves give. What a node's own
-- events make of it, and the laws that threads rest on: each node of a run is what its part makes
-- of it, and parts that go on by further events are parts of a run again.
use Rattle.std.specs.Prelude.{◌≡◌, ◌≢◌, ℕ, ◌<◌, ◌≤◌, ◌==◌, List, [], ◌∷◌, ◌++◌, length, slice_get, All, Contains, Option, Some, None, if◌then◌else◌}
use Rattle.ivy_model.specs.declared.Config.{Config}
use Rattle.ivy_link.specs.declared.Verdict.{Verdict}
use Rattle.ivy_link.specs.declared.Verdict.TheVariants as verdict
use Rattle.ivy_moves.specs.declared.moves.Move.{Move}
use Rattle.ivy_moves.specs.declared.moves.Move.TheVariants as move
use Rattle.ivy_moves.specs.stated.Cores.{Core, Outcome}
use Rattle.ivy_moves.specs.Marks.{Mark, Turn, Delivery, Pulse}
use Rattle.ivy_moves.specs.stated.Nodes.{Node, Effect, stays, turned, verdict_of, delivered, pulsing}
use Rattle.ivy_moves.specs.stated.Worlds.{World, Moves, GoesOnWith, MayGoOn, Leads}

-- one effect after another
abbrev pub followed_by : {C : Type 0} → Effect C → Effect C → Effect C
followed_by first rest = record { after = rest.after; sent = first.sent ++ rest.sent }

-- the events that something gives: a frame for another node gives none, nor does a pulse without a
-- frame
abbrev pub delivery_marks : Verdict → List ℕ → List Mark
delivery_marks verdict.NotMine bytes = []
delivery_marks verdict.Next bytes = Delivery bytes ∷ []
delivery_marks verdict.Repeat bytes = Delivery bytes ∷ []
delivery_marks verdict.Ahead bytes = Delivery bytes ∷ []

abbrev pub pulse_marks : ℕ → List (List ℕ) → List Mark
pulse_marks to [] = []
pulse_marks to (s ∷ ss) = Pulse to ∷ []

-- the node of a move
abbrev pub node_of : Move → ℕ
node_of (move.Turn i) = i
node_of (move.Deliver index to) = to
node_of (move.Pulse from to) = from

-- those of the strings that this node sent, where these are their senders
abbrev pub sent_from : ℕ → List ℕ → List (List ℕ) → List (List ℕ)
sent_from j [] strings = []
sent_from j (i ∷ is) [] = []
sent_from j (i ∷ is) (s ∷ strings) =
    if i == j then s ∷ sent_from j is strings else sent_from j is strings

-- what an event of node j needs: that the string that it delivers is one of these, and that its
-- pulse goes to another of so many nodes
abbrev pub CanBeMade : List (List ℕ) → ℕ → ℕ → Mark → Type 0
CanBeMade strings nodes j Turn = Unit {0}
CanBeMade strings nodes j (Delivery bytes) = Contains strings bytes
CanBeMade strings nodes j (Pulse to) = (to < nodes) × (j ≢ to)

-- so it is for each of the events
abbrev pub AllCanBeMade : List (List ℕ) → ℕ → ℕ → List Mark → Type 0
AllCanBeMade strings nodes j [] = Unit {0}
AllCanBeMade strings nodes j (m ∷ ms) =
    CanBeMade strings nodes j m × AllCanBeMade strings nodes j ms

module _ {C : Type 0} (rules : Core C) (c : Config) where
  -- the event happens at the node, with this effect: the turn has an outcome, the frame is for this
  -- node, the pulse gives a frame
  abbrev pub Happens : Node C → Mark → Effect C → Type 0
  Happens n Turn e =
      ((o : Outcome C) × (rules.turn n.core ≡ Some o)) × (turned rules n ≡ Some e)
  Happens n (Delivery bytes) e =
      (verdict_of c n bytes ≢ verdict.NotMine) × (delivered rules c n bytes ≡ Some e)
  Happens n (Pulse to) e = (e ≡ pulsing n to) × (e.sent ≢ [])

  -- the events happen one after another, with this effect together: so a node's state, and what it
  -- sends, depend on its own events alone
  abbrev pub AllHappen : Node C → List Mark → Effect C → Type 0
  AllHappen n [] e = e ≡ stays n
  AllHappen n (m ∷ ms) e = (first : Effect C) × Happens n m first
      × ((rest : Effect C) × AllHappen first.after ms rest × (e ≡ followed_by first rest))

  -- the events that a move gives at its node
  abbrev pub turn_marks : Option (Outcome C) → List Mark
  turn_marks None = []
  turn_marks (Some o) = Turn ∷ []

  -- where the node or the string is not there, a move gives none
  abbrev pub turn_given : Option (Node C) → List Mark
  turn_given None = []
  turn_given (Some n) = turn_marks (rules.turn n.core)

  abbrev pub delivery_given : Option (Node C) → Option (List ℕ) → List Mark
  delivery_given None s = []
  delivery_given (Some n) None = []
  delivery_given (Some n) (Some bytes) = delivery_marks (verdict_of c n bytes) bytes

  abbrev pub pulse_given : ℕ → Option (Node C) → List Mark
  pulse_given to None = []
  pulse_given to (Some n) = pulse_marks to (pulsing n to).sent

  -- the events that a move gives before its node goes on
  abbrev pub given_by : World C → Move → List Mark
  given_by w (move.Turn i) = turn_given (slice_get w.nodes i)
  given_by w (move.Deliver index to) =
      delivery_given (slice_get w.nodes to) (slice_get w.sent index)
  given_by w (move.Pulse from to) = pulse_given to (slice_get w.nodes from)

  -- going on gives a further delivery for each string
  abbrev pub given_further : (w : World C) (i : ℕ) (more : List (List ℕ)) (end : World C)
      → GoesOnWith rules c w i more end → List Mark
  given_further w i [] end on = []
  given_further w i (bytes ∷ more) end on =
      delivery_given (slice_get w.nodes i) (Some bytes) ++ given_further on.1.0 i more end on.1.2

  -- those that it gives when its node goes on
  abbrev pub given_after : (w : World C) (m : Move) (more : List (List ℕ)) (end : World C)
      → MayGoOn rules c w m more end → List Mark
  given_after w (move.Turn i) more end on = []
  given_after w (move.Deliver index to) more end on = given_further w to more end on
  given_after w (move.Pulse from to) more end on = []

  -- the events that a move gives at node j
  abbrev pub given_at : (w : World C) (m : Move) (end : World C) → Moves rules c w m end → ℕ
      → List Mark
  given_at w m end moves j = if node_of m == j
      then given_by w m ++ given_after moves.mid m moves.more end moves.goes_on else []

  -- the events of node j that the moves give, in order
  abbrev pub parts_of : (moves : List Move) (w end : World C) → Leads rules c w moves end → ℕ
      → List Mark
  parts_of [] w end lead j = []
  parts_of (m ∷ moves) w end lead j =
      given_at w m lead.0 lead.1 j ++ parts_of moves lead.0 end lead.2 j

  -- the event lists, one a node, are the parts of a run from the one world to the other
  pub record AreParts (w : World C) (parts : ℕ → List Mark) (end : World C) : Type 0 where
    pub moves : List Move
    pub leads : Leads rules c w moves end
    pub are : (j : ℕ) → parts j ≡ parts_of moves w end leads j

  -- a node is what its part makes of it, which sent these strings
  abbrev pub IsMadeByPart : World C → (ℕ → List Mark) → World C → ℕ → List (List ℕ) → Type 0
  IsMadeByPart w parts end j strings = (n : Node C) → slice_get w.nodes j ≡ Some n
      → (e : Effect C) × AllHappen n (parts j) e × (slice_get end.nodes j ≡ Some e.after)
      × (strings ≡ e.sent)

  -- each node is what its part makes of it, and the strings sent are those that the parts send:
  -- each string has a sender, and the strings of a sender, in the order sent, are those of its part
  pub record AreMadeByParts (w : World C) (parts : ℕ → List Mark) (end : World C) : Type 0 where
    pub strings : List (List ℕ)
    pub sent : end.sent ≡ w.sent ++ strings
    pub senders : List ℕ
    pub count : length senders ≡ length strings
    pub inside : All (λ j. j < length w.nodes) senders
    pub nodes : length end.nodes ≡ length w.nodes
    pub each : (j : ℕ) → IsMadeByPart w parts end j (sent_from j senders strings)

  -- each node of the world goes on by these further events, and there are no others
  pub record GoOn (w : World C) (more : ℕ → List Mark) : Type 0 where
    pub each : (j : ℕ) (n : Node C) → slice_get w.nodes j ≡ Some n
        → (e : Effect C) × AllHappen n (more j) e
    pub can : (j : ℕ) → AllCanBeMade w.sent (length w.nodes) j (more j)
    pub none : (j : ℕ) → length w.nodes ≤ j → more j ≡ []

  -- the run went on by these further events: the lists with them are the parts of a run, each
  -- string that was sent before was sent in it too, and so was what the further events send
  pub record WentOn (w end : World C) (parts more : ℕ → List Mark) (further : World C) : Type 0
    where
      pub run : AreParts w (λ j. parts j ++ more j) further
      pub before : (s : List ℕ) → Contains end.sent s → Contains further.sent s
      pub sent : (j : ℕ) (n : Node C) → slice_get end.nodes j ≡ Some n → (e : Effect C)
          → AllHappen n (more j) e → (s : List ℕ) → Contains e.sent s → Contains further.sent s

  -- the first law: the nodes of a run, and the strings sent in it, are what its parts make
  abbrev pub RunsAreTheirParts : Type 0
  RunsAreTheirParts = (w end : World C) (parts : ℕ → List Mark) → AreParts w parts end
      → AreMadeByParts w parts end

  -- the second law: parts of a run that go on by further events are parts of a further run
  abbrev pub PartsGoOn : Type 0
  PartsGoOn = (w end : World C) (parts more : ℕ → List Mark) → AreParts w parts end
      → GoOn end more → (further : World C) × WentOn w end parts more further

-- so it is whatever the rules of the core
abbrev pub RunsOfAnyRules : (C : Type 0) → Type 0
RunsOfAnyRules C = (rules : Core C) (c : Config) → RunsAreTheirParts rules c

abbrev pub PartsOfAnyRules : (C : Type 0) → Type 0
PartsOfAnyRules C = (rules : Core C) (c : Config) → PartsGoOn rules c
