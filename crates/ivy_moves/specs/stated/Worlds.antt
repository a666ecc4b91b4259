-- Worlds of nodes, over any core: their moves, and what a list of moves leads to. Any string ever
-- sent may be delivered to any node, in any order and however often: a wire that loses, repeats and
-- reorders. A loss is a string that is never delivered. After a delivery the node may go on, in the
-- same move, with strings that came to it too early before: so a move is a relation of worlds, and
-- no function.
use Rattle.std.specs.Prelude.{◌≡◌, ℕ, ◌==◌, ◌&&◌, not, nat_lt, Bool, List, [], ◌∷◌, ◌++◌, length, slice_get, slice_index_or, slice_set, Contains, Option, Some, None, if◌then◌else◌}
use Rattle.ivy_model.specs.declared.Config.{Config}
use Rattle.ivy_moves.specs.declared.moves.Move.{Move}
use Rattle.ivy_moves.specs.declared.moves.Move.TheVariants.{Turn, Deliver, Pulse}
use Rattle.ivy_link.specs.declared.Verdict.{Verdict}
use Rattle.ivy_link.specs.declared.Verdict.TheVariants as verdict
use Rattle.ivy_moves.specs.stated.Cores.{Core}
use Rattle.ivy_moves.specs.stated.Nodes.{Node, Effect, turned, verdict_of, delivered, pulsing}

-- the nodes by number, all strings ever sent, in the order sent, and of each node those that came
-- to it too early
pub record World (C : Type 0) : Type 0 where
  pub nodes : List (Node C)
  pub sent : List (List ℕ)
  pub early : List (List (List ℕ))

-- a string that came too early is remembered at its node
abbrev pub remembered : Verdict → List (List (List ℕ)) → ℕ → List ℕ → List (List (List ℕ))
remembered verdict.Next early i bytes = early
remembered verdict.Repeat early i bytes = early
remembered verdict.NotMine early i bytes = early
remembered verdict.Ahead early i bytes = slice_set early i (slice_index_or early i [] ++ bytes ∷ [])

module _ {C : Type 0} where
  -- the strings that came to node i too early
  abbrev pub early_of : World C → ℕ → List (List ℕ)
  early_of w i = slice_index_or w.early i []

  -- node i goes on by this effect
  abbrev pub gone_on : World C → ℕ → Effect C → World C
  gone_on w i e =
      record { nodes = slice_set w.nodes i e.after; sent = w.sent ++ e.sent; early = w.early }

  -- the world after this effect at node i, if there is one
  abbrev pub world_goes_on : World C → ℕ → Option (Effect C) → Option (World C)
  world_goes_on w i None = None
  world_goes_on w i (Some e) = Some (gone_on w i e)

  -- in that world a string with this verdict is remembered, if it came too early
  abbrev pub remembering : Verdict → ℕ → List ℕ → Option (World C) → Option (World C)
  remembering v i bytes None = None
  remembering v i bytes (Some w) = Some (record w { early = remembered v w.early i bytes })

  -- the nodes and the string that a move names are there, and a pulse goes to another node
  abbrev pub is_named : World C → Move → Bool
  is_named w (Turn i) = nat_lt i (length w.nodes)
  is_named w (Deliver index to) = nat_lt to (length w.nodes) && nat_lt index (length w.sent)
  is_named w (Pulse from to) =
      nat_lt from (length w.nodes) && (nat_lt to (length w.nodes) && not (from == to))

module _ {C : Type 0} (rules : Core C) (c : Config) where
  -- the world after a turn of node i, if there is one
  abbrev pub turn_of : World C → ℕ → Option (Node C) → Option (World C)
  turn_of w i None = None
  turn_of w i (Some n) = world_goes_on w i (turned rules n)

  -- the world after the string was delivered to node i, if there is one
  abbrev pub delivery_of : World C → ℕ → Option (Node C) → Option (List ℕ) → Option (World C)
  delivery_of w i None s = None
  delivery_of w i (Some n) None = None
  delivery_of w i (Some n) (Some s) =
      remembering (verdict_of c n s) i s (world_goes_on w i (delivered rules c n s))

  -- the world after a pulse of node i to another
  abbrev pub pulse_of : World C → ℕ → ℕ → Option (Node C) → Option (World C)
  pulse_of w i to None = None
  pulse_of w i to (Some n) = Some (gone_on w i (pulsing n to))

  -- the world after a move that can be named, if there is one
  abbrev pub made_by : World C → Move → Option (World C)
  made_by w (Turn i) = turn_of w i (slice_get w.nodes i)
  made_by w (Deliver index to) = delivery_of w to (slice_get w.nodes to) (slice_get w.sent index)
  made_by w (Pulse from to) = pulse_of w from to (slice_get w.nodes from)

  -- the world after a move whose node does not go on; none where it can't be named, or where a
  -- number above the greatest one is needed: then there is no world after the move at all
  unfoldable pub moved : World C → Move → Option (World C)
  moved w move = if is_named w move then made_by w move else None

  -- the node goes on with these strings, each of which came to it too early, by the whole rule of a
  -- delivery
  abbrev pub GoesOnWith : World C → ℕ → List (List ℕ) → World C → Type 0
  GoesOnWith w i [] end = end ≡ w
  GoesOnWith w i (s ∷ ss) end = Contains (early_of w i) s
      × ((mid : World C) × (delivery_of w i (slice_get w.nodes i) (Some s) ≡ Some mid)
      × GoesOnWith mid i ss end)

  -- only after a delivery a node may go on
  abbrev pub MayGoOn : World C → Move → List (List ℕ) → World C → Type 0
  MayGoOn w (Turn i) more end = (more ≡ []) × (end ≡ w)
  MayGoOn w (Deliver index to) more end = GoesOnWith w to more end
  MayGoOn w (Pulse from to) more end = (more ≡ []) × (end ≡ w)

  -- the move leads from the one world to the other
  pub record Moves (w : World C) (move : Move) (end : World C) : Type 0 where
    pub mid : World C
    pub made : moved w move ≡ Some mid
    -- the strings that the node goes on with
    pub more : List (List ℕ)
    pub goes_on : MayGoOn mid move more end

  -- there is no world after the move
  abbrev pub HasNoneAfter : World C → Move → Type 0
  HasNoneAfter w move = (end : World C) → Moves w move end → ⊥

  -- the moves, made one after another, lead from the one world to the other
  abbrev pub Leads : World C → List Move → World C → Type 0
  Leads w [] end = end ≡ w
  Leads w (move ∷ moves) end = (mid : World C) × Moves w move mid × Leads mid moves end
