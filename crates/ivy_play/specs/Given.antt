-- The moves that a source gives, and those that were made.
use Rattle.std.specs.Prelude.{◌≡◌, ◌⊎◌, ℕ, zero, suc, ◌+◌, ◌≤◌, true, false, List, [], ◌∷◌, ◌++◌, length, map, take, replicate, Option, None, Some}
use Rattle.rand_pcg.specs.Lcg.{Lcg}
use Rattle.ivy_model.specs.declared.Config.{Config}
use Rattle.ivy_moves.specs.declared.Move.{Move}
use Rattle.ivy_moves.specs.declared.Move.TheVariants.{Turn}
use Rattle.ivy_texts.specs.Drawn.{drawn, seeded}
use Rattle.proof_worlds.specs.stated.RunState.{Run}
use Rattle.ivy_play.specs.declared.ahead.Ahead.{Ahead}
use Rattle.ivy_play.specs.declared.budget.Budget.{Budget}
use Rattle.ivy_play.specs.Played.{Moment, HasGoneOn, IsPlayed}

-- a move that a source gives, by the world in which it is asked for it
abbrev pub Giving : Type 0
Giving = Run → Move

-- these moves, whatever the world
abbrev pub always : List Move → List Giving
always moves = map (λ (move : Move). λ (r : Run). move) moves

-- the move that a generator draws over the nodes and the strings of a world
abbrev pub drawn_in : Lcg → Giving
drawn_in g r = (drawn r.config.nodes r.world.sent g).0

-- the generator after a move, which is the same whatever the nodes and the strings
abbrev pub after_move : Lcg → Lcg
after_move g = (drawn 0 [] g).1

-- so many moves, as a generator draws them
abbrev pub moves_of : ℕ → Lcg → List Giving
moves_of zero g = []
moves_of (suc n) g = drawn_in g ∷ moves_of n (after_move g)

-- so many moves, as the generator of a seed draws them
abbrev pub seed_moves : ℕ → ℕ → List Giving
seed_moves seed n = moves_of n (seeded seed)

-- these moves are among the others, in their order
abbrev pub AreAmong : List Move → List Move → Type 0
AreAmong [] all = Unit {0}
AreAmong (move ∷ moves) [] = ⊥
AreAmong (move ∷ moves) (one ∷ all) =
    ((move ≡ one) × AreAmong moves all) ⊎ AreAmong (move ∷ moves) all

-- Of the moves that a source gives it gave the first one, as it is in this world, or none where none
-- is left, and the others are left. Where none is left, it may give any.
abbrev pub GivesNext : List Giving → Run → Option Move → List Giving → Type 0
GivesNext gives r None left = (gives ≡ []) × (left ≡ [])
GivesNext gives r (Some move) left =
    ((give : Giving) × (gives ≡ give ∷ left) × (move ≡ give r)) ⊎ ((gives ≡ []) × (left ≡ []))

-- a source gave this move at a moment of the play, when so many moves were made at least
pub record WasGiven (c : Config) (all : List Move) (r : Run) (give : Giving) (since : ℕ) (move : Move)
    : Type 0 where
  pub past : Moment
  pub played : IsPlayed c past.moves past.run
  pub on : HasGoneOn past all r
  pub late : since ≤ length past.moves
  pub is : move ≡ give past.run

-- The moves that a source gives are among these, in their order: each as it was given at a moment of
-- the play, once the one before it was made. The source has given none of those before the place
-- `since`, and these begin at the other one.
abbrev pub AreGiven : Config → List Move → Run → List Giving → ℕ → ℕ → List Move → Type 0
AreGiven c all r gives since place [] = gives ≡ []
AreGiven c all r gives since place (move ∷ moves) =
    ((give : Giving) × (others : List Giving) × (gives ≡ give ∷ others)
    × WasGiven c all r give since move × AreGiven c all r others (place + 1) (place + 1) moves)
    ⊎ AreGiven c all r gives since (place + 1) moves

-- so they are among the first moves, as many as are drawn
abbrev pub AreDrawn : Config → List Giving → List Move → ℕ → Run → Type 0
AreDrawn c gives moves drawn r = AreGiven c moves r gives 0 0 (take drawn moves)

-- the move that is held is the next that the source gave, and the others are left; or none is held
abbrev pub IsHeld : Config → List Move → Run → ℕ → Option Move → List Giving → List Giving → Type 0
IsHeld c all r since None gives left = gives ≡ left
IsHeld c all r since (Some move) gives left =
    ((give : Giving) × (gives ≡ give ∷ left) × WasGiven c all r give since move) ⊎ (gives ≡ left)

-- it is held no longer, once it is made
abbrev pub HoldsOn : Option Move → Move → Option Move → Type 0
HoldsOn old step new = ((old ≡ Some step) × (new ≡ None)) ⊎ (new ≡ old)

-- the moves up to some that are left are given, the last one before that place
abbrev pub AreGivenUpTo : Config → List Move → Run → List Giving → ℕ → ℕ → List Move
    → List Giving → ℕ → Type 0
AreGivenUpTo c all r gives since place [] left last = (gives ≡ left) × (since ≤ last)
AreGivenUpTo c all r gives since place (move ∷ moves) left last =
    ((give : Giving) × (others : List Giving) × (gives ≡ give ∷ others)
    × WasGiven c all r give since move
    × AreGivenUpTo c all r others (place + 1) (place + 1) moves left last)
    ⊎ AreGivenUpTo c all r gives since (place + 1) moves left last

-- The moves that the source gives are among those that count, the one that is held, and those that are
-- left, in this order.
pub record AreCounted (c : Config) (all : List Move) (r : Run) (gives : List Giving) (made : List Move)
    (held : Option Move) (left : List Giving) : Type 0 where
  pub rest : List Giving
  pub last : ℕ
  pub within : last ≤ length made
  pub given : AreGivenUpTo c all r gives 0 0 made rest last
  pub holds : IsHeld c all r last held rest left

-- All moves count, but turns that are ahead do not before they are asked for.
pub record IsDrawing (c : Config) (gives : List Giving) (moves : List Move) (r : Run) (ahead : Ahead)
    (held : Option Move) (left : List Giving) : Type 0 where
  pub made : List Move
  pub all : moves ≡ made ++ replicate ahead.turns (Turn ahead.of_node)
  pub counted : AreCounted c moves r gives made held left

-- so it is as long as moves are drawn; later the moves that the source gives are among the drawn ones
pub record IsGiven (c : Config) (gives : List Giving) (moves : List Move) (r : Run) (budget : Budget)
    (ahead : Ahead) (held : Option Move) (left : List Giving) : Type 0 where
  pub drawing : budget.is_settling ≡ false → IsDrawing c gives moves r ahead held left
  pub settling : budget.is_settling ≡ true → AreDrawn c gives moves budget.drawn r
