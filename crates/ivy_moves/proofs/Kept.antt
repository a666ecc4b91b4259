-- What each turn, delivery and pulse keeps, each move keeps, whatever strings its node goes on
-- with; and so all moves.
use Rattle.std.proofs.Common.{◌≡◌, ℕ, List, [], ◌∷◌, Some, None, refl, sym, subst, ◌∙◌}
use Rattle.std.proofs.lemmas.Option.{none-some}
use Rattle.ivy_model.specs.stated.Config.{IsConfig}
use Rattle.ivy_model.specs.declared.Config.{Config}
use Rattle.ivy_wire.specs.stated.Data.{Message}
use Rattle.ivy_moves.specs.declared.moves.Move.{Move}
use Rattle.ivy_moves.specs.declared.moves.Move.TheVariants.{Turn, Deliver, Pulse}
use Rattle.ivy_moves.specs.stated.Cores.{Core}
use Rattle.ivy_moves.specs.stated.Worlds.{World, moved, Moves, HasNoneAfter, MayGoOn, GoesOnWith, Leads}
use Rattle.ivy_moves.specs.stated.Following.{Follows}
use Rattle.ivy_moves.specs.Following.{IsWellBehaved, FollowsStep}
use Rattle.ivy_moves.proofs.Following.{follows, early-follows}

-- a move whose node goes on with nothing
pub stays-there : {C : Type 0} (rules : Core C) (c : Config) (w w' : World C) (move : Move)
    → moved rules c w move ≡ Some w' → Moves rules c w move w'
stays-there rules c w w' (Turn i) made =
    record { mid = w'; made = made; more = []; goes_on = (refl, refl) }
stays-there rules c w w' (Deliver index to) made =
    record { mid = w'; made = made; more = []; goes_on = refl }
stays-there rules c w w' (Pulse from to) made =
    record { mid = w'; made = made; more = []; goes_on = (refl, refl) }

-- there is no world after a move that can't be made
pub none_after : {C : Type 0} (rules : Core C) (c : Config) (w : World C) (move : Move)
    → moved rules c w move ≡ None → HasNoneAfter rules c w move
none_after rules c w move none w' moves = none-some moves.mid (sym none ∙ moves.made)

module _ {C : Type 0} (rules : Core C) (c : Config) (Sound : ℕ → C → Type 0) (config : IsConfig c)
    (well_behaved : IsWellBehaved rules c Sound) where
  -- it holds after each step of a world that follows the ordered one
  abbrev pub IsKeptBySteps : (World C → (ℕ → ℕ → List Message) → Type 0) → Type 0
  IsKeptBySteps Keeps =
      (w w' : World C) (posted : ℕ → ℕ → List Message) → Follows c Sound w posted → Keeps w posted
      → (next : FollowsStep rules c Sound w posted w') → Keeps w' next.0

  -- the world follows the ordered one in which these messages were posted, and this holds of both
  abbrev pub FollowsWith : (World C → (ℕ → ℕ → List Message) → Type 0) → World C → Type 0
  FollowsWith Keeps w = (posted : ℕ → ℕ → List Message) × Follows c Sound w posted × Keeps w posted

  module _ (Keeps : World C → (ℕ → ℕ → List Message) → Type 0) (steps : IsKeptBySteps Keeps) where
    stepped : (w w' : World C) (f : FollowsWith Keeps w) → FollowsStep rules c Sound w f.0 w'
        → FollowsWith Keeps w'
    stepped w w' f next = (next.0, next.1, steps w w' f.0 f.1 f.2 next)

    gone_on : (w w' : World C) (i : ℕ) (more : List (List ℕ)) → FollowsWith Keeps w
        → GoesOnWith rules c w i more w' → FollowsWith Keeps w'
    gone_on w w' i [] f done = subst (FollowsWith Keeps) (sym done) f
    gone_on w w' i (bytes ∷ more) f on =
        gone_on on.1.0 w' i more
        (stepped w on.1.0 f
        (early-follows rules c Sound well_behaved config w on.1.0 f.0 i bytes f.1 on.0 on.1.1)) on.1.2

    may-go-on : (w w' : World C) (move : Move) (more : List (List ℕ)) → FollowsWith Keeps w
        → MayGoOn rules c w move more w' → FollowsWith Keeps w'
    may-go-on w w' (Turn i) more f on = subst (FollowsWith Keeps) (sym on.1) f
    may-go-on w w' (Deliver index to) more f on = gone_on w w' to more f on
    may-go-on w w' (Pulse from to) more f on = subst (FollowsWith Keeps) (sym on.1) f

    pub move-keeps : (w w' : World C) (move : Move) → FollowsWith Keeps w → Moves rules c w move w'
        → FollowsWith Keeps w'
    move-keeps w w' move f moves =
        may-go-on moves.mid w' move moves.more
        (stepped w moves.mid f
        (follows rules c Sound config well_behaved w moves.mid f.0 move f.1 moves.made)) moves.goes_on

    pub moves-keep : (w w' : World C) (moves : List Move) → FollowsWith Keeps w
        → Leads rules c w moves w' → FollowsWith Keeps w'
    moves-keep w w' [] f done = subst (FollowsWith Keeps) (sym done) f
    moves-keep w w' (move ∷ moves) f lead =
        moves-keep lead.0 w' moves (move-keeps w lead.0 move f lead.1) lead.2

  -- after all moves the world still follows
  pub led : (w w' : World C) (posted : ℕ → ℕ → List Message) (moves : List Move)
      → Follows c Sound w posted → Leads rules c w moves w'
      → (posted' : ℕ → ℕ → List Message) × Follows c Sound w' posted'
  led w w' posted moves h lead =
      let f = moves-keep (λ v p. Unit {0}) (λ v v' p g k next. tt) w w' moves (posted, h, tt)
      lead in
      (f.0, f.1)
