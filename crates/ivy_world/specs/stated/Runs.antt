-- What a call of `run` did.
use Rattle.std.specs.Prelude.{◌≡◌, ◌↔◌, ◌<◌, ℕ, Bool, false, List, ◌++◌, length, slice_get, take, Option, Some, None, Result, Ok, Err, IfErr}
use Rattle.ivy_model.specs.declared.Config.{Config}
use Rattle.ivy_model.specs.declared.Fault.{Fault}
use Rattle.ivy_model.specs.declared.Fault.TheVariants.{Memory, NumbersSpent, NoSuchFrame}
use Rattle.ivy_host.specs.declared.opening.Opening.{Opening}
use Rattle.ivy_host.specs.stated.Managers.{Managed, managed_ops}
use Rattle.ivy_host.specs.stated.Openings.{managed_start, opening}
use Rattle.ivy_program.specs.stated.Programs.{Program}
use Rattle.ivy_moves.specs.declared.Move.{Move}
use Rattle.ivy_moves.specs.stated.Worlds.{World, is_named, HasNoneAfter}
use Rattle.ivy_host.specs.stated.Hosts.{Host, host_rules}
use Rattle.proof_worlds.specs.stated.RunState.{Run}
use Rattle.proof_worlds.specs.stated.Reached.{opening_of, IsLedTo, IsExplainedAlong}

-- the world of these programs as it begins
abbrev pub opened_run : Opening → Config → List Program → Run
opened_run opened c programs = record {
  config = c;
  opened = opened;
  programs = programs;
  world = opening (managed_start opened) c programs;
}

-- the moves that were made: all, or those before the refused one
abbrev pub made_of : {A : Type 0} → Result A (ℕ × Fault) → List Move → List Move
made_of (Ok done) moves = moves
made_of (Err e) moves = take e.0 moves

-- why a move was refused: what it names is not there, or it would need a number above the greatest
-- one, or memory
abbrev pub IsRefusedBy : Config → World (Host Managed) → Fault → Option Move → Type 0
IsRefusedBy c w NoSuchFrame (Some m) = is_named w m ≡ false
IsRefusedBy c w NumbersSpent (Some m) = HasNoneAfter (host_rules managed_ops) c w m
IsRefusedBy c w Memory (Some m) = Unit {0}
IsRefusedBy c w f o = ⊥

-- the node or string that the move names is not there, or it is a pulse to its own node
abbrev pub CannotBeNamed : World (Host Managed) → Option Move → Type 0
CannotBeNamed w (Some m) = is_named w m ≡ false
CannotBeNamed w None = ⊥

-- a move that can't be named is refused by that, whatever else
abbrev pub IsNamedUnless : World (Host Managed) → Result Bool Fault → Move → Type 0
IsNamedUnless w result m = CannotBeNamed w (Some m) → result ≡ Err NoSuchFrame

-- it is the same world: its configuration, its programs, and how its nodes began
abbrev pub IsSameRun : Run → Run → Type 0
IsSameRun old new =
    (new.config ≡ old.config) × (new.programs ≡ old.programs) × (new.opened ≡ old.opened)

-- a refusal is of one of the moves, and says which and why
abbrev pub IsRefusedAt : {A : Type 0} → Result A (ℕ × Fault) → List Move → Run → Type 0
IsRefusedAt result moves new = IfErr result (λ e. (e.0 < length moves)
    × IsRefusedBy new.config new.world e.1 (slice_get moves e.0))

-- it is by that number exactly where what the move names is not there
abbrev pub IsNamedAt : {A : Type 0} → Result A (ℕ × Fault) → List Move → Run → Type 0
IsNamedAt result moves new =
    IfErr result (λ e. (e.1 ≡ NoSuchFrame) ↔ CannotBeNamed new.world (slice_get moves e.0))

-- whatever moves led to the old world from the opening, those made lead on, and at each moment of
-- all of them one order of records explains what the nodes were answered, growing from move to move,
-- in which no calls are torn apart that a node has in progress together, or had before
abbrev pub IsExplainedOn : Run → List Move → Run → Type 0
IsExplainedOn old made new = (before : List Move)
    → IsLedTo old.config (opening_of old) before old.world
    → IsLedTo old.config (opening_of old) (before ++ made) new.world
    × IsExplainedAlong old (before ++ made)
