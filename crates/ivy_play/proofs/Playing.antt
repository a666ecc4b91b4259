-- A play that goes on.
use Rattle.std.proofs.Common.{◌≡◌, ◌≢◌, ℕ, zero, suc, List, [], ◌∷◌, ◌++◌, Result, Ok, Err, OnErr, append-nil, append_assoc, refl, sym, ap, subst, ◌∙◌}
use Rattle.std.specs.Prelude.{IfOk}
use Rattle.ivy_model.specs.declared.Call.{Call}
use Rattle.ivy_model.specs.declared.Config.{Config}
use Rattle.ivy_model.specs.declared.Fault.{Fault}
use Rattle.ivy_model.specs.declared.Row.{Row}
use Rattle.ivy_model.specs.Rows.{calls_of, numbers_in, row}
use Rattle.ivy_moves.specs.declared.Move.{Move}
use Rattle.ivy_moves.specs.declared.Move.TheVariants.{Turn}
use Rattle.ivy_moves.specs.stated.Worlds.{Moves}
use Rattle.ivy_host.specs.declared.opening.Opening.{Opening}
use Rattle.ivy_host.specs.stated.Hosts.{host_rules}
use Rattle.ivy_host.specs.stated.Managers.{managed_ops}
use Rattle.proof_worlds.specs.stated.RunState.{Run}
use Rattle.ivy_world.specs.declared.rest.Rest.{Rest}
use Rattle.ivy_world.specs.declared.rest.Rest.TheVariants.{Going, Still}
use Rattle.ivy_world.specs.HandedWorlds.{BeginsBlock, BeginsTogether, run_handed}
use Rattle.ivy_world.specs.stated.Runs.{IsSameRun}
use Rattle.ivy_world.specs.Settling.{HasSettled}
use Rattle.ivy_play.specs.declared.handed.Handed.{Handed}
use Rattle.ivy_play.specs.Played.{Step, Calls, Makes, moves_in, with_world, PlaysTo, own_opening, Moment, first_moment, HasGoneOn, LeadsOn, IsPlayed, IsStillWhere}

-- what is done after other steps
pub plays_on : (r mid end : Run) (first more : List Step) → PlaysTo r first mid
    → PlaysTo mid more end → PlaysTo r (first ++ more) end
plays_on r mid end [] more is on = subst (λ x. PlaysTo x more end) is on
plays_on r mid end (Calls i calls ∷ steps) more plays on =
    plays_on (run_handed i (calls ∷ []) r) mid end steps more plays on
plays_on r mid end (Makes m ∷ steps) more plays on =
    (plays.0, plays.1, plays_on (with_world r plays.0) mid end steps more plays.2 on)

-- a world that a move led to, as one that goes on
pub went_on : (old new : Run) → IsSameRun old new → new ≡ with_world old new.world
went_on old new same =
    λ k. record {
      config = same.0 k;
      opened = same.2 k;
      programs = same.1 k;
      world = new.world;
    }

moves_more : (steps : List Step) (s : Step)
    → moves_in (steps ++ s ∷ []) ≡ moves_in steps ++ moves_in (s ∷ [])
moves_more [] s = refl
moves_more (Calls i calls ∷ steps) s = moves_more steps s
moves_more (Makes m ∷ steps) s = ap (λ l. m ∷ l) (moves_more steps s)

-- the opening
pub played_opening : (opened : Opening) (c : Config) (moves : List Move) (r : Run) → moves ≡ []
    → r ≡ own_opening opened c → HasGoneOn (first_moment opened c) moves r
played_opening opened c moves r none is = record {
  steps = [];
  made = sym none;
  plays = is;
  config = ap (λ (x : Run). x.config) is;
  opened = ap (λ (x : Run). x.opened) is;
}

-- what has gone on from an opening was played, as its nodes began
pub is_played : (opened : Opening) (c : Config) (moves : List Move) (r : Run)
    → HasGoneOn (first_moment opened c) moves r → IsPlayed c moves r
is_played opened c moves r on =
    subst (λ o. HasGoneOn (first_moment o c) moves r) (sym on.opened) on

made_more : (before : List Move) (steps : List Step) (s : Step) (moves : List Move)
    → before ++ moves_in steps ≡ moves
    → before ++ moves_in (steps ++ s ∷ []) ≡ moves ++ moves_in (s ∷ [])
made_more before steps s moves made =
    ap (λ l. before ++ l) (moves_more steps s)
    ∙ sym (append_assoc before (moves_in steps) (moves_in (s ∷ [])))
    ∙ ap (λ l. l ++ moves_in (s ∷ [])) made

-- one move more
pub played_move : (moves more : List Move) (m : Move) (old new : Run)
    → more ≡ moves ++ m ∷ [] → IsSameRun old new
    → Moves (host_rules managed_ops) old.config old.world m new.world → LeadsOn moves old more new
played_move moves more m old new is same made past p =
    record {
      steps = p.steps ++ Makes m ∷ [];
      made = made_more past.moves p.steps (Makes m) moves p.made ∙ sym is;
      plays = plays_on past.run old new p.steps (Makes m ∷ []) p.plays
          (new.world, made, went_on old new same);
      config = same.0 ∙ p.config;
      opened = same.2 ∙ p.opened;
    }

-- calls that are made together
pub played_calls : (moves : List Move) (i : ℕ) (calls : List Call) (old new : Run)
    → new ≡ run_handed i (calls ∷ []) old → LeadsOn moves old moves new
played_calls moves i calls old new is past p = record {
  steps = p.steps ++ Calls i calls ∷ [];
  made = made_more past.moves p.steps (Calls i calls) moves p.made ∙ append-nil moves;
  plays = plays_on past.run old new p.steps (Calls i calls ∷ []) p.plays is;
  config = ap (λ (x : Run). x.config) is ∙ p.config;
  opened = ap (λ (x : Run). x.opened) is ∙ p.opened;
}

-- nothing was done
pub played_same : (moves more : List Move) (old new : Run) → more ≡ moves → new ≡ old
    → LeadsOn moves old more new
played_same moves more old new is same past p =
    subst (λ l. HasGoneOn past l new) (sym is) (subst (HasGoneOn past moves) (sym same) p)

-- one call more, where it was not refused
pub played_hand : (moves : List Move) (i : ℕ) (old new : Run) (r : Result Handed Fault)
    → IfOk r (λ h. new ≡ run_handed i ((h.call ∷ []) ∷ []) old) → OnErr r (new ≡ old)
    → LeadsOn moves old moves new
played_hand moves i old new (Ok h) ok err = played_calls moves i (h.call ∷ []) old new ok
played_hand moves i old new (Err e) ok err = played_same moves moves old new refl err

-- calls that are made together, and the turn in which they begin
played_begun : (moves more : List Move) (i : ℕ) (calls : List Call) (old new : Run)
    → more ≡ moves ++ Turn i ∷ [] → BeginsTogether i calls old new → LeadsOn moves old more new
played_begun moves more i calls old new is begun past p =
    let mid : Run = run_handed i (calls ∷ []) old in
    played_move moves more (Turn i) mid new is begun.turn.stays begun.turn.moves past
    (played_calls moves i calls old mid refl past p)

-- so many words of a row
pub played_block : (moves more : List Move) (i : ℕ) (kind : Row) (addr n : ℕ)
    (bytes : List ℕ) (old new : Run) → n ≢ 0 → more ≡ moves ++ Turn i ∷ []
    → BeginsBlock i (calls_of (row kind 0 addr (numbers_in n bytes))) old new
    → LeadsOn moves old more new
played_block moves more i kind addr zero bytes old new some is begun past p = absurd (some refl)
played_block moves more i kind addr (suc n) bytes old new some is begun past p =
    played_begun moves more i (calls_of (row kind 0 addr (numbers_in (suc n) bytes))) old new is
    begun past p

-- nothing is said of a world that goes on
pub going : (rest : Rest) (r : Run) → rest ≡ Going → IsStillWhere rest r
going rest r is still = (let wrong : Going ≡ Still = sym is ∙ still in absurd cc)

pub still_same : (rest : Rest) (old new : Run) → new ≡ old → IsStillWhere rest old
    → IsStillWhere rest new
still_same rest old new same was still = subst HasSettled (sym same) (was still)
