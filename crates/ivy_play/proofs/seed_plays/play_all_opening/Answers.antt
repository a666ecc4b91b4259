use Rattle.std.proofs.Common.{rules}
use Rattle.ivy_play.proofs.Stops.{stop_is_fault}
use Rattle.ivy_play.proofs.seed_plays.play_all_opening.Goals as goal

pub returns-in_err-shorter-clause-fault : goal.returns-in_err-shorter-clause-fault
returns-in_err-shorter-clause-fault g c =
    stop_is_fault c.from_residual-in_err-shorter.result (search rules)

-- the first play comes to rest, so the shorter one does
pub returns-then-not-holds-clause-rests : goal.returns-then-not-holds-clause-rests
returns-then-not-holds-clause-rests g c = c.in_ok-shorter.ensures.rests c.in_ok-report.ensures.rests

pub returns-then-not-holds-clause-drawn : goal.returns-then-not-holds-clause-drawn
returns-then-not-holds-clause-drawn g c = c.in_ok-shorter.ensures.drawn c.in_ok-report.ensures.drawn

-- that very play of the seed fails
pub returns-then-not-holds-clause-seed_fails : goal.returns-then-not-holds-clause-seed_fails
returns-then-not-holds-clause-seed_fails g c =
    let first = c.in_ok-report.ensures in
    record {
      moves = c.in_ok-report.report.moves.items;
      drawn = c.in_ok-report.report.drawn;
      run = c.in_ok-report.report.world;
      began = first.opened;
      outcomes = c.in_ok-report.report.outcomes.items;
      rest = c.in_ok-report.report.rest;
      report = first.report;
      rests = first.rests;
      first = first.drawn;
      given = first.given;
      fails = c.holds.ensures (search rules);
    }
