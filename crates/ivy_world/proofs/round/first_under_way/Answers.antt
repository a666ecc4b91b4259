use Rattle.std.proofs.Common.{length, refl, arith}
use Rattle.std.proofs.lemmas.Option.{slice_get_read}
use Rattle.ivy_world.proofs.WorldRounds.{none_here}
use Rattle.ivy_world.proofs.round.first_under_way.Goals as goal

pub returns-in-Some-clause-found : goal.returns-in-Some-clause-found
returns-in-Some-clause-found g c = (
  record {
    string = c.index-sent-index.result;
    there = slice_get_read c.args.sent.now (length c.args.sent.now) c.loop-index.index
        c.index-sent-index.result refl c.loop-index-test.true c.index-sent-index.is;
    way = c.in-Some.ensures;
  },
  c.loop-index.auto.index,
)

pub loop-index-preserved : goal.loop-index-preserved
loop-index-preserved g c =
    none_here c.args.sites.now c.args.sent.now c.args.from c.loop-index.index
    c.index-sent-index.result
    (slice_get_read c.args.sent.now (length c.args.sent.now) c.loop-index.index
    c.index-sent-index.result refl c.loop-index-test.true c.index-sent-index.is)
    c.in_default.ensures c.loop-index.invariant

pub returns-clause-first : goal.returns-clause-first
returns-clause-first g c =
    λ index to above below.
    c.loop-index.invariant index to above (omega (arith, below, c.loop-index-test.false))
