use Rattle.std.proofs.Common.{sym}
use Rattle.ivy_charts.proofs.StringRuns.{one_more}
use Rattle.ivy_charts.proofs.receivers.Receivers.follow.Goals as goal

pub loop-preserved : goal.loop-preserved
loop-preserved c = record {
  so_far = one_more c.args.self.now c.args.to c.args.source c.args.number c.args.served.now.items
      c.loop.served.items c.push.new.self.items c.loop.last c.loop.counter c.in-Some.place
      c.loop.invariant.so_far (sym c.in-Some.ensures.place) c.in_ok-push.ensures.items;
}
