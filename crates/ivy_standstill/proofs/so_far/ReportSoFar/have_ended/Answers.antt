use Rattle.std.proofs.Common.{rules, ◌≡◌, ◌↔◌, List, IsTrue, map, subst}
use Rattle.ivy_standstill.specs.Ends.{HaveEnded}
use Rattle.ivy_standstill.specs.SoFar.{NodeSoFar, so_far_of}
use Rattle.ivy_standstill.proofs.so_far.ReportSoFar.have_ended.Goals as goal

pub returns : goal.returns
returns g c =
    let same : map so_far_of c.deref.result.now ≡ c.args.self.now = search rules in
    subst (λ (ns : List NodeSoFar). IsTrue c.have_ended.result ↔ HaveEnded ns) same
    c.have_ended.ensures
