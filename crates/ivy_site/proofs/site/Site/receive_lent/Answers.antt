use Rattle.ivy_site.proofs.Heads.{held_spelled}
use Rattle.ivy_site.proofs.Receiving.{received_none, received_some, received_early}
use Rattle.ivy_site.proofs.site.Site.receive_lent.Goals as goal

pub hold-requires : goal.hold-requires
hold-requires g c =
    record {
      early = received_early c.args.bytes.now c.in-Some.held c.in_ok-verdict.verdict
          c.in_ok-verdict.from c.in_ok-verdict.early c.args.self.now c.hear.new.self c.in-Some.is
          c.in_ok-verdict.ensures.done;
      spelled = held_spelled c.args.bytes.now c.in-Some.held c.in_ok-verdict.verdict
          c.in_ok-verdict.from c.in_ok-verdict.early c.args.self.now c.hear.new.self c.in-Some.is
          c.in_ok-verdict.ensures.done c.in_ok-verdict.ensures.same.0 c.requires.spelled;
    }

pub returns-in-Some-clause-done : goal.returns-in-Some-clause-done
returns-in-Some-clause-done g c =
    received_some c.args.bytes.now c.in-Some.held c.in_ok-verdict.verdict c.in_ok-verdict.from
    c.in_ok-verdict.early c.args.self.now c.hear.new.self c.hold.new.self c.in-Some.is
    c.in_ok-verdict.ensures.done
    c.in_ok-verdict.ensures.same.0 c.hold.ensures.after

pub returns-in_default-clause-done : goal.returns-in_default-clause-done
returns-in_default-clause-done g c =
    received_none c.args.bytes.now c.in_ok-verdict.verdict c.in_ok-verdict.from
    c.in_ok-verdict.early c.args.self.now c.hear.new.self c.in_default.is
    c.in_ok-verdict.ensures.done
