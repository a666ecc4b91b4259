use Rattle.std.proofs.Common.{rules, ◌≡◌, ◌≢◌}
use Rattle.ivy_link.specs.declared.Verdict.TheVariants as verdict
use Rattle.ivy_site.proofs.Receiving.{whole_rest, whole_next}
use Rattle.ivy_site.proofs.site.Site.deliver_whole.Goals as goal

pub returns-then-ne-clause-done : goal.returns-then-ne-clause-done
returns-then-ne-clause-done g c =
    let other : c.in_ok-verdict.verdict ≢ verdict.Next = search rules in
    whole_rest c.args.string.now c.in_ok-verdict.verdict c.in_ok-verdict.from c.args.self.now
    c.receive.new.self other c.in_ok-verdict.ensures.done

pub returns-clause-done : goal.returns-clause-done
returns-clause-done g c =
    let next : c.in_ok-verdict.verdict ≡ verdict.Next = search rules in
    whole_next c.args.string.now c.in_ok-verdict.verdict c.in_ok-verdict.from
    c.go_on-refused.result c.args.self.now c.receive.new.self c.go_on-refused.new.self next
    c.in_ok-verdict.ensures.done c.go_on-refused.ensures.done
