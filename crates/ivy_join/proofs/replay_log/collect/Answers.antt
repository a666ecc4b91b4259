use Rattle.std.proofs.Common.{rules, ◌∙◌, ap, []}
use Rattle.ivy_site.specs.SiteView.{SiteView}
use Rattle.ivy_join.proofs.Collected.{sent_here, kept-one, adds-one}
use Rattle.ivy_join.proofs.Sent.{taken-one, taken_all}
use Rattle.ivy_join.proofs.replay_log.collect.Goals as goal

pub loop-string-preserved : goal.loop-string-preserved
loop-string-preserved g c = record {
  site = ap (λ (x : SiteView). record x { waiting = [] }) c.in-Some.ensures.taken.1
      ∙ c.loop-string.invariant.site;
  kept = λ b there. kept-one c.loop-string.sent c.add.new.self c.in-Some.string b c.add.ensures.one
      (c.loop-string.invariant.kept b there);
  added = adds-one c.args.site.now c.args.sent.now c.loop-string.sent c.add.new.self c.in-Some.string
      c.loop-string.invariant.added c.add.ensures.one
      (sent_here c.loop-string.site c.args.site.now c.in-Some.string c.loop-string.invariant.site
      c.in-Some.ensures.sent);
  taken = taken-one c.args.site.now.waiting c.loop-string.site.waiting c.take_frame.new.self.waiting
      c.loop-string.sent c.add.new.self c.in-Some.string c.loop-string.invariant.taken
      c.in-Some.ensures.taken.0
      (λ b there. kept-one c.loop-string.sent c.add.new.self c.in-Some.string b c.add.ensures.one there)
      (c.in_ok-add.ensures.there);
}

pub returns-clause-taken : goal.returns-clause-taken
returns-clause-taken g c =
    taken_all c.args.site.now.waiting c.loop-string.site.waiting c.loop-string.sent c.loop-string.invariant.taken
    (search rules)

pub returns-in_err-add-clause-kept : goal.returns-in_err-add-clause-kept
returns-in_err-add-clause-kept g c =
    λ b there. kept-one c.loop-string.sent c.add.new.self c.in-Some.string b c.add.ensures.one
    (c.loop-string.invariant.kept b there)

pub returns-in_err-add-clause-added : goal.returns-in_err-add-clause-added
returns-in_err-add-clause-added g c =
    adds-one c.args.site.now c.args.sent.now c.loop-string.sent c.add.new.self c.in-Some.string
    c.loop-string.invariant.added c.add.ensures.one
    (sent_here c.loop-string.site c.args.site.now c.in-Some.string c.loop-string.invariant.site
    c.in-Some.ensures.sent)
