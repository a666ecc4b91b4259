use Rattle.std.proofs.Common.{rules, arith, ◌≡◌, ◌<◌, ℕ, ◌∙◌, sym, ap, subst}
use Rattle.ivy_link.specs.stated.LinkLimits.{most_ahead}
use Rattle.ivy_model.specs.declared.Config.{Config}
use Rattle.ivy_embedded.proofs.Onward.{HasGone, gone_all, gone_more, gone_to_end, gone_to_refusal}
use Rattle.ivy_embedded.proofs.embedded.Embedded.go_on.Goals as goal

pub go_on_once-requires : goal.go_on_once-requires
go_on_once-requires c = record {
  from = subst (λ (k : Config). c.args.from < k.nodes) (sym c.loop.invariant.config) c.requires.from;
}

pub loop-preserved : goal.loop-preserved
loop-preserved c = record {
  gone = gone_more c.args.from c.loop.counter c.args.self.now c.loop.self c.go_on_once.new.self
      c.loop.invariant.gone (c.in-Ok.ensures.done (search rules));
  config = c.in-Ok.ensures.config ∙ c.loop.invariant.config;
}
