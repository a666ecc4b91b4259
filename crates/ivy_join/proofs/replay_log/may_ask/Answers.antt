use Rattle.std.proofs.Common.{IfSome, length, refl, subst, sym}
use Rattle.std.proofs.lemmas.Option.{slice_get_read}
use Rattle.ivy_program.specs.OwnCode.{IsFree}
use Rattle.ivy_join.proofs.replay_log.may_ask.Goals as goal

pub returns-then-has_width-clause-free : goal.returns-then-has_width-clause-free
returns-then-has_width-clause-free g c =
    let at = slice_get_read c.args.sites.now (length c.args.sites.now) c.args.node
    c.index-sites-node.result refl c.requires c.index-sites-node.is in
    λ on. subst (λ o. IfSome o (λ s. IsFree s.node.core.process)) (sym at) (c.is_free.ensures.0 on)

pub returns-then-has_width-clause-width : goal.returns-then-has_width-clause-width
returns-then-has_width-clause-width g c = λ on. c.has_width.ensures.0 c.if-has_width.true
