use Rattle.std.proofs.Common.{◌≡◌, [], ◌∷◌, IfSome, length, length-set, slice_set, refl, ap, subst, sym, arith}
use Rattle.std.proofs.lemmas.Option.{slice_get_read}
use Rattle.std.proofs.lemmas.Result.{on_ok_weaker}
use Rattle.ivy_program.specs.OwnCode.{IsFree}
use Rattle.ivy_site.specs.Handed.{site_handed}
use Rattle.ivy_join.proofs.replay_log.hand.Goals as goal

pub index_mut-requires : goal.index_mut-requires
index_mut-requires g c =
    let whole = c.args.sites.now.ok.0 in let node = c.requires.node in omega (arith, whole, node)

pub hand-requires-clause-free : goal.hand-requires-clause-free
hand-requires-clause-free g c =
    let at = slice_get_read c.args.sites.now.items (length c.args.sites.now.items) c.args.node
    c.index_mut.result.now refl c.requires.node c.index_mut.ensures.value in
    subst (λ o. IfSome o (λ s. IsFree s.node.core.process)) at c.requires.free

pub hand-requires-clause-width : goal.hand-requires-clause-width
hand-requires-clause-width g c = c.requires.width

pub returns-clause-ok : goal.returns-clause-ok
returns-clause-ok g c =
    let at = slice_get_read c.args.sites.now.items (length c.args.sites.now.items) c.args.node
    c.index_mut.result.now refl c.requires.node c.index_mut.ensures.value in
    on_ok_weaker c.hand.result
    (λ e. subst (λ o. IfSome o (λ s. slice_set c.args.sites.now.items c.args.node c.hand.new.self
    ≡ slice_set c.args.sites.now.items c.args.node (site_handed ((c.args.call ∷ []) ∷ []) s))) (sym at)
    (ap (slice_set c.args.sites.now.items c.args.node) e)) c.hand.ensures.ok

pub returns-clause-count : goal.returns-clause-count
returns-clause-count g c = length-set c.args.sites.now.items c.args.node c.hand.new.self
