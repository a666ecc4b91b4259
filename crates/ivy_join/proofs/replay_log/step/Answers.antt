use Rattle.std.proofs.Common.{◌≡◌, slice_get, Some, length, length-set, refl, arith}
use Rattle.std.proofs.lemmas.Result.{IfOk-from_err}
use Rattle.std.proofs.lemmas.Option.{slice_get_read}
use Rattle.ivy_join.specs.ReplaySites.{GoesOnBy}
use Rattle.ivy_join.proofs.Played.{took-old, limits-old, programs-same, played_on}
use Rattle.ivy_join.proofs.Sent.{step-says}
use Rattle.ivy_join.proofs.replay_log.step.Goals as goal

pub returns-clause-played : goal.returns-clause-played
returns-clause-played g c =
    let old = c.index_mut-site.result.now in
    let there : slice_get c.args.sites.now.items c.args.node ≡ Some c.index_mut-site.result.now =
    slice_get_read c.args.sites.now.items (length c.args.sites.now.items) c.args.node old refl
    c.requires.node c.index_mut-site.ensures.value in
    let own = c.requires.played.each c.args.node old there in
    let on : GoesOnBy c.args.sent.now c.index_mut-site.result.now c.make.new.site =
    c.make.ensures.on c.args.sent.now
    (limits-old c.args.config.now c.args.opening c.args.sent.now c.args.node old c.requires.played.limits own)
    (took-old c.args.config.now c.args.opening c.args.sent.now c.args.node old own) c.requires.there in
    played_on c.args.config.now c.args.opening c.args.sites.now.items c.args.sent.now c.collect.new.sent c.args.node old
    c.make.new.site c.collect.new.site c.requires.played there on c.event_list.ensures.made
    c.event_list-2.ensures.made c.collect.ensures.site c.collect.ensures.kept c.collect.ensures.added

pub returns-clause-programs : goal.returns-clause-programs
returns-clause-programs g c =
    let old = c.index_mut-site.result.now in
    let there : slice_get c.args.sites.now.items c.args.node ≡ Some c.index_mut-site.result.now =
    slice_get_read c.args.sites.now.items (length c.args.sites.now.items) c.args.node old refl
    c.requires.node c.index_mut-site.ensures.value in
    let own = c.requires.played.each c.args.node old there in
    let on : GoesOnBy c.args.sent.now c.index_mut-site.result.now c.make.new.site =
    c.make.ensures.on c.args.sent.now
    (limits-old c.args.config.now c.args.opening c.args.sent.now c.args.node old c.requires.played.limits own)
    (took-old c.args.config.now c.args.opening c.args.sent.now c.args.node old own) c.requires.there in
    programs-same c.args.config.now c.args.opening c.args.sites.now.items c.args.sent.now c.collect.new.sent c.args.node
    old c.make.new.site c.collect.new.site c.requires.played there on c.event_list.ensures.made
    c.event_list-2.ensures.made c.collect.ensures.site c.collect.ensures.kept c.collect.ensures.added

pub returns-clause-exact : goal.returns-clause-exact
returns-clause-exact g c =
    let old = c.index_mut-site.result.now in
    let there : slice_get c.args.sites.now.items c.args.node ≡ Some c.index_mut-site.result.now =
    slice_get_read c.args.sites.now.items (length c.args.sites.now.items) c.args.node old refl
    c.requires.node c.index_mut-site.ensures.value in
    let own = c.requires.played.each c.args.node old there in
    let limits = limits-old c.args.config.now c.args.opening c.args.sent.now c.args.node old c.requires.played.limits own in
    let on : GoesOnBy c.args.sent.now c.index_mut-site.result.now c.make.new.site =
    c.make.ensures.on c.args.sent.now limits (took-old c.args.config.now c.args.opening c.args.sent.now c.args.node old own)
    c.requires.there in
    λ have. step-says c.args.sites.now.items c.args.node c.args.event.now old c.make.new.site c.collect.new.site
    c.args.sent.now c.collect.new.sent c.in_ok-happens.happens there own.made limits have on
    c.in_ok-happens.ensures.made c.in_ok-happens.ensures.exact c.collect.ensures.site c.collect.ensures.kept
    c.in_ok-collect.ensures.taken c.in_ok-collect.ensures.none

pub index_mut-site-requires : goal.index_mut-site-requires
index_mut-site-requires g c =
    let whole = c.args.sites.now.ok.0 in let node = c.requires.node in omega (arith, whole, node)

pub returns-in_err-happens-clause-played : goal.returns-in_err-happens-clause-played
returns-in_err-happens-clause-played g c = IfOk-from_err c.from_residual.result _ c.from_residual.ensures.0

pub returns-in_err-happens-clause-programs : goal.returns-in_err-happens-clause-programs
returns-in_err-happens-clause-programs g c = IfOk-from_err c.from_residual.result _ c.from_residual.ensures.0

pub returns-in_err-happens-clause-exact : goal.returns-in_err-happens-clause-exact
returns-in_err-happens-clause-exact g c = IfOk-from_err c.from_residual.result _ c.from_residual.ensures.0

pub returns-in_err-happens-clause-count : goal.returns-in_err-happens-clause-count
returns-in_err-happens-clause-count g c = length-set c.args.sites.now.items c.args.node c.make.new.site

pub returns-in_err-collect-clause-played : goal.returns-in_err-collect-clause-played
returns-in_err-collect-clause-played g c =
    IfOk-from_err c.from_residual-in_err-collect.result _ c.from_residual-in_err-collect.ensures.0

pub returns-in_err-collect-clause-programs : goal.returns-in_err-collect-clause-programs
returns-in_err-collect-clause-programs g c =
    IfOk-from_err c.from_residual-in_err-collect.result _ c.from_residual-in_err-collect.ensures.0

pub returns-in_err-collect-clause-exact : goal.returns-in_err-collect-clause-exact
returns-in_err-collect-clause-exact g c =
    IfOk-from_err c.from_residual-in_err-collect.result _ c.from_residual-in_err-collect.ensures.0

pub returns-in_err-collect-clause-count : goal.returns-in_err-collect-clause-count
returns-in_err-collect-clause-count g c = length-set c.args.sites.now.items c.args.node c.collect.new.site

pub returns-clause-count : goal.returns-clause-count
returns-clause-count g c = length-set c.args.sites.now.items c.args.node c.collect.new.site
