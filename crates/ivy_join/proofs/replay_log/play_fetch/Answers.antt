use Rattle.std.proofs.Common.{◌≡◌, slice_get, slice_set, Some, length, refl, sym, ap, subst, ◌∙◌}
use Rattle.std.specs.Prelude.{MatchBool}
use Rattle.std.proofs.lemmas.Option.{slice_get_read}
use Rattle.ivy_moves.proofs.Places.{set_same}
use Rattle.ivy_site.specs.Calls.{BeginsFetch}
use Rattle.ivy_join.specs.ReplaySites.{ArePlayed}
use Rattle.ivy_join.proofs.Fetched.{fetch-handed, fetch-made, fetch-played}
use Rattle.ivy_join.proofs.replay_log.play_fetch.Goals as goal

pub returns-then-not-begun-clause-played : goal.returns-then-not-begun-clause-played
returns-then-not-begun-clause-played g c =
    let old = c.index_mut-site.result.now in
    let there : slice_get c.args.sites.now.items c.args.node ≡ Some c.index_mut-site.result.now =
    slice_get_read c.args.sites.now.items (length c.args.sites.now.items) c.args.node old refl
    c.requires.node c.index_mut-site.ensures.value in
    let same : c.make_fetch.new.site ≡ c.index_mut-site.result.now =
    subst (λ b. MatchBool b (BeginsFetch c.args.page c.args.write c.index_mut-site.result.now c.make_fetch.new.site)
    (c.make_fetch.new.site ≡ c.index_mut-site.result.now)) c.if-not-begun.true c.in_ok-begun.ensures in
    subst (λ ss. ArePlayed c.args.config.now c.args.opening ss c.args.sent.now)
    (sym (ap (slice_set c.args.sites.now.items c.args.node) same
    ∙ set_same c.args.sites.now.items c.args.node old there))
    c.requires.played

pub returns-clause-played : goal.returns-clause-played
returns-clause-played g c =
    let old = c.index_mut-site.result.now in
    let there : slice_get c.args.sites.now.items c.args.node ≡ Some c.index_mut-site.result.now =
    slice_get_read c.args.sites.now.items (length c.args.sites.now.items) c.args.node old refl
    c.requires.node c.index_mut-site.ensures.value in
    let begins : BeginsFetch c.args.page c.args.write c.index_mut-site.result.now c.make_fetch.new.site =
    subst (λ b. MatchBool b (BeginsFetch c.args.page c.args.write c.index_mut-site.result.now c.make_fetch.new.site)
    (c.make_fetch.new.site ≡ c.index_mut-site.result.now)) c.if-not-begun.false c.in_ok-begun.ensures in
    fetch-played c.args.config.now c.args.opening c.args.sites.now.items c.args.sent.now c.collect.new.sent
    c.args.node c.args.page c.args.write old c.make_fetch.new.site c.collect.new.site c.requires.played there begins
    c.event_list.ensures.made c.event_list-2.ensures.made c.collect.ensures.site c.collect.ensures.kept
    c.collect.ensures.added

pub returns-clause-handed : goal.returns-clause-handed
returns-clause-handed g c =
    let old = c.index_mut-site.result.now in
    let there : slice_get c.args.sites.now.items c.args.node ≡ Some c.index_mut-site.result.now =
    slice_get_read c.args.sites.now.items (length c.args.sites.now.items) c.args.node old refl
    c.requires.node c.index_mut-site.ensures.value in
    let begins : BeginsFetch c.args.page c.args.write c.index_mut-site.result.now c.make_fetch.new.site =
    subst (λ b. MatchBool b (BeginsFetch c.args.page c.args.write c.index_mut-site.result.now c.make_fetch.new.site)
    (c.make_fetch.new.site ≡ c.index_mut-site.result.now)) c.if-not-begun.false c.in_ok-begun.ensures in
    fetch-handed c.args.config.now c.args.opening c.args.sites.now.items c.args.sent.now c.collect.new.sent
    c.args.node c.args.page c.args.write old c.make_fetch.new.site c.collect.new.site c.requires.played there begins
    c.event_list.ensures.made c.event_list-2.ensures.made c.collect.ensures.site c.collect.ensures.kept
    c.collect.ensures.added

pub returns-clause-exact : goal.returns-clause-exact
returns-clause-exact g c =
    let old = c.index_mut-site.result.now in
    let there : slice_get c.args.sites.now.items c.args.node ≡ Some c.index_mut-site.result.now =
    slice_get_read c.args.sites.now.items (length c.args.sites.now.items) c.args.node old refl
    c.requires.node c.index_mut-site.ensures.value in
    let begins : BeginsFetch c.args.page c.args.write c.index_mut-site.result.now c.make_fetch.new.site =
    subst (λ b. MatchBool b (BeginsFetch c.args.page c.args.write c.index_mut-site.result.now c.make_fetch.new.site)
    (c.make_fetch.new.site ≡ c.index_mut-site.result.now)) c.if-not-begun.false c.in_ok-begun.ensures in
    λ have. fetch-made c.args.config.now c.args.opening c.args.sites.now.items c.args.sent.now c.collect.new.sent
    c.args.node c.args.page c.args.write old c.make_fetch.new.site c.collect.new.site c.requires.played there begins
    c.event_list.ensures.made c.event_list-2.ensures.made c.collect.ensures.site c.collect.ensures.kept
    c.collect.ensures.added have c.in_ok-collect.ensures.taken c.in_ok-collect.ensures.none
