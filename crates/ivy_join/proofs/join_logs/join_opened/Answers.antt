use Rattle.std.proofs.Common.{rules, refl, ◌≡◌, All, length, map, sym, ap, subst, ◌∙◌}
use Rattle.std.proofs.lemmas.List.{length-map}
use Rattle.std.proofs.lemmas.Result.{err_from_is_err_and, IfOk-from_err}
use Rattle.ivy_logs.specs.declared.log.Log.{Log}
use Rattle.ivy_model.specs.stated.Config.{IsConfig}
use Rattle.ivy_moves.specs.declared.keep.Keep.TheVariants.{Nothing}
use Rattle.ivy_moves.specs.Marks.{marks}
use Rattle.ivy_logs.specs.Entries.{events_in}
use Rattle.ivy_logs.specs.Sums.{sum_opened}
use Rattle.ivy_join.specs.Calls.{handed_by_logs}
use Rattle.ivy_join.proofs.Calls.{written-by-logs}
use Rattle.ivy_join.specs.Exact.{HaveSent}
use Rattle.ivy_join.specs.ReplaySites.{ArePlayed}
use Rattle.ivy_join.specs.Joined.{AreJoined, AreNoParts, NamesSum, SaysNoParts}
use Rattle.ivy_join.proofs.Named.{none-of-heads, none-of-sums}
use Rattle.ivy_join.proofs.Ended.{first-played, first_programs, first-sent, joined, nothing}
use Rattle.ivy_join.proofs.join_logs.join_opened.Goals as goal

pub play-requires-clause-played : goal.play-requires-clause-played
play-requires-clause-played g c =
    let limits : IsConfig c.args.config = (c.in_ok-check.ensures.accepted.0 refl).limits in
    let each : length c.args.programs.items ≡ c.args.config.nodes =
    sym c.args.programs.ok.0 ∙ sym c.len.ensures ∙ c.if-len-from.false ∙ c.from.ensures in
    subst (ArePlayed c.args.config c.opening_by-opening.result c.in_ok-sites.sites.items) (sym c.new-sent.ensures)
    (first-played c.opening_by-opening.result Nothing c.args.config c.args.programs.items c.in_ok-sites.sites.items limits each
    c.in_ok-sites.ensures.first)

pub play-requires-clause-logs : goal.play-requires-clause-logs
play-requires-clause-logs g c =
    let limits : IsConfig c.args.config = (c.in_ok-check.ensures.accepted.0 refl).limits in
    let each : length c.args.programs.items ≡ c.args.config.nodes =
    sym c.args.programs.ok.0 ∙ sym c.len.ensures ∙ c.if-len-from.false ∙ c.from.ensures in
    c.in_ok-check_all_heads.ensures.count
    ∙ sym (first-played c.opening_by-opening.result Nothing c.args.config c.args.programs.items c.in_ok-sites.sites.items limits each
    c.in_ok-sites.ensures.first).count

pub play-requires-clause-sent : goal.play-requires-clause-sent
play-requires-clause-sent g c =
    let limits : IsConfig c.args.config = (c.in_ok-check.ensures.accepted.0 refl).limits in
    let each : length c.args.programs.items ≡ c.args.config.nodes =
    sym c.args.programs.ok.0 ∙ sym c.len.ensures ∙ c.if-len-from.false ∙ c.from.ensures in
    subst (λ l. HaveSent l c.in_ok-sites.sites.items) (sym c.new-sent.ensures)
    (first-sent c.opening_by-opening.result Nothing c.args.config c.args.programs.items c.in_ok-sites.sites.items limits each
    c.in_ok-sites.ensures.first)

pub play-requires-clause-none : goal.play-requires-clause-none
play-requires-clause-none g c =
    let limits : IsConfig c.args.config = (c.in_ok-check.ensures.accepted.0 refl).limits in
    let each : length c.args.programs.items ≡ c.args.config.nodes =
    sym c.args.programs.ok.0 ∙ sym c.len.ensures ∙ c.if-len-from.false ∙ c.from.ensures in
    nothing c.opening_by-opening.result Nothing c.args.config c.args.programs.items c.in_ok-sites.sites.items limits each c.in_ok-sites.ensures.first

pub returns-in_err-play-clause-refused : goal.returns-in_err-play-clause-refused
returns-in_err-play-clause-refused g c =
    let limits : IsConfig c.args.config = (c.in_ok-check.ensures.accepted.0 refl).limits in
    let each : length c.args.programs.items ≡ c.args.config.nodes =
    sym c.args.programs.ok.0 ∙ sym c.len.ensures ∙ c.if-len-from.false ∙ c.from.ensures in
    let p = err_from_is_err_and c.from_residual-in_err-play.result c.from_residual-in_err-play.ensures.1 in
    rw p.1
    (λ told none. subst (λ o. AreNoParts c.args.config o c.args.programs.items
    (map (λ (x : Log g.row.A.Denot). marks (events_in x.entries.items)) c.args.logs.now)) c.opening_by-opening.ensures
    (subst (λ ps. AreNoParts c.args.config c.opening_by-opening.result ps
    (map (λ (x : Log g.row.A.Denot). marks (events_in x.entries.items)) c.args.logs.now))
    (first_programs c.opening_by-opening.result Nothing c.args.config c.args.programs.items c.in_ok-sites.sites.items limits each
    c.in_ok-sites.ensures.first)
    (c.in_err-play.ensures.refused (subst SaysNoParts p.2 told) none)))

pub returns-clause-heads : goal.returns-clause-heads
returns-clause-heads g c = c.in_ok-check_all_heads.ensures.each

pub returns-clause-joined : goal.returns-clause-joined
returns-clause-joined g c =
    let limits : IsConfig c.args.config = (c.in_ok-check.ensures.accepted.0 refl).limits in
    let each : length c.args.programs.items ≡ c.args.config.nodes =
    sym c.args.programs.ok.0 ∙ sym c.len.ensures ∙ c.if-len-from.false ∙ c.from.ensures in
    let first = c.in_ok-sites.ensures.first in
    let began = first-played c.opening_by-opening.result Nothing c.args.config c.args.programs.items c.in_ok-sites.sites.items limits each first in
    subst (λ o. AreJoined c.args.config o c.args.programs.items
    (map (λ (x : Log g.row.A.Denot). marks (events_in x.entries.items)) c.args.logs.now) c.new.result)
    c.opening_by-opening.ensures
    (subst (AreJoined c.args.config c.opening_by-opening.result c.args.programs.items _) (sym c.new.ensures)
    (joined c.args.config c.opening_by-opening.result c.args.programs.items c.play.new.sites.items c.play.new.sent _
    c.in_ok-play.ensures.played
    (c.in_ok-play.ensures.handed
    ∙ ap (handed_by_logs (map (λ (x : Log g.row.A.Denot). x.entries.items) c.args.logs.now))
    (first_programs c.opening_by-opening.result Nothing c.args.config c.args.programs.items c.in_ok-sites.sites.items limits each first)
    ∙ written-by-logs (map (λ (x : Log g.row.A.Denot). x.entries.items) c.args.logs.now) c.args.programs.items
    c.in_ok-sites.ensures.written)
    (length-map c.args.logs.now _ ∙ c.in_ok-check_all_heads.ensures.count ∙ sym began.count
    ∙ sym c.in_ok-play.ensures.count)
    c.in_ok-play.ensures.lists))

pub returns-in_err-check-clause-heads : goal.returns-in_err-check-clause-heads
returns-in_err-check-clause-heads g c = IfOk-from_err c.from_residual.result _ c.from_residual.ensures.0

pub returns-in_err-check-clause-joined : goal.returns-in_err-check-clause-joined
returns-in_err-check-clause-joined g c = IfOk-from_err c.from_residual.result _ c.from_residual.ensures.0

pub returns-in_err-check-clause-refused : goal.returns-in_err-check-clause-refused
returns-in_err-check-clause-refused g c =
    let p = err_from_is_err_and c.from_residual.result c.from_residual.ensures.1 in
    rw (p.1, p.2) (λ told none. absurd told)

pub returns-in_err-check-clause-named : goal.returns-in_err-check-clause-named
returns-in_err-check-clause-named g c =
    let p = err_from_is_err_and c.from_residual.result c.from_residual.ensures.1 in
    rw (p.1, p.2) (λ told. absurd told)

pub returns-then-len-from-clause-heads : goal.returns-then-len-from-clause-heads
returns-then-len-from-clause-heads g c = tt

pub returns-then-len-from-clause-joined : goal.returns-then-len-from-clause-joined
returns-then-len-from-clause-joined g c = tt

pub returns-then-len-from-clause-refused : goal.returns-then-len-from-clause-refused
returns-then-len-from-clause-refused g c = λ told none. absurd told

pub returns-then-len-from-clause-named : goal.returns-then-len-from-clause-named
returns-then-len-from-clause-named g c = λ told. absurd told

pub returns-in_err-check_all_heads-clause-heads : goal.returns-in_err-check_all_heads-clause-heads
returns-in_err-check_all_heads-clause-heads g c =
    IfOk-from_err c.from_residual-in_err-check_all_heads.result _ c.from_residual-in_err-check_all_heads.ensures.0

pub returns-in_err-check_all_heads-clause-joined : goal.returns-in_err-check_all_heads-clause-joined
returns-in_err-check_all_heads-clause-joined g c =
    IfOk-from_err c.from_residual-in_err-check_all_heads.result _ c.from_residual-in_err-check_all_heads.ensures.0

pub returns-in_err-check_all_heads-clause-refused : goal.returns-in_err-check_all_heads-clause-refused
returns-in_err-check_all_heads-clause-refused g c =
    let p = err_from_is_err_and c.from_residual-in_err-check_all_heads.result c.from_residual-in_err-check_all_heads.ensures.1 in
    rw p.1 (λ told none. absurd (none-of-heads _ _ _ _ c.in_err-check_all_heads.ensures.why (subst SaysNoParts p.2 told)))

pub returns-in_err-check_all_heads-clause-named : goal.returns-in_err-check_all_heads-clause-named
returns-in_err-check_all_heads-clause-named g c =
    let p = err_from_is_err_and c.from_residual-in_err-check_all_heads.result c.from_residual-in_err-check_all_heads.ensures.1 in
    rw p.1 (λ told. absurd (none-of-heads _ _ _ _ c.in_err-check_all_heads.ensures.why (subst SaysNoParts p.2 told)))

pub first_sites-requires-clause-limits : goal.first_sites-requires-clause-limits
first_sites-requires-clause-limits g c = (c.in_ok-check.ensures.accepted.0 refl).limits

pub first_sites-requires-clause-each : goal.first_sites-requires-clause-each
first_sites-requires-clause-each g c =
    sym c.args.programs.ok.0 ∙ sym c.len.ensures ∙ c.if-len-from.false ∙ c.from.ensures

pub returns-in_err-sites-clause-heads : goal.returns-in_err-sites-clause-heads
returns-in_err-sites-clause-heads g c =
    IfOk-from_err c.from_residual-in_err-sites.result _ c.from_residual-in_err-sites.ensures.0

pub returns-in_err-sites-clause-joined : goal.returns-in_err-sites-clause-joined
returns-in_err-sites-clause-joined g c =
    IfOk-from_err c.from_residual-in_err-sites.result _ c.from_residual-in_err-sites.ensures.0

pub returns-in_err-sites-clause-refused : goal.returns-in_err-sites-clause-refused
returns-in_err-sites-clause-refused g c =
    let p = err_from_is_err_and c.from_residual-in_err-sites.result c.from_residual-in_err-sites.ensures.1 in
    rw (p.1, p.2) (λ told none. absurd told)

pub returns-in_err-sites-clause-named : goal.returns-in_err-sites-clause-named
returns-in_err-sites-clause-named g c =
    let p = err_from_is_err_and c.from_residual-in_err-sites.result c.from_residual-in_err-sites.ensures.1 in
    rw (p.1, p.2) (λ told. absurd told)

pub returns-in_err-play-clause-heads : goal.returns-in_err-play-clause-heads
returns-in_err-play-clause-heads g c =
    IfOk-from_err c.from_residual-in_err-play.result _ c.from_residual-in_err-play.ensures.0

pub returns-in_err-play-clause-joined : goal.returns-in_err-play-clause-joined
returns-in_err-play-clause-joined g c =
    IfOk-from_err c.from_residual-in_err-play.result _ c.from_residual-in_err-play.ensures.0

pub returns-in_err-play-clause-named : goal.returns-in_err-play-clause-named
returns-in_err-play-clause-named g c =
    let p = err_from_is_err_and c.from_residual-in_err-play.result c.from_residual-in_err-play.ensures.1 in
    rw p.1 (λ told. c.in_ok-check_all_heads.ensures.each)

pub returns-clause-refused : goal.returns-clause-refused
returns-clause-refused g c = tt

pub returns-clause-named : goal.returns-clause-named
returns-clause-named g c = tt

pub returns-in_err-check-clause-summed : goal.returns-in_err-check-clause-summed
returns-in_err-check-clause-summed g c = IfOk-from_err c.from_residual.result _ c.from_residual.ensures.0

pub returns-in_err-check_all_heads-clause-summed : goal.returns-in_err-check_all_heads-clause-summed
returns-in_err-check_all_heads-clause-summed g c = IfOk-from_err c.from_residual-in_err-check_all_heads.result _ c.from_residual-in_err-check_all_heads.ensures.0

pub returns-in_err-check_sums-clause-heads : goal.returns-in_err-check_sums-clause-heads
returns-in_err-check_sums-clause-heads g c = IfOk-from_err c.from_residual-in_err-check_sums.result _ c.from_residual-in_err-check_sums.ensures.0

pub returns-in_err-check_sums-clause-joined : goal.returns-in_err-check_sums-clause-joined
returns-in_err-check_sums-clause-joined g c = IfOk-from_err c.from_residual-in_err-check_sums.result _ c.from_residual-in_err-check_sums.ensures.0

pub returns-in_err-check_sums-clause-summed : goal.returns-in_err-check_sums-clause-summed
returns-in_err-check_sums-clause-summed g c = IfOk-from_err c.from_residual-in_err-check_sums.result _ c.from_residual-in_err-check_sums.ensures.0

pub returns-in_err-sites-clause-summed : goal.returns-in_err-sites-clause-summed
returns-in_err-sites-clause-summed g c = IfOk-from_err c.from_residual-in_err-sites.result _ c.from_residual-in_err-sites.ensures.0

pub returns-in_err-play-clause-summed : goal.returns-in_err-play-clause-summed
returns-in_err-play-clause-summed g c = IfOk-from_err c.from_residual-in_err-play.result _ c.from_residual-in_err-play.ensures.0

pub returns-in_err-check_sums-clause-refused : goal.returns-in_err-check_sums-clause-refused
returns-in_err-check_sums-clause-refused g c =
    let p = err_from_is_err_and c.from_residual-in_err-check_sums.result c.from_residual-in_err-check_sums.ensures.1 in
    rw p.1 (λ told none. absurd (none-of-sums _ _ _ c.in_err-check_sums.ensures.why (subst SaysNoParts p.2 told)))

pub returns-in_err-check_sums-clause-named : goal.returns-in_err-check_sums-clause-named
returns-in_err-check_sums-clause-named g c =
    let p = err_from_is_err_and c.from_residual-in_err-check_sums.result c.from_residual-in_err-check_sums.ensures.1 in
    rw p.1 (λ told. c.in_ok-check_all_heads.ensures.each)

pub returns-then-len-from-clause-summed : goal.returns-then-len-from-clause-summed
returns-then-len-from-clause-summed g c = tt

pub returns-clause-summed : goal.returns-clause-summed
returns-clause-summed g c =
    let is : c.sum_opened.result ≡ sum_opened c.args.steady c.args.config c.args.programs.items = first_of (search rules, cc) in
    subst (λ s. All (NamesSum s) (map (λ (x : Log g.row.A.Denot). x.sum) c.args.logs.now)) is
    c.in_ok-check_sums.ensures.all
