use Rattle.std.proofs.Common.{refl, [], length, map, ap, sym, subst, ◌∙◌}
use Rattle.std.proofs.lemmas.List.{length-map, length-replicate}
use Rattle.std.proofs.lemmas.Result.{IfOk-from_err}
use Rattle.ivy_model.specs.stated.Config.{IsConfig}
use Rattle.ivy_moves.specs.declared.keep.Keep.TheVariants.{History}
use Rattle.ivy_program.specs.stated.Programs.{Called}
use Rattle.ivy_world.specs.HandedWorlds.{own_code}
use Rattle.ivy_join.specs.Calls.{handed_by_logs}
use Rattle.ivy_join.specs.Exact.{HaveSent}
use Rattle.ivy_join.specs.ReplaySites.{ArePlayed}
use Rattle.ivy_join.proofs.Calls.{own-by-logs}
use Rattle.ivy_join.specs.Joined.{opening_by}
use Rattle.ivy_join.specs.OwnJoined.{AreOwnJoined, AreTold}
use Rattle.ivy_join.proofs.Ended.{first-played, first_programs, first-sent, nothing}
use Rattle.ivy_join.proofs.Ordered.{own-answered, own-joined}
use Rattle.ivy_join.proofs.join_logs.join_own_opened.Goals as goal

pub play-requires-clause-played : goal.play-requires-clause-played
play-requires-clause-played g c =
    let limits : IsConfig c.args.config = c.in_ok-check_wide.ensures.accepted.0 refl in
    subst (ArePlayed c.args.config c.opening_by-opening.result c.in_ok-sites.sites.items) (sym c.new-sent.ensures)
    (first-played c.opening_by-opening.result History c.args.config (own_code c.args.config.nodes) c.in_ok-sites.sites.items limits
    (length-replicate c.args.config.nodes (Called [] [])) c.in_ok-sites.ensures.first)

pub play-requires-clause-logs : goal.play-requires-clause-logs
play-requires-clause-logs g c =
    let limits : IsConfig c.args.config = c.in_ok-check_wide.ensures.accepted.0 refl in
    c.in_ok-check_all_heads.ensures.count
    ∙ sym (first-played c.opening_by-opening.result History c.args.config (own_code c.args.config.nodes) c.in_ok-sites.sites.items limits
    (length-replicate c.args.config.nodes (Called [] [])) c.in_ok-sites.ensures.first).count

pub check_answers-requires : goal.check_answers-requires
check_answers-requires g c =
    let limits : IsConfig c.args.config = c.in_ok-check_wide.ensures.accepted.0 refl in
    let began = first-played c.opening_by-opening.result History c.args.config (own_code c.args.config.nodes) c.in_ok-sites.sites.items limits
    (length-replicate c.args.config.nodes (Called [] [])) c.in_ok-sites.ensures.first in
    record {
      each = c.in_ok-check_all_heads.ensures.count ∙ sym began.count ∙ sym c.in_ok-play.ensures.count
          ∙ ap length (sym c.deref.ensures.value);
    }

pub play-requires-clause-sent : goal.play-requires-clause-sent
play-requires-clause-sent g c =
    let limits : IsConfig c.args.config = c.in_ok-check_wide.ensures.accepted.0 refl in
    subst (λ l. HaveSent l c.in_ok-sites.sites.items) (sym c.new-sent.ensures)
    (first-sent c.opening_by-opening.result History c.args.config (own_code c.args.config.nodes) c.in_ok-sites.sites.items limits
    (length-replicate c.args.config.nodes (Called [] [])) c.in_ok-sites.ensures.first)

pub play-requires-clause-none : goal.play-requires-clause-none
play-requires-clause-none g c =
    let limits : IsConfig c.args.config = c.in_ok-check_wide.ensures.accepted.0 refl in
    nothing c.opening_by-opening.result History c.args.config (own_code c.args.config.nodes) c.in_ok-sites.sites.items limits
    (length-replicate c.args.config.nodes (Called [] [])) c.in_ok-sites.ensures.first

pub returns-clause-heads : goal.returns-clause-heads
returns-clause-heads g c = c.in_ok-check_all_heads.ensures.each

pub returns-clause-joined : goal.returns-clause-joined
returns-clause-joined g c =
    let limits : IsConfig c.args.config = c.in_ok-check_wide.ensures.accepted.0 refl in
    let began = first-played c.opening_by-opening.result History c.args.config (own_code c.args.config.nodes) c.in_ok-sites.sites.items limits
    (length-replicate c.args.config.nodes (Called [] [])) c.in_ok-sites.ensures.first in
    subst (λ o. AreOwnJoined c.args.config o (map (λ l. l.entries.items) c.args.logs.now) c.new.result)
    c.opening_by-opening.ensures
    (subst (AreOwnJoined c.args.config c.opening_by-opening.result (map (λ l. l.entries.items) c.args.logs.now)) (sym c.new.ensures)
    (own-joined _ c.args.config c.opening_by-opening.result c.args.logs.now c.play.new.sites.items c.play.new.sent
    c.in_ok-play.ensures.played
    (c.in_ok-play.ensures.handed
    ∙ ap (handed_by_logs (map (λ l. l.entries.items) c.args.logs.now))
    (first_programs c.opening_by-opening.result History c.args.config (own_code c.args.config.nodes) c.in_ok-sites.sites.items limits
    (length-replicate c.args.config.nodes (Called [] [])) c.in_ok-sites.ensures.first
    ∙ ap own_code (sym c.in_ok-check_all_heads.ensures.count ∙ sym (length-map c.args.logs.now _)))
    ∙ own-by-logs (map (λ l. l.entries.items) c.args.logs.now))
    (c.in_ok-check_all_heads.ensures.count ∙ sym began.count ∙ sym c.in_ok-play.ensures.count)
    c.in_ok-play.ensures.lists
    (subst (AreTold (map (λ l. l.entries.items) c.args.logs.now)) c.deref.ensures.value
    c.in_ok-check_answers.ensures)))

pub returns-clause-answered : goal.returns-clause-answered
returns-clause-answered g c = own-answered c.args.config (opening_by c.args.steady) (map (λ l. l.entries.items) c.args.logs.now)
    c.new.result (returns-clause-joined g c)

pub returns-in_err-check_wide-clause-heads : goal.returns-in_err-check_wide-clause-heads
returns-in_err-check_wide-clause-heads g c = IfOk-from_err c.from_residual.result _ c.from_residual.ensures.0

pub returns-in_err-check_wide-clause-joined : goal.returns-in_err-check_wide-clause-joined
returns-in_err-check_wide-clause-joined g c = IfOk-from_err c.from_residual.result _ c.from_residual.ensures.0

pub returns-in_err-check_wide-clause-answered : goal.returns-in_err-check_wide-clause-answered
returns-in_err-check_wide-clause-answered g c = IfOk-from_err c.from_residual.result _ c.from_residual.ensures.0

pub returns-in_err-check_all_heads-clause-heads : goal.returns-in_err-check_all_heads-clause-heads
returns-in_err-check_all_heads-clause-heads g c =
    IfOk-from_err c.from_residual-in_err-check_all_heads.result _ c.from_residual-in_err-check_all_heads.ensures.0

pub returns-in_err-check_all_heads-clause-joined : goal.returns-in_err-check_all_heads-clause-joined
returns-in_err-check_all_heads-clause-joined g c =
    IfOk-from_err c.from_residual-in_err-check_all_heads.result _ c.from_residual-in_err-check_all_heads.ensures.0

pub returns-in_err-check_all_heads-clause-answered : goal.returns-in_err-check_all_heads-clause-answered
returns-in_err-check_all_heads-clause-answered g c =
    IfOk-from_err c.from_residual-in_err-check_all_heads.result _ c.from_residual-in_err-check_all_heads.ensures.0

pub returns-in_err-sites-clause-heads : goal.returns-in_err-sites-clause-heads
returns-in_err-sites-clause-heads g c =
    IfOk-from_err c.from_residual-in_err-sites.result _ c.from_residual-in_err-sites.ensures.0

pub returns-in_err-sites-clause-joined : goal.returns-in_err-sites-clause-joined
returns-in_err-sites-clause-joined g c =
    IfOk-from_err c.from_residual-in_err-sites.result _ c.from_residual-in_err-sites.ensures.0

pub returns-in_err-sites-clause-answered : goal.returns-in_err-sites-clause-answered
returns-in_err-sites-clause-answered g c =
    IfOk-from_err c.from_residual-in_err-sites.result _ c.from_residual-in_err-sites.ensures.0

pub returns-in_err-play-clause-heads : goal.returns-in_err-play-clause-heads
returns-in_err-play-clause-heads g c =
    IfOk-from_err c.from_residual-in_err-play.result _ c.from_residual-in_err-play.ensures.0

pub returns-in_err-play-clause-joined : goal.returns-in_err-play-clause-joined
returns-in_err-play-clause-joined g c =
    IfOk-from_err c.from_residual-in_err-play.result _ c.from_residual-in_err-play.ensures.0

pub returns-in_err-play-clause-answered : goal.returns-in_err-play-clause-answered
returns-in_err-play-clause-answered g c =
    IfOk-from_err c.from_residual-in_err-play.result _ c.from_residual-in_err-play.ensures.0

pub returns-in_err-check_answers-clause-heads : goal.returns-in_err-check_answers-clause-heads
returns-in_err-check_answers-clause-heads g c =
    IfOk-from_err c.from_residual-in_err-check_answers.result _ c.from_residual-in_err-check_answers.ensures.0

pub returns-in_err-check_answers-clause-joined : goal.returns-in_err-check_answers-clause-joined
returns-in_err-check_answers-clause-joined g c =
    IfOk-from_err c.from_residual-in_err-check_answers.result _ c.from_residual-in_err-check_answers.ensures.0

pub returns-in_err-check_answers-clause-answered : goal.returns-in_err-check_answers-clause-answered
returns-in_err-check_answers-clause-answered g c =
    IfOk-from_err c.from_residual-in_err-check_answers.result _ c.from_residual-in_err-check_answers.ensures.0

pub open_sites-requires : goal.open_sites-requires
open_sites-requires g c = record { limits = c.in_ok-check_wide.ensures.accepted.0 refl }
