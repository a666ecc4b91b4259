use Rattle.std.proofs.Common.{rules, ◌≡◌, true, false, length, length-set, map, option_map, get_or, refl, sym, ap, subst, ◌∙◌, arith}
use Rattle.std.proofs.lemmas.List.{length-map}
use Rattle.std.proofs.lemmas.Result.{err_from_is_err_and, IfOk-from_err}
use Rattle.std.proofs.lemmas.Option.{slice_get-get_or, slice_get-map, slice_get_read}
use Rattle.ivy_world.specs.WorldSites.{programs_of}
use Rattle.ivy_join.specs.Joined.{SaysNoParts}
use Rattle.ivy_join.specs.ReplaySites.{program_in}
use Rattle.ivy_join.proofs.Calls.{hands-begin, have-none, have-played}
use Rattle.ivy_join.proofs.Counted.{each-on, made-at-map, stuck-all}
use Rattle.ivy_join.proofs.LogRounds.{few-on, less-on, none_of, stuck-on}
use Rattle.ivy_logs.specs.declared.log.Log.{Log}
use Rattle.ivy_join.proofs.replay_log.play_round.Goals as goal
use Rattle.ivy_join.proofs.replay_log.play_round.Goals.{then-branch, else-branch}

not-yes : false ≡ true → ⊥
not-yes is = cc

pub play_log-requires-clause-here : goal.play_log-requires-clause-here
play_log-requires-clause-here g c =
    let log = slice_get_read c.args.logs.now (length c.args.logs.now) c.loop-node.node
    c.index-logs-node.result refl c.loop-node-test.true c.index-logs-node.is in
    let was = slice_get-get_or c.loop-node.made c.loop-node.node 0 (search rules) in
    made-at-map (λ x. x.entries.items) c.args.logs.now c.loop-node.made c.loop-node.sites.items c.loop-node.node
    c.index-logs-node.result (get_or c.loop-node.made c.loop-node.node 0) c.loop-node.invariant.each log was

pub returns-in_err-play_log-clause-refused : goal.returns-in_err-play_log-clause-refused
returns-in_err-play_log-clause-refused g c =
    let p = err_from_is_err_and c.from_residual.result c.from_residual.ensures.1 in
    let f = λ (x : Log g.row.A.Denot). x.entries.items in
    let log = slice_get_read c.args.logs.now (length c.args.logs.now) c.loop-node.node
    c.index-logs-node.result refl c.loop-node-test.true c.index-logs-node.is in
    let inv = c.loop-node.invariant in
    let logs = length-map c.args.logs.now f in
    let before : length c.args.made.now ≡ length (map (λ (x : Log g.row.A.Denot). x.entries.items) c.args.logs.now) =
    c.requires.made ∙ sym c.requires.logs ∙ sym logs in
    let olds = length-map c.args.sites.now.items program_in in
    rw p.1
    (λ told none. none_of f c.args.config.now c.args.opening c.loop-node.sites.items c.loop-node.sent
    (programs_of c.args.sites.now.items) c.args.logs.now c.loop-node.node c.index-logs-node.result inv.played
    (have-none (map f c.args.logs.now) c.args.made.now c.loop-node.made (programs_of c.args.sites.now.items)
    (programs_of c.loop-node.sites.items) none before (inv.long ∙ before)
    (olds ∙ sym c.requires.logs ∙ sym logs)
    (length-map c.loop-node.sites.items program_in ∙ inv.count ∙ sym olds) inv.handed)
    (c.requires.logs ∙ sym inv.count) log
    (c.in_err-play_log.ensures.refused (subst SaysNoParts p.2 told)
    (none c.loop-node.node c.index-logs-node.result.entries.items
    (slice_get-map f c.args.logs.now c.loop-node.node ∙ ap (option_map f) log))))

pub loop-node-preserved : goal.loop-node-preserved
loop-node-preserved g c =
    let log = slice_get_read c.args.logs.now (length c.args.logs.now) c.loop-node.node
    c.index-logs-node.result refl c.loop-node-test.true c.index-logs-node.is in
    let was = slice_get-get_or c.loop-node.made c.loop-node.node 0 (search rules) in
    let f = λ (x : Log g.row.A.Denot). x.entries.items in
    let at = c.loop-node in
    let inv = c.loop-node.invariant in
    let m = get_or c.loop-node.made c.loop-node.node 0 in
    let on = c.in_ok-play_log.field-0 in
    let p = c.in_ok-play_log.ensures.exact in
    let one : c.in_ok-play_log.field-0 ≡ true → c.if-branch.went ≡ true =
    elim c.if-branch.branch [ then-branch w ↦ (λ is. search rules) | else-branch w ↦ (λ is. search rules) ] in
    let joins : c.in_ok-play_log.field-0 ≡ false → c.if-branch.went ≡ c.loop-node.went =
    elim c.if-branch.branch [ then-branch w ↦ (λ is. search rules) | else-branch w ↦ (λ is. search rules) ] in
    record {
      played = c.in_ok-play_log.ensures.played;
      handed = have-played f c.args.logs.now c.args.made.now at.made at.node c.index-logs-node.result
          c.play_log.new.made (programs_of c.args.sites.now.items) (programs_of at.sites.items)
          (programs_of c.play_log.new.sites.items) log (search rules) inv.handed c.in_ok-play_log.ensures.handed;
      long = length-set at.made at.node c.play_log.new.made ∙ inv.long;
      count = c.play_log.ensures.count ∙ inv.count;
      have = p.have;
      each = each-on f c.args.logs.now at.made at.node c.index-logs-node.result m c.play_log.new.made
          at.sites.items c.play_log.new.sites.items log was inv.each p.here p.elsewhere;
      few = few-on f c.args.logs.now at.node c.index-logs-node.result at.made m c.play_log.new.made at.sites.items
          c.play_log.new.sites.items at.sent c.play_log.new.sent log was on _ p inv.few;
      less = less-on f c.args.logs.now at.node c.index-logs-node.result at.made m c.play_log.new.made
          at.sites.items c.play_log.new.sites.items at.sent c.play_log.new.sent log was on at.went c.if-branch.went _
          p joins inv.few inv.less;
      stuck = stuck-on f c.args.logs.now at.node c.index-logs-node.result at.made m c.play_log.new.made
          at.sites.items c.play_log.new.sites.items at.sent c.play_log.new.sent log was on at.went c.if-branch.went p
          one joins inv.stuck;
    }

pub returns-clause-exact : goal.returns-clause-exact
returns-clause-exact g c =
    let past = c.loop-node-test.false in
    let inv = c.loop-node.invariant in record {
      have = inv.have;
      each = inv.each;
      less = inv.less;
      stuck = λ none. stuck-all c.loop-node.node c.loop-node.sent _ c.loop-node.made
          (let size = length-map c.args.logs.now (λ x. x.entries.items) in omega (arith, past, size)) (inv.stuck none);
    }

pub loop-node-init : goal.loop-node-init
loop-node-init g c = record {
  played = c.requires.played;
  handed = hands-begin (map (λ (x : Log g.row.A.Denot). x.entries.items) c.args.logs.now) c.args.made.now
      (programs_of c.args.sites.now.items);
  long = refl;
  count = refl;
  have = c.requires.sent;
  each = c.requires.each;
  few = omega arith;
  less = λ is. absurd (not-yes is);
  stuck = λ none i below log m at now. absurd (omega (arith, below));
}

pub play_log-requires-clause-played : goal.play_log-requires-clause-played
play_log-requires-clause-played g c = c.loop-node.invariant.played

pub play_log-requires-clause-node : goal.play_log-requires-clause-node
play_log-requires-clause-node g c =
    let test = c.loop-node-test.true in
    let logs = c.requires.logs in
    let count = c.loop-node.invariant.count in omega (arith, test, logs, count)

pub play_log-requires-clause-sent : goal.play_log-requires-clause-sent
play_log-requires-clause-sent g c = c.loop-node.invariant.have

pub returns-in_err-play_log-clause-played : goal.returns-in_err-play_log-clause-played
returns-in_err-play_log-clause-played g c = IfOk-from_err c.from_residual.result _ c.from_residual.ensures.0

pub returns-in_err-play_log-clause-handed : goal.returns-in_err-play_log-clause-handed
returns-in_err-play_log-clause-handed g c = IfOk-from_err c.from_residual.result _ c.from_residual.ensures.0

pub returns-in_err-play_log-clause-exact : goal.returns-in_err-play_log-clause-exact
returns-in_err-play_log-clause-exact g c = IfOk-from_err c.from_residual.result _ c.from_residual.ensures.0

pub returns-in_err-play_log-clause-count : goal.returns-in_err-play_log-clause-count
returns-in_err-play_log-clause-count g c = c.play_log.ensures.count ∙ c.loop-node.invariant.count

pub returns-clause-played : goal.returns-clause-played
returns-clause-played g c = c.loop-node.invariant.played

pub returns-clause-handed : goal.returns-clause-handed
returns-clause-handed g c = c.loop-node.invariant.handed

pub returns-clause-count : goal.returns-clause-count
returns-clause-count g c = c.loop-node.invariant.count

pub returns-clause-refused : goal.returns-clause-refused
returns-clause-refused g c = tt
