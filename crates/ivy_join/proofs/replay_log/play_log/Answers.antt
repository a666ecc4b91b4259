use Rattle.std.proofs.Common.{rules, ◌≡◌, ◌<◌, ◌≤◌, length, sym, subst, refl, ◌∙◌, arith}
use Rattle.std.proofs.lemmas.List.{length-map}
use Rattle.std.proofs.lemmas.Result.{err_from_is_err_and, IfOk-from_err}
use Rattle.ivy_moves.specs.Marks.{marks}
use Rattle.ivy_logs.specs.Entries.{event_in}
use Rattle.ivy_world.specs.WorldSites.{programs_of}
use Rattle.ivy_join.specs.Calls.{HasHandedBy, PlaysOn}
use Rattle.ivy_join.specs.ReplaySites.{program_in}
use Rattle.ivy_join.proofs.Calls.{plays-begin, plays-same, plays_further}
use Rattle.ivy_join.specs.Exact.{CameTo, IsMadeAt, IsNeverBy, IsWaiting}
use Rattle.ivy_join.proofs.Went.{plays-end, plays-waits, plays-never, plays_more, plays-elsewhere}
use Rattle.ivy_join.proofs.replay_log.play_log.Goals as goal

pub returns-in-Waits-clause-exact : goal.returns-in-Waits-clause-exact
returns-in-Waits-clause-exact g c =
    let at = c.loop-place in
    let inv = c.loop-place.invariant in
    let from : c.args.made.now ≤ c.loop-place.place = c.loop-place.auto.place in
    let below : c.loop-place.place < length c.args.log.now.entries.items = search rules in
    let waits : IsWaiting c.index-entry.result.now c.loop-place.sites.items c.play_entry.new.sites.items
    c.loop-place.sent c.play_entry.new.sent =
    subst (CameTo c.args.node c.index-entry.result.now c.loop-place.sites.items c.play_entry.new.sites.items
    c.loop-place.sent c.play_entry.new.sent) c.in-Waits.is (c.in_ok-play_entry.ensures.exact inv.have) in
    plays-waits c.args.node c.args.log.now.entries.items c.args.made.now at.place c.args.sites.now.items
    at.sites.items c.args.sent.now at.sent from inv.have inv.here inv.elsewhere inv.sites inv.strings at.made
    c.index-entry.result.now c.play_entry.new.sites.items c.play_entry.new.sent inv.at below
    c.index-entry.ensures waits

pub returns-in-Never-clause-refused : goal.returns-in-Never-clause-refused
returns-in-Never-clause-refused g c =
    let at = c.loop-place in
    let inv = c.loop-place.invariant in
    let from : c.args.made.now ≤ c.loop-place.place = c.loop-place.auto.place in
    let below : c.loop-place.place < length c.args.log.now.entries.items = search rules in
    let inside : c.args.node < length c.loop-place.sites.items = search rules in
    let never : IsNeverBy c.args.node c.index-entry.result.now c.loop-place.sites.items =
    subst (CameTo c.args.node c.index-entry.result.now c.loop-place.sites.items c.play_entry.new.sites.items
    c.loop-place.sent c.play_entry.new.sent) c.in-Never.is (c.in_ok-play_entry.ensures.exact inv.have) in
    λ told none. plays-never c.args.node c.args.log.now.entries.items c.args.made.now at.place c.args.sites.now.items
    at.sites.items c.args.sent.now at.sent from inv.have inv.here inv.elsewhere inv.sites inv.strings
    c.args.config.now c.args.opening (programs_of c.args.sites.now.items) c.index-entry.result.now inv.played
    (subst (λ m. PlaysOn c.args.node c.args.log.now.entries.items c.args.made.now m
    (programs_of c.args.sites.now.items) (programs_of c.loop-place.sites.items)) inv.at inv.handed)
    (inv.count ∙ sym (length-map c.args.sites.now.items program_in)) inside below c.index-entry.ensures never none

pub loop-place-preserved : goal.loop-place-preserved
loop-place-preserved g c =
    let at = c.loop-place in
    let inv = c.loop-place.invariant in
    let from : c.args.made.now ≤ c.loop-place.place = c.loop-place.auto.place in
    let below : c.loop-place.place < length c.args.log.now.entries.items = search rules in
    let made : IsMadeAt c.args.node (marks (event_in c.index-entry.result.now)) c.loop-place.sites.items c.play_entry.new.sites.items
    c.play_entry.new.sent =
    subst (CameTo c.args.node c.index-entry.result.now c.loop-place.sites.items c.play_entry.new.sites.items
    c.loop-place.sent c.play_entry.new.sent) c.in-Made.is (c.in_ok-play_entry.ensures.exact inv.have) in
    record {
      played = c.in_ok-play_entry.ensures.played;
      handed = plays_further c.args.node c.args.log.now.entries.items c.args.made.now c.loop-place.place
          c.index-entry.result.now (programs_of c.args.sites.now.items) (programs_of c.loop-place.sites.items)
          (programs_of c.play_entry.new.sites.items) below c.index-entry.ensures
          (subst (λ m. PlaysOn c.args.node c.args.log.now.entries.items c.args.made.now m
          (programs_of c.args.sites.now.items) (programs_of c.loop-place.sites.items)) inv.at inv.handed)
          (subst (HasHandedBy c.args.node c.index-entry.result.now (programs_of c.loop-place.sites.items)
          (programs_of c.play_entry.new.sites.items)) c.in-Made.is c.in_ok-play_entry.ensures.handed);
      count = c.play_entry.ensures.count ∙ inv.count;
      at = refl;
      have = made.have;
      here = plays_more c.args.node c.args.log.now.entries.items c.args.made.now at.place c.args.sites.now.items
          at.sites.items c.args.sent.now at.sent from inv.have inv.here inv.elsewhere inv.sites inv.strings
          c.index-entry.result.now c.play_entry.new.sites.items c.play_entry.new.sent below c.index-entry.ensures
          made;
      elsewhere = plays-elsewhere c.args.node c.args.log.now.entries.items c.args.made.now at.place
          c.args.sites.now.items at.sites.items c.args.sent.now at.sent from inv.have inv.here inv.elsewhere
          inv.sites inv.strings c.index-entry.result.now c.play_entry.new.sites.items c.play_entry.new.sent made;
      sites = λ same. absurd {A = c.play_entry.new.sites.items ≡ c.args.sites.now.items}
          (omega (arith, same, from));
      strings = λ same. absurd {A = c.play_entry.new.sent ≡ c.args.sent.now} (omega (arith, same, from));
    }

pub loop-place-init : goal.loop-place-init
loop-place-init g c = record {
  played = c.requires.played;
  handed = plays-begin c.args.node c.args.log.now.entries.items c.args.made.now (programs_of c.args.sites.now.items);
  count = refl;
  at = refl;
  have = c.requires.sent;
  here = c.requires.here;
  elsewhere = λ i apart. refl;
  sites = λ same. refl;
  strings = λ same. refl;
}

pub play_entry-requires-clause-played : goal.play_entry-requires-clause-played
play_entry-requires-clause-played g c = c.loop-place.invariant.played

pub play_entry-requires-clause-node : goal.play_entry-requires-clause-node
play_entry-requires-clause-node g c = let count = c.loop-place.invariant.count in let node = c.requires.node in omega (arith, count, node)

pub returns-in_err-play_entry-clause-played : goal.returns-in_err-play_entry-clause-played
returns-in_err-play_entry-clause-played g c = IfOk-from_err c.from_residual.result _ c.from_residual.ensures.0

pub returns-in_err-play_entry-clause-handed : goal.returns-in_err-play_entry-clause-handed
returns-in_err-play_entry-clause-handed g c = IfOk-from_err c.from_residual.result _ c.from_residual.ensures.0

pub returns-in_err-play_entry-clause-exact : goal.returns-in_err-play_entry-clause-exact
returns-in_err-play_entry-clause-exact g c = IfOk-from_err c.from_residual.result _ c.from_residual.ensures.0

pub returns-in_err-play_entry-clause-refused : goal.returns-in_err-play_entry-clause-refused
returns-in_err-play_entry-clause-refused g c =
    let p = err_from_is_err_and c.from_residual.result c.from_residual.ensures.1 in
    rw (p.1, p.2) (λ told. absurd told)

pub returns-in_err-play_entry-clause-count : goal.returns-in_err-play_entry-clause-count
returns-in_err-play_entry-clause-count g c = c.play_entry.ensures.count ∙ c.loop-place.invariant.count

pub returns-in-Waits-clause-played : goal.returns-in-Waits-clause-played
returns-in-Waits-clause-played g c = c.in_ok-play_entry.ensures.played

pub returns-in-Waits-clause-handed : goal.returns-in-Waits-clause-handed
returns-in-Waits-clause-handed g c =
    plays-same c.args.node c.args.log.now.entries.items c.args.made.now c.loop-place.made
    (programs_of c.args.sites.now.items) (programs_of c.loop-place.sites.items)
    (programs_of c.play_entry.new.sites.items) c.loop-place.invariant.handed
    (subst (HasHandedBy c.args.node c.index-entry.result.now (programs_of c.loop-place.sites.items)
    (programs_of c.play_entry.new.sites.items)) c.in-Waits.is c.in_ok-play_entry.ensures.handed)

pub returns-in-Waits-clause-count : goal.returns-in-Waits-clause-count
returns-in-Waits-clause-count g c = c.play_entry.ensures.count ∙ c.loop-place.invariant.count

pub returns-in-Waits-clause-refused : goal.returns-in-Waits-clause-refused
returns-in-Waits-clause-refused g c = tt

pub returns-in-Never-clause-played : goal.returns-in-Never-clause-played
returns-in-Never-clause-played g c = tt

pub returns-in-Never-clause-handed : goal.returns-in-Never-clause-handed
returns-in-Never-clause-handed g c = tt

pub returns-in-Never-clause-exact : goal.returns-in-Never-clause-exact
returns-in-Never-clause-exact g c = tt

pub returns-in-Never-clause-count : goal.returns-in-Never-clause-count
returns-in-Never-clause-count g c = c.play_entry.ensures.count ∙ c.loop-place.invariant.count

pub returns-clause-played : goal.returns-clause-played
returns-clause-played g c = c.loop-place.invariant.played

pub returns-clause-handed : goal.returns-clause-handed
returns-clause-handed g c = c.loop-place.invariant.handed

pub returns-clause-count : goal.returns-clause-count
returns-clause-count g c = c.loop-place.invariant.count

pub returns-clause-refused : goal.returns-clause-refused
returns-clause-refused g c = tt

pub returns-clause-exact : goal.returns-clause-exact
returns-clause-exact g c =
    let at = c.loop-place in
    let inv = c.loop-place.invariant in
    let past = c.loop-place-test.false in
    let long = c.len-place-end.ensures in
    let whole = c.args.log.now.entries.ok.0 in
    plays-end c.args.node c.args.log.now.entries.items c.args.made.now at.place c.args.sites.now.items
    at.sites.items c.args.sent.now at.sent c.loop-place.auto.place inv.have inv.here inv.elsewhere inv.sites
    inv.strings at.made inv.at (omega (arith, past, long, whole))
