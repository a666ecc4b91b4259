use Rattle.std.proofs.Common.{rules, ◌≡◌, ◌+◌, ◌<◌, ◌++◌, length, take, ap, refl, subst, sym, ◌∙◌}
use Rattle.std.proofs.lemmas.List.{take_all}
use Rattle.ivy_model.specs.stated.Config.{IsConfig}
use Rattle.ivy_moves.specs.Marks.{marks}
use Rattle.ivy_moves.specs.Parts.{AllCanBeMade}
use Rattle.ivy_logs.specs.Entries.{answers_in, events_in}
use Rattle.ivy_site.specs.SiteView.{SiteView}
use Rattle.ivy_join.specs.ReplaySites.{taken_by}
use Rattle.ivy_join.specs.Remade.{GoesOnByEntries, HasAnswer, StandFirst}
use Rattle.ivy_join.proofs.Answered.{first-none}
use Rattle.ivy_join.proofs.AnswersTold.{count-more, told-more}
use Rattle.ivy_join.proofs.Entries.{entries-begin, entries-emptied, entries-more, entry-taken}
use Rattle.ivy_join.proofs.restart.replay.Goals as goal

pub loop-place-init : goal.loop-place-init
loop-place-init g c =
    let sent = taken_by (events_in c.args.log.now) in record {
      on = entries-emptied sent _ c.args.site.now c.args.site.now c.drop_frames.new.site
          (entries-begin sent c.args.site.now
          (subst (AllCanBeMade (taken_by (events_in c.args.log.now)) c.args.site.now.config.nodes c.args.site.now.me)
          (sym c.requires.fresh) tt)) c.drop_frames.ensures;
      first = first-none c.drop_frames.new.site.node.core.history;
      many = refl;
    }

pub told_after-told-requires : goal.told_after-told-requires
told_after-told-requires g c = c.in_ok-make_entry.ensures.told (search rules)

pub loop-place-preserved : goal.loop-place-preserved
loop-place-preserved g c =
    let log = c.args.log.now in
    let sent = taken_by (events_in c.args.log.now) in
    let on = c.loop-place.invariant.on in
    let entry = c.index-log-place.result in
    let before = c.loop-place.site.node.core.history in
    let made = c.make_entry.new.site.node.core.history in
    let below : c.loop-place.place < length c.args.log.now = search rules in
    let limits : IsConfig c.loop-place.site.config =
    subst IsConfig (c.config.ensures.is ∙ sym on.config) c.config.ensures.limits in
    let went = c.in_ok-make_entry.ensures.on (search rules) sent limits on.took
    (entry-taken log c.loop-place.place c.index-log-place.result below c.index-log-place.is) in
    let told : HasAnswer c.loop-place.told c.index-log-place.result c.make_entry.new.site.node.core.history =
    c.in_ok-make_entry.ensures.told (search rules) in
    let first : StandFirst (answers_in (take (c.loop-place.place + 1) c.args.log.now))
    c.make_entry.new.site.node.core.history =
    told-more log c.loop-place.place entry c.loop-place.told before made below c.index-log-place.is
    c.loop-place.invariant.first c.loop-place.invariant.many went.answered told in record {
      on = entries-emptied sent _ c.args.site.now c.make_entry.new.site c.drop_frames-in-loop-place.new.site
          (entries-more sent log c.loop-place.place c.index-log-place.result c.args.site.now c.loop-place.site
          c.make_entry.new.site below c.index-log-place.is on went) c.drop_frames-in-loop-place.ensures;
      first = subst (StandFirst (answers_in (take (c.loop-place.place + 1) c.args.log.now)))
          (sym (ap (λ (x : SiteView). x.node.core.history) c.drop_frames-in-loop-place.ensures)) first;
      many = count-more log c.loop-place.place entry c.loop-place.told c.told_after-told.result below
          c.index-log-place.is c.loop-place.invariant.many c.told_after-told.ensures;
    }

pub returns : goal.returns
returns g c =
    let whole : take c.loop-place.place c.args.log.now ≡ c.args.log.now =
    take_all c.loop-place.place c.args.log.now (search rules) in
    let on : GoesOnByEntries (taken_by (events_in c.args.log.now)) c.args.log.now c.args.site.now c.loop-place.site =
    subst (λ es. GoesOnByEntries (taken_by (events_in c.args.log.now)) es c.args.site.now c.loop-place.site)
    whole c.loop-place.invariant.on in record {
      made = record {
        me = on.me;
        config = on.config;
        opened = on.opened;
        program = on.program;
        events = on.events ∙ ap (λ l. l ++ marks (events_in c.args.log.now)) c.requires.fresh;
        told = subst (λ es. StandFirst (answers_in es) c.loop-place.site.node.core.history) whole
            c.loop-place.invariant.first;
        made = c.event_list.ensures.made;
      };
    }
