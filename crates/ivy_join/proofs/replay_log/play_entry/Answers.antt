use Rattle.std.proofs.Common.{IfOk, refl, sym, subst}
use Rattle.std.proofs.lemmas.Result.{IfOk-weaker, on_ok_weaker}
use Rattle.ivy_moves.specs.Marks.{marks}
use Rattle.ivy_logs.specs.Entries.{event_in}
use Rattle.ivy_world.specs.WorldSites.{programs_of}
use Rattle.ivy_join.specs.declared.replay_log.Outcome.TheVariants.{Made}
use Rattle.ivy_join.specs.Calls.{HasHandedBy}
use Rattle.ivy_join.specs.Exact.{CameTo, HaveSent, IsMadeAt}
use Rattle.ivy_join.proofs.Calls.{did-handed-ok, silent-handed}
use Rattle.ivy_join.proofs.HandedLogs.{passed}
use Rattle.ivy_join.proofs.replay_log.play_entry.Goals as goal

pub play_event-requires-clause-played : goal.play_event-requires-clause-played
play_event-requires-clause-played g c = c.requires.played

pub play_event-requires-clause-node : goal.play_event-requires-clause-node
play_event-requires-clause-node g c = c.requires.node

pub play_call-requires : goal.play_call-requires
play_call-requires g c = record { node = c.requires.node }

pub returns-in-Did-clause-played : goal.returns-in-Did-clause-played
returns-in-Did-clause-played g c = c.play_event.ensures.played

pub returns-in-Did-clause-count : goal.returns-in-Did-clause-count
returns-in-Did-clause-count g c = c.play_event.ensures.count

pub returns-in-Asked-clause-played : goal.returns-in-Asked-clause-played
returns-in-Asked-clause-played g c =
    on_ok_weaker c.play_call.result (λ on. on c.args.config.now c.args.opening c.args.sent.now c.requires.played)
    c.play_call.ensures.played

pub returns-in-Asked-clause-count : goal.returns-in-Asked-clause-count
returns-in-Asked-clause-count g c = c.play_call.ensures.count

pub play_fetch-requires-clause-played : goal.play_fetch-requires-clause-played
play_fetch-requires-clause-played g c = c.requires.played

pub play_fetch-requires-clause-node : goal.play_fetch-requires-clause-node
play_fetch-requires-clause-node g c = c.requires.node

pub returns-in-Fetched-clause-played : goal.returns-in-Fetched-clause-played
returns-in-Fetched-clause-played g c = c.play_fetch.ensures.played

pub returns-in-Fetched-clause-count : goal.returns-in-Fetched-clause-count
returns-in-Fetched-clause-count g c = c.play_fetch.ensures.count

pub returns-in-Fetched-clause-handed : goal.returns-in-Fetched-clause-handed
returns-in-Fetched-clause-handed g c =
    subst (λ e. IfOk c.play_fetch.result (HasHandedBy c.args.node e (programs_of c.args.sites.now.items)
    (programs_of c.play_fetch.new.sites.items))) (sym c.in-Fetched.is) c.play_fetch.ensures.handed

pub returns-in-Fetched-clause-exact : goal.returns-in-Fetched-clause-exact
returns-in-Fetched-clause-exact g c =
    subst (λ e. IfOk c.play_fetch.result (λ o. HaveSent c.args.sent.now c.args.sites.now.items
    → CameTo c.args.node e c.args.sites.now.items c.play_fetch.new.sites.items c.args.sent.now
    c.play_fetch.new.sent o)) (sym c.in-Fetched.is) c.play_fetch.ensures.exact

pub returns-in-Answered-clause-played : goal.returns-in-Answered-clause-played
returns-in-Answered-clause-played g c = c.requires.played

pub returns-in-Answered-clause-count : goal.returns-in-Answered-clause-count
returns-in-Answered-clause-count g c = refl

pub returns-in-Did-clause-handed : goal.returns-in-Did-clause-handed
returns-in-Did-clause-handed g c =
    did-handed-ok c.play_event.result c.args.node c.args.entry.now c.in-Did.event
    (programs_of c.args.sites.now.items) (programs_of c.play_event.new.sites.items) c.in-Did.is
    c.play_event.ensures.programs

pub returns-in-Did-clause-exact : goal.returns-in-Did-clause-exact
returns-in-Did-clause-exact g c =
    subst (λ e. IfOk c.play_event.result (λ o. HaveSent c.args.sent.now c.args.sites.now.items
    → CameTo c.args.node e c.args.sites.now.items c.play_event.new.sites.items c.args.sent.now
    c.play_event.new.sent o)) (sym c.in-Did.is) c.play_event.ensures.exact

pub returns-in-Asked-clause-handed : goal.returns-in-Asked-clause-handed
returns-in-Asked-clause-handed g c =
    subst (λ e. IfOk c.play_call.result (HasHandedBy c.args.node e (programs_of c.args.sites.now.items)
    (programs_of c.play_call.new.sites.items))) (sym c.in-Asked.is) c.play_call.ensures.handed

pub returns-in-Asked-clause-exact : goal.returns-in-Asked-clause-exact
returns-in-Asked-clause-exact g c =
    IfOk-weaker c.play_call.result _ _
    (λ o exact. subst (λ e. HaveSent c.args.sent.now c.args.sites.now.items
    → CameTo c.args.node e c.args.sites.now.items c.play_call.new.sites.items c.args.sent.now
    c.args.sent.now o) (sym c.in-Asked.is)
    (exact c.args.config.now c.args.opening c.args.sent.now c.requires.played))
    c.play_call.ensures.exact

pub returns-in-Answered-clause-handed : goal.returns-in-Answered-clause-handed
returns-in-Answered-clause-handed g c =
    subst (λ e. HasHandedBy c.args.node e (programs_of c.args.sites.now.items)
    (programs_of c.args.sites.now.items) Made) (sym c.in-Answered.is)
    (silent-handed c.args.node _ (programs_of c.args.sites.now.items) (programs_of c.args.sites.now.items) tt refl)

pub returns-in-Answered-clause-exact : goal.returns-in-Answered-clause-exact
returns-in-Answered-clause-exact g c =
    λ have. subst (λ e. IsMadeAt c.args.node (marks (event_in e)) c.args.sites.now.items
    c.args.sites.now.items c.args.sent.now) (sym c.in-Answered.is)
    (passed c.args.sites.now.items c.args.node c.args.sent.now have)
