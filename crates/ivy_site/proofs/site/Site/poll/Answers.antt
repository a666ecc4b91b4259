use Rattle.std.proofs.Common.{refl, rules, ap, sym, ◌∷◌, [], ◌++◌, ◌∙◌}
use Rattle.ivy_moves.specs.Marks.{Turn}
use Rattle.ivy_memory.proofs.keeping.Beginning.{err_there}
use Rattle.ivy_site.specs.Inside.{host_of}
use Rattle.ivy_site.proofs.Turned.{idle_turn, ended_turn, local_turn, local_site, makes_call, spent_turn, called_turn, called_site, has_turned, not_turned, replied, begun_reply}
use Rattle.ivy_site.proofs.site.Site.poll.Goals as goal

pub returns-in-Ended-clause-done : goal.returns-in-Ended-clause-done
returns-in-Ended-clause-done g c =
    ended_turn _ _ c.self.view_is refl c.in_ok-next.field-0 c.next.new.self c.reserve.new.self.records _
    (sym c.asked.ensures ∙ c.in_default.is) c.in_ok-next.ensures.step c.in-Ended.is
    c.in_ok-reserve.ensures.records c.in_ok-reserve-2.ensures.same

pub returns-in-Local-clause-done : goal.returns-in-Local-clause-done
returns-in-Local-clause-done g c =
    local_turn _ _ c.self.view_is refl c.in_ok-next.field-0 c.next.new.self c.reserve.new.self.records _
    (sym c.asked.ensures ∙ c.in_default.is) c.in_ok-next.ensures.step c.in-Local.is
    c.in_ok-reserve.ensures.records
    (c.push_turn-in-Local.ensures.marks ∙ ap (λ ms. ms ++ Turn ∷ []) c.in_ok-reserve-2.ensures.same)

pub returns-in_err-reply-in-Call-clause-spent : goal.returns-in_err-reply-in-Call-clause-spent
returns-in_err-reply-in-Call-clause-spent g c =
    err_there c.from_residual-in_err-reply-in-Call.result _ _
    c.from_residual-in_err-reply-in-Call.ensures.1
    (spent_turn _ _ c.self.view_is _ _
    (makes_call _ c.in-Call.call c.in_ok-next.field-0 c.next.new.self _ refl c.in_ok-next.ensures.step
    c.in-Call.is c.in_ok-reserve.ensures.records)
    c.in_err-reply-in-Call.ensures.spent)

pub invariant_of-self-in-Call : goal.invariant_of-self-in-Call
invariant_of-self-in-Call g c = (
  called_site _ _ _ c.begin.new.outbox _ _ c.self.invariant.0
      (makes_call _ c.in-Call.call c.in_ok-next.field-0 c.next.new.self _ refl c.in_ok-next.ensures.step
      c.in-Call.is c.in_ok-reserve.ensures.records)
      c.in_ok-reply-in-Call.ensures.ok
      c.in_ok-reserve-2.ensures.same c.push_turn-in-Call.ensures.marks,
  (
    c.in_ok-reply-in-Call.ensures.kept ∙ c.in_ok-reserve.ensures.kept ∙ c.self.invariant.1.0,
    c.push_turn-in-Call.ensures.kept ∙ c.in_ok-reserve-2.ensures.kept ∙ c.self.invariant.1.1,
  ),
)

pub returns-in_ok-reply-in-Call-clause-done : goal.returns-in_ok-reply-in-Call-clause-done
returns-in_ok-reply-in-Call-clause-done g c =
    called_turn _ _ c.self.view_is _ _ c.begin.new.outbox _ _
    (makes_call _ c.in-Call.call c.in_ok-next.field-0 c.next.new.self _ refl c.in_ok-next.ensures.step
    c.in-Call.is c.in_ok-reserve.ensures.records)
    c.in_ok-reply-in-Call.ensures.ok
    c.in_ok-reserve-2.ensures.same c.push_turn-in-Call.ensures.marks

pub returns-in_err-changed-clause-spent : goal.returns-in_err-changed-clause-spent
returns-in_err-changed-clause-spent g c =
    err_there c.from_residual-in_err-changed.result _ _ c.from_residual-in_err-changed.ensures.1
    (spent_turn _ _ c.self.view_is _ _
    (ap (host_of _ _) c.in_ok-reserve.ensures.records)
    c.in_err-changed.ensures.spent)

pub returns-then-not-changed-clause-done : goal.returns-then-not-changed-clause-done
returns-then-not-changed-clause-done g c =
    idle_turn _ _ c.self.view_is _ _ c.poll.new.outbox
    _
    (ap (host_of _ _) c.in_ok-reserve.ensures.records)
    (not_turned c.in_ok-changed.changed (search rules) _ _ _ _ c.in_ok-changed.ensures.ok)
    c.in_ok-reserve-2.ensures.same

pub invariant_of-self-in-Some : goal.invariant_of-self-in-Some
invariant_of-self-in-Some g c = (
  called_site _ _ _ c.poll.new.outbox _ _
      c.self.invariant.0
      (ap (host_of _ _) c.in_ok-reserve.ensures.records)
      (has_turned c.in_ok-changed.changed (search rules) _ _ _ _ c.in_ok-changed.ensures.ok)
      c.in_ok-reserve-2.ensures.same c.push_turn.ensures.marks,
  (
    c.in_ok-changed.ensures.kept ∙ c.in_ok-reserve.ensures.kept ∙ c.self.invariant.1.0,
    c.push_turn.ensures.kept ∙ c.in_ok-reserve-2.ensures.kept ∙ c.self.invariant.1.1,
  ),
)

pub returns-in-Some-clause-done : goal.returns-in-Some-clause-done
returns-in-Some-clause-done g c =
    called_turn _ _ c.self.view_is _ _
    c.poll.new.outbox _ _
    (ap (host_of _ _) c.in_ok-reserve.ensures.records)
    (has_turned c.in_ok-changed.changed (search rules) _ _ _ _ c.in_ok-changed.ensures.ok)
    c.in_ok-reserve-2.ensures.same c.push_turn.ensures.marks

pub invariant_of-self-in-Local : goal.invariant_of-self-in-Local
invariant_of-self-in-Local g c = (
  local_site _ c.in_ok-next.field-0 c.next.new.self c.reserve.new.self.records _ c.self.invariant.0
      (sym c.asked.ensures ∙ c.in_default.is) c.in_ok-next.ensures.step c.in-Local.is
      c.in_ok-reserve.ensures.records
      (c.push_turn-in-Local.ensures.marks ∙ ap (λ ms. ms ++ Turn ∷ []) c.in_ok-reserve-2.ensures.same),
  (
    c.in_ok-reserve.ensures.kept ∙ c.self.invariant.1.0,
    c.push_turn-in-Local.ensures.kept ∙ c.in_ok-reserve-2.ensures.kept ∙ c.self.invariant.1.1,
  ),
)

pub returns-in-Some-clause-recorded : goal.returns-in-Some-clause-recorded
returns-in-Some-clause-recorded g c =
    replied _ _ c.self.view_is c.in-Some.call c.in_ok-changed.reply c.reserve.new.self.records _
    (search rules) c.in_ok-reserve.ensures.records c.in_ok-changed.ensures.recorded

pub returns-in_ok-reply-in-Call-clause-recorded : goal.returns-in_ok-reply-in-Call-clause-recorded
returns-in_ok-reply-in-Call-clause-recorded g c =
    begun_reply _ _ c.self.view_is c.in-Call.call c.in_ok-reply-in-Call.reply c.in_ok-next.field-0
    c.next.new.self c.reserve.new.self.records _ (sym c.asked.ensures ∙ c.in_default.is)
    c.in_ok-next.ensures.step c.in-Call.is c.in_ok-reserve.ensures.records
    c.in_ok-reply-in-Call.ensures.recorded
