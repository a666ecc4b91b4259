use Rattle.std.proofs.Common.{rules, ap, ◌∷◌, [], ◌∙◌}
use Rattle.ivy_memory.proofs.keeping.Beginning.{err_there}
use Rattle.ivy_site.specs.Handed.{site_handed}
use Rattle.ivy_site.specs.Inside.{host_of}
use Rattle.ivy_host.specs.Handing.{handing}
use Rattle.ivy_site.proofs.Handed.{free_idle, handed_site}
use Rattle.ivy_site.proofs.Turned.{spent_turn, called_turn, called_site}
use Rattle.ivy_site.proofs.site.Site.call_in_place.Goals as goal

pub make-requires-clause-idle : goal.make-requires-clause-idle
make-requires-clause-idle g c =
    free_idle _ c.self.invariant.0 (c.is_free.ensures.free.0 (search rules))

pub returns-in_err-reply-clause-spent : goal.returns-in_err-reply-clause-spent
returns-in_err-reply-clause-spent g c =
    err_there c.from_residual-in_err-reply.result _ _ c.from_residual-in_err-reply.ensures.1
    (spent_turn _ _ (ap (site_handed ((c.args.call ∷ []) ∷ [])) c.self.view_is) _ _
    (ap (handing ((c.args.call ∷ []) ∷ [])) (ap (host_of _ _) c.in_ok-reserve.ensures.records))
    c.in_err-reply.ensures.spent)

pub invariant_of-self-2 : goal.invariant_of-self-2
invariant_of-self-2 g c = (
  called_site _ _ _ c.make.new.outbox _ _
      (handed_site ((c.args.call ∷ []) ∷ []) _ c.self.invariant.0 (c.is_free.ensures.free.0 (search rules)))
      (ap (handing ((c.args.call ∷ []) ∷ [])) (ap (host_of _ _) c.in_ok-reserve.ensures.records))
      c.in_ok-reply.ensures.ok c.in_ok-reserve-2.ensures.same c.push_turn.ensures.marks,
  (
    c.in_ok-reply.ensures.kept ∙ c.in_ok-reserve.ensures.kept ∙ c.self.invariant.1.0,
    c.push_turn.ensures.kept ∙ c.in_ok-reserve-2.ensures.kept ∙ c.self.invariant.1.1,
  ),
)

pub returns-clause-done : goal.returns-clause-done
returns-clause-done g c =
    record {
      turns = called_turn _ _ (ap (site_handed ((c.args.call ∷ []) ∷ [])) c.self.view_is) _ _
          c.make.new.outbox _ _
          (ap (handing ((c.args.call ∷ []) ∷ [])) (ap (host_of _ _) c.in_ok-reserve.ensures.records))
          c.in_ok-reply.ensures.ok c.in_ok-reserve-2.ensures.same c.push_turn.ensures.marks;
      recorded = search rules;
    }
