use Rattle.std.proofs.Common.{rules, ℕ, List, [], ◌∷◌, length, IfErr, sym, ap, subst, ◌∙◌, arith}
use Rattle.ivy_model.specs.declared.Call.{Call}
use Rattle.ivy_model.specs.Rows.{calls_of, numbers_in, row}
use Rattle.ivy_memory.proofs.keeping.Beginning.{err_there}
use Rattle.ivy_site.specs.Handed.{site_handed}
use Rattle.ivy_site.specs.Inside.{host_of}
use Rattle.ivy_site.specs.SiteView.{SiteView}
use Rattle.ivy_site.specs.Sites.{IsSpentTurn}
use Rattle.ivy_host.specs.Handing.{handing}
use Rattle.ivy_site.proofs.Handed.{handed_site}
use Rattle.ivy_site.proofs.BatchedTurn.{begins_row, together_is}
use Rattle.ivy_site.proofs.Turned.{spent_turn, called_turn, called_site}
use Rattle.ivy_site.proofs.site.Site.call_row.Goals as goal

pub returns-in_err-begin_row-clause-spent : goal.returns-in_err-begin_row-clause-spent
returns-in_err-begin_row-clause-spent g c =
    let a = c.args in
    let many : ℕ = c.words_together-words.result in
    let calls : List Call = calls_of (row a.kind 0 a.addr (numbers_in many a.bytes.now)) in
    subst (λ (k : ℕ). IfErr c.from_residual-in_err-begin_row.result
    (IsSpentTurn (site_handed (calls_of (row a.kind 0 a.addr (numbers_in k a.bytes.now)) ∷ []) a.self.now)))
    (sym (together_is a.self.now _ c.self.view_is a.kind a.addr a.words (length a.bytes.now) many
    (sym c.has_to_wait.ensures ∙ c.if-not-has_to_wait.false) c.config.result c.config.ensures.is
    c.words_together-words.ensures.many))
    (err_there c.from_residual-in_err-begin_row.result _ _ c.from_residual-in_err-begin_row.ensures.1
    (spent_turn _ _ (ap (site_handed (calls ∷ [])) c.self.view_is)
    _ _ (ap (handing (calls ∷ [])) (ap (host_of _ _) c.in_ok-reserve.ensures.records))
    c.in_err-begin_row.ensures.spent))

pub invariant_of-self-2 : goal.invariant_of-self-2
invariant_of-self-2 g c =
    let a = c.args in
    let calls : List Call =
    calls_of (row a.kind 0 a.addr (numbers_in c.words_together-words.result a.bytes.now)) in (
      called_site _ _ _ c.begin_row.new.outbox _ _
          (handed_site (calls ∷ []) _ c.self.invariant.0 (c.takes_together.ensures.takes.0 (search rules)).free)
          (ap (handing (calls ∷ [])) (ap (host_of _ _) c.in_ok-reserve.ensures.records))
          c.in_ok-begin_row.ensures.ok c.in_ok-reserve-2.ensures.same c.push_turn.ensures.marks,
      (
        c.in_ok-begin_row.ensures.kept ∙ c.in_ok-reserve.ensures.kept ∙ c.self.invariant.1.0,
        c.push_turn.ensures.kept ∙ c.in_ok-reserve-2.ensures.kept ∙ c.self.invariant.1.1,
      ),
    )

pub returns-clause-done : goal.returns-clause-done
returns-clause-done g c =
    let a = c.args in
    let many : ℕ = c.words_together-words.result in
    let calls : List Call = calls_of (row a.kind 0 a.addr (numbers_in many a.bytes.now)) in
    begins_row _ _ a.kind a.addr many a.bytes.now (search (rules, arith))
    (called_turn _ _ (ap (site_handed (calls ∷ [])) c.self.view_is) _ _ c.begin_row.new.outbox _ _
    (ap (handing (calls ∷ [])) (ap (host_of _ _) c.in_ok-reserve.ensures.records))
    c.in_ok-begin_row.ensures.ok c.in_ok-reserve-2.ensures.same c.push_turn.ensures.marks)
    (c.in_ok-begin_row.ensures.history ∙ c.in_ok-reserve.ensures.records
    ∙ ap (λ (s : SiteView). s.node.core.history) c.self.view_is)
    c.in_ok-begin_row.ensures.asked c.in_ok-begin_row.ensures.along
