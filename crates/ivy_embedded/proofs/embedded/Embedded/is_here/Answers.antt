use Rattle.std.proofs.Common.{rules, ◌≡◌, ◌≢◌, ◌⊎◌, inl, inr, Option, true, false, sym, ap, subst, ◌∙◌}
use Rattle.std.specs.Prelude.{IsTrue}
use Rattle.ivy_pagetable.specs.declared.Access.{Access}
use Rattle.ivy_program.specs.OwnCode.{IsFree}
use Rattle.ivy_embedded.specs.Calls.{IsLender}
use Rattle.ivy_embedded.specs.Lending.{WaitsFor, access_to, is_had}
use Rattle.ivy_embedded.specs.Nodes.{Embedded}
use Rattle.ivy_embedded.proofs.Wanting.{busy_waits, had_is, none_waits}
use Rattle.ivy_embedded.proofs.embedded.Embedded.is_here.Goals as goal
use Rattle.ivy_embedded.proofs.embedded.Embedded.is_here.Goals.{else-not-is_free-via-then-not-is_free+else-self-page, else-not-is_free-via-else-not-is_free}

pub returns-then-self-page-clause-no : goal.returns-then-self-page-clause-no
returns-then-self-page-clause-no c =
    λ f.
    subst (λ (e : Embedded). (is_had (access_to e c.args.page) c.args.to ≡ false) ⊎ WaitsFor e c.args.page) c.self.view_is
    (inr (busy_waits _ c.self.inside.waits_at c.args.page c.self.invariant.1
    (λ free. (let t : IsTrue c.is_free.result = c.is_free.ensures.1 free in search (rules, t)))
    c.if-self-page.true))

pub returns-in-Some-clause-yes : goal.returns-in-Some-clause-yes
returns-in-Some-clause-yes c =
    λ t.
    subst (λ (e : Embedded). (is_had (access_to e c.args.page) c.args.to ≡ true) × (WaitsFor e c.args.page → ⊥)) c.self.view_is (
      ap (λ (o : Option Access). is_had o c.args.to) (sym c.access.ensures ∙ c.in-Some.is)
          ∙ (had_is c.in-Some.access c.args.to ∙ (sym c.suffices_for.ensures ∙ t)),
      none_waits _ c.self.inside.waits_at c.args.page c.self.invariant.1
          (elim c.else-not-is_free.branch [
            | else-not-is_free-via-then-not-is_free+else-self-page w ↦ inr w.if-self-page.false
            | else-not-is_free-via-else-not-is_free w ↦ inl (c.is_free.ensures.0 (search rules))
          ]),
    )
