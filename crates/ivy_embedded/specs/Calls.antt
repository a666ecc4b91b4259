-- What a node keeps of its calls that have no reply yet, and of what it lends.
use Rattle.std.specs.Prelude.{◌≡◌, ℕ, true, List, length}
use Rattle.ivy_model.specs.declared.Call.{Call}
use Rattle.ivy_model.specs.stated.Legal.{HasWidth}
use Rattle.ivy_coherence.specs.Leavings.{access_at}
use Rattle.ivy_memory.specs.stated.Asking.{asked_of}
use Rattle.ivy_pagetable.specs.stated.Tables.{entry_at}
use Rattle.ivy_program.specs.Programs.{IsCalled}
use Rattle.ivy_site.specs.SiteView.{SiteView}
use Rattle.ivy_embedded.specs.declared.lending.Lending.{Lending}
use Rattle.ivy_embedded.specs.declared.lending.Lending.TheVariants.{Unlent}
use Rattle.ivy_embedded.specs.Lending.{HasUnanswered, is_had, lending_in, may_ask, page_asked}

-- what is lent is had, and the calls without a reply may be made so; own code made them, each of a
-- width that the memory knows, and of this page
pub record IsLender (s : SiteView) (lent : List Lending) (page : ℕ) : Type 0 where
  pub each : length lent ≡ s.config.pages
  pub first : lending_in lent 0 ≡ Unlent
  pub had : (p : ℕ) → is_had (access_at (entry_at s.node.core.memory.coherence.table p))
      (lending_in lent p) ≡ true
  pub own : IsCalled s.node.core.process.program
  pub calls : (call : Call) → HasUnanswered s.node.core.process call
      → may_ask lent (asked_of s.config call) ≡ true
  pub wide : (call : Call) → HasUnanswered s.node.core.process call → HasWidth call
  pub at : (call : Call) → HasUnanswered s.node.core.process call
      → page_asked (asked_of s.config call) ≡ page
