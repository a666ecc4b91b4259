use Rattle.std.proofs.Common.{◌≡◌, ◌∙◌, true, false, sym}
use Rattle.ivy_site.proofs.FetchTurns.{not_begun, not_own}
use Rattle.ivy_site.proofs.host.Host.may_fetch.Goals as goal

pub returns-in_default-clause-no : goal.returns-in_default-clause-no
returns-in_default-clause-no g c none may =
    not_own c.args.self.now.memory c.args.self.now.machine
    (λ called. let f : false ≡ true = c.in_default.ensures.own.1 called in absurd cc) may

pub returns-else-has_in_progress-clause-no : goal.returns-else-has_in_progress-clause-no
returns-else-has_in_progress-clause-no g c none may =
    not_begun c.args.self.now.memory c.args.self.now.machine c.in-Some.left c.in-Some.ensures.left
    (λ is. let f : true ≡ false = sym (c.has_in_progress.ensures.1 is) ∙ none in absurd cc) may
