-- Each log is spelled by some text, also once they are sorted.
use Rattle.std.proofs.Common.{sym, subst}
use Rattle.std.specs.List.{All}
use Rattle.std.proofs.lemmas.List.Elements.{All-push}
use Rattle.std.proofs.lemmas.List.Sorted.{All-permutation}
use Rattle.ivynode.specs.Joined.{IsSpelled}
use Rattle.ivynode.proofs.joins.logs_of.Goals as goal

pub loop-name-preserved : goal.loop-name-preserved
loop-name-preserved g c =
    subst (λ l. All (λ x. IsSpelled c.args.kind x.head x.entries.items) l) (sym c.in_ok-push.ensures.items)
    (All-push (λ x. IsSpelled c.args.kind x.head x.entries.items) c.loop-name.logs.items c.in_ok-log_of.field-0
    c.loop-name.invariant c.in_ok-log_of.ensures.spelled)

pub returns-clause-spelled : goal.returns-clause-spelled
returns-clause-spelled g c =
    All-permutation (λ x. IsSpelled c.args.kind x.head x.entries.items) c.loop-name.logs.items
    c.sort_by_key.new.self.items c.sort_by_key.ensures.permutation c.loop-name.invariant
