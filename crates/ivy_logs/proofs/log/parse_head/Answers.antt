-- The words behind `ivy` say nothing, so all of them say nothing.
use Rattle.std.proofs.Common.{rules, ◌≡◌, ◌∷◌, codes, map, subst}
use Rattle.ivy_texts.specs.Spelled.{BeginsWith}
use Rattle.ivy_logs.specs.Spelled.{log_word, SpellsNode}
use Rattle.ivy_logs.proofs.Faulty.{none-else}
use Rattle.ivy_logs.proofs.log.parse_head.Goals as goal

pub returns-in-Some-ivy-default-clause-none : goal.returns-in-Some-ivy-default-clause-none
returns-in-Some-ivy-default-clause-none c =
    let cut : map (λ w. w.now) c.args.words.now
    ≡ c.in-Some-ivy-default.field-0-0.now.now ∷ map (λ w. w.now) c.in-Some-ivy-default.rest.now =
    search rules in
    none-else c.parse_named.result _ _
    (λ none h is said. none h said.0 is said.1.0
    (subst (BeginsWith (codes "ivy") (BeginsWith (log_word c.args.kind) (λ rest. SpellsNode rest h said.0))) cut
    said.1.1).1) c.parse_named.ensures.none
