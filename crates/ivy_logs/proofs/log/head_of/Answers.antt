-- The words of the line are those that were put down.
use Rattle.std.proofs.Common.{rules, ◌≡◌, IfNone, map, subst, take}
use Rattle.ivy_program.specs.texts.TextWords.{words_of}
use Rattle.ivy_logs.specs.declared.log.LogHead.{LogHead}
use Rattle.ivy_logs.specs.Faults.{IsHead}
use Rattle.ivy_logs.specs.Spelled.{SpellsHead}
use Rattle.ivy_logs.proofs.log.head_of.Goals as goal

pub returns-clause-none : goal.returns-clause-none
returns-clause-none c =
    let are : map (λ w. w.now) (take c.in_ok-count.count c.few_words.new.words) ≡ words_of c.args.line.now =
    search rules in
    subst (λ ws. IfNone c.parse_head.result ((h : LogHead) → IsHead h → SpellsHead c.args.kind ws h → ⊥)) are
    c.parse_head.ensures.none
