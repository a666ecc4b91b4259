use Rattle.std.proofs.Common.{rules, arith}
use Rattle.ivy_texts.proofs.Drawing.{turn_drawn, delivery_drawn, pulse_drawn}
use Rattle.ivy_texts.proofs.drawn.draw.Goals as goal

pub returns-in-0-to-3 : goal.returns-in-0-to-3
returns-in-0-to-3 g c =
    rw (c.from-word.ensures, c.from-nodes.ensures)
    (turn_drawn c.args.nodes c.args.sent.now c.args.generator.now _ _ _ _
    c.next_word-kind.ensures c.next_word.ensures (grind (arith, rules)))

pub returns-in-4-to-6 : goal.returns-in-4-to-6
returns-in-4-to-6 g c =
    rw (c.delivery.ensures, c.from-word.ensures, c.from-nodes.ensures)
    (delivery_drawn c.args.nodes c.args.sent.now c.args.generator.now _ _ _ _
    c.next_word-kind.ensures c.next_word.ensures (grind (arith, rules)) (grind (arith, rules)))

pub returns-in_default : goal.returns-in_default
returns-in_default g c =
    rw (c.other_at.ensures, c.from.ensures, c.from-word.ensures, c.from-nodes.ensures)
    (pulse_drawn c.args.nodes c.args.sent.now c.args.generator.now _ _ _ _
    c.next_word-kind.ensures c.next_word.ensures _ _ c.next_word-in_default.ensures
    (grind (arith, rules)))
