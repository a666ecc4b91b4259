-- What stands before the equals sign is a node and a call, and what stands after it a reply.
use Rattle.std.proofs.Common.{◌≡◌, ◌+◌, ◌-◌, length, map, take, drop, subst, length-drop, arith}
use Rattle.std.proofs.lemmas.List.{take_all}
use Rattle.ivy_texts.specs.Spelled.{SpellsReply}
use Rattle.ivy_texts.proofs.Worded.{record-said}
use Rattle.ivy_texts.proofs.order.parse_record.Goals as goal

pub returns : goal.returns
returns c =
    let from = c.in_ok-equals.equals + 1 in
    let said = c.in_ok-node.said.now in
    let back : take (length said - from) (drop from said) ≡ drop from said =
    take_all (length said - from) (drop from said) (omega (arith, length-drop from said)) in
    record-said c.args.words.now said c.in_ok-node.node.now c.in_ok-equals.equals _
    c.in_ok-node.ensures.cases.0 c.in_ok-equals.ensures c.in_ok-parse_byte.ensures.number
    c.in_ok-parse_call.ensures.spelled c.in_ok-parse_call.ensures.width
    (subst (λ ws. SpellsReply (map (λ w. w.now) ws) c.in_ok-parse_reply.field-0) back
    c.in_ok-parse_reply.ensures)
