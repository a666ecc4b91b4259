use Rattle.std.proofs.Common.{◌≡◌, ap, cond, sym, ◌∙◌, ◌++◌, ◌∷◌, [], length, arith}
use Rattle.std.specs.FinSet as set
use Rattle.std.proofs.lemmas.List.{append-nil}
use Rattle.ivy_model.specs.stated.Limits.{most_nodes}
use Rattle.ivy_pagetable.specs.stated.NodeSets.{nodes_of}
use Rattle.ivy_pagetable.proofs.Bits.{passing, passing_few, passing_more}
use Rattle.ivy_pagetable.proofs.node_set.NodeSet.nodes.Goals as goal
use Rattle.ivy_pagetable.proofs.node_set.NodeSet.nodes.Goals.{then-has, else-has}

pub push-requires : goal.push-requires
push-requires c = (
  omega arith,
  omega (
    arith,
    c.loop-node.invariant,
    ap length c.loop-node.invariant,
    passing_few (set.contains c.args.self.now) c.loop-node.node,
  ),
)

pub loop-node-preserved : goal.loop-node-preserved
loop-node-preserved c =
    let has = set.contains c.args.self.now in
    let is = c.has.ensures ∙ ap (λ s. set.contains s c.loop-node.node) c.self.view_is in
    elim c.if-has.branch [
      | then-has w ↦ ap (λ v. v.items) w.nodes-is ∙ w.push.ensures.items
          ∙ (λ i. c.loop-node.invariant i ++ c.loop-node.node ∷ [])
          ∙ sym (passing_more has c.loop-node.node
          ∙ ap (λ b. passing has c.loop-node.node ++ cond b (c.loop-node.node ∷ []) [])
          (sym is ∙ w.if-has.true))
      | else-has w ↦ ap (λ v. v.items) w.nodes-is ∙ c.loop-node.invariant
          ∙ sym (passing_more has c.loop-node.node
          ∙ ap (λ b. passing has c.loop-node.node ++ cond b (c.loop-node.node ∷ []) [])
          (sym is ∙ w.if-has.false) ∙ append-nil _)
    ]

pub returns : goal.returns
unfolding nodes_of
returns c =
    let all : c.loop-node.node ≡ most_nodes = omega arith in
    c.loop-node.invariant ∙ ap (passing (set.contains c.args.self.now)) all
