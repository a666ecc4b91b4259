use Rattle.std.proofs.Common.{◌≡◌, [], ℕ, length, subst, ap, MatchResult}
use Rattle.ivy_model.specs.Rows.{calls_of, numbers_in, row}
use Rattle.ivy_model.specs.declared.Config.{Config}
use Rattle.ivy_moves.specs.stated.Nodes.{Node}
use Rattle.ivy_site.specs.Calls.{MayCallTogether, row_together, words_together}
use Rattle.ivy_host.specs.stated.Hosts.{Host}
use Rattle.ivy_host.specs.stated.Managers.{Managed}
use Rattle.ivy_world.specs.WorldSites.{IsMemory}
use Rattle.ivy_world.proofs.BatchedWorlds.{block_begun, block_refused, block_running, count_says, node_says, place_says}
use Rattle.ivy_world.proofs.world.World.hand_over_block.Goals as goal

pub begin_block-requires-clause-waits : goal.begin_block-requires-clause-waits
begin_block-requires-clause-waits g c =
    place_says c.self.inside.sites.items c.args.node (λ s. s.waiting ≡ [])
    (c.self.invariant.0.nodes.none_waits c.args.node)

pub invariant_of-self : goal.invariant_of-self
invariant_of-self g c =
    let a = c.args in
    block_running c.self.inside.config c.self.inside.opening c.self.inside.sites.items
    c.self.inside.sent.items
    c.self.inside.passed a.node c.self.invariant.0 c.self.invariant.1 c.begin_block.result
    (λ n. calls_of (row a.kind 0 a.addr (numbers_in n a.bytes.now)))
    c.begin_block.new.sites.items c.begin_block.new.sent.items c.begin_block.ensures.done

pub returns-clause-done : goal.returns-clause-done
returns-clause-done g c =
    let a = c.args in
    rw (← c.self.view_is)
    (block_begun c.self.inside.config c.self.inside.opening c.self.inside.sites.items
    c.self.inside.sent.items
    c.self.inside.passed a.node c.self.invariant.0 c.self.invariant.1 c.begin_block.result
    (λ n. calls_of (row a.kind 0 a.addr (numbers_in n a.bytes.now)))
    c.begin_block.new.sites.items c.begin_block.new.sent.items c.begin_block.ensures.done)

pub returns-clause-many : goal.returns-clause-many
returns-clause-many g c =
    let a = c.args in
    let len : ℕ = length a.bytes.now in
    rw (← c.self.view_is)
    (count_says c.begin_block.result c.self.inside.sites.items a.node
    (λ k s. MayCallTogether s.node.core.process s.node.core.history a.addr len
    → k ≡ row_together s a.kind a.addr a.words len)
    (λ k (m : Node (Host Managed)). MayCallTogether m.core.process m.core.history a.addr len
    → k ≡ words_together c.self.inside.config m.core.memory a.kind a.addr a.words len)
    (λ k s at says may.
    subst (λ (x : Config). k ≡ words_together x s.node.core.memory a.kind a.addr a.words len)
    (c.self.invariant.0.nodes.config a.node s at) (says may))
    c.begin_block.ensures.many)

pub returns-clause-busy : goal.returns-clause-busy
returns-clause-busy g c =
    let a = c.args in
    let len : ℕ = length a.bytes.now in
    rw (← c.self.view_is)
    (node_says c.self.inside.sites.items a.node
    (λ s. (MayCallTogether s.node.core.process s.node.core.history a.addr len → ⊥)
    → MatchResult c.begin_block.result (λ k. k ≡ 0) IsMemory)
    (λ (m : Node (Host Managed)). (MayCallTogether m.core.process m.core.history a.addr len → ⊥)
    → MatchResult c.begin_block.result (λ k. k ≡ 0) IsMemory)
    (λ s at says. says) c.begin_block.ensures.busy)

pub returns-clause-cause : goal.returns-clause-cause
returns-clause-cause g c =
    let a = c.args in
    let len : ℕ = length a.bytes.now in
    rw (← c.self.view_is)
    (block_refused c.self.inside.config c.self.inside.opening c.self.inside.sites.items
    c.self.inside.sent.items a.node
    c.self.invariant.0 c.begin_block.result
    (λ s. calls_of (row a.kind 0 a.addr (numbers_in (row_together s a.kind a.addr a.words len) a.bytes.now)))
    (λ (m : Node (Host Managed)). calls_of (row a.kind 0 a.addr
    (numbers_in (words_together c.self.inside.config m.core.memory a.kind a.addr a.words len) a.bytes.now)))
    (λ s at. ap (λ (x : Config). calls_of (row a.kind 0 a.addr
    (numbers_in (words_together x s.node.core.memory a.kind a.addr a.words len) a.bytes.now)))
    (c.self.invariant.0.nodes.config a.node s at))
    c.begin_block.ensures.cause)
