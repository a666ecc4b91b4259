use Rattle.std.proofs.Common.{◌<◌, ◌≡◌, ◌∷◌, [], length, ap, arith}
use Rattle.proof_worlds.specs.stated.RunState.{Run}
use Rattle.ivy_world.proofs.HandedWorlds.{after_refusal, after_run, after_running, free_site}
use Rattle.ivy_world.proofs.world.World.hand_over.Goals as goal

pub hand-requires-clause-free : goal.hand-requires-clause-free
hand-requires-clause-free g c =
    free_site c.self.inside.sites.items c.args.node (rw (← c.self.view_is) at c.requires.free)

pub invariant_of-self : goal.invariant_of-self
invariant_of-self g c =
    let count = c.self.invariant.0.count in
    let nodes : c.self.inside.config.nodes ≡ c.args.self.now.config.nodes =
    ap (λ (r : Run). r.config.nodes) c.self.view_is in
    let below = c.requires.node in
    let l : c.args.node < length c.self.inside.sites.items = omega (arith, count, nodes, below) in
    after_running c.self.inside.config c.self.inside.opening c.self.inside.sites.items
    c.self.inside.sent.items
    c.self.inside.passed c.args.node ((c.args.call ∷ []) ∷ []) c.self.invariant.0 c.self.invariant.1 l
    c.hand.result c.hand.new.sites.items
    (record { ok = c.hand.ensures.ok; err = c.hand.ensures.err })

pub returns-clause-ok : goal.returns-clause-ok
returns-clause-ok g c =
    let count = c.self.invariant.0.count in
    let nodes : c.self.inside.config.nodes ≡ c.args.self.now.config.nodes =
    ap (λ (r : Run). r.config.nodes) c.self.view_is in
    let below = c.requires.node in
    let l : c.args.node < length c.self.inside.sites.items = omega (arith, count, nodes, below) in
    rw (← c.self.view_is)
    (after_run c.self.inside.config c.self.inside.opening c.self.inside.sites.items
    c.self.inside.sent.items
    c.self.inside.passed c.args.node ((c.args.call ∷ []) ∷ []) c.self.invariant.0 c.self.invariant.1 l
    c.hand.result c.hand.new.sites.items
    (record { ok = c.hand.ensures.ok; err = c.hand.ensures.err }))

pub returns-clause-err : goal.returns-clause-err
returns-clause-err g c =
    rw (← c.self.view_is)
    (after_refusal c.self.inside.config c.self.inside.opening c.self.inside.sites.items
    c.self.inside.sent.items
    c.hand.result c.hand.new.sites.items c.hand.ensures.err)
