use Rattle.std.proofs.Common.{◌≡◌, ◌∙◌, ◌++◌, [], ◌+◌, ◌-◌, suc, ap, sym, append-nil, arith}
use Rattle.ivy_program.specs.stated.Programs.{Called}
use Rattle.ivy_world.specs.HandedWorlds.{own_code}
use Rattle.ivy_world.specs.WorldSites.{first_sites_from}
use Rattle.ivy_world.proofs.Worlds.{one_more_site}
use Rattle.ivy_world.proofs.world.open_sites.Goals as goal

pub loop-me-init : goal.loop-me-init
loop-me-init g c =
    ap (λ x. x ++ first_sites_from c.args.opening c.args.config.now 0
    (own_code (c.args.config.now.nodes - 0)))
    c.in_ok-sites.ensures.items
    ∙ ap (λ n. first_sites_from c.args.opening c.args.config.now 0 (own_code n))
    (let same : c.args.config.now.nodes - 0 ≡ c.args.config.now.nodes = omega arith in same)

pub loop-me-preserved : goal.loop-me-preserved
loop-me-preserved g c =
    let at = c.loop-me in
    let left : c.args.config.now.nodes - at.me ≡ suc (c.args.config.now.nodes - (at.me + 1)) =
    omega arith in
    one_more_site c.args.opening c.args.config.now at.me at.sites.items (Called [] [])
    (own_code (c.args.config.now.nodes - at.me))
    (own_code (c.args.config.now.nodes - (at.me + 1))) (ap own_code left)
    c.in_ok-open_by.field-0 c.in_ok-open_by.ensures.first c.push.new.self.items
    c.in_ok-push.ensures.items ∙ at.invariant

pub returns-clause-first : goal.returns-clause-first
returns-clause-first g c =
    let at = c.loop-me in
    let none : c.args.config.now.nodes - at.me ≡ 0 = omega arith in
    sym (append-nil at.sites.items)
    ∙ ap (λ n. at.sites.items ++ first_sites_from c.args.opening c.args.config.now at.me
    (own_code n)) (sym none)
    ∙ at.invariant
