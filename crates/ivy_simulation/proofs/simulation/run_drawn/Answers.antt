use Rattle.std.proofs.Common.{◌≡◌, ◌+◌, ◌≤◌, All, List, ℕ, [], ◌∷◌, length, subst, sym, ◌∙◌, refl, arith}
use Rattle.ivy_host.specs.stated.Holding.{AllSpell}
use Rattle.proof_worlds.specs.stated.Reached.{IsLedTo}
use Rattle.ivy_texts.specs.Drawn.{seeded, drawn}
use Rattle.ivy_simulation.specs.Simulated.{DrawnTo}
use Rattle.ivy_texts.proofs.Drawing.{long_strings}
use Rattle.ivy_simulation.proofs.Simulating.{drawn_on}
use Rattle.ivy_simulation.proofs.simulation.run_drawn.Goals as goal

pub draw-step-requires-clause-strings : goal.draw-step-requires-clause-strings
draw-step-requires-clause-strings g c =
    let spelled : AllSpell c.args.config.now c.loop-made.world.world =
    subst (λ k. AllSpell k c.loop-made.world.world) c.loop-made.invariant.config
    c.loop-made.invariant.spelled in
    subst (λ ss. All (λ (s : List ℕ). 24 ≤ length s) ss) (sym c.sent.ensures)
    (long_strings c.args.config.now c.loop-made.world.world.sent c.requires.limits spelled)

pub loop-made-preserved : goal.loop-made-preserved
loop-made-preserved g c =
    let draws : (c.draw-step.result, c.draw-step.new.generator)
    ≡ drawn c.args.config.now.nodes c.loop-made.world.world.sent c.loop-made.generator =
    subst (λ (sent : List (List ℕ)). (c.draw-step.result, c.draw-step.new.generator)
    ≡ drawn c.args.config.now.nodes sent c.loop-made.generator) c.sent.ensures
    c.draw-step.ensures in
    let led : IsLedTo c.args.config.now c.loop-made.world.world (c.draw-step.result ∷ [])
    c.make.new.world.world =
    subst (λ k. IsLedTo k c.loop-made.world.world (c.draw-step.result ∷ []) c.make.new.world.world)
    c.loop-made.invariant.config c.in_ok-make.ensures.made in
    record {
      config = c.make.ensures.config ∙ c.loop-made.invariant.config;
      spelled = c.make.ensures.spelled;
      drawn = drawn_on c.args.config.now (seeded c.args.seed) c.loop-made.generator
          c.draw-step.new.generator c.args.world.now.world c.loop-made.world.world
          c.make.new.world.world c.loop-made._made c.draw-step.result c.loop-made.invariant.drawn
          draws led;
    }

pub returns-clause-drawn : goal.returns-clause-drawn
returns-clause-drawn g c =
    let count : c.loop-made._made + 0 ≡ c.args.moves =
    omega (arith, c.loop-made-test.false, c.loop-made.auto._made-end) in
    subst (λ k. DrawnTo c.args.config.now (seeded c.args.seed) k c.args.world.now.world
    c.loop-made.world.world) count (c.loop-made.invariant.drawn 0 c.loop-made.world.world refl)
