use Rattle.std.proofs.Common.{get_or, slice_get, rules, subst}
use Rattle.std.proofs.lemmas.List.{take_more}
use Rattle.std.proofs.lemmas.Option.{slice_get-get_or}
use Rattle.ivy_host.specs.stated.Managers.{managed_ops}
use Rattle.ivy_moves.specs.declared.Move.TheVariants.{Turn}
use Rattle.ivy_moves.specs.stated.Worlds.{Moves}
use Rattle.ivy_host.specs.stated.Hosts.{host_rules}
use Rattle.ivy_moves.proofs.Leading.{leads_one}
use Rattle.ivy_world.proofs.Worlds.{named_exactly}
use Rattle.ivy_world.proofs.world.World.make_each.Goals as goal

pub loop-place-preserved : goal.loop-place-preserved
loop-place-preserved g c =
    let made =
    subst (λ x. Moves (host_rules managed_ops) x c.loop-place.self.world
    (get_or c.args.moves.now c.loop-place.place (Turn 0)) c.make.new.self.world)
    c.loop-place.invariant.config c.in_default.ensures.ok in record {
      config = search rules;
      programs = search rules;
      opened = search rules;
      led = rw (take_more c.args.moves.now c.loop-place.place (Turn 0) c.loop-place-test.true)
          (leads_one (host_rules managed_ops) c.args.self.now.config _ _ _ _ _
          c.loop-place.invariant.led made);
    }

pub returns-in-Err-clause-named : goal.returns-in-Err-clause-named
returns-in-Err-clause-named g c =
    rw c.in-Err.ensures.err
    (named_exactly c.loop-place.self.config c.loop-place.self.world c.in-Err.fault
    (slice_get c.args.moves.now c.loop-place.place)
    (get_or c.args.moves.now c.loop-place.place (Turn 0))
    (slice_get-get_or c.args.moves.now c.loop-place.place (Turn 0) c.loop-place-test.true)
    c.in-Err.ensures.cause c.in-Err.ensures.named)
