use Rattle.std.proofs.Common.{◌≡◌, ap, rules}
use Rattle.ivy_program.specs.stated.States.{State, first_state}
use Rattle.ivy_site.proofs.Made.{first_site}
use Rattle.ivy_site.proofs.site.Site.with_machine.Goals as goal

pub invariant_of-result : goal.invariant_of-result
invariant_of-result g c =
    let begins : c.args.machine ≡ record { program = c.args.machine.program; state = first_state } =
    ap (λ (s : State). record { program = c.args.machine.program; state = s }) c.requires.begins in (
      first_site c.args.opening c.args.keep c.args.config.now c.args.me c.args.machine.program _ c.requires.unfetched
          (search rules),
      (search rules, search rules),
    )
