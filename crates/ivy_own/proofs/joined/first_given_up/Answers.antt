use Rattle.std.proofs.Common.{rules, ◌≡◌, ◌<◌, ◌∙◌, Some, true, length, refl, sym, ap, subst}
use Rattle.std.specs.Prelude.{Err}
use Rattle.std.proofs.lemmas.Option.{slice_get_read}
use Rattle.ivy_own.specs.Faults.{GivesUp}
use Rattle.ivy_own.proofs.joined.first_given_up.Goals as goal

pub returns-then-up-clause-stop : goal.returns-then-up-clause-stop
returns-then-up-clause-stop g c =
    let all = c.args.all.now in
    let index = c.loop-given.given-index in
    let up = c.in-Err.up in
    let within : index < length all = search rules in
    let there = slice_get_read all (length all) index c.given-item.result refl within c.given-item.is in
    let first : up.is_first ≡ true = search rules in
    let gives = c.requires.given index (Err up) (there ∙ ap Some c.in-Err.is) first in (
      search rules,
      subst (λ n. GivesUp (g.W.Work.gives_up c.args.work.now) n up.fault)
          (sym c.loop-given.invariant) gives,
    )
