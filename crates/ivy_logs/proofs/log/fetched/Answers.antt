-- More than two words are those of no page that is fetched ahead.
use Rattle.std.proofs.Common.{◌≡◌, arith, length, map}
use Rattle.std.proofs.lemmas.List.{length-map}
use Rattle.ivy_logs.proofs.Faulty.{fetch_named}
use Rattle.ivy_logs.proofs.log.fetched.Goals as goal

pub returns-in_default-clause-none : goal.returns-in_default-clause-none
returns-in_default-clause-none g c e is h =
    let two : length (map (λ w. w.now) c.args.words.now) ≡ 2 = fetch_named _ e h in
    let same = length-map c.args.words.now (λ w. w.now) in absurd (omega (arith, two, same))
