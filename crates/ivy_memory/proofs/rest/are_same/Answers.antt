use Rattle.std.proofs.Common.{◌<◌, arith}
use Rattle.std.proofs.lemmas.Bool.Decides.{Decides-eqb}
use Rattle.std.proofs.lemmas.List.Elements.{All-from_get_or}
use Rattle.std.proofs.lemmas.Slice.Eq.{slice_eq-Decides}
use Rattle.ivy_memory.proofs.batches.CallsTold.{bytes_told}
use Rattle.ivy_memory.proofs.rest.are_same.Goals as goal

pub returns-clause-bytes : goal.returns-clause-bytes
returns-clause-bytes c = λ same.
    (slice_eq-Decides Decides-eqb _ _ c.eq.result c.eq.ensures).0 same

pub returns-clause-each : goal.returns-clause-each
returns-clause-each c = λ same.
    (slice_eq-Decides Decides-eqb _ _ c.eq.result c.eq.ensures).1
    (bytes_told c.args.words c.args.own.now c.args.from.now same c.requires.own c.requires.from
    (All-from_get_or (λ b. b < 256) c.args.own.now 0 (λ i lt. omega (arith, c.type_inv.own i)))
    (All-from_get_or (λ b. b < 256) c.args.from.now 0 (λ i lt. omega (arith, c.type_inv.from i))))
