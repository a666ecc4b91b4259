-- The places of a program that runs.
use Rattle.std.proofs.Common.{◌≡◌, ℕ, List, Some, length, slice_get, subst}
use Rattle.std.proofs.lemmas.Option.{slice_get_within, get_or_from_slice_get}
use Rattle.std.proofs.lemmas.List.Elements.{All-get_or}
use Rattle.ivy_program.specs.declared.instruction.Instruction.{Instruction}
use Rattle.ivy_program.specs.Instructions.{IsProgram, JumpsWithin}

-- each instruction of a program jumps inside it
pub jumps_inside : (p : List Instruction) (k : ℕ) (i : Instruction) → IsProgram p
    → slice_get p k ≡ Some i → JumpsWithin (length p) i
jumps_inside p k i q h =
    subst (JumpsWithin (length p)) (get_or_from_slice_get p k i i h)
    (All-get_or (JumpsWithin (length p)) p k i (slice_get_within p k i h) q.inside)
