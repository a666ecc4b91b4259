use Rattle.std.proofs.Common.{◌≡◌, ◌*◌, ◌++◌, take, drop}
use Rattle.hex.specs.Hex.{encode_lower}
use Rattle.ivy_logs.proofs.write.put_digits.Given as goal

abbrev pub invariant-loop-at : goal.invariant-loop-at
invariant-loop-at l = take (2 * l.at) l.places ++ encode_lower (drop l.at l.bytes) ≡ encode_lower l.bytes
