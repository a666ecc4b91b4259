use Rattle.std.proofs.Common.{◌≡◌, fold, take}
use Rattle.ivy_join.specs.Latest.{hash_with}
use Rattle.ivy_join.proofs.strings.hash_of.Given as goal

-- the hash of the bytes so far
abbrev pub invariant-loop-byte : goal.invariant-loop-byte
invariant-loop-byte l = l.hash ≡ fold hash_with 0xcbf2_9ce4_8422_2325 (take l.byte-index l.bytes)
