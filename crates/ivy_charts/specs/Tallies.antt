-- What a tally has counted.
use Rattle.std.specs.Prelude.{ℕ, ◌+◌, ◌-◌, ◌^◌, ◌==◌, min, List, slice_index, slice_set, if◌then◌else◌}
use Rattle.ivy_wire.specs.stated.Spelling.{code_of}
use Rattle.ivy_charts.specs.declared.tally.Measure.{Measure}
use Rattle.ivy_charts.specs.declared.tally.Measure.TheVariants.{ReadFault, WriteFault, Hit, Forward, Again, Bytes, Sent}
use Rattle.ivy_charts.specs.declared.tally.Tally.{Tally}

-- the numbers of a tally
abbrev pub numbers_of : Tally → List ℕ
numbers_of t = t.numbers

-- which of the numbers counts this: messages stand in the order of their kinds, and behind them
-- acknowledgements alone
abbrev pub place_of : Measure → ℕ
place_of ReadFault = 0
place_of WriteFault = 1
place_of Hit = 2
place_of (Sent kind) = if code_of kind == 0 then 13 else code_of kind + 2
place_of Forward = 14
place_of Again = 15
place_of Bytes = 16

-- as many as there are and so many more, as far as a number of 64 bits goes
abbrev pub counted_on : ℕ → ℕ → ℕ
counted_on number more = min (number + more) (2 ^ 64 - 1)

-- so many more of one measure, and of the others as many as before
abbrev pub with_more : List ℕ → Measure → ℕ → List ℕ
with_more numbers measure more =
    slice_set numbers (place_of measure) (counted_on (slice_index numbers (place_of measure)) more)
