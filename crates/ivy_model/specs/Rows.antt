-- Words of eight bytes in a row: each lies behind the one before. A block that a node reads or
-- writes is such a row.
use Rattle.std.specs.Prelude.{ℕ, zero, suc, ◌+◌, List, [], ◌∷◌, drop, map}
use Rattle.byteorder.specs.Endian.{big_number}
use Rattle.ivy_model.specs.declared.call.Call.{Call}
use Rattle.ivy_model.specs.declared.call.Call.TheVariants as call
use Rattle.ivy_model.specs.declared.call.Record.{Record}
use Rattle.ivy_model.specs.declared.call.Reply.TheVariants.{Value, Done}
use Rattle.ivy_model.specs.declared.row.Row.{Row}
use Rattle.ivy_model.specs.declared.row.Row.TheVariants.{Loads, Stores}

-- the numbers in so many words of bytes, the highest byte of each first
abbrev pub numbers_in : ℕ → List ℕ → List ℕ
numbers_in zero bytes = []
numbers_in (suc n) bytes = big_number 8 bytes ∷ numbers_in n (drop 8 bytes)

-- the record of the word at an address that has this number
abbrev pub record_in : Row → ℕ → ℕ → ℕ → Record
record_in Loads node addr number =
    record { node = node; call = call.Load 8 addr; reply = Value number }
record_in Stores node addr number =
    record { node = node; call = call.Store 8 addr number; reply = Done }

-- the records of the words from an address on that have these numbers
abbrev pub row : Row → ℕ → ℕ → List ℕ → List Record
row kind node addr [] = []
row kind node addr (number ∷ more) =
    record_in kind node addr number ∷ row kind node (addr + 8) more

-- the calls of records
abbrev pub calls_of : List Record → List Call
calls_of records = map (λ r. r.call) records
