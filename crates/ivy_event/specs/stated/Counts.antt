-- Eventcounts (Reed and Kanodia 1979) in page 0.
use Rattle.std.specs.Prelude.{ℕ, ◌*◌, Result, Ok, Err, nat_lt, if◌then◌else◌}
use Rattle.ivy_model.specs.declared.config.Config.{Config}
use Rattle.ivy_model.specs.declared.fault.Fault.{Fault}
use Rattle.ivy_model.specs.declared.fault.Fault.TheVariants.{NoSuchCount}
use Rattle.ivy_model.specs.stated.Config.{count_len}
use Rattle.ivy_pagetable.specs.declared.word.Word.{Word}

-- a count lies behind those before it, 8 bytes each
abbrev pub offset_of_count : Config → ℕ → Result ℕ Fault
offset_of_count c k = if nat_lt k (count_len c) then Ok (8 * k) else Err NoSuchCount

-- the word at a count's place, if there is such a count
abbrev pub word_of_count : Config → ℕ → (ℕ → Word) → Result Word Fault
word_of_count c k word = if nat_lt k (count_len c) then Ok (word (8 * k)) else Err NoSuchCount
