-- Words of 8 bytes in a row, carried out one after another on the bytes of their page.
use Rattle.std.specs.Prelude.{◌≡◌, ℕ, ◌+◌, ◌-◌, ◌*◌, ◌/◌, List, [], ◌∷◌, length, min, take}
use Rattle.ivy_model.specs.declared.Row.{Row}
use Rattle.ivy_model.specs.declared.Row.TheVariants.{Loads, Stores}
use Rattle.ivy_model.specs.stated.Serves.{overwrite}
use Rattle.ivy_pagetable.specs.declared.word.Word.{Word}
use Rattle.ivy_pagetable.specs.declared.word.Word.TheVariants.{Load, Store}
use Rattle.ivy_pagetable.specs.declared.word.Out.{Out}
use Rattle.ivy_pagetable.specs.declared.word.Out.TheVariants.{Value, Done}
use Rattle.ivy_pagetable.specs.stated.Words.{IsWord, carried_out}

-- how many words lie in a page of this size from a place on, and in this many bytes
abbrev pub row_len : ℕ → ℕ → ℕ → ℕ
row_len page_size offset len = min ((page_size - offset) / 8) (len / 8)

-- the word of a row at a place in its page, and what it gives
abbrev pub word_in : Row → ℕ → ℕ → Word
word_in Loads offset number = Load 8 offset
word_in Stores offset number = Store 8 offset number

abbrev pub out_in : Row → ℕ → Out
out_in Loads number = Value number
out_in Stores number = Done

-- the words of these numbers, carried out one after another on the bytes of a page, give what they
-- are to give, and lead from the old bytes to the new ones
abbrev pub AreCarried : Row → ℕ → List ℕ → List ℕ → List ℕ → Type 0
AreCarried kind offset [] old new = new ≡ old
AreCarried kind offset (number ∷ more) old new =
    IsWord (length old) (word_in kind offset number)
    × ((carried_out (word_in kind offset number) old).out ≡ out_in kind number)
    × AreCarried kind (offset + 8) more (carried_out (word_in kind offset number) old).bytes new

-- the bytes of a page with so many words of other bytes from a place on
abbrev pub with_row : List ℕ → ℕ → ℕ → List ℕ → List ℕ
with_row bytes offset words from = overwrite bytes offset (take (8 * words) from)
