-- Words of 8 bytes in a row that wait along with the word of their page's entry, and their answers once
-- they were carried out. This file names no struct of the crate.
use Rattle.std.specs.Prelude.{ℕ, ◌+◌, ◌-◌, List, [], ◌∷◌, drop, length, map}
use Rattle.byteorder.specs.Endian.{big_number}
use Rattle.ivy_model.specs.declared.Row.{Row}
use Rattle.ivy_model.specs.Rows.{numbers_in}
use Rattle.ivy_pagetable.specs.declared.Out.{Out}
use Rattle.ivy_pagetable.specs.declared.Word.{Word}
use Rattle.ivy_pagetable.specs.WordRows.{word_in, out_in}

-- the words of a row from a place in the page on, and what they give
abbrev pub row_words : Row → ℕ → List ℕ → List Word
row_words kind offset [] = []
row_words kind offset (number ∷ more) = word_in kind offset number ∷ row_words kind (offset + 8) more

abbrev pub outs_of : Row → List ℕ → List Out
outs_of kind numbers = map (out_in kind) numbers

-- the first of so many words of a row from a place in the page on, whose numbers are in these bytes,
-- and the others
abbrev pub first_word : Row → ℕ → List ℕ → Word
first_word kind offset bytes = word_in kind offset (big_number 8 bytes)

abbrev pub other_words : Row → ℕ → ℕ → List ℕ → List Word
other_words kind offset words bytes =
    row_words kind (offset + 8) (numbers_in (words - 1) (drop 8 bytes))

-- `words` are those that wait, for a page of `size` bytes, and `came` is what they gave on the page on
-- which they were carried out last. `outs` are the answers that are there and were not taken yet.
pub record Behind : Type 0 where
  pub size : ℕ
  pub words : List Word
  pub came : List Out
  pub outs : List Out

-- so many words wait, and so many answers are there, of a row from a place on, whose bytes stand where
-- they lie in the page
abbrev pub behind : Row → ℕ → ℕ → ℕ → List ℕ → Behind
behind kind offset waiting left bytes = record {
  size = length bytes;
  words = row_words kind offset (numbers_in waiting (drop offset bytes));
  came = outs_of kind (numbers_in waiting (drop offset bytes));
  outs = outs_of kind (numbers_in left (drop offset bytes));
}
