-- A history that goes on by the records of a row.
use Rattle.std.proofs.Common.{◌≡◌, ℕ, ◌+◌, ◌-◌, Bool, false, List, ◌++◌, length, length-append, slice_get, Option, sym, ap, ◌∙◌}
use Rattle.ivy_model.specs.declared.Record.{Record}
use Rattle.ivy_model.specs.declared.Row.{Row}
use Rattle.ivy_model.specs.Rows.{numbers_in, row}
use Rattle.ivy_model.proofs.Rows.{length-numbers_in, length-row}
use Rattle.ivy_moves.specs.Keeping.{last_of, read_of}

module _ (kind : Row) (node addr words : ℕ) (bytes : List ℕ) where
  as_many : length (row kind node addr (numbers_in words bytes)) ≡ words
  as_many = length-row kind node addr (numbers_in words bytes) ∙ length-numbers_in words bytes

  -- they are as many more
  pub counted : (before after : List Record) (count : ℕ)
      → after ≡ before ++ row kind node addr (numbers_in words bytes) → count ≡ length before
      → count + words ≡ length after
  counted before after count grown is =
      ap (λ (n : ℕ). n + words) is
      ∙ ap (λ (n : ℕ). length before + n) (sym as_many)
      ∙ sym (length-append before (row kind node addr (numbers_in words bytes)))
      ∙ sym (ap (λ (rs : List Record). length rs) grown)

  pub last-in-row : (o : Option Record)
      → slice_get (row kind node addr (numbers_in words bytes)) (words - 1) ≡ o
      → last_of (row kind node addr (numbers_in words bytes)) ≡ o
  last-in-row o is =
      ap (λ (n : ℕ). slice_get (row kind node addr (numbers_in words bytes)) (n - 1)) as_many ∙ is

-- what is not kept can't be read
pub unread : (kept : Bool) → kept ≡ false → (items before after : List Record)
    → items ≡ read_of kept before → items ≡ read_of kept after
unread kept is items before after read =
    read ∙ ap (λ (b : Bool). read_of b before) is ∙ sym (ap (λ (b : Bool). read_of b after) is)
