-- What contracts see of a page table.
use Rattle.std.specs.Prelude.{ℕ, zero, suc, List, [], ◌∷◌, take, drop}
use Rattle.ivy_pagetable.specs.declared.entry.Entry.{Entry}

-- the entry and the bytes of each page, by its number
pub record Table : Type 0 where
  pub page_size : ℕ
  pub entries : List Entry
  pub pages : List (List ℕ)

-- the pages of a region, in order: as many as there are, each of the one size
abbrev pub pages_in : ℕ → ℕ → List ℕ → List (List ℕ)
pages_in size zero bytes = []
pages_in size (suc pages) bytes = take size bytes ∷ pages_in size pages (drop size bytes)
