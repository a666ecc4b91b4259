-- What a page table ends as, where the bytes of a page are lent to be written. What is written has
-- the page's length.
-- The logic asks for a table at any other list too: that goes over the bytes of the region from the
-- page's first one on.
use Rattle.std.specs.Prelude.{ℕ, ◌*◌, List, ◌++◌, length, take, drop, if◌then◌else◌, ◌==◌}
use Rattle.std.specs.List.{concat, refill}
use Rattle.std.specs.Borrow.{Lends, Fml, RattleType, MutBor, Array, u8}
use Rattle.ivy_pagetable.specs.contracts.node_table.PageTable as table
use Rattle.std.specs.declared.alloc.Allocator.{Ghosts}
use Rattle.ivy_pagetable.specs.stated.TableState.{Table, pages_in}
use Rattle.ivy_pagetable.specs.stated.Tables.{with_page}

-- the region with these bytes written from a place on
abbrev pub poured : List ℕ → ℕ → List ℕ → List ℕ
poured bytes at new =
    refill (length bytes) bytes (take at bytes ++ (new ++ drop (length new) (drop at bytes)))

-- the table that the region is then, whatever the length of what was written
abbrev pub spilled : Table → ℕ → List ℕ → Table
spilled t page new = record {
  page_size = t.page_size;
  entries = t.entries;
  pages = pages_in t.page_size (length t.entries)
      (poured (concat t.pages) (page * t.page_size) new);
}

-- the table once the lent bytes came back as these
abbrev pub page_given_back : Table → ℕ → List ℕ → Table
page_given_back t page new =
    if length new == t.page_size then with_page t page new else spilled t page new

module _ (A : RattleType) (heap : Ghosts A.Denot) where
  -- the bytes are those of the page, lent until they come back
  abbrev pub LendsPage : MutBor Table → ℕ → MutBor (List ℕ) → Fml
  LendsPage t page bytes =
      Lends (table.the_row A heap) (Array u8 0) t bytes (page_given_back t.now page)
