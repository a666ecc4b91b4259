-- Words on page tables.
use Rattle.std.specs.Prelude.{◌≡◌, ℕ, List, [], slice_index_or, slice_set, replicate, if◌then◌else◌, ◌==◌}
use Rattle.ivy_model.specs.declared.Config.{Config}
use Rattle.ivy_pagetable.specs.declared.entry.Entry.{Entry}
use Rattle.ivy_pagetable.specs.stated.Entries.{nothing, owned}
use Rattle.ivy_pagetable.specs.stated.TableState.{Table}

-- the entry of a page; beyond the pages one of nothing
abbrev pub entry_at : Table → ℕ → Entry
entry_at t page = slice_index_or t.entries page nothing

-- the bytes of a page; none beyond the pages
abbrev pub page_at : Table → ℕ → List ℕ
page_at t page = slice_index_or t.pages page []

-- each byte of the page is 0
abbrev pub IsBlank : Table → ℕ → Type 0
IsBlank t page = page_at t page ≡ replicate t.page_size 0

-- the table with this entry of the page
abbrev pub with_entry : Table → ℕ → Entry → Table
with_entry t page e =
    record { page_size = t.page_size; entries = slice_set t.entries page e; pages = t.pages }

-- the table with these bytes of the page
abbrev pub with_page : Table → ℕ → List ℕ → Table
with_page t page bytes =
    record { page_size = t.page_size; entries = t.entries; pages = slice_set t.pages page bytes }

-- at first node 0 owns each page, and all bytes are 0
abbrev pub first_entry : ℕ → Entry
first_entry me = if me == 0 then owned else nothing

-- the table of a node as the world begins
abbrev pub first_table : Config → ℕ → Table
first_table c me = record {
  page_size = c.page_size;
  entries = replicate c.pages (first_entry me);
  pages = replicate c.pages (replicate c.page_size 0);
}
