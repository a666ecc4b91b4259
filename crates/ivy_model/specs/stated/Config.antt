-- Configurations within their limits, and what follows from one.
use Rattle.std.specs.Prelude.{ℕ, ◌≤◌, ◌*◌, ◌-◌, ◌/◌}
use Rattle.ivy_model.specs.stated.Limits.{least_nodes, most_nodes, least_pages, most_pages, most_wide_pages}
use Rattle.ivy_model.specs.stated.PageSize.{IsPageSize}
use Rattle.ivy_model.specs.declared.config.Config.{Config}

-- a configuration within its limits
pub record IsConfig (c : Config) : Type 0 where
  pub nodes_from : least_nodes ≤ c.nodes
  pub nodes_to : c.nodes ≤ most_nodes
  pub pages_from : least_pages ≤ c.pages
  pub pages_to : c.pages ≤ most_wide_pages
  pub page_size : IsPageSize c.page_size

-- a configuration within the narrow limits: its memory has at most one megabyte
pub record IsNarrow (c : Config) : Type 0 where
  pub limits : IsConfig c
  pub pages_to : c.pages ≤ most_pages

-- the address after the heap
abbrev pub heap_end : Config → ℕ
heap_end c = c.pages * c.page_size

-- how many bytes the heap has
abbrev pub heap_len : Config → ℕ
heap_len c = heap_end c - c.page_size

-- how many eventcounts there are: page 0 in words of 8 bytes
abbrev pub count_len : Config → ℕ
count_len c = c.page_size / 8
