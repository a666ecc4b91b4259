-- The hints of a node: for each page, who probably owns it (Li and Hudak 1989, the dynamic
-- distributed manager).
use Rattle.std.specs.Prelude.{ℕ, Bool, true, false, List, length, replicate, slice_index, slice_set, if◌then◌else◌}
use Rattle.ivy_model.specs.declared.Config.{Config}
use Rattle.ivy_pagetable.specs.stated.Manager.{Ops}

-- `hints` has a place for each page, and each is one of the `nodes` nodes. Steady ones stay where a
-- copy is ended.
pub record Hints : Type 0 where
  pub me : ℕ
  pub nodes : ℕ
  pub hints : List ℕ
  pub steady : Bool

-- at first every hint is node 0, which owns all pages
abbrev pub new_hints : Bool → Config → ℕ → Hints
new_hints steady c me =
    record { me = me; nodes = c.nodes; hints = replicate c.pages 0; steady = steady }

abbrev pub first_hints : Config → ℕ → Hints
first_hints = new_hints false

-- the same, of steady hints
abbrev pub steady_hints : Config → ℕ → Hints
steady_hints = new_hints true

-- who probably owns the page
abbrev pub hint_of : Hints → ℕ → ℕ
hint_of s page = slice_index s.hints page

-- another hint for one page
abbrev pub hinted : Hints → ℕ → ℕ → Hints
hinted s page node = record s { hints = slice_set s.hints page node }

-- A node hints at who is to write the page, at whom it gave the page or had its copy from, and once
-- it may write itself at itself. It does not follow other nodes that only read. Where hints are
-- steady, it does not follow the node for which its copy is ended either: so it stays behind the
-- requests that it sent on.
abbrev pub dynamic_ops : Ops Hints
dynamic_ops = record {
  me = λ s. s.me;
  size = λ s. length s.hints;
  nodes = λ s. s.nodes;
  first = first_hints;
  next_hop = hint_of;
  on_forward = λ s page write origin. if write then hinted s page origin else s;
  on_given = hinted;
  on_replied = λ s page write from. hinted s page (if write then s.me else from);
  on_invalidated = λ s page by. if s.steady then s else hinted s page by;
}
