-- The owners that the managing nodes keep. Node p mod N is the one for page p.
use Rattle.std.specs.Prelude.{ℕ, ◌%◌, Bool, List, length, replicate, slice_index, slice_set, if◌then◌else◌, ◌==◌}
use Rattle.ivy_model.specs.declared.Config.{Config}
use Rattle.ivy_pagetable.specs.stated.Manager.{Ops}

-- `owners` has a place for each page, and is in use for those that the node manages
pub record Owners : Type 0 where
  pub me : ℕ
  pub nodes : ℕ
  pub owners : List ℕ

-- at first every owner is node 0
abbrev pub first_owners : Config → ℕ → Owners
first_owners c me = record { me = me; nodes = c.nodes; owners = replicate c.pages 0 }

abbrev pub manages : Owners → ℕ → Bool
manages s page = page % s.nodes == s.me

-- only the managing node keeps an owner
abbrev pub owner_kept : Owners → ℕ → ℕ → Owners
owner_kept s page owner =
    record {
      me = s.me;
      nodes = s.nodes;
      owners = if manages s page
          then slice_set s.owners page owner else s.owners;
    }

-- the same for a request to write; one to read changes nothing
abbrev pub kept_if : Bool → Owners → ℕ → ℕ → Owners
kept_if write s page owner = if write then owner_kept s page owner else s

-- the managing node asks the owner, and the others ask the managing node
abbrev pub hop_of : Owners → ℕ → ℕ
hop_of s page = if manages s page then slice_index s.owners page else page % s.nodes

-- the kept owner changes where a request to write is sent on, or the page is given or comes
abbrev pub fixed_ops : Ops Owners
fixed_ops = record {
  me = λ s. s.me;
  size = λ s. length s.owners;
  nodes = λ s. s.nodes;
  first = first_owners;
  next_hop = hop_of;
  on_forward = λ s page write origin. kept_if write s page origin;
  on_given = owner_kept;
  on_replied = λ s page write from. kept_if write s page s.me;
  on_invalidated = λ s page by. s;
}
