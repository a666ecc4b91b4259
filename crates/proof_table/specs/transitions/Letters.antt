-- The entries of all nodes and the messages among them, wherever these are: under way, put off at
-- an entry, or taken from there and not served yet.
use Rattle.std.specs.Prelude.{ℕ, ◌==◌, ◌&&◌, List, if◌then◌else◌}
use Rattle.ivy_wire.specs.stated.Data.{Parcel}
use Rattle.ivy_link.specs.stated.Paired.{extended}
use Rattle.ivy_pagetable.specs.declared.Entry.{Entry}
use Rattle.proof_table.specs.stated.Letters.{Letter, Net}

-- what a node has of one page is written
abbrev pub written : {X : Type 0} → (ℕ → ℕ → X) → ℕ → ℕ → X → ℕ → ℕ → X
written f x p value i q = if i == x && q == p then value else f i q

-- one entry is written, these letters are loose, and parcels were posted
abbrev pub goes_on : Net → ℕ → ℕ → Entry → List Letter → List Parcel → Net
goes_on n x p z loose parcels = record {
  entry = written n.entry x p z;
  page = n.page;
  breaches = n.breaches;
  posted = extended n.posted parcels;
  delivered = n.delivered;
  loose = loose;
}

-- the node's bytes of one page are written
abbrev pub installs : Net → ℕ → ℕ → List ℕ → Net
installs n x p bytes = record {
  entry = n.entry;
  page = written n.page x p bytes;
  breaches = n.breaches;
  posted = n.posted;
  delivered = n.delivered;
  loose = n.loose;
}
