-- Copies of the flat memory's pages: at every moment who may read a page, or owns it, has the
-- bytes that the flat memory has of it then, and so has each copy and each page on its way.
use Rattle.std.specs.Prelude.{◌≡◌, ◌⊎◌, ◌<◌, ℕ, true, List, length}
use Rattle.ivy_model.specs.declared.Config.{Config}
use Rattle.ivy_wire.specs.declared.Content.TheVariants as content
use Rattle.ivy_wire.specs.stated.Data.{Content}
use Rattle.ivy_pagetable.specs.declared.Entry.{Entry}
use Rattle.ivy_pagetable.specs.stated.Entries.{readable, is_owner}
use Rattle.proof_table.specs.stated.Letters.{Letter, Net, Place, IsAt}

-- the node may read the page, or owns it
abbrev pub HasBytes : Entry → Type 0
HasBytes e = (readable e ≡ true) ⊎ (is_owner e ≡ true)

-- if it carries a page, it carries the bytes that the flat memory has of it
abbrev pub CarriesCurrent : (ℕ → List ℕ) → Content → Type 0
CarriesCurrent flat (content.ReadReq page) = Unit {0}
CarriesCurrent flat (content.WriteReq page) = Unit {0}
CarriesCurrent flat (content.ReadRep page bytes) = bytes ≡ flat page
CarriesCurrent flat (content.WriteRep page copies bytes) = bytes ≡ flat page
CarriesCurrent flat (content.Inval page) = Unit {0}
CarriesCurrent flat (content.InvalAck page) = Unit {0}
CarriesCurrent flat (content.AllocReq size) = Unit {0}
CarriesCurrent flat (content.AllocRep code addr) = Unit {0}
CarriesCurrent flat (content.FreeReq addr) = Unit {0}
CarriesCurrent flat (content.FreeRep code) = Unit {0}

-- the flat memory has these bytes of each page
pub record IsCopied (c : Config) (n : Net) (flat : ℕ → List ℕ) : Type 0 where
  pub had : (x p : ℕ) → HasBytes (n.entry x p) → n.page x p ≡ flat p
  pub carried : (at : Place) (l : Letter) → IsAt n at l → CarriesCurrent flat l.message.content
  pub flat_sized : (p : ℕ) → p < c.pages → length (flat p) ≡ c.page_size
  pub sized : (x p : ℕ) → x < c.nodes → p < c.pages → length (n.page x p) ≡ c.page_size
