-- What is on its way to a node that asked: a copy of a page, or the page itself.
use Rattle.std.specs.Prelude.{◌≡◌, ℕ, true, List}
use Rattle.ivy_wire.specs.declared.Content.TheVariants as content
use Rattle.ivy_wire.specs.stated.Data.{Content}
use Rattle.ivy_pagetable.specs.stated.Entries.{is_owner}
use Rattle.proof_table.specs.stated.Letters.{Letter, Net, Place, IsAt}

-- a letter that says this went from one node to another
pub record IsPosted (n : Net) (body : Content) (source node : ℕ) : Type 0 where
  pub at : Place
  pub letter : Letter
  pub there : IsAt n at letter
  pub from : letter.source ≡ source
  pub dest : letter.dest ≡ node
  pub says : letter.message.content ≡ body

-- a copy of the page is on its way from one node to another
pub record IsSent (n : Net) (page source node : ℕ) : Type 0 where
  pub at : Place
  pub letter : Letter
  pub bytes : List ℕ
  pub there : IsAt n at letter
  pub from : letter.source ≡ source
  pub dest : letter.dest ≡ node
  pub brings : letter.message.content ≡ content.ReadRep page bytes

-- the node owns the page, or the page is on its way to it
pub data HasPage (n : Net) (node page : ℕ) : Type 0 where
  owns : is_owner (n.entry node page) ≡ true → HasPage n node page
  comes : (at : Place) (l : Letter) (bits : ℕ) (bytes : List ℕ) → IsAt n at l → l.dest ≡ node
      → l.message.content ≡ content.WriteRep page bits bytes → HasPage n node page
