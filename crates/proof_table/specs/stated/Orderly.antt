-- What holds of the entries and letters of a world at every moment, under every manager (Li and
-- Hudak 1989): each page has at most one owner, or is on its way to one node; who may read a page,
-- or is about to, is counted there; and each word that waits has at most one letter of its own, or
-- one for each node that is to give its copy up.
use Rattle.std.specs.Prelude.{◌≡◌, ◌≢◌, ◌<◌, ℕ, true, false, List, slice_get, Some}
use Rattle.std.specs.FinSet as set
use Rattle.ivy_model.specs.declared.Config.{Config}
use Rattle.ivy_wire.specs.declared.Content.TheVariants as content
use Rattle.ivy_wire.specs.stated.Data.{Content}
use Rattle.ivy_pagetable.specs.declared.Entry.{Entry}
use Rattle.ivy_pagetable.specs.declared.Entry.TheVariants as entry
use Rattle.ivy_pagetable.specs.declared.PutOff.{PutOff}
use Rattle.ivy_pagetable.specs.declared.Request.TheVariants as request
use Rattle.ivy_pagetable.specs.stated.NodeSets.{Nodes, IsBelow, nodes_with}
use Rattle.ivy_pagetable.specs.stated.Entries.{put_offs, readable, writable, is_owner, copies_of}
use Rattle.proof_table.specs.stated.Letters.{Letter, Net, Place, IsAt}

-- the word of this call waits for a copy, to read; for the page, to write; for this node to give
-- its copy up
abbrev pub AwaitsCopy : Entry → ℕ → Type 0
AwaitsCopy (entry.Idle s) call = ⊥
AwaitsCopy (entry.AwaitRead s) call = s.call ≡ call
AwaitsCopy (entry.AwaitWrite s) call = ⊥
AwaitsCopy (entry.AwaitAcks s) call = ⊥

abbrev pub AwaitsPage : Entry → ℕ → Type 0
AwaitsPage (entry.Idle s) call = ⊥
AwaitsPage (entry.AwaitRead s) call = ⊥
AwaitsPage (entry.AwaitWrite s) call = s.waiting.call ≡ call
AwaitsPage (entry.AwaitAcks s) call = ⊥

abbrev pub Collects : Entry → ℕ → ℕ → Type 0
Collects (entry.Idle s) call node = ⊥
Collects (entry.AwaitRead s) call node = ⊥
Collects (entry.AwaitWrite s) call node = ⊥
Collects (entry.AwaitAcks s) call node = (s.waiting.call ≡ call) × (set.contains s.left node ≡ true)

-- an order to give a copy up waits at an entry only until the copy comes
abbrev pub CanWait : Entry → Type 0
CanWait (entry.Idle s) = ⊥
CanWait (entry.AwaitRead s) = Unit {0}
CanWait (entry.AwaitWrite s) = ⊥
CanWait (entry.AwaitAcks s) = ⊥

-- the node may read the page, or a copy is on its way to it
pub data HasCopy (n : Net) (node page : ℕ) : Type 0 where
  reads : readable (n.entry node page) ≡ true → HasCopy n node page
  comes : (at : Place) (l : Letter) (bytes : List ℕ) → IsAt n at l → l.dest ≡ node
      → l.message.content ≡ content.ReadRep page bytes → HasCopy n node page

-- where the ownership of a page is: at a node, or in the letter that brings it to one
pub data OwnerPlace : Type 0 where
  At : (node : ℕ) → OwnerPlace
  In : (at : Place) → OwnerPlace

-- the page is this node's, or is to be; these others have a copy, or have not given theirs up yet
abbrev pub IsOwned : Net → ℕ → ℕ → Nodes → OwnerPlace → Type 0
IsOwned n page node copies (At owner) =
    (owner ≡ node) × (is_owner (n.entry node page) ≡ true)
    × (copies ≡ copies_of (n.entry node page))
IsOwned n page node copies (In at) =
    (l : Letter) × (bits : ℕ) × (bytes : List ℕ) × IsAt n at l × (l.dest ≡ node)
    × (l.message.content ≡ content.WriteRep page bits bytes) × (copies ≡ nodes_with bits)

-- whose letter it is: of the word that waits at a node for a page, or of the order from that node
-- to another to give its copy up. A message of the heap is no letter, and its key is never looked
-- at.
pub data Key : Type 0 where
  Own : (origin page : ℕ) → Key
  Order : (origin target page : ℕ) → Key
  Call : (origin : ℕ) → Key

-- the key of a letter that says this
abbrev pub key_as : Letter → Content → Key
key_as l (content.ReadReq page) = Own l.message.origin page
key_as l (content.WriteReq page) = Own l.message.origin page
key_as l (content.ReadRep page bytes) = Own l.message.origin page
key_as l (content.WriteRep page copies bytes) = Own l.message.origin page
key_as l (content.Inval page) = Order l.message.origin l.dest page
key_as l (content.InvalAck page) = Order l.message.origin l.source page
key_as l (content.AllocReq size) = Call l.message.origin
key_as l (content.AllocRep code addr) = Call l.message.origin
key_as l (content.FreeReq addr) = Call l.message.origin
key_as l (content.FreeRep code) = Call l.message.origin

-- the key of a letter
abbrev pub key_of : Letter → Key
key_of l = key_as l l.message.content

-- a letter of a node, about a page
pub record IsAbout (c : Config) (l : Letter) (page : ℕ) : Type 0 where
  pub below : l.message.origin < c.nodes
  pub inside : page < c.pages

-- the entry of the letter's origin
abbrev pub origin_entry : Net → Letter → ℕ → Entry
origin_entry n l page = n.entry l.message.origin page

-- The letter's origin waits for what it asks or brings. A message of the heap is no letter.
abbrev pub IsExpectedAs : Config → Net → Letter → Content → Type 0
IsExpectedAs c n l (content.ReadReq page) =
    IsAbout c l page × AwaitsCopy (origin_entry n l page) l.message.call
IsExpectedAs c n l (content.WriteReq page) =
    IsAbout c l page × AwaitsPage (origin_entry n l page) l.message.call
IsExpectedAs c n l (content.ReadRep page bytes) =
    IsAbout c l page × (l.dest ≡ l.message.origin)
    × AwaitsCopy (origin_entry n l page) l.message.call
IsExpectedAs c n l (content.WriteRep page copies bytes) =
    IsAbout c l page × (l.dest ≡ l.message.origin)
    × AwaitsPage (origin_entry n l page) l.message.call
    × IsBelow c.nodes (nodes_with copies)
IsExpectedAs c n l (content.Inval page) =
    IsAbout c l page × (l.source ≡ l.message.origin)
    × Collects (origin_entry n l page) l.message.call l.dest
IsExpectedAs c n l (content.InvalAck page) =
    IsAbout c l page × (l.dest ≡ l.message.origin)
    × Collects (origin_entry n l page) l.message.call l.source
    × (HasCopy n l.source page → ⊥)
IsExpectedAs c n l (content.AllocReq size) = ⊥
IsExpectedAs c n l (content.AllocRep code addr) = ⊥
IsExpectedAs c n l (content.FreeReq addr) = ⊥
IsExpectedAs c n l (content.FreeRep code) = ⊥

-- so it is for what the letter says
abbrev pub IsExpected : Config → Net → Letter → Type 0
IsExpected c n l = IsExpectedAs c n l l.message.content

-- each letter is expected and the only one of its key, and each page has at most one owner
pub record IsOrderly (c : Config) (n : Net) : Type 0 where
  pub fits : (at : Place) (l : Letter) → IsAt n at l → IsExpected c n l
  pub one_letter : (a b : Place) (l m : Letter) → IsAt n a l → IsAt n b m → key_of l ≡ key_of m
      → a ≡ b
  -- what is put off is another node's
  pub foreign : (x p k : ℕ) (q : PutOff) → slice_get (put_offs (n.entry x p)) k ≡ Some q
      → q.origin ≢ x
  pub orders : (x p k : ℕ) (q : PutOff) → slice_get (put_offs (n.entry x p)) k ≡ Some q
      → q.kind ≡ request.Invalidate → CanWait (n.entry x p)
  -- ownership
  pub one_owner : (p i j : ℕ) (s t : Nodes) (a b : OwnerPlace) → IsOwned n p i s a
      → IsOwned n p j t b → a ≡ b
  pub counted : (p i x : ℕ) (s : Nodes) (a : OwnerPlace) → IsOwned n p i s a → x ≢ i → HasCopy n x p
      → set.contains s x ≡ true
  pub others : (p i : ℕ) (s : Nodes) (a : OwnerPlace) → IsOwned n p i s a → set.contains s i ≡ false
  -- who may write owns the page, and no other node has a copy
  pub alone : (x p : ℕ) → writable (n.entry x p) ≡ true
      → (is_owner (n.entry x p) ≡ true) × (copies_of (n.entry x p) ≡ set.empty)
