-- The entries of all nodes and the messages among them, wherever these are: under way, put off at
-- an entry, or taken from there and not served yet.
use Rattle.std.specs.Prelude.{◌≡◌, ◌≤◌, ℕ, List, slice_get, Some}
use Rattle.ivy_wire.specs.declared.Content.TheVariants as content
use Rattle.ivy_wire.specs.stated.Data.{Content, Message}
use Rattle.ivy_pagetable.specs.declared.Entry.{Entry}
use Rattle.ivy_pagetable.specs.declared.PutOff.{PutOff}
use Rattle.ivy_pagetable.specs.declared.Request.{Request}
use Rattle.ivy_pagetable.specs.declared.Request.TheVariants as request
use Rattle.ivy_pagetable.specs.stated.Entries.{put_offs}

-- a message at the node `dest`, or on its way there; `source` is who sent it
pub record Letter : Type 0 where
  pub source : ℕ
  pub dest : ℕ
  pub message : Message

-- The entry and the bytes that a node has of a page, how many messages fitted no rule at a node,
-- and the messages.
-- `loose` are letters that a node has taken and not served yet, within an event; between events
-- there are none.
pub record Net : Type 0 where
  pub entry : ℕ → ℕ → Entry
  pub page : ℕ → ℕ → List ℕ
  pub breaches : ℕ → ℕ
  pub posted : ℕ → ℕ → List Message
  pub delivered : ℕ → ℕ → ℕ
  pub loose : List Letter

-- where a letter is: the message of this number from one node to another, under way; the one of
-- this number that is put off at a page of a node; or loose
pub data Place : Type 0 where
  Underway : (source dest number : ℕ) → Place
  Aside : (node page number : ℕ) → Place
  Loose : (number : ℕ) → Place

-- what was put off, as the message that it was
abbrev pub content_of : Request → ℕ → Content
content_of request.Read page = content.ReadReq page
content_of request.Write page = content.WriteReq page
content_of request.Invalidate page = content.Inval page

-- the letter that was put off at a page of a node
abbrev pub letter_of : ℕ → ℕ → PutOff → Letter
letter_of node page q = record {
  source = q.origin;
  dest = node;
  message = record { origin = q.origin; call = q.call; content = content_of q.kind page };
}

-- the letter is at this place: under way to its node, or put off there
abbrev pub IsAt : Net → Place → Letter → Type 0
IsAt n (Underway i j k) l =
    (n.delivered i j ≤ k) × (slice_get (n.posted i j) k ≡ Some l.message) × (l.source ≡ i)
    × (l.dest ≡ j)
IsAt n (Aside x p k) l =
    (q : PutOff) × (slice_get (put_offs (n.entry x p)) k ≡ Some q) × (l ≡ letter_of x p q)
IsAt n (Loose k) l = slice_get n.loose k ≡ Some l
