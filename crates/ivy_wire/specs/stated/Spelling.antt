-- The one spelling of each frame. All numbers are big-endian.
use Rattle.std.specs.Prelude.{◌≡◌, ◌≢◌, ℕ, ◌+◌, ◌^◌, ◌<◌, ◌≤◌, ◌⊎◌, List, [], ◌∷◌, ◌++◌, length, Option, Some, None, MatchOption}
use Rattle.byteorder.specs.Endian.{big_bytes}
use Rattle.ivy_model.specs.declared.Config.{Config}
use Rattle.ivy_model.specs.declared.Fault.TheVariants.{ZeroSize, NoRoom, NotABlock}
use Rattle.ivy_model.specs.stated.Numbers.{fault_number}
use Rattle.ivy_wire.specs.declared.frame.FrameKind.{FrameKind}
use Rattle.ivy_wire.specs.declared.frame.FrameKind.TheVariants as kinds
use Rattle.ivy_wire.specs.stated.Lengths.{frame_version}
use Rattle.ivy_wire.specs.stated.Data.{Content}
use Rattle.ivy_wire.specs.declared.frame.Content.TheVariants as contents
use Rattle.ivy_wire.specs.stated.Data.{Message}
use Rattle.ivy_wire.specs.stated.Data.{Frame, Parcel}

-- the number of each kind
abbrev pub code_of : FrameKind → ℕ
code_of kinds.Ack = 0
code_of kinds.ReadReq = 1
code_of kinds.WriteReq = 2
code_of kinds.ReadRep = 3
code_of kinds.WriteRep = 4
code_of kinds.Inval = 5
code_of kinds.InvalAck = 6
code_of kinds.AllocReq = 7
code_of kinds.AllocRep = 8
code_of kinds.FreeReq = 9
code_of kinds.FreeRep = 10

-- all kinds, in the order of their numbers
abbrev pub all_kinds : List FrameKind
all_kinds = kinds.Ack ∷ kinds.ReadReq ∷ kinds.WriteReq ∷ kinds.ReadRep ∷ kinds.WriteRep
    ∷ kinds.Inval ∷ kinds.InvalAck ∷ kinds.AllocReq ∷ kinds.AllocRep ∷ kinds.FreeReq
    ∷ kinds.FreeRep ∷ []

-- what a message is about, and what a frame with this body is about
abbrev pub kind_of : Content → FrameKind
kind_of (contents.ReadReq page) = kinds.ReadReq
kind_of (contents.WriteReq page) = kinds.WriteReq
kind_of (contents.ReadRep page bytes) = kinds.ReadRep
kind_of (contents.WriteRep page copies bytes) = kinds.WriteRep
kind_of (contents.Inval page) = kinds.Inval
kind_of (contents.InvalAck page) = kinds.InvalAck
kind_of (contents.AllocReq size) = kinds.AllocReq
kind_of (contents.AllocRep code addr) = kinds.AllocRep
kind_of (contents.FreeReq addr) = kinds.FreeReq
kind_of (contents.FreeRep code) = kinds.FreeRep

-- the kind of a frame with this body
abbrev pub frame_kind : Option Message → FrameKind
frame_kind None = kinds.Ack
frame_kind (Some m) = kind_of m.content

-- a content follows origin and call in the body
abbrev pub content_text : Content → List ℕ
content_text (contents.ReadReq page) = big_bytes 4 page
content_text (contents.WriteReq page) = big_bytes 4 page
content_text (contents.ReadRep page bytes) = big_bytes 4 page ++ bytes
content_text (contents.WriteRep page copies bytes) =
    big_bytes 4 page ++ (big_bytes 4 copies ++ bytes)
content_text (contents.Inval page) = big_bytes 4 page
content_text (contents.InvalAck page) = big_bytes 4 page
content_text (contents.AllocReq size) = big_bytes 8 size
content_text (contents.AllocRep code addr) = code ∷ big_bytes 8 addr
content_text (contents.FreeReq addr) = big_bytes 8 addr
content_text (contents.FreeRep code) = code ∷ []

-- the body of a frame: nothing, or origin, call and content
abbrev pub message_text : Option Message → List ℕ
message_text None = []
message_text (Some m) = m.origin ∷ (big_bytes 8 m.call ++ content_text m.content)

-- The header, and the body: the letters I and V, version, kind, source, destination,
-- the length of the body, number and acknowledgement.
abbrev pub spelling : Frame → List ℕ
spelling f =
    73 ∷ 86 ∷ frame_version ∷ code_of (frame_kind f.body) ∷ f.source ∷ f.dest
    ∷ (big_bytes 2 (length (message_text f.body))
    ++ (big_bytes 8 f.number ++ (big_bytes 8 f.ack ++ message_text f.body)))

-- how long the body of a frame of this kind is
abbrev pub text_len : Config → FrameKind → ℕ
text_len c kinds.Ack = 0
text_len c kinds.ReadReq = 13
text_len c kinds.WriteReq = 13
text_len c kinds.ReadRep = 13 + c.page_size
text_len c kinds.WriteRep = 17 + c.page_size
text_len c kinds.Inval = 13
text_len c kinds.InvalAck = 13
text_len c kinds.AllocReq = 17
text_len c kinds.AllocRep = 18
text_len c kinds.FreeReq = 17
text_len c kinds.FreeRep = 10

-- its page is there, its copy set has only nodes that are there, and its page has all its bytes;
-- a refusal carries no address
abbrev pub FitsContent : Config → Content → Type 0
FitsContent c (contents.ReadReq page) = page < c.pages
FitsContent c (contents.WriteReq page) = page < c.pages
FitsContent c (contents.ReadRep page bytes) = (page < c.pages) × (length bytes ≡ c.page_size)
FitsContent c (contents.WriteRep page copies bytes) =
    (page < c.pages) × (copies < 2 ^ c.nodes) × (length bytes ≡ c.page_size)
FitsContent c (contents.Inval page) = page < c.pages
FitsContent c (contents.InvalAck page) = page < c.pages
FitsContent c (contents.AllocReq size) = size < 2 ^ 64
FitsContent c (contents.AllocRep code addr) = ((code ≡ 0) × (addr < 2 ^ 64))
    ⊎ (((code ≡ fault_number ZeroSize) ⊎ (code ≡ fault_number NoRoom)) × (addr ≡ 0))
FitsContent c (contents.FreeReq addr) = addr < 2 ^ 64
FitsContent c (contents.FreeRep code) = (code ≡ 0) ⊎ (code ≡ fault_number NotABlock)

-- a message of a node's call, which are numbered from 1
pub record FitsMessage (c : Config) (m : Message) : Type 0 where
  pub origin : m.origin < c.nodes
  pub call_from : 1 ≤ m.call
  pub call_to : m.call < 2 ^ 64
  pub content : FitsContent c m.content

-- a frame from one node to another; messages are numbered from 1, and no message has number 0
pub record Fits (c : Config) (f : Frame) : Type 0 where
  pub source : f.source < c.nodes
  pub dest : f.dest < c.nodes
  pub apart : f.source ≢ f.dest
  pub number : f.number < 2 ^ 64
  pub ack : f.ack < 2 ^ 64
  pub body : MatchOption f.body (f.number ≡ 0) (λ m. (1 ≤ f.number) × FitsMessage c m)

-- the bytes spell the frame
pub record Spells (c : Config) (f : Frame) (bytes : List ℕ) : Type 0 where
  pub fits : Fits c f
  pub text : bytes ≡ spelling f

-- a parcel of this node, to another node, with a message that has a spelling
pub record FitsParcel (c : Config) (me : ℕ) (p : Parcel) : Type 0 where
  pub source : p.source ≡ me
  pub here : me < c.nodes
  pub dest : p.dest < c.nodes
  pub apart : p.dest ≢ me
  pub message : FitsMessage c p.message
