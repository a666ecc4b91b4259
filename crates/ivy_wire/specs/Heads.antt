-- The spelling of a frame in two parts: its head, and the page that its message brings.
use Rattle.std.specs.Prelude.{ℕ, List, [], ◌∷◌, ◌++◌, Option, Some, None}
use Rattle.byteorder.specs.Endian.{big_bytes}
use Rattle.ivy_wire.specs.stated.Lengths.{frame_version}
use Rattle.ivy_wire.specs.stated.Data.{Content, Message, Frame}
use Rattle.ivy_wire.specs.declared.frame.Content.TheVariants as contents
use Rattle.ivy_wire.specs.stated.Spelling.{code_of, frame_kind}

-- the page of a content, and what comes before it
abbrev pub content_page : Content → List ℕ
content_page (contents.ReadReq page) = []
content_page (contents.WriteReq page) = []
content_page (contents.ReadRep page bytes) = bytes
content_page (contents.WriteRep page copies bytes) = bytes
content_page (contents.Inval page) = []
content_page (contents.InvalAck page) = []
content_page (contents.AllocReq size) = []
content_page (contents.AllocRep code addr) = []
content_page (contents.FreeReq addr) = []
content_page (contents.FreeRep code) = []

abbrev pub content_head : Content → List ℕ
content_head (contents.ReadReq page) = big_bytes 4 page
content_head (contents.WriteReq page) = big_bytes 4 page
content_head (contents.ReadRep page bytes) = big_bytes 4 page
content_head (contents.WriteRep page copies bytes) = big_bytes 4 page ++ big_bytes 4 copies
content_head (contents.Inval page) = big_bytes 4 page
content_head (contents.InvalAck page) = big_bytes 4 page
content_head (contents.AllocReq size) = big_bytes 8 size
content_head (contents.AllocRep code addr) = code ∷ big_bytes 8 addr
content_head (contents.FreeReq addr) = big_bytes 8 addr
content_head (contents.FreeRep code) = code ∷ []

-- the page of a body, and what comes before it
abbrev pub body_page : Option Message → List ℕ
body_page None = []
body_page (Some m) = content_page m.content

abbrev pub body_head : Option Message → List ℕ
body_head None = []
body_head (Some m) = m.origin ∷ (big_bytes 8 m.call ++ content_head m.content)

-- the header of a frame whose body has this length
abbrev pub header : Frame → ℕ → List ℕ
header f len =
    73 ∷ 86 ∷ frame_version ∷ code_of (frame_kind f.body) ∷ f.source ∷ f.dest
    ∷ (big_bytes 2 len ++ (big_bytes 8 f.number ++ big_bytes 8 f.ack))
