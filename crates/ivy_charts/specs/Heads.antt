-- What the head of a string is: what its frame says, but for the bytes of a page.
use Rattle.std.specs.Prelude.{◌≡◌, ℕ, List, length, Option, Some, None, option_map}
use Rattle.ivy_model.specs.declared.Config.{Config}
use Rattle.ivy_wire.specs.declared.frame.Content.TheVariants.{ReadReq, WriteReq, ReadRep, WriteRep, Inval, InvalAck, AllocReq, AllocRep, FreeReq, FreeRep}
use Rattle.ivy_wire.specs.stated.Data.{Content, Message, Frame}
use Rattle.ivy_wire.specs.stated.Spelling.{Spells, frame_kind}
use Rattle.ivy_charts.specs.declared.head.About.{About}
use Rattle.ivy_charts.specs.declared.head.RunHead.{RunHead}

-- the page that a message is about
abbrev pub page_in : Content → Option ℕ
page_in (ReadReq page) = Some page
page_in (WriteReq page) = Some page
page_in (ReadRep page bytes) = Some page
page_in (WriteRep page copies bytes) = Some page
page_in (Inval page) = Some page
page_in (InvalAck page) = Some page
page_in (AllocReq size) = None
page_in (AllocRep code addr) = None
page_in (FreeReq addr) = None
page_in (FreeRep code) = None

-- the call that a message is of, and its page
abbrev pub about_in : Message → About
about_in m = record { origin = m.origin; call = m.call; page = page_in m.content }

-- what is told of a frame that so many bytes spell
abbrev pub head_in : Frame → ℕ → RunHead
head_in f len = record {
  kind = frame_kind f.body;
  source = f.source;
  dest = f.dest;
  number = f.number;
  len = len;
  about = option_map about_in f.body;
}

-- the string spells a frame, and this is its head
abbrev pub IsHeadOf : Config → List ℕ → RunHead → Type 0
IsHeadOf c bytes head = (f : Frame) × Spells c f bytes × (head ≡ head_in f (length bytes))
