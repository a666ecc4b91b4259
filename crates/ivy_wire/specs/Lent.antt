-- A message whose page is lent, as the message that it is.
use Rattle.std.specs.Prelude.{ℕ, List, Option, None, option_map}
use Rattle.std.specs.Borrow.{Bor}
use Rattle.ivy_wire.specs.declared.frame.Content as content
use Rattle.ivy_wire.specs.declared.frame.Content.TheVariants.{ReadReq, WriteReq, ReadRep, WriteRep, Inval, InvalAck, AllocReq, AllocRep, FreeReq, FreeRep}
use Rattle.ivy_wire.specs.declared.frame.Message as message
use Rattle.ivy_wire.specs.declared.frame.Frame as frame
use Rattle.ivy_wire.specs.declared.parcel.Parcel as parcel
use Rattle.ivy_wire.specs.stated.Data.{Content, Message, Frame, Parcel}

abbrev pub owned_content : content.Content (Bor (List ℕ)) → Content
owned_content (ReadReq page) = ReadReq page
owned_content (WriteReq page) = WriteReq page
owned_content (ReadRep page bytes) = ReadRep page bytes.now
owned_content (WriteRep page copies bytes) = WriteRep page copies bytes.now
owned_content (Inval page) = Inval page
owned_content (InvalAck page) = InvalAck page
owned_content (AllocReq size) = AllocReq size
owned_content (AllocRep code addr) = AllocRep code addr
owned_content (FreeReq addr) = FreeReq addr
owned_content (FreeRep code) = FreeRep code

abbrev pub owned_message : message.Message (Bor (List ℕ)) → Message
owned_message m = record { origin = m.origin; call = m.call; content = owned_content m.content }

abbrev pub owned_body : Option (message.Message (Bor (List ℕ))) → Option Message
owned_body body = option_map owned_message body

abbrev pub owned_frame : frame.Frame (Bor (List ℕ)) → Frame
owned_frame f = record {
  source = f.source;
  dest = f.dest;
  number = f.number;
  ack = f.ack;
  body = owned_body f.body;
}

-- the frame without its message
abbrev pub head_of : Frame → frame.Frame (Unit {0})
head_of f =
    record { source = f.source; dest = f.dest; number = f.number; ack = f.ack; body = None }

abbrev pub owned_parcel : parcel.Parcel (Bor (List ℕ)) → Parcel
owned_parcel p = record { source = p.source; dest = p.dest; message = owned_message p.message }

-- what fills a place that holds no parcel yet: no message of a call, since these are numbered from
-- 1
abbrev pub filling : Parcel
filling =
    record { source = 0; dest = 0; message = record { origin = 0; call = 0; content = ReadReq 0 } }
