-- The frame that a sound string has in it.
use Rattle.std.specs.Prelude.{ℕ, List, drop, slice_index, Option, Some, None, option_map}
use Rattle.byteorder.specs.Endian.{big_number}
use Rattle.ivy_wire.specs.declared.frame.FrameKind.{FrameKind}
use Rattle.ivy_wire.specs.declared.frame.FrameKind.TheVariants as kinds
use Rattle.ivy_wire.specs.stated.Data.{Content}
use Rattle.ivy_wire.specs.declared.frame.Content.TheVariants as contents
use Rattle.ivy_wire.specs.stated.Data.{Message}
use Rattle.ivy_wire.specs.stated.Data.{Frame}
use Rattle.ivy_wire.specs.stated.Lengths.{call_len}
use Rattle.ivy_wire.specs.stated.DecodeErrors.{source_at, dest_at, frame_number_at, ack_at, text_at}

-- what follows origin and call in a body of this kind
unfoldable pub content_at : FrameKind → List ℕ → Option Content
content_at kinds.Ack rest = None
content_at kinds.ReadReq rest = Some (contents.ReadReq (big_number 4 rest))
content_at kinds.WriteReq rest = Some (contents.WriteReq (big_number 4 rest))
content_at kinds.ReadRep rest = Some (contents.ReadRep (big_number 4 rest) (drop 4 rest))
content_at kinds.WriteRep rest =
    Some (contents.WriteRep (big_number 4 rest) (big_number 4 (drop 4 rest)) (drop 8 rest))
content_at kinds.Inval rest = Some (contents.Inval (big_number 4 rest))
content_at kinds.InvalAck rest = Some (contents.InvalAck (big_number 4 rest))
content_at kinds.AllocReq rest = Some (contents.AllocReq (big_number 8 rest))
content_at kinds.AllocRep rest =
    Some (contents.AllocRep (slice_index rest 0) (big_number 8 (drop 1 rest)))
content_at kinds.FreeReq rest = Some (contents.FreeReq (big_number 8 rest))
content_at kinds.FreeRep rest = Some (contents.FreeRep (slice_index rest 0))

-- the message with this content of a body that begins with origin and call
abbrev pub message_with : List ℕ → Content → Message
message_with text content =
    record { origin = slice_index text 0; call = big_number 8 (drop 1 text); content = content }

-- the message of a body of this kind; an acknowledgement alone has none
unfoldable pub message_at : FrameKind → List ℕ → Option Message
message_at kind text = option_map (message_with text) (content_at kind (drop call_len text))

-- the frame of a string that is of this kind
unfoldable pub frame_at : FrameKind → List ℕ → Frame
frame_at kind bytes = record {
  source = source_at bytes;
  dest = dest_at bytes;
  number = frame_number_at bytes;
  ack = ack_at bytes;
  body = message_at kind (text_at bytes);
}
