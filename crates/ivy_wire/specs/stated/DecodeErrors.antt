-- What is wrong with a string that is no frame: the first of these tests that fails.
use Rattle.std.specs.Prelude.{ℕ, ◌+◌, ◌^◌, List, length, drop, slice_index, slice_get, Bool, true, not, ◌&&◌, ◌||◌, Option, Some, None, Result, Ok, Err, ◌==◌, nat_lt, nat_le, if◌then◌else◌}
use Rattle.byteorder.specs.Endian.{big_number}
use Rattle.ivy_model.specs.declared.Config.{Config}
use Rattle.ivy_model.specs.declared.Fault.{Fault}
use Rattle.ivy_model.specs.declared.Fault.TheVariants.{ZeroSize, NoRoom, NotABlock, ShortFrame, BadMagic, BadVersion, BadKind, BadNode, BadBody}
use Rattle.ivy_model.specs.stated.Numbers.{fault_number}
use Rattle.ivy_wire.specs.declared.frame.FrameKind.{FrameKind}
use Rattle.ivy_wire.specs.declared.frame.FrameKind.TheVariants.{Ack, ReadReq, WriteReq, ReadRep, WriteRep, Inval, InvalAck, AllocReq, AllocRep, FreeReq, FreeRep}
use Rattle.ivy_wire.specs.stated.Lengths.{frame_version, header_len, call_len}
use Rattle.ivy_wire.specs.stated.Spelling.{code_of, all_kinds, text_len}

-- the fields of the header, and the body, which follows it
abbrev pub kind_byte : List ℕ → ℕ
kind_byte bytes = slice_index bytes 3

abbrev pub source_at : List ℕ → ℕ
source_at bytes = slice_index bytes 4

abbrev pub dest_at : List ℕ → ℕ
dest_at bytes = slice_index bytes 5

unfoldable pub len_at : List ℕ → ℕ
len_at bytes = big_number 2 (drop 6 bytes)

unfoldable pub frame_number_at : List ℕ → ℕ
frame_number_at bytes = big_number 8 (drop 8 bytes)

unfoldable pub ack_at : List ℕ → ℕ
ack_at bytes = big_number 8 (drop 16 bytes)

unfoldable pub text_at : List ℕ → List ℕ
text_at bytes = drop header_len bytes

-- the kind of this number, 0 to 10
unfoldable pub kind_at : ℕ → Option FrameKind
kind_at n = slice_get all_kinds n

-- whether a page's number, a copy set, or what an AllocRep or a FreeRep answers is right
abbrev pub is_page : Config → ℕ → Bool
is_page c page = nat_lt page c.pages

abbrev pub is_copy_set : Config → ℕ → Bool
is_copy_set c copies = nat_lt copies (2 ^ c.nodes)

abbrev pub is_block_or_refusal : ℕ → ℕ → Bool
is_block_or_refusal code addr =
    (code == 0) || ((code == fault_number ZeroSize || code == fault_number NoRoom) && (addr == 0))

abbrev pub is_freed_or_refusal : ℕ → Bool
is_freed_or_refusal code = (code == 0) || (code == fault_number NotABlock)

-- whether what follows origin and call in the body is right for the kind
unfoldable pub is_sound_content : Config → FrameKind → List ℕ → Bool
is_sound_content c Ack rest = true
is_sound_content c ReadReq rest = is_page c (big_number 4 rest)
is_sound_content c WriteReq rest = is_page c (big_number 4 rest)
is_sound_content c ReadRep rest = is_page c (big_number 4 rest)
is_sound_content c WriteRep rest =
    is_page c (big_number 4 rest) && is_copy_set c (big_number 4 (drop 4 rest))
is_sound_content c Inval rest = is_page c (big_number 4 rest)
is_sound_content c InvalAck rest = is_page c (big_number 4 rest)
is_sound_content c AllocReq rest = true
is_sound_content c AllocRep rest =
    is_block_or_refusal (slice_index rest 0) (big_number 8 (drop 1 rest))
is_sound_content c FreeReq rest = true
is_sound_content c FreeRep rest = is_freed_or_refusal (slice_index rest 0)

-- whether number and body are right for the kind: an Ack has number 0, every other frame has
-- not, and a node's call that is not 0
unfoldable pub is_sound_text : Config → FrameKind → ℕ → List ℕ → Bool
is_sound_text c kind number text =
    if code_of kind == 0
    then number == 0
    else (not (number == 0)
    && (nat_lt (slice_index text 0) c.nodes
    && (not (big_number 8 (drop 1 text) == 0) && is_sound_content c kind (drop call_len text))))

-- 15 and 16: the tests of nodes, length and body, for a string of this kind that is long enough
unfoldable pub checked_in : Config → FrameKind → List ℕ → Result FrameKind Fault
checked_in c kind bytes =
    if nat_le c.nodes (source_at bytes)
    || (nat_le c.nodes (dest_at bytes) || (source_at bytes == dest_at bytes)) then Err BadNode
    else if not (length bytes == header_len + len_at bytes) then Err BadBody
    else if not (len_at bytes == text_len c kind) then Err BadBody
    else if is_sound_text c kind (frame_number_at bytes) (text_at bytes) then Ok kind
    else Err BadBody

-- 14: the test of the kind
unfoldable pub checked_kind : Config → Option FrameKind → List ℕ → Result FrameKind Fault
checked_kind c None bytes = Err BadKind
checked_kind c (Some kind) bytes = checked_in c kind bytes

-- The kind of the frame that the string spells, or the first of 11 to 16 that it is refused with:
-- 11 to 13 are the tests of length, magic bytes and version.
unfoldable pub checked : Config → List ℕ → Result FrameKind Fault
checked c bytes =
    if nat_lt (length bytes) header_len then Err ShortFrame
    else if nat_lt (length bytes) (header_len + len_at bytes) then Err ShortFrame
    else if not (slice_index bytes 0 == 73 && slice_index bytes 1 == 86) then Err BadMagic
    else if not (slice_index bytes 2 == frame_version) then Err BadVersion
    else checked_kind c (kind_at (kind_byte bytes)) bytes
