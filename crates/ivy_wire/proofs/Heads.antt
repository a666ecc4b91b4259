-- The spelling of a frame is its head, and then its page.
use Rattle.std.proofs.Common.{◌≡◌, ℕ, ◌≤◌, List, ◌∷◌, ◌++◌, length, Some, None, Option, refl, ap, arith}
use Rattle.byteorder.specs.Endian.{big_bytes}
use Rattle.ivy_model.specs.declared.Config.{Config}
use Rattle.ivy_model.specs.stated.Config.{IsConfig}
use Rattle.ivy_wire.specs.stated.Data.{Content, Message, Frame}
use Rattle.ivy_wire.specs.declared.frame.Content.TheVariants as contents
use Rattle.ivy_wire.specs.stated.Spelling.{content_text, message_text, text_len, frame_kind, Fits}
use Rattle.ivy_wire.specs.Heads.{content_head, content_page, body_head, body_page}
use Rattle.ivy_wire.proofs.Frames.{spelling_read}

content_parts : (b : Content) → content_head b ++ content_page b ≡ content_text b
content_parts (contents.ReadReq page) = refl
content_parts (contents.WriteReq page) = refl
content_parts (contents.ReadRep page bytes) = refl
content_parts (contents.WriteRep page copies bytes) = refl
content_parts (contents.Inval page) = refl
content_parts (contents.InvalAck page) = refl
content_parts (contents.AllocReq size) = refl
content_parts (contents.AllocRep code addr) = refl
content_parts (contents.FreeReq addr) = refl
content_parts (contents.FreeRep code) = refl

pub body_parts : (m : Option Message) → body_head m ++ body_page m ≡ message_text m
body_parts None = refl
body_parts (Some m) =
    ap (λ (t : List ℕ). m.origin ∷ (big_bytes 8 m.call ++ t)) (content_parts m.content)

-- no head of a body has more than 18 bytes
content_few : (b : Content) → length (content_head b) ≤ 9
content_few (contents.ReadReq page) = omega arith
content_few (contents.WriteReq page) = omega arith
content_few (contents.ReadRep page bytes) = omega arith
content_few (contents.WriteRep page copies bytes) = omega arith
content_few (contents.Inval page) = omega arith
content_few (contents.InvalAck page) = omega arith
content_few (contents.AllocReq size) = omega arith
content_few (contents.AllocRep code addr) = omega arith
content_few (contents.FreeReq addr) = omega arith
content_few (contents.FreeRep code) = omega arith

pub body_few : (m : Option Message) → length (body_head m) ≤ 18
body_few None = omega arith
body_few (Some m) = let few = content_few m.content in omega arith

-- the length that stands in a header is that of the body
pub body_len : (c : Config) (f : Frame) → IsConfig c → Fits c f
    → length (message_text f.body) ≡ text_len c (frame_kind f.body)
body_len c f limits fits =
    let s = (spelling_read c f limits fits).head in omega (arith, s.len, s.text_len)
