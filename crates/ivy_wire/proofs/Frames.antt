-- A string passes the tests exactly where it spells a frame.
use Rattle.std.proofs.Common.{◌≡◌, ◌≢◌, ℕ, suc, zero, ◌+◌, ◌^◌, ◌<◌, ◌≤◌, Bool, true, false, not}
use Rattle.std.proofs.Common.{cond, eqb, ltb, leb, ◌&&◌, ◌||◌, List, [], ◌∷◌, ◌++◌, length, get_or}
use Rattle.std.proofs.Common.{drop, Option, Some, None, Result, Ok, Err, refl, sym, ap, subst}
use Rattle.std.proofs.Common.{eq-eqb, ◌∙◌, arith}
use Rattle.std.specs.Prelude.{MatchOption, option_map}
use Rattle.std.proofs.lemmas.List.{length-drop, drop-drop}
use Rattle.std.proofs.lemmas.Bool.{eqb-true, ltb-true, lt-ltb, eqb-false, le-ltb, lt-leb, ne_eqb}
use Rattle.byteorder.specs.Endian.{big_number, big_bytes}
use Rattle.byteorder.specs.Numbers.{big_number-reads_back, big_from-lt}
use Rattle.ivy_model.specs.declared.Config.{Config}
use Rattle.ivy_model.specs.declared.Fault.{Fault}
use Rattle.ivy_model.specs.declared.Fault.TheVariants.{Memory, ShortFrame, BadMagic, BadVersion, BadNode, BadBody}
use Rattle.ivy_model.specs.stated.Config.{IsConfig}
use Rattle.ivy_wire.specs.declared.frame.FrameKind.{FrameKind}
use Rattle.ivy_wire.specs.declared.frame.FrameKind.TheVariants as kinds
use Rattle.ivy_wire.specs.stated.Data.{Content}
use Rattle.ivy_wire.specs.declared.frame.Content.TheVariants as contents
use Rattle.ivy_wire.specs.stated.Data.{Message}
use Rattle.ivy_wire.specs.stated.Data.{Frame}
use Rattle.ivy_wire.specs.stated.Lengths.{frame_version}
use Rattle.ivy_wire.specs.stated.Spelling.{code_of, kind_of, frame_kind, content_text, message_text, spelling, text_len, FitsMessage, Fits, Spells}
use Rattle.ivy_wire.specs.stated.DecodeErrors.{kind_byte, source_at, dest_at, len_at, frame_number_at, ack_at, text_at, kind_at, is_sound_content, is_sound_text, checked_in, checked_kind, checked}
use Rattle.ivy_wire.specs.DecodeErrors.{HasHead}
use Rattle.ivy_wire.specs.stated.Reading.{content_at, message_at, frame_at}
use Rattle.ivy_model.proofs.Limits.{page_has_words}
use Rattle.ivy_wire.proofs.Fields.{IsBytes, IsBytes-drop, field_1, field_2, field_8}
use Rattle.ivy_wire.proofs.Contents.{both, content_spelled, content_again}

unflipped : (b : Bool) → not b ≡ true → b ≡ false
unflipped true e = absurd cc
unflipped false e = refl

-- a test that refuses for another fault leaves the question to the tests after it
pass : {A : Type 0} (b : Bool) (d : Fault) (r : Result A Fault) → d ≢ Memory
    → cond b (Err d) r ≡ Err Memory → r ≡ Err Memory
pass true d r other e = absurd (other cc)
pass false d r other e = e

last_pass : (b : Bool) (d : Fault) (x : FrameKind) → d ≢ Memory → cond b (Ok x) (Err d) ≡ Err Memory
    → ⊥
last_pass true d x other e = cc
last_pass false d x other e = other cc

in_never_memory : (c : Config) (kind : FrameKind) (bytes : List ℕ)
    → checked_in c kind bytes ≡ Err Memory → ⊥
unfolding checked_in
in_never_memory c kind bytes e =
    let p1 =
    pass (leb c.nodes (source_at bytes)
    || (leb c.nodes (dest_at bytes) || eqb (source_at bytes) (dest_at bytes))) BadNode _
    (λ n. cc) e in
    let p2 = pass (not (eqb (length bytes) (24 + len_at bytes))) BadBody _ (λ n. cc) p1 in
    let p3 = pass (not (eqb (len_at bytes) (text_len c kind))) BadBody _ (λ n. cc) p2 in
    last_pass (is_sound_text c kind (frame_number_at bytes) (text_at bytes)) BadBody kind (λ n. cc)
    p3

kind_never_memory : (c : Config) (o : Option FrameKind) (bytes : List ℕ)
    → checked_kind c o bytes ≡ Err Memory → ⊥
unfolding checked_kind
kind_never_memory c None bytes e = cc
kind_never_memory c (Some kind) bytes e = in_never_memory c kind bytes e

-- the tests take no memory
pub never_memory : (c : Config) (bytes : List ℕ) → checked c bytes ≡ Err Memory → ⊥
unfolding checked
never_memory c bytes e =
    let p1 = pass (ltb (length bytes) 24) ShortFrame _ (λ n. cc) e in
    let p2 = pass (ltb (length bytes) (24 + len_at bytes)) ShortFrame _ (λ n. cc) p1 in
    let p3 =
    pass (not (eqb (get_or bytes 0 0) 73 && eqb (get_or bytes 1 0) 86)) BadMagic _ (λ n. cc)
    p2 in
    let p4 = pass (not (eqb (get_or bytes 2 0) frame_version)) BadVersion _ (λ n. cc) p3 in
    kind_never_memory c (kind_at (kind_byte bytes)) bytes p4

-- the test of number and body, the last one
abbrev text_checked : Config → FrameKind → List ℕ → Result FrameKind Fault
text_checked c kind bytes =
    cond (is_sound_text c kind (frame_number_at bytes) (text_at bytes)) (Ok kind) (Err BadBody)

last_in : (c : Config) (kind : FrameKind) (bytes : List ℕ) → HasHead c kind bytes
    → checked_in c kind bytes ≡ text_checked c kind bytes
unfolding checked_in
last_in c kind bytes s =
    rw (
      lt-leb c.nodes (source_at bytes) s.source,
      lt-leb c.nodes (dest_at bytes) s.dest,
      ne_eqb (source_at bytes) (dest_at bytes) s.apart,
      eq-eqb (length bytes) (24 + len_at bytes) s.len,
      eq-eqb (len_at bytes) (text_len c kind) s.text_len,
    ) refl

-- where the head is right, that test alone is left
last_left : (c : Config) (kind : FrameKind) (bytes : List ℕ) → HasHead c kind bytes
    → checked c bytes ≡ text_checked c kind bytes
unfolding checked checked_kind
last_left c kind bytes s =
    let e = s.len in
    rw (
      le-ltb (length bytes) 24 s.long,
      le-ltb (length bytes) (24 + len_at bytes) (omega arith),
      s.magic.0,
      s.magic.1,
      s.version,
      s.known,
    ) (last_in c kind bytes s)

-- ---- from a string whose head is right to its frame

-- the message of a text; it fits where the test of number and text passed
pub record HasMessage (c : Config) (k : FrameKind) (number : ℕ) (text : List ℕ) (sound : Bool)
    (message : Option Message) : Type 0 where
  pub read : message_at k text ≡ message
  pub kind : frame_kind message ≡ k
  pub spelled : text ≡ message_text message
  pub fits : sound ≡ true
      → MatchOption message (number ≡ 0) (λ m. (1 ≤ number) × FitsMessage c m)

pub no_text : (text : List ℕ) → length text ≡ 0 → text ≡ []
no_text [] e = refl
no_text (x ∷ xs) e = absurd (omega arith)

abbrev is_sound : Config → FrameKind → ℕ → List ℕ → Bool
is_sound c kind number text =
    not (eqb number 0)
    && (ltb (get_or text 0 0) c.nodes
    && (not (eqb (big_number 8 (drop 1 text)) 0) && is_sound_content c kind (drop 9 text)))

some_message : (c : Config) (kind : FrameKind) (number : ℕ) (text : List ℕ) → IsBytes text
    → (kind ≡ kinds.Ack → ⊥) → 10 ≤ length text → length text ≡ text_len c kind
    → (m : Option Message) × HasMessage c kind number text (is_sound c kind number text) m
unfolding message_at
some_message c kind number text h other long len =
    let b = content_spelled c kind (drop 9 text) (IsBytes-drop 9 text h) other
    (omega (arith, length-drop 9 text)) in
    let rest : drop 8 (drop 1 text) ≡ content_text b.0 = drop-drop 8 1 text ∙ b.1.text in (
      Some (record { origin = get_or text 0 0; call = big_number 8 (drop 1 text); content = b.0 }),
      record {
        read = ap
            (option_map
            (λ (content : Content).
            record {
              origin = get_or text 0 0;
              call = big_number 8 (drop 1 text);
              content = content;
            })) b.1.read;
        kind = b.1.kind;
        spelled = field_1 text (omega arith)
            ∙ ap (λ (t : List ℕ). get_or text 0 0 ∷ t)
            (field_8 (drop 1 text) (IsBytes-drop 1 text h) (omega (arith, length-drop 1 text))
            ∙ ap (λ (t : List ℕ). big_bytes 8 (big_number 8 (drop 1 text)) ++ t) rest);
        fits = λ sound.
            let p = both (not (eqb number 0))
            (ltb (get_or text 0 0) c.nodes
            && (not (eqb (big_number 8 (drop 1 text)) 0)
            && is_sound_content c kind (drop 9 text))) sound in
            let q = both (ltb (get_or text 0 0) c.nodes)
            (not (eqb (big_number 8 (drop 1 text)) 0) && is_sound_content c kind (drop 9 text))
            p.1 in
            let r = both (not (eqb (big_number 8 (drop 1 text)) 0))
            (is_sound_content c kind (drop 9 text)) q.1 in
            let counted = eqb-false number 0 (unflipped (eqb number 0) p.0) in
            let called =
            eqb-false (big_number 8 (drop 1 text)) 0
            (unflipped (eqb (big_number 8 (drop 1 text)) 0) r.0) in (
              omega (arith, counted),
              record {
                origin = ltb-true (get_or text 0 0) c.nodes q.0;
                call_from = omega (arith, called);
                call_to = big_from-lt 0 8 (drop 1 text) (IsBytes-drop 1 text h);
                content = b.1.fits r.1;
              },
            );
      },
    )

message_spelled : (c : Config) (kind : FrameKind) (number : ℕ) (text : List ℕ) → IsBytes text
    → length text ≡ text_len c kind
    → (m : Option Message) × HasMessage c kind number text (is_sound_text c kind number text) m
unfolding message_at content_at is_sound_text
message_spelled c kinds.Ack number text h len = (
  None,
  record {
    read = refl;
    kind = refl;
    spelled = no_text text len;
    fits = λ sound. eqb-true number 0 sound;
  },
)
message_spelled c kind number text h len =
    some_message c kind number text h (λ e. cc) (omega arith) len

kind_code : (n : ℕ) (k : FrameKind) → kind_at n ≡ Some k → n ≡ code_of k
unfolding kind_at
kind_code zero k e = let f : kinds.Ack ≡ k = cc in ap code_of f
kind_code (suc zero) k e = let f : kinds.ReadReq ≡ k = cc in ap code_of f
kind_code (suc (suc zero)) k e = let f : kinds.WriteReq ≡ k = cc in ap code_of f
kind_code (suc (suc (suc zero))) k e = let f : kinds.ReadRep ≡ k = cc in ap code_of f
kind_code (suc (suc (suc (suc zero)))) k e = let f : kinds.WriteRep ≡ k = cc in ap code_of f
kind_code (suc (suc (suc (suc (suc zero))))) k e = let f : kinds.Inval ≡ k = cc in ap code_of f
kind_code (suc (suc (suc (suc (suc (suc zero)))))) k e =
    let f : kinds.InvalAck ≡ k = cc in ap code_of f
kind_code (suc (suc (suc (suc (suc (suc (suc zero))))))) k e =
    let f : kinds.AllocReq ≡ k = cc in ap code_of f
kind_code (suc (suc (suc (suc (suc (suc (suc (suc zero)))))))) k e =
    let f : kinds.AllocRep ≡ k = cc in ap code_of f
kind_code (suc (suc (suc (suc (suc (suc (suc (suc (suc zero))))))))) k e =
    let f : kinds.FreeReq ≡ k = cc in ap code_of f
kind_code (suc (suc (suc (suc (suc (suc (suc (suc (suc (suc zero)))))))))) k e =
    let f : kinds.FreeRep ≡ k = cc in ap code_of f
kind_code (suc (suc (suc (suc (suc (suc (suc (suc (suc (suc (suc n))))))))))) k e = absurd cc

kind_again : (k : FrameKind) → kind_at (code_of k) ≡ Some k
unfolding kind_at
kind_again kinds.Ack = refl
kind_again kinds.ReadReq = refl
kind_again kinds.WriteReq = refl
kind_again kinds.ReadRep = refl
kind_again kinds.WriteRep = refl
kind_again kinds.Inval = refl
kind_again kinds.InvalAck = refl
kind_again kinds.AllocReq = refl
kind_again kinds.AllocRep = refl
kind_again kinds.FreeReq = refl
kind_again kinds.FreeRep = refl

not_ack : (b : Content) → eqb (code_of (kind_of b)) 0 ≡ false
not_ack (contents.ReadReq page) = refl
not_ack (contents.WriteReq page) = refl
not_ack (contents.ReadRep page bytes) = refl
not_ack (contents.WriteRep page copies bytes) = refl
not_ack (contents.Inval page) = refl
not_ack (contents.InvalAck page) = refl
not_ack (contents.AllocReq size) = refl
not_ack (contents.AllocRep code addr) = refl
not_ack (contents.FreeReq addr) = refl
not_ack (contents.FreeRep code) = refl

-- the fields of the header, and the text
header : (bs : List ℕ) → IsBytes bs → 24 ≤ length bs
    → bs ≡ get_or bs 0 0 ∷ get_or bs 1 0 ∷ get_or bs 2 0 ∷ get_or bs 3 0 ∷ get_or bs 4 0 ∷ get_or bs
    5 0
    ∷ (big_bytes 2 (len_at bs)
    ++ (big_bytes 8 (frame_number_at bs) ++ (big_bytes 8 (ack_at bs) ++ text_at bs)))
unfolding len_at frame_number_at ack_at text_at
header [] h long = absurd (omega arith)
header (a ∷ []) h long = absurd (omega arith)
header (a ∷ b ∷ []) h long = absurd (omega arith)
header (a ∷ b ∷ c ∷ []) h long = absurd (omega arith)
header (a ∷ b ∷ c ∷ d ∷ []) h long = absurd (omega arith)
header (a ∷ b ∷ c ∷ d ∷ e ∷ []) h long = absurd (omega arith)
header (a ∷ b ∷ c ∷ d ∷ e ∷ f ∷ rest) h long =
    let k : IsBytes rest = λ i. h (suc (suc (suc (suc (suc (suc i)))))) in
    let k2 = IsBytes-drop 2 rest k in
    let k10 = IsBytes-drop 10 rest k in
    ap (λ (t : List ℕ). a ∷ b ∷ c ∷ d ∷ e ∷ f ∷ t)
    (field_2 rest k (omega arith) ∙ ap (λ (t : List ℕ). big_bytes 2 (big_number 2 rest) ++ t)
    (field_8 (drop 2 rest) k2 (omega (arith, length-drop 2 rest))
    ∙ ap (λ (t : List ℕ). big_bytes 8 (big_number 8 (drop 2 rest)) ++ t)
    (drop-drop 8 2 rest ∙ field_8 (drop 10 rest) k10 (omega (arith, length-drop 10 rest))
    ∙ ap (λ (t : List ℕ). big_bytes 8 (big_number 8 (drop 10 rest)) ++ t)
    (drop-drop 8 10 rest))))

page_most : (c : Config) → IsConfig c → c.page_size ≤ 4096
page_most c limits = (page_has_words c.page_size limits.page_size).most

text_small : (c : Config) (k : FrameKind) → IsConfig c → text_len c k < 256 ^ 2
text_small c kinds.ReadRep limits = let most = page_most c limits in omega arith
text_small c kinds.WriteRep limits = let most = page_most c limits in omega arith
text_small c k limits = omega arith

text_rest : (bytes : List ℕ) → length bytes ≡ 24 + len_at bytes
    → length (text_at bytes) ≡ len_at bytes
unfolding text_at
text_rest bytes e = omega (arith, length-drop 24 bytes)

text_bytes : (bytes : List ℕ) → IsBytes bytes → IsBytes (text_at bytes)
unfolding text_at
text_bytes bytes h = IsBytes-drop 24 bytes h

number_small : (bytes : List ℕ) → IsBytes bytes → frame_number_at bytes < 2 ^ 64
unfolding frame_number_at
number_small bytes h = big_from-lt 0 8 (drop 8 bytes) (IsBytes-drop 8 bytes h)

ack_small : (bytes : List ℕ) → IsBytes bytes → ack_at bytes < 2 ^ 64
unfolding ack_at
ack_small bytes h = big_from-lt 0 8 (drop 16 bytes) (IsBytes-drop 16 bytes h)

-- the spelling of the fields that stand in a string
abbrev respelled : List ℕ → ℕ → ℕ → ℕ → ℕ → ℕ → List ℕ → List ℕ
respelled bytes a b v k len text =
    a ∷ b ∷ v ∷ k ∷ source_at bytes ∷ dest_at bytes
    ∷ (big_bytes 2 len
    ++ (big_bytes 8 (frame_number_at bytes) ++ (big_bytes 8 (ack_at bytes) ++ text)))

spelled_so : (c : Config) (kind : FrameKind) (bytes : List ℕ) (m : Option Message) → IsBytes bytes
    → HasHead c kind bytes → (sound : Bool)
    → HasMessage c kind (frame_number_at bytes) (text_at bytes) sound m
    → length (text_at bytes) ≡ len_at bytes
    → bytes ≡ respelled bytes 73 86 frame_version (code_of (frame_kind m)) (length (message_text m))
    (message_text m)
spelled_so c kind bytes m h s sound has len =
    let e1 : get_or bytes 3 0 ≡ code_of (frame_kind m) =
    kind_code (get_or bytes 3 0) kind s.known ∙ ap code_of (sym has.kind) in
    let e2 : len_at bytes ≡ length (message_text m) = sym len ∙ ap length has.spelled in
    header bytes h s.long
    ∙ ap (λ x. respelled bytes x (get_or bytes 1 0) (get_or bytes 2 0) (get_or bytes 3 0)
    (len_at bytes) (text_at bytes)) s.magic.0
    ∙ ap (λ x. respelled bytes 73 x (get_or bytes 2 0) (get_or bytes 3 0) (len_at bytes)
    (text_at bytes)) s.magic.1
    ∙ ap (λ x. respelled bytes 73 86 x (get_or bytes 3 0) (len_at bytes) (text_at bytes)) s.version
    ∙ ap (λ x. respelled bytes 73 86 frame_version x (len_at bytes) (text_at bytes)) e1
    ∙ ap (λ x. respelled bytes 73 86 frame_version (code_of (frame_kind m)) x (text_at bytes)) e2
    ∙ ap (λ x. respelled bytes 73 86 frame_version (code_of (frame_kind m))
    (length (message_text m)) x)
    has.spelled

-- the bytes are the spelling of the frame in them, which fits where the last test passes
record IsSpelling (c : Config) (bytes : List ℕ) (sound : Bool) (f : Frame) : Type 0 where
  text : bytes ≡ spelling f
  fits : sound ≡ true → Fits c f

head_spells : (c : Config) (kind : FrameKind) (bytes : List ℕ) → IsBytes bytes
    → HasHead c kind bytes
    → IsSpelling c bytes (is_sound_text c kind (frame_number_at bytes) (text_at bytes))
    (frame_at kind bytes)
unfolding frame_at
head_spells c kind bytes h s =
    let sound = is_sound_text c kind (frame_number_at bytes) (text_at bytes) in
    let text_len_is : length (text_at bytes) ≡ len_at bytes = text_rest bytes s.len in
    let m = message_spelled c kind (frame_number_at bytes) (text_at bytes) (text_bytes bytes h)
    (text_len_is ∙ s.text_len) in
    let whole = spelled_so c kind bytes m.0 h s _ m.1 text_len_is in
    subst (λ x. IsSpelling c bytes sound
    (record {
      source = source_at bytes;
      dest = dest_at bytes;
      number = frame_number_at bytes;
      ack = ack_at bytes;
      body = x;
    })) (sym m.1.read) (record {
      text = whole;
      fits = λ passed.
          record {
            source = s.source;
            dest = s.dest;
            apart = s.apart;
            number = number_small bytes h;
            ack = ack_small bytes h;
            body = m.1.fits passed;
          };
    })

-- a string whose head is right spells the frame in it, where that fits
pub frame_spelled : (c : Config) (kind : FrameKind) (bytes : List ℕ) → IsBytes bytes
    → HasHead c kind bytes → Fits c (frame_at kind bytes) → Spells c (frame_at kind bytes) bytes
frame_spelled c kind bytes h s fits =
    record { fits = fits; text = (head_spells c kind bytes h s).text }

not_passed : {A : Type 0} (b : Bool) (x y : A) → (b ≡ true → ⊥) → cond b x y ≡ y
not_passed true x y fails = absurd (fails refl)
not_passed false x y fails = refl

-- and is refused for its body where it does not
pub unfit_refused : (c : Config) (kind : FrameKind) (bytes : List ℕ) → IsBytes bytes
    → HasHead c kind bytes → (Fits c (frame_at kind bytes) → ⊥) → checked c bytes ≡ Err BadBody
unfit_refused c kind bytes h s unfit =
    last_left c kind bytes s
    ∙ not_passed (is_sound_text c kind (frame_number_at bytes) (text_at bytes)) (Ok kind)
    (Err BadBody) (λ passed. unfit ((head_spells c kind bytes h s).fits passed))

-- ---- from a frame to its spelling, and back

-- a message is read back from its text
record MessageBack (c : Config) (number : ℕ) (m : Option Message) : Type 0 where
  read : message_at (frame_kind m) (message_text m) ≡ m
  sound : is_sound_text c (frame_kind m) number (message_text m) ≡ true
  len : length (message_text m) ≡ text_len c (frame_kind m)

message_again : (c : Config) (number : ℕ) (m : Option Message) → IsConfig c
    → MatchOption m (number ≡ 0) (λ x. (1 ≤ number) × FitsMessage c x) → MessageBack c number m
unfolding message_at content_at is_sound_text
message_again c number None limits fits =
    record { read = refl; sound = eq-eqb number 0 fits; len = refl }
message_again c number (Some m) limits fits =
    let back : big_number 8 (big_bytes 8 m.call ++ content_text m.content) ≡ m.call =
    big_number-reads_back 8 m.call (content_text m.content) fits.1.call_to in
    let b = content_again c m.content limits fits.1.content in
    record {
      read = ap
          (λ n. option_map
          (λ (content : Content). record { origin = m.origin; call = n; content = content })
          (content_at (kind_of m.content) (content_text m.content))) back
          ∙ ap (option_map
          (λ (content : Content).
          record { origin = m.origin; call = m.call; content = content })) b.read;
      sound = rw (
        not_ack m.content,
        back,
        ne_eqb number 0 (λ e. omega arith),
        lt-ltb m.origin c.nodes fits.1.origin,
        ne_eqb m.call 0 (λ e. omega (arith, fits.1.call_from)),
      ) b.sound;
      len = omega (arith, b.len);
    }

-- what is spelled has a right head and passes the last test, and the frame in it is the one spelled
pub record IsRead (c : Config) (f : Frame) (bytes : List ℕ) : Type 0 where
  pub head : HasHead c (frame_kind f.body) bytes
  pub text : is_sound_text c (frame_kind f.body) (frame_number_at bytes) (text_at bytes) ≡ true
  pub frame : frame_at (frame_kind f.body) bytes ≡ f

pub spelling_read : (c : Config) (f : Frame) → IsConfig c → Fits c f → IsRead c f (spelling f)
unfolding len_at frame_number_at ack_at text_at frame_at
spelling_read c f limits fits =
    let m = message_again c f.number f.body limits fits.body in
    let text = message_text f.body in
    let small = text_small c (frame_kind f.body) limits in
    let len : big_number 2
    (big_bytes 2 (length text) ++ (big_bytes 8 f.number ++ (big_bytes 8 f.ack ++ text)))
    ≡ length text
    = big_number-reads_back 2 (length text) (big_bytes 8 f.number ++ (big_bytes 8 f.ack ++ text))
    (omega (arith, m.len)) in
    let number : big_number 8 (big_bytes 8 f.number ++ (big_bytes 8 f.ack ++ text)) ≡ f.number =
    big_number-reads_back 8 f.number (big_bytes 8 f.ack ++ text) fits.number in
    let ack : big_number 8 (big_bytes 8 f.ack ++ text) ≡ f.ack =
    big_number-reads_back 8 f.ack text fits.ack in
    record {
      head = record {
        long = omega arith;
        magic = (refl, refl);
        version = refl;
        known = kind_again (frame_kind f.body);
        source = fits.source;
        dest = fits.dest;
        apart = fits.apart;
        len = omega (arith, len);
        text_len = len ∙ m.len;
      };
      text = ap (λ n. is_sound_text c (frame_kind f.body) n text) number ∙ m.sound;
      frame = rw (number, ack, m.read) refl;
    }

pub spelled_read : (c : Config) (f : Frame) (bytes : List ℕ) → IsConfig c → Spells c f bytes
    → IsRead c f bytes
spelled_read c f bytes limits s =
    subst (IsRead c f) (sym s.text) (spelling_read c f limits s.fits)

-- it passes all tests
pub spelled_once : (c : Config) (f : Frame) (bytes : List ℕ) → IsConfig c → Spells c f bytes
    → (checked c bytes ≡ Ok (frame_kind f.body)) × (frame_at (frame_kind f.body) bytes ≡ f)
spelled_once c f bytes limits s =
    let r = spelled_read c f bytes limits s in (
      last_left c (frame_kind f.body) bytes r.head
          ∙ ap (λ b. cond b (Ok (frame_kind f.body)) (Err BadBody)) r.text,
      r.frame,
    )

-- what stands in the head of a string that spells a frame
pub spelled_long : (c : Config) (f : Frame) (bytes : List ℕ) → Spells c f bytes → 24 ≤ length bytes
spelled_long c f bytes s = let long = ap length s.text in omega (arith, long)

number_spelled : (c : Config) (f : Frame) → Fits c f → frame_number_at (spelling f) ≡ f.number
unfolding frame_number_at
number_spelled c f fits =
    big_number-reads_back 8 f.number (big_bytes 8 f.ack ++ message_text f.body) fits.number

ack_spelled : (c : Config) (f : Frame) → Fits c f → ack_at (spelling f) ≡ f.ack
unfolding ack_at
ack_spelled c f fits = big_number-reads_back 8 f.ack (message_text f.body) fits.ack

pub head_spelled : (c : Config) (f : Frame) (bytes : List ℕ) (number ack : ℕ) → Spells c f bytes
    → number ≡ frame_number_at bytes → ack ≡ ack_at bytes
    → (source_at bytes ≡ f.source) × (dest_at bytes ≡ f.dest) × (number ≡ f.number) × (ack ≡ f.ack)
head_spelled c f bytes number ack s is owed = (
  ap source_at s.text,
  ap dest_at s.text,
  is ∙ ap frame_number_at s.text ∙ number_spelled c f s.fits,
  owed ∙ ap ack_at s.text ∙ ack_spelled c f s.fits,
)

same_kind : (x y : FrameKind) → (let o : Option FrameKind = Some x in o) ≡ Some y → x ≡ y
same_kind x y e = cc

pub kind_spelled : (c : Config) (f : Frame) (bytes : List ℕ) → IsConfig c → Spells c f bytes
    → (o : Option FrameKind) (kind : FrameKind) → o ≡ Some kind → o ≡ kind_at (kind_byte bytes)
    → kind ≡ frame_kind f.body
kind_spelled c f bytes limits s o kind is at =
    same_kind kind (frame_kind f.body) (sym is ∙ at ∙ (spelled_read c f bytes limits s).head.known)

-- and its message
pub message_spelled_in : (c : Config) (f : Frame) (bytes : List ℕ) → IsConfig c
    → (s : Spells c f bytes) → message_at (frame_kind f.body) (text_at bytes) ≡ f.body
unfolding frame_at
message_spelled_in c f bytes limits s =
    ap (λ (x : Frame). x.body) (spelled_once c f bytes limits s).1
