-- A message that is kept with the page at the end of the string of its frame is the message.
use Rattle.std.proofs.Common.{◌≡◌, ℕ, ◌<◌, ◌≤◌, ◌-◌, List, ◌∷◌, [], ◌++◌, length, map, drop, refl, sym, ap, subst, ◌∙◌, append_assoc, arith}
use Rattle.std.proofs.lemmas.List.{length-append}
use Rattle.std.proofs.Math.Seq.{drop-append_seam, get_or-append_seam}
use Rattle.std.specs.List.{slice_index_or}
use Rattle.byteorder.specs.Endian.{big_bytes}
use Rattle.ivy_wire.specs.stated.Data.{Content, Message, Frame, Parcel}
use Rattle.ivy_wire.specs.declared.frame.Content.TheVariants as contents
use Rattle.ivy_wire.specs.stated.Lengths.{frame_version}
use Rattle.ivy_wire.specs.stated.Spelling.{code_of, frame_kind, message_text, spelling}
use Rattle.ivy_wire.specs.Heads.{content_page, body_head, body_page, header}
use Rattle.ivy_wire.proofs.Heads.{body_parts}
use Rattle.ivy_link.specs.stated.Linked.{Linked, frame_of, frames_of}
use Rattle.ivy_link.specs.Kept.{content_with, message_with, EndsWith}

content_back : (c : Content) (none : List ℕ) → content_with (content_with c none) (content_page c) ≡ c
content_back (contents.ReadReq page) none = refl
content_back (contents.WriteReq page) none = refl
content_back (contents.ReadRep page bytes) none = refl
content_back (contents.WriteRep page copies bytes) none = refl
content_back (contents.Inval page) none = refl
content_back (contents.InvalAck page) none = refl
content_back (contents.AllocReq size) none = refl
content_back (contents.AllocRep code addr) none = refl
content_back (contents.FreeReq addr) none = refl
content_back (contents.FreeRep code) none = refl

-- its page put back
pub message_back : (m : Message) (none page : List ℕ) → page ≡ content_page m.content
    → message_with (message_with m none) page ≡ m
message_back m none page is =
    ap (message_with (message_with m none)) is
    ∙ ap (λ c. record m { content = c }) (content_back m.content none)

append-ends : (head page : List ℕ) → EndsWith (head ++ page) page
append-ends head page =
    let long = length-append head page in
    let start : length (head ++ page) - length page ≡ length head = omega (arith, long) in (
      omega (arith, long),
      ap (λ n. drop n (head ++ page)) start ∙ drop-append_seam head page,
    )

parts : (a b c text : List ℕ) → (a ++ (b ++ c)) ++ text ≡ a ++ (b ++ (c ++ text))
parts a b c text = append_assoc a (b ++ c) text ∙ ap (λ t. a ++ t) (append_assoc b c text)

header-text : (f : Frame)
    → header f (length (message_text f.body)) ++ message_text f.body ≡ spelling f
header-text f =
    ap (λ (t : List ℕ). 73 ∷ 86 ∷ frame_version ∷ code_of (frame_kind f.body) ∷ f.source ∷ f.dest ∷ t)
    (parts (big_bytes 2 (length (message_text f.body))) (big_bytes 8 f.number) (big_bytes 8 f.ack)
    (message_text f.body))

-- the string of a frame ends with its page
spelling-ends : (f : Frame) → EndsWith (spelling f) (body_page f.body)
spelling-ends f =
    let front = header f (length (message_text f.body)) in
    let whole : (front ++ body_head f.body) ++ body_page f.body ≡ spelling f =
    append_assoc front (body_head f.body) (body_page f.body)
    ∙ (ap (λ t. front ++ t) (body_parts f.body) ∙ header-text f) in
    subst (λ s. EndsWith s (body_page f.body)) whole
    (append-ends (front ++ body_head f.body) (body_page f.body))

-- a list of one is its first
pub one-alone : {X : Type 0} (xs : List X) (d : X) → 1 ≤ length xs → length xs < 2
    → xs ≡ slice_index_or xs 0 d ∷ []
one-alone [] d some few = absurd (omega (arith, some))
one-alone (x ∷ []) d some few = refl
one-alone (x ∷ y ∷ xs) d some few = absurd (omega (arith, few))

-- the last string is that of the frame of the one parcel
pub last-ends : (l : Linked) (ps : List Parcel) (p : Parcel) (strings : List (List ℕ))
    (string : List ℕ) → ps ≡ p ∷ []
    → ((before : List (List ℕ)) × (strings ≡ before ++ map spelling (frames_of l ps)))
    → string ≡ slice_index_or strings (length strings - 1) string
    → EndsWith string (content_page p.message.content)
last-ends l ps p strings string one spelled last =
    let x = spelling (frame_of l p) in
    let so : strings ≡ spelled.0 ++ x ∷ [] =
    spelled.1 ∙ ap (λ (qs : List Parcel). spelled.0 ++ map spelling (frames_of l qs)) one in
    let long = ap length so ∙ length-append spelled.0 (x ∷ []) in
    let place : length strings - 1 ≡ length spelled.0 = omega (arith, long) in
    let is : string ≡ x =
    last
    ∙ (ap (λ n. slice_index_or strings n string) place
    ∙ (ap (λ ss. slice_index_or ss (length spelled.0) string) so
    ∙ get_or-append_seam spelled.0 x [] string)) in
    subst (λ s. EndsWith s (content_page p.message.content)) (sym is) (spelling-ends (frame_of l p))
