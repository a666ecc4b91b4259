-- The text of a content, read and written.
use Rattle.std.proofs.Common.{◌≡◌, ℕ, ◌+◌, ◌^◌, ◌<◌, ◌≤◌, Bool, true, false, eqb, ltb, ◌&&◌, ◌||◌, ◌⊎◌, List, [], ◌∷◌, ◌++◌, length, get_or, drop, Some, refl, ap, ◌∙◌, arith, inl, inr}
use Rattle.std.proofs.Math.Pow.{pow_mono}
use Rattle.std.proofs.lemmas.List.{length-drop, drop-drop}
use Rattle.std.proofs.lemmas.Bool.{eqb-true}
use Rattle.std.proofs.lemmas.Bool.Decides.{nat_tests}
use Rattle.byteorder.specs.Endian.{big_number, big_bytes}
use Rattle.byteorder.specs.Numbers.{big_number-reads_back, big_from-lt}
use Rattle.ivy_model.specs.declared.Config.{Config}
use Rattle.ivy_model.specs.stated.Config.{IsConfig}
use Rattle.ivy_model.specs.stated.Limits.{most_nodes}
use Rattle.ivy_wire.specs.declared.frame.FrameKind.{FrameKind}
use Rattle.ivy_wire.specs.declared.frame.FrameKind.TheVariants as kinds
use Rattle.ivy_wire.specs.stated.Data.{Content}
use Rattle.ivy_wire.specs.declared.frame.Content.TheVariants as contents
use Rattle.ivy_wire.specs.stated.Spelling.{kind_of, content_text, text_len, FitsContent}
use Rattle.ivy_wire.specs.stated.DecodeErrors.{is_sound_content}
use Rattle.ivy_wire.specs.stated.Reading.{content_at}
use Rattle.ivy_wire.proofs.Fields.{IsBytes, IsBytes-drop, field_1, field_4, only_1, only_4, only_8}

-- the content that a text has in it; it fits where the text is sound
pub record HasContent (c : Config) (k : FrameKind) (rest : List ℕ) (content : Content) : Type 0
  where
    pub read : content_at k rest ≡ Some content
    pub kind : kind_of content ≡ k
    pub text : rest ≡ content_text content
    pub fits : is_sound_content c k rest ≡ true → FitsContent c content

pub both : (a b : Bool) → a && b ≡ true → (a ≡ true) × (b ≡ true)
both true b e = (refl, e)
both false b e = absurd cc

either : (a b : Bool) → a || b ≡ true → (a ≡ true) ⊎ (b ≡ true)
either true b e = inl refl
either false b e = inr e

below : (m n : ℕ) → ltb m n ≡ true → m < n
below m n e = grind (arith, nat_tests)

reply_fits : (code addr : ℕ) → addr < 2 ^ 64
    → eqb code 0 || ((eqb code 8 || eqb code 9) && eqb addr 0) ≡ true
    → ((code ≡ 0) × (addr < 2 ^ 64)) ⊎ (((code ≡ 8) ⊎ (code ≡ 9)) × (addr ≡ 0))
reply_fits code addr small e =
    elim (either (eqb code 0) ((eqb code 8 || eqb code 9) && eqb addr 0) e) [
      | inl z ↦ inl (eqb-true code 0 z, small)
      | inr r ↦
          let p = both (eqb code 8 || eqb code 9) (eqb addr 0) r in
          elim (either (eqb code 8) (eqb code 9) p.0) [
            | inl z ↦ inr (inl (eqb-true code 8 z), eqb-true addr 0 p.1)
            | inr z ↦ inr (inr (eqb-true code 9 z), eqb-true addr 0 p.1)
          ]
    ]

freed_fits : (code : ℕ) → eqb code 0 || eqb code 10 ≡ true → (code ≡ 0) ⊎ (code ≡ 10)
freed_fits code e =
    elim (either (eqb code 0) (eqb code 10) e) [
      | inl z ↦ inl (eqb-true code 0 z)
      | inr z ↦
          inr (eqb-true code 10 z)
    ]

page_of : (c : Config) (rest : List ℕ) → ltb (big_number 4 rest) c.pages ≡ true
    → big_number 4 rest < c.pages
page_of c rest e = grind (arith, nat_tests)

pub content_spelled : (c : Config) (kind : FrameKind) (rest : List ℕ) → IsBytes rest
    → (kind ≡ kinds.Ack → ⊥) → 9 + length rest ≡ text_len c kind
    → (content : Content) × HasContent c kind rest content
unfolding content_at is_sound_content
content_spelled c kinds.Ack rest h some len = absurd (some refl)
content_spelled c kinds.ReadReq rest h some len = (
  contents.ReadReq (big_number 4 rest),
  record {
    read = refl;
    kind = refl;
    text = only_4 rest h (omega arith);
    fits = λ sound. page_of c rest sound;
  },
)
content_spelled c kinds.WriteReq rest h some len = (
  contents.WriteReq (big_number 4 rest),
  record {
    read = refl;
    kind = refl;
    text = only_4 rest h (omega arith);
    fits = λ sound. page_of c rest sound;
  },
)
content_spelled c kinds.ReadRep rest h some len = (
  contents.ReadRep (big_number 4 rest) (drop 4 rest),
  record {
    read = refl;
    kind = refl;
    text = field_4 rest h (omega arith);
    fits = λ sound. (page_of c rest sound, omega (arith, length-drop 4 rest));
  },
)
content_spelled c kinds.WriteRep rest h some len =
    let copies : ℕ = big_number 4 (drop 4 rest) in
    let second : drop 4 rest ≡ big_bytes 4 copies ++ drop 8 rest =
    field_4 (drop 4 rest) (IsBytes-drop 4 rest h) (omega (arith, length-drop 4 rest))
    ∙ ap (λ (t : List ℕ). big_bytes 4 copies ++ t) (drop-drop 4 4 rest) in (
      contents.WriteRep (big_number 4 rest) copies (drop 8 rest),
      record {
        read = refl;
        kind = refl;
        text = field_4 rest h (omega arith)
            ∙ ap (λ (t : List ℕ). big_bytes 4 (big_number 4 rest) ++ t) second;
        fits = λ sound.
            let p = both (ltb (big_number 4 rest) c.pages) (ltb copies (2 ^ c.nodes)) sound in
            (page_of c rest p.0, below copies (2 ^ c.nodes) p.1, omega (arith, length-drop 8 rest));
      },
    )
content_spelled c kinds.Inval rest h some len = (
  contents.Inval (big_number 4 rest),
  record {
    read = refl;
    kind = refl;
    text = only_4 rest h (omega arith);
    fits = λ sound. page_of c rest sound;
  },
)
content_spelled c kinds.InvalAck rest h some len = (
  contents.InvalAck (big_number 4 rest),
  record {
    read = refl;
    kind = refl;
    text = only_4 rest h (omega arith);
    fits = λ sound. page_of c rest sound;
  },
)
content_spelled c kinds.AllocReq rest h some len = (
  contents.AllocReq (big_number 8 rest),
  record {
    read = refl;
    kind = refl;
    text = only_8 rest h (omega arith);
    fits = λ sound. big_from-lt 0 8 rest h;
  },
)
content_spelled c kinds.AllocRep rest h some len =
    let tail = IsBytes-drop 1 rest h in (
      contents.AllocRep (get_or rest 0 0) (big_number 8 (drop 1 rest)),
      record {
        read = refl;
        kind = refl;
        text = field_1 rest (omega arith)
            ∙ ap (λ (t : List ℕ). get_or rest 0 0 ∷ t)
            (only_8 (drop 1 rest) tail (omega (arith, length-drop 1 rest)));
        fits = λ sound. reply_fits (get_or rest 0 0) (big_number 8 (drop 1 rest))
            (big_from-lt 0 8 (drop 1 rest) tail) sound;
      },
    )
content_spelled c kinds.FreeReq rest h some len = (
  contents.FreeReq (big_number 8 rest),
  record {
    read = refl;
    kind = refl;
    text = only_8 rest h (omega arith);
    fits = λ sound. big_from-lt 0 8 rest h;
  },
)
content_spelled c kinds.FreeRep rest h some len = (
  contents.FreeRep (get_or rest 0 0),
  record {
    read = refl;
    kind = refl;
    text = only_1 rest (omega arith);
    fits = λ sound. freed_fits (get_or rest 0 0) sound;
  },
)

-- a content is read back from its text
pub record ReadsBack (c : Config) (b : Content) : Type 0 where
  pub read : content_at (kind_of b) (content_text b) ≡ Some b
  pub sound : is_sound_content c (kind_of b) (content_text b) ≡ true
  pub len : 9 + length (content_text b) ≡ text_len c (kind_of b)

above : (m n : ℕ) → m < n → ltb m n ≡ true
above m n e = grind (arith, nat_tests)

page_back : (c : Config) (page : ℕ) (rest : List ℕ) → IsConfig c → page < c.pages
    → big_number 4 (big_bytes 4 page ++ rest) ≡ page
page_back c page rest limits lt =
    let most = limits.pages_to in big_number-reads_back 4 page rest (omega arith)

copies_back : (c : Config) (copies : ℕ) (rest : List ℕ) → IsConfig c → copies < 2 ^ c.nodes
    → big_number 4 (big_bytes 4 copies ++ rest) ≡ copies
copies_back c copies rest limits lt =
    let most : 2 ^ c.nodes ≤ 2 ^ most_nodes = pow_mono limits.nodes_to in
    big_number-reads_back 4 copies rest (omega (arith, lt, most))

reply_sound : (code addr : ℕ)
    → ((code ≡ 0) × (addr < 2 ^ 64)) ⊎ (((code ≡ 8) ⊎ (code ≡ 9)) × (addr ≡ 0))
    → eqb code 0 || ((eqb code 8 || eqb code 9) && eqb addr 0) ≡ true
reply_sound code addr (inl p) = rw p.0 refl
reply_sound code addr (inr p) = elim p.0 [ inl e ↦ rw (e, p.1) refl | inr e ↦ rw (e, p.1) refl ]

freed_sound : (code : ℕ) → (code ≡ 0) ⊎ (code ≡ 10) → eqb code 0 || eqb code 10 ≡ true
freed_sound code (inl e) = rw e refl
freed_sound code (inr e) = rw e refl

addr_small : (code addr : ℕ)
    → ((code ≡ 0) × (addr < 2 ^ 64)) ⊎ (((code ≡ 8) ⊎ (code ≡ 9)) × (addr ≡ 0)) → addr < 2 ^ 64
addr_small code addr (inl p) = p.1
addr_small code addr (inr p) = omega (arith, p.1)

pub content_again : (c : Config) (b : Content) → IsConfig c → FitsContent c b → ReadsBack c b
unfolding content_at is_sound_content
content_again c (contents.ReadReq page) limits fits =
    let back = page_back c page [] limits fits in
    record {
      read = ap (λ n. Some (contents.ReadReq n)) back;
      sound = rw back (above page c.pages fits);
      len = refl;
    }
content_again c (contents.WriteReq page) limits fits =
    let back = page_back c page [] limits fits in
    record {
      read = ap (λ n. Some (contents.WriteReq n)) back;
      sound = rw back (above page c.pages fits);
      len = refl;
    }
content_again c (contents.ReadRep page bytes) limits fits =
    let back = page_back c page bytes limits fits.0 in
    record {
      read = ap (λ n. Some (contents.ReadRep n bytes)) back;
      sound = rw back (above page c.pages fits.0);
      len = omega (arith, fits.1);
    }
content_again c (contents.WriteRep page copies bytes) limits fits =
    let back = page_back c page (big_bytes 4 copies ++ bytes) limits fits.0 in
    let set = copies_back c copies bytes limits fits.1 in
    record {
      read = ap
          (λ n. Some (contents.WriteRep n (big_number 4 (big_bytes 4 copies ++ bytes)) bytes)) back
          ∙ ap (λ n. Some (contents.WriteRep page n bytes)) set;
      sound = rw (back, set, above page c.pages fits.0) (above copies (2 ^ c.nodes) fits.1);
      len = omega (arith, fits.2);
    }
content_again c (contents.Inval page) limits fits =
    let back = page_back c page [] limits fits in
    record {
      read = ap (λ n. Some (contents.Inval n)) back;
      sound = rw back (above page c.pages fits);
      len = refl;
    }
content_again c (contents.InvalAck page) limits fits =
    let back = page_back c page [] limits fits in
    record {
      read = ap (λ n. Some (contents.InvalAck n)) back;
      sound = rw back (above page c.pages fits);
      len = refl;
    }
content_again c (contents.AllocReq size) limits fits =
    record {
      read = ap (λ n. Some (contents.AllocReq n)) (big_number-reads_back 8 size [] fits);
      sound = refl;
      len = refl;
    }
content_again c (contents.AllocRep code addr) limits fits =
    let back : big_number 8 (big_bytes 8 addr) ≡ addr =
    big_number-reads_back 8 addr [] (addr_small code addr fits) in
    record {
      read = ap (λ n. Some (contents.AllocRep code n)) back;
      sound = rw back (reply_sound code addr fits);
      len = refl;
    }
content_again c (contents.FreeReq addr) limits fits =
    record {
      read = ap (λ n. Some (contents.FreeReq n)) (big_number-reads_back 8 addr [] fits);
      sound = refl;
      len = refl;
    }
content_again c (contents.FreeRep code) limits fits =
    record { read = refl; sound = freed_sound code fits; len = refl }
