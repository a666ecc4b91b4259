-- A string spells at most one frame, and no spelling begins another.
use Rattle.std.proofs.Common.{◌≡◌, ℕ, ◌≤◌, List, [], ◌∷◌, ◌++◌, length, Result, Ok, refl, sym, ap, subst, ◌∙◌, arith}
use Rattle.std.proofs.lemmas.List.{append-nil, length-append}
use Rattle.ivy_model.specs.declared.Fault.{Fault}
use Rattle.ivy_wire.specs.declared.frame.FrameKind.{FrameKind}
use Rattle.ivy_wire.specs.stated.Spelling.{frame_kind, spelling, Spells}
use Rattle.ivy_wire.specs.stated.DecodeErrors.{len_at}
use Rattle.ivy_wire.specs.stated.Reading.{frame_at}
use Rattle.ivy_wire.specs.Grammar.{HasOneSpelling, SpellsAtMostOne, NoneBeginsAnother}
use Rattle.ivy_wire.proofs.Frames.{spelled_once, spelled_read, no_text}

pub has_one_spelling : HasOneSpelling
has_one_spelling c f fits = (spelling f, record { fits = fits; text = refl }, λ other s. s.text)

same_ok : (x y : FrameKind) → (let r : Result FrameKind Fault = Ok x in r) ≡ Ok y → x ≡ y
same_ok x y e = cc

pub spells_at_most_one : SpellsAtMostOne
spells_at_most_one c f g bytes limits sf sg =
    let a = spelled_once c f bytes limits sf in
    let b = spelled_once c g bytes limits sg in
    let same : frame_kind f.body ≡ frame_kind g.body =
    same_ok (frame_kind f.body) (frame_kind g.body) (sym a.0 ∙ b.0) in
    sym a.1 ∙ ap (λ k. frame_at k bytes) same ∙ b.1

-- the length of the body stands in the header
len_before : (bytes more : List ℕ) → 24 ≤ length bytes → len_at (bytes ++ more) ≡ len_at bytes
unfolding len_at
len_before [] more long = absurd (omega arith)
len_before (a ∷ []) more long = absurd (omega arith)
len_before (a ∷ b ∷ []) more long = absurd (omega arith)
len_before (a ∷ b ∷ c ∷ []) more long = absurd (omega arith)
len_before (a ∷ b ∷ c ∷ d ∷ []) more long = absurd (omega arith)
len_before (a ∷ b ∷ c ∷ d ∷ e ∷ []) more long = absurd (omega arith)
len_before (a ∷ b ∷ c ∷ d ∷ e ∷ f ∷ []) more long = absurd (omega arith)
len_before (a ∷ b ∷ c ∷ d ∷ e ∷ f ∷ g ∷ []) more long = absurd (omega arith)
len_before (a ∷ b ∷ c ∷ d ∷ e ∷ f ∷ g ∷ h ∷ rest) more long = refl

pub none_begins_another : NoneBeginsAnother
none_begins_another c f g bytes more limits sf sg =
    let a = (spelled_read c f bytes limits sf).head in
    let b = (spelled_read c g (bytes ++ more) limits sg).head in
    let none : more ≡ [] =
    no_text more
    (omega (arith, a.len, b.len, len_before bytes more a.long, length-append bytes more)) in (
      none,
      spells_at_most_one c f g bytes limits sf
          (subst (Spells c g) (ap (λ (m : List ℕ). bytes ++ m) none ∙ append-nil bytes) sg),
    )
