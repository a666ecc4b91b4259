-- The parts of a text that is cut at each character of a few, all of them ASCII.
use Rattle.std.proofs.Common.{◌≡◌, ◌⊎◌, inl, inr, ⊎_elim, ◌∙◌, ℕ, ◌<◌, Bool, true, false, cond}
use Rattle.std.proofs.Common.{List, [], ◌∷◌, ◌++◌, Option, Some, None, All, length, take, drop}
use Rattle.std.proofs.Common.{get_or, refl, sym, ap, subst, take-append-drop, arith}
use Rattle.std.specs.Option.{MatchOption}
use Rattle.std.specs.List.{slice_split}
use Rattle.std.specs.Char.{char_set_contains}
use Rattle.ivy_program.specs.texts.TextWords.{is_blank}
use Rattle.std.proofs.lemmas.Bool.Decides.{nat_tests}
use Rattle.std.specs.Str.{NoCharPasses}
use Rattle.std.specs.Str.Pattern.{FindsBy}
use Rattle.std.specs.Str.Iter.{split_steps, split_text, split_has_more, split_pattern}
use Rattle.std.proofs.lemmas.Str.{NoCharPasses-byte, len_utf8_bounds}
use Rattle.std.proofs.lemmas.Str.Pattern.{drop_at_char}
use Rattle.std.proofs.lemmas.List.Elements.{All-from_get_or}
use Rattle.std.proofs.lemmas.List.Splits.{slice_split_none, slice_split_at}
use Rattle.std.proofs.lemmas.Iterator.{YieldsList}
use Rattle.std.proofs.lemmas.Iterator.Splits.{YieldsList-from_shown_while}

module _ (cuts : ℕ → Bool) (low : (b : ℕ) → cuts b ≡ true → b < 128) where
  -- a byte is a cut only where it is a character
  kept : (b : ℕ) (r : Bool) → cuts b ≡ r → (b < 128 → cuts b ≡ false) → cuts b ≡ false
  kept b false e h = e
  kept b true e h = h (low b e)

  uncut : (bs : List ℕ) → NoCharPasses cuts bs → All (λ b. cuts b ≡ false) bs
  uncut bs h = All-from_get_or (λ b. cuts b ≡ false) bs 0
      (λ i l. kept (get_or bs i 0) (cuts (get_or bs i 0)) refl (NoCharPasses-byte cuts bs i h l))

  -- x was cut from w, and rest follows the cut, if there was one
  IsPiece : List ℕ → List ℕ → Bool → List ℕ → Type 0
  IsPiece w x live rest = All (λ b. cuts b ≡ false) x
      × (((x ≡ w) × (live ≡ false))
      ⊎ ((c : ℕ) × (cuts c ≡ true) × (live ≡ true) × (w ≡ x ++ (c ∷ rest))))

  piece : (w x rest : List ℕ) (live : Bool) (o : Option (ℕ × ℕ)) → FindsBy cuts w o
      → MatchOption o ((x ≡ w) × (live ≡ false))
      (λ q. 0 < q.1 → (x ≡ take q.0 w) × (live ≡ true) × (rest ≡ drop q.1 w))
      → IsPiece w x live rest
  unfolding IsPiece
  piece w x rest live None f g = (subst (All (λ b. cuts b ≡ false)) (sym g.0) (uncut w f), inl g)
  piece w x rest live (Some q) f g =
      let c : ℕ = f.1.0 in
      let h = g (omega (arith, f.1.2.ends, (len_utf8_bounds c).0)) in
      let past : drop q.0 w ≡ c ∷ rest =
      drop_at_char c w q.0 q.1 f.1.2 (low c f.1.1) ∙ ap {B = List ℕ} (λ v. c ∷ v) (sym h.2) in (
        subst (All (λ b. cuts b ≡ false)) (sym h.0) (uncut (take q.0 w) f.0),
        inr (c, f.1.1, h.1, sym (take-append-drop q.0 w) ∙ (λ i. sym h.0 i ++ past i)),
      )

  module _ {P : Type 0} (matches : P → (ℕ → Bool) → Type 0) where
    abbrev finds : P → List ℕ → Option (ℕ × ℕ) → Type 0
    finds p s r = (k : ℕ → Bool) → matches p k → FindsBy k s r

    abbrev keeps : P → P → Type 0
    keeps p q = (k : ℕ → Bool) → matches p k → matches q k

    -- what `split` gives at a pattern that matches these characters
    pub YieldsList-from_cuts : {s : _} (bs : List ℕ) → split_text s ≡ bs → split_has_more s ≡ true
        → matches (split_pattern s) cuts
        → YieldsList (split_steps finds keeps) (λ x. x.now) s (slice_split cuts bs)
    unfolding IsPiece
    YieldsList-from_cuts {s} bs text more good =
        let parts = slice_split cuts in
        let shown = λ (t : _). cond (split_has_more t) (parts (split_text t)) [] in
        subst (YieldsList (split_steps finds keeps) (λ x. x.now) s)
        (λ i. cond (more i) (parts (text i)) [])
        (YieldsList-from_shown_while (split_steps finds keeps) (λ x. x.now) shown
        (λ t. matches (split_pattern t) cuts)
        (λ t u h k. ap (λ b. length (cond b (parts (split_text t)) [])) (sym k.0))
        (λ t x u h k.
        let cut = k.1.1.1 in
        let m = piece (split_text t) x.now (split_text u) (split_has_more u) cut.0 (cut.1 cuts h)
        cut.2 in (
          k.1.0 cuts h,
          ap (λ b. cond b (parts (split_text t)) []) (sym k.0) ∙ ⊎_elim
              (λ last. ap parts (sym last.0) ∙ slice_split_none cuts x.now m.0
              ∙ ap (λ b. x.now ∷ cond b (parts (split_text u)) []) (sym last.1))
              (λ on. ap parts on.3 ∙ slice_split_at cuts x.now on.0 (split_text u) m.0 on.1
              ∙ ap (λ b. x.now ∷ cond b (parts (split_text u)) []) (sym on.2))
              m.1,
        ))
        s good)

-- spaces and tabs are ASCII
pub blanks_low : (b : ℕ) → is_blank b ≡ true → b < 128
blanks_low b h = grind (arith, nat_tests)

-- what a pattern of a space and a tab matches
pub blanks_matched : (c : ℕ) → char_set_contains (32 ∷ 9 ∷ []) c ≡ is_blank c
blanks_matched c = grind (arith, nat_tests)
