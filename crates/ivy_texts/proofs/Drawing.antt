-- What two or three words of a generator draw, and that strings which spell frames are long enough.
use Rattle.std.proofs.Common.{◌≡◌, ℕ, ◌%◌, ◌<◌, ◌≤◌, List, length, ap, sym, ◌∙◌, refl, arith, All, Contains}
use Rattle.std.proofs.lemmas.Bool.{lt-ltb, le-ltb}
use Rattle.std.proofs.lemmas.List.Elements.{All-contains_itself, All-weaker}
use Rattle.rand_pcg.specs.Lcg.{Lcg}
use Rattle.rand_pcg.specs.Pcg.{pcg32}
use Rattle.ivy_model.specs.declared.Config.{Config}
use Rattle.ivy_model.specs.stated.Config.{IsConfig}
use Rattle.ivy_wire.specs.stated.Data.{Frame}
use Rattle.ivy_wire.specs.stated.Spelling.{Spells}
use Rattle.ivy_wire.proofs.Frames.{spelled_long}
use Rattle.ivy_moves.specs.declared.Move.TheVariants.{Turn}
use Rattle.ivy_texts.specs.Drawn.{drawn, drawn_by, delivery, pulse}

module _ (nodes : ℕ) (sent : List (List ℕ)) (g g1 g2 : Lcg) (x y : ℕ) (first : (x, g1) ≡ pcg32 g)
    (second : (y, g2) ≡ pcg32 g1) where
  by_words : drawn_by nodes sent x y g2 ≡ drawn nodes sent g
  unfolding drawn
  by_words =
      ap (λ (p : ℕ × Lcg). drawn_by nodes sent x p.0 p.1) second
      ∙ ap (λ (p : ℕ × Lcg). drawn_by nodes sent p.0 (pcg32 p.1).0 (pcg32 p.1).1) first

  pub turn_drawn : x % 8 < 4 → (Turn (y % nodes), g2) ≡ drawn nodes sent g
  turn_drawn small = rw (sym by_words, lt-ltb (x % 8) 4 small) refl

  pub delivery_drawn : 4 ≤ x % 8 → x % 8 < 7 → (delivery nodes sent y, g2) ≡ drawn nodes sent g
  delivery_drawn large small =
      rw (sym by_words, le-ltb (x % 8) 4 large, lt-ltb (x % 8) 7 small) refl

  pub pulse_drawn : (z : ℕ) (g3 : Lcg) → (z, g3) ≡ pcg32 g2 → 7 ≤ x % 8
      → (pulse nodes y z, g3) ≡ drawn nodes sent g
  pulse_drawn z g3 third large =
      let not_few : 4 ≤ x % 8 = omega (arith, large) in
      rw (sym by_words, le-ltb (x % 8) 4 not_few, le-ltb (x % 8) 7 large)
      (ap (λ (p : ℕ × Lcg). (pulse nodes y p.0, p.1)) third)

pub long_strings : (c : Config) (strings : List (List ℕ)) → IsConfig c
    → ((bytes : List ℕ) → Contains strings bytes → (f : Frame) × Spells c f bytes)
    → All (λ (s : List ℕ). 24 ≤ length s) strings
long_strings c strings limits spelled =
    All-weaker (Contains strings) (λ (s : List ℕ). 24 ≤ length s) (λ s here.
    let f : (f : Frame) × Spells c f s = spelled s here in
    spelled_long c f.0 s f.1) strings
    (All-contains_itself strings)
