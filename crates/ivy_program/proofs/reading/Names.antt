-- The letters of a name, and the zeros behind them.
use Rattle.std.proofs.Common.{◌≡◌, ◌∙◌, ℕ, suc, zero, ◌-◌, ◌&&◌, Bool, true, false, List, [], ◌∷◌, ◌++◌, length, drop, replicate, nat_lt, cond, ap, refl, arith}
use Rattle.std.specs.List.{list_all}
use Rattle.std.proofs.lemmas.List.{drop-replicate, append-nil}
use Rattle.std.proofs.lemmas.List.Elements.{filter-append}
use Rattle.std.proofs.lemmas.Bool.Decides.{nat_tests}
use Rattle.ivy_program.specs.texts.Operands.{is_name_byte, letters_of, padded}

both : (a b : Bool) → (a && b) ≡ true → (a ≡ true) × (b ≡ true)
both true b h = (refl, h)
both false b h = cc

byte_positive : (b : ℕ) → is_name_byte b ≡ true → nat_lt 0 b ≡ true
byte_positive b h = grind (arith, nat_tests)

letters_kept : (word : List ℕ) → list_all is_name_byte word ≡ true → letters_of word ≡ word
letters_kept [] h = refl
letters_kept (b ∷ word) h =
    let k = both (is_name_byte b) (list_all is_name_byte word) h in
    ap (λ c. cond c (b ∷ letters_of word) (letters_of word)) (byte_positive b k.0)
    ∙ ap (λ l. b ∷ l) (letters_kept word k.1)

zeros_gone : (n : ℕ) → letters_of (replicate n 0) ≡ []
zeros_gone zero = refl
zeros_gone (suc n) = zeros_gone n

-- the letters of the 16 bytes of a name are the name
pub letters-padded : (word : List ℕ) → list_all is_name_byte word ≡ true
    → letters_of (padded word) ≡ word
letters-padded word h =
    filter-append (λ b. nat_lt 0 b) word (drop (length word) (replicate 16 0))
    ∙ ap (λ l. letters_of word ++ letters_of l) (drop-replicate (length word) 16 0)
    ∙ ap (λ l. letters_of word ++ l) (zeros_gone (16 - length word))
    ∙ append-nil (letters_of word) ∙ letters_kept word h
