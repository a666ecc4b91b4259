-- Pages have a power of two of bytes.
use Rattle.std.proofs.Common.{◌≡◌, ℕ, ◌-◌, ◌/◌, ◌%◌, ◌^◌, [], ◌∷◌, bit_and, refl, sym, ap, ◌∙◌}
use Rattle.std.specs.Int.Count.{count_trailing_zeros}
use Rattle.std.proofs.lemmas.List.Elements.{All-contains, All-from_recursion}
use Rattle.std.proofs.lemmas.Nat.{and_mask}
use Rattle.ivy_model.specs.stated.PageSize.{IsPageSize}

-- the power of two that it is
abbrev IsPower : ℕ → Type 0
IsPower size = size ≡ 2 ^ count_trailing_zeros 32 size

page_is_power : (size : ℕ) → IsPageSize size → IsPower size
unfolding count_trailing_zeros
page_is_power size h =
    All-contains IsPower (64 ∷ 128 ∷ 256 ∷ 512 ∷ 1024 ∷ 2048 ∷ 4096 ∷ []) size
    (All-from_recursion IsPower (64 ∷ 128 ∷ 256 ∷ 512 ∷ 1024 ∷ 2048 ∷ 4096 ∷ [])
    (refl, (refl, (refl, (refl, (refl, (refl, (refl, tt)))))))) h

-- the page of an address
pub page_by_shift : (size addr : ℕ) → IsPageSize size
    → addr / 2 ^ count_trailing_zeros 32 size ≡ addr / size
page_by_shift size addr h = ap (λ s. addr / s) (sym (page_is_power size h))

-- and its place there
pub place_by_mask : (size addr : ℕ) → IsPageSize size → bit_and addr (size - 1) ≡ addr % size
place_by_mask size addr h =
    ap (λ s. bit_and addr (s - 1)) (page_is_power size h)
    ∙ and_mask addr (count_trailing_zeros 32 size)
    ∙ ap (λ s. addr % s) (sym (page_is_power size h))
