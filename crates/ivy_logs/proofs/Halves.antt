-- What a digit stands for, in either case.
use Rattle.std.proofs.Common.{◌≡◌, ℕ, zero, suc, ◌+◌, ◌/◌, ◌%◌, ◌<◌, ◌==◌, Bool, true, ◌&&◌, inl, inr, bit_or, if◌then◌else◌, refl, subst, arith}
use Rattle.std.proofs.lemmas.Bool.{and_parts, cases_lt, eqb-true}

-- a byte with the bit that tells the cases of a letter apart
abbrev pub lowered : ℕ → ℕ
lowered c = if c / 32 % 2 == 0 then c + 32 else c

are_lowered : ℕ → Bool
are_lowered zero = true
are_lowered (suc n) = (bit_or n 32 == lowered n) && are_lowered n

lowered-below : (n c : ℕ) → are_lowered n ≡ true → c < n → bit_or c 32 ≡ lowered c
unfolding are_lowered
lowered-below zero c h below = absurd (omega arith)
lowered-below (suc n) c h below =
    let parts = and_parts (bit_or n 32 == lowered n) (are_lowered n) h in
    elim (cases_lt c n) [
      | inl less ↦ lowered-below n c parts.1 less
      | inr most ↦
          let same : n ≡ c = omega arith in
          subst (λ k. bit_or k 32 ≡ lowered k) same (eqb-true (bit_or n 32) (lowered n) parts.0)
    ]

pub lowered-byte : (c : ℕ) → c < 256 → bit_or c 32 ≡ lowered c
unfolding are_lowered
lowered-byte c below = lowered-below 256 c refl below
