-- The strings that are held of the numbers after one, as far as they were followed.
use Rattle.std.proofs.Common.{◌≡◌, ℕ, zero, suc, ◌+◌, ◌<◌, ◌≤◌, List, [], ◌∷◌, ◌++◌, length, slice_get, Some, None, refl, sym, ap, subst, ◌∙◌, arith, below_more, append_assoc, append-nil, length-append}
use Rattle.ivy_charts.specs.declared.receivers.Receivers.{Receivers}
use Rattle.ivy_charts.specs.Heard.{held_of, IsRunAfter}

-- before the item that comes last there is what was there
get_front : (xs : List ℕ) (x i : ℕ) → i < length xs
    → slice_get (xs ++ x ∷ []) i ≡ slice_get xs i
get_front [] x i h = absurd (omega arith)
get_front (y ∷ ys) x zero h = refl
get_front (y ∷ ys) x (suc i) h = get_front ys x i (omega arith)

get_end : (xs : List ℕ) (x : ℕ) → slice_get (xs ++ x ∷ []) (length xs) ≡ Some x
get_end [] x = refl
get_end (y ∷ ys) x = get_end ys x

-- these were followed from a number up to the last, so many of them, and were added to what was
-- served
pub record SoFar (r : Receivers) (to source number : ℕ) (was now : List ℕ) (last made : ℕ)
    : Type 0 where
  pub more : List ℕ
  pub served : now ≡ was ++ more
  pub to_last : last ≡ number + length more
  pub as_many : length more ≡ made
  pub each : (i : ℕ) → i < length more → held_of r to source (number + i + 1) ≡ slice_get more i

pub none_yet : (r : Receivers) (to source number : ℕ) (was : List ℕ)
    → SoFar r to source number was was number 0
none_yet r to source number was = record {
  more = [];
  served = sym (append-nil was);
  to_last = omega arith;
  as_many = refl;
  each = λ i h. absurd (omega arith);
}

pub one_more : (r : Receivers) (to source number : ℕ) (was now then : List ℕ)
    (last made place : ℕ) → SoFar r to source number was now last made
    → held_of r to source (last + 1) ≡ Some place → then ≡ now ++ place ∷ []
    → SoFar r to source number was then (last + 1) (made + 1)
one_more r to source number was now then last made place s here served =
    let long : length (s.more ++ place ∷ []) ≡ length s.more + 1 =
    length-append s.more (place ∷ []) in
    record {
      more = s.more ++ place ∷ [];
      served = served ∙ ap (λ xs. xs ++ place ∷ []) s.served ∙ append_assoc was s.more (place ∷ []);
      to_last = omega (arith, s.to_last, long);
      as_many = omega (arith, s.as_many, long);
      each = λ i h. below_more
          (λ j. held_of r to source (number + j + 1) ≡ slice_get (s.more ++ place ∷ []) j)
          (length s.more)
          (λ j below. s.each j below ∙ sym (get_front s.more place j below))
          (subst (λ k. held_of r to source (k + 1) ≡ Some place) s.to_last here
          ∙ sym (get_end s.more place)) i (omega (arith, h, long));
    }

-- no more than 32 were followed, and there is none of the next number where there were fewer
pub run_of : (r : Receivers) (to source number : ℕ) (was now : List ℕ) (last made : ℕ)
    (s : SoFar r to source number was now last made) → made ≤ 32
    → (made < 32 → held_of r to source (last + 1) ≡ None)
    → (more : List ℕ) × (now ≡ was ++ more) × (last ≡ number + length more)
    × IsRunAfter r to source number more
run_of r to source number was now last made s most ends = (
  s.more,
  s.served,
  s.to_last,
  record {
    each = s.each;
    most = omega (arith, s.as_many, most);
    whole = λ few. subst (λ k. held_of r to source (k + 1) ≡ None) s.to_last
        (ends (omega (arith, s.as_many, few)));
  },
)
