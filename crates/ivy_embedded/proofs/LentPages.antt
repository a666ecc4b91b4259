-- How many pages are lent.
use Rattle.std.proofs.Common.{◌≡◌, ◌≢◌, ℕ, zero, suc, ◌+◌, ◌-◌, ◌<◌, ◌≤◌, List, [], ◌∷◌, length, replicate, set, get_or, refl, sym, ap, ◌∙◌, arith}
use Rattle.std.specs.List.{sum_by}
use Rattle.std.proofs.lemmas.List.{length-set}
use Rattle.std.proofs.lemmas.List.Sums.{sum_by-cons, sum_by-set}
use Rattle.ivy_embedded.specs.declared.lending.Lending.{Lending}
use Rattle.ivy_embedded.specs.declared.lending.Lending.TheVariants.{Unlent, ToRead, ToWrite}
use Rattle.ivy_embedded.specs.Lending.{lending_in, one_if_lent}

one_at_most : (l : Lending) → one_if_lent l ≤ 1
one_at_most Unlent = omega arith
one_at_most ToRead = omega arith
one_at_most ToWrite = omega arith

-- no more than there are
pub lent_few : (lent : List Lending) → sum_by one_if_lent lent ≤ length lent
lent_few [] = omega arith
lent_few (l ∷ more) =
    let one = one_at_most l in
    let rest = lent_few more in
    let both = sum_by-cons one_if_lent l more in omega (arith, one, rest, both)

none_is : (l : Lending) (rest : ℕ) → one_if_lent l + rest ≡ 0 → l ≡ Unlent
none_is Unlent rest none = refl
none_is ToRead rest none = absurd (omega (arith, none))
none_is ToWrite rest none = absurd (omega (arith, none))

-- where none is counted, none is lent
pub none_lent : (lent : List Lending) → sum_by one_if_lent lent ≡ 0 → (p : ℕ)
    → lending_in lent p ≡ Unlent
none_lent [] none p = refl
none_lent (l ∷ more) none zero =
    none_is l (sum_by one_if_lent more) (sym (sum_by-cons one_if_lent l more) ∙ none)
none_lent (l ∷ more) none (suc p) =
    let both = sum_by-cons one_if_lent l more in none_lent more (omega (arith, none, both)) p

-- of pages that are not lent none is counted
pub none_counted : (n : ℕ) → sum_by one_if_lent (replicate n Unlent) ≡ 0
none_counted zero = refl
none_counted (suc n) =
    let both = sum_by-cons one_if_lent Unlent (replicate n Unlent) in
    let rest = none_counted n in omega (arith, both, rest)

some_is : (l : Lending) → l ≢ Unlent → one_if_lent l ≡ 1
some_is Unlent some = absurd (some refl)
some_is ToRead some = refl
some_is ToWrite some = refl

-- the count once a page is lent otherwise: one less, where it was lent, and one more, where it is
pub set_counted : (lent : List Lending) (page : ℕ) (to : Lending) → page < length lent
    → sum_by one_if_lent (set lent page to) + one_if_lent (lending_in lent page)
    ≡ sum_by one_if_lent lent + one_if_lent to
set_counted lent page to inside = sum_by-set one_if_lent lent page to Unlent inside

-- a page that is lent is counted
pub some_counted : (lent : List Lending) (page : ℕ) → page < length lent
    → lending_in lent page ≢ Unlent → 1 ≤ sum_by one_if_lent lent
some_counted lent page inside some =
    let one = some_is (lending_in lent page) some in
    let both = set_counted lent page Unlent inside in omega (arith, one, both)
