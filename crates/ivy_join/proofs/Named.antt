-- What an error says of the first lines of logs.
use Rattle.std.proofs.Common.{◌≡◌, ◌≢◌, ℕ, Bool, ◌+◌, ◌<◌, List, All, length, map, take, get_or, slice_get, option_map, Option, Some, None, refl, sym, ap, subst, ◌∙◌, inl, inr, arith}
use Rattle.std.proofs.lemmas.List.{get_or-map, length-map}
use Rattle.std.proofs.lemmas.List.Elements.{All-more, All-nil}
use Rattle.std.proofs.lemmas.Option.{slice_get-map, slice_get_read}
use Rattle.ivy_model.specs.declared.Config.{Config}
use Rattle.ivy_logs.specs.declared.log.LogHead.{LogHead}
use Rattle.ivy_join.specs.declared.failure.Unjoined.{Unjoined}
use Rattle.ivy_join.specs.declared.failure.Unjoined.TheVariants.{Refused, Missing, Twice, Differs, OtherRun, NotSent, NoSuchEvent, OtherAnswers}
use Rattle.ivy_join.specs.Joined.{NamesSum, SaysNoParts, SaysOfCount, SaysOfHead, SaysOfHeads, SaysOfSums}

-- the one in this place, of all
pub head-there : {X Y : Type 0} (f : X → Y) (xs : List X) (i : ℕ) (x : X) → i < length xs → x ≡ get_or xs i x
    → slice_get (map f xs) i ≡ Some (f x)
head-there f xs i x below there =
    slice_get-map f xs i ∙ ap (option_map f) (slice_get_read xs (length xs) i x refl below there)

-- what is said of first lines is nothing of parts
none-of-head : (steady : Bool) (c : Config) (node : ℕ) (h : LogHead) (why : Unjoined) → SaysOfHead steady c node h why → SaysNoParts why → ⊥
none-of-head steady c node h (Refused fault) said told = told
none-of-head steady c node h (Missing n) said told = told
none-of-head steady c node h (Twice n) said told = told
none-of-head steady c node h (Differs n) said told = told
none-of-head steady c node h (OtherRun n) said told = told
none-of-head steady c node h (NotSent n l) said told = said
none-of-head steady c node h (NoSuchEvent n l) said told = said
none-of-head steady c node h (OtherAnswers n) said told = said

none-of-count : (c : Config) (count : ℕ) (why : Unjoined) → SaysOfCount c count why → SaysNoParts why → ⊥
none-of-count c count (Refused fault) said told = told
none-of-count c count (Missing n) said told = told
none-of-count c count (Twice n) said told = told
none-of-count c count (Differs n) said told = told
none-of-count c count (OtherRun n) said told = told
none-of-count c count (NotSent n l) said told = said
none-of-count c count (NoSuchEvent n l) said told = said
none-of-count c count (OtherAnswers n) said told = said

pub none-of-heads : (steady : Bool) (c : Config) (heads : List LogHead) (why : Unjoined) → SaysOfHeads steady c heads why → SaysNoParts why → ⊥
none-of-heads steady c heads why (inl one) told = none-of-head steady c one.0 one.1 why one.3 told
none-of-heads steady c heads why (inr count) told = none-of-count c (length heads) why count told

pub none-of-sums : (sum : ℕ) (named : List (Option ℕ)) (why : Unjoined) → SaysOfSums sum named why → SaysNoParts why → ⊥
none-of-sums sum named (Refused fault) said told = told
none-of-sums sum named (Missing n) said told = told
none-of-sums sum named (Twice n) said told = told
none-of-sums sum named (Differs n) said told = told
none-of-sums sum named (OtherRun n) said told = told
none-of-sums sum named (NotSent n l) said told = said
none-of-sums sum named (NoSuchEvent n l) said told = said
none-of-sums sum named (OtherAnswers n) said told = said

-- each of the logs so far names this sum, or none
module _ {X : Type 0} (f : X → Option ℕ) (sum : ℕ) (xs : List X) where
  pub names-none : All (NamesSum sum) (take 0 (map f xs))
  names-none = All-nil (NamesSum sum)

  pub names-more : (i : ℕ) (x : X) → i < length xs → x ≡ get_or xs i x → All (NamesSum sum) (take i (map f xs))
      → NamesSum sum (f x) → All (NamesSum sum) (take (i + 1) (map f xs))
  names-more i x below there before named =
      All-more (NamesSum sum) (map f xs) i (f x) (omega (arith, below, length-map xs f)) before
      (subst (NamesSum sum) (ap f there ∙ sym (get_or-map f xs i x (f x) below)) named)

-- a log that does not, names another one
pub other-sum : (sum : ℕ) (named : Option ℕ) → (NamesSum sum named → ⊥) → (s : ℕ) × (named ≡ Some s) × (s ≢ sum)
other-sum sum None not = absurd (not tt)
other-sum sum (Some s) not = (s, refl, not)
