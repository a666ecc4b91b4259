-- Which nodes have a call in progress, or lack an answer in their log.
use Rattle.std.proofs.Common.{◌≡◌, ◌∙◌, ℕ, zero, suc, ◌+◌, ◌<◌, ◌≤◌, ◌==◌, Bool, true, false, List, [], ◌∷◌, ◌++◌, length, map, take, slice_get, Option, Some, None, option_map, IfSome, refl, sym, ap, subst, arith, inl, inr}
use Rattle.std.specs.List.{zip}
use Rattle.std.specs.Option.{is_none}
use Rattle.std.proofs.lemmas.Bool.{and_parts, eqb-true}
use Rattle.std.proofs.lemmas.List.{take_all}
use Rattle.std.proofs.lemmas.Option.{none-some, same_Some, slice_get-map, slice_get_cases}
use Rattle.ivy_simulation.specs.Nodes.{numbered_texts}
use Rattle.ivy_simulation.proofs.Printing.{numbered-more}
use Rattle.ivy_logs.specs.Entries.{LogEntry, answers_in}
use Rattle.ivy_site.specs.SiteView.{SiteView}
use Rattle.ivy_join.specs.OwnJoined.{AreAllTold}
use Rattle.ivynode.specs.OwnJoined.{all_open_in, is_whole, open_in, open_line}

zip-there : {X Y : Type 0} (xs : List X) (ys : List Y) (i : ℕ) (x : X) (y : Y) → slice_get xs i ≡ Some x
    → slice_get ys i ≡ Some y → slice_get (zip xs ys) i ≡ Some (x, y)
zip-there [] ys i x y at there = absurd (none-some x at)
zip-there (v ∷ xs) [] i x y at there = absurd (none-some y there)
zip-there (v ∷ xs) (w ∷ ys) zero x y at there =
    ap (λ a. Some (a, w)) (same_Some v x at) ∙ ap (λ b. Some (x, b)) (same_Some w y there)
zip-there (v ∷ xs) (w ∷ ys) (suc i) x y at there = zip-there xs ys i x y at there

zip-short : {X Y : Type 0} (xs : List X) (ys : List Y) → length (zip xs ys) ≤ length ys
zip-short [] ys = omega arith
zip-short (x ∷ xs) [] = omega arith
zip-short (x ∷ xs) (y ∷ ys) = let rest = zip-short xs ys in omega (arith, rest)

-- one node more
pub open-next : {X : Type 0} (f : X → List LogEntry) (logs : List X) (sites : List SiteView) (i : ℕ) (x : X)
    (b : Bool) → i < length sites → slice_get logs i ≡ Some x
    → IfSome (slice_get sites i) (λ s. b ≡ is_whole (f x) s)
    → numbered_texts open_in 0 (take (i + 1) (zip (map f logs) sites))
    ≡ numbered_texts open_in 0 (take i (zip (map f logs) sites)) ++ open_line i b
open-next f logs sites i x b within at said = elim (slice_get_cases sites i).1 [
  | inl p ↦
      let is : b ≡ is_whole (f x) p.0 =
      subst (λ (o : Option SiteView). IfSome o (λ s. b ≡ is_whole (f x) s)) p.2 said in
      let there : slice_get (zip (map f logs) sites) i ≡ Some (f x, p.0) =
      zip-there (map f logs) sites i (f x) p.0 (slice_get-map f logs i ∙ ap (option_map f) at) p.2 in
      numbered-more open_in (zip (map f logs) sites) i (f x, p.0) there
      ∙ ap (λ w. numbered_texts open_in 0 (take i (zip (map f logs) sites)) ++ open_line i w) (sym is)
  | inr q ↦ absurd (omega (arith, within, q.0))
]

-- and none more
pub open-all : (logs : List (List LogEntry)) (sites : List SiteView) (i : ℕ) → length sites ≤ i
    → numbered_texts open_in 0 (take i (zip logs sites)) ≡ all_open_in logs sites
open-all logs sites i past =
    let short = zip-short logs sites in
    ap (numbered_texts open_in 0) (take_all i (zip logs sites) (omega (arith, past, short)))

-- where no line is printed each node has all

nil-first : {X : Type 0} (xs ys : List X) → xs ++ ys ≡ [] → xs ≡ []
nil-first [] ys is = refl
nil-first (x ∷ xs) ys is = absurd (let long = ap length is in omega (arith, long))

line-none : (number : ℕ) (b : Bool) → open_line number b ≡ [] → b ≡ true
line-none number true is = refl
line-none number false is = absurd (let long = ap length is in omega (arith, long))

none-is : {X : Type 0} (o : Option X) → is_none o ≡ true → o ≡ None
none-is None is = refl
none-is (Some x) is = absurd cc

whole-told : (entries : List LogEntry) (s : SiteView) → is_whole entries s ≡ true
    → (s.node.core.memory.asked ≡ None) × (length s.node.core.history ≡ length (answers_in entries))
whole-told entries s is =
    let parts = and_parts (is_none s.node.core.memory.asked)
    (length s.node.core.history == length (answers_in entries)) is in
    (none-is s.node.core.memory.asked parts.0, eqb-true _ _ parts.1)

told-from : (logs : List (List LogEntry)) (sites : List SiteView) (number : ℕ)
    → numbered_texts open_in number (zip logs sites) ≡ [] → AreAllTold logs sites
told-from [] sites number none i entries s at there = absurd (none-some entries at)
told-from (log ∷ logs) [] number none i entries s at there = absurd (none-some s there)
told-from (log ∷ logs) (x ∷ sites) number none zero entries s at there =
    let line : open_line number (is_whole log x) ≡ [] =
    nil-first (open_line number (is_whole log x)) (numbered_texts open_in (number + 1) (zip logs sites)) none in
    whole-told entries s
    (ap (λ e. is_whole e s) (sym (same_Some log entries at)) ∙ ap (λ z. is_whole log z) (sym (same_Some x s there))
    ∙ line-none number (is_whole log x) line)
told-from (log ∷ logs) (x ∷ sites) number none (suc i) entries s at there =
    let line : open_line number (is_whole log x) ≡ [] =
    nil-first (open_line number (is_whole log x)) (numbered_texts open_in (number + 1) (zip logs sites)) none in
    let rest : numbered_texts open_in (number + 1) (zip logs sites) ≡ [] =
    sym (ap (λ l. l ++ numbered_texts open_in (number + 1) (zip logs sites)) line) ∙ none in
    told-from logs sites (number + 1) rest i entries s at there

pub all-told : (logs : List (List LogEntry)) (sites : List SiteView) → all_open_in logs sites ≡ []
    → AreAllTold logs sites
all-told logs sites none = told-from logs sites 0 none
