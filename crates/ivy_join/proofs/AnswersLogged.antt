-- What sites were answered is what their logs say.
use Rattle.std.proofs.Common.{◌≡◌, ℕ, ◌+◌, ◌-◌, ◌<◌, ◌≤◌, Bool, true, false, List, [], ◌∷◌, ◌++◌, length, map, take, drop, get_or, slice_get, Some, option_map, refl, sym, ap, subst, ◌∙◌, arith, inl, inr}
use Rattle.std.proofs.lemmas.List.{length-map, length-drop, map-append, map_push, take_more, take-append-drop}
use Rattle.std.proofs.lemmas.Option.{slice_get-map, slice_get_cases}
use Rattle.ivy_model.specs.declared.Record.{Record}
use Rattle.ivy_calls.specs.Answers.{answer, answers}
use Rattle.ivy_logs.specs.Entries.{LogEntry, answers_in}
use Rattle.ivy_moves.specs.Keeping.{read_of}
use Rattle.ivy_site.specs.SiteView.{SiteView}
use Rattle.ivy_join.specs.OwnJoined.{IsTold, AreTold, Tells}

-- the records past this place are those that the entries lack
pub tells : (entries : List LogEntry) (history : List Record) (place : ℕ) → length history - place ≤ 1
    → answers (take place history) ≡ answers_in entries → Tells entries history
tells entries history place few are = record {
  more = answers (drop place history);
  few = (let long = length-map (drop place history) answer in
      let left = length-drop place history in omega (arith, few, long, left));
  are = ap answers (sym (take-append-drop place history))
      ∙ map-append answer (take place history) (drop place history)
      ∙ ap (λ l. l ++ answers (drop place history)) are;
}

-- so many of the list that can be read are so many of the list
pub taken-read : {T : Type 0} (kept : Bool) (all : List T) (many : ℕ) → many ≤ length (read_of kept all)
    → take many (read_of kept all) ≡ take many all
taken-read true all many few = refl
taken-read false all many few =
    let none : many ≡ 0 = omega (arith, few) in
    ap (λ n. take n []) none ∙ sym (ap (λ n. take n all) none)

pub told_at : {X : Type 0} (f : X → List LogEntry) (logs : List X) (sites : List SiteView) (i : ℕ) (x : X)
    (s : SiteView) → slice_get logs i ≡ Some x → slice_get sites i ≡ Some s
    → Tells (f x) s.node.core.history → IsTold (slice_get (map f logs) i) (slice_get sites i)
told_at f logs sites i x s log site told =
    subst (λ o. IsTold o (slice_get sites i)) (sym (slice_get-map f logs i ∙ ap (option_map f) log))
    (subst (IsTold (Some (f x))) (sym site) told)

-- where there is no log nothing is said
pub told-all : {X : Type 0} (f : X → List LogEntry) (logs : List X) (sites : List SiteView)
    → ((i : ℕ) → i < length logs → IsTold (slice_get (map f logs) i) (slice_get sites i))
    → AreTold (map f logs) sites
told-all f logs sites h i = elim (slice_get_cases logs i).1 [
  | inl p ↦ h i p.1
  | inr q ↦
      subst (λ o. IsTold o (slice_get sites i))
      (sym (slice_get-map f logs i ∙ ap (option_map f) q.1)) tt
]

-- one record more
pub answers-taken : (rs : List Record) (i : ℕ) (r : Record) → i < length rs → r ≡ get_or rs i r
    → answers (take (i + 1) rs) ≡ answers (take i rs) ++ answer r ∷ []
answers-taken rs i r below there =
    ap answers (take_more rs i r below ∙ ap (λ y. take i rs ++ y ∷ []) (sym there))
    ∙ map_push answer (take i rs) r

pub map-twice : {L M N : Type 0} (f : M → N) (g : L → M) (xs : List L)
    → map f (map g xs) ≡ map (λ x. f (g x)) xs
map-twice f g [] = refl
map-twice f g (x ∷ xs) = ap (λ l. f (g x) ∷ l) (map-twice f g xs)
