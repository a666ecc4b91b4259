-- How far the logs were made: one of them goes on, none does, or all are at their end.
use Rattle.std.proofs.Common.{◌≡◌, ◌≢◌, ℕ, zero, suc, ◌+◌, ◌-◌, ◌<◌, ◌≤◌, List, [], ◌∷◌, ◌++◌, length, map, take, drop, set, get_or, replicate, slice_get, Some, None, option_map, refl, sym, ap, subst, ◌∙◌, inl, inr, arith}
use Rattle.std.proofs.lemmas.Bool.{cases_eq}
use Rattle.std.proofs.lemmas.List.{take_all, take-append-drop}
use Rattle.std.proofs.lemmas.Option.{same_Some, none-some, slice_get-map, slice_get_within, slice_get_cases}
use Rattle.std.proofs.lemmas.List.Concat.{flat_map-append}
use Rattle.ivy_logs.specs.Entries.{LogEntry, event_in, events_in}
use Rattle.ivy_moves.specs.Marks.{Mark, marks}
use Rattle.ivy_moves.proofs.Places.{set-elsewhere, set-there}
use Rattle.ivy_logs.proofs.Entries.{entries-taken, marks-append}
use Rattle.ivy_site.specs.SiteView.{SiteView}
use Rattle.ivy_join.specs.Exact.{left_of, AreAllMade, AreMadeTo, AreStuck, IsMadeTo, IsStuck}
use Rattle.ivy_join.specs.Joined.{list_of, part_in}
use Rattle.ivy_join.specs.ReplaySites.{events_at, listed}
use Rattle.ivy_join.proofs.Calls.{replicate-is}
use Rattle.ivy_join.proofs.HandedLogs.{there_is}

-- what stands behind the entries that were made
pub drop_at : {X : Type 0} (xs : List X) (i : ℕ) (x : X) → i < length xs → x ≡ get_or xs i x
    → drop i xs ≡ x ∷ drop (i + 1) xs
drop_at [] i x below is = absurd (omega (arith, below))
drop_at (y ∷ xs) zero x below is = ap (λ z. z ∷ xs) (sym is)
drop_at (y ∷ xs) (suc i) x below is =
    let further : suc i + 1 ≡ suc (i + 1) = omega arith in
    drop_at xs i x (omega (arith, below)) is ∙ ap (λ n. x ∷ drop n (y ∷ xs)) (sym further)

pub marks-cut : (log : List LogEntry) (m : ℕ)
    → marks (events_in log) ≡ marks (events_in (take m log)) ++ marks (events_in (drop m log))
marks-cut log m =
    ap (λ l. marks (events_in l)) (sym (take-append-drop m log))
    ∙ ap marks (flat_map-append event_in (take m log) (drop m log))
    ∙ marks-append (events_in (take m log)) (events_in (drop m log))

-- one entry more of a log
pub made_more : (log : List LogEntry) (m : ℕ) (e : LogEntry) (old new : List Mark) → m < length log
    → e ≡ get_or log m e → IsMadeTo log m old → new ≡ old ++ marks (event_in e) → IsMadeTo log (m + 1) new
made_more log m e old new below is to more = record {
  few = omega (arith, below);
  are = more ∙ ap (λ l. l ++ marks (event_in e)) to.are ∙ sym (entries-taken log m e below is);
}

-- the log of one node
pub made-at-map : {X : Type 0} (f : X → List LogEntry) (logs : List X) (made : List ℕ) (sites : List SiteView)
    (node : ℕ) (x : X) (m : ℕ) → AreMadeTo (map f logs) made sites → slice_get logs node ≡ Some x
    → slice_get made node ≡ Some m → IsMadeTo (f x) m (events_at sites node)
made-at-map f logs made sites node x m each log was =
    each node (f x) m (slice_get-map f logs node ∙ ap (option_map f) log) was

-- it goes on
module _ {X : Type 0} (f : X → List LogEntry) (logs : List X) (made : List ℕ) (node : ℕ) (x : X) (m m' : ℕ)
    (old new : List SiteView) (log : slice_get logs node ≡ Some x) (was : slice_get made node ≡ Some m) where
  log-there : slice_get (map f logs) node ≡ Some (f x)
  log-there = slice_get-map f logs node ∙ ap (option_map f) log

  pub each-on : AreMadeTo (map f logs) made old → IsMadeTo (f x) m' (events_at new node)
      → ((i : ℕ) → i ≢ node → events_at new i ≡ events_at old i)
      → AreMadeTo (map f logs) (set made node m') new
  each-on each here elsewhere i l k at now = elim (cases_eq i node) [
    | inl same ↦
        (let mine : f x ≡ l = same_Some (f x) l (sym log-there ∙ ap (slice_get (map f logs)) (sym same) ∙ at) in
        let so : m' ≡ k =
        same_Some m' k
        (sym (set-there made node m' m was) ∙ ap (slice_get (set made node m')) (sym same) ∙ now) in
        subst (λ j. IsMadeTo l k (events_at new j)) (sym same)
        (subst (λ j. IsMadeTo l j (events_at new node)) so
        (subst (λ es. IsMadeTo es m' (events_at new node)) mine here)))
    | inr apart ↦
        subst (IsMadeTo l k) (sym (elsewhere i apart))
        (each i l k at (sym (set-elsewhere made node i m' (λ e. apart (sym e))) ∙ now))
  ]

-- what is left then
left-set : (logs : List (List LogEntry)) (made : List ℕ) (node : ℕ) (log : List LogEntry) (m m' : ℕ)
    → slice_get logs node ≡ Some log → slice_get made node ≡ Some m
    → left_of logs (set made node m') + (length log - m) ≡ left_of logs made + (length log - m')
left-set [] made node log m m' there was = absurd (none-some log there)
left-set (x ∷ logs) [] node log m m' there was = absurd (none-some m was)
left-set (x ∷ logs) (k ∷ made) zero log m m' there was =
    let same : length x ≡ length log = ap length (same_Some x log there) in
    let so : k ≡ m = same_Some k m was in
    omega (arith, same, so)
left-set (x ∷ logs) (k ∷ made) (suc node) log m m' there was =
    let rest = left-set logs made node log m m' there was in omega (arith, rest)

pub left-less : {X : Type 0} (f : X → List LogEntry) (logs : List X) (made : List ℕ) (node : ℕ) (x : X)
    (m m' : ℕ) → slice_get logs node ≡ Some x → slice_get made node ≡ Some m → m < m' → m' ≤ length (f x)
    → left_of (map f logs) (set made node m') < left_of (map f logs) made
left-less f logs made node x m m' log was more few =
    let is = left-set (map f logs) made node (f x) m m' (slice_get-map f logs node ∙ ap (option_map f) log)
    was in
    omega (arith, is, more, few)

pub set_again : {X : Type 0} (xs : List X) (i : ℕ) (x : X) → slice_get xs i ≡ Some x → set xs i x ≡ xs
set_again [] i x at = refl
set_again (y ∷ xs) zero x at = ap (λ z. z ∷ xs) (sym (same_Some y x at))
set_again (y ∷ xs) (suc i) x at = ap (λ l. y ∷ l) (set_again xs i x at)

-- at the end all was
pub lists-made : {X : Type 0} (f : X → List LogEntry) (logs : List X) (made : List ℕ) (sites : List SiteView)
    → length logs ≡ length sites → length made ≡ length sites → AreMadeTo (map f logs) made sites
    → AreAllMade (map f logs) made → (i : ℕ) → events_at sites i ≡ part_in (map (λ x. marks (events_in (f x))) logs) i
lists-made f logs made sites each count to all i = elim (slice_get_cases logs i).1 [
  | inl there ↦
      (let x = there.0 in
      let log : slice_get (map f logs) i ≡ Some (f x) =
      slice_get-map f logs i ∙ ap (option_map f) there.2 in
      let inside : i < length made = (let l = there.1 in omega (arith, l, each, count)) in
      let m = there_is made i inside in
      let own = to i (f x) m.0 log m.1 in
      own.are ∙ ap (λ l. marks (events_in l)) (take_all m.0 (f x) (all i (f x) m.0 log m.1))
      ∙ sym (ap list_of (slice_get-map (λ x. marks (events_in (f x))) logs i
      ∙ ap (option_map (λ x. marks (events_in (f x)))) there.2)))
  | inr past ↦
      (let none : slice_get sites i ≡ None = beyond sites i (let l = past.0 in omega (arith, l, each)) in
      ap listed none
      ∙ sym (ap list_of (slice_get-map (λ x. marks (events_in (f x))) logs i
      ∙ ap (option_map (λ x. marks (events_in (f x)))) past.1)))
]
  where
    beyond : (xs : List SiteView) (i : ℕ) → length xs ≤ i → slice_get xs i ≡ None
    beyond [] i past = refl
    beyond (x ∷ xs) zero past = absurd (omega (arith, past))
    beyond (x ∷ xs) (suc i) past = beyond xs i (omega (arith, past))

-- the logs below a place are stuck
abbrev pub AreStuckTo : ℕ → List (List ℕ) → List (List LogEntry) → List ℕ → Type 0
AreStuckTo n sent logs made = (i : ℕ) → i < n → (log : List LogEntry) (m : ℕ) → slice_get logs i ≡ Some log
    → slice_get made i ≡ Some m → IsStuck sent (drop m log)

-- one more log does not go on
pub stuck-more : {X : Type 0} (f : X → List LogEntry) (logs : List X) (made : List ℕ) (node : ℕ) (x : X)
    (m m' : ℕ) (sent sent' : List (List ℕ)) → slice_get logs node ≡ Some x → slice_get made node ≡ Some m
    → m' ≡ m → sent' ≡ sent → IsStuck sent (drop m (f x)) → AreStuckTo node sent (map f logs) made
    → AreStuckTo (node + 1) sent' (map f logs) (set made node m')
stuck-more f logs made node x m m' sent sent' there was same strings stuck before i below log k at now =
    let still : set made node m' ≡ made =
    ap (set made node) same ∙ set_again made node m was in
    let then_now : slice_get made i ≡ Some k = ap (λ l. slice_get l i) (sym still) ∙ now in
    subst (λ l. IsStuck l (drop k log)) (sym strings)
    (elim (cases_eq i node) [
      | inl here ↦
          (let mine : f x ≡ log =
          same_Some (f x) log
          (sym (slice_get-map f logs node ∙ ap (option_map f) there) ∙ ap (slice_get (map f logs)) (sym here)
          ∙ at) in
          let so : m ≡ k = same_Some m k (sym was ∙ ap (slice_get made) (sym here) ∙ then_now) in
          subst (λ j. IsStuck sent (drop j log)) so (subst (λ l. IsStuck sent (drop m l)) mine stuck))
      | inr apart ↦ before i (omega (arith, below, apart)) log k at then_now
    ])

pub stuck-all : (n : ℕ) (sent : List (List ℕ)) (logs : List (List LogEntry)) (made : List ℕ) → length logs ≤ n
    → AreStuckTo n sent logs made → AreStuck sent logs made
stuck-all n sent logs made all to i log m at was =
    let l = slice_get_within logs i log at in to i (omega (arith, l, all)) log m at was

-- none was made yet
pub none-made : (logs : List (List LogEntry)) (made : List ℕ) (n : ℕ) (sites : List SiteView)
    → made ≡ replicate n 0 → ((i : ℕ) → events_at sites i ≡ []) → AreMadeTo logs made sites
none-made logs made n sites zeros none i log m there now =
    let first : m ≡ 0 = (replicate-is n 0 i m (ap (λ l. slice_get l i) (sym zeros) ∙ now)).1 in record {
      few = omega (arith, first);
      are = none i ∙ ap (λ j. marks (events_in (take j log))) (sym first);
    }
