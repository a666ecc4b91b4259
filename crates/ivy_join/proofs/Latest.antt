-- The places of strings by their hashes.
use Rattle.std.proofs.Common.{◌≡◌, ◌≢◌, ◌⊎◌, ℕ, zero, suc, ◌+◌, ◌<◌, ◌≤◌, ◌==◌, cond, List, [], ◌∷◌, ◌++◌, length, slice_get, get_or, Contains, Option, Some, None, if◌then◌else◌, refl, sym, ap, subst, ◌∙◌, inl, inr, arith, length-append}
use Rattle.std.specs.Ordering.{is_eq, nat_cmp}
use Rattle.std.proofs.lemmas.Bool.Decides.{nat_tests}
use Rattle.std.proofs.lemmas.Bool.{cases_eq, cases_lt, eq-eqb, ne_eqb}
use Rattle.std.proofs.lemmas.List.{get_or_append_left, get_or_push}
use Rattle.std.proofs.lemmas.List.Elements.{Contains-get_or}
use Rattle.std.proofs.lemmas.Option.{same_Some, none-some, slice_get_read, slice_get_within, get_or_from_slice_get}
use Rattle.ivy_join.specs.Latest.{hash_of, latest, AreChained}

module _ (strings : List (List ℕ)) (hash : ℕ) where
  abbrev hash_at : ℕ → ℕ
  hash_at i = hash_of (get_or strings i [])

  -- where it stands, and that no later one has the hash
  pub record IsLatest (n p : ℕ) : Type 0 where
    pub below : p < n
    pub is : hash_at p ≡ hash
    pub last : (i : ℕ) → p < i → i < n → hash_at i ≢ hash

  pub latest-some : (n p : ℕ) → latest strings hash n ≡ Some p → IsLatest n p
  latest-some zero p is = absurd (none-some p is)
  latest-some (suc n) p is = elim (cases_eq (hash_at n) hash) [
    | inl same ↦
        (let at : n ≡ p = same_Some n p
        (sym (ap (λ b. if b then Some n else latest strings hash n) (eq-eqb (hash_at n) hash same)) ∙ is) in
        record {
          below = omega (arith, at);
          is = ap hash_at (sym at) ∙ same;
          last = λ i past under. absurd (omega (arith, at, past, under));
        })
    | inr apart ↦
        (let own = latest-some n p
        (sym (ap (λ b. if b then Some n else latest strings hash n) (ne_eqb (hash_at n) hash apart)) ∙ is) in
        let within = own.below in
        record {
          below = omega (arith, within);
          is = own.is;
          last = λ i past under. elim (cases_eq i n) [
            | inl here ↦ (λ same. apart (ap hash_at (sym here) ∙ same))
            | inr other ↦ own.last i past (omega (arith, under, other))
          ];
        })
  ]

  pub latest-none : (n : ℕ) → latest strings hash n ≡ None → (i : ℕ) → i < n → hash_at i ≢ hash
  latest-none zero is i under = absurd (omega (arith, under))
  latest-none (suc n) is i under = elim (cases_eq (hash_at n) hash) [
    | inl same ↦
        absurd (none-some n
        (sym is ∙ ap (λ b. if b then Some n else latest strings hash n) (eq-eqb (hash_at n) hash same)))
    | inr apart ↦ elim (cases_eq i n) [
      | inl here ↦ (λ same. apart (ap hash_at (sym here) ∙ same))
      | inr other ↦
          latest-none n
          (sym (ap (λ b. if b then Some n else latest strings hash n) (ne_eqb (hash_at n) hash apart)) ∙ is)
          i (omega (arith, under, other))
    ]
  ]

-- a further string changes nothing before it
latest-before : (strings : List (List ℕ)) (bytes : List ℕ) (hash n : ℕ) → n ≤ length strings
    → latest (strings ++ bytes ∷ []) hash n ≡ latest strings hash n
latest-before strings bytes hash zero few = refl
latest-before strings bytes hash (suc n) few =
    let at : get_or (strings ++ bytes ∷ []) n [] ≡ get_or strings n [] =
    get_or_append_left strings (bytes ∷ []) [] n (omega (arith, few)) in
    ap (λ s. if hash_of s == hash then Some n else latest (strings ++ bytes ∷ []) hash n) at
    ∙ ap (λ o. if hash_of (get_or strings n []) == hash then Some n else o)
    (latest-before strings bytes hash n (omega (arith, few)))

-- the hash of the new one has it as its last one, and the others have theirs
latest-more : (strings : List (List ℕ)) (bytes : List ℕ) (hash : ℕ)
    → latest (strings ++ bytes ∷ []) hash (suc (length strings))
    ≡ (if hash_of bytes == hash then Some (length strings) else latest strings hash (length strings))
latest-more strings bytes hash =
    ap (λ s. if hash_of s == hash then Some (length strings)
    else latest (strings ++ bytes ∷ []) hash (length strings)) (get_or_push strings bytes [] (length strings) refl)
    ∙ ap (λ o. if hash_of bytes == hash then Some (length strings) else o)
    (latest-before strings bytes hash (length strings) (omega arith))

slice_get-push_cases : {X : Type 0} (xs : List X) (y x : X) (i : ℕ) → slice_get (xs ++ y ∷ []) i ≡ Some x
    → (slice_get xs i ≡ Some x) ⊎ ((i ≡ length xs) × (y ≡ x))
slice_get-push_cases [] y x zero at = inr (refl, same_Some y x at)
slice_get-push_cases [] y x (suc i) at = absurd (none-some x at)
slice_get-push_cases (z ∷ xs) y x zero at = inl at
slice_get-push_cases (z ∷ xs) y x (suc i) at = elim (slice_get-push_cases xs y x i at) [
  | inl was ↦ inl was
  | inr is ↦ inr (ap suc is.0, is.1)
]

slice_get-push_left : {X : Type 0} (xs : List X) (y x : X) (i : ℕ) → slice_get xs i ≡ Some x
    → slice_get (xs ++ y ∷ []) i ≡ Some x
slice_get-push_left [] y x i at = absurd (none-some x at)
slice_get-push_left (z ∷ xs) y x zero at = at
slice_get-push_left (z ∷ xs) y x (suc i) at = slice_get-push_left xs y x i at

slice_get-push_end : {X : Type 0} (xs : List X) (y : X) (n : ℕ) → n ≡ length xs
    → slice_get (xs ++ y ∷ []) n ≡ Some y
slice_get-push_end [] y zero at = refl
slice_get-push_end [] y (suc n) at = absurd (omega (arith, at))
slice_get-push_end (z ∷ xs) y zero at = absurd (omega (arith, at))
slice_get-push_end (z ∷ xs) y (suc n) at = slice_get-push_end xs y n (omega (arith, at))

-- one string more
pub chained-more : (strings : List (List ℕ)) (earlier : List (Option ℕ)) (last last' : ℕ → Option ℕ)
    (bytes : List ℕ) (old : Option ℕ) → AreChained strings earlier last → old ≡ last (hash_of bytes)
    → ((hash : ℕ) → last' hash ≡ (if hash_of bytes == hash then Some (length strings) else last hash))
    → AreChained (strings ++ bytes ∷ []) (earlier ++ old ∷ []) last'
chained-more strings earlier last last' bytes old chained was now = record {
  count = length-append earlier (old ∷ []) ∙ ap (λ n. n + 1) chained.count
      ∙ sym (length-append strings (bytes ∷ []));
  back = λ i b at. elim (slice_get-push_cases strings bytes b i at) [
    | inl before ↦
        slice_get-push_left earlier old (latest strings (hash_of b) i) i (chained.back i b before)
        ∙ ap Some (sym (latest-before strings bytes (hash_of b) i
        (let l = slice_get_within strings i b before in omega (arith, l))))
    | inr here ↦
        slice_get-push_end earlier old i (here.0 ∙ sym chained.count)
        ∙ ap Some (was ∙ chained.ends (hash_of bytes)
        ∙ ap (λ s. latest strings (hash_of s) (length strings)) here.1
        ∙ ap (λ n. latest strings (hash_of b) n) (sym here.0)
        ∙ sym (latest-before strings bytes (hash_of b) i (let at_end = here.0 in omega (arith, at_end))))
  ];
  ends = λ hash. now hash
      ∙ ap (λ o. if hash_of bytes == hash then Some (length strings) else o) (chained.ends hash)
      ∙ sym (ap (latest (strings ++ bytes ∷ []) hash)
      (length-append strings (bytes ∷ []) ∙ plus-one (length strings))
      ∙ latest-more strings bytes hash);
}
  where
    plus-one : (n : ℕ) → n + 1 ≡ suc n
    plus-one n = omega arith

-- how many places are left to look at, at most
abbrev pub rank : Option ℕ → ℕ
rank None = 0
rank (Some place) = place + 1

-- looking for a string: none stands from this place on, and the next one of its hash is known
pub record LooksFrom (strings : List (List ℕ)) (bytes : List ℕ) (next : Option ℕ) (before : ℕ) : Type 0
  where
    pub few : before ≤ length strings
    pub known : next ≡ latest strings (hash_of bytes) before
    pub none : (i : ℕ) → before ≤ i → i < length strings → get_or strings i [] ≢ bytes

pub looks-first : (strings : List (List ℕ)) (earlier : List (Option ℕ)) (last : ℕ → Option ℕ)
    (bytes : List ℕ) (next : Option ℕ) → AreChained strings earlier last → next ≡ last (hash_of bytes)
    → LooksFrom strings bytes next (length strings)
looks-first strings earlier last bytes next chained is = record {
  few = omega arith;
  known = is ∙ chained.ends (hash_of bytes);
  none = λ i past under. absurd (omega (arith, past, under));
}

-- one is looked at
module _ (strings : List (List ℕ)) (earlier : List (Option ℕ)) (last : ℕ → Option ℕ) (bytes : List ℕ)
    (chained : AreChained strings earlier last) (next : Option ℕ) (place : ℕ) (is : next ≡ Some place)
    (looks : (before : ℕ) × LooksFrom strings bytes next before) where
  own : IsLatest strings (hash_of bytes) looks.0 place
  own = latest-some strings (hash_of bytes) looks.0 place (sym looks.1.known ∙ is)

  pub looks-inside : place < length strings
  looks-inside = let a = own.below in let b = looks.1.few in omega (arith, a, b)

  -- and is another one
  pub looks-on : (x : List ℕ) (after : Option ℕ) → x ≡ get_or strings place x → (x ≡ bytes → ⊥)
      → after ≡ get_or earlier place after → LooksFrom strings bytes after place
  looks-on x after read other read' =
      let inside = looks-inside in
      let count = chained.count in
      let here : slice_get strings place ≡ Some x =
      slice_get_read strings (length strings) place x refl looks-inside read in
      let at : slice_get earlier place ≡ Some after =
      slice_get_read earlier (length strings) place after (sym chained.count) looks-inside read' in
      let hash : hash_of x ≡ hash_of bytes =
      ap hash_of (sym (get_or_from_slice_get strings place x [] here)) ∙ own.is in
      record {
        few = omega (arith, inside);
        known = same_Some after (latest strings (hash_of bytes) place)
            (sym at ∙ chained.back place x here ∙ ap (λ h. Some (latest strings h place)) hash);
        none = λ i past under. elim (cases_eq i place) [
          | inl same ↦
              (λ was. other (sym (get_or_from_slice_get strings place x [] here)
              ∙ ap (λ j. get_or strings j []) (sym same) ∙ was))
          | inr apart ↦ elim (cases_lt i looks.0) [
            | inl below ↦ (λ was. own.last i (omega (arith, past, apart)) below (ap hash_of was))
            | inr not_below ↦ looks.1.none i not_below under
          ]
        ];
      }

-- at the end there is none
pub looks-none : (strings : List (List ℕ)) (bytes : List ℕ) (before : ℕ)
    → LooksFrom strings bytes None before → Contains strings bytes → ⊥
looks-none strings bytes before looks found =
    let i : ℕ = found.0 in
    let under : found.0 < length strings = found.1 in
    let is = found.2 in
    let at : get_or strings found.0 [] ≡ bytes = same_at strings i bytes under is in
    elim (cases_lt i before) [
      | inl below ↦ latest-none strings (hash_of bytes) before (sym looks.known) i below (ap hash_of at)
      | inr past ↦ looks.none i past under at
    ]
  where
    same_at : (xs : List (List ℕ)) (i : ℕ) (x : List ℕ) → i < length xs → get_or xs i x ≡ x
        → get_or xs i [] ≡ x
    same_at [] i x l is = absurd (omega (arith, l))
    same_at (y ∷ xs) zero x l is = is
    same_at (y ∷ xs) (suc i) x l is = same_at xs i x (omega (arith, l)) is

-- what is read in a place
pub looks-found : (strings : List (List ℕ)) (place : ℕ) (x bytes : List ℕ) → place < length strings
    → x ≡ get_or strings place x → x ≡ bytes → Contains strings bytes
looks-found strings place x bytes below read is =
    subst (Contains strings) (sym read ∙ is) (Contains-get_or strings place x below)

pub rank_falls : (old next : Option ℕ) (strings : List (List ℕ)) (bytes : List ℕ) (place : ℕ)
    → old ≡ Some place → LooksFrom strings bytes next place → rank next < rank old
rank_falls old None strings bytes place is looks = rw is (omega arith)
rank_falls old (Some p) strings bytes place is looks =
    let own = latest-some strings (hash_of bytes) place p (sym looks.known) in
    let below = own.below in
    rw is (omega (arith, below))

-- what a map has at a key, as it compares them
pub key-at : (key hash : ℕ) → is_eq (nat_cmp key hash) ≡ (key == hash)
key-at key hash = grind (arith, nat_tests)

pub last_more : (hash place : ℕ) (last last' : ℕ → Option ℕ) (bytes : List ℕ) (n : ℕ)
    → hash ≡ hash_of bytes → place ≡ n
    → ((q : ℕ) → last' q ≡ cond (is_eq (nat_cmp hash q)) (Some place) (last q)) → (q : ℕ)
    → last' q ≡ (if hash_of bytes == q then Some n else last q)
last_more hash place last last' bytes n same at updates q =
    updates q ∙ ap (λ b. cond b (Some place) (last q)) (key-at hash q)
    ∙ ap (λ h. if h == q then Some place else last q) same
    ∙ ap (λ m. if hash_of bytes == q then Some m else last q) at
