-- Which letters are there still once a node has taken a step. Letters under way stay, and so do
-- those put off elsewhere; a letter that was served goes.
use Rattle.std.proofs.Common.{◌≡◌, ◌≤◌, ◌<◌, ◌+◌, ℕ, zero, suc, Bool, true, List, [], ◌∷◌, ◌++◌}
use Rattle.std.proofs.Common.{length, map, slice_get, Some, option_map, refl, sym, ap, ◌∙◌, inl}
use Rattle.std.proofs.Common.{inr, arith, if◌then◌else◌, ◌==◌, ◌&&◌, cond, ◌⊎◌, subst}
use Rattle.std.specs.List.{filter, range_with_len}
use Rattle.std.proofs.lemmas.Bool.{cases_Bool, cases_eq, eq-eqb, ne_eqb}
use Rattle.std.proofs.lemmas.Option.{same_Some, none-some, slice_get-map, slice_get_within}
use Rattle.std.specs.FinSet as set
use Rattle.ivy_wire.specs.declared.Content.TheVariants as content
use Rattle.ivy_wire.specs.stated.Data.{Content, Message, Parcel}
use Rattle.ivy_model.specs.stated.Limits.{most_nodes}
use Rattle.ivy_wire.specs.stated.Posts.{parcel_to}
use Rattle.ivy_link.specs.stated.Paired.{posted}
use Rattle.ivy_pagetable.specs.declared.Entry.{Entry}
use Rattle.ivy_pagetable.specs.declared.PutOff.{PutOff}
use Rattle.ivy_pagetable.specs.stated.NodeSets.{Nodes, nodes_of}
use Rattle.ivy_pagetable.specs.stated.Entries.{put_offs}
use Rattle.ivy_coherence.specs.stated.Serving.{invalidations}
use Rattle.proof_table.specs.stated.Letters.{Letter, Net, Place, Underway, Aside, Loose, letter_of, IsAt}
use Rattle.proof_table.specs.transitions.Letters.{goes_on, installs}
use Rattle.proof_table.specs.stated.Orderly.{Key, Order, key_of}
use Rattle.proof_table.specs.transitions.TableSteps.{letter, taken}
use Rattle.proof_table.proofs.transitions.Places.{written_here, written-other, same_or_other}

-- a letter is there
abbrev pub IsThere : Net → Letter → Type 0
IsThere n l = (a : Place) × IsAt n a l

-- each letter of the net before is there still, but for those that are gone
abbrev pub Remain : Net → Net → (Letter → Type 0) → Type 0
Remain n n' Gone = (a : Place) (l : Letter) → IsAt n a l → IsThere n' l ⊎ Gone l

-- a letter with this key is there
pub record HasKey (n : Net) (k : Key) : Type 0 where
  pub at : Place
  pub letter : Letter
  pub there : IsAt n at letter
  pub key : key_of letter ≡ k

-- no letter but these
abbrev pub IsOnly : Letter → Letter → Type 0
IsOnly old l = l ≡ old

abbrev pub IsNothing : Letter → Type 0
IsNothing l = ⊥

-- no more was delivered than was posted
abbrev pub IsCounted : Net → Type 0
IsCounted n = (i j : ℕ) → n.delivered i j ≤ length (n.posted i j)

-- what stands in the first or the second of two lists
pub get_first : {X : Type 0} (xs ys : List X) (x : X) (k : ℕ) → slice_get xs k ≡ Some x
    → slice_get (xs ++ ys) k ≡ Some x
get_first [] ys x k h = absurd (none-some x h)
get_first (z ∷ xs) ys x zero h = h
get_first (z ∷ xs) ys x (suc k) h = get_first xs ys x k h

pub get_second : {X : Type 0} (xs ys : List X) (k j : ℕ) → j ≡ length xs + k
    → slice_get (xs ++ ys) j ≡ slice_get ys k
get_second [] ys k j e = ap (slice_get ys) (let f : j ≡ 0 + k = e in omega (arith, f))
get_second (z ∷ xs) ys k zero e = absurd (let f : 0 ≡ suc (length xs) + k = e in omega (arith, f))
get_second (z ∷ xs) ys k (suc j) e =
    get_second xs ys k j (let f : suc j ≡ suc (length xs) + k = e in omega (arith, f))

longer : {X : Type 0} (xs ys : List X) → length xs ≤ length (xs ++ ys)
longer [] ys = omega arith
longer (z ∷ xs) ys = let f : length xs ≤ length (xs ++ ys) = longer xs ys in omega (arith, f)

module _ (n : Net) (x p : ℕ) (z : Entry) (left : List Letter) (parcels : List Parcel) where
  abbrev next : Net
  next = goes_on n x p z left parcels

  pub still_counted : IsCounted n → IsCounted next
  still_counted counted i j =
      let f : n.delivered i j ≤ length (n.posted i j) = counted i j in
      let g : length (n.posted i j) ≤ length (n.posted i j ++ posted i j parcels) =
      longer (n.posted i j) (posted i j parcels) in
      omega (arith, f, g)

  -- a parcel is under way
  pub posted_there : IsCounted n → (i j k : ℕ) (m : Message)
      → slice_get (posted i j parcels) k ≡ Some m
      → IsAt next (Underway i j (length (n.posted i j) + k))
      (record { source = i; dest = j; message = m })
  posted_there counted i j k m h = (
    (let f : n.delivered i j ≤ length (n.posted i j) = counted i j in omega (arith, f)),
    get_second (n.posted i j) (posted i j parcels) k (length (n.posted i j) + k) refl ∙ h,
    refl,
    refl,
  )

  -- what becomes of the letters put off at the entry, and of the loose ones
  aside_remains : (Gone : Letter → Type 0)
      → ((j : ℕ) (r : PutOff) → slice_get (put_offs (n.entry x p)) j ≡ Some r
      → IsThere next (letter_of x p r))
      → (i q j : ℕ) (l : Letter) → IsAt n (Aside i q j) l → IsThere next l ⊎ Gone l
  aside_remains Gone aside i q j l at = elim (same_or_other i q x p) [
    | inr other ↦
        inl (
          Aside i q j,
          (
            at.0,
            ap (λ e. slice_get (put_offs e) j) (written-other n.entry x p z i q other) ∙ at.1,
            at.2,
          ),
        )
    | inl same ↦ inl (subst (IsThere next)
        (ap (λ a. letter_of a p at.0) (sym same.0) ∙ ap (λ b. letter_of i b at.0) (sym same.1)
        ∙ sym at.2)
        (aside j at.0
        (ap (λ a. slice_get (put_offs (n.entry a p)) j) (sym same.0)
        ∙ ap (λ b. slice_get (put_offs (n.entry i b)) j) (sym same.1) ∙ at.1)))
  ]

  step_remains : (Gone : Letter → Type 0)
      → ((j : ℕ) (r : PutOff) → slice_get (put_offs (n.entry x p)) j ≡ Some r
      → IsThere next (letter_of x p r))
      → ((j : ℕ) (l : Letter) → slice_get n.loose j ≡ Some l → IsThere next l ⊎ Gone l)
      → Remain n next Gone
  step_remains Gone aside loose (Underway i j b) l at =
      inl (
        Underway i j b,
        (at.0, get_first (n.posted i j) (posted i j parcels) l.message b at.1, at.2, at.3),
      )
  step_remains Gone aside loose (Aside i q j) l at = aside_remains Gone aside i q j l at
  step_remains Gone aside loose (Loose j) l at = loose j l at

-- the same is put off at an entry, and maybe more
abbrev pub StaysPutOff : Entry → Entry → Type 0
StaysPutOff e z =
    (j : ℕ) (r : PutOff) → slice_get (put_offs e) j ≡ Some r → slice_get (put_offs z) j ≡ Some r

module _ (n : Net) (x p : ℕ) (e z : Entry) (left : List Letter) (parcels : List Parcel)
    (is : n.entry x p ≡ e) where
  -- the entry keeps what is put off, or lets it loose
  aside_stays : StaysPutOff e z → (j : ℕ) (r : PutOff)
      → slice_get (put_offs (n.entry x p)) j ≡ Some r
      → IsThere (goes_on n x p z left parcels) (letter_of x p r)
  aside_stays same j r h = (
    Aside x p j,
    (
      r,
      ap (λ y. slice_get (put_offs y) j) (written_here n.entry x p z x p refl refl)
          ∙ same j r (ap (λ y. slice_get (put_offs y) j) (sym is) ∙ h),
      refl,
    ),
  )

  aside_freed : left ≡ map (letter_of x p) (put_offs e) → (j : ℕ) (r : PutOff)
      → slice_get (put_offs (n.entry x p)) j ≡ Some r
      → IsThere (goes_on n x p z left parcels) (letter_of x p r)
  aside_freed freed j r h = (
    Loose j,
    ap (λ v. slice_get v j) freed ∙ slice_get-map (letter_of x p) (put_offs e) j
        ∙ ap (option_map (letter_of x p)) (ap (λ y. slice_get (put_offs y) j) (sym is) ∙ h),
  )

  -- the first of the loose letters is served, and the others stay
  rest_stays : (old : Letter) → n.loose ≡ old ∷ left → (j : ℕ) (l : Letter)
      → slice_get n.loose j ≡ Some l → IsThere (goes_on n x p z left parcels) l ⊎ IsOnly old l
  rest_stays old loose j l h = at_number j (ap (λ v. slice_get v j) (sym loose) ∙ h)
    where
      at_number : (j : ℕ) → slice_get (old ∷ left) j ≡ Some l
          → IsThere (goes_on n x p z left parcels) l ⊎ IsOnly old l
      at_number zero g = inr (sym (same_Some old l g))
      at_number (suc j) g = inl (Loose j, g)

  pub served_remain : (old : Letter) → n.loose ≡ old ∷ left → StaysPutOff e z
      → Remain n (goes_on n x p z left parcels) (IsOnly old)
  served_remain old loose same =
      step_remains n x p z left parcels (IsOnly old) (aside_stays same) (rest_stays old loose)

  -- none was loose
  pub begun_remain : n.loose ≡ [] → StaysPutOff e z
      → Remain n (goes_on n x p z left parcels) IsNothing
  begun_remain none same =
      step_remains n x p z left parcels IsNothing (aside_stays same)
      (λ j l h. absurd (none-some l (ap (λ v. slice_get v j) (sym none) ∙ h)))

  -- the one loose letter is served, and what was put off is loose
  pub freed_remain : (old : Letter) → n.loose ≡ old ∷ [] → left ≡ map (letter_of x p) (put_offs e)
      → Remain n (goes_on n x p z left parcels) (IsOnly old)
  freed_remain old loose freed =
      step_remains n x p z left parcels (IsOnly old) (aside_freed freed)
      (λ j l h. at_number j l (ap (λ v. slice_get v j) (sym loose) ∙ h))
    where
      at_number : (j : ℕ) (l : Letter) → slice_get (old ∷ []) j ≡ Some l
          → IsThere (goes_on n x p z left parcels) l ⊎ IsOnly old l
      at_number zero l g = inr (sym (same_Some old l g))
      at_number (suc j) l g = absurd (none-some l g)

-- bytes are installed
pub installed_remain : (n : Net) (x p : ℕ) (bytes : List ℕ)
    → Remain n (installs n x p bytes) IsNothing
installed_remain n x p bytes (Underway i j k) l at = inl (Underway i j k, at)
installed_remain n x p bytes (Aside i q k) l at = inl (Aside i q k, at)
installed_remain n x p bytes (Loose k) l at = inl (Loose k, at)

-- what remains after one step and after the next
pub then_remain : (n n' n'' : Net) (Gone : Letter → Type 0) → Remain n n' Gone
    → Remain n' n'' IsNothing → Remain n n'' Gone
then_remain n n' n'' Gone before after a l at = elim (before a l at) [
  | inr gone ↦ inr gone
  | inl h ↦ elim (after h.0 l h.1) [ inl there ↦ inl there | inr none ↦ absurd none ]
]

-- a letter is taken
module _ (n : Net) (s x : ℕ) (m : Message)
    (first : slice_get (n.posted s x) (n.delivered s x) ≡ Some m) (none : n.loose ≡ []) where
  abbrev after_taking : Net
  after_taking = taken n s x m

  underway_taken : (i j b : ℕ) (l : Letter) → IsAt n (Underway i j b) l → IsThere after_taking l
  underway_taken i j b l at = elim (same_or_other i j s x) [
    | inr other ↦ (
      Underway i j b,
      (
        subst (λ d. d ≤ b)
            (sym (written-other (λ u v. n.delivered i j) s x (n.delivered i j + 1) i j other)) at.0,
        at.1,
        at.2,
        at.3,
      ),
    )
    | inl same ↦ elim (cases_eq b (n.delivered i j)) [
      | inl it ↦ (
        Loose 0,
        (
            let message : Some m ≡ Some l.message =
            sym first ∙ ap (λ a. slice_get (n.posted a x) (n.delivered a x)) (sym same.0)
            ∙ ap (λ a. slice_get (n.posted i a) (n.delivered i a)) (sym same.1)
            ∙ ap (λ d. slice_get (n.posted i j) d) (sym it) ∙ at.1 in
            ap Some (ap (λ v. record { source = s; dest = x; message = v })
            (same_Some m l.message message)
            ∙ ap (λ v. record { source = v; dest = x; message = l.message }) (sym same.0 ∙ sym at.2)
            ∙ ap (λ v. record { source = l.source; dest = v; message = l.message })
            (sym same.1 ∙ sym at.3))
            ),
      )
      | inr ne ↦ (
        Underway i j b,
        (
          let now : after_taking.delivered i j ≡ n.delivered i j + 1 =
              written_here (λ u v. n.delivered i j) s x (n.delivered i j + 1) i j same.0 same.1 in
              let low : n.delivered i j ≤ b = at.0 in
              omega (arith, now, low, ne),
          at.1,
          at.2,
          at.3,
        ),
      )
    ]
  ]

  pub taken_counted : IsCounted n → IsCounted after_taking
  taken_counted counted i j = elim (same_or_other i j s x) [
    | inl same ↦ (
        let within : n.delivered s x < length (n.posted s x) =
        slice_get_within (n.posted s x) (n.delivered s x) m first in
        let now : after_taking.delivered i j ≡ n.delivered i j + 1 =
        written_here (λ a b. n.delivered i j) s x (n.delivered i j + 1) i j same.0 same.1 in
        let old : n.delivered i j ≡ n.delivered s x =
        ap (λ a. n.delivered a j) same.0 ∙ ap (n.delivered s) same.1 in
        let long : length (n.posted i j) ≡ length (n.posted s x) =
        ap (λ a. length (n.posted a j)) same.0 ∙ ap (λ b. length (n.posted s b)) same.1 in
        omega (arith, within, now, old, long)
        )
    | inr other ↦ (
        let now : after_taking.delivered i j ≡ n.delivered i j =
        written-other (λ a b. n.delivered i j) s x (n.delivered i j + 1) i j other in
        let f : n.delivered i j ≤ length (n.posted i j) = counted i j in
        omega (arith, now, f)
        )
  ]

  pub taken_remain : Remain n after_taking IsNothing
  taken_remain (Underway i j b) l at = inl (underway_taken i j b l at)
  taken_remain (Aside i q b) l at = inl (Aside i q b, at)
  taken_remain (Loose b) l at = absurd (none-some l (ap (λ v. slice_get v b) (sym none) ∙ at))

-- one letter is posted
pub letter_there : (n : Net) (x p : ℕ) (z : Entry) (left : List Letter) (dest origin call : ℕ)
    (body : Content) → IsCounted n
    → IsThere (goes_on n x p z left (parcel_to x dest origin call body ∷ []))
    (letter x dest origin call body)
letter_there n x p z left dest origin call body counted = (
  Underway x dest (length (n.posted x dest) + 0),
  posted_there n x p z left (parcel_to x dest origin call body ∷ []) counted x dest 0
      (record { origin = origin; call = call; content = body }) only,
)
  where
    only : slice_get (posted x dest (parcel_to x dest origin call body ∷ [])) 0
        ≡ Some (record { origin = origin; call = call; content = body })
    only = ap
        (λ b. slice_get
        (if b && dest == dest then record { origin = origin; call = call; content = body } ∷ []
        else []) 0) (eq-eqb x x refl)
        ∙ ap (λ b. slice_get
        (if b then record { origin = origin; call = call; content = body } ∷ [] else []) 0)
        (eq-eqb dest dest refl)

pub one_there : (n : Net) (x p : ℕ) (z : Entry) (left : List Letter) (dest origin call : ℕ)
    (body : Content) → IsCounted n
    → HasKey (goes_on n x p z left (parcel_to x dest origin call body ∷ []))
    (key_of (letter x dest origin call body))
one_there n x p z left dest origin call body counted =
    let f = letter_there n x p z left dest origin call body counted in
    record { at = f.0; letter = letter x dest origin call body; there = f.1; key = refl }

-- the order to give a copy up, to one node
abbrev order : ℕ → ℕ → ℕ → Message
order x p call = record { origin = x; call = call; content = content.Inval p }

abbrev order_to : ℕ → ℕ → ℕ → ℕ → Parcel
order_to x p call node = parcel_to x node x call (content.Inval p)

-- among the orders to some of the nodes of a range
order_from : (x p call : ℕ) (test : ℕ → Bool) (first most target : ℕ) → first ≤ target
    → target < first + most → test target ≡ true
    → (k : ℕ)
    × (slice_get
    (posted x target (map (order_to x p call) (filter test (range_with_len first most)))) k
    ≡ Some (order x p call))
order_from x p call test first zero target low high has = absurd (omega (arith, low, high))
order_from x p call test first (suc most) target low high has =
    elim (cases_eq first target) [
      | inl same ↦ (
        0,
        passes (ap test same ∙ has) 0
            (λ ps. ap
            (λ b. slice_get
            (if b && first == target then order x p call ∷ posted x target ps
            else posted x target ps) 0) (eq-eqb x x refl)
            ∙ ap (λ b. slice_get
            (if b then order x p call ∷ posted x target ps else posted x target ps) 0)
            (eq-eqb first target same)),
      )
      | inr ne ↦ (
          let later : (k : ℕ)
          × (slice_get (posted x target (map (order_to x p call) rest)) k
          ≡ Some (order x p call))
          = order_from x p call test (first + 1) most target (omega (arith, low, ne))
          (omega (arith, high)) has in (
            later.0,
            elim (cases_Bool (test first)) [
              | inr fails ↦
                  ap (λ b. slice_get
                  (posted x target (map (order_to x p call) (cond b (first ∷ rest) rest))) later.0)
                  fails ∙ later.1
              | inl does ↦
                  ap (λ b. slice_get
                  (posted x target (map (order_to x p call) (cond b (first ∷ rest) rest))) later.0)
                  does
                  ∙ ap (λ b. slice_get
                  (if b && first == target
                  then order x p call ∷ posted x target (map (order_to x p call) rest)
                  else posted x target (map (order_to x p call) rest)) later.0)
                  (eq-eqb x x refl)
                  ∙ ap (λ b. slice_get
                  (if b then order x p call ∷ posted x target (map (order_to x p call) rest)
                  else posted x target (map (order_to x p call) rest)) later.0)
                  (ne_eqb first target ne)
                  ∙ later.1
            ],
          )
          )
    ]
  where
    rest : List ℕ
    rest = filter test (range_with_len (first + 1) most)

    passes : test first ≡ true → (k : ℕ)
        → ((ps : List Parcel)
        → slice_get (posted x target (order_to x p call first ∷ ps)) k ≡ Some (order x p call))
        → slice_get
        (posted x target
        (map (order_to x p call) (filter test (range_with_len first (suc most))))) k
        ≡ Some (order x p call)
    passes does k all =
        ap (λ b. slice_get (posted x target (map (order_to x p call) (cond b (first ∷ rest) rest)))
        k) does ∙ all (map (order_to x p call) rest)

-- orders are posted: to each of these nodes
pub orders_there : (n : Net) (x p : ℕ) (z : Entry) (left : List Letter) (call : ℕ) (nodes : Nodes)
    (target : ℕ) → IsCounted n → target < most_nodes → set.contains nodes target ≡ true
    → HasKey (goes_on n x p z left (invalidations x p call nodes)) (Order x target p)
unfolding nodes_of
orders_there n x p z left call nodes target counted low has =
    let f = order_from x p call (set.contains nodes) 0 most_nodes target (omega arith)
    (omega (arith, low)) has in
    record {
      at = Underway x target (length (n.posted x target) + f.0);
      letter = letter x target x call (content.Inval p);
      there = posted_there n x p z left (invalidations x p call nodes) counted x target f.0
          (order x p call) f.1;
      key = refl;
    }
