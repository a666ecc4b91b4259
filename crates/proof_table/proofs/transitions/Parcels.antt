-- The steps by which a node writes an entry, takes a loose letter and posts parcels, as steps of
-- nets.
use Rattle.std.proofs.Common.{◌≡◌, ◌≤◌, ◌+◌, ℕ, zero, suc, Bool, true, false, List, [], ◌∷◌, length, map, slice_get, Some, refl, sym, ap, ◌∙◌, inl, inr, arith, if◌then◌else◌, ◌==◌, ◌&&◌, cond}
use Rattle.std.specs.List.{filter, range_with_len}
use Rattle.std.proofs.lemmas.Bool.{cases_Bool, and_parts, eqb-true}
use Rattle.std.proofs.lemmas.Option.{same_Some, none-some}
use Rattle.std.specs.FinSet as set
use Rattle.ivy_wire.specs.declared.Content.TheVariants as content
use Rattle.ivy_wire.specs.stated.Data.{Content, Message, Parcel}
use Rattle.ivy_model.specs.stated.Limits.{most_nodes}
use Rattle.ivy_wire.specs.stated.Posts.{parcel_to}
use Rattle.ivy_link.specs.stated.Paired.{posted}
use Rattle.ivy_pagetable.specs.declared.Entry.{Entry}
use Rattle.ivy_pagetable.specs.declared.PutOff.{PutOff}
use Rattle.ivy_pagetable.specs.stated.NodeSets.{Nodes, nodes_of}
use Rattle.ivy_pagetable.specs.stated.Entries.{put_offs}
use Rattle.ivy_coherence.specs.stated.Serving.{invalidations}
use Rattle.proof_table.specs.stated.Letters.{Letter, Net, Place, Underway, Aside, Loose, letter_of}
use Rattle.proof_table.specs.transitions.Letters.{goes_on}
use Rattle.proof_table.specs.transitions.TableSteps.{letter}
use Rattle.proof_table.proofs.transitions.Places.{get_map, written_here, written-other, same_or_other, served, freed, IsOld, AreTold, told_letters}
use Rattle.proof_table.proofs.transitions.NetSteps.{IsStep}

-- the place and the letter are these
abbrev pub IsThe : Place → Letter → Place → Letter → Type 0
IsThe at l a m = (a ≡ at) × (m ≡ l)

-- no letter is new
abbrev pub IsNone : Place → Letter → Type 0
IsNone a l = ⊥

-- the order to one of these nodes to give its copy up
abbrev pub IsOrder : Net → ℕ → ℕ → ℕ → Nodes → Place → Letter → Type 0
IsOrder n x p call nodes a l =
    (target : ℕ) × (set.contains nodes target ≡ true)
    × (a ≡ Underway x target (length (n.posted x target)))
    × (l ≡ letter x target x call (content.Inval p))

get_if : {X : Type 0} (b : Bool) (y x : X) (k : ℕ) → slice_get (if b then y ∷ [] else []) k ≡ Some x
    → (b ≡ true) × (k ≡ 0) × (x ≡ y)
get_if true y x zero h = (refl, refl, sym (same_Some y x h))
get_if true y x (suc k) h = absurd (none-some x h)
get_if false y x k h = absurd (none-some x h)

-- one parcel is posted
one_posted : (p : Parcel) (i j k : ℕ) (m : Message) → slice_get (posted i j (p ∷ [])) k ≡ Some m
    → (p.source ≡ i) × (p.dest ≡ j) × (k ≡ 0) × (m ≡ p.message)
one_posted p i j k m h =
    let f : ((p.source == i && p.dest == j) ≡ true) × (k ≡ 0) × (m ≡ p.message) =
    get_if (p.source == i && p.dest == j) p.message m k h in
    let g = and_parts (p.source == i) (p.dest == j) f.0 in
    (eqb-true p.source i g.0, eqb-true p.dest j g.1, f.1, f.2)

-- a parcel of the orders to some of the nodes from a first one on
abbrev IsOrderFrom : ℕ → ℕ → ℕ → (ℕ → Bool) → ℕ → ℕ → ℕ → ℕ → Message → Type 0
IsOrderFrom x p call test first i j k m =
    (x ≡ i) × (first ≤ j) × (test j ≡ true) × (k ≡ 0)
    × (m ≡ record { origin = x; call = call; content = content.Inval p })

module _ (x p call : ℕ) (test : ℕ → Bool) (first i j : ℕ) (m : Message) (rest : List Message)
    (later : (k : ℕ) → slice_get rest k ≡ Some m → IsOrderFrom x p call test (first + 1) i j k m)
    (yes : test first ≡ true) where
  first_posted : (k : ℕ) → x ≡ i → first ≡ j
      → slice_get (record { origin = x; call = call; content = content.Inval p } ∷ rest) k ≡ Some m
      → IsOrderFrom x p call test first i j k m
  first_posted zero a b g =
      (a, omega (arith, b), ap test (sym b) ∙ yes, refl, sym (same_Some _ m g))
  first_posted (suc k) a b g =
      (let f : first + 1 ≤ j = (later k g).1 in absurd (omega (arith, f, b)))

  with_first : (k : ℕ)
      → slice_get
      (if x == i && first == j
      then record { origin = x; call = call; content = content.Inval p } ∷ rest else rest) k
      ≡ Some m
      → IsOrderFrom x p call test first i j k m
  with_first k g = elim (cases_Bool (x == i && first == j)) [
    | inl y ↦ (
        let f = and_parts (x == i) (first == j) y in
        first_posted k (eqb-true x i f.0) (eqb-true first j f.1)
        (ap (λ b. slice_get
        (if b then record { origin = x; call = call; content = content.Inval p } ∷ rest
        else rest) k) (sym y) ∙ g)
        )
    | inr y ↦ (
        let f = later k
        (ap (λ b. slice_get
        (if b then record { origin = x; call = call; content = content.Inval p } ∷ rest
        else rest) k) (sym y) ∙ g) in
        (f.0, (let q : first + 1 ≤ j = f.1 in omega (arith, q)), f.2, f.3, f.4)
        )
  ]

abbrev order_to : ℕ → ℕ → ℕ → ℕ → Parcel
order_to x p call node = parcel_to x node x call (content.Inval p)

-- of the orders to some of the nodes of a range at most one goes to each node
posted_from : (x p call : ℕ) (test : ℕ → Bool) (first most i j : ℕ) (m : Message) (k : ℕ)
    → slice_get (posted i j (map (order_to x p call) (filter test (range_with_len first most)))) k
    ≡ Some m → IsOrderFrom x p call test first i j k m
posted_from x p call test first zero i j m k h = absurd (none-some m h)
posted_from x p call test first (suc most) i j m k h =
    let rest : List ℕ = filter test (range_with_len (first + 1) most) in
    elim (cases_Bool (test first)) [
      | inr fails ↦ (
          let f : IsOrderFrom x p call test (first + 1) i j k m =
          posted_from x p call test (first + 1) most i j m k
          (ap (λ b. slice_get (posted i j (map (order_to x p call) (cond b (first ∷ rest) rest))) k)
          (sym fails) ∙ h) in
          (f.0, (let g : first + 1 ≤ j = f.1 in omega (arith, g)), f.2, f.3, f.4)
          )
      | inl passes ↦
          with_first x p call test first i j m (posted i j (map (order_to x p call) rest))
          (posted_from x p call test (first + 1) most i j m) passes k
          (ap (λ b. slice_get (posted i j (map (order_to x p call) (cond b (first ∷ rest) rest))) k)
          (sym passes) ∙ h)
    ]

pub orders_posted : (x p call : ℕ) (nodes : Nodes) (i j k : ℕ) (m : Message)
    → slice_get (posted i j (invalidations x p call nodes)) k ≡ Some m
    → (x ≡ i) × (set.contains nodes j ≡ true) × (k ≡ 0)
    × (m ≡ record { origin = x; call = call; content = content.Inval p })
unfolding nodes_of
orders_posted x p call nodes i j k m h =
    let f = posted_from x p call (set.contains nodes) 0 most_nodes i j m k h in
    (f.0, f.2, f.3, f.4)

-- the place of the one letter that is posted to a node
one_place : (n : Net) (x dest origin call : ℕ) (body : Content) (i j k : ℕ) (m : Message)
    → (x ≡ i) × (dest ≡ j) × (k ≡ 0) × (m ≡ record { origin = origin; call = call; content = body })
    → IsThe (Underway x dest (length (n.posted x dest))) (letter x dest origin call body)
    (Underway i j (length (n.posted i j) + k)) (record { source = i; dest = j; message = m })
one_place n x dest origin call body i j k m h = (
  ap (λ a. Underway a j (length (n.posted a j) + k)) (sym h.0)
      ∙ ap (λ b. Underway x b (length (n.posted x b) + k)) (sym h.1)
      ∙ ap (Underway x dest) (let f : k ≡ 0 = h.2 in omega (arith, f)),
  ap (λ a. record { source = a; dest = j; message = m }) (sym h.0)
      ∙ ap (λ b. record { source = x; dest = b; message = m }) (sym h.1)
      ∙ ap (λ v. record { source = x; dest = dest; message = v }) h.3,
)

module _ (n : Net) (x p : ℕ) (e z : Entry) where
  -- what the first loose letter leaves
  pub rest_told : (l : Letter) (rest : List Letter) → n.loose ≡ l ∷ rest → (k : ℕ) (m : Letter)
      → slice_get rest k ≡ Some m → IsOld n served (Loose k) m
  rest_told l rest loose k m h =
      (Loose (suc k), ap (λ v. slice_get v (suc k)) loose ∙ h, refl, λ same. cc)

  -- what was put off stays so
  pub aside_still : n.entry x p ≡ e
      → ((k : ℕ) (q : PutOff) → slice_get (put_offs z) k ≡ Some q
      → slice_get (put_offs e) k ≡ Some q)
      → (k : ℕ) (q : PutOff) → slice_get (put_offs z) k ≡ Some q
      → IsOld n served (Aside x p k) (letter_of x p q)
  aside_still is same k q h =
      (Aside x p k, (q, ap (λ y. slice_get (put_offs y) k) is ∙ same k q h, refl), refl, λ b. cc)

  pub is_step : (left : List Letter) (parcels : List Parcel) (now : Place → Place)
      (New : Place → Letter → Type 0)
      → n.entry x p ≡ e → AreTold n x p z left parcels now New
      → IsStep n (goes_on n x p z left parcels) x p e z now New
  is_step left parcels now New is t = record {
    before = is;
    after = written_here n.entry x p z x p refl refl;
    elsewhere =
        λ i q. elim (same_or_other i q x p) [
          | inl same ↦ inl same
          | inr other ↦
              inr (other, written-other n.entry x p z i q other)
        ];
    letters = told_letters n x p z left parcels now New t;
  }

  -- one letter is served, and one is posted
  pub answer_step : (l : Letter) (rest : List Letter) (dest origin call : ℕ) (body : Content)
      → n.entry x p ≡ e → n.loose ≡ l ∷ rest
      → ((k : ℕ) (q : PutOff) → slice_get (put_offs z) k ≡ Some q
      → slice_get (put_offs e) k ≡ Some q)
      → IsStep n (goes_on n x p z rest (parcel_to x dest origin call body ∷ [])) x p e z served
      (IsThe (Underway x dest (length (n.posted x dest))) (letter x dest origin call body))
  answer_step l rest dest origin call body is loose same =
      is_step rest (parcel_to x dest origin call body ∷ []) served
      (IsThe (Underway x dest (length (n.posted x dest))) (letter x dest origin call body)) is
      (record {
        underway = λ i j k. refl;
        elsewhere = λ i q k other. refl;
        aside = λ k q h. inl (aside_still is same k q h);
        loose = rest_told l rest loose;
        posts = λ i j k m h. one_place n x dest origin call body i j k m
            (one_posted (parcel_to x dest origin call body) i j k m h);
      })

  -- a word begins to wait, and a letter is posted
  pub ask_step : (dest origin call : ℕ) (body : Content) → n.entry x p ≡ e → n.loose ≡ []
      → ((k : ℕ) (q : PutOff) → slice_get (put_offs z) k ≡ Some q
      → slice_get (put_offs e) k ≡ Some q)
      → IsStep n (goes_on n x p z [] (parcel_to x dest origin call body ∷ [])) x p e z served
      (IsThe (Underway x dest (length (n.posted x dest))) (letter x dest origin call body))
  ask_step dest origin call body is loose same =
      is_step [] (parcel_to x dest origin call body ∷ []) served
      (IsThe (Underway x dest (length (n.posted x dest))) (letter x dest origin call body)) is
      (record {
        underway = λ i j k. refl;
        elsewhere = λ i q k other. refl;
        aside = λ k q h. inl (aside_still is same k q h);
        loose = λ k m h. absurd (none-some m h);
        posts = λ i j k m h. one_place n x dest origin call body i j k m
            (one_posted (parcel_to x dest origin call body) i j k m h);
      })

  -- orders to give copies up are posted
  pub orders_step : (call : ℕ) (nodes : Nodes) → n.entry x p ≡ e
      → ((k : ℕ) (q : PutOff) → slice_get (put_offs z) k ≡ Some q
      → slice_get (put_offs e) k ≡ Some q)
      → IsStep n (goes_on n x p z [] (invalidations x p call nodes)) x p e z served
      (IsOrder n x p call nodes)
  orders_step call nodes is same =
      is_step [] (invalidations x p call nodes) served (IsOrder n x p call nodes) is (record {
        underway = λ i j k. refl;
        elsewhere = λ i q k other. refl;
        aside = λ k q h. inl (aside_still is same k q h);
        loose = λ k m h. absurd (none-some m h);
        posts = λ i j k m h. (
            let f = orders_posted x p call nodes i j k m h in
            let g : IsThe (Underway x j (length (n.posted x j))) (letter x j x call (content.Inval p))
            (Underway i j (length (n.posted i j) + k))
            (record { source = i; dest = j; message = m })
            = one_place n x j x call (content.Inval p) i j k m (f.0, refl, f.2, f.3) in
            (j, f.1, g.0, g.1)
            );
      })

  -- what was put off is loose
  pub free_step : (put_off : List PutOff) → n.entry x p ≡ e → put_offs e ≡ put_off → put_offs z ≡ []
      → IsStep n (goes_on n x p z (map (letter_of x p) put_off) []) x p e z (freed x p) IsNone
  free_step put_off is same none =
      is_step (map (letter_of x p) put_off) [] (freed x p) IsNone is (record {
        underway = λ i j k. refl;
        elsewhere = λ i q k other. written-other (λ a b. Aside a b k) x p (Loose k) i q other;
        aside = λ k q h. absurd (none-some q (ap (λ v. slice_get v k) (sym none) ∙ h));
        loose = λ k l h. (
            let f : (q : PutOff) × (slice_get put_off k ≡ Some q) × (l ≡ letter_of x p q) =
            get_map (letter_of x p) put_off l k h in (
              Aside x p k,
              (f.0, ap (λ y. slice_get (put_offs y) k) is ∙ ap (λ v. slice_get v k) same ∙ f.1, f.2),
              sym (written_here (λ a b. Aside a b k) x p (Loose k) x p refl refl),
              λ b. cc,
            )
            );
        posts = λ i j k m h. absurd (none-some m h);
      })

  -- all stays as it is put off
  pub stay_step : n.entry x p ≡ e
      → ((k : ℕ) (q : PutOff) → slice_get (put_offs z) k ≡ Some q
      → slice_get (put_offs e) k ≡ Some q)
      → IsStep n (goes_on n x p z [] []) x p e z served IsNone
  stay_step is same = is_step [] [] served IsNone is (record {
    underway = λ i j k. refl;
    elsewhere = λ i q k other. refl;
    aside = λ k q h. inl (aside_still is same k q h);
    loose = λ k m h. absurd (none-some m h);
    posts = λ i j k m h. absurd (none-some m h);
  })
