-- The messages of the heap under way after a step of the FIFO world, told from those before it.
use Rattle.std.proofs.Common.{◌≡◌, ◌≢◌, ◌≤◌, ℕ, ◌+◌, Bool, true, false, not, List, [], ◌∷◌, ◌++◌}
use Rattle.std.proofs.Common.{length, drop, slice_get, Some, refl, sym, ap, ◌∙◌, subst, inl, inr}
use Rattle.std.proofs.Common.{arith, eq-eqb, if◌then◌else◌, ◌==◌, ◌&&◌}
use Rattle.std.specs.Prelude.{All}
use Rattle.std.proofs.lemmas.Bool.{and_parts, cases_eq, eqb-true, ne_eqb}
use Rattle.std.proofs.lemmas.List.{append-nil, drop-append-le}
use Rattle.std.proofs.lemmas.List.Elements.{All-weaker, filter-append}
use Rattle.std.proofs.lemmas.Option.{slice_get_within}
use Rattle.ivy_wire.specs.stated.Data.{Content, Message, Parcel}
use Rattle.ivy_wire.specs.stated.Posts.{parcel_to}
use Rattle.ivy_link.specs.stated.Paired.{posted, extended}
use Rattle.ivy_moves.specs.stated.Cores.{Core}
use Rattle.ivy_moves.specs.stated.FifoWorld.{FifoWorld, Delivers, one_more}
use Rattle.ivy_memory.proofs.serving.Pages.{is_of_pages, IsOfPages}
use Rattle.proof_worlds.specs.stated.HeapRequests.{about_heap, heap_way, call_message}
use Rattle.proof_worlds.proofs.refinement.Filtered.{filter_none, first_left, posted-filter}

-- no more was delivered than was posted
abbrev pub IsWithin : {C : Type 0} → FifoWorld C → Type 0
IsWithin o = (i j : ℕ) → o.delivered i j ≤ length (o.posted i j)

-- where a message goes
pub goes_there : (i j origin number : ℕ) (body : Content)
    → posted i j (parcel_to i j origin number body ∷ []) ≡ call_message origin number body ∷ []
goes_there i j origin number body =
    ap (λ b. if b && j == j then call_message origin number body ∷ [] else []) (eq-eqb i i refl)
    ∙ ap (λ b. if b then call_message origin number body ∷ [] else []) (eq-eqb j j refl)

-- and where it does not go
not_both : (a b i j : ℕ) → (a ≡ i → b ≢ j) → (a == i && b == j) ≡ false
not_both a b i j apart = elim (cases_eq a i) [
  | inl same ↦ ap (λ t. t && b == j) (eq-eqb a i same) ∙ ne_eqb b j (apart same)
  | inr ne ↦ ap (λ t. t && b == j) (ne_eqb a i ne)
]

pub goes_elsewhere : (a b i j origin number : ℕ) (body : Content) → (a ≡ i → b ≢ j)
    → posted i j (parcel_to a b origin number body ∷ []) ≡ []
goes_elsewhere a b i j origin number body apart =
    ap (λ t. if t then call_message origin number body ∷ [] else []) (not_both a b i j apart)

-- a message of the heap that goes there is one of these
pub heap_there : (i j origin number : ℕ) (body : Content) → is_of_pages body ≡ false
    → about_heap (posted i j (parcel_to i j origin number body ∷ []))
    ≡ call_message origin number body ∷ []
heap_there i j origin number body heap =
    ap about_heap (goes_there i j origin number body)
    ∙ ap (λ b. if not b then call_message origin number body ∷ [] else []) heap

pub heap_elsewhere : (a b i j origin number : ℕ) (body : Content) → (a ≡ i → b ≢ j)
    → about_heap (posted i j (parcel_to a b origin number body ∷ [])) ≡ []
heap_elsewhere a b i j origin number body apart =
    ap about_heap (goes_elsewhere a b i j origin number body apart)

-- one about a page is none of these
pub heap_quiet : (i j : ℕ) (ps : List Parcel) → All IsOfPages ps → about_heap (posted i j ps) ≡ []
heap_quiet i j ps pages =
    posted-filter (λ m. not (is_of_pages m.content)) i j ps
    ∙ ap (posted i j)
    (filter_none (λ (p : Parcel). not (is_of_pages p.message.content)) ps
    (All-weaker IsOfPages _ (λ p about. ap not about) ps pages))

-- what is posted comes after what is under way
way_on : (sent more : List Message) (d : ℕ) → d ≤ length sent
    → about_heap (drop d (sent ++ more)) ≡ about_heap (drop d sent) ++ about_heap more
way_on sent more d within =
    ap about_heap (drop-append-le d sent more within)
    ∙ filter-append (λ m. not (is_of_pages m.content)) (drop d sent) more

way_since : {C : Type 0} (o o' : FifoWorld C) (delivered : ℕ → ℕ → ℕ) (ps : List Parcel)
    → o'.posted ≡ extended o.posted ps → o'.delivered ≡ delivered → (i j : ℕ)
    → delivered i j ≤ length (o.posted i j)
    → heap_way o' i j
    ≡ about_heap (drop (delivered i j) (o.posted i j)) ++ about_heap (posted i j ps)
way_since o o' delivered ps sent done i j within =
    ap (λ g. about_heap (drop (o'.delivered i j) (g i j))) sent
    ∙ ap (λ g. about_heap (drop (g i j) (extended o.posted ps i j))) done
    ∙ way_on (o.posted i j) (posted i j ps) (delivered i j) within

-- after a turn
pub way_turned : {C : Type 0} (o o' : FifoWorld C) (ps : List Parcel) → IsWithin o
    → o'.posted ≡ extended o.posted ps → o'.delivered ≡ o.delivered → (i j : ℕ)
    → heap_way o' i j ≡ heap_way o i j ++ about_heap (posted i j ps)
way_turned o o' ps within sent done i j = way_since o o' o.delivered ps sent done i j (within i j)

pub way_still : {C : Type 0} (o o' : FifoWorld C) (ps : List Parcel) → IsWithin o
    → o'.posted ≡ extended o.posted ps → o'.delivered ≡ o.delivered → All IsOfPages ps → (i j : ℕ)
    → heap_way o' i j ≡ heap_way o i j
way_still o o' ps within sent done pages i j =
    way_turned o o' ps within sent done i j
    ∙ ap (λ l. heap_way o i j ++ l) (heap_quiet i j ps pages) ∙ append-nil (heap_way o i j)

-- what holds of two nodes, of each pair that is these
pub at_pair : (source x : ℕ) (P : ℕ → ℕ → Type 0) (i j : ℕ) → P source x
    → (i == source && j == x) ≡ true → P i j
at_pair source x P i j h same =
    let both = and_parts (i == source) (j == x) same in
    subst (λ a. P a j) (sym (eqb-true i source both.0))
    (subst (λ b. P source b) (sym (eqb-true j x both.1)) h)

-- the first message under way from one node to another is taken
module _ {C : Type 0} (o : FifoWorld C) (within : IsWithin o) (source x : ℕ) (m : Message)
    (first : slice_get (o.posted source x) (o.delivered source x) ≡ Some m) where
  within-one : (i j : ℕ) (b : Bool) → (i == source && j == x) ≡ b
      → (if b then o.delivered i j + 1 else o.delivered i j) ≤ length (o.posted i j)
  within-one i j false same = within i j
  within-one i j true same =
      at_pair source x (λ a b. o.delivered a b + 1 ≤ length (o.posted a b)) i j
      (let less = slice_get_within (o.posted source x) (o.delivered source x) m first in
      omega (arith, less)) same

  pub within_taken : (i j : ℕ) → one_more o.delivered source x i j ≤ length (o.posted i j)
  within_taken i j = within-one i j (i == source && j == x) refl

  -- those left, from one node to another
  abbrev left : ℕ → ℕ → List Message
  left i j = about_heap (drop (one_more o.delivered source x i j) (o.posted i j))

  left_other : (i j : ℕ) → (i ≡ source → j ≢ x) → left i j ≡ heap_way o i j
  left_other i j apart =
      ap (λ b. about_heap
      (drop (if b then o.delivered i j + 1 else o.delivered i j) (o.posted i j)))
      (not_both i j source x apart)

  left_here : left source x ≡ about_heap (drop (o.delivered source x + 1) (o.posted source x))
  left_here =
      ap (λ b. about_heap
      (drop (if b then o.delivered source x + 1 else o.delivered source x) (o.posted source x)))
      (ap (λ b. b && x == x) (eq-eqb source source refl) ∙ eq-eqb x x refl)

  way_first : (b : Bool) → is_of_pages m.content ≡ b
      → heap_way o source x ≡ (if b then left source x else m ∷ left source x)
  way_first b about =
      ap about_heap (first_left (o.posted source x) (o.delivered source x) m first)
      ∙ ap (λ l. if not (is_of_pages m.content) then m ∷ l else l) (sym left_here)
      ∙ ap (λ t. if not t then m ∷ left source x else left source x) about
      ∙ either b
    where
      either : (t : Bool)
          → (if not t then m ∷ left source x else left source x)
          ≡ (if t then left source x else m ∷ left source x)
      either true = refl
      either false = refl

  left_page : is_of_pages m.content ≡ true → (i j : ℕ) → left i j ≡ heap_way o i j
  left_page about i j = elim (cases_eq i source) [
    | inr ne ↦ left_other i j (λ same. absurd (ne same))
    | inl a ↦ elim (cases_eq j x) [
      | inr ne ↦ left_other i j (λ same. ne)
      | inl b ↦
          subst (λ z. left z j ≡ heap_way o z j) (sym a)
          (subst (λ z. left source z ≡ heap_way o source z) (sym b) (sym (way_first true about)))
    ]
  ]

-- after a delivery: this is what the message is not the first of
module _ {C : Type 0} (rules : Core C) (o o' : FifoWorld C) (within : IsWithin o) (source x : ℕ)
    (t : Delivers rules o source x o') where
  abbrev answers : List Parcel
  answers = (rules.serve t.core source t.message).posted

  way_left : (i j : ℕ)
      → heap_way o' i j
      ≡ left o within source x t.message t.first i j ++ about_heap (posted i j answers)
  way_left i j =
      way_since o o' (one_more o.delivered source x) answers t.posted t.delivered i j
      (within_taken o within source x t.message t.first i j)

  pub way_other : (i j : ℕ) → (i ≡ source → j ≢ x)
      → heap_way o' i j ≡ heap_way o i j ++ about_heap (posted i j answers)
  way_other i j apart =
      way_left i j
      ∙ ap (λ l. l ++ about_heap (posted i j answers))
      (left_other o within source x t.message t.first i j apart)

  -- a message about a page
  pub way_page : is_of_pages t.message.content ≡ true → All IsOfPages answers → (i j : ℕ)
      → heap_way o' i j ≡ heap_way o i j
  way_page about pages i j =
      way_left i j
      ∙ ap (λ l. l ++ about_heap (posted i j answers))
      (left_page o within source x t.message t.first about i j)
      ∙ ap (λ l. heap_way o i j ++ l) (heap_quiet i j answers pages)
      ∙ append-nil (heap_way o i j)

  -- a message of the heap
  pub way_taken : is_of_pages t.message.content ≡ false
      → (rest : List Message) × (heap_way o source x ≡ t.message ∷ rest)
      × (heap_way o' source x ≡ rest ++ about_heap (posted source x answers))
  way_taken heap = (
    left o within source x t.message t.first source x,
    way_first o within source x t.message t.first false heap,
    way_left source x,
  )
