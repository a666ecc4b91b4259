-- What a step does to the letters and the entries, as those see it who wait: each letter stays at
-- its node, or comes in, or is served, and its answer goes out.
use Rattle.std.proofs.Common.{◌≡◌, ◌≢◌, ◌⊎◌, ◌<◌, ◌≤◌, ◌%◌, ℕ, zero, suc, true, false, List, [], ◌∷◌, length, map, slice_get, Some, option_map, refl, sym, ap, ◌∙◌, subst, inl, inr, arith}
use Rattle.std.proofs.lemmas.List.{length-append}
use Rattle.std.proofs.lemmas.Option.{same_Some, none-some, slice_get-map}
use Rattle.std.specs.FinSet as set
use Rattle.ivy_model.specs.declared.Config.{Config}
use Rattle.ivy_wire.specs.declared.Content.TheVariants as content
use Rattle.ivy_wire.specs.stated.Data.{Content, Parcel}
use Rattle.ivy_link.specs.stated.Paired.{posted}
use Rattle.ivy_pagetable.specs.declared.Entry.{Entry}
use Rattle.ivy_pagetable.specs.declared.Entry.TheVariants as entry
use Rattle.ivy_pagetable.specs.declared.Word.{Word}
use Rattle.ivy_pagetable.specs.stated.NodeSets.{nodes_with}
use Rattle.ivy_pagetable.specs.stated.Entries.{put_offs, is_locked, is_owner}
use Rattle.ivy_coherence.specs.stated.Fetching.{joined_by}
use Rattle.proof_table.specs.stated.Letters.{Letter, Net, Place, Underway, Aside, Loose, IsAt, letter_of}
use Rattle.proof_table.specs.transitions.Letters.{goes_on, installs}
use Rattle.proof_table.specs.stated.Orderly.{Collects}
use Rattle.proof_table.proofs.transitions.Needs.{page_of, put_about}
use Rattle.proof_table.proofs.transitions.Places.{written_here, written-other, same_or_other, served, freed}
use Rattle.proof_table.proofs.transitions.NetSteps.{IsStep}
use Rattle.proof_table.specs.stated.Descending.{IsAsked}
use Rattle.proof_table.specs.routing.Claiming.{claims}
use Rattle.proof_table.specs.stated.Sending.{IsPosted, IsSent}
use Rattle.proof_table.proofs.routing.Remaining.{StaysPutOff, get_first}

-- the letter is no more under way
abbrev pub IsArrived : Place → Type 0
IsArrived (Underway i j k) = ⊥
IsArrived (Aside i p k) = Unit {0}
IsArrived (Loose k) = Unit {0}

-- it is where it was, or came in
abbrev pub IsLater : Place → Place → Type 0
IsLater a b = (b ≡ a) ⊎ IsArrived b

-- the page is on its way to a node
pub record IsComing (n : Net) (page node : ℕ) : Type 0 where
  pub at : Place
  pub letter : Letter
  pub bits : ℕ
  pub bytes : List ℕ
  pub there : IsAt n at letter
  pub dest : letter.dest ≡ node
  pub brings : letter.message.content ≡ content.WriteRep page bits bytes

-- a letter is at its node still, or on its way there
pub record IsStill (n' : Net) (a : Place) (l : Letter) : Type 0 where
  pub at : Place
  pub letter : Letter
  pub there : IsAt n' at letter
  pub later : IsLater a at
  pub dest : letter.dest ≡ l.dest
  pub says : letter.message ≡ l.message
  pub source : (q : ℕ) → l.message.content ≡ content.InvalAck q → letter.source ≡ l.source

-- a node that does not claim the page sends a request on to another one
pub record IsSentOn (n n' : Net) (l : Letter) (body : Content) (page : ℕ) : Type 0 where
  pub plain : claims (n.entry l.dest page) ≡ false
  pub hop : ℕ
  pub away : hop ≢ l.dest
  pub asked : IsAsked n' body l.message.origin hop

-- what was asked for is on its way; what was waited for has come
abbrev pub IsAnswered : Net → Net → Letter → Content → Type 0
IsAnswered n n' l (content.ReadReq page) =
    IsSent n' page l.dest l.message.origin ⊎ IsSentOn n n' l (content.ReadReq page) page
IsAnswered n n' l (content.WriteReq page) =
    IsComing n' page l.message.origin ⊎ IsSentOn n n' l (content.WriteReq page) page
IsAnswered n n' l (content.ReadRep page bytes) = is_locked (n'.entry l.dest page) ≡ false
IsAnswered n n' l (content.WriteRep page copies bytes) = is_owner (n'.entry l.dest page) ≡ true
IsAnswered n n' l (content.Inval page) =
    IsPosted n' (content.InvalAck page) l.dest l.message.origin
IsAnswered n n' l (content.InvalAck page) =
    (call : ℕ) → Collects (n'.entry l.dest page) call l.source → ⊥
IsAnswered n n' l (content.AllocReq size) = Unit {0}
IsAnswered n n' l (content.AllocRep code addr) = Unit {0}
IsAnswered n n' l (content.FreeReq addr) = Unit {0}
IsAnswered n n' l (content.FreeRep code) = Unit {0}

-- the letter is what the word at the entry waits for last
abbrev pub IsLast : Entry → Letter → ℕ → Type 0
IsLast (entry.Idle s) l page = ⊥
IsLast (entry.AwaitRead s) l page =
    (s.call ≡ l.message.call)
    × ((bytes : List ℕ) × (l.message.content ≡ content.ReadRep page bytes))
IsLast (entry.AwaitWrite s) l page =
    (s.waiting.call ≡ l.message.call)
    × ((copies : ℕ) × (bytes : List ℕ)
    × (l.message.content ≡ content.WriteRep page copies bytes)
    × (nodes_with copies ≡ set.empty))
IsLast (entry.AwaitAcks s) l page =
    (s.waiting.call ≡ l.message.call) × (l.message.content ≡ content.InvalAck page)
    × (set.contains s.left l.source ≡ true) × (set.remove s.left l.source ≡ set.empty)

-- such a letter is about that page
pub last_about : (e : Entry) (l : Letter) (page : ℕ) → IsLast e l page
    → page_of l.message.content ≡ page
last_about (entry.Idle s) l page h = absurd h
last_about (entry.AwaitRead s) l page h = ap page_of h.1.1
last_about (entry.AwaitWrite s) l page h = ap page_of h.1.2
last_about (entry.AwaitAcks s) l page h = ap page_of h.1

-- with it the word is carried out
pub record IsFreed (n : Net) (node page : ℕ) : Type 0 where
  pub letter : Letter
  pub loose : n.loose ≡ letter ∷ []
  pub dest : letter.dest ≡ node
  pub asker : letter.message.origin ≡ node
  pub away : letter.source ≢ node
  pub last : IsLast (n.entry node page) letter page

-- a request about the page
abbrev pub AsksFor : ℕ → Letter → Type 0
AsksFor page l =
    (l.message.content ≡ content.ReadReq page) ⊎ (l.message.content ≡ content.WriteReq page)

-- elsewhere than at the node that manages the page
abbrev pub IsElsewhere : Config → ℕ → ℕ → Type 0
IsElsewhere c node page = node ≢ page % c.nodes

-- A node that gives the page has no other request about it, if it is one of those at which requests
-- are `alone` then: under managing nodes, elsewhere than at the one that manages the page.
pub record IsGivenAway (alone : ℕ → ℕ → Type 0) (n n' : Net) (node page : ℕ) : Type 0 where
  pub idle : is_locked (n.entry node page) ≡ false
  pub none : (a : Place) (l : Letter) → IsAt n a l → l.dest ≡ node → AsksFor page l
      → alone node page → IsStill n' a l → ⊥

-- the letter is to be delivered in this step, or was; or it is new
abbrev pub IsDue : (ℕ → ℕ → ℕ) → Place → Type 0
IsDue due (Underway i j k) = k < due i j
IsDue due (Aside i p k) = ⊥
IsDue due (Loose k) = Unit {0}

abbrev pub IsFresh : Net → Place → Type 0
IsFresh n (Underway i j k) = length (n.posted i j) ≤ k
IsFresh n (Aside i p k) = Unit {0}
IsFresh n (Loose k) = ⊥

-- no more is to be delivered than was posted, and no more was than is to be
abbrev pub IsPromised : (ℕ → ℕ → ℕ) → Net → Type 0
IsPromised due n = (i j : ℕ) → due i j ≤ length (n.posted i j)

abbrev pub IsWithin : (ℕ → ℕ → ℕ) → Net → Type 0
IsWithin due n = (i j : ℕ) → n.delivered i j ≤ due i j

fresh_late : (due : ℕ → ℕ → ℕ) (n : Net) → IsPromised due n → (a : Place) → IsFresh n a
    → IsDue due a → ⊥
fresh_late due n most (Underway i j k) fresh soon =
    (let le = most i j in omega (arith, le, fresh, soon))
fresh_late due n most (Aside i p k) fresh soon = soon
fresh_late due n most (Loose k) fresh soon = fresh

-- beyond the nodes nobody claims a page
abbrev pub IsBounded : Config → Net → Type 0
IsBounded c n = (y p : ℕ) → c.nodes ≤ y → claims (n.entry y p) ≡ false

-- a letter about the page is served at a node
abbrev pub IsServedAt : Net → ℕ → ℕ → Type 0
IsServedAt n node page =
    (l : Letter) × IsAt n (Loose 0) l × (l.dest ≡ node) × (page_of l.message.content ≡ page)

-- with no letter served, an entry that is not locked changes, or a word joins what is waited for
abbrev pub IsUnserved : Net → Entry → Entry → Type 0
IsUnserved n before after =
    (n.loose ≡ [])
    × ((is_locked before ≡ false) ⊎ ((w : Word) × (after ≡ joined_by before w)))

-- what a step does
pub record IsOnward (c : Config) (alone : ℕ → ℕ → Type 0) (n n' : Net) : Type 0 where
  -- a letter that is due was so before, and was not served, but where a word was carried out
  pub dues : (due : ℕ → ℕ → ℕ) → IsPromised due n → IsWithin due n' → (b : Place) (l : Letter)
      → IsAt n' b l → IsDue due b
      → ((a : Place) × IsAt n a l × IsDue due a
      × ((a ≢ Loose 0) ⊎ ((y q : ℕ) → n'.entry y q ≡ n.entry y q)))
      ⊎ (IsFreed n l.dest (page_of l.message.content)
      × (is_locked (n'.entry l.dest (page_of l.message.content)) ≡ false))
  -- an entry changes where a letter about its page is served; or, with none served, where it is not
  -- locked or a word joins
  pub entries : (y q : ℕ) → (n'.entry y q ≡ n.entry y q)
      ⊎ (IsServedAt n y q ⊎ IsUnserved n (n.entry y q) (n'.entry y q))
  pub grows : (i j : ℕ) → (length (n.posted i j) ≤ length (n'.posted i j))
      × (n.delivered i j ≤ n'.delivered i j)
  pub beyond : (y p : ℕ) → c.nodes ≤ y → n'.entry y p ≡ n.entry y p
  pub stays : (a : Place) (l : Letter) → IsAt n a l
      → IsStill n' a l ⊎ IsAnswered n n' l l.message.content
  pub owners : (y p : ℕ) → is_owner (n.entry y p) ≡ true
      → (is_owner (n'.entry y p) ≡ true) ⊎ IsGivenAway alone n n' y p
  pub collects : (y p target call : ℕ) → is_owner (n.entry y p) ≡ true
      → Collects (n'.entry y p) call target
      → Collects (n.entry y p) call target
      ⊎ ((n.loose ≡ []) × (is_locked (n.entry y p) ≡ false))
  pub locks : (y p : ℕ) → is_locked (n.entry y p) ≡ true
      → (is_locked (n'.entry y p) ≡ true) ⊎ IsFreed n y p
  pub begins : (y p : ℕ) → is_locked (n.entry y p) ≡ false → is_locked (n'.entry y p) ≡ true
      → n.loose ≡ []
  pub copies : (b : Place) (l : Letter) (p : ℕ) (bytes : List ℕ) → IsAt n' b l
      → l.message.content ≡ content.ReadRep p bytes
      → ((a : Place) × IsAt n a l × IsLater a b)
      ⊎ ((is_owner (n.entry l.source p) ≡ true) × (is_locked (n.entry l.source p) ≡ false))

pub served_later : (a : Place) → a ≢ Loose 0 → IsLater a (served a)
served_later (Underway i j k) ne = inl refl
served_later (Aside i p k) ne = inl refl
served_later (Loose zero) ne = absurd (ne refl)
served_later (Loose (suc k)) ne = inr tt

pub freed_later : (x p : ℕ) (a : Place) → a ≢ Loose 0 → IsLater a (freed x p a)
freed_later x p (Underway i j k) ne = inl refl
freed_later x p (Loose k) ne = inl refl
freed_later x p (Aside i q k) ne = elim (same_or_other i q x p) [
  | inl same ↦
      inr (subst IsArrived (sym (written_here (λ a b. Aside a b k) x p (Loose k) i q same.0 same.1))
      tt)
  | inr other ↦ inl (written-other (λ a b. Aside a b k) x p (Loose k) i q other)
]

-- a letter that stays as it is
pub as_it_is : (n' : Net) (a b : Place) (l : Letter) → IsAt n' b l → IsLater a b → IsStill n' a l
as_it_is n' a b l at later = record {
  at = b;
  letter = l;
  there = at;
  later = later;
  dest = refl;
  says = refl;
  source = λ q is. refl;
}

module _ (n : Net) (x p : ℕ) (e z : Entry) (left : List Letter) (parcels : List Parcel)
    (is : n.entry x p ≡ e) where
  abbrev next : Net
  next = goes_on n x p z left parcels

  under_still : (i j k : ℕ) (l : Letter) → IsAt n (Underway i j k) l
      → IsStill next (Underway i j k) l
  under_still i j k l at = as_it_is next (Underway i j k) (Underway i j k) l
      (at.0, get_first (n.posted i j) _ l.message k at.1, at.2, at.3) (inl refl)

  aside_still : (StaysPutOff e z ⊎ (left ≡ map (letter_of x p) (put_offs e))) → (i q k : ℕ) (l : Letter)
      → IsAt n (Aside i q k) l → IsStill next (Aside i q k) l
  aside_still how i q k l at = elim (same_or_other i q x p) [
    | inr other ↦
        as_it_is next (Aside i q k) (Aside i q k) l (
          at.0,
          ap (λ v. slice_get (put_offs v) k) (written-other n.entry x p z i q other) ∙ at.1,
          at.2,
        ) (inl refl)
    | inl same ↦ (
        let was : slice_get (put_offs e) k ≡ Some at.0 =
        ap (λ v. slice_get (put_offs v) k)
        (sym is ∙ ap (λ v. n.entry v p) (sym same.0) ∙ ap (n.entry i) (sym same.1)) ∙ at.1 in
        elim how [
          | inl stays ↦
              as_it_is next (Aside i q k) (Aside i q k) l (
                at.0,
                ap (λ v. slice_get (put_offs v) k)
                    (written_here n.entry x p z i q same.0 same.1) ∙ stays k at.0 was,
                at.2,
              ) (inl refl)
          | inr loose ↦
              as_it_is next (Aside i q k) (Loose k) l
              (ap (λ v. slice_get v k) loose ∙ slice_get-map (letter_of x p) (put_offs e) k
              ∙ ap (option_map (letter_of x p)) was
              ∙ ap Some (ap (λ v. letter_of v p at.0) (sym same.0)
              ∙ ap (λ v. letter_of i v at.0) (sym same.1) ∙ sym at.2)) (inr tt)
        ]
        )
  ]

  -- the first of the loose letters is served, and each other one stays
  pub served_still : (old : Letter) → n.loose ≡ old ∷ left → StaysPutOff e z
      → (a : Place) (l : Letter) → IsAt n a l → IsStill next a l ⊎ (l ≡ old)
  served_still old loose same (Underway i j k) l at = inl (under_still i j k l at)
  served_still old loose same (Aside i q k) l at = inl (aside_still (inl same) i q k l at)
  served_still old loose same (Loose zero) l at =
      inr (sym (same_Some old l (ap (λ v. slice_get v 0) (sym loose) ∙ at)))
  served_still old loose same (Loose (suc k)) l at =
      inl (as_it_is next (Loose (suc k)) (Loose k) l
      (ap (λ v. slice_get v (suc k)) (sym loose) ∙ at) (inr tt))

  -- the one that is loose is served, and what was put off is loose
  pub freed_still : (old : Letter) → n.loose ≡ old ∷ [] → left ≡ map (letter_of x p) (put_offs e)
      → (a : Place) (l : Letter) → IsAt n a l → IsStill next a l ⊎ (l ≡ old)
  freed_still old loose free (Underway i j k) l at = inl (under_still i j k l at)
  freed_still old loose free (Aside i q k) l at = inl (aside_still (inr free) i q k l at)
  freed_still old loose free (Loose zero) l at =
      inr (sym (same_Some old l (ap (λ v. slice_get v 0) (sym loose) ∙ at)))
  freed_still old loose free (Loose (suc k)) l at =
      absurd (none-some l (ap (λ v. slice_get v (suc k)) (sym loose) ∙ at))

  -- none was loose
  pub begun_still : n.loose ≡ [] → StaysPutOff e z → (a : Place) (l : Letter) → IsAt n a l
      → IsStill next a l
  begun_still none same (Underway i j k) l at = under_still i j k l at
  begun_still none same (Aside i q k) l at = aside_still (inl same) i q k l at
  begun_still none same (Loose k) l at =
      absurd (none-some l (ap (λ v. slice_get v k) (sym none) ∙ at))

-- an entry is written: what has to be shown of it
module _ (c : Config) (alone : ℕ → ℕ → Type 0) (n n' : Net) (x p : ℕ) (e z : Entry)
    (now : Place → Place) (New : Place → Letter → Type 0) (step : IsStep n n' x p e z now New) where
  pub record IsEntryOnward : Type 0 where
    pub here : x < c.nodes
    pub how : ((a : Place) → now a ≡ served a)
        ⊎ (((a : Place) → now a ≡ freed x p a) × IsFreed n x p × (is_locked z ≡ false))
    pub places : (a : Place) (l : Letter) → New a l → IsFresh n a
    pub cause : IsServedAt n x p ⊎ IsUnserved n e z
    pub longer : (i j : ℕ) → (length (n.posted i j) ≤ length (n'.posted i j))
        × (n.delivered i j ≤ n'.delivered i j)
    pub moves : (a : Place) → a ≢ Loose 0 → IsLater a (now a)
    pub stays : (a : Place) (l : Letter) → IsAt n a l
        → IsStill n' a l ⊎ IsAnswered n n' l l.message.content
    pub owner : is_owner e ≡ true → (is_owner z ≡ true) ⊎ IsGivenAway alone n n' x p
    pub collects : (target call : ℕ) → is_owner e ≡ true → Collects z call target
        → Collects e call target ⊎ ((n.loose ≡ []) × (is_locked e ≡ false))
    pub locks : is_locked e ≡ true → (is_locked z ≡ true) ⊎ IsFreed n x p
    pub begins : is_locked e ≡ false → is_locked z ≡ true → n.loose ≡ []
    pub copies : (a : Place) (l : Letter) (q : ℕ) (bytes : List ℕ) → New a l
        → l.message.content ≡ content.ReadRep q bytes
        → (is_owner (n.entry l.source q) ≡ true) × (is_locked (n.entry l.source q) ≡ false)

  -- what holds there, and elsewhere, where nothing changes
  at_entry : (P : ℕ → ℕ → Entry → Entry → Type 0) → P x p e z
      → ((y q : ℕ) (v : Entry) → P y q v v) → (y q : ℕ) → P y q (n.entry y q) (n'.entry y q)
  at_entry P here there y q = elim (step.elsewhere y q) [
    | inr other ↦ subst (P y q (n.entry y q)) (sym other.1) (there y q (n.entry y q))
    | inl same ↦
        subst (λ a. P a q (n.entry a q) (n'.entry a q)) (sym same.0)
        (subst (λ b. P x b (n.entry x b) (n'.entry x b)) (sym same.1)
        (subst (λ u. P x p u (n'.entry x p)) (sym step.before)
        (subst (P x p e) (sym step.after) here)))
  ]

  -- a letter that is due was so before
  due_served : (due : ℕ → ℕ → ℕ) (a : Place) → a ≢ Loose 0 → IsDue due (served a) → IsDue due a
  due_served due (Underway i j k) ne h = h
  due_served due (Aside i q k) ne h = h
  due_served due (Loose k) ne h = tt

  due_freed : (due : ℕ → ℕ → ℕ) (a : Place) (l : Letter) → IsAt n a l → IsDue due (freed x p a)
      → IsDue due a ⊎ ((l.dest ≡ x) × (page_of l.message.content ≡ p))
  due_freed due (Underway i j k) l at h = inl h
  due_freed due (Loose k) l at h = inl tt
  due_freed due (Aside i q k) l at h = elim (same_or_other i q x p) [
    | inl same ↦ inr (
      ap (λ (v : Letter). v.dest) at.2 ∙ same.0,
      ap (λ (v : Letter). page_of v.message.content) at.2 ∙ put_about at.0.kind q ∙ same.1,
    )
    | inr other ↦
        inl (subst (IsDue due) (written-other (λ a b. Aside a b k) x p (Loose k) i q other) h)
  ]

  due_before : (k : IsEntryOnward) (due : ℕ → ℕ → ℕ) → IsPromised due n → (b : Place) (l : Letter)
      → IsAt n' b l → IsDue due b
      → ((a : Place) × IsAt n a l × IsDue due a
      × ((a ≢ Loose 0) ⊎ ((y q : ℕ) → n'.entry y q ≡ n.entry y q)))
      ⊎ (IsFreed n l.dest (page_of l.message.content)
      × (is_locked (n'.entry l.dest (page_of l.message.content)) ≡ false))
  due_before k due most b l at soon = elim (step.letters b l at) [
    | inr new ↦ absurd (fresh_late due n most b (k.places b l new) soon)
    | inl h ↦ elim k.how [
      | inl is ↦
          inl (h.0, h.1, due_served due h.0 h.3 (subst (IsDue due) (h.2 ∙ is h.0) soon), inl h.3)
      | inr is ↦ elim (due_freed due h.0 l h.1 (subst (IsDue due) (h.2 ∙ is.0 h.0) soon)) [
        | inl was ↦ inl (h.0, h.1, was, inl h.3)
        | inr here ↦ inr (
          subst (λ q. IsFreed n l.dest q) (sym here.1)
              (subst (λ v. IsFreed n v p) (sym here.0) is.1),
          ap (λ v. is_locked (n'.entry v (page_of l.message.content))) here.0
              ∙ ap (λ q. is_locked (n'.entry x q)) here.1 ∙ ap is_locked step.after ∙ is.2,
        )
      ]
    ]
  ]

  pub entry_onward : IsEntryOnward → IsOnward c alone n n'
  entry_onward k = record {
    dues = λ due most within b l at soon. due_before k due most b l at soon;
    entries = at_entry
        (λ y q u v. (v ≡ u) ⊎ (IsServedAt n y q ⊎ IsUnserved n u v)) (inr k.cause)
        (λ y q v. inl refl);
    grows = k.longer;
    beyond = λ y q past. elim (step.elsewhere y q) [
      | inl same ↦
          absurd (let low = k.here in let here : y ≡ x = same.0 in omega (arith, low, past, here))
      | inr other ↦ other.1
    ];
    stays = k.stays;
    owners = at_entry (λ y q u v. is_owner u ≡ true → (is_owner v ≡ true) ⊎ IsGivenAway alone n n' y q)
        k.owner (λ y q v h. inl h);
    collects = λ y q target call.
        at_entry (λ a b u v. is_owner u ≡ true → Collects v call target
        → Collects u call target ⊎ ((n.loose ≡ []) × (is_locked u ≡ false)))
        (k.collects target call) (λ a b v own h. inl h) y q;
    locks = at_entry (λ y q u v. is_locked u ≡ true → (is_locked v ≡ true) ⊎ IsFreed n y q) k.locks
        (λ y q v h. inl h);
    begins = at_entry (λ y q u v. is_locked u ≡ false → is_locked v ≡ true → n.loose ≡ [])
        k.begins (λ y q v f h. absurd (let g : true ≡ false = sym h ∙ f in cc));
    copies = λ b l q bytes at says. elim (step.letters b l at) [
      | inl h ↦ inl (h.0, h.1, subst (IsLater h.0) (sym h.2) (k.moves h.0 h.3))
      | inr h ↦ inr (k.copies b l q bytes h says)
    ];
  }

-- bytes are installed
installs_still : (n : Net) (x p : ℕ) (bytes : List ℕ) (a : Place) (l : Letter) → IsAt n a l
    → IsAt (installs n x p bytes) a l
installs_still n x p bytes (Underway i j k) l at = at
installs_still n x p bytes (Aside i q k) l at = at
installs_still n x p bytes (Loose k) l at = at

uninstalls : (n : Net) (x p : ℕ) (bytes : List ℕ) (a : Place) (l : Letter)
    → IsAt (installs n x p bytes) a l → IsAt n a l
uninstalls n x p bytes (Underway i j k) l at = at
uninstalls n x p bytes (Aside i q k) l at = at
uninstalls n x p bytes (Loose k) l at = at

module _ (c : Config) {alone : ℕ → ℕ → Type 0} (n n' : Net) (x p : ℕ) (bytes : List ℕ)
    (on : IsOnward c alone n n') where
  abbrev installed : Net
  installed = installs n' x p bytes

  asked_installed : {body : Content} {o y : ℕ} → IsAsked n' body o y → IsAsked installed body o y
  asked_installed k = record {
    at = k.at;
    letter = k.letter;
    there = installs_still n' x p bytes k.at k.letter k.there;
    dest = k.dest;
    asker = k.asker;
    asks = k.asks;
  }

  sent_on_installed : {l : Letter} {body : Content} {q : ℕ} → IsSentOn n n' l body q
      → IsSentOn n installed l body q
  sent_on_installed h =
      record { plain = h.plain; hop = h.hop; away = h.away; asked = asked_installed h.asked }

  answered_installed : (l : Letter) (m : Content) → IsAnswered n n' l m → IsAnswered n installed l m
  answered_installed l (content.ReadReq q) (inl k) = inl (record {
    at = k.at;
    letter = k.letter;
    bytes = k.bytes;
    there = installs_still n' x p bytes k.at k.letter k.there;
    from = k.from;
    dest = k.dest;
    brings = k.brings;
  })
  answered_installed l (content.ReadReq q) (inr k) = inr (sent_on_installed k)
  answered_installed l (content.WriteReq q) (inl k) = inl (record {
    at = k.at;
    letter = k.letter;
    bits = k.bits;
    bytes = k.bytes;
    there = installs_still n' x p bytes k.at k.letter k.there;
    dest = k.dest;
    brings = k.brings;
  })
  answered_installed l (content.WriteReq q) (inr k) = inr (sent_on_installed k)
  answered_installed l (content.ReadRep q b) h = h
  answered_installed l (content.WriteRep q s b) h = h
  answered_installed l (content.Inval q) k = record {
    at = k.at;
    letter = k.letter;
    there = installs_still n' x p bytes k.at k.letter k.there;
    from = k.from;
    dest = k.dest;
    says = k.says;
  }
  answered_installed l (content.InvalAck q) h = h
  answered_installed l (content.AllocReq size) h = h
  answered_installed l (content.AllocRep code addr) h = h
  answered_installed l (content.FreeReq addr) h = h
  answered_installed l (content.FreeRep code) h = h

  still_installed : (a : Place) (l : Letter) → IsStill n' a l → IsStill installed a l
  still_installed a l k = record {
    at = k.at;
    letter = k.letter;
    there = installs_still n' x p bytes k.at k.letter k.there;
    later = k.later;
    dest = k.dest;
    says = k.says;
    source = k.source;
  }

  still_uninstalled : (a : Place) (l : Letter) → IsStill installed a l → IsStill n' a l
  still_uninstalled a l k = record {
    at = k.at;
    letter = k.letter;
    there = uninstalls n' x p bytes k.at k.letter k.there;
    later = k.later;
    dest = k.dest;
    says = k.says;
    source = k.source;
  }

  pub installed_onward : IsOnward c alone n installed
  installed_onward = record {
    dues = λ due most within b l at soon. on.dues due most within b l (uninstalls n' x p bytes b l at) soon;
    entries = on.entries;
    grows = on.grows;
    beyond = on.beyond;
    stays = λ a l at. elim (on.stays a l at) [
      | inl h ↦ inl (still_installed a l h)
      | inr h ↦ inr (answered_installed l l.message.content h)
    ];
    owners = λ y q own. elim (on.owners y q own) [
      | inl h ↦ inl h
      | inr h ↦ inr (record {
        idle = h.idle;
        none = λ a l at to asks ne k. h.none a l at to asks ne (still_uninstalled a l k);
      })
    ];
    collects = on.collects;
    locks = on.locks;
    begins = on.begins;
    copies = λ b l q d at says. on.copies b l q d (uninstalls n' x p bytes b l at) says;
  }

-- nothing is done
pub none_onward : (c : Config) {alone : ℕ → ℕ → Type 0} (n : Net) → IsOnward c alone n n
none_onward c n = record {
  dues = λ due most within b l at soon. inl (b, at, soon, inr (λ y q. refl));
  entries = λ y q. inl refl;
  grows = λ i j. (omega arith, omega arith);
  beyond = λ y p past. refl;
  stays = λ a l at. inl (as_it_is n a a l at (inl refl));
  owners = λ y p h. inl h;
  collects = λ y p target call own h. inl h;
  locks = λ y p h. inl h;
  begins = λ y p f h. absurd (let g : true ≡ false = sym h ∙ f in cc);
  copies = λ b l p bytes at says. inl (b, at, inl refl);
}

-- parcels are posted
pub posts_longer : (n : Net) (x p : ℕ) (z : Entry) (left : List Letter) (parcels : List Parcel)
    (i j : ℕ) → (length (n.posted i j) ≤ length ((goes_on n x p z left parcels).posted i j))
    × (n.delivered i j ≤ n.delivered i j)
posts_longer n x p z left parcels i j = (
  (let e = length-append (n.posted i j) (posted i j parcels) in omega (arith, e)),
  omega arith,
)

-- a step leaves it so
pub still_bounded : (c : Config) {alone : ℕ → ℕ → Type 0} (n n' : Net) → IsOnward c alone n n'
    → IsBounded c n → IsBounded c n'
still_bounded c n n' on bounded y p past = ap claims (on.beyond y p past) ∙ bounded y p past
