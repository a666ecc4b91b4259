-- What an event of one node comes to: what has to be proved of it, and what the flat memory is
-- told.
use Rattle.std.proofs.Common.{◌≡◌, ◌≢◌, ◌<◌, ℕ, Bool, true, List, [], ◌∷◌, Some, None, eq-eqb, refl, sym, ap, ◌∙◌, subst, inl, inr, if◌then◌else◌, ◌==◌}
use Rattle.std.proofs.lemmas.Bool.{cases_eq, ne_eqb}
use Rattle.std.proofs.lemmas.List.{append-nil}
use Rattle.ivy_model.specs.declared.Config.{Config}
use Rattle.ivy_wire.specs.stated.Data.{Parcel}
use Rattle.ivy_link.specs.stated.Paired.{extended}
use Rattle.ivy_pagetable.specs.declared.Entry.{Entry}
use Rattle.ivy_pagetable.specs.declared.Entry.TheVariants as entry
use Rattle.ivy_pagetable.specs.declared.Out.{Out}
use Rattle.ivy_pagetable.specs.declared.Word.{Word}
use Rattle.ivy_pagetable.specs.stated.States.{IdleState}
use Rattle.ivy_pagetable.specs.stated.Entries.{is_locked}
use Rattle.ivy_pagetable.specs.stated.Tables.{entry_at, page_at}
use Rattle.ivy_pagetable.specs.stated.Words.{IsWord, carried_out}
use Rattle.ivy_pagetable.specs.stated.Manager.{Ops}
use Rattle.ivy_coherence.specs.declared.need.Need.{Need}
use Rattle.ivy_coherence.specs.declared.need.Need.TheVariants as need
use Rattle.ivy_coherence.specs.stated.Coherent.{Coherent}
use Rattle.ivy_pagetable.specs.stated.Accesses.{suffices}
use Rattle.proof_table.specs.stated.Letters.{Letter, Net}
use Rattle.proof_table.specs.transitions.Letters.{written}
use Rattle.proof_table.specs.transitions.TableSteps.{with_flat_page, IsPreservedBy}
use Rattle.proof_table.proofs.transitions.Alike.{alike_holds}
use Rattle.proof_worlds.proofs.refinement.LiftedNets.{Stands, written_here, written-page, written-node}

-- node x of the net is this coherence
pub record IsNode {S : Type 0} (m : ℕ → S) (n : Net) (x : ℕ) (k : Coherent S) : Type 0 where
  pub me : k.me ≡ x
  pub manager : m x ≡ k.manager
  pub entries : (p : ℕ) → n.entry x p ≡ entry_at k.table p
  pub pages : (p : ℕ) → n.page x p ≡ page_at k.table p
  pub breaches : n.breaches x ≡ k.breaches

-- an event of node x leads from one net to another: the node is this coherence then, and posted
-- these parcels
pub record ComesTo {S : Type 0} (m : ℕ → S) (n : Net) (x : ℕ) (k : Coherent S) (ps : List Parcel)
    (m' : ℕ → S) (n' : Net) : Type 0 where
  pub node : IsNode m' n' x k
  pub managers : (i : ℕ) → i ≢ x → m' i ≡ m i
  pub entries : (i p : ℕ) → i ≢ x → n'.entry i p ≡ n.entry i p
  pub pages : (i p : ℕ) → i ≢ x → n'.page i p ≡ n.page i p
  pub breaches : (i : ℕ) → i ≢ x → n'.breaches i ≡ n.breaches i
  pub posted : (i j : ℕ) → n'.posted i j ≡ extended n.posted ps i j
  pub delivered : (i j : ℕ) → n'.delivered i j ≡ n.delivered i j
  pub loose : n'.loose ≡ []

-- the same node, entries, bytes, manager, locks and count: only what waits along and what was
-- answered may differ
pub record SameNet {S : Type 0} (k j : Coherent S) : Type 0 where
  pub me : k.me ≡ j.me
  pub manager : k.manager ≡ j.manager
  pub table : k.table ≡ j.table
  pub locked : k.locked ≡ j.locked
  pub fetched : k.fetched ≡ j.fetched
  pub breaches : k.breaches ≡ j.breaches

-- an event leads there too, then
pub comes_alike : {S : Type 0} {m : ℕ → S} {n : Net} {x : ℕ} {k j : Coherent S} {ps : List Parcel}
    {m' : ℕ → S} {n' : Net} → SameNet k j → ComesTo m n x k ps m' n' → ComesTo m n x j ps m' n'
comes_alike same l = record {
  node = record {
    me = sym same.me ∙ l.node.me;
    manager = l.node.manager ∙ same.manager;
    entries = λ p. l.node.entries p ∙ ap (λ t. entry_at t p) same.table;
    pages = λ p. l.node.pages p ∙ ap (λ t. page_at t p) same.table;
    breaches = l.node.breaches ∙ same.breaches;
  };
  managers = l.managers;
  entries = l.entries;
  pages = l.pages;
  breaches = l.breaches;
  posted = l.posted;
  delivered = l.delivered;
  loose = l.loose;
}

-- the word of this call waits at the entry
abbrev pub WaitsAt : Entry → Word → ℕ → Type 0
WaitsAt (entry.Idle s) word call = ⊥
WaitsAt (entry.AwaitRead s) word call = (s.word ≡ word) × (s.call ≡ call)
WaitsAt (entry.AwaitWrite s) word call = (s.waiting.word ≡ word) × (s.waiting.call ≡ call)
WaitsAt (entry.AwaitAcks s) word call = (s.waiting.word ≡ word) × (s.waiting.call ≡ call)

-- A word of node x is carried out within an event, on its page there and on the flat memory's. Of
-- the net in between P holds, and access suffices there; the other nodes' entries are as they were
-- before the event.
pub record Carries {S : Type 0} (P : (ℕ → S) → Net → (ℕ → List ℕ) → Type 0)
    (was : ℕ → ℕ → Entry) (c : Config) (x : ℕ) (f : ℕ → List ℕ) (page : ℕ) (word : Word) (out : Out)
    (flat : ℕ → List ℕ) : Type 0 where
  pub managers : ℕ → S
  pub net : Net
  pub state : IdleState
  pub holds : P managers net f
  pub here : x < c.nodes
  pub inside : page < c.pages
  pub is_word : IsWord c.page_size word
  pub idle : net.entry x page ≡ entry.Idle state
  pub elsewhere : (j q : ℕ) → j ≢ x → net.entry j q ≡ was j q
  pub enough : suffices state.access word ≡ true
  pub gives : out ≡ (carried_out word (net.page x page)).out
  pub after : flat ≡ with_flat_page f page (carried_out word (f page)).bytes

-- words of node x are carried out one after another, and give these answers
abbrev pub CarriesAll : {S : Type 0} → ((ℕ → S) → Net → (ℕ → List ℕ) → Type 0)
    → (ℕ → ℕ → Entry) → Config → ℕ → (ℕ → List ℕ) → ℕ → List Word → List Out → (ℕ → List ℕ) → Type 0
CarriesAll P was c x f page [] [] flat = flat ≡ f
CarriesAll P was c x f page (word ∷ words) (out ∷ outs) flat =
    (mid : ℕ → List ℕ) × Carries P was c x f page word out mid × CarriesAll P was c x mid page words outs flat
CarriesAll P was c x f page words outs flat = ⊥

-- what waits along, and the answers that are there, are as before
pub record SameRest {S : Type 0} (k k' : Coherent S) : Type 0 where
  pub more : k'.more ≡ k.more
  pub done : k'.done ≡ k.done
  pub done_more : k'.done_more ≡ k.done_more

-- What a message did to the flat memory's pages, where it led node x from one coherence to another:
-- nothing, and what waits waited before, for the same; or the word that waited was carried out, and
-- those that waited along with it behind it, and their answers are there.
pub data Tells {S : Type 0} (P : (ℕ → S) → Net → (ℕ → List ℕ) → Type 0) (was : ℕ → ℕ → Entry)
    (c : Config) (x : ℕ) (f : ℕ → List ℕ) (k k' : Coherent S) (flat : ℕ → List ℕ) : Type 0 where
  quiet : flat ≡ f → SameRest k k' → k'.locked ≡ k.locked
      → ((q : ℕ) (word : Word) (call : ℕ) → WaitsAt (entry_at k'.table q) word call
      → WaitsAt (entry_at k.table q) word call) → Tells P was c x f k k' flat
  answers : (page : ℕ) (word : Word) (call : ℕ) (out : Out) → k.locked ≡ Some page
      → WaitsAt (entry_at k.table page) word call → k'.locked ≡ None → k'.more ≡ []
      → k'.done ≡ Some out
      → CarriesAll P was c x f page (word ∷ k.more) (out ∷ k'.done_more) flat → Tells P was c x f k k' flat

-- What an access did: it cannot begin, since another word waits; it was carried out at once; it
-- waits at its page's entry, under the number of the request; or at none, as its page is fetched
-- otherwise.
pub data Starts {S : Type 0} (P : (ℕ → S) → Net → (ℕ → List ℕ) → Type 0) (was : ℕ → ℕ → Entry)
    (c : Config) (x : ℕ) (f : ℕ → List ℕ) (page : ℕ) (word : Word) (call : ℕ) (k : Coherent S) (needs : Need)
    (k' : Coherent S) (flat : ℕ → List ℕ) : Type 0 where
  busy : (q : ℕ) → k.locked ≡ Some q → needs ≡ need.Busy → k' ≡ k → flat ≡ f
      → Starts P was c x f page word call k needs k' flat
  hits : (out : Out) → needs ≡ need.Have out → SameRest k k' → k'.locked ≡ k.locked
      → Carries P was c x f page word out flat → Starts P was c x f page word call k needs k' flat
  waits : (number : ℕ) → needs ≡ need.Started → flat ≡ f → SameRest k k' → k'.locked ≡ Some page
      → WaitsAt (entry_at k'.table page) word number
      → Starts P was c x f page word call k needs k' flat
  otherwise : k.locked ≡ None → is_locked (entry_at k.table page) ≡ true → needs ≡ need.Fetched
      → k' ≡ k → flat ≡ f → Starts P was c x f page word call k needs k' flat

-- what an event of node x at page p comes to
pub record Ended {S : Type 0} (P : (ℕ → S) → Net → (ℕ → List ℕ) → Type 0) (m : ℕ → S) (n : Net)
    (x p : ℕ) (k k' : Coherent S) (ps : List Parcel) (flat : ℕ → List ℕ) : Type 0 where
  pub stands : Stands P m n x p flat (entry_at k'.table p) (page_at k'.table p) k'.manager
      k'.breaches ps []
  pub entries : (q : ℕ) → q ≢ p → entry_at k'.table q ≡ entry_at k.table q
  pub pages : (q : ℕ) → q ≢ p → page_at k'.table q ≡ page_at k.table q

-- a value of one node, known there and elsewhere
one_node : {X : Type 0} (h g : ℕ → X) (x : ℕ) (v : X) → h x ≡ v → ((i : ℕ) → i ≢ x → h i ≡ g i)
    → (i : ℕ) → h i ≡ (if i == x then v else g i)
one_node h g x v here others i = elim (cases_eq i x) [
  | inl y ↦ ap h y ∙ here ∙ sym (ap (λ b. if b then v else g i) (eq-eqb i x y))
  | inr ne ↦ others i ne ∙ sym (ap (λ b. if b then v else g i) (ne_eqb i x ne))
]

one_page : {X : Type 0} (h g : ℕ → ℕ → X) (x p : ℕ) (v : X) → h x p ≡ v
    → ((q : ℕ) → q ≢ p → h x q ≡ g x q) → ((i q : ℕ) → i ≢ x → h i q ≡ g i q) → (i q : ℕ)
    → h i q ≡ written g x p v i q
one_page h g x p v here near far i q = elim (cases_eq i x) [
  | inr ne ↦ far i q ne ∙ sym (written-node g x p v i q ne)
  | inl y ↦ subst (λ z. h z q ≡ written g x p v z q) (sym y) (elim (cases_eq q p) [
    | inl w ↦ subst (λ z. h x z ≡ written g x p v x z) (sym w) (here ∙ sym (written_here g x p v))
    | inr ne ↦ near q ne ∙ sym (written-page g x p v q ne)
  ])
]

module _ {S : Type 0} {sends : Bool} {ops : Ops S} {P : (ℕ → S) → Net → (ℕ → List ℕ) → Type 0}
    {c : Config} (kept : IsPreservedBy sends ops c P) (m : ℕ → S) (n : Net) (x p : ℕ) (k : Coherent S) (node : IsNode m n x k)
  where
    -- before the event
    pub stands-first : (f : ℕ → List ℕ) (rest : List Letter) → n.loose ≡ rest → P m n f
        → Stands P m n x p f (entry_at k.table p) (page_at k.table p) k.manager k.breaches [] rest
    stands-first f rest loose h = record {
      holds = alike_holds _ _ _ _ (record {
        managers = λ i. sym (one_node m m x k.manager node.manager (λ j ne. refl) i);
        entries =
            λ i q. sym
            (one_page n.entry n.entry x p (entry_at k.table p) (node.entries p) (λ r ne. refl)
            (λ j r ne. refl) i q);
        pages = λ i q. sym
            (one_page n.page n.page x p (page_at k.table p) (node.pages p) (λ r ne. refl)
            (λ j r ne. refl) i q);
        breaches =
            λ i. sym (one_node n.breaches n.breaches x k.breaches node.breaches (λ j ne. refl) i);
        posted = λ i j. append-nil (n.posted i j);
        delivered = λ i j. refl;
        loose = sym loose;
      }) P f h;
    }

    -- after it
    pub ended-leads : (k' : Coherent S) (ps : List Parcel) (flat : ℕ → List ℕ) (m' : ℕ → S) (n' : Net)
        → Ended P m n x p k k' ps flat → ComesTo m n x k' ps m' n' → P m' n' flat
    ended-leads k' ps flat m' n' e l = alike_holds _ _ _ _ (record {
      managers = one_node m' m x k'.manager l.node.manager l.managers;
      entries =
          one_page n'.entry n.entry x p (entry_at k'.table p) (l.node.entries p)
          (λ q ne. l.node.entries q ∙ e.entries q ne ∙ sym (node.entries q)) l.entries;
      pages = one_page n'.page n.page x p (page_at k'.table p) (l.node.pages p)
          (λ q ne. l.node.pages q ∙ e.pages q ne ∙ sym (node.pages q)) l.pages;
      breaches = one_node n'.breaches n.breaches x k'.breaches l.node.breaches l.breaches;
      posted = l.posted;
      delivered = l.delivered;
      loose = l.loose;
    }) P flat e.stands.holds
