-- The net of a FIFO world, and what is known of each of its nodes and messages, and of the
-- calls of the heap.
use Rattle.std.proofs.Common.{◌≡◌, ◌≢◌, ◌⊎◌, ◌<◌, ◌≤◌, ◌+◌, ℕ, zero, suc, Bool, true, false, List}
use Rattle.std.proofs.Common.{[], ◌∷◌, ◌++◌, length, take, filter, All, slice_get, slice_set, Some}
use Rattle.std.proofs.Common.{refl, sym, ap, ◌∙◌, subst, inl, inr, arith, if◌then◌else◌, ◌==◌, ◌&&◌}
use Rattle.std.proofs.lemmas.Bool.{and_parts, eqb-true}
use Rattle.std.proofs.lemmas.List.{length-set, length-append, take-append-le}
use Rattle.std.proofs.lemmas.List.Elements.{filter-append}
use Rattle.std.proofs.lemmas.Option.{same_Some, none-some}
use Rattle.ivy_model.specs.declared.Config.{Config}
use Rattle.ivy_wire.specs.stated.Data.{Message, Parcel}
use Rattle.ivy_wire.specs.stated.Spelling.{FitsMessage, FitsParcel}
use Rattle.ivy_link.specs.stated.Paired.{posted, extended}
use Rattle.ivy_pagetable.specs.stated.Manager.{Ops}
use Rattle.ivy_coherence.proofs.keeping.IdleServing.{all_head, all_tail}
use Rattle.ivy_moves.specs.stated.FifoWorld.{FifoWorld, Delivers, Steps, rests, turns, delivers, one_more}
use Rattle.ivy_moves.specs.Following.{IsWellBehaved}
use Rattle.ivy_host.specs.stated.Hosts.{Host, host_rules}
use Rattle.ivy_host.specs.stated.Sound.{IsSoundHost}
use Rattle.ivy_host.proofs.Same.{turn-same, serving-same}
use Rattle.ivy_memory.proofs.serving.Pages.{is_of_pages, IsOfPages}
use Rattle.proof_table.specs.stated.Letters.{Letter}
use Rattle.proof_table.specs.transitions.TableSteps.{taken}
use Rattle.proof_table.proofs.transitions.Alike.{AreAlike}
use Rattle.proof_worlds.specs.stated.HeapRequests.{AreHeapRequests}
use Rattle.proof_worlds.specs.stated.Nets.{about_pages}
pub use Rattle.proof_worlds.specs.stated.Nets.{entry_of, page_of, breaches_of, manager_of, net_with, net_of, managers_of}
use Rattle.proof_worlds.proofs.refinement.Led.{get_set}
use Rattle.proof_worlds.proofs.refinement.Filtered.{filter_every, kept_at, kept_more, posted-filter}
use Rattle.proof_worlds.proofs.refinement.HeapWays.{IsWithin, at_pair, within_taken}
use Rattle.proof_worlds.proofs.refinement.HeapDeliveries.{HeapDelivery, heap_delivery}
use Rattle.proof_worlds.proofs.refinement.HostTurns.{turn_cases}
use Rattle.proof_worlds.proofs.refinement.HeapRequestSteps.{turn_heap_requests, page_heap_requests, requests_of_heap}
use Rattle.proof_worlds.proofs.refinement.LiftedEvents.{IsNode, ComesTo}

-- the parcels among these that are about pages
abbrev pub pages_among : List Parcel → List Parcel
pages_among ps = filter (λ (p : Parcel). is_of_pages p.message.content) ps

pub all_pages : (ps : List Parcel) → All IsOfPages ps → pages_among ps ≡ ps
all_pages ps pages = filter_every (λ (p : Parcel). is_of_pages p.message.content) ps pages

module _ {S : Type 0} where
  pub node_of : (spare : S) (o : FifoWorld (Host S)) (delivered : ℕ → ℕ → ℕ) (loose : List Letter)
      (x : ℕ) (h : Host S) → slice_get o.cores x ≡ Some h → h.memory.coherence.me ≡ x
      → IsNode (managers_of spare o) (net_with o delivered loose) x h.memory.coherence
  node_of spare o delivered loose x h there me = record {
    me = me;
    manager = ap (manager_of spare) there;
    entries = λ p. ap (λ z. entry_of z p) there;
    pages = λ p. ap (λ z. page_of z p) there;
    breaches = ap breaches_of there;
  }

  -- the world after an event of node x: of what it posted, the messages about pages are letters
  pub leads_to : (spare : S) (o o' : FifoWorld (Host S)) (delivered : ℕ → ℕ → ℕ) (loose : List Letter)
      (x : ℕ) (h after : Host S) (ps : List Parcel) → slice_get o.cores x ≡ Some h
      → o'.cores ≡ slice_set o.cores x after
      → after.memory.coherence.me ≡ x → o'.posted ≡ extended o.posted ps → o'.delivered ≡ delivered
      → ((i j : ℕ) → delivered i j ≤ length (o.posted i j))
      → ComesTo (managers_of spare o) (net_with o delivered loose) x after.memory.coherence
      (pages_among ps) (managers_of spare o') (net_of o')
  leads_to spare o o' delivered loose x h after ps there cores me sent done within =
      let here : slice_get o'.cores x ≡ Some after =
      ap (λ l. slice_get l x) cores
      ∙ elim (get_set o.cores x h after x there) [ inl y ↦ y.1 | inr y ↦ absurd (y.0 refl) ] in
      let others : (i : ℕ) → i ≢ x → slice_get o'.cores i ≡ slice_get o.cores i
      = λ i ne. ap (λ l. slice_get l i) cores
      ∙ elim (get_set o.cores x h after i there) [ inl y ↦ absurd (ne y.0) | inr y ↦ y.1 ] in
      record {
        node = node_of spare o' o'.delivered [] x after here me;
        managers = λ i ne. ap (manager_of spare) (others i ne);
        entries = λ i p ne. ap (λ z. entry_of z p) (others i ne);
        pages = λ i p ne. ap (λ z. page_of z p) (others i ne);
        breaches = λ i ne. ap breaches_of (others i ne);
        posted = λ i j.
            ap (λ g. about_pages (g i j)) sent
            ∙ filter-append (λ m. is_of_pages m.content) (o.posted i j) (posted i j ps)
            ∙ ap (λ l. about_pages (o.posted i j) ++ l)
            (posted-filter (λ m. is_of_pages m.content) i j ps);
        delivered = λ i j.
            ap (λ g. length (about_pages (take (o'.delivered i j) (g i j)))) sent
            ∙ ap (λ g. length (about_pages (take (g i j) (extended o.posted ps i j)))) done
            ∙ ap (λ l. length (about_pages l))
            (take-append-le (delivered i j) (o.posted i j) (posted i j ps) (within i j));
        loose = refl;
      }

-- the first message under way from one node to another is taken: one about a page is a letter
module _ {S : Type 0} (o : FifoWorld (Host S)) (source x : ℕ) (m : Message)
    (first : slice_get (o.posted source x) (o.delivered source x) ≡ Some m) where
  -- the letters delivered before it
  abbrev before : ℕ → ℕ → ℕ
  before i j = length (about_pages (take (o.delivered i j) (o.posted i j)))

  -- and with it
  abbrev with_it : ℕ → ℕ → ℕ
  with_it i j = length (about_pages (take (one_more o.delivered source x i j) (o.posted i j)))

  counted : (i j : ℕ) (b : Bool) → (i == source && j == x) ≡ b
      → length
      (about_pages (take (if b then o.delivered i j + 1 else o.delivered i j) (o.posted i j)))
      ≡ (if b then before i j + (if is_of_pages m.content then 1 else 0) else before i j)
  counted i j false same = refl
  counted i j true same =
      at_pair source x
      (λ a b. length (about_pages (take (o.delivered a b + 1) (o.posted a b)))
      ≡ before a b + (if is_of_pages m.content then 1 else 0)) i j
      (kept_more (λ m. is_of_pages m.content) (o.posted source x) (o.delivered source x) m first)
      same

  letter_counted : is_of_pages m.content ≡ true → (i j : ℕ)
      → with_it i j ≡ one_more before source x i j
  letter_counted about i j =
      counted i j (i == source && j == x) refl
      ∙ ap (λ b. if i == source && j == x then before i j + (if b then 1 else 0)
      else before i j) about

  both_same : (b : Bool) (n : ℕ) → (if b then n + 0 else n) ≡ n
  both_same true n = omega arith
  both_same false n = refl

  none_counted : is_of_pages m.content ≡ false → (i j : ℕ) → with_it i j ≡ before i j
  none_counted heap i j =
      counted i j (i == source && j == x) refl
      ∙ ap (λ b. if i == source && j == x then before i j + (if b then 1 else 0) else before i j)
      heap
      ∙ both_same (i == source && j == x) (before i j)

  pub letter_first : is_of_pages m.content ≡ true
      → slice_get ((net_of o).posted source x) ((net_of o).delivered source x) ≡ Some m
  letter_first about =
      kept_at (λ m. is_of_pages m.content) (o.posted source x) (o.delivered source x) m first about

  pub letter_taken : is_of_pages m.content ≡ true → (spare : S)
      → AreAlike (managers_of spare o) (managers_of spare o) (taken (net_of o) source x m)
      (net_with o (one_more o.delivered source x)
      (record { source = source; dest = x; message = m } ∷ []))
  letter_taken about spare = record {
    managers = λ i. refl;
    entries = λ i p. refl;
    pages = λ i p. refl;
    breaches = λ i. refl;
    posted = λ i j. refl;
    delivered = letter_counted about;
    loose = refl;
  }

  pub heap_taken : is_of_pages m.content ≡ false → (spare : S)
      → AreAlike (managers_of spare o) (managers_of spare o) (net_of o)
      (net_with o (one_more o.delivered source x) [])
  heap_taken heap spare = record {
    managers = λ i. refl;
    entries = λ i p. refl;
    pages = λ i p. refl;
    breaches = λ i. refl;
    posted = λ i j. refl;
    delivered = none_counted heap;
    loose = refl;
  }

-- a message that one node sent another
pub record IsSent (c : Config) (i j : ℕ) (m : Message) : Type 0 where
  pub below : i < c.nodes
  pub there : j < c.nodes
  pub apart : i ≢ j
  pub fits : FitsMessage c m

-- Each core is that of a sound node of this configuration, each message was sent by a node to
-- another one, no more was delivered than was posted, and the messages of the heap are those of the
-- calls that node 0 was asked for. `sends` says whether requests are sent on while a copy is awaited.
pub record IsSoundWorldBy {S : Type 0} (sends : Bool) (ops : Ops S) (c : Config)
    (o : FifoWorld (Host S)) : Type 0 where
  pub count : length o.cores ≡ c.nodes
  pub sound : (i : ℕ) (h : Host S) → slice_get o.cores i ≡ Some h → IsSoundHost ops c i h
  pub rule : (i : ℕ) (h : Host S) → slice_get o.cores i ≡ Some h
      → h.memory.coherence.sends_on ≡ sends
  pub sent : (i j k : ℕ) (m : Message) → slice_get (o.posted i j) k ≡ Some m → IsSent c i j m
  pub within : IsWithin o
  pub heap_requests : AreHeapRequests o

-- where they are put off
abbrev pub IsSoundWorld : {S : Type 0} → Ops S → Config → FifoWorld (Host S) → Type 0
IsSoundWorld ops c o = IsSoundWorldBy false ops c o

-- what stands in two lists, one after the other
get_either : {X : Type 0} (xs ys : List X) (k : ℕ) (x : X) → slice_get (xs ++ ys) k ≡ Some x
    → (slice_get xs k ≡ Some x) ⊎ ((j : ℕ) × (slice_get ys j ≡ Some x))
get_either [] ys k x h = inr (k, h)
get_either (z ∷ xs) ys zero x h = inl h
get_either (z ∷ xs) ys (suc k) x h = get_either xs ys k x h

posted-sent : (c : Config) (me i j : ℕ) (ps : List Parcel) (k : ℕ) (m : Message)
    → All (FitsParcel c me) ps → slice_get (posted i j ps) k ≡ Some m → IsSent c i j m
posted-sent c me i j [] k m fits is = absurd (none-some m is)
posted-sent c me i j (p ∷ ps) k m fits is =
    this_or (p.source == i && p.dest == j) refl k is
    (λ l there. posted-sent c me i j ps l m (all_tail (FitsParcel c me) p ps fits) there)
  where
    this_or : (b : Bool) → (p.source == i && p.dest == j) ≡ b → (k : ℕ)
        → slice_get (if b then p.message ∷ posted i j ps else posted i j ps) k ≡ Some m
        → ((l : ℕ) → slice_get (posted i j ps) l ≡ Some m → IsSent c i j m) → IsSent c i j m
    this_or false test k is rest = rest k is
    this_or true test zero is rest =
        let one : FitsParcel c me p = all_head (FitsParcel c me) p ps fits in
        let both = and_parts (p.source == i) (p.dest == j) test in
        let source : p.source ≡ i = eqb-true p.source i both.0 in
        let dest : p.dest ≡ j = eqb-true p.dest j both.1 in
        let mine : me ≡ i = sym one.source ∙ source in
        record {
          below = subst (λ z. z < c.nodes) mine one.here;
          there = subst (λ z. z < c.nodes) dest one.dest;
          apart = λ e. one.apart (dest ∙ sym e ∙ sym mine);
          fits = subst (FitsMessage c) (same_Some p.message m is) one.message;
        }
    this_or true test (suc l) is rest = rest l is

module _ {S : Type 0} {sends : Bool} (ops : Ops S) (c : Config) where
  -- a message of the heap fits a rule
  pub fits_heap : (o o' : FifoWorld (Host S)) → IsSoundWorldBy sends ops c o
      → (source x : ℕ) (t : Delivers (host_rules ops) o source x o')
      → is_of_pages t.message.content ≡ false → HeapDelivery ops o source x t.core t.message
  fits_heap o o' w source x t heap =
      let sent : IsSent c source x t.message =
      w.sent source x (o.delivered source x) t.message t.first in
      let below = sent.below in
      let count = w.count in
      heap_delivery ops c o o' w.within w.heap_requests source x t (w.sound x t.core t.there)
      (omega (arith, below, count)) sent.apart heap

  delivered_heap_requests : (o o' : FifoWorld (Host S)) → IsSoundWorldBy sends ops c o
      → (source x : ℕ) (t : Delivers (host_rules ops) o source x o') (b : Bool)
      → is_of_pages t.message.content ≡ b → AreHeapRequests o'
  delivered_heap_requests o o' w source x t true about =
      page_heap_requests ops o o' w.within w.heap_requests source x t about
  delivered_heap_requests o o' w source x t false heap =
      requests_of_heap ops o o' w.within w.heap_requests source x t heap (fits_heap o o' w source x t heap)

module _ {S : Type 0} {sends : Bool} (ops : Ops S) (c : Config)
    (well_behaved : IsWellBehaved (host_rules ops) c (IsSoundHost ops c)) where
  -- an event of node x keeps it so
  event_sound : (o o' : FifoWorld (Host S)) (x : ℕ) (h after : Host S) (ps : List Parcel)
      (delivered : ℕ → ℕ → ℕ) → IsSoundWorldBy sends ops c o → slice_get o.cores x ≡ Some h
      → o'.cores ≡ slice_set o.cores x after
      → o'.posted ≡ extended o.posted ps → o'.delivered ≡ delivered
      → ((i j : ℕ) → delivered i j ≤ length (o.posted i j))
      → IsSoundHost ops c x after × All (FitsParcel c x) ps
      → after.memory.coherence.sends_on ≡ h.memory.coherence.sends_on → AreHeapRequests o'
      → IsSoundWorldBy sends ops c o'
  event_sound o o' x h after ps delivered w there cores sent done within good same heap_requests = record {
    count = ap length cores ∙ length-set o.cores x after ∙ w.count;
    sound = λ i k is. elim (get_set o.cores x h after i there) [
      | inl y ↦
          subst (λ z. IsSoundHost ops c z k) (sym y.0)
          (subst (IsSoundHost ops c x)
          (same_Some after k (sym y.1 ∙ ap (λ l. slice_get l i) (sym cores) ∙ is)) good.0)
      | inr y ↦ w.sound i k (sym y.1 ∙ ap (λ l. slice_get l i) (sym cores) ∙ is)
    ];
    rule = λ i k is. elim (get_set o.cores x h after i there) [
      | inl y ↦
          ap (λ (z : Host S). z.memory.coherence.sends_on)
          (sym (same_Some after k (sym y.1 ∙ ap (λ l. slice_get l i) (sym cores) ∙ is)))
          ∙ same ∙ w.rule x h there
      | inr y ↦ w.rule i k (sym y.1 ∙ ap (λ l. slice_get l i) (sym cores) ∙ is)
    ];
    sent = λ i j k m is.
        elim (get_either (o.posted i j) (posted i j ps) k m
        (ap (λ g. slice_get (g i j) k) (sym sent) ∙ is)) [
          | inl y ↦ w.sent i j k m y
          | inr y ↦ posted-sent c x i j ps y.0 m good.1 y.1
        ];
    within = λ i j.
        (let less = within i j in
        let now : o'.delivered i j ≡ delivered i j = ap (λ g. g i j) done in
        let long : length (o'.posted i j) ≡ length (o.posted i j) + length (posted i j ps) =
        ap (λ g. length (g i j)) sent ∙ length-append (o.posted i j) (posted i j ps) in
        omega (arith, less, now, long));
    heap_requests = heap_requests;
  }

  -- and so does each step
  pub steps_sound : (o o' : FifoWorld (Host S)) → IsSoundWorldBy sends ops c o
      → Steps (host_rules ops) o o' → IsSoundWorldBy sends ops c o'
  steps_sound o o' w (rests same) = subst (IsSoundWorldBy sends ops c) (sym same) w
  steps_sound o o' w (turns x t) =
      let good : IsSoundHost ops c x t.core = w.sound x t.core t.there in
      event_sound o o' x t.core t.outcome.after t.outcome.posted o.delivered w t.there t.cores
      t.posted t.delivered w.within (well_behaved.turn x t.core t.outcome good t.turned)
      (turn-same ops t.core t.outcome t.turned).sends_on
      (turn_heap_requests ops o o' w.within w.heap_requests c x t good
      (turn_cases ops c x t.core good t.outcome t.turned))
  steps_sound o o' w (delivers source x t) =
      let sent : IsSent c source x t.message =
      w.sent source x (o.delivered source x) t.message t.first in
      event_sound o o' x t.core ((host_rules ops).serve t.core source t.message).after
      ((host_rules ops).serve t.core source t.message).posted (one_more o.delivered source x) w
      t.there t.cores t.posted t.delivered
      (within_taken o w.within source x t.message t.first)
      (well_behaved.serve x source t.core t.message (w.sound x t.core t.there) sent.below sent.apart
      sent.fits)
      (serving-same ops t.core source t.message).sends_on
      (delivered_heap_requests ops c o o' w source x t (is_of_pages t.message.content) refl)
