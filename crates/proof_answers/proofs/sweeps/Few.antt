-- Of each node and page one message at most is under way from one node to another, and of a node
-- the messages are of the page at whose entry its word waits, and of those that it fetches.
use Rattle.std.proofs.Common.{◌≡◌, ◌≢◌, ◌<◌, ◌≤◌, ◌+◌, ℕ, zero, suc, Bool, true, not, List, [], ◌∷◌, length, map, take, drop, filter}
use Rattle.std.proofs.Common.{slice_get, Option, Some, None, ◌||◌, ◌==◌, refl, sym, ap, subst, ◌∙◌, arith, inl, inr}
use Rattle.std.specs.List.{Contains, list_any}
use Rattle.std.proofs.lemmas.Bool.{cases_eq, ne_eqb, true≢false}
use Rattle.std.proofs.lemmas.List.{take-append-drop}
use Rattle.std.proofs.lemmas.List.Elements.{filter-append}
use Rattle.std.proofs.lemmas.List.Filters.{length-filter_both}
use Rattle.std.proofs.lemmas.Map.Keys.{IsDistinct-from_apart}
use Rattle.std.proofs.lemmas.Map.Steps.{length-le_from_distinct_below}
use Rattle.std.proofs.lemmas.Option.{same_Some, none-some, slice_get_cases, get_or_from_slice_get}
use Rattle.std.proofs.Math.Seq.{drop-append_seam}
use Rattle.ivy_model.specs.declared.Config.{Config}
use Rattle.ivy_wire.specs.declared.Content.TheVariants as content
use Rattle.ivy_wire.specs.stated.Data.{Content, Message}
use Rattle.ivy_pagetable.specs.declared.Entry.{Entry}
use Rattle.ivy_pagetable.specs.declared.Entry.TheVariants as entry
use Rattle.ivy_pagetable.specs.stated.Entries.{is_locked}
use Rattle.ivy_pagetable.specs.stated.Manager.{Ops}
use Rattle.ivy_moves.specs.stated.FifoWorld.{FifoWorld}
use Rattle.ivy_host.specs.stated.Hosts.{Host}
use Rattle.ivy_host.specs.stated.Sound.{IsSoundHost}
use Rattle.ivy_alloc.specs.declared.HeapRequest.{HeapRequest}
use Rattle.ivy_alloc.specs.declared.HeapRequest.TheVariants as heap_request
use Rattle.ivy_alloc.specs.stated.HeapCalls.{is_of_pages}
use Rattle.proof_table.specs.stated.Letters.{Letter, Net, Underway, IsAt}
use Rattle.proof_table.specs.stated.Orderly.{Own, Order, key_as, key_of, AwaitsCopy, AwaitsPage, Collects, IsExpectedAs, IsOrderly}
use Rattle.proof_worlds.specs.stated.HeapRequests.{heap_way, IsHeapRequestAt, resting, asking, answered, AreHeapRequests}
use Rattle.proof_worlds.specs.stated.Nets.{about_pages, entry_of, net_of}

-- the list from where its first part ends, of which a test keeps some
filter_drop : {X : Type 0} (p : X → Bool) (n : ℕ) (xs : List X)
    → drop (length (filter p (take n xs))) (filter p xs) ≡ filter p (drop n xs)
filter_drop p n xs =
    ap (λ l. drop (length (filter p (take n xs))) (filter p l)) (sym (take-append-drop n xs))
    ∙ ap (drop (length (filter p (take n xs)))) (filter-append p (take n xs) (drop n xs))
    ∙ drop-append_seam (filter p (take n xs)) (filter p (drop n xs))

get_drop : {X : Type 0} (d : ℕ) (xs : List X) (k : ℕ) (x : X) → slice_get (drop d xs) k ≡ Some x
    → slice_get xs (d + k) ≡ Some x
get_drop zero xs k x is = subst (λ z. slice_get xs z ≡ Some x) (omega arith) is
get_drop (suc d) [] k x is = absurd (none-some x is)
get_drop (suc d) (y ∷ xs) k x is =
    subst (λ z. slice_get (y ∷ xs) z ≡ Some x)
    (let e : suc (d + k) ≡ suc d + k = omega arith in e) (get_drop d xs k x is)

pub get_mapped : {X Y : Type 0} (f : X → Y) (xs : List X) (y : Y) (k : ℕ)
    → slice_get (map f xs) k ≡ Some y → (x : X) × (slice_get xs k ≡ Some x) × (y ≡ f x)
get_mapped f [] y k h = absurd (none-some y h)
get_mapped f (x ∷ xs) y zero h = (x, refl, sym (same_Some (f x) y h))
get_mapped f (x ∷ xs) y (suc k) h = get_mapped f xs y k h

-- where a number stands
any_place : (q : ℕ) (xs : List ℕ) → list_any (λ x. q == x) xs ≡ true
    → (k : ℕ) × (slice_get xs k ≡ Some q)
any_place q [] is = absurd (true≢false (sym is))
any_place q (x ∷ xs) is = elim (cases_eq q x) [
  | inl same ↦ (0, ap Some (sym same))
  | inr ne ↦
      (let rest = any_place q xs
      (sym (ap (λ b. b || list_any (λ y. q == y) xs) (ne_eqb q x ne)) ∙ is) in
      (suc rest.0, rest.1))
]

-- numbers below n that stand at one place each are at most n
few_apart : (n : ℕ) (xs : List ℕ) → ((k x : ℕ) → slice_get xs k ≡ Some x → x < n)
    → ((k l x : ℕ) → k < l → slice_get xs k ≡ Some x → slice_get xs l ≡ Some x → ⊥)
    → length xs ≤ n
few_apart n xs below once =
    length-le_from_distinct_below xs n
    (IsDistinct-from_apart (λ x y. x == y) xs
    (λ k l d lt within.
    elim (slice_get_cases xs k).1 [
      | inr past ↦ absurd (let a = past.0 in omega (arith, a, lt, within))
      | inl first ↦
          elim (slice_get_cases xs l).1 [
            | inr past ↦ absurd (let a = past.0 in omega (arith, a, within))
            | inl last ↦
                rw (
                  get_or_from_slice_get xs k first.0 d first.2,
                  get_or_from_slice_get xs l last.0 d last.2,
                )
                (ne_eqb first.0 last.0
                (λ same. once k l first.0 lt first.2
                (last.2 ∙ ap Some (sym same))))
          ]
    ]))
    (λ q any. (let at = any_place q xs any in below at.0 q at.1))

-- the word waits at its own entry for a copy or the page, or for others to give their copies up
abbrev WaitsItself : Entry → Type 0
WaitsItself (entry.Idle s) = ⊥
WaitsItself (entry.AwaitRead s) = Unit {0}
WaitsItself (entry.AwaitWrite s) = Unit {0}
WaitsItself (entry.AwaitAcks s) = ⊥

abbrev WaitsForOthers : Entry → Type 0
WaitsForOthers (entry.Idle s) = ⊥
WaitsForOthers (entry.AwaitRead s) = ⊥
WaitsForOthers (entry.AwaitWrite s) = ⊥
WaitsForOthers (entry.AwaitAcks s) = Unit {0}

copy_itself : (e : Entry) (call : ℕ) → AwaitsCopy e call → WaitsItself e
copy_itself (entry.Idle s) call h = h
copy_itself (entry.AwaitRead s) call h = tt
copy_itself (entry.AwaitWrite s) call h = absurd h
copy_itself (entry.AwaitAcks s) call h = h

page_itself : (e : Entry) (call : ℕ) → AwaitsPage e call → WaitsItself e
page_itself (entry.Idle s) call h = h
page_itself (entry.AwaitRead s) call h = absurd h
page_itself (entry.AwaitWrite s) call h = tt
page_itself (entry.AwaitAcks s) call h = h

collects_others : (e : Entry) (call x : ℕ) → Collects e call x → WaitsForOthers e
collects_others (entry.Idle s) call x h = h
collects_others (entry.AwaitRead s) call x h = h
collects_others (entry.AwaitWrite s) call x h = h
collects_others (entry.AwaitAcks s) call x h = tt

itself_locks : (e : Entry) → WaitsItself e → is_locked e ≡ true
itself_locks (entry.Idle s) h = absurd h
itself_locks (entry.AwaitRead s) h = refl
itself_locks (entry.AwaitWrite s) h = refl
itself_locks (entry.AwaitAcks s) h = absurd h

others_lock : (e : Entry) → WaitsForOthers e → is_locked e ≡ true
others_lock (entry.Idle s) h = absurd h
others_lock (entry.AwaitRead s) h = absurd h
others_lock (entry.AwaitWrite s) h = absurd h
others_lock (entry.AwaitAcks s) h = refl

not_both : (e : Entry) → WaitsItself e → WaitsForOthers e → ⊥
not_both (entry.Idle s) h k = h
not_both (entry.AwaitRead s) h k = k
not_both (entry.AwaitWrite s) h k = k
not_both (entry.AwaitAcks s) h k = h

-- What a letter is to its origin: of the word that waits there, or of an order to another node, on
-- its way there or back.
data Role (n : Net) (l : Letter) : Type 0 where
  own : (page : ℕ) → key_of l ≡ Own l.message.origin page
      → WaitsItself (n.entry l.message.origin page) → Role n l
  ordering : (page : ℕ) → key_of l ≡ Order l.message.origin l.dest page
      → l.source ≡ l.message.origin → WaitsForOthers (n.entry l.message.origin page) → Role n l
  answering : (page : ℕ) → key_of l ≡ Order l.message.origin l.source page
      → l.dest ≡ l.message.origin → WaitsForOthers (n.entry l.message.origin page) → Role n l

role_as : (c : Config) (n : Net) (l : Letter) (body : Content) → l.message.content ≡ body
    → IsExpectedAs c n l body → Role n l
role_as c n l (content.ReadReq page) is h =
    own page (ap (key_as l) is)
    (copy_itself (n.entry l.message.origin page) l.message.call h.1)
role_as c n l (content.WriteReq page) is h =
    own page (ap (key_as l) is)
    (page_itself (n.entry l.message.origin page) l.message.call h.1)
role_as c n l (content.ReadRep page bytes) is h =
    own page (ap (key_as l) is)
    (copy_itself (n.entry l.message.origin page) l.message.call h.2)
role_as c n l (content.WriteRep page copies bytes) is h =
    own page (ap (key_as l) is)
    (page_itself (n.entry l.message.origin page) l.message.call h.2)
role_as c n l (content.Inval page) is h =
    ordering page (ap (key_as l) is) h.1
    (collects_others (n.entry l.message.origin page) l.message.call l.dest h.2)
role_as c n l (content.InvalAck page) is h =
    answering page (ap (key_as l) is) h.1
    (collects_others (n.entry l.message.origin page) l.message.call l.source h.2)
role_as c n l (content.AllocReq size) is h = absurd h
role_as c n l (content.AllocRep code addr) is h = absurd h
role_as c n l (content.FreeReq addr) is h = absurd h
role_as c n l (content.FreeRep code) is h = absurd h

origin_below : (c : Config) (n : Net) (l : Letter) (body : Content) → IsExpectedAs c n l body
    → l.message.origin < c.nodes
origin_below c n l (content.ReadReq page) h = h.0.below
origin_below c n l (content.WriteReq page) h = h.0.below
origin_below c n l (content.ReadRep page bytes) h = h.0.below
origin_below c n l (content.WriteRep page copies bytes) h = h.0.below
origin_below c n l (content.Inval page) h = h.0.below
origin_below c n l (content.InvalAck page) h = h.0.below
origin_below c n l (content.AllocReq size) h = absurd h
origin_below c n l (content.AllocRep code addr) h = absurd h
origin_below c n l (content.FreeReq addr) h = absurd h
origin_below c n l (content.FreeRep code) h = absurd h

-- the page at which the letter's origin waits
page_in : (n : Net) (l : Letter) → Role n l
    → (page : ℕ) × (is_locked (n.entry l.message.origin page) ≡ true)
page_in n l (own page key waits) =
    (page, itself_locks (n.entry l.message.origin page) waits)
page_in n l (ordering page key from waits) =
    (page, others_lock (n.entry l.message.origin page) waits)
page_in n l (answering page key to waits) =
    (page, others_lock (n.entry l.message.origin page) waits)

-- where something of a list stands
contained : (xs : List ℕ) (x : ℕ) → Contains xs x
    → (k : ℕ) × (k < length xs) × (slice_get xs k ≡ Some x)
contained [] x h = absurd (omega (arith, h.1))
contained (y ∷ ys) x (zero, lt, is) = (0, omega arith, ap Some is)
contained (y ∷ ys) x (suc k, lt, is) =
    let rest : (j : ℕ) × (j < length ys) × (slice_get ys j ≡ Some x) =
    contained ys x (k, omega (arith, lt), is) in
    let low = rest.1 in
    (suc rest.0, omega (arith, low), rest.2)

-- numbers for what stands in a list, each of which is so to its element
record AreCodes (ms : List Message) (Of : Message → ℕ → Type 0) : Type 0 where
  codes : List ℕ
  many : length codes ≡ length ms
  each : (k x : ℕ) → slice_get codes k ≡ Some x
      → (m : Message) × (slice_get ms k ≡ Some m) × Of m x

-- one more
with_code : (m : Message) (ms : List Message) (Of : Message → ℕ → Type 0) (x : ℕ) → Of m x
    → AreCodes ms Of → AreCodes (m ∷ ms) Of
with_code m ms Of x is rest = record {
  codes = x ∷ rest.codes;
  many = (let a = rest.many in omega (arith, a));
  each = by_place;
}
  where
    by_place : (k y : ℕ) → slice_get (x ∷ rest.codes) k ≡ Some y
        → (l : Message) × (slice_get (m ∷ ms) k ≡ Some l) × Of l y
    by_place zero y at = (m, refl, subst (Of m) (same_Some x y at) is)
    by_place (suc k) y at = rest.each k y at

coded : (ms : List Message) (Of : Message → ℕ → Type 0)
    → ((k : ℕ) (m : Message) → slice_get ms k ≡ Some m → (x : ℕ) × Of m x) → AreCodes ms Of
coded [] Of each = record {
  codes = [];
  many = refl;
  each = λ k x at. absurd (none-some x at);
}
coded (m ∷ ms) Of each =
    let first : (x : ℕ) × Of m x = each 0 m refl in
    with_code m ms Of first.0 first.1 (coded ms Of (λ k l at. each (suc k) l at))

-- A page for which a node waits, by number: those that it fetches, and last the one of its word.
data IsSlot {S : Type 0} (most : ℕ) (h : Host S) (page s : ℕ) : Type 0 where
  of_word : s ≡ most → h.memory.coherence.locked ≡ Some page → IsSlot most h page s
  of_fetch : s < most → slice_get h.memory.coherence.fetched s ≡ Some page → IsSlot most h page s

same_slot : {S : Type 0} (most : ℕ) (h : Host S) (p q s : ℕ) → IsSlot most h p s → IsSlot most h q s
    → p ≡ q
same_slot most h p q s (of_word last a) (of_word end b) = same_Some p q (sym a ∙ b)
same_slot most h p q s (of_word last a) (of_fetch low b) = absurd (omega (arith, last, low))
same_slot most h p q s (of_fetch low a) (of_word last b) = absurd (omega (arith, last, low))
same_slot most h p q s (of_fetch low a) (of_fetch less b) = same_Some p q (sym a ∙ b)

-- A number for each node and slot, below `total`.
pub record IsCode (nodes most total : ℕ) (code : ℕ → ℕ → ℕ) : Type 0 where
  pub below : (x s : ℕ) → x < nodes → s ≤ most → code x s < total
  pub apart : (x y s t : ℕ) → s ≤ most → t ≤ most → code x s ≡ code y t → (x ≡ y) × (s ≡ t)

-- where each node fetches so many pages at most
module _ {S : Type 0} (ops : Ops S) (c : Config) (o : FifoWorld (Host S))
    (orderly : IsOrderly c (net_of o))
    (sound : (i : ℕ) (h : Host S) → slice_get o.cores i ≡ Some h → IsSoundHost ops c i h)
    (most total : ℕ) (code : ℕ → ℕ → ℕ) (is_code : IsCode c.nodes most total code)
    (fetched : (i : ℕ) (h : Host S) → slice_get o.cores i ≡ Some h
    → length h.memory.coherence.fetched ≤ most)
    (heap_requests : AreHeapRequests o) where
  abbrev n : Net
  n = net_of o

  -- a locked entry of a node has a number there
  record IsLockedAt (x p : ℕ) : Type 0 where
    host : Host S
    there : slice_get o.cores x ≡ Some host
    slot : ℕ
    few : slot ≤ most
    is : IsSlot most host p slot

  locked_at : (x p : ℕ) → is_locked (n.entry x p) ≡ true → IsLockedAt x p
  locked_at x p is = elim (slice_get_cases o.cores x).1 [
    | inl there ↦
        (elim ((sound x there.0 there.2).memory.coherent.others p
        (ap (λ z. is_locked (entry_of z p)) (sym there.2) ∙ is)) [
          | inl waits ↦ record {
            host = there.0;
            there = there.2;
            slot = most;
            few = omega arith;
            is = of_word refl waits;
          }
          | inr among ↦
              (let k = contained there.0.memory.coherence.fetched p among in
              let low = k.1 in
              let all = fetched x there.0 there.2 in
              record {
                host = there.0;
                there = there.2;
                slot = k.0;
                few = omega (arith, low, all);
                is = of_fetch (omega (arith, low, all)) k.2;
              })
        ])
    | inr past ↦
        absurd (true≢false (sym is ∙ ap (λ z. is_locked (entry_of z p)) past.1))
  ]

  -- letters of one origin from one node to another have one key
  same_key : (l m : Letter) → l.source ≡ m.source → l.dest ≡ m.dest → l.source ≢ l.dest
      → l.message.origin ≡ m.message.origin → (a : Role n l) → (b : Role n m)
      → (page_in n l a).0 ≡ (page_in n m b).0 → key_of l ≡ key_of m
  unfolding page_in
  same_key l m from to apart of (own p key w) (own q other v) same =
      key ∙ ap (λ x. Own x p) of ∙ ap (Own m.message.origin) same ∙ sym other
  same_key l m from to apart of (own p key w) (ordering q other at v) same =
      absurd (not_both (n.entry m.message.origin q)
      (subst (λ x. WaitsItself (n.entry x q)) of
      (subst (λ z. WaitsItself (n.entry l.message.origin z)) same w)) v)
  same_key l m from to apart of (own p key w) (answering q other at v) same =
      absurd (not_both (n.entry m.message.origin q)
      (subst (λ x. WaitsItself (n.entry x q)) of
      (subst (λ z. WaitsItself (n.entry l.message.origin z)) same w)) v)
  same_key l m from to apart of (ordering p key at w) (own q other v) same =
      absurd (not_both (n.entry m.message.origin q) v
      (subst (λ x. WaitsForOthers (n.entry x q)) of
      (subst (λ z. WaitsForOthers (n.entry l.message.origin z)) same w)))
  same_key l m from to apart of (ordering p key at w) (ordering q other here v) same =
      key ∙ ap (λ x. Order x l.dest p) of ∙ ap (λ x. Order m.message.origin x p) to
      ∙ ap (Order m.message.origin m.dest) same ∙ sym other
  same_key l m from to apart of (ordering p key at w) (answering q other here v) same =
      absurd (apart (at ∙ of ∙ sym here ∙ sym to))
  same_key l m from to apart of (answering p key at w) (own q other v) same =
      absurd (not_both (n.entry m.message.origin q) v
      (subst (λ x. WaitsForOthers (n.entry x q)) of
      (subst (λ z. WaitsForOthers (n.entry l.message.origin z)) same w)))
  same_key l m from to apart of (answering p key at w) (ordering q other here v) same =
      absurd (apart (from ∙ here ∙ sym of ∙ sym at))
  same_key l m from to apart of (answering p key at w) (answering q other here v) same =
      key ∙ ap (λ x. Order x l.source p) of ∙ ap (λ x. Order m.message.origin x p) from
      ∙ ap (Order m.message.origin m.source) same ∙ sym other

  abbrev IsFew : ℕ → ℕ → Type 0
  IsFew i j = length (drop (o.delivered i j) (o.posted i j)) ≤ total

  module _ (i j : ℕ) (apart : i ≢ j) where
    -- the messages about pages under way
    abbrev ways : List Message
    ways = about_pages (drop (o.delivered i j) (o.posted i j))

    abbrev letter : Message → Letter
    letter m = record { source = i; dest = j; message = m }

    abbrev from_here : ℕ
    from_here = n.delivered i j

    at_place : (k : ℕ) (m : Message) → slice_get ways k ≡ Some m
        → IsAt n (Underway i j (from_here + k)) (letter m)
    at_place k m is = (
      omega arith,
      get_drop from_here (about_pages (o.posted i j)) k m
          (ap (λ l. slice_get l k)
          (filter_drop (λ (x : Message). is_of_pages x.content) (o.delivered i j) (o.posted i j))
          ∙ is),
      refl,
      refl,
    )

    role : (k : ℕ) (m : Message) → slice_get ways k ≡ Some m → Role n (letter m)
    role k m is =
        role_as c n (letter m) m.content refl
        (orderly.fits (Underway i j (from_here + k)) (letter m) (at_place k m is))

    same_number : (a b : ℕ) → Underway i j a ≡ Underway i j b → a ≡ b
    same_number a b e = cc

    -- the node that asked, and the number of the page there
    record IsOf (m : Message) (x : ℕ) : Type 0 where
      known : Role n (letter m)
      place : IsLockedAt m.origin (page_in n (letter m) known).0
      below : m.origin < c.nodes
      is : x ≡ code m.origin place.slot

    of_each : (k : ℕ) (m : Message) → slice_get ways k ≡ Some m → (x : ℕ) × IsOf m x
    of_each k m at =
        let known = role k m at in
        let page = page_in n (letter m) known in
        let place = locked_at m.origin page.0 page.1 in (
          code m.origin place.slot,
          record {
            known = known;
            place = place;
            below =
                origin_below c n (letter m) m.content
                (orderly.fits (Underway i j (from_here + k)) (letter m) (at_place k m at));
            is = refl;
          },
        )

    all : AreCodes ways IsOf
    all = coded ways IsOf of_each

    -- messages of one origin and one page have one key
    once : (k l : ℕ) (x y : Message) → k < l → slice_get ways k ≡ Some x
        → slice_get ways l ≡ Some y → (v : ℕ) → IsOf x v → IsOf y v → ⊥
    once k l x y lt a b v first last =
        let same = is_code.apart x.origin y.origin first.place.slot last.place.slot first.place.few
        last.place.few (sym first.is ∙ last.is) in
        let host : first.place.host ≡ last.place.host =
        same_Some first.place.host last.place.host
        (sym first.place.there ∙ ap (slice_get o.cores) same.0 ∙ last.place.there) in
        let page = same_slot most last.place.host (page_in n (letter x) first.known).0
        (page_in n (letter y) last.known).0 last.place.slot
        (subst (λ s. IsSlot most last.place.host (page_in n (letter x) first.known).0 s) same.1
        (subst (λ (h : Host S). IsSlot most h (page_in n (letter x) first.known).0 first.place.slot)
        host first.place.is)) last.place.is in
        let key =
        same_key (letter x) (letter y) refl refl apart same.0 first.known last.known page in
        let place : from_here + k ≡ from_here + l =
        same_number (from_here + k) (from_here + l)
        (orderly.one_letter (Underway i j (from_here + k)) (Underway i j (from_here + l)) (letter x)
        (letter y) (at_place k x a) (at_place l y b) key) in
        omega (arith, place, lt)

    codes_below : (k x : ℕ) → slice_get all.codes k ≡ Some x → x < total
    codes_below k x at =
        let m = all.each k x at in
        subst (λ z. z < total) (sym m.2.is)
        (is_code.below m.0.origin m.2.place.slot m.2.below m.2.place.few)

    codes_once : (k l x : ℕ) → k < l → slice_get all.codes k ≡ Some x
        → slice_get all.codes l ≡ Some x → ⊥
    codes_once k l x lt a b =
        let first = all.each k x a in
        let last = all.each l x b in
        once k l first.0 last.0 lt first.1 last.1 x first.2 last.2

    -- where no word of a node waits, its last number is free
    no_word : (x : ℕ) (h : Host S) → slice_get o.cores x ≡ Some h → h.memory.coherence.locked ≡ None
        → (k : ℕ) → slice_get all.codes k ≡ Some (code x most) → ⊥
    no_word x h there free k at =
        let m = all.each k (code x most) at in
        let same = is_code.apart x m.0.origin most m.2.place.slot (omega arith) m.2.place.few m.2.is in
        let it : m.2.place.host ≡ h =
        same_Some m.2.place.host h
        (sym m.2.place.there ∙ ap (slice_get o.cores) (sym same.0) ∙ there) in
        by_slot m.2.place.host it (page_in n (letter m.0) m.2.known).0 m.2.place.slot same.1
        m.2.place.is
      where
        by_slot : (k : Host S) → k ≡ h → (p s : ℕ) → most ≡ s → IsSlot most k p s → ⊥
        by_slot k it p s last (of_fetch low b) = omega (arith, last, low)
        by_slot k it p s last (of_word end b) =
            none-some p (sym free ∙ ap (λ (z : Host S). z.memory.coherence.locked) (sym it) ∙ b)

    with_one : (x : ℕ) → x < total → ((k : ℕ) → slice_get all.codes k ≡ Some x → ⊥)
        → length all.codes + 1 ≤ total
    with_one x below none =
        let few : length (x ∷ all.codes) ≤ total =
        few_apart total (x ∷ all.codes) inside apart_all in
        omega (arith, few)
      where
        inside : (k y : ℕ) → slice_get (x ∷ all.codes) k ≡ Some y → y < total
        inside zero y is = subst (λ z. z < total) (same_Some x y is) below
        inside (suc k) y is = codes_below k y is

        apart_all : (k l y : ℕ) → k < l → slice_get (x ∷ all.codes) k ≡ Some y
            → slice_get (x ∷ all.codes) l ≡ Some y → ⊥
        apart_all zero zero y lt a b = absurd (omega (arith, lt))
        apart_all zero (suc l) y lt a b =
            none l (b ∙ ap Some (sym (same_Some x y a)))
        apart_all (suc k) zero y lt a b = absurd (omega (arith, lt))
        apart_all (suc k) (suc l) y lt a b = codes_once k l y (omega (arith, lt)) a b

    -- with the messages of the heap they are all
    both : length ways + length (heap_way o i j) ≡ length (drop (o.delivered i j) (o.posted i j))
    both =
        length-filter_both (λ (m : Message). is_of_pages m.content)
        (λ (m : Message). not (is_of_pages m.content)) (λ m. refl)
        (drop (o.delivered i j) (o.posted i j))

    no_heap : heap_way o i j ≡ [] → IsFew i j
    no_heap none =
        let a = few_apart total all.codes codes_below codes_once in
        let b : length (heap_way o i j) ≡ 0 = ap length none in
        let d = all.many in
        omega (arith, a, b, d, both)

    one_heap : (x : ℕ) (h : Host S) (m : Message) (e : HeapRequest) → x < c.nodes
        → slice_get o.cores x ≡ Some h → h.memory.side.heap_request ≡ Some e → heap_way o i j ≡ m ∷ []
        → IsFew i j
    one_heap x h m e below there asked one =
        let free = ((sound x h there).memory.apart e asked).0 in
        let a = with_one (code x most) (is_code.below x most below (omega arith))
        (no_word x h there free) in
        let b : length (heap_way o i j) ≡ 1 = ap length one in
        let d = all.many in
        omega (arith, a, b, d, both)

  -- of the heap one message at most, of a node that waits at no page
  few_there : (x : ℕ) (h : Host S) → x ≢ 0 → x < c.nodes → slice_get o.cores x ≡ Some h
      → (e : Option HeapRequest) → h.memory.side.heap_request ≡ e
      → IsHeapRequestAt x e (heap_way o x 0) (heap_way o 0 x) → IsFew x 0 × IsFew 0 x
  few_there x h apart below there e is (resting rest go back) = (
    no_heap x 0 apart go,
    no_heap 0 x (λ z. apart (sym z)) back,
  )
  few_there x h apart below there e is (asking k number asked go back) = (
    one_heap x 0 apart x h _ (heap_request.Asked k number) below there (is ∙ asked) go,
    no_heap 0 x (λ z. apart (sym z)) back,
  )
  few_there x h apart below there e is (answered k number body r asked go back reply can) = (
    no_heap x 0 apart go,
    one_heap 0 x (λ z. apart (sym z)) x h _ (heap_request.Asked k number) below there (is ∙ asked) back,
  )

  pub few_under_way : (i j : ℕ) → i ≢ j → i < c.nodes → j < c.nodes → i < length o.cores
      → j < length o.cores → length (drop (o.delivered i j) (o.posted i j)) ≤ total
  few_under_way i j apart a b at there = elim (cases_eq i 0) [
    | inl home ↦
        elim (slice_get_cases o.cores j).1 [
          | inr past ↦ absurd (let z = past.0 in omega (arith, z, there))
          | inl h ↦
              (let other : j ≢ 0 = λ z. apart (home ∙ sym z) in
              subst (λ z. IsFew z j) (sym home)
              (few_there j h.0 other b h.2 h.0.memory.side.heap_request refl
              (heap_requests.each j h.0 other h.2)).1)
        ]
    | inr away ↦
        elim (cases_eq j 0) [
          | inl home ↦
              elim (slice_get_cases o.cores i).1 [
                | inr past ↦ absurd (let z = past.0 in omega (arith, z, at))
                | inl h ↦
                    subst (IsFew i) (sym home)
                    (few_there i h.0 away a h.2 h.0.memory.side.heap_request refl
                    (heap_requests.each i h.0 away h.2)).0
              ]
          | inr other ↦ no_heap i j apart (heap_requests.apart i j away other)
        ]
  ]
