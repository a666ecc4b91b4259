-- What a row posts and leaves loose: what was posted stays, a letter that is loose was there, or is
-- put off no more, and a request of another node is posted by a row that sends it on.
use Rattle.std.proofs.Common.{◌≡◌, ◌⊎◌, ◌≤◌, ◌==◌, ◌&&◌, if◌then◌else◌, ℕ, zero, suc, Bool, true, false, List, [], ◌∷◌, length, map, slice_get, Some, refl, sym, ap, ◌∙◌, subst, inl, inr, arith}
use Rattle.std.proofs.lemmas.Bool.{and_parts, eqb-true}
use Rattle.std.proofs.lemmas.Option.{same_Some, none-some, slice_get_within}
use Rattle.std.specs.FinSet as set
use Rattle.ivy_model.specs.declared.Config.{Config}
use Rattle.ivy_wire.specs.declared.Content.TheVariants as content
use Rattle.ivy_wire.specs.stated.Data.{Content, Message, Parcel}
use Rattle.ivy_wire.specs.stated.Posts.{parcel_to}
use Rattle.ivy_link.specs.stated.Paired.{posted}
use Rattle.ivy_pagetable.specs.declared.Entry.{Entry}
use Rattle.ivy_pagetable.specs.declared.PutOff.{PutOff}
use Rattle.ivy_pagetable.specs.declared.Request.{Request}
use Rattle.ivy_pagetable.specs.declared.Request.TheVariants as request
use Rattle.ivy_pagetable.specs.stated.NodeSets.{Nodes, bits_of, nodes_with}
use Rattle.ivy_coherence.specs.stated.Serving.{invalidations}
use Rattle.proof_table.specs.stated.Letters.{Letter, Net, Underway, Loose, IsAt, content_of, letter_of}
use Rattle.proof_table.specs.transitions.Letters.{goes_on, installs}
use Rattle.proof_table.specs.transitions.TableSteps.{Takes, Notice, Forwarded, Row}
use Rattle.proof_table.proofs.transitions.Parcels.{orders_posted}
use Rattle.proof_table.proofs.transitions.Places.{get_append, get_map}
use Rattle.proof_table.proofs.routing.Remaining.{IsThere, get_first}
use Rattle.proof_table.proofs.waiting.Restarts.{IsPut}
use Rattle.proof_answers.specs.steady.SendsOn.{AsksFor}

-- a row that sends this request on, or one of the node that asks
abbrev pub IsOfSender : Notice → ℕ → ℕ → ℕ → Type 0
IsOfSender notice x page asker =
    (x ≡ asker) ⊎ ((write : Bool) × (hop : ℕ) × (notice ≡ Forwarded x page write asker hop))

pub record IsPosting (n n' : Net) (notice : Notice) : Type 0 where
  pub stays : (i j k : ℕ) (m : Message) → slice_get (n.posted i j) k ≡ Some m
      → slice_get (n'.posted i j) k ≡ Some m
  pub loose : (k : ℕ) (l : Letter) → slice_get n'.loose k ≡ Some l
      → IsThere n l ⊎ IsPut l.message.content
  pub news : (x y k : ℕ) (m : Message) (page asker : ℕ) → length (n.posted x y) ≤ k
      → slice_get (n'.posted x y) k ≡ Some m → AsksFor page asker m
      → IsOfSender notice x page asker

pub put_is : (k : Request) (p : ℕ) → IsPut (content_of k p)
put_is request.Read p = tt
put_is request.Write p = tt
put_is request.Invalidate p = tt

get_if : {X : Type 0} (b : Bool) (y x : X) (k : ℕ) → slice_get (if b then y ∷ [] else []) k ≡ Some x
    → (b ≡ true) × (x ≡ y)
get_if true y x zero h = (refl, sym (same_Some y x h))
get_if true y x (suc k) h = absurd (none-some x h)
get_if false y x k h = absurd (none-some x h)

-- the one message that is posted
one_posted : (p : Parcel) (i j k : ℕ) (m : Message) → slice_get (posted i j (p ∷ [])) k ≡ Some m
    → (p.source ≡ i) × (m ≡ p.message)
one_posted p i j k m h =
    let f : ((p.source == i && p.dest == j) ≡ true) × (m ≡ p.message) =
    get_if (p.source == i && p.dest == j) p.message m k h in
    (eqb-true p.source i (and_parts (p.source == i) (p.dest == j) f.0).0, f.1)

-- of the parcels of a row
abbrev AreOfSender : Notice → List Parcel → Type 0
AreOfSender notice parcels =
    (x y k : ℕ) (m : Message) (page asker : ℕ) → slice_get (posted x y parcels) k ≡ Some m
    → AsksFor page asker m → IsOfSender notice x page asker

none_sent : (notice : Notice) → AreOfSender notice []
none_sent notice x y k m page asker h asks = absurd (none-some m h)

-- what asks for the page, and what does not ask
abbrev AsksAs : ℕ → Content → Type 0
AsksAs page body = (body ≡ content.ReadReq page) ⊎ (body ≡ content.WriteReq page)

abbrev pub IsNoRequest : Content → Type 0
IsNoRequest (content.ReadReq page) = ⊥
IsNoRequest (content.WriteReq page) = ⊥
IsNoRequest (content.ReadRep page bytes) = Unit {0}
IsNoRequest (content.WriteRep page copies bytes) = Unit {0}
IsNoRequest (content.Inval page) = Unit {0}
IsNoRequest (content.InvalAck page) = Unit {0}
IsNoRequest (content.AllocReq size) = Unit {0}
IsNoRequest (content.AllocRep code addr) = Unit {0}
IsNoRequest (content.FreeReq addr) = Unit {0}
IsNoRequest (content.FreeRep code) = Unit {0}

no_request : (page : ℕ) (body : Content) → IsNoRequest body → AsksAs page body → ⊥
no_request page body none (inl is) = subst IsNoRequest is none
no_request page body none (inr is) = subst IsNoRequest is none

-- no request is posted
quiet_sent : (notice : Notice) (x dest origin call : ℕ) (body : Content) → IsNoRequest body
    → AreOfSender notice (parcel_to x dest origin call body ∷ [])
quiet_sent notice x dest origin call body none i y k m page asker h asks =
    let one = one_posted (parcel_to x dest origin call body) i y k m h in
    absurd (no_request page body none
    (subst (λ (v : Message). AsksFor page asker v) one.1 asks).1)

orders_sent : (notice : Notice) (x p call : ℕ) (nodes : Nodes)
    → AreOfSender notice (invalidations x p call nodes)
orders_sent notice x p call nodes i y k m page asker h asks =
    let one = orders_posted x p call nodes i y k m h in
    absurd (no_request page (content.Inval p) tt
    (subst (λ (v : Message). AsksFor page asker v) one.3 asks).1)

-- a node asks itself
own_sent : (notice : Notice) (x dest call : ℕ) (body : Content)
    → AreOfSender notice (parcel_to x dest x call body ∷ [])
own_sent notice x dest call body i y k m page asker h asks =
    let one = one_posted (parcel_to x dest x call body) i y k m h in
    inl (sym one.0 ∙ (subst (λ (v : Message). AsksFor page asker v) one.1 asks).0)

read_page : (p page : ℕ) → AsksAs page (content.ReadReq p) → p ≡ page
read_page p page (inl is) = (let e : content.ReadReq p ≡ content.ReadReq page = is in cc)
read_page p page (inr is) =
    absurd (let e : content.ReadReq p ≡ content.WriteReq page = is in cc)

write_page : (p page : ℕ) → AsksAs page (content.WriteReq p) → p ≡ page
write_page p page (inl is) =
    absurd (let e : content.WriteReq p ≡ content.ReadReq page = is in cc)
write_page p page (inr is) = (let e : content.WriteReq p ≡ content.WriteReq page = is in cc)

-- it sends one on
sent_further : (x p hop origin call : ℕ) (write : Bool) (body : Content)
    → ((page : ℕ) → AsksAs page body → p ≡ page)
    → AreOfSender (Forwarded x p write origin hop) (parcel_to x hop origin call body ∷ [])
sent_further x p hop origin call write body about i y k m page asker h asks =
    let one = one_posted (parcel_to x hop origin call body) i y k m h in
    let now = subst (λ (v : Message). AsksFor page asker v) one.1 asks in
    inr (
      write,
      hop,
      ap (λ v. Forwarded v p write origin hop) one.0
          ∙ ap (λ v. Forwarded i v write origin hop) (about page now.1)
          ∙ ap (λ v. Forwarded i page write v hop) now.0,
    )

-- an entry is written and parcels are posted
wrote : (n : Net) (x p : ℕ) (z : Entry) (left : List Letter) (parcels : List Parcel)
    (notice : Notice)
    → ((k : ℕ) (l : Letter) → slice_get left k ≡ Some l → IsThere n l ⊎ IsPut l.message.content)
    → AreOfSender notice parcels → IsPosting n (goes_on n x p z left parcels) notice
wrote n x p z left parcels notice loose sent = record {
  stays = λ i j k m h. get_first (n.posted i j) (posted i j parcels) m k h;
  loose = loose;
  news = λ i y k m page asker new h asks.
      elim (get_append (n.posted i y) (posted i y parcels) m k h) [
        | inl old ↦
            absurd (let low = slice_get_within (n.posted i y) k m old in omega (arith, new, low))
        | inr is ↦ sent i y is.0 m page asker is.2 asks
      ];
}

rest_loose : (n : Net) (old : Letter) (rest : List Letter) → n.loose ≡ old ∷ rest → (k : ℕ)
    (l : Letter) → slice_get rest k ≡ Some l → IsThere n l ⊎ IsPut l.message.content
rest_loose n old rest loose k l h = inl (Loose (suc k), ap (λ v. slice_get v (suc k)) loose ∙ h)

none_loose : (n : Net) (k : ℕ) (l : Letter) → slice_get [] k ≡ Some l
    → IsThere n l ⊎ IsPut l.message.content
none_loose n k l h = absurd (none-some l h)

freed_loose : (n : Net) (x p : ℕ) (put_off : List PutOff) (k : ℕ) (l : Letter)
    → slice_get (map (letter_of x p) put_off) k ≡ Some l
    → IsThere n l ⊎ IsPut l.message.content
freed_loose n x p put_off k l h =
    let f = get_map (letter_of x p) put_off l k h in
    inr (subst (λ (v : Letter). IsPut v.message.content) (sym f.2) (put_is f.0.kind p))

installed : (n n' : Net) (x p : ℕ) (bytes : List ℕ) (notice : Notice) → IsPosting n n' notice
    → IsPosting n (installs n' x p bytes) notice
installed n n' x p bytes notice h =
    record { stays = h.stays; loose = h.loose; news = h.news }

-- nothing is posted, and these are loose
unposted : (n n' : Net) (notice : Notice)
    → ((i j k : ℕ) (m : Message) → slice_get (n.posted i j) k ≡ Some m
    → slice_get (n'.posted i j) k ≡ Some m)
    → ((k : ℕ) (l : Letter) → slice_get n'.loose k ≡ Some l → IsThere n l ⊎ IsPut l.message.content)
    → ((i j k : ℕ) (m : Message) → slice_get (n'.posted i j) k ≡ Some m
    → slice_get (n.posted i j) k ≡ Some m) → IsPosting n n' notice
unposted n n' notice stays loose back = record {
  stays = stays;
  loose = loose;
  news = λ i y k m page asker new h asks.
      absurd (let low = slice_get_within (n.posted i y) k m (back i y k m h) in
      omega (arith, new, low));
}

first_loose : (n : Net) (r : Takes n) (k : ℕ) (l : Letter)
    → slice_get (record { source = r.source; dest = r.dest; message = r.message } ∷ []) k ≡ Some l
    → IsThere n l ⊎ IsPut l.message.content
first_loose n r zero l h = inl (
  Underway r.source r.dest (n.delivered r.source r.dest),
  subst (IsAt n (Underway r.source r.dest (n.delivered r.source r.dest))) (same_Some _ l h)
      (omega arith, r.first, refl, refl),
)
first_loose n r (suc k) l h = absurd (none-some l h)

module _ (c : Config) where
  pub posting_by : {n : Net} {f : ℕ → List ℕ} {notice : Notice} {n' : Net} {f' : ℕ → List ℕ}
      → Row true c n f notice n' f' → IsPosting n n' notice
  posting_by {n = n} (Row.carries r) =
      unposted n _ _ (λ i j k m h. h) (λ k l h. inl (Loose k, h)) (λ i j k m h. h)
  posting_by {n = n} (Row.takes r) =
      unposted n _ _ (λ i j k m h. h) (first_loose n r) (λ i j k m h. h)
  posting_by {n = n} (Row.drops r) =
      unposted n _ _ (λ i j k m h. h) (rest_loose n r.old r.rest r.loose) (λ i j k m h. h)
  posting_by {n = n} (Row.shares r owner low) =
      wrote n r.node r.page _ r.rest
      (parcel_to r.node r.origin r.origin r.call
      (content.ReadRep r.page (n.page r.node r.page)) ∷ []) _
      (rest_loose n _ r.rest r.loose)
      (quiet_sent _ r.node r.origin r.origin r.call
      (content.ReadRep r.page (n.page r.node r.page)) tt)
  posting_by {n = n} (Row.gives r owner low) =
      wrote n r.node r.page _ r.rest
      (parcel_to r.node r.origin r.origin r.call
      (content.WriteRep r.page (bits_of (set.remove r.state.copies r.origin))
      (n.page r.node r.page)) ∷ []) _
      (rest_loose n _ r.rest r.loose)
      (quiet_sent _ r.node r.origin r.origin r.call
      (content.WriteRep r.page (bits_of (set.remove r.state.copies r.origin))
      (n.page r.node r.page)) tt)
  posting_by {n = n} (Row.sends_on_read r hop plain away) =
      wrote n r.node r.page _ r.rest
      (parcel_to r.node hop r.origin r.call (content.ReadReq r.page) ∷ []) _
      (rest_loose n _ r.rest r.loose)
      (sent_further r.node r.page hop r.origin r.call false (content.ReadReq r.page)
      (read_page r.page))
  posting_by {n = n} (Row.sends_on_write r hop plain away) =
      wrote n r.node r.page _ r.rest
      (parcel_to r.node hop r.origin r.call (content.WriteReq r.page) ∷ []) _
      (rest_loose n _ r.rest r.loose)
      (sent_further r.node r.page hop r.origin r.call true (content.WriteReq r.page)
      (write_page r.page))
  posting_by {n = n} (Row.reader_sends_on_read r hop sends away) =
      wrote n r.node r.page _ r.rest
      (parcel_to r.node hop r.origin r.call (content.ReadReq r.page) ∷ []) _
      (rest_loose n _ r.rest r.loose)
      (sent_further r.node r.page hop r.origin r.call false (content.ReadReq r.page)
      (read_page r.page))
  posting_by {n = n} (Row.reader_sends_on_write r hop sends away) =
      wrote n r.node r.page _ r.rest
      (parcel_to r.node hop r.origin r.call (content.WriteReq r.page) ∷ []) _
      (rest_loose n _ r.rest r.loose)
      (sent_further r.node r.page hop r.origin r.call true (content.WriteReq r.page)
      (write_page r.page))
  posting_by {n = n} (Row.ends_copy r sender plain) =
      wrote n r.node r.page _ r.rest
      (parcel_to r.node r.origin r.origin r.call
      (content.InvalAck r.page) ∷ []) _
      (rest_loose n _ r.rest r.loose)
      (quiet_sent _ r.node r.origin r.origin r.call
      (content.InvalAck r.page) tt)
  posting_by {n = n} (Row.gives_up r sender) =
      wrote n r.node r.page _ r.rest
      (parcel_to r.node r.origin r.origin r.call
      (content.InvalAck r.page) ∷ []) _
      (rest_loose n _ r.rest r.loose)
      (quiet_sent _ r.node r.origin r.origin r.call
      (content.InvalAck r.page) tt)
  posting_by {n = n} (Row.puts_off r kept) =
      wrote n r.node r.page _ r.rest [] _ (rest_loose n _ r.rest r.loose) (none_sent _)
  posting_by {n = n} (Row.copy_comes bytes r same quiet) =
      installed n _ r.node r.page bytes _
      (wrote n r.node r.page _ _ [] _ (freed_loose n r.node r.page r.state.put_off) (none_sent _))
  posting_by {n = n} (Row.copy_comes_late bytes r same late) =
      installed n _ r.node r.page bytes _
      (wrote n r.node r.page _ _ [] _ (freed_loose n r.node r.page r.state.put_off) (none_sent _))
  posting_by {n = n} (Row.page_comes copies bytes r same none) =
      installed n _ r.node r.page bytes _
      (wrote n r.node r.page _ _ [] _ (freed_loose n r.node r.page r.state.waiting.put_off)
      (none_sent _))
  posting_by {n = n} (Row.page_comes_shared copies bytes r same some out low) =
      installed n _ r.node r.page bytes _
      (wrote n r.node r.page _ [] (invalidations r.node r.page r.call (nodes_with copies)) _
      (none_loose n) (orders_sent _ r.node r.page r.call (nodes_with copies)))
  posting_by {n = n} (Row.acknowledges r same left more) =
      wrote n r.node r.page _ [] [] _ (none_loose n) (none_sent _)
  posting_by {n = n} (Row.acknowledges_last r same left last) =
      wrote n r.node r.page _ _ [] _ (freed_loose n r.node r.page r.state.waiting.put_off)
      (none_sent _)
  posting_by {n = n} (Row.asks_copy r hop plain unread away) =
      wrote n r.node r.page _ []
      (parcel_to r.node hop r.node r.call (content.ReadReq r.page) ∷ []) _ (none_loose n)
      (own_sent _ r.node hop r.call (content.ReadReq r.page))
  posting_by {n = n} (Row.asks_page r hop plain away) =
      wrote n r.node r.page _ []
      (parcel_to r.node hop r.node r.call (content.WriteReq r.page) ∷ []) _ (none_loose n)
      (own_sent _ r.node hop r.call (content.WriteReq r.page))
  posting_by {n = n} (Row.ends_copies r owner reader unwritten low out) =
      wrote n r.node r.page _ [] (invalidations r.node r.page r.call r.state.copies) _
      (none_loose n) (orders_sent _ r.node r.page r.call r.state.copies)
  posting_by {n = n} (Row.joins r) =
      wrote n r.node r.page _ [] [] _ (none_loose n) (none_sent _)
