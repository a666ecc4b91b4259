-- What is posted where messages are served at an idle entry, and where copies are ordered back, is
-- no more work than these messages were.
use Rattle.std.proofs.Common.{◌≡◌, ◌≤◌, ◌<◌, ◌+◌, ◌*◌, ◌-◌, ℕ, Bool, true, false, List, [], ◌∷◌, ◌++◌, length, map, refl, ap, ◌∙◌, arith, if◌then◌else◌, mul-le-mul_left}
use Rattle.std.specs.Prelude.{sum_by}
use Rattle.std.specs.List.{range_with_len}
use Rattle.std.specs.FinSet as set
use Rattle.std.proofs.lemmas.List.Sums.{sum_by-cons, sum_by_push, length-filter, count_by-le-length}
use Rattle.std.proofs.lemmas.List.FromFn.{length-range_with_len}
use Rattle.ivy_model.specs.stated.Limits.{most_nodes}
use Rattle.ivy_wire.specs.declared.Content.TheVariants as content
use Rattle.ivy_wire.specs.stated.Data.{Content, Parcel}
use Rattle.ivy_pagetable.specs.declared.Entry.{Entry}
use Rattle.ivy_pagetable.specs.declared.Entry.TheVariants as entry
use Rattle.ivy_pagetable.specs.declared.PutOff.{PutOff}
use Rattle.ivy_pagetable.specs.declared.Request.{Request}
use Rattle.ivy_pagetable.specs.declared.Request.TheVariants as request
use Rattle.ivy_pagetable.specs.stated.NodeSets.{Nodes, nodes_of}
use Rattle.ivy_pagetable.specs.stated.Accesses.{reads}
use Rattle.ivy_pagetable.specs.stated.Manager.{Ops}
use Rattle.ivy_pagetable.specs.stated.States.{IdleState}
use Rattle.ivy_coherence.specs.stated.Serving.{Serving, served, served_by_owner, served_by_other, all_served}
use Rattle.ivy_wire.specs.stated.Posts.{parcel_to}
use Rattle.proof_table.specs.stated.Letters.{content_of}
use Rattle.proof_worlds.specs.progress.Ending.{work_of}

-- The work that a message makes, where each copy that is lost costs so much more.
abbrev pub heavy_of : ℕ → Content → ℕ
heavy_of lost (content.ReadReq page) = 2
heavy_of lost (content.ReadRep page bytes) = 1
heavy_of lost (content.WriteReq page) = (lost + 2) * most_nodes + lost + 2
heavy_of lost (content.WriteRep page copies bytes) = (lost + 2) * most_nodes + 1
heavy_of lost (content.Inval page) = lost + 2
heavy_of lost (content.InvalAck page) = 1
heavy_of lost (content.AllocReq size) = 2
heavy_of lost (content.AllocRep code addr) = 1
heavy_of lost (content.FreeReq addr) = 2
heavy_of lost (content.FreeRep code) = 1

-- where it costs nothing, it is the work
pub heavy_work : heavy_of 0 ≡ work_of
heavy_work = λ k b. each b k
  where
    each : (b : Content) → heavy_of 0 b ≡ work_of b
    each (content.ReadReq page) = refl
    each (content.ReadRep page bytes) = refl
    each (content.WriteReq page) = refl
    each (content.WriteRep page copies bytes) = refl
    each (content.Inval page) = refl
    each (content.InvalAck page) = refl
    each (content.AllocReq size) = refl
    each (content.AllocRep code addr) = refl
    each (content.FreeReq addr) = refl
    each (content.FreeRep code) = refl

-- what the loss costs yet of a page that no word waits for: nothing where there is a copy
abbrev pub bare_idle : ℕ → IdleState → ℕ
bare_idle lost s = if reads s.access then 0 else lost

abbrev pub bare : ℕ → Entry → ℕ
bare lost (entry.Idle s) = bare_idle lost s
bare lost (entry.AwaitRead s) = 0
bare lost (entry.AwaitWrite s) = 0
bare lost (entry.AwaitAcks s) = 0

pub bare_most : (lost : ℕ) (s : IdleState) → bare_idle lost s ≤ lost
bare_most lost s = either (reads s.access)
  where
    either : (b : Bool) → (if b then 0 else lost) ≤ lost
    either true = omega arith
    either false = omega arith

abbrev pub work_posted : ℕ → List Parcel → ℕ
work_posted lost ps = sum_by (λ (p : Parcel). heavy_of lost p.message.content) ps

abbrev pub work_put : ℕ → ℕ → List PutOff → ℕ
work_put lost page qs = sum_by (λ (q : PutOff). heavy_of lost (content_of q.kind page)) qs

pub work_some : (lost : ℕ) (b : Content) → 1 ≤ heavy_of lost b
work_some lost (content.ReadReq page) = omega arith
work_some lost (content.ReadRep page bytes) = omega arith
work_some lost (content.WriteReq page) = omega arith
work_some lost (content.WriteRep page copies bytes) = omega arith
work_some lost (content.Inval page) = omega arith
work_some lost (content.InvalAck page) = omega arith
work_some lost (content.AllocReq size) = omega arith
work_some lost (content.AllocRep code addr) = omega arith
work_some lost (content.FreeReq addr) = omega arith
work_some lost (content.FreeRep code) = omega arith

module _ (lost : ℕ) where
  one_more_posted : (ps : List Parcel) (p : Parcel) (w : ℕ) → heavy_of lost p.message.content ≡ w
      → work_posted lost (ps ++ p ∷ []) ≡ work_posted lost ps + w
  one_more_posted ps p w is =
      sum_by_push (λ (q : Parcel). heavy_of lost q.message.content) ps p
      ∙ ap (λ v. work_posted lost ps + v) is

-- what is served at an idle entry posts no more work than it was, with what its copy costs when it
-- is lost
module _ {S : Type 0} (ops : Ops S) (lost me page : ℕ) (bytes : List ℕ) where
  -- what the loss costs more than before
  abbrev pub loss : Serving S → Serving S → ℕ
  loss v u = bare_idle lost u.idle - bare_idle lost v.idle

  pub owner_work : (v : Serving S) (o call : ℕ) (k : Request)
      → work_posted lost (served_by_owner ops me page bytes v o call k).posted
      + loss v (served_by_owner ops me page bytes v o call k)
      < work_posted lost v.posted + heavy_of lost (content_of k page)
  owner_work v o call request.Read =
      let a : work_posted lost (served_by_owner ops me page bytes v o call request.Read).posted
      ≡ work_posted lost v.posted + 1 = one_more_posted lost v.posted _ 1 refl in
      omega (arith, a)
  owner_work v o call request.Write =
      let a : work_posted lost (served_by_owner ops me page bytes v o call request.Write).posted
      ≡ work_posted lost v.posted + ((lost + 2) * most_nodes + 1) =
      one_more_posted lost v.posted _ ((lost + 2) * most_nodes + 1) refl in
      let b = bare_most lost v.idle in
      omega (arith, a, b)
  owner_work v o call request.Invalidate = omega arith

  pub other_work : (v : Serving S) (o call : ℕ) (k : Request)
      → work_posted lost (served_by_other ops me page bytes v o call k).posted
      + loss v (served_by_other ops me page bytes v o call k)
      ≤ work_posted lost v.posted + heavy_of lost (content_of k page)
  other_work v o call request.Read =
      let a : work_posted lost (served_by_other ops me page bytes v o call request.Read).posted
      ≡ work_posted lost v.posted + 2 = one_more_posted lost v.posted _ 2 refl in
      omega (arith, a)
  other_work v o call request.Write =
      let a : work_posted lost (served_by_other ops me page bytes v o call request.Write).posted
      ≡ work_posted lost v.posted + ((lost + 2) * most_nodes + lost + 2) =
      one_more_posted lost v.posted _ ((lost + 2) * most_nodes + lost + 2) refl in
      omega (arith, a)
  other_work v o call request.Invalidate =
      let a : work_posted lost
      (served_by_other ops me page bytes v o call request.Invalidate).posted
      ≡ work_posted lost v.posted + 1 = one_more_posted lost v.posted _ 1 refl in
      omega (arith, a)

  served_work : (v : Serving S) (q : PutOff)
      → work_posted lost (served ops me page bytes v q).posted
      + loss v (served ops me page bytes v q)
      ≤ work_posted lost v.posted + heavy_of lost (content_of q.kind page)
  served_work v q = either v.idle.owner
    where
      by : Bool → Serving S
      by own = if own then served_by_owner ops me page bytes v q.origin q.call q.kind
          else served_by_other ops me page bytes v q.origin q.call q.kind

      either : (own : Bool) → work_posted lost (by own).posted + loss v (by own)
          ≤ work_posted lost v.posted + heavy_of lost (content_of q.kind page)
      either true = (let a = owner_work v q.origin q.call q.kind in omega (arith, a))
      either false = other_work v q.origin q.call q.kind

  pub all_served_work : (v : Serving S) (qs : List PutOff)
      → work_posted lost (all_served ops me page bytes v qs).posted
      + loss v (all_served ops me page bytes v qs)
      ≤ work_posted lost v.posted + work_put lost page qs
  all_served_work v [] = omega arith
  all_served_work v (q ∷ qs) =
      let one = served_work v q in
      let rest = all_served_work (served ops me page bytes v q) qs in
      let sum : work_put lost page (q ∷ qs)
      ≡ heavy_of lost (content_of q.kind page) + work_put lost page qs =
      sum_by-cons (λ (r : PutOff). heavy_of lost (content_of r.kind page)) q qs in
      omega (arith, one, rest, sum)

-- the orders to give copies up are no more than the nodes
pub nodes_few : (s : Nodes) → length (nodes_of s) ≤ most_nodes
unfolding nodes_of
nodes_few s =
    let a = length-filter (set.contains s) (range_with_len 0 most_nodes) in
    let b = count_by-le-length (set.contains s) (range_with_len 0 most_nodes) in
    let d = length-range_with_len 0 most_nodes in
    omega (arith, a, b, d)

pub orders_work : (lost me page call : ℕ) (nodes : List ℕ)
    → work_posted lost (map (λ node. parcel_to me node me call (content.Inval page)) nodes)
    ≡ (lost + 2) * length nodes
orders_work lost me page call [] = omega arith
orders_work lost me page call (node ∷ nodes) =
    let a : work_posted lost (map (λ v. parcel_to me v me call (content.Inval page)) nodes)
    ≡ (lost + 2) * length nodes = orders_work lost me page call nodes in
    let b : work_posted lost (map (λ v. parcel_to me v me call (content.Inval page)) (node ∷ nodes))
    ≡ (lost + 2)
    + work_posted lost (map (λ v. parcel_to me v me call (content.Inval page)) nodes) =
    sum_by-cons (λ (q : Parcel). heavy_of lost q.message.content)
    (parcel_to me node me call (content.Inval page))
    (map (λ v. parcel_to me v me call (content.Inval page)) nodes) in
    omega (arith, a, b)

-- and no more than those of all nodes
pub orders_most : (lost me page call : ℕ) (s : Nodes)
    → work_posted lost
    (map (λ node. parcel_to me node me call (content.Inval page)) (nodes_of s))
    ≤ (lost + 2) * most_nodes
orders_most lost me page call s =
    let a = orders_work lost me page call (nodes_of s) in
    let b : (lost + 2) * length (nodes_of s) ≤ (lost + 2) * most_nodes =
    mul-le-mul_left (lost + 2) (nodes_few s) in
    omega (arith, a, b)
