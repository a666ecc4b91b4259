-- How many messages are posted at most: one for each message that is served, and one to each node
-- that is told to give its copy up.
use Rattle.std.proofs.Common.{◌≡◌, inl, inr, ℕ, zero, suc, ◌+◌, ◌-◌, ◌<◌, ◌≤◌, Bool, true, false, List, [], ◌∷◌, ◌++◌, length, length-append, Option, arith}
use Rattle.std.specs.Prelude.{if◌then◌else◌}
use Rattle.std.specs.FinSet as set
use Rattle.std.specs.List.{filter, range_with_len}
use Rattle.std.proofs.lemmas.Bool.{cases_Bool}
use Rattle.std.proofs.lemmas.List.{length-map}
use Rattle.ivy_model.specs.stated.Limits.{most_nodes}
use Rattle.ivy_wire.specs.stated.Data.{Parcel}
use Rattle.ivy_pagetable.specs.declared.PutOff.{PutOff}
use Rattle.ivy_pagetable.specs.declared.Request.{Request}
use Rattle.ivy_pagetable.specs.declared.Request.TheVariants as request
use Rattle.ivy_pagetable.specs.stated.NodeSets.{Nodes, IsBelow, nodes_of}
use Rattle.ivy_pagetable.specs.stated.States.{IdleState}
use Rattle.ivy_pagetable.specs.stated.Manager.{Ops}
use Rattle.ivy_coherence.specs.stated.Serving.{Serving, serving, served_by_owner, served_by_other, served, all_served, told, put_off_served, invalidations}

one_more : (ps : List Parcel) (p : Parcel) → length (ps ++ p ∷ []) ≤ length ps + 1
one_more ps p = omega (arith, length-append ps (p ∷ []))

either_few : {S : Type 0} (n : ℕ) (b : Bool) (v w : Serving S) → length v.posted ≤ n
    → length w.posted ≤ n → length (if b then v else w).posted ≤ n
either_few n true v w one two = one
either_few n false v w one two = two

module _ {S : Type 0} (ops : Ops S) (me page : ℕ) (bytes : List ℕ) where
  owner_few : (v : Serving S) (origin call : ℕ) (kind : Request)
      → length (served_by_owner ops me page bytes v origin call kind).posted ≤ length v.posted + 1
  owner_few v origin call request.Read = one_more v.posted _
  owner_few v origin call request.Write = one_more v.posted _
  owner_few v origin call request.Invalidate = omega arith

  other_few : (v : Serving S) (origin call : ℕ) (kind : Request)
      → length (served_by_other ops me page bytes v origin call kind).posted ≤ length v.posted + 1
  other_few v origin call request.Read = one_more v.posted _
  other_few v origin call request.Write = one_more v.posted _
  other_few v origin call request.Invalidate = one_more v.posted _

  served_few : (v : Serving S) (q : PutOff)
      → length (served ops me page bytes v q).posted ≤ length v.posted + 1
  served_few v q =
      either_few (length v.posted + 1) v.idle.owner _ _ (owner_few v q.origin q.call q.kind)
      (other_few v q.origin q.call q.kind)

  pub all_served-few : (v : Serving S) (qs : List PutOff)
      → length (all_served ops me page bytes v qs).posted ≤ length v.posted + length qs
  all_served-few v [] = omega arith
  all_served-few v (q ∷ qs) =
      let rest : length (all_served ops me page bytes v (q ∷ qs)).posted
      ≤ length (served ops me page bytes v q).posted + length qs =
      all_served-few (served ops me page bytes v q) qs in
      omega (arith, served_few v q, rest)

  pub put_off_served-few : (from : ℕ) (idle : IdleState) (m : S) (breaches : ℕ) (reply : Option Request)
      (qs : List PutOff)
      → length (put_off_served ops me from page bytes idle m breaches reply qs).posted ≤ length qs
  put_off_served-few from idle m breaches reply qs =
      omega (arith, all_served-few (serving idle (told ops from page m reply) breaches []) qs)

-- a test that fails from n on passes few numbers
passed_few : (n first len : ℕ) (p : ℕ → Bool) → ((q : ℕ) → p q ≡ true → q < n)
    → length (filter p (range_with_len first len)) ≤ n - first
passed_few n first zero p below = omega arith
passed_few n first (suc len) p below =
    let rest = passed_few n (first + 1) len p below in
    elim (cases_Bool (p first)) [
      | inl y ↦ let here = below first y in rw y (omega arith)
      | inr y ↦ rw y (omega arith)
    ]

pub nodes_few : (n : ℕ) (s : Nodes) → IsBelow n s → length (nodes_of s) ≤ n
unfolding nodes_of
nodes_few n s below = omega (arith, passed_few n 0 most_nodes (set.contains s) below)

pub invalidations-few : (me page call n : ℕ) (s : Nodes) → IsBelow n s
    → length (invalidations me page call s) ≤ n
invalidations-few me page call n s below = rw length-map (nodes_few n s below)
