-- What is under way in a round, and what was delivered.
use Rattle.std.proofs.Common.{◌≡◌, ◌≢◌, ◌<◌, ◌+◌, ◌&&◌, nat_lt, ℕ, true, false, ltb, List, length, map, slice_get, Some, None, sym, ap, ◌∙◌, arith, inl, inr}
use Rattle.std.proofs.lemmas.Bool.{cases_eq, lt-ltb}
use Rattle.std.proofs.lemmas.List.{length-map}
use Rattle.std.proofs.lemmas.Option.{same_Some, none-some, slice_get_cases, slice_get_within}
use Rattle.ivy_model.specs.declared.Config.{Config}
use Rattle.ivy_wire.specs.Destinations.{dest_of}
use Rattle.ivy_link.specs.stated.Linked.{peer_at}
use Rattle.ivy_moves.specs.declared.Move.{Move}
use Rattle.ivy_moves.specs.declared.Move.TheVariants.{Turn, Deliver, Pulse}
use Rattle.ivy_moves.specs.stated.Worlds.{is_named}
use Rattle.ivy_site.specs.SiteView.{SiteView}
use Rattle.ivy_site.specs.Sites.{Awaits}
use Rattle.ivy_world.specs.WorldSites.{world_of, AreSites}
use Rattle.ivy_world.specs.WorldRounds.{IsUnderWayTo, HasNoneUnderWay, IsNextMove, IsDeliveredFrom}

pub nowhere : {X : Type 0} (xs : List X) (i : ℕ) → ltb i (length xs) ≡ false → slice_get xs i ≡ None
nowhere xs i beyond =
    elim (slice_get_cases xs i).1 [
      | inl h ↦ (let wrong : false ≡ true = sym beyond ∙ lt-ltb i (length xs) h.1 in absurd cc)
      | inr h ↦ h.1
    ]

module _ (sites : List SiteView) (string : List ℕ) where
  pub for_nobody : dest_of string ≡ None → (to : ℕ) → IsUnderWayTo sites string to → ⊥
  for_nobody none to u = none-some to (sym none ∙ u.dest)

  pub for_none_there : (d : ℕ) → dest_of string ≡ Some d → slice_get sites d ≡ None → (to : ℕ)
      → IsUnderWayTo sites string to → ⊥
  for_none_there d is none to u =
      let same : d ≡ to = same_Some d to (sym is ∙ u.dest) in
      none-some u.site (sym none ∙ ap (slice_get sites) same ∙ u.there)

  pub not_awaited : (d : ℕ) (s : SiteView) → dest_of string ≡ Some d → slice_get sites d ≡ Some s
      → (Awaits s string → ⊥) → (to : ℕ) → IsUnderWayTo sites string to → ⊥
  not_awaited d s is there not to u =
      let same : d ≡ to = same_Some d to (sym is ∙ u.dest) in
      let site : s ≡ u.site =
      same_Some s u.site (sym there ∙ ap (slice_get sites) same ∙ u.there) in
      not (rw site u.awaited)

-- one string more that is not under way
pub none_here : (sites : List SiteView) (sent : List (List ℕ)) (from index : ℕ) (string : List ℕ)
    → slice_get sent index ≡ Some string → ((to : ℕ) → IsUnderWayTo sites string to → ⊥)
    → HasNoneUnderWay sites sent from index → HasNoneUnderWay sites sent from (index + 1)
none_here sites sent from index string there not before i to above below u =
    elim (cases_eq i index) [
      | inl e ↦
          (let same : string ≡ u.string =
          same_Some string u.string (sym there ∙ ap (slice_get sent) (sym e) ∙ u.there) in
          not to (rw same u.way))
      | inr ne ↦ before i to above (omega (arith, below, ne)) u
    ]

module _ (c : Config) (sites : List SiteView) (are : AreSites c sites) where
  -- each site knows the nodes
  pub knows : (i : ℕ) (s : SiteView) → slice_get sites i ≡ Some s → (n : ℕ) → n < c.nodes
      → n < s.config.nodes
  knows i s there n lt = rw (are.config i s there) lt

module _ (sites : List SiteView) (i : ℕ) (s : SiteView) (here : slice_get sites i ≡ Some s) (j : ℕ)
    (t : SiteView) (there : slice_get sites j ≡ Some t) where
  -- something is missing
  pub not_delivered : i ≢ j
      → ((peer_at t.node.link i).delivered ≡ (peer_at s.node.link j).sent → ⊥)
      → IsDeliveredFrom sites i → ⊥
  not_delivered apart not all = not (all j s t apart here there)

  -- nothing is missing there
  pub delivered_there : (peer_at t.node.link i).delivered ≡ (peer_at s.node.link j).sent
      → (s' t' : SiteView) → slice_get sites i ≡ Some s' → slice_get sites j ≡ Some t'
      → (peer_at t'.node.link i).delivered ≡ (peer_at s'.node.link j).sent
  delivered_there is s' t' here' there' =
      let a : s ≡ s' = same_Some s s' (sym here ∙ here') in
      let b : t ≡ t' = same_Some t t' (sym there ∙ there') in
      rw (← a) (rw (← b) is)

-- all that went to the nodes below one, and what went to that one
pub one_more : (sites : List SiteView) (i to : ℕ)
    → ((j : ℕ) (s t : SiteView) → j < to → i ≢ j → slice_get sites i ≡ Some s
    → slice_get sites j ≡ Some t
    → (peer_at t.node.link i).delivered ≡ (peer_at s.node.link j).sent)
    → (i ≢ to → (s t : SiteView) → slice_get sites i ≡ Some s → slice_get sites to ≡ Some t
    → (peer_at t.node.link i).delivered ≡ (peer_at s.node.link to).sent)
    → (j : ℕ) (s t : SiteView) → j < to + 1 → i ≢ j → slice_get sites i ≡ Some s
    → slice_get sites j ≡ Some t
    → (peer_at t.node.link i).delivered ≡ (peer_at s.node.link j).sent
one_more sites i to below here j s t within apart a b =
    elim (cases_eq j to) [
      | inl e ↦ rw e (here (λ same. apart (same ∙ sym e)) s t a (rw (← e) b))
      | inr ne ↦ below j s t (omega (arith, within, ne)) apart a b
    ]

-- the next move is of what is there
pub named_next : (sites : List SiteView) (sent : List (List ℕ)) (from turn nodes : ℕ) (step : Move)
    → length sites ≡ nodes → turn < nodes → IsNextMove sites sent from turn step
    → is_named (world_of sites sent) step ≡ true
named_next sites sent from turn nodes (Turn i) each within next =
    let is : i ≡ turn = next.0 in
    let count = length-map sites (λ (s : SiteView). s.node) in
    lt-ltb i (length (map (λ (s : SiteView). s.node) sites)) (omega (arith, is, count, each, within))
named_next sites sent from turn nodes (Deliver index to) each within next =
    let way = next.1 in
    let count = length-map sites (λ (s : SiteView). s.node) in
    let here = slice_get_within sites to way.way.site way.way.there in
    ap (λ b. b && nat_lt index (length sent))
    (lt-ltb to (length (map (λ (s : SiteView). s.node) sites)) (omega (arith, here, count)))
    ∙ lt-ltb index (length sent) (slice_get_within sent index way.string way.there)
named_next sites sent from turn nodes (Pulse i j) each within next = absurd next
