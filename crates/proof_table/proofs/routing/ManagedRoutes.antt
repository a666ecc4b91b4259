-- The routes under managing nodes.
use Rattle.std.proofs.Common.{◌≡◌, ◌≢◌, ◌<◌, ◌≤◌, ◌+◌, ◌%◌, ℕ, zero, suc, Bool, false, sym, subst, inl, inr, arith, mod-lt}
use Rattle.std.proofs.lemmas.Bool.{cases_eq}
use Rattle.ivy_model.specs.declared.Config.{Config}
use Rattle.ivy_model.specs.stated.Config.{IsConfig}
use Rattle.ivy_wire.specs.declared.Content.TheVariants as content
use Rattle.ivy_fixed.specs.stated.Fixed.{Owners, hop_of}
use Rattle.proof_table.specs.stated.Letters.{Net}
use Rattle.proof_table.specs.stated.Orderly.{IsOrderly}
use Rattle.proof_table.specs.stated.Descending.{IsAsked}
use Rattle.proof_table.specs.routing.Claiming.{claims, IsReader, asking, getting}
use Rattle.proof_table.specs.routing.Managing.{IsRoutedByManaging, WriteTurns, HasTurns, IsManaged}
use Rattle.proof_table.specs.stated.Waiting.{IsAwaited}
use Rattle.proof_table.specs.stated.Routing.{follows, hops, LeadTo, AreRoutes, AreManaged}
use Rattle.proof_table.proofs.routing.Claims.{reader_unclaimed, writer_claims}
use Rattle.proof_table.proofs.routing.Descent.{height, reader_down, writer_down, hop_down_elsewhere, hop_down_here}
use Rattle.proof_table.proofs.routing.Found.{IsInside, lead_on, lead_once, plain_away, are_routes}
use Rattle.proof_table.proofs.routing.Hops.{hop_elsewhere}

module _ (c : Config) (limits : IsConfig c) (m : ℕ → Owners) (n : Net) (order : IsOrderly c n)
    (managed : IsManaged c m n) (page : ℕ) (lt : page < c.pages) where
  abbrev manager : ℕ
  manager = page % c.nodes

  abbrev next : ℕ → ℕ
  next i = hop_of (m i) page

  abbrev claiming : ℕ → Bool
  claiming y = claims (n.entry y page)

  routed : IsRoutedByManaging claiming (IsAsked n (content.WriteReq page)) (IsReader n page) manager
      (next manager)
  routed = managed.routed page lt

  abbrev turns : WriteTurns
  turns = (managed.turns page lt).0

  has_turns : HasTurns claiming (IsAsked n (content.WriteReq page)) (IsReader n page) manager
      (next manager) turns
  has_turns = (managed.turns page lt).1

  pub manager_below : manager < c.nodes
  manager_below = mod-lt page (let f = limits.nodes_from in omega (arith, f))

  abbrev depth : ℕ → ℕ
  depth = height claiming (IsAsked n (content.WriteReq page)) (IsReader n page) manager
      (next manager) routed turns has_turns

  hop_lower : (node : ℕ) → node < c.nodes → claiming node ≡ false → depth (next node) < depth node
  hop_lower node below plain = elim (cases_eq node manager) [
    | inr ne ↦
        subst (λ v. depth v < depth node)
        (sym (hop_elsewhere (m node) node c.nodes page (managed.me node below)
        (managed.nodes node below) ne))
        (hop_down_elsewhere claiming _ _ manager (next manager) routed turns has_turns node ne
        plain)
    | inl same ↦
        subst (λ i. depth (next i) < depth i) (sym same)
        (hop_down_here claiming _ _ manager (next manager) routed turns has_turns
        (subst (λ i. claiming i ≡ false) same plain))
  ]

  pub managed_routes : IsAwaited n → IsInside c n page next → AreRoutes c n page next
  managed_routes waits inside = are_routes c n page next order waits inside depth
      (record {
        reads = λ i y k. reader_down claiming _ _ manager (next manager) routed turns has_turns i y
            (asking k) (reader_unclaimed c n order page i y k);
        writes =
            λ i y k. writer_down claiming _ _ manager (next manager) routed turns has_turns i y k
            (writer_claims c n order page i y k);
      })
      (λ source node plain k. reader_down claiming _ _ manager (next manager) routed turns has_turns
      node source (getting k) plain) hop_lower

  -- the chain of requests leads up to the latest of all
  on_route_from : (fuel node at : ℕ) → turns.latest < turns.turn node + fuel → node ≢ manager
      → at ≢ manager → IsAsked n (content.WriteReq page) node at → LeadTo c n page next manager node
  on_route_from zero node at lt ne away k =
      absurd (let f : turns.turn node ≤ turns.latest = has_turns.bounded node in
      omega (arith, lt, f))
  on_route_from (suc fuel) node at lt ne away k = elim (routed.chained node at ne away k) [
    | inr kept ↦
        lead_once c n page next manager node
        (hops (plain_away c n page next order manager manager_below kept.0) kept.1)
    | inl other ↦ elim (cases_eq other.0 manager) [
      | inl same ↦
          lead_once c n page next manager node
          (follows (subst (λ i. IsAsked n (content.WriteReq page) i node) same other.1))
      | inr another ↦ (
          let later : turns.turn node < turns.turn other.0 =
          has_turns.writer_later other.0 node ne another other.1 in
          lead_on c n page next manager other.0 node
          (on_route_from fuel other.0 node (omega (arith, lt, later)) another ne other.1)
          (follows other.1)
          )
    ]
  ]

  pub managed_besides : AreManaged c n page next
  managed_besides = record {
    on_route =
        λ node at ne away k. on_route_from (suc turns.latest) node at (omega arith) ne away k;
    asks = λ at k. routed.manager_reads at (asking k);
    receives = λ source k. routed.manager_reads source (getting k);
  }
