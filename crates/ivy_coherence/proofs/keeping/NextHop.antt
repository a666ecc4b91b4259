-- Whom a node asks for a page after each call of its manager, for every manager that keeps the
-- laws.
use Rattle.std.proofs.Common.{◌≡◌, ◌≢◌, ℕ, ◌<◌, Bool, false, ◌∙◌, sym, subst, arith}
use Rattle.ivy_model.specs.declared.Config.{Config}
use Rattle.ivy_pagetable.specs.stated.Manager.{Ops}
use Rattle.ivy_pagetable.specs.Manager.{Laws, IsRouted}

-- the manager of node `me`, which asks a node for the page
pub record IsManaged {S : Type 0} (ops : Ops S) (c : Config) (me page : ℕ) (m : S) : Type 0 where
  pub here : me < c.nodes
  pub mine : ops.me m ≡ me
  pub nodes : ops.nodes m ≡ c.nodes
  pub inside : page < ops.size m
  pub hop : ops.next_hop m page < c.nodes

module _ {S : Type 0} {ops : Ops S} (laws : Laws ops) (c : Config) (me page : ℕ) (m : S)
    (at : IsManaged ops c me page m) where
  routed : IsRouted ops m page
  routed = record {
    page = at.inside;
    me = let a = at.mine in let b = at.nodes in let d = at.here in omega (arith, a, b, d);
    hop = subst (λ n. ops.next_hop m page < n) (sym at.nodes) at.hop;
  }

  node : (n : ℕ) → n < c.nodes → n < ops.nodes m
  node n lt = subst (λ k. n < k) (sym at.nodes) lt

  back : (n : ℕ) → n < ops.nodes m → n < c.nodes
  back n lt = subst (λ k. n < k) at.nodes lt

  other : (n : ℕ) → n ≢ me → n ≢ ops.me m
  other n apart e = apart (e ∙ at.mine)

  apart : (n : ℕ) → n ≢ ops.me m → n ≢ me
  apart n other e = other (e ∙ sym at.mine)

  -- a node
  pub forwarded-node : (write : Bool) (origin : ℕ) → origin < c.nodes
      → ops.next_hop (ops.on_forward m page write origin) page < c.nodes
  forwarded-node write origin lt =
      back _ (laws.hop_forward m page write origin routed (node origin lt))

  pub given-node : (to : ℕ) → to < c.nodes → ops.next_hop (ops.on_given m page to) page < c.nodes
  given-node to lt = back _ (laws.hop_given m page to routed (node to lt))

  pub replied-node : (write : Bool) (from : ℕ) → from < c.nodes
      → ops.next_hop (ops.on_replied m page write from) page < c.nodes
  replied-node write from lt = back _ (laws.hop_replied m page write from routed (node from lt))

  pub invalidated-node : (by : ℕ) → by < c.nodes
      → ops.next_hop (ops.on_invalidated m page by) page < c.nodes
  invalidated-node by lt = back _ (laws.hop_invalidated m page by routed (node by lt))

  -- another node
  pub forwarded-away : (write : Bool) (origin : ℕ) → origin ≢ me → ops.next_hop m page ≢ me
      → ops.next_hop (ops.on_forward m page write origin) page ≢ me
  forwarded-away write origin foreign away =
      apart _ (laws.away_forward m page write origin at.inside (other origin foreign)
      (other _ away))

  pub given-away : (to : ℕ) → to ≢ me → ops.next_hop (ops.on_given m page to) page ≢ me
  given-away to foreign = apart _ (laws.gone_given m page to at.inside (other to foreign))

  pub read-away : (from : ℕ) → from ≢ me → ops.next_hop m page ≢ me
      → ops.next_hop (ops.on_replied m page false from) page ≢ me
  read-away from foreign away =
      apart _ (laws.away_read m page from at.inside (other from foreign) (other _ away))

  pub invalidated-away : (by : ℕ) → by ≢ me → ops.next_hop m page ≢ me
      → ops.next_hop (ops.on_invalidated m page by) page ≢ me
  invalidated-away by foreign away =
      apart _ (laws.away_invalidated m page by at.inside (other by foreign) (other _ away))
