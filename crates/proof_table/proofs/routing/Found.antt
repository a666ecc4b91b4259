-- Routes from heights: where requests, copies on their way and next hops all lead down, routes lead
-- on to the page from everywhere, as whoever waits has its message.
use Rattle.std.proofs.Common.{◌≡◌, ◌⊎◌, ◌<◌, ◌%◌, ℕ, zero, suc, true, false, List, [], ◌∷◌, ◌++◌, refl, sym, ◌∙◌, subst, inl, inr, arith}
use Rattle.std.proofs.lemmas.Bool.{cases_Bool, both_ways}
use Rattle.ivy_model.specs.declared.Config.{Config}
use Rattle.ivy_wire.specs.declared.Content.TheVariants as content
use Rattle.ivy_pagetable.specs.declared.Entry.{Entry}
use Rattle.ivy_pagetable.specs.declared.Entry.TheVariants as entry
use Rattle.ivy_pagetable.specs.stated.Entries.{is_owner}
use Rattle.proof_table.specs.stated.Letters.{Letter, Net, Place, IsAt}
use Rattle.proof_table.specs.stated.Orderly.{AwaitsPage, IsExpectedAs, IsOrderly}
use Rattle.proof_table.proofs.transitions.Sole.{fits_as}
use Rattle.proof_table.specs.stated.Descending.{IsAsked, GoDown}
use Rattle.proof_table.specs.stated.Sending.{IsSent, HasPage, owns, comes}
use Rattle.proof_table.specs.routing.Claiming.{claims}
use Rattle.proof_table.specs.stated.Waiting.{IsWritePending, asks_page, gets_page, IsAwaited}
use Rattle.proof_table.specs.stated.Routing.{IsAway, IsRoute, follows, hops, receives, LeadAlong, LeadTo, AreRoutes, AreManaged}
use Rattle.proof_table.proofs.routing.Claims.{writer_claims, page_claimed}

-- who claims a page owns it, or awaits it
claims_either : (e : Entry) → claims e ≡ true
    → (is_owner e ≡ true) ⊎ ((call : ℕ) × AwaitsPage e call)
claims_either (entry.Idle s) h = inl h
claims_either (entry.AwaitRead s) h = absurd (let f : false ≡ true = h in cc)
claims_either (entry.AwaitWrite s) h = inr (s.waiting.call, refl)
claims_either (entry.AwaitAcks s) h = inl refl

owner_claims : (e : Entry) → is_owner e ≡ true → claims e ≡ true
owner_claims (entry.Idle s) h = h
owner_claims (entry.AwaitRead s) h = absurd (let f : false ≡ true = h in cc)
owner_claims (entry.AwaitWrite s) h = refl
owner_claims (entry.AwaitAcks s) h = refl

module _ (c : Config) (n : Net) (page : ℕ) (hop : ℕ → ℕ) where
  -- one route more
  then_route : (node mid end : ℕ) (nodes : List ℕ) → LeadAlong c n page hop node nodes mid
      → IsRoute c n page hop mid end
      → LeadAlong c n page hop node (nodes ++ end ∷ []) end
  then_route node mid end [] along route =
      (subst (λ v. IsRoute c n page hop v end) along route, refl)
  then_route node mid end (next ∷ rest) along route =
      (along.0, then_route next mid end rest along.1 route)

  pub lead_on : (node mid end : ℕ) → LeadTo c n page hop node mid → IsRoute c n page hop mid end
      → LeadTo c n page hop node end
  lead_on node mid end to route = (to.0 ++ end ∷ [], then_route node mid end to.0 to.1 route)

  pub lead_once : (node end : ℕ) → IsRoute c n page hop node end → LeadTo c n page hop node end
  lead_once node end route = (end ∷ [], (route, refl))

  module _ (order : IsOrderly c n) where
    has_claims : (node : ℕ) → HasPage n node page → claims (n.entry node page) ≡ true
    has_claims node (owns h) = owner_claims (n.entry node page) h
    has_claims node (comes a l bits bytes at dest is) = (
        let fit : IsExpectedAs c n l (content.WriteRep page bits bytes) =
        fits_as c n order a l (content.WriteRep page bits bytes) at is in
        page_claimed (n.entry node page) l.message.call
        (subst (λ i. AwaitsPage (n.entry i page) l.message.call) (sym fit.1 ∙ dest) fit.2)
        )

    pub plain_away : (node : ℕ) → node < c.nodes → claims (n.entry node page) ≡ false
        → IsAway c n page node
    plain_away node below plain = record {
      below = below;
      without = λ h. both_ways (claims (n.entry node page)) plain (has_claims node h);
      silent =
          λ at k. both_ways (claims (n.entry node page)) plain (writer_claims c n order page node at k);
    }

  away_writes : (node : ℕ) → IsAway c n page node → IsWritePending n node page → ⊥
  away_writes node away (asks_page at k) = away.silent at k
  away_writes node away (gets_page h) = away.without h

  away_plain : IsAwaited n → (node : ℕ) → IsAway c n page node → claims (n.entry node page) ≡ false
  away_plain waits node away = elim (cases_Bool (claims (n.entry node page))) [
    | inr plain ↦ plain
    | inl claiming ↦ elim (claims_either (n.entry node page) claiming) [
      | inl owner ↦ absurd (away.without (owns owner))
      | inr call ↦ absurd (away_writes node away (waits.writers node page call.0 call.1))
    ]
  ]

  -- each letter is at one of the nodes, and each next hop is one of them
  pub record IsInside : Type 0 where
    pub letters : (a : Place) (l : Letter) → IsAt n a l → l.dest < c.nodes
    pub hops : (node : ℕ) → node < c.nodes → hop node < c.nodes

  module _ (order : IsOrderly c n) (waits : IsAwaited n) (inside : IsInside) (g : ℕ → ℕ)
      (requests : GoDown n page g)
      (copies : (source node : ℕ) → claims (n.entry node page) ≡ false → IsSent n page source node
      → g source < g node)
      (down : (node : ℕ) → node < c.nodes → claims (n.entry node page) ≡ false
      → g (hop node) < g node) where
    lower : (node next : ℕ) → IsRoute c n page hop node next → g next < g node
    lower node next (follows k) = requests.writes node next k
    lower node next (hops away same) =
        subst (λ v. g v < g node) (sym same) (down node away.below (away_plain waits node away))
    lower node next (receives away k) = copies next node (away_plain waits node away) k

    -- some routes lead to a node that has the page
    abbrev IsFound : ℕ → Type 0
    IsFound node = (holder : ℕ) × HasPage n holder page × LeadTo c n page hop node holder

    after_route : (node next : ℕ) → IsRoute c n page hop node next → IsFound next → IsFound node
    after_route node next route f = (f.0, f.1, (next ∷ f.2.0, (route, f.2.1)))

    asked_below : (at node : ℕ) → IsAsked n (content.WriteReq page) node at → at < c.nodes
    asked_below at node k = subst (λ v. v < c.nodes) k.dest (inside.letters k.at k.letter k.there)

    -- from a node that awaits the page
    writing : (node : ℕ) → IsWritePending n node page
        → ((at : ℕ) → IsAsked n (content.WriteReq page) node at → IsFound at) → IsFound node
    writing node (gets_page h) on = (node, h, ([], refl))
    writing node (asks_page at k) on = after_route node at (follows k) (on at k)

    found_from : (fuel node : ℕ) → node < c.nodes → g node < fuel → IsFound node
    found_from zero node below lt = absurd (omega (arith, lt))
    found_from (suc fuel) node below lt = elim (cases_Bool (claims (n.entry node page))) [
      | inr plain ↦ (
          let less : g (hop node) < g node = down node below plain in
          after_route node (hop node) (hops (plain_away order node below plain) refl)
          (found_from fuel (hop node) (inside.hops node below) (omega (arith, less, lt)))
          )
      | inl claiming ↦ elim (claims_either (n.entry node page) claiming) [
        | inl owner ↦ (node, owns owner, ([], refl))
        | inr call ↦ writing node (waits.writers node page call.0 call.1)
            (λ at k.
            (let less : g at < g node = requests.writes node at k in
            found_from fuel at (asked_below at node k) (omega (arith, less, lt))))
      ]
    ]

    pub are_routes : AreRoutes c n page hop
    are_routes = record {
      height = g;
      lower = lower;
      reads = requests.reads;
      found = λ node below. found_from (suc (g node)) node below (omega arith);
    }

-- the next hops of all nodes are the same
module _ (c : Config) (n : Net) (page : ℕ) (hop hop' : ℕ → ℕ)
    (same : (node : ℕ) → node < c.nodes → hop' node ≡ hop node) where
  route_back : (node next : ℕ) → IsRoute c n page hop' node next → IsRoute c n page hop node next
  route_back node next (follows k) = follows k
  route_back node next (hops away is) = hops away (is ∙ same node away.below)
  route_back node next (receives away k) = receives away k

  route_on : (node next : ℕ) → IsRoute c n page hop node next → IsRoute c n page hop' node next
  route_on node next (follows k) = follows k
  route_on node next (hops away is) = hops away (is ∙ sym (same node away.below))
  route_on node next (receives away k) = receives away k

  along_on : (node end : ℕ) (nodes : List ℕ) → LeadAlong c n page hop node nodes end
      → LeadAlong c n page hop' node nodes end
  along_on node end [] along = along
  along_on node end (next ∷ rest) along =
      (route_on node next along.0, along_on next end rest along.1)

  pub same_routes : AreRoutes c n page hop → AreRoutes c n page hop'
  same_routes r = record {
    height = r.height;
    lower = λ node next route. r.lower node next (route_back node next route);
    reads = r.reads;
    found = λ node below.
        (let f = r.found node below in (f.0, f.1, (f.2.0, along_on node f.0 f.2.0 f.2.1)));
  }

  pub same_besides : page % c.nodes < c.nodes → AreManaged c n page hop → AreManaged c n page hop'
  same_besides below m = record {
    on_route =
        λ node at ne away k.
        (let f = m.on_route node at ne away k in (f.0, along_on (page % c.nodes) node f.0 f.1));
    asks = λ at k. m.asks at k ∙ sym (same (page % c.nodes) below);
    receives = λ source k. m.receives source k ∙ sym (same (page % c.nodes) below);
  }

  pub same_inside : IsInside c n page hop' → IsInside c n page hop
  same_inside i =
      record {
        letters = i.letters;
        hops = λ node below. subst (λ v. v < c.nodes) (same node below) (i.hops node below);
      }
