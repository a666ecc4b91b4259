-- Three sweeps are a round.
use Rattle.std.proofs.Common.{◌≡◌, ◌<◌, ℕ, zero, suc, List, [], ◌∷◌, ◌++◌, slice_get, Some, sym, ap, subst, arith, inl, inr}
use Rattle.std.proofs.lemmas.Option.{same_Some, none-some, slice_get_cases, slice_get_within}
use Rattle.ivy_link.specs.stated.Linked.{Linked, Peer, peer_at}
use Rattle.ivy_moves.specs.declared.Move.TheVariants.{Turn, Pulse}
use Rattle.ivy_moves.specs.stated.Worlds.{Leads}
use Rattle.ivy_moves.proofs.Leading.{leads_on}
use Rattle.ivy_host.specs.stated.Hosts.{host_rules}
use Rattle.ivy_host.specs.stated.Managers.{managed_ops}
use Rattle.ivy_host.specs.stated.Sound.{IsSoundHost}
use Rattle.proof_answers.proofs.answers.Acknowledged.{come, known, link_here}
use Rattle.proof_answers.proofs.answers.Pulsed.{led_stands, keeps_well_behaved}
use Rattle.proof_answers.specs.sweeps.Sweeps.{SweepsDeliver, FewForSweeps, SweepsDeliverUnfetched, SweepsAreRounds, SweepsAreRoundsUnfetched}
use Rattle.proof_answers.proofs.sweeps.FewWorlds.{few_are_under_way, few_are_under_way_idle}
use Rattle.proof_answers.proofs.answers.Unhanded.{none_is_fetched}
use Rattle.proof_answers.proofs.sweeps.Sweeping.{place_of, heard_leads, goes_last, all_three}

-- a list taken apart at an element
pub record Parted {X : Type 0} (xs : List X) (x : X) : Type 0 where
  pub before : List X
  pub after : List X
  pub is : xs ≡ before ++ x ∷ after

pub part_at : {X : Type 0} (xs : List X) (k : ℕ) (x : X) → slice_get xs k ≡ Some x → Parted xs x
part_at [] k x at = absurd (none-some x at)
part_at (y ∷ xs) zero x at =
    record { before = []; after = xs; is = ap (λ z. z ∷ xs) (same_Some y x at) }
part_at (y ∷ xs) (suc k) x at =
    let rest : Parted xs x = part_at xs k x at in
    record { before = y ∷ rest.before; after = rest.after; is = ap (λ l. y ∷ l) rest.is }

pub sweeps_deliver : SweepsDeliver
sweeps_deliver opened c programs w end of few_here one two three t x y n m apart here there =
    let good = led_stands opened c programs w of in
    let well_behaved = keeps_well_behaved opened c programs w of in
    let a = t.one_is.heard in
    let b = t.two_is.heard in
    let d = t.three_is.heard in
    let nodes = good.follows.nodes in
    let below : x < c.nodes =
    (let z = slice_get_within w.nodes x n here in omega (arith, z, nodes)) in
    let last =
    goes_last c of.limits well_behaved w t.first t.second end good one two three a b d in
    let many = last.stands.follows.nodes in
    let inside : y < c.nodes =
    (let z = slice_get_within end.nodes y m there in omega (arith, z, many)) in
    elim (slice_get_cases w.nodes y).1 [
      | inr past ↦ absurd (let z = past.0 in omega (arith, z, nodes, inside))
      | inl was ↦
          (let few = few_here x y n was.0 apart here was.2 in
          let sent : known w x y ≡ peer_at n.link y =
          ap (λ l. peer_at l y)
          (link_here (host_rules managed_ops) c (IsSoundHost managed_ops c) of.limits well_behaved w good x
          n here) in
          let came : come w x y ≡ (peer_at was.0.link x).delivered =
          ap (λ (l : Linked). (peer_at l x).delivered)
          (link_here (host_rules managed_ops) c (IsSoundHost managed_ops c) of.limits well_behaved w good y
          was.0 was.2) in
          let comes : come end x y ≡ (peer_at m.link x).delivered =
          ap (λ (l : Linked). (peer_at l x).delivered)
          (link_here (host_rules managed_ops) c (IsSoundHost managed_ops c) of.limits well_behaved end
          last.stands y m there) in
          let count = ap (λ (p : Peer). p.sent) sent in
          let all =
          all_three c of.limits well_behaved x y apart below w t.first t.second end good one two three a b d
          (place_of one (Pulse x y) (t.one_is.all x y below inside apart))
          (place_of two (Pulse y x) (t.two_is.all y x inside below (λ e. apart (sym e))))
          (place_of three (Pulse x y) (t.three_is.all x y below inside apart))
          (known w x y).sent (omega arith) (omega (arith, few, came, count)) in
          omega (arith, all, comes, count))
    ]

pub sweeps_are_rounds : SweepsAreRounds
sweeps_are_rounds opened c programs w end of few_here one two three t i at =
    let place = place_of (one ++ two ++ three) (Turn i) at in
    let parts = part_at (one ++ two ++ three) place.0 (Turn i) place.1 in
    let led : Leads (host_rules managed_ops) c w (one ++ two ++ three) end =
    leads_on (host_rules managed_ops) c w t.second end (one ++ two) three
    (leads_on (host_rules managed_ops) c w t.first t.second one two
    (heard_leads c of.limits (keeps_well_behaved opened c programs w of) one w t.first
    t.one_is.heard)
    (heard_leads c of.limits (keeps_well_behaved opened c programs w of) two t.first t.second
    t.two_is.heard))
    (heard_leads c of.limits (keeps_well_behaved opened c programs w of) three t.second end
    t.three_is.heard) in
    record {
      before = parts.before;
      after = parts.after;
      led = subst (λ l. Leads (host_rules managed_ops) c w l end) parts.is led;
      delivered = sweeps_deliver opened c programs w end of few_here one two three t;
    }

pub few_for_sweeps : FewForSweeps
few_for_sweeps opened c programs w of (inl none) i j n m apart here there =
    let few = few_are_under_way_idle opened c programs w of none i j n m apart here there in
    let most = of.limits.nodes_to in
    omega (arith, few, most)
few_for_sweeps opened c programs w of (inr four) i j n m apart here there =
    let few = few_are_under_way opened c programs w of i j n m apart here there in
    omega (arith, few, four)

pub sweeps_deliver_unfetched : SweepsDeliverUnfetched
sweeps_deliver_unfetched opened c programs w end of none =
    sweeps_deliver opened c programs w end of
    (few_for_sweeps opened c programs w of (inl (none_is_fetched opened c programs w of none)))

pub sweeps_are_rounds_unfetched : SweepsAreRoundsUnfetched
sweeps_are_rounds_unfetched opened c programs w end of none =
    sweeps_are_rounds opened c programs w end of
    (few_for_sweeps opened c programs w of (inl (none_is_fetched opened c programs w of none)))
