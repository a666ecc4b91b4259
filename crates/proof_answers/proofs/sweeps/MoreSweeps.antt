-- Some times three sweeps deliver some times 32 messages.
use Rattle.std.proofs.Common.{◌≡◌, ◌≢◌, ◌<◌, ◌≤◌, ◌+◌, ◌*◌, min, ℕ, zero, suc, List, ◌++◌, slice_get, Some, sym, ap, subst, arith, inl, inr}
use Rattle.std.proofs.lemmas.Bool.{cases_lt}
use Rattle.std.proofs.lemmas.Option.{slice_get_within, slice_get_cases}
use Rattle.ivy_model.specs.declared.Config.{Config}
use Rattle.ivy_program.specs.stated.Programs.{Program}
use Rattle.ivy_link.specs.stated.LinkLimits.{most_again}
use Rattle.ivy_link.specs.stated.Linked.{Linked, peer_at}
use Rattle.ivy_moves.specs.declared.Move.{Move}
use Rattle.ivy_moves.specs.declared.Move.TheVariants.{Turn, Pulse}
use Rattle.ivy_moves.specs.stated.Nodes.{Node}
use Rattle.ivy_moves.specs.stated.Worlds.{World, Leads}
use Rattle.ivy_moves.proofs.Leading.{leads_on}
use Rattle.ivy_host.specs.stated.Hosts.{Host, host_rules}
use Rattle.ivy_host.specs.declared.opening.Opening.{Opening}
use Rattle.ivy_host.specs.stated.Managers.{Managed, managed_ops}
use Rattle.ivy_host.specs.stated.Sound.{IsSoundHost}
use Rattle.proof_answers.specs.answers.Undropped.{IsOfMoves}
use Rattle.proof_answers.specs.sweeps.Sweeps.{AreThreeSweeps}
use Rattle.proof_answers.specs.sweeps.MoreSweeps.{AreSweeps, SweepsMoveOn, MoreSweepsDeliver, EnoughSweeps, MoreSweepsAreRounds}
use Rattle.proof_answers.proofs.answers.Acknowledged.{IsAfter, come, known, link_here, after_none, after_then}
use Rattle.proof_answers.proofs.answers.Pulsed.{IsGood, led_stands, keeps_well_behaved}
use Rattle.proof_answers.proofs.sweeps.FewWorlds.{few_are_under_way}
use Rattle.proof_answers.proofs.sweeps.Sweeping.{place_of, heard_leads, goes_last, all_three}
use Rattle.proof_answers.proofs.sweeps.Swept.{part_at}

-- of the worlds after one that moves lead to
module _ (opened : Opening) (c : Config) (programs : List Program) (start : World (Host Managed))
    (of : IsOfMoves opened c programs start) where
  abbrev Good : World (Host Managed) → Type 0
  Good v = IsGood opened c programs start of v

  abbrev Goes : World (Host Managed) → World (Host Managed) → Type 0
  Goes w v = IsAfter (host_rules managed_ops) c (IsSoundHost managed_ops c) of.limits
      (keeps_well_behaved opened c programs start of) w v

  -- three sweeps
  module _ (w mid : World (Host Managed)) (good : Good w) (one two three : List Move)
      (t : AreThreeSweeps c w one two three mid) where
    three_go : Goes w mid
    three_go =
        goes_last c of.limits (keeps_well_behaved opened c programs start of) w t.first t.second mid
        good one two three t.one_is.heard t.two_is.heard t.three_is.heard

    three_lead : Leads (host_rules managed_ops) c w (one ++ two ++ three) mid
    three_lead =
        leads_on (host_rules managed_ops) c w t.second mid (one ++ two) three
        (leads_on (host_rules managed_ops) c w t.first t.second one two
        (heard_leads c of.limits (keeps_well_behaved opened c programs start of) one w t.first
        t.one_is.heard)
        (heard_leads c of.limits (keeps_well_behaved opened c programs start of) two t.first t.second
        t.two_is.heard))
        (heard_leads c of.limits (keeps_well_behaved opened c programs start of) three t.second mid
        t.three_is.heard)

    three_come : (x y : ℕ) → x ≢ y → x < c.nodes → y < c.nodes → (target : ℕ)
        → target ≤ (known w x y).sent → target ≤ come w x y + most_again → target ≤ come mid x y
    three_come x y apart below inside target sent few =
        all_three c of.limits (keeps_well_behaved opened c programs start of) x y apart below w
        t.first t.second mid good one two three t.one_is.heard t.two_is.heard t.three_is.heard
        (place_of one (Pulse x y) (t.one_is.all x y below inside apart))
        (place_of two (Pulse y x) (t.two_is.all y x inside below (λ e. apart (sym e))))
        (place_of three (Pulse x y) (t.three_is.all x y below inside apart)) target sent few

  -- some times three sweeps
  sweeps_go : (times : ℕ) (w : World (Host Managed)) (moves : List Move) (end : World (Host Managed))
      → Good w → AreSweeps c times w moves end → Goes w end
  sweeps_go zero w moves end good s =
      subst (Goes w) (sym s.1)
      (after_none (host_rules managed_ops) c (IsSoundHost managed_ops c) of.limits
      (keeps_well_behaved opened c programs start of) w good)
  sweeps_go (suc times) w moves end good s =
      let first = three_go w s.4 good s.0 s.1 s.2 s.6 in
      after_then (host_rules managed_ops) c (IsSoundHost managed_ops c) of.limits
      (keeps_well_behaved opened c programs start of) w s.4 end first
      (sweeps_go times s.4 s.3 end first.stands s.7)

  sweeps_lead : (times : ℕ) (w : World (Host Managed)) (moves : List Move)
      (end : World (Host Managed)) → Good w → AreSweeps c times w moves end
      → Leads (host_rules managed_ops) c w moves end
  sweeps_lead zero w moves end good s =
      subst (λ l. Leads (host_rules managed_ops) c w l end) (sym s.0) s.1
  sweeps_lead (suc times) w moves end good s =
      subst (λ l. Leads (host_rules managed_ops) c w l end) (sym s.5)
      (leads_on (host_rules managed_ops) c w s.4 end (s.0 ++ s.1 ++ s.2) s.3
      (three_lead w s.4 good s.0 s.1 s.2 s.6)
      (sweeps_lead times s.4 s.3 end (three_go w s.4 good s.0 s.1 s.2 s.6).stands s.7))

  sweeps_come : (times : ℕ) (w : World (Host Managed)) (moves : List Move)
      (end : World (Host Managed)) → Good w → AreSweeps c times w moves end → (x y : ℕ) → x ≢ y
      → x < c.nodes → y < c.nodes → (target : ℕ) → target ≤ (known w x y).sent
      → target ≤ come w x y + most_again * times → target ≤ come end x y
  sweeps_come zero w moves end good s x y apart below inside target sent few =
      subst (λ z. target ≤ come z x y) (sym s.1) (omega (arith, few))
  sweeps_come (suc times) w moves end good s x y apart below inside target sent few =
      let first = three_go w s.4 good s.0 s.1 s.2 s.6 in
      let grows = first.sent x y in
      let more = three_come w s.4 good s.0 s.1 s.2 s.6 x y apart below inside in
      let come_mid : target ≤ come s.4 x y + most_again * times =
      (elim (cases_lt target (come w x y + most_again)) [
        | inl low ↦
            (let a = more target sent (omega (arith, low)) in omega (arith, a))
        | inr high ↦
            (let a = more (come w x y + most_again) (omega (arith, high, sent)) (omega arith) in
            omega (arith, a, few))
      ]) in
      sweeps_come times s.4 s.3 end first.stands s.7 x y apart below inside target
      (omega (arith, sent, grows)) come_mid

  -- what a node has sent and has come, in a world that follows
  module _ (v : World (Host Managed)) (good : Good v) (j : ℕ) (n : Node (Host Managed))
      (there : slice_get v.nodes j ≡ Some n) where
    node_below : j < c.nodes
    node_below =
        (let a = slice_get_within v.nodes j n there in let b = good.follows.nodes in omega (arith, a, b))

    sent_there : (y : ℕ) → (known v j y).sent ≡ (peer_at n.link y).sent
    sent_there y =
        ap (λ (l : Linked). (peer_at l y).sent)
        (link_here (host_rules managed_ops) c (IsSoundHost managed_ops c) of.limits
        (keeps_well_behaved opened c programs start of) v good j n there)

    come_there : (x : ℕ) → come v x j ≡ (peer_at n.link x).delivered
    come_there x =
        ap (λ (l : Linked). (peer_at l x).delivered)
        (link_here (host_rules managed_ops) c (IsSoundHost managed_ops c) of.limits
        (keeps_well_behaved opened c programs start of) v good j n there)

pub sweeps_move_on : SweepsMoveOn
sweeps_move_on opened c programs w end of one two three t x y n b m apart here was there =
    let good = led_stands opened c programs w of in
    let last = three_go opened c programs w of w end good one two three t in
    let below = node_below opened c programs w of w good x n here in
    let inside = node_below opened c programs w of w good y b was in
    let sent = sent_there opened c programs w of w good x n here y in
    let had = come_there opened c programs w of w good y b was x in
    let comes = come_there opened c programs w of end last.stands y m there x in
    let more = three_come opened c programs w of w end good one two three t x y apart below inside
    (min (peer_at n.link y).sent ((peer_at b.link x).delivered + most_again))
    (omega (arith, sent)) (omega (arith, had)) in
    omega (arith, more, comes)

pub more_sweeps_deliver : MoreSweepsDeliver
more_sweeps_deliver opened c programs w end of times few moves s x y n m apart here there =
    let good = led_stands opened c programs w of in
    let last = sweeps_go opened c programs w of times w moves end good s in
    let below = node_below opened c programs w of w good x n here in
    let inside = node_below opened c programs w of end last.stands y m there in
    let nodes = good.follows.nodes in
    elim (slice_get_cases w.nodes y).1 [
      | inr past ↦ absurd (let z = past.0 in omega (arith, z, nodes, inside))
      | inl was ↦
          (let sent = sent_there opened c programs w of w good x n here y in
          let had = come_there opened c programs w of w good y was.0 was.2 x in
          let comes = come_there opened c programs w of end last.stands y m there x in
          let all = few x y n was.0 apart here was.2 in
          let more = sweeps_come opened c programs w of times w moves end good s x y apart below inside
          (known w x y).sent (omega arith) (omega (arith, all, sent, had)) in
          omega (arith, more, sent, comes))
    ]

pub enough_sweeps : EnoughSweeps
enough_sweeps opened c programs w of times enough i j n m apart here there =
    let few = few_are_under_way opened c programs w of i j n m apart here there in
    omega (arith, few, enough)

pub more_sweeps_are_rounds : MoreSweepsAreRounds
more_sweeps_are_rounds opened c programs w end of times few moves s i at =
    let place = place_of moves (Turn i) at in
    let parts = part_at moves place.0 (Turn i) place.1 in
    record {
      before = parts.before;
      after = parts.after;
      led = subst (λ l. Leads (host_rules managed_ops) c w l end) parts.is
          (sweeps_lead opened c programs w of times w moves end
          (led_stands opened c programs w of) s);
      delivered = more_sweeps_deliver opened c programs w end of times few moves s;
    }
