-- In a run each pulse goes to another node, so lists of which a node can't make its own are no parts.
use Rattle.std.proofs.Common.{◌≡◌, ℕ, ◌<◌, true, List, [], ◌∷◌, ◌++◌, length, length-set, slice_get, Option, Some, None, if◌then◌else◌, ◌==◌, ◌&&◌, nat_lt, not, sym, ap, subst, ◌∙◌, inl, inr, arith}
use Rattle.std.proofs.lemmas.Bool.{and_parts, cases_eq, eq-eqb, eqb-false, ltb-true, ne_eqb, not-true}
use Rattle.ivy_model.specs.declared.Config.{Config}
use Rattle.ivy_link.specs.declared.Verdict.{Verdict}
use Rattle.ivy_link.specs.declared.Verdict.TheVariants as verdict
use Rattle.ivy_moves.specs.declared.moves.Move.{Move}
use Rattle.ivy_moves.specs.declared.moves.Move.TheVariants as move
use Rattle.ivy_moves.specs.stated.Cores.{Core, Outcome}
use Rattle.ivy_moves.specs.Marks.{Mark}
use Rattle.ivy_moves.specs.stated.Nodes.{Node, verdict_of, pulsing}
use Rattle.ivy_moves.specs.Parts.{node_of, delivery_marks, pulse_marks, turn_marks, turn_given, delivery_given, pulse_given, given_by, given_further, given_after, given_at, parts_of, AreParts}
use Rattle.ivy_moves.specs.stated.Worlds.{World, is_named, made_by, moved, GoesOnWith, MayGoOn, Moves, Leads}
use Rattle.ivy_moves.proofs.Parts.{move-gone, runs_are_their_parts}
use Rattle.ivy_moves.proofs.Places.{guarded}
use Rattle.ivy_program.specs.stated.Programs.{Program}
use Rattle.ivy_host.specs.declared.opening.Opening.{Opening}
use Rattle.ivy_host.specs.stated.Hosts.{host_rules}
use Rattle.ivy_host.specs.stated.Managers.{managed_ops}
use Rattle.ivy_host.specs.stated.Openings.{first_node, managed_start, opening}
use Rattle.ivy_host.proofs.WellBehaved.{first_length}
use Rattle.ivy_join.specs.Exact.{AreToOthers, IsNoPart}
use Rattle.ivy_join.specs.Joined.{part_in, AreNoParts}
use Rattle.ivy_join.proofs.HandedLogs.{there_is}
use Rattle.ivy_join.proofs.Played.{first_there}

pub others-append : (nodes i : ℕ) (ms ms' : List Mark) → AreToOthers nodes i ms → AreToOthers nodes i ms'
    → AreToOthers nodes i (ms ++ ms')
others-append nodes i [] ms' a b = b
others-append nodes i (m ∷ ms) ms' a b = (a.0, others-append nodes i ms ms' a.1 b)

pub others-right : (nodes i : ℕ) (ms ms' : List Mark) → AreToOthers nodes i (ms ++ ms')
    → AreToOthers nodes i ms'
others-right nodes i [] ms' a = a
others-right nodes i (m ∷ ms) ms' a = others-right nodes i ms ms' a.1

pub others-left : (nodes i : ℕ) (ms ms' : List Mark) → AreToOthers nodes i (ms ++ ms')
    → AreToOthers nodes i ms
others-left nodes i [] ms' a = tt
others-left nodes i (m ∷ ms) ms' a = (a.0, others-left nodes i ms ms' a.1)

delivered-others : (nodes i : ℕ) (v : Verdict) (bytes : List ℕ)
    → AreToOthers nodes i (delivery_marks v bytes)
delivered-others nodes i verdict.NotMine bytes = tt
delivered-others nodes i verdict.Next bytes = (tt, tt)
delivered-others nodes i verdict.Repeat bytes = (tt, tt)
delivered-others nodes i verdict.Ahead bytes = (tt, tt)

pulsed-others : (nodes i to : ℕ) (strings : List (List ℕ)) → to < nodes → (i ≡ to → ⊥)
    → AreToOthers nodes i (pulse_marks to strings)
pulsed-others nodes i to [] below apart = tt
pulsed-others nodes i to (s ∷ strings) below apart = ((below, apart), tt)

module _ {C : Type 0} (rules : Core C) (c : Config) where
  turn-others : (nodes i : ℕ) (o : Option (Outcome C)) → AreToOthers nodes i (turn_marks rules c o)
  turn-others nodes i None = tt
  turn-others nodes i (Some o) = (tt, tt)

  turn-given-others : (nodes i : ℕ) (o : Option (Node C)) → AreToOthers nodes i (turn_given rules c o)
  turn-given-others nodes i None = tt
  turn-given-others nodes i (Some n) = turn-others nodes i (rules.turn n.core)

  delivery-given-others : (nodes i : ℕ) (o : Option (Node C)) (s : Option (List ℕ))
      → AreToOthers nodes i (delivery_given rules c o s)
  delivery-given-others nodes i None s = tt
  delivery-given-others nodes i (Some n) None = tt
  delivery-given-others nodes i (Some n) (Some bytes) =
      delivered-others nodes i (verdict_of c n bytes) bytes

  pulse-given-others : (nodes i to : ℕ) (o : Option (Node C)) → to < nodes → (i ≡ to → ⊥)
      → AreToOthers nodes i (pulse_given rules c to o)
  pulse-given-others nodes i to None below apart = tt
  pulse-given-others nodes i to (Some n) below apart =
      pulsed-others nodes i to (pulsing n to).sent below apart

  -- what a move gives at first
  given-others : (w mid : World C) (m : Move) → moved rules c w m ≡ Some mid
      → AreToOthers (length w.nodes) (node_of m) (given_by rules c w m)
  unfolding moved
  given-others w mid (move.Turn i) is = turn-given-others (length w.nodes) i (slice_get w.nodes i)
  given-others w mid (move.Deliver index to) is =
      delivery-given-others (length w.nodes) to (slice_get w.nodes to) (slice_get w.sent index)
  given-others w mid (move.Pulse from to) is =
      let named : (nat_lt from (length w.nodes) && (nat_lt to (length w.nodes) && not (from == to)))
      ≡ true =
      (guarded (is_named w (move.Pulse from to)) (made_by rules c w (move.Pulse from to)) mid is).0 in
      let rest : (nat_lt to (length w.nodes) && not (from == to)) ≡ true =
      (and_parts (nat_lt from (length w.nodes)) (nat_lt to (length w.nodes) && not (from == to))
      named).1 in
      let both = and_parts (nat_lt to (length w.nodes)) (not (from == to)) rest in
      pulse-given-others (length w.nodes) from to (slice_get w.nodes from)
      (ltb-true to (length w.nodes) both.0)
      (eqb-false from to (not-true (from == to) both.1))

  further-others : (nodes i : ℕ) (w end : World C) (more : List (List ℕ))
      (on : GoesOnWith rules c w i more end)
      → AreToOthers nodes i (given_further rules c w i more end on)
  further-others nodes i w end [] on = tt
  further-others nodes i w end (bytes ∷ more) on =
      others-append nodes i (delivery_given rules c (slice_get w.nodes i) (Some bytes))
      (given_further rules c on.1.0 i more end on.1.2)
      (delivery-given-others nodes i (slice_get w.nodes i) (Some bytes))
      (further-others nodes i on.1.0 end more on.1.2)

  after_others : (nodes : ℕ) (w end : World C) (m : Move) (more : List (List ℕ))
      (on : MayGoOn rules c w m more end)
      → AreToOthers nodes (node_of m) (given_after rules c w m more end on)
  after_others nodes w end (move.Turn i) more on = tt
  after_others nodes w end (move.Deliver index to) more on = further-others nodes to w end more on
  after_others nodes w end (move.Pulse from to) more on = tt

  given-at-others : (w end : World C) (m : Move) (moves : Moves rules c w m end) (j : ℕ)
      → AreToOthers (length w.nodes) j (given_at rules c w m end moves j)
  given-at-others w end m moves j = elim (cases_eq (node_of m) j) [
    | inl same ↦
        (let all = given_by rules c w m ++ given_after rules c moves.mid m moves.more end moves.goes_on in
        subst (λ b. AreToOthers (length w.nodes) j (if b then all else []))
        (sym (eq-eqb (node_of m) j same))
        (subst (λ k. AreToOthers (length w.nodes) k all) same
        (others-append (length w.nodes) (node_of m) (given_by rules c w m)
        (given_after rules c moves.mid m moves.more end moves.goes_on)
        (given-others w moves.mid m moves.made)
        (after_others (length w.nodes) moves.mid end m moves.more moves.goes_on))))
    | inr apart ↦
        (let all = given_by rules c w m ++ given_after rules c moves.mid m moves.more end moves.goes_on in
        subst (λ b. AreToOthers (length w.nodes) j (if b then all else []))
        (sym (ne_eqb (node_of m) j apart)) tt)
  ]

  parts-others : (moves : List Move) (w end : World C) (lead : Leads rules c w moves end) (j : ℕ)
      → AreToOthers (length w.nodes) j (parts_of rules c moves w end lead j)
  parts-others [] w end lead j = tt
  parts-others (m ∷ moves) w end lead j =
      let gone = move-gone rules c w lead.0 m lead.1 in
      let count : length lead.0.nodes ≡ length w.nodes =
      ap length gone.nodes ∙ length-set w.nodes (node_of m) gone.effect.after in
      others-append (length w.nodes) j (given_at rules c w m lead.0 lead.1 j)
      (parts_of rules c moves lead.0 end lead.2 j) (given-at-others w lead.0 m lead.1 j)
      (subst (λ n. AreToOthers n j (parts_of rules c moves lead.0 end lead.2 j)) count
      (parts-others moves lead.0 end lead.2 j))

  pub run-others : (w end : World C) (parts : ℕ → List Mark) (j : ℕ) → AreParts rules c w parts end
      → AreToOthers (length w.nodes) j (parts j)
  run-others w end parts j run =
      subst (AreToOthers (length w.nodes) j) (sym (run.are j)) (parts-others run.moves w end run.leads j)

-- one node whose list is no part is enough
pub no-parts : (c : Config) (k : Opening) (programs : List Program) (lists : List (List Mark)) (i : ℕ)
    → length programs ≡ c.nodes → i < length programs → IsNoPart c k programs i (part_in lists i)
    → AreNoParts c k programs lists
no-parts c k programs lists i each below never end run =
    let at = there_is programs i below in
    let begins = opening (managed_start k) c programs in
    let first : slice_get begins.nodes i ≡ Some (first_node (managed_start k) c i at.0) =
    first_there k c 0 i programs i at.0 (omega arith) at.1 in
    let made = (runs_are_their_parts (host_rules managed_ops) c begins end (part_in lists) run).each i
    (first_node (managed_start k) c i at.0) first in
    let others : AreToOthers (length begins.nodes) i (part_in lists i) =
    run-others (host_rules managed_ops) c begins end (part_in lists) i run in
    never at.0 at.1
    (subst (λ n. AreToOthers n i (part_in lists i)) (first_length (managed_start k) c 0 programs ∙ each) others)
    made.0 made.1
