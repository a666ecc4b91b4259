-- In each world that moves lead to few messages are under way.
use Rattle.std.proofs.Common.{◌≡◌, ◌<◌, ◌≤◌, ◌+◌, ◌*◌, ℕ, List, length, map, slice_get, Some, sym, ap, subst, arith}
use Rattle.std.proofs.lemmas.List.{length-map, length-drop}
use Rattle.std.proofs.lemmas.Option.{slice_get_within}
use Rattle.ivy_model.specs.declared.Config.{Config}
use Rattle.ivy_coherence.specs.stated.Fetching.{most_fetched}
use Rattle.ivy_program.specs.stated.Programs.{Program}
use Rattle.ivy_link.specs.stated.Linked.{Linked, peer_at}
use Rattle.ivy_moves.specs.stated.Following.{links_of, fifo_of}
use Rattle.ivy_moves.specs.stated.Nodes.{Node}
use Rattle.ivy_moves.specs.stated.Worlds.{World}
use Rattle.ivy_moves.proofs.Places.{link_of}
use Rattle.ivy_host.specs.declared.opening.Opening.{Opening}
use Rattle.ivy_host.specs.stated.Hosts.{Host}
use Rattle.ivy_host.specs.stated.Managers.{Managed, managed_ops}
use Rattle.ivy_host.specs.stated.Openings.{managed_start}
use Rattle.ivy_host.proofs.Starts.{managed_new}
use Rattle.ivy_host.specs.ManagedLaws.{managed_laws}
use Rattle.ivy_host.specs.stated.Sound.{IsSoundHost}
use Rattle.proof_worlds.specs.stated.FifoRuns.{FollowsInOrder}
use Rattle.proof_worlds.proofs.progress.EitherRoutes.{either_awaited}
use Rattle.proof_worlds.proofs.refinement.FifoRuns.{led_in_order}
use Rattle.proof_answers.proofs.answers.Unhanded.{none_is_fetched}
use Rattle.proof_answers.specs.sweeps.FewUnderWay.{AreFewUnderWay, FewAreUnderWay, FewAreUnderWayIdle, FewAreUnderWayUnfetched}
use Rattle.proof_answers.specs.answers.Undropped.{IsOfMoves}
use Rattle.proof_answers.proofs.sweeps.Few.{IsCode, few_under_way, get_mapped}

-- a number for each node and one page, and for each node and as many pages as it may wait for
one_code : (nodes : ℕ) → IsCode nodes 0 nodes (λ x s. x)
one_code nodes = record {
  below = λ x s low few. low;
  apart = λ x y s t few less same. (same, omega (arith, few, less));
}

pub page_code : (nodes : ℕ)
    → IsCode nodes most_fetched ((most_fetched + 1) * nodes) (λ x s. (most_fetched + 1) * x + s)
page_code nodes = record {
  below = λ x s low few. omega (arith, low, few);
  apart = λ x y s t few less same.
      (omega (arith, few, less, same), omega (arith, few, less, same));
}

-- where nodes fetch so many pages at most
few_where : (opened : Opening) (c : Config) (programs : List Program) (w : World (Host Managed))
    → IsOfMoves opened c programs w → (most total : ℕ) (code : ℕ → ℕ → ℕ)
    → IsCode c.nodes most total code
    → ((i : ℕ) (n : Node (Host Managed)) → slice_get w.nodes i ≡ Some n
    → IsSoundHost managed_ops c i n.core → length n.core.memory.coherence.fetched ≤ most)
    → AreFewUnderWay total w
few_where opened c programs w of most total code is_code fetched i j n m apart here there =
    let f : FollowsInOrder managed_ops (managed_start opened) c programs w =
    led_in_order managed_laws (managed_start opened) c of.limits (managed_new opened c of.limits)
    programs of.many of.moves w of.led in
    let waits = either_awaited c of.limits opened programs of.many (fifo_of w f.posted) f.reached in
    let a : i < length w.nodes = slice_get_within w.nodes i n here in
    let b : j < length w.nodes = slice_get_within w.nodes j m there in
    let count = f.follows.nodes in
    let cores : length (map (λ (x : Node (Host Managed)). x.core) w.nodes) ≡ length w.nodes =
    length-map w.nodes (λ (x : Node (Host Managed)). x.core) in
    let links : length (links_of w) ≡ length w.nodes =
    length-map w.nodes (λ (x : Node (Host Managed)). x.link) in
    let few =
    few_under_way managed_ops c (fifo_of w f.posted) waits.0
    (λ x h at.
    let node = get_mapped (λ (z : Node (Host Managed)). z.core) w.nodes h x at in
    subst (IsSoundHost managed_ops c x) (sym node.2) (f.follows.sound x node.0 node.1))
    most total code is_code
    (λ x h at.
    let node = get_mapped (λ (z : Node (Host Managed)). z.core) w.nodes h x at in
    subst (λ (z : Host Managed). length z.memory.coherence.fetched ≤ most) (sym node.2)
    (fetched x node.0 node.1 (f.follows.sound x node.0 node.1)))
    waits.2 i j apart
    (omega (arith, a, count)) (omega (arith, b, count)) (omega (arith, a, cores))
    (omega (arith, b, cores)) in
    let sent =
    f.follows.paired.counted i j (omega (arith, a, links)) (omega (arith, b, links)) in
    let there_sent = ap (λ (l : Linked). (peer_at l j).sent) (link_of w.nodes i n here) in
    let there_come = ap (λ (l : Linked). (peer_at l i).delivered) (link_of w.nodes j m there) in
    let left =
    length-drop ((fifo_of w f.posted).delivered i j) (f.posted i j) in
    omega (arith, few, sent, there_sent, there_come, left)

pub few_are_under_way : FewAreUnderWay
few_are_under_way opened c programs w of =
    few_where opened c programs w of most_fetched ((most_fetched + 1) * c.nodes)
    (λ x s. (most_fetched + 1) * x + s) (page_code c.nodes)
    (λ i n there sound. sound.memory.coherent.few)

pub few_are_under_way_idle : FewAreUnderWayIdle
few_are_under_way_idle opened c programs w of none =
    few_where opened c programs w of 0 c.nodes (λ x s. x) (one_code c.nodes)
    (λ i n there sound. (let e : length n.core.memory.coherence.fetched ≡ 0 =
    ap length (none i n there) in omega (arith, e)))

pub few_are_under_way_unfetched : FewAreUnderWayUnfetched
few_are_under_way_unfetched opened c programs w of none =
    few_are_under_way_idle opened c programs w of (none_is_fetched opened c programs w of none)
