use Rattle.std.proofs.Common.{◌≡◌, ◌+◌, ◌≤◌, ℕ, true, vec_len, All}
use Rattle.ivy_ether.specs.Rule.{times}
use Rattle.ivy_ether.specs.EtherViews.{IsNewcomer}
use Rattle.ivy_own.specs.Ended.{AreFresh}
use Rattle.ivy_own.proofs.places.place_all.Given as goal

-- no seat was issued yet from this node on, and so many lists have begun
abbrev pub invariant-loop-node : goal.invariant-loop-node
invariant-loop-node g l =
    (l.lists ≡ l.node) × (vec_len l.mines ≡ l.node) × AreFresh l.mines.items
    × (l.starter.ether ≡ l.ether) × (l.starter.known.starts ≡ true)
    × ((j : ℕ) → l.node ≤ j → times j l.starter.known.issued ≡ 0)
    × All (IsNewcomer l.ether) l.passes.items
    × (vec_len l.passes + l.node ≡ l.plan.config.nodes)
