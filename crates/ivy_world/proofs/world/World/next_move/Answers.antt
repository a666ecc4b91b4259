use Rattle.std.proofs.Common.{ℕ, ◌<◌, ◌≤◌, List, length, sym, subst}
use Rattle.proof_worlds.specs.stated.RunState.{Run}
use Rattle.ivy_site.specs.SiteView.{SiteView}
use Rattle.ivy_world.specs.WorldRounds.{IsNextMove, HasNoneUnderWay}
use Rattle.ivy_world.proofs.Coming.{passed_on, round_move}
use Rattle.ivy_world.proofs.WorldRounds.{named_next}
use Rattle.ivy_world.proofs.world.World.next_move.Given.{Over}
use Rattle.ivy_world.proofs.world.World.next_move.Goals as goal
use Rattle.ivy_world.proofs.world.World.next_move.Goals.{After-next_move}

-- the move is the next one of the sites and strings that the world has
is_next : (g : Over) (c : After-next_move g)
    → IsNextMove c.self.inside.sites.items c.self.inside.sent.items c.self.inside.passed
    c.args.round.turn c.next_move.result
is_next g c =
    subst (λ (l : List SiteView). IsNextMove l c.self.inside.sent.items c.self.inside.passed
    c.args.round.turn c.next_move.result) c.deref.ensures.value
    (subst (λ (l : List (List ℕ)). IsNextMove c.deref.result.now l c.self.inside.passed
    c.args.round.turn c.next_move.result) c.deref-2.ensures.value c.next_move.ensures.next)

pub next_move-requires : goal.next_move-requires
next_move-requires g c = record {
  within = subst (λ (l : List (List ℕ)). c.self.inside.passed ≤ length l)
      (sym c.deref-2.ensures.value) c.self.invariant.1.within;
}

pub returns-clause-named : goal.returns-clause-named
returns-clause-named g c =
    rw (← c.self.view_is)
    (named_next c.self.inside.sites.items c.self.inside.sent.items c.self.inside.passed
    c.args.round.turn c.self.inside.config.nodes c.next_move.result c.self.invariant.0.count
    (subst (λ (r : Run). c.args.round.turn < r.config.nodes) (sym c.self.view_is) c.requires)
    (is_next g (goal.at.returns-clause-named g c).After-next_move))

pub returns-clause-next : goal.returns-clause-next
returns-clause-next g c =
    rw (← c.self.view_is)
    (round_move c.self.inside.config c.self.inside.sites.items c.self.inside.sent.items
    c.self.invariant.0.nodes c.self.inside.passed c.args.round.turn c.next_move.result
    c.self.invariant.1 (is_next g (goal.at.returns-clause-next g c).After-next_move))

pub invariant_of-self : goal.invariant_of-self
invariant_of-self g c = (
  c.self.invariant.0,
  passed_on c.self.inside.config c.self.inside.sites.items c.self.inside.sent.items
      c.self.invariant.0.nodes c.self.inside.passed c.next_move.new.passed c.self.invariant.1
      (subst (λ (l : List (List ℕ)). c.next_move.new.passed ≤ length l) c.deref-2.ensures.value
      c.next_move.ensures.within)
      (subst (λ (l : List SiteView). HasNoneUnderWay l c.self.inside.sent.items c.self.inside.passed
      c.next_move.new.passed) c.deref.ensures.value
      (subst (λ (l : List (List ℕ)). HasNoneUnderWay c.deref.result.now l c.self.inside.passed
      c.next_move.new.passed) c.deref-2.ensures.value c.next_move.ensures.passed)),
)
