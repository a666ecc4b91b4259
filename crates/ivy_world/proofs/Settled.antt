-- Moves that a world makes to come to rest.
use Rattle.std.proofs.Common.{◌≡◌, ◌<◌, ◌≤◌, ◌+◌, ◌||◌, ℕ, Bool, true, false, List, [], ◌∷◌, ◌++◌, length, slice_get, Some, None, Result, Ok, Err, option_map, refl, ap, subst, ◌∙◌, arith, inl, inr}
use Rattle.std.specs.Result.{result_ok}
use Rattle.std.proofs.Math.Seq.{take-append_seam}
use Rattle.std.proofs.lemmas.List.{length-append}
use Rattle.std.proofs.lemmas.Bool.{cases_eq}
use Rattle.std.proofs.lemmas.Option.{same_Some, slice_get_within, slice_get-map}
use Rattle.ivy_model.specs.declared.Fault.{Fault}
use Rattle.ivy_moves.specs.declared.Move.{Move}
use Rattle.ivy_moves.specs.stated.Worlds.{Moves}
use Rattle.ivy_moves.specs.stated.Nodes.{Node}
use Rattle.ivy_host.specs.stated.Hosts.{Host, host_rules, turn_of}
use Rattle.ivy_host.specs.stated.Managers.{Managed, managed_ops}
use Rattle.ivy_moves.specs.declared.Move.TheVariants.{Turn, Deliver, Pulse}
use Rattle.proof_table.proofs.transitions.Places.{get_map}
use Rattle.ivy_world.specs.declared.round.Round.{Round}
use Rattle.ivy_world.specs.declared.rest.Rest.{Rest}
use Rattle.ivy_world.specs.declared.rest.Rest.TheVariants.{Going}
use Rattle.proof_worlds.specs.stated.RunState.{Run}
use Rattle.proof_worlds.specs.stated.Reached.{IsLedTo}
use Rattle.ivy_world.specs.stated.Runs.{IsRefusedBy, IsSameRun}
use Rattle.ivy_site.specs.SiteView.{SiteView}
use Rattle.ivy_world.specs.WorldSites.{world_of}
use Rattle.ivy_world.specs.Settling.{HasSettledBy, HasStopped, StandsStill}
use Rattle.proof_worlds.specs.stated.Still.{HasNothingUnderWay}
use Rattle.ivy_world.specs.WorldRounds.{DoesNothing, IsDeliveredFrom, IsRoundMove, round_after, HadTurns, IsInRound, HasMadeOne, HasRefusedOne}
use Rattle.ivy_moves.proofs.Leading.{leads_one}

at_end : {A : Type 0} (xs : List A) (x : A) → slice_get (xs ++ x ∷ []) (length xs) ≡ Some x
at_end [] x = refl
at_end (y ∷ xs) x = at_end xs x

or_false : (a b : Bool) → (a || b) ≡ false → (a ≡ false) × (b ≡ false)
or_false true b e = absurd cc
or_false false b e = (refl, e)

-- so many moves led from the one world to the other
pub record SettlesSoFar (old now : Run) (made : ℕ) : Type 0 where
  pub moves : List Move
  pub count : length moves ≡ made
  pub same : IsSameRun old now
  pub led : IsLedTo old.config old.world moves now.world

pub none_made : (r : Run) → SettlesSoFar r r 0
none_made r = record { moves = []; count = refl; same = (refl, refl, refl); led = refl }

-- one more
pub one_made : (old now new : Run) (made : ℕ) → SettlesSoFar old now made → HasMadeOne now new
    → IsSameRun now new → SettlesSoFar old new (made + 1)
one_made old now new made h one same =
    let step =
    subst (λ c. Moves (host_rules managed_ops) c now.world one.0 new.world) h.same.0 one.1 in
    record {
      moves = h.moves ++ one.0 ∷ [];
      count = length-append h.moves (one.0 ∷ []) ∙ ap (λ n. n + 1) h.count;
      same = (same.0 ∙ h.same.0, same.1 ∙ h.same.1, same.2 ∙ h.same.2);
      led = leads_one (host_rules managed_ops) old.config old.world now.world new.world h.moves
          one.0 h.led step;
    }

-- the world stands still after them, or goes on
pub settled_by : (most made : ℕ) (old new : Run) (rest : Rest) → made ≤ most
    → (rest ≡ Going → made ≡ most) → SettlesSoFar old new made
    → HasSettledBy most (Ok rest) old new
settled_by most made old new rest few all h = record {
  moves = h.moves;
  few = rw h.count few;
  all = λ is. h.count ∙ all (same_Some rest Going (ap result_ok is));
  made = h.led;
  refused = tt;
  named = tt;
}

-- or the next one is refused
pub refused_after : (most made : ℕ) (old new : Run) (fault : Fault) → made < most
    → SettlesSoFar old new made → HasRefusedOne new fault
    → HasSettledBy most (Err (made, fault)) old new
refused_after most made old new fault few h one =
    let list = h.moves ++ one.0 ∷ [] in
    let count : length list ≡ made + 1 =
    length-append h.moves (one.0 ∷ []) ∙ ap (λ n. n + 1) h.count in
    let there : slice_get list made ≡ Some one.0 = rw (← h.count) (at_end h.moves one.0) in
    record {
      moves = list;
      few = omega (arith, count, few);
      all = λ is. absurd cc;
      made = rw (← h.count) (rw (take-append_seam h.moves (one.0 ∷ [])) h.led);
      refused = (omega (arith, count), rw there one.1);
      named = rw there (
        λ spent. subst (λ f. IsRefusedBy new.config new.world f (Some one.0)) spent one.1,
        λ not. absurd (one.2 not),
      );
    }

-- the next round, or a round in which one more move was made

pub went_on : (old new : Run) (round : Round) (step : Move) (did : Bool) → IsInRound old round
    → IsRoundMove old.config old.world round.turn step
    → (did ≡ false → DoesNothing old.world step × (new ≡ old))
    → HadTurns new (round_after round step did)
went_on old new round (Turn i) did h is idle none j below =
    let both = or_false round.stirred did none in
    let same = (idle both.1).1 in
    rw same (elim (cases_eq j round.turn) [
      | inl e ↦ rw e (rw (← is.0) (idle both.1).0)
      | inr ne ↦ h.idle both.0 j (omega (arith, below, ne))
    ])
went_on old new round (Deliver index to) did h is idle none j below =
    absurd (let first = is.0 in omega (arith, below, first))
went_on old new round (Pulse from to) did h is idle none j below = absurd is

pub first_round : (r : Run) → 0 < r.config.nodes
    → IsInRound r (record { turn = 0; stirred = false })
first_round r some = record { within = some; idle = λ _ i below. absurd (omega (arith, below)) }

-- what is said of sites, said of the world's nodes
pub world_delivered : (sites : List SiteView) (sent : List (List ℕ))
    → ((i : ℕ) → IsDeliveredFrom sites i) → HasNothingUnderWay (world_of sites sent)
world_delivered sites sent all i j n m apart a b =
    let s = get_map (λ (s : SiteView). s.node) sites n i a in
    let t = get_map (λ (s : SiteView). s.node) sites m j b in
    rw s.2 (rw t.2 (all i j s.0 t.0 apart s.1 t.1))

-- and said of the world's nodes, said of sites
pub sites_delivered : (sites : List SiteView) (sent : List (List ℕ))
    → HasNothingUnderWay (world_of sites sent) → (i : ℕ) → IsDeliveredFrom sites i
sites_delivered sites sent all i j s t apart a b =
    all i j s.node t.node apart
    (slice_get-map (λ (x : SiteView). x.node) sites i ∙ ap (option_map (λ (x : SiteView). x.node)) a)
    (slice_get-map (λ (x : SiteView). x.node) sites j ∙ ap (option_map (λ (x : SiteView). x.node)) b)

pub stands_still : (r : Run) (round : Round) → length r.world.nodes ≡ r.config.nodes
    → r.config.nodes ≤ round.turn → HadTurns r round → round.stirred ≡ false
    → HasNothingUnderWay r.world → StandsStill r
stands_still r round count over had none delivered =
    let idle : (i : ℕ) (n : Node (Host Managed)) → slice_get r.world.nodes i ≡ Some n
    → (turn_of managed_ops n.core ≡ None) × HasStopped n.core =
    λ i n e. had none i (omega (arith, slice_get_within r.world.nodes i n e, count, over)) n e in
    record {
      still = record { delivered = delivered; turns = λ i n e. (idle i n e).0 };
      stopped = λ i n e. (idle i n e).1;
    }

-- the same, where only the place from which strings are looked at changed before
module _ (old mid new : Run) (was : mid ≡ old) where
  pub turned_on : (round : Round) (step : Move) (did : Bool) → IsInRound old round
      → IsRoundMove old.config old.world round.turn step
      → (◌≡◌ {A = Result Bool Fault} (Ok did) (Ok false)
      → DoesNothing mid.world step × (new ≡ mid))
      → HadTurns new (round_after round step did)
  turned_on round step did h is idle =
      went_on old new round step did h is (λ no.
      let none = idle (ap Ok no) in
      (subst (λ (r : Run). DoesNothing r.world step) was none.0, none.1 ∙ was))
