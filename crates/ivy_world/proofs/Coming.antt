-- What comes to the nodes of a world: none of the strings before the place that a world keeps, and
-- none at all where nothing is under way.
use Rattle.std.proofs.Common.{◌≡◌, ◌≤◌, ◌<◌, ◌+◌, ◌-◌, ◌||◌, ℕ, zero, suc, Bool, true, false, List, [], ◌∷◌, ◌++◌, length}
use Rattle.std.proofs.Common.{slice_get, Option, Some, None, Result, Ok, refl, sym, ap, subst, ◌∙◌, inl, inr, arith}
use Rattle.std.proofs.Common.{option_map}
use Rattle.std.proofs.lemmas.Bool.{cases_lt}
use Rattle.std.proofs.lemmas.List.{length-map, length-append}
use Rattle.std.proofs.lemmas.Option.{slice_get-map, slice_get_within, slice_get_cases, get_or_from_slice_get}
use Rattle.ivy_model.specs.declared.Config.{Config}
use Rattle.ivy_model.specs.declared.Fault.{Fault}
use Rattle.ivy_wire.specs.stated.Data.{Message}
use Rattle.ivy_wire.specs.stated.Spelling.{Spells}
use Rattle.ivy_link.specs.stated.Linked.{Linked, peer_at}
use Rattle.ivy_link.specs.stated.Paired.{link_at, IsBody, IsMade}
use Rattle.ivy_moves.specs.declared.Move.{Move}
use Rattle.ivy_moves.specs.declared.Move.TheVariants.{Turn, Deliver, Pulse}
use Rattle.ivy_moves.specs.stated.Following.{links_of, IsString}
use Rattle.ivy_moves.specs.stated.Nodes.{Node}
use Rattle.ivy_moves.specs.stated.Worlds.{World, Moves}
use Rattle.ivy_moves.proofs.Places.{link_of}
use Rattle.ivy_site.proofs.Receiving.{spelled_same}
use Rattle.ivy_host.specs.stated.Hosts.{Host, host_rules}
use Rattle.ivy_host.specs.stated.Managers.{Managed, managed_ops}
use Rattle.ivy_site.specs.SiteView.{SiteView}
use Rattle.proof_worlds.specs.stated.Keeping.{Keeps}
use Rattle.proof_worlds.specs.stated.RunState.{Run}
use Rattle.proof_worlds.specs.stated.Still.{HasNothingUnderWay, IsStill}
use Rattle.proof_table.proofs.transitions.Places.{get_map}
use Rattle.ivy_world.specs.declared.round.Round.{Round}
use Rattle.ivy_world.specs.WorldSites.{world_of, AreSites}
use Rattle.ivy_world.specs.WorldRounds.{IsUnderWay, HasNoneUnderWay, IsNextMove, Comes, NoneComes, IsPassed, IsRoundMove, DoesNothing, DoesSomething, StaysStill, round_after}
use Rattle.ivy_world.proofs.Growing.{IsFurther, moves_further}

-- what stands before the end of a list stands there still
get_left : {X : Type 0} (xs ys : List X) (i : ℕ) (x : X) → i < length xs
    → slice_get (xs ++ ys) i ≡ Some x → slice_get xs i ≡ Some x
get_left [] ys i x below is = absurd (omega (arith, below))
get_left (z ∷ xs) ys zero x below is = is
get_left (z ∷ xs) ys (suc i) x below is = get_left xs ys i x (omega (arith, below)) is

-- what comes to a site comes to the node of its place
module _ (c : Config) (sites : List SiteView) (sent : List (List ℕ)) (are : AreSites c sites) where
  pub to_comes : (index to : ℕ) → IsUnderWay sites sent index to
      → Comes c (world_of sites sent) index to
  to_comes index to u = record {
    string = u.string;
    there = u.there;
    byte = u.way.dest;
    node = u.way.site.node;
    at = slice_get-map (λ (s : SiteView). s.node) sites to
        ∙ ap (option_map (λ (s : SiteView). s.node)) u.way.there;
    frame = u.way.awaited.frame;
    spelled = subst (λ k. Spells k u.way.awaited.frame u.string)
        (are.config to u.way.site u.way.there) u.way.awaited.spelled;
    dest = u.way.awaited.dest ∙ are.me to u.way.site u.way.there;
    later = u.way.awaited.later;
  }

  pub from_comes : (index to : ℕ) → Comes c (world_of sites sent) index to
      → IsUnderWay sites sent index to
  from_comes index to u =
      let s = get_map (λ (s : SiteView). s.node) sites u.node to u.at in record {
        string = u.string;
        there = u.there;
        way = record {
          dest = u.byte;
          site = s.0;
          there = s.1;
          awaited = record {
            frame = u.frame;
            spelled = subst (λ k. Spells k u.frame u.string) (sym (are.config to s.0 s.1)) u.spelled;
            dest = u.dest ∙ sym (are.me to s.0 s.1);
            later = subst (λ (n : Node (Host Managed)).
                (peer_at n.link u.frame.source).delivered < u.frame.number) s.2 u.later;
          };
        };
      }

  -- the place from which the next round looks
  pub passed_on : (old new : ℕ) → IsPassed c (world_of sites sent) old → new ≤ length sent
      → HasNoneUnderWay sites sent old new → IsPassed c (world_of sites sent) new
  passed_on old new h within none = record {
    within = within;
    none = λ index to below u. elim (cases_lt index old) [
      | inl before ↦ h.none index to before u
      | inr after ↦ none index to after below (from_comes index to u)
    ];
  }

  none_before : (old end : ℕ) → IsPassed c (world_of sites sent) old
      → HasNoneUnderWay sites sent old end → NoneComes c (world_of sites sent) end
  none_before old end h none index to below u = elim (cases_lt index old) [
    | inl before ↦ h.none index to before u
    | inr after ↦ none index to after below (from_comes index to u)
  ]

  -- the next move of a round
  pub round_move : (old turn : ℕ) (step : Move) → IsPassed c (world_of sites sent) old
      → IsNextMove sites sent old turn step → IsRoundMove c (world_of sites sent) turn step
  round_move old turn (Turn i) h next =
      (next.0, λ none. none_before old (length sent) h (next.1 none))
  round_move old turn (Deliver index to) h next =
      (next.0, to_comes index to next.1, none_before old index h next.2)
  round_move old turn (Pulse i j) h next = absurd next

-- at first
pub passed_none : (c : Config) (w : World (Host Managed)) → IsPassed c w 0
passed_none c w = record {
  within = omega arith;
  none = λ index to below u. absurd (omega (arith, below));
}

-- after a move
pub passed_further : (c : Config) (w end : World (Host Managed)) (step : Move) (passed : ℕ)
    → Moves (host_rules managed_ops) c w step end → IsPassed c w passed → IsPassed c end passed
passed_further c w end step passed moves h =
    let on : IsFurther (host_rules managed_ops) c w end =
    moves_further (host_rules managed_ops) c w end step moves in
    let grown = ap length on.sent.1 ∙ length-append w.sent on.sent.0 in
    let within = h.within in record {
      within = omega (arith, grown, within);
      none = λ index to below u.
          let n = on.nodes to u.node u.at in
          h.none index to below (record {
            string = u.string;
            there = get_left w.sent on.sent.0 index u.string (omega (arith, below, within))
                (ap (λ l. slice_get l index) (sym on.sent.1) ∙ u.there);
            byte = u.byte;
            node = n.0;
            at = n.1;
            frame = u.frame;
            spelled = u.spelled;
            dest = u.dest;
            later = let less = n.2 u.frame.source in let later = u.later in
                omega (arith, less, later);
          });
    }

-- where nothing is under way, none comes
body_within : (sent : List Message) (number : ℕ) (body : Option Message) → IsBody sent number body
    → number ≤ length sent
body_within sent number None is = omega (arith, is)
body_within sent number (Some m) is =
    let inside = slice_get_within sent (number - 1) m is.1 in let some = is.0 in
    omega (arith, inside, some)

module _ (r : Run) (keeps : Keeps r) (none : HasNothingUnderWay r.world) where
  w : World (Host Managed)
  w = r.world

  node_there : (i : ℕ) → i < r.config.nodes
      → (n : Node (Host Managed)) × (slice_get r.world.nodes i ≡ Some n)
  node_there i below = elim (slice_get_cases r.world.nodes i).1 [
    | inl there ↦ (there.0, there.2)
    | inr past ↦
        absurd (let a = past.0 in let b = keeps.nodes in omega (arith, a, b, below))
  ]

  pub none_comes : NoneComes r.config r.world (length r.world.sent)
  none_comes index to below u =
      let follows = keeps.ordered.follows in
      let posted = keeps.ordered.posted in
      let string : IsString r.config posted u.string =
      subst (IsString r.config posted)
      (get_or_from_slice_get r.world.sent index u.string u.string u.there)
      (follows.strings index u.string below) in
      let made : IsMade r.config.nodes posted u.frame =
      subst (IsMade r.config.nodes posted)
      (spelled_same r.config keeps.limits string.0 u.frame u.string string.1 u.spelled) string.2 in
      let src = u.frame.source in
      let dst = u.frame.dest in
      let n = node_there src made.source in
      let count : length (links_of r.world) ≡ r.config.nodes =
      length-map r.world.nodes (λ (x : Node (Host Managed)). x.link) ∙ follows.nodes in
      let a = made.source in
      let b = made.dest in
      let counted : (peer_at (link_at (links_of r.world) src) dst).sent
      ≡ length (posted src dst) =
      follows.paired.counted src dst (omega (arith, a, count)) (omega (arith, b, count)) in
      let at_src : link_at (links_of r.world) src ≡ n.0.link =
      link_of r.world.nodes src n.0 n.1 in
      let here : slice_get r.world.nodes dst ≡ Some u.node =
      ap (slice_get r.world.nodes) u.dest ∙ u.at in
      let all : (peer_at u.node.link src).delivered ≡ (peer_at n.0.link dst).sent =
      none src dst n.0 u.node made.apart n.1 here in
      let sent : (peer_at n.0.link dst).sent ≡ length (posted src dst) =
      ap (λ (l : Linked). (peer_at l dst).sent) (sym at_src) ∙ counted in
      let number = body_within (posted src dst) u.frame.number u.frame.body made.body in
      let later = u.later in
      omega (arith, all, sent, number, later)

-- a world that stands still rests on
or_none : (a b : Bool) → a ≡ false → b ≡ false → (a || b) ≡ false
or_none true b first second = absurd (let wrong : true ≡ false = first in cc)
or_none false b first second = second

still_turn : (r new : Run) (turn i : ℕ) (did : Bool) → Keeps r → IsStill managed_ops r.world
    → turn < r.config.nodes → i ≡ turn
    → (did ≡ true → DoesSomething r.world (Turn i)) → did ≡ false
still_turn r new turn i false keeps still below is does = refl
still_turn r new turn i true keeps still below is does =
    let count = keeps.nodes in
    elim (slice_get_cases r.world.nodes i).1 [
      | inl there ↦ absurd (does refl there.0 there.2 (still.turns i there.0 there.2))
      | inr past ↦ absurd (let a = past.0 in omega (arith, a, below, is, count))
    ]

-- so the next move of its round does nothing
pub rests_on : (old new : Run) (round : Round) (step : Move) (did : Bool) → Keeps old
    → IsStill managed_ops old.world → round.turn < old.config.nodes → round.stirred ≡ false
    → IsRoundMove old.config old.world round.turn step
    → (did ≡ true → DoesSomething old.world step)
    → (did ≡ false → DoesNothing old.world step × (new ≡ old))
    → (new ≡ old) × ((round_after round step did).turn ≡ round.turn + 1)
    × ((round_after round step did).stirred ≡ false)
rests_on old new round (Turn i) did keeps still below idle next does nothing =
    let no = still_turn old new round.turn i did keeps still below next.0 does in
    ((nothing no).1, refl, or_none round.stirred did idle no)
rests_on old new round (Deliver index to) did keeps still below idle next does nothing =
    let u = next.1 in
    absurd (none_comes old keeps still.delivered index to
    (slice_get_within old.world.sent index u.string u.there) u)
rests_on old new round (Pulse i j) did keeps still below idle next does nothing = absurd next

-- the same, where only the place from which strings are looked at changed before
module _ (old mid new : Run) (was : mid ≡ old) (round after : Round) (step : Move) (did : Bool)
    (keeps : Keeps old) (below : round.turn < old.config.nodes)
    (next : IsRoundMove old.config old.world round.turn step)
    (does : ◌≡◌ {A = Result Bool Fault} (Ok did) (Ok true) → DoesSomething mid.world step)
    (nothing : ◌≡◌ {A = Result Bool Fault} (Ok did) (Ok false)
    → DoesNothing mid.world step × (new ≡ mid))
    (is : after ≡ round_after round step did) where
  rested : IsStill managed_ops old.world → round.stirred ≡ false
      → (new ≡ old) × ((round_after round step did).turn ≡ round.turn + 1)
      × ((round_after round step did).stirred ≡ false)
  rested still idle =
      rests_on old new round step did keeps still below idle next
      (λ d. subst (λ (r : Run). DoesSomething r.world step) was (does (ap Ok d)))
      (λ d. let n = nothing (ap Ok d) in
      (subst (λ (r : Run). DoesNothing r.world step) was n.0, n.1 ∙ was))

  -- the round goes on
  pub rests_within : after.turn < new.config.nodes → StaysStill old round new after
  rests_within within still idle =
      let x = rested still idle in record {
        same = x.0;
        turn = ap (λ (r : Round). r.turn) is ∙ x.1;
        idle = ap (λ (r : Round). r.stirred) is ∙ x.2;
        within = subst (λ (r : Run). after.turn < r.config.nodes) x.0 within;
      }

  -- or it is at its end
  pub rests_at_end : IsStill managed_ops old.world → round.stirred ≡ false
      → (after.stirred ≡ false) × HasNothingUnderWay new.world
  rests_at_end still idle =
      let x = rested still idle in (
        ap (λ (r : Round). r.stirred) is ∙ x.2,
        subst (λ (r : Run). HasNothingUnderWay r.world) (sym x.0) still.delivered,
      )
