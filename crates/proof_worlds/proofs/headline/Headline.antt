-- What holds of each world that moves lead to from its opening.
use Rattle.std.proofs.Common.{◌≡◌, ℕ, List, [], ◌++◌, length, slice_get, Some}
use Rattle.std.proofs.lemmas.List.Elements.{All-contains}
use Rattle.ivy_model.specs.declared.Config.{Config}
use Rattle.ivy_model.specs.stated.Config.{IsConfig}
use Rattle.ivy_wire.specs.stated.Data.{Message}
use Rattle.ivy_host.specs.stated.Managers.{Managed, managed_ops}
use Rattle.ivy_host.specs.ManagedLaws.{managed_laws}
use Rattle.ivy_program.specs.stated.Programs.{Program}
use Rattle.ivy_moves.specs.declared.Move.{Move}
use Rattle.ivy_moves.specs.stated.Nodes.{Node}
use Rattle.ivy_moves.specs.stated.Worlds.{World, Leads}
use Rattle.ivy_moves.specs.stated.Explained.{GoesOn}
use Rattle.ivy_moves.specs.stated.Following.{Follows, IsString}
use Rattle.ivy_moves.specs.Following.{IsWellBehaved}
use Rattle.ivy_moves.proofs.Kept.{led}
use Rattle.ivy_moves.proofs.Opening.{opening_follows}
use Rattle.ivy_host.specs.stated.Hosts.{Host, host_rules, answered_by}
use Rattle.ivy_host.specs.stated.Sound.{IsSoundHost}
use Rattle.ivy_host.specs.declared.opening.Opening.{Opening}
use Rattle.ivy_host.specs.stated.Openings.{managed_start, opening}
use Rattle.ivy_host.proofs.Starts.{IsStart, managed_new}
use Rattle.ivy_host.specs.stated.Holding.{IsExclusive, AreRuns, HasNoBreach, AllSpell}
use Rattle.proof_worlds.specs.consistency.Alone.{GoesOnAlone, WordsAreCarriedAlone}
use Rattle.proof_worlds.proofs.consistency.AloneWorlds.{opening_alone}
use Rattle.proof_worlds.proofs.consistency.FaithfulWorlds.{opening_explained, opening_runs}
use Rattle.proof_worlds.proofs.refinement.FifoRuns.{led_in_order}
use Rattle.proof_worlds.proofs.refinement.Worlds.{exclusive_led}
use Rattle.proof_worlds.proofs.progress.EitherRoutes.{either_awaited, either_routed}
use Rattle.proof_worlds.proofs.progress.EitherWorlds.{either_no_breach}
use Rattle.proof_worlds.proofs.progress.StillWorlds.{unblocked-led, settled-led}
use Rattle.proof_worlds.specs.stated.RunState.{Run}
use Rattle.proof_worlds.specs.stated.Reached.{IsLedTo, IsReached, IsExplainedAlong, opening_of}
use Rattle.proof_worlds.specs.stated.Keeping.{Keeps}
use Rattle.ivy_moves.proofs.Leading.{leads_on}
use Rattle.ivy_host.proofs.WellBehaved.{well_behaved, opening_is}

module _ (opened : Opening) (c : Config) (programs : List Program) (config : IsConfig c)
    (each : length programs ≡ c.nodes) where
  keeps_well_behaved : IsWellBehaved (host_rules managed_ops) c (IsSoundHost managed_ops c)
  keeps_well_behaved = well_behaved managed_laws c

  new : IsStart managed_ops c (managed_start opened)
  new = managed_new opened c config

  begun : Follows c (IsSoundHost managed_ops c) (opening (managed_start opened) c programs)
      (λ i j. [])
  begun =
      opening_follows c (IsSoundHost managed_ops c) (opening (managed_start opened) c programs)
      (opening_is (managed_start opened) c programs config new each)

  pub exclusive_along : (moves : List Move) (w : World (Host Managed))
      → Leads (host_rules managed_ops) c (opening (managed_start opened) c programs) moves w
      → IsExclusive w
  exclusive_along = exclusive_led managed_laws (managed_start opened) c config new
      (managed_ops.first c 0) programs each

  pub no_breach-led : (moves : List Move) (w : World (Host Managed))
      → Leads (host_rules managed_ops) c (opening (managed_start opened) c programs) moves w
      → HasNoBreach w
  no_breach-led = either_no_breach c config opened (managed_ops.first c 0) programs each

  pub runs_led : (moves : List Move) (w : World (Host Managed))
      → Leads (host_rules managed_ops) c (opening (managed_start opened) c programs) moves w
      → AreRuns programs w
  runs_led moves w h =
      opening_runs managed_ops managed_laws (managed_start opened) c config new programs each begun
      w moves h

  pub explained-along : (moves : List Move)
      → GoesOn (host_rules managed_ops) c answered_by [] (opening (managed_start opened) c programs)
      [] moves
  explained-along moves =
      opening_explained managed_ops managed_laws (managed_start opened) c config new programs each
      begun moves

  pub alone-along : (moves : List Move)
      → GoesOnAlone (host_rules managed_ops) c [] (opening (managed_start opened) c programs) []
      moves
  alone-along moves =
      opening_alone managed_ops managed_laws (managed_start opened) c config new programs each begun
      moves

  pub spelled-led : (moves : List Move) (w : World (Host Managed))
      → Leads (host_rules managed_ops) c (opening (managed_start opened) c programs) moves w
      → AllSpell c w
  spelled-led moves w h bytes there =
      let f : (posted : ℕ → ℕ → List Message) × Follows c (IsSoundHost managed_ops c) w posted
      = led (host_rules managed_ops) c (IsSoundHost managed_ops c) config keeps_well_behaved
      (opening (managed_start opened) c programs) w (λ i j. []) moves begun h in
      let s : IsString c f.0 bytes = All-contains (IsString c f.0) w.sent bytes f.1.strings there in
      (s.0, s.1)

  pub nodes-led : (moves : List Move) (w : World (Host Managed))
      → Leads (host_rules managed_ops) c (opening (managed_start opened) c programs) moves w
      → length w.nodes ≡ c.nodes
  nodes-led moves w h =
      let f : (posted : ℕ → ℕ → List Message) × Follows c (IsSoundHost managed_ops c) w posted
      = led (host_rules managed_ops) c (IsSoundHost managed_ops c) config keeps_well_behaved
      (opening (managed_start opened) c programs) w (λ i j. []) moves begun h in
      f.1.nodes

  pub sound-led : (moves : List Move) (w : World (Host Managed))
      → Leads (host_rules managed_ops) c (opening (managed_start opened) c programs) moves w
      → (i : ℕ) (n : Node (Host Managed)) → slice_get w.nodes i ≡ Some n
      → IsSoundHost managed_ops c i n.core
  sound-led moves w h =
      let f : (posted : ℕ → ℕ → List Message) × Follows c (IsSoundHost managed_ops c) w posted
      = led (host_rules managed_ops) c (IsSoundHost managed_ops c) config keeps_well_behaved
      (opening (managed_start opened) c programs) w (λ i j. []) moves begun h in
      f.1.sound

-- what is promised of each world that was reached
pub keeps-reached : (r : Run) → IsConfig r.config → length r.programs ≡ r.config.nodes → IsReached r
    → Keeps r
keeps-reached r config each reached = record {
  limits = config;
  programs = each;
  nodes = nodes-led r.opened r.config r.programs config each reached.0 r.world reached.1;
  reached = reached;
  exclusive = exclusive_along r.opened r.config r.programs config each reached.0 r.world reached.1;
  runs = runs_led r.opened r.config r.programs config each reached.0 r.world reached.1;
  no_breach = no_breach-led r.opened r.config r.programs config each reached.0 r.world reached.1;
  spelled = spelled-led r.opened r.config r.programs config each reached.0 r.world reached.1;
  ordered =
      led_in_order managed_laws (managed_start r.opened) r.config config
      (managed_new r.opened r.config config) r.programs each reached.0 r.world reached.1;
  waits = either_awaited r.config config r.opened r.programs each;
  routes = either_routed r.config config r.opened r.programs each;
  explained = λ moves led. explained-along r.opened r.config r.programs config each moves;
  quiet = unblocked-led r.opened r.config r.programs config each reached.0 r.world reached.1;
  still = settled-led r.opened r.config r.programs config each reached.0 r.world reached.1;
}

-- and moves that go on from there
pub explained-on : (r : Run) → IsConfig r.config → length r.programs ≡ r.config.nodes
    → (made : List Move) (w : World (Host Managed)) → IsLedTo r.config r.world made w
    → (before : List Move) → IsLedTo r.config (opening_of r) before r.world
    → IsLedTo r.config (opening_of r) (before ++ made) w × IsExplainedAlong r (before ++ made)
explained-on r config each made w led before there = (
  leads_on (host_rules managed_ops) r.config (opening_of r) r.world w before made there led,
  explained-along r.opened r.config r.programs config each (before ++ made),
)

pub words_are_carried_alone : WordsAreCarriedAlone
words_are_carried_alone opened c config programs each moves =
    alone-along opened c programs config each moves
