-- In worlds that moves lead to from an opening no node fetches a page, where no program does.
use Rattle.std.proofs.Common.{◌≡◌, ℕ, List, [], ◌∷◌, length, refl, arith}
use Rattle.std.specs.List.{Contains}
use Rattle.ivy_model.specs.declared.Config.{Config}
use Rattle.ivy_model.specs.stated.Config.{IsConfig}
use Rattle.ivy_program.specs.Programs.{FetchNothing}
use Rattle.ivy_program.specs.stated.Programs.{Program}
use Rattle.ivy_moves.specs.stated.FifoWorld.{FifoWorld}
use Rattle.ivy_moves.specs.stated.Following.{fifo_of}
use Rattle.ivy_moves.specs.stated.Worlds.{World}
use Rattle.ivy_moves.proofs.Places.{core_of}
use Rattle.ivy_host.specs.declared.opening.Opening.{Opening}
use Rattle.ivy_host.specs.ManagedLaws.{managed_laws}
use Rattle.ivy_host.specs.stated.Hosts.{Host}
use Rattle.ivy_host.specs.stated.Managers.{Managed, managed_ops}
use Rattle.ivy_host.specs.stated.Openings.{managed_start}
use Rattle.ivy_host.proofs.Starts.{managed_new}
use Rattle.proof_worlds.specs.stated.FifoRuns.{IsReachedInOrder, FollowsInOrder}
use Rattle.proof_worlds.proofs.refinement.FifoRuns.{led_in_order}
use Rattle.proof_worlds.proofs.progress.FetchedPages.{unhanded-page}
use Rattle.proof_worlds.proofs.progress.Reached.{AllUnhanded, IsToldBy, reached_told, reached_unhanded}
use Rattle.proof_answers.specs.answers.Undropped.{IsOfMoves}
use Rattle.proof_answers.specs.sweeps.FewUnderWay.{IsNoneFetched}

-- there are as many programs as nodes, and none fetches a page
abbrev pub ArePlain : Config → List Program → Type 0
ArePlain c programs = (length programs ≡ c.nodes) × FetchNothing programs

pub unhanded_of : (opened : Opening) (c : Config) → IsConfig c → (programs : List Program)
    → ArePlain c programs → (o : FifoWorld (Host Managed))
    → IsReachedInOrder managed_ops (managed_start opened) c programs o → AllUnhanded o
unhanded_of opened c limits programs plain o run =
    reached_unhanded managed_ops managed_laws (managed_start opened) c limits
    (managed_new opened c limits) programs plain.0 plain.1 o run

-- where no program has pages fetched ahead, none is fetched
pub none_is_fetched : (opened : Opening) (c : Config) (programs : List Program)
    (w : World (Host Managed)) → IsOfMoves opened c programs w → FetchNothing programs
    → IsNoneFetched w
none_is_fetched opened c programs w of none i n there =
    let f : FollowsInOrder managed_ops (managed_start opened) c programs w =
    led_in_order managed_laws (managed_start opened) c of.limits (managed_new opened c of.limits)
    programs of.many of.moves w of.led in
    let told : IsToldBy (managed_start opened).sends_on managed_ops c (fifo_of w f.posted) =
    reached_told managed_ops managed_laws (managed_start opened) c of.limits
    (managed_new opened c of.limits) programs of.many (fifo_of w f.posted) f.reached in
    let here = core_of w.nodes i n there in
    empty n.core.memory.coherence.fetched
    (λ p has. unhanded-page n.core
    (unhanded_of opened c of.limits programs (of.many, none) (fifo_of w f.posted) f.reached i n.core
    here) p ((told.pursued i n.core here).fetched p has))
  where
    empty : (xs : List ℕ) → ((p : ℕ) → Contains xs p → ⊥) → xs ≡ []
    empty [] out = refl
    empty (x ∷ xs) out = absurd (out x (0, omega arith, refl))
