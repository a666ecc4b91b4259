-- Worlds that commands lead from their opening, and what is printed of them.
use Rattle.std.proofs.Common.{◌≡◌, ℕ, ◌+◌, ◌<◌, List, [], ◌∷◌, length, take, get_or, Option, ap, sym, subst, ◌∙◌}
use Rattle.std.proofs.lemmas.List.{take_more}
use Rattle.std.specs.Io.KnownBytes.{Appends}
use Rattle.ivy_texts.specs.declared.Settings.{Settings}
use Rattle.ivy_model.specs.declared.Config.{Config}
use Rattle.ivy_program.specs.stated.Programs.{Program}
use Rattle.ivy_moves.specs.declared.Move.{Move}
use Rattle.ivy_moves.specs.stated.Worlds.{World}
use Rattle.ivy_host.specs.stated.Hosts.{Host, host_rules}
use Rattle.ivy_host.specs.declared.opening.Opening.{Opening}
use Rattle.ivy_host.specs.stated.Managers.{Managed, managed_ops}
use Rattle.ivy_host.specs.stated.Openings.{managed_start, opening}
use Rattle.proof_worlds.specs.stated.Reached.{IsLedTo}
use Rattle.proof_worlds.specs.stated.RunState.{Run}
use Rattle.ivy_moves.proofs.Leading.{leads_on}
use Rattle.ivy_texts.specs.Drawn.{seeded}
use Rattle.ivy_simulation.specs.Played.{Adds, PrintsDrawnBy, PrintsMovesBy, config_of, world_text}
use Rattle.ivy_world.specs.stated.Runs.{opened_run}
use Rattle.ivy_simulation.specs.Simulated.{DrawnTo}
use Rattle.ivy_simulation.proofs.Printing.{adds-last}

-- one move more is made
pub led_on : (c c' : Config) (u v w : World (Host Managed)) (moves : List Move) (i : ℕ) (d : Move)
    → i < length moves → c' ≡ c → IsLedTo c u (take i moves) v
    → IsLedTo c' v (get_or moves i d ∷ []) w → IsLedTo c u (take (i + 1) moves) w
led_on c c' u v w moves i d within same led next =
    let one : IsLedTo c v (get_or moves i d ∷ []) w =
    subst (λ k. IsLedTo k v (get_or moves i d ∷ []) w) same next in
    subst (λ (ms : List Move). IsLedTo c u ms w) (sym (take_more moves i d within))
    (leads_on (host_rules managed_ops) c u v w (take i moves) (get_or moves i d ∷ []) led one)

-- a world that was this opening of these programs, under the configuration of the settings
module _ (s : Settings) (n : ℕ) (o : Opening) (c : Config) (programs : List Program) (r : Run)
    (end : World (Host Managed)) (old new : Option (List ℕ))
    (count : n ≡ length programs) (shown : c ≡ config_of s n)
    (opens : r ≡ opened_run o c programs)
  where
    config-is : c ≡ config_of s (length programs)
    config-is = shown ∙ ap (config_of s) count

    pub drawn-printed : (seed moves : ℕ) → DrawnTo c (seeded seed) moves r.world end
        → Appends old new (world_text end)
        → PrintsDrawnBy o (config_of s (length programs)) programs old new seed moves
    drawn-printed seed moves drawn printed =
        let started : DrawnTo c (seeded seed) moves (opening (managed_start o) c programs) end =
        subst (λ w. DrawnTo c (seeded seed) moves w end) (ap (λ (x : Run). x.world) opens)
        drawn in
        record {
          end = end;
          drawn = subst
              (λ k. DrawnTo k (seeded seed) moves (opening (managed_start o) k programs) end)
              config-is started;
          printed = printed;
        }

    pub moves-printed : (mid : Option (List ℕ)) (moves : List Move)
        → IsLedTo r.config r.world moves end → Adds old mid → Appends mid new (world_text end)
        → PrintsMovesBy o (config_of s (length programs)) programs old new moves
    moves-printed mid moves led traced printed =
        let same : IsLedTo c r.world moves end =
        subst (λ k. IsLedTo k r.world moves end) (ap (λ (x : Run). x.config) opens) led in
        let started : IsLedTo c (opening (managed_start o) c programs) moves end =
        subst (λ w. IsLedTo c w moves end) (ap (λ (x : Run). x.world) opens) same in
        record {
          end = end;
          led = subst (λ k. IsLedTo k (opening (managed_start o) k programs) moves end) config-is
              started;
          printed = adds-last old mid new (world_text end) traced printed;
        }
