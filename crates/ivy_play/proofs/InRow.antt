-- Calls of a row that are made with no other move between.
use Rattle.std.proofs.Common.{◌≡◌, ◌≢◌, ℕ, zero, suc, ◌+◌, ◌≤◌, Bool, List, [], ◌∷◌, ◌++◌, replicate, Result, Ok, Err, OnOk, OnErr, append-nil, append_assoc, refl, sym, ap, subst, ◌∙◌, arith}
use Rattle.std.proofs.lemmas.List.{replicate_more}
use Rattle.ivy_model.specs.declared.Call.{Call}
use Rattle.ivy_model.specs.declared.Fault.{Fault}
use Rattle.ivy_moves.specs.declared.Move.{Move}
use Rattle.ivy_moves.specs.declared.Move.TheVariants.{Turn}
use Rattle.proof_worlds.specs.stated.RunState.{Run}
use Rattle.ivy_world.specs.HandedWorlds.{run_handed}
use Rattle.ivy_play.specs.Played.{AddsTurns}

-- calls that are handed in change no configuration
pub handed_config : (node : ℕ) (calls : List Call) (old new : Run)
    → new ≡ run_handed node (calls ∷ []) old → new.config ≡ old.config
handed_config node calls old new is = ap (λ (r : Run). r.config) is

-- no turn
pub none_added : (node : ℕ) (old new : List Move) → new ≡ old → AddsTurns node 0 old new
none_added node old new same = record {
  count = 0;
  few = omega arith;
  added = same ∙ sym (append-nil old);
}

-- at most more of them
pub more_allowed : (node n m : ℕ) (old new : List Move) → n ≤ m → AddsTurns node n old new
    → AddsTurns node m old new
more_allowed node n m old new le h =
    let few = h.few in record { count = h.count; few = omega (arith, le, few); added = h.added }

-- one turn more
pub turn_added : (node n : ℕ) (old mid new : List Move) → new ≡ mid ++ Turn node ∷ []
    → AddsTurns node n old mid → AddsTurns node (n + 1) old new
turn_added node n old mid new is h =
    let few = h.few in
    record {
      count = h.count + 1;
      few = omega (arith, few);
      added =
          is ∙ ap (λ (l : List Move). l ++ Turn node ∷ []) h.added
          ∙ append_assoc old (replicate h.count (Turn node)) (Turn node ∷ [])
          ∙ ap (λ (l : List Move). old ++ l) (replicate_more h.count (Turn node));
    }

-- one turn more, where it was not refused
pub turn_tried : (Same : Type 0) (node n : ℕ) (old mid new : List Move) (r : Result Bool Fault)
    → OnOk r (new ≡ mid ++ Turn node ∷ []) → OnErr r (Same × (new ≡ mid))
    → AddsTurns node n old mid → AddsTurns node (n + 1) old new
turn_tried Same node n old mid new (Ok did) ok err h = turn_added node n old mid new ok h
turn_tried Same node n old mid new (Err fault) ok err h =
    more_allowed node n (n + 1) old new (omega arith)
    (subst (AddsTurns node n old) (sym err.1) h)

-- one turn, of some calls
pub one_turn : (node calls : ℕ) (old new : List Move) → calls ≢ 0 → new ≡ old ++ Turn node ∷ []
    → AddsTurns node calls old new
one_turn node zero old new some is = absurd (some refl)
one_turn node (suc n) old new some is =
    more_allowed node 1 (suc n) old new (omega arith)
    (turn_added node 0 old old new is (none_added node old old refl))
