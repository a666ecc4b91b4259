-- A world in which own code of a node makes calls together.
use Rattle.std.proofs.Common.{◌≡◌, ◌≢◌, ℕ, zero, suc, List, [], ◌∷◌, ◌++◌, length-set, set, slice_get, Result, Ok, Err, MatchResult, IfOk, IfErr, IfSome, Some, None, Option, option_map, map, refl, sym, ap, subst, ◌∙◌, append-nil, inl}
use Rattle.std.proofs.lemmas.List.{set-set}
use Rattle.std.proofs.lemmas.Option.{same_Some, slice_get-map}
use Rattle.ivy_model.specs.declared.Call.{Call}
use Rattle.ivy_model.specs.declared.Config.{Config}
use Rattle.ivy_model.specs.declared.Fault.{Fault}
use Rattle.ivy_model.specs.declared.Fault.TheVariants as fault
use Rattle.ivy_model.specs.declared.Row.{Row}
use Rattle.ivy_model.specs.Rows.{calls_of, numbers_in, row}
use Rattle.ivy_model.specs.Wants.{RanOut}
use Rattle.ivy_host.specs.declared.opening.Opening.{Opening}
use Rattle.ivy_moves.specs.stated.Nodes.{Node}
use Rattle.ivy_moves.specs.declared.Move.TheVariants as move
use Rattle.ivy_moves.proofs.Places.{set_same, set-there}
use Rattle.ivy_site.specs.Calls as calls
use Rattle.ivy_site.specs.Handed.{site_handed}
use Rattle.ivy_site.specs.SiteView.{SiteView}
use Rattle.ivy_site.specs.Sites.{IsSpentTurn}
use Rattle.ivy_site.specs.declared.turn.Turn.TheVariants as turn
use Rattle.ivy_host.specs.stated.Hosts.{Host}
use Rattle.ivy_host.specs.stated.Managers.{Managed}
use Rattle.ivy_memory.specs.stated.Memories.{in_progress}
use Rattle.proof_worlds.specs.stated.RunState.{Run}
use Rattle.proof_worlds.proofs.headline.Headline.{explained-on}
use Rattle.ivy_world.specs.HandedWorlds.{BeginsBlock, BeginsTogether, HasHadTurn, IsRefusedBlock}
use Rattle.ivy_world.specs.WorldRounds.{IsPassed}
use Rattle.ivy_world.specs.stated.Runs.{IsRefusedBy}
use Rattle.ivy_world.specs.WorldSites.{world_of, run_of, HaveBegun, IsRefusedRow, IsRunning, AfterMove}
use Rattle.ivy_world.proofs.Coming.{passed_further}
use Rattle.ivy_world.proofs.GoingOn.{went_there}
use Rattle.ivy_world.proofs.HandedWorlds.{handed_passed, handed_run, handed_running}
use Rattle.ivy_world.proofs.Making.{node_there, turn_refused, turn_went}
use Rattle.ivy_world.proofs.Worlds.{running_each, runs_on}

-- what is so of the world after the calls
pub record IsAfterBlock (node : ℕ) (calls : List Call) (c : Config) (opened : Opening)
    (sites : List SiteView)
    (sent : List (List ℕ)) (passed : ℕ) (sites' : List SiteView) (sent' : List (List ℕ)) : Type 0 where
  pub running : IsRunning c opened sites' sent'
  pub passes : IsPassed c (world_of sites' sent') passed
  pub block : BeginsBlock node calls (run_of c opened sites sent) (run_of c opened sites' sent')

-- a site at which no string waits is as it is once they are put on the wire
emptied : (s : SiteView) → s.waiting ≡ [] → record s { waiting = [] } ≡ s
emptied s none = λ k. record s { waiting = sym none k }

module _ (c : Config) (opened : Opening) (sites : List SiteView) (sent : List (List ℕ))
    (passed node : ℕ)
    (h : IsRunning c opened sites sent) (p : IsPassed c (world_of sites sent) passed) where
  -- the world is as it was
  stayed : (sites' : List SiteView) (sent' : List (List ℕ)) → sites' ≡ sites → sent' ≡ sent
      → IsAfterBlock node [] c opened sites sent passed sites' sent'
  stayed sites' sent' same more = record {
    running = subst (λ l. IsRunning c opened l sent') (sym same)
        (subst (IsRunning c opened sites) (sym more) h);
    passes = subst (λ l. IsPassed c (world_of l sent') passed) (sym same)
        (subst (λ l. IsPassed c (world_of sites l) passed) (sym more) p);
    block = λ k. run_of c opened (same k) (more k);
  }

  module _ (old done : SiteView) (there : slice_get sites node ≡ Some old) (made : List Call)
      (begins : calls.BeginsTogether made old done) where
    abbrev handed : SiteView
    handed = site_handed (made ∷ []) old

    abbrev mid : List SiteView
    mid = set sites node handed

    abbrev end : List SiteView
    end = set sites node (record done { waiting = [] })

    mid_running : IsRunning c opened mid sent
    mid_running = handed_running c opened sites sent node old there (made ∷ []) h

    -- the turn, over the sites to which the calls were handed
    turned : AfterMove c mid end sent (sent ++ done.waiting) (move.Turn node)
    turned =
        subst (λ l. AfterMove c mid l sent (sent ++ done.waiting) (move.Turn node))
        (set-set sites node handed (record done { waiting = [] }))
        (went_there c mid (set mid node (record done { waiting = [] })) sent (sent ++ done.waiting)
        (move.Turn node)
        (turn_went c mid sent node handed done (record done { waiting = [] }) turn.Moved (move.Turn node)
        (sent ++ done.waiting) mid_running.nodes (set-there sites node handed old there) begins.turns
        refl refl refl))

    end_running : IsRunning c opened end (sent ++ done.waiting)
    end_running =
        runs_on c opened mid end sent (sent ++ done.waiting) (move.Turn node) mid_running turned.are
        (length-set sites node (record done { waiting = [] }) ∙ h.count) turned.programs turned.made

    had_turn : HasHadTurn node (run_of c opened mid sent)
        (run_of c opened end (sent ++ done.waiting))
    had_turn = record {
      stays = (refl, turned.programs, refl);
      moves = turned.made;
      explained = explained-on (run_of c opened mid sent) mid_running.limits
          (running_each c opened mid sent mid_running)
          (move.Turn node ∷ []) (world_of end (sent ++ done.waiting))
          (world_of end (sent ++ done.waiting), turned.made, refl);
    }

    -- the nodes before and after it
    node_before : (m : Node (Host Managed))
        → slice_get (map (λ (s : SiteView). s.node) sites) node ≡ Some m → old.node ≡ m
    node_before m at = same_Some old.node m (sym (node_there c sites sent node old there) ∙ at)

    node_after : (n : Node (Host Managed))
        → slice_get (map (λ (s : SiteView). s.node) end) node ≡ Some n → done.node ≡ n
    node_after n at =
        same_Some done.node n
        (sym (node_there c end sent node (record done { waiting = [] })
        (set-there sites node (record done { waiting = [] }) old there)) ∙ at)

    begun_together : BeginsTogether node made (run_of c opened sites sent)
        (run_of c opened end (sent ++ done.waiting))
    begun_together = record {
      turn = subst (λ (r : Run). HasHadTurn node r (run_of c opened end (sent ++ done.waiting)))
          (handed_run c opened sites sent node old there (made ∷ []) h) had_turn;
      waits = λ n at. subst (λ (x : Node (Host Managed)).
          in_progress x.core.memory.asked x.core.memory.along ≡ made) (node_after n at) begins.waits;
      recorded = λ m n before after.
          ap (λ (x : Node (Host Managed)). x.core.history) (sym (node_after n after))
          ∙ begins.recorded ∙ ap (λ (x : Node (Host Managed)). x.core.history) (node_before m before);
    }

    end_passed : IsPassed c (world_of end (sent ++ done.waiting)) passed
    end_passed =
        passed_further c (world_of mid sent) (world_of end (sent ++ done.waiting)) (move.Turn node) passed
        turned.made (handed_passed c opened sites sent node old there (made ∷ []) h passed p)

  -- the calls that there are, or none
  after_calls : (made : List Call) (old done : SiteView) → slice_get sites node ≡ Some old
      → calls.BeginsRow made old done
      → IsAfterBlock node made c opened sites sent passed
      (set sites node (record done { waiting = [] }))
      (sent ++ done.waiting)
  after_calls [] old done there begins =
      let none : done.waiting ≡ [] =
      ap (λ (s : SiteView). s.waiting) begins ∙ h.nodes.none_waits node old there in
      stayed (set sites node (record done { waiting = [] })) (sent ++ done.waiting)
      (ap (set sites node) (emptied done none ∙ begins) ∙ set_same sites node old there)
      (ap (λ l. sent ++ l) none ∙ append-nil sent)
  after_calls (call ∷ more) old done there begins = record {
    running = end_running old done there (call ∷ more) begins;
    passes = end_passed old done there (call ∷ more) begins;
    block = begun_together old done there (call ∷ more) begins;
  }

  after_begun : (made : List Call) (sites' : List SiteView) (sent' : List (List ℕ))
      → HaveBegun node made sites sent sites' sent'
      → IsAfterBlock node made c opened sites sent passed sites' sent'
  after_begun made sites' sent' b =
      subst (λ l. IsAfterBlock node made c opened sites sent passed l sent') (sym b.changed)
      (subst (IsAfterBlock node made c opened sites sent passed
      (set sites node (record b.done { waiting = [] })))
      (sym b.more) (after_calls made b.old b.done b.there b.begins))

  -- as the code has it: the world runs on
  pub block_running : (result : Result ℕ Fault) (made : ℕ → List Call) (sites' : List SiteView)
      (sent' : List (List ℕ))
      → MatchResult result (λ n. HaveBegun node (made n) sites sent sites' sent')
      (λ e. (sites' ≡ sites) × (sent' ≡ sent))
      → IsRunning c opened sites' sent' × IsPassed c (world_of sites' sent') passed
  block_running (Ok n) made sites' sent' b =
      let a = after_begun (made n) sites' sent' b in (a.running, a.passes)
  block_running (Err e) made sites' sent' b =
      let a = stayed sites' sent' b.0 b.1 in (a.running, a.passes)

  -- and so many calls were begun
  pub block_begun : (result : Result ℕ Fault) (made : ℕ → List Call) (sites' : List SiteView)
      (sent' : List (List ℕ))
      → MatchResult result (λ n. HaveBegun node (made n) sites sent sites' sent')
      (λ e. (sites' ≡ sites) × (sent' ≡ sent))
      → MatchResult result (λ n. BeginsBlock node (made n) (run_of c opened sites sent)
      (run_of c opened sites' sent'))
      (λ e. run_of c opened sites' sent' ≡ run_of c opened sites sent)
  block_begun (Ok n) made sites' sent' b = (after_begun (made n) sites' sent' b).block
  block_begun (Err e) made sites' sent' b = (stayed sites' sent' b.0 b.1).block

-- what a site says, its node says
said_by : (o : Option SiteView) (P : SiteView → Type 0) (Q : Node (Host Managed) → Type 0)
    → ((s : SiteView) → o ≡ Some s → P s → Q s.node)
    → IfSome o P → IfSome (option_map (λ (s : SiteView). s.node) o) Q
said_by None P Q goes says = tt
said_by (Some s) P Q goes says = goes s refl says

pub node_says : (sites : List SiteView) (node : ℕ) (P : SiteView → Type 0) (Q : Node (Host Managed) → Type 0)
    → ((s : SiteView) → slice_get sites node ≡ Some s → P s → Q s.node)
    → IfSome (slice_get sites node) P
    → IfSome (slice_get (map (λ (s : SiteView). s.node) sites) node) Q
node_says sites node P Q goes says =
    subst (λ o. IfSome o Q) (sym (slice_get-map (λ (s : SiteView). s.node) sites node))
    (said_by (slice_get sites node) P Q goes says)

-- so it is of a number that a result has
pub count_says : (r : Result ℕ Fault) (sites : List SiteView) (node : ℕ) (P : ℕ → SiteView → Type 0)
    (Q : ℕ → Node (Host Managed) → Type 0)
    → ((k : ℕ) (s : SiteView) → slice_get sites node ≡ Some s → P k s → Q k s.node)
    → IfOk r (λ k. IfSome (slice_get sites node) (P k))
    → IfOk r (λ k. IfSome (slice_get (map (λ (s : SiteView). s.node) sites) node) (Q k))
count_says (Ok k) sites node P Q goes says = node_says sites node (P k) (Q k) (goes k) says
count_says (Err e) sites node P Q goes says = tt

some_says : (o : Option SiteView) (P : SiteView → Type 0) → ((s : SiteView) → o ≡ Some s → P s)
    → IfSome o P
some_says None P each = tt
some_says (Some s) P each = each s refl

-- what holds of each site of a place holds of the one there
pub place_says : (sites : List SiteView) (node : ℕ) (P : SiteView → Type 0)
    → ((s : SiteView) → slice_get sites node ≡ Some s → P s) → IfSome (slice_get sites node) P
place_says sites node P each = some_says (slice_get sites node) P each

-- why a row was not begun at a site
pub row_wants : (made : List Call) (s : SiteView) (e : Fault) → e ≡ fault.Memory → IsRefusedRow made s e
row_wants [] s e memory = memory
row_wants (call ∷ more) s e memory = (inl memory, λ spent. absurd cc)

pub row_refused : (kind : Row) (addr many : ℕ) (bytes : List ℕ) (s : SiteView) (e : Fault)
    → many ≢ 0 → RanOut e
    → IsSpentTurn (site_handed (calls_of (row kind 0 addr (numbers_in many bytes)) ∷ []) s) e
    → IsRefusedRow (calls_of (row kind 0 addr (numbers_in many bytes))) s e
row_refused kind addr zero bytes s e some want spent = absurd (some refl)
row_refused kind addr (suc n) bytes s e some want spent = (want, spent)

-- so it is of the world
module _ (c : Config) (opened : Opening) (sites : List SiteView) (sent : List (List ℕ)) (node : ℕ)
    (h : IsRunning c opened sites sent) where
  refused_there : (made : List Call) (s : SiteView) (e : Fault) → slice_get sites node ≡ Some s
      → IsRefusedRow made s e → IsRefusedBlock node made (run_of c opened sites sent) e
  refused_there [] s e there why = why
  refused_there (call ∷ more) s e there why =
      let handed : SiteView = site_handed ((call ∷ more) ∷ []) s in
      subst (λ (r : Run). IsRefusedBy r.config r.world e (Some (move.Turn node)))
      (handed_run c opened sites sent node s there ((call ∷ more) ∷ []) h)
      (turn_refused c (set sites node handed) sent node handed (move.Turn node) e
      (set-there sites node handed s there) refl why.1 why.0)

  pub block_refused : (result : Result ℕ Fault) (made : SiteView → List Call)
      (wanted : Node (Host Managed) → List Call)
      → ((s : SiteView) → slice_get sites node ≡ Some s → made s ≡ wanted s.node)
      → IfErr result (λ e. IfSome (slice_get sites node) (λ s. IsRefusedRow (made s) s e))
      → IfErr result (λ e. IfSome (slice_get (map (λ (s : SiteView). s.node) sites) node)
      (λ n. IsRefusedBlock node (wanted n) (run_of c opened sites sent) e))
  block_refused (Ok n) made wanted same says = tt
  block_refused (Err e) made wanted same says =
      node_says sites node (λ s. IsRefusedRow (made s) s e)
      (λ n. IsRefusedBlock node (wanted n) (run_of c opened sites sent) e)
      (λ s at why. subst (λ calls. IsRefusedBlock node calls (run_of c opened sites sent) e)
      (same s at)
      (refused_there (made s) s e at why)) says
