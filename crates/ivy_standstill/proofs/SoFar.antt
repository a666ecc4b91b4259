-- What the starter was told of nodes that need not have ended is a report so far.
use Rattle.std.proofs.Common.{◌≡◌, ℕ, List, length, map, slice_get, Some, sym, ap}
use Rattle.std.proofs.Common.{subst, ◌∙◌, arith, inl, inr}
use Rattle.ivy_model.specs.stated.Explains.{Answered}
use Rattle.std.specs.Prelude.{All}
use Rattle.std.proofs.lemmas.Option.{same_Some, get_or_from_slice_get, slice_get_cases, slice_get_within}
use Rattle.ivy_model.specs.declared.Config.{Config}
use Rattle.ivy_model.specs.stated.Config.{IsConfig}
use Rattle.ivy_program.specs.stated.Programs.{Program}
use Rattle.ivy_program.specs.Programs.{IsWritten}
use Rattle.ivy_moves.specs.Marks.{Mark}
use Rattle.ivy_moves.specs.stated.Nodes.{Node, Effect}
use Rattle.ivy_moves.specs.Parts.{AllHappen, AreParts}
use Rattle.ivy_moves.specs.stated.Worlds.{World}
use Rattle.ivy_moves.proofs.Parts.{runs_are_their_parts}
use Rattle.ivy_moves.proofs.Splitting.{same-effect}
use Rattle.ivy_host.specs.declared.opening.Opening.{Opening}
use Rattle.ivy_host.specs.stated.Hosts.{Host, answered_by, host_rules}
use Rattle.ivy_host.specs.stated.Managers.{Managed, managed_ops}
use Rattle.ivy_ether.specs.Handings.{Handing, handing_all}
use Rattle.ivy_ether.specs.Programs.{beginning, all_handed, Told}
use Rattle.ivy_ether.specs.Rule.{IsNode}
use Rattle.ivy_ether.specs.Views.{View}
use Rattle.ivy_ether.proofs.Advancing.{same_start, list_over}
use Rattle.ivy_ether.proofs.Hosts.{length-all_handed, handed_start, from_start}
use Rattle.proof_worlds.proofs.headline.Headline.{keeps-reached, explained-along}
use Rattle.proof_table.proofs.transitions.Places.{get_map}
use Rattle.proof_worlds.specs.stated.Still.{HasNothingUnderWay, IsStill}
use Rattle.ivy_session.proofs.Reported.{explained_end, map_get, written_from}
use Rattle.ivy_site.specs.SiteView.{SiteView}
use Rattle.ivy_standstill.specs.Delivered.{AreSitesDelivered}
use Rattle.ivy_standstill.specs.Ends.{HasNoTurn, HaveNoTurn, IsStandstill, AreSettledSoFar}
use Rattle.ivy_standstill.specs.SoFar.{NodeSoFar, so_far_of, IsNodeSoFar, IsReportSoFar, IsHandedSoFar, at_world, AreDelivered, AreUnblockedSoFar}
use Rattle.ivy_standstill.specs.CollectedSoFar.{AreToldSoFar}

module _ (c : Config) (opened : Opening) (programs : List Program) (limits : IsConfig c)
    (each : length programs ≡ c.nodes) where
  -- such a node is the one of its place at the end of the run
  at_end : (end : World (Host Managed)) (parts : ℕ → List Mark) (i : ℕ) (n : NodeSoFar)
      → AreParts (host_rules managed_ops) c (beginning c opened programs) parts end → parts i
      ≡ n.events
      → IsNodeSoFar c opened programs i n → slice_get end.nodes i ≡ Some n.node
  at_end end parts i n run list came =
      let first = came.list.node in
      let made =
      (runs_are_their_parts (host_rules managed_ops) c (beginning c opened programs) end parts
      run).each
      i first came.list.there in
      let same : made.0 ≡ came.effect =
      same-effect (host_rules managed_ops) c first n.events made.0 came.effect
      (subst (λ l. AllHappen (host_rules managed_ops) c first l made.0) list made.1)
      came.list.happen in
      made.2 ∙ ap (λ (e : Effect (Host Managed)). Some e.after) same ∙ ap Some (sym came.node)

  so_far_as : (nodes : List NodeSoFar) → length nodes ≡ length programs
      → ((i : ℕ) (n : NodeSoFar) → slice_get nodes i ≡ Some n → IsNodeSoFar c opened programs i n)
      → (parts : ℕ → List Mark) (end : World (Host Managed))
      → AreParts (host_rules managed_ops) c (beginning c opened programs) parts end
      → ((i : ℕ) (n : NodeSoFar) → slice_get nodes i ≡ Some n → parts i ≡ n.events)
      → IsReportSoFar c opened programs nodes
  so_far_as nodes count came parts end run lists =
      let order = explained_end c (beginning c opened programs) end run.moves
      (explained-along opened c programs limits each run.moves) run.leads in record {
        all = count;
        parts = parts;
        end = end;
        run = run;
        lists = lists;
        each = λ i n there. at_end end parts i n run (lists i n there) (came i n there);
        keeps = keeps-reached (at_world c opened programs end) limits each (run.moves, run.leads);
        order = order.0;
        explained = order.1;
      }

-- what is known of a node by what was handed to it holds whatever the others were handed
so_far_over : (c : Config) (opened : Opening) (programs : List Program)
    (handings handings' : ℕ → List Handing) (i : ℕ)
    (n : NodeSoFar) → handings i ≡ handings' i → IsNodeSoFar c opened (all_handed handings programs) i n
    → IsNodeSoFar c opened (all_handed handings' programs) i n
so_far_over c opened programs handings handings' i n same came = record {
  effect = came.effect;
  list = list_over (host_rules managed_ops) c (beginning c opened programs) handing_all
      (beginning c opened (all_handed handings programs))
      (beginning c opened (all_handed handings' programs)) i
      n.events came.effect
      (same_start (host_rules managed_ops) c (beginning c opened programs) handing_all handings handings'
      (beginning c opened (all_handed handings programs))
      (beginning c opened (all_handed handings' programs)) i
      (handed_start c opened programs handings) (handed_start c opened programs handings') same)
      came.list;
  node = came.node;
}

-- what the starter was told is a report so far
pub reported_so_far : (c : Config) (opened : Opening) (programs : List Program) → IsConfig c
    → length programs ≡ c.nodes → (nodes : List NodeSoFar) (v : View)
    → length nodes ≡ length programs → AreToldSoFar c opened programs v nodes → Told c opened
    programs v
    → IsHandedSoFar c opened programs nodes
reported_so_far c opened programs limits each nodes v count told t =
    let known : (i : ℕ) (n : NodeSoFar) (there : slice_get nodes i ≡ Some n)
    → IsNode (host_rules managed_ops) c (beginning c opened programs) handing_all t.handings t.parts i
    (told i n there).handings n.events =
    (λ i n there. t.closed (record { node = i; handed = (told i n there).handings; events = n.events })
    (told i n there).closed) in (
      t.handings,
      so_far_as c opened (all_handed t.handings programs) limits
          (length-all_handed t.handings programs ∙ each)
          nodes (count ∙ sym (length-all_handed t.handings programs))
          (λ i n there. so_far_over c opened programs (λ _. (told i n there).handings) t.handings i n
          (sym (known i n there).handed) (told i n there).so_far)
          t.parts t.end (from_start c opened programs t.handings t.parts t.end t.run)
          (λ i n there. (known i n there).part),
    )

-- nothing can be handed to programs that are written down
pub so_far_written : (c : Config) (opened : Opening) (programs : List Program)
    (nodes : List NodeSoFar)
    → All IsWritten programs → IsHandedSoFar c opened programs nodes → IsReportSoFar c opened
    programs nodes
so_far_written c opened programs nodes all r =
    subst (λ ps. IsReportSoFar c opened ps nodes) (written_from r.0 0 programs all) r.1

-- what is said of sites, said of the report's nodes
pub delivered_so_far : (sites : List SiteView) → AreSitesDelivered sites
    → AreDelivered (map so_far_of sites)
delivered_so_far sites all i j n m apart a b =
    let s = get_map so_far_of sites n i a in
    let t = get_map so_far_of sites m j b in
    rw s.2 (rw t.2 (all i j s.0 t.0 apart s.1 t.1))

-- where no node has a turn, none of them has
no_turn_at : (nodes : List NodeSoFar) (i : ℕ) (x : NodeSoFar) → slice_get nodes i ≡ Some x
    → HaveNoTurn nodes → HasNoTurn x.node
no_turn_at nodes i x there none =
    subst (λ (y : NodeSoFar). HasNoTurn y.node) (get_or_from_slice_get nodes i x x there)
    (none i x (slice_get_within nodes i x there))

module _ (c : Config) (opened : Opening) (programs : List Program) (nodes : List NodeSoFar)
    (r : IsReportSoFar c opened programs nodes) where
  -- each node of the run's end is one of the report
  of_report : (i : ℕ) (n : Node (Host Managed)) → slice_get r.end.nodes i ≡ Some n
      → (x : NodeSoFar) × (slice_get nodes i ≡ Some x) × (n ≡ x.node)
  of_report i n there =
      let within = slice_get_within r.end.nodes i n there in
      let count = r.keeps.nodes in
      let each = r.keeps.programs in
      let all = r.all in
      elim (slice_get_cases nodes i).1 [
        | inl x ↦ (x.0, x.2, same_Some n x.0.node (sym there ∙ r.each i x.0 x.2))
        | inr past ↦ absurd (let far = past.0 in omega (arith, within, count, each, all, far))
      ]

  -- where all is delivered nothing is under way at the end of the run
  nothing_under_way : AreDelivered nodes → HasNothingUnderWay r.end
  nothing_under_way delivered i j n m apart a b =
      let x = of_report i n a in
      let y = of_report j m b in
      rw x.2 (rw y.2 (delivered i j x.0 y.0 apart x.1 y.1))

  -- so no node is blocked
  pub unblocked_so_far : AreDelivered nodes → AreUnblockedSoFar c nodes
  unblocked_so_far delivered =
      let u = r.keeps.quiet (nothing_under_way delivered) in record {
        order = u.order;
        last = u.last;
        legal = u.legal;
        each = λ i n there.
            let x = get_map (λ (y : NodeSoFar). y.node.core) nodes n i there in
            rw x.2 (u.each i x.0.node.core
            (map_get (λ (y : Node (Host Managed)). y.core) r.end.nodes i x.0.node
            (r.each i x.0 x.1)));
      }

  -- the run ends where it stands still
  still_so_far : IsStandstill nodes → IsStill managed_ops r.end
  still_so_far s = record {
    delivered = nothing_under_way s.delivered;
    turns = λ i n there. let x = of_report i n there in rw x.2 (no_turn_at nodes i x.0 x.1 s.turns);
  }

  -- so nobody could be answered
  pub settled_so_far : IsStandstill nodes → AreSettledSoFar c nodes
  settled_so_far s =
      let u = r.keeps.still (still_so_far s) in
      let at : (i : ℕ) (a : Answered)
      → slice_get (map (λ (y : NodeSoFar). answered_by y.node.core) nodes) i ≡ Some a
      → slice_get (map (λ (y : Node (Host Managed)). answered_by y.core) r.end.nodes) i ≡ Some a =
      (λ i a there.
      let x = get_map (λ (y : NodeSoFar). answered_by y.node.core) nodes a i there in
      rw x.2 (map_get (λ (y : Node (Host Managed)). answered_by y.core) r.end.nodes i x.0.node
      (r.each i x.0 x.1))) in record {
        order = u.order;
        last = u.last;
        legal = u.legal;
        parts = λ i a there. u.parts i a (at i a there);
        waits = λ i a there. u.waits i a (at i a there);
      }
