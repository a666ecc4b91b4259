-- A run of driven nodes, and the moments of their past that are points of it: what each node was
-- answered then, and had in progress, it had at a point of its events in the run. So it stays as moves
-- are added, and where more is handed in.
use Rattle.std.proofs.Common.{◌≡◌, ℕ, List, [], ◌∷◌, ◌++◌, length, length-set, map, set, slice_get, Some, append-nil, append_assoc, option_map, refl, sym, ap, subst, ◌∙◌, arith, inl, inr}
use Rattle.std.specs.Prelude.{All}
use Rattle.std.proofs.lemmas.List.Elements.{All-nil, All-cons}
use Rattle.std.proofs.lemmas.Option.{same_Some, slice_get-map, slice_get_cases, slice_get_within}
use Rattle.ivy_model.specs.declared.Config.{Config}
use Rattle.ivy_model.specs.stated.Config.{IsConfig}
use Rattle.ivy_model.specs.stated.Explains.{Answered}
use Rattle.ivy_moves.specs.declared.Move.{Move}
use Rattle.ivy_moves.specs.Carrying.{IsChangedBy, node_changed, effect_changed}
use Rattle.ivy_moves.specs.Marks.{Mark}
use Rattle.ivy_moves.specs.Parts.{AllHappen, given_at, parts_of}
use Rattle.ivy_moves.specs.stated.Cores.{Core}
use Rattle.ivy_moves.specs.stated.Nodes.{Node, Effect}
use Rattle.ivy_moves.specs.stated.Worlds.{World, Moves, Leads}
use Rattle.ivy_moves.proofs.Carried.{carry_over, changed-one}
use Rattle.ivy_moves.proofs.Parts.{runs_are_their_parts}
use Rattle.ivy_moves.proofs.Unseen.{events-over}
use Rattle.ivy_host.specs.stated.Hosts.{Host, host_rules, answered_by}
use Rattle.ivy_host.specs.stated.Managers.{Managed, managed_ops}
use Rattle.ivy_host.specs.declared.opening.Opening.{Opening}
use Rattle.ivy_host.specs.stated.Openings.{managed_start, opening}
use Rattle.ivy_site.specs.SiteView.{SiteView}
use Rattle.ivy_embedded.specs.Nodes.{Embedded}
use Rattle.ivy_world.specs.WorldSites.{programs_of, world_of, IsRunning, AreSites}
use Rattle.proof_embedded.specs.Driven.{Driven, node_in}
use Rattle.proof_embedded.proofs.Additions.{Addition, grown_unseen, growing, site_grown}
use Rattle.proof_embedded.proofs.Grown.{more_at, opening_grown, programs_grown, sites_grown, world_grown}

abbrev W : Type 0
W = World (Host Managed)

abbrev R : Core (Host Managed)
R = host_rules managed_ops

-- at a point of the events that the moves give it node i was answered so, and had this in progress
pub record IsPoint (c : Config) (moves : List Move) (w end : W) (lead : Leads R c w moves end) (i : ℕ)
    (a : Answered) : Type 0 where
  pub node : Node (Host Managed)
  pub there : slice_get w.nodes i ≡ Some node
  pub before : List Mark
  pub after : List Mark
  pub parts : parts_of R c moves w end lead i ≡ before ++ after
  pub effect : Effect (Host Managed)
  pub happen : AllHappen R c node before effect
  pub same : answered_by effect.after.core ≡ a

-- so it is of each of these nodes
abbrev pub ArePoints : (c : Config) (moves : List Move) (w end : W) → Leads R c w moves end → Driven
    → Type 0
ArePoints c moves w end lead d = (i : ℕ) (e : Embedded) → slice_get d.nodes i ≡ Some e
    → IsPoint c moves w end lead i (answered_by (node_in e).core)

-- some moves lead from the one world to the other, and those nodes are points of it
pub record Reaches (c : Config) (past : List Driven) (w end : W) : Type 0 where
  pub moves : List Move
  pub leads : Leads R c w moves end
  pub points : All (ArePoints c moves w end leads) past

module _ (c : Config) where
  -- one move more
  record LeadsOne (moves : List Move) (u v w : W) (lead : Leads R c u moves v) (m : Move)
      (made : Moves R c v m w) : Type 0 where
    leads : Leads R c u (moves ++ m ∷ []) w
    parts : (j : ℕ) → parts_of R c (moves ++ m ∷ []) u w leads j
        ≡ parts_of R c moves u v lead j ++ given_at R c v m w made j

  one_more : (moves : List Move) (u v w : W) (lead : Leads R c u moves v) (m : Move)
      (made : Moves R c v m w) → LeadsOne moves u v w lead m made
  one_more [] u v w lead m made =
      let one : (leads : Leads R c u (m ∷ []) w)
      × ((j : ℕ) → parts_of R c (m ∷ []) u w leads j ≡ given_at R c v m w made j) =
      subst (λ x. (leads : Leads R c x (m ∷ []) w)
      × ((j : ℕ) → parts_of R c (m ∷ []) x w leads j ≡ given_at R c v m w made j)) lead
      ((w, made, refl), λ j. append-nil (given_at R c v m w made j)) in
      record { leads = one.0; parts = one.1 }
  one_more (x ∷ moves) u v w lead m made =
      let rest = one_more moves lead.0 v w lead.2 m made in
      record {
        leads = (lead.0, lead.1, rest.leads);
        parts = λ j. ap (λ l. given_at R c u x lead.0 lead.1 j ++ l) (rest.parts j)
            ∙ sym (append_assoc (given_at R c u x lead.0 lead.1 j)
            (parts_of R c moves lead.0 v lead.2 j) (given_at R c v m w made j));
      }

  pub reaches_more : (past : List Driven) (u v w : W) → Reaches c past u v → (m : Move)
      → Moves R c v m w → Reaches c past u w
  reaches_more past u v w r m made =
      let o = one_more r.moves u v w r.leads m made in
      record {
        moves = r.moves ++ m ∷ [];
        leads = o.leads;
        points = λ k d below i e at.
            (let p = r.points k d below i e at in
            record {
              node = p.node;
              there = p.there;
              before = p.before;
              after = p.after ++ given_at R c v m w made i;
              parts = o.parts i ∙ ap (λ l. l ++ given_at R c v m w made i) p.parts
                  ∙ append_assoc p.before p.after (given_at R c v m w made i);
              effect = p.effect;
              happen = p.happen;
              same = p.same;
            });
      }

  -- more is handed in
  pub reaches_grown : (past : List Driven) (more : ℕ → List Addition) (w end u : W)
      → Reaches c past w end → IsChangedBy (λ i. growing (more i)) w u
      → (further : W) × IsChangedBy (λ i. growing (more i)) end further × Reaches c past u further
  reaches_grown past more w end u r above =
      let over =
      carry_over R c (λ i. growing (more i)) (λ i. grown_unseen (more i)) w end
      (λ j. parts_of R c r.moves w end r.leads j)
      (record { moves = r.moves; leads = r.leads; are = λ j. refl }) u above in (
        over.0,
        over.2,
        record {
          moves = over.1.moves;
          leads = over.1.leads;
          points = λ k d below i e at.
              (let p = r.points k d below i e at in
              record {
                node = node_changed (growing (more i)) p.node;
                there = above.there i p.node p.there;
                before = p.before;
                after = p.after;
                parts = sym (over.1.are i) ∙ p.parts;
                effect = effect_changed (growing (more i)) p.effect;
                happen = (events-over R c (growing (more i)) (grown_unseen (more i)) p.node
                    p.before p.effect p.happen).happen;
                same = p.same;
              });
        },
      )

  -- a node is at a point of its events at the end
  point_now : (moves : List Move) (w end : W) (lead : Leads R c w moves end) (i : ℕ)
      (m : Node (Host Managed)) → slice_get end.nodes i ≡ Some m
      → IsPoint c moves w end lead i (answered_by m.core)
  point_now moves w end lead i m at =
      let made =
      runs_are_their_parts R c w end (λ j. parts_of R c moves w end lead j)
      (record { moves = moves; leads = lead; are = λ j. refl }) in
      elim (slice_get_cases w.nodes i).1 [
        | inl found ↦ (
            let b = made.each i found.0 found.2 in
            record {
              node = found.0;
              there = found.2;
              before = parts_of R c moves w end lead i;
              after = [];
              parts = sym (append-nil (parts_of R c moves w end lead i));
              effect = b.0;
              happen = b.1;
              same = ap (λ (x : Node (Host Managed)). answered_by x.core)
                  (same_Some b.0.after m (sym b.2 ∙ at));
            }
            )
        | inr none ↦ absurd
            (let within = slice_get_within end.nodes i m at in
            let many = made.nodes in
            let few = none.0 in
            omega (arith, within, many, few))
      ]

  pub reaches_now : (past : List Driven) (w end : W) (d : Driven) → map node_in d.nodes ≡ end.nodes
      → Reaches c past w end → Reaches c (d ∷ past) w end
  reaches_now past w end d nodes r = record {
    moves = r.moves;
    leads = r.leads;
    points = All-cons (ArePoints c r.moves w end r.leads) d past
        (λ i e at. point_now r.moves w end r.leads i (node_in e)
        (ap (λ ns. slice_get ns i) (sym nodes) ∙ slice_get-map node_in d.nodes i
        ∙ ap (option_map node_in) at)) r.points;
  }

-- the sites run, and those nodes are points of the run
pub record RunsWith (c : Config) (o : Opening) (past : List Driven) (sites : List SiteView)
    (sent : List (List ℕ)) : Type 0 where
  pub limits : IsConfig c
  pub count : length sites ≡ c.nodes
  pub nodes : AreSites c sites
  pub reached : Reaches c past (opening (managed_start o) c (programs_of sites))
      (world_of sites sent)

pub running_of : (c : Config) (o : Opening) (past : List Driven) (sites : List SiteView)
    (sent : List (List ℕ))
    → RunsWith c o past sites sent → IsRunning c o sites sent
running_of c o past sites sent h = record {
  limits = h.limits;
  count = h.count;
  nodes = h.nodes;
  reached = (h.reached.moves, h.reached.leads);
}

-- of no past
pub runs_first : (c : Config) (o : Opening) (sites : List SiteView) (sent : List (List ℕ))
    → IsRunning c o sites sent
    → RunsWith c o [] sites sent
runs_first c o sites sent h = record {
  limits = h.limits;
  count = h.count;
  nodes = h.nodes;
  reached = record {
    moves = h.reached.0;
    leads = h.reached.1;
    points =
        All-nil (ArePoints c h.reached.0 (opening (managed_start o) c (programs_of sites))
        (world_of sites sent) h.reached.1);
  };
}

-- one move more
pub runs_with : (c : Config) (o : Opening) (past : List Driven) (sites sites' : List SiteView)
    (sent sent' : List (List ℕ)) (step : Move) → RunsWith c o past sites sent → AreSites c sites'
    → length sites' ≡ c.nodes → programs_of sites' ≡ programs_of sites
    → Moves R c (world_of sites sent) step (world_of sites' sent') → RunsWith c o past sites' sent'
runs_with c o past sites sites' sent sent' step h are count programs made = record {
  limits = h.limits;
  count = count;
  nodes = are;
  reached = subst (λ ps. Reaches c past (opening (managed_start o) c ps) (world_of sites' sent'))
      (sym programs)
      (reaches_more c past (opening (managed_start o) c (programs_of sites)) (world_of sites sent)
      (world_of sites' sent') h.reached step made);
}

-- more is handed in
pub grown_with : (c : Config) (o : Opening) (past : List Driven) (sites : List SiteView)
    (sent : List (List ℕ)) (node : ℕ) (old : SiteView) → slice_get sites node ≡ Some old
    → (more : List Addition)
    → RunsWith c o past sites sent → RunsWith c o past (set sites node (site_grown more old)) sent
grown_with c o past sites sent node old there more h =
    let sites' : List SiteView = set sites node (site_grown more old) in
    let each : ℕ → List Addition = more_at c sites sent node old there more h.nodes in
    let over =
    reaches_grown c past each (opening (managed_start o) c (programs_of sites))
    (world_of sites sent) (opening (managed_start o) c (programs_of sites')) h.reached
    (opening_grown (managed_start o) c each (programs_of sites) (programs_of sites')
    (programs_grown c sites sent node old there more h.nodes)) in
    record {
      limits = h.limits;
      count = length-set sites node (site_grown more old) ∙ h.count;
      nodes = sites_grown c sites sent node old there more h.nodes;
      reached = subst (Reaches c past (opening (managed_start o) c (programs_of sites')))
          (changed-one (λ i. growing (each i)) (world_of sites sent) over.0 (world_of sites' sent)
          over.1 (world_grown c sites sent node old there more h.nodes))
          over.2;
    }
