-- A seated site among all nodes: some run has its events as its part.
use Rattle.std.proofs.Common.{◌≡◌, ◌⊎◌, ℕ, List, ◌++◌, length, slice_get}
use Rattle.std.proofs.Common.{Contains, Some, refl, sym, ap, subst, ◌∙◌, inl, inr}
use Rattle.std.proofs.lemmas.Bool.{cases_eq}
use Rattle.std.proofs.lemmas.List.Elements.{Contains-append_right}
use Rattle.atomic_table.specs.Seated.{TableId}
use Rattle.ivy_model.specs.declared.Config.{Config}
use Rattle.ivy_program.specs.stated.Programs.{Program}
use Rattle.ivy_moves.specs.Marks.{Mark}
use Rattle.ivy_moves.specs.stated.Nodes.{Effect}
use Rattle.ivy_moves.specs.Parts.{AllHappen, AllCanBeMade, AreParts}
use Rattle.ivy_moves.specs.stated.Worlds.{World}
use Rattle.ivy_moves.proofs.Parts.{runs_are_their_parts}
use Rattle.ivy_moves.proofs.Splitting.{same-effect, can-more}
use Rattle.ivy_host.specs.declared.opening.Opening.{Opening}
use Rattle.ivy_host.specs.stated.Hosts.{Host, host_rules}
use Rattle.ivy_host.specs.stated.Managers.{Managed, managed_ops}
use Rattle.ivy_ether.specs.Rule.{IsNode}
use Rattle.ivy_ether.specs.Going.{IsListOf, ListGoesOn, AreFurther}
use Rattle.ivy_ether.specs.Handings.{handing_all, with_all}
use Rattle.ivy_ether.specs.Held.{Held}
use Rattle.ivy_ether.specs.Programs.{beginning, all_handed, Runs}
use Rattle.ivy_ether.proofs.Hosts.{handed-at, handed_count, from_start}
use Rattle.ivy_ether.proofs.Further.{lists_go_on}
use Rattle.ivy_ether.proofs.Advancing.{with_list, list_here, list_else}
use Rattle.ivy_site.specs.SiteView.{SiteView}
use Rattle.ivy_site.specs.Sites.{IsMadeByEvents}
use Rattle.ivy_seating.specs.Places.{IsSeated, IsInRun, place}
use Rattle.ivy_seating.proofs.Seats.{its_list}

module _ (c : Config) (opened : Opening) (programs : List Program) (wire : TableId) (s : SiteView)
    (p : Held)
    (h : IsSeated wire c opened programs s p) (made : IsMadeByEvents s)
    (r : Runs c opened programs p.known)
  where
    abbrev start : World (Host Managed)
    start = beginning c opened (all_handed r.handings programs)

    own : IsNode (host_rules managed_ops) c (beginning c opened programs) handing_all r.handings r.parts
        s.me
        p.known.handed p.known.events
    own = r.own s.me h.node

    run : AreParts (host_rules managed_ops) c start r.parts r.end
    run = from_start c opened programs r.handings r.parts r.end r.run

    abbrev lists : ℕ → List Mark
    lists = with_list r.parts s.me s.events

    own_list : IsListOf (host_rules managed_ops) c start s.me s.events made.effect
    own_list = its_list c opened (all_handed r.handings programs) s made h.config h.began
        (handed-at r.handings programs s.me h.program.first h.program.there
        ∙ ap (λ l. Some (with_all l h.program.first)) own.handed ∙ ap Some (sym h.program.is))

    goes : ListGoesOn (host_rules managed_ops) c start s.me (r.parts s.me) r.end.sent
        s.events
    goes = record {
      more = h.given.more;
      is = h.given.is ∙ ap (λ l. l ++ h.given.more) (sym own.part);
      effect = made.effect;
      list = own_list;
      can = can-more p.known.took r.end.sent (length start.nodes) s.me h.given.more
          r.took
          (subst (λ k. AllCanBeMade p.known.took k s.me h.given.more)
          (sym (handed_count c opened r.handings programs)) h.given.can);
    }

    each : (j : ℕ)
        → ListGoesOn (host_rules managed_ops) c start j (r.parts j) r.end.sent
        (lists j) ⊎ (lists j ≡ r.parts j)
    each j = elim (cases_eq s.me j) [
      | inl same ↦
          inl (subst (λ x. ListGoesOn (host_rules managed_ops) c start x (r.parts x)
          r.end.sent (lists x)) same
          (subst (λ l. ListGoesOn (host_rules managed_ops) c start s.me
          (r.parts s.me) r.end.sent l) (sym (list_here r.parts s.me s.me s.events refl)) goes))
      | inr apart ↦ inr (list_else r.parts s.me j s.events apart)
    ]

    went : (further : World (Host Managed))
        × AreFurther (host_rules managed_ops) c start r.end lists further
    went = lists_go_on (host_rules managed_ops) c start r.end r.parts lists run each

    here : lists s.me ≡ s.events
    here = list_here r.parts s.me s.me s.events refl

    at_end : slice_get went.0.nodes s.me ≡ Some s.node
    at_end =
        let there =
        (runs_are_their_parts (host_rules managed_ops) c start went.0 lists
        went.1.run).each s.me own_list.node own_list.there in
        let same : there.0 ≡ made.effect =
        same-effect (host_rules managed_ops) c own_list.node s.events there.0 made.effect
        (subst (λ l. AllHappen (host_rules managed_ops) c own_list.node l there.0) here there.1)
        own_list.happen in
        there.2 ∙ ap (λ (e : Effect (Host Managed)). Some e.after) same ∙ ap Some (sym made.node)

    pub in_run : IsInRun c opened programs (place wire s p)
    in_run = record {
      handings = r.handings;
      handed = own.handed;
      parts = lists;
      end = went.0;
      run = went.1.run;
      own = here;
      node = at_end;
      took = λ b there. went.1.before b (r.took b there);
      waits = λ b there. went.1.sent s.me b (record {
        effect = made.effect;
        list = subst
            (λ l. IsListOf (host_rules managed_ops) c start s.me l made.effect)
            (sym here) own_list;
        sent = subst (λ l. Contains l b) (sym made.waits)
            (Contains-append_right made.taken s.waiting b there);
      });
    }
