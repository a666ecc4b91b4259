-- The starter is told of one node after another, whether its program has ended or not.
use Rattle.std.proofs.Common.{◌≡◌, ℕ, List, [], ◌∷◌, ◌++◌, length, slice_get, Contains, Some, sym}
use Rattle.std.proofs.Common.{ap, subst, ◌∙◌, inl, inr}
use Rattle.std.specs.Prelude.{unwrap_or}
use Rattle.std.proofs.lemmas.Option.{none-some}
use Rattle.std.proofs.lemmas.List.Elements.{Contains-push, Contains-append_left}
use Rattle.ivy_model.specs.declared.Config.{Config}
use Rattle.ivy_program.specs.stated.Programs.{Program}
use Rattle.ivy_moves.specs.Marks.{Mark}
use Rattle.ivy_host.specs.declared.opening.Opening.{Opening}
use Rattle.ivy_host.specs.stated.Hosts.{host_rules}
use Rattle.ivy_host.specs.stated.Managers.{managed_ops}
use Rattle.ivy_ether.specs.Going.{IsListOf}
use Rattle.atomic_table.specs.Seated.{TableId}
use Rattle.ivy_ether.specs.Held.{Held}
use Rattle.ivy_ether.specs.Programs.{beginning, all_handed}
use Rattle.ivy_ether.specs.Views.{Closing, View, with_given, with_closed, closing_of}
use Rattle.ivy_site.specs.SiteView.{SiteView}
use Rattle.ivy_site.specs.Sites.{IsMadeByEvents}
use Rattle.ivy_seating.specs.Places.{IsSeated}
use Rattle.ivy_seating.proofs.Seats.{its_list, runs_there}
use Rattle.ivy_seating.proofs.Collected.{get_push}
use Rattle.ivy_standstill.specs.SoFar.{NodeSoFar, so_far_of, IsNodeSoFar}
use Rattle.ivy_standstill.specs.CollectedSoFar.{IsToldSoFar, TellsSoFar, AreToldSoFar}

module _ (c : Config) (opened : Opening) (programs : List Program) where
  pub told_more : (v v' : View) (nodes nodes' : List NodeSoFar) (n : NodeSoFar) (i : ℕ)
      → i ≡ length nodes → nodes' ≡ nodes ++ n ∷ [] → TellsSoFar c opened programs v i n v'
      → AreToldSoFar c opened programs v nodes → AreToldSoFar c opened programs v' nodes'
  told_more v v' nodes nodes' n i last more tells told j m there =
      elim (get_push nodes n j m (subst (λ l. slice_get l j ≡ Some m) more there)) [
        | inl was ↦ let old = told j m was in record {
          handings = old.handings;
          closed = tells.0 (record { node = j; handed = old.handings; events = m.events }) old.closed;
          so_far = old.so_far;
        }
        | inr new ↦
            let at : i ≡ j = last ∙ sym new.0 in
            subst (λ (y : ℕ × NodeSoFar). IsToldSoFar c opened programs v' y.0 y.1)
            (λ k. (at k, new.1 k))
            tells.1
      ]

  pub told_none : (v : View) (nodes : List NodeSoFar) → nodes ≡ [] → AreToldSoFar c opened programs
      v nodes
  told_none v nodes none i n there =
      absurd (none-some n (ap (λ l. slice_get l i) (sym none) ∙ there))

  -- what a site's node came to
  pub is_so_far : (wire : TableId) (s : SiteView) (p : Held) (i : ℕ) → IsSeated wire c opened
      programs s p
      → IsMadeByEvents s → s.me ≡ i
      → IsNodeSoFar c opened (all_handed (λ _. p.known.handed) programs) i (so_far_of s)
  is_so_far wire s p i h made at = record {
    effect = made.effect;
    list = subst
        (λ j. IsListOf (host_rules managed_ops) c
        (beginning c opened (all_handed (λ _. p.known.handed) programs)) j s.events made.effect)
        at
        (its_list c opened (all_handed (λ _. p.known.handed) programs) s made h.config h.began
        (runs_there programs s p.known.handed h.program));
    node = made.node;
  }

  -- the starter took in the pass of a node that came to this
  pub tells_of : (v v' w : View) (es : List Mark) (s : SiteView) (i : ℕ)
      → v' ≡ with_closed v (with_given w es) → w.node ≡ Some i → es ≡ s.events
      → IsNodeSoFar c opened (all_handed (λ _. w.handed) programs) i (so_far_of s)
      → TellsSoFar c opened programs v i (so_far_of s) v'
  tells_of v v' w es s i known node is came =
      let its : Closing = closing_of (with_given w es) in
      let same : its ≡ record { node = i; handed = w.handed; events = s.events } =
      (λ k. record { node = ap (λ o. unwrap_or o 0) node k; handed = w.handed; events = is k }) in (
        λ x there. subst (λ (u : View). Contains u.closed x) (sym known)
            (Contains-append_left (v.closed ++ w.closed) (its ∷ []) x
            (Contains-append_left v.closed w.closed x there)),
        record {
          handings = w.handed;
          closed = subst
              (λ (u : View).
              Contains u.closed (record { node = i; handed = w.handed; events = s.events }))
              (sym known)
              (subst (λ (y : Closing). Contains ((v.closed ++ w.closed) ++ its ∷ []) y) same
              (Contains-push (v.closed ++ w.closed) its));
          so_far = came;
        },
      )
