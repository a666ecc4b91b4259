-- What serving messages does to a manager, and that one call takes it back.
use Rattle.std.proofs.Common.{◌≡◌, ℕ, Bool, true, false, List, [], ◌∷◌, ◌++◌, Option, Some, None, refl, ap, ◌∙◌}
use Rattle.std.specs.Prelude.{if◌then◌else◌}
use Rattle.ivy_pagetable.specs.declared.PutOff.{PutOff}
use Rattle.ivy_pagetable.specs.declared.Request.{Request}
use Rattle.ivy_pagetable.specs.declared.Request.TheVariants as request
use Rattle.ivy_pagetable.specs.stated.States.{IdleState}
use Rattle.ivy_pagetable.specs.stated.Manager.{Ops}
use Rattle.ivy_pagetable.specs.Manager.{Laws, Change, Forward, Given, Replied, Invalidated, changed, all_changed, brought_back}
use Rattle.ivy_coherence.specs.stated.Serving.{Serving, serving, is_write, served_by_owner, served_by_other, served, all_served, told, put_off_served}

-- a state of the manager that calls for one page made of another
pub record IsMadeBy {S : Type 0} (ops : Ops S) (page : ℕ) (m new : S) : Type 0 where
  pub changes : List Change
  pub made : new ≡ all_changed ops page m changes

module _ {S : Type 0} (ops : Ops S) (page : ℕ) where
  changed_in_turn : (m : S) (cs ds : List Change)
      → all_changed ops page (all_changed ops page m cs) ds ≡ all_changed ops page m (cs ++ ds)
  changed_in_turn m [] ds = refl
  changed_in_turn m (c ∷ cs) ds = changed_in_turn (changed ops page m c) cs ds

  pub follows-itself : (m : S) → IsMadeBy ops page m m
  follows-itself m = record { changes = []; made = refl }

  pub follows-change : (m : S) (c : Change) → IsMadeBy ops page m (changed ops page m c)
  follows-change m c = record { changes = c ∷ []; made = refl }

  pub follows-in_turn : (m n o : S) → IsMadeBy ops page m n → IsMadeBy ops page n o
      → IsMadeBy ops page m o
  follows-in_turn m n o f g = record {
    changes = f.changes ++ g.changes;
    made = g.made
        ∙ (ap (λ x. all_changed ops page x g.changes) f.made
        ∙ changed_in_turn m f.changes g.changes);
  }

  follows-either : (m : S) (b : Bool) (v w : Serving S) → IsMadeBy ops page m v.manager
      → IsMadeBy ops page m w.manager → IsMadeBy ops page m (if b then v else w).manager
  follows-either m true v w f g = f
  follows-either m false v w f g = g

  pub told-follows : (from : ℕ) (m : S) (reply : Option Request)
      → IsMadeBy ops page m (told ops from page m reply)
  told-follows from m None = follows-itself m
  told-follows from m (Some kind) = follows-change m (Replied (is_write kind) from)

  module _ (me : ℕ) (bytes : List ℕ) where
    owner-follows : (v : Serving S) (origin call : ℕ) (kind : Request)
        → IsMadeBy ops page v.manager (served_by_owner ops me page bytes v origin call kind).manager
    owner-follows v origin call request.Read = follows-itself v.manager
    owner-follows v origin call request.Write = follows-change v.manager (Given origin)
    owner-follows v origin call request.Invalidate = follows-itself v.manager

    other-follows : (v : Serving S) (origin call : ℕ) (kind : Request)
        → IsMadeBy ops page v.manager (served_by_other ops me page bytes v origin call kind).manager
    other-follows v origin call request.Read = follows-change v.manager (Forward false origin)
    other-follows v origin call request.Write = follows-change v.manager (Forward true origin)
    other-follows v origin call request.Invalidate = follows-change v.manager (Invalidated origin)

    served-follows : (v : Serving S) (q : PutOff)
        → IsMadeBy ops page v.manager (served ops me page bytes v q).manager
    served-follows v q =
        follows-either v.manager v.idle.owner _ _ (owner-follows v q.origin q.call q.kind)
        (other-follows v q.origin q.call q.kind)

    pub all_served-follows : (v : Serving S) (qs : List PutOff)
        → IsMadeBy ops page v.manager (all_served ops me page bytes v qs).manager
    all_served-follows v [] = follows-itself v.manager
    all_served-follows v (q ∷ qs) =
        follows-in_turn v.manager _ _ (served-follows v q)
        (all_served-follows (served ops me page bytes v q) qs)

    pub put_off_served-follows : (from : ℕ) (idle : IdleState) (m : S) (breaches : ℕ)
        (reply : Option Request) (qs : List PutOff)
        → IsMadeBy ops page m (put_off_served ops me from page bytes idle m breaches reply qs).manager
    put_off_served-follows from idle m breaches reply qs =
        follows-in_turn m _ _ (told-follows from m reply)
        (all_served-follows (serving idle (told ops from page m reply) breaches []) qs)

module _ {S : Type 0} {ops : Ops S} (laws : Laws ops) (page : ℕ) where
  me_changed : (m : S) (cs : List Change) → ops.me (all_changed ops page m cs) ≡ ops.me m
  me_changed m [] = refl
  me_changed m (Forward w o ∷ cs) =
      me_changed (ops.on_forward m page w o) cs ∙ (laws.keeps_forward m page w o).me
  me_changed m (Given o ∷ cs) =
      me_changed (ops.on_given m page o) cs ∙ (laws.keeps_given m page o).me
  me_changed m (Replied w o ∷ cs) =
      me_changed (ops.on_replied m page w o) cs ∙ (laws.keeps_replied m page w o).me
  me_changed m (Invalidated o ∷ cs) =
      me_changed (ops.on_invalidated m page o) cs ∙ (laws.keeps_invalidated m page o).me

  -- the manager is still this node's
  pub me-follows : (m new : S) → IsMadeBy ops page m new → ops.me new ≡ ops.me m
  me-follows m new f = ap ops.me f.made ∙ me_changed m f.changes

  -- the changes of a refused step are taken back
  pub undone : (m new : S) (from : ℕ) → IsMadeBy ops page m new
      → brought_back ops page (ops.next_hop m page) from new ≡ m
  undone m new from f =
      ap (brought_back ops page (ops.next_hop m page) from) f.made ∙ laws.undo m page from f.changes
