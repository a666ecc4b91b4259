-- What each message keeps of a node's host, deliveries of its site keep.
use Rattle.std.proofs.Common.{◌≡◌, ℕ, List, [], ◌∷◌, Option, Some, None, sym, ap, ◌∙◌, subst}
use Rattle.std.proofs.lemmas.Option.{same_Some}
use Rattle.ivy_model.specs.stated.Config.{IsConfig}
use Rattle.ivy_wire.specs.stated.Data.{Frame, Message}
use Rattle.ivy_link.specs.declared.Verdict.{Verdict}
use Rattle.ivy_link.specs.declared.Verdict.TheVariants as verdict
use Rattle.ivy_link.specs.stated.Accepted.{offered}
use Rattle.ivy_host.specs.stated.Hosts.{Host, host_rules, serving}
use Rattle.ivy_host.specs.stated.Managers.{Managed, managed_ops}
use Rattle.ivy_host.proofs.Programs.{accepting-core, delivered-is, posting-core}
use Rattle.ivy_moves.specs.stated.Nodes.{Effect, Node, accepting, posting, received_as, served_next, stays}
use Rattle.ivy_site.specs.SiteView.{SiteView}
use Rattle.ivy_site.specs.Sites.{AfterDelivery, FollowsDelivery, SiteDelivers, SiteGoesOn}
use Rattle.ivy_embedded.proofs.Delivering.{delivers_program}
use Rattle.ivy_embedded.proofs.Going.{core_of}

module _ (Q : Host Managed → Type 0)
    (serves : (n : Host Managed) (from : ℕ) (m : Message) → Q n → Q (serving managed_ops n from m).after)
  where
    kept : (n : Node (Host Managed)) (f : Frame) (e : Effect (Host Managed))
        → accepting f (Some (stays n)) ≡ Some e → Q n.core → Q e.after.core
    kept n f e is q =
        let x = accepting-core f (Some (stays n)) e is in
        subst Q
        (sym (x.2 ∙ ap (λ (y : Effect (Host Managed)). y.after.core) (sym (same_Some (stays n) x.0 x.1))))
        q

    served : (n : Node (Host Managed)) (f : Frame) (body : Option Message) (e : Effect (Host Managed))
        → served_next (host_rules managed_ops) n f body ≡ Some e → Q n.core → Q e.after.core
    served n f None e is q = kept n f e is q
    served n f (Some m) e is q =
        let o = serving managed_ops n.core f.source m in
        let x = accepting-core f (posting n o.after o.posted) e is in
        subst Q (sym (x.2 ∙ posting-core n o.after o.posted x.0 x.1)) (serves n.core f.source m q)

    received : (v : Verdict) (n : Node (Host Managed)) (f : Frame) (e : Effect (Host Managed))
        → received_as (host_rules managed_ops) v n f ≡ Some e → Q n.core → Q e.after.core
    received verdict.NotMine n f e is q =
        subst Q (ap (λ (y : Effect (Host Managed)). y.after.core) (same_Some (stays n) e is)) q
    received verdict.Next n f e is q = served n f f.body e is q
    received verdict.Repeat n f e is q = kept n f e is q
    received verdict.Ahead n f e is q = kept n f e is q

    delivers_by : (bytes : List ℕ) (v : Verdict) (old new : SiteView)
        → (d : SiteDelivers bytes v old new) → Q d.effect.after.core → Q (core_of old) → Q (core_of new)
    delivers_by bytes verdict.NotMine old new d there q = subst Q (ap core_of (sym d.after)) q
    delivers_by bytes verdict.Next old new d there q = subst Q (ap core_of (sym d.after)) there
    delivers_by bytes verdict.Repeat old new d there q = subst Q (ap core_of (sym d.after)) there
    delivers_by bytes verdict.Ahead old new d there q = subst Q (ap core_of (sym d.after)) there

    delivers_keeps : (bytes : List ℕ) (v : Verdict) (old new : SiteView) → IsConfig old.config
        → SiteDelivers bytes v old new → Q (core_of old) → Q (core_of new)
    delivers_keeps bytes v old new limits d q =
        delivers_by bytes v old new d
        (received (offered old.node.link d.frame) old.node d.frame d.effect
        (sym (delivered-is old.config limits old.node d.frame bytes d.spelled) ∙ d.delivered) q) q

    pub goes_keeps : (source : ℕ) (more : List (List ℕ)) (old new : SiteView) → IsConfig old.config
        → SiteGoesOn source more old new → Q (core_of old) → Q (core_of new)
    goes_keeps source [] old new limits same q = subst Q (ap core_of (sym same)) q
    goes_keeps source (bytes ∷ more) old new limits g q =
        let first = delivers_program bytes verdict.Next _ g.0 limits g.1.next in
        goes_keeps source more g.0 new (subst IsConfig (sym first.config) limits) g.2
        (delivers_keeps bytes verdict.Next _ g.0 limits g.1.next q)

    follows_keeps : (v : Verdict) (f : Frame) (bytes : List ℕ) (mid new : SiteView)
        → IsConfig mid.config → FollowsDelivery v f bytes mid new → Q (core_of mid) → Q (core_of new)
    follows_keeps verdict.NotMine f bytes mid new limits same q = subst Q (ap core_of (sym same)) q
    follows_keeps verdict.Repeat f bytes mid new limits same q = subst Q (ap core_of (sym same)) q
    follows_keeps verdict.Ahead f bytes mid new limits same q = subst Q (ap core_of (sym same)) q
    follows_keeps verdict.Next f bytes mid new limits went q =
        goes_keeps f.source went.0 mid new limits went.1 q

    pub delivery_keeps : (bytes : List ℕ) (v : Verdict) (old new : SiteView) → IsConfig old.config
        → AfterDelivery bytes v old new → Q (core_of old) → Q (core_of new)
    delivery_keeps bytes v old new limits d q =
        let first = delivers_program bytes v old d.mid limits d.first in
        follows_keeps v d.first.frame bytes d.mid new (subst IsConfig (sym first.config) limits) d.follows
        (delivers_keeps bytes v old d.mid limits d.first q)
