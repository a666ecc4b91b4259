-- What a site's deliveries do to what is lent, and to the program.
use Rattle.std.proofs.Common.{◌≡◌, ◌≢◌, ◌⊎◌, inl, inr, ℕ, ◌<◌, ◌≤◌, true, false, List, [], ◌∷◌, length, get_or, Option, Some, None, refl, sym, ap, ◌∙◌, subst, arith}
use Rattle.std.proofs.lemmas.Bool.{cases_Bool, cases_lt}
use Rattle.std.proofs.lemmas.List.{get_or_past}
use Rattle.std.proofs.lemmas.Option.{none-some, same_Some}
use Rattle.ivy_model.specs.stated.Config.{IsConfig}
use Rattle.ivy_wire.specs.stated.Data.{Frame, Message}
use Rattle.ivy_link.specs.declared.Verdict.{Verdict}
use Rattle.ivy_link.specs.declared.Verdict.TheVariants as verdict
use Rattle.ivy_link.specs.stated.Accepted.{offered}
use Rattle.ivy_pagetable.specs.declared.Entry.TheVariants as entry
use Rattle.ivy_pagetable.specs.stated.States.{IdleState}
use Rattle.ivy_pagetable.specs.stated.Tables.{entry_at}
use Rattle.ivy_coherence.specs.declared.leaving.Leaving.{Leaving}
use Rattle.ivy_coherence.specs.Leavings.{leaves}
use Rattle.ivy_coherence.specs.stated.Coherent.{Coherent}
use Rattle.ivy_host.specs.stated.Hosts.{Host, host_rules}
use Rattle.ivy_host.specs.stated.Managers.{Managed, managed_ops}
use Rattle.ivy_host.proofs.Programs.{accepting-core, delivered-is, posting-core}
use Rattle.ivy_moves.specs.stated.Nodes.{Effect, Node, accepting, delivered, posting, received_as, served_next, stays}
use Rattle.ivy_host.specs.stated.Hosts.{serving}
use Rattle.ivy_site.specs.Leavings.{Leaves}
use Rattle.ivy_site.specs.SiteView.{SiteView}
use Rattle.ivy_site.specs.Sites.{AfterDelivery, FollowsDelivery, SiteDelivers, SiteGoesOn}
use Rattle.ivy_embedded.specs.declared.lending.Lending.{Lending}
use Rattle.ivy_embedded.specs.declared.lending.Lending.TheVariants.{Unlent}
use Rattle.ivy_embedded.specs.declared.lending.Want.{Want}
use Rattle.ivy_embedded.specs.Lending.{is_more, left_for, lending_in}
use Rattle.ivy_embedded.proofs.Delivered.{IsLeftBy, delivered_left, left_as, left_by_body, table_of}
use Rattle.ivy_embedded.proofs.Going.{core_of}
use Rattle.ivy_embedded.proofs.Holding.{IsHeld, IsNoMore, left_held}

-- the program stays
kept_process : (n : Node (Host Managed)) (f : Frame) (e : Effect (Host Managed))
    → accepting f (Some (stays n)) ≡ Some e → e.after.core.process ≡ n.core.process
kept_process n f e is =
    let x = accepting-core f (Some (stays n)) e is in
    ap (λ (k : Host Managed). k.process)
    (x.2 ∙ ap (λ (y : Effect (Host Managed)). y.after.core) (sym (same_Some (stays n) x.0 x.1)))

served_process : (n : Node (Host Managed)) (f : Frame) (body : Option Message)
    (e : Effect (Host Managed)) → served_next (host_rules managed_ops) n f body ≡ Some e
    → e.after.core.process ≡ n.core.process
unfolding serving
served_process n f None e is = kept_process n f e is
served_process n f (Some m) e is =
    let o = serving managed_ops n.core f.source m in
    let x = accepting-core f (posting n o.after o.posted) e is in
    ap (λ (k : Host Managed). k.process) (x.2 ∙ posting-core n o.after o.posted x.0 x.1)

received_process : (v : Verdict) (n : Node (Host Managed)) (f : Frame)
    (e : Effect (Host Managed)) → received_as (host_rules managed_ops) v n f ≡ Some e
    → e.after.core.process ≡ n.core.process
received_process verdict.NotMine n f e is =
    ap (λ (y : Effect (Host Managed)). y.after.core.process) (sym (same_Some (stays n) e is))
received_process verdict.Next n f e is = served_process n f f.body e is
received_process verdict.Repeat n f e is = kept_process n f e is
received_process verdict.Ahead n f e is = kept_process n f e is

-- what a delivery of a site leaves of its host: that of the effect, or all of it
abbrev pub HostAfter : Verdict → SiteView → Effect (Host Managed) → SiteView → Type 0
HostAfter verdict.NotMine old e new = core_of new ≡ core_of old
HostAfter verdict.Next old e new = core_of new ≡ e.after.core
HostAfter verdict.Repeat old e new = core_of new ≡ e.after.core
HostAfter verdict.Ahead old e new = core_of new ≡ e.after.core

host_after : (bytes : List ℕ) (v : Verdict) (old new : SiteView) → (d : SiteDelivers bytes v old new)
    → HostAfter v old d.effect new
host_after bytes verdict.NotMine old new d = ap core_of d.after
host_after bytes verdict.Next old new d = ap core_of d.after
host_after bytes verdict.Repeat old new d = ap core_of d.after
host_after bytes verdict.Ahead old new d = ap core_of d.after

config_after : (bytes : List ℕ) (v : Verdict) (old new : SiteView) → SiteDelivers bytes v old new
    → new.config ≡ old.config
config_after bytes verdict.NotMine old new d = ap (λ (s : SiteView). s.config) d.after
config_after bytes verdict.Next old new d = ap (λ (s : SiteView). s.config) d.after
config_after bytes verdict.Repeat old new d = ap (λ (s : SiteView). s.config) d.after
config_after bytes verdict.Ahead old new d = ap (λ (s : SiteView). s.config) d.after

effect_process : (bytes : List ℕ) (v : Verdict) (old new : SiteView) → IsConfig old.config
    → (d : SiteDelivers bytes v old new) → d.effect.after.core.process ≡ (core_of old).process
effect_process bytes v old new limits d =
    received_process (offered old.node.link d.frame) old.node d.frame d.effect
    (sym (delivered-is old.config limits old.node d.frame bytes d.spelled) ∙ d.delivered)

process_by : (v : Verdict) (old new : SiteView) (e : Effect (Host Managed)) → HostAfter v old e new
    → e.after.core.process ≡ (core_of old).process
    → (core_of new).process ≡ (core_of old).process
process_by verdict.NotMine old new e at same = ap (λ (n : Host Managed). n.process) at
process_by verdict.Next old new e at same = ap (λ (n : Host Managed). n.process) at ∙ same
process_by verdict.Repeat old new e at same = ap (λ (n : Host Managed). n.process) at ∙ same
process_by verdict.Ahead old new e at same = ap (λ (n : Host Managed). n.process) at ∙ same

-- a delivery leaves the program and the configuration
pub record IsSameProgram (old new : SiteView) : Type 0 where
  pub process : (core_of new).process ≡ (core_of old).process
  pub config : new.config ≡ old.config

pub delivers_program : (bytes : List ℕ) (v : Verdict) (old new : SiteView) → IsConfig old.config
    → SiteDelivers bytes v old new → IsSameProgram old new
delivers_program bytes v old new limits d = record {
  process = process_by v old new d.effect (host_after bytes v old new d)
      (effect_process bytes v old new limits d);
  config = config_after bytes v old new d;
}

same_program : (old mid new : SiteView) → IsSameProgram old mid → IsSameProgram mid new
    → IsSameProgram old new
same_program old mid new one two = record {
  process = two.process ∙ one.process;
  config = two.config ∙ one.config;
}

goes_program : (source : ℕ) (more : List (List ℕ)) (old new : SiteView) → IsConfig old.config
    → SiteGoesOn source more old new → IsSameProgram old new
goes_program source [] old new limits same =
    rw same (record { process = refl; config = refl })
goes_program source (bytes ∷ more) old new limits g =
    let first = delivers_program bytes verdict.Next _ g.0 limits g.1.next in
    same_program old g.0 new (record { process = first.process; config = first.config })
    (goes_program source more g.0 new (subst IsConfig (sym first.config) limits) g.2)

follows_program : (v : Verdict) (f : Frame) (bytes : List ℕ) (mid new : SiteView)
    → IsConfig mid.config → FollowsDelivery v f bytes mid new → IsSameProgram mid new
follows_program verdict.NotMine f bytes mid new limits same =
    rw same (record { process = refl; config = refl })
follows_program verdict.Repeat f bytes mid new limits same =
    rw same (record { process = refl; config = refl })
follows_program verdict.Ahead f bytes mid new limits same =
    rw same (record { process = refl; config = refl })
follows_program verdict.Next f bytes mid new limits went =
    goes_program f.source went.0 mid new limits went.1

pub delivery_program : (bytes : List ℕ) (v : Verdict) (old new : SiteView) → IsConfig old.config
    → AfterDelivery bytes v old new → IsSameProgram old new
delivery_program bytes v old new limits d =
    let first = delivers_program bytes v old d.mid limits d.first in
    same_program old d.mid new first
    (follows_program v d.first.frame bytes d.mid new
    (subst IsConfig (sym first.config) limits) d.follows)

-- what is left comes of a message of the next frame
left_message : (v : Verdict) (c : Coherent Managed) (from : ℕ) (body : Option Message) (l : Leaving)
    → left_as v c from body ≡ Some l
    → (m : Message) × (v ≡ verdict.Next) × (body ≡ Some m) × (leaves c from m ≡ Some l)
left_message verdict.NotMine c from body l is = absurd (none-some l is)
left_message verdict.Repeat c from body l is = absurd (none-some l is)
left_message verdict.Ahead c from body l is = absurd (none-some l is)
left_message verdict.Next c from None l is = absurd (none-some l is)
left_message verdict.Next c from (Some m) l is = (m, refl, refl, is)

-- no string takes what is lent
abbrev pub TakesNone : List Lending → SiteView → List ℕ → Type 0
TakesNone lent s bytes = (l : Leaving) → Leaves s bytes l
    → is_more (lending_in lent l.page) (left_for l.access) ≡ false

none_more : (lent : List Lending) (old : SiteView) (bytes : List ℕ) (v : Verdict) (new : SiteView)
    → (d : SiteDelivers bytes v old new) → TakesNone lent old bytes
    → IsNoMore lent (left_as (offered old.node.link d.frame) (core_of old).memory.coherence
    d.frame.source d.frame.body)
none_more lent old bytes v new d none l is =
    let x = left_message (offered old.node.link d.frame) (core_of old).memory.coherence
    d.frame.source d.frame.body l is in
    none l (record {
      frame = d.frame;
      spelled = d.spelled;
      next = x.1;
      message = x.0;
      body = x.2;
      left = x.3;
    })

held_by : (lent : List Lending) (v : Verdict) (old new : SiteView) (e : Effect (Host Managed))
    → HostAfter v old e new → IsHeld lent (core_of old) → IsHeld lent e.after.core
    → IsHeld lent (core_of new)
held_by lent verdict.NotMine old new e at old_held held = subst (IsHeld lent) (sym at) old_held
held_by lent verdict.Next old new e at old_held held = subst (IsHeld lent) (sym at) held
held_by lent verdict.Repeat old new e at old_held held = subst (IsHeld lent) (sym at) held
held_by lent verdict.Ahead old new e at old_held held = subst (IsHeld lent) (sym at) held

-- a page that is lent is there
lent_there : (lent : List Lending) (p n : ℕ) → length lent ≡ n → lending_in lent p ≢ Unlent → p < n
lent_there lent p n long some = elim (cases_lt p n) [
  | inl low ↦ low
  | inr past ↦ absurd (some (get_or_past lent p Unlent (omega (arith, past, long))))
]

pub delivers_held : (lent : List Lending) (bytes : List ℕ) (v : Verdict) (old new : SiteView)
    → IsConfig old.config → length lent ≡ length (table_of (core_of old)).entries
    → SiteDelivers bytes v old new → IsHeld lent (core_of old) → TakesNone lent old bytes
    → IsHeld lent (core_of new)
delivers_held lent bytes v old new limits long d held none =
    held_by lent v old new d.effect (host_after bytes v old new d) held
    (left_held lent (core_of old) d.effect.after.core _ held (none_more lent old bytes v new d none)
    (λ p s is some.
    delivered_left old.node p s is
    (lent_there lent p (length (table_of (core_of old)).entries) long some) old.config limits
    d.frame bytes d.effect d.spelled d.delivered))
