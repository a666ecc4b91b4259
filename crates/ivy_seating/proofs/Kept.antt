-- Neither a delivery nor a pulse changes what a program was answered, or where it stands.
use Rattle.std.proofs.Common.{◌≡◌, ℕ, List, [], ◌∷◌, Bool, true, false, Option, Some, None, Result, Ok, Err, refl, sym, ap, subst, ◌∙◌, inl, inr, if◌then◌else◌}
use Rattle.std.specs.Prelude.{MatchResult}
use Rattle.std.proofs.lemmas.Option.{same_Some, none-some}
use Rattle.ivy_model.specs.declared.Config.{Config}
use Rattle.ivy_model.specs.declared.Fault.{Fault}
use Rattle.ivy_host.specs.stated.Hosts.{Host, host_rules, serving}
use Rattle.ivy_host.specs.stated.Managers.{Managed, managed_ops}
use Rattle.ivy_link.specs.declared.Verdict.{Verdict}
use Rattle.ivy_link.specs.declared.Verdict.TheVariants as verdict
use Rattle.ivy_link.specs.stated.Accepted.{offered}
use Rattle.ivy_moves.specs.stated.Nodes.{Node, Effect, stays, accepting, served_next, received_as, received, delivered_as, delivered, pulsing}
use Rattle.ivy_site.specs.SiteView.{SiteView, after_pulse_to}
use Rattle.ivy_site.specs.Sites.{SiteDelivers, GoesOnOnce, SiteGoesOn, FollowsDelivery, AfterDelivery}
use Rattle.ivy_seating.specs.Places.{SeatedState}
use Rattle.ivy_seating.specs.Wire.{AfterWire, RefusesString}
use Rattle.ivy_seating.specs.declared.wire_turn.WireTurn.{WireTurn}
use Rattle.ivy_seating.specs.declared.wire_turn.WireTurn.TheVariants.{Sent, Lost, Empty, Served, Returned, Dropped}
use Rattle.ivy_seating.specs.Turns.{KeepsAnswers}

abbrev H : Type 0
H = Host Managed

-- it was answered the same, and its program stands where it stood
abbrev SameCore : H → H → Type 0
SameCore old new = (new.history ≡ old.history) × (new.process ≡ old.process)

posted_core : (b : Bool) (x e : Effect H) → (if b then Some x else None) ≡ Some e
    → x.after.core ≡ e.after.core
posted_core true x e is = ap (λ (y : Effect H). y.after.core) (same_Some x e is)
posted_core false x e is = absurd (none-some e is)

accepted_core : (f : _) (n : H) (o : Option (Effect H)) (e : Effect H) → accepting f o ≡ Some e
    → ((x : Effect H) → o ≡ Some x → SameCore n x.after.core) → SameCore n e.after.core
accepted_core f n None e is all = absurd (none-some e is)
accepted_core f n (Some x) e is all =
    subst (SameCore n) (ap (λ (y : Effect H). y.after.core) (same_Some _ e is)) (all x refl)

served_core : (n : Node H) (f : _) (body : _) (e : Effect H)
    → served_next (host_rules managed_ops) n f body ≡ Some e → SameCore n.core e.after.core
unfolding serving
served_core n f None e is =
    accepted_core f n.core (Some (stays n)) e is
    (λ x same. subst (λ (y : Effect H). SameCore n.core y.after.core) (same_Some (stays n) x same)
    (refl, refl))
served_core n f (Some m) e is =
    accepted_core f n.core _ e is
    (λ x same. subst (SameCore n.core) (posted_core _ _ x same) (refl, refl))

received_core : (v : Verdict) (n : Node H) (f : _) (e : Effect H)
    → received_as (host_rules managed_ops) v n f ≡ Some e → SameCore n.core e.after.core
received_core verdict.NotMine n f e is =
    subst (λ (y : Effect H). SameCore n.core y.after.core) (same_Some (stays n) e is) (refl, refl)
received_core verdict.Next n f e is = served_core n f f.body e is
received_core verdict.Repeat n f e is =
    accepted_core f n.core (Some (stays n)) e is
    (λ x same. subst (λ (y : Effect H). SameCore n.core y.after.core) (same_Some (stays n) x same)
    (refl, refl))
received_core verdict.Ahead n f e is =
    accepted_core f n.core (Some (stays n)) e is
    (λ x same. subst (λ (y : Effect H). SameCore n.core y.after.core) (same_Some (stays n) x same)
    (refl, refl))

received_any : (n : Node H) (f : _) (e : Effect H)
    → received (host_rules managed_ops) n f ≡ Some e → SameCore n.core e.after.core
unfolding received
received_any n f e is = received_core (offered n.link f) n f e is

delivered_by : (r : _) (n : Node H) (bytes : List ℕ) (e : Effect H)
    → delivered_as (host_rules managed_ops) r n bytes ≡ Some e → SameCore n.core e.after.core
delivered_by (Err fault) n bytes e is = absurd (none-some e is)
delivered_by (Ok kind) n bytes e is = received_any n _ e is

delivered_core : (c : Config) (n : Node H) (bytes : List ℕ) (e : Effect H)
    → delivered (host_rules managed_ops) c n bytes ≡ Some e → SameCore n.core e.after.core
unfolding delivered
delivered_core c n bytes e is = delivered_by _ n bytes e is

pub keeps_all : (s : SiteView) → KeepsAnswers s s
keeps_all s = record { me = refl; keep = refl; history = refl; process = refl }

pub keeps_on : (old mid new : SiteView) → KeepsAnswers old mid → KeepsAnswers mid new
    → KeepsAnswers old new
keeps_on old mid new a b = record {
  me = b.me ∙ a.me;
  keep = b.keep ∙ a.keep;
  history = b.history ∙ a.history;
  process = b.process ∙ a.process;
}

pub keeps_same : (old new : SiteView) → new ≡ old → KeepsAnswers old new
keeps_same old new same = subst (KeepsAnswers old) (sym same) (keeps_all old)

from_core : (s : SiteView) (e : Effect H) → SameCore s.node.core e.after.core
    → KeepsAnswers s (record s { node = e.after })
from_core s e k = record { me = refl; keep = refl; history = k.0; process = k.1 }

delivers_keep : (v : Verdict) (bytes : List ℕ) (old new : SiteView) → SiteDelivers bytes v old new
    → KeepsAnswers old new
delivers_keep verdict.NotMine bytes old new d = keeps_same old new d.after
delivers_keep verdict.Next bytes old new d =
    let k = from_core old d.effect (delivered_core old.config old.node bytes d.effect d.delivered) in
    subst (KeepsAnswers old) (sym d.after) (record { me = k.me; keep = k.keep; history = k.history; process = k.process })
delivers_keep verdict.Repeat bytes old new d =
    let k = from_core old d.effect (delivered_core old.config old.node bytes d.effect d.delivered) in
    subst (KeepsAnswers old) (sym d.after) (record { me = k.me; keep = k.keep; history = k.history; process = k.process })
delivers_keep verdict.Ahead bytes old new d =
    let k = from_core old d.effect (delivered_core old.config old.node bytes d.effect d.delivered) in
    subst (KeepsAnswers old) (sym d.after) (record { me = k.me; keep = k.keep; history = k.history; process = k.process })

once_keeps : (source : ℕ) (bytes : List ℕ) (old new : SiteView) → GoesOnOnce source bytes old new
    → KeepsAnswers old new
once_keeps source bytes old new g =
    let k = delivers_keep verdict.Next bytes _ new g.next in
    record { me = k.me; keep = k.keep; history = k.history; process = k.process }

goes_on_keeps : (source : ℕ) (more : List (List ℕ)) (old new : SiteView) → SiteGoesOn source more old new
    → KeepsAnswers old new
goes_on_keeps source [] old new same = keeps_same old new same
goes_on_keeps source (bytes ∷ more) old new g =
    keeps_on old g.0 new (once_keeps source bytes old g.0 g.1) (goes_on_keeps source more g.0 new g.2)

follows_keep : (v : Verdict) (f : _) (bytes : List ℕ) (mid new : SiteView)
    → FollowsDelivery v f bytes mid new → KeepsAnswers mid new
follows_keep verdict.NotMine f bytes mid new same = keeps_same mid new same
follows_keep verdict.Next f bytes mid new on = goes_on_keeps f.source on.0 mid new on.1
follows_keep verdict.Repeat f bytes mid new same = keeps_same mid new same
follows_keep verdict.Ahead f bytes mid new same =
    subst (KeepsAnswers mid) (sym same) (record { me = refl; keep = refl; history = refl; process = refl })

after_delivery_keeps : (v : Verdict) (bytes : List ℕ) (old new : SiteView) → AfterDelivery bytes v old new
    → KeepsAnswers old new
after_delivery_keeps v bytes old new d =
    keeps_on old d.mid new (delivers_keep v bytes old d.mid d.first)
    (follows_keep v d.first.frame bytes d.mid new d.follows)

-- a turn on the wire
wire_keeps : (t : WireTurn) (old new : SeatedState) → AfterWire t old new
    → KeepsAnswers old.site new.site
wire_keeps Sent old new a =
    subst (KeepsAnswers old.site) (sym a.first.same) (record { me = refl; keep = refl; history = refl; process = refl })
wire_keeps Lost old new a =
    subst (KeepsAnswers old.site) (sym a.first.same) (record { me = refl; keep = refl; history = refl; process = refl })
wire_keeps Empty old new a = keeps_same old.site new.site a.0.1
wire_keeps (Served v) old new a = after_delivery_keeps v a.bytes old.site new.site a.delivered
wire_keeps Returned old new a = keeps_same old.site new.site a.rests.1
wire_keeps Dropped old new (inl a) = keeps_same old.site new.site a.rests.1
wire_keeps Dropped old new (inr a) = keeps_same old.site new.site a.rests.1

pub wire_turn_keeps : {T : Type 0} (r : Result (WireTurn × T) Fault) (old new : SeatedState)
    → MatchResult r (λ done. AfterWire done.0 old new) (λ fault. RefusesString fault old new)
    → KeepsAnswers old.site new.site
wire_turn_keeps (Ok done) old new a = wire_keeps done.0 old new a
wire_turn_keeps (Err fault) old new a = keeps_same old.site new.site a.rests.1

pulse_keeps : (s : SiteView) (to : ℕ) → KeepsAnswers s (after_pulse_to s to (pulsing s.node to))
unfolding pulsing
pulse_keeps s to = record { me = refl; keep = refl; history = refl; process = refl }

-- a pulse that was made or refused
pub pulsed_keeps : {T : Type 0} (r : Result T Fault) (to : T → ℕ) (old new : SeatedState)
    → MatchResult r (λ x. new.site ≡ after_pulse_to old.site (to x) (pulsing old.site.node (to x))) (λ _. new ≡ old)
    → KeepsAnswers old.site new.site
pulsed_keeps (Ok x) to old new done =
    subst (KeepsAnswers old.site) (sym done) (pulse_keeps old.site (to x))
pulsed_keeps (Err fault) to old new same =
    keeps_same old.site new.site (ap (λ (s : SeatedState). s.site) same)
