-- What calls of a site make, exactly: where one does nothing, its node can't make the event.
use Rattle.std.proofs.Common.{◌≡◌, ◌≢◌, ℕ, suc, ◌+◌, ◌-◌, ◌<◌, List, [], ◌∷◌, ◌++◌, None, refl, sym, ap, subst, ◌∙◌, append_assoc, arith}
use Rattle.std.specs.Prelude.{Bool, true, false, Result, Ok, Err, MatchResult, IfErr}
use Rattle.std.proofs.lemmas.Option.{none-some}
use Rattle.ivy_model.specs.declared.Fault.{Fault}
use Rattle.ivy_model.specs.declared.Fault.TheVariants.{NumbersSpent}
use Rattle.ivy_model.specs.stated.Config.{IsConfig}
use Rattle.ivy_wire.specs.stated.Data.{Frame}
use Rattle.ivy_wire.proofs.Frames.{spelled_once}
use Rattle.ivy_link.specs.stated.Accepted.{offered}
use Rattle.ivy_link.specs.declared.Verdict.{Verdict}
use Rattle.ivy_link.specs.declared.Verdict.TheVariants as verdict
use Rattle.ivy_moves.specs.Marks.{Mark, Turn, Delivery, turns}
use Rattle.ivy_moves.specs.stated.Nodes.{Effect, turned, turned_to, verdict_as, verdict_of}
use Rattle.ivy_moves.specs.Parts.{followed_by, AllHappen, Happens}
use Rattle.ivy_moves.proofs.Parts.{all-append, single}
use Rattle.ivy_moves.proofs.Splitting.{all-split, same-effect}
use Rattle.ivy_host.specs.stated.Hosts.{Host, host_rules, turn_of}
use Rattle.ivy_host.specs.stated.Managers.{Managed, managed_ops}
use Rattle.ivy_site.specs.declared.turn.Turn as turn
use Rattle.ivy_site.specs.declared.turn.Turn.TheVariants.{Idle, Moved, Ended}
use Rattle.ivy_site.specs.SiteView.{SiteView, after_hearing, after_delivery}
use Rattle.ivy_site.specs.Inside.{Receives, Holds}
use Rattle.ivy_site.specs.Sites.{AfterTurn, SiteDelivers, IsSpentTurn}
use Rattle.ivy_logs.proofs.Entries.{turns-more}
use Rattle.ivy_join.specs.Exact.{Makes, NeverHappen, SaysMade}

-- first these events, then those
pub makes-further : (a b d : SiteView) (ms ms' : List Mark) → b.config ≡ a.config → Makes ms a b
    → Makes ms' b d → Makes (ms ++ ms') a d
makes-further a b d ms ms' config x y = record {
  effect = followed_by x.effect y.effect;
  happen = all-append (host_rules managed_ops) a.config a.node ms ms' x.effect y.effect x.happen
      (subst (λ n. AllHappen (host_rules managed_ops) a.config n ms' y.effect) x.node
      (subst (λ k. AllHappen (host_rules managed_ops) k b.node ms' y.effect) config y.happen));
  node = y.node;
  waiting = y.waiting ∙ ap (λ l. l ++ y.effect.sent) x.waiting
      ∙ append_assoc a.waiting x.effect.sent y.effect.sent;
}

-- one of those that can't follow can't be made
pub never-further : (a b : SiteView) (ms : List Mark) (m : Mark) (more : List Mark) → b.config ≡ a.config
    → Makes ms a b
    → ((e : Effect (Host Managed)) → Happens (host_rules managed_ops) b.config b.node m e → ⊥)
    → NeverHappen a.config a.me a.node (ms ++ (m ∷ more))
never-further a b ms m more config x never others effect happen =
    let split = all-split (host_rules managed_ops) a.config a.node ms (m ∷ more) effect happen in
    let same : split.first ≡ x.effect =
    same-effect (host_rules managed_ops) a.config a.node ms split.first x.effect split.happen x.happen in
    let node : split.first.after ≡ b.node = ap (λ (e : Effect (Host Managed)). e.after) same ∙ sym x.node in
    never split.go_on.0
    (subst (λ n. Happens (host_rules managed_ops) b.config n m split.go_on.0) node
    (subst (λ k. Happens (host_rules managed_ops) k split.first.after m split.go_on.0) (sym config)
    split.go_on.1))

-- turns

pub turn-makes : (s s' : SiteView) → AfterTurn Moved s s' → Makes (Turn ∷ []) s s'
unfolding turned
turn-makes s s' after = record {
  effect = after.effect;
  happen = single (host_rules managed_ops) s.config s.node Turn after.effect (
    (after.outcome, after.turn),
    ap (turned_to (host_rules managed_ops) s.node) after.turn ∙ after.sent,
  );
  node = ap (λ (x : SiteView). x.node) after.after;
  waiting = ap (λ (x : SiteView). x.waiting) after.after;
}

pub one-more-makes : (a b d : SiteView) (n : ℕ) → b.config ≡ a.config → Makes (turns n) a b
    → AfterTurn Moved b d → Makes (turns (n + 1)) a d
one-more-makes a b d n config x after =
    subst (λ l. Makes l a d) (sym (turns-more n 1))
    (makes-further a b d (turns n) (Turn ∷ []) config x (turn-makes b d after))

-- a turn that does nothing
no-turn : (s : SiteView) → turn_of managed_ops s.node.core ≡ None → (e : Effect (Host Managed))
    → Happens (host_rules managed_ops) s.config s.node Turn e → ⊥
no-turn s none e h = none-some h.0.0 (sym none ∙ h.0.1)

idle-or-ended : (t : turn.Turn) (s s' : SiteView) → t ≢ Moved → AfterTurn t s s'
    → turn_of managed_ops s.node.core ≡ None
idle-or-ended Idle s s' apart after = after.0
idle-or-ended Moved s s' apart after = absurd (apart refl)
idle-or-ended Ended s s' apart after = after.1

-- whatever the call of a site answers then
pub no-turn-by : (r : Result turn.Turn Fault) (s s' : SiteView)
    → MatchResult r (λ t. AfterTurn t s s') (λ _. s' ≡ s) → IfErr r (IsSpentTurn s) → (r ≡ Ok Moved → ⊥)
    → IfErr r (λ fault. fault ≡ NumbersSpent) → (e : Effect (Host Managed))
    → Happens (host_rules managed_ops) s.config s.node Turn e → ⊥
no-turn-by (Ok t) s s' after spent apart is =
    no-turn s (idle-or-ended t s s' (λ same. apart (ap Ok same)) after)
no-turn-by (Err fault) s s' same spent apart is = λ e h. none-some e (sym (spent is) ∙ h.1)

-- of so many turns one can't be made after these
pub never-turns : (a b : SiteView) (made count : ℕ) → made < count → b.config ≡ a.config
    → Makes (turns made) a b
    → ((e : Effect (Host Managed)) → Happens (host_rules managed_ops) b.config b.node Turn e → ⊥)
    → NeverHappen a.config a.me a.node (turns count)
never-turns a b made count below config x never =
    let parts : count ≡ made + suc (count - made - 1) = omega (arith, below) in
    subst (NeverHappen a.config a.me a.node)
    (sym (ap turns parts ∙ turns-more made (suc (count - made - 1))))
    (never-further a b (turns made) Turn (turns (count - made - 1)) config x never)

-- a delivery

verdict_is : (bytes : List ℕ) (v : Verdict) (s s' : SiteView) → IsConfig s.config → SiteDelivers bytes v s s'
    → verdict_of s.config s.node bytes ≡ v
verdict_is bytes v s s' limits d =
    let once = spelled_once s.config d.frame bytes limits d.spelled in
    ap (λ r. verdict_as r s.node bytes) once.0 ∙ ap (λ f. offered s.node.link f) once.1 ∙ sym d.is

heard-makes : (bytes : List ℕ) (v w : Verdict) (s s' : SiteView) → IsConfig s.config
    → (d : SiteDelivers bytes v s s') → v ≢ verdict.NotMine
    → s' ≡ after_hearing s bytes w d.frame.source d.effect → Makes (Delivery bytes ∷ []) s s'
heard-makes bytes v w s s' limits d mine after = record {
  effect = d.effect;
  happen = single (host_rules managed_ops) s.config s.node (Delivery bytes) d.effect
      ((λ not. mine (sym (verdict_is bytes v s s' limits d) ∙ not)), d.delivered);
  node = ap (λ (x : SiteView). x.node) after;
  waiting = ap (λ (x : SiteView). x.waiting) after;
}

delivery-makes : (bytes : List ℕ) (v w : Verdict) (s s' : SiteView) → IsConfig s.config → v ≡ w
    → v ≢ verdict.NotMine → SiteDelivers bytes v s s' → Makes (Delivery bytes ∷ []) s s'
delivery-makes bytes v verdict.NotMine s s' limits is mine d = absurd (mine is)
delivery-makes bytes v verdict.Next s s' limits is mine d =
    heard-makes bytes v verdict.Next s s' limits d mine
    (d.after ∙ ap (λ x. after_delivery s bytes x d.frame.source d.effect) is)
delivery-makes bytes v verdict.Repeat s s' limits is mine d =
    heard-makes bytes v verdict.Repeat s s' limits d mine
    (d.after ∙ ap (λ x. after_delivery s bytes x d.frame.source d.effect) is)
delivery-makes bytes v verdict.Ahead s s' limits is mine d =
    heard-makes bytes v verdict.Ahead s s' limits d mine
    (d.after ∙ ap (λ x. after_delivery s bytes x d.frame.source d.effect) is)

-- nothing is sent by holding
holding-makes : (events : List Mark) (bytes : List ℕ) (v : Verdict) (f : Frame) (s mid s' : SiteView)
    → Holds v f bytes mid s' → Makes events s mid → Makes events s s'
holding-makes events bytes verdict.NotMine f s mid s' same x = subst (Makes events s) (sym same) x
holding-makes events bytes verdict.Next f s mid s' same x = subst (Makes events s) (sym same) x
holding-makes events bytes verdict.Repeat f s mid s' same x = subst (Makes events s) (sym same) x
holding-makes events bytes verdict.Ahead f s mid s' same x = record {
  effect = x.effect;
  happen = x.happen;
  node = ap (λ (y : SiteView). y.node) same ∙ x.node;
  waiting = ap (λ (y : SiteView). y.waiting) same ∙ x.waiting;
}

received-makes : (bytes : List ℕ) (v : Verdict) (source : ℕ) (s s' : SiteView) → IsConfig s.config
    → Receives bytes v source s s' → v ≢ verdict.NotMine → Makes (Delivery bytes ∷ []) s s'
received-makes bytes v source s s' limits r mine =
    holding-makes (Delivery bytes ∷ []) bytes v r.first.frame s r.mid s' r.holds
    (delivery-makes bytes v v s r.mid limits refl mine r.first)

not_mine : (bytes : List ℕ) (s : SiteView) → verdict_of s.config s.node bytes ≡ verdict.NotMine
    → NeverHappen s.config s.me s.node (Delivery bytes ∷ [])
not_mine bytes s mine others effect happen = happen.1.0 mine

-- what the verdict says of the delivery
pub received-says : (bytes : List ℕ) (v : Verdict) (source : ℕ) (s s' : SiteView) (happens : Bool)
    → Receives bytes v source s s' → (happens ≡ true → v ≢ verdict.NotMine)
    → (happens ≡ false → v ≡ verdict.NotMine) → SaysMade (Delivery bytes ∷ []) s s' happens
received-says bytes v source s s' true r mine other =
    λ limits. received-makes bytes v source s s' limits r (mine refl)
received-says bytes v source s s' false r mine other =
    λ limits none. not_mine bytes s (verdict_is bytes v s r.mid limits r.first ∙ other refl)
