use denote.Enum.Bare.{sameb}
use Rattle.std.proofs.Common.{rules, true, ◌≡◌, ◌≢◌, ℕ, List, ◌<◌, ◌++◌, ◌∷◌, [], None, sym, refl, ap, subst, ◌∙◌, inl, inr}
use Rattle.ivy_model.specs.stated.Config.{IsConfig}
use Rattle.ivy_wire.specs.stated.Spelling.{Spells}
use Rattle.ivy_model.specs.declared.Config.{Config}
use Rattle.ivy_wire.specs.Lent.{owned_message, owned_body}
use Rattle.ivy_link.specs.contracts.verdict.Verdict.{the_type}
use Rattle.ivy_link.specs.declared.Verdict.{Verdict}
use Rattle.ivy_link.specs.declared.Verdict.TheVariants as verdict
use Rattle.ivy_link.specs.Holding.{accepted_at}
use Rattle.ivy_host.specs.declared.opening.Opening.{Opening}
use Rattle.ivy_moves.specs.declared.keep.Keep.{Keep}
use Rattle.ivy_moves.specs.Marks.{Mark, Delivery}
use Rattle.ivy_link.specs.Outboxes.{Outbox, holding_of, with_holding}
use Rattle.ivy_site.specs.SiteView.{SiteView, shown_of}
use Rattle.ivy_site.specs.Sites.{IsSite, IsSpentDelivery}
use Rattle.ivy_moves.specs.Keeping.{keeps_history, keeps_events}
use Rattle.ivy_site.specs.Inside.{CameEarlyAs, Hears, host_in}
use Rattle.ivy_memory.proofs.keeping.Beginning.{err_there}
use Rattle.ivy_site.proofs.Heads.{head_is, source_is, source_there, number_small, read_head, message_fits, heard_from, spent_from, source_foreign}
use Rattle.ivy_site.proofs.Delivering.{IsHeard, not_mine, heard_quietly, heard_delivers, heard_site, heard_early, heard_few}
use Rattle.ivy_site.proofs.Receiving.{hears}
use Rattle.ivy_site.proofs.site.Site.hear.Given.{Over}
use Rattle.ivy_site.proofs.site.Site.hear.Goals as goal
use Rattle.ivy_site.proofs.site.Site.hear.Goals.{After-accept, then-eq-2+in-Some+in_ok-handle, then-eq-2+in_default, else-eq-2}

-- the test for the next one
is_next : (v : Verdict) → true ≡ sameb the_type v verdict.Next → v ≡ verdict.Next
is_next verdict.Next same = refl
is_next verdict.Repeat same = absurd cc
is_next verdict.Ahead same = absurd cc
is_next verdict.NotMine same = absurd cc

-- a verdict is one
mine_or_ahead : (v : Verdict) → v ≡ verdict.NotMine → v ≡ verdict.Ahead → ⊥
mine_or_ahead v mine ahead =
    let wrong : verdict.NotMine ≡ verdict.Ahead = sym mine ∙ ahead in absurd cc

module _ (g : Over) (c : After-accept g) where
  apart : c.offer-verdict.result ≢ verdict.NotMine
  apart = search rules

  -- the string is read under the configuration of the outbox
  lent : Spells c.config-config.result c.requires.spelled.0 c.args.bytes.now
  lent =
      (read_head c.args.self.now c.args.bytes.now c.args.bytes.now refl
      c.requires.spelled c.head_of-head.result c.head_of-head.ensures _ c.self.view_is
      c.config-config.result c.config-config.ensures.is c.config-config.ensures.limits
      c.offer-verdict.result c.offer-verdict.ensures).spelled

  -- what the fields are before the frame is accepted
  heard : IsHeard
      (shown_of c.self.inside.opening c.self.inside.keep
      (host_in c.self.inside.host)
      c.self.inside.outbox c.self.inside.events.marks)
      c.requires.spelled.0 c.offer-verdict.result
      (host_in c.if-eq-2.self-inside.host) c.if-eq-2.self-inside.outbox
  heard = elim c.if-eq-2.branch [
    | then-eq-2+in-Some+in_ok-handle w ↦
        let next : c.offer-verdict.result ≡ verdict.Next =
        is_next c.offer-verdict.result w.if-eq-2.ensures in
        rw w.self-inside-is
        (heard_from _ c.requires.spelled.0 c.offer-verdict.result
        (owned_message w.in-Some.message) _ _ c.head_of-head.result.source
        (source_is c.args.self.now c.args.bytes.now c.args.bytes.now refl
        c.requires.spelled c.head_of-head.result c.head_of-head.ensures) next
        (sym (w.message_of.ensures c.requires.spelled.0 lent) ∙ ap owned_body w.in-Some.is)
        w.in_ok-handle.ensures.ok w.in_ok-handle.ensures.took w.in_ok-handle.ensures.few
        w.in_ok-handle.ensures.posted)
    | then-eq-2+in_default w ↦
        rw w.self-inside-is
        (heard_quietly _ c.requires.spelled.0 c.offer-verdict.result apart
        (λ n.
        sym (w.message_of.ensures c.requires.spelled.0 lent) ∙ ap owned_body w.in_default.is))
    | else-eq-2 w ↦
        let other : c.offer-verdict.result ≢ verdict.Next = search rules in
        rw w.self-inside-is
        (heard_quietly _ c.requires.spelled.0 c.offer-verdict.result apart
        (λ n. absurd (other n)))
  ]

  accepts : (new : Outbox)
      → new ≡ with_holding c.if-eq-2.self-inside.outbox
      (accepted_at (holding_of c.if-eq-2.self-inside.outbox) c.head_of-head.result)
      → new ≡ with_holding c.if-eq-2.self-inside.outbox
      (accepted_at (holding_of c.if-eq-2.self-inside.outbox) c.requires.spelled.0)
  accepts new is =
      is
      ∙ ap (λ h. with_holding c.if-eq-2.self-inside.outbox
      (accepted_at (holding_of c.if-eq-2.self-inside.outbox) h))
      (head_is c.args.self.now c.args.bytes.now c.args.bytes.now refl
      c.requires.spelled c.head_of-head.result c.head_of-head.ensures)

  -- the delivery is listed behind the events before
  listed : (marks : List Mark) (bytes : List ℕ)
      → c.reserve.new.self.marks ≡ c.self.inside.events.marks
      → marks ≡ c.if-eq-2.self-inside.events.marks ++ Delivery bytes ∷ []
      → marks ≡ c.self.inside.events.marks ++ Delivery bytes ∷ []
  listed marks bytes same pushed =
      let kept : c.if-eq-2.self-inside.events.marks ≡ c.self.inside.events.marks =
      elim c.if-eq-2.branch [
        | then-eq-2+in-Some+in_ok-handle w ↦ rw w.self-inside-is same
        | then-eq-2+in_default w ↦ rw w.self-inside-is same
        | else-eq-2 w ↦ rw w.self-inside-is same
      ] in
      pushed ∙ ap (λ (ms : List Mark). ms ++ Delivery bytes ∷ []) kept

  -- what is kept of the past stays
  same_keep : c.if-eq-2.self-inside.keep ≡ c.self.inside.keep
  same_keep = elim c.if-eq-2.branch [
    | then-eq-2+in-Some+in_ok-handle w ↦ rw w.self-inside-is refl
    | then-eq-2+in_default w ↦ rw w.self-inside-is refl
    | else-eq-2 w ↦ rw w.self-inside-is refl
  ]

  same_opening : c.if-eq-2.self-inside.opening ≡ c.self.inside.opening
  same_opening = elim c.if-eq-2.branch [
    | then-eq-2+in-Some+in_ok-handle w ↦ rw w.self-inside-is refl
    | then-eq-2+in_default w ↦ rw w.self-inside-is refl
    | else-eq-2 w ↦ rw w.self-inside-is refl
  ]

  same_history : c.if-eq-2.self-inside.host.history.kept ≡ c.self.inside.host.history.kept
  same_history = elim c.if-eq-2.branch [
    | then-eq-2+in-Some+in_ok-handle w ↦ rw w.self-inside-is refl
    | then-eq-2+in_default w ↦ rw w.self-inside-is refl
    | else-eq-2 w ↦ rw w.self-inside-is refl
  ]

  same_events : c.reserve.new.self.kept ≡ c.self.inside.events.kept
      → c.if-eq-2.self-inside.events.kept ≡ c.self.inside.events.kept
  same_events same = elim c.if-eq-2.branch [
    | then-eq-2+in-Some+in_ok-handle w ↦ rw w.self-inside-is same
    | then-eq-2+in_default w ↦ rw w.self-inside-is same
    | else-eq-2 w ↦ rw w.self-inside-is same
  ]

pub returns-then-eq-clause-done : goal.returns-then-eq-clause-done
returns-then-eq-clause-done g c =
    let not : c.offer-verdict.result ≡ verdict.NotMine = search rules in
    let config = c.config-config.ensures.is ∙ ap (λ (x : SiteView). x.config) c.self.view_is in
    hears c.args.bytes.now c.offer-verdict.result c.head_of-head.result.source None _ _
    (subst IsConfig config c.config-config.ensures.limits) c.requires.spelled.0
    c.requires.spelled.1
    (source_is c.args.self.now c.args.bytes.now c.args.bytes.now refl
    c.requires.spelled c.head_of-head.result c.head_of-head.ensures)
    (not_mine _ _ c.self.view_is c.config-config.result c.requires.spelled.0 c.args.bytes.now
    c.offer-verdict.result
    (read_head c.args.self.now c.args.bytes.now c.args.bytes.now refl
    c.requires.spelled c.head_of-head.result c.head_of-head.ensures _ c.self.view_is
    c.config-config.result c.config-config.ensures.is c.config-config.ensures.limits
    c.offer-verdict.result c.offer-verdict.ensures) not)
    (subst (λ v. CameEarlyAs v c.args.bytes.now c.args.self.now) (sym not) tt)
    (λ ahead. mine_or_ahead _ not ahead)

pub returns-in_err-handle-clause-spent : goal.returns-in_err-handle-clause-spent
returns-in_err-handle-clause-spent g c =
    let next : c.offer-verdict.result ≡ verdict.Next = search rules in
    err_there c.from_residual-in_err-handle.result
    (IsSpentDelivery c.args.self.now c.args.bytes.now) _
    c.from_residual-in_err-handle.ensures.1
    (spent_from _ _ c.self.view_is c.config-config.result c.requires.spelled.0 c.args.bytes.now
    c.offer-verdict.result
    (read_head c.args.self.now c.args.bytes.now c.args.bytes.now refl
    c.requires.spelled c.head_of-head.result c.head_of-head.ensures _ c.self.view_is
    c.config-config.result c.config-config.ensures.is c.config-config.ensures.limits
    c.offer-verdict.result c.offer-verdict.ensures) next
    (owned_message c.in-Some.message)
    (sym (c.message_of.ensures c.requires.spelled.0
    ((read_head c.args.self.now c.args.bytes.now c.args.bytes.now refl
    c.requires.spelled c.head_of-head.result c.head_of-head.ensures _ c.self.view_is
    c.config-config.result c.config-config.ensures.is c.config-config.ensures.limits
    c.offer-verdict.result c.offer-verdict.ensures).spelled))
    ∙ ap owned_body c.in-Some.is)
    _ c.head_of-head.result.source
    (source_is c.args.self.now c.args.bytes.now c.args.bytes.now refl
    c.requires.spelled c.head_of-head.result c.head_of-head.ensures)
    c.in_err-handle.ensures.fault)

-- a refused message changes nothing
pub invariant_of-self-in_err-handle : goal.invariant_of-self-in_err-handle
invariant_of-self-in_err-handle g c =
    let box : c.handle.new.post ≡ c.self.inside.outbox = elim c.in_err-handle.ensures.fault [
      | inl want ↦ want.1
      | inr refused ↦ refused.1
    ] in
    rw (
      c.in_err-handle.ensures.err,
      box,
      c.in_ok-reserve.ensures.same,
      c.in_ok-reserve.ensures.kept,
    ) c.self.invariant

pub invariant_of-self-2 : goal.invariant_of-self-2
invariant_of-self-2 g c =
    let after = (goal.at.invariant_of-self-2 g c).After-accept in (
      subst (λ (p : Opening × Keep). IsSite (shown_of p.0 p.1
          (host_in c.if-eq-2.self-inside.host) c.accept.new.self c.list.new.events.marks))
          (λ i. (sym (same_opening g after) i, sym (same_keep g after) i))
          (heard_site _ c.config-config.result c.requires.spelled.0 c.args.bytes.now
          c.offer-verdict.result c.config-config.ensures.fits
          (read_head c.args.self.now c.args.bytes.now c.args.bytes.now refl
          c.requires.spelled c.head_of-head.result c.head_of-head.ensures _ c.self.view_is
          c.config-config.result c.config-config.ensures.is c.config-config.ensures.limits
          c.offer-verdict.result c.offer-verdict.ensures)
          (apart g after) _ _ c.accept.new.self
          c.list.new.events.marks c.self.invariant.0 (heard g after)
          (accepts g after _ c.accept.ensures)
          (listed g after c.list.new.events.marks
          c.args.bytes.now c.in_ok-reserve.ensures.same c.list.ensures.marks)),
      (
        same_history g after ∙ c.self.invariant.1.0 ∙ ap keeps_history (sym (same_keep g after)),
        c.list.ensures.kept ∙ same_events g after c.in_ok-reserve.ensures.kept
            ∙ c.self.invariant.1.1 ∙ ap keeps_events (sym (same_keep g after)),
      ),
    )

pub returns-clause-done : goal.returns-clause-done
returns-clause-done g c =
    let after = (goal.at.returns-clause-done g c).After-accept in
    let config = c.config-config.ensures.is ∙ ap (λ (x : SiteView). x.config) c.self.view_is in
    let events =
    listed g after c.list.new.events.marks c.args.bytes.now
    c.in_ok-reserve.ensures.same c.list.ensures.marks in
    let read =
    (read_head c.args.self.now c.args.bytes.now c.args.bytes.now refl
    c.requires.spelled c.head_of-head.result c.head_of-head.ensures _ c.self.view_is
    c.config-config.result c.config-config.ensures.is c.config-config.ensures.limits
    c.offer-verdict.result c.offer-verdict.ensures) in
    subst (λ (p : Opening × Keep). Hears c.args.bytes.now c.offer-verdict.result c.head_of-head.result.source
    c.in_ok-held.held c.args.self.now (shown_of p.0 p.1
    (host_in c.if-eq-2.self-inside.host) c.accept.new.self c.list.new.events.marks))
    (λ i. (sym (same_opening g after) i, sym (same_keep g after) i))
    (hears c.args.bytes.now c.offer-verdict.result c.head_of-head.result.source _ _ _
    (subst IsConfig config c.config-config.ensures.limits) c.requires.spelled.0
    c.requires.spelled.1
    (source_is c.args.self.now c.args.bytes.now c.args.bytes.now refl
    c.requires.spelled c.head_of-head.result c.head_of-head.ensures)
    (heard_delivers _ _ c.self.view_is c.config-config.result c.requires.spelled.0
    c.args.bytes.now c.offer-verdict.result read
    (apart g after) _ _ c.accept.new.self c.list.new.events.marks (heard g after)
    (accepts g after _ c.accept.ensures) events)
    (heard_early _ c.config-config.result c.requires.spelled.0 c.args.bytes.now
    c.offer-verdict.result read
    (apart g after) _ _ c.accept.new.self c.list.new.events.marks c.self.invariant.0
    (heard g after) (accepts g after _ c.accept.ensures) events)
    c.in_ok-held.ensures)

pub returns-clause-few : goal.returns-clause-few
returns-clause-few g c =
    let after = (goal.at.returns-clause-few g c).After-accept in
    let read =
    (read_head c.args.self.now c.args.bytes.now c.args.bytes.now refl
    c.requires.spelled c.head_of-head.result c.head_of-head.ensures _ c.self.view_is
    c.config-config.result c.config-config.ensures.is c.config-config.ensures.limits
    c.offer-verdict.result c.offer-verdict.ensures) in
    heard_few _ _ c.self.view_is c.requires.spelled.0 c.offer-verdict.result _ _
    c.accept.new.self read.is (heard g after) (accepts g after _ c.accept.ensures)

-- the head names one of the nodes
pub offer-verdict-requires : goal.offer-verdict-requires
offer-verdict-requires g c = record {
  source =
      subst (λ (x : SiteView). c.head_of-head.result.source < x.config.nodes) (sym c.self.view_is)
      (source_there c.args.self.now c.args.bytes.now c.args.bytes.now refl
      c.requires.spelled c.head_of-head.result c.head_of-head.ensures);
}

pub accept-requires : goal.accept-requires
accept-requires g c =
    let config : c.if-eq-2.self-inside.outbox.config ≡ c.self.inside.outbox.config =
    elim c.if-eq-2.branch [
      | then-eq-2+in-Some+in_ok-handle w ↦
          rw w.self-inside-is (ap (λ (o : Outbox). o.config) w.in_ok-handle.ensures.posted)
      | then-eq-2+in_default w ↦ rw w.self-inside-is refl
      | else-eq-2 w ↦ rw w.self-inside-is refl
    ] in
    record {
      source =
          subst (λ (k : Config). c.head_of-head.result.source < k.nodes) (sym config)
          (subst (λ (x : SiteView). c.head_of-head.result.source < x.config.nodes)
          (sym c.self.view_is)
          (source_there c.args.self.now c.args.bytes.now c.args.bytes.now refl
          c.requires.spelled c.head_of-head.result c.head_of-head.ensures));
      number = number_small c.args.self.now c.args.bytes.now c.args.bytes.now refl
          c.requires.spelled c.head_of-head.result c.head_of-head.ensures;
    }

pub handle-requires : goal.handle-requires
handle-requires g c =
    let read =
    (read_head c.args.self.now c.args.bytes.now c.args.bytes.now refl
    c.requires.spelled c.head_of-head.result c.head_of-head.ensures _ c.self.view_is
    c.config-config.result c.config-config.ensures.is c.config-config.ensures.limits
    c.offer-verdict.result c.offer-verdict.ensures) in
    record {
      from =
          subst (λ (k : Config). c.head_of-head.result.source < k.nodes)
          (sym c.self.invariant.0.config)
          (subst (λ (x : SiteView). c.head_of-head.result.source < x.config.nodes)
          (sym c.self.view_is)
          (source_there c.args.self.now c.args.bytes.now c.args.bytes.now refl
          c.requires.spelled c.head_of-head.result c.head_of-head.ensures));
      foreign =
          source_foreign _ c.config-config.result c.requires.spelled.0 c.args.bytes.now
          c.offer-verdict.result read (search rules) c.config-config.ensures.mine
          c.self.invariant.0 c.head_of-head.result.source
          (source_is c.args.self.now c.args.bytes.now c.args.bytes.now refl
          c.requires.spelled c.head_of-head.result c.head_of-head.ensures);
      fits =
          message_fits c.args.self.now c.args.bytes.now c.args.bytes.now refl
          c.requires.spelled c.head_of-head.result c.head_of-head.ensures
          c.self.inside.host.memory.coherence.config
          (c.self.invariant.0.config ∙ ap (λ (x : SiteView). x.config) c.self.view_is)
          (owned_message c.in-Some.message)
          (sym (c.message_of.ensures c.requires.spelled.0
          read.spelled)
          ∙ ap owned_body c.in-Some.is);
      post = search rules;
    }

-- and the string is read under the configuration of the outbox
pub message_of-requires : goal.message_of-requires
message_of-requires g c = record {
  limits = c.config-config.ensures.limits;
  spelled = (
    c.requires.spelled.0,
    (read_head c.args.self.now c.args.bytes.now c.args.bytes.now refl
        c.requires.spelled c.head_of-head.result c.head_of-head.ensures _ c.self.view_is
        c.config-config.result c.config-config.ensures.is c.config-config.ensures.limits
        c.offer-verdict.result c.offer-verdict.ensures).spelled,
  );
}

pub head_of-head-requires : goal.head_of-head-requires
head_of-head-requires g c = (
  c.args.self.now.config,
  c.requires.spelled.0,
  c.requires.spelled.1,
)

pub returns-clause-from : goal.returns-clause-from
returns-clause-from g c =
    source_there c.args.self.now c.args.bytes.now c.args.bytes.now refl
    c.requires.spelled c.head_of-head.result c.head_of-head.ensures

pub returns-then-eq-clause-from : goal.returns-then-eq-clause-from
returns-then-eq-clause-from g c =
    source_there c.args.self.now c.args.bytes.now c.args.bytes.now refl
    c.requires.spelled c.head_of-head.result c.head_of-head.ensures
