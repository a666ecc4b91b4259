-- A site stays what its events make, whatever its calls do.
use Rattle.std.proofs.Common.{◌≡◌, ◌≢◌, ℕ, replicate, inl, inr, arith, List, [], ◌∷◌, ◌++◌, length, Option, Some, None, Contains, refl, sym, ap, subst, ◌∙◌, append-nil, append_assoc}
use Rattle.std.specs.Prelude.{IfSome}
use Rattle.std.proofs.lemmas.List.Elements.{Contains-append_left, Contains-append_right, Contains-push}
use Rattle.std.proofs.lemmas.Bool.{cases_lt}
use Rattle.std.proofs.lemmas.List.{get_or-replicate, get_or_past, length-replicate}
use Rattle.std.proofs.lemmas.Option.{none-some}
use Rattle.ivy_link.specs.Windows.{first_window, place_at}
use Rattle.ivy_model.specs.declared.Config.{Config}
use Rattle.ivy_model.specs.stated.Config.{IsConfig}
use Rattle.ivy_wire.proofs.Frames.{spelled_once}
use Rattle.ivy_link.specs.declared.Verdict.{Verdict}
use Rattle.ivy_link.specs.stated.Accepted.{offered}
use Rattle.ivy_link.specs.declared.Verdict.TheVariants as verdict
use Rattle.ivy_host.specs.declared.opening.Opening.{Opening}
use Rattle.ivy_host.specs.stated.Managers.{Managed, managed_ops}
use Rattle.ivy_host.specs.stated.Hosts.{Host, host_rules}
use Rattle.ivy_host.specs.stated.Openings.{first_node, managed_start}
use Rattle.ivy_program.specs.stated.Programs.{HandedFetch, Program, fetches_of}
use Rattle.ivy_moves.specs.stated.Cores.{Core}
use Rattle.ivy_moves.specs.declared.keep.Keep.{Keep}
use Rattle.ivy_moves.specs.Marks.{Mark, Turn, Delivery}
use Rattle.ivy_moves.specs.stated.Nodes.{Node, Effect, stays, turned, turned_to, verdict_as, verdict_of, pulsing}
use Rattle.ivy_moves.specs.Parts.{followed_by, pulse_marks, AllHappen}
use Rattle.ivy_moves.specs.Early.{early_as, early_in}
use Rattle.ivy_moves.proofs.Early.{early-append}
use Rattle.ivy_moves.proofs.Parts.{all-append, single, pulsing-marks}
use Rattle.ivy_site.specs.declared.turn.Turn as turn
use Rattle.ivy_site.specs.declared.turn.Turn.TheVariants.{Idle, Moved, Ended}
use Rattle.ivy_host.proofs.Programs.{turned-program, posting-core, delivered-program}
use Rattle.ivy_link.specs.Outboxes.{Outbox, TakesFirst}
use Rattle.ivy_site.specs.SiteView.{SiteView, after_hearing, after_delivery, after_pulse_to, box_of, boxed}
use Rattle.ivy_site.specs.Sites.{early_at, IsSite, HoldsEarly, IsMadeByEvents, AfterTurn, SiteDelivers, first_opened, IsSentBy}

abbrev rules : Core (Host Managed)
rules = host_rules managed_ops

abbrev program_in : SiteView → Program
program_in s = s.node.core.process.program

-- the events so far, and one effect more
grown : (old new : SiteView) (ms : List Mark) (e : Effect (Host Managed)) → IsMadeByEvents old
    → AllHappen rules old.config old.node ms e → new.config ≡ old.config
    → new.opened ≡ old.opened → new.me ≡ old.me → program_in new ≡ program_in old
    → new.events ≡ old.events ++ ms → new.node ≡ e.after → new.waiting ≡ old.waiting ++ e.sent
    → IsMadeByEvents new
grown old new ms e h more config opened me program events node waiting = record {
  effect = followed_by h.effect e;
  happen =
      subst (λ p. AllHappen rules new.config
      (first_node (managed_start new.opened) new.config new.me p) new.events
      (followed_by h.effect e)) (sym program)
      (subst (λ i. AllHappen rules new.config
      (first_node (managed_start new.opened) new.config i (program_in old))
      new.events (followed_by h.effect e)) (sym me)
      (subst (λ o. AllHappen rules new.config
      (first_node (managed_start o) new.config old.me (program_in old)) new.events
      (followed_by h.effect e)) (sym opened)
      (subst (λ c. AllHappen rules c
      (first_node (managed_start old.opened) c old.me (program_in old)) new.events
      (followed_by h.effect e)) (sym config)
      (subst (λ ms. AllHappen rules old.config
      (first_node (managed_start old.opened) old.config old.me (program_in old)) ms (followed_by h.effect e))
      (sym events)
      (all-append rules old.config (first_node (managed_start old.opened) old.config old.me (program_in old))
      old.events ms h.effect e h.happen
      (subst (λ n. AllHappen rules old.config n ms e) h.node more))))));
  node = node;
  taken = h.taken;
  waits = ap (λ l. l ++ e.sent) h.waits ∙ append_assoc h.taken old.waiting e.sent
      ∙ ap (λ l. h.taken ++ l) (sym waiting);
}

unchanged : (old new : SiteView) → IsMadeByEvents old → new ≡ old → IsMadeByEvents new
unchanged old new h same = subst IsMadeByEvents (sym same) h

-- a turn
pub turn_made : (t : turn.Turn) (old new : SiteView) → IsMadeByEvents old → AfterTurn t old new
    → IsMadeByEvents new
unfolding turned
turn_made Idle old new h after = unchanged old new h after.1
turn_made Ended old new h after = unchanged old new h after.2
turn_made Moved old new h after =
    grown old new (Turn ∷ []) after.effect h
    (single rules old.config old.node Turn after.effect
    ((after.outcome, after.turn), ap (turned_to rules old.node) after.turn ∙ after.sent))
    (ap (λ (s : SiteView). s.config) after.after) (ap (λ (s : SiteView). s.opened) after.after)
    (ap (λ (s : SiteView). s.me) after.after)
    (ap program_in after.after
    ∙ ap (λ (k : Host Managed). k.process.program)
    (posting-core old.node after.outcome.after after.outcome.posted after.effect after.sent)
    ∙ turned-program old.node.core after.outcome after.turn)
    (ap (λ (s : SiteView). s.events) after.after) (ap (λ (s : SiteView). s.node) after.after)
    (ap (λ (s : SiteView). s.waiting) after.after)

-- a delivery
delivered_made : (bytes : List ℕ) (v : Verdict) (old new : SiteView) → IsMadeByEvents old
    → (d : SiteDelivers bytes v old new) → v ≢ verdict.NotMine
    → verdict_of old.config old.node bytes ≡ v → IsConfig old.config → (w : Verdict)
    → new ≡ after_hearing old bytes w d.frame.source d.effect → IsMadeByEvents new
delivered_made bytes v old new h d mine is limits w after =
    grown old new (Delivery bytes ∷ []) d.effect h
    (single rules old.config old.node (Delivery bytes) d.effect
    ((λ not. mine (sym is ∙ not)), d.delivered))
    (ap (λ (s : SiteView). s.config) after) (ap (λ (s : SiteView). s.opened) after)
    (ap (λ (s : SiteView). s.me) after)
    (ap program_in after
    ∙ delivered-program old.config limits old.node d.frame bytes d.effect d.spelled d.delivered)
    (ap (λ (s : SiteView). s.events) after) (ap (λ (s : SiteView). s.node) after)
    (ap (λ (s : SiteView). s.waiting) after)

-- the verdict is what the definitions say of the string
read_verdict : (bytes : List ℕ) (v : Verdict) (old new : SiteView) → IsConfig old.config
    → (d : SiteDelivers bytes v old new) → verdict_of old.config old.node bytes ≡ v
read_verdict bytes v old new limits d =
    let once = spelled_once old.config d.frame bytes limits d.spelled in
    ap (λ r. verdict_as r old.node bytes) once.0 ∙ ap (λ f. offered old.node.link f) once.1
    ∙ sym d.is

made_as : (bytes : List ℕ) (v : Verdict) (old new : SiteView) → IsConfig old.config
    → IsMadeByEvents old → (d : SiteDelivers bytes v old new) → (w : Verdict) → v ≡ w
    → IsMadeByEvents new
made_as bytes v old new limits h d verdict.NotMine is =
    unchanged old new h (d.after ∙ ap (λ x. after_delivery old bytes x d.frame.source d.effect) is)
made_as bytes v old new limits h d verdict.Next is =
    delivered_made bytes v old new h d
    (λ not. (let apart : verdict.Next ≡ verdict.NotMine = sym is ∙ not in absurd cc))
    (read_verdict bytes v old new limits d) limits verdict.Next
    (d.after ∙ ap (λ x. after_delivery old bytes x d.frame.source d.effect) is)
made_as bytes v old new limits h d verdict.Repeat is =
    delivered_made bytes v old new h d
    (λ not. (let apart : verdict.Repeat ≡ verdict.NotMine = sym is ∙ not in absurd cc))
    (read_verdict bytes v old new limits d) limits verdict.Repeat
    (d.after ∙ ap (λ x. after_delivery old bytes x d.frame.source d.effect) is)
made_as bytes v old new limits h d verdict.Ahead is =
    delivered_made bytes v old new h d
    (λ not. (let apart : verdict.Ahead ≡ verdict.NotMine = sym is ∙ not in absurd cc))
    (read_verdict bytes v old new limits d) limits verdict.Ahead
    (d.after ∙ ap (λ x. after_delivery old bytes x d.frame.source d.effect) is)

pub delivery_made : (bytes : List ℕ) (v : Verdict) (old new : SiteView) → IsConfig old.config
    → IsMadeByEvents old → (d : SiteDelivers bytes v old new) → IsMadeByEvents new
delivery_made bytes v old new limits h d = made_as bytes v old new limits h d v refl

-- the first site
pub first_made : (opened : Opening) (keep : Keep) (c : Config) (me : ℕ) (program : Program)
    → IsMadeByEvents (first_opened opened keep c me program)
first_made opened keep c me program =
    record {
      effect = stays (first_node (managed_start opened) c me program);
      happen = refl;
      node = refl;
      taken = [];
      waits = refl;
    }

-- nothing is held
first_holds : (opened : Opening) (keep : Keep) (c : Config) (me : ℕ) (program : Program)
    → HoldsEarly (first_opened opened keep c me program)
first_holds opened keep c me program from place bytes is =
    elim (cases_lt from c.nodes) [
      | inl lt ↦
          absurd (none-some bytes
          (sym (ap (λ w. place_at w place) (get_or-replicate c.nodes from first_window [] lt)
          ∙ none-first place) ∙ is))
      | inr past ↦
          absurd (none-some bytes
          (sym (ap (λ w. place_at w place)
          (get_or_past (replicate c.nodes first_window) from []
          (omega (arith, past, length-replicate c.nodes first_window)))) ∙ is))
    ]
  where
    none-first : (place : ℕ) → place_at first_window place ≡ None
    none-first place = elim (cases_lt place 32) [
      | inl lt ↦ get_or-replicate 32 place None None lt
      | inr past ↦
          get_or_past (replicate 32 None) place None
          (omega (arith, past, length-replicate {A = Option (List ℕ)} 32 None))
    ]

pub first_site : (opened : Opening) (keep : Keep) (c : Config) (me : ℕ) (program : Program) (s : SiteView)
    → fetches_of program ≡ [] → s ≡ first_opened opened keep c me program → IsSite s
first_site opened keep c me program s none is =
    subst IsSite (sym is)
    (record {
      config = refl;
      me = refl;
      asking = λ call asked. absurd (none-some call asked);
      made = first_made opened keep c me program;
      held = first_holds opened keep c me program;
      fetched = sym (ap (λ (fs : List HandedFetch). length fs) none);
    })

-- a pulse
pub pulse_made-on : (to : ℕ) (old new : SiteView) → IsMadeByEvents old
    → new ≡ after_pulse_to old to (pulsing old.node to) → IsMadeByEvents new
unfolding pulsing
pulse_made-on to old new h after =
    grown old new (pulse_marks to (pulsing old.node to).sent) (pulsing old.node to) h
    (pulsing-marks rules old.config old.node to (pulsing old.node to).sent refl)
    (ap (λ (s : SiteView). s.config) after) (ap (λ (s : SiteView). s.opened) after)
    (ap (λ (s : SiteView). s.me) after) (ap program_in after)
    (ap (λ (s : SiteView). s.events) after) (ap (λ (s : SiteView). s.node) after)
    (ap (λ (s : SiteView). s.waiting) after)

-- a string that waited is taken
pub take_site : (v : SiteView) (bytes : Option (List ℕ)) (box : Outbox) → IsSite v
    → TakesFirst bytes (box_of v) box → IsSite (boxed v box)
take_site v None box s takes = subst (λ b. IsSite (boxed v b)) (sym takes.1) s
take_site v (Some bytes) box s takes =
    let same : box
    ≡ record {
      config = v.config;
      me = v.me;
      link = v.node.link;
      waiting = box.waiting;
      held = v.held;
    } =
    (λ k. record {
      config = takes.1 k;
      me = takes.2 k;
      link = takes.3 k;
      waiting = box.waiting;
      held = takes.4 k;
    }) in
    subst (λ b. IsSite (boxed v b)) (sym same) (record {
      config = s.config;
      me = s.me;
      asking = s.asking;
      fetched = s.fetched;
      held = λ from place x is.
          (let h = s.held from place x is in
          record {
            early = h.early;
            frame = h.frame;
            spelled = h.spelled;
            source = h.source;
            dest = h.dest;
            number = h.number;
          });
      made = record {
        effect = s.made.effect;
        happen = s.made.happen;
        node = s.made.node;
        taken = s.made.taken ++ bytes ∷ [];
        waits = s.made.waits ∙ ap (λ l. s.made.taken ++ l) takes.0
            ∙ sym (append_assoc s.made.taken (bytes ∷ []) box.waiting);
      };
    })

-- all that waited was taken
pub all_taken : (s : SiteView) → IsMadeByEvents s → IsMadeByEvents (record s { waiting = [] })
all_taken s h = record {
  effect = h.effect;
  happen = h.happen;
  node = h.node;
  taken = h.taken ++ s.waiting;
  waits = h.waits ∙ sym (append-nil (h.taken ++ s.waiting));
}

-- what came too early by more events
early_grown : (old new : SiteView) (ms : List Mark) → IsMadeByEvents old → new.config ≡ old.config
    → new.opened ≡ old.opened → new.me ≡ old.me → program_in new ≡ program_in old → new.events ≡ old.events ++ ms
    → early_at new ≡ early_at old ++ early_in rules old.config old.node ms
early_grown old new ms h config opened me program events =
    ap (λ p. early_in rules new.config (first_node (managed_start new.opened) new.config new.me p)
    new.events) program
    ∙ ap (λ i. early_in rules new.config
    (first_node (managed_start new.opened) new.config i (program_in old)) new.events) me
    ∙ ap (λ o. early_in rules new.config
    (first_node (managed_start o) new.config old.me (program_in old)) new.events) opened
    ∙ ap (λ c. early_in rules c (first_node (managed_start old.opened) c old.me (program_in old))
    new.events) config
    ∙ ap (early_in rules old.config (first_node (managed_start old.opened) old.config old.me (program_in old))) events
    ∙ early-append rules old.config (first_node (managed_start old.opened) old.config old.me (program_in old))
    old.events ms h.effect h.happen
    ∙ ap (λ n. early_at old ++ early_in rules old.config n ms) (sym h.node)

early_same : (old new : SiteView) → new ≡ old → early_at new ≡ early_at old ++ []
early_same old new same = ap early_at same ∙ sym (append-nil (early_at old))

-- nothing comes by a turn or a pulse
pub turn_early : (t : turn.Turn) (old new : SiteView) → IsMadeByEvents old → AfterTurn t old new
    → early_at new ≡ early_at old ++ []
turn_early Idle old new h after = early_same old new after.1
turn_early Ended old new h after = early_same old new after.2
turn_early Moved old new h after =
    early_grown old new (Turn ∷ []) h (ap (λ (s : SiteView). s.config) after.after)
    (ap (λ (s : SiteView). s.opened) after.after) (ap (λ (s : SiteView). s.me) after.after)
    (ap program_in after.after
    ∙ ap (λ (k : Host Managed). k.process.program)
    (posting-core old.node after.outcome.after after.outcome.posted after.effect after.sent)
    ∙ turned-program old.node.core after.outcome after.turn)
    (ap (λ (s : SiteView). s.events) after.after)

pulse_nothing : (n : Node (Host Managed)) (c : Config) (to : ℕ) (strings : List (List ℕ))
    → early_in rules c n (pulse_marks to strings) ≡ []
pulse_nothing n c to [] = refl
pulse_nothing n c to (s ∷ strings) = refl

pub pulse_early : (to : ℕ) (old new : SiteView) → IsMadeByEvents old
    → new ≡ after_pulse_to old to (pulsing old.node to) → early_at new ≡ early_at old ++ []
unfolding pulsing
pulse_early to old new h after =
    early_grown old new (pulse_marks to (pulsing old.node to).sent) h
    (ap (λ (s : SiteView). s.config) after) (ap (λ (s : SiteView). s.opened) after)
    (ap (λ (s : SiteView). s.me) after) (ap program_in after)
    (ap (λ (s : SiteView). s.events) after)
    ∙ ap (λ l. early_at old ++ l) (pulse_nothing old.node old.config to (pulsing old.node to).sent)

-- by a delivery a string that came too early
delivered_early : (bytes : List ℕ) (v : Verdict) (old new : SiteView) → IsConfig old.config
    → IsMadeByEvents old → (d : SiteDelivers bytes v old new) (w : Verdict)
    → new ≡ after_hearing old bytes w d.frame.source d.effect
    → verdict_of old.config old.node bytes ≡ v
    → early_at new ≡ early_at old ++ early_as v bytes
delivered_early bytes v old new limits h d w after is =
    early_grown old new (Delivery bytes ∷ []) h (ap (λ (s : SiteView). s.config) after)
    (ap (λ (s : SiteView). s.opened) after) (ap (λ (s : SiteView). s.me) after)
    (ap program_in after
    ∙ delivered-program old.config limits old.node d.frame bytes d.effect d.spelled d.delivered)
    (ap (λ (s : SiteView). s.events) after)
    ∙ ap (λ l. early_at old ++ l)
    (append-nil (early_as (verdict_of old.config old.node bytes) bytes))
    ∙ ap (λ w. early_at old ++ early_as w bytes) is

early_after : (bytes : List ℕ) (v : Verdict) (old new : SiteView) → IsConfig old.config
    → IsMadeByEvents old → (d : SiteDelivers bytes v old new) → (w : Verdict) → v ≡ w
    → early_at new ≡ early_at old ++ early_as w bytes
early_after bytes v old new limits h d verdict.NotMine is =
    early_same old new (d.after ∙ ap (λ x. after_delivery old bytes x d.frame.source d.effect) is)
early_after bytes v old new limits h d verdict.Next is =
    delivered_early bytes v old new limits h d verdict.Next
    (d.after ∙ ap (λ x. after_delivery old bytes x d.frame.source d.effect) is)
    (read_verdict bytes v old new limits d) ∙ ap (λ w. early_at old ++ early_as w bytes) is
early_after bytes v old new limits h d verdict.Repeat is =
    delivered_early bytes v old new limits h d verdict.Repeat
    (d.after ∙ ap (λ x. after_delivery old bytes x d.frame.source d.effect) is)
    (read_verdict bytes v old new limits d) ∙ ap (λ w. early_at old ++ early_as w bytes) is
early_after bytes v old new limits h d verdict.Ahead is =
    delivered_early bytes v old new limits h d verdict.Ahead
    (d.after ∙ ap (λ x. after_delivery old bytes x d.frame.source d.effect) is)
    (read_verdict bytes v old new limits d) ∙ ap (λ w. early_at old ++ early_as w bytes) is

pub delivery_early : (bytes : List ℕ) (v : Verdict) (old new : SiteView) → IsConfig old.config
    → IsMadeByEvents old → (d : SiteDelivers bytes v old new)
    → (verdict_of old.config old.node bytes ≡ v) × (early_at new ≡ early_at old ++ early_as v bytes)
delivery_early bytes v old new limits h d =
    (read_verdict bytes v old new limits d, early_after bytes v old new limits h d v refl)

-- which its events sent
pub take_sent : (n v : SiteView) → v ≡ n → (bytes : Option (List ℕ)) (box : Outbox) → IsSite v
    → TakesFirst bytes (box_of v) box → IfSome bytes (IsSentBy n)
take_sent n v same None box s takes = tt
take_sent n v same (Some bytes) box s takes =
    let whole : s.made.effect.sent ≡ s.made.taken ++ bytes ∷ box.waiting =
    s.made.waits ∙ ap (λ l. s.made.taken ++ l) takes.0 in
    subst (λ (x : SiteView). IsSentBy x bytes) same (record {
      made = s.made;
      sent = subst (λ l. Contains l bytes) (sym whole)
          (Contains-append_right s.made.taken (bytes ∷ box.waiting) bytes
          (Contains-append_left (bytes ∷ []) box.waiting bytes (Contains-push [] bytes)));
    })
