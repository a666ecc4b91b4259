-- What a site's pulse is, from what its parts did. `v` is what the fields are seen as, `n` the
-- value.
use Rattle.std.proofs.Common.{◌≡◌, ◌≢◌, ℕ, Bool, true, false, List, [], ◌∷◌, ◌++◌, map, refl, sym, ap, ◌∙◌, subst, append-nil}
use Rattle.std.specs.Prelude.{IsTrue}
use Rattle.ivy_wire.specs.stated.Data.{Frame}
use Rattle.ivy_wire.specs.stated.Spelling.{spelling}
use Rattle.ivy_link.specs.stated.Pulsed.{frames_again, pulsed}
use Rattle.ivy_moves.specs.Marks.{Mark, Pulse}
use Rattle.ivy_moves.specs.stated.Nodes.{pulsing}
use Rattle.ivy_link.specs.Outboxes.{Outbox, with_sending}
use Rattle.ivy_site.specs.SiteView.{SiteView, after_pulse_to, box_of, shown_of}
use Rattle.ivy_moves.specs.Parts.{pulse_marks}
use Rattle.ivy_site.specs.Sites.{AreUsed, IsSite}
use Rattle.ivy_host.proofs.WellBehaved.{IsAskingHost}
use Rattle.ivy_link.specs.stated.Linked.{peer_at}
use Rattle.ivy_link.proofs.Holds.{pulsed-delivered}
use Rattle.ivy_site.proofs.Made.{pulse_made-on, pulse_early}
use Rattle.ivy_site.proofs.HeldStrings.{quiet_holds}

-- a pulse is listed where a frame was made
made-marks : (to : ℕ) (fs : List Frame) → fs ≢ []
    → pulse_marks to (map spelling fs) ≡ Pulse to ∷ []
made-marks to [] some = absurd (some refl)
made-marks to (f ∷ fs) some = refl

none-marks : (to : ℕ) (fs : List Frame) → (fs ≢ [] → ⊥) → pulse_marks to (map spelling fs) ≡ []
none-marks to [] none = refl
none-marks to (f ∷ fs) none = absurd (none (λ e. absurd cc))

pulse_is : (n v : SiteView) → v ≡ n → (to : ℕ) (box : Outbox) (events : List Mark)
    → box ≡ with_sending (box_of v) (pulsed v.node.link to)
    → events ≡ v.events ++ pulse_marks to (map spelling (frames_again v.node.link to))
    → shown_of v.opened v.keep v.node.core box events ≡ after_pulse_to n to (pulsing n.node to)
unfolding pulsing
pulse_is n v same to box events sent listed =
    subst (λ (x : SiteView). shown_of v.opened v.keep v.node.core box events ≡ after_pulse_to x to (pulsing x.node to)) same
    (ap (λ (b : Outbox). shown_of v.opened v.keep v.node.core b events) sent
    ∙ ap (λ (es : List Mark). shown_of v.opened v.keep v.node.core (with_sending (box_of v) (pulsed v.node.link to)) es)
    listed)

pub pulse_made : (n v : SiteView) → v ≡ n → (to : ℕ) (box : Outbox) (reserved events : List Mark)
    → box ≡ with_sending (box_of v) (pulsed v.node.link to)
    → frames_again v.node.link to ≢ [] → reserved ≡ v.events → events ≡ reserved ++ Pulse to ∷ []
    → shown_of v.opened v.keep v.node.core box events ≡ after_pulse_to n to (pulsing n.node to)
pulse_made n v same to box reserved events sent some room listed =
    pulse_is n v same to box events sent
    (listed ∙ (ap (λ (es : List Mark). es ++ Pulse to ∷ []) room
    ∙ ap (λ (ms : List Mark). v.events ++ ms)
    (sym (made-marks to (frames_again v.node.link to) some))))

pub pulse_none : (n v : SiteView) → v ≡ n → (to : ℕ) (box : Outbox) (events : List Mark)
    → box ≡ with_sending (box_of v) (pulsed v.node.link to)
    → (frames_again v.node.link to ≢ [] → ⊥) → events ≡ v.events
    → shown_of v.opened v.keep v.node.core box events ≡ after_pulse_to n to (pulsing n.node to)
pulse_none n v same to box events sent none room =
    pulse_is n v same to box events sent
    (room ∙ (sym (append-nil v.events)
    ∙ ap (λ (ms : List Mark). v.events ++ ms)
    (sym (none-marks to (frames_again v.node.link to) none))))

-- no frame was made
pub not_made : {P : Type 0} (b : Bool) → b ≡ false → (P → IsTrue b) → P → ⊥
not_made true is h p = absurd cc
not_made false is h p =
    let wrong : IsTrue false = h p in
    absurd cc

-- what holds of a site holds after a pulse
pub pulsed_site : (v : SiteView) → IsSite v → (to : ℕ) (new : SiteView)
    → new ≡ after_pulse_to v to (pulsing v.node to) → IsSite new
unfolding pulsing
pulsed_site v s to new after = record {
  config =
      ap (λ (x : SiteView). x.node.core.memory.coherence.config) after ∙ s.config
      ∙ sym (ap (λ (x : SiteView). x.config) after);
  me = ap (λ (x : SiteView). x.node.core.memory.coherence.me) after ∙ s.me
      ∙ sym (ap (λ (x : SiteView). x.me) after);
  asking = subst (λ (x : SiteView). IsAskingHost x.node.core) (sym after) s.asking;
  fetched = subst (λ (x : SiteView). AreUsed x.node.core) (sym after) s.fetched;
  made = pulse_made-on to v new s.made after;
  held = quiet_holds v new s.held (record {
    held = ap (λ (x : SiteView). x.held) after;
    config = ap (λ (x : SiteView). x.config) after;
    me = ap (λ (x : SiteView). x.node.link.me) after;
    delivered =
        λ j. ap (λ (x : SiteView). (peer_at x.node.link j).delivered) after
        ∙ pulsed-delivered v.node.link to j;
    more = [];
    early = pulse_early to v new s.made after;
  });
}
