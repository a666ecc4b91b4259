-- What one call of a site adds to its list of events.
use Rattle.std.proofs.Common.{◌≡◌, ◌≢◌, ℕ, ◌+◌, ◌<◌, List, [], ◌∷◌, ◌++◌, Contains, refl, sym, ap, subst, ◌∙◌, append-nil, append_assoc}
use Rattle.std.specs.Prelude.{MatchResult, Result, Ok, Err, IsTrue, Bool, true, false, ◌↔◌}
use Rattle.ivy_model.specs.declared.Config.{Config}
use Rattle.ivy_model.specs.declared.Fault.{Fault}
use Rattle.ivy_model.specs.stated.Config.{IsConfig}
use Rattle.ivy_wire.specs.stated.Data.{Frame}
use Rattle.ivy_link.specs.declared.Verdict.{Verdict}
use Rattle.ivy_link.specs.declared.Verdict.TheVariants as verdict
use Rattle.ivy_moves.specs.Marks.{Mark, Turn, Delivery, Pulse, turns}
use Rattle.ivy_moves.specs.stated.Nodes.{pulsing}
use Rattle.ivy_moves.specs.Parts.{AllCanBeMade, pulse_marks}
use Rattle.ivy_moves.proofs.Splitting.{can-append}
use Rattle.ivy_host.specs.stated.Hosts.{Host}
use Rattle.ivy_host.specs.stated.Managers.{Managed}
use Rattle.ivy_site.specs.declared.turn.Turn as turn
use Rattle.ivy_site.specs.declared.turn.Turn.TheVariants.{Idle, Moved, Ended}
use Rattle.ivy_site.specs.SiteView.{SiteView, after_hearing, after_delivery, after_pulse_to}
use Rattle.ivy_site.specs.Inside.{Receives, Holds}
use Rattle.ivy_site.specs.Sites.{AfterTurn, SiteDelivers}
use Rattle.ivy_host.proofs.Programs.{turned-program, posting-core, delivered-program}
use Rattle.ivy_logs.proofs.Entries.{turns-more}
use Rattle.ivy_join.specs.ReplaySites.{program_in, AddsRecords, GoesOnBy}
use Rattle.ivy_join.proofs.Answered.{adds-further, adds-none, delivered-untold, turned-records}

-- what was answered then

pub same-records : (s s' : SiteView) → s' ≡ s → AddsRecords s.node.core.history s'.node.core.history
same-records s s' same =
    adds-none s.node.core.history s'.node.core.history (ap (λ (x : SiteView). x.node.core.history) same)

pub turn-records : (s s' : SiteView) → AfterTurn Moved s s'
    → AddsRecords s.node.core.history s'.node.core.history
turn-records s s' after =
    subst (AddsRecords s.node.core.history)
    (sym (ap (λ (x : SiteView). x.node.core.history) after.after
    ∙ ap (λ (k : Host Managed). k.history)
    (posting-core s.node after.outcome.after after.outcome.posted after.effect after.sent)))
    (turned-records s.node.core after.outcome after.turn)

pub delivery-records : (bytes : List ℕ) (v w : Verdict) (s s' : SiteView) (d : SiteDelivers bytes v s s')
    → s' ≡ after_hearing s bytes w d.frame.source d.effect
    → AddsRecords s.node.core.history s'.node.core.history
delivery-records bytes v w s s' d after =
    adds-none s.node.core.history s'.node.core.history
    (ap (λ (x : SiteView). x.node.core.history) after
    ∙ (delivered-untold s.config s.node bytes d.effect d.delivered).history)

module _ (sent : List (List ℕ)) where
  pub stays : (s s' : SiteView) → s' ≡ s → GoesOnBy sent s s'
  stays s s' same = record {
    me = ap (λ (x : SiteView). x.me) same;
    config = ap (λ (x : SiteView). x.config) same;
    program = ap program_in same;
    keep = ap (λ (x : SiteView). x.keep) same;
    opened = ap (λ (x : SiteView). x.opened) same;
    answered = same-records s s' same;
    more = [];
    events = ap (λ (x : SiteView). x.events) same ∙ sym (append-nil s.events);
    can = tt;
  }

  -- first these events, then those
  pub goes_further : (a b d : SiteView) → GoesOnBy sent a b → GoesOnBy sent b d → GoesOnBy sent a d
  goes_further a b d x y = record {
    me = y.me ∙ x.me;
    config = y.config ∙ x.config;
    program = y.program ∙ x.program;
    keep = y.keep ∙ x.keep;
    opened = y.opened ∙ x.opened;
    answered = adds-further a.node.core.history b.node.core.history d.node.core.history x.answered y.answered;
    more = x.more ++ y.more;
    events = y.events ∙ ap (λ l. l ++ y.more) x.events ∙ append_assoc a.events x.more y.more;
    can = can-append sent a.config.nodes a.me x.more y.more x.can
        (subst (λ i. AllCanBeMade sent a.config.nodes i y.more) x.me
        (subst (λ (k : Config). AllCanBeMade sent k.nodes b.me y.more) x.config y.can));
  }

  -- what was delivered to the site then is among the strings too
  pub took-further : (s s' : SiteView) → AllCanBeMade sent s.config.nodes s.me s.events
      → GoesOnBy sent s s' → AllCanBeMade sent s'.config.nodes s'.me s'.events
  took-further s s' before on =
      subst (λ (k : Config). AllCanBeMade sent k.nodes s'.me s'.events) (sym on.config)
      (subst (λ i. AllCanBeMade sent s.config.nodes i s'.events) (sym on.me)
      (subst (AllCanBeMade sent s.config.nodes s.me) (sym on.events)
      (can-append sent s.config.nodes s.me s.events on.more before on.can)))

  -- a turn
  pub turn-goes : (t : turn.Turn) (s s' : SiteView) → AfterTurn t s s' → GoesOnBy sent s s'
  turn-goes Idle s s' after = stays s s' after.1
  turn-goes Ended s s' after = stays s s' after.2
  turn-goes Moved s s' after = record {
    me = ap (λ (x : SiteView). x.me) after.after;
    config = ap (λ (x : SiteView). x.config) after.after;
    program = ap program_in after.after
        ∙ ap (λ (k : Host Managed). k.process.program)
        (posting-core s.node after.outcome.after after.outcome.posted after.effect after.sent)
        ∙ turned-program s.node.core after.outcome after.turn;
    keep = ap (λ (x : SiteView). x.keep) after.after;
    opened = ap (λ (x : SiteView). x.opened) after.after;
    answered = turn-records s s' after;
    more = Turn ∷ [];
    events = ap (λ (x : SiteView). x.events) after.after;
    can = (tt, tt);
  }

  -- a delivery of one of the strings
  listed : (bytes : List ℕ) (v w : Verdict) (s s' : SiteView) → IsConfig s.config
      → Contains sent bytes → (d : SiteDelivers bytes v s s')
      → s' ≡ after_hearing s bytes w d.frame.source d.effect → GoesOnBy sent s s'
  listed bytes v w s s' limits there d after = record {
    me = ap (λ (x : SiteView). x.me) after;
    config = ap (λ (x : SiteView). x.config) after;
    program = ap program_in after
        ∙ delivered-program s.config limits s.node d.frame bytes d.effect d.spelled d.delivered;
    keep = ap (λ (x : SiteView). x.keep) after;
    opened = ap (λ (x : SiteView). x.opened) after;
    answered = delivery-records bytes v w s s' d after;
    more = Delivery bytes ∷ [];
    events = ap (λ (x : SiteView). x.events) after;
    can = (there, tt);
  }

  delivery-goes : (bytes : List ℕ) (v w : Verdict) (s s' : SiteView) → v ≡ w → IsConfig s.config
      → Contains sent bytes → (d : SiteDelivers bytes v s s') → GoesOnBy sent s s'
  delivery-goes bytes v verdict.NotMine s s' is limits there d =
      stays s s' (d.after ∙ ap (λ x. after_delivery s bytes x d.frame.source d.effect) is)
  delivery-goes bytes v verdict.Next s s' is limits there d =
      listed bytes v verdict.Next s s' limits there d
      (d.after ∙ ap (λ x. after_delivery s bytes x d.frame.source d.effect) is)
  delivery-goes bytes v verdict.Repeat s s' is limits there d =
      listed bytes v verdict.Repeat s s' limits there d
      (d.after ∙ ap (λ x. after_delivery s bytes x d.frame.source d.effect) is)
  delivery-goes bytes v verdict.Ahead s s' is limits there d =
      listed bytes v verdict.Ahead s s' limits there d
      (d.after ∙ ap (λ x. after_delivery s bytes x d.frame.source d.effect) is)

  -- a string that came too early is held, which is no event
  holds-go : (bytes : List ℕ) (v : Verdict) (f : Frame) (s s' : SiteView) → Holds v f bytes s s'
      → GoesOnBy sent s s'
  holds-go bytes verdict.NotMine f s s' same = stays s s' same
  holds-go bytes verdict.Next f s s' same = stays s s' same
  holds-go bytes verdict.Repeat f s s' same = stays s s' same
  holds-go bytes verdict.Ahead f s s' same = record {
    me = ap (λ (x : SiteView). x.me) same;
    config = ap (λ (x : SiteView). x.config) same;
    program = ap program_in same;
    keep = ap (λ (x : SiteView). x.keep) same;
    opened = ap (λ (x : SiteView). x.opened) same;
    answered = adds-none s.node.core.history s'.node.core.history
        (ap (λ (x : SiteView). x.node.core.history) same);
    more = [];
    events = ap (λ (x : SiteView). x.events) same ∙ sym (append-nil s.events);
    can = tt;
  }

  -- as the calls of a site answer
  pub turned : (r : Result turn.Turn Fault) (s s' : SiteView)
      → MatchResult r (λ t. AfterTurn t s s') (λ _. s' ≡ s) → GoesOnBy sent s s'
  turned (Ok t) s s' after = turn-goes t s s' after
  turned (Err fault) s s' same = stays s s' same

  pub delivered : (r : Result (Verdict × ℕ) Fault) (bytes : List ℕ) (s s' : SiteView)
      → MatchResult r (λ d. Receives bytes d.0 d.1 s s') (λ _. s' ≡ s) → IsConfig s.config
      → Contains sent bytes → GoesOnBy sent s s'
  delivered (Ok d) bytes s s' after limits there =
      goes_further s after.mid s' (delivery-goes bytes d.0 d.0 s after.mid refl limits there after.first)
      (holds-go bytes d.0 after.first.frame after.mid s' after.holds)
  delivered (Err fault) bytes s s' same limits there = stays s s' same

  pulse_can : (to me nodes : ℕ) (strings : List (List ℕ)) → to < nodes → me ≢ to
      → AllCanBeMade sent nodes me (pulse_marks to strings)
  pulse_can to me nodes [] below apart = tt
  pulse_can to me nodes (x ∷ xs) below apart = ((below, apart), tt)

  pulse-goes : (to : ℕ) (s s' : SiteView) → to < s.config.nodes → to ≢ s.me
      → s' ≡ after_pulse_to s to (pulsing s.node to) → GoesOnBy sent s s'
  unfolding pulsing
  pulse-goes to s s' below apart after = record {
    me = ap (λ (x : SiteView). x.me) after;
    config = ap (λ (x : SiteView). x.config) after;
    program = ap program_in after;
    keep = ap (λ (x : SiteView). x.keep) after;
    opened = ap (λ (x : SiteView). x.opened) after;
    answered = adds-none s.node.core.history s'.node.core.history
        (ap (λ (x : SiteView). x.node.core.history) after);
    more = pulse_marks to (pulsing s.node to).sent;
    events = ap (λ (x : SiteView). x.events) after;
    can = pulse_can to s.me s.config.nodes (pulsing s.node to).sent below
        (λ same. apart (sym same));
  }

  pub pulsed : (r : Result (Unit {0}) Fault) (to : ℕ) (s s' : SiteView)
      → MatchResult r (λ _. s' ≡ after_pulse_to s to (pulsing s.node to)) (λ _. s' ≡ s)
      → to < s.config.nodes → to ≢ s.me → GoesOnBy sent s s'
  pulsed (Ok done) to s s' after below apart = pulse-goes to s s' below apart after
  pulsed (Err fault) to s s' same below apart = stays s s' same

-- what was listed

pub turn-listed : (s s' : SiteView) → AfterTurn Moved s s' → s'.events ≡ s.events ++ Turn ∷ []
turn-listed s s' after = ap (λ (x : SiteView). x.events) after.after

delivery-listed : (bytes : List ℕ) (v w : Verdict) (s s' : SiteView) → v ≡ w → w ≢ verdict.NotMine
    → SiteDelivers bytes v s s' → s'.events ≡ s.events ++ Delivery bytes ∷ []
delivery-listed bytes v verdict.NotMine s s' is mine d = absurd (mine refl)
delivery-listed bytes v verdict.Next s s' is mine d =
    ap (λ (x : SiteView). x.events)
    (d.after ∙ ap (λ x. after_delivery s bytes x d.frame.source d.effect) is)
delivery-listed bytes v verdict.Repeat s s' is mine d =
    ap (λ (x : SiteView). x.events)
    (d.after ∙ ap (λ x. after_delivery s bytes x d.frame.source d.effect) is)
delivery-listed bytes v verdict.Ahead s s' is mine d =
    ap (λ (x : SiteView). x.events)
    (d.after ∙ ap (λ x. after_delivery s bytes x d.frame.source d.effect) is)

holds-listed : (bytes : List ℕ) (v : Verdict) (f : Frame) (s s' : SiteView) → Holds v f bytes s s'
    → s'.events ≡ s.events
holds-listed bytes verdict.NotMine f s s' same = ap (λ (x : SiteView). x.events) same
holds-listed bytes verdict.Next f s s' same = ap (λ (x : SiteView). x.events) same
holds-listed bytes verdict.Repeat f s s' same = ap (λ (x : SiteView). x.events) same
holds-listed bytes verdict.Ahead f s s' same = ap (λ (x : SiteView). x.events) same

pub received-listed : (bytes : List ℕ) (v : Verdict) (source : ℕ) (s s' : SiteView)
    → Receives bytes v source s s' → v ≢ verdict.NotMine → s'.events ≡ s.events ++ Delivery bytes ∷ []
received-listed bytes v source s s' r mine =
    holds-listed bytes v r.first.frame r.mid s' r.holds
    ∙ delivery-listed bytes v v s r.mid refl mine r.first

-- a pulse that sent something, where nothing waited before
pulse-listed : (to : ℕ) (sent : List (List ℕ)) → sent ≢ [] → pulse_marks to sent ≡ Pulse to ∷ []
pulse-listed to [] some = absurd (some refl)
pulse-listed to (x ∷ xs) some = refl

pub pulsed-listed : (to : ℕ) (s s' : SiteView) → s' ≡ after_pulse_to s to (pulsing s.node to)
    → s.waiting ≡ [] → s'.waiting ≢ [] → s'.events ≡ s.events ++ Pulse to ∷ []
pulsed-listed to s s' after none some =
    ap (λ (x : SiteView). x.events) after
    ∙ ap (λ l. s.events ++ l)
    (pulse-listed to (pulsing s.node to).sent
    (λ empty. some (ap (λ (x : SiteView). x.waiting) after
    ∙ ap (λ l. l ++ (pulsing s.node to).sent) none ∙ empty)))

-- one turn more
pub one_more : (before : List Mark) (n : ℕ) (s s' : SiteView) → s.events ≡ before ++ turns n
    → AfterTurn Moved s s' → s'.events ≡ before ++ turns (n + 1)
one_more before n s s' listed after =
    turn-listed s s' after ∙ ap (λ l. l ++ Turn ∷ []) listed
    ∙ append_assoc before (turns n) (Turn ∷ []) ∙ ap (λ l. before ++ l) (sym (turns-more n 1))

-- what a site says of whether a string waits
pub none_waits : (strings : List (List ℕ)) (waits : Bool) → (IsTrue waits ↔ (strings ≢ []))
    → waits ≡ false → strings ≡ []
none_waits [] waits says off = refl
none_waits (x ∷ xs) waits says off =
    let on : waits ≡ true = says.1 (λ none. (cc)) in absurd (cc)

-- strings that wait are taken out
pub emptied : (sent : List (List ℕ)) (s s' : SiteView)
    → record s' { waiting = [] } ≡ record s { waiting = [] } → GoesOnBy sent s s'
emptied sent s s' same = record {
  me = ap (λ (x : SiteView). x.me) same;
  config = ap (λ (x : SiteView). x.config) same;
  program = ap program_in same;
  keep = ap (λ (x : SiteView). x.keep) same;
  opened = ap (λ (x : SiteView). x.opened) same;
  answered = adds-none s.node.core.history s'.node.core.history
      (ap (λ (x : SiteView). x.node.core.history) same);
  more = [];
  events = ap (λ (x : SiteView). x.events) same ∙ sym (append-nil s.events);
  can = tt;
}
