-- What a site does but for its code's calls keeps these, and adds to what was answered.
use Rattle.std.proofs.Common.{◌≡◌, ℕ, List, [], Ok, refl, ap, ◌∙◌}
use Rattle.ivy_wire.specs.stated.Data.{Frame}
use Rattle.ivy_link.specs.declared.Verdict.{Verdict}
use Rattle.ivy_link.specs.declared.Verdict.TheVariants as verdict
use Rattle.ivy_moves.specs.stated.Nodes.{pulsing}
use Rattle.ivy_program.specs.stated.InstructionSteps.{Process}
use Rattle.ivy_site.specs.declared.turn.Turn.TheVariants.{Moved}
use Rattle.ivy_site.specs.SiteView.{SiteView, after_delivery, after_hearing, after_pulse_to}
use Rattle.ivy_site.specs.Inside.{Holds, Receives}
use Rattle.ivy_site.specs.Sites.{AfterTurn, GoesOnOnce, SiteDelivers, without_ready}
use Rattle.ivy_join.specs.ReplaySites.{program_in, GoesOnBy}
use Rattle.ivy_join.proofs.Answered.{adds-further, adds-none, delivered-untold}
use Rattle.ivy_join.proofs.EventSteps.{delivery-records, turned}
use Rattle.ivy_process.specs.NodeLogs.{KeepsCalls}

pub keeps-same : (s s' : SiteView) → s' ≡ s → KeepsCalls s s'
keeps-same s s' same = record {
  program = ap program_in same;
  answered = adds-none s.node.core.history s'.node.core.history
      (ap (λ (x : SiteView). x.node.core.history) same);
}

pub keeps-further : (a b d : SiteView) → KeepsCalls a b → KeepsCalls b d → KeepsCalls a d
keeps-further a b d x y = record {
  program = y.program ∙ x.program;
  answered = adds-further a.node.core.history b.node.core.history d.node.core.history x.answered y.answered;
}

-- where only what waits may differ
pub keeps-waiting : (s s' : SiteView) → record s' { waiting = [] } ≡ record s { waiting = [] } → KeepsCalls s s'
keeps-waiting s s' same = record {
  program = ap program_in same;
  answered = adds-none s.node.core.history s'.node.core.history
      (ap (λ (x : SiteView). x.node.core.history) same);
}

pub turn-keeps : (s s' : SiteView) → AfterTurn Moved s s' → KeepsCalls s s'
turn-keeps s s' after =
    let on : GoesOnBy [] s s' = turned [] (Ok Moved) s s' after in record {
      program = on.program;
      answered = on.answered;
    }

heard-keeps : (bytes : List ℕ) (v w : Verdict) (s s' : SiteView) (d : SiteDelivers bytes v s s')
    → s' ≡ after_hearing s bytes w d.frame.source d.effect → KeepsCalls s s'
heard-keeps bytes v w s s' d after = record {
  program = ap program_in after
      ∙ ap (λ (p : Process). p.program) (delivered-untold s.config s.node bytes d.effect d.delivered).process;
  answered = delivery-records bytes v w s s' d after;
}

delivery-keeps : (bytes : List ℕ) (v w : Verdict) (s s' : SiteView) → v ≡ w → SiteDelivers bytes v s s'
    → KeepsCalls s s'
delivery-keeps bytes v verdict.NotMine s s' is d =
    keeps-same s s' (d.after ∙ ap (λ x. after_delivery s bytes x d.frame.source d.effect) is)
delivery-keeps bytes v verdict.Next s s' is d =
    heard-keeps bytes v verdict.Next s s' d
    (d.after ∙ ap (λ x. after_delivery s bytes x d.frame.source d.effect) is)
delivery-keeps bytes v verdict.Repeat s s' is d =
    heard-keeps bytes v verdict.Repeat s s' d
    (d.after ∙ ap (λ x. after_delivery s bytes x d.frame.source d.effect) is)
delivery-keeps bytes v verdict.Ahead s s' is d =
    heard-keeps bytes v verdict.Ahead s s' d
    (d.after ∙ ap (λ x. after_delivery s bytes x d.frame.source d.effect) is)

held-keeps : (bytes : List ℕ) (v : Verdict) (f : Frame) (s s' : SiteView) → Holds v f bytes s s'
    → KeepsCalls s s'
held-keeps bytes verdict.NotMine f s s' same = keeps-same s s' same
held-keeps bytes verdict.Next f s s' same = keeps-same s s' same
held-keeps bytes verdict.Repeat f s s' same = keeps-same s s' same
held-keeps bytes verdict.Ahead f s s' same = record {
  program = ap program_in same;
  answered = adds-none s.node.core.history s'.node.core.history
      (ap (λ (x : SiteView). x.node.core.history) same);
}

pub received-keeps : (bytes : List ℕ) (v : Verdict) (source : ℕ) (s s' : SiteView)
    → Receives bytes v source s s' → KeepsCalls s s'
received-keeps bytes v source s s' r =
    keeps-further s r.mid s' (delivery-keeps bytes v v s r.mid refl r.first)
    (held-keeps bytes v r.first.frame r.mid s' r.holds)

pub once-keeps : (source : ℕ) (bytes : List ℕ) (s s' : SiteView) → GoesOnOnce source bytes s s' → KeepsCalls s s'
once-keeps source bytes s s' once =
    let on : KeepsCalls (without_ready s source) s' =
    delivery-keeps bytes verdict.Next verdict.Next (without_ready s source) s' refl once.next in record {
      program = on.program;
      answered = on.answered;
    }

pub pulse-keeps : (to : ℕ) (s s' : SiteView) → s' ≡ after_pulse_to s to (pulsing s.node to) → KeepsCalls s s'
unfolding pulsing
pulse-keeps to s s' after = record {
  program = ap program_in after;
  answered = adds-none s.node.core.history s'.node.core.history
      (ap (λ (x : SiteView). x.node.core.history) after);
}
