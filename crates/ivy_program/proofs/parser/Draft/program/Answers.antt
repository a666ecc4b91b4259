-- One line more is drawn, or loses its jump.
use Rattle.std.proofs.Common.{◌≡◌, ◌∙◌, ◌<◌, ◌≤◌, Some, length, get_or, ap, sym, subst, arith}
use Rattle.std.proofs.lemmas.List.{take_all}
use Rattle.ivy_program.specs.texts.Readings.{HasLost, IsLeastOrNone, LosesIn}
use Rattle.ivy_program.proofs.reading.Drawn.{drawn_found, drawn_lost}
use Rattle.ivy_program.proofs.parser.Draft.program.Goals as goal
use Rattle.ivy_program.proofs.parser.Draft.program.Goals.{in-Some+in_ok-push-in-Some, in-None}

pub loop-line-preserved : goal.loop-line-preserved
loop-line-preserved g c =
    let lines : c.deref-line-items.result.now ≡ c.args.self.now.lines =
    c.deref-line-items.ensures.value ∙ ap (λ p. p.lines) c.self.view_is in
    let l : c.loop-line.line-index < length c.args.self.now.lines =
    subst (λ t. c.loop-line.line-index < length t) lines (omega arith) in
    let e : c.line-item.result
    ≡ get_or c.args.self.now.lines c.loop-line.line-index c.line-item.result =
    c.line-item.is ∙ ap (λ t. get_or t c.loop-line.line-index c.line-item.result) lines in
    elim c.match-resolve.branch [
      | in-Some+in_ok-push-in-Some w ↦
          drawn_found c.args.self.now.lines c.args.self.now.labels c.loop-line.line-index
          c.line-item.result l e
          c.loop-line.instructions.items c.match-resolve.instructions.items c.loop-line.lost
          c.match-resolve.lost c.loop-line.invariant
          w.in-Some.instruction (sym c.resolve.ensures.found ∙ w.in-Some.is) w.in-Some.ensures.named
          w.in-Some.ensures.inside
          (ap (λ v. v.items) w.instructions-is ∙ w.in_ok-push-in-Some.ensures.items) w.lost-is
      | in-None w ↦
          drawn_lost c.args.self.now.lines c.args.self.now.labels c.loop-line.line-index
          c.line-item.result l e
          c.loop-line.instructions.items c.match-resolve.instructions.items c.loop-line.lost
          c.match-resolve.lost c.loop-line.invariant
          (sym c.resolve.ensures.found ∙ w.in-None.is) (ap (λ v. v.items) w.instructions-is)
          (w.lost-is ∙ ap Some w.least.ensures)
    ]

pub returns-in-Some-lost-clause-lost : goal.returns-in-Some-lost-clause-lost
returns-in-Some-lost-clause-lost g c =
    let lines : c.deref-line-items.result.now ≡ c.args.self.now.lines =
    c.deref-line-items.ensures.value ∙ ap (λ p. p.lines) c.self.view_is in
    let end : length c.args.self.now.lines ≤ c.loop-line.line-index =
    subst (λ t. length t ≤ c.loop-line.line-index) lines (omega arith) in
    subst (IsLeastOrNone (HasLost c.args.self.now)) c.in-Some-lost.is
    (subst (λ t. IsLeastOrNone (LosesIn c.args.self.now.labels t) c.loop-line.lost)
    (take_all c.loop-line.line-index c.args.self.now.lines end) c.loop-line.invariant.lost)

pub returns-in-None-lost-clause-whole : goal.returns-in-None-lost-clause-whole
returns-in-None-lost-clause-whole g c =
    let lines : c.deref-line-items.result.now ≡ c.args.self.now.lines =
    c.deref-line-items.ensures.value ∙ ap (λ p. p.lines) c.self.view_is in
    let end : length c.args.self.now.lines ≤ c.loop-line.line-index =
    subst (λ t. length t ≤ c.loop-line.line-index) lines (omega arith) in
    subst (IsLeastOrNone (HasLost c.args.self.now)) c.in-None-lost.is
    (subst (λ t. IsLeastOrNone (LosesIn c.args.self.now.labels t) c.loop-line.lost)
    (take_all c.loop-line.line-index c.args.self.now.lines end) c.loop-line.invariant.lost)
