use Rattle.std.proofs.Common.{arith, ◌≡◌, sym}
use Rattle.std.specs.Prelude.{string_bytes}
use Rattle.ivy_moves.specs.declared.event.Event.TheVariants.{Turns}
use Rattle.std.proofs.lemmas.Result.{IfOk-from_err}
use Rattle.ivy_process.specs.NodeLogs.{served}
use Rattle.ivy_process.proofs.Logged.{noted-one}
use Rattle.ivy_process.proofs.node.Node.make_watched_turns.Goals as goal

pub returns-in_ok-note : goal.returns-in_ok-note
returns-in_ok-note g c =
    let was : c.args.self.now ≡ served c.self.inside.site (string_bytes c.self.inside.lines) c.self.inside.left c.self.inside.printed = sym c.self.view_is in
    noted-one (Turns c.in_ok-made.made) c.args.self.now c.note.new.self c.self.inside.site
    c.make_turns.new.site (string_bytes c.self.inside.lines) c.self.inside.left _ c.self.inside.printed was
    c.in_ok-made.ensures.made c.in_ok-note.ensures (omega (arith, c.in_ok-made.ensures.most)) c.in_ok-made.ensures.kept

pub returns-in_err-made : goal.returns-in_err-made
returns-in_err-made g c = IfOk-from_err c.from_residual.result _ c.from_residual.ensures.0

pub returns-in_err-note : goal.returns-in_err-note
returns-in_err-note g c = IfOk-from_err c.from_residual-in_err-note.result _ c.from_residual-in_err-note.ensures.0
