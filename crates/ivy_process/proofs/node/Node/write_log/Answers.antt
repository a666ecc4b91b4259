use Rattle.std.proofs.Common.{◌≡◌, [], refl, sym, ap, subst, ◌∙◌}
use Rattle.std.proofs.lemmas.Bool.Decides.{Decides-eqb}
use Rattle.std.proofs.lemmas.List.{nil_from_length}
use Rattle.std.specs.Io.KnownBytes.{Appends}
use Rattle.std.specs.Prelude.{string_bytes}
use Rattle.std.proofs.KnownBytes.{Appends-nil}
use Rattle.std.proofs.lemmas.Result.{IfOk-from_err}
use Rattle.ivy_process.specs.NodeLogs.{Served}
use Rattle.ivy_process.proofs.Kept.{keeps-same}
use Rattle.ivy_process.proofs.node.Node.write_log.Goals as goal

pub returns-in_err-write_through : goal.returns-in_err-write_through
returns-in_err-write_through g c = IfOk-from_err c.from_residual.result _ c.from_residual.ensures.0

pub returns-then-is_empty : goal.returns-then-is_empty
returns-then-is_empty g c =
    let log = g.L.Write.contents c.args.log.now in
    let none : string_bytes c.self.inside.lines ≡ [] = nil_from_length _ (sym c.self.inside.lines.bytes.ok.0 ∙ (Decides-eqb _ 0).0 (sym c.if-is_empty.ensures)) in
    let whole : c.args.self.now.unlogged ≡ [] = ap (λ (x : Served). x.unlogged) (sym c.self.view_is) ∙ none in record {
      listed = refl;
      written = subst (Appends log log) (sym whole) (Appends-nil log);
      whole = whole;
      left = refl;
      kept = keeps-same c.args.self.now.site c.args.self.now.site refl;
    }

pub returns : goal.returns
returns g c = record {
  listed = ap (λ (x : Served). x.site.events) c.self.view_is;
  written = subst (Appends (g.L.Write.contents c.args.log.now) (g.L.Write.contents c.write_through.new.to))
      (c.as_str.ensures.value ∙ ap (λ (x : Served). x.unlogged) c.self.view_is)
      c.in_ok-write_through.ensures;
  whole = c.clear.ensures.bytes;
  left = ap (λ (x : Served). x.left) c.self.view_is;
  kept = keeps-same c.args.self.now.site c.self.inside.site (ap (λ (x : Served). x.site) c.self.view_is);
}
