-- Each place that a name has is inside.
use Rattle.std.proofs.Common.{◌≡◌, ◌≤◌, IfSome, length, ap, sym, subst, rules}
use Rattle.std.proofs.lemmas.Map.Entries.{All-lookup}
use Rattle.ivy_program.specs.texts.Names.{same_name}
use Rattle.ivy_program.specs.texts.ProgramParts.{Part, label_place}
use Rattle.ivy_program.proofs.parser.Draft.place_of.Goals as goal

pub returns-clause-inside : goal.returns-clause-inside
returns-clause-inside g c =
    let s = c.self.inside in
    let e : c.copied.result ≡ label_place s.labels.entries c.args.name = search rules in
    let n : length s.lines.items ≡ length c.args.self.now.lines =
    ap (λ (p : Part). length p.lines) c.self.view_is in
    subst (λ m. IfSome c.copied.result (λ place. place ≤ m)) n
    (subst (λ o. IfSome o (λ place. place ≤ length s.lines.items)) (sym e)
    (All-lookup (λ place. place ≤ length s.lines.items) (same_name c.args.name) s.labels.entries
    c.self.invariant.inside))
