use Rattle.std.proofs.Common.{◌≡◌, map, length, slice_get, Some, refl, sym, ap, ◌∙◌, option_map, subst, arith}
use Rattle.std.proofs.lemmas.Option.{slice_get_read, slice_get-map}
use Rattle.ivy_simulation.proofs.Printing.{numbered-more}
use Rattle.ivy_texts.proofs.Printing.{appends-more}
use Rattle.std.specs.Io.KnownBytes.{Appends}
use Rattle.ivynode.specs.Fetched.{fetched_text}
use Rattle.ivynode.proofs.Fetches.{same_line}
use Rattle.ivynode.proofs.fetched.print_fetched.Goals as goal

pub loop-node-preserved : goal.loop-node-preserved
loop-node-preserved g c =
    let logs = c.args.logs.now in
    let node = c.loop-node.node in
    let log = c.index-logs-node.result in
    let there : slice_get logs node ≡ Some log =
    slice_get_read logs (length logs) node log refl (omega (arith, c.loop-node-test.true))
    c.index-logs-node.is in
    rw (numbered-more (fetched_text c.args.config.now) (map (λ x. x.entries.items) logs) node log.entries.items
    (slice_get-map (λ x. x.entries.items) logs node ∙ ap (option_map (λ x. x.entries.items)) there))
    (appends-more _ _ _ _ _ c.loop-node.invariant
    (subst (Appends (g.W.Write.contents c.loop-node.out) (g.W.Write.contents c.print_line.new.out))
    (same_line c.args.config.now node log.entries.items _ _ _
    (c.deref.ensures.value ∙ sym (ap (λ x. x.entries.items) c.index-logs-node.is))
    c.in_ok-counts.ensures.fetched c.in_ok-counts.ensures.used) c.in_ok-print_line.ensures))
