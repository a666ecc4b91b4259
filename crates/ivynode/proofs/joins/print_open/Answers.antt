use Rattle.std.proofs.Common.{◌≡◌, ◌<◌, map, length, slice_get, Some, refl, subst, arith}
use Rattle.std.specs.Io.KnownBytes.{Appends}
use Rattle.std.proofs.lemmas.Option.{slice_get_read}
use Rattle.ivy_texts.proofs.Printing.{appends-more}
use Rattle.ivynode.proofs.Opened.{open-all, open-next}
use Rattle.ivynode.proofs.joins.print_open.Goals as goal

pub loop-node-preserved : goal.loop-node-preserved
loop-node-preserved g c =
    let node = c.loop-node.node in
    let within : c.loop-node.node < length c.args.joined.now =
    omega (arith, c.loop-node-test.true, c.nodes-node-end.ensures) in
    let there : slice_get c.args.logs.now c.loop-node.node ≡ Some c.index-logs-node.result =
    slice_get_read c.args.logs.now (length c.args.logs.now) node c.index-logs-node.result refl
    (omega (arith, within, c.requires)) c.index-logs-node.is in
    rw (open-next (λ l. l.entries.items) c.args.logs.now c.args.joined.now node c.index-logs-node.result
    c.has_all-is_whole.result within there c.has_all-is_whole.ensures)
    (appends-more _ _ _ _ _ c.loop-node.invariant c.in_ok-print_if_open.ensures)

pub returns : goal.returns
returns g c =
    subst (Appends (g.W.Write.contents c.args.out.now) (g.W.Write.contents c.loop-node.out))
    (open-all (map (λ l. l.entries.items) c.args.logs.now) c.args.joined.now c.loop-node.node
    (omega (arith, c.loop-node-test.false, c.nodes-node-end.ensures)))
    c.loop-node.invariant
