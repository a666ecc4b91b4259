use Rattle.std.proofs.Common.{◌≡◌, ◌∙◌, sym, ap, length, List, ℕ, arith}
use Rattle.std.specs.Vec.{with_items}
use Rattle.std.proofs.lemmas.List.{with_items_is}
use Rattle.ivy_memory.specs.BatchedCalls.{CallsAlong, calls_left}
use Rattle.ivy_memory.proofs.batches.CallsLeft.{left_now}
use Rattle.ivy_memory.proofs.rest.Rest.set.Goals as goal

pub returns : goal.returns
returns g c =
    let items : (with_items c.self.inside.bytes c.put.new.into).items ≡ c.put.new.into =
    with_items_is c.self.inside.bytes c.put.new.into
    (omega (arith, c.put.ensures.sized, c.deref_mut.ensures.len)) in
    ap (λ (b : List ℕ). calls_left c.args.kind c.args.addr c.args.words 0 b) items
    ∙ left_now c.args.kind c.args.addr c.args.words c.args.self.now.size
    c.deref_mut.result.now c.put.new.into c.args.bytes.now
    (sym (ap (λ (r : CallsAlong). r.size) c.self.view_is) ∙ sym (ap length c.deref_mut.ensures.value))
    c.put.ensures.sized c.put.ensures.bytes
