use Rattle.std.proofs.Common.{◌≡◌, ℕ, ◌+◌, ◌*◌, List, [], ◌∷◌, ◌++◌, length, length-append, refl}
use Rattle.std.proofs.Common.{sym, ap, ◌∙◌, arith}
use Rattle.ivy_calls.specs.declared.answer.Answer.{Answer}
use Rattle.ivy_sync.specs.meeting.Reductions.{finds}
use Rattle.example_programs.proofs.Multiplying.{finds_more}
use Rattle.example_programs.proofs.product.Product.find.Goals as goal

pub loop-at-preserved : goal.loop-at-preserved
loop-at-preserved g c =
    let kept = c.loop-at.invariant in
    let addr : ℕ = c.args.self.now.addr in
    let v : ℕ = c.in_ok-number.number in
    let first : List Answer = g.M.SharedMemory.answers c.args.memory.now in
    let old : List Answer = g.M.SharedMemory.answers c.loop-at.memory in
    let new : List Answer = g.M.SharedMemory.answers c.load.new.memory in
    let items : c.push.new.self.items ≡ c.loop-at.out.items ++ v
    ∷ [] = c.in_ok-push.ensures.items in
    let longer = ap length items in
    let one = length-append c.loop-at.out.items (v ∷ []) in
    let long = kept.long in
    record {
      long = omega (arith, longer, one, long);
      whole =
          finds_more addr c.loop-at.at (addr + 8 * c.loop-at.at) v c.loop-at.out.items first old new
          kept.whole long refl c.in_ok-number.ensures.asks
          ∙ ap (λ (vs : List ℕ). first ++ finds addr 0 vs) (sym items);
    }
