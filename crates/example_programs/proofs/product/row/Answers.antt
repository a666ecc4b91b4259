use Rattle.std.proofs.Common.{◌≡◌, ℕ, [], ◌∷◌, ◌++◌, length, length-append, ap, arith}
use Rattle.example_programs.specs.Matrices.{product_at}
use Rattle.example_programs.proofs.Multiplying.{index_push}
use Rattle.example_programs.proofs.product.row.Goals as goal

pub loop-j-preserved : goal.loop-j-preserved
loop-j-preserved c =
    let kept = c.loop-j.invariant in
    let v : ℕ = c.entry.result in
    let items : c.push.new.self.items ≡ c.loop-j.out.items ++ v ∷ [] = c.in_ok-push.ensures.items in
    let longer = ap length items in
    let one = length-append c.loop-j.out.items (v ∷ []) in
    let long = kept.long in
    record {
      long = omega (arith, longer, one, long);
      each =
          index_push c.loop-j.out.items c.push.new.self.items c.loop-j.j v
          (product_at c.args.size c.args.left.now c.args.right.now c.args.i) long kept.each
          c.entry.ensures items;
    }
