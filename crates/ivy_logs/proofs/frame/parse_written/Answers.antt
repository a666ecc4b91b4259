use Rattle.std.proofs.Common.{rules, ℕ, List, ◌≡◌, ◌+◌, ◌-◌, drop, take, length, length-drop, take_all, arith}
use Rattle.ivy_logs.proofs.Frames.{found, written_frame}
use Rattle.ivy_logs.proofs.frame.parse_written.Goals as goal

pub returns-in-Ok-clause-spelled : goal.returns-in-Ok-clause-spelled
returns-in-Ok-clause-spelled g c =
    let line : List ℕ = c.args.line.now in
    let place = c.in-Some.space in
    let digits : List ℕ = take (length line - (place + 1)) (drop (place + 1) line) in
    let some = length-drop (place + 1) line in
    let same : digits ≡ drop (place + 1) line =
    take_all (length line - (place + 1)) (drop (place + 1) line) (omega (arith, some)) in
    found c.parse_parts.result _ _
    (λ f is. written_frame line c.in-Ok.number.now digits place f.to f.bytes.items
    (omega arith) (search rules) (search rules) same (rw same (omega (arith, some))) is) c.parse_parts.ensures.spelled
