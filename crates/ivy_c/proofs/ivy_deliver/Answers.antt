use Rattle.std.proofs.Common.{rules, ◌≡◌, Some}
use Rattle.ivy_c.proofs.Told.{delivered_far, refused_far, string_delivered}
use Rattle.ivy_c.proofs.ivy_deliver.Goals as goal

pub returns-in-Ok-clause-answers : goal.returns-in-Ok-clause-answers
returns-in-Ok-clause-answers c =
    let at : c.args.handle.now.held ≡ Some c.deref_mut-2.result.now = search rules in
    let to : c.put.new.handle.held ≡ Some c.deliver-delivered.new.self = search rules in
    string_delivered c.args.bytes.now c.verdict_number.result c.in-Ok.verdict _ _ _ _ at to
    c.verdict_number.ensures c.in-Ok.ensures.done
    (λ want is. (let wrong = c.in-Ok.ensures.wanted want is in absurd cc))

pub returns-in-Ok-clause-far : goal.returns-in-Ok-clause-far
returns-in-Ok-clause-far c =
    let at : c.args.handle.now.held ≡ Some c.deref_mut-2.result.now = search rules in
    let to : c.put.new.handle.held ≡ Some c.deliver-delivered.new.self = search rules in
    delivered_far c.args.bytes.now c.verdict_number.result c.in-Ok.verdict _ _ _ _ at to
    c.verdict_number.ensures c.in-Ok.ensures.far

pub returns-in-Err-clause-far : goal.returns-in-Err-clause-far
returns-in-Err-clause-far c =
    refused_far c.args.bytes.now c.refusal_status.result c.args.what.now c.in-Err.refusal _ _
    c.refusal_status.ensures
