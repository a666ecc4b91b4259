use Rattle.std.proofs.Common.{rules, ◌≡◌, ◌/◌, length, Some}
use Rattle.ivy_embedded.specs.declared.embedded.Declined.TheVariants as why
use Rattle.ivy_c.proofs.Told.{block_begun, block_refused}
use Rattle.ivy_c.proofs.begin_block.Goals as goal

pub returns-then-many-eq0-clause-many : goal.returns-then-many-eq0-clause-many
returns-then-many-eq0-clause-many c =
    let at : c.args.handle.now.held ≡ Some c.deref_mut-2.result.now = search rules in
    block_begun c.args.kind c.args.addr (length c.args.bytes.now) _ c.in-Ok.many _ _ at
    c.in-Ok.ensures.many
    (λ free lent. (let wrong = c.in-Ok.ensures.lent free lent in absurd cc))

pub returns-else-many-eq0-clause-many : goal.returns-else-many-eq0-clause-many
returns-else-many-eq0-clause-many c =
    let at : c.args.handle.now.held ≡ Some c.deref_mut-2.result.now = search rules in
    block_begun c.args.kind c.args.addr (length c.args.bytes.now) _ c.in-Ok.many _ _ at
    c.in-Ok.ensures.many
    (λ free lent. (let wrong = c.in-Ok.ensures.lent free lent in absurd cc))

pub returns-in-Err-clause-many : goal.returns-in-Err-clause-many
returns-in-Err-clause-many c =
    let at : c.args.handle.now.held ≡ Some c.deref_mut-2.result.now = search rules in
    block_refused c.in-Err.refusal c.args.kind c.args.addr (length c.args.bytes.now / 8)
    c.refusal_status.result c.args.words.now c.args.bytes.now _ _ at c.refusal_status.ensures
    c.in-Err.ensures.refused
    (λ free lent. (let same = c.in-Err.ensures.lent free lent in cc))
