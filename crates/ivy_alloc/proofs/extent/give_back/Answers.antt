use Rattle.std.proofs.Common.{refl}
use Rattle.std.proofs.lemmas.Bool.{false≢true}
use Rattle.ivy_alloc.proofs.Given.{placed, given_apart, given_left, given_right, given_both}
use Rattle.ivy_alloc.proofs.extent.give_back.Goals as goal

pub returns-in-true-true-clause-given : goal.returns-in-true-true-clause-given
returns-in-true-true-clause-given g c =
    let es = c.args.extents.now.items in
    let e = c.args.given in
    let i = c.place_of-place.result in
    let s = c.requires.sound in
    let at = rw c.deref.ensures.value at c.place_of-place.ensures in
    let p = placed es e i s c.requires.given c.requires.taken at.within at.before at.after in
    let below = rw c.deref-2.ensures.value at (c.in-true-true.ensures.0 refl) in
    let above = rw c.deref-3.ensures.value at (c.in-true-true.ensures'.0 refl) in
    rw c.remove-after.ensures.items
    (given_both es e i c.index_mut.result.now c.remove-after.result s c.requires.given p
    (rw c.remove-after.ensures.items at c.index_mut.ensures.value) c.remove-after.ensures.value
    below above)

pub returns-in-true-false-clause-given : goal.returns-in-true-false-clause-given
returns-in-true-false-clause-given g c =
    let es = c.args.extents.now.items in
    let e = c.args.given in
    let i = c.place_of-place.result in
    let s = c.requires.sound in
    let at = rw c.deref.ensures.value at c.place_of-place.ensures in
    let p = placed es e i s c.requires.given c.requires.taken at.within at.before at.after in
    let below = rw c.deref-2.ensures.value at (c.in-true-false.ensures.0 refl) in
    let above = rw c.deref-3.ensures.value at c.in-true-false.ensures'.1 in
    given_left es e i c.index_mut-in-true-false.result.now s c.requires.given p
    c.index_mut-in-true-false.ensures.value below (λ h. false≢true (above h))

pub returns-in-false-true-clause-given : goal.returns-in-false-true-clause-given
returns-in-false-true-clause-given g c =
    let es = c.args.extents.now.items in
    let e = c.args.given in
    let i = c.place_of-place.result in
    let s = c.requires.sound in
    let at = rw c.deref.ensures.value at c.place_of-place.ensures in
    let p = placed es e i s c.requires.given c.requires.taken at.within at.before at.after in
    let below = rw c.deref-2.ensures.value at c.in-false-true.ensures.1 in
    let above = rw c.deref-3.ensures.value at (c.in-false-true.ensures'.0 refl) in
    given_right es e i c.index.result.now s c.requires.given p c.index.ensures
    (λ h. false≢true (below h)) above

pub returns-in-Ok-clause-given : goal.returns-in-Ok-clause-given
returns-in-Ok-clause-given g c =
    let es = c.args.extents.now.items in
    let e = c.args.given in
    let i = c.place_of-place.result in
    let s = c.requires.sound in
    let at = rw c.deref.ensures.value at c.place_of-place.ensures in
    let p = placed es e i s c.requires.given c.requires.taken at.within at.before at.after in
    let below = rw c.deref-2.ensures.value at c.in-false-false.ensures.1 in
    let above = rw c.deref-3.ensures.value at c.in-false-false.ensures'.1 in
    rw c.in-Ok.ensures.items
    (given_apart es e i s c.requires.given p (λ h. false≢true (below h))
    (λ h. false≢true (above h)))
