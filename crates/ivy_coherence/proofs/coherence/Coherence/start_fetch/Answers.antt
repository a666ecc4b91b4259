use Rattle.std.proofs.Common.{◌≡◌, false, length, sym, subst, arith}
use Rattle.std.proofs.lemmas.Bool.{eqb-false}
use Rattle.ivy_pagetable.specs.stated.Accesses.{suffices}
use Rattle.ivy_coherence.specs.stated.Coherent.{Coherent}
use Rattle.ivy_coherence.specs.PageFaults.{IsFetchable}
use Rattle.ivy_coherence.proofs.keeping.Opened.{room_more}
use Rattle.ivy_coherence.proofs.keeping.OpenedFetches.{fetch_sound}
use Rattle.ivy_coherence.proofs.coherence.Coherence.start_fetch.Goals as goal

pub fault-requires-clause-short : goal.fault-requires-clause-short
fault-requires-clause-short g c = rw c.of_fetch-word.ensures.word c.requires.may.short

pub set_entry-requires-clause-room : goal.set_entry-requires-clause-room
set_entry-requires-clause-room g c = λ locked.
    room_more _ _ c.self.view_is c.self.invariant.0 c.args.page c.requires.may.room

pub push-requires : goal.push-requires
push-requires g c =
    let may = subst (λ (x : Coherent _). IsFetchable x c.args.page c.args.write c.args.idle)
    (sym c.self.view_is) c.requires.may in
    let few = c.self.invariant.0.few in
    let other = eqb-false (length c.self.inside.fetched.items) 7 may.room in
    omega (arith, few, other)

pub invariant_of-self : goal.invariant_of-self
invariant_of-self g c =
    let may = subst (λ (x : Coherent _). IsFetchable x c.args.page c.args.write c.args.idle)
    (sym c.self.view_is) c.requires.may in
    let short : suffices c.args.idle.access c.of_fetch-word.result ≡ false =
    rw c.of_fetch-word.ensures.word may.short in (
      fetch_sound g.met.M.Manager.laws _ _ c.self.view_is c.self.invariant.0 c.args.page c.args.write
          c.args.call c.of_fetch-word.result c.args.idle _ _ _ c.requires.page c.requires.call
          c.ranges.call.fits may.is may.room c.of_fetch-word.ensures.word short
          c.in_ok-entry.ensures.entry c.set_entry.ensures c.push.ensures.items,
      c.self.invariant.1,
      c.self.invariant.2,
    )
