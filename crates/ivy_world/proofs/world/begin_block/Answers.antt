use Rattle.std.proofs.Common.{rules, refl, ◌≡◌, ◌++◌, Some, IfSome, set, slice_get, length, ap, ◌∙◌, arith}
use Rattle.std.proofs.lemmas.Option.{slice_get_read}
use Rattle.ivy_model.specs.declared.Fault.TheVariants as fault
use Rattle.ivy_model.specs.Rows.{calls_of, numbers_in, row}
use Rattle.ivy_site.specs.Calls.{row_together}
use Rattle.ivy_memory.proofs.keeping.Beginning.{err_there}
use Rattle.ivy_world.specs.WorldSites.{IsRefusedRow}
use Rattle.ivy_world.proofs.BatchedWorlds.{place_says, row_refused, row_wants}
use Rattle.ivy_world.proofs.world.begin_block.Goals as goal

pub collect-requires : goal.collect-requires
collect-requires g c =
    let there : slice_get c.args.sites.now.items c.args.node ≡ Some c.index_mut-site.result.now =
    slice_get_read c.args.sites.now.items (length c.args.sites.now.items) c.args.node
    c.index_mut-site.result.now refl (search rules) c.index_mut-site.ensures.value in
    let none = ap length (rw there at c.requires.waits) in
    let few = c.in_ok-begun.ensures.few in
    let room = c.in_ok-reserve.ensures.capacity in
    let len = c.in_ok-reserve.ensures.len in
    let ok = c.in_ok-reserve.ensures.ok in
    record { room = omega (arith, few, none, room, len, ok) }

pub returns-clause-done : goal.returns-clause-done
returns-clause-done g c = record {
  old = c.index_mut-site.result.now;
  there = slice_get_read c.args.sites.now.items (length c.args.sites.now.items) c.args.node
      c.index_mut-site.result.now refl (search rules) c.index_mut-site.ensures.value;
  done = c.call_row.new.self;
  begins = c.in_ok-begun.ensures.done;
  changed = ap (set c.args.sites.now.items c.args.node) c.collect.ensures.site;
  more = c.collect.ensures.sent ∙ ap (λ l. l ++ c.call_row.new.self.waiting) c.reserve.ensures.items;
}

pub returns-in_err-reserve-clause-cause : goal.returns-in_err-reserve-clause-cause
returns-in_err-reserve-clause-cause g c =
    let a = c.args in
    err_there c.from_residual.result
    (λ fault. IfSome (slice_get a.sites.now.items a.node) (λ s. IsRefusedRow (calls_of (row a.kind 0 a.addr
    (numbers_in (row_together s a.kind a.addr a.words (length a.bytes.now)) a.bytes.now))) s fault)) fault.Memory
    (search rules)
    (place_says a.sites.now.items a.node _ (λ s at. row_wants _ s fault.Memory refl))

pub returns-in_err-begun-clause-cause : goal.returns-in_err-begun-clause-cause
returns-in_err-begun-clause-cause g c =
    let a = c.args in
    let there : slice_get a.sites.now.items a.node ≡ Some c.index_mut-site.result.now =
    slice_get_read a.sites.now.items (length a.sites.now.items) a.node
    c.index_mut-site.result.now refl (search rules) c.index_mut-site.ensures.value in
    err_there c.from_residual-in_err-begun.result _ _ c.from_residual-in_err-begun.ensures.1
    (rw there
    (row_refused a.kind a.addr
    (row_together c.index_mut-site.result.now a.kind a.addr a.words (length a.bytes.now)) a.bytes.now
    c.index_mut-site.result.now _ (λ none. absurd (cc (c.in_err-begun.ensures.none none)))
    c.in_err-begun.ensures.want c.in_err-begun.ensures.spent))
