use Rattle.std.proofs.Common.{◌≡◌, List, subst}
use Rattle.ivy_wire.specs.stated.Data.{Parcel}
use Rattle.ivy_wire.specs.Posts.{HasRefused}
use Rattle.ivy_coherence.specs.Outcomes.{IsWantOfPage}
use Rattle.ivy_memory.specs.Asking.{MakesPages}
use Rattle.ivy_memory.specs.stated.Memories.{NodeMemory}
use Rattle.ivy_memory.proofs.keeping.Beginning.{err_refuses}
use Rattle.ivy_memory.proofs.batches.RowBegins.{IsRowBegun, row_few, row_awaited, row_posts, row_asks, row_after, row_memory}
use Rattle.ivy_memory.proofs.memory.Memory.begin_row.Goals as goal

pub returns-in_err-need_row-clause-few : goal.returns-in_err-need_row-clause-few
returns-in_err-need_row-clause-few g c =
    let at : IsRowBegun g.M.Manager.ops c.args.self.now _ c.args.kind c.args.addr c.args.words
    c.args.number c.config.result c.in-Some.at =
    record {
      same = c.self.view_is;
      sound = c.self.invariant.0;
      config = c.config.ensures;
      there = c.in-Some.ensures.at;
      waits = c.requires.waits;
      some = c.requires.some;
      within = c.requires.within;
      least = c.requires.number;
      most = c.requires.numbers;
    } in
    row_few g.met.M.Manager.laws _ _ _ _ _ _ c.args.bytes.now _ _ at

pub returns-in_err-need_row-clause-waits : goal.returns-in_err-need_row-clause-waits
returns-in_err-need_row-clause-waits g c =
    let at : IsRowBegun g.M.Manager.ops c.args.self.now _ c.args.kind c.args.addr c.args.words
    c.args.number c.config.result c.in-Some.at =
    record {
      same = c.self.view_is;
      sound = c.self.invariant.0;
      config = c.config.ensures;
      there = c.in-Some.ensures.at;
      waits = c.requires.waits;
      some = c.requires.some;
      within = c.requires.within;
      least = c.requires.number;
      most = c.requires.numbers;
    } in
    row_awaited g.met.M.Manager.laws _ _ _ _ _ _ c.args.bytes.now _ _ at

pub returns-clause-few : goal.returns-clause-few
returns-clause-few g c =
    let at : IsRowBegun g.M.Manager.ops c.args.self.now _ c.args.kind c.args.addr c.args.words
    c.args.number c.config.result c.in-Some.at =
    record {
      same = c.self.view_is;
      sound = c.self.invariant.0;
      config = c.config.ensures;
      there = c.in-Some.ensures.at;
      waits = c.requires.waits;
      some = c.requires.some;
      within = c.requires.within;
      least = c.requires.number;
      most = c.requires.numbers;
    } in
    row_few g.met.M.Manager.laws _ _ _ _ _ _ c.args.bytes.now _ _ at

pub returns-clause-waits : goal.returns-clause-waits
returns-clause-waits g c =
    let at : IsRowBegun g.M.Manager.ops c.args.self.now _ c.args.kind c.args.addr c.args.words
    c.args.number c.config.result c.in-Some.at =
    record {
      same = c.self.view_is;
      sound = c.self.invariant.0;
      config = c.config.ensures;
      there = c.in-Some.ensures.at;
      waits = c.requires.waits;
      some = c.requires.some;
      within = c.requires.within;
      least = c.requires.number;
      most = c.requires.numbers;
    } in
    row_awaited g.met.M.Manager.laws _ _ _ _ _ _ c.args.bytes.now _ _ at

pub returns-in_err-need_row-clause-fault : goal.returns-in_err-need_row-clause-fault
returns-in_err-need_row-clause-fault g c =
    let at : IsRowBegun g.M.Manager.ops c.args.self.now _ c.args.kind c.args.addr c.args.words
    c.args.number c.config.result c.in-Some.at =
    record {
      same = c.self.view_is;
      sound = c.self.invariant.0;
      config = c.config.ensures;
      there = c.in-Some.ensures.at;
      waits = c.requires.waits;
      some = c.requires.some;
      within = c.requires.within;
      least = c.requires.number;
      most = c.requires.numbers;
    } in
    err_refuses c.from_residual.result
    (λ f. IsWantOfPage c.self.inside.coherence f × (c.need_row.new.post ≡ c.args.post.now)) _
    (HasRefused g.P.Post.ops c.args.post.now c.need_row.new.post) _ _ _
    (row_posts g.met.M.Manager.laws _ _ _ _ _ _ c.args.bytes.now _ _ at)
    c.from_residual.ensures.1
    (λ lacks. (
      (
        subst (λ (m : NodeMemory _). MakesPages m.coherence) c.self.view_is lacks.0.0,
        lacks.0.1,
      ),
      lacks.1,
    ))
    c.in_err-need_row.ensures.fault

pub returns-in_err-need_row-clause-sure : goal.returns-in_err-need_row-clause-sure
returns-in_err-need_row-clause-sure g c =
    let at : IsRowBegun g.M.Manager.ops c.args.self.now _ c.args.kind c.args.addr c.args.words
    c.args.number c.config.result c.in-Some.at =
    record {
      same = c.self.view_is;
      sound = c.self.invariant.0;
      config = c.config.ensures;
      there = c.in-Some.ensures.at;
      waits = c.requires.waits;
      some = c.requires.some;
      within = c.requires.within;
      least = c.requires.number;
      most = c.requires.numbers;
    } in
    row_asks g.met.M.Manager.laws _ _ _ _ _ _ c.args.bytes.now _ _ at c.from_residual.result
    c.in_err-need_row.ensures.idle

pub invariant_of-self-2 : goal.invariant_of-self-2
invariant_of-self-2 g c =
    let at : IsRowBegun g.M.Manager.ops c.args.self.now _ c.args.kind c.args.addr c.args.words
    c.args.number c.config.result c.in-Some.at =
    record {
      same = c.self.view_is;
      sound = c.self.invariant.0;
      config = c.config.ensures;
      there = c.in-Some.ensures.at;
      waits = c.requires.waits;
      some = c.requires.some;
      within = c.requires.within;
      least = c.requires.number;
      most = c.requires.numbers;
    } in
    row_memory g.met.M.Manager.laws _ _ _ _ _ _ c.args.bytes.now _ _ at
    c.need_row.new.self c.first_call.result c.set.new.self _ c.in_ok-need_row.ensures.ok
    c.first_call.ensures c.set.ensures c.requires.many c.self.invariant.1

pub returns-clause-ok : goal.returns-clause-ok
returns-clause-ok g c =
    let at : IsRowBegun g.M.Manager.ops c.args.self.now _ c.args.kind c.args.addr c.args.words
    c.args.number c.config.result c.in-Some.at =
    record {
      same = c.self.view_is;
      sound = c.self.invariant.0;
      config = c.config.ensures;
      there = c.in-Some.ensures.at;
      waits = c.requires.waits;
      some = c.requires.some;
      within = c.requires.within;
      least = c.requires.number;
      most = c.requires.numbers;
    } in
    row_after g.met.M.Manager.laws _ _ _ _ _ _ c.args.bytes.now _ _ at
    c.need_row.new.self c.first_call.result c.set.new.self _ c.in_ok-need_row.ensures.ok
    c.first_call.ensures c.set.ensures c.requires.many

pub returns-clause-posted : goal.returns-clause-posted
returns-clause-posted g c =
    let at : IsRowBegun g.M.Manager.ops c.args.self.now _ c.args.kind c.args.addr c.args.words
    c.args.number c.config.result c.in-Some.at =
    record {
      same = c.self.view_is;
      sound = c.self.invariant.0;
      config = c.config.ensures;
      there = c.in-Some.ensures.at;
      waits = c.requires.waits;
      some = c.requires.some;
      within = c.requires.within;
      least = c.requires.number;
      most = c.requires.numbers;
    } in
    subst (λ (ps : List Parcel). c.need_row.new.post ≡ g.P.Post.ops.after c.args.post.now ps)
    (row_posts g.met.M.Manager.laws _ _ _ _ _ _ c.args.bytes.now _ _ at)
    c.in_ok-need_row.ensures.posted

pub returns-clause-took : goal.returns-clause-took
returns-clause-took g c =
    let at : IsRowBegun g.M.Manager.ops c.args.self.now _ c.args.kind c.args.addr c.args.words
    c.args.number c.config.result c.in-Some.at =
    record {
      same = c.self.view_is;
      sound = c.self.invariant.0;
      config = c.config.ensures;
      there = c.in-Some.ensures.at;
      waits = c.requires.waits;
      some = c.requires.some;
      within = c.requires.within;
      least = c.requires.number;
      most = c.requires.numbers;
    } in
    subst (g.P.Post.ops.takes c.args.post.now) (row_posts g.met.M.Manager.laws _ _ _ _ _ _ c.args.bytes.now _ _ at) c.in_ok-need_row.ensures.took
