use Rattle.std.proofs.Common.{drop, length, ap, ◌∙◌}
use Rattle.std.proofs.lemmas.List.{take_at}
use Rattle.ivy_calls.specs.BlockAnswers.{block_numbers}
use Rattle.example_programs.proofs.Rowing.{block_found}
use Rattle.example_programs.proofs.matrix.Matrices.load_all.Goals as goal

pub returns : goal.returns
returns g c =
    let bytes = c.read_into.new.into in
    let sized = c.read_into.ensures.sized ∙ c.deref_mut.ensures.len in
    let whole =
    c.deref.ensures.value
    ∙ take_at bytes (drop (length bytes) c.in_ok-bytes.bytes.items) c.in_ok-bytes.bytes.len sized in
    let found =
    block_found c.args.at c.args.count bytes c.in_ok-numbers_of.field-0.items
    (g.M.SharedMemory.answers c.args.memory.now) (g.M.SharedMemory.answers c.read_into.new.memory)
    (sized ∙ c.in_ok-bytes.ensures.len) c.in_ok-read_into.ensures.reads
    (c.in_ok-numbers_of.ensures ∙ ap block_numbers whole) in
    record { all = found.0; finds = found.1 }
