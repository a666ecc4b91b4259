use Rattle.std.proofs.Common.{ap}
use Rattle.ivy_coherence.specs.Rests.{Behind}
use Rattle.ivy_coherence.proofs.batches.Takes.{taken_together}
use Rattle.ivy_coherence.proofs.coherence.Coherence.returned_row.Goals as goal

pub returns-clause-taken : goal.returns-clause-taken
returns-clause-taken g c =
    taken_together c.args.self.now _ c.self.view_is c.args.kind c.in-Some.number
    c.take_row-words.result c.take_row-words.new.into c.put_number.new.into
    c.take_row-words.new.self.outs c.take_row-words.new.self.words c.take-self-inside.result
    c.take-self-inside.new.self c.in-Some.ensures.some c.take_row-words.ensures.outs
    c.put_number.ensures.number c.put_number.ensures.rest c.take_row-words.ensures.words
    c.take-self-inside.ensures.out
    (ap (λ (r : Behind). r.words) c.take-self-inside.ensures.rest)
    (ap (λ (r : Behind). r.outs) c.take-self-inside.ensures.rest)
