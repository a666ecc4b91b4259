-- The fault and the programs of the lines are those of the text that they were read of.
use Rattle.ivy_program.proofs.reading.Whole.{fault_of, spelled_of}
use Rattle.ivy_program.proofs.parser.parse.Goals as goal

pub returns-clause-fault : goal.returns-clause-fault
returns-clause-fault g c =
    fault_of (λ p. p.items) c.args.text.now c.read_all.new.self c.in_ok-at_fault.at_fault
    c.in_ok-at_fault.ensures.read c.finish.result c.finish.ensures.fault

pub returns-clause-spelled : goal.returns-clause-spelled
returns-clause-spelled g c =
    spelled_of (λ p. p.items) c.args.text.now c.read_all.new.self c.in_ok-at_fault.at_fault
    c.in_ok-at_fault.ensures.read c.finish.result c.finish.ensures.spelled
