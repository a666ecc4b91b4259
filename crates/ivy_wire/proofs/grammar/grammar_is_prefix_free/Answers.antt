use Rattle.ivy_wire.proofs.Laws.{spells_at_most_one, none_begins_another}
use Rattle.ivy_wire.proofs.grammar.grammar_is_prefix_free.Goals as goal

pub returns-clause-frame : goal.returns-clause-frame
returns-clause-frame c = spells_at_most_one

pub returns-clause-prefix : goal.returns-clause-prefix
returns-clause-prefix c = none_begins_another
