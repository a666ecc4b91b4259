-- The answers of a list that exists in proofs alone.
use Rattle.std.specs.Prelude.{List, [], ◌∷◌, ◌++◌}
use Rattle.ivy_calls.specs.declared.Answer.{Answer}
use Rattle.ivy_process.specs.declared.story.Link.{Link}
use Rattle.ivy_process.specs.declared.story.Link.TheVariants.{Start, More}

abbrev pub answers_to : Link → List Answer
answers_to Start = []
answers_to (More before last) = before.value ++ last.value ∷ []
