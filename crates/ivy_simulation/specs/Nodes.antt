-- What is printed of all nodes: what their programs printed, and which of them have ended.
use Rattle.std.specs.Prelude.{ℕ, ◌+◌, Bool, true, false, List, [], ◌∷◌, ◌++◌, flat_map, map}
use Rattle.ivy_program.specs.stated.InstructionSteps.{Process, Step, Local, Asks, Ends, step_of}
use Rattle.ivy_moves.specs.stated.Nodes.{Node}
use Rattle.ivy_host.specs.stated.Hosts.{Host}
use Rattle.ivy_texts.specs.Lines.{value_line, end_line}

-- the text of each item, numbered from this number on, one after another
abbrev pub numbered_texts : {X : Type 0} → (ℕ → X → List ℕ) → ℕ → List X → List ℕ
numbered_texts text from [] = []
numbered_texts text from (x ∷ xs) = text from x ++ numbered_texts text (from + 1) xs

-- a line for each value that the program of the node printed
abbrev pub output_text : ℕ → List ℕ → List ℕ
output_text node values = flat_map (value_line node) values

-- of the outputs of all nodes
abbrev pub outputs_text : List (List ℕ) → List ℕ
outputs_text outputs = numbered_texts output_text 0 outputs

-- what the program of each node printed
abbrev pub outputs_of : {S : Type 0} → List (Node (Host S)) → List (List ℕ)
outputs_of nodes = map (λ n. n.core.process.state.output) nodes

-- whether the step is the end
abbrev pub is_end : Step → Bool
is_end (Local s) = false
is_end (Asks c) = false
is_end Ends = true

-- whether the program has ended
abbrev pub has_ended : Process → Bool
has_ended p = is_end (step_of p)

-- the line that says whether the program of the node has ended
abbrev pub end_text : {S : Type 0} → ℕ → Node (Host S) → List ℕ
end_text node n = end_line node (has_ended n.core.process)

-- these lines of all nodes
abbrev pub ends_text : {S : Type 0} → List (Node (Host S)) → List ℕ
ends_text nodes = numbered_texts end_text 0 nodes
