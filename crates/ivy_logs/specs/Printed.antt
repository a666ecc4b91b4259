-- What is written of frames and of logs.
use Rattle.std.specs.Prelude.{ℕ, List, [], ◌∷◌, ◌++◌, codes, decimal, flat_map, Option, Some, None}
use Rattle.hex.specs.Hex.{encode_lower}
use Rattle.ivy_moves.specs.Events.{Event}
use Rattle.ivy_moves.specs.declared.Event.TheVariants.{Turns, Delivered, Pulsed}
use Rattle.ivy_texts.specs.Printed.{then_number}
use Rattle.ivy_logs.specs.declared.sum_line.SumLine.{SumLine}
use Rattle.ivy_logs.specs.declared.log.LogHead.{LogHead}
use Rattle.ivy_logs.specs.declared.log.LogKind.{LogKind}
use Rattle.ivy_logs.specs.declared.log.LogKind.TheVariants.{OfProgram}
use Rattle.ivy_logs.specs.Spelled.{log_word, manager_word}

-- the line of a frame for a node
abbrev pub frame_line : ℕ → List ℕ → List ℕ
frame_line to bytes = decimal to ++ codes " " ++ encode_lower bytes ++ 10 ∷ []

-- the line by which a node tells another one the sum of its run
abbrev pub sum_line : SumLine → List ℕ
sum_line s = decimal s.to ++ codes " sum" ++ then_number s.from ++ then_number s.sum ++ 10 ∷ []

-- a blank and a sum, where there is one, and the end of the line
abbrev pub sum_end : Option ℕ → List ℕ
sum_end None = 10 ∷ []
sum_end (Some sum) = then_number sum ++ 10 ∷ []

-- the words of a node and its configuration
abbrev pub node_text : LogHead → List ℕ
node_text h =
    then_number h.me ++ then_number h.config.nodes ++ then_number h.config.pages ++ then_number h.config.page_size
    ++ codes " " ++ manager_word h.steady h.config.manager

-- the first line of a log, which names this sum, or none
abbrev pub first_line : LogKind → LogHead → Option ℕ → List ℕ
first_line kind h sum = codes "ivy " ++ log_word kind ++ node_text h ++ sum_end sum

-- the first line of a log that names none
abbrev pub head_line : LogKind → LogHead → List ℕ
head_line kind h = first_line kind h None

-- the first line of the log of a program, with the sum of its run
abbrev pub head_line_of_run : LogHead → ℕ → List ℕ
head_line_of_run h sum = first_line OfProgram h (Some sum)

-- the line of an event
abbrev pub event_line : Event → List ℕ
event_line (Turns count) = codes "turns" ++ then_number count ++ 10 ∷ []
event_line (Delivered bytes) = codes "took " ++ encode_lower bytes ++ 10 ∷ []
event_line (Pulsed to) = codes "pulse" ++ then_number to ++ 10 ∷ []

-- a whole log of a program
abbrev pub log_text : LogHead → List Event → List ℕ
log_text head events = head_line OfProgram head ++ flat_map event_line events

-- and one that names the sum of its run
abbrev pub log_text_of_run : LogHead → ℕ → List Event → List ℕ
log_text_of_run head sum events = head_line_of_run head sum ++ flat_map event_line events
