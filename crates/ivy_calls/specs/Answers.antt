-- What a node was answered, without the node's number, and how it stands in an order of records.
use Rattle.std.specs.Prelude.{◌≡◌, ℕ, List, [], ◌∷◌, ◌++◌, map}
use Rattle.ivy_model.specs.declared.call.Call.{Call}
use Rattle.ivy_model.specs.declared.call.Record.{Record}
use Rattle.ivy_model.specs.declared.call.Reply.{Reply}
use Rattle.ivy_model.specs.stated.Explains.{part}
use Rattle.ivy_calls.specs.declared.answer.Answer.{Answer}

-- an answer as a record of the node that had it
abbrev pub by : ℕ → Answer → Record
by i a = record { node = i; call = a.call; reply = a.reply }

-- a record without its node
abbrev pub answer : Record → Answer
answer r = record { call = r.call; reply = r.reply }

-- what all nodes were answered, in the order's order
abbrev pub answers : List Record → List Answer
answers order = map answer order

-- what node i was answered
abbrev pub answers_of : ℕ → List Record → List Answer
answers_of i order = answers (part i order)

-- one call was made, and answered so
abbrev pub Adds : Call → Reply → List Answer → List Answer → Type 0
Adds call reply old new = new ≡ old ++ record { call = call; reply = reply } ∷ []
