-- How calls, replies, records and moves are printed.
use Rattle.std.specs.Prelude.{ℕ, List, ◌++◌, codes, decimal}
use Rattle.ivy_model.specs.declared.Call.{Call}
use Rattle.ivy_model.specs.declared.Call.TheVariants.{Load, Store, Swap, Cas, FetchAdd, Count, Advance, Await, Alloc, Free}
use Rattle.ivy_model.specs.declared.Reply.{Reply}
use Rattle.ivy_model.specs.declared.Reply.TheVariants.{Value, Done, Refused}
use Rattle.ivy_model.specs.declared.Record.{Record}
use Rattle.ivy_moves.specs.declared.Move.{Move}
use Rattle.ivy_moves.specs.declared.Move.TheVariants.{Turn, Deliver, Pulse}

-- a blank and a number
abbrev pub then_number : ℕ → List ℕ
then_number n = codes " " ++ decimal n

abbrev pub call_text : Call → List ℕ
call_text (Load width addr) = codes "load" ++ then_number width ++ then_number addr
call_text (Store width addr value) =
    codes "store" ++ then_number width ++ then_number addr ++ then_number value
call_text (Swap width addr value) =
    codes "swap" ++ then_number width ++ then_number addr ++ then_number value
call_text (Cas width addr expected value) =
    codes "cas" ++ then_number width ++ then_number addr ++ then_number expected ++ then_number value
call_text (FetchAdd width addr value) =
    codes "fadd" ++ then_number width ++ then_number addr ++ then_number value
call_text (Count k) = codes "count" ++ then_number k
call_text (Advance k) = codes "advance" ++ then_number k
call_text (Await k least) = codes "await" ++ then_number k ++ then_number least
call_text (Alloc size) = codes "alloc" ++ then_number size
call_text (Free addr) = codes "free" ++ then_number addr

abbrev pub reply_text : Reply → List ℕ
reply_text (Value value) = codes "value" ++ then_number value
reply_text Done = codes "done"
reply_text (Refused code) = codes "refused" ++ then_number code

-- as the text of an order has it
abbrev pub record_text : Record → List ℕ
record_text r = decimal r.node ++ codes " " ++ call_text r.call ++ codes " = " ++ reply_text r.reply

-- as the text of a schedule has it
abbrev pub move_text : Move → List ℕ
move_text (Turn node) = codes "turn" ++ then_number node
move_text (Deliver index to) = codes "deliver" ++ then_number index ++ then_number to
move_text (Pulse from to) = codes "pulse" ++ then_number from ++ then_number to
