-- A call by what it is of, and what an access does with the number that stands in its word.
use Rattle.std.specs.Prelude.{ℕ, ◌+◌, ◌*◌, ◌%◌, ◌^◌, ◌==◌, Bool, true, false, Option, Some, None, if◌then◌else◌}
use Rattle.ivy_model.specs.declared.call.Act.{Act}
use Rattle.ivy_model.specs.declared.call.Act.TheVariants as act
use Rattle.ivy_model.specs.declared.call.Call.{Call}
use Rattle.ivy_model.specs.declared.call.Call.TheVariants.{Load, Store, Swap, Cas, FetchAdd, Count, Advance, Await, Alloc, Free}
use Rattle.ivy_model.specs.declared.call.CallKind.{CallKind}
use Rattle.ivy_model.specs.declared.call.CallKind.TheVariants as kind
use Rattle.ivy_model.specs.declared.call.Reply.{Reply}
use Rattle.ivy_model.specs.declared.call.Reply.TheVariants.{Value, Done}

-- an access to a word of the heap, or a call on an eventcount or a block
abbrev pub kind_of_call : Call → CallKind
kind_of_call (Load width addr) = kind.Word width addr act.Load
kind_of_call (Store width addr value) = kind.Word width addr (act.Store value)
kind_of_call (Swap width addr value) = kind.Word width addr (act.Swap value)
kind_of_call (Cas width addr expected value) = kind.Word width addr (act.Cas expected value)
kind_of_call (FetchAdd width addr value) = kind.Word width addr (act.FetchAdd value)
kind_of_call (Count k) = kind.Count k
kind_of_call (Advance k) = kind.Advance k
kind_of_call (Await k least) = kind.Await k least
kind_of_call (Alloc size) = kind.Alloc size
kind_of_call (Free addr) = kind.Free addr

-- Whose low bytes an access of this width puts in its word, if it writes it, from the number that
-- stands there. A compare-and-swap compares the low bytes alone, and a sum has no more than them.
abbrev pub next_number : ℕ → Act → ℕ → Option ℕ
next_number width act.Load number = None
next_number width (act.Store value) number = Some value
next_number width (act.Swap value) number = Some value
next_number width (act.Cas expected value) number =
    if number == expected % 2 ^ (8 * width) then Some value else None
next_number width (act.FetchAdd value) number = Some ((number + value) % 2 ^ (8 * width))

-- whether an access gives the number that stood in its word
abbrev pub gives_number : Act → Bool
gives_number (act.Store value) = false
gives_number _ = true

-- what an access is answered
abbrev pub access_reply : Act → ℕ → Reply
access_reply a number = if gives_number a then Value number else Done
