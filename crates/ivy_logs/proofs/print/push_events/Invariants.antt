-- The text has the lines of the events so far.
use Rattle.std.proofs.Common.{◌≡◌, ◌++◌, take, flat_map}
use Rattle.std.specs.Prelude.{string_bytes}
use Rattle.ivy_logs.specs.Printed.{event_line}
use Rattle.ivy_logs.proofs.print.push_events.Given as goal

abbrev pub invariant-loop-event : goal.invariant-loop-event
invariant-loop-event g l =
    string_bytes l.text
    ≡ string_bytes l.initial.text ++ flat_map event_line (take l.event-index l.events)
