-- Which strings a move sent.
use Rattle.std.specs.Prelude.{List, [], length, nat_le, slice_range, if◌then◌else◌}
use Rattle.ivy_charts.specs.declared.head.RunHead.{RunHead}
use Rattle.ivy_charts.specs.declared.log.Happening.{Happening}
use Rattle.ivy_charts.specs.declared.log.RunLog.{RunLog}

-- those from the place before the move up to the place after it, where so many were sent
abbrev pub sent_by : RunLog → Happening → List RunHead
sent_by log move = if nat_le move.sent_after (length log.strings.items)
    then slice_range log.strings.items move.sent_before move.sent_after
    else []
