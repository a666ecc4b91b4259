use Rattle.std.proofs.Common.{◌≡◌, [], ◌++◌, length}
use Rattle.std.specs.Prelude.{string_bytes}
use Rattle.ivy_process.specs.NodeLogs.{waiting_lines}
use Rattle.ivy_process.proofs.sites.push_frames.Given as goal

-- nothing of the site changes but what waits, and what does no more is written
abbrev pub invariant-loop-string : goal.invariant-loop-string
invariant-loop-string l = record {
  same : record l.site { waiting = [] } ≡ record l.initial.site { waiting = [] };
  text : string_bytes l.text ++ waiting_lines l.site.waiting
      ≡ string_bytes l.initial.text ++ waiting_lines l.initial.site.waiting;
}

abbrev pub decreases-loop-string : goal.decreases-loop-string
decreases-loop-string l = length l.site.waiting
