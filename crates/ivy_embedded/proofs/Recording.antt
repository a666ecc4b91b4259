-- What a turn of a node that has a call records: its reply, once, or nothing.
use Rattle.std.proofs.Common.{Option, None, Some, inr}
use Rattle.ivy_model.specs.declared.Call.{Call}
use Rattle.ivy_model.specs.declared.Reply.{Reply}
use Rattle.ivy_site.specs.Calls.{BeginsCall, RecordsReply}
use Rattle.ivy_site.specs.SiteView.{SiteView}
use Rattle.ivy_site.specs.Sites.{SiteTurns}
use Rattle.ivy_embedded.specs.Exports.{AfterCall, AfterBegin}

-- a turn that is listed, with what it recorded
pub turned : (reply : Option Reply) (old new : SiteView) → SiteTurns old new
    → RecordsReply reply old new → AfterCall reply old new
turned None old new t same = inr (t, same)
turned (Some reply) old new t r = (r.0, r.1, record { turns = t; recorded = r.2 })

-- a call that a node's owner made is begun
pub begun : (call : Call) (progress : Option Reply) (old new : SiteView)
    → BeginsCall call progress old new → AfterBegin call progress old new
begun call None old new b = inr (b.turns, b.recorded)
begun call (Some r) old new b = record { turns = b.turns; recorded = b.recorded }
