-- What a finished session of own code says of its report.
use Rattle.std.specs.Prelude.{ℕ, List, [], replicate}
use Rattle.ivy_model.specs.declared.Config.{Config}
use Rattle.ivy_calls.specs.declared.answer.Answer.{Answer}
use Rattle.ivy_calls.specs.Shared.{AreShared}
use Rattle.ivy_program.specs.stated.Programs.{Program, Called}
use Rattle.ivy_host.specs.declared.opening.Opening.{Opening}
use Rattle.ivy_seating.specs.Reports.{NodeReport, IsHandedReport}

-- of all nodes, and what the work of each gave
pub record OwnState (Out : Type 0) : Type 0 where
  pub nodes : List NodeReport
  pub outs : List Out

-- the programs of nodes with own code that has made no call yet
abbrev pub all_open : Config → List Program
all_open c = replicate c.nodes (Called [] [])

-- it is a report of own code at nodes that began so, where some calls were made, and some pages
-- fetched ahead, at each node; and in the order that explains its histories each node's work has
-- done what it had to, with its part of that order as what it was answered, and given this
pub record IsOwnReport {Out : Type 0} (c : Config) (opened : Opening)
    (done : ℕ → List Answer → Out → Type 0) (nodes : List NodeReport) (outs : List Out) : Type 0
  where
    pub report : IsHandedReport c opened (all_open c) nodes
    pub shared : AreShared c done report.1.order outs
