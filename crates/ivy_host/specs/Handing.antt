-- A node whose owner makes further calls, or has it fetch a page ahead.
use Rattle.std.specs.Prelude.{ℕ, Bool, List}
use Rattle.ivy_model.specs.declared.Call.{Call}
use Rattle.ivy_program.specs.OwnCode.{process_ahead, process_handed}
use Rattle.ivy_host.specs.stated.Hosts.{Host}

-- its program has these rows of calls too, and nothing else changes
abbrev pub handing : {S : Type 0} → List (List Call) → Host S → Host S
handing more n = record n { process = process_handed more n.process }

-- its program has this page fetched too, and nothing else changes
abbrev pub fetching : {S : Type 0} → ℕ → Bool → Host S → Host S
fetching page write n = record n { process = process_ahead page write n.process }
