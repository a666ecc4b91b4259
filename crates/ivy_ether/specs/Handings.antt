-- What the owner of a node hands to it while it runs.
use Rattle.std.specs.Prelude.{ℕ, Bool, List, [], ◌∷◌, map}
use Rattle.ivy_model.specs.declared.Call.{Call}
use Rattle.ivy_program.specs.stated.Programs.{Program}
use Rattle.ivy_program.specs.Programs.{ahead, handed}
use Rattle.ivy_host.specs.stated.Hosts.{Host}

-- calls that are made together, or a page that is to be fetched ahead, to read or to write
pub data Handing : Type 0 where
  Calls : List Call → Handing
  Page : ℕ → Bool → Handing

-- rows of calls, one after another
abbrev pub rows_of : List (List Call) → List Handing
rows_of rows = map Calls rows

-- the program, where its owner hands it this too; what is written down stays as it is
abbrev pub with_one : Handing → Program → Program
with_one (Calls row) p = handed (row ∷ []) p
with_one (Page page write) p = ahead page write p

-- and all of these, one after another
abbrev pub with_all : List Handing → Program → Program
with_all [] p = p
with_all (h ∷ more) p = with_all more (with_one h p)

-- the node's program has them too, and nothing else changes
abbrev pub handing_all : {S : Type 0} → List Handing → Host S → Host S
handing_all hs n = record n {
  process = record { program = with_all hs n.process.program; state = n.process.state };
}
