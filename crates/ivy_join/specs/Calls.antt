-- What own code handed its node by a log, its calls and the pages that it had fetched ahead, while
-- the log is made again.
use Rattle.std.specs.Prelude.{◌≡◌, ◌≢◌, ℕ, List, [], ◌∷◌, ◌++◌, All, take, slice_get, Option, Some}
use Rattle.ivy_logs.specs.declared.log.LogEntry.TheVariants.{Did, Asked, Answered, Fetched}
use Rattle.ivy_logs.specs.Entries.{LogEntry}
use Rattle.ivy_logs.specs.Faults.{HandsNothing}
use Rattle.ivy_program.specs.stated.Programs.{Program}
use Rattle.ivy_program.specs.Programs.{ahead, handed}
use Rattle.ivy_join.specs.declared.replay_log.Outcome.{Outcome}
use Rattle.ivy_join.specs.declared.replay_log.Outcome.TheVariants.{Made, Waits, Never}

-- the program once own code handed what the entry says: a call, or a page to be fetched after all
-- calls before; what is written down stays as it is
abbrev pub handed_by : LogEntry → Program → Program
handed_by (Did event) p = p
handed_by (Asked call) p = handed ((call ∷ []) ∷ []) p
handed_by (Answered answer) p = p
handed_by (Fetched page write) p = ahead page write p

-- what these entries say, one after another
abbrev pub handed_by_log : List LogEntry → Program → Program
handed_by_log [] p = p
handed_by_log (entry ∷ log) p = handed_by_log log (handed_by entry p)

-- so it is with each of these programs, by the log of its node
abbrev pub handed_by_logs : List (List LogEntry) → List Program → List Program
handed_by_logs [] programs = programs
handed_by_logs (log ∷ logs) [] = []
handed_by_logs (log ∷ logs) (p ∷ programs) = handed_by_log log p ∷ handed_by_logs logs programs

-- no log has a call, or a page that was fetched ahead
abbrev pub HandNothing : List (List LogEntry) → Type 0
HandNothing logs = (i : ℕ) (log : List LogEntry) → slice_get logs i ≡ Some log
    → All HandsNothing log

-- the code at this node handed what these entries say, and that of the others nothing
pub record HasHanded (node : ℕ) (more : List LogEntry) (old new : List Program) : Type 0 where
  pub here : (p : Program) → slice_get old node ≡ Some p
      → slice_get new node ≡ Some (handed_by_log more p)
  pub elsewhere : (i : ℕ) → i ≢ node → slice_get new i ≡ slice_get old i

-- so it did by an entry of its log, if that was made
abbrev pub HasHandedBy : ℕ → LogEntry → List Program → List Program → Outcome → Type 0
HasHandedBy node entry old new Made = HasHanded node (entry ∷ []) old new
HasHandedBy node entry old new Waits = HasHanded node [] old new
HasHandedBy node entry old new Never = Unit {0}

-- so many entries of its log were made before, and so many then: those between them were handed
pub record PlaysOn (node : ℕ) (log : List LogEntry) (made made' : ℕ) (old new : List Program) : Type 0
  where
    pub more : List LogEntry
    pub handed : HasHanded node more old new
    pub are : take made' log ≡ take made log ++ more

-- this program became that one by them
pub record HandsOn (log : List LogEntry) (made made' : ℕ) (p : Program) (now : Option Program)
    : Type 0 where
  pub more : List LogEntry
  pub are : take made' log ≡ take made log ++ more
  pub is : now ≡ Some (handed_by_log more p)

-- so it is at each node
abbrev pub HaveHanded : List (List LogEntry) → List ℕ → List ℕ → List Program → List Program
    → Type 0
HaveHanded logs made made' old new = (i : ℕ) (log : List LogEntry) (m m' : ℕ) (p : Program)
    → slice_get logs i ≡ Some log → slice_get made i ≡ Some m → slice_get made' i ≡ Some m'
    → slice_get old i ≡ Some p → HandsOn log m m' p (slice_get new i)
