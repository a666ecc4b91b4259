-- A call that own code makes, and the turn in which it begins; a page that it has fetched ahead.
use Rattle.std.specs.Prelude.{◌≡◌, ℕ, ◌+◌, ◌*◌, ◌%◌, ◌<◌, ◌≤◌, ◌^◌, Bool, true, false, List, [], ◌∷◌, ◌++◌}
use Rattle.std.specs.Prelude.{length, min, MatchOption, Option, Some, None, if◌then◌else◌}
use Rattle.ivy_model.specs.declared.Call.{Call}
use Rattle.ivy_model.specs.declared.Config.{Config}
use Rattle.ivy_model.specs.declared.Record.{Record}
use Rattle.ivy_model.specs.declared.Reply.{Reply}
use Rattle.ivy_alloc.specs.declared.CallProgress.{CallProgress}
use Rattle.ivy_alloc.specs.declared.CallProgress.TheVariants.{Given}
use Rattle.ivy_model.specs.declared.Row.{Row}
use Rattle.ivy_pagetable.specs.WordRows.{row_len}
use Rattle.ivy_host.specs.stated.Managers.{Managed, managed_ops}
use Rattle.ivy_memory.specs.stated.Memories.{NodeMemory, in_progress, memory_fetched}
use Rattle.ivy_memory.specs.BatchedCalls.{row_has_to_wait}
use Rattle.ivy_memory.specs.BatchedReplies.{HasReplies, left_in}
use Rattle.ivy_memory.specs.Memories.{only_waits}
use Rattle.ivy_host.specs.stated.Hosts.{number_of}
use Rattle.ivy_moves.specs.declared.keep.Keep.TheVariants.{Nothing}
use Rattle.ivy_moves.specs.Histories.{HistoryState}
use Rattle.ivy_program.specs.OwnCode.{IsFree, LacksReplies, process_ahead}
use Rattle.ivy_program.specs.Programs.{IsCalled}
use Rattle.ivy_program.specs.stated.InstructionSteps.{Asks, Process, step_of}
use Rattle.ivy_site.specs.Handed.{site_handed, site_fetching}
use Rattle.ivy_site.specs.SiteView.{SiteView}
use Rattle.ivy_site.specs.Sites.{SiteTurns}

-- the reply that an answer gives, if it gives one
abbrev pub reply_in : CallProgress → Option Reply
reply_in (Given reply) = Some reply
reply_in answer = None

-- the history with a record of the reply, where there is one
abbrev pub recorded_by : List Record → ℕ → Call → Option Reply → List Record
recorded_by history node call None = history
recorded_by history node call (Some reply) =
    history ++ record { node = node; call = call; reply = reply } ∷ []

-- own code makes the call, alone in its row, and has a turn, in which it begins: its reply is
-- recorded, where that is there then
pub record BeginsCall (call : Call) (reply : Option Reply) (old new : SiteView) : Type 0 where
  pub turns : SiteTurns (site_handed ((call ∷ []) ∷ []) old) new
  pub recorded : new.node.core.history
      ≡ recorded_by old.node.core.history (number_of old.node.core) call reply

-- own code makes these calls one after another, and each is answered so in the turn in which it
-- begins
abbrev pub AreAnswered : List Record → SiteView → SiteView → Type 0
AreAnswered [] old new = new ≡ old
AreAnswered (r ∷ more) old new =
    (mid : SiteView) × BeginsCall r.call (Some r.reply) old mid × AreAnswered more mid new

-- the call that a turn is about: the one in progress, or the one that begins
abbrev pub IsCallOf : SiteView → Call → Type 0
IsCallOf s call = MatchOption s.node.core.memory.asked (step_of s.node.core.process ≡ Asks call)
    (λ asked. asked ≡ call)

-- the turn recorded this reply, to the call that it was about, or it recorded none
abbrev pub RecordsReply : Option Reply → SiteView → SiteView → Type 0
RecordsReply None old new = new.node.core.history ≡ old.node.core.history
RecordsReply (Some reply) old new = (call : Call) × IsCallOf old call
    × (new.node.core.history
    ≡ recorded_by old.node.core.history (number_of old.node.core) call (Some reply))

-- calls in a row, of so many bytes from an address on, can be listed with no place for them: each
-- call before has its reply, no list of the past is kept, and the calls can be counted
pub record TakesRow (process : Process) (history : HistoryState) (events_kept : Bool)
    (addr bytes : ℕ) : Type 0 where
  pub free : IsFree process
  pub unkept : history.kept ≡ false
  pub counted : length history.records + bytes < 2 ^ 64
  pub unlisted : events_kept ≡ false
  pub below : addr + bytes < 2 ^ 64

-- so own code of this site may make calls in a row
pub record MayCallInRow (s : SiteView) (addr bytes : ℕ) : Type 0 where
  pub free : IsFree s.node.core.process
  pub unkept : s.keep ≡ Nothing
  pub counted : length s.node.core.history + bytes < 2 ^ 64
  pub below : addr + bytes < 2 ^ 64

-- own code may make calls together, of so many bytes from an address on: each call before has its
-- reply, and the calls can be counted
pub record MayCallTogether (process : Process) (history : List Record) (addr bytes : ℕ) : Type 0
  where
    pub free : IsFree process
    pub counted : length history + bytes < 2 ^ 64
    pub below : addr + bytes < 2 ^ 64

-- own code makes these calls together and has a turn, in which the first of them begins and waits:
-- they are in progress then
pub record BeginsTogether (calls : List Call) (old new : SiteView) : Type 0 where
  pub turns : SiteTurns (site_handed (calls ∷ []) old) new
  pub recorded : new.node.core.history ≡ old.node.core.history
  pub waits : in_progress new.node.core.memory.asked new.node.core.memory.along ≡ calls

-- so it is, or there are none, and nothing is done
abbrev pub BeginsRow : List Call → SiteView → SiteView → Type 0
BeginsRow [] old new = new ≡ old
BeginsRow (call ∷ more) old new = BeginsTogether (call ∷ more) old new

-- how many calls own code can make together, on words in a row from an address on: none where the
-- first need not wait, else as many as it wants, as lie in the page, and as there are bytes for
abbrev pub words_together : Config → NodeMemory Managed → Row → ℕ → ℕ → ℕ → ℕ
words_together c m kind addr words bytes =
    if row_has_to_wait m kind addr
    then min words (row_len c.page_size (addr % c.page_size) bytes)
    else 0

-- those of this site
abbrev pub row_together : SiteView → Row → ℕ → ℕ → ℕ → ℕ
row_together s = words_together s.config s.node.core.memory

-- the call in progress has its reply, which is recorded in a turn
pub record IsTaken (r : Record) (old new : SiteView) : Type 0 where
  pub asked : old.node.core.memory.asked ≡ Some r.call
  pub turns : SiteTurns old new
  pub recorded : new.node.core.history ≡ old.node.core.history ++ r ∷ []

-- one after another
abbrev pub AreTaken : List Record → SiteView → SiteView → Type 0
AreTaken [] old new = new ≡ old
AreTaken (r ∷ more) old new = (mid : SiteView) × IsTaken r old mid × AreTaken more mid new

-- replies in a row, to calls of own code on so many bytes from an address on, can be listed with no
-- place for them: no list of the past is kept, and the calls can be counted
pub record TakesReplies (process : Process) (history : HistoryState) (events_kept : Bool)
    (addr bytes : ℕ) : Type 0 where
  pub own : IsCalled process.program
  pub unkept : history.kept ≡ false
  pub counted : length history.records + bytes < 2 ^ 64
  pub unlisted : events_kept ≡ false
  pub below : addr + bytes < 2 ^ 64

-- so the replies to all calls in progress at this site can be taken at once, in these bytes: they are
-- those of a row from the address on, and are there, and the bytes have room for its words
pub record MayTakeRow (kind : Row) (addr : ℕ) (bytes : List ℕ) (s : SiteView) : Type 0 where
  pub own : IsCalled s.node.core.process.program
  pub unkept : s.keep ≡ Nothing
  pub counted : length s.node.core.history + length bytes < 2 ^ 64
  pub below : addr + length bytes < 2 ^ 64
  pub there : HasReplies kind addr bytes s.node.core.memory
  pub room : 8 * left_in s.node.core.memory ≤ length bytes

-- whether this node would ask for the page now, where its owner has it fetch the page
abbrev pub can_fetch : SiteView → ℕ → Bool → Bool
can_fetch s page write =
    (memory_fetched managed_ops s.node.core.memory page write (length s.node.core.history + 1)).begun

-- own code may have a page fetched: each call that it made has its reply or is in progress, and the one
-- that is in progress can only wait
pub record MayFetch (m : NodeMemory Managed) (p : Process) : Type 0 where
  pub begun : LacksReplies (length (in_progress m.asked m.along)) p
  pub waits : only_waits m ≡ true

-- own code has the node fetch a page, to read or to write, and has a turn, in which it asks for it: no
-- call is of it, and no reply
pub record BeginsFetch (page : ℕ) (write : Bool) (old new : SiteView) : Type 0 where
  pub turns : SiteTurns (site_fetching page write old) new
  pub asks : can_fetch old page write ≡ true
  pub process : new.node.core.process ≡ process_ahead page write old.node.core.process
  pub recorded : new.node.core.history ≡ old.node.core.history

-- or it does nothing: it is no own code, or a call of it comes first; or the page is not there; or it
-- need not be asked for, or can't be now
pub record FetchesNone (page : ℕ) (write : Bool) (old new : SiteView) : Type 0 where
  pub same : new ≡ old
  pub why : MayFetch old.node.core.memory old.node.core.process → page < old.config.pages
      → can_fetch old page write ≡ false

-- what a fetch came to
abbrev pub AfterFetch : Bool → ℕ → Bool → SiteView → SiteView → Type 0
AfterFetch true page write old new = BeginsFetch page write old new
AfterFetch false page write old new = FetchesNone page write old new
