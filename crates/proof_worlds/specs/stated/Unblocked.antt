-- What is promised of each node where nothing is under way, whatever the turns of the others do: no
-- page, owner, hint or lock blocks its program.
use Rattle.std.specs.Prelude.{◌≡◌, ◌≤◌, ◌⊎◌, ℕ, false, List, [], ◌∷◌, ◌++◌, map, slice_get, Some, None}
use Rattle.ivy_model.specs.declared.Config.{Config}
use Rattle.ivy_model.specs.declared.Call.{Call}
use Rattle.ivy_model.specs.declared.Call.TheVariants.{Await}
use Rattle.ivy_model.specs.declared.Record.{Record}
use Rattle.ivy_model.specs.declared.Reply.{Reply}
use Rattle.ivy_model.specs.declared.Reply.TheVariants.{Value}
use Rattle.ivy_model.specs.stated.Memory.{Memory, first}
use Rattle.ivy_model.specs.stated.Legal.{ServesAll}
use Rattle.ivy_model.specs.stated.Explains.{part}
use Rattle.ivy_wire.specs.declared.Content.TheVariants.{ReadReq}
use Rattle.ivy_wire.specs.stated.Data.{Parcel}
use Rattle.ivy_pagetable.specs.declared.Word as words
use Rattle.ivy_pagetable.specs.stated.Entries.{readable}
use Rattle.ivy_pagetable.specs.stated.Manager.{Ops}
use Rattle.ivy_pagetable.specs.stated.Tables.{entry_at}
use Rattle.ivy_moves.specs.stated.Cores.{Outcome}
use Rattle.ivy_memory.specs.declared.Asked.TheVariants.{Word}
use Rattle.ivy_memory.specs.stated.Asking.{asked_of}
use Rattle.ivy_memory.specs.stated.Memories.{in_progress}
use Rattle.ivy_program.specs.stated.Programs.{HandedFetch, fetches_of}
use Rattle.ivy_host.specs.stated.Hosts.{Host, turn_of}
use Rattle.proof_worlds.specs.stated.Settled.{HasNoAnswer}

-- the node was handed a fetch of the page
abbrev pub IsHanded : {S : Type 0} → Host S → ℕ → Type 0
IsHanded n page = (k : ℕ) × (fetch : HandedFetch)
    × (slice_get (fetches_of n.process.program) k ≡ Some fetch) × (fetch.page ≡ page)

module _ {S : Type 0} (ops : Ops S) (i : ℕ) (n : Host S) where
  -- node i's record of this reply to the call
  abbrev pub record_of : Call → Reply → Record
  record_of called reply = record { node = i; call = called; reply = reply }

  -- the next turn records this reply to the call, posts nothing, and leaves no call in progress where
  -- none was made along with it
  pub record IsAnsweredNext (called : Call) (reply : Reply) : Type 0 where
    pub after : Host S
    pub turned : turn_of ops n ≡ Some (record { after = after; posted = [] })
    pub history : after.history ≡ n.history ++ record_of called reply ∷ []
    pub idle : n.memory.along ≡ [] → after.memory.asked ≡ None

  -- the node has no copy of page 0, in which the counts lie, and its next turn asks for one
  pub record AsksForCountsNext : Type 0 where
    pub without : readable (entry_at n.memory.coherence.table 0) ≡ false
    pub outcome : Outcome (Host S)
    pub turned : turn_of ops n ≡ Some outcome
    pub parcel : Parcel
    pub posted : outcome.posted ≡ parcel ∷ []
    pub asks : parcel.message.content ≡ ReadReq 0

  -- the next turn records a reply to the call, as `IsAnsweredNext` says, or the call waits at the
  -- page's entry from then on
  abbrev pub IsDoneNext : Call → ℕ → Type 0
  IsDoneNext called page = ((reply : Reply) × IsAnsweredNext called reply)
      ⊎ ((outcome : Outcome (Host S)) × (turn_of ops n ≡ Some outcome)
      × (outcome.after.memory.coherence.locked ≡ Some page))

  -- How the node stands by an order of records and the flat memory that it leads to.
  pub data Stands (order : List Record) (last : Memory) : Type 0 where
    -- no call is in progress, or a count is awaited that is below the least value
    waits : HasNoAnswer last (in_progress n.memory.asked n.memory.along) → part i order ≡ n.history
        → Stands order last
    -- the reply is there, so its record stands in the order already, and behind it those of the calls
    -- made along with it; the next turn records it
    replied : (called : Call) (reply : Reply) → n.memory.asked ≡ Some called
        → IsAnsweredNext called reply → (more : List Record) → map (λ r. r.call) more ≡ n.memory.along
        → part i order ≡ n.history ++ record_of called reply ∷ more
        → Stands order last
    -- a count is awaited that has come to the least value: the next turn answers it with the count,
    -- or has to ask for a copy first
    reached : (k least count : ℕ) → n.memory.asked ≡ Some (Await k least)
        → slice_get last.counts k ≡ Some count → least ≤ count
        → IsAnsweredNext (Await k least) (Value count) ⊎ AsksForCountsNext
        → part i order ≡ n.history → Stands order last
    -- a word of a page is asked for that the node was handed to fetch: it could not join the fetch,
    -- and the next turn answers it, or has to ask for the page first
    tried : (called : Call) (page : ℕ) (word : words.Word) → n.memory.asked ≡ Some called
        → asked_of n.memory.coherence.config called ≡ Word page word → IsHanded n page
        → IsDoneNext called page → part i order ≡ n.history → Stands order last

-- By some legal order, and the flat memory that it leads to, each node stands so.
pub record AreUnblocked {S : Type 0} (ops : Ops S) (c : Config) (nodes : List (Host S)) : Type 0
  where
    pub order : List Record
    pub last : Memory
    pub legal : ServesAll c (first c) order last
    pub each : (i : ℕ) (n : Host S) → slice_get nodes i ≡ Some n → Stands ops i n order last
