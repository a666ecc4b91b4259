-- Worlds whose nodes lend pages to their programs.
use Rattle.std.specs.Prelude.{◌≡◌, ◌≢◌, ◌<◌, ◌≤◌, ℕ, true, false, List, [], ◌∷◌, ◌++◌, length, drop, map, slice_get, Some, Contains}
use Rattle.ivy_model.specs.declared.Call.{Call}
use Rattle.ivy_model.specs.declared.Config.{Config}
use Rattle.ivy_model.specs.declared.Record.{Record}
use Rattle.ivy_model.specs.stated.Config.{IsConfig}
use Rattle.ivy_model.specs.stated.Explains.{part, Answered, IsOwed}
use Rattle.ivy_model.specs.stated.Memory.{Memory, first}
use Rattle.ivy_pagetable.specs.declared.Entry.{Entry}
use Rattle.ivy_pagetable.specs.declared.Word.{Word}
use Rattle.ivy_pagetable.specs.stated.Entries.{readable, writable}
use Rattle.ivy_pagetable.specs.stated.Words.{needs_write}
use Rattle.ivy_memory.specs.declared.Asked.{Asked}
use Rattle.ivy_memory.specs.declared.Asked.TheVariants as asked
use Rattle.ivy_memory.specs.stated.Asking.{asked_of}
use Rattle.ivy_program.specs.stated.Programs.{Program}
use Rattle.ivy_moves.specs.declared.moves.Move.{Move}
use Rattle.ivy_moves.specs.stated.Nodes.{Node}
use Rattle.ivy_moves.specs.stated.Worlds.{World, Moves}
use Rattle.ivy_host.specs.stated.Hosts.{Host, host_rules, answered_by}
use Rattle.ivy_host.specs.stated.Managers.{Managed, managed_ops}
use Rattle.ivy_host.specs.declared.opening.Opening.{Opening}
use Rattle.ivy_host.specs.stated.Openings.{managed_start, opening}
use Rattle.proof_worlds.specs.consistency.Alone.{entries_in, bytes_in}
use Rattle.proof_lent.specs.Lent.{Lending, Unlent, ToRead, ToWrite, Access, writes, Does, IsInside, Made, Called, Kept, Pointed, MakesAll, IsApart}

-- a world, what each page is lent for to each node's program, and the image that the program has of it
pub record LentWorld : Type 0 where
  pub world : World (Host Managed)
  pub lent : ℕ → ℕ → Lending
  pub image : ℕ → ℕ → List ℕ

-- What happens: a move is made; a program accesses bytes of an image; node i lends page p for this; its
-- program gives page p back, but for this.
pub data Happening : Type 0 where
  Moved : Move → Happening
  Accessed : Access → Happening
  Lent : (i p : ℕ) (to : Lending) → Happening
  GivenBack : (i p : ℕ) (on : Lending) → Happening

-- what a page is lent for, the node with this entry may do with it itself
abbrev pub SufficesFor : Entry → Lending → Type 0
SufficesFor e Unlent = Unit {0}
SufficesFor e ToRead = readable e ≡ true
SufficesFor e ToWrite = writable e ≡ true

-- so it is of each page that is lent
abbrev pub LendsSoundly : LentWorld → Type 0
LendsSoundly l = (i p : ℕ) → SufficesFor (entries_in l.world i p) (l.lent i p)

-- a call that a node was answered since this history, or has in progress
abbrev pub IsMadeSince : List Record → Answered → Call → Type 0
IsMadeSince past n call = Contains (map (λ r. r.call) (drop (length past) n.history) ++ n.asked) call

module _ (c : Config) where
  -- no call that writes is made of a page that is lent to read at its node
  abbrev pub WritesNoneRead : LentWorld → World (Host Managed) → Type 0
  WritesNoneRead old new = (i : ℕ) (n m : Node (Host Managed))
      → slice_get old.world.nodes i ≡ Some n → slice_get new.nodes i ≡ Some m → (call : Call)
      → IsMadeSince n.core.history (answered_by m.core) call → (p : ℕ) (w : Word)
      → asked_of c call ≡ asked.Word p w → old.lent i p ≡ ToRead → needs_write w ≡ false

  -- a move is made: each page that is lent is so soundly before it, and none is lent or given back
  pub record Goes (move : Move) (old new : LentWorld) : Type 0 where
    pub moves : Moves (host_rules managed_ops) c old.world move new.world
    pub sound : LendsSoundly old
    pub none : WritesNoneRead old new.world
    pub lent : (i p : ℕ) → new.lent i p ≡ old.lent i p
    pub image : (i p : ℕ) → new.image i p ≡ old.image i p

  -- a program accesses its image of a page that is lent to it, to write where it writes
  pub record Touches (a : Access) (old new : LentWorld) : Type 0 where
    pub inside : IsInside c a
    pub has : old.lent a.node a.page ≢ Unlent
    pub may : writes a.deed ≡ true → old.lent a.node a.page ≡ ToWrite
    pub does : Does a.offset a.deed (old.image a.node a.page) (new.image a.node a.page)
    pub others : (j q : ℕ) → IsApart a.node a.page j q → new.image j q ≡ old.image j q
    pub lent : (j q : ℕ) → new.lent j q ≡ old.lent j q
    pub world : new.world ≡ old.world

  -- this page alone of this node changes of what is lent, and for this
  pub record ChangesLent (i p : ℕ) (to : Lending) (old new : LentWorld) : Type 0 where
    pub here : new.lent i p ≡ to
    pub others : (j q : ℕ) → IsApart i p j q → new.lent j q ≡ old.lent j q
    pub world : new.world ≡ old.world

  -- A node lends a page of the heap that it has, for no more than it may do with it itself; it is not
  -- lent to write there. The image has the bytes that the node has, or has had them since the page
  -- was lent to read.
  pub record LendsPage (i p : ℕ) (to : Lending) (old new : LentWorld) : Type 0 where
    pub heap : 1 ≤ p
    pub inside : p < c.pages
    pub sound : LendsSoundly old
    pub lends : to ≢ Unlent
    pub suffices : SufficesFor (entries_in old.world i p) to
    pub less : old.lent i p ≢ ToWrite
    pub here : old.lent i p ≡ Unlent → new.image i p ≡ bytes_in old.world i p
    pub stays : old.lent i p ≢ Unlent → new.image i p ≡ old.image i p
    pub others : (j q : ℕ) → IsApart i p j q → new.image j q ≡ old.image j q
    pub changes : ChangesLent i p to old new

  -- A page is given back, whole or all but the right to read it. Where it was lent to write, the node
  -- has what stands in the image.
  pub record GivesBackPage (i p : ℕ) (on : Lending) (old new : LentWorld) : Type 0 where
    pub sound : LendsSoundly old
    pub had : old.lent i p ≢ Unlent
    pub less : on ≢ ToWrite
    pub stored : old.lent i p ≡ ToWrite → bytes_in old.world i p ≡ old.image i p
    pub image : (j q : ℕ) → new.image j q ≡ old.image j q
    pub changes : ChangesLent i p on old new

  abbrev pub HappensTo : Happening → LentWorld → LentWorld → Type 0
  HappensTo (Moved move) old new = Goes move old new
  HappensTo (Accessed a) old new = Touches a old new
  HappensTo (Lent i p to) old new = LendsPage i p to old new
  HappensTo (GivenBack i p on) old new = GivesBackPage i p on old new

  -- a node's record is its driver's, where it is of a page that is lent to write there
  abbrev pub made_where : Lending → Record → Made
  made_where Unlent r = Called r
  made_where ToRead r = Called r
  made_where ToWrite r = Kept r

  abbrev pub made_at : (ℕ → Lending) → Record → Asked → Made
  made_at lent r (asked.Word p w) = made_where (lent p) r
  made_at lent r (asked.Refused code) = Called r
  made_at lent r (asked.Heap k) = Called r

  -- what a record is, while pages are so lent
  abbrev pub made_as : (ℕ → ℕ → Lending) → Record → Made
  made_as lent r = made_at (lent r.node) r (asked_of c r.call)

  -- what happens adds these to what was made: a move, records of calls; an access, itself
  abbrev pub Adds : Happening → LentWorld → List Made → Type 0
  Adds (Moved move) old more = (records : List Record) × (more ≡ map (made_as old.lent) records)
  Adds (Accessed a) old more = more ≡ Pointed a ∷ []
  Adds (Lent i p to) old more = more ≡ []
  Adds (GivenBack i p on) old more = more ≡ []

  -- the records of what was made
  abbrev pub records_of : Made → List Record
  records_of (Called r) = r ∷ []
  records_of (Kept r) = r ∷ []
  records_of (Pointed a) = []

  abbrev pub records_in : List Made → List Record
  records_in [] = []
  records_in (m ∷ ms) = records_of m ++ records_in ms

  -- One flat memory makes all this, in its order. Each node's part of the calls is its history, then
  -- nothing, or a record of each call that it has in progress. And no page is lent to write at one
  -- node and lent at all at another.
  pub record IsOfOneMemory (l : LentWorld) (made : List Made) : Type 0 where
    pub legal : (end : Memory) × MakesAll c (first c) made end
    pub parts : (i : ℕ) (n : Node (Host Managed)) → slice_get l.world.nodes i ≡ Some n
        → (rest : List Record) × (part i (records_in made) ≡ n.core.history ++ rest)
        × IsOwed (answered_by n.core).asked rest
    pub apart : (i j p : ℕ) → l.lent i p ≡ ToWrite → j ≢ i → l.lent j p ≡ Unlent

  -- so it is, and after each that happens what was made goes on, at its end
  abbrev pub GoesOnLent : LentWorld → List Made → List Happening → Type 0
  GoesOnLent l made [] = IsOfOneMemory l made
  GoesOnLent l made (h ∷ hs) =
      IsOfOneMemory l made
      × ((mid : LentWorld) → HappensTo h l mid
      → (more : List Made) × Adds h l more × GoesOnLent mid (made ++ more) hs)

-- The law: from each opening of any programs on, with nothing lent, whatever happens, all calls of
-- nodes and all accesses that their programs make by pointers are of one flat memory, in the order
-- of time.
abbrev pub LentPagesAreFlat : Type 0
LentPagesAreFlat = (opened : Opening) (c : Config) → IsConfig c → (programs : List Program)
    → length programs ≡ c.nodes → (start : LentWorld)
    → start.world ≡ opening (managed_start opened) c programs
    → ((i p : ℕ) → start.lent i p ≡ Unlent)
    → (happenings : List Happening) → GoesOnLent c start [] happenings
