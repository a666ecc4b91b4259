-- Pages that nodes lend to their programs, which access the bytes of images of them by pointers.
use Rattle.std.specs.Prelude.{◌≡◌, ◌≢◌, ◌⊎◌, ℕ, ◌+◌, ◌*◌, ◌-◌, ◌/◌, ◌<◌, ◌≤◌, Bool, true, false, List, [], ◌∷◌, ◌++◌, length, take, drop, None}
use Rattle.ivy_model.specs.declared.Act.{Act}
use Rattle.ivy_model.specs.declared.Act.TheVariants as act
use Rattle.ivy_model.specs.declared.Call.{Call}
use Rattle.ivy_model.specs.declared.CallKind.TheVariants as kind
use Rattle.ivy_model.specs.declared.Config.{Config}
use Rattle.ivy_model.specs.declared.Record.{Record}
use Rattle.ivy_model.specs.stated.Accesses.{kind_of_call}
use Rattle.ivy_model.specs.stated.Config.{IsConfig}
use Rattle.ivy_model.specs.stated.Legal.{Makes}
use Rattle.ivy_model.specs.stated.Memory.{Memory, first}
use Rattle.ivy_model.specs.stated.Serves.{access_refusal, overwrite}
use Rattle.ivy_model.specs.Memory.{flat_page}

-- for what a page is lent to a node's program
pub data Lending : Type 0 where
  Unlent : Lending
  ToRead : Lending
  ToWrite : Lending

-- What a program does by a pointer with bytes of a page: a load is given those that stand there, a
-- store puts these there, and an atomic operation that writes does both. One that does not write is a
-- load.
pub data Deed : Type 0 where
  Loads : (given : List ℕ) → Deed
  Stores : (put : List ℕ) → Deed
  Exchanges : (given put : List ℕ) → Deed

-- what the program of a node does with bytes of one page, from this offset on
pub record Access : Type 0 where
  pub node : ℕ
  pub page : ℕ
  pub offset : ℕ
  pub deed : Deed

abbrev pub writes : Deed → Bool
writes (Loads given) = false
writes (Stores put) = true
writes (Exchanges given put) = true

-- the bytes lie within a page of this size, from the offset on
abbrev pub IsWithin : ℕ → ℕ → Deed → Type 0
IsWithin size offset (Loads given) = offset + length given ≤ size
IsWithin size offset (Stores put) = offset + length put ≤ size
IsWithin size offset (Exchanges given put) =
    (offset + length given ≤ size) × (offset + length put ≤ size)

-- the page is one of the heap, and the bytes lie within it
pub record IsInside (c : Config) (a : Access) : Type 0 where
  pub heap : 1 ≤ a.page
  pub page : a.page < c.pages
  pub within : IsWithin c.page_size a.offset a.deed

-- these bytes stand among those, from this place on
abbrev pub StandAt : ℕ → List ℕ → List ℕ → Type 0
StandAt place given bytes = take (length given) (drop place bytes) ≡ given

-- the deed, done with bytes from this place on, makes those of these
abbrev pub Does : ℕ → Deed → List ℕ → List ℕ → Type 0
Does place (Loads given) old new = StandAt place given old × (new ≡ old)
Does place (Stores put) old new = new ≡ overwrite old place put
Does place (Exchanges given put) old new = StandAt place given old × (new ≡ overwrite old place put)

-- where the access begins among the bytes of the heap
abbrev pub place_of : Config → Access → ℕ
place_of c a = a.page * c.page_size + a.offset - c.page_size

-- one flat memory makes the access
pub record Accesses (c : Config) (old : Memory) (a : Access) (new : Memory) : Type 0 where
  pub inside : IsInside c a
  pub does : Does (place_of c a) a.deed old.bytes new.bytes
  pub counts : new.counts ≡ old.counts
  pub blocks : new.blocks ≡ old.blocks

-- What nodes made: a call, that a program made; a call of a driver, which loads or stores bytes of a
-- page that is lent to its program; an access by a pointer.
pub data Made : Type 0 where
  Called : Record → Made
  Kept : Record → Made
  Pointed : Access → Made

-- one flat memory makes it; what a driver did with a page that is lent changes nothing there
abbrev pub MakesOne : Config → Memory → Made → Memory → Type 0
MakesOne c old (Called r) new = Makes c old r new
MakesOne c old (Kept r) new = new ≡ old
MakesOne c old (Pointed a) new = Accesses c old a new

-- and one after another
abbrev pub MakesAll : Config → Memory → List Made → Memory → Type 0
MakesAll c old [] new = new ≡ old
MakesAll c old (m ∷ ms) new = (mid : Memory) × MakesOne c old m mid × MakesAll c mid ms new

-- the nodes: the flat memory that explains their calls, what each page is lent for to each node's
-- program, and the image that the program has of it
pub record State : Type 0 where
  pub memory : Memory
  pub lent : ℕ → ℕ → Lending
  pub image : ℕ → ℕ → List ℕ

-- what happens: something is made; node i lends a page for this; node i's program gives a page back,
-- but for this
pub data Event : Type 0 where
  Make : Made → Event
  Lend : (i p : ℕ) (to : Lending) → Event
  GiveBack : (i p : ℕ) (on : Lending) → Event

-- the call is this access to a word of this page, and is not refused
pub record IsWordOf (c : Config) (call : Call) (page : ℕ) (a : Act) : Type 0 where
  pub width : ℕ
  pub addr : ℕ
  pub is : kind_of_call call ≡ kind.Word width addr a
  pub allowed : access_refusal c width addr ≡ None
  pub there : page ≡ addr / c.page_size

-- nothing is lent or given back, and no image changes
pub record SameImages (old new : State) : Type 0 where
  pub lent : (i q : ℕ) → new.lent i q ≡ old.lent i q
  pub image : (i q : ℕ) → new.image i q ≡ old.image i q

-- another node, or another page
abbrev pub IsApart : ℕ → ℕ → ℕ → ℕ → Type 0
IsApart i p j q = (j ≢ i) ⊎ (q ≢ p)

-- this page alone of this node changes of what is lent, and for this
pub record Lends (i p : ℕ) (to : Lending) (old new : State) : Type 0 where
  pub here : new.lent i p ≡ to
  pub others : (j q : ℕ) → IsApart i p j q → new.lent j q ≡ old.lent j q

-- A call is carried out. A word of a page is while nobody has the page lent to write; where it may
-- write, while nobody has it lent at all.
pub record Calls (c : Config) (r : Record) (old new : State) : Type 0 where
  pub makes : Makes c old.memory r new.memory
  pub none_writes : (p : ℕ) (a : Act) → IsWordOf c r.call p a → (j : ℕ) → old.lent j p ≢ ToWrite
  pub none_has : (p : ℕ) (a : Act) → IsWordOf c r.call p a → a ≢ act.Load → (j : ℕ)
      → old.lent j p ≡ Unlent
  pub same : SameImages old new

-- a driver's call is carried out: a load of a page that is lent to its program, or any access to one
-- that is lent to write
pub record Keeps (c : Config) (r : Record) (old new : State) : Type 0 where
  pub makes : Makes c old.memory r new.memory
  pub page : ℕ
  pub access : Act
  pub word : IsWordOf c r.call page access
  pub has : old.lent r.node page ≢ Unlent
  pub may : access ≢ act.Load → old.lent r.node page ≡ ToWrite
  pub same : SameImages old new

-- a program accesses its image of a page that is lent to it, to write where it writes
pub record Points (c : Config) (a : Access) (old new : State) : Type 0 where
  pub inside : IsInside c a
  pub has : old.lent a.node a.page ≢ Unlent
  pub may : writes a.deed ≡ true → old.lent a.node a.page ≡ ToWrite
  pub does : Does a.offset a.deed (old.image a.node a.page) (new.image a.node a.page)
  pub others : (j q : ℕ) → IsApart a.node a.page j q → new.image j q ≡ old.image j q
  pub lent : (j q : ℕ) → new.lent j q ≡ old.lent j q
  pub memory : new.memory ≡ old.memory

-- A page of the heap is lent while nobody has it lent to write, and to write while nobody else has it
-- lent at all. The image has the page's bytes then, or has had them since it was lent to read.
pub record IsLent (c : Config) (i p : ℕ) (to : Lending) (old new : State) : Type 0 where
  pub heap : 1 ≤ p
  pub inside : p < c.pages
  pub none_writes : (j : ℕ) → old.lent j p ≢ ToWrite
  pub alone : to ≡ ToWrite → (j : ℕ) → j ≢ i → old.lent j p ≡ Unlent
  pub lends : Lends i p to old new
  pub here : old.lent i p ≡ Unlent → new.image i p ≡ flat_page c old.memory p
  pub stays : old.lent i p ≢ Unlent → new.image i p ≡ old.image i p
  pub others : (j q : ℕ) → IsApart i p j q → new.image j q ≡ old.image j q
  pub memory : new.memory ≡ old.memory

-- A page is given back, whole or all but the right to read it. Where it was lent to write, what stands
-- in the image was stored before.
pub record IsGivenBack (c : Config) (i p : ℕ) (on : Lending) (old new : State) : Type 0 where
  pub had : old.lent i p ≢ Unlent
  pub less : on ≢ ToWrite
  pub stored : old.lent i p ≡ ToWrite → old.image i p ≡ flat_page c old.memory p
  pub lends : Lends i p on old new
  pub image : (j q : ℕ) → new.image j q ≡ old.image j q
  pub memory : new.memory ≡ old.memory

abbrev pub Happens : Config → Event → State → State → Type 0
Happens c (Make (Called r)) old new = Calls c r old new
Happens c (Make (Kept r)) old new = Keeps c r old new
Happens c (Make (Pointed a)) old new = Points c a old new
Happens c (Lend i p to) old new = IsLent c i p to old new
Happens c (GiveBack i p on) old new = IsGivenBack c i p on old new

abbrev pub HappenAll : Config → State → List Event → State → Type 0
HappenAll c old [] new = new ≡ old
HappenAll c old (e ∷ es) new = (mid : State) × Happens c e old mid × HappenAll c mid es new

-- what was made, in the order of time
abbrev pub made_by : Event → List Made
made_by (Make m) = m ∷ []
made_by (Lend i p to) = []
made_by (GiveBack i p on) = []

abbrev pub made_in : List Event → List Made
made_in [] = []
made_in (e ∷ es) = made_by e ++ made_in es

-- nothing was called yet, and nothing is lent
pub record IsFirst (c : Config) (s : State) : Type 0 where
  pub memory : s.memory ≡ first c
  pub unlent : (i p : ℕ) → s.lent i p ≡ Unlent

-- Programs see this one memory: it has the bytes of each image that is lent, and, of each page of the
-- heap that is lent to write at no node, those of the memory of the calls. No page is lent to write at
-- one node and lent at all at another.
pub record Sees (c : Config) (s : State) (seen : Memory) : Type 0 where
  pub lent : (i p : ℕ) → s.lent i p ≢ Unlent → s.image i p ≡ flat_page c seen p
  pub unlent : (p : ℕ) → 1 ≤ p → p < c.pages → ((i : ℕ) → s.lent i p ≢ ToWrite)
      → flat_page c s.memory p ≡ flat_page c seen p
  pub alone : (i j p : ℕ) → s.lent i p ≡ ToWrite → j ≢ i → s.lent j p ≡ Unlent

-- The law: whatever programs do, all that they made, calls and accesses by pointers, is of one flat
-- memory, in the order in which it was made.
abbrev pub MappedAccessesAreFlat : Type 0
MappedAccessesAreFlat = (c : Config) → IsConfig c → (start end : State) (es : List Event)
    → IsFirst c start → HappenAll c start es end
    → (seen : Memory) × MakesAll c (first c) (made_in es) seen × Sees c end seen
