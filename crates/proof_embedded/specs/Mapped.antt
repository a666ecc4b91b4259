-- Nodes that a program drives by the functions of a C header, and that lend it pages, which it
-- accesses by pointers.
use Rattle.std.specs.Prelude.{◌≡◌, ◌≢◌, ℕ, ◌*◌, ◌/◌, ◌<◌, true, List, [], ◌∷◌, ◌++◌, length, map, slice_get, slice_set, Option, Some, None, All, Contains}
use Rattle.ivy_model.specs.declared.Config.{Config}
use Rattle.ivy_model.specs.declared.Record.{Record}
use Rattle.ivy_model.specs.stated.Config.{IsConfig}
use Rattle.ivy_model.specs.stated.Explains.{part, IsOwed}
use Rattle.ivy_model.specs.stated.Memory.{Memory, first}
use Rattle.ivy_pagetable.specs.stated.Tables.{page_at}
use Rattle.ivy_moves.specs.stated.Worlds.{World}
use Rattle.ivy_host.specs.declared.opening.Opening.{Opening}
use Rattle.ivy_host.specs.stated.Hosts.{Host, answered_by}
use Rattle.ivy_host.specs.stated.Managers.{Managed}
use Rattle.ivy_embedded.specs.declared.lending.Lending.{Lending as Mark}
use Rattle.ivy_embedded.specs.declared.lending.Lending.TheVariants as mark
use Rattle.ivy_embedded.specs.Blocks.{HasWords}
use Rattle.ivy_embedded.specs.Exports.{Answers}
use Rattle.ivy_embedded.specs.Lending.{LendsSoundly, lending_at}
use Rattle.ivy_embedded.specs.LentPages.{GivesBack, GoesOnFor, Lends, RefusesGiveBack, RefusesLend, RefusesPeer, TellsWanted}
use Rattle.ivy_embedded.specs.Nodes.{Embedded}
use Rattle.proof_worlds.specs.stated.Keeping.{Keeps}
use Rattle.proof_lent.specs.Lent.{Lending, Unlent, ToRead, ToWrite, Access, writes, Does, IsInside, Made, Pointed, MakesAll, IsApart}
use Rattle.proof_lent.specs.LentWorlds.{made_as, records_in}
use Rattle.proof_embedded.specs.Driven.{Request, Driven, Asks, opened, node_in, program_in}

-- the nodes by number, with the strings that were taken out of them, and of each node and page the
-- image that the node's program has of it
pub record Mapped : Type 0 where
  pub driven : Driven
  pub image : ℕ → ℕ → List ℕ

-- What happens: a function of node i that lends nothing is called; a page is lent, or given back, for
-- what this number says; node i goes on with strings of another node that it held; it is asked what a
-- string would take; the program of a node accesses bytes of an image by a pointer.
pub data Happening : Type 0 where
  Ask : (i : ℕ) → Request → Happening
  Lend : (i page number : ℕ) → Happening
  GiveBack : (i page number : ℕ) → Happening
  GoOn : (i peer : ℕ) → Happening
  Look : (i : ℕ) → List ℕ → Happening
  Point : Access → Happening

-- what a page is lent for
abbrev pub lending_of : Mark → Lending
lending_of mark.Unlent = Unlent
lending_of mark.ToRead = ToRead
lending_of mark.ToWrite = ToWrite

-- and to the program of this node, if there is one
abbrev pub lent_by : Option Embedded → ℕ → Lending
lent_by None page = Unlent
lent_by (Some e) page = lending_of (lending_at e page)

abbrev pub lent_in : Mapped → ℕ → ℕ → Lending
lent_in m i page = lent_by (slice_get m.driven.nodes i) page

-- the bytes that the node has of a page
abbrev pub bytes_at : Embedded → ℕ → List ℕ
bytes_at e page = page_at (node_in e).core.memory.coherence.table page

-- a page of so many bytes has these
abbrev pub AreBytesOf : ℕ → List ℕ → Type 0
AreBytesOf size bytes = (length bytes ≡ size) × All (λ b. b < 256) bytes

-- The law of blocks: a buffer of a whole page whose words are those of the node has its page's bytes.
abbrev pub BlocksArePages : Type 0
BlocksArePages = (c : Config) → IsConfig c → (e : Embedded) → e.site.config ≡ c
    → (page : ℕ) (buffer : List ℕ) → AreBytesOf c.page_size buffer
    → AreBytesOf c.page_size (bytes_at e page)
    → HasWords (page * c.page_size) (c.page_size / 8) buffer e → buffer ≡ bytes_at e page

-- Premise: while a page is lent, nobody changes the image of it but the program, by pointers.
abbrev pub LeavesImages : Mapped → Mapped → Type 0
LeavesImages old new =
    (j q : ℕ) → lent_in old j q ≢ Unlent → new.image j q ≡ old.image j q

-- a function of node i that lends nothing is called
pub record IsAsked (i : ℕ) (request : Request) (old new : Mapped) : Type 0 where
  pub asks : Asks i request old.driven new.driven
  -- as each function says of the node that it leaves
  pub sound : LendsSoundly asks.after
  pub images : LeavesImages old new

-- a function of node i is called that lends, or looks: these are the node before it and after it, and
-- the others stay as they are
pub record IsCalled (i : ℕ) (old new : Mapped) : Type 0 where
  pub before : Embedded
  pub there : slice_get old.driven.nodes i ≡ Some before
  pub after : Embedded
  pub nodes : new.driven.nodes ≡ slice_set old.driven.nodes i after
  pub strings : new.driven.strings ≡ old.driven.strings
  pub sound : LendsSoundly after

pub record IsLent (i page number : ℕ) (old new : Mapped) : Type 0 where
  pub call : IsCalled i old new
  pub status : ℕ
  pub does : Answers status (Some call.before) (Some call.after) (Lends page number status)
      (RefusesLend page number status)
  pub images : LeavesImages old new
  -- Premise: where a page is lent that was not, its image has the bytes that the node has.
  pub shown : lending_at call.before page ≡ mark.Unlent
      → lending_at call.after page ≢ mark.Unlent → new.image i page ≡ bytes_at call.before page

pub record IsGivenBack (i page number : ℕ) (old new : Mapped) : Type 0 where
  pub call : IsCalled i old new
  pub status : ℕ
  pub does : Answers status (Some call.before) (Some call.after) (GivesBack page number status)
      (RefusesGiveBack page number status)
  pub images : LeavesImages old new
  -- Premise: where a page is given back that was lent to be written, the node has what stands in its
  -- image.
  pub stored : lending_at call.before page ≡ mark.ToWrite
      → lending_at call.after page ≢ mark.ToWrite → bytes_at call.before page ≡ old.image i page

pub record GoesOn (i peer : ℕ) (old new : Mapped) : Type 0 where
  pub call : IsCalled i old new
  pub status : ℕ
  pub page : ℕ
  pub on : ℕ
  pub does : Answers status (Some call.before) (Some call.after) (GoesOnFor peer status page on)
      (RefusesPeer peer status)
  pub images : LeavesImages old new

pub record IsLookedAt (i : ℕ) (bytes : List ℕ) (old new : Mapped) : Type 0 where
  pub call : IsCalled i old new
  pub status : ℕ
  pub page : ℕ
  pub on : ℕ
  pub does : Answers status (Some call.before) (Some call.after) (TellsWanted bytes status page on)
      (λ _. ⊥)
  pub images : LeavesImages old new

-- Premise: a program accesses the image of a page by a pointer while the page is lent to it, to be
-- written where it writes. A load gives what stands there.
pub record IsPointed (c : Config) (a : Access) (old new : Mapped) : Type 0 where
  pub driven : new.driven ≡ old.driven
  pub inside : IsInside c a
  pub has : lent_in old a.node a.page ≢ Unlent
  pub may : writes a.deed ≡ true → lent_in old a.node a.page ≡ ToWrite
  pub does : Does a.offset a.deed (old.image a.node a.page) (new.image a.node a.page)
  pub images : (j q : ℕ) → IsApart a.node a.page j q → lent_in old j q ≢ Unlent
      → new.image j q ≡ old.image j q

module _ (c : Config) where
  abbrev pub HappensSo : Happening → Mapped → Mapped → Type 0
  HappensSo (Ask i request) old new = IsAsked i request old new
  HappensSo (Lend i page number) old new = IsLent i page number old new
  HappensSo (GiveBack i page number) old new = IsGivenBack i page number old new
  HappensSo (GoOn i peer) old new = GoesOn i peer old new
  HappensSo (Look i bytes) old new = IsLookedAt i bytes old new
  HappensSo (Point a) old new = IsPointed c a old new

  -- all this happens, one after another
  abbrev pub HappenTo : Mapped → List Happening → Mapped → Type 0
  HappenTo m [] end = end ≡ m
  HappenTo m (h ∷ hs) end = (mid : Mapped) × HappensSo h m mid × HappenTo mid hs end

  -- what happens adds these to what was made: an access by a pointer, itself; a function that is
  -- called, records of calls, which are a driver's where they are of a page that is lent to be written
  abbrev pub AddsMade : Happening → Mapped → List Made → Type 0
  AddsMade (Point a) m more = more ≡ Pointed a ∷ []
  AddsMade h m more = (records : List Record) × (more ≡ map (made_as c (lent_in m)) records)

  -- One flat memory makes all this, in its order. Each node's part of the calls is its history, then
  -- nothing, or a record of each call that it has in progress. And no page is lent to be written at
  -- one node and lent at all at another.
  pub record AreOfOneMemory (m : Mapped) (made : List Made) : Type 0 where
    pub legal : (end : Memory) × MakesAll c (first c) made end
    pub parts : (i : ℕ) (e : Embedded) → slice_get m.driven.nodes i ≡ Some e
        → (rest : List Record)
        × (part i (records_in c made) ≡ (node_in e).core.history ++ rest)
        × IsOwed (answered_by (node_in e).core).asked rest
    pub apart : (i j p : ℕ) → lent_in m i p ≡ ToWrite → j ≢ i → lent_in m j p ≡ Unlent

  -- so it is at each moment: what was made goes on, at its end, with what each that happens adds
  abbrev pub GrowAsOneMemory : (m : Mapped) → List Made → (hs : List Happening) (end : Mapped)
      → HappenTo m hs end → Type 0
  GrowAsOneMemory m made [] end led = AreOfOneMemory m made
  GrowAsOneMemory m made (h ∷ hs) end led = AreOfOneMemory m made
      × ((more : List Made) × AddsMade h m more
      × GrowAsOneMemory led.0 (made ++ more) hs end led.2)

  -- the nodes are those of a world that moves lead to from this opening of programs that make the
  -- calls begun and fetch the pages fetched, all that is promised of such a world holds of it, and the
  -- strings were sent in it
  pub record AreOfOneWorld (o : Opening) (d : Driven) : Type 0 where
    pub world : World (Host Managed)
    pub keeps : Keeps (record {
      config = c;
      opened = o;
      programs = map program_in d.nodes;
      world = world;
    })
    pub nodes : world.nodes ≡ map node_in d.nodes
    pub sent : (bytes : List ℕ) → Contains d.strings bytes → Contains world.sent bytes

-- The law: of nodes that a program drives from an opening on, with whatever accesses to what they
-- lend between the calls, all calls and accesses are of one flat memory, in the order of time.
abbrev pub NodesThatLendAreFlat : Type 0
NodesThatLendAreFlat = (o : Opening) (c : Config) → IsConfig c → (start : Mapped)
    → start.driven ≡ opened o c → (happenings : List Happening) (end : Mapped)
    → (led : HappenTo c start happenings end)
    → GrowAsOneMemory c start [] happenings end led × AreOfOneWorld c o end.driven
