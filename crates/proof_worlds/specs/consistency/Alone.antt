-- Who carries out a word has its page alone, as far as the word asks.
use Rattle.std.specs.Prelude.{◌≡◌, ◌≢◌, ◌<◌, ℕ, true, List, [], ◌∷◌, ◌++◌, length, map, slice_get, All}
use Rattle.ivy_model.specs.declared.Call.{Call}
use Rattle.ivy_model.specs.declared.Config.{Config}
use Rattle.ivy_model.specs.declared.Record.{Record}
use Rattle.ivy_model.specs.stated.Config.{IsConfig}
use Rattle.ivy_model.specs.stated.Legal.{ServesAll}
use Rattle.ivy_model.specs.stated.Memory.{Memory, first}
use Rattle.ivy_model.specs.Memory.{flat_page}
use Rattle.ivy_pagetable.specs.declared.Entry.{Entry}
use Rattle.ivy_pagetable.specs.declared.Word.{Word}
use Rattle.ivy_pagetable.specs.stated.Entries.{readable, writable}
use Rattle.ivy_pagetable.specs.stated.Words.{needs_write}
use Rattle.ivy_program.specs.stated.Programs.{Program}
use Rattle.ivy_moves.specs.declared.moves.Move.{Move}
use Rattle.ivy_moves.specs.stated.Cores.{Core}
use Rattle.ivy_moves.specs.stated.Explained.{IsExplainedAfter}
use Rattle.ivy_moves.specs.stated.Nodes.{Node}
use Rattle.ivy_moves.specs.stated.Worlds.{World, Moves}
use Rattle.ivy_memory.specs.declared.Asked.TheVariants as asked
use Rattle.ivy_memory.specs.stated.Asking.{asked_of}
use Rattle.ivy_host.specs.stated.Hosts.{Host, host_rules, answered_by}
use Rattle.ivy_host.specs.stated.Managers.{managed_ops}
use Rattle.ivy_host.specs.declared.opening.Opening.{Opening}
use Rattle.ivy_host.specs.stated.Openings.{managed_start, opening}
use Rattle.proof_worlds.specs.stated.Nets.{entry_of, page_of}

-- a node with this entry may not write the page, nor, where the word writes, read it
pub record HasNoPart (e : Entry) (w : Word) : Type 0 where
  pub none_writes : writable e ≢ true
  pub none_has : needs_write w ≡ true → readable e ≢ true

-- of the page of a call that is a word, no node with these entries but this one has a part
abbrev pub IsAlone : Config → (ℕ → ℕ → Entry) → ℕ → Call → Type 0
IsAlone c entry node call = (page : ℕ) (word : Word) → asked_of c call ≡ asked.Word page word
    → (j : ℕ) → j ≢ node → HasNoPart (entry j page) word

-- so it is of the nodes of all these records
abbrev pub AreAlone : Config → (ℕ → ℕ → Entry) → List Record → Type 0
AreAlone c entry records = All (λ (r : Record). IsAlone c entry r.node r.call) records

-- the record is this node's, if it is of a word
abbrev pub IsOf : Config → ℕ → Record → Type 0
IsOf c node r =
    (page : ℕ) (word : Word) → asked_of c r.call ≡ asked.Word page word → r.node ≡ node

abbrev pub AreOf : Config → ℕ → List Record → Type 0
AreOf c node records = All (IsOf c node) records

-- the entries of the nodes of a world
abbrev pub entries_in : {S : Type 0} → World (Host S) → ℕ → ℕ → Entry
entries_in {S} w i page =
    entry_of (slice_get (map (λ (n : Node (Host S)). n.core) w.nodes) i) page

-- the bytes that the nodes of a world have of pages
abbrev pub bytes_in : {S : Type 0} → World (Host S) → ℕ → ℕ → List ℕ
bytes_in {S} w i page =
    page_of (slice_get (map (λ (n : Node (Host S)). n.core) w.nodes) i) page

-- each page that a node may read has the bytes that the flat memory has of it after these records
abbrev pub AreCurrent : {S : Type 0} → Config → World (Host S) → List Record → Type 0
AreCurrent c w order = (memory : Memory) × ServesAll c (first c) order memory
    × ((i page : ℕ) → page < c.pages → readable (entries_in w i page) ≡ true
    → bytes_in w i page ≡ flat_page c memory page)

-- The order explains this world, and tears no calls apart; and the pages that may be read are current
-- by it. After each of the moves one that goes on from it does so; and what it has more was carried
-- out while, by the entries before the move, no other node had a part in its page.
abbrev pub GoesOnAlone : {S : Type 0} → Core (Host S) → Config → List (World (Host S)) → World (Host S)
    → List Record → List Move → Type 0
GoesOnAlone rules c past w order [] =
    IsExplainedAfter rules c answered_by past w order × AreCurrent c w order
GoesOnAlone {S} rules c past w order (move ∷ moves) =
    IsExplainedAfter rules c answered_by past w order × AreCurrent c w order
    × ((mid : World (Host S)) → Moves rules c w move mid
    → (more : List Record) × AreAlone c (entries_in w) more
    × GoesOnAlone rules c (w ∷ past) mid (order ++ more) moves)

-- the law: so it goes on from each opening of any programs, whatever moves are made
abbrev pub WordsAreCarriedAlone : Type 0
WordsAreCarriedAlone = (opened : Opening) (c : Config) → IsConfig c → (programs : List Program)
    → length programs ≡ c.nodes → (moves : List Move)
    → GoesOnAlone (host_rules managed_ops) c [] (opening (managed_start opened) c programs) [] moves
