-- Nodes that a program drives by the functions of a C header.
use Rattle.std.specs.Prelude.{◌≡◌, ◌≢◌, ◌⊎◌, ℕ, zero, suc, ◌+◌, List, [], ◌∷◌, ◌++◌, take, map, slice_get, slice_set, Some, All, Contains}
use Rattle.ivy_model.specs.declared.Config.{Config}
use Rattle.ivy_model.specs.declared.Record.{Record}
use Rattle.ivy_model.specs.declared.Row.TheVariants.{Loads, Stores}
use Rattle.ivy_model.specs.stated.Config.{IsConfig}
use Rattle.ivy_program.specs.stated.Programs.{Program}
use Rattle.ivy_moves.specs.stated.Explained.{IsUntorn, IsExplainedBy}
use Rattle.ivy_moves.specs.stated.Nodes.{Node}
use Rattle.ivy_moves.specs.stated.Worlds.{World}
use Rattle.ivy_host.specs.declared.opening.Opening.{Opening}
use Rattle.ivy_host.specs.stated.Hosts.{Host, host_rules, answered_by}
use Rattle.ivy_host.specs.stated.Managers.{Managed, managed_ops}
use Rattle.ivy_embedded.specs.Blocks.{RefusesBlock, RefusesStores, StoresNoneRead}
use Rattle.ivy_embedded.specs.Nodes.{Embedded, opened_embedded}
use Rattle.ivy_embedded.specs.Exports.{Answers, Begins, BeginsBlock, CarriesOut, Delivers, IsRequest, Polls, Pulses, RefusesCall, RefusesPoll, RefusesPulse, RefusesString, TakesAt, TakesBlock, marks_at}
use Rattle.ivy_embedded.specs.Fetches.{Fetches, RefusesFetch}
use Rattle.ivy_embedded.specs.declared.status.TheConstants.{DONE}
use Rattle.proof_worlds.specs.stated.Keeping.{Keeps}

-- what the program asks of a node; the five numbers are those that a call is begun with, and a block
-- is read or written from an address on, or begun, and then taken, with these bytes of its buffer; a
-- page is fetched ahead for what a number says
pub data Request : Type 0 where
  Begin : ℕ → ℕ → ℕ → ℕ → ℕ → Request
  Reply : Request
  LoadBlock : ℕ → Request
  StoreBlock : ℕ → List ℕ → Request
  BeginLoadBlock : ℕ → List ℕ → Request
  BeginStoreBlock : ℕ → List ℕ → Request
  TakeLoadBlock : ℕ → Request
  TakeStoreBlock : ℕ → List ℕ → Request
  Fetch : (page number : ℕ) → Request
  Deliver : List ℕ → Request
  NextFrame : Request
  Pulse : ℕ → Request

-- the nodes by number, and the strings that were taken out of them
pub record Driven : Type 0 where
  pub nodes : List Embedded
  pub strings : List (List ℕ)

-- the string in the buffer was taken out, where the status says so
abbrev pub TakesOut : ℕ → List ℕ → ℕ → List (List ℕ) → List (List ℕ) → Type 0
TakesOut status buffer len strings more =
    ((status ≡ DONE) × (more ≡ strings ++ take len buffer ∷ []))
    ⊎ ((status ≢ DONE) × (more ≡ strings))

-- what the function does to the node, by its contract, whatever it answers; only a string that was
-- taken out before is delivered
abbrev pub Does : Request → List (List ℕ) → Embedded → Embedded → List (List ℕ) → Type 0
Does (Begin kind width place operand expected) strings s t more = (more ≡ strings)
    × ((status before value : ℕ) × Answers status (Some s) (Some t)
    (Begins (IsRequest kind width place operand expected) status before value)
    (RefusesCall (IsRequest kind width place operand expected) status))
Does Reply strings s t more = (more ≡ strings)
    × ((status before value : ℕ) × Answers status (Some s) (Some t) (Polls status before value)
    (RefusesPoll status))
Does (LoadBlock addr) strings s t more = (more ≡ strings)
    × ((status words : ℕ) × (buffer : List ℕ) × Answers status (Some s) (Some t)
    (CarriesOut Loads addr buffer status words) (λ _. ⊥))
Does (StoreBlock addr bytes) strings s t more = (more ≡ strings)
    × ((status words : ℕ) × Answers status (Some s) (Some t)
    (CarriesOut Stores addr bytes status words) (RefusesStores addr status)
    × StoresNoneRead addr status words (Some s))
Does (BeginLoadBlock addr bytes) strings s t more = (more ≡ strings)
    × ((status words : ℕ) × Answers status (Some s) (Some t)
    (BeginsBlock Loads addr bytes status words) (RefusesBlock addr status))
Does (BeginStoreBlock addr bytes) strings s t more = (more ≡ strings)
    × ((status words : ℕ) × Answers status (Some s) (Some t)
    (BeginsBlock Stores addr bytes status words) (RefusesBlock addr status))
Does (TakeLoadBlock addr) strings s t more = (more ≡ strings)
    × ((status words : ℕ) × (buffer : List ℕ) × Answers status (Some s) (Some t)
    (TakesBlock Loads addr buffer status words) (λ _. ⊥))
Does (TakeStoreBlock addr bytes) strings s t more = (more ≡ strings)
    × ((status words : ℕ) × Answers status (Some s) (Some t)
    (TakesBlock Stores addr bytes status words) (λ _. ⊥))
Does (Fetch page number) strings s t more = (more ≡ strings)
    × ((status told : ℕ) × Answers status (Some s) (Some t) (Fetches page number status told)
    (RefusesFetch page number status))
Does (Deliver bytes) strings s t more = (more ≡ strings) × Contains strings bytes
    × ((status what : ℕ) × Answers status (Some s) (Some t) (Delivers bytes status what)
    (RefusesString bytes status))
Does NextFrame strings s t more = (status len dest : ℕ) × (buffer : List ℕ)
    × TakesAt status buffer len dest (Some s) (Some t) × TakesOut status buffer len strings more
    × (marks_at (Some t) ≡ marks_at (Some s))
Does (Pulse to) strings s t more = (more ≡ strings)
    × ((status : ℕ) × Answers status (Some s) (Some t) (Pulses to status) (RefusesPulse to status))

-- the request is made of node i, and the other nodes stay as they are
pub record Asks (i : ℕ) (request : Request) (old new : Driven) : Type 0 where
  pub before : Embedded
  pub there : slice_get old.nodes i ≡ Some before
  pub after : Embedded
  pub does : Does request old.strings before after new.strings
  pub nodes : new.nodes ≡ slice_set old.nodes i after

-- the requests, each with its node, made one after another, lead from the one to the other
abbrev pub DrivesTo : Driven → List (ℕ × Request) → Driven → Type 0
DrivesTo d [] end = end ≡ d
DrivesTo d (request ∷ requests) end =
    (mid : Driven) × Asks request.0 request.1 d mid × DrivesTo mid requests end

-- nodes from this number on, so many, which all began so, and none of which made a call yet
abbrev pub first_from : Opening → Config → ℕ → ℕ → List Embedded
first_from o c me zero = []
first_from o c me (suc left) = opened_embedded o c me ∷ first_from o c (me + 1) left

-- all nodes of a configuration, by one opening, and no string was taken out
abbrev pub opened : Opening → Config → Driven
opened o c = record { nodes = first_from o c 0 c.nodes; strings = [] }

abbrev pub node_in : Embedded → Node (Host Managed)
node_in e = e.site.node

-- the calls that were begun at the node, and the pages that were fetched ahead there
abbrev pub program_in : Embedded → Program
program_in e = e.site.node.core.process.program

-- the nodes as they were before each of the requests, and as they are at the end, the latest first,
-- where these were before
abbrev pub moments : List Driven → (requests : List (ℕ × Request)) (d end : Driven)
    → DrivesTo d requests end → List Driven
moments past [] d end led = d ∷ past
moments past (request ∷ requests) d end led = moments (d ∷ past) requests led.0 end led.2

-- the order tears no calls apart that one of these nodes has in progress together
abbrev pub AreUntorn : List Record → Driven → Type 0
AreUntorn order d = (i : ℕ) (e : Embedded) → slice_get d.nodes i ≡ Some e
    → IsUntorn order i (answered_by (node_in e).core)

-- they are the nodes of a world that moves lead to from this opening of programs that make the
-- calls begun and fetch the pages fetched, all that is promised of such a world holds of it, and the
-- strings were sent in it; an order explains it, and tears no calls apart that a node had in progress
-- together at such a moment
pub record AreOfOneRun (o : Opening) (c : Config) (past : List Driven) (d : Driven)
    : Type 0 where
  pub world : World (Host Managed)
  pub keeps : Keeps (record {
    config = c;
    opened = o;
    programs = map program_in d.nodes;
    world = world;
  })
  pub nodes : world.nodes ≡ map node_in d.nodes
  pub sent : (bytes : List ℕ) → Contains d.strings bytes → Contains world.sent bytes
  pub order : List Record
  pub explained : IsExplainedBy (host_rules managed_ops) c answered_by world order
  pub untorn : All (AreUntorn order) past

abbrev pub DrivenNodesAreOfOneRun : Type 0
DrivenNodesAreOfOneRun = (o : Opening) (c : Config) → IsConfig c
    → (requests : List (ℕ × Request)) (d : Driven)
    → (led : DrivesTo (opened o c) requests d)
    → AreOfOneRun o c (moments [] requests (opened o c) d led) d
