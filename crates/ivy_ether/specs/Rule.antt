-- The rule over what the ether holds and over what its passes know, and what a step asks of a pass.
use Rattle.std.specs.Prelude.{◌≡◌, ℕ, ◌+◌, ◌<◌, ◌≤◌, ◌==◌, ◌++◌, Bool, true, false, Option, Some, None, List, [], ◌∷◌, length, Contains, if◌then◌else◌}
use mathlib.Core.Option.{some}
use lib.ListN.{get_elem?}
use Rattle.ivy_model.specs.declared.Config.{Config}
use Rattle.ivy_moves.specs.Carrying.{IsUnseen, IsChangedBy}
use Rattle.ivy_moves.specs.stated.Cores.{Core}
use Rattle.ivy_moves.specs.Marks.{Mark}
use Rattle.ivy_moves.specs.Parts.{AreParts}
use Rattle.ivy_moves.specs.stated.Worlds.{World}
use Rattle.ivy_ether.specs.Data.{Item}
use Rattle.ivy_ether.specs.declared.item.Item.TheVariants.{Seat, Frame, Report}
use Rattle.ivy_ether.specs.Going.{ListGoesOn, Sends}
use Rattle.ivy_ether.specs.Handings.{Handing}
use Rattle.ivy_ether.specs.Views.{Closing, View}

-- the sum of f over a list
abbrev pub total : {X : Type 0} → (X → ℕ) → List X → ℕ
total f [] = 0
total f (x ∷ xs) = f x + total f xs

-- 1 where it is so, else 0
abbrev pub one_if : Bool → ℕ
one_if b = if b then 1 else 0

-- 1 at the number i, else 0
abbrev pub is_number : ℕ → Option ℕ → ℕ
is_number i None = 0
is_number i (Some j) = one_if (j == i)

-- 1 where the pass took the seat of node i, and 1 for each pass with that seat that it took in
abbrev pub sits : ℕ → View → ℕ
sits i v = is_number i v.node + total (λ (x : Closing). one_if (x.node == i)) v.closed

-- 1 where the item is the seat of node i
abbrev pub seat_in : ℕ → Item → ℕ
seat_in i (Seat j) = one_if (j == i)
seat_in i (Frame b) = 0
seat_in i (Report j es) = 0

-- how often i stands in the list
abbrev pub times : ℕ → List ℕ → ℕ
times i xs = total (λ j. one_if (j == i)) xs

-- the pass of node i has reported this list
pub record Reported (views : List View) (i : ℕ) (list : List Mark) : Type 0 where
  pub pass : ℕ
  pub view : View
  pub there : get_elem? views pass ≡ some view
  pub node : view.node ≡ Some i
  pub reported : view.reported ≡ true
  pub events : view.events ≡ list

-- What a way to hand calls and pages to a node has to be: neither turns nor messages see it, none
-- is no change, and some and then more are all of them.
pub record IsHanding {C : Type 0} (rules : Core C) (hand : List Handing → C → C) : Type 0 where
  pub unseen : (handings : List Handing) → IsUnseen rules (hand handings)
  pub none : (core : C) → hand [] core ≡ core
  pub more : (some more : List Handing) (core : C)
      → hand (some ++ more) core ≡ hand more (hand some core)

module _ {C : Type 0} (rules : Core C) (c : Config) (opening : World C)
    (hand : List Handing → C → C) where
  -- the world as it begins, where these were handed to each node
  abbrev pub IsStart : (ℕ → List Handing) → World C → Type 0
  IsStart handings start = IsChangedBy (λ i. hand (handings i)) opening start

  -- these lists are the parts of a run of nodes to which these were handed
  pub record AreRunParts (handings : ℕ → List Handing) (parts : ℕ → List Mark)
      (end : World C) : Type 0 where
    pub start : World C
    pub starts : IsStart handings start
    pub run : AreParts rules c start parts end

  -- of node i: this is its part, and these were handed to it
  pub record IsNode (handings : ℕ → List Handing) (parts : ℕ → List Mark) (i : ℕ)
      (own : List Handing) (events : List Mark) : Type 0 where
    pub inside : i < length opening.nodes
    pub part : parts i ≡ events
    pub handed : handings i ≡ own

  -- what is known of one view: who is the starter, and what it issued; its site's list, and what
  -- was handed to it, and so of the sites whose passes it took in; that what the pass took was sent;
  -- that what the starter was told was reported
  pub record FitsRun (starter : ℕ) (issued : List ℕ) (handings : ℕ → List Handing)
      (parts : ℕ → List Mark) (end : World C) (views : List View) (pass : ℕ)
      (v : View) : Type 0 where
    pub starts : v.starts ≡ true → (pass ≡ starter) × (v.issued ≡ issued)
    pub sitting : (i : ℕ) → v.node ≡ Some i → IsNode handings parts i v.handed v.events
    pub closed : (x : Closing) → Contains v.closed x
        → IsNode handings parts x.node x.handed x.events
    pub took : (bytes : List ℕ) → Contains v.took bytes → Contains end.sent bytes
    pub reports : (i : ℕ) (events : List Mark) → Contains v.reports (i, events)
        → Reported views i events

  -- a seat is one of a node, a frame was sent, a report is what its pass reported
  abbrev pub FitsItem : World C → List View → Item → Type 0
  FitsItem end views (Seat i) = i < length opening.nodes
  FitsItem end views (Frame b) = Contains end.sent b
  FitsItem end views (Report i es) = Reported views i es.marks

  -- The lists of all views, an empty one for a node that has none, are the parts of a run of nodes
  -- to which was handed what the views say, nothing to a node that has none. The seats of each node,
  -- in the ether and in views, are no more than were issued, which is one at most; and each view and
  -- item fits
  pub record RuleHolds (items : List Item) (views : List View) (starter : ℕ) (issued : List ℕ)
      (parts : ℕ → List Mark) (end : World C) : Type 0 where
    pub handings : ℕ → List Handing
    pub run : AreRunParts handings parts end
    pub seats : (i : ℕ) → total (seat_in i) items + total (sits i) views ≤ times i issued
    pub once : (i : ℕ) → times i issued ≤ 1
    pub fresh : (i : ℕ) → total (sits i) views ≡ 0 → (parts i ≡ []) × (handings i ≡ [])
    pub fits : (p : ℕ) (v : View) → get_elem? views p ≡ some v
        → FitsRun starter issued handings parts end views p v
    pub holds : (x : Item) → Contains items x → FitsItem end views x

  -- the rule
  abbrev pub RuleKept : List Item → List View → Type 0
  RuleKept items views = (starter : ℕ) × (issued : List ℕ) × (parts : ℕ → List Mark) × (end : World C)
      × RuleHolds items views starter issued parts end

  -- a world as it begins, where these were handed to this node, and any to the others
  pub record StartsWith (node : ℕ) (handed : List Handing) : Type 0 where
    pub handings : ℕ → List Handing
    pub own : handings node ≡ handed
    pub start : World C
    pub starts : IsStart handings start

  -- a step with this list may be made: the pass took a seat and has not reported, and the list goes
  -- on from what it gave before, by deliveries of strings that it took
  pub record RuleAllows (v : View) (es : List Mark) : Type 0 where
    pub node : ℕ
    pub sits : v.node ≡ Some node
    pub unreported : v.reported ≡ false
    pub at : StartsWith node v.handed
    pub goes_on : ListGoesOn rules c at.start node v.events v.took es

  -- the events of the pass's node send the string
  pub record ListSends (v : View) (es : List Mark) (bytes : List ℕ) : Type 0 where
    pub node : ℕ
    pub sits : v.node ≡ Some node
    pub at : StartsWith node v.handed
    pub sends : Sends rules c at.start node es bytes

  -- some run has the pass's list as its node's part, and each string that the pass took was sent
  pub record RuleRuns (v : View) : Type 0 where
    pub handings : ℕ → List Handing
    pub parts : ℕ → List Mark
    pub end : World C
    pub run : AreRunParts handings parts end
    pub own : (i : ℕ) → v.node ≡ Some i → IsNode handings parts i v.handed v.events
    pub took : (bytes : List ℕ) → Contains v.took bytes → Contains end.sent bytes

  -- the reports that the starter took, and the passes, are of parts of one run
  pub record RuleTold (v : View) : Type 0 where
    pub handings : ℕ → List Handing
    pub parts : ℕ → List Mark
    pub end : World C
    pub run : AreRunParts handings parts end
    pub told : (i : ℕ) (events : List Mark) → Contains v.reports (i, events) → parts i ≡ events
    pub closed : (x : Closing) → Contains v.closed x
        → IsNode handings parts x.node x.handed x.events
