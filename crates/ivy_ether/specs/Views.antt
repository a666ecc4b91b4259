-- What a pass knows, and how the steps of the ether change it.
use Rattle.std.specs.Prelude.{ℕ, ◌+◌, Bool, true, false, Option, Some, None, List, [], ◌∷◌, ◌++◌, unwrap_or}
use Rattle.ivy_model.specs.declared.Call.{Call}
use Rattle.ivy_moves.specs.Marks.{Mark}
use Rattle.ivy_ether.specs.Data.{Item}
use Rattle.ivy_ether.specs.declared.item.Item.TheVariants.{Seat, Frame, Report}
use Rattle.ivy_ether.specs.Handings.{Handing, Calls, Page, rows_of}
use Rattle.ivy_ether.specs.Items.{strings_in}

-- of a node whose pass is at its end: what was handed to it, and its event list
pub record Closing : Type 0 where
  pub node : ℕ
  pub handed : List Handing
  pub events : List Mark

-- what a pass knows
pub record View : Type 0 where
  -- of the starter: that it is the one, the seats that it issued, the reports that it took, and the
  -- passes of sites that it took in
  pub starts : Bool
  pub issued : List ℕ
  pub reports : List (ℕ × List Mark)
  pub closed : List Closing
  -- of a site's pass: the node whose seat it took, what was handed to that node since, its event
  -- list, the strings that the pass took, those that it put, and whether it has reported
  pub node : Option ℕ
  pub handed : List Handing
  pub events : List Mark
  pub took : List (List ℕ)
  pub put : List (List ℕ)
  pub reported : Bool
  -- and what came of its steps: the items that it took, the strings that found the ether full, and
  -- how often it found the ether empty
  pub items : List Item
  pub refused : List (List ℕ)
  pub empty : ℕ

-- a pass that is not the starter's, and has taken no seat
abbrev pub newcomer : View
newcomer = record {
  starts = false;
  issued = [];
  reports = [];
  closed = [];
  node = None;
  handed = [];
  events = [];
  took = [];
  put = [];
  reported = false;
  items = [];
  refused = [];
  empty = 0;
}

-- the starter's pass, which has issued no seat yet
abbrev pub beginner : View
beginner = record newcomer { starts = true }

-- a seat is issued
abbrev pub with_issued : View → ℕ → View
with_issued v i = record v { issued = v.issued ++ i ∷ [] }

-- a seat is taken
abbrev pub with_seat : View → ℕ → View
with_seat v i =
    record v { node = Some i; handed = []; events = []; took = []; put = []; reported = false }

-- these are handed to the pass's node, one after another
abbrev pub with_handings : View → List Handing → View
with_handings v hs = record v { handed = v.handed ++ hs }

-- a call is handed to it, alone in its row
abbrev pub with_handed : View → Call → View
with_handed v call = record v { handed = v.handed ++ Calls (call ∷ []) ∷ [] }

-- these rows of calls are handed to it, one after another
abbrev pub with_all_handed : View → List (List Call) → View
with_all_handed v rows = with_handings v (rows_of rows)

-- a page is handed to it, to be fetched ahead
abbrev pub with_page : View → ℕ → Bool → View
with_page v page write = with_handings v (Page page write ∷ [])

-- the pass gave its site's list, and did nothing else
abbrev pub with_given : View → List Mark → View
with_given v es = record v { events = es }

-- the pass gave its site's list, and put these strings
abbrev pub with_put : View → List Mark → List (List ℕ) → View
with_put v es strings = record v { events = es; put = v.put ++ strings }

-- it gave the list, and took this item
abbrev pub with_taken : View → List Mark → Item → View
with_taken v es x =
    record v { events = es; took = v.took ++ strings_in x; items = v.items ++ x ∷ [] }

-- it would have put this string, but the ether was full
abbrev pub with_refused : View → List ℕ → View
with_refused v bytes = record v { refused = v.refused ++ bytes ∷ [] }

-- it would have taken an item, but the ether was empty
abbrev pub with_empty : View → View
with_empty v = record v { empty = v.empty + 1 }

-- it gave the list, as its report
abbrev pub with_report : View → List Mark → View
with_report v es = record v { events = es; reported = true }

-- a report is taken
abbrev pub with_told : View → ℕ → List Mark → View
with_told v i es = record v { reports = v.reports ++ (i, es) ∷ [] }

-- what a site's pass knows of its node
abbrev pub closing_of : View → Closing
closing_of v = record { node = unwrap_or v.node 0; handed = v.handed; events = v.events }

-- the pass of a site that knows this is taken in, with those that it took in itself
abbrev pub with_closed : View → View → View
with_closed v site = record v { closed = v.closed ++ site.closed ++ closing_of site ∷ [] }

-- it takes an item, where it hopes for a seat, or for a report
abbrev pub after_seat : View → Item → View
after_seat v (Seat i) = with_seat v i
after_seat v (Frame b) = v
after_seat v (Report i es) = v

abbrev pub view_after_told : View → Item → View
view_after_told v (Seat i) = v
view_after_told v (Frame b) = v
view_after_told v (Report i es) = with_told v i es.marks
