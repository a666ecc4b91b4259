-- What the turns of a seated site leave.
use Rattle.std.specs.Prelude.{◌≡◌, ◌≢◌, ◌⊎◌, ◌+◌, ◌<◌, ◌≤◌, ℕ, List, Option, None, Err, [], ◌∷◌, ◌++◌, All, length}
use Rattle.ivy_model.specs.declared.Fault.{Fault}
use Rattle.ivy_link.specs.declared.Verdict.{Verdict}
use Rattle.ivy_link.specs.declared.Verdict.TheVariants as verdict
use Rattle.ivy_wire.specs.stated.Data.{Frame}
use Rattle.ivy_wire.specs.Destinations.{dest_of}
use Rattle.ivy_wire.specs.stated.DecodeErrors.{checked}
use Rattle.ivy_wire.specs.stated.Spelling.{Spells}
use Rattle.ivy_link.specs.Outboxes.{next_dest}
use Rattle.ivy_site.specs.SiteView.{SiteView}
use Rattle.ivy_site.specs.Sites.{AfterDelivery, IsSpentDelivery}
use Rattle.ivy_ether.specs.Data.{Item}
use Rattle.ivy_ether.specs.declared.item.Item.TheVariants as item
use Rattle.ivy_ether.specs.Held.{Held, held}
use Rattle.ivy_ether.specs.Items.{strings_in}
use Rattle.ivy_ether.specs.Views.{with_put, with_refused, with_taken, with_empty}
use Rattle.ivy_seating.specs.Places.{SeatedState, place}
use Rattle.ivy_seating.specs.declared.wire_turn.WireTurn.{WireTurn}
use Rattle.ivy_seating.specs.declared.wire_turn.WireTurn.TheVariants.{Sent, Lost, Empty, Served, Returned, Dropped}

-- the pass once it has given the site's list, and put this string
abbrev pub pass_after_putting : SeatedState → List ℕ → Held
pass_after_putting s bytes =
    held s.pass.ether (with_put s.pass.known s.site.events (bytes ∷ []))

-- once it would have put this string, and the ether was full
abbrev pub pass_after_refusing : SeatedState → List ℕ → Held
pass_after_refusing s bytes = held s.pass.ether (with_refused s.pass.known bytes)

-- once it has given the list, and taken this item
abbrev pub pass_after_taking : SeatedState → Item → Held
pass_after_taking s item =
    held s.pass.ether (with_taken s.pass.known s.site.events item)

-- and once it would have taken an item, and the ether was empty
abbrev pub pass_after_looking : SeatedState → Held
pass_after_looking s = held s.pass.ether (with_empty s.pass.known)

-- the string spells a frame for another node than the site's
pub record IsForAnother (s : SiteView) (bytes : List ℕ) : Type 0 where
  pub frame : Frame
  pub spelled : Spells s.config frame bytes
  pub other : frame.dest ≢ s.node.link.me

-- the string spells no frame
abbrev pub IsNoFrame : SiteView → List ℕ → Type 0
IsNoFrame s bytes = (fault : Fault) × (checked s.config bytes ≡ Err fault)

-- the first string that waited waits no more, and else the site is as it was
pub record Leaves (old new : SiteView) : Type 0 where
  pub bytes : List ℕ
  pub waited : old.waiting ≡ bytes ∷ new.waiting
  pub same : new ≡ record old { waiting = new.waiting }

-- that string is put
pub record PutsFirst (old new : SeatedState) : Type 0 where
  pub first : Leaves old.site new.site
  pub put : new.pass ≡ pass_after_putting old first.bytes

-- the ether was full for it
pub record LosesFirst (old new : SeatedState) : Type 0 where
  pub first : Leaves old.site new.site
  pub refused : new.pass ≡ pass_after_refusing old first.bytes

-- nothing waited, and the site is as it was
abbrev pub Rests : SeatedState → SeatedState → Type 0
Rests old new = (old.site.waiting ≡ []) × (new.site ≡ old.site)

-- a string is taken, and delivered to the site
pub record ServesString (v : Verdict) (old new : SeatedState) : Type 0 where
  pub none : old.site.waiting ≡ []
  pub bytes : List ℕ
  pub took : new.pass ≡ pass_after_taking old (item.Frame bytes)
  pub mine : v ≢ verdict.NotMine
  pub delivered : AfterDelivery bytes v old.site new.site

-- once a string was taken
abbrev pub having_taken : SeatedState → List ℕ → SeatedState
having_taken old bytes =
    place old.ether old.site (pass_after_taking old (item.Frame bytes))

-- the frame of another node is taken, and then put
pub record ReturnsString (old new : SeatedState) : Type 0 where
  pub rests : Rests old new
  pub bytes : List ℕ
  pub other : IsForAnother old.site bytes
  pub put : new.pass ≡ pass_after_putting (having_taken old bytes) bytes

-- it is taken, and then the ether was full for it
pub record LosesString (old new : SeatedState) : Type 0 where
  pub rests : Rests old new
  pub bytes : List ℕ
  pub other : IsForAnother old.site bytes
  pub refused : new.pass ≡ pass_after_refusing (having_taken old bytes) bytes

-- an item is taken in which there is no frame at all
pub record DropsItem (old new : SeatedState) : Type 0 where
  pub rests : Rests old new
  pub item : Item
  pub none : All (IsNoFrame old.site) (strings_in item)
  pub took : new.pass ≡ pass_after_taking old item

-- a string is taken, and refused
pub record RefusesString (fault : Fault) (old new : SeatedState) : Type 0 where
  pub rests : Rests old new
  pub bytes : List ℕ
  pub took : new.pass ≡ pass_after_taking old (item.Frame bytes)
  pub spent : IsSpentDelivery old.site bytes fault

-- what a turn on the wire changes that came to this
abbrev pub AfterWire : WireTurn → SeatedState → SeatedState → Type 0
AfterWire Sent old new = PutsFirst old new
AfterWire Lost old new = LosesFirst old new
AfterWire Empty old new = Rests old new × (new.pass ≡ pass_after_looking old)
AfterWire (Served v) old new = ServesString v old new
AfterWire Returned old new = ReturnsString old new
AfterWire Dropped old new = LosesString old new ⊎ DropsItem old new

-- whom the string is for that the turn put, put back, or lost
abbrev pub IsPutFor : WireTurn → Option ℕ → SeatedState → SeatedState → Type 0
IsPutFor Sent to old new = to ≡ next_dest old.site.waiting
IsPutFor Lost to old new = to ≡ next_dest old.site.waiting
IsPutFor Returned to old new =
    (returned : ReturnsString old new) × (to ≡ dest_of returned.bytes)
IsPutFor Dropped to old new =
    ((lost : LosesString old new) × (to ≡ dest_of lost.bytes)) ⊎ (DropsItem old new × (to ≡ None))
IsPutFor turn to old new = to ≡ None

-- items were taken, so many at most, and fewer only where the ether was empty then
pub record Drains (most : ℕ) (old new : SeatedState) : Type 0 where
  pub items : List Item
  pub took : new.pass.known.items ≡ old.pass.known.items ++ items
  pub few : length items ≤ most
  pub all : (length items ≡ most) ⊎ (new.pass.known.empty ≡ old.pass.known.empty + 1)

-- the other node that follows the last one; where none does, the first other one
pub record IsNextOther (nodes me last to : ℕ) : Type 0 where
  pub inside : to < nodes
  pub other : to ≢ me
  pub next : (j : ℕ) → last < j → j < nodes → j ≢ me → (last < to) × (to ≤ j)
  pub first : to ≤ last → (j : ℕ) → j < nodes → j ≢ me → to ≤ j
