-- What a message of another node leaves of the access to a page, where no word waits for that page.
use Rattle.std.specs.Prelude.{ℕ, ◌==◌, Option, Some, None, option_map, if◌then◌else◌}
use Rattle.ivy_wire.specs.declared.Content.TheVariants as content
use Rattle.ivy_wire.specs.stated.Data.{Content, Message}
use Rattle.ivy_pagetable.specs.declared.Access.{Access}
use Rattle.ivy_pagetable.specs.declared.Access.TheVariants.{Nil, Read}
use Rattle.ivy_pagetable.specs.declared.Entry.{Entry}
use Rattle.ivy_pagetable.specs.declared.Entry.TheVariants as entry
use Rattle.ivy_pagetable.specs.declared.Request.{Request}
use Rattle.ivy_pagetable.specs.declared.Request.TheVariants as request
use Rattle.ivy_pagetable.specs.stated.States.{IdleState}
use Rattle.ivy_pagetable.specs.stated.Tables.{entry_at}
use Rattle.ivy_coherence.specs.declared.leaving.Leaving.{Leaving}
use Rattle.ivy_coherence.specs.declared.leaving.Wish.{Wish}
use Rattle.ivy_coherence.specs.stated.Coherent.{Coherent}

-- what this node may do with a page, where no word of it waits there
abbrev pub access_at : Entry → Option Access
access_at (entry.Idle s) = Some s.access
access_at e = None

-- for a copy of which page, or for which page, a message asks, or to give up a copy of which: none,
-- if it fits no rule, or is about a word that waits
abbrev pub wish_as : ℕ → ℕ → ℕ → Content → Option Wish
wish_as me from origin (content.ReadReq page) =
    if origin == me then None else Some (record { page = page; kind = request.Read })
wish_as me from origin (content.WriteReq page) =
    if origin == me then None else Some (record { page = page; kind = request.Write })
wish_as me from origin (content.Inval page) =
    if origin == from then Some (record { page = page; kind = request.Invalidate }) else None
wish_as me from origin m = None

abbrev pub wish_of : ℕ → ℕ → Message → Option Wish
wish_of me from m = wish_as me from m.origin m.content

-- what is left of the access to the page once that is served; none, where the access stays: an owner
-- gives no copy up, and another node sends requests on
abbrev pub left_by : Request → IdleState → Option Access
left_by request.Read s = if s.owner then Some Read else None
left_by request.Write s = if s.owner then Some Nil else None
left_by request.Invalidate s = if s.owner then None else Some Nil

abbrev pub left_at : Request → Entry → Option Access
left_at kind (entry.Idle s) = left_by kind s
left_at kind e = None

module _ {S : Type 0} (c : Coherent S) where
  abbrev pub leaving_by : Option Wish → Option Leaving
  leaving_by None = None
  leaving_by (Some w) = option_map (λ access. record { page = w.page; access = access })
      (left_at w.kind (entry_at c.table w.page))

  -- the page of which a message of a node takes access, if it takes any, and what is left of it
  abbrev pub leaves : ℕ → Message → Option Leaving
  leaves from m = leaving_by (wish_of c.me from m)
