-- A node's link, with the strings that wait to be put on the wire, and those that it holds.
use Rattle.std.specs.Prelude.{◌≡◌, ◌≢◌, ℕ, true, false, List, [], ◌∷◌, ◌++◌, map, Option, Some, None, refl}
use Rattle.std.proofs.Common.{ap, append-nil}
use Rattle.ivy_model.specs.declared.Config.{Config}
use Rattle.ivy_model.specs.stated.Config.{IsConfig}
use Rattle.ivy_model.specs.declared.Fault.{Fault}
use Rattle.ivy_model.specs.declared.Fault.TheVariants.{Memory, NumbersSpent}
use Rattle.ivy_wire.specs.stated.Data.{Parcel}
use Rattle.ivy_wire.specs.Posts.{PostOps, PostLaws}
use Rattle.ivy_wire.specs.stated.Spelling.{spelling}
use Rattle.ivy_wire.specs.Destinations.{dest_of}
use Rattle.ivy_link.specs.stated.Linked.{Linked, Sending, sends, has_numbers}
use Rattle.ivy_link.specs.Fitting.{FitsLink}
use Rattle.ivy_link.specs.Windows.{Window}
use Rattle.ivy_link.specs.Holding.{Holding, link_of, holding}

-- `waiting` are the strings not yet put on the wire, the first first; `held` has a window for each
-- node
pub record Outbox : Type 0 where
  pub config : Config
  pub me : ℕ
  pub link : Linked
  pub waiting : List (List ℕ)
  pub held : List Window

-- the link is this node's, and every frame that it makes has a spelling
pub record IsSoundOutbox (o : Outbox) : Type 0 where
  pub limits : IsConfig o.config
  pub mine : o.link.me ≡ o.me
  pub fits : FitsLink o.config o.link

-- the outbox with this link
abbrev pub with_link : Outbox → Linked → Outbox
with_link o link = record o { link = link }

-- the link, with what it holds
abbrev pub holding_of : Outbox → Holding
holding_of o = holding o.link o.held

-- the outbox with this link, and what it holds
abbrev pub with_holding : Outbox → Holding → Outbox
with_holding o h = record o { link = link_of h; held = h.held }

-- the outbox with these strings waiting
abbrev pub with_waiting : Outbox → List (List ℕ) → Outbox
with_waiting o waiting = record o { waiting = waiting }

-- a link made frames: their spellings wait, in order
abbrev pub with_sending : Outbox → Sending → Outbox
with_sending o s = record o { link = s.after; waiting = o.waiting ++ map spelling s.frames }

-- there are numbers for the parcels
abbrev pub HasNumbers : Outbox → List Parcel → Type 0
HasNumbers o parcels = has_numbers o.link parcels ≡ true

-- the outbox once these parcels were posted
abbrev pub posted_by : Outbox → List Parcel → Outbox
posted_by o parcels = with_sending o (sends o.link parcels)

-- why parcels were refused, of which there is one at least: memory, or one of them would need a
-- number above the greatest one
abbrev pub RefusesParcels : Outbox → List Parcel → Fault → Type 0
RefusesParcels o parcels Memory = parcels ≢ []
RefusesParcels o parcels NumbersSpent = has_numbers o.link parcels ≡ false
RefusesParcels o parcels f = ⊥

-- the first string is taken, if one waits
abbrev pub TakesFirst : Option (List ℕ) → Outbox → Outbox → Type 0
TakesFirst None old new = (old.waiting ≡ []) × (new ≡ old)
TakesFirst (Some bytes) old new =
    (old.waiting ≡ bytes ∷ new.waiting) × (new.config ≡ old.config) × (new.me ≡ old.me)
    × (new.link ≡ old.link) × (new.held ≡ old.held)

-- the destination of the first string, if one waits
abbrev pub next_dest : List (List ℕ) → Option ℕ
next_dest [] = None
next_dest (bytes ∷ rest) = dest_of bytes

-- to post nothing there are always numbers
pub takes_none : (o : Outbox) → HasNumbers o []
takes_none o = refl

-- to post nothing changes nothing
pub after_none : (o : Outbox) → posted_by o [] ≡ o
after_none o = ap (λ w. record o { waiting = w }) (append-nil o.waiting)

-- and is never refused
pub refuses_none : (o : Outbox) (f : Fault) → RefusesParcels o [] f → ⊥
refuses_none o Memory why = why refl
refuses_none o NumbersSpent why = absurd cc
refuses_none o f why = why

-- the post that an outbox is: one that refused parcels is as it was
abbrev pub outbox_ops : PostOps Outbox
outbox_ops = record {
  config = λ o. o.config;
  node = λ o. o.me;
  takes = HasNumbers;
  after = posted_by;
  refuses = RefusesParcels;
  after_refusal = λ o parcels f. o;
}

pub outbox_laws : PostLaws outbox_ops
outbox_laws = record {
  takes_none = takes_none;
  after_none = after_none;
  refuses_none = refuses_none;
  same_config = λ o parcels f. refl;
  same_node = λ o parcels f. refl;
}
