-- Messages that are served at an idle entry, one after another (Li and Hudak 1989, the owner keeps
-- the copy set). The bytes of the page stay as they are meanwhile.
use Rattle.std.specs.Prelude.{ℕ, ◌+◌, ◌-◌, ◌^◌, Bool, true, false, List, [], ◌∷◌, ◌++◌, Option, Some, None, if◌then◌else◌, nat_lt, map}
use Rattle.std.specs.FinSet as set
use Rattle.ivy_wire.specs.declared.Content.TheVariants as content
use Rattle.ivy_wire.specs.stated.Data.{Parcel}
use Rattle.ivy_wire.specs.stated.Posts.{parcel_to}
use Rattle.ivy_pagetable.specs.declared.PutOff.{PutOff}
use Rattle.ivy_pagetable.specs.declared.Request.{Request}
use Rattle.ivy_pagetable.specs.declared.Request.TheVariants as request
use Rattle.ivy_pagetable.specs.stated.NodeSets.{Nodes, bits_of, nodes_of}
use Rattle.ivy_pagetable.specs.stated.States.{IdleState}
use Rattle.ivy_pagetable.specs.stated.Entries.{without, sharing}
use Rattle.ivy_pagetable.specs.stated.Manager.{Ops}

-- an idle entry, the manager, the count of messages that fitted no rule, and what was posted so
-- far, in order
pub record Serving (S : Type 0) : Type 0 where
  pub idle : IdleState
  pub manager : S
  pub breaches : ℕ
  pub posted : List Parcel

abbrev pub serving : {S : Type 0} → IdleState → S → ℕ → List Parcel → Serving S
serving idle manager breaches posted =
    record { idle = idle; manager = manager; breaches = breaches; posted = posted }

-- a count that stays at its greatest value
abbrev pub counted : ℕ → ℕ
counted n = if nat_lt n (2 ^ 64 - 1) then n + 1 else n

-- each of these nodes is told to give its copy up
abbrev pub invalidations : ℕ → ℕ → ℕ → Nodes → List Parcel
invalidations me page call nodes =
    map (λ node. parcel_to me node me call (content.Inval page)) (nodes_of nodes)

module _ {S : Type 0} (ops : Ops S) (me page : ℕ) (bytes : List ℕ) where
  -- at the owner: a copy is given, and both read from now on; the page itself is given, with the
  -- set of those that have a copy; an owner is never told to give up a copy
  abbrev pub served_by_owner : Serving S → ℕ → ℕ → Request → Serving S
  served_by_owner v origin call request.Read = record {
    idle = sharing (set.insert v.idle.copies origin);
    manager = v.manager;
    breaches = v.breaches;
    posted = v.posted ++ parcel_to me origin origin call (content.ReadRep page bytes) ∷ [];
  }
  served_by_owner v origin call request.Write = record {
    idle = without;
    manager = ops.on_given v.manager page origin;
    breaches = v.breaches;
    posted = v.posted
        ++ parcel_to me origin origin call
        (content.WriteRep page (bits_of (set.remove v.idle.copies origin)) bytes) ∷ [];
  }
  served_by_owner v origin call request.Invalidate = record {
    idle = v.idle;
    manager = v.manager;
    breaches = counted v.breaches;
    posted = v.posted;
  }

  -- at another node: a request goes on to where it believes the owner to be; a copy is given up
  abbrev pub served_by_other : Serving S → ℕ → ℕ → Request → Serving S
  served_by_other v origin call request.Read = record {
    idle = v.idle;
    manager = ops.on_forward v.manager page false origin;
    breaches = v.breaches;
    posted = v.posted
        ++ parcel_to me (ops.next_hop v.manager page) origin call (content.ReadReq page) ∷ [];
  }
  served_by_other v origin call request.Write = record {
    idle = v.idle;
    manager = ops.on_forward v.manager page true origin;
    breaches = v.breaches;
    posted = v.posted
        ++ parcel_to me (ops.next_hop v.manager page) origin call (content.WriteReq page) ∷ [];
  }
  served_by_other v origin call request.Invalidate = record {
    idle = without;
    manager = ops.on_invalidated v.manager page origin;
    breaches = v.breaches;
    posted = v.posted ++ parcel_to me origin origin call (content.InvalAck page) ∷ [];
  }

  -- one message is served, at the owner or at another node
  abbrev pub served : Serving S → PutOff → Serving S
  served v q = if v.idle.owner then served_by_owner v q.origin q.call q.kind
      else served_by_other v q.origin q.call q.kind

  -- the messages are served one after another
  abbrev pub all_served : Serving S → List PutOff → Serving S
  all_served v [] = v
  all_served v (q ∷ qs) = all_served (served v q) qs

-- a request to write
abbrev pub is_write : Request → Bool
is_write request.Write = true
is_write kind = false

-- the manager learns that a request to read, or to write, was replied to, where it was
abbrev pub told : {S : Type 0} → Ops S → ℕ → ℕ → S → Option Request → S
told ops from page manager None = manager
told ops from page manager (Some kind) = ops.on_replied manager page (is_write kind) from

-- what was put off is served at an entry that is idle now, in order of arrival
abbrev pub put_off_served : {S : Type 0} → Ops S → ℕ → ℕ → ℕ → List ℕ → IdleState → S → ℕ
    → Option Request → List PutOff → Serving S
put_off_served ops me from page bytes idle manager breaches reply qs =
    all_served ops me page bytes (serving idle (told ops from page manager reply) breaches []) qs
