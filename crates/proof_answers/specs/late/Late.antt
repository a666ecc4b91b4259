-- Who comes after a request, under hints that stay where a copy is ended and where requests are
-- sent on while a copy is awaited: the late nodes. Nothing that they ask for is served before it.
use Rattle.std.specs.Prelude.{◌≡◌, ◌<◌, ◌⊎◌, ℕ, true, false, slice_get, Some}
use Rattle.ivy_model.specs.declared.Config.{Config}
use Rattle.ivy_wire.specs.declared.Content.TheVariants as content
use Rattle.ivy_pagetable.specs.declared.Entry.TheVariants as entry
use Rattle.ivy_pagetable.specs.declared.PutOff.{PutOff}
use Rattle.ivy_pagetable.specs.declared.Request.TheVariants as request
use Rattle.ivy_pagetable.specs.stated.States.{IdleState, WaitingState, AwaitWriteState}
use Rattle.ivy_dynamic.specs.stated.Dynamic.{Hints, hint_of}
use Rattle.proof_table.specs.stated.Letters.{Letter, Net, Place, Underway, Aside, Loose, IsAt}
use Rattle.proof_table.specs.waiting.Readers.{IsBefore}

-- a request of this node for the page
abbrev pub IsRequest : ℕ → ℕ → Letter → Type 0
IsRequest page origin l =
    (l.message.origin ≡ origin)
    × ((l.message.content ≡ content.ReadReq page) ⊎ (l.message.content ≡ content.WriteReq page))

-- it is under way, put off or loose
pub record IsOut (n : Net) (page origin : ℕ) : Type 0 where
  pub at : Place
  pub letter : Letter
  pub there : IsAt n at letter
  pub asks : IsRequest page origin letter

-- the letter is put off; it is at its node, put off or loose
abbrev pub IsPutOff : Place → Type 0
IsPutOff (Underway i j k) = ⊥
IsPutOff (Aside x p k) = Unit {0}
IsPutOff (Loose k) = ⊥

abbrev pub HasCome : Place → Type 0
HasCome (Underway i j k) = ⊥
HasCome (Aside x p k) = Unit {0}
HasCome (Loose k) = Unit {0}

-- a node; what it sends along its hint; the request that it has made
pub data Which : Type 0 where
  Node : (x : ℕ) → Which
  Hop : (x : ℕ) → Which
  Own : (x : ℕ) → Which

-- Of one page, and the request of one node for it. The chain: the request; where it is put off, the
-- request of the node there; and so on.
pub data IsChained (n : Net) (page asker : ℕ) : Place → Letter → Type 0 where
  first : (a : Place) (l : Letter) → IsAt n a l → IsRequest page asker l
      → IsChained n page asker a l
  next : (a b : Place) (k l : Letter) → IsChained n page asker a k → IsPutOff a → IsAt n b l
      → IsRequest page k.dest l → IsChained n page asker b l

-- the letter at this place comes after one of the chain where that is
pub record IsAfter (n : Net) (page asker : ℕ) (b : Place) (l : Letter) : Type 0 where
  pub at : Place
  pub letter : Letter
  pub chained : IsChained n page asker at letter
  pub dest : letter.dest ≡ l.dest
  pub before : IsBefore at b

-- what the node sends to this next one comes after one of the chain
pub record IsLed (n : Net) (page asker x hop : ℕ) : Type 0 where
  pub at : Place
  pub letter : Letter
  pub chained : IsChained n page asker at letter
  pub dest : letter.dest ≡ hop
  pub leads : HasCome at ⊎ (letter.source ≡ x)

-- Late nodes, where some are late to begin with (`First`). A node that waits for nothing and does
-- not own the page is late if its hint leads so; one that awaits the page, if its own request comes
-- late; and one that awaits a copy, if both is so, but for its request if it sent one on.
pub data Leads (nodes : ℕ) (m : ℕ → Hints) (n : Net) (page asker : ℕ) (First : ℕ → Type 0)
    : Which → Type 0
  where
    begins : (x : ℕ) → First x → Leads nodes m n page asker First (Node x)
    idle : (x : ℕ) → x < nodes → (s : IdleState) → n.entry x page ≡ entry.Idle s
        → s.owner ≡ false → Leads nodes m n page asker First (Hop x)
        → Leads nodes m n page asker First (Node x)
    sent_on : (x : ℕ) → x < nodes → (s : WaitingState) → n.entry x page ≡ entry.AwaitRead s
        → s.sent_on ≡ true → Leads nodes m n page asker First (Hop x)
        → Leads nodes m n page asker First (Node x)
    reads : (x : ℕ) → x < nodes → (s : WaitingState) → n.entry x page ≡ entry.AwaitRead s
        → Leads nodes m n page asker First (Hop x) → Leads nodes m n page asker First (Own x)
        → Leads nodes m n page asker First (Node x)
    writes : (x : ℕ) → x < nodes → (s : AwaitWriteState) → n.entry x page ≡ entry.AwaitWrite s
        → Leads nodes m n page asker First (Own x) → Leads nodes m n page asker First (Node x)
    hop_late : (x : ℕ) → Leads nodes m n page asker First (Node (hint_of (m x) page))
        → Leads nodes m n page asker First (Hop x)
    hop_led : (x : ℕ) → IsLed n page asker x (hint_of (m x) page)
        → Leads nodes m n page asker First (Hop x)
    own_late : (x : ℕ) (a : Place) (l : Letter) → IsAt n a l → IsRequest page x l
        → Leads nodes m n page asker First (Node l.dest)
        → Leads nodes m n page asker First (Own x)
    own_after : (x : ℕ) (a : Place) (l : Letter) → IsAt n a l → IsRequest page x l
        → IsAfter n page asker a l → Leads nodes m n page asker First (Own x)

-- the asker is late
abbrev pub IsLate : ℕ → (ℕ → Hints) → Net → ℕ → ℕ → ℕ → Type 0
IsLate nodes m n page asker x = Leads nodes m n page asker (λ y. y ≡ asker) (Node x)

-- What a node that awaits a copy sends on comes after its own request: its hint leads there, or to
-- nodes that are late for that request, none of which is the node itself.
abbrev pub AreOrdered : ℕ → (ℕ → Hints) → Net → ℕ → Type 0
AreOrdered nodes m n page =
    (x : ℕ) (s : WaitingState) → n.entry x page ≡ entry.AwaitRead s
    → IsOut n page x → Leads nodes m n page x (λ y. ⊥) (Hop x)

-- where a copy is awaited, only orders to give one up are put off
abbrev pub PutOffOrders : Net → Type 0
PutOffOrders n =
    (x p k : ℕ) (s : WaitingState) (q : PutOff) → n.entry x p ≡ entry.AwaitRead s
    → slice_get s.put_off k ≡ Some q → q.kind ≡ request.Invalidate

-- the hints of each node stay where a copy is ended
abbrev pub AreSteady : Config → (ℕ → Hints) → Type 0
AreSteady c m = (i : ℕ) → i < c.nodes → (m i).steady ≡ true

-- so it is of the managers, and of each page
pub record IsSteady (c : Config) (m : ℕ → Hints) (n : Net) : Type 0 where
  pub hints : AreSteady c m
  pub orders : PutOffOrders n
  pub ordered : (page : ℕ) → AreOrdered c.nodes m n page
