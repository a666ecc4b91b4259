-- A pipeline of three nodes and two queues.
use Rattle.std.specs.Prelude.{◌≡◌, ℕ, ◌<◌, ◌≤◌, List, length, map, slice_get, Some}
use Rattle.std.specs.Global.{Vec}
use Rattle.ivy_model.specs.declared.config.Config.{Config}
use Rattle.ivy_model.specs.declared.call.Record.{Record}
use Rattle.ivy_model.specs.stated.Memory.{first}
use Rattle.ivy_calls.specs.declared.answer.Answer.{Answer}
use Rattle.ivy_calls.specs.Shared.{AreShared}
use Rattle.ivy_sync.specs.declared.queue.Queue.{Queue}
use Rattle.ivy_sync.specs.queueing.Queues.{IsEmptyQueue, LeavesAlone, SendsAll, TakesAll}

-- a node sent the values into the queue p
pub record Feeds (p q : Queue) (values : List ℕ) (history : List Answer) : Type 0 where
  pub sends : SendsAll p 0 values history
  pub alone : LeavesAlone q history

-- a node took as many values from p, and sent what f makes of each into q
pub record Relays (f : ℕ → ℕ) (p q : Queue) (values : List ℕ) (history : List Answer) : Type 0 where
  pub taken : List ℕ
  pub all : length taken ≡ length values
  pub takes : TakesAll p 0 taken history
  pub sends : SendsAll q 0 (map f taken) history

-- a node took as many values from q, and gave these
pub record CollectsAll (p q : Queue) (values : List ℕ) (history : List Answer) (out : List ℕ) : Type 0
  where
    pub all : length out ≡ length values
    pub takes : TakesAll q 0 out history
    pub alone : LeavesAlone p history

-- node 0 feeds, node 1 relays, node 2 collects, and no other touches the queues
pub record HasPiped (f : ℕ → ℕ) (p q : Queue) (values : List ℕ) (me : ℕ) (history : List Answer)
    (out : List ℕ) : Type 0 where
  pub feeds : me ≡ 0 → Feeds p q values history
  pub relays : me ≡ 1 → Relays f p q values history
  pub collects : me ≡ 2 → CollectsAll p q values history out
  pub others : 2 < me → LeavesAlone p history × LeavesAlone q history

-- What comes out is the map of what went in, in its order.
abbrev pub PipelinesMap : Type 0
PipelinesMap = (c : Config) (f : ℕ → ℕ) (p q : Queue) (values : List ℕ) (order : List Record)
    (outs : List (Vec ℕ)) (out : Vec ℕ) → 3 ≤ c.nodes → IsEmptyQueue c (first c) p
    → IsEmptyQueue c (first c) q
    → AreShared c (λ me history o. HasPiped f p q values me history o.items) order outs
    → slice_get outs 2 ≡ Some out
    → out.items ≡ map f values
