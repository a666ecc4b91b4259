-- How often a request is sent on under steady hints: by each node once at most, never by the node
-- that asks, and by no more nodes than there are but two. For that one sends nothing on, and nor
-- does the one where the request is.
use Rattle.std.specs.Prelude.{◌≡◌, ◌≢◌, ◌≤◌, ◌+◌, ◌⊎◌, ℕ, List, [], ◌∷◌, length, slice_get, Some}
use Rattle.ivy_model.specs.declared.Config.{Config}
use Rattle.ivy_model.specs.stated.Config.{IsConfig}
use Rattle.ivy_wire.specs.declared.Content.TheVariants as content
use Rattle.ivy_wire.specs.stated.Data.{Message}
use Rattle.ivy_program.specs.stated.Programs.{Program}
use Rattle.ivy_moves.specs.stated.FifoWorld.{FifoWorld, Steps}
use Rattle.ivy_host.specs.declared.opening.Opening.TheVariants.{Steady}
use Rattle.ivy_host.specs.stated.Hosts.{Host, host_rules}
use Rattle.ivy_host.specs.stated.Managers.{Managed, managed_ops}
use Rattle.ivy_host.specs.stated.Openings.{managed_start}
use Rattle.proof_answers.specs.late.Late.{IsOut}
use Rattle.proof_worlds.specs.stated.FifoRuns.{IsReachedInOrder}
use Rattle.proof_worlds.specs.stated.Nets.{net_of}

-- a request of this node for the page
abbrev pub AsksFor : ℕ → ℕ → Message → Type 0
AsksFor page asker m =
    (m.origin ≡ asker) × ((m.content ≡ content.ReadReq page) ⊎ (m.content ≡ content.WriteReq page))

-- in this step node `x` sends the request of another node on: it posts it to a third one
pub record IsSentOnIn (page asker x : ℕ) (o o' : FifoWorld (Host Managed)) : Type 0 where
  pub to : ℕ
  pub number : ℕ
  pub message : Message
  pub new : length ((net_of o).posted x to) ≤ number
  pub there : slice_get ((net_of o').posted x to) number ≡ Some message
  pub asks : AsksFor page asker message
  pub other : x ≢ asker

-- Steps lead from one world to another, and the request is out in each of them, under way or put
-- off. These nodes send it on in these steps, the last one first.
pub data SendOn (page asker : ℕ) (o : FifoWorld (Host Managed))
    : FifoWorld (Host Managed) → List ℕ → Type 0 where
  begins : IsOut (net_of o) page asker → SendOn page asker o o []
  goes_on : {u : FifoWorld (Host Managed)} {nodes : List ℕ} (v : FifoWorld (Host Managed))
      → SendOn page asker o u nodes → Steps (host_rules managed_ops) u v
      → IsOut (net_of v) page asker → SendOn page asker o v nodes
  sends : {u : FifoWorld (Host Managed)} {nodes : List ℕ} (v : FifoWorld (Host Managed)) (x : ℕ)
      → SendOn page asker o u nodes → Steps (host_rules managed_ops) u v
      → IsOut (net_of v) page asker → IsSentOnIn page asker x u v
      → SendOn page asker o v (x ∷ nodes)

-- each of them stands there once
abbrev pub AreApart : List ℕ → Type 0
AreApart [] = Unit {0}
AreApart (x ∷ xs) = ((k : ℕ) → slice_get xs k ≡ Some x → ⊥) × AreApart xs

-- The law: of each FIFO world that is reached from an opening with steady hints, and whatever steps
-- lead on from it while a request is out, no node sends it on twice, its own node never, and two
-- nodes do not.
abbrev pub FewSendOn : Type 0
FewSendOn = (c : Config) → IsConfig c → (programs : List Program) → length programs ≡ c.nodes
    → (o : FifoWorld (Host Managed))
    → IsReachedInOrder managed_ops (managed_start Steady) c programs o
    → (page asker : ℕ) (v : FifoWorld (Host Managed)) (nodes : List ℕ)
    → SendOn page asker o v nodes → AreApart (asker ∷ nodes) × (length nodes + 2 ≤ c.nodes)
