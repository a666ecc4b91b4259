-- The world as it begins: node 0 owns all pages, each program stands at its first instruction,
-- nothing was sent. Its nodes keep the manager that their configuration names, or steady hints.
use Rattle.std.specs.Prelude.{ℕ, ◌+◌, Bool, true, false, List, [], ◌∷◌, map}
use Rattle.ivy_model.specs.declared.Config.{Config}
use Rattle.ivy_link.specs.stated.Linked.{first_link}
use Rattle.ivy_pagetable.specs.stated.Manager.{Ops}
use Rattle.ivy_dynamic.specs.stated.Dynamic.{steady_hints}
use Rattle.ivy_program.specs.stated.Programs.{Program}
use Rattle.ivy_program.specs.stated.States.{first_state}
use Rattle.ivy_moves.specs.stated.Nodes.{Node}
use Rattle.ivy_moves.specs.stated.Worlds.{World}
use Rattle.ivy_memory.specs.stated.Memories.{new_memory}
use Rattle.ivy_host.specs.declared.opening.Opening.{Opening}
use Rattle.ivy_host.specs.declared.opening.Opening.TheVariants.{Configured, Steady}
use Rattle.ivy_host.specs.stated.Hosts.{Host}
use Rattle.ivy_host.specs.stated.Managers.{Managed, Dynamic, managed_ops}

-- how nodes begin: whether they send requests on while they await a copy, and what each of them
-- keeps of its manager at first
pub record Start (S : Type 0) : Type 0 where
  pub sends_on : Bool
  pub manager : Config → ℕ → S

-- the start by a manager: requests that find a copy awaited are put off
abbrev pub start_of : {S : Type 0} → Ops S → Start S
start_of ops = record { sends_on = false; manager = ops.first }

-- the start by steady hints, whatever manager the configuration names
abbrev pub steady_start : Start Managed
steady_start = record { sends_on = true; manager = λ c me. Dynamic (steady_hints c me) }

-- so the nodes of a world begin
abbrev pub managed_start : Opening → Start Managed
managed_start Configured = start_of managed_ops
managed_start Steady = steady_start

module _ {S : Type 0} (start : Start S) where
  -- no instruction was carried out, no reply recorded, and no fetch used up
  abbrev pub first_host : Config → ℕ → Program → Host S
  first_host c me program = record {
    memory = new_memory start.sends_on c me (start.manager c me);
    process = record { program = program; state = first_state };
    history = [];
    used = 0;
  }

  -- a node as it begins: no instruction was carried out, and nothing was sent either way
  abbrev pub first_node : Config → ℕ → Program → Node (Host S)
  first_node c me program =
      record { core = first_host c me program; link = first_link me c.nodes }

  -- the nodes of the programs, numbered upwards from the first one's number
  abbrev pub first_nodes : Config → ℕ → List Program → List (Node (Host S))
  first_nodes c me [] = []
  first_nodes c me (p ∷ ps) = first_node c me p ∷ first_nodes c (me + 1) ps

  -- the world before the first move
  abbrev pub opening : Config → List Program → World (Host S)
  opening c programs =
      record { nodes = first_nodes c 0 programs; sent = []; early = map (λ p. []) programs }
