-- That somebody is answered, or a page comes that was fetched ahead.
use Rattle.std.specs.Prelude.{◌≡◌, ◌⊎◌, ◌+◌, ◌*◌, ℕ, zero, suc, false, List, [], ◌∷◌, ◌++◌, slice_get, Some}
use Rattle.std.specs.List.{Contains}
use Rattle.ivy_model.specs.declared.Config.{Config}
use Rattle.ivy_pagetable.specs.stated.Entries.{is_locked}
use Rattle.ivy_pagetable.specs.stated.Tables.{entry_at}
use Rattle.ivy_program.specs.stated.Programs.{Program}
use Rattle.ivy_moves.specs.declared.Move.{Move}
use Rattle.ivy_moves.specs.declared.Move.TheVariants.{Turn}
use Rattle.ivy_moves.specs.stated.Nodes.{Node}
use Rattle.ivy_moves.specs.stated.Worlds.{World, Leads}
use Rattle.ivy_host.specs.stated.Hosts.{Host, host_rules}
use Rattle.ivy_host.specs.stated.Managers.{Managed, managed_ops}
use Rattle.ivy_host.specs.declared.opening.Opening.{Opening}
use Rattle.proof_answers.specs.answers.Answered.{IsDue, IsSomeAnswered, most_work}
use Rattle.proof_answers.specs.answers.NodeRounds.{AreRounds}
use Rattle.proof_answers.specs.answers.Undropped.{IsOfMoves}

-- A page came: a node was fetching it in the one world, beside its call, and in the other its entry
-- is idle, so that nothing waits for the page there.
abbrev pub IsSomeCome : World (Host Managed) → World (Host Managed) → Type 0
IsSomeCome w end = (j page : ℕ) × (n m : Node (Host Managed)) × (slice_get w.nodes j ≡ Some n)
    × (slice_get end.nodes j ≡ Some m) × Contains n.core.memory.coherence.fetched page
    × (is_locked (entry_at m.core.memory.coherence.table page) ≡ false)

module _ (c : Config) where
  -- one came by one of these moves
  abbrev pub IsComeAmong : (w : World (Host Managed)) (moves : List Move)
      (end : World (Host Managed)) → Leads (host_rules managed_ops) c w moves end → Type 0
  IsComeAmong w [] end led = ⊥
  IsComeAmong w (move ∷ moves) end led =
      IsSomeCome w led.0 ⊎ IsComeAmong led.0 moves end led.2

  -- one came in one of these rounds
  abbrev pub HasCome : (i many : ℕ) (w end : World (Host Managed)) → AreRounds c i many w end
      → Type 0
  HasCome i zero w end are = ⊥
  HasCome i (suc more) w end are =
      IsComeAmong w (are.1.before ++ Turn i ∷ are.1.after) are.0 are.1.led
      ⊎ HasCome i more are.0 end are.2

-- So much work is left at most where a page that comes counts: twice the work that is left else,
-- and 333 for each node and page, since the page may be fetched there, and for each node's call.
abbrev pub come_work : Config → ℕ
come_work c = 2 * most_work c + c.nodes * ((c.pages + 1) * 333)

-- so many rounds are enough then
abbrev pub come_rounds : Config → ℕ
come_rounds c =
    ((c.nodes + 1) * come_work c + 1) * come_work c + (c.nodes + 1) * come_work c + 1

-- The law: of each world that moves lead to, and each of its nodes whose call is due, in as many
-- rounds of that node, whatever they are, some node is answered, or a page came that was fetched.
abbrev pub SomeAnsweredOrCome : Type 0
SomeAnsweredOrCome = (opened : Opening) (c : Config) (programs : List Program)
    (w : World (Host Managed))
    → IsOfMoves opened c programs w → (i : ℕ) (n : Node (Host Managed))
    → slice_get w.nodes i ≡ Some n
    → IsDue w n.core.memory.asked
    → (end : World (Host Managed)) → (are : AreRounds c i (come_rounds c) w end)
    → IsSomeAnswered w end ⊎ HasCome c i (come_rounds c) w end are
