-- What is promised of a world at every moment.
use Rattle.std.specs.Prelude.{◌≡◌, ℕ, true, List, Contains, slice_get, Some}
use Rattle.ivy_model.specs.declared.Config.{Config}
use Rattle.ivy_wire.specs.stated.Data.{Frame}
use Rattle.ivy_wire.specs.stated.Spelling.{Spells}
use Rattle.ivy_pagetable.specs.stated.Entries.{readable, writable}
use Rattle.ivy_pagetable.specs.stated.Tables.{entry_at}
use Rattle.ivy_program.specs.stated.Programs.{Program}
use Rattle.ivy_program.specs.stated.ProgramRuns.{IsRunTo}
use Rattle.ivy_moves.specs.stated.Nodes.{Node}
use Rattle.ivy_moves.specs.stated.Worlds.{World}
use Rattle.ivy_host.specs.stated.Hosts.{Host}

module _ {S : Type 0} where
  -- no page is writable at one node and readable at another (Li and Hudak 1989)
  abbrev pub IsExclusive : World (Host S) → Type 0
  IsExclusive w = (p i j : ℕ) (n m : Node (Host S)) → slice_get w.nodes i ≡ Some n
      → slice_get w.nodes j ≡ Some m
      → writable (entry_at n.core.memory.coherence.table p) ≡ true
      → readable (entry_at m.core.memory.coherence.table p) ≡ true → i ≡ j

  -- each history is a run of its program, whose output is what that run printed
  abbrev pub AreRuns : List Program → World (Host S) → Type 0
  AreRuns programs w = (i : ℕ) (n : Node (Host S)) → slice_get w.nodes i ≡ Some n
      → (slice_get programs i ≡ Some n.core.process.program)
      × IsRunTo n.core.process.program n.core.history n.core.process.state

  -- no node has counted a message that fitted no rule
  abbrev pub HasNoBreach : World (Host S) → Type 0
  HasNoBreach w = (i : ℕ) (n : Node (Host S)) → slice_get w.nodes i ≡ Some n
      → n.core.memory.coherence.breaches ≡ 0

  -- each string ever sent spells a frame
  abbrev pub AllSpell : Config → World (Host S) → Type 0
  AllSpell c w = (bytes : List ℕ) → Contains w.sent bytes → (f : Frame) × Spells c f bytes
