-- What contracts see of a node's coherence, over any manager. This file names no struct of the
-- crate.
use Rattle.std.specs.Prelude.{ℕ, Bool, List, Option}
use Rattle.ivy_model.specs.declared.Config.{Config}
use Rattle.ivy_pagetable.specs.declared.Out.{Out}
use Rattle.ivy_pagetable.specs.declared.Word.{Word}
use Rattle.ivy_pagetable.specs.stated.TableState.{Table}

-- `locked` is the page whose entry a word waits at, and `more` are the words of that page that wait
-- along with it. `fetched` are the pages that are asked for beside it: their entries are locked, and
-- no word waits there. `done` is the answer of a word that faulted and was carried out since,
-- `done_more` are those of the words that waited along with it. `breaches` is the number of messages
-- that fitted no rule.
pub record Coherent (S : Type 0) : Type 0 where
  pub config : Config
  pub me : ℕ
  pub sends_on : Bool
  pub table : Table
  pub manager : S
  pub locked : Option ℕ
  pub fetched : List ℕ
  pub more : List Word
  pub done : Option Out
  pub done_more : List Out
  pub breaches : ℕ
