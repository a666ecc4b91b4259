-- What one row of the table does to the late nodes of a request and to its chain: the statements
-- that rounds are built on. A world gives the premises of a row by `kept-steps`: what
-- rows keep holds of both nets. They are orderly and hinted by `IsQuiet (IsHinted c)`, `IsOwed` has
-- that no more was delivered than posted, and `IsSteady` is kept beside these (`steady_by`).
use Rattle.std.specs.Prelude.{◌≡◌, ◌⊎◌, ℕ, true, List}
use Rattle.ivy_model.specs.declared.Config.{Config}
use Rattle.ivy_model.specs.stated.Config.{IsConfig}
use Rattle.ivy_dynamic.specs.stated.Dynamic.{Hints, dynamic_ops}
use Rattle.proof_table.specs.stated.Letters.{Letter, Net, Place, Loose}
use Rattle.proof_table.specs.stated.Orderly.{IsOrderly}
use Rattle.proof_table.specs.transitions.TableSteps.{Notice, Row, IsNamedBy, noticed}
use Rattle.proof_table.specs.routing.Hinting.{IsHinted}
use Rattle.proof_table.proofs.routing.Remaining.{IsCounted}
use Rattle.proof_table.proofs.waiting.Onward.{IsLater}
use Rattle.proof_answers.specs.late.Late.{IsOut, IsChained, IsLate, IsSteady}

-- what is known of the managers and the net before a row
pub record IsBefore (c : Config) (m : ℕ → Hints) (n : Net) : Type 0 where
  pub order : IsOrderly c n
  pub hinted : IsHinted c m n
  pub counted : IsCounted n
  pub steady : IsSteady c m n

-- a letter of the chain is at its node still, or came in
pub record IsChainedOn (n' : Net) (page asker : ℕ) (a : Place) (l : Letter) : Type 0 where
  pub at : Place
  pub letter : Letter
  pub later : IsLater a at
  pub dest : letter.dest ≡ l.dest
  pub chained : IsChained n' page asker at letter

pub record LateLaws (c : Config) : Type 0 where
  -- managers stay steady, readers ordered, and only orders are put off where a copy is awaited
  pub steady_by : {m : ℕ → Hints} {n : Net} {f : ℕ → List ℕ} {notice : Notice} {n' : Net}
      {f' : ℕ → List ℕ} → Row true c n f notice n' f' → IsNamedBy dynamic_ops c m notice
      → IsBefore c m n → IsSteady c (noticed dynamic_ops m notice) n'
  -- while the request is not served, who is late stays late
  pub late_by : {m : ℕ → Hints} {n : Net} {f : ℕ → List ℕ} {notice : Notice} {n' : Net}
      {f' : ℕ → List ℕ} → Row true c n f notice n' f' → IsNamedBy dynamic_ops c m notice
      → IsBefore c m n → (page asker node : ℕ) → IsOut n page asker → IsOut n' page asker
      → IsLate c.nodes m n page asker node
      → IsLate c.nodes (noticed dynamic_ops m notice) n' page asker node
  -- and each of the chain is one of it still, or its node is late then: it served that one by
  -- giving the page, or sent it on
  pub chain_by : {m : ℕ → Hints} {n : Net} {f : ℕ → List ℕ} {notice : Notice} {n' : Net}
      {f' : ℕ → List ℕ} → Row true c n f notice n' f' → IsNamedBy dynamic_ops c m notice
      → IsBefore c m n → (page asker : ℕ) (a : Place) (l : Letter) → IsOut n' page asker
      → IsChained n page asker a l
      → IsChainedOn n' page asker a l
      ⊎ ((a ≡ Loose 0) × IsLate c.nodes (noticed dynamic_ops m notice) n' page asker l.dest)

-- The law: so it is of each configuration.
abbrev pub LateNodesStayLate : Type 0
LateNodesStayLate = (c : Config) → IsConfig c → LateLaws c
