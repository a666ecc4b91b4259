-- What is known of how long a word waits in the worlds of an opening: in how many rounds it is
-- answered at most, of managers of some kind. No step makes them more while it waits on, each round
-- makes them less, and they are never more than `most`.
use Rattle.std.specs.Prelude.{◌≡◌, ◌<◌, ◌≤◌, ℕ, suc, true, List, []}
use Rattle.ivy_model.specs.declared.Config.{Config}
use Rattle.ivy_pagetable.specs.stated.Entries.{is_locked}
use Rattle.ivy_pagetable.specs.stated.Manager.{Ops}
use Rattle.ivy_program.specs.stated.Programs.{Program}
use Rattle.ivy_moves.specs.stated.FifoWorld.{FifoWorld}
use Rattle.ivy_host.specs.declared.opening.Opening.{Opening}
use Rattle.ivy_host.specs.stated.Hosts.{Host}
use Rattle.ivy_host.specs.stated.Managers.{Managed, managed_ops}
use Rattle.ivy_host.specs.stated.Openings.{managed_start}
use Rattle.proof_table.specs.stated.Letters.{Letter, Net, Place, IsAt}
use Rattle.proof_table.specs.stated.Orderly.{IsOrderly}
use Rattle.proof_table.specs.transitions.TableSteps.{Notice, Row, Claim, IsNamedBy, IsPreservedBy, noticed}
use Rattle.proof_table.proofs.transitions.Embedded.{Embeds, AreWithin}
use Rattle.proof_table.proofs.waiting.Onward.{IsOnward}
use Rattle.proof_table.proofs.waiting.Restarts.{next_due}
use Rattle.proof_worlds.specs.stated.FifoRuns.{IsReachedInOrder}
use Rattle.proof_worlds.specs.stated.Nets.{net_of, managers_of}
use Rattle.proof_worlds.proofs.refinement.LiftedRuns.{Holds}

-- managers are of this kind, and P holds of them
abbrev pub OfKind : {S : Type 0} → (S → Managed) → Config → Claim S → Claim Managed
OfKind {S} embed c P m n f = (s : ℕ → S) × AreWithin embed c s m × P s n f

-- beyond the nodes
abbrev pub spare : Config → Managed
spare c = managed_ops.first c 0

-- the net at the end of a round: what was due is delivered, and letters are at the nodes
pub record IsEnded (c : Config) (due : ℕ → ℕ → ℕ) (n : Net) : Type 0 where
  pub ended : (x y : ℕ) → due x y ≤ n.delivered x y
  pub none : n.loose ≡ []
  pub below : (a : Place) (l : Letter) → IsAt n a l → l.dest < c.nodes

pub record WaitRank (opened : Opening) (c : Config) (programs : List Program) : Type 1 where
  -- the managers of the kind, what holds of them in each world, and in how many rounds a word that
  -- waits at a page of a node is answered; and where requests are alone
  pub Kept : Type 0
  pub small : Ops Kept
  pub embed : Kept → Managed
  pub within : Embeds small managed_ops embed
  pub Base : Claim Kept
  pub Waits : (ℕ → Kept) → Net → (ℕ → ℕ → ℕ) → ℕ → ℕ → ℕ → Type 0
  pub most : ℕ
  pub alone : ℕ → ℕ → Type 0
  -- what rows keep
  pub order : (m : ℕ → Kept) (n : Net) (f : ℕ → List ℕ) → Base m n f → IsOrderly c n
  pub kept : IsPreservedBy (managed_start opened).sends_on small c Base
  pub reached : (o : FifoWorld (Host Managed))
      → IsReachedInOrder managed_ops (managed_start opened) c programs o
      → Holds (managed_start opened).sends_on managed_ops c (OfKind embed c Base) (spare c) o
  pub onward : {m : ℕ → Kept} {n : Net} {f : ℕ → List ℕ} {notice : Notice} {n' : Net}
      {f' : ℕ → List ℕ} → Row (managed_start opened).sends_on c n f notice n' f'
      → IsNamedBy small c m notice → Base m n f → IsOnward c alone n n'
  pub on : {m : ℕ → Kept} {n : Net} {f : ℕ → List ℕ} {notice : Notice} {n' : Net}
      {f' : ℕ → List ℕ} → Row (managed_start opened).sends_on c n f notice n' f'
      → IsNamedBy small c m notice → Base m n f → Base (noticed small m notice) n' f'
      → (due : ℕ → ℕ → ℕ) (page node r : ℕ) → page < c.pages
      → is_locked (n.entry node page) ≡ true → is_locked (n'.entry node page) ≡ true
      → Waits m n due page node r → Waits (noticed small m notice) n' due page node r
  -- and rounds
  pub ends : (m : ℕ → Kept) (n : Net) (f : ℕ → List ℕ) → Base m n f → (due : ℕ → ℕ → ℕ)
      → IsEnded c due n → (page node : ℕ) → page < c.pages → node < c.nodes
      → is_locked (n.entry node page) ≡ true → Waits m n due page node 0 → ⊥
  pub less : (m : ℕ → Kept) (n : Net) (f : ℕ → List ℕ) → Base m n f → (due : ℕ → ℕ → ℕ)
      → IsEnded c due n → (page node r : ℕ) → page < c.pages → node < c.nodes
      → is_locked (n.entry node page) ≡ true → Waits m n due page node (suc r)
      → Waits m n (next_due n) page node r
  pub first : (m : ℕ → Kept) (n : Net) (f : ℕ → List ℕ) → Base m n f → (due : ℕ → ℕ → ℕ)
      → IsEnded c due n → (page node : ℕ) → page < c.pages → node < c.nodes
      → is_locked (n.entry node page) ≡ true → Waits m n (next_due n) page node most

-- a word at this page of a node waits for so many rounds
module _ {opened : Opening} {c : Config} {programs : List Program} (rank : WaitRank opened c programs)
  where
    abbrev pub Waiting : (ℕ → ℕ → ℕ) → ℕ → ℕ → ℕ → Claim rank.Kept
    Waiting due page node r m n f = rank.Base m n f × rank.Waits m n due page node r

    abbrev pub IsWaitingIn : FifoWorld (Host Managed) → (ℕ → ℕ → ℕ) → ℕ → ℕ → ℕ → Type 0
    IsWaitingIn o due page node r =
        (f : ℕ → List ℕ)
        × OfKind rank.embed c (Waiting due page node r) (managers_of (spare c) o) (net_of o) f
