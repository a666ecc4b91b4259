-- A lock in a word of the heap: 0 where it is free. A swap of 1, or a compare-and-swap of 0 with 1,
-- that finds 0 takes it, and a store of 0 leaves it.
use Rattle.std.specs.Prelude.{◌≡◌, ℕ, ◌<◌, Bool, true, false, ◌==◌, if◌then◌else◌, IsTrue}
use Rattle.std.specs.Prelude.{List, [], ◌∷◌, ◌++◌}
use Rattle.ivy_model.specs.declared.config.Config.{Config}
use Rattle.ivy_model.specs.declared.call.Act.{Act}
use Rattle.ivy_model.specs.declared.call.Act.TheVariants as act
use Rattle.ivy_model.specs.declared.call.Call.{Call}
use Rattle.ivy_model.specs.declared.call.CallKind.{CallKind}
use Rattle.ivy_model.specs.declared.call.CallKind.TheVariants.{Word}
use Rattle.ivy_model.specs.declared.call.Record.{Record}
use Rattle.ivy_model.specs.declared.call.Reply.{Reply}
use Rattle.ivy_model.specs.declared.call.Reply.TheVariants.{Value}
use Rattle.ivy_model.specs.stated.Accesses.{kind_of_call}
use Rattle.ivy_model.specs.stated.Memory.{Memory}
use Rattle.ivy_calls.specs.declared.answer.Answer.{Answer}
use Rattle.ivy_calls.specs.Answers.{answers_of}
use Rattle.ivy_sync.specs.HeapWords.{word, IsHeapWord, is_write_in, LeadsThrough}

-- whether a node holds the lock after it has written in its word, where it held it before or not
abbrev pub held_by_act : Bool → Act → Reply → Bool
held_by_act held (act.Store value) reply = false
held_by_act held _ (Value found) = if found == 0 then true else held
held_by_act held _ _ = held

abbrev pub held_by : Bool → CallKind → Reply → Bool
held_by held (Word width addr does) reply = held_by_act held does reply
held_by held _ reply = held

-- whether a node holds the lock at a after a call, where it held it before or not
abbrev pub held_after : ℕ → Bool → Answer → Bool
held_after a held r = if is_write_in a r.call then held_by held
    (kind_of_call r.call) r.reply else held

-- and after these answers of the node
abbrev pub holds : ℕ → Bool → List Answer → Bool
holds a held [] = held
holds a held (r ∷ rs) = holds a (held_after a held r) rs

-- a node may ask for the lock, and where it holds it leave it
abbrev pub MayAct : Bool → Act → Type 0
MayAct held act.Load = Unit {0}
MayAct held (act.Store value) = (value ≡ 0) × IsTrue held
MayAct held (act.Swap value) = value ≡ 1
MayAct held (act.Cas expected value) = (expected ≡ 0) × (value ≡ 1)
MayAct held (act.FetchAdd value) = ⊥

abbrev pub MayWriteKind : ℕ → Bool → CallKind → Type 0
MayWriteKind a held (Word width addr does) = (width ≡ 8) × (addr ≡ a) × MayAct held does
MayWriteKind a held _ = ⊥

-- what a node may write in the lock's word
abbrev pub MayWrite : ℕ → Bool → Call → Type 0
MayWrite a held call = IsTrue (is_write_in a call) → MayWriteKind a held (kind_of_call call)

-- in these answers of the node it writes no more than that
abbrev pub KeepsLock : ℕ → Bool → List Answer → Type 0
KeepsLock a held [] = Unit {0}
KeepsLock a held (r ∷ rs) = MayWrite a held r.call × KeepsLock a (held_after a held r) rs

-- In every order of records that a flat memory makes, at no point do two nodes hold the lock.
abbrev pub MutualExclusion : Type 0
MutualExclusion = (c : Config) (old new : Memory) (before after : List Record) (a : ℕ)
    → LeadsThrough c old (before ++ after) new → IsHeapWord c a → word c old a ≡ 0
    → ((i : ℕ) → i < c.nodes → KeepsLock a false (answers_of i (before ++ after))) → (i j : ℕ)
    → IsTrue (holds a false (answers_of i before)) → IsTrue (holds a false (answers_of j before))
    → i ≡ j

-- A lock that all nodes have left is free.
abbrev pub LeftLocksAreFree : Type 0
LeftLocksAreFree = (c : Config) (old new : Memory) (order : List Record) (a : ℕ)
    → LeadsThrough c old order new → IsHeapWord c a → word c old a ≡ 0
    → ((i : ℕ) → i < c.nodes → KeepsLock a false (answers_of i order))
    → ((i : ℕ) → i < c.nodes → holds a false (answers_of i order) ≡ false)
    → word c new a ≡ 0
