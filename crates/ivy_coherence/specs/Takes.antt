-- Answers of words of a row that are taken one after another.
use Rattle.std.specs.Prelude.{◌≡◌, ℕ, suc, Bool, true, false, ◌&&◌, ◌==◌, List, [], ◌∷◌, length, Option, Some, None, if◌then◌else◌}
use Rattle.ivy_model.specs.declared.Row.{Row}
use Rattle.ivy_model.specs.declared.Row.TheVariants.{Loads, Stores}
use Rattle.ivy_pagetable.specs.declared.Out.{Out}
use Rattle.ivy_pagetable.specs.declared.Out.TheVariants.{Value, Done}
use Rattle.ivy_pagetable.specs.WordRows.{out_in}
use Rattle.ivy_coherence.specs.stated.Coherent.{Coherent}
use Rattle.ivy_coherence.specs.stated.Several.{first_out, later_outs}

-- the answer that is there is taken, and that of the next word is there then
abbrev pub next_taken : {S : Type 0} → Coherent S → Coherent S
next_taken c =
    record c { done = first_out c.done_more; done_more = later_outs c.done_more }

-- one answer for each of these numbers, which are those that were loaded, where words were loaded
abbrev pub AreOutsTaken : {S : Type 0} → Row → List ℕ → Coherent S → Coherent S → Type 0
AreOutsTaken kind [] old new = new ≡ old
AreOutsTaken kind (number ∷ more) old new =
    (old.done ≡ Some (out_in kind number)) × AreOutsTaken kind more (next_taken old) new

-- a word of a row of this kind gives such an answer
abbrev pub is_given : Row → Out → Bool
is_given Loads (Value number) = true
is_given Stores Done = true
is_given kind o = false

-- how many of these answers, from the first on, words of a row of this kind may have given
abbrev pub given : Row → List Out → ℕ
given kind [] = 0
given kind (o ∷ os) = if is_given kind o then suc (given kind os) else 0

-- how many of those that are there
abbrev pub given_there : Row → Option Out → List Out → ℕ
given_there kind None os = 0
given_there kind (Some o) os = given kind (o ∷ os)

-- an answer is there, and just so many behind it, each of which a word of a row of this kind may have
-- given
abbrev pub are_given : Row → ℕ → Option Out → List Out → Bool
are_given kind behind out more =
    (given_there kind out more == suc behind) && (length more == behind)
