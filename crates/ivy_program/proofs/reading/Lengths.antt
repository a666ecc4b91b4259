-- How many words a line that does something has.
use Rattle.std.proofs.Common.{◌≡◌, ℕ, ◌≤◌, List, [], ◌∷◌, get_or, length, map, refl, ap, arith}
use Rattle.ivy_program.specs.declared.instruction.Instruction.{Instruction}
use Rattle.ivy_program.specs.declared.instruction.Instruction.TheVariants.{Move, Compute, Count, Advance, Await, Alloc, Free, Status, Print, Jump, JumpIfZero, Stop}
use Rattle.ivy_program.specs.declared.line.Action.{Action}
use Rattle.ivy_program.specs.declared.line.Action.TheVariants as action
use Rattle.ivy_program.specs.declared.line.Line.{Line}
use Rattle.ivy_program.specs.declared.line.Line.TheVariants as line
use Rattle.ivy_program.specs.texts.Lines.{SpellsAction, SpellsPlain, SpellsLine}

abbrev HasOneToSix : List (List ℕ) → Type 0
HasOneToSix ws = (1 ≤ length ws) × (length ws ≤ 6)

counted : (ws vs : List (List ℕ)) → ws ≡ vs → HasOneToSix vs → HasOneToSix ws
counted ws vs e many = (omega (arith, ap length e, many.0), omega (arith, ap length e, many.1))

plain_counted : (ws : List (List ℕ)) (i : Instruction) → SpellsPlain ws i → HasOneToSix ws
plain_counted ws (Count to count) h = counted ws _ h (omega arith, omega arith)
plain_counted ws (Advance count) h = counted ws _ h (omega arith, omega arith)
plain_counted ws (Await to count least) h = counted ws _ h (omega arith, omega arith)
plain_counted ws (Alloc to size) h = counted ws _ h (omega arith, omega arith)
plain_counted ws (Free addr) h = counted ws _ h (omega arith, omega arith)
plain_counted ws (Move to from) h = counted ws _ h (omega arith, omega arith)
plain_counted ws (Compute operation to left right) h = counted ws _ h (omega arith, omega arith)
plain_counted ws (Status to) h = counted ws _ h (omega arith, omega arith)
plain_counted ws (Print from) h = counted ws _ h (omega arith, omega arith)
plain_counted ws (Jump place) h = absurd h
plain_counted ws (JumpIfZero from place) h = absurd h
plain_counted ws Stop h = counted ws _ h (omega arith, omega arith)
-- the others have a number among their words
plain_counted ws i h = counted ws _ h.2 (omega arith, omega arith)

-- it has one to six words
pub action_counted : (ws : List (List ℕ)) (a : Action) → SpellsAction ws a
    → (1 ≤ length ws) × (length ws ≤ 6)
action_counted ws (action.Plain i) h = plain_counted ws i h.1
action_counted ws (action.Jump n) h = counted ws _ h.1 (omega arith, omega arith)
action_counted ws (action.JumpIfZero f n) h = counted ws _ h.2 (omega arith, omega arith)

-- no line that says anything has more
pub line_counted : (ws : List (List ℕ)) (said : Line) → SpellsLine ws said → length ws ≤ 6
line_counted ws line.Blank h = omega (arith, ap length h)
line_counted ws (line.Node number) h = omega (arith, ap length h.2)
line_counted ws (line.Label name) h = omega (arith, ap length h.1)
line_counted ws (line.Does action) h = (action_counted ws action h).1

-- a list of five, mapped
pub five_mapped : {X Y : Type 0} (xs : List X) (f : X → Y) (d : X) → length xs ≡ 5
    → f (get_or xs 0 d) ∷ f (get_or xs 1 d) ∷ f (get_or xs 2 d) ∷ f (get_or xs 3 d)
    ∷ f (get_or xs 4 d) ∷ [] ≡ map f xs
five_mapped (v ∷ w ∷ x ∷ y ∷ z ∷ []) f d e = refl
five_mapped xs f d e = absurd (omega (arith, e))

-- and one of six
pub six_mapped : {X Y : Type 0} (xs : List X) (f : X → Y) (d : X) → length xs ≡ 6
    → f (get_or xs 0 d) ∷ f (get_or xs 1 d) ∷ f (get_or xs 2 d) ∷ f (get_or xs 3 d)
    ∷ f (get_or xs 4 d) ∷ f (get_or xs 5 d) ∷ [] ≡ map f xs
six_mapped (u ∷ v ∷ w ∷ x ∷ y ∷ z ∷ []) f d e = refl
six_mapped xs f d e = absurd (omega (arith, e))
