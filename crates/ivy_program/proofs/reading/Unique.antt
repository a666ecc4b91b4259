-- The words of a line are those of no other line.
use Rattle.std.proofs.Common.{◌≡◌, ◌∙◌, ℕ, ◌+◌, ◌-◌, ◌*◌, ◌≤◌, ◌<◌, eqb, nat_lt, Bool, true, false}
use Rattle.std.proofs.Common.{cond, List, [], ◌∷◌, codes, fold, length, slice_index, slice_index_or}
use Rattle.std.proofs.Common.{Option, Some, None, refl, sym, ap, arith}
use Rattle.std.specs.List.{AllZip}
use Rattle.std.specs.Str.Parse.{digits_value}
use Rattle.std.proofs.lemmas.Bool.Decides.{nat_tests}
use Rattle.ivy_program.specs.declared.instruction.Instruction.{Instruction}
use Rattle.ivy_program.specs.declared.instruction.Instruction.TheVariants.{Set, Move, Compute, Load, Store, Swap, Cas, FetchAdd, Count, Advance, Await, Alloc, Free, Status, Print, Jump, JumpIfZero, Stop}
use Rattle.ivy_program.specs.declared.instruction.Operation.{Operation}
use Rattle.ivy_program.specs.declared.instruction.Operation.TheVariants.{Add, Sub, Mul}
use Rattle.ivy_program.specs.declared.instruction.Width.{Width}
use Rattle.ivy_program.specs.declared.instruction.Width.TheVariants.{One, Two, Four, Eight}
use Rattle.ivy_program.specs.declared.line.Action.{Action}
use Rattle.ivy_program.specs.declared.line.Action.TheVariants as action
use Rattle.ivy_program.specs.declared.line.Line.{Line}
use Rattle.ivy_program.specs.declared.line.Line.TheVariants as line
use Rattle.ivy_program.specs.stated.Instructions.{bytes_in}
use Rattle.ivy_program.specs.texts.Lines.{SpellsLine, SpellsAction, SpellsPlain}
use Rattle.ivy_program.specs.texts.Operands.{register_word, operation_word}
use Rattle.ivy_program.specs.texts.Readings.{IsReading}
use Rattle.ivy_program.specs.texts.TextWords.{words_of}

low : (r : ℕ) → nat_lt r 10 ≡ true → r < 10
low r h = grind (arith, nat_tests)

high : (r : ℕ) → nat_lt r 10 ≡ false → 10 ≤ r
high r h = grind (arith, nat_tests)

either_register : (a b : Bool) (r s : ℕ) → nat_lt r 10 ≡ a → nat_lt s 10 ≡ b
    → cond a (114 ∷ (48 + r) ∷ []) (114 ∷ 49 ∷ (48 + (r - 10)) ∷ [])
    ≡ cond b (114 ∷ (48 + s) ∷ []) (114 ∷ 49 ∷ (48 + (s - 10)) ∷ []) → r ≡ s
either_register true true r s p q h = omega (arith, ap (λ w. slice_index w 1) h)
either_register true false r s p q h = absurd (omega (arith, ap length h))
either_register false true r s p q h = absurd (omega (arith, ap length h))
either_register false false r s p q h =
    omega (arith, high r p, high s q, ap (λ w. slice_index w 2) h)

register_same : (r s : ℕ) → register_word r ≡ register_word s → r ≡ s
register_same r s h = either_register (nat_lt r 10) (nat_lt s 10) r s refl refl h

width_same : (w v : Width) → bytes_in w ≡ bytes_in v → w ≡ v
width_same One One h = refl
width_same Two Two h = refl
width_same Four Four h = refl
width_same Eight Eight h = refl
width_same w v h = absurd (omega (arith, h))

abbrev word_at : List (List ℕ) → ℕ → List ℕ
word_at words k = slice_index_or words k []

abbrev number : List ℕ → ℕ
number word = fold (λ n b. n * 256 + b) 0 word

-- a number of the first word: one for the words of operations, and another for each other word
abbrev key : List (List ℕ) → ℕ
key words =
    let n = number (word_at words 0) in
    cond (eqb n (number (codes "add"))) 1
    (cond (eqb n (number (codes "sub"))) 1 (cond (eqb n (number (codes "mul"))) 1 n))

abbrev key_of : Instruction → ℕ
key_of (Load width to addr) = number (codes "load")
key_of (Store width addr from) = number (codes "store")
key_of (Swap width to addr from) = number (codes "swap")
key_of (Cas width to addr expected from) = number (codes "cas")
key_of (FetchAdd width to addr from) = number (codes "fadd")
key_of (Count to count) = number (codes "count")
key_of (Advance count) = number (codes "advance")
key_of (Await to count least) = number (codes "await")
key_of (Alloc to size) = number (codes "alloc")
key_of (Free addr) = number (codes "free")
key_of (Set to value) = number (codes "set")
key_of (Move to from) = number (codes "mov")
key_of (Compute operation to left right) = 1
key_of (Status to) = number (codes "status")
key_of (Print from) = number (codes "print")
key_of Stop = number (codes "stop")
key_of _ = 2

operation_is : (o : Operation) → key (operation_word o ∷ []) ≡ 1
operation_is Add = refl
operation_is Sub = refl
operation_is Mul = refl

operation_same : (o p : Operation) → operation_word o ≡ operation_word p → o ≡ p
operation_same Add Add h = refl
operation_same Sub Sub h = refl
operation_same Mul Mul h = refl
operation_same o p h = absurd (omega (arith, ap (λ w. slice_index w 0) h))

plain_key : (ws : List (List ℕ)) (i : Instruction) → SpellsPlain ws i → key ws ≡ key_of i
plain_key ws (Load width to addr) h = ap key h.2
plain_key ws (Store width addr from) h = ap key h.2
plain_key ws (Swap width to addr from) h = ap key h.2
plain_key ws (Cas width to addr expected from) h = ap key h.2
plain_key ws (FetchAdd width to addr from) h = ap key h.2
plain_key ws (Count to count) h = ap key h
plain_key ws (Advance count) h = ap key h
plain_key ws (Await to count least) h = ap key h
plain_key ws (Alloc to size) h = ap key h
plain_key ws (Free addr) h = ap key h
plain_key ws (Set to value) h = ap key h.2
plain_key ws (Move to from) h = ap key h
plain_key ws (Compute operation to left right) h = ap key h ∙ operation_is operation
plain_key ws (Status to) h = ap key h
plain_key ws (Print from) h = ap key h
plain_key ws Stop h = ap key h
plain_key ws _ h = absurd h

abbrev rank : ℕ → ℕ
rank n =
    cond (eqb n 0) 0
    (cond (eqb n (number (codes "node"))) 1 (cond (eqb n (number (codes "label"))) 2 3))

abbrev rank_of : Line → ℕ
rank_of line.Blank = 0
rank_of (line.Node n) = 1
rank_of (line.Label n) = 2
rank_of (line.Does a) = 3

abbrev jump_rank : ℕ → ℕ
jump_rank n = cond (eqb n (number (codes "jump"))) 1 (cond (eqb n (number (codes "jumpz"))) 2 0)

abbrev jump_rank_of : Action → ℕ
jump_rank_of (action.Plain i) = 0
jump_rank_of (action.Jump n) = 1
jump_rank_of (action.JumpIfZero f n) = 2

plain_ranks : (ws : List (List ℕ)) (i : Instruction) → SpellsPlain ws i
    → (rank (key_of i) ≡ 3) × (jump_rank (key_of i) ≡ 0)
plain_ranks ws (Jump p) h = absurd h
plain_ranks ws (JumpIfZero f p) h = absurd h
plain_ranks ws i h = (refl, refl)

action_rank : (ws : List (List ℕ)) (a : Action) → SpellsAction ws a
    → (rank (key ws) ≡ 3) × (jump_rank (key ws) ≡ jump_rank_of a)
action_rank ws (action.Plain i) h = (
  ap rank (plain_key ws i h.1) ∙ (plain_ranks ws i h.1).0,
  ap jump_rank (plain_key ws i h.1) ∙ (plain_ranks ws i h.1).1,
)
action_rank ws (action.Jump n) h = (ap (λ w. rank (key w)) h.1, ap (λ w. jump_rank (key w)) h.1)
action_rank ws (action.JumpIfZero f n) h =
    (ap (λ w. rank (key w)) h.2, ap (λ w. jump_rank (key w)) h.2)

line_rank : (ws : List (List ℕ)) (l : Line) → SpellsLine ws l → rank (key ws) ≡ rank_of l
line_rank ws line.Blank h = ap (λ w. rank (key w)) h
line_rank ws (line.Node n) h = ap (λ w. rank (key w)) h.2
line_rank ws (line.Label n) h = ap (λ w. rank (key w)) h.1
line_rank ws (line.Does a) h = (action_rank ws a h).0

operand_same : (ws : List (List ℕ)) (k r s : ℕ) → word_at ws k ≡ register_word r
    → word_at ws k ≡ register_word s → r ≡ s
operand_same ws k r s p q = register_same r s (sym p ∙ q)

module _ (ws : List (List ℕ)) where
  -- the word at this place
  at : (k : ℕ) (vs : List (List ℕ)) → ws ≡ vs → word_at ws k ≡ word_at vs k
  at k vs e = ap (λ w. word_at w k) e

  plain_same : (i j : Instruction) → SpellsPlain ws i → SpellsPlain ws j → i ≡ j
  plain_same (Jump p) j h k = absurd h
  plain_same (JumpIfZero f p) j h k = absurd h
  plain_same i (Jump p) h k = absurd k
  plain_same i (JumpIfZero f p) h k = absurd k
  plain_same (Load w t a) (Load v u b) h k = λ i. Load
      (width_same w v (sym h.1.1 ∙ ap (digits_value 10) (sym (at 1 _ h.2) ∙ at 1 _ k.2) ∙ k.1.1) i)
      (operand_same ws 2 t u (at 2 _ h.2) (at 2 _ k.2) i)
      (operand_same ws 3 a b (at 3 _ h.2) (at 3 _ k.2) i)
  plain_same (Store w a f) (Store v b g) h k = λ i. Store
      (width_same w v (sym h.1.1 ∙ ap (digits_value 10) (sym (at 1 _ h.2) ∙ at 1 _ k.2) ∙ k.1.1) i)
      (operand_same ws 2 a b (at 2 _ h.2) (at 2 _ k.2) i)
      (operand_same ws 3 f g (at 3 _ h.2) (at 3 _ k.2) i)
  plain_same (Swap w t a f) (Swap v u b g) h k = λ i. Swap
      (width_same w v (sym h.1.1 ∙ ap (digits_value 10) (sym (at 1 _ h.2) ∙ at 1 _ k.2) ∙ k.1.1) i)
      (operand_same ws 2 t u (at 2 _ h.2) (at 2 _ k.2) i)
      (operand_same ws 3 a b (at 3 _ h.2) (at 3 _ k.2) i)
      (operand_same ws 4 f g (at 4 _ h.2) (at 4 _ k.2) i)
  plain_same (Cas w t a e f) (Cas v u b d g) h k = λ i. Cas
      (width_same w v (sym h.1.1 ∙ ap (digits_value 10) (sym (at 1 _ h.2) ∙ at 1 _ k.2) ∙ k.1.1) i)
      (operand_same ws 2 t u (at 2 _ h.2) (at 2 _ k.2) i)
      (operand_same ws 3 a b (at 3 _ h.2) (at 3 _ k.2) i)
      (operand_same ws 4 e d (at 4 _ h.2) (at 4 _ k.2) i)
      (operand_same ws 5 f g (at 5 _ h.2) (at 5 _ k.2) i)
  plain_same (FetchAdd w t a f) (FetchAdd v u b g) h k = λ i. FetchAdd
      (width_same w v (sym h.1.1 ∙ ap (digits_value 10) (sym (at 1 _ h.2) ∙ at 1 _ k.2) ∙ k.1.1) i)
      (operand_same ws 2 t u (at 2 _ h.2) (at 2 _ k.2) i)
      (operand_same ws 3 a b (at 3 _ h.2) (at 3 _ k.2) i)
      (operand_same ws 4 f g (at 4 _ h.2) (at 4 _ k.2) i)
  plain_same (Count t c) (Count u d) h k =
      λ i. Count (operand_same ws 1 t u (at 1 _ h) (at 1 _ k) i)
      (operand_same ws 2 c d (at 2 _ h) (at 2 _ k) i)
  plain_same (Advance c) (Advance d) h k = ap Advance (operand_same ws 1 c d (at 1 _ h) (at 1 _ k))
  plain_same (Await t c l) (Await u d m) h k = λ i. Await
      (operand_same ws 1 t u (at 1 _ h) (at 1 _ k) i)
      (operand_same ws 2 c d (at 2 _ h) (at 2 _ k) i)
      (operand_same ws 3 l m (at 3 _ h) (at 3 _ k) i)
  plain_same (Alloc t n) (Alloc u m) h k =
      λ i. Alloc (operand_same ws 1 t u (at 1 _ h) (at 1 _ k) i)
      (operand_same ws 2 n m (at 2 _ h) (at 2 _ k) i)
  plain_same (Free a) (Free b) h k = ap Free (operand_same ws 1 a b (at 1 _ h) (at 1 _ k))
  plain_same (Set t n) (Set u m) h k = λ i. Set
      (operand_same ws 1 t u (at 1 _ h.2) (at 1 _ k.2) i)
      ((sym h.1.1 ∙ ap (digits_value 10) (sym (at 2 _ h.2) ∙ at 2 _ k.2) ∙ k.1.1) i)
  plain_same (Move t f) (Move u g) h k =
      λ i. Move (operand_same ws 1 t u (at 1 _ h) (at 1 _ k) i)
      (operand_same ws 2 f g (at 2 _ h) (at 2 _ k) i)
  plain_same (Compute o t l r) (Compute p u m s) h k = λ i. Compute
      (operation_same o p (sym (at 0 _ h) ∙ at 0 _ k) i)
      (operand_same ws 1 t u (at 1 _ h) (at 1 _ k) i)
      (operand_same ws 2 l m (at 2 _ h) (at 2 _ k) i)
      (operand_same ws 3 r s (at 3 _ h) (at 3 _ k) i)
  plain_same (Status t) (Status u) h k = ap Status (operand_same ws 1 t u (at 1 _ h) (at 1 _ k))
  plain_same (Print f) (Print g) h k = ap Print (operand_same ws 1 f g (at 1 _ h) (at 1 _ k))
  plain_same Stop Stop h k = refl
  plain_same i j h k = absurd (omega (arith, sym (plain_key ws i h) ∙ plain_key ws j k))

  action_same : (a b : Action) → SpellsAction ws a → SpellsAction ws b → a ≡ b
  action_same (action.Plain i) (action.Plain j) h k = ap action.Plain (plain_same i j h.1 k.1)
  action_same (action.Jump n) (action.Jump m) h k = ap action.Jump (sym (at 1 _ h.1) ∙ at 1 _ k.1)
  action_same (action.JumpIfZero f n) (action.JumpIfZero g m) h k = λ i. action.JumpIfZero
      (operand_same ws 1 f g (at 1 _ h.2) (at 1 _ k.2) i)
      ((sym (at 2 _ h.2) ∙ at 2 _ k.2) i)
  action_same a b h k = absurd (omega (arith, sym (action_rank ws a h).1 ∙ (action_rank ws b k).1))

  line_same : (a b : Line) → SpellsLine ws a → SpellsLine ws b → a ≡ b
  line_same line.Blank line.Blank h k = refl
  line_same (line.Node n) (line.Node m) h k =
      ap line.Node (sym h.1.1 ∙ ap (digits_value 10) (sym (at 1 _ h.2) ∙ at 1 _ k.2) ∙ k.1.1)
  line_same (line.Label n) (line.Label m) h k = ap line.Label (sym (at 1 _ h.1) ∙ at 1 _ k.1)
  line_same (line.Does a) (line.Does b) h k = ap line.Does (action_same a b h k)
  line_same a b h k = absurd (omega (arith, sym (line_rank ws a h) ∙ line_rank ws b k))

reading_same : (text : List ℕ) (a b : Option Line) → IsReading text a → IsReading text b → a ≡ b
reading_same text (Some a) (Some b) h k = ap Some (line_same (words_of text) a b h k)
reading_same text (Some a) None h k = absurd (k a h)
reading_same text None (Some b) h k = absurd (h b k)
reading_same text None None h k = refl

-- each text is read in one way
pub readings_same : (texts : List (List ℕ)) (xs ys : List (Option Line)) → AllZip IsReading texts xs
    → AllZip IsReading texts ys → xs ≡ ys
readings_same [] [] [] h k = refl
readings_same [] (x ∷ xs) ys h k = absurd h
readings_same [] xs (y ∷ ys) h k = absurd k
readings_same (t ∷ ts) [] ys h k = absurd h
readings_same (t ∷ ts) (x ∷ xs) [] h k = absurd k
readings_same (t ∷ ts) (x ∷ xs) (y ∷ ys) h k =
    λ i. reading_same t x y h.0 k.0 i ∷ readings_same ts xs ys h.1 k.1 i
