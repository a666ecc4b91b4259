-- The moves of a schedule, and those that the generator of a seed draws.
use Rattle.std.proofs.Common.{◌≡◌, ℕ, zero, suc, ◌+◌, ◌%◌, ◌≤◌, nat_lt, min, Bool, true, false, if◌then◌else◌, List, [], ◌∷◌, length, take, Some, inl, inr, length-take, refl, sym, ap, subst, ◌∙◌, arith}
use Rattle.rand_pcg.specs.Lcg.{Lcg}
use Rattle.ivy_model.specs.declared.Config.{Config}
use Rattle.ivy_moves.specs.declared.Move.{Move}
use Rattle.ivy_moves.specs.declared.Move.TheVariants.{Turn}
use Rattle.ivy_texts.specs.Drawn.{word_of, after_word, delivery, drawn, pulse}
use Rattle.proof_worlds.specs.stated.RunState.{Run}
use Rattle.ivy_play.specs.Given.{AreAmong, AreDrawn, AreGiven, GivesNext, Giving, after_move, always, drawn_in, moves_of, seed_moves}

head_or : Giving → List Giving → Giving
head_or d [] = d
head_or d (give ∷ gives) = give

behind : List Giving → List Giving
behind [] = []
behind (give ∷ gives) = gives

head_is : (f g : Giving) (fs gs : List Giving) → f ∷ fs ≡ g ∷ gs → f ≡ g
unfolding head_or
head_is f g fs gs is = ap (head_or f) is

behind_is : (f g : Giving) (fs gs : List Giving) → f ∷ fs ≡ g ∷ gs → fs ≡ gs
unfolding behind
behind_is f g fs gs is = ap behind is

-- the moves of a schedule are among those that were made
pub listed_among : (c : Config) (all : List Move) (r : Run) (moves listed : List Move) (since place : ℕ)
    → AreGiven c all r (always listed) since place moves → AreAmong listed moves
listed_among c all r moves [] since place h = tt
listed_among c all r [] (one ∷ listed) since place h =
    let none : length (always (one ∷ listed)) ≡ 0 = ap length h in absurd (omega (arith, none))
listed_among c all r (move ∷ moves) (one ∷ listed) since place (inl h) =
    let first : (λ (r : Run). one) ≡ h.0 = head_is (λ r. one) h.0 (always listed) h.1 h.2 in
    inl (
      ap (λ (f : Giving). f h.3.past.run) first ∙ sym h.3.is,
      listed_among c all r moves listed (place + 1) (place + 1)
          (subst (λ gives. AreGiven c all r gives (place + 1) (place + 1) moves)
          (sym (behind_is (λ r. one) h.0 (always listed) h.1 h.2)) h.4),
    )
listed_among c all r (move ∷ moves) (one ∷ listed) since place (inr h) =
    inr (listed_among c all r moves (one ∷ listed) since (place + 1) h)

-- no more moves are given than made
given_within : (c : Config) (all : List Move) (r : Run) (moves : List Move) (gives : List Giving)
    (since place : ℕ) → AreGiven c all r gives since place moves → length gives ≤ length moves
given_within c all r [] gives since place h =
    let none : length gives ≡ 0 = ap length h in omega (arith, none)
given_within c all r (move ∷ moves) gives since place (inl h) =
    let more : length gives ≡ length (h.0 ∷ h.1) = ap length h.2 in
    let within = given_within c all r moves h.1 (place + 1) (place + 1) h.4 in
    omega (arith, more, within)
given_within c all r (move ∷ moves) gives since place (inr h) =
    let within = given_within c all r moves gives since (place + 1) h in omega (arith, within)

moves_many : (n : ℕ) (g : Lcg) → length (moves_of n g) ≡ n
moves_many zero g = refl
moves_many (suc n) g = ap suc (moves_many n (after_move g))

-- as many moves are drawn as are asked for
pub drawn_many : (c : Config) (seed n : ℕ) (moves : List Move) (count : ℕ) (r : Run)
    → AreDrawn c (seed_moves seed n) moves count r → n ≤ count
drawn_many c seed n moves count r h =
    let given = given_within c moves r (take count moves) (seed_moves seed n) 0 0 h in
    let all : length (seed_moves seed n) ≡ n = moves_many n _ in
    let within : length (take count moves) ≡ min count (length moves) = length-take count moves in
    omega (arith, given, all, within)

-- one of three moves, of which two leave the same generator
abbrev pick : Bool → Bool → Move × Move × Move → Lcg → Lcg → Move × Lcg
pick is_turn is_delivery moves two three =
    if is_turn then (moves.0, two) else if is_delivery then (moves.1, two) else (moves.2, three)

picked : (is_turn is_delivery : Bool) (a b : Move × Move × Move) (two three : Lcg)
    → (pick is_turn is_delivery a two three).1 ≡ (pick is_turn is_delivery b two three).1
picked true is_delivery a b two three = refl
picked false true a b two three = refl
picked false false a b two three = refl

-- the generator after a move is the same whatever the nodes and the strings
same_after : (nodes : ℕ) (sent : List (List ℕ)) (g : Lcg) → (drawn nodes sent g).1 ≡ after_move g
unfolding drawn
same_after nodes sent g =
    let x : ℕ = word_of g in
    let y : ℕ = word_of (after_word g) in
    let two : Lcg = after_word (after_word g) in
    picked (nat_lt (x % 8) 4) (nat_lt (x % 8) 7)
    (Turn (y % nodes), delivery nodes sent y, pulse nodes y (word_of two))
    (Turn (y % 0), delivery 0 [] y, pulse 0 y (word_of two)) two (after_word two)

-- the generator draws the next move
pub drawn_next : (n m : ℕ) (g after : Lcg) (r : Run) (move : Move) → n ≡ m + 1
    → (move, after) ≡ drawn r.config.nodes r.world.sent g
    → GivesNext (moves_of n g) r (Some move) (moves_of m after)
drawn_next n m g after r move fewer is =
    let one : n ≡ suc m = omega (arith, fewer) in
    let same : after_move g ≡ after =
    sym (ap (λ (p : Move × Lcg). p.1) is ∙ same_after r.config.nodes r.world.sent g) in
    inl (
      drawn_in g,
      ap (λ k. moves_of k g) one ∙ ap (λ h. drawn_in g ∷ moves_of m h) same,
      ap (λ (p : Move × Lcg). p.0) is,
    )
