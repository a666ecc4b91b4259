-- What a node was answered, in an order that is put together or cut.
use Rattle.std.proofs.Common.{◌≡◌, ℕ, ◌<◌, ◌≤◌, List, [], ◌∷◌, ◌++◌, map, refl, ap, ◌∙◌, arith}
use Rattle.std.proofs.lemmas.List.{map-append}
use Rattle.std.proofs.lemmas.Bool.{ne_eqb}
use Rattle.std.specs.List.{AllByRecursion as Each}
use Rattle.std.specs.Prelude.{if◌then◌else◌}
use Rattle.ivy_model.specs.declared.call.Record.{Record}
use Rattle.ivy_model.specs.stated.Explains.{part}
use Rattle.ivy_model.proofs.OrderParts.{part-append, part-own, part-push_own, part-push_other}
use Rattle.ivy_calls.specs.declared.answer.Answer.{Answer}
use Rattle.ivy_calls.specs.Answers.{by, answer, answers, answers_of}

pub answers-append : (rs ss : List Record) → answers (rs ++ ss) ≡ answers rs ++ answers ss
answers-append rs ss = map-append answer rs ss

pub answers_of-append : (i : ℕ) (rs ss : List Record)
    → answers_of i (rs ++ ss) ≡ answers_of i rs ++ answers_of i ss
answers_of-append i rs ss =
    ap answers (part-append i rs ss) ∙ answers-append (part i rs) (part i ss)

-- one record more of the node, and of another
pub answers_of-push_own : (i : ℕ) (rs : List Record) (r : Record) → r.node ≡ i
    → answers_of i (rs ++ r ∷ []) ≡ answers_of i rs ++ answer r ∷ []
answers_of-push_own i rs r e =
    ap answers (part-push_own i rs r e) ∙ answers-append (part i rs) (r ∷ [])

pub answers_of-push_other : (i : ℕ) (rs : List Record) (r : Record) → (r.node ≡ i → ⊥)
    → answers_of i (rs ++ r ∷ []) ≡ answers_of i rs
answers_of-push_other i rs r ne = ap answers (part-push_other i rs r ne)

-- at a record of the node, and of another
pub answers_of-first : (r : Record) (rs : List Record)
    → answers_of r.node (r ∷ rs) ≡ answer r ∷ answers_of r.node rs
answers_of-first r rs =
    answers_of-append r.node (r ∷ []) rs
    ∙ ap (λ own. answers own ++ answers_of r.node rs) (part-own r.node r refl)

pub answers_of-at : (rs : List Record) (r : Record) (ss : List Record)
    → answers_of r.node (rs ++ r ∷ ss)
    ≡ answers_of r.node rs ++ answer r ∷ answers_of r.node ss
answers_of-at rs r ss =
    answers_of-append r.node rs (r ∷ ss)
    ∙ ap (λ own. answers_of r.node rs ++ own) (answers_of-first r ss)

pub answers_of-skip : (i : ℕ) (r : Record) (rs : List Record) → (r.node ≡ i → ⊥)
    → answers_of i (r ∷ rs) ≡ answers_of i rs
answers_of-skip i r rs ne =
    ap (λ b. answers (if b then r ∷ part i rs else part i rs)) (ne_eqb r.node i ne)

-- a node that is not there was answered nothing
pub answers_of-nobody : (i n : ℕ) (rs : List Record) → n ≤ i
    → Each (λ (r : Record). r.node < n) rs → answers_of i rs ≡ []
answers_of-nobody i n [] le there = refl
answers_of-nobody i n (r ∷ rs) le there =
    let below = there.0 in
    answers_of-skip i r rs (λ same. absurd (omega (arith, le, below, same)))
    ∙ answers_of-nobody i n rs le there.1

answers-by : (i : ℕ) (list : List Answer) → answers (map (by i) list) ≡ list
answers-by i [] = refl
answers-by i (a ∷ list) = ap (λ rest. a ∷ rest) (answers-by i list)

-- what a node was answered, from its part of the order as a report has it
pub answers_of-by : (i : ℕ) (order : List Record) (list : List Answer)
    → part i order ≡ map (by i) list → answers_of i order ≡ list
answers_of-by i order list e = ap answers e ∙ answers-by i list
