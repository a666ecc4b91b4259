-- How lists of events are read.
use Rattle.std.proofs.Common.{◌≡◌, ℕ, zero, suc, List, [], ◌∷◌, ◌++◌, refl, sym, ap, ◌∙◌, append_assoc, append-nil, ◌+◌, ◌<◌, take, get_or, length}
use Rattle.std.proofs.lemmas.List.{take_more}
use Rattle.ivy_moves.specs.Events.{Event}
use Rattle.ivy_moves.specs.declared.event.Event.TheVariants.{Turns}
use Rattle.ivy_moves.specs.Marks.{Mark, Turn, turns, marks_of, marks}

marks-append : (a b : List Event) → marks (a ++ b) ≡ marks a ++ marks b
marks-append [] b = refl
marks-append (e ∷ a) b =
    ap (λ l. marks_of e ++ l) (marks-append a b)
    ∙ sym (append_assoc (marks_of e) (marks a) (marks b))

-- one entry more
pub marks_push : (a : List Event) (e : Event) → marks (a ++ e ∷ []) ≡ marks a ++ marks_of e
marks_push a e = marks-append a (e ∷ []) ∙ ap (λ l. marks a ++ l) (append-nil (marks_of e))

turns-more : (n : ℕ) → turns (suc n) ≡ turns n ++ Turn ∷ []
turns-more zero = refl
turns-more (suc n) = ap (λ l. Turn ∷ l) (turns-more n)

-- one more turn on the last entry
marks-turn : (a : List Event) (n m : ℕ) → m ≡ suc n
    → marks (a ++ Turns m ∷ []) ≡ marks (a ++ Turns n ∷ []) ++ Turn ∷ []
marks-turn a n m e =
    marks_push a (Turns m) ∙ ap (λ k. marks a ++ turns k) e ∙ ap (λ l. marks a ++ l) (turns-more n)
    ∙ sym (append_assoc (marks a) (turns n) (Turn ∷ []))
    ∙ ap (λ l. l ++ Turn ∷ []) (sym (marks_push a (Turns n)))

pub noted_again : (a old new : List Event) (n m : ℕ) → m ≡ suc n → old ≡ a ++ Turns n ∷ []
    → new ≡ a ++ Turns m ∷ [] → marks new ≡ marks old ++ Turn ∷ []
noted_again a old new n m e was is =
    ap marks is ∙ marks-turn a n m e ∙ ap (λ l. marks l ++ Turn ∷ []) (sym was)

pub noted_new : (old mid new : List Event) → mid ≡ old → new ≡ mid ++ Turns 1 ∷ []
    → marks new ≡ marks old ++ Turn ∷ []
noted_new old mid new was is =
    ap marks is ∙ marks_push mid (Turns 1) ∙ ap (λ l. marks l ++ Turn ∷ []) was

-- two lists, entry by entry
marks-take : (xs : List Event) (i : ℕ) (x : Event) → i < length xs → x ≡ get_or xs i x
    → marks (take (i + 1) xs) ≡ marks (take i xs) ++ marks_of x
marks-take xs i x within is =
    ap marks (take_more xs i x within) ∙ marks_push (take i xs) (get_or xs i x)
    ∙ ap (λ e. marks (take i xs) ++ marks_of e) (sym is)

pub marks_copied : (old new xs : List Event) (i : ℕ) (x e : Event) → i < length xs
    → x ≡ get_or xs i x → new ≡ old ++ e ∷ [] → marks_of e ≡ marks_of x
    → marks old ≡ marks (take i xs) → marks new ≡ marks (take (i + 1) xs)
marks_copied old new xs i x e within is more same was =
    ap marks more ∙ marks_push old e ∙ ap (λ l. l ++ marks_of e) was
    ∙ ap (λ l. marks (take i xs) ++ l) same ∙ sym (marks-take xs i x within is)

pub marks_both : (xs ys : List Event) (i : ℕ) (x y : Event) → i < length xs → i < length ys
    → x ≡ get_or xs i x → y ≡ get_or ys i y → marks_of x ≡ marks_of y
    → marks (take i xs) ≡ marks (take i ys) → marks (take (i + 1) xs) ≡ marks (take (i + 1) ys)
marks_both xs ys i x y a b is is' same was =
    marks-take xs i x a is ∙ ap (λ l. l ++ marks_of x) was ∙ ap (λ l. marks (take i ys) ++ l) same
    ∙ sym (marks-take ys i y b is')

pub marks_retold : (old new : List Mark) (xs : List Event) (i : ℕ) (x : Event) → i < length xs
    → x ≡ get_or xs i x → new ≡ old ++ marks_of x → old ≡ marks (take i xs)
    → new ≡ marks (take (i + 1) xs)
marks_retold old new xs i x within is more was =
    more ∙ ap (λ l. l ++ marks_of x) was ∙ sym (marks-take xs i x within is)
