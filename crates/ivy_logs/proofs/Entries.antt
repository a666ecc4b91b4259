-- The events of the entries of a log.
use Rattle.std.proofs.Common.{◌≡◌, ℕ, zero, suc, ◌+◌, ◌<◌, List, [], ◌∷◌, ◌++◌, length, take, get_or, refl, sym, ap, ◌∙◌, append-nil, append_assoc, zero-add, arith}
use Rattle.std.specs.Prelude.{flat_map}
use Rattle.std.proofs.lemmas.List.{take_more}
use Rattle.std.proofs.lemmas.List.Concat.{flat_map-append}
use Rattle.ivy_moves.specs.Events.{Event}
use Rattle.ivy_moves.specs.Marks.{Turn, turns, marks, marks_of}
use Rattle.ivy_logs.specs.Entries.{LogEntry, event_in, events_in}

-- one more of a list
pub flat-taken : {X Y : Type 0} (f : X → List Y) (xs : List X) (i : ℕ) (x : X) → i < length xs
    → x ≡ get_or xs i x → flat_map f (take (i + 1) xs) ≡ flat_map f (take i xs) ++ f x
flat-taken f xs i x below there =
    ap (flat_map f) (take_more xs i x below ∙ ap (λ y. take i xs ++ y ∷ []) (sym there))
    ∙ flat_map-append f (take i xs) (x ∷ [])
    ∙ ap (λ l. flat_map f (take i xs) ++ l) (append-nil (f x))

pub marks-append : (a b : List Event) → marks (a ++ b) ≡ marks a ++ marks b
marks-append [] b = refl
marks-append (e ∷ a) b =
    ap (λ l. marks_of e ++ l) (marks-append a b) ∙ sym (append_assoc (marks_of e) (marks a) (marks b))

-- the events of one entry more
pub entries-taken : (es : List LogEntry) (i : ℕ) (e : LogEntry) → i < length es → e ≡ get_or es i e
    → marks (events_in (take (i + 1) es)) ≡ marks (events_in (take i es)) ++ marks (event_in e)
entries-taken es i e below there =
    ap marks (flat-taken event_in es i e below there)
    ∙ marks-append (events_in (take i es)) (event_in e)

-- so many turns, and then so many
pub turns-more : (m n : ℕ) → turns (m + n) ≡ turns m ++ turns n
turns-more zero n = ap turns (zero-add n)
turns-more (suc m) n =
    let next : suc m + n ≡ suc (m + n) = omega arith in
    ap turns next ∙ ap (λ l. Turn ∷ l) (turns-more m n)
