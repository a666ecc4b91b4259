-- The lines of a text, read one after another.
use Rattle.std.proofs.Common.{◌≡◌, ◌∙◌, ◌⊎◌, inl, inr, ℕ, ◌+◌, ◌<◌, Bool, Bor, List, [], ◌∷◌, ◌++◌, Option, Some, None, Result, Ok, Err, IfOk, length, take, get_or, map, refl, ap, sym, subst, arith}
use Rattle.std.specs.List.{AllZip, enumerate_from}
use Rattle.std.proofs.lemmas.List.{length-map, length_push, map_push, take_all, take_more}
use Rattle.std.proofs.lemmas.List.FromFn.{get_or-enumerate_from, length-enumerate_from}
use Rattle.std.specs.Str.Lines.{lines}
use Rattle.ivy_model.specs.declared.Fault.{Fault}
use Rattle.ivy_program.specs.declared.line.Line.{Line}
use Rattle.ivy_program.specs.texts.Lines.{SpellsLine}
use Rattle.ivy_program.specs.texts.ProgramParts.{Part, joined}
use Rattle.ivy_program.specs.texts.Readings.{Changes, IsReadAs, IsReading, TakesIn}
use Rattle.ivy_program.specs.texts.Texts.{IsOnlyReading, IsFaultSettled, IsTextReadAs}
use Rattle.ivy_program.specs.texts.TextWords.{words_of}
use Rattle.ivy_program.proofs.reading.Orders.{known, none_read, read_on}
use Rattle.ivy_program.proofs.reading.Unique.{readings_same}
use Rattle.ivy_program.proofs.reading.Zips.{length-zip, zip_push}

-- these texts of lines are read, and lead to these parts
pub record IsReadSoFar (texts : List (List ℕ)) (parts : List Part) (first : Option ℕ) : Type 0 where
  pub read : List (Option Line)
  pub each : AllZip IsReading texts read
  pub leads : IsReadAs read parts first

pub nothing_read : (parts : List Part) → parts ≡ [] → IsReadSoFar [] parts None
nothing_read parts e = record { read = []; each = tt; leads = none_read parts e }

reads_on : (texts : List (List ℕ)) (text : List ℕ) (old new : List Part) (first p : Option ℕ)
    (n : ℕ) (ok : Bool)
    → IsReadSoFar texts old first → n ≡ length texts + 1 → TakesIn ok old n text new
    → p ≡ known ok first n
    → IsReadSoFar (texts ++ text ∷ []) new p
reads_on texts text old new first p n ok r next took q = record {
  read = r.read ++ took.0 ∷ [];
  each = zip_push IsReading texts r.read text took.0 r.each took.1;
  leads = read_on r.read took.0 n
      (next ∙ ap (λ k. k + 1) (length-zip IsReading texts r.read r.each)) old new first r.leads ok
      took.2 p q;
}

-- the first lines of the text are read
read_of : (text : List ℕ) (texts : List (List ℕ)) (parts : List Part) (first : Option ℕ)
    → texts ≡ take (length texts) (lines text)
    → IsReadSoFar texts parts first
    → (length texts ≡ length (lines text)) ⊎ IsFaultSettled parts first
    → IsTextReadAs text parts first
read_of text texts parts first front r ended =
    let count : length texts ≡ length r.read = length-zip IsReading texts r.read r.each in
    let same : texts ≡ take (length r.read) (lines text) =
    front ∙ ap (λ n. take n (lines text)) count in
    record {
      read = r.read;
      only = subst (λ ts. IsOnlyReading ts r.read) same
          (record { each = r.each; only = λ other h. readings_same texts other r.read h r.each });
      leads = r.leads;
      ended = subst (λ n. (n ≡ length (lines text)) ⊎ IsFaultSettled parts first) count ended;
    }

-- a line that says something is taken in, or is not in order
pub said : (text : List ℕ) (line : Line) (old new : List Part) (n : ℕ) (r : Result Bool Fault)
    → SpellsLine (words_of text) line
    → IfOk r (λ ok. Changes ok old (joined old n (Some line)) new)
    → IfOk r (λ ok. TakesIn ok old n text new)
said text line old new n (Ok ok) s h = (Some line, s, h)
said text line old new n (Err f) s h = tt

-- the text of each line, where it comes with its place
abbrev pub texts_of : List (ℕ × Bor (List ℕ)) → List (List ℕ)
texts_of xs = map (λ x. x.1.now) xs

-- the next line of those that come with their places
pub reads_next : (all : List (List ℕ)) (xs : List (ℕ × Bor (List ℕ))) (place : ℕ)
    (line : Bor (List ℕ))
    → (length xs < length (enumerate_from 0 all))
    × ((place, line.now) ≡ get_or (enumerate_from 0 all) (length xs) (place, line.now))
    → (old new : List Part) (first p : Option ℕ) (n : ℕ) (ok : Bool)
    → IsReadSoFar (texts_of xs) old first → n ≡ place + 1
    → TakesIn ok old n line.now new → p ≡ known ok first n
    → IsReadSoFar (texts_of (xs ++ (place, line) ∷ [])) new p
reads_next all xs place line turn old new first p n ok r next took q =
    let within : length xs < length all = omega (arith, turn.0, length-enumerate_from 0 all) in
    let here : place ≡ 0 + length xs =
    ap (λ x. x.0) (turn.1 ∙ get_or-enumerate_from 0 all (length xs) (place, line.now) within) in
    let count : n ≡ length (texts_of xs) + 1 =
    omega (arith, next, here, length-map xs (λ x. x.1.now)) in
    subst (λ texts. IsReadSoFar texts new p) (sym (map_push (λ x. x.1.now) xs (place, line)))
    (reads_on (texts_of xs) line.now old new first p n ok r count took q)

-- lines that come with their places, one after another
texts_front : (all : List (List ℕ)) (xs : List (ℕ × Bor (List ℕ))) (n : ℕ)
    → map (λ x. (x.0, x.1.now)) xs ≡ take (length xs) (enumerate_from n all)
    → texts_of xs ≡ take (length xs) all
texts_front all [] n e = refl
texts_front [] (x ∷ xs) n e = absurd (cc e)
texts_front (a ∷ all) (x ∷ xs) n e =
    let here : ℕ × List ℕ = (x.0, x.1.now) in
    let wanted : ℕ × List ℕ = (n, a) in
    let head : here ≡ wanted = cc e in
    let text : x.1.now ≡ a = ap (λ (p : ℕ × List ℕ). p.1) head in
    let rest : map (λ x. (x.0, x.1.now)) xs ≡ take (length xs) (enumerate_from (n + 1) all) =
    cc e in
    λ i. text i ∷ texts_front all xs (n + 1) rest i

-- all lines that come with their places are read
pub reads_all : (text : List ℕ) (xs : List (ℕ × Bor (List ℕ))) (parts : List Part)
    (first : Option ℕ)
    → map (λ x. (x.0, x.1.now)) xs ≡ enumerate_from 0 (lines text)
    → IsReadSoFar (texts_of xs) parts first → IsTextReadAs text parts first
reads_all text xs parts first e r =
    let numbered : length xs ≡ length (enumerate_from 0 (lines text)) =
    sym (length-map xs (λ x. (x.0, x.1.now))) ∙ ap length e in
    let count : length xs ≡ length (lines text) = numbered ∙ length-enumerate_from 0 (lines text) in
    let front : texts_of xs ≡ take (length xs) (lines text) =
    texts_front (lines text) xs 0
    (e ∙ sym
    (take_all (length xs) (enumerate_from 0 (lines text)) (omega (arith, numbered)))) in
    let many : length (texts_of xs) ≡ length xs = length-map xs (λ x. x.1.now) in
    read_of text (texts_of xs) parts first (front ∙ ap (λ n. take n (lines text)) (sym many)) r
    (inl (many ∙ count))

-- the next line ends the reading
pub reads_settled : (text : List ℕ) (xs : List (ℕ × Bor (List ℕ))) (place : ℕ) (line : Bor (List ℕ))
    → map (λ x. (x.0, x.1.now)) xs ≡ take (length xs) (enumerate_from 0 (lines text))
    → (length xs < length (enumerate_from 0 (lines text)))
    × ((place, line.now) ≡ get_or (enumerate_from 0 (lines text)) (length xs) (place, line.now))
    → (parts : List Part) (first : Option ℕ)
    → IsReadSoFar (texts_of (xs ++ (place, line) ∷ [])) parts first → IsFaultSettled parts first
    → IsTextReadAs text parts first
reads_settled text xs place line before turn parts first r settled =
    let all : List (List ℕ) = lines text in
    let within : length xs < length all = omega (arith, turn.0, length-enumerate_from 0 all) in
    let here : line.now ≡ get_or all (length xs) line.now =
    ap (λ x. x.1) (turn.1 ∙ get_or-enumerate_from 0 all (length xs) (place, line.now) within) in
    let more : texts_of (xs ++ (place, line) ∷ []) ≡ take (length xs + 1) all =
    map_push (λ x. x.1.now) xs (place, line)
    ∙ (ap (λ ts. ts ++ line.now ∷ []) (texts_front all xs 0 before)
    ∙ (ap (λ t. take (length xs) all ++ t ∷ []) here
    ∙ sym (take_more all (length xs) line.now within))) in
    let many : length (texts_of (xs ++ (place, line) ∷ [])) ≡ length xs + 1 =
    length-map (xs ++ (place, line) ∷ []) (λ x. x.1.now) ∙ length_push xs (place, line) in
    read_of text (texts_of (xs ++ (place, line) ∷ [])) parts first
    (more ∙ ap (λ n. take n all) (sym many)) r (inr settled)
