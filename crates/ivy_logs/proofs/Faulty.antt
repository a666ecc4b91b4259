-- Lines at fault, and the entries before them.
use Rattle.std.proofs.Common.{◌≡◌, ◌≢◌, ◌∙◌, ℕ, zero, suc, ◌+◌, ◌<◌, ◌≤◌, Bool, Bor, List, [], ◌∷◌, Option, Some, None, IfNone, codes, length, map, take, get_or, slice_get, slice_index, option_map, refl, ap, subst, zero-add, arith}
use Rattle.std.specs.List.{AllZip, enumerate_from, filter}
use Rattle.std.proofs.lemmas.List.FromFn.{get_or-enumerate_from, length-enumerate_from}
use Rattle.std.proofs.lemmas.Option.{slice_get-map, slice_get_read}
use Rattle.std.proofs.lemmas.Slice.Zip.{AllZip-long}
use Rattle.ivy_model.specs.declared.Reply.{Reply}
use Rattle.ivy_model.specs.declared.Reply.TheVariants.{Value, Done, Refused}
use Rattle.ivy_model.specs.declared.Call.{Call}
use Rattle.ivy_moves.specs.Events.{Event}
use Rattle.ivy_moves.specs.declared.Event.TheVariants.{Turns, Delivered, Pulsed}
use Rattle.ivy_program.specs.texts.Lines.{IsNumberWord}
use Rattle.ivy_program.specs.texts.TextWords.{words_of}
use Rattle.ivy_program.proofs.reading.Reading.{texts_of}
use Rattle.ivy_texts.specs.Spelled.{BeginsWith, Names, SpellsCall, has_words, worded}
use Rattle.ivy_texts.proofs.Calls.{call_counted}
use Rattle.ivy_texts.proofs.Worded.{texts-all}
use Rattle.ivy_logs.specs.declared.log.LogEntry.TheVariants.{Did, Asked, Answered, Fetched}
use Rattle.ivy_logs.specs.declared.log.LogHead.{LogHead}
use Rattle.ivy_logs.specs.declared.log.LogKind.{LogKind}
use Rattle.ivy_logs.specs.declared.log.LogKind.TheVariants.{OfProgram, OfOwnCode}
use Rattle.ivy_logs.specs.Entries.{LogEntry, SpellsAnswered, SpellsEntry, SpellsIn}
use Rattle.ivy_logs.specs.Faults.{IsAtFault, IsFirstAtFault, SpellsNone}
use Rattle.ivy_logs.specs.Spelled.{fetch_word, IsHexOf, SpellsEvent, SpellsNode, SpellsSum}

-- how many words there are
counted : {X : Type 0} (R : List ℕ → X → Type 0) (keyword : List ℕ) (xs : List X) (words : List (List ℕ))
    → BeginsWith keyword (λ rest. AllZip R rest xs) words → length words ≡ length xs + 1
counted R keyword xs [] h = absurd h
counted R keyword xs (w ∷ ws) h = omega (arith, AllZip-long R ws xs h.1)

pub event_counted : (words : List (List ℕ)) (e : Event) → SpellsEvent words e → length words ≡ 2
event_counted words (Turns n) h = omega (arith, counted IsNumberWord (codes "turns") (n ∷ []) words h)
event_counted words (Delivered bytes) h = omega (arith, counted IsHexOf (codes "took") (bytes ∷ []) words h)
event_counted words (Pulsed n) h = omega (arith, counted IsNumberWord (codes "pulse") (n ∷ []) words h)

called : (keyword : List ℕ) (words : List (List ℕ)) (c : Call)
    → BeginsWith keyword (λ rest. SpellsCall rest c) words → length words ≤ 6
called keyword [] c h = absurd h
called keyword (w ∷ ws) c h = omega (arith, call_counted ws c h.1)

answered_counted : (words : List (List ℕ)) (c : Call) (r : Reply) → SpellsAnswered words c r → length words ≤ 7
answered_counted [] c (Value n) h = absurd h
answered_counted (w ∷ []) c (Value n) h = absurd h.1
answered_counted (w ∷ v ∷ ws) c (Value n) h = omega (arith, call_counted ws c h.1.1)
answered_counted words c Done h = omega (arith, called (codes "done") words c h)
answered_counted [] c (Refused n) h = absurd h
answered_counted (w ∷ []) c (Refused n) h = absurd h.1
answered_counted (w ∷ v ∷ ws) c (Refused n) h = omega (arith, call_counted ws c h.1.1)

fetch_counted : (words : List (List ℕ)) (page : ℕ) (write : Bool)
    → BeginsWith (codes "fetch") (Names (fetch_word write) (page ∷ [])) words → length words ≡ 3
fetch_counted [] page write h = absurd h
fetch_counted (w ∷ ws) page write h =
    omega (arith, counted IsNumberWord (fetch_word write) (page ∷ []) ws h.1)

entry_counted : (words : List (List ℕ)) (e : LogEntry) → SpellsEntry words e → length words ≤ 7
entry_counted words (Did event) h = omega (arith, event_counted words event h)
entry_counted words (Asked call) h = omega (arith, called (codes "call") words call h)
entry_counted words (Answered answer) h = answered_counted words answer.call answer.reply h
entry_counted words (Fetched page write) h = omega (arith, fetch_counted words page write h)

-- another word than this one
other-word : {A : Type 0} (v w : List ℕ) → v ≡ w → (slice_index v 0 ≡ slice_index w 0 → ⊥) → A
other-word v w same apart = absurd (apart (ap (λ l. slice_index l 0) same))

answered-named : (words : List (List ℕ)) (c : Call) (r : Reply)
    → SpellsAnswered (codes "fetch" ∷ words) c r → ⊥
answered-named words c (Value n) h = other-word (codes "fetch") (codes "value") h.0 (λ s. omega (arith, s))
answered-named words c Done h = other-word (codes "fetch") (codes "done") h.0 (λ s. omega (arith, s))
answered-named words c (Refused n) h = other-word (codes "fetch") (codes "refused") h.0 (λ s. omega (arith, s))

-- behind the word of a page that is fetched ahead there are two
pub fetch_named : (words : List (List ℕ)) (e : LogEntry) → SpellsEntry (codes "fetch" ∷ words) e → length words ≡ 2
fetch_named words (Did (Turns n)) h = other-word (codes "fetch") (codes "turns") h.0 (λ s. omega (arith, s))
fetch_named words (Did (Delivered bytes)) h =
    other-word (codes "fetch") (codes "took") h.0 (λ s. omega (arith, s))
fetch_named words (Did (Pulsed n)) h = other-word (codes "fetch") (codes "pulse") h.0 (λ s. omega (arith, s))
fetch_named words (Asked call) h = other-word (codes "fetch") (codes "call") h.0 (λ s. omega (arith, s))
fetch_named words (Answered answer) h = absurd (answered-named words answer.call answer.reply h)
fetch_named words (Fetched page write) h = counted IsNumberWord (fetch_word write) (page ∷ []) words h.1

in_counted : (kind : LogKind) (words : List (List ℕ)) (e : LogEntry) → SpellsIn kind words e → length words ≤ 7
in_counted OfOwnCode words e h = entry_counted words e h
in_counted OfProgram words (Did event) h = omega (arith, event_counted words event h)
in_counted OfProgram words (Asked call) h = absurd h
in_counted OfProgram words (Answered answer) h = absurd h
in_counted OfProgram words (Fetched page write) h = absurd h

-- more words than these are those of no entry
pub too_many : (kind : LogKind) (words : List (List ℕ)) → 7 < length words → SpellsNone kind words
too_many kind words many e is h = absurd (omega (arith, many, in_counted kind words e h))

sum_counted : (words : List (List ℕ)) (sum : Option ℕ) → SpellsSum words sum → length words ≤ 1
sum_counted [] sum s = omega arith
sum_counted (w ∷ []) sum s = omega arith
sum_counted (w ∷ v ∷ more) sum s = absurd s

pub node_counted : (words : List (List ℕ)) (h : LogHead) (sum : Option ℕ) → SpellsNode words h sum
    → (5 ≤ length words) × (length words ≤ 6)
node_counted [] h sum s = absurd s
node_counted (u ∷ []) h sum s = absurd s
node_counted (u ∷ v ∷ []) h sum s = absurd s
node_counted (u ∷ v ∷ w ∷ []) h sum s = absurd s
node_counted (u ∷ v ∷ w ∷ x ∷ []) h sum s = absurd s
node_counted (u ∷ v ∷ w ∷ x ∷ y ∷ rest) h sum s =
    let few : length rest ≤ 1 = sum_counted rest sum s.2 in
    (omega arith, omega (arith, few))

positive : (ws : List (List ℕ)) → ws ≢ [] → 0 < length ws
positive [] some = absurd (some refl)
positive (w ∷ ws) some = omega arith

-- what is said where there is none
pub none-of : {T : Type 0} (o : Option T) (P : Type 0) → o ≡ None → IfNone o P → P
none-of None P is h = h
none-of (Some x) P is h = absurd (cc is)

pub none-else : {T : Type 0} (o : Option T) (P Q : Type 0) → (P → Q) → IfNone o P → IfNone o Q
none-else None P Q more is = more is
none-else (Some x) P Q more is = tt

-- each line with words says an entry
module _ {X : Type 0} (S : List (List ℕ) → X → Type 0) where
  each-said : (ws : List (List (List ℕ))) (es : List X) (i : ℕ) (w : List (List ℕ)) → AllZip S (filter has_words ws) es
      → slice_get ws i ≡ Some w → 0 < length w → (e : X) × S w e
  each-said [] es i w all there some = absurd (cc there)
  each-said ([] ∷ ws) es zero w all there some =
      let none : [] ≡ w = cc there in absurd (omega (arith, ap length none, some))
  each-said ([] ∷ ws) es (suc i) w all there some = each-said ws es i w all there some
  each-said ((x ∷ xs) ∷ ws) [] i w all there some = absurd all
  each-said ((x ∷ xs) ∷ ws) (e ∷ es) zero w all there some =
      let same : x ∷ xs ≡ w = cc there in (e, subst (λ v. S v e) same all.0)
  each-said ((x ∷ xs) ∷ ws) (e ∷ es) (suc i) w all there some = each-said ws es i w all.1 there some

  line-said : (texts : List (List ℕ)) (es : List X) (i : ℕ) (text : List ℕ) → AllZip S (worded texts) es
      → slice_get texts i ≡ Some text → words_of text ≢ [] → (e : X) × S (words_of text) e
  line-said texts es i text all there some =
      each-said (map words_of texts) es i (words_of text) all
      (slice_get-map words_of texts i ∙ ap (option_map words_of) there) (positive (words_of text) some)

slice-take : {X : Type 0} (n : ℕ) (xs : List X) (i : ℕ) → i < n → slice_get (take n xs) i ≡ slice_get xs i
slice-take zero xs i h = absurd (omega (arith, h))
slice-take (suc n) [] i h = refl
slice-take (suc n) (x ∷ xs) zero h = refl
slice-take (suc n) (x ∷ xs) (suc i) h = slice-take n xs i (omega (arith, h))

take-enumerate : (k n : ℕ) (ls : List (List ℕ)) → take n (enumerate_from k ls) ≡ enumerate_from k (take n ls)
take-enumerate k zero [] = refl
take-enumerate k zero (l ∷ ls) = refl
take-enumerate k (suc n) [] = refl
take-enumerate k (suc n) (l ∷ ls) = ap (λ t. (k, l) ∷ t) (take-enumerate (k + 1) n ls)

-- the line that comes behind those that came, of which each with words said an entry
module _ (kind : LogKind) (ls : List (List ℕ)) (xs : List (ℕ × Bor (List ℕ))) (before : ℕ) (line : Bor (List ℕ))
    (so_far : map (λ x. (x.0, x.1.now)) xs ≡ take (length xs) (enumerate_from 0 ls))
    (turn : (length xs < length (enumerate_from 0 ls))
    × ((before, line.now) ≡ get_or (enumerate_from 0 ls) (length xs) (before, line.now)))
    (es : List LogEntry) (said : AllZip (SpellsIn kind) (worded (texts_of xs)) es) where
  within : length xs < length ls
  within = omega (arith, turn.0, length-enumerate_from 0 ls)

  item : ◌≡◌ {A = ℕ × List ℕ} (before, line.now) (0 + length xs, get_or ls (length xs) line.now)
  item = turn.1 ∙ get_or-enumerate_from 0 ls (length xs) (before, line.now) within

  place : before ≡ length xs
  place = ap (λ (p : ℕ × List ℕ). p.0) item ∙ zero-add (length xs)

  texts : texts_of xs ≡ take (length xs) ls
  texts = texts-all (take (length xs) ls) xs (so_far ∙ take-enumerate 0 (length xs) ls)

  pub first-fault : IsAtFault kind line.now → IsFirstAtFault kind ls before
  first-fault fault = record {
    line = line.now;
    there = ap (slice_get ls) place
        ∙ slice_get_read ls (length ls) (length xs) line.now refl within (ap (λ (p : ℕ × List ℕ). p.1) item);
    fault = fault;
    first = λ i other below there some. line-said (SpellsIn kind) (take (length xs) ls) es i other
        (subst (λ ts. AllZip (SpellsIn kind) (worded ts) es) texts said)
        (slice-take (length xs) ls i (omega (arith, below, place)) ∙ there) some;
  }
