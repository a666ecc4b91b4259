-- What a site does to the number of turns that it lists: a turn is one more, a row one more for each
-- of its words, or one more in all where it begins, and nothing else is.
use Rattle.std.proofs.Common.{◌≡◌, ℕ, zero, suc, ◌+◌, ◌<◌, ◌%◌, ◌^◌, List, [], ◌∷◌, ◌++◌, length, refl, sym, ap, ◌∙◌, arith}
use Rattle.std.proofs.Math.Nat.{mod-add-mod}
use Rattle.ivy_model.specs.declared.Record.{Record}
use Rattle.ivy_model.specs.declared.Row.{Row}
use Rattle.ivy_model.specs.Rows.{calls_of, numbers_in, row}
use Rattle.ivy_model.proofs.Rows.{length-numbers_in, length-row}
use Rattle.ivy_wire.specs.stated.Data.{Frame}
use Rattle.ivy_link.specs.declared.Verdict.{Verdict}
use Rattle.ivy_link.specs.declared.Verdict.TheVariants as verdict
use Rattle.ivy_moves.specs.Marks.{Mark, Turn, Delivery, Pulse}
use Rattle.ivy_moves.specs.stated.Nodes.{pulsing}
use Rattle.ivy_moves.specs.Parts.{pulse_marks}
use Rattle.ivy_site.specs.Calls.{AreAnswered, AreTaken, BeginsRow}
use Rattle.ivy_site.specs.Inside.{Holds, Receives}
use Rattle.ivy_site.specs.SiteView.{SiteView, after_pulse_to}
use Rattle.ivy_site.specs.Sites.{SiteTurns, SiteDelivers, GoesOnOnce}
use Rattle.ivy_embedded.specs.Turns.{turns_in, CountsTurns}

one_more : (events : List Mark) → turns_in (events ++ Turn ∷ []) ≡ turns_in events + 1
one_more [] = refl
one_more (Turn ∷ events) = ap (λ n. n + 1) (one_more events)
one_more (Delivery bytes ∷ events) = one_more events
one_more (Pulse to ∷ events) = one_more events

heard : (bytes : List ℕ) (events : List Mark)
    → turns_in (events ++ Delivery bytes ∷ []) ≡ turns_in events
heard bytes [] = refl
heard bytes (Turn ∷ events) = ap (λ n. n + 1) (heard bytes events)
heard bytes (Delivery other ∷ events) = heard bytes events
heard bytes (Pulse to ∷ events) = heard bytes events

beat : (to : ℕ) (events : List Mark) → turns_in (events ++ Pulse to ∷ []) ≡ turns_in events
beat to [] = refl
beat to (Turn ∷ events) = ap (λ n. n + 1) (beat to events)
beat to (Delivery bytes ∷ events) = beat to events
beat to (Pulse other ∷ events) = beat to events

none : (events : List Mark) → turns_in (events ++ []) ≡ turns_in events
none [] = refl
none (Turn ∷ events) = ap (λ n. n + 1) (none events)
none (Delivery bytes ∷ events) = none events
none (Pulse to ∷ events) = none events

pulsed_to : (to : ℕ) (sent : List (List ℕ)) (events : List Mark)
    → turns_in (events ++ pulse_marks to sent) ≡ turns_in events
pulsed_to to [] events = none events
pulsed_to to (s ∷ ss) events = beat to events

-- a turn is counted by one more, in 64 bits
pub counted_turn : (old new : SiteView) → SiteTurns old new → (before after : ℕ)
    → CountsTurns before old.events → after ≡ (before + 1) % 2 ^ 64 → CountsTurns after new.events
counted_turn old new t before after counts is =
    is ∙ (ap (λ n. (n + 1) % 2 ^ 64) counts
    ∙ (mod-add-mod (turns_in old.events) (2 ^ 64) 1
    ∙ ap (λ n. n % 2 ^ 64) (sym (one_more old.events)
    ∙ ap (λ (s : SiteView). turns_in s.events) (sym t.after))))

-- each call that is answered as it begins is one more
answered : (rs : List Record) (old new : SiteView) → AreAnswered rs old new
    → turns_in new.events ≡ turns_in old.events + length rs
answered [] old new same = omega (arith, ap (λ (s : SiteView). turns_in s.events) same)
answered (r ∷ rs) old new a =
    let first : turns_in a.0.events ≡ turns_in old.events + 1 =
    ap (λ (s : SiteView). turns_in s.events) a.1.turns.after ∙ one_more old.events in
    omega (arith, first, answered rs a.0 new a.2)

-- and so is each call in progress whose reply is taken
taken : (rs : List Record) (old new : SiteView) → AreTaken rs old new
    → turns_in new.events ≡ turns_in old.events + length rs
taken [] old new same = omega (arith, ap (λ (s : SiteView). turns_in s.events) same)
taken (r ∷ rs) old new a =
    let first : turns_in a.0.events ≡ turns_in old.events + 1 =
    ap (λ (s : SiteView). turns_in s.events) a.1.turns.after ∙ one_more old.events in
    omega (arith, first, taken rs a.0 new a.2)

words_of : (kind : Row) (node addr words : ℕ) (bytes : List ℕ)
    → length (row kind node addr (numbers_in words bytes)) ≡ words
words_of kind node addr words bytes =
    length-row kind node addr (numbers_in words bytes) ∙ length-numbers_in words bytes

-- so many more are counted, in 64 bits
counted : (many before after : ℕ) (old new : List Mark) → turns_in new ≡ turns_in old + many
    → CountsTurns before old → after ≡ (before + many) % 2 ^ 64 → CountsTurns after new
counted many before after old new more counts is =
    is ∙ (ap (λ n. (n + many) % 2 ^ 64) counts
    ∙ (mod-add-mod (turns_in old) (2 ^ 64) many ∙ ap (λ n. n % 2 ^ 64) (sym more)))

-- so a row is counted by its words
pub counted_row : (kind : Row) (node addr words : ℕ) (bytes : List ℕ) (old new : SiteView)
    → AreAnswered (row kind node addr (numbers_in words bytes)) old new → (before after : ℕ)
    → CountsTurns before old.events → after ≡ (before + words) % 2 ^ 64
    → CountsTurns after new.events
counted_row kind node addr words bytes old new a before after counts is =
    counted words before after old.events new.events
    (answered (row kind node addr (numbers_in words bytes)) old new a
    ∙ ap (λ n. turns_in old.events + n) (words_of kind node addr words bytes)) counts is

-- and one whose replies are taken
pub counted_taken : (kind : Row) (node addr words : ℕ) (bytes : List ℕ) (old new : SiteView)
    → AreTaken (row kind node addr (numbers_in words bytes)) old new → (before after : ℕ)
    → CountsTurns before old.events → after ≡ (before + words) % 2 ^ 64
    → CountsTurns after new.events
counted_taken kind node addr words bytes old new a before after counts is =
    counted words before after old.events new.events
    (taken (row kind node addr (numbers_in words bytes)) old new a
    ∙ ap (λ n. turns_in old.events + n) (words_of kind node addr words bytes)) counts is

-- a row that begins is one more
pub counted_together : (kind : Row) (addr words : ℕ) (bytes : List ℕ) (old new : SiteView)
    → BeginsRow (calls_of (row kind 0 addr (numbers_in words bytes))) old new → 0 < words
    → (before after : ℕ) → CountsTurns before old.events → after ≡ (before + 1) % 2 ^ 64
    → CountsTurns after new.events
counted_together kind addr zero bytes old new b some before after counts is =
    absurd (omega (arith, some))
counted_together kind addr (suc words) bytes old new b some before after counts is =
    counted 1 before after old.events new.events
    (ap (λ (s : SiteView). turns_in s.events) b.turns.after ∙ one_more old.events) counts is

-- or none, and nothing is counted
pub counted_none : (kind : Row) (addr words : ℕ) (bytes : List ℕ) (old new : SiteView)
    → BeginsRow (calls_of (row kind 0 addr (numbers_in words bytes))) old new → words ≡ 0
    → (count : ℕ) → CountsTurns count old.events → CountsTurns count new.events
counted_none kind addr zero bytes old new same none count counts =
    counts ∙ ap (λ n. n % 2 ^ 64) (sym (ap (λ (s : SiteView). turns_in s.events) same))
counted_none kind addr (suc words) bytes old new b none count counts =
    absurd (omega (arith, none))

delivers : (bytes : List ℕ) (v : Verdict) (old new : SiteView) → SiteDelivers bytes v old new
    → turns_in new.events ≡ turns_in old.events
delivers bytes verdict.NotMine old new d = ap (λ (s : SiteView). turns_in s.events) d.after
delivers bytes verdict.Next old new d =
    ap (λ (s : SiteView). turns_in s.events) d.after ∙ heard bytes old.events
delivers bytes verdict.Repeat old new d =
    ap (λ (s : SiteView). turns_in s.events) d.after ∙ heard bytes old.events
delivers bytes verdict.Ahead old new d =
    ap (λ (s : SiteView). turns_in s.events) d.after ∙ heard bytes old.events

-- a pulse is no turn
pub counted_pulse : (to : ℕ) (old new : SiteView) → new ≡ after_pulse_to old to (pulsing old.node to)
    → (count : ℕ) → CountsTurns count old.events → CountsTurns count new.events
counted_pulse to old new same count counts =
    counts ∙ ap (λ n. n % 2 ^ 64) (sym (ap (λ (s : SiteView). turns_in s.events) same
    ∙ pulsed_to to (pulsing old.node to).sent old.events))

held_events : (v : Verdict) (f : Frame) (bytes : List ℕ) (mid new : SiteView) → Holds v f bytes mid new
    → turns_in new.events ≡ turns_in mid.events
held_events verdict.NotMine f bytes mid new same = ap (λ (s : SiteView). turns_in s.events) same
held_events verdict.Next f bytes mid new same = ap (λ (s : SiteView). turns_in s.events) same
held_events verdict.Repeat f bytes mid new same = ap (λ (s : SiteView). turns_in s.events) same
held_events verdict.Ahead f bytes mid new same = ap (λ (s : SiteView). turns_in s.events) same

-- nor is a string that is received
pub counted_received : (bytes : List ℕ) (v : Verdict) (from : ℕ) (old new : SiteView)
    → Receives bytes v from old new → (count : ℕ) → CountsTurns count old.events
    → CountsTurns count new.events
counted_received bytes v from old new r count counts =
    counts ∙ ap (λ n. n % 2 ^ 64) (sym (held_events v r.first.frame bytes r.mid new r.holds
    ∙ delivers bytes v old r.mid r.first))

-- nor one that was held
pub counted_once : (from : ℕ) (bytes : List ℕ) (old new : SiteView) → GoesOnOnce from bytes old new
    → (count : ℕ) → CountsTurns count old.events → CountsTurns count new.events
counted_once from bytes old new g count counts =
    counts ∙ ap (λ n. n % 2 ^ 64)
    (sym (ap (λ (s : SiteView). turns_in s.events) g.next.after ∙ heard bytes old.events))
