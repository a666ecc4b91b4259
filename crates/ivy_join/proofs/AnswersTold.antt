-- What a log says that its node was answered, while the log is made again.
use Rattle.std.proofs.Common.{◌≡◌, ℕ, ◌+◌, ◌<◌, List, [], ◌∷◌, ◌++◌, length, take, get_or, Bool, Result, Ok, Err, IfOk, IsTrue, sym, ap, subst, ◌∙◌, append-nil, arith}
use Rattle.std.proofs.lemmas.List.{length-append, length-map}
use Rattle.ivy_model.specs.declared.Fault.{Fault}
use Rattle.ivy_model.specs.declared.Record.{Record}
use Rattle.ivy_moves.specs.Events.{Event}
use Rattle.ivy_calls.specs.declared.Answer.{Answer}
use Rattle.ivy_calls.specs.Answers.{answer}
use Rattle.ivy_logs.specs.declared.log.LogEntry.TheVariants.{Did, Asked, Answered, Fetched}
use Rattle.ivy_logs.specs.Entries.{LogEntry, answer_in, answers_in}
use Rattle.ivy_logs.proofs.Entries.{flat-taken}
use Rattle.ivy_join.specs.ReplaySites.{AddsRecords}
use Rattle.ivy_join.specs.Remade.{HasAnswer, IsAnsweredLast, StandFirst}
use Rattle.ivy_join.proofs.Answered.{first-all, first-and-last, first-longer}

-- there are as many records, and one more
pub last-many : (count : ℕ) (last : Answer) (history : List Record) → IsAnsweredLast count last history
    → length history ≡ count + 1
last-many count last history end =
    let all = ap length end.are in let many = length-map history answer in
    let both = length-append end.before (last ∷ []) in omega (arith, all, many, both, end.many)

told-entry : (before : List Answer) (entry : LogEntry) (count : ℕ) (b d : List Record) → StandFirst before b
    → count ≡ length before → AddsRecords b d → HasAnswer count entry d → StandFirst (before ++ answer_in entry) d
told-entry before (Did event) count b d first many adds has =
    subst (λ l. StandFirst l d) (sym (append-nil before)) (first-longer before b d first adds)
told-entry before (Asked call) count b d first many adds has =
    subst (λ l. StandFirst l d) (sym (append-nil before)) (first-longer before b d first adds)
told-entry before (Fetched page write) count b d first many adds has =
    subst (λ l. StandFirst l d) (sym (append-nil before)) (first-longer before b d first adds)
told-entry before (Answered given) count b d first many adds has =
    first-all (before ++ given ∷ []) d
    (first-and-last before given d (first-longer before b d first adds)
    (subst (λ n. IsAnsweredLast n given d) many has))

-- an event is no answer
pub did-told : (made : Result Bool Fault) (entry : LogEntry) (event : Event) (count : ℕ) (history : List Record)
    → entry ≡ Did event → IfOk made (λ happens. IsTrue happens → HasAnswer count entry history)
did-told (Ok happens) entry event count history is = λ yes. subst (λ e. HasAnswer count e history) (sym is) tt
did-told (Err fault) entry event count history is = tt

-- nor is a page that is fetched ahead
pub fetched-told : (made : Result Bool Fault) (entry : LogEntry) (page : ℕ) (write : Bool) (count : ℕ)
    (history : List Record) → entry ≡ Fetched page write
    → IfOk made (λ happens. IsTrue happens → HasAnswer count entry history)
fetched-told (Ok happens) entry page write count history is =
    λ yes. subst (λ e. HasAnswer count e history) (sym is) tt
fetched-told (Err fault) entry page write count history is = tt

-- one entry more
pub told-more : (log : List LogEntry) (i : ℕ) (entry : LogEntry) (count : ℕ) (b d : List Record)
    → i < length log → entry ≡ get_or log i entry → StandFirst (answers_in (take i log)) b
    → count ≡ length (answers_in (take i log)) → AddsRecords b d → HasAnswer count entry d
    → StandFirst (answers_in (take (i + 1) log)) d
told-more log i entry count b d below there first many adds has =
    subst (λ l. StandFirst l d) (sym (flat-taken answer_in log i entry below there))
    (told-entry (answers_in (take i log)) entry count b d first many adds has)

pub count-more : (log : List LogEntry) (i : ℕ) (entry : LogEntry) (count more : ℕ) → i < length log
    → entry ≡ get_or log i entry → count ≡ length (answers_in (take i log))
    → more ≡ count + length (answer_in entry) → more ≡ length (answers_in (take (i + 1) log))
count-more log i entry count more below there many is =
    is ∙ ap (λ n. n + length (answer_in entry)) many
    ∙ sym (length-append (answers_in (take i log)) (answer_in entry))
    ∙ ap length (sym (flat-taken answer_in log i entry below there))
