use Rattle.std.proofs.Common.{rules, ◌≡◌, ◌∙◌, ◌++◌, ℕ, List, [], ◌∷◌, ◌+◌, ◌<◌, length, take, get_or, refl, ap, sym, append-nil, arith}
use Rattle.std.proofs.lemmas.List.{map-append, take_more}
use Rattle.ivy_model.specs.declared.Call.{Call}
use Rattle.ivy_model.specs.declared.Record.{Record}
use Rattle.ivy_model.specs.declared.Reply.{Reply}
use Rattle.ivy_logs.specs.declared.log.LogEntry.TheVariants.{Did, Asked, Answered, Fetched}
use Rattle.ivy_calls.specs.Answers.{answer, answers}
use Rattle.ivy_calls.specs.declared.Answer.{Answer}
use Rattle.ivy_logs.specs.Entries.{LogEntry, answer_in}
use Rattle.ivy_join.proofs.join_logs.after_answer.Goals as goal

-- an entry that is no answer has none
no-answer : (entry : LogEntry) → ((x : Answer) → entry ≡ Answered x → ⊥) → answer_in entry ≡ []
no-answer (Did event) apart = refl
no-answer (Asked call) apart = refl
no-answer (Answered x) apart = absurd (apart x refl)
no-answer (Fetched page write) apart = refl

same-answer : (r : Record) (a : Answer) → r.call ≡ a.call → r.reply ≡ a.reply → answer r ≡ a
same-answer r a calls replies =
    ap {B = Answer} (λ (x : Call). record { call = x; reply = r.reply }) calls
    ∙ ap {B = Answer} (λ (x : Reply). record { call = a.call; reply = x }) replies

-- one record more has the entry's answer
answered-more : (history : List Record) (place : ℕ) (r : Record) (a : Answer) (entry : LogEntry)
    → place < length history → r ≡ get_or history place r → r.call ≡ a.call → r.reply ≡ a.reply
    → entry ≡ Answered a
    → answers (take (place + 1) history) ≡ answers (take place history) ++ answer_in entry
answered-more history place r a entry below there calls replies is =
    ap answers (take_more history place r below)
    ∙ map-append answer (take place history) (get_or history place r ∷ [])
    ∙ ap (λ x. answers (take place history) ++ answer x ∷ []) (sym there)
    ∙ ap (λ x. answers (take place history) ++ x ∷ []) (same-answer r a calls replies)
    ∙ ap (λ e. answers (take place history) ++ answer_in e) (sym is)

pub returns-in_default : goal.returns-in_default
returns-in_default g c = record {
  within = c.requires;
  has = sym (ap (λ l. answers (take c.args.place c.args.history.now) ++ l)
      (no-answer c.args.entry.now c.in_default.not-Answered)
      ∙ append-nil (answers (take c.args.place c.args.history.now)));
}

pub returns-in_err-record-clause-within : goal.returns-in_err-record-clause-within
returns-in_err-record-clause-within g c = rw c.from_residual.ensures tt

pub returns-in_err-record-clause-has : goal.returns-in_err-record-clause-has
returns-in_err-record-clause-has g c = rw c.from_residual.ensures tt

pub returns-clause-within : goal.returns-clause-within
returns-clause-within g c = let below = c.in_ok-record.ensures.lookup.3.0 in omega (arith, below)

pub returns-clause-has : goal.returns-clause-has
returns-clause-has g c =
    let calls : c.in_ok-record.record.now.call ≡ c.in-Answered.answer.call = search rules in
    let replies : c.in_ok-record.record.now.reply ≡ c.in-Answered.answer.reply = search rules in
    answered-more c.args.history.now c.args.place c.in_ok-record.record.now c.in-Answered.answer c.args.entry.now
    c.in_ok-record.ensures.lookup.3.0 c.in_ok-record.ensures.lookup.1 calls replies c.in-Answered.is
