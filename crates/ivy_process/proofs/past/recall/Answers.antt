use Rattle.std.proofs.Common.{◌≡◌, ℕ, ◌+◌, ◌<◌, List, [], ◌∷◌, ◌++◌, true, false, length, get_or, take, refl, subst, sym, ap, ◌∙◌, append-nil, arith, rules}
use Rattle.std.proofs.lemmas.List.{take_all, take_more}
use Rattle.std.proofs.lemmas.List.Concat.{flat_map-append}
use Rattle.ivy_model.specs.declared.Call.{Call}
use Rattle.ivy_logs.specs.Entries.{LogEntry, answer_in, answers_in, call_in, calls_in}
use Rattle.ivy_process.specs.OwnNodes.{EndsByCall}
use Rattle.ivy_process.proofs.past.recall.Goals as goal
use Rattle.ivy_process.proofs.past.recall.Goals.{in-Did, in-Asked, in-Fetched}

-- one entry more
answers-more : (log : List LogEntry) (at : ℕ) (e : LogEntry) → at < length log → e ≡ get_or log at e
    → answers_in (take (at + 1) log) ≡ answers_in (take at log) ++ answer_in e
answers-more log at e below is =
    ap answers_in (take_more log at e below)
    ∙ flat_map-append answer_in (take at log) (get_or log at e ∷ [])
    ∙ ap (λ l. answers_in (take at log) ++ l)
    (append-nil (answer_in (get_or log at e)) ∙ ap answer_in (sym is))

calls-more : (log : List LogEntry) (at : ℕ) (e : LogEntry) → at < length log → e ≡ get_or log at e
    → calls_in (take (at + 1) log) ≡ calls_in (take at log) ++ call_in e
calls-more log at e below is =
    ap calls_in (take_more log at e below)
    ∙ flat_map-append call_in (take at log) (get_or log at e ∷ [])
    ∙ ap (λ l. calls_in (take at log) ++ l)
    (append-nil (call_in (get_or log at e)) ∙ ap call_in (sym is))

pub loop-at-init : goal.loop-at-init
loop-at-init c = record { answers = refl; asked = λ yes. absurd cc; none = λ no. refl }

pub returns-in_default : goal.returns-in_default
returns-in_default c = tt

pub returns-in-Answered : goal.returns-in-Answered
returns-in-Answered c =
    let log = c.args.entries.now in
    let at = c.loop-at.at in
    let call : c.in-Answered.answer.call ≡ c.args.call = search rules in (
      omega arith,
      omega arith,
      answers-more log at c.index-entries-at.result c.loop-at-test.true c.index-entries-at.is
          ∙ ap (λ e. answers_in (take at log) ++ answer_in e) c.in-Answered.is
          ∙ ap (λ (k : Call). answers_in (take at log) ++ record { call = k; reply = c.in-Answered.answer.reply } ∷ []) call
          ∙ ap (λ l. l ++ record { call = c.args.call; reply = c.in-Answered.answer.reply } ∷ [])
          c.loop-at.invariant.answers,
    )

pub loop-at-preserved : goal.loop-at-preserved
loop-at-preserved c =
    let log = c.args.entries.now in
    let at = c.loop-at.at in
    let below = c.loop-at-test.true in
    let there = c.index-entries-at.is in
    elim c.match-entries-at.branch [
      | in-Did w ↦
          let calls : calls_in (take (c.loop-at.at + 1) c.args.entries.now) ≡ calls_in (take c.loop-at.at c.args.entries.now) =
          calls-more log at c.index-entries-at.result below there
          ∙ ap (λ e. calls_in (take at log) ++ call_in e) w.in-Did.is
          ∙ append-nil (calls_in (take at log)) in record {
            answers = answers-more log at c.index-entries-at.result below there
                ∙ ap (λ e. answers_in (take at log) ++ answer_in e) w.in-Did.is
                ∙ append-nil (answers_in (take at log)) ∙ c.loop-at.invariant.answers;
            asked = λ yes. (let before : EndsByCall (take c.loop-at.at c.args.entries.now) c.args.call =
                c.loop-at.invariant.asked (sym w.is_asked-is ∙ yes) in (before.0, calls ∙ before.1));
            none = λ no. calls ∙ c.loop-at.invariant.none (sym w.is_asked-is ∙ no);
          }
      | in-Asked w ↦
          let call : w.in-Asked.other ≡ c.args.call = search rules in record {
            answers = answers-more log at c.index-entries-at.result below there
                ∙ ap (λ e. answers_in (take at log) ++ answer_in e) w.in-Asked.is
                ∙ append-nil (answers_in (take at log)) ∙ c.loop-at.invariant.answers;
            asked = λ yes. (
              calls_in (take at log),
              calls-more log at c.index-entries-at.result below there
                  ∙ ap (λ e. calls_in (take at log) ++ call_in e) w.in-Asked.is
                  ∙ ap (λ (k : Call). calls_in (take at log) ++ k ∷ []) call,
            );
            none = λ no. absurd (let same : true ≡ false = sym w.is_asked-is ∙ no in cc);
          }
      | in-Fetched w ↦
          let calls : calls_in (take (c.loop-at.at + 1) c.args.entries.now) ≡ calls_in (take c.loop-at.at c.args.entries.now) =
          calls-more log at c.index-entries-at.result below there
          ∙ ap (λ e. calls_in (take at log) ++ call_in e) w.in-Fetched.is
          ∙ append-nil (calls_in (take at log)) in record {
            answers = answers-more log at c.index-entries-at.result below there
                ∙ ap (λ e. answers_in (take at log) ++ answer_in e) w.in-Fetched.is
                ∙ append-nil (answers_in (take at log)) ∙ c.loop-at.invariant.answers;
            asked = λ yes. (let before : EndsByCall (take c.loop-at.at c.args.entries.now) c.args.call =
                c.loop-at.invariant.asked (sym w.is_asked-is ∙ yes) in (before.0, calls ∙ before.1));
            none = λ no. calls ∙ c.loop-at.invariant.none (sym w.is_asked-is ∙ no);
          }
    ]

pub returns-then-is_asked : goal.returns-then-is_asked
returns-then-is_asked c =
    let whole : take c.loop-at.at c.args.entries.now ≡ c.args.entries.now =
    take_all c.loop-at.at c.args.entries.now c.loop-at-test.false in (
      ap answers_in (sym whole) ∙ c.loop-at.invariant.answers,
      subst (λ l. EndsByCall l c.args.call) whole (c.loop-at.invariant.asked (search rules)),
    )

pub returns-else-is_asked : goal.returns-else-is_asked
returns-else-is_asked c =
    let whole : take c.loop-at.at c.args.entries.now ≡ c.args.entries.now =
    take_all c.loop-at.at c.args.entries.now c.loop-at-test.false in (
      ap answers_in (sym whole) ∙ c.loop-at.invariant.answers,
      ap calls_in (sym whole) ∙ c.loop-at.invariant.none (search rules),
    )
