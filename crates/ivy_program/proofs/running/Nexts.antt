-- What own code asks for next.
use Rattle.std.proofs.Common.{◌≡◌, ◌≤◌, ◌+◌, ◌-◌, ℕ, List, [], ◌∷◌, ◌++◌, drop, length, length-append, append-nil, slice_get, Option, Some, None, if◌then◌else◌, refl, sym, ap, subst, ◌∙◌, arith}
use Rattle.std.proofs.lemmas.Bool.{le-ltb}
use Rattle.ivy_model.specs.declared.Call.{Call}
use Rattle.ivy_model.specs.declared.Reply.{Reply}
use Rattle.ivy_program.specs.OwnCode.{AsksNext, Rests, asking, process_handed}
use Rattle.ivy_program.specs.stated.Programs.{Called, HandedFetch, calls_in}
use Rattle.ivy_program.specs.stated.States.{first_state, gone_to}
use Rattle.ivy_program.specs.stated.InstructionSteps.{Process, Asks, Ends, answered_with, called_at, up_to_width, behind, along_of}
use Rattle.ivy_program.specs.InstructionSteps.{HasEnded}
use Rattle.ivy_program.proofs.running.Handing.{calls-append}
use Rattle.ivy_program.proofs.reading.Widths.{has_width_test}

last_got : (calls : List Call) (call : Call)
    → slice_get (calls ++ call ∷ []) (length calls) ≡ Some call
last_got [] call = refl
last_got (c ∷ calls) call = last_got calls call

none_asks : (answered : List (List Call)) → AsksNext (asking [] answered None)
none_asks answered call width =
    ap (λ calls. called_at (slice_get calls (length (calls_in answered))))
    (calls-append answered ((call ∷ []) ∷ []))
    ∙ ap called_at (last_got (calls_in answered) call)
    ∙ ap (λ b. if b then Asks call else Ends) (has_width_test call width)

-- with no call in progress, whatever its owner makes next
pub asks_next : (answered : List (List Call)) (waiting : Option Call) → waiting ≡ None
    → AsksNext (asking [] answered waiting)
asks_next answered waiting is = subst (λ o. AsksNext (asking [] answered o)) (sym is) (none_asks answered)

none_answered : (fs : List HandedFetch) (answered : List (List Call)) (call : Call) (reply : Reply)
    → asking fs (answered ++ (call ∷ []) ∷ []) None
    ≡ answered_with (process_handed ((call ∷ []) ∷ []) (asking fs answered None)) reply
none_answered fs answered call reply =
    ap (λ n. record { program = Called (answered ++ (call ∷ []) ∷ []) fs; state = gone_to first_state n })
    (ap length (calls-append answered ((call ∷ []) ∷ []))
    ∙ length-append (calls_in answered) (call ∷ []))

-- and once that has its reply
pub handed_and_answered : (fs : List HandedFetch) (answered : List (List Call)) (waiting : Option Call) (call : Call)
    (reply : Reply) → waiting ≡ None
    → asking fs (answered ++ (call ∷ []) ∷ []) waiting
    ≡ answered_with (process_handed ((call ∷ []) ∷ []) (asking fs answered waiting)) reply
handed_and_answered fs answered waiting call reply is =
    subst
    (λ o. asking fs (answered ++ (call ∷ []) ∷ []) o
    ≡ answered_with (process_handed ((call ∷ []) ∷ []) (asking fs answered o)) reply) (sym is)
    (none_answered fs answered call reply)

none_past : (calls : List Call) → slice_get calls (length calls) ≡ None
none_past [] = refl
none_past (call ∷ calls) = none_past calls

-- own code that was answered each of its calls has ended
pub all_answered : (rows : List (List Call)) → HasEnded (asking [] rows None)
all_answered rows = ap called_at (none_past (calls_in rows))

-- what is behind a place past these rows
pub behind_past : (rows more : List (List Call)) (k : ℕ)
    → behind (rows ++ more) (length (calls_in rows) + k) ≡ behind more k
behind_past [] more k = ap (behind more) (let e : 0 + k ≡ k = omega arith in e)
behind_past (row ∷ rows) more k =
    let long : length (row ++ calls_in rows) ≡ length row + length (calls_in rows) =
    length-append row (calls_in rows) in
    let past : length row ≤ length (row ++ calls_in rows) + k = omega (arith, long) in
    let back : length (row ++ calls_in rows) + k - length row ≡ length (calls_in rows) + k =
    omega (arith, long) in
    ap (λ b. if b then drop (length (row ++ calls_in rows) + k + 1) row
    else behind (rows ++ more) (length (row ++ calls_in rows) + k - length row))
    (le-ltb (length (row ++ calls_in rows) + k) (length row) past)
    ∙ ap (behind (rows ++ more)) back
    ∙ behind_past rows more k

-- behind the place past them all
behind_end : (rows more : List (List Call)) → behind (rows ++ more) (length (calls_in rows)) ≡ behind more 0
behind_end rows more =
    ap (behind (rows ++ more))
    (let e : length (calls_in rows) ≡ length (calls_in rows) + 0 = omega arith in e)
    ∙ behind_past rows more 0

none_behind : (rows : List (List Call)) → behind rows (length (calls_in rows)) ≡ []
none_behind rows =
    ap (λ xs. behind xs (length (calls_in rows))) (sym (append-nil rows)) ∙ behind_end rows []

-- such a call is alone in its row
pub alone_waiting : (answered : List (List Call)) (waiting : Option Call)
    → along_of (asking [] answered waiting) ≡ []
alone_waiting answered None = ap up_to_width (none_behind answered)
alone_waiting answered (Some call) = ap up_to_width (behind_end answered ((call ∷ []) ∷ []))

-- and so is the call that the owner of own code that rests makes next
pub alone_next : (p : Process) → Rests p → (call : Call)
    → along_of (process_handed ((call ∷ []) ∷ []) p) ≡ []
alone_next p rests call =
    ap (λ (q : Process). along_of (process_handed ((call ∷ []) ∷ []) q)) rests.2
    ∙ alone_waiting rests.1 (Some call)

-- also once it has its reply
pub alone_answered : (p : Process) → Rests p → (call : Call) (reply : Reply)
    → along_of (answered_with (process_handed ((call ∷ []) ∷ []) p) reply) ≡ []
alone_answered p rests call reply =
    ap (λ (q : Process). along_of (answered_with (process_handed ((call ∷ []) ∷ []) q) reply)) rests.2
    ∙ ap along_of (sym (none_answered rests.0 rests.1 call reply))
    ∙ alone_waiting (rests.1 ++ (call ∷ []) ∷ []) None
