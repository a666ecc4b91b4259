-- Why a call gave nothing, and what it left.
use Rattle.std.specs.Prelude.{◌≡◌, ℕ, ◌*◌, ◌^◌, ◌<◌, ◌≤◌, false, true, List}
use Rattle.ivy_model.specs.declared.call.Call.{Call}
use Rattle.ivy_model.specs.declared.call.CallKind.{CallKind}
use Rattle.ivy_model.specs.declared.call.CallKind.TheVariants as kind
use Rattle.ivy_model.specs.declared.call.Reply.{Reply}
use Rattle.ivy_model.specs.declared.call.Reply.TheVariants as reply
use Rattle.ivy_model.specs.declared.fault.Fault.{Fault}
use Rattle.ivy_model.specs.declared.fault.Fault.TheVariants.{BadBody}
use Rattle.ivy_model.specs.stated.Accesses.{kind_of_call, gives_number}
use Rattle.ivy_model.specs.stated.Numbers.{fault_number}
use Rattle.ivy_calls.specs.declared.answer.Answer.{Answer}
use Rattle.ivy_calls.specs.declared.error.CallError.{CallError}
use Rattle.ivy_calls.specs.declared.error.CallError.TheVariants as error
use Rattle.ivy_calls.specs.Answers.{Adds}

-- a number that such a call can give: of an access that gives one, as many bytes as the word has
abbrev pub GivesNumber : CallKind → ℕ → Type 0
GivesNumber (kind.Word width addr act) n = (gives_number act ≡ true) × (n < 2 ^ (8 * width))
GivesNumber (kind.Count k) n = Unit {0}
GivesNumber (kind.Await k least) n = Unit {0}
GivesNumber (kind.Alloc size) n = Unit {0}
GivesNumber _ n = ⊥

-- such a call gives no number where it is carried out
abbrev pub GivesNone : CallKind → Type 0
GivesNone (kind.Word width addr act) = gives_number act ≡ false
GivesNone (kind.Advance k) = Unit {0}
GivesNone (kind.Free addr) = Unit {0}
GivesNone _ = ⊥

-- the reply is one that the call can have: a refusal has the number of a fault from 3 to 10
abbrev pub IsFit : Call → Reply → Type 0
IsFit call (reply.Value n) = GivesNumber (kind_of_call call) n
IsFit call reply.Done = GivesNone (kind_of_call call)
IsFit call (reply.Refused code) = (3 ≤ code) × (code ≤ 10)

-- A refusal and a reply that does not fit were answered; a fault left all as it was.
abbrev pub Fails : (Fault → Type 0) → Call → CallError → List Answer → List Answer → Type 0
Fails can_fail call (error.Refused asked fault) old new =
    (asked ≡ call) × Adds call (reply.Refused (fault_number fault)) old new
Fails can_fail call (error.Unfit asked given) old new =
    (asked ≡ call) × Adds call given old new × (IsFit call given → ⊥)
Fails can_fail call (error.Fault asked fault) old new =
    (asked ≡ call) × (new ≡ old) × can_fail fault

-- the fault with which a program gives up that has this error
abbrev pub fault_of : CallError → Fault
fault_of (error.Refused call fault) = fault
fault_of (error.Unfit call given) = BadBody
fault_of (error.Fault call fault) = fault

-- the reply is no refusal
abbrev pub IsCarriedOut : Reply → Type 0
IsCarriedOut (reply.Refused code) = ⊥
IsCarriedOut _ = Unit {0}
