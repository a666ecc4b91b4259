use Rattle.std.proofs.Common.{◌≡◌, List, inl, inr, refl, ap, rules, subst, sym, ◌∙◌}
use Rattle.std.specs.Prelude.{IfNone}
use Rattle.ivy_model.specs.declared.call.Reply.{Reply}
use Rattle.ivy_model.specs.declared.fault.Fault.{Fault}
use Rattle.ivy_model.specs.declared.fault.Fault.TheVariants as fault
use Rattle.ivy_model.specs.stated.Accesses.{kind_of_call}
use Rattle.ivy_model.specs.stated.Memory.{Memory}
use Rattle.ivy_model.specs.stated.Serves.{Serves}
use Rattle.ivy_calls.specs.declared.answer.Answer.{Answer}
use Rattle.ivy_calls.specs.Alone.{AloneState, AreFlat, IsEndless, IsLack}
use Rattle.ivy_calls.proofs.BlockAnswers.{fails_as}
use Rattle.ivy_calls.proofs.Endless.{endless}
use Rattle.ivy_calls.proofs.Flat.{flat_push}
use Rattle.ivy_calls.proofs.alone.AloneSharedMemory.call.Goals as goal

pub invariant_of-self-2 : goal.invariant_of-self-2
invariant_of-self-2 g c =
    let old = c.self.inside.flat in
    let new = c.serve.new.self in
    let served : Serves old.config old.memory c.args.call c.in-Some.reply new.memory = search rules
    in
    subst (λ (answers : List Answer). AreFlat new answers) (sym c.push_reserved.ensures.items)
    (flat_push old new c.reserve.new.self.items c.args.call c.in-Some.reply
    (subst (λ (answers : List Answer). AreFlat old answers) (sym c.in_ok-reserve.ensures.items)
    c.self.invariant)
    c.serve.ensures.config c.requires.width served)

pub returns-in_err-reserve-clause-failed : goal.returns-in_err-reserve-clause-failed
returns-in_err-reserve-clause-failed g c =
    fails_as c.from_residual.result fault.Memory
    (λ (f : Fault). (c.reserve.new.self.items ≡ c.args.self.now.answers) × IsLack f)
    c.from_residual.ensures.1
    (c.in_err-reserve.ensures.items ∙ ap (λ (s : AloneState). s.answers) c.self.view_is, inl refl)

pub returns-in_err-reply-clause-failed : goal.returns-in_err-reply-clause-failed
returns-in_err-reply-clause-failed g c =
    fails_as c.from_residual-in_err-reply.result fault.Memory
    (λ (f : Fault). (c.reserve.new.self.items ≡ c.args.self.now.answers) × IsLack f)
    c.from_residual-in_err-reply.ensures.1
    (c.in_ok-reserve.ensures.items ∙ ap (λ (s : AloneState). s.answers) c.self.view_is, inl refl)

pub returns-in_default-clause-failed : goal.returns-in_default-clause-failed
returns-in_default-clause-failed g c = (
  c.in_ok-reserve.ensures.items ∙ ap (λ (s : AloneState). s.answers) c.self.view_is,
  inr refl,
)

pub returns-in_default-clause-endless : goal.returns-in_default-clause-endless
returns-in_default-clause-endless g c =
    let old = c.self.inside.flat in
    let none : (reply : Reply) (new : Memory) → Serves old.config old.memory c.args.call reply new → ⊥ =
    subst
    (λ found. IfNone found ((reply : Reply) (new : Memory)
    → Serves old.config old.memory c.args.call reply new → ⊥))
    c.in_default.is c.in_ok-reply.ensures.waits in
    λ _. subst (λ (s : AloneState). IsEndless s.flat.memory (kind_of_call c.args.call)) c.self.view_is
    (endless old.config old.memory (kind_of_call c.args.call) none)
