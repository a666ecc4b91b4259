-- One call more of a flat memory.
use Rattle.std.proofs.Common.{◌≡◌, ℕ, ◌<◌, List, [], ◌∷◌, ◌++◌, map, sym, subst}
use Rattle.std.proofs.lemmas.List.{map-append}
use Rattle.ivy_model.specs.declared.call.Call.{Call}
use Rattle.ivy_model.specs.declared.call.Reply.{Reply}
use Rattle.ivy_model.specs.Flat.{FlatState}
use Rattle.ivy_model.specs.stated.Legal.{HasWidth, ServesAll}
use Rattle.ivy_model.specs.stated.Memory.{first}
use Rattle.ivy_model.specs.stated.Serves.{Serves}
use Rattle.ivy_model.proofs.Orders.{leads_push}
use Rattle.ivy_calls.specs.declared.answer.Answer.{Answer}
use Rattle.ivy_calls.specs.Answers.{by}
use Rattle.ivy_calls.specs.Alone.{AreFlat}

pub flat_push : (old new : FlatState) (answers : List Answer) (call : Call) (reply : Reply)
    → AreFlat old answers → new.config ≡ old.config → HasWidth call
    → Serves old.config old.memory call reply new.memory
    → AreFlat new (answers ++ record { call = call; reply = reply } ∷ [])
flat_push old new answers call reply are same width served =
    let a : Answer = record { call = call; reply = reply } in
    subst
    (λ c. (me : ℕ) → me < c.nodes
    → ServesAll c (first c) (map (by me) (answers ++ a ∷ [])) new.memory) (sym same)
    (λ me l. subst (λ rs. ServesAll old.config (first old.config) rs new.memory)
    (sym (map-append (by me) answers (a ∷ [])))
    (leads_push old.config (first old.config) old.memory new.memory (map (by me) answers) (by me a)
    (are me l) (record { node = l; width = width; served = served })))
