-- The verdict of an order, as it is said and printed.
use Rattle.std.proofs.Common.{◌≡◌, ℕ, Bool, List, Option, Result, Ok, Err, MatchResult, IfOk, IsTrue, ◌↔◌, subst}
use Rattle.std.specs.Io.KnownBytes.{Appends}
use Rattle.ivy_model.specs.declared.Config.{Config}
use Rattle.ivy_model.specs.declared.Record.{Record}
use Rattle.ivy_model.specs.stated.Legal.{Legal}
use Rattle.ivy_texts.specs.Lines.{verdict_line}
use Rattle.ivy_texts.specs.Spelled.{SpellsOrder}
use Rattle.ivy_texts.specs.declared.order.Sizes.{Sizes}
use Rattle.ivy_simulation.specs.Judged.{PrintsVerdict, config_of_sizes}

pub verdict-printed : {F : Type 0} (text : List ℕ) (sizes : Sizes) (c : Config)
    (records : List Record) (old new : Option (List ℕ)) (r : Result Bool F)
    → SpellsOrder text sizes records → c ≡ config_of_sizes sizes
    → IfOk r (λ yes. IsTrue yes ↔ Legal c records)
    → MatchResult r (λ yes. Appends old new (verdict_line yes)) (λ _. Unit {0})
    → MatchResult r (λ yes. PrintsVerdict text yes old new) (λ _. Unit {0})
verdict-printed text sizes c records old new (Ok told) said same legal printed = record {
  sizes = sizes;
  records = records;
  said = said;
  legal = subst (λ k. IsTrue told ↔ Legal k records) same legal;
  printed = printed;
}
verdict-printed text sizes c records old new (Err f) said same legal printed = tt
