-- Records that stand next to one another in an order still do when the order grows at its end.
use Rattle.std.proofs.Common.{List, [], ◌++◌, refl, ap, sym, ◌∙◌}
use Rattle.std.proofs.lemmas.List.{append-nil, append_assoc}
use Rattle.ivy_model.specs.declared.Record.{Record}
use Rattle.ivy_moves.specs.stated.Explained.{StandTogether}

pub none_together : (order : List Record) → StandTogether [] order
none_together order = ([], order, refl)

pub added_together : (order more : List Record) → StandTogether more (order ++ more)
added_together order more = (order, [], sym (append-nil (order ++ more)))

pub grown_together : (records order more : List Record) → StandTogether records order
    → StandTogether records (order ++ more)
grown_together records order more s = (
  s.0,
  s.1 ++ more,
  ap (λ xs. xs ++ more) s.2 ∙ append_assoc (s.0 ++ records) s.1 more,
)

-- so do those behind the first of them
pub later_together : (taken records order : List Record) → StandTogether (taken ++ records) order
    → StandTogether records order
later_together taken records order s = (
  s.0 ++ taken,
  s.1,
  s.2 ∙ ap (λ xs. xs ++ s.1) (sym (append_assoc s.0 taken records)),
)
