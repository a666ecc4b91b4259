use Rattle.std.proofs.Common.{rules, ◌≡◌, ◌++◌, ◌∷◌, [], ℕ, List, Option, Contains, length, inl, inr, refl, sym, ap, subst, ◌∙◌}
use Rattle.std.proofs.lemmas.Result.{IfOk-from_err}
use Rattle.std.specs.BTreeMap.{get}
use Rattle.std.specs.Ordering.{nat_cmp}
use Rattle.std.proofs.lemmas.List.Elements.{Contains-push}
use Rattle.ivy_join.specs.Latest.{hash_of, AreChained}
use Rattle.ivy_join.proofs.Latest.{chained-more, last_more}
use Rattle.ivy_join.proofs.strings.Strings.add.Goals as goal

pub invariant_of-self-2 : goal.invariant_of-self-2
invariant_of-self-2 g c =
    let strings : List (List ℕ) = c.self.inside.strings.items in
    let earlier : List (Option ℕ) = c.self.inside.earlier.items in
    let hash : c.hash_of.result ≡ hash_of c.args.string = search rules in
    let place : c.len-place.result ≡ length c.self.inside.strings.items = search rules in
    let texts : c.push_reserved-2.new.self.items ≡ c.self.inside.strings.items ++ c.args.string ∷ [] =
    search rules in
    let places : c.push_reserved.new.self.items ≡ c.self.inside.earlier.items ++ c.in_ok-earlier.earlier ∷ [] =
    search rules in
    subst (λ l. AreChained l c.push_reserved.new.self.items (get nat_cmp c.insert.new.self)) (sym texts)
    (subst (λ l. AreChained (c.self.inside.strings.items ++ c.args.string ∷ []) l (get nat_cmp c.insert.new.self))
    (sym places)
    (chained-more strings earlier (get nat_cmp c.self.inside.last) (get nat_cmp c.insert.new.self) c.args.string
    c.in_ok-earlier.earlier c.self.invariant
    (c.in_ok-earlier.ensures.old ∙ ap (get nat_cmp c.self.inside.last) hash)
    (last_more c.hash_of.result c.len-place.result (get nat_cmp c.self.inside.last) (get nat_cmp c.insert.new.self)
    c.args.string (length strings) hash place c.in_ok-earlier.ensures.updates.0)))

pub returns-clause-there : goal.returns-clause-there
returns-clause-there g c =
    subst (λ l. Contains l c.args.string) (sym c.push_reserved-2.ensures.items)
    (Contains-push c.reserve.new.self.items c.args.string)

pub returns-then-contains-clause-one : goal.returns-then-contains-clause-one
returns-then-contains-clause-one g c = inl refl

pub returns-then-contains-clause-there : goal.returns-then-contains-clause-there
returns-then-contains-clause-there g c =
    subst (Contains c.args.self.now) c.bytes.ensures (c.contains.ensures.0 c.if-contains.true)

pub invariant_of-self : goal.invariant_of-self
invariant_of-self g c =
    subst (λ l. AreChained l c.self.inside.earlier.items (get nat_cmp c.self.inside.last))
    (sym c.in_err-reserve.ensures.items) c.self.invariant

pub returns-in_err-reserve-clause-one : goal.returns-in_err-reserve-clause-one
returns-in_err-reserve-clause-one g c = inl (c.in_err-reserve.ensures.items ∙ c.self.view_is)

pub returns-in_err-reserve-clause-there : goal.returns-in_err-reserve-clause-there
returns-in_err-reserve-clause-there g c = IfOk-from_err c.from_residual.result _ c.from_residual.ensures.0

pub invariant_of-self-in_err-reserve-2 : goal.invariant_of-self-in_err-reserve-2
invariant_of-self-in_err-reserve-2 g c =
    subst (λ l. AreChained l c.reserve-2.new.self.items (get nat_cmp c.self.inside.last))
    (sym c.in_ok-reserve.ensures.items)
    (subst (λ l. AreChained c.self.inside.strings.items l (get nat_cmp c.self.inside.last))
    (sym c.in_err-reserve-2.ensures.items) c.self.invariant)

pub returns-in_err-reserve-2-clause-one : goal.returns-in_err-reserve-2-clause-one
returns-in_err-reserve-2-clause-one g c = inl (c.in_ok-reserve.ensures.items ∙ c.self.view_is)

pub returns-in_err-reserve-2-clause-there : goal.returns-in_err-reserve-2-clause-there
returns-in_err-reserve-2-clause-there g c =
    IfOk-from_err c.from_residual-in_err-reserve-2.result _ c.from_residual-in_err-reserve-2.ensures.0

pub returns-in_err-earlier-clause-one : goal.returns-in_err-earlier-clause-one
returns-in_err-earlier-clause-one g c = inl (c.in_ok-reserve.ensures.items ∙ c.self.view_is)

pub returns-in_err-earlier-clause-there : goal.returns-in_err-earlier-clause-there
returns-in_err-earlier-clause-there g c =
    IfOk-from_err c.from_residual-in_err-earlier.result _ c.from_residual-in_err-earlier.ensures.0

pub returns-clause-one : goal.returns-clause-one
returns-clause-one g c =
    inr (c.push_reserved-2.ensures.items ∙ ap (λ l. l ++ c.args.string ∷ [])
    (c.in_ok-reserve.ensures.items ∙ c.self.view_is))
