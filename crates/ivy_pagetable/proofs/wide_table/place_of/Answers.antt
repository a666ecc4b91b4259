use Rattle.std.proofs.Common.{◌≡◌, ◌≢◌, ℕ, ◌<◌, Option, Some, None, length, arith, rules, tests}
use Rattle.std.specs.List.{HoldsAt, AllWithin}
use Rattle.std.specs.Option.{MatchOption, IfNone}
use Rattle.std.proofs.lemmas.Iterator.{YieldsList-from_slice, IsFirst-from_position}
use Rattle.std.proofs.lemmas.List.Elements.{recursion_from_All}
use Rattle.ivy_pagetable.proofs.wide_table.place_of.Goals as goal

where_none : {A C : Type 0} (B : ℕ → Type 0) (r : Option ℕ) → MatchOption r A B → (A → C)
    → IfNone r C
where_none B None a f = f a
where_none B (Some i) b f = tt

pub returns-clause-missing : goal.returns-clause-missing
returns-clause-missing c =
    let ls = c.args.locked.now in
    let page = c.args.page in
    where_none
    (λ i. (i < length ls) × HoldsAt (λ l. l.page ≡ page) ls i × AllWithin (λ l. l.page ≢ page) ls 0 i)
    c.position.result
    (IsFirst-from_position _ _ c.position.result (λ l. l.page ≡ page) (λ l. l.page ≢ page)
    c.position.ensures.ran (YieldsList-from_slice ls cc) (λ x q k. search (rules, tests))
    (λ x q k. search (rules, tests)))
    (λ all. recursion_from_All (λ l. l.page ≢ page) ls (λ k d lt. all k d (omega arith) lt))
