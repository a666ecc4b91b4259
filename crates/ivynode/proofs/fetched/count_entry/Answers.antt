use Rattle.std.proofs.Common.{sym, ◌∙◌}
use Rattle.ivynode.proofs.Fetches.{after_call, after_fetch, as_number}
use Rattle.ivynode.proofs.fetched.count_entry.Goals as goal

pub returns-in-Fetched-clause-counted : goal.returns-in-Fetched-clause-counted
returns-in-Fetched-clause-counted c rest counted =
    rw c.in-Fetched.is
    (rw c.put-is_used.ensures.put
    (after_fetch _ _ rest _ _ _ counted _ _ _
    (c.from.ensures ∙ as_number c.put-is_used.result _ c.put-is_used.ensures.was)))

pub returns-in-Some-clause-counted : goal.returns-in-Some-clause-counted
returns-in-Some-clause-counted c rest counted =
    rw c.in-Asked.is
    (rw c.put.ensures.put
    (after_call _ _ rest _ _ _ counted _ _ (sym c.page_of.ensures ∙ c.in-Some.is)))
