-- By logs of programs nothing is handed.
use Rattle.std.proofs.Common.{ℕ, zero, suc, List, [], ◌∷◌, All, Result, Ok, Err, IfErr, subst}
use Rattle.std.specs.List.{AllZip}
use Rattle.std.proofs.lemmas.List.Elements.{All-cons, All-nil}
use Rattle.std.proofs.lemmas.Option.{none-some, same_Some}
use Rattle.ivy_logs.specs.declared.log.LogEntry.TheVariants.{Did, Asked, Answered, Fetched}
use Rattle.ivy_logs.specs.declared.log.LogHead.{LogHead}
use Rattle.ivy_logs.specs.declared.log.LogKind.TheVariants.{OfProgram}
use Rattle.ivy_logs.specs.Entries.{LogEntry, SpellsDid}
use Rattle.ivy_logs.specs.Faults.{HandsNothing}
use Rattle.ivy_join.specs.Calls.{HandNothing}
use Rattle.ivynode.specs.Joined.{IsSpelled}

did-none : (texts : List (List (List ℕ))) (entries : List LogEntry) → AllZip SpellsDid texts entries
    → All HandsNothing entries
did-none [] [] each = All-nil HandsNothing
did-none [] (e ∷ es) each = absurd each
did-none (t ∷ ts) [] each = absurd each
did-none (t ∷ ts) (Did event ∷ es) each = All-cons HandsNothing (Did event) es tt (did-none ts es each.1)
did-none (t ∷ ts) (Asked call ∷ es) each = absurd each.0
did-none (t ∷ ts) (Answered answer ∷ es) each = absurd each.0
did-none (t ∷ ts) (Fetched page write ∷ es) each = absurd each.0

pub none-handed : (heads : List LogHead) (logs : List (List LogEntry)) → AllZip (IsSpelled OfProgram) heads logs
    → HandNothing logs
none-handed heads [] all i log at = absurd (none-some log at)
none-handed [] (l ∷ logs) all i log at = absurd all
none-handed (h ∷ heads) (l ∷ logs) all zero log at =
    subst (All HandsNothing) (same_Some l log at) (did-none _ l all.0.1.each)
none-handed (h ∷ heads) (l ∷ logs) all (suc i) log at = none-handed heads logs all.1 i log at

-- what follows of the error
pub err-weaker : {T E : Type 0} (r : Result T E) (P Q : E → Type 0) → ((e : E) → P e → Q e) → IfErr r P → IfErr r Q
err-weaker (Ok x) P Q h p = tt
err-weaker (Err e) P Q h p = h e p
