-- What the functions tell, at a handle that has a node.
use Rattle.std.proofs.Common.{◌≡◌, ◌≢◌, ◌⊎◌, inl, inr, ℕ, ◌/◌, List, length, Option, Some, None, refl, arith}
use Rattle.ivy_model.specs.declared.Row.{Row}
use Rattle.ivy_link.specs.declared.Verdict.{Verdict}
use Rattle.ivy_site.specs.Calls.{MayCallTogether, row_together}
use Rattle.ivy_site.specs.Sites.{AfterDelivery}
use Rattle.ivy_embedded.specs.declared.embedded.Declined.{Declined}
use Rattle.ivy_embedded.specs.declared.embedded.Declined.TheVariants as why
use Rattle.ivy_embedded.specs.declared.lending.Lending.TheVariants.{Unlent}
use Rattle.ivy_embedded.specs.declared.lending.Want.{Want}
use Rattle.ivy_embedded.specs.Blocks.{BeginsAll}
use Rattle.ivy_embedded.specs.Exports.{Answers, Delivers, HasNoCall, OfSite, RefusesString, verdict_number}
use Rattle.ivy_embedded.specs.Lending.{IsWanted, row_lending}
use Rattle.ivy_embedded.specs.LentPages.{DeliversFarAt, TellsWanted}
use Rattle.ivy_embedded.specs.Lends.{DeliversFar, IsRowRefusal}
use Rattle.ivy_embedded.specs.Nodes.{Embedded}
use Rattle.ivy_embedded.specs.declared.status.TheConstants.{DONE}
use Rattle.ivy_embedded.specs.Numbers.{IsRefusalStatus}

-- so many calls of a row were made, or none
pub block_begun : (kind : Row) (addr len status many : ℕ) (held : Option Embedded) (s : Embedded)
    → held ≡ Some s
    → (MayCallTogether s.site.node.core.process s.site.node.core.history addr len
    → many ≡ row_together s.site kind addr (len / 8) len)
    → (HasNoCall s.site → row_lending s addr ≢ Unlent → ⊥)
    → BeginsAll kind addr len status many held
block_begun kind addr len status many held s at all unlent =
    rw at (λ may free. inr (all may), λ free lent. absurd (unlent free lent))

-- or they are refused
pub block_refused : (refusal : Declined) (kind : Row) (addr words status before : ℕ)
    (bytes : List ℕ) (held : Option Embedded) (s : Embedded) → held ≡ Some s
    → IsRefusalStatus status refusal → IsRowRefusal refusal kind addr words bytes s
    → (HasNoCall s.site → row_lending s addr ≢ Unlent → refusal ≡ why.Lent)
    → BeginsAll kind addr (length bytes) status before held
block_refused (why.Fault fault) kind addr words status before bytes held s at is r lent =
    rw at (
      λ may unlent. inl (fault, r.0, is),
      λ free other. (let f : why.Fault fault ≡ why.Lent = lent free other in absurd cc),
    )
block_refused why.Lent kind addr words status before bytes held s at is r lent =
    rw at (λ may unlent. absurd (r.1 unlent), λ free other. is)
block_refused why.NotHere kind addr words status before bytes held s at is r lent = absurd r
block_refused why.NoSuchLending kind addr words status before bytes held s at is r lent = absurd r
block_refused (why.Wanted want) kind addr words status before bytes held s at is r lent = absurd r

-- a string was delivered
pub string_delivered : (bytes : List ℕ) (what : ℕ) (v : Verdict) (held new : Option Embedded)
    (s t : Embedded) → held ≡ Some s → new ≡ Some t → what ≡ verdict_number v
    → OfSite (AfterDelivery bytes v) s t → ((want : Want) → IsWanted s bytes want → ⊥)
    → Answers 0 held new (Delivers bytes 0 what) (RefusesString bytes 0)
string_delivered bytes what v held new s t at to is of none =
    rw (at, to) (inl (refl, v, is, of, λ takes. none takes.0 takes.1))

-- and the node went on as far as it goes
pub delivered_far : (bytes : List ℕ) (what : ℕ) (v : Verdict) (held new : Option Embedded)
    (s t : Embedded) → held ≡ Some s → new ≡ Some t → what ≡ verdict_number v
    → DeliversFar bytes v s t → DeliversFarAt bytes 0 what held new
delivered_far bytes what v held new s t at to is far = rw (at, to) (λ done. (v, is, far))

-- a refusal is none
not_done : (status : ℕ) (refusal : Declined) → IsRefusalStatus status refusal → status ≢ DONE
not_done status (why.Fault fault) is done = omega (arith, is, done)
not_done status why.Lent is done = omega (arith, is, done)
not_done status (why.Wanted want) is done = omega (arith, is, done)
not_done status why.NotHere is done = omega (arith, is, done)
not_done status why.NoSuchLending is done = omega (arith, is, done)

pub refused_far : (bytes : List ℕ) (status what : ℕ) (refusal : Declined)
    (held new : Option Embedded) → IsRefusalStatus status refusal
    → DeliversFarAt bytes status what held new
refused_far bytes status what refusal None new is = tt
refused_far bytes status what refusal (Some s) None is = tt
refused_far bytes status what refusal (Some s) (Some t) is =
    λ done. absurd (not_done status refusal is done)

-- no page is wanted
pub none_told : (bytes : List ℕ) (page on : ℕ) (held new : Option Embedded) (s : Embedded)
    → held ≡ Some s → new ≡ Some s → ((want : Want) → IsWanted s bytes want → ⊥)
    → Answers 0 held new (TellsWanted bytes 0 page on) (λ x. ⊥)
none_told bytes page on held new s at to none =
    rw (at, to) (inl (refl, inr (refl, λ takes. none takes.0 takes.1)))
