-- What a node of a tree has done so far at the barrier.
use Rattle.std.proofs.Common.{◌≡◌, ℕ, zero, suc, ◌+◌, ◌-◌, ◌*◌, ◌/◌, ◌^◌, ◌<◌, ◌≤◌, inl, inr, List, [], ◌∷◌, ◌++◌}
use Rattle.std.proofs.Common.{refl, ap, subst, ◌∙◌, append_assoc, arith}
use Rattle.std.proofs.Math.Nat.{mul-le-mul_left}
use Rattle.ivy_model.specs.declared.call.Call.TheVariants.{Store}
use Rattle.ivy_model.specs.declared.fault.Fault.{Fault}
use Rattle.ivy_calls.specs.declared.answer.Answer.{Answer}
use Rattle.ivy_calls.specs.declared.error.CallError.{CallError}
use Rattle.ivy_calls.specs.Fails.{Fails}
use Rattle.ivy_sync.specs.declared.error.SyncError.TheVariants as error
use Rattle.ivy_sync.specs.declared.tree_barrier.TreeBarrier.{TreeBarrier}
use Rattle.ivy_sync.specs.Doing.{AddsLooks, LooksUntil, stores}
use Rattle.ivy_sync.specs.meeting.TreeBarriers.{AddsAbove, AddsGathered, Awaits, FailsToClimb, Gathered}
use Rattle.ivy_sync.specs.meeting.TreeBarriers.{opened_at, phase_of, raised_at}

-- where the words of all nodes have addresses, so has a node's
pub apart_fits : (base apart me n : ℕ) → base + apart * 256 < 2 ^ 64 → n ≡ me → me < 256
    → apart * n < 2 ^ 64
apart_fits base apart me n fits is small =
    let few : n ≤ 256 = omega (arith, is, small) in
    let most = mul-le-mul_left apart few in
    omega (arith, most, fits)

pub word_fits : (base apart me n : ℕ) → base + apart * 256 < 2 ^ 64 → n ≡ me → me < 256
    → base + apart * n < 2 ^ 64
word_fits base apart me n fits is small =
    let few : n ≤ 256 = omega (arith, is, small) in
    let most = mul-le-mul_left apart few in
    omega (arith, most, fits)

-- the looks at one child more
pub gathered_more : (raised : ℕ → ℕ) (phase first n : ℕ) (old mid new : List Answer)
    → (gathered : List Answer) × Gathered raised phase first n gathered × (mid ≡ old ++ gathered)
    → AddsLooks (raised (first + n)) phase mid new
    → (gathered : List Answer) × Gathered raised phase first (n + 1) gathered
    × (new ≡ old ++ gathered)
gathered_more raised phase first n old mid new w one =
    let more : suc n ≡ n + 1 = omega arith in (
      w.0 ++ one.looks,
      subst (λ m. Gathered raised phase first m (w.0 ++ one.looks)) more
          (w.0, one.looks, w.1, one.until, refl),
      one.whole ∙ ap (λ (l : List Answer). l ++ one.looks) w.2
          ∙ append_assoc old w.0 one.looks,
    )

-- the looks at the parent's word
pub awaits_of : (opened : ℕ → ℕ) (phase me above : ℕ) (looks : List Answer) → 1 ≤ me
    → above ≡ me - 1 → LooksUntil (opened (above / 4)) phase looks → Awaits opened phase me looks
awaits_of opened phase zero above looks some is w = absurd (omega (arith, some))
awaits_of opened phase (suc i) above looks some is w =
    let same : above ≡ i = omega (arith, is) in
    subst (λ n. LooksUntil (opened (n / 4)) phase looks) same w

-- the last of it fails
pub open_stops : (can : Fault → Type 0) (t : TreeBarrier) (me : ℕ) (e : CallError)
    (old up mid down new : List Answer) → AddsGathered t me old up
    → mid ≡ up ++ stores (raised_at t me) (phase_of t) ∷ [] → AddsAbove t me mid down
    → Fails can (Store 8 (opened_at t me) (phase_of t)) e down new
    → FailsToClimb can t me (error.Call e) old new
open_stops can t me e old up mid down new gathers raises awaits fails =
    inr (inr (inr (inr (
      up,
      down,
      gathers,
      subst (λ (l : List Answer). AddsAbove t me l down) raises awaits,
      inl fails,
    ))))
