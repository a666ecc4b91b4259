-- In how many rounds, the one that goes on among them, a node no more keeps a request up: no step
-- makes them more. In the round some messages of each pair are to be delivered: they come soon.
use Rattle.std.proofs.Common.{◌≡◌, ◌⊎◌, ◌≤◌, ℕ, true, false, [], refl, sym, ap, ◌∙◌, subst, inl, inr}
use Rattle.std.proofs.lemmas.Bool.{both_ways}
use Rattle.ivy_model.specs.declared.Config.{Config}
use Rattle.ivy_wire.specs.declared.Content.TheVariants as content
use Rattle.ivy_pagetable.specs.declared.Entry.{Entry}
use Rattle.ivy_pagetable.specs.declared.Entry.TheVariants as entry
use Rattle.ivy_pagetable.specs.stated.Entries.{is_locked, is_owner}
use Rattle.ivy_pagetable.specs.stated.States.{IdleState, AwaitWriteState, AwaitAcksState}
use Rattle.ivy_dynamic.specs.stated.Dynamic.{Hints}
use Rattle.proof_table.specs.stated.Letters.{Letter, Net, Place, Underway, Aside, Loose}
use Rattle.proof_table.specs.stated.Orderly.{AwaitsPage, IsExpectedAs, IsOrderly}
use Rattle.proof_table.proofs.transitions.Sole.{fits_as}
use Rattle.proof_table.proofs.waiting.Onward.{IsArrived, IsLater, IsComing, IsOnward}
use Rattle.proof_table.proofs.waiting.Ranks.{IsSoon, AreRecalled, recall_on, coming_on, unlocked_loose}
use Rattle.proof_answers.specs.late.Late.{HasCome, IsChained, IsLate}
use Rattle.proof_answers.specs.late.LateLaws.{IsChainedOn}
use Rattle.proof_answers.proofs.late.LateSteps.{chained_at, chained_asks}

-- one of the chain is put off at the node, or loose there
pub record IsHeld (n : Net) (p o x : ℕ) : Type 0 where
  pub at : Place
  pub letter : Letter
  pub chained : IsChained n p o at letter
  pub come : HasCome at
  pub here : letter.dest ≡ x

-- Node `x` keeps the request up no more once it is late. Else: four rounds; three, if one of the
-- chain comes there soon, or has come; two, if one has come and the page comes soon. As many as its
-- acknowledgements take where it collects these. And none where it serves one of the chain in this
-- step.
pub data IsKeptUp (nodes : ℕ) (m : ℕ → Hints) (n : Net) (due : ℕ → ℕ → ℕ) (p o x w : ℕ) : Type 0
  where
    late : IsLate nodes m n p o x → IsKeptUp nodes m n due p o x w
    free : 4 ≤ w → IsKeptUp nodes m n due p o x w
    nears : (a : Place) (l : Letter) → IsChained n p o a l → l.dest ≡ x → IsSoon due a → 3 ≤ w
        → IsKeptUp nodes m n due p o x w
    gets : (s : AwaitWriteState) → n.entry x p ≡ entry.AwaitWrite s → IsHeld n p o x
        → (k : IsComing n p x) → IsSoon due k.at → 2 ≤ w → IsKeptUp nodes m n due p o x w
    collects : (e : ℕ) (s : AwaitAcksState) → n.entry x p ≡ entry.AwaitAcks s → IsHeld n p o x
        → AreRecalled n due p 0 e x → e ≤ w → IsKeptUp nodes m n due p o x w
    serves : (s : IdleState) → n.entry x p ≡ entry.Idle s → IsHeld n p o x
        → IsKeptUp nodes m n due p o x w

come_arrived : (a : Place) → HasCome a → IsArrived a
come_arrived (Underway i j k) h = h
come_arrived (Aside x p k) h = h
come_arrived (Loose k) h = h

pub arrived_come : (a : Place) → IsArrived a → HasCome a
arrived_come (Underway i j k) h = h
arrived_come (Aside x p k) h = h
arrived_come (Loose k) h = h

pub come_later : (a b : Place) → HasCome a → IsLater a b → HasCome b
come_later a b h (inl same) = subst HasCome (sym same) h
come_later a b h (inr arrived) = arrived_come b arrived

arrived_is_soon : (due : ℕ → ℕ → ℕ) (a : Place) → IsArrived a → IsSoon due a
arrived_is_soon due (Underway i j k) h = absurd h
arrived_is_soon due (Aside x p k) h = tt
arrived_is_soon due (Loose k) h = tt

soon_on : (due : ℕ → ℕ → ℕ) (a b : Place) → IsSoon due a → IsLater a b → IsSoon due b
soon_on due a b soon (inl same) = subst (IsSoon due) (sym same) soon
soon_on due a b soon (inr arrived) = arrived_is_soon due b arrived

-- one of the chain that has come to an entry where no word waits is loose
pub held_loose : (n : Net) (p o x : ℕ) → IsHeld n p o x → is_locked (n.entry x p) ≡ false
    → n.loose ≡ [] → ⊥
held_loose n p o x held unlocked none =
    unlocked_loose n held.at held.letter x p (chained_at n p o held.chained) held.here
    (chained_asks n p o held.chained).1.1 (come_arrived held.at held.come) unlocked none

module _ (c : Config) {alone : ℕ → ℕ → Type 0} (m m' : ℕ → Hints) (n n' : Net)
    (on : IsOnward c alone n n') (order : IsOrderly c n) (order' : IsOrderly c n')
    (due : ℕ → ℕ → ℕ) (p o : ℕ)
    (late_on : (y : ℕ) → IsLate c.nodes m n p o y → IsLate c.nodes m' n' p o y)
    (chain_on : (a : Place) (l : Letter) → IsChained n p o a l
    → IsChainedOn n' p o a l ⊎ IsLate c.nodes m' n' p o l.dest) where
  late_at : (y z : ℕ) → y ≡ z → IsLate c.nodes m' n' p o y → IsLate c.nodes m' n' p o z
  late_at y z same h = subst (IsLate c.nodes m' n' p o) same h

  -- one of the chain that has come is there still, or its node is late
  held_on : (x : ℕ) → IsHeld n p o x → IsHeld n' p o x ⊎ IsLate c.nodes m' n' p o x
  held_on x held = elim (chain_on held.at held.letter held.chained) [
    | inl k ↦ inl (record {
      at = k.at;
      letter = k.letter;
      chained = k.chained;
      come = come_later held.at k.at held.come k.later;
      here = k.dest ∙ held.here;
    })
    | inr is ↦ inr (late_at held.letter.dest x held.here is)
  ]

  -- where the page was awaited, and one of the chain has come
  module _ (x w : ℕ) (held : IsHeld n' p o x) (le : 2 ≤ w) where
    still_gets : (k : IsComing n' p x) → IsSoon due k.at → (z : Entry) → n'.entry x p ≡ z
        → IsKeptUp c.nodes m' n' due p o x w
    still_gets k soon (entry.Idle s) is = serves s is held
    still_gets k soon (entry.AwaitWrite s) is = gets s is held k soon le
    still_gets k soon (entry.AwaitAcks s) is = collects 2 s is held (λ target call missed. tt) le
    still_gets k soon (entry.AwaitRead s) is =
        absurd (subst (λ v. AwaitsPage v k.letter.message.call) is
        (subst (λ v. AwaitsPage (n'.entry v p) k.letter.message.call) (sym fit.1 ∙ k.dest) fit.2))
      where
        fit : IsExpectedAs c n' k.letter (content.WriteRep p k.bits k.bytes)
        fit = fits_as c n' order' k.at k.letter (content.WriteRep p k.bits k.bytes) k.there k.brings

    now_owns : is_owner (n'.entry x p) ≡ true → (z : Entry) → n'.entry x p ≡ z
        → IsKeptUp c.nodes m' n' due p o x w
    now_owns own (entry.Idle s) is = serves s is held
    now_owns own (entry.AwaitAcks s) is = collects 2 s is held (λ target call missed. tt) le
    now_owns own (entry.AwaitRead s) is =
        absurd (both_ways (is_owner (n'.entry x p)) (ap is_owner is) own)
    now_owns own (entry.AwaitWrite s) is =
        absurd (both_ways (is_owner (n'.entry x p)) (ap is_owner is) own)

  -- where acknowledgements were collected
  module _ (e x w : ℕ) (held : IsHeld n' p o x) (le : e ≤ w) (own : is_owner (n.entry x p) ≡ true)
      (shut : is_locked (n.entry x p) ≡ true) (recalled : AreRecalled n due p 0 e x) where
    recalled_on : AreRecalled n' due p 0 e x
    recalled_on target call missed = elim (on.collects x p target call own missed) [
      | inl was ↦
          recall_on c n n' on order due p 0 e x target call own was missed
          (recalled target call was)
      | inr none ↦ absurd (both_ways (is_locked (n.entry x p)) none.1 shut)
    ]

    owns_on : is_owner (n'.entry x p) ≡ true
    owns_on = elim (on.owners x p own) [
      | inl owns ↦ owns
      | inr given ↦ absurd (both_ways (is_locked (n.entry x p)) given.idle shut)
    ]

    still_collects : (z : Entry) → n'.entry x p ≡ z → IsKeptUp c.nodes m' n' due p o x w
    still_collects (entry.Idle s) is = serves s is held
    still_collects (entry.AwaitAcks s) is = collects e s is held recalled_on le
    still_collects (entry.AwaitRead s) is =
        absurd (both_ways (is_owner (n'.entry x p)) (ap is_owner is) owns_on)
    still_collects (entry.AwaitWrite s) is =
        absurd (both_ways (is_owner (n'.entry x p)) (ap is_owner is) owns_on)

  -- where one of the chain is loose, and no word waits
  still_serves : (x w : ℕ) → IsHeld n p o x → is_locked (n.entry x p) ≡ false → IsHeld n' p o x
      → (z : Entry) → n'.entry x p ≡ z → IsKeptUp c.nodes m' n' due p o x w
  still_serves x w was unlocked held (entry.Idle s) is = serves s is held
  still_serves x w was unlocked held (entry.AwaitRead s) is =
      absurd (held_loose n p o x was unlocked (on.begins x p unlocked (ap is_locked is)))
  still_serves x w was unlocked held (entry.AwaitWrite s) is =
      absurd (held_loose n p o x was unlocked (on.begins x p unlocked (ap is_locked is)))
  still_serves x w was unlocked held (entry.AwaitAcks s) is =
      absurd (held_loose n p o x was unlocked (on.begins x p unlocked (ap is_locked is)))

  pub kept_up_on : (x w : ℕ) → IsKeptUp c.nodes m n due p o x w → IsKeptUp c.nodes m' n' due p o x w
  kept_up_on x w (late is) = late (late_on x is)
  kept_up_on x w (free le) = free le
  kept_up_on x w (nears a l chained to soon le) = elim (chain_on a l chained) [
    | inl k ↦ nears k.at k.letter k.chained (k.dest ∙ to) (soon_on due a k.at soon k.later) le
    | inr is ↦ late (late_at l.dest x to is)
  ]
  kept_up_on x w (gets s is held k soon le) = elim (held_on x held) [
    | inr now ↦ late now
    | inl still ↦ elim (coming_on c n n' on order due p 0 x k) [
      | inl g ↦ still_gets x w still le g.0 (soon_on due k.at g.0.at soon g.1) (n'.entry x p) refl
      | inr own ↦ now_owns x w still le own (n'.entry x p) refl
    ]
  ]
  kept_up_on x w (collects e s is held recalled le) = elim (held_on x held) [
    | inr now ↦ late now
    | inl still ↦
        still_collects e x w still le (ap is_owner is) (ap is_locked is) recalled (n'.entry x p)
        refl
  ]
  kept_up_on x w (serves s is held) = elim (held_on x held) [
    | inr now ↦ late now
    | inl still ↦ still_serves x w held (ap is_locked is) still (n'.entry x p) refl
  ]
