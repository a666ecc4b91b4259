-- None of the chain is at a late node: late nodes lead down to one of the chain, or to the node
-- that asks, which is above all of it.
use Rattle.std.proofs.Common.{◌≡◌, ◌<◌, ◌≤◌, ◌+◌, ℕ, false, slice_get, refl, sym, ap, ◌∙◌, subst, arith}
use Rattle.std.proofs.lemmas.Option.{none-some}
use Rattle.ivy_model.specs.declared.Config.{Config}
use Rattle.ivy_pagetable.specs.declared.Entry.TheVariants as entry
use Rattle.ivy_pagetable.specs.stated.Entries.{put_offs}
use Rattle.ivy_pagetable.specs.stated.States.{IdleState, WaitingState}
use Rattle.ivy_dynamic.specs.stated.Dynamic.{Hints, hint_of}
use Rattle.proof_table.specs.stated.Letters.{Letter, Net, Place, Underway, Aside, Loose}
use Rattle.proof_table.specs.stated.Orderly.{IsOrderly}
use Rattle.proof_table.specs.routing.Claiming.{claims}
use Rattle.proof_table.specs.routing.Hinting.{LeadDown}
use Rattle.proof_table.specs.waiting.Readers.{IsBefore}
use Rattle.proof_answers.specs.late.Late.{IsRequest, IsPutOff, Which, Node, Hop, Own, IsChained, next, Leads, begins, idle, sent_on, reads, writes, hop_late, hop_led, own_late, own_after, IsLate, PutOffOrders}
use Rattle.proof_answers.proofs.late.LateSteps.{chained_at, chained_asks}
use Rattle.proof_answers.proofs.steady.Chains.{put_at, one_each, chained_below, above_put, request_down}

before_itself : (a : Place) → IsBefore a a → ⊥
before_itself (Underway i j k) h = (let less = h.2 in omega (arith, less))
before_itself (Aside x p k) h = (let less = h.2 in omega (arith, less))
before_itself (Loose k) h = omega (arith, h)

module _ (c : Config) (m : ℕ → Hints) (n : Net) (order : IsOrderly c n) (orders : PutOffOrders n)
    (p o : ℕ) (height : ℕ → ℕ) (down : LeadDown c m n p height) where
  -- one of the chain is at a lower node than this height
  record IsAbove (level : ℕ) : Type 0 where
    at : Place
    letter : Letter
    chained : IsChained n p o at letter
    lower : height letter.dest < level

  abbrev Above : Which → Type 0
  Above (Node x) = IsAbove (height x)
  Above (Hop x) = (level : ℕ) × IsAbove level × (level ≤ height (hint_of (m x) p) + 1)
  Above (Own x) = IsAbove (height x)

  higher : (level above : ℕ) → level ≤ above → IsAbove level → IsAbove above
  higher level above le h = record {
    at = h.at;
    letter = h.letter;
    chained = h.chained;
    lower = (let low = h.lower in omega (arith, le, low));
  }

  module _ {a : Place} {l : Letter} (chained : IsChained n p o a l) where
    by_hop : (x : ℕ) → x < c.nodes → claims (n.entry x p) ≡ false → Above (Hop x) → Above (Node x)
    by_hop x low plain hop =
        let less = down.hints x low plain in
        let le = hop.2 in
        higher hop.0 (height x) (omega (arith, less, le)) hop.1

    above : {w : Which} → Leads c.nodes m n p o (λ y. y ≡ o) w → Above w
    above (begins x same) = record {
      at = a;
      letter = l;
      chained = chained;
      lower =
          subst (λ v. height l.dest < height v) (sym same)
          (chained_below c n order p o height down.requests chained);
    }
    above (idle x low s is plain hop) = by_hop x low (ap claims is ∙ plain) (above hop)
    above (sent_on x low s is on hop) = by_hop x low (ap claims is) (above hop)
    above (reads x low s is hop own) = above own
    above (writes x low s is own) = above own
    above (hop_late x late) = (height (hint_of (m x) p), above late, omega arith)
    above (hop_led x led) = (
      height (hint_of (m x) p) + 1,
      record {
        at = led.at;
        letter = led.letter;
        chained = led.chained;
        lower = (
            let level : height led.letter.dest ≡ height (hint_of (m x) p) = ap height led.dest in
            omega (arith, level)
            );
      },
      omega arith,
    )
    above (own_late x b k there asks late) =
        higher (height k.dest) (height x)
        (let less = request_down c n order p o height down.requests b k x there asks in
        omega (arith, less)) (above late)
    above (own_after x b k there asks after) = record {
      at = after.at;
      letter = after.letter;
      chained = after.chained;
      lower = (
          let less = request_down c n order p o height down.requests b k x there asks in
          let level : height after.letter.dest ≡ height k.dest = ap height after.dest in
          omega (arith, less, level)
          );
    }

  -- where one of the chain is at a late node, another one is at a lower node, so it is put off
  put_there : {a : Place} {l : Letter} → IsChained n p o a l → IsAbove (height l.dest) → IsPutOff a
  put_there chained h = above_put c n order p o height down.requests chained h.chained h.lower

  unlocked : {a : Place} {l : Letter} (chained : IsChained n p o a l) → IsPutOff a
      → (s : IdleState) → n.entry l.dest p ≡ entry.Idle s → ⊥
  unlocked {a = a} {l = l} chained put s is =
      let h = put_at n a l p (chained_asks n p o chained).0 (chained_at n p o chained)
      (chained_asks n p o chained).1 put in
      none-some h.later (ap (λ v. slice_get (put_offs v) h.number) (sym is) ∙ h.there)

  reading : {a : Place} {l : Letter} (chained : IsChained n p o a l) → IsPutOff a
      → (s : WaitingState) → n.entry l.dest p ≡ entry.AwaitRead s → ⊥
  reading {a = a} {l = l} chained put s is =
      let h = put_at n a l p (chained_asks n p o chained).0 (chained_at n p o chained)
      (chained_asks n p o chained).1 put in
      h.asks (orders l.dest p h.number s h.later is
      (ap (λ v. slice_get (put_offs v) h.number) (sym is) ∙ h.there))

  abbrev None : Which → Type 0
  None (Node x) = (a : Place) (l : Letter) → IsChained n p o a l → l.dest ≡ x → ⊥
  None (Hop x) = Unit {0}
  None (Own x) = (a : Place) (l : Letter) → IsChained n p o a l → l.dest ≡ x → IsPutOff a → ⊥

  none : {w : Which} → Leads c.nodes m n p o (λ y. y ≡ o) w → None w
  none (begins x same) = λ a l chained to. (
      let less = chained_below c n order p o height down.requests chained in
      let level : height l.dest ≡ height o = ap height (to ∙ same) in
      omega (arith, less, level)
      )
  none (idle x low s is plain hop) = λ a l chained to. (
      let h : IsAbove (height x) = above chained (idle x low s is plain hop) in
      unlocked chained (put_there chained (subst (λ v. IsAbove (height v)) (sym to) h)) s
      (ap (λ v. n.entry v p) to ∙ is)
      )
  none (sent_on x low s is on hop) = λ a l chained to. (
      let h : IsAbove (height x) = above chained (sent_on x low s is on hop) in
      reading chained (put_there chained (subst (λ v. IsAbove (height v)) (sym to) h)) s
      (ap (λ v. n.entry v p) to ∙ is)
      )
  none (reads x low s is hop own) = λ a l chained to. (
      let h : IsAbove (height x) = above chained (reads x low s is hop own) in
      reading chained (put_there chained (subst (λ v. IsAbove (height v)) (sym to) h)) s
      (ap (λ v. n.entry v p) to ∙ is)
      )
  none (writes x low s is own) = λ a l chained to. (
      let h : IsAbove (height x) = above chained (writes x low s is own) in
      none own a l chained to (put_there chained (subst (λ v. IsAbove (height v)) (sym to) h))
      )
  none (hop_late x late) = tt
  none (hop_led x led) = tt
  none (own_late x b k there asks late) = λ a l chained to put. (
      none late b k
      (next a b l k chained put there (subst (λ v. IsRequest p v k) (sym to) asks)) refl
      )
  none (own_after x b k there asks after) = λ a l chained to put. (
      before_itself b
      (subst (λ v. IsBefore v b)
      (one_each c n order p o height down.requests after.chained
      (next a b l k chained put there (subst (λ v. IsRequest p v k) (sym to) asks)) after.dest)
      after.before)
      )

  pub none_late : (a : Place) (l : Letter) → IsChained n p o a l
      → IsLate c.nodes m n p o l.dest → ⊥
  none_late a l chained late = none late a l chained refl
