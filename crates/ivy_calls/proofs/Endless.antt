-- A call to which a flat memory has no answer is an await of more than the count.
use Rattle.std.proofs.Common.{◌≡◌, ℕ, zero, suc, ◌+◌, ◌-◌, ◌^◌, ◌<◌, ◌≤◌, inl, inr, Bool, true, false, refl, arith}
use Rattle.std.specs.FinMap as map
use Rattle.std.specs.Prelude.{◌==◌, MatchBool, MatchOption, None, Option, Some, slice_get, slice_set}
use Rattle.std.proofs.lemmas.Bool.{cases_lt}
use Rattle.ivy_model.specs.declared.config.Config.{Config}
use Rattle.ivy_model.specs.declared.call.CallKind.{CallKind}
use Rattle.ivy_model.specs.declared.call.CallKind.TheVariants.{Word, Count, Advance, Await, Alloc, Free}
use Rattle.ivy_model.specs.declared.call.Reply.{Reply}
use Rattle.ivy_model.specs.declared.call.Reply.TheVariants.{Done, Refused, Value}
use Rattle.ivy_model.specs.declared.fault.Fault.TheVariants.{NoSuchCount, CountFull, ZeroSize, NoRoom, NotABlock}
use Rattle.ivy_model.specs.stated.Accesses.{access_reply, next_number}
use Rattle.ivy_model.specs.stated.Memory.{Memory}
use Rattle.ivy_model.specs.stated.Numbers.{fault_number}
use Rattle.ivy_model.specs.stated.Serves.{Accesses, Advances, Allocates, IsLeast, IsRoom, Refuses, ServesKind}
use Rattle.ivy_model.specs.stated.Serves.{access_refusal, number_in_word, rounded, with_written}
use Rattle.ivy_calls.specs.Alone.{IsEndless}

-- where P holds of no least number, it holds of none
none_below : (P : ℕ → Type 0) → ((n : ℕ) → IsLeast P n → ⊥) → (bound n : ℕ) → n < bound → P n → ⊥
none_below P unfound zero n less p = absurd (omega (arith, less))
none_below P unfound (suc bound) n less p =
    unfound n (record {
      holds = p;
      least = λ m q.
          elim (cases_lt m n) [
            | inl under ↦ absurd (none_below P unfound bound m (omega (arith, under, less)) q)
            | inr above ↦ above
          ];
    })

-- where the first case has an answer, it is the second one that has none
second : {A G : Type 0} (found : Option A) (First : Reply → Memory → Type 0)
    (Second : A → Reply → Memory → Type 0)
    → ((reply : Reply) (new : Memory) → MatchOption found (First reply new) (λ x. Second x reply new) → ⊥)
    → (reply : Reply) (new : Memory) → First reply new
    → ((x : A) → found ≡ Some x → ((reply : Reply) (new : Memory) → Second x reply new → ⊥) → G) → G
second None First Second none reply new answered go_on = absurd (none reply new answered)
second (Some x) First Second none reply new answered go_on = go_on x refl none

other : {G : Type 0} (holds : Bool) (First Second : Reply → Memory → Type 0)
    → ((reply : Reply) (new : Memory) → MatchBool holds (First reply new) (Second reply new) → ⊥)
    → (reply : Reply) (new : Memory) → First reply new
    → (((reply : Reply) (new : Memory) → Second reply new → ⊥) → G) → G
other true First Second none reply new answered go_on = absurd (none reply new answered)
other false First Second none reply new answered go_on = go_on none

module _ (c : Config) (old : Memory) where
  alloc_answered : (size : ℕ) → ((reply : Reply) (new : Memory) → Allocates c old size reply new → ⊥) → ⊥
  alloc_answered size none =
      let no_least : (addr : ℕ) → IsLeast (IsRoom c old.blocks size) addr → ⊥ =
      λ addr least. none (Value addr) (record old { blocks = map.insert old.blocks addr size }) (least, refl) in
      none (Refused (fault_number NoRoom)) old (
        refl,
        λ addr room. none_below (IsRoom c old.blocks size) no_least (addr + 1) addr (omega arith) room,
        refl,
      )

  pub endless : (kind : CallKind)
      → ((reply : Reply) (new : Memory) → ServesKind c old kind reply new → ⊥) → IsEndless old kind
  endless (Word width addr act) none =
      let number : ℕ = number_in_word c old width addr in
      second (access_refusal c width addr) (Accesses c old width addr act) (λ code. Refuses old code) none
      (access_reply act number) (with_written c old width addr (next_number width act number)) (refl, refl)
      (λ code _ refused. absurd (refused (Refused code) old (refl, refl)))
  endless (Count k) none =
      second (slice_get old.counts k) (Refuses old (fault_number NoSuchCount))
      (λ n reply new. (reply ≡ Value n) × (new ≡ old)) none
      (Refused (fault_number NoSuchCount)) old (refl, refl)
      (λ n _ counted. absurd (counted (Value n) old (refl, refl)))
  endless (Advance k) none =
      second (slice_get old.counts k) (Refuses old (fault_number NoSuchCount)) (λ n. Advances old k n) none
      (Refused (fault_number NoSuchCount)) old (refl, refl)
      (λ n _ advanced.
      other (n == 2 ^ 64 - 1) (Refuses old (fault_number CountFull))
      (λ reply new. (reply ≡ Done) × (new ≡ record old { counts = slice_set old.counts k (n + 1) })) advanced
      (Refused (fault_number CountFull)) old (refl, refl)
      (λ raised. absurd (raised Done (record old { counts = slice_set old.counts k (n + 1) }) (refl, refl))))
  endless (Await k least) none =
      second (slice_get old.counts k) (Refuses old (fault_number NoSuchCount))
      (λ n reply new. (least ≤ n) × (reply ≡ Value n) × (new ≡ old)) none
      (Refused (fault_number NoSuchCount)) old (refl, refl)
      (λ n found passed.
      elim (cases_lt n least) [
        | inl less ↦ (n, found, less)
        | inr reached ↦ absurd (passed (Value n) old (reached, refl, refl))
      ])
  endless (Alloc size) none =
      other (size == 0) (Refuses old (fault_number ZeroSize)) (Allocates c old (rounded size)) none
      (Refused (fault_number ZeroSize)) old (refl, refl)
      (alloc_answered (rounded size))
  endless (Free addr) none =
      second (map.get old.blocks addr) (Refuses old (fault_number NotABlock))
      (λ size reply new. (reply ≡ Done) × (new ≡ record old { blocks = map.remove old.blocks addr })) none
      (Refused (fault_number NotABlock)) old (refl, refl)
      (λ size _ freed. absurd (freed Done (record old { blocks = map.remove old.blocks addr }) (refl, refl)))
