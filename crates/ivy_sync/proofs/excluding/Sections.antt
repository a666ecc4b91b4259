-- What is guarded by a lock is done in one whole section after another.
use Rattle.std.proofs.Common.{◌≡◌, ℕ, ◌<◌, inl, inr, Bool, false, IsTrue, if◌then◌else◌, List}
use Rattle.std.proofs.Common.{[], ◌∷◌, ◌++◌, refl, sym, ap, subst, ◌∙◌}
use Rattle.std.proofs.lemmas.Bool.{both_ways, cases_Bool}
use Rattle.ivy_model.specs.declared.config.Config.{Config}
use Rattle.ivy_model.specs.declared.call.Call.{Call}
use Rattle.ivy_model.specs.declared.call.Record.{Record}
use Rattle.ivy_model.specs.stated.Memory.{Memory}
use Rattle.ivy_calls.specs.declared.answer.Answer.{Answer}
use Rattle.ivy_calls.specs.Answers.{answer, answers_of}
use Rattle.ivy_sync.specs.HeapWords.{word, IsHeapWord, is_write_in, LeadsThrough}
use Rattle.ivy_sync.specs.excluding.Locks.{held_after, holds, KeepsLock}
use Rattle.ivy_sync.specs.excluding.Sections.{KeepsGuard, onto_first, sections, SectionsAreSerial}
use Rattle.ivy_sync.specs.excluding.Serial.{Rule, state, GuardsInside, stays}
use Rattle.ivy_sync.proofs.answers.Cuts.{nodes_there}
use Rattle.ivy_sync.proofs.excluding.Locks.{held_once, held_quiet, one_holder}
use Rattle.ivy_sync.proofs.excluding.Serial.{IsAlone, serial}

-- a node knows whether it holds the lock
abbrev by_lock : ℕ → Rule Bool
by_lock a = record { first = false; after = held_after a; inside = λ held. held }

holds_is : (a : ℕ) (held : Bool) (rs : List Answer) → holds a held rs ≡ state (by_lock a) held rs
holds_is a held [] = refl
holds_is a held (r ∷ rs) = holds_is a (held_after a held r) rs

guards_are : (a : ℕ) (guarded : Call → Bool) (held : Bool) (rs : List Answer)
    → KeepsGuard a guarded held rs → GuardsInside (by_lock a) guarded held rs
guards_are a guarded held [] k = tt
guards_are a guarded held (r ∷ rs) k = (k.0, guards_are a guarded (held_after a held r) rs k.1)

sections_are : (a : ℕ) (guarded : Call → Bool) (held : Bool) (rs : List Answer)
    → stays (by_lock a) guarded held rs ≡ sections a guarded held rs
sections_are a guarded held [] = refl
sections_are a guarded held (r ∷ rs) =
    ap
    (λ (ss : List (List Answer)). if held then (if held_after a held r then (if guarded r.call then
    onto_first r ss else ss) else [] ∷ ss) else ss)
    (sections_are a guarded (held_after a held r) rs)

module _ (c : Config) (old new : Memory) (order : List Record) (a : ℕ) (guarded : Call → Bool)
    (run : LeadsThrough c old order new) (at : IsHeapWord c a) (zero : word c old a ≡ 0)
    (apart : (call : Call) → IsTrue (is_write_in a call) → guarded call ≡ false)
    (rules : (i : ℕ) → i < c.nodes → KeepsLock a false (answers_of i order)) where
  alone : (xs ys : List Record) → order ≡ xs ++ ys → IsAlone (by_lock a) xs
  alone xs ys e i j p q =
      let w = held_once c old new xs ys a (subst (λ rs. LeadsThrough c old rs new) e run) at zero
      (λ n l. subst (λ rs. KeepsLock a false (answers_of n rs)) e (rules n l)) in
      one_holder c a w.0 xs w.3 i j (holds_is a false (answers_of i xs) ∙ p)
      (holds_is a false (answers_of j xs) ∙ q)

  -- who leaves the lock makes no guarded call by that
  leaves : (held : Bool) (r : Answer) → IsTrue held → held_after a held r ≡ false
      → guarded r.call ≡ false
  leaves held r inside out =
      elim (cases_Bool (is_write_in a r.call)) [
        | inl is ↦ apart r.call is
        | inr not ↦ absurd (both_ways held (sym (held_quiet a held r not) ∙ out) inside)
      ]

pub sections-are_serial : SectionsAreSerial
sections-are_serial c old new order a guarded run at zero apart rules guards =
    let w =
    serial (by_lock a) guarded c.nodes order (record {
      out = refl;
      there = nodes_there c old new order run.led;
      alone = alone c old new order a guarded run at zero apart rules;
      guards = λ i l. guards_are a guarded false (answers_of i order) (guards i l);
      leaves = λ xs r rs e l.
          leaves c old new order a guarded run at zero apart rules
          (state (by_lock a) false (answers_of r.node xs)) (answer r);
    }) in (
      w.0,
      record {
        whole = w.1.whole;
        each = λ i. w.1.each i ∙ sections_are a guarded false (answers_of i order);
      },
    )
