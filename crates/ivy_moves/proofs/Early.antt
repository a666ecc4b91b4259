-- What came too early by more events.
use Rattle.std.proofs.Common.{◌≡◌, ◌⊎◌, ℕ, zero, suc, ◌<◌, List, [], ◌∷◌, ◌++◌, length, get_or, Contains, inl, inr, arith, sym, ap, subst, ◌∙◌, append-nil, append_assoc}
use Rattle.ivy_model.specs.declared.Config.{Config}
use Rattle.ivy_moves.specs.stated.Cores.{Core}
use Rattle.ivy_moves.specs.Marks.{Mark, Turn, Delivery, Pulse}
use Rattle.ivy_link.specs.declared.Verdict.{Verdict}
use Rattle.ivy_link.specs.declared.Verdict.TheVariants as verdict
use Rattle.ivy_moves.specs.stated.Nodes.{Node, Effect, verdict_of}
use Rattle.ivy_moves.specs.Early.{early_as, node_after, after_mark, early_by, early_in}
use Rattle.ivy_moves.specs.Parts.{Happens, AllHappen, AllCanBeMade}

module _ {C : Type 0} (rules : Core C) (c : Config) where
  pub mark-after : (n : Node C) (m : Mark) (e : Effect C) → Happens rules c n m e
      → after_mark rules c n m ≡ e.after
  mark-after n Turn e h = ap (node_after rules c n) h.1
  mark-after n (Delivery bytes) e h = ap (node_after rules c n) h.1
  mark-after n (Pulse to) e h = ap (λ (x : Effect C). x.after) (sym h.0)

  pub early-append : (n : Node C) (ms more : List Mark) (e : Effect C) → AllHappen rules c n ms e
      → early_in rules c n (ms ++ more) ≡ early_in rules c n ms ++ early_in rules c e.after more
  early-append n [] more e h = ap (λ (x : Effect C). early_in rules c x.after more) (sym h)
  early-append n (m ∷ ms) more e h =
      let after : after_mark rules c n m ≡ h.0.after = mark-after n m h.0 h.1 in
      ap (λ k. early_by rules c n m ++ early_in rules c k (ms ++ more)) after
      ∙ ap (λ l. early_by rules c n m ++ l) (early-append h.0.after ms more h.2.0 h.2.1)
      ∙ ap (λ (x : Effect C). early_by rules c n m
      ++ (early_in rules c h.0.after ms ++ early_in rules c x.after more)) (sym h.2.2)
      ∙ sym (append_assoc (early_by rules c n m) (early_in rules c h.0.after ms)
      (early_in rules c e.after more))
      ∙ ap (λ k. (early_by rules c n m ++ early_in rules c k ms) ++ early_in rules c e.after more)
      (sym after)

  pub early-one : (n : Node C) (ms : List Mark) (m : Mark) (e : Effect C) → AllHappen rules c n ms e
      → early_in rules c n (ms ++ m ∷ []) ≡ early_in rules c n ms ++ early_by rules c e.after m
  early-one n ms m e h =
      early-append n ms (m ∷ []) e h
      ∙ ap (λ l. early_in rules c n ms ++ l) (append-nil (early_by rules c e.after m))

-- a string that came too early was delivered
contains-rest : (x b : List ℕ) (xs : List (List ℕ)) (i : ℕ) → i < length (x ∷ xs)
    → get_or (x ∷ xs) i b ≡ b → (x ≡ b) ⊎ Contains xs b
contains-rest x b xs zero lt is = inl is
contains-rest x b xs (suc i) lt is = inr (i, omega (arith, lt), is)

early-as-can : (strings rest : List (List ℕ)) (v : Verdict) (bytes b : List ℕ)
    → Contains strings bytes → (Contains rest b → Contains strings b)
    → Contains (early_as v bytes ++ rest) b → Contains strings b
early-as-can strings rest verdict.NotMine bytes b there more in-all = more in-all
early-as-can strings rest verdict.Next bytes b there more in-all = more in-all
early-as-can strings rest verdict.Repeat bytes b there more in-all = more in-all
early-as-can strings rest verdict.Ahead bytes b there more in-all =
    elim (contains-rest bytes b rest in-all.0 in-all.1 in-all.2) [
      | inl same ↦ subst (Contains strings) same there
      | inr later ↦ more later
    ]

module _ {C : Type 0} (rules : Core C) (c : Config) (strings : List (List ℕ)) (nodes j : ℕ) where
  pub early-can : (n : Node C) (ms : List Mark) (b : List ℕ) → AllCanBeMade strings nodes j ms
      → Contains (early_in rules c n ms) b → Contains strings b
  early-can n [] b can there = absurd (let lt = there.1 in omega (arith, lt))
  early-can n (Turn ∷ ms) b can there = early-can (after_mark rules c n Turn) ms b can.1 there
  early-can n (Delivery bytes ∷ ms) b can there =
      early-as-can strings (early_in rules c (after_mark rules c n (Delivery bytes)) ms)
      (verdict_of c n bytes) bytes b can.0
      (early-can (after_mark rules c n (Delivery bytes)) ms b can.1) there
  early-can n (Pulse to ∷ ms) b can there =
      early-can (after_mark rules c n (Pulse to)) ms b can.1 there
