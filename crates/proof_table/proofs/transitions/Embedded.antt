-- Managers of one kind within those of another: a step that managers of the wide kind follow is one
-- that those of the narrow kind follow, and so what each step keeps for the narrow kind, it keeps
-- for the wide one.
use Rattle.std.proofs.Common.{◌≡◌, ◌<◌, ℕ, Bool, true, false, List, ap, ◌∙◌, if◌then◌else◌, ◌==◌}
use Rattle.ivy_model.specs.declared.Config.{Config}
use Rattle.ivy_pagetable.specs.stated.Manager.{Ops}
use Rattle.proof_table.specs.stated.Letters.{Net}
use Rattle.proof_table.specs.transitions.TableSteps.{Notice, Silent, Asked, Forwarded, Given, Replied, Invalidated, Claim, IsNamedBy, IsPreservedBy, noticed, with_manager}

-- the calls of a manager of the large kind, where it is one of the small kind
pub record Embeds {S T : Type 0} (small : Ops S) (large : Ops T) (embed : S → T) : Type 0 where
  pub next_hop : (s : S) (p : ℕ) → large.next_hop (embed s) p ≡ small.next_hop s p
  pub on_forward : (s : S) (p : ℕ) (write : Bool) (origin : ℕ)
      → large.on_forward (embed s) p write origin ≡ embed (small.on_forward s p write origin)
  pub on_given : (s : S) (p to : ℕ) → large.on_given (embed s) p to ≡ embed (small.on_given s p to)
  pub on_replied : (s : S) (p : ℕ) (write : Bool) (from : ℕ)
      → large.on_replied (embed s) p write from ≡ embed (small.on_replied s p write from)
  pub on_invalidated : (s : S) (p by : ℕ)
      → large.on_invalidated (embed s) p by ≡ embed (small.on_invalidated s p by)

-- each node's manager is of the small kind
abbrev pub AreWithin : {S T : Type 0} → (S → T) → Config → (ℕ → S) → (ℕ → T) → Type 0
AreWithin embed c s m = (i : ℕ) → i < c.nodes → m i ≡ embed (s i)

if_within : {S T : Type 0} (embed : S → T) (b : Bool) (x y : S) (v w : T) → v ≡ embed x
    → w ≡ embed y
    → (if b then v else w) ≡ embed (if b then x else y)
if_within embed true x y v w first second = first
if_within embed false x y v w first second = second

module _ {S T : Type 0} {small : Ops S} {large : Ops T} (embed : S → T)
    (e : Embeds small large embed)
    (c : Config) (s : ℕ → S) (m : ℕ → T) (within : AreWithin embed c s m) where
  -- one of them is told something
  told_within : (x : ℕ) → x < c.nodes → (ask : T → T) (answer : S → S)
      → ((v : S) → ask (embed v) ≡ embed (answer v))
      → AreWithin embed c (with_manager s x (answer (s x))) (with_manager m x (ask (m x)))
  told_within x here ask answer same i below =
      if_within embed (i == x) (answer (s x)) (s i) (ask (m x)) (m i)
      (ap ask (within x here) ∙ same (s x)) (within i below)

  -- they have the same notice
  same_hop : (x p hop : ℕ) → x < c.nodes → hop ≡ large.next_hop (m x) p
      → hop ≡ small.next_hop (s x) p
  same_hop x p hop here is = is ∙ ap (λ v. large.next_hop v p) (within x here) ∙ e.next_hop (s x) p

  of_within : (notice : Notice) → IsNamedBy large c m notice → IsNamedBy small c s notice
  of_within Silent of = of
  of_within (Asked x p hop) of = (of.0, same_hop x p hop of.0 of.1)
  of_within (Forwarded x p write origin hop) of = (of.0, same_hop x p hop of.0 of.1)
  of_within (Given x p to) of = of
  of_within (Replied x p write from) of = of
  of_within (Invalidated x p by) of = of

  noticed_within : (notice : Notice) → IsNamedBy large c m notice
      → AreWithin embed c (noticed small s notice) (noticed large m notice)
  noticed_within Silent of = within
  noticed_within (Asked x p hop) of = within
  noticed_within (Forwarded x p write origin hop) of =
      told_within x of.0 (λ v. large.on_forward v p write origin)
      (λ v. small.on_forward v p write origin) (λ v. e.on_forward v p write origin)
  noticed_within (Given x p to) of =
      told_within x of (λ v. large.on_given v p to) (λ v. small.on_given v p to)
      (λ v. e.on_given v p to)
  noticed_within (Replied x p write from) of =
      told_within x of (λ v. large.on_replied v p write from)
      (λ v. small.on_replied v p write from) (λ v. e.on_replied v p write from)
  noticed_within (Invalidated x p by) of =
      told_within x of (λ v. large.on_invalidated v p by) (λ v. small.on_invalidated v p by)
      (λ v. e.on_invalidated v p by)

-- Q says of managers of the large kind that they are of the small kind, and P holds of these
pub embedded-kept : {S T : Type 0} {sends : Bool} {small : Ops S} {large : Ops T} (embed : S → T)
    → Embeds small large embed
    → (c : Config) (P : Claim S) (Q : Claim T)
    → ((m : ℕ → T) (n : Net) (f : ℕ → List ℕ) → Q m n f
    → (s : ℕ → S) × AreWithin embed c s m × P s n f)
    → ((s : ℕ → S) (m : ℕ → T) (n : Net) (f : ℕ → List ℕ) → AreWithin embed c s m → P s n f
    → Q m n f)
    → IsPreservedBy sends small c P → IsPreservedBy sends large c Q
embedded-kept {small = small} {large = large} embed e c P Q says said kept = record {
  by = λ {m} {n} {f} {notice} {n'} {f'} row of q. (
      let w = says m n f q in
      said (noticed small w.0 notice) (noticed large m notice) n' f'
      (noticed_within embed e c w.0 m w.1 notice of)
      (kept.by row (of_within embed e c w.0 m w.1 notice of) w.2)
      );
}
