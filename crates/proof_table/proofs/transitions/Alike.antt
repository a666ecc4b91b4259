-- Managers and nets that agree in each of their parts: what is said of the ones is said of the
-- others.
use Rattle.std.proofs.Common.{◌≡◌, ℕ, List, sym, subst}
use Rattle.proof_table.specs.stated.Letters.{Net}
use Rattle.proof_table.specs.transitions.TableSteps.{Claim}

pub record AreAlike {S : Type 0} (m m' : ℕ → S) (n n' : Net) : Type 0 where
  pub managers : (i : ℕ) → m' i ≡ m i
  pub entries : (i p : ℕ) → n'.entry i p ≡ n.entry i p
  pub pages : (i p : ℕ) → n'.page i p ≡ n.page i p
  pub breaches : (i : ℕ) → n'.breaches i ≡ n.breaches i
  pub posted : (i j : ℕ) → n'.posted i j ≡ n.posted i j
  pub delivered : (i j : ℕ) → n'.delivered i j ≡ n.delivered i j
  pub loose : n'.loose ≡ n.loose

module _ {S : Type 0} (m m' : ℕ → S) (n n' : Net) (same : AreAlike m m' n n') where
  same_managers : m' ≡ m
  same_managers = λ k i. same.managers i k

  same_net : n' ≡ n
  same_net = λ k. record {
    entry = λ i p. same.entries i p k;
    page = λ i p. same.pages i p k;
    breaches = λ i. same.breaches i k;
    posted = λ i j. same.posted i j k;
    delivered = λ i j. same.delivered i j k;
    loose = same.loose k;
  }

  pub alike_holds : (P : Claim S) (f : ℕ → List ℕ) → P m n f → P m' n' f
  alike_holds P f h =
      subst (λ v. P v n' f) (sym same_managers) (subst (λ v. P m v f) (sym same_net) h)
