-- Orders that are cut where a node's part is.
use Rattle.std.proofs.Common.{◌≡◌, ℕ, ◌<◌, ◌⊎◌, inl, inr, Bool, true, false, cond, List, [], ◌∷◌}
use Rattle.std.proofs.Common.{◌++◌, refl, sym, ap, ap₂, subst, ◌∙◌, if◌then◌else◌, true≢false}
use Rattle.std.specs.Prelude.{◌==◌}
use Rattle.std.specs.List.{AllByRecursion as Each}
use Rattle.std.proofs.lemmas.Bool.{both_ways, cases_eq, eq-eqb, eqb-true}
use Rattle.ivy_model.specs.declared.config.Config.{Config}
use Rattle.ivy_model.specs.declared.call.Record.{Record}
use Rattle.ivy_model.specs.stated.Explains.{part}
use Rattle.ivy_model.specs.stated.Memory.{Memory}
use Rattle.ivy_model.specs.stated.Legal.{ServesAll}
use Rattle.ivy_calls.specs.declared.answer.Answer.{Answer}
use Rattle.ivy_calls.specs.Answers.{by, answer, answers, answers_of}
use Rattle.ivy_sync.proofs.answers.Lists.{none_at_end}

-- the order is cut at the record where the node's part is
pub record IsPartCut (i : ℕ) (order : List Record) (xs : List Answer) (r : Answer)
    (ys : List Answer) : Type 0 where
  pub front : List Record
  pub back : List Record
  pub whole : order ≡ front ++ by i r ∷ back
  pub fronts : answers_of i front ≡ xs
  pub backs : answers_of i back ≡ ys

-- one record more before a cut, given how the rest is cut
module _ (i : ℕ) (q : Record) (qs : List Record) (r : Answer) (ys : List Answer)
    (next : (zs : List Answer) → answers_of i qs ≡ zs ++ r ∷ ys → IsPartCut i qs zs r ys) where
  cut_later : (b : Bool) → (q.node == i) ≡ b → (zs : List Answer) → answers_of i qs ≡ zs ++ r ∷ ys
      → IsPartCut i (q ∷ qs) (cond b (answer q ∷ zs) zs) r ys
  cut_later b is zs at =
      let w = next zs at in
      record {
        front = q ∷ w.front;
        back = w.back;
        whole = ap (λ l. q ∷ l) w.whole;
        fronts = in_front b is w.front zs w.fronts;
        backs = w.backs;
      }
    where
      in_front : (b : Bool) → (q.node == i) ≡ b → (rs : List Record) (zs : List Answer)
          → answers_of i rs ≡ zs
          → answers_of i (q ∷ rs) ≡ cond b (answer q ∷ zs) zs
      in_front true is rs zs e =
          ap (λ t. answers (cond t (q ∷ part i rs) (part i rs))) is ∙ ap (λ l. answer q ∷ l) e
      in_front false is rs zs e =
          ap (λ t. answers (cond t (q ∷ part i rs) (part i rs))) is ∙ e

  cut_here : (b : Bool) → (q.node == i) ≡ b → (zs : List Answer)
      → answers (cond b (q ∷ part i qs) (part i qs)) ≡ zs ++ r ∷ ys → IsPartCut i (q ∷ qs) zs r ys
  cut_here true is [] at =
      let same : answer q ≡ r = cc at in
      record {
        front = [];
        back = qs;
        whole = ap₂ (λ (n : ℕ) (a : Answer). by n a ∷ qs) (eqb-true q.node i is) same;
        fronts = refl;
        backs = (cc at);
      }
  cut_here true is (z ∷ zs) at =
      let same : answer q ≡ z = cc at in
      let tail : answers_of i qs ≡ zs ++ r ∷ ys = cc at in
      subst (λ x. IsPartCut i (q ∷ qs) (x ∷ zs) r ys) same (cut_later true is zs tail)
  cut_here false is zs at = cut_later false is zs at

pub part_cut : (i : ℕ) (order : List Record) (xs : List Answer) (r : Answer) (ys : List Answer)
    → answers_of i order ≡ xs ++ r ∷ ys → IsPartCut i order xs r ys
part_cut i [] xs r ys e = absurd (none_at_end xs ys r (sym e))
part_cut i (q ∷ qs) xs r ys e =
    cut_here i q qs r ys (λ zs at. part_cut i qs zs r ys at) (q.node == i) refl xs e

-- the memory leads to the cut, and on from there
pub leads_cut : (c : Config) (old new : Memory) (xs ys : List Record)
    → ServesAll c old (xs ++ ys) new
    → (mid : Memory) × ServesAll c old xs mid × ServesAll c mid ys new
leads_cut c old new [] ys led = (old, refl, led)
leads_cut c old new (x ∷ xs) ys led =
    let w = leads_cut c led.0 new xs ys led.2 in (w.0, (led.0, led.1, w.1), w.2)

-- each record is of a node that is there
pub nodes_there : (c : Config) (old new : Memory) (rs : List Record) → ServesAll c old rs new
    → Each (λ (r : Record). r.node < c.nodes) rs
nodes_there c old new [] led = tt
nodes_there c old new (r ∷ rs) led = (led.1.node, nodes_there c led.0 new rs led.2)

-- what holds of each node's answers holds of all
head_of : (P : Answer → Type 0) (r : Record) (rs : List Record) (b : Bool) → b ≡ true
    → Each P (answers (if b then r ∷ rs else rs)) → P (answer r)
head_of P r rs true is h = h.0
head_of P r rs false is h = absurd (true≢false (sym is))

rest_of : (P : Answer → Type 0) (r : Record) (rs : List Record) (b : Bool)
    → Each P (answers (if b then r ∷ rs else rs)) → Each P (answers rs)
rest_of P r rs true h = h.1
rest_of P r rs false h = h

pub all_parts : (P : Answer → Type 0) (n : ℕ) (rs : List Record)
    → Each (λ (r : Record). r.node < n) rs → ((i : ℕ) → i < n → Each P (answers_of i rs))
    → Each P (answers rs)
all_parts P n [] there h = tt
all_parts P n (r ∷ rs) there h = (
  head_of P r (part r.node rs) (r.node == r.node) (eq-eqb r.node r.node refl) (h r.node there.0),
  all_parts P n rs there.1 (λ i l. rest_of P r (part i rs) (r.node == i) (h i l)),
)

-- and of the node's answers what holds of all
keep_all : (P : Answer → Type 0) (r : Record) (rs : List Record) (b : Bool) → P (answer r)
    → Each P (answers rs) → Each P (answers (if b then r ∷ rs else rs))
keep_all P r rs true p h = (p, h)
keep_all P r rs false p h = h

pub part_all : (P : Answer → Type 0) (i : ℕ) (rs : List Record) → Each P (answers rs)
    → Each P (answers_of i rs)
part_all P i [] h = tt
part_all P i (r ∷ rs) h = keep_all P r (part i rs) (r.node == i) h.0 (part_all P i rs h.1)

-- a record is node i's, or its answer is such a one
abbrev pub OwnOr : ℕ → (Answer → Type 0) → Record → Type 0
OwnOr i P r = (r.node ≡ i) ⊎ P (answer r)

-- so it is of all records where the answers of all other nodes are such
own_head : (P : Answer → Type 0) (i : ℕ) (r : Record) (rs : List Record) (n : ℕ) → r.node < n
    → ((j : ℕ) → j < n → (j ≡ i → ⊥) → Each P (answers_of j (r ∷ rs))) → OwnOr i P r
own_head P i r rs n there h =
    elim (cases_eq r.node i) [
      | inl same ↦ inl same
      | inr ne ↦
          inr (head_of P r (part r.node rs) (r.node == r.node) (eq-eqb r.node r.node refl)
          (h r.node there ne))
    ]

pub own_or : (P : Answer → Type 0) (i n : ℕ) (rs : List Record)
    → Each (λ (r : Record). r.node < n) rs
    → ((j : ℕ) → j < n → (j ≡ i → ⊥) → Each P (answers_of j rs)) → Each (OwnOr i P) rs
own_or P i n [] there h = tt
own_or P i n (r ∷ rs) there h = (
  own_head P i r rs n there.0 h,
  own_or P i n rs there.1 (λ j l ne. rest_of P r (part j rs) (r.node == j) (h j l ne)),
)

all_one : (P : Answer → Type 0) (i : ℕ) (r : Record) (rs : List Record) (b : Bool)
    → (r.node == i) ≡ b → OwnOr i P r → Each P (answers (if b then r ∷ part i rs else part i rs))
    → P (answer r) × Each P (answers_of i rs)
all_one P i r rs true is h own = own
all_one P i r rs false is (inl e) own =
    absurd (both_ways (r.node == i) is (eq-eqb r.node i e))
all_one P i r rs false is (inr p) own = (p, own)

-- what holds of all but node i's answers, and of those
pub all_from : (P : Answer → Type 0) (i : ℕ) (rs : List Record) → Each (OwnOr i P) rs
    → Each P (answers_of i rs) → Each P (answers rs)
all_from P i [] h own = tt
all_from P i (r ∷ rs) h own =
    let w = all_one P i r rs (r.node == i) refl h.0 own in (w.0, all_from P i rs h.1 w.1)
