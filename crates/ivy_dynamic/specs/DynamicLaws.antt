-- The laws of a manager, for hints.
use Rattle.std.specs.Prelude.{◌≡◌, ◌≢◌, ◌<◌, ℕ, Bool, true, false, List, [], ◌∷◌, length, if◌then◌else◌, refl}
use Rattle.std.proofs.Common.{ap, sym, subst, ◌∙◌, set, inl, inr, arith, set-set, get_or-set_same, get_or-set_other}
use Rattle.std.proofs.lemmas.List.{set-get_or, length-set, get_or-replicate, length-replicate}
use Rattle.std.proofs.lemmas.Bool.Decides.{eqb_tells}
use Rattle.ivy_model.specs.declared.Config.{Config}
use Rattle.ivy_pagetable.specs.Manager.{Laws, IsNew, KeepsElsewhere, IsRouted, Change, Forward, Given, Replied, Invalidated, all_changed, brought_back}
use Rattle.ivy_dynamic.specs.stated.Dynamic.{Hints, new_hints, steady_hints, hinted, hint_of, dynamic_ops}

-- a change at page p
keeps : (s : Hints) (p o : ℕ) → KeepsElsewhere dynamic_ops s p (hinted s p o)
keeps s p o = record {
  me = refl;
  size = length-set s.hints p o;
  nodes = refl;
  others = λ q n. get_or-set_other s.hints p q o 0 n;
}

keeps_if : (write : Bool) (s : Hints) (p o : ℕ)
    → KeepsElsewhere dynamic_ops s p (if write then hinted s p o else s)
keeps_if true s p o = keeps s p o
keeps_if false s p o = record { me = refl; size = refl; nodes = refl; others = λ q n. refl }

-- the hint then
hint_is : (s : Hints) (p o : ℕ) → p < length s.hints → hint_of (hinted s p o) p ≡ o
hint_is s p o lt = get_or-set_same s.hints p o 0 lt

node : (s : Hints) (p o : ℕ) → p < length s.hints → o < s.nodes → hint_of (hinted s p o) p < s.nodes
node s p o lt below = subst (λ h. h < s.nodes) (sym (hint_is s p o lt)) below

node_if : (write : Bool) (s : Hints) (p o : ℕ) → IsRouted dynamic_ops s p → o < s.nodes
    → hint_of (if write then hinted s p o else s) p < s.nodes
node_if true s p o r below = node s p o r.page below
node_if false s p o r below = r.hop

-- where a copy is ended
keeps_unless : (steady : Bool) (s : Hints) (p o : ℕ)
    → KeepsElsewhere dynamic_ops s p (if steady then s else hinted s p o)
keeps_unless true s p o = keeps_if false s p o
keeps_unless false s p o = keeps s p o

node_unless : (steady : Bool) (s : Hints) (p o : ℕ) → IsRouted dynamic_ops s p → o < s.nodes
    → hint_of (if steady then s else hinted s p o) p < s.nodes
node_unless true s p o r below = r.hop
node_unless false s p o r below = node s p o r.page below

replied_by : (write : Bool) (me from nodes : ℕ) → me < nodes → from < nodes
    → (if write then me else from) < nodes
replied_by true me from nodes here there = here
replied_by false me from nodes here there = there

away : (s : Hints) (p o : ℕ) → p < length s.hints → o ≢ s.me → hint_of (hinted s p o) p ≢ s.me
away s p o lt other h = other (sym (hint_is s p o lt) ∙ h)

away_if : (write : Bool) (s : Hints) (p o : ℕ) → p < length s.hints → o ≢ s.me → hint_of s p ≢ s.me
    → hint_of (if write then hinted s p o else s) p ≢ s.me
away_if true s p o lt other was = away s p o lt other
away_if false s p o lt other was = was

away_unless : (steady : Bool) (s : Hints) (p o : ℕ) → p < length s.hints → o ≢ s.me
    → hint_of s p ≢ s.me → hint_of (if steady then s else hinted s p o) p ≢ s.me
away_unless true s p o lt other was = was
away_unless false s p o lt other was = away s p o lt other

-- the first state
first_zero : (steady : Bool) (c : Config) (i p : ℕ) → p < c.pages
    → hint_of (new_hints steady c i) p ≡ 0
first_zero steady c i p lt = get_or-replicate {A = ℕ} c.pages p 0 0 lt

-- a manager by steady hints, at first
pub steady_new : (c : Config) (i : ℕ) → i < c.nodes → IsNew dynamic_ops c i (steady_hints c i)
steady_new c i below = record {
  me = refl;
  size = length-replicate c.pages 0;
  nodes = refl;
  hop = λ p lt. subst (λ n. n < c.nodes) (sym (first_zero true c i p lt)) (omega (arith, below));
  own = λ p lt e. sym e ∙ first_zero true c i p lt;
}

-- taking back
abbrev with_hints : Hints → List ℕ → Hints
with_hints s hints = record s { hints = hints }

again : (s : Hints) (p o v : ℕ) → hinted (hinted s p o) p v ≡ hinted s p v
again s p o v = ap (with_hints s) (set-set s.hints p o v)

hidden_unless : (steady : Bool) (s : Hints) (p o v : ℕ)
    → hinted (if steady then s else hinted s p o) p v ≡ hinted s p v
hidden_unless true s p o v = refl
hidden_unless false s p o v = again s p o v

hidden : (s : Hints) (p : ℕ) (cs : List Change) (v : ℕ)
    → hinted (all_changed dynamic_ops p s cs) p v ≡ hinted s p v
hidden s p [] v = refl
hidden s p (Forward true o ∷ cs) v = hidden (hinted s p o) p cs v ∙ again s p o v
hidden s p (Forward false o ∷ cs) v = hidden s p cs v
hidden s p (Given o ∷ cs) v = hidden (hinted s p o) p cs v ∙ again s p o v
hidden s p (Replied true o ∷ cs) v = hidden (hinted s p s.me) p cs v ∙ again s p s.me v
hidden s p (Replied false o ∷ cs) v = hidden (hinted s p o) p cs v ∙ again s p o v
hidden s p (Invalidated o ∷ cs) v =
    hidden (dynamic_ops.on_invalidated s p o) p cs v ∙ hidden_unless s.steady s p o v

as_it_was : (s : Hints) (p : ℕ) (cs : List Change) (v : ℕ) → v ≡ hint_of s p
    → hinted (all_changed dynamic_ops p s cs) p v ≡ s
as_it_was s p cs v e =
    hidden s p cs v ∙ ap (with_hints s) (ap (set s.hints p) e ∙ set-get_or s.hints p 0)

undone : (s : Hints) (p from : ℕ) (cs : List Change)
    → brought_back dynamic_ops p (hint_of s p) from (all_changed dynamic_ops p s cs) ≡ s
undone s p from cs =
    let t : Hints = all_changed dynamic_ops p s cs in
    elim (eqb_tells (hint_of s p) t.me) [
      | inl y ↦ rw y.0 (as_it_was s p cs t.me (sym y.1))
      | inr n ↦ rw n.0 (as_it_was s p cs (hint_of s p) refl)
    ]

pub dynamic_laws : Laws dynamic_ops
dynamic_laws = record {
  first_me = λ c i _ _. refl;
  first_size = λ c i _ _. length-replicate c.pages 0;
  first_nodes = λ c i _ _. refl;
  first_hop = λ c i p h below lt.
      subst (λ n. n < c.nodes) (sym (first_zero false c i p lt)) (omega (arith, below));
  first_own = λ c i p _ _ lt e. sym e ∙ first_zero false c i p lt;
  keeps_forward = λ s p write origin. keeps_if write s p origin;
  keeps_given = keeps;
  keeps_replied = λ s p write from. keeps s p (if write then s.me else from);
  keeps_invalidated = λ s p by. keeps_unless s.steady s p by;
  hop_forward = λ s p write origin r below. node_if write s p origin r below;
  hop_given = λ s p to r below. node s p to r.page below;
  hop_replied = λ s p write from r below.
      node s p (if write then s.me else from) r.page
      (replied_by write s.me from s.nodes r.me below);
  hop_invalidated = λ s p by r below. node_unless s.steady s p by r below;
  away_forward = λ s p write origin lt other was. away_if write s p origin lt other was;
  away_read = λ s p from lt other was. away s p from lt other;
  away_invalidated = λ s p by lt other was. away_unless s.steady s p by lt other was;
  gone_given = away;
  undo = undone;
}
