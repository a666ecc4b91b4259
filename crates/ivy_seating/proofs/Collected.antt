-- The starter is told of one node after another.
use Rattle.std.proofs.Common.{◌≡◌, ◌≢◌, ℕ, zero, suc, ◌+◌, ◌≤◌, ◌==◌, All, List, [], ◌∷◌, ◌++◌}
use Rattle.std.proofs.Common.{length, slice_get, Contains, Some, ◌⊎◌, refl, sym}
use Rattle.std.proofs.Common.{ap, subst, ◌∙◌, inl, inr, arith}
use Rattle.std.proofs.lemmas.Bool.{ne_eqb}
use Rattle.std.proofs.lemmas.List.{same_from_push}
use Rattle.std.proofs.lemmas.Option.{none-some, same_Some}
use Rattle.std.proofs.lemmas.List.Elements.{Contains-push, Contains-append_left}
use Rattle.ivy_model.specs.declared.Config.{Config}
use Rattle.ivy_program.specs.stated.Programs.{Program}
use Rattle.atomic_table.specs.Seated.{TableId}
use Rattle.ivy_host.specs.declared.opening.Opening.{Opening}
use Rattle.ivy_ether.specs.Held.{Held, held}
use Rattle.ivy_ether.specs.Rule.{times, one_if}
use Rattle.ivy_ether.specs.Programs.{all_handed}
use Rattle.ivy_ether.specs.Views.{Closing, View, with_issued, with_given, with_closed, closing_of, beginner}
use Rattle.ivy_moves.specs.Marks.{Mark}
use Rattle.ivy_site.specs.SiteView.{SiteView}
use Rattle.std.specs.Prelude.{unwrap_or}
use Rattle.ivy_ether.specs.EtherViews.{IsNewcomer, AreFresh}
use Rattle.ivy_ether.proofs.ListTotals.{total-append}
use Rattle.ivy_seating.specs.Reports.{NodeReport, report_of, IsDone}
use Rattle.ivy_seating.specs.Collected.{IsTold, TellsOf, AreTold}

-- one more node
pub get_push : {X : Type 0} (xs : List X) (y : X) (i : ℕ) (x : X)
    → slice_get (xs ++ y ∷ []) i ≡ Some x
    → (slice_get xs i ≡ Some x) ⊎ ((i ≡ length xs) × (y ≡ x))
get_push [] y zero x is = inr (refl, same_Some y x is)
get_push [] y (suc i) x is = absurd (none-some x is)
get_push (z ∷ zs) y zero x is = inl is
get_push (z ∷ zs) y (suc i) x is = elim (get_push zs y i x is) [
  | inl there ↦ inl there
  | inr last ↦ inr (ap suc last.0, last.1)
]

pub told_more : (c : Config) (opened : Opening) (programs : List Program) (v v' : View)
    (nodes nodes' : List NodeReport) (n : NodeReport) (i : ℕ) → i ≡ length nodes
    → nodes' ≡ nodes ++ n ∷ [] → TellsOf c opened programs v i n v'
    → AreTold c opened programs v nodes → AreTold c opened programs v' nodes'
told_more c opened programs v v' nodes nodes' n i last more tells told j m there =
    elim (get_push nodes n j m (subst (λ l. slice_get l j ≡ Some m) more there)) [
      | inl was ↦ let old = told j m was in record {
        handings = old.handings;
        closed = tells.0 (record { node = j; handed = old.handings; events = m.events }) old.closed;
        done = old.done;
      }
      | inr new ↦
          let at : i ≡ j = last ∙ sym new.0 in
          subst (λ (y : ℕ × NodeReport). IsTold c opened programs v' y.0 y.1) (λ k. (at k, new.1 k))
          tells.1
    ]

-- the starter took in the pass of a node that is done
pub tells_of : (c : Config) (opened : Opening) (programs : List Program) (v v' w : View)
    (es : List Mark) (s : SiteView)
    (i : ℕ) → v' ≡ with_closed v (with_given w es) → w.node ≡ Some i → es ≡ s.events
    → IsDone c opened (all_handed (λ _. w.handed) programs) i (report_of s)
    → TellsOf c opened programs v i (report_of s) v'
tells_of c opened programs v v' w es s i known node is done =
    let its : Closing = closing_of (with_given w es) in
    let same : its ≡ record { node = i; handed = w.handed; events = s.events } =
    (λ k. record { node = ap (λ o. unwrap_or o 0) node k; handed = w.handed; events = is k }) in (
      λ x there. subst (λ (u : View). Contains u.closed x) (sym known)
          (Contains-append_left (v.closed ++ w.closed) (its ∷ []) x
          (Contains-append_left v.closed w.closed x there)),
      record {
        handings = w.handed;
        closed = subst
            (λ (u : View). Contains u.closed (record { node = i; handed = w.handed; events = s.events }))
            (sym known)
            (subst (λ (y : Closing). Contains ((v.closed ++ w.closed) ++ its ∷ []) y) same
            (Contains-push (v.closed ++ w.closed) its));
        done = done;
      },
    )

pub told_none : (c : Config) (opened : Opening) (programs : List Program) (v : View)
    (nodes : List NodeReport) → nodes ≡ [] → AreTold c opened programs v nodes
told_none c opened programs v nodes none i n there =
    absurd (none-some n (ap (λ l. slice_get l i) (sym none) ∙ there))

-- one more seat
pub issued_more : (v v' : View) (i : ℕ) → v' ≡ with_issued v i
    → ((j : ℕ) → i ≤ j → times j v.issued ≡ 0) → (j : ℕ) → i + 1 ≤ j → times j v'.issued ≡ 0
issued_more v v' i more none j past =
    let apart : i ≢ j = (λ same. omega (arith, past, same)) in
    let grown = total-append (λ x. one_if (x == j)) v.issued (i ∷ []) in
    let other : one_if (i == j) ≡ 0 = ap one_if (ne_eqb i j apart) in
    let before : times j v.issued ≡ 0 = none j (omega (arith, past)) in
    ap (λ (u : View). times j u.issued) more ∙ omega (arith, grown, other, before)

-- the starter is the last pass of a new ether
pub fresh_pop : (t : TableId) (passes rest : List Held) (last : Held) → AreFresh t passes
    → passes ≡ rest ++ last ∷ [] → All (IsNewcomer t) rest × (last ≡ held t beginner)
fresh_pop t passes rest last fresh is =
    let same = same_from_push fresh.rest rest (held t beginner) last (sym fresh.are ∙ is) in
    (subst (All (IsNewcomer t)) same.0 fresh.newcomers, sym same.1)
