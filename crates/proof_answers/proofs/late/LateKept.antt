-- Late nodes stay late over a row: from what the node of the row does, to who is late then.
use Rattle.std.proofs.Common.{◌≡◌, ◌⊎◌, ℕ, refl, sym, subst, inl, inr}
use Rattle.std.proofs.lemmas.Bool.{cases_eq}
use Rattle.ivy_pagetable.specs.declared.Entry.TheVariants as entry
use Rattle.ivy_pagetable.specs.stated.States.{WaitingState}
use Rattle.ivy_dynamic.specs.stated.Dynamic.{Hints, hint_of}
use Rattle.proof_table.specs.stated.Letters.{Letter, Net, Place, Loose}
use Rattle.proof_answers.specs.late.Late.{IsOut, Hop, IsChained, Leads, IsLate, AreOrdered}
use Rattle.proof_answers.specs.late.LateLaws.{IsChainedOn}
use Rattle.proof_answers.proofs.late.LateSteps.{IsInOrder, IsServedLate, IsLateStill, AreFirst, HasLed, hop_of, more_late, chain_kept, late_kept, unchanged}

-- what a row keeps of the late nodes of one request, and of its chain
pub record IsLateKept (nodes : ℕ) (m m' : ℕ → Hints) (n n' : Net) (p o : ℕ) : Type 0 where
  pub late : (y : ℕ) → IsLate nodes m n p o y → IsLate nodes m' n' p o y
  pub hop : (s t : WaitingState) → n.entry o p ≡ entry.AwaitRead s
      → n'.entry o p ≡ entry.AwaitRead t → Leads nodes m n p o (λ y. ⊥) (Hop o)
      → Leads nodes m' n' p o (λ y. ⊥) (Hop o)
  pub chain : (a : Place) (l : Letter) → IsChained n p o a l
      → IsChainedOn n' p o a l ⊎ ((a ≡ Loose 0) × IsLate nodes m' n' p o l.dest)

abbrev pub IsNone : ℕ → Type 0
IsNone y = ⊥

module _ (nodes : ℕ) (m m' : ℕ → Hints) (n n' : Net) (p o x : ℕ) (now : Place → Place)
    (Gone : Place → Type 0) (Serves : Type 0) (ordered : AreOrdered nodes m n p) (out : IsOut n p o)
    (step : IsInOrder m m' n n' p o x now Gone Serves) where
  abbrev Does : (ℕ → Type 0) → Type 0
  Does First = IsServedLate m m' n n' p o x now Gone Serves nodes First
      × IsLateStill m m' n n' p o x now Gone Serves nodes First

  abbrev Starts : (ℕ → Type 0) → Type 0
  Starts First = AreFirst m m' n n' p o x now Gone Serves nodes First

  abbrev IsItself : ℕ → Type 0
  IsItself y = y ≡ o

  module _ (does : (First : ℕ → Type 0) → Starts First → Does First) where
    none_starts : (s : WaitingState) → n.entry o p ≡ entry.AwaitRead s → Starts IsNone
    none_starts s is = record {
      own = λ y h. absurd h;
      asker = inr (s, is);
      led = λ t h is. absurd h;
    }

    none_led : (s : WaitingState) → n.entry o p ≡ entry.AwaitRead s
        → Leads nodes m n p o IsNone (Hop o) → HasLed m m' n n' p o x now Gone Serves nodes IsNone o
    none_led s is hop =
        let d = does IsNone (none_starts s is) in
        late_kept m m' n n' p o x now Gone Serves step nodes IsNone d.0 d.1 hop

    itself_led : (t : WaitingState) → x ≡ o → n.entry x p ≡ entry.AwaitRead t
        → HasLed m m' n n' p o x now Gone Serves nodes IsItself x
    itself_led t same is =
        let here : n.entry o p ≡ entry.AwaitRead t =
        subst (λ v. n.entry v p ≡ entry.AwaitRead t) same is in
        subst (HasLed m m' n n' p o x now Gone Serves nodes IsItself) (sym same)
        (elim (none_led t here (ordered o t here out)) [
          | inl late ↦ inl (more_late nodes m' n' p o IsNone IsItself (λ y h. absurd h) late)
          | inr led ↦ inr led
        ])

    itself_starts : Starts IsItself
    itself_starts =
        record { own = λ y h. h; asker = inl refl; led = λ t same is. itself_led t same is }

    pub row_kept : IsLateKept nodes m m' n n' p o
    row_kept =
        let d = does IsItself itself_starts in
        record {
          late = λ y late.
              (late_kept m m' n n' p o x now Gone Serves step nodes IsItself d.0 d.1 late).0;
          hop = λ s t is then hop. elim (cases_eq o x) [
            | inr ne ↦
                hop_of m m' n n' p o x now Gone Serves nodes IsNone o (step.hints o ne)
                (none_led s is hop)
            | inl same ↦
                subst (λ v. Leads nodes m' n' p o IsNone (Hop v)) (sym same)
                ((does IsNone (none_starts s is)).1.at_hop s t
                (subst (λ v. n.entry v p ≡ entry.AwaitRead s) same is)
                (subst (λ v. n'.entry v p ≡ entry.AwaitRead t) same then)
                (subst (HasLed m m' n n' p o x now Gone Serves nodes IsNone) same
                (none_led s is hop)))
          ];
          chain = λ a l chained.
              elim (chain_kept m m' n n' p o x now Gone Serves step chained) [
                | inl still ↦ inl (record {
                  at = now a;
                  letter = still.kept.letter;
                  later = step.later a still.there_still;
                  dest = still.kept.dest;
                  chained = still.chained;
                })
                | inr served ↦ inr (
                  served.0,
                  subst (λ v. IsLate nodes m' n' p o v) (sym served.1)
                      (d.0 served.2 l (subst (λ v. IsChained n p o v l) served.0 chained) served.1),
                )
              ];
        }

  -- where no request is served, and nothing changes at the node
  pub unchanged_kept : (Serves → ⊥) → n'.entry x p ≡ n.entry x p
      → hint_of (m' x) p ≡ hint_of (m x) p → IsLateKept nodes m m' n n' p o
  unchanged_kept none same hint =
      row_kept (λ First starts. (
        λ s l chained to. absurd (none s),
        unchanged m m' n n' p o x now Gone Serves nodes First none same hint,
      ))

  -- where no request is served
  pub quiet_kept : (Serves → ⊥)
      → ((First : ℕ → Type 0) → Starts First
      → IsLateStill m m' n n' p o x now Gone Serves nodes First) → IsLateKept nodes m m' n n' p o
  quiet_kept none does_still =
      row_kept (λ First starts. (λ s l chained to. absurd (none s), does_still First starts))
