-- An owner that waits for nothing serves a request: it gives a copy, or the page itself. It is late
-- then if what it served was of the chain.
use Rattle.std.proofs.Common.{◌≡◌, ◌≢◌, ◌⊎◌, ◌<◌, ℕ, suc, true, false, List, [], ◌∷◌, slice_get, refl, sym, ap, ◌∙◌, subst, inl, inr}
use Rattle.std.proofs.lemmas.Bool.{both_ways}
use Rattle.std.proofs.lemmas.Option.{same_Some}
use Rattle.ivy_model.specs.declared.Config.{Config}
use Rattle.ivy_wire.specs.declared.Content.TheVariants as content
use Rattle.ivy_wire.specs.stated.Data.{Content}
use Rattle.ivy_wire.specs.stated.Posts.{parcel_to}
use Rattle.ivy_pagetable.specs.declared.Entry.TheVariants as entry
use Rattle.ivy_pagetable.specs.stated.States.{IdleState}
use Rattle.ivy_dynamic.specs.stated.Dynamic.{Hints, hint_of}
use Rattle.proof_table.specs.stated.Letters.{Letter, Net, Place, Loose, IsAt}
use Rattle.proof_table.specs.transitions.Letters.{goes_on}
use Rattle.proof_table.specs.stated.Orderly.{IsOrderly}
use Rattle.proof_table.specs.transitions.TableSteps.{letter}
use Rattle.proof_table.proofs.transitions.Parcels.{answer_step}
use Rattle.proof_table.proofs.transitions.Places.{written_here, served}
use Rattle.proof_answers.specs.late.Late.{IsRequest, IsOut, IsPutOff, IsAfter, Which, Node, IsChained, first, next, idle, hop_led, AreOrdered, PutOffOrders}
use Rattle.proof_answers.proofs.late.LateSteps.{IsInOrder, IsServedLate, IsLateStill, LateThen, WasLate, was_first, was_idle, was_reader, was_writer, AreFirst, chained_at, chained_asks, chain_kept}
use Rattle.proof_answers.proofs.late.LateNets.{IsFirst, served_order}
use Rattle.proof_answers.proofs.late.LateKept.{IsLateKept, row_kept}
use Rattle.proof_answers.proofs.late.LateFacts.{idle_reading, idle_writing, same_idle, one_request, idle_out, next_writes, none_before, come_put, holding_idle}

-- a copy is given; or the page, and the hint is then who asked
pub data IsGiving (m' : ℕ → Hints) (x p i : ℕ) (body : Content) (t : IdleState) : Type 0 where
  shares_it : body ≡ content.ReadReq p → IsGiving m' x p i body t
  gives_it : body ≡ content.WriteReq p → t.owner ≡ false → hint_of (m' x) p ≡ i
      → IsGiving m' x p i body t

module _ (c : Config) (m m' : ℕ → Hints) (n : Net) (order : IsOrderly c n)
    (orders : PutOffOrders n) (p o x from i call : ℕ) (body answer : Content) (s t : IdleState)
    (rest : List Letter) (loose : n.loose ≡ letter from x i call body ∷ rest)
    (here : x < c.nodes) (is : n.entry x p ≡ entry.Idle s) (owner : s.owner ≡ true)
    (giving : IsGiving m' x p i body t)
    (silent : (j : ℕ) → IsRequest p j (letter x i i call answer) → ⊥)
    (others : (y : ℕ) → y ≢ x → hint_of (m' y) p ≡ hint_of (m y) p) (out : IsOut n p o) where
  abbrev pub answered_net : Net
  answered_net = goes_on n x p (entry.Idle t) rest (parcel_to x i i call answer ∷ [])

  abbrev old : Letter
  old = letter from x i call body

  old_there : IsAt n (Loose 0) old
  old_there = ap (λ v. slice_get v 0) loose

  is_old : (l : Letter) → IsAt n (Loose 0) l → l ≡ old
  is_old l at = sym (same_Some old l (ap (λ v. slice_get v 0) (sym loose) ∙ at))

  pub answering_order : IsInOrder m m' n answered_net p o x served IsFirst (Unit {0})
  answering_order =
      served_order n x p (entry.Idle s) (entry.Idle t) rest (parcel_to x i i call answer ∷ []) is
      (λ j q h. h) (λ k l h. ap (λ v. slice_get v (suc k)) (sym loose) ∙ h) m m' p o (Unit {0})
      (λ j l at asks. (ap (λ (v : Letter). v.dest) (is_old l at), tt)) others

  asking : (body ≡ content.ReadReq p) ⊎ (body ≡ content.WriteReq p)
  asking = by_giving giving
    where
      by_giving : IsGiving m' x p i body t
          → (body ≡ content.ReadReq p) ⊎ (body ≡ content.WriteReq p)
      by_giving (shares_it h) = inl h
      by_giving (gives_it h k g) = inr h

  -- the request that is served is there no more
  not_first : IsOut answered_net p o → i ≡ o → ⊥
  not_first still same =
      elim ((answer_step n x p (entry.Idle s) (entry.Idle t) old rest i i call answer is loose
      (λ k q h. h)).letters still.at still.letter still.there) [
        | inl h ↦
            h.3
            (one_request c n order p o h.0 (Loose 0) still.letter old h.1 old_there still.asks
            (same, asking))
        | inr h ↦ silent o (subst (IsRequest p o) h.1 still.asks)
      ]

  module _ (still : IsOut answered_net p o) (First : ℕ → Type 0)
      (starts : AreFirst m m' n answered_net p o x served IsFirst (Unit {0}) c.nodes First) where
    abbrev Then : Which → Type 0
    Then w = LateThen m m' n answered_net p o x served IsFirst (Unit {0}) c.nodes First w

    next_given : (a : Place) (k : Letter) → IsChained n p o a k → IsPutOff a → k.dest ≡ i
        → body ≡ content.WriteReq p → Then (Node x)
    next_given a k before put_off same says = by_giving giving
      where
        by_giving : IsGiving m' x p i body t → Then (Node x)
        by_giving (shares_it reads) =
            absurd (let f : content.ReadReq p ≡ content.WriteReq p = sym reads ∙ says in cc)
        by_giving (gives_it writes plain now) =
            elim (chain_kept m m' n answered_net p o x served IsFirst (Unit {0}) answering_order
            before) [
              | inr gone ↦ absurd (subst IsPutOff gone.0 put_off)
              | inl kept ↦
                  idle x here t (written_here n.entry x p (entry.Idle t) x p refl refl) plain
                  (hop_led x (record {
                    at = served a;
                    letter = kept.kept.letter;
                    chained = kept.chained;
                    dest = kept.kept.dest ∙ same ∙ sym now;
                    leads = inl (answering_order.come a (come_put a put_off));
                  }))
            ]

    chain_given : (b : Place) (l : Letter) → IsChained n p o b l → b ≡ Loose 0 → Then (Node x)
    chain_given b l (first a k there asks) same =
        absurd (not_first still
        (sym (ap (λ (v : Letter). v.message.origin) (is_old l (subst (λ v. IsAt n v l) same there)))
        ∙ asks.0))
    chain_given b l (next a d k v before put_off there asks) same =
        let it : l ≡ old = is_old l (subst (λ w. IsAt n w l) same there) in
        let request_of = chained_asks n p o before in
        next_given a k before put_off
        (sym asks.0 ∙ ap (λ (w : Letter). w.message.origin) it)
        (sym (ap (λ (w : Letter). w.message.content) it)
        ∙ next_writes c n order p orders a b k l request_of.0 (chained_at n p o before) request_of.1
        put_off there asks)

    pub answering_served
        : IsServedLate m m' n answered_net p o x served IsFirst (Unit {0}) c.nodes First
    answering_served u l chained to = chain_given (Loose 0) l chained refl

    never : WasLate m m' n answered_net p o x served IsFirst (Unit {0}) c.nodes First x → ⊥
    never (was_first h) =
        idle_out c n order p x s is (subst (IsOut n p) (sym (starts.own x h)) out)
    never (was_idle r h plain led) =
        both_ways r.owner plain (ap (λ (v : IdleState). v.owner) (same_idle h is) ∙ owner)
    never (was_reader r h led) = idle_reading is h
    never (was_writer r h) = idle_writing is h

    pub answering_still
        : IsLateStill m m' n answered_net p o x served IsFirst (Unit {0}) c.nodes First
    answering_still = record {
      at_served = λ u j l at asks to late. elim late [
        | inl was ↦ absurd (never was)
        | inr after ↦ absurd (
            let it : l ≡ old = is_old l at in
            holding_idle is
            (none_before c n order p orders o old (subst (IsAfter n p o (Loose 0)) it after))
            )
      ];
      at_idle = λ lt r h plain led. absurd (never (was_idle r h plain led));
      at_sent_on = λ lt r h on led. absurd (idle_reading is h);
      at_reads = λ lt r h asked led own. absurd (idle_reading is h);
      at_writes = λ lt r h asked own. absurd (idle_writing is h);
      at_hop = λ r v h k led. absurd (idle_reading is h);
    }

  -- late nodes stay late, while the request is not served
  pub answered_kept : AreOrdered c.nodes m n p → IsOut answered_net p o
      → IsLateKept c.nodes m m' n answered_net p o
  answered_kept ordered still =
      row_kept c.nodes m m' n answered_net p o x served IsFirst (Unit {0}) ordered out
      answering_order
      (λ First starts. (answering_served still First starts, answering_still still First starts))
