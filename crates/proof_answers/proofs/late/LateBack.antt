-- Where a copy is awaited after a row: it was so before, and the request was there, but where the
-- row makes it.
use Rattle.std.proofs.Common.{◌≡◌, ◌⊎◌, ℕ, zero, suc, List, [], ◌∷◌, ◌++◌, slice_get, Some, refl, sym, ap, ◌∙◌, inl, inr}
use Rattle.std.proofs.lemmas.Option.{same_Some, none-some}
use Rattle.ivy_model.specs.declared.Config.{Config}
use Rattle.ivy_pagetable.specs.declared.Entry.{Entry}
use Rattle.ivy_pagetable.specs.declared.Entry.TheVariants as entry
use Rattle.ivy_pagetable.specs.declared.PutOff.{PutOff}
use Rattle.ivy_pagetable.specs.declared.Request.TheVariants as request
use Rattle.ivy_pagetable.specs.declared.Word.{Word}
use Rattle.ivy_pagetable.specs.stated.States.{WaitingState}
use Rattle.ivy_pagetable.specs.stated.Entries.{with_put_off}
use Rattle.ivy_coherence.specs.stated.Fetching.{joined_by}
use Rattle.ivy_dynamic.specs.stated.Dynamic.{Hints}
use Rattle.proof_table.specs.stated.Letters.{Letter, Net, Place}
use Rattle.proof_table.specs.transitions.Letters.{written, installs}
use Rattle.proof_table.specs.transitions.TableSteps.{Takes, PutsOff, taken}
use Rattle.proof_table.proofs.transitions.NetSteps.{IsStep}
use Rattle.proof_table.proofs.transitions.Places.{get_append, written_here, written-other, same_or_other}
use Rattle.proof_table.proofs.routing.Old.{taken_letters}
use Rattle.proof_answers.specs.late.Late.{IsRequest, IsOut, AreOrdered, PutOffOrders}
use Rattle.proof_answers.proofs.late.LateNets.{uninstalls}
use Rattle.proof_answers.proofs.late.LateFacts.{same_reading}
use Rattle.proof_answers.proofs.late.LateKept.{IsLateKept}

-- who awaits a copy did so before, and its request was there
pub record IsBack (n n' : Net) : Type 0 where
  pub reader : (z p : ℕ) (t : WaitingState) → n'.entry z p ≡ entry.AwaitRead t
      → (s : WaitingState) × (n.entry z p ≡ entry.AwaitRead s)
  pub out : (z p : ℕ) (t : WaitingState) → n'.entry z p ≡ entry.AwaitRead t → IsOut n' p z
      → IsOut n p z

-- so it stays ordered
pub ordered_back : (nodes : ℕ) (m m' : ℕ → Hints) (n n' : Net) → IsBack n n'
    → ((p : ℕ) → AreOrdered nodes m n p)
    → ((p o : ℕ) → IsOut n p o → IsOut n' p o → IsLateKept nodes m m' n n' p o)
    → (p : ℕ) → AreOrdered nodes m' n' p
ordered_back nodes m m' n n' back was kept p z t is still =
    let s = back.reader z p t is in
    let out = back.out z p t is still in
    (kept p z out still).hop s.0 t s.1 is (was p z s.0 s.1 out)

module _ (n n' : Net) (x q : ℕ) (e z : Entry) (now : Place → Place) (New : Place → Letter → Type 0)
    (step : IsStep n n' x q e z now New) where
  step_reader : ((t : WaitingState) → z ≡ entry.AwaitRead t
      → (s : WaitingState) × (e ≡ entry.AwaitRead s))
      → (y p : ℕ) (t : WaitingState) → n'.entry y p ≡ entry.AwaitRead t
      → (s : WaitingState) × (n.entry y p ≡ entry.AwaitRead s)
  step_reader how y p t is = elim (step.elsewhere y p) [
    | inr other ↦ (t, sym other.1 ∙ is)
    | inl same ↦ (
        let s =
        how t (sym step.after ∙ ap (λ v. n'.entry x v) (sym same.1)
        ∙ ap (λ v. n'.entry v p) (sym same.0) ∙ is) in (
          s.0,
          ap (λ v. n.entry v p) same.0 ∙ ap (n.entry x) same.1 ∙ step.before ∙ s.1,
        )
        )
  ]

  step_out : (p j : ℕ) (out : IsOut n' p j)
      → IsOut n p j ⊎ ((a : Place) × (l : Letter) × New a l × IsRequest p j l)
  step_out p j out = elim (step.letters out.at out.letter out.there) [
    | inl h ↦ inl (record { at = h.0; letter = out.letter; there = h.1; asks = out.asks })
    | inr h ↦ inr (out.at, out.letter, h, out.asks)
  ]

  pub step_back : ((t : WaitingState) → z ≡ entry.AwaitRead t
      → (s : WaitingState) × (e ≡ entry.AwaitRead s))
      → ((a : Place) (l : Letter) (p j : ℕ) (t : WaitingState) → New a l → IsRequest p j l
      → n'.entry j p ≡ entry.AwaitRead t → IsOut n p j) → IsBack n n'
  step_back how news = record {
    reader = step_reader how;
    out = λ y p t is still. elim (step_out p y still) [
      | inl h ↦ h
      | inr h ↦ news h.0 h.1 p y t h.2 h.3 is
    ];
  }

-- bytes are installed
pub installed_back : (n n' : Net) (x q : ℕ) (bytes : List ℕ) → IsBack n n'
    → IsBack n (installs n' x q bytes)
installed_back n n' x q bytes back = record {
  reader = back.reader;
  out = λ z p t is still. back.out z p t is (record {
    at = still.at;
    letter = still.letter;
    there = uninstalls n' x q bytes still.at still.letter still.there;
    asks = still.asks;
  });
}

pub same_back : (n : Net) → IsBack n n
same_back n = record { reader = λ z p t is. (t, is); out = λ z p t is still. still }

-- a letter is taken
pub taken_back : (n : Net) (r : Takes n) → IsBack n (taken n r.source r.dest r.message)
taken_back n r = record {
  reader = λ z p t is. (t, is);
  out = λ z p t is still. (
      let h = taken_letters n r.source r.dest r.message r.first still.at still.letter still.there in
      record { at = h.0; letter = still.letter; there = h.1; asks = still.asks }
      );
}

-- only orders are put off where a copy is awaited, if it is so at the entry that is written
pub orders_written : (n : Net) (x q : ℕ) (z : Entry) → PutOffOrders n
    → ((s : WaitingState) (k : ℕ) (r : PutOff) → z ≡ entry.AwaitRead s
    → slice_get s.put_off k ≡ Some r → r.kind ≡ request.Invalidate)
    → (y p k : ℕ) (s : WaitingState) (r : PutOff)
    → written n.entry x q z y p ≡ entry.AwaitRead s → slice_get s.put_off k ≡ Some r
    → r.kind ≡ request.Invalidate
orders_written n x q z orders here y p k s r is at = elim (same_or_other y p x q) [
  | inl same ↦ here s k r (sym (written_here n.entry x q z y p same.0 same.1) ∙ is) at
  | inr other ↦ orders y p k s r (sym (written-other n.entry x q z y p other) ∙ is) at
]

-- none is put off, or the same as before
pub no_reader : {z : Entry} → ((s : WaitingState) → z ≡ entry.AwaitRead s → ⊥)
    → (s : WaitingState) (k : ℕ) (r : PutOff) → z ≡ entry.AwaitRead s
    → slice_get s.put_off k ≡ Some r → r.kind ≡ request.Invalidate
no_reader none s k r is at = absurd (none s is)

-- a message is put off
pub put_orders : (c : Config) (n : Net) (r : PutsOff c n)
    → ((s : WaitingState) → r.before ≡ entry.AwaitRead s → r.later.kind ≡ request.Invalidate)
    → PutOffOrders n
    → (s : WaitingState) (k : ℕ) (v : PutOff) → with_put_off r.before r.later ≡ entry.AwaitRead s
    → slice_get s.put_off k ≡ Some v → v.kind ≡ request.Invalidate
put_orders c n r kept orders s k v is at = by_entry r.before refl is
  where
    by_entry : (e : Entry) → r.before ≡ e → with_put_off e r.later ≡ entry.AwaitRead s
        → v.kind ≡ request.Invalidate
    by_entry (entry.Idle t) same h =
        absurd (let f : entry.Idle t ≡ entry.AwaitRead s = h in cc)
    by_entry (entry.AwaitWrite t) same h = absurd (
        let f : with_put_off (entry.AwaitWrite t) r.later ≡ entry.AwaitRead s = h in
        cc
        )
    by_entry (entry.AwaitAcks t) same h = absurd (
        let f : with_put_off (entry.AwaitAcks t) r.later ≡ entry.AwaitRead s = h in
        cc
        )
    by_entry (entry.AwaitRead t) same h =
        let there : slice_get (t.put_off ++ r.later ∷ []) k ≡ Some v =
        ap (λ (w : WaitingState). slice_get w.put_off k) (same_reading refl h) ∙ at in
        elim (get_append t.put_off (r.later ∷ []) v k there) [
          | inl old ↦ orders r.node r.page k t v (r.is ∙ same) old
          | inr new ↦ by_number new.0 new.2
        ]
      where
        by_number : (j : ℕ) → slice_get (r.later ∷ []) j ≡ Some v → v.kind ≡ request.Invalidate
        by_number zero g =
            ap (λ (w : PutOff). w.kind) (sym (same_Some r.later v g)) ∙ kept t same
        by_number (suc j) g = absurd (none-some v g)

-- who is put off where a copy is awaited
pub put_reader : (c : Config) (n : Net) (r : PutsOff c n) (t : WaitingState)
    → with_put_off r.before r.later ≡ entry.AwaitRead t
    → (s : WaitingState) × (r.before ≡ entry.AwaitRead s)
put_reader c n r t is = by_entry r.before refl is
  where
    by_entry : (e : Entry) → r.before ≡ e → with_put_off e r.later ≡ entry.AwaitRead t
        → (s : WaitingState) × (r.before ≡ entry.AwaitRead s)
    by_entry (entry.Idle u) same h = absurd (let f : entry.Idle u ≡ entry.AwaitRead t = h in cc)
    by_entry (entry.AwaitRead u) same h = (u, same)
    by_entry (entry.AwaitWrite u) same h = absurd (
        let f : with_put_off (entry.AwaitWrite u) r.later ≡ entry.AwaitRead t = h in
        cc
        )
    by_entry (entry.AwaitAcks u) same h = absurd (
        let f : with_put_off (entry.AwaitAcks u) r.later ≡ entry.AwaitRead t = h in
        cc
        )

-- a word joins the fetch of its page: a copy was awaited there, with the same put off
pub joined_reader : (e : Entry) (w : Word) (t : WaitingState) → joined_by e w ≡ entry.AwaitRead t
    → (s : WaitingState) × (e ≡ entry.AwaitRead s) × (t.put_off ≡ s.put_off)
joined_reader (entry.Idle s) w t h =
    absurd (let f : entry.Idle s ≡ entry.AwaitRead t = h in cc)
joined_reader (entry.AwaitRead s) w t h =
    (s, refl, ap (λ (v : WaitingState). v.put_off) (sym (same_reading refl h)))
joined_reader (entry.AwaitWrite s) w t h = absurd (
    let f : joined_by (entry.AwaitWrite s) w ≡ entry.AwaitRead t = h in
    cc
    )
joined_reader (entry.AwaitAcks s) w t h = absurd (
    let f : joined_by (entry.AwaitAcks s) w ≡ entry.AwaitRead t = h in
    cc
    )
