-- Each row leaves the managers steady, those that await a copy ordered, and only orders put off
-- there.
use Rattle.std.proofs.Common.{◌≡◌, ◌≢◌, ◌⊎◌, ◌+◌, ℕ, Bool, true, false, List, [], ◌∷◌, length, map, slice_get, Some, if◌then◌else◌, refl, sym, ap, ◌∙◌, subst, inl, inr}
use Rattle.std.proofs.lemmas.Bool.{cases_eq}
use Rattle.std.proofs.lemmas.Option.{none-some}
use Rattle.ivy_model.specs.declared.Config.{Config}
use Rattle.ivy_model.specs.stated.Config.{IsConfig}
use Rattle.ivy_wire.specs.declared.Content.TheVariants as content
use Rattle.ivy_wire.specs.stated.Data.{Content}
use Rattle.ivy_wire.specs.stated.Posts.{parcel_to}
use Rattle.ivy_pagetable.specs.declared.Entry.{Entry}
use Rattle.ivy_pagetable.specs.declared.Entry.TheVariants as entry
use Rattle.ivy_pagetable.specs.declared.PutOff.{PutOff}
use Rattle.ivy_pagetable.specs.declared.Request.TheVariants as request
use Rattle.ivy_pagetable.specs.stated.NodeSets.{Nodes, nodes_with}
use Rattle.ivy_pagetable.specs.stated.States.{IdleState, WaitingState, AwaitWriteState, AwaitAcksState}
use Rattle.ivy_pagetable.specs.stated.Entries.{put_offs, with_put_off}
use Rattle.ivy_coherence.specs.stated.Fetching.{joined_by}
use Rattle.ivy_coherence.specs.stated.Serving.{invalidations}
use Rattle.ivy_dynamic.specs.stated.Dynamic.{Hints, hint_of, hinted, dynamic_ops}
use Rattle.proof_table.specs.stated.Letters.{Letter, Net, Underway, Aside, Loose, content_of, letter_of}
use Rattle.proof_table.specs.transitions.Letters.{goes_on, installs}
use Rattle.proof_table.specs.transitions.TableSteps.{Served, Comes, Begins, PutsOff, Joins, Notice, Silent, Asked, Forwarded, Given, Replied, Invalidated, Row, IsNamedBy, noticed, with_manager, letter}
use Rattle.proof_table.proofs.transitions.Opening.{IsFirst}
use Rattle.proof_table.proofs.transitions.Parcels.{IsThe, IsNone, IsOrder, answer_step, ask_step, orders_step, free_step, stay_step}
use Rattle.proof_table.proofs.transitions.Places.{written_here, written-other, same_or_other, served, freed}
use Rattle.proof_table.proofs.transitions.RowsJoined.{joined_kept}
use Rattle.proof_table.proofs.routing.FirstLetters.{no_letter}
use Rattle.proof_table.proofs.routing.HintedKept.{hinted_descends}
use Rattle.proof_table.proofs.routing.Managers.{told_here, told_else}
use Rattle.proof_table.proofs.routing.NoBreach.{no_breach}
use Rattle.proof_table.proofs.routing.Old.{put_off_step}
use Rattle.proof_answers.specs.late.Late.{IsRequest, IsOut, Hop, Leads, first, hop_led, AreSteady, AreOrdered, PutOffOrders, IsSteady}
use Rattle.proof_answers.specs.late.LateLaws.{IsBefore}
use Rattle.proof_answers.proofs.late.LateNets.{request_page}
use Rattle.proof_answers.proofs.late.LateFacts.{same_reading}
use Rattle.proof_answers.proofs.late.LateSending.{posted_letter}
use Rattle.proof_answers.proofs.late.LateKept.{IsLateKept}
use Rattle.proof_answers.proofs.late.LateTable.{late_row}
use Rattle.proof_answers.proofs.late.LateBack.{IsBack, ordered_back, step_back, installed_back, same_back, taken_back, orders_written, no_reader, put_orders, put_reader, joined_reader}

-- a manager that is told of a change is as steady as before
told_steady : (m : ℕ → Hints) (x : ℕ) (s : Hints) (i : ℕ) → s.steady ≡ (m x).steady
    → (with_manager m x s i).steady ≡ (m i).steady
told_steady m x s i same = elim (cases_eq i x) [
  | inl it ↦
      ap (λ (v : Hints). v.steady) (told_here m x s i it) ∙ same
      ∙ ap (λ j. (m j).steady) (sym it)
  | inr ne ↦ ap (λ (v : Hints). v.steady) (told_else m x s i ne)
]

either_steady : (b : Bool) (s : Hints) (q o : ℕ)
    → (if b then s else hinted s q o).steady ≡ s.steady
either_steady true s q o = refl
either_steady false s q o = refl

forward_steady : (b : Bool) (s : Hints) (q o : ℕ)
    → (if b then hinted s q o else s).steady ≡ s.steady
forward_steady true s q o = refl
forward_steady false s q o = refl

noticed_steady : (m : ℕ → Hints) (notice : Notice) (i : ℕ)
    → (noticed dynamic_ops m notice i).steady ≡ (m i).steady
noticed_steady m Silent i = refl
noticed_steady m (Asked x p hop) i = refl
noticed_steady m (Forwarded x p write origin hop) i =
    told_steady m x _ i (forward_steady write (m x) p origin)
noticed_steady m (Given x p to) i = told_steady m x _ i refl
noticed_steady m (Replied x p write from) i = told_steady m x _ i refl
noticed_steady m (Invalidated x p by) i =
    told_steady m x _ i (either_steady (m x).steady (m x) p by)

-- the states that await no copy
plain_idle : (s : IdleState) (t : WaitingState) → entry.Idle s ≡ entry.AwaitRead t → ⊥
plain_idle s t h = cc

plain_write : (s : AwaitWriteState) (t : WaitingState) → entry.AwaitWrite s ≡ entry.AwaitRead t → ⊥
plain_write s t h = cc

plain_acks : (s : AwaitAcksState) (t : WaitingState) → entry.AwaitAcks s ≡ entry.AwaitRead t → ⊥
plain_acks s t h = cc

-- what a row leaves
record IsSteadyRow (n n' : Net) : Type 0 where
  orders : PutOffOrders n'
  back : IsBack n n'

no_asks : (l : Letter) (body : Content) (p j : ℕ) → l.message.content ≡ body
    → (body ≡ content.ReadReq p → ⊥) → (body ≡ content.WriteReq p → ⊥) → IsRequest p j l → ⊥
no_asks l body p j is one two asks = elim asks.1 [
  | inl h ↦ one (sym is ∙ h)
  | inr h ↦ two (sym is ∙ h)
]

module _ (c : Config) (n : Net) (was : PutOffOrders n) where
  -- a letter is served at an entry, and one is posted
  answered : {T : Type 0} {at : T → Entry} {ask : ℕ → Content} (r : Served c n at ask) (z : Entry)
      (dest : ℕ) (body : Content)
      → ((k : ℕ) (q : PutOff) → slice_get (put_offs z) k ≡ Some q
      → slice_get (put_offs (at r.state)) k ≡ Some q)
      → ((t : WaitingState) → z ≡ entry.AwaitRead t
      → (s : WaitingState) × (at r.state ≡ entry.AwaitRead s) × (t.put_off ≡ s.put_off))
      → ((p j : ℕ) → IsRequest p j (letter r.node dest r.origin r.call body)
      → body ≡ ask r.page)
      → IsSteadyRow n
      (goes_on n r.node r.page z r.rest (parcel_to r.node dest r.origin r.call body ∷ []))
  answered {at = at} {ask = ask} r z dest body still reading same = record {
    orders = orders_written n r.node r.page z was (λ s k q is h. (
        let it = reading s is in
        was r.node r.page k it.0 q (r.is ∙ it.1)
        (ap (λ v. slice_get v k) (sym it.2) ∙ h)
        ));
    back = step_back n n' r.node r.page (at r.state) z served
        (IsThe (Underway r.node dest (length (n.posted r.node dest)))
        (letter r.node dest r.origin r.call body))
        (answer_step n r.node r.page (at r.state) z
        (letter r.from r.node r.origin r.call (ask r.page)) r.rest dest r.origin r.call body r.is
        r.loose still)
        (λ t is. (let it = reading t is in (it.0, it.1)))
        (λ a l p j t it asks is. (
        let mine : IsRequest p j (letter r.node dest r.origin r.call body) =
        subst (IsRequest p j) it.1 asks in
        record {
          at = Loose 0;
          letter = letter r.from r.node r.origin r.call (ask r.page);
          there = ap (λ v. slice_get v 0) r.loose;
          asks = (
            mine.0,
            subst (λ v. (v ≡ content.ReadReq p) ⊎ (v ≡ content.WriteReq p)) (same p j mine)
                mine.1,
          );
        }
        ));
  }
    where
      n' : Net
      n' = goes_on n r.node r.page z r.rest (parcel_to r.node dest r.origin r.call body ∷ [])

  -- a message is put off
  put_aside : (r : PutsOff c n)
      → ((s : WaitingState) → r.before ≡ entry.AwaitRead s → r.later.kind ≡ request.Invalidate)
      → IsSteadyRow n (goes_on n r.node r.page (with_put_off r.before r.later) r.rest [])
  put_aside r kept = record {
    orders = orders_written n r.node r.page (with_put_off r.before r.later) was
        (put_orders c n r kept was);
    back = step_back n (goes_on n r.node r.page (with_put_off r.before r.later) r.rest []) r.node
        r.page r.before (with_put_off r.before r.later) served
        (IsThe (Aside r.node r.page (length (put_offs r.before))) (letter_of r.node r.page r.later))
        (put_off_step n r.node r.page r.from r.later r.before r.rest r.loose r.is r.room)
        (put_reader c n r)
        (λ a l p j t it asks is. record {
          at = Loose 0;
          letter =
              letter r.from r.node r.later.origin r.later.call (content_of r.later.kind r.page);
          there = ap (λ v. slice_get v 0) r.loose;
          asks = subst (IsRequest p j) it.1 asks;
        });
  }

  -- what a word waits for comes: what was put off is loose
  came : {T : Type 0} {at : T → Entry} {bring : ℕ → Content} (r : Comes c n at bring)
      (z : IdleState)
      → IsSteadyRow n
      (goes_on n r.node r.page (entry.Idle z)
      (map (letter_of r.node r.page) (put_offs (at r.state))) [])
  came {at = at} r z = record {
    orders = orders_written n r.node r.page (entry.Idle z) was (no_reader (plain_idle z));
    back = step_back n n' r.node r.page (at r.state) (entry.Idle z) (freed r.node r.page) IsNone
        (free_step n r.node r.page (at r.state) (entry.Idle z) (put_offs (at r.state)) r.is refl
        refl)
        (λ t is. absurd (plain_idle z t is)) (λ a l p j t it asks is. absurd it);
  }
    where
      n' : Net
      n' = goes_on n r.node r.page (entry.Idle z)
          (map (letter_of r.node r.page) (put_offs (at r.state))) []

  -- orders to give copies up go out
  ordered_out : {e : Entry} (x p call : ℕ) (s : AwaitAcksState) (nodes : Nodes)
      → n.entry x p ≡ e
      → ((k : ℕ) (q : PutOff) → slice_get (put_offs (entry.AwaitAcks s)) k ≡ Some q
      → slice_get (put_offs e) k ≡ Some q)
      → IsSteadyRow n (goes_on n x p (entry.AwaitAcks s) [] (invalidations x p call nodes))
  ordered_out {e} x p call s nodes is still = record {
    orders = orders_written n x p (entry.AwaitAcks s) was (no_reader (plain_acks s));
    back = step_back n (goes_on n x p (entry.AwaitAcks s) [] (invalidations x p call nodes)) x p e
        (entry.AwaitAcks s) served (IsOrder n x p call nodes)
        (orders_step n x p e (entry.AwaitAcks s) call nodes is still)
        (λ t h. absurd (plain_acks s t h))
        (λ a l q j t it asks h. absurd (
        no_asks l (content.Inval p) q j (ap (λ (v : Letter). v.message.content) it.3) (λ g. cc)
        (λ g. cc) asks));
  }

  -- an acknowledgement comes, and others are missing
  fewer : {e : Entry} (x p : ℕ) (s : AwaitAcksState) → n.entry x p ≡ e
      → ((k : ℕ) (q : PutOff) → slice_get (put_offs (entry.AwaitAcks s)) k ≡ Some q
      → slice_get (put_offs e) k ≡ Some q)
      → IsSteadyRow n (goes_on n x p (entry.AwaitAcks s) [] [])
  fewer {e} x p s is still = record {
    orders = orders_written n x p (entry.AwaitAcks s) was (no_reader (plain_acks s));
    back = step_back n (goes_on n x p (entry.AwaitAcks s) [] []) x p e (entry.AwaitAcks s) served
        IsNone (stay_step n x p e (entry.AwaitAcks s) is still) (λ t h. absurd (plain_acks s t h))
        (λ a l q j t it asks h. absurd it);
  }

  -- a word joins the fetch of its page
  joined : (r : Joins c n)
      → IsSteadyRow n (goes_on n r.node r.page (joined_by r.before r.word) [] [])
  joined r = record {
    orders = orders_written n r.node r.page (joined_by r.before r.word) was (λ s k q is h. (
        let it = joined_reader r.before r.word s is in
        was r.node r.page k it.0 q (r.is ∙ it.1)
        (ap (λ v. slice_get v k) (sym it.2) ∙ h)
        ));
    back = step_back n (goes_on n r.node r.page (joined_by r.before r.word) [] []) r.node r.page
        r.before (joined_by r.before r.word) served IsNone
        (stay_step n r.node r.page r.before (joined_by r.before r.word) r.is
        (joined_kept r.before r.word))
        (λ t is. (let it = joined_reader r.before r.word t is in (it.0, it.1)))
        (λ a l p j t it asks is. absurd it);
  }

  -- bytes are installed
  installed : {n' : Net} (x p : ℕ) (bytes : List ℕ) → IsSteadyRow n n'
      → IsSteadyRow n (installs n' x p bytes)
  installed {n'} x p bytes row =
      record { orders = row.orders; back = installed_back n n' x p bytes row.back }

  -- a node asks for the page
  asked_page : (r : Begins c n) (s : AwaitWriteState) (hop : ℕ) → s.waiting.put_off ≡ []
      → IsSteadyRow n
      (goes_on n r.node r.page (entry.AwaitWrite s) []
      (parcel_to r.node hop r.node r.call (content.WriteReq r.page) ∷ []))
  asked_page r s hop none = record {
    orders = orders_written n r.node r.page (entry.AwaitWrite s) was (no_reader (plain_write s));
    back = step_back n n' r.node r.page (entry.Idle r.state) (entry.AwaitWrite s) served
        (IsThe (Underway r.node hop (length (n.posted r.node hop)))
        (letter r.node hop r.node r.call (content.WriteReq r.page)))
        (ask_step n r.node r.page (entry.Idle r.state) (entry.AwaitWrite s) hop r.node r.call
        (content.WriteReq r.page) r.is r.loose
        (λ k q h. absurd (none-some q (ap (λ v. slice_get v k) (sym none) ∙ h))))
        (λ t h. absurd (plain_write s t h))
        (λ a l p j t it asks h. absurd (
        let mine : IsRequest p j (letter r.node hop r.node r.call (content.WriteReq r.page)) =
        subst (IsRequest p j) it.1 asks in
        let page : r.page ≡ p =
        request_page p j (letter r.node hop r.node r.call (content.WriteReq r.page)) mine in
        plain_write s t
        (sym (written_here n.entry r.node r.page (entry.AwaitWrite s) j p (sym mine.0) (sym page))
        ∙ h)
        ));
  }
    where
      n' : Net
      n' = goes_on n r.node r.page (entry.AwaitWrite s) []
          (parcel_to r.node hop r.node r.call (content.WriteReq r.page) ∷ [])

-- a node asks for a copy: its hint leads where its own request goes
module _ (c : Config) (m : ℕ → Hints) (n : Net) (b : IsBefore c m n) (r : Begins c n)
    (s : WaitingState) (hop : ℕ) (none : s.put_off ≡ []) (way : hop ≡ hint_of (m r.node) r.page)
  where
    abbrev asking_net : Net
    asking_net = goes_on n r.node r.page (entry.AwaitRead s) []
        (parcel_to r.node hop r.node r.call (content.ReadReq r.page) ∷ [])

    abbrev new : Letter
    new = letter r.node hop r.node r.call (content.ReadReq r.page)

    asking_orders : PutOffOrders asking_net
    asking_orders =
        orders_written n r.node r.page (entry.AwaitRead s) b.steady.orders (λ t k q is h. absurd (
        none-some q
        (ap (λ v. slice_get v k) (sym none)
        ∙ ap (λ (v : WaitingState). slice_get v.put_off k) (same_reading refl is) ∙ h)
        ))

    -- of that node
    own_ordered : (z : ℕ) → z ≡ r.node → Leads c.nodes m asking_net r.page z (λ y. ⊥) (Hop z)
    own_ordered z same =
        subst (λ v. Leads c.nodes m asking_net r.page v (λ y. ⊥) (Hop v)) (sym same)
        (hop_led r.node (record {
          at = Underway r.node hop (length (n.posted r.node hop) + 0);
          letter = new;
          chained = first (Underway r.node hop (length (n.posted r.node hop) + 0)) new
              (posted_letter n r.node r.page (entry.AwaitRead s) [] hop r.node r.call
              (content.ReadReq r.page) b.counted)
              (refl, inl refl);
          dest = way;
          leads = inr refl;
        }))

    -- of another one, or at another page
    other_out : (z p : ℕ) → (z ≢ r.node) ⊎ (p ≢ r.page) → IsOut asking_net p z → IsOut n p z
    other_out z p other out =
        elim ((ask_step n r.node r.page (entry.Idle r.state) (entry.AwaitRead s) hop r.node r.call
        (content.ReadReq r.page) r.is r.loose
        (λ k q h. absurd (none-some q (ap (λ v. slice_get v k) (sym none) ∙ h)))).letters out.at
        out.letter out.there) [
          | inl h ↦ record { at = h.0; letter = out.letter; there = h.1; asks = out.asks }
          | inr h ↦ absurd (
              let mine : IsRequest p z new = subst (IsRequest p z) h.1 out.asks in
              elim other [
                | inl ne ↦ ne (sym mine.0)
                | inr ne ↦ ne (sym (request_page p z new mine))
              ]
              )
        ]

    asking_ordered
        : ((p o : ℕ) → IsOut n p o → IsOut asking_net p o → IsLateKept c.nodes m m n asking_net p o)
        → (p : ℕ) → AreOrdered c.nodes m asking_net p
    asking_ordered kept p z t is out = elim (same_or_other z p r.node r.page) [
      | inl same ↦
          subst (λ v. Leads c.nodes m asking_net v z (λ y. ⊥) (Hop z)) (sym same.1)
          (own_ordered z same.0)
      | inr other ↦ (
          let was : n.entry z p ≡ entry.AwaitRead t =
          sym (written-other n.entry r.node r.page (entry.AwaitRead s) z p other) ∙ is in
          let before : IsOut n p z = other_out z p other out in
          (kept p z before out).hop t t was is (b.steady.ordered p z t was before)
          )
    ]

no_copy_asked : (p q : ℕ) (bytes : List ℕ) (other : Content)
    → (content.ReadRep q bytes ≡ content.ReadReq p) ⊎ (content.ReadRep q bytes ≡ content.WriteReq p)
    → content.ReadRep q bytes ≡ other
no_copy_asked p q bytes other asks = absurd (elim asks [ inl h ↦ cc | inr h ↦ cc ])

no_page_asked : (p q bits : ℕ) (bytes : List ℕ) (other : Content)
    → (content.WriteRep q bits bytes ≡ content.ReadReq p)
    ⊎ (content.WriteRep q bits bytes ≡ content.WriteReq p) → content.WriteRep q bits bytes ≡ other
no_page_asked p q bits bytes other asks = absurd (elim asks [ inl h ↦ cc | inr h ↦ cc ])

no_back_asked : (p q : ℕ) (body other : Content) → body ≡ content.InvalAck q
    → (body ≡ content.ReadReq p) ⊎ (body ≡ content.WriteReq p) → body ≡ other
no_back_asked p q body other is asks = absurd (elim asks [
  | inl h ↦ (let f : content.InvalAck q ≡ content.ReadReq p = sym is ∙ h in cc)
  | inr h ↦ (let f : content.InvalAck q ≡ content.WriteReq p = sym is ∙ h in cc)
])

module _ (c : Config) (config : IsConfig c) where
  done : {m : ℕ → Hints} {n : Net} {f : ℕ → List ℕ} {notice : Notice} {n' : Net} {f' : ℕ → List ℕ}
      → Row true c n f notice n' f' → IsNamedBy dynamic_ops c m notice → IsBefore c m n
      → IsSteadyRow n n' → IsSteady c (noticed dynamic_ops m notice) n'
  done {m = m} {n = n} {notice = notice} {n' = n'} row of b leaves = record {
    hints = λ i lt. noticed_steady m notice i ∙ b.steady.hints i lt;
    orders = leaves.orders;
    ordered = ordered_back c.nodes m (noticed dynamic_ops m notice) n n' leaves.back
        b.steady.ordered (late_row c config row of b);
  }

  pub steady_row : {m : ℕ → Hints} {n : Net} {f : ℕ → List ℕ} {notice : Notice} {n' : Net}
      {f' : ℕ → List ℕ} → Row true c n f notice n' f' → IsNamedBy dynamic_ops c m notice
      → IsBefore c m n → IsSteady c (noticed dynamic_ops m notice) n'
  steady_row {n = n} {f = f} (Row.carries r) of b =
      done {f = f} (Row.carries r) of b
      (installed c n b.steady.orders r.node r.page _
      (record { orders = b.steady.orders; back = same_back n }))
  steady_row {n = n} {f = f} (Row.takes r) of b =
      done {f = f} (Row.takes r) of b (record { orders = b.steady.orders; back = taken_back n r })
  steady_row {m = m} {n = n} {f = f} (Row.drops r) of b =
      absurd (no_breach n (hinted_descends c m n b.order b.hinted) c config b.order r.node r.old
      r.rest r.here r.loose r.dest r.misfits)
  steady_row {n = n} {f = f} (Row.shares r owner low) of b =
      done {f = f} (Row.shares r owner low) of b
      (answered c n b.steady.orders r _ r.origin _ (λ k q h. h) (λ t h. absurd (plain_idle _ t h))
      (λ p j asks. no_copy_asked p r.page (n.page r.node r.page) _ asks.1))
  steady_row {n = n} {f = f} (Row.gives r owner low) of b =
      done {f = f} (Row.gives r owner low) of b
      (answered c n b.steady.orders r _ r.origin _ (λ k q h. h) (λ t h. absurd (plain_idle _ t h))
      (λ p j asks. no_page_asked p r.page _ (n.page r.node r.page) _ asks.1))
  steady_row {n = n} {f = f} (Row.sends_on_read r hop plain away) of b =
      done {f = f} (Row.sends_on_read r hop plain away) of b
      (answered c n b.steady.orders r _ hop _ (λ k q h. h) (λ t h. absurd (plain_idle _ t h))
      (λ p j asks. refl))
  steady_row {n = n} {f = f} (Row.sends_on_write r hop plain away) of b =
      done {f = f} (Row.sends_on_write r hop plain away) of b
      (answered c n b.steady.orders r _ hop _ (λ k q h. h) (λ t h. absurd (plain_idle _ t h))
      (λ p j asks. refl))
  steady_row {n = n} {f = f} (Row.reader_sends_on_read r hop sends away) of b =
      done {f = f} (Row.reader_sends_on_read r hop sends away) of b
      (answered c n b.steady.orders r _ hop _ (λ k q h. h)
      (λ t h. (r.state, refl, ap (λ (v : WaitingState). v.put_off) (sym (same_reading refl h))))
      (λ p j asks. refl))
  steady_row {n = n} {f = f} (Row.reader_sends_on_write r hop sends away) of b =
      done {f = f} (Row.reader_sends_on_write r hop sends away) of b
      (answered c n b.steady.orders r _ hop _ (λ k q h. h)
      (λ t h. (r.state, refl, ap (λ (v : WaitingState). v.put_off) (sym (same_reading refl h))))
      (λ p j asks. refl))
  steady_row {n = n} {f = f} (Row.ends_copy r sender plain) of b =
      done {f = f} (Row.ends_copy r sender plain) of b
      (answered c n b.steady.orders r _ r.origin _ (λ k q h. h) (λ t h. absurd (plain_idle _ t h))
      (λ p j asks. no_back_asked p r.page _ _ refl asks.1))
  steady_row {n = n} {f = f} (Row.gives_up r sender) of b =
      done {f = f} (Row.gives_up r sender) of b
      (answered c n b.steady.orders r _ r.origin _ (λ k q h. h) (λ t h. absurd (plain_write _ t h))
      (λ p j asks. no_back_asked p r.page _ _ refl asks.1))
  steady_row {n = n} {f = f} (Row.puts_off r kept) of b =
      done {f = f} (Row.puts_off r kept) of b
      (put_aside c n b.steady.orders r (λ s is. kept s is refl))
  steady_row {n = n} {f = f} (Row.copy_comes bytes r same quiet) of b =
      done {f = f} (Row.copy_comes bytes r same quiet) of b
      (installed c n b.steady.orders r.node r.page bytes (came c n b.steady.orders r _))
  steady_row {n = n} {f = f} (Row.copy_comes_late bytes r same sent) of b =
      done {f = f} (Row.copy_comes_late bytes r same sent) of b
      (installed c n b.steady.orders r.node r.page bytes (came c n b.steady.orders r _))
  steady_row {n = n} {f = f} (Row.page_comes copies bytes r same none) of b =
      done {f = f} (Row.page_comes copies bytes r same none) of b
      (installed c n b.steady.orders r.node r.page bytes (came c n b.steady.orders r _))
  steady_row {n = n} {f = f} (Row.page_comes_shared copies bytes r same some out low) of b =
      done {f = f} (Row.page_comes_shared copies bytes r same some out low) of b
      (installed c n b.steady.orders r.node r.page bytes
      (ordered_out c n b.steady.orders r.node r.page r.call _ (nodes_with copies) r.is
      (λ k q h. h)))
  steady_row {n = n} {f = f} (Row.acknowledges r same left more) of b =
      done {f = f} (Row.acknowledges r same left more) of b
      (fewer c n b.steady.orders r.node r.page _ r.is (λ k q h. h))
  steady_row {n = n} {f = f} (Row.acknowledges_last r same left last) of b =
      done {f = f} (Row.acknowledges_last r same left last) of b (came c n b.steady.orders r _)
  steady_row {m = m} {n = n} {f = f} (Row.asks_copy r hop plain unread away) of b = record {
    hints = b.steady.hints;
    orders = asking_orders c m n b r _ hop refl of.1;
    ordered = asking_ordered c m n b r _ hop refl of.1
        (late_row c config {f = f} (Row.asks_copy r hop plain unread away) of b);
  }
  steady_row {n = n} {f = f} (Row.asks_page r hop plain away) of b =
      done {f = f} (Row.asks_page r hop plain away) of b
      (asked_page c n b.steady.orders r _ hop refl)
  steady_row {n = n} {f = f} (Row.ends_copies r owner reader unwritten low away) of b =
      done {f = f} (Row.ends_copies r owner reader unwritten low away) of b
      (ordered_out c n b.steady.orders r.node r.page r.call _ r.state.copies r.is
      (λ k q h. absurd (none-some q h)))
  steady_row {n = n} {f = f} (Row.joins r) of b =
      done {f = f} (Row.joins r) of b (joined c n b.steady.orders r)

-- at first there is no request, and nobody awaits a copy
pub first_steady : (c : Config) (m : ℕ → Hints) (n : Net) → IsFirst n → AreSteady c m
    → IsSteady c m n
first_steady c m n begins steady = record {
  hints = steady;
  orders = λ x p k s q is at. elim (begins.entries x p) [
    | inl h ↦ absurd (plain_idle _ s (sym h.1 ∙ is))
    | inr h ↦ absurd (plain_idle _ s (sym h ∙ is))
  ];
  ordered = λ p x s is out. absurd (no_letter n begins out.at out.letter out.there);
}
