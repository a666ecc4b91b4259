-- Late nodes stay late where a word begins to wait, where a copy is given up or a message put off,
-- and where what a word waits for comes.
use Rattle.std.proofs.Common.{◌≡◌, ◌⊎◌, ◌<◌, ◌+◌, ℕ, suc, true, false, List, [], ◌∷◌, length, slice_get, refl, sym, ap, ◌∙◌, subst, inl, inr, arith}
use Rattle.std.proofs.lemmas.Bool.{both_ways}
use Rattle.std.proofs.lemmas.Option.{same_Some, none-some}
use Rattle.ivy_model.specs.declared.Config.{Config}
use Rattle.ivy_wire.specs.declared.Content.TheVariants as content
use Rattle.ivy_wire.specs.stated.Data.{Content, Parcel}
use Rattle.ivy_wire.specs.stated.Posts.{parcel_to}
use Rattle.ivy_pagetable.specs.declared.Entry.{Entry}
use Rattle.ivy_pagetable.specs.declared.Entry.TheVariants as entry
use Rattle.ivy_pagetable.specs.stated.States.{IdleState, WaitingState, AwaitWriteState}
use Rattle.ivy_pagetable.specs.stated.Entries.{can_put_off, with_put_off}
use Rattle.ivy_coherence.specs.stated.Fetching.{joined_by}
use Rattle.ivy_dynamic.specs.stated.Dynamic.{Hints, hint_of}
use Rattle.proof_table.specs.stated.Letters.{Letter, Net, Loose, IsAt}
use Rattle.proof_table.specs.stated.Orderly.{IsOrderly}
use Rattle.proof_table.specs.transitions.Letters.{goes_on}
use Rattle.proof_table.specs.transitions.TableSteps.{PutsOff, Joins, letter}
use Rattle.proof_table.proofs.transitions.Places.{written_here, served}
use Rattle.proof_table.proofs.transitions.RowsJoined.{joined_stays}
use Rattle.proof_table.proofs.routing.Remaining.{StaysPutOff, IsCounted}
use Rattle.proof_answers.specs.late.Late.{IsRequest, IsOut, idle, sent_on, reads, writes, AreOrdered}
use Rattle.proof_answers.proofs.late.LateSteps.{IsInOrder, IsLateStill, hop_of, new_late}
use Rattle.proof_answers.proofs.late.LateNets.{IsFirst, IsNoPlace, served_order}
use Rattle.proof_answers.proofs.late.LateMoves.{placed, put_order}
use Rattle.proof_answers.proofs.late.LateFacts.{idle_reading, idle_writing, reading_writing}
use Rattle.proof_answers.proofs.late.LateSending.{posted_letter}
use Rattle.proof_answers.proofs.late.LateKept.{IsLateKept, quiet_kept}

-- A node that waits for nothing, and does not own the page, asks for a copy or for the page.
module _ (c : Config) (m : ℕ → Hints) (n : Net) (order : IsOrderly c n) (counted : IsCounted n)
    (p o x call hop : ℕ) (body : Content) (s : IdleState) (z : Entry) (here : x < c.nodes)
    (is : n.entry x p ≡ entry.Idle s) (none : n.loose ≡ [])
    (asks : (body ≡ content.ReadReq p) ⊎ (body ≡ content.WriteReq p))
    (way : hop ≡ hint_of (m x) p) (ordered : AreOrdered c.nodes m n p) (out : IsOut n p o) where
  abbrev asked_net : Net
  asked_net = goes_on n x p z [] (parcel_to x hop x call body ∷ [])

  asked_order : IsInOrder m m n asked_net p o x served IsFirst ⊥
  asked_order =
      served_order n x p (entry.Idle s) z [] (parcel_to x hop x call body ∷ []) is
      (λ j q h. absurd (none-some q h))
      (λ k l h. absurd (none-some l (ap (λ v. slice_get v (suc k)) (sym none) ∙ h))) m m p o ⊥
      (λ i l at wants. absurd (none-some l (ap (λ v. slice_get v 0) (sym none) ∙ at)))
      (λ y ne. refl)

  entry_now : asked_net.entry x p ≡ z
  entry_now = written_here n.entry x p z x p refl refl

  asked_still : (First : ℕ → Type 0)
      → ((w : WaitingState) × (z ≡ entry.AwaitRead w))
      ⊎ ((w : AwaitWriteState) × (z ≡ entry.AwaitWrite w))
      → IsLateStill m m n asked_net p o x served IsFirst ⊥ c.nodes First
  asked_still First waits = record {
    at_served = λ u i l at wants to late. absurd u;
    at_idle = λ lt t h plain led. (
        let own =
        new_late m m n asked_net p o x served IsFirst ⊥ c.nodes First x hop x
        (length (n.posted x hop) + 0) (letter x hop x call body) way
        (posted_letter n x p z [] hop x call body counted) (refl, asks) refl (omega arith) led in
        elim waits [
          | inl w ↦
              reads x lt w.0 (entry_now ∙ w.1)
              (hop_of m m n asked_net p o x served IsFirst ⊥ c.nodes First x refl led) own
          | inr w ↦ writes x lt w.0 (entry_now ∙ w.1) own
        ]
        );
    at_sent_on = λ lt t h on led. absurd (idle_reading is h);
    at_reads = λ lt t h asked led own. absurd (idle_reading is h);
    at_writes = λ lt t h asked own. absurd (idle_writing is h);
    at_hop = λ t u h k led. absurd (idle_reading is h);
  }

  pub asked_kept : ((w : WaitingState) × (z ≡ entry.AwaitRead w))
      ⊎ ((w : AwaitWriteState) × (z ≡ entry.AwaitWrite w))
      → IsLateKept c.nodes m m n asked_net p o
  asked_kept waits =
      quiet_kept c.nodes m m n asked_net p o x served IsFirst ⊥ ordered out asked_order (λ f. f)
      (λ First starts. asked_still First waits)

-- An owner that waits for nothing tells the others to give their copies up.
module _ (nodes : ℕ) (m : ℕ → Hints) (n : Net) (p o x : ℕ) (s : IdleState) (z : Entry)
    (parcels : List Parcel) (is : n.entry x p ≡ entry.Idle s) (none : n.loose ≡ [])
    (owner : s.owner ≡ true) (ordered : AreOrdered nodes m n p) (out : IsOut n p o) where
  abbrev ended_net : Net
  ended_net = goes_on n x p z [] parcels

  pub ended_kept : IsLateKept nodes m m n ended_net p o
  ended_kept =
      quiet_kept nodes m m n ended_net p o x served IsFirst ⊥ ordered out
      (served_order n x p (entry.Idle s) z [] parcels is (λ j q h. absurd (none-some q h))
      (λ k l h. absurd (none-some l (ap (λ v. slice_get v (suc k)) (sym none) ∙ h))) m m p o ⊥
      (λ i l at wants. absurd (none-some l (ap (λ v. slice_get v 0) (sym none) ∙ at)))
      (λ y ne. refl)) (λ f. f)
      (λ First starts. record {
        at_served = λ u i l at wants to late. absurd u;
        at_idle = λ lt t h plain led. absurd (
            let same : entry.Idle s ≡ entry.Idle t = sym is ∙ h in
            let it : s ≡ t = cc in
            both_ways s.owner (ap (λ (v : IdleState). v.owner) it ∙ plain) owner
            );
        at_sent_on = λ lt t h on led. absurd (idle_reading is h);
        at_reads = λ lt t h asked led own. absurd (idle_reading is h);
        at_writes = λ lt t h asked own. absurd (idle_writing is h);
        at_hop = λ t u h k led. absurd (idle_reading is h);
      })

-- A copy is given up: by a node that waits for nothing, or that awaits the page.
module _ (nodes : ℕ) (m m' : ℕ → Hints) (n : Net) (p o x from i call : ℕ) (e z : Entry)
    (rest : List Letter) (parcels : List Parcel)
    (loose : n.loose ≡ letter from x i call (content.Inval p) ∷ rest) (is : n.entry x p ≡ e)
    (put : StaysPutOff e z) (hints : (y : ℕ) → hint_of (m' y) p ≡ hint_of (m y) p)
    (how : ((s t : IdleState) × (e ≡ entry.Idle s) × (z ≡ entry.Idle t) × (t.owner ≡ false))
    ⊎ ((s t : AwaitWriteState) × (e ≡ entry.AwaitWrite s) × (z ≡ entry.AwaitWrite t)))
    (ordered : AreOrdered nodes m n p) (out : IsOut n p o) where
  abbrev given_up : Net
  given_up = goes_on n x p z rest parcels

  no_request : (j : ℕ) (l : Letter) → IsAt n (Loose 0) l → IsRequest p j l → ⊥
  no_request j l at asks =
      let it : letter from x i call (content.Inval p) ≡ l =
      same_Some _ l (ap (λ v. slice_get v 0) (sym loose) ∙ at) in
      let says : content.Inval p ≡ l.message.content = ap (λ (v : Letter). v.message.content) it in
      elim asks.1 [
        | inl h ↦ (let f : content.Inval p ≡ content.ReadReq p = says ∙ h in cc)
        | inr h ↦ (let f : content.Inval p ≡ content.WriteReq p = says ∙ h in cc)
      ]

  up_order : IsInOrder m m' n given_up p o x served IsFirst ⊥
  up_order =
      served_order n x p e z rest parcels is put
      (λ k l h. ap (λ v. slice_get v (suc k)) (sym loose) ∙ h) m m' p o ⊥
      (λ j l at asks. absurd (no_request j l at asks)) (λ y ne. hints y)

  up_now : given_up.entry x p ≡ z
  up_now = written_here n.entry x p z x p refl refl

  pub given_up_kept : IsLateKept nodes m m' n given_up p o
  given_up_kept =
      quiet_kept nodes m m' n given_up p o x served IsFirst ⊥ ordered out up_order (λ f. f)
      (λ First starts. record {
        at_served = λ u j l at wants to late. absurd u;
        at_idle = λ lt r h plain led. elim how [
          | inl w ↦
              idle x lt w.1 (up_now ∙ w.3) w.4
              (hop_of m m' n given_up p o x served IsFirst ⊥ nodes First x (hints x) led)
          | inr w ↦ absurd (idle_writing h (is ∙ w.2))
        ];
        at_sent_on = λ lt r h on led. absurd (elim how [
          | inl w ↦ idle_reading (is ∙ w.2) h
          | inr w ↦ reading_writing h (is ∙ w.2)
        ]);
        at_reads = λ lt r h asked led own. absurd (elim how [
          | inl w ↦ idle_reading (is ∙ w.2) h
          | inr w ↦ reading_writing h (is ∙ w.2)
        ]);
        at_writes = λ lt r h asked own. elim how [
          | inl w ↦ absurd (idle_writing (is ∙ w.2) h)
          | inr w ↦ writes x lt w.1 (up_now ∙ w.3) own
        ];
        at_hop = λ r u h k led. absurd (elim how [
          | inl w ↦ idle_reading (is ∙ w.2) h
          | inr w ↦ reading_writing h (is ∙ w.2)
        ]);
      })

-- A message is put off.
module _ (c : Config) (m : ℕ → Hints) (n : Net) (r : PutsOff c n) (o : ℕ)
    (ordered : AreOrdered c.nodes m n r.page) (out : IsOut n r.page o) where
  open r use {node as x, page as p, later, before as e, rest, is, room}

  abbrev put_net : Net
  put_net = goes_on n x p (with_put_off e later) rest []

  put_now : (v : Entry) → n.entry x p ≡ v → put_net.entry x p ≡ with_put_off v later
  put_now v h =
      written_here n.entry x p (with_put_off e later) x p refl refl
      ∙ ap (λ w. with_put_off w later) (sym is ∙ h)

  not_idle : (s : IdleState) → n.entry x p ≡ entry.Idle s → ⊥
  not_idle s h =
      (let f : false ≡ true = subst (λ v. can_put_off v ≡ true) (sym is ∙ h) room in cc)

  pub put_kept : IsLateKept c.nodes m m n put_net p o
  put_kept =
      quiet_kept c.nodes m m n put_net p o x (placed c n r m p o) IsNoPlace ⊥ ordered out
      (put_order c n r m p o) (λ f. f)
      (λ First starts. record {
        at_served = λ u j l at wants to late. absurd u;
        at_idle = λ lt s h plain led. absurd (not_idle s h);
        at_sent_on = λ lt s h on led.
            sent_on x lt _ (put_now (entry.AwaitRead s) h) on
            (hop_of m m n put_net p o x (placed c n r m p o) IsNoPlace ⊥ c.nodes First x refl led);
        at_reads = λ lt s h asked led own.
            reads x lt _ (put_now (entry.AwaitRead s) h)
            (hop_of m m n put_net p o x (placed c n r m p o) IsNoPlace ⊥ c.nodes First x refl led)
            own;
        at_writes = λ lt s h asked own. writes x lt _ (put_now (entry.AwaitWrite s) h) own;
        at_hop = λ s t h k led.
            hop_of m m n put_net p o x (placed c n r m p o) IsNoPlace ⊥ c.nodes First x refl led;
      })

-- A word joins the fetch of its page.
module _ (c : Config) (m : ℕ → Hints) (n : Net) (r : Joins c n) (o : ℕ)
    (ordered : AreOrdered c.nodes m n r.page) (out : IsOut n r.page o) where
  open r use {node as x, page as p, word as w, before as e, loose, is}

  abbrev joined_net : Net
  joined_net = goes_on n x p (joined_by e w) [] []

  joined_order : IsInOrder m m n joined_net p o x served IsFirst ⊥
  joined_order =
      served_order n x p e (joined_by e w) [] [] is (joined_stays e w)
      (λ k l h. absurd (none-some l (ap (λ v. slice_get v (suc k)) (sym loose) ∙ h))) m m p o ⊥
      (λ i l at wants. absurd (none-some l (ap (λ v. slice_get v 0) (sym loose) ∙ at)))
      (λ y ne. refl)

  joined_now : (v : Entry) → n.entry x p ≡ v → joined_net.entry x p ≡ joined_by v w
  joined_now v h =
      written_here n.entry x p (joined_by e w) x p refl refl
      ∙ ap (λ (u : Entry). joined_by u w) (sym is ∙ h)

  pub joins_kept : IsLateKept c.nodes m m n joined_net p o
  joins_kept =
      quiet_kept c.nodes m m n joined_net p o x served IsFirst ⊥ ordered out joined_order (λ f. f)
      (λ First starts. record {
        at_served = λ u j l at wants to late. absurd u;
        at_idle = λ lt s h plain led.
            idle x lt s (joined_now (entry.Idle s) h) plain
            (hop_of m m n joined_net p o x served IsFirst ⊥ c.nodes First x refl led);
        at_sent_on = λ lt s h on led.
            sent_on x lt _ (joined_now (entry.AwaitRead s) h) on
            (hop_of m m n joined_net p o x served IsFirst ⊥ c.nodes First x refl led);
        at_reads = λ lt s h asked led own.
            reads x lt _ (joined_now (entry.AwaitRead s) h)
            (hop_of m m n joined_net p o x served IsFirst ⊥ c.nodes First x refl led) own;
        at_writes = λ lt s h asked own. writes x lt _ (joined_now (entry.AwaitWrite s) h) own;
        at_hop = λ s t h k led.
            hop_of m m n joined_net p o x served IsFirst ⊥ c.nodes First x refl led;
      })
