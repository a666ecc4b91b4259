-- Late nodes stay late where what a word waits for comes: a copy, the page, or an acknowledgement.
use Rattle.std.proofs.Common.{◌≡◌, ◌≢◌, ◌<◌, ℕ, suc, true, false, List, [], ◌∷◌, map, slice_get, refl, sym, ap, ◌∙◌, subst, inl, inr}
use Rattle.std.proofs.lemmas.Bool.{both_ways}
use Rattle.std.proofs.lemmas.Option.{same_Some}
use Rattle.ivy_model.specs.declared.Config.{Config}
use Rattle.ivy_wire.specs.declared.Content.TheVariants as content
use Rattle.ivy_wire.specs.stated.Data.{Content, Parcel}
use Rattle.ivy_pagetable.specs.declared.Entry.{Entry}
use Rattle.ivy_pagetable.specs.declared.Entry.TheVariants as entry
use Rattle.ivy_pagetable.specs.stated.States.{IdleState, WaitingState, AwaitWriteState, AwaitAcksState}
use Rattle.ivy_pagetable.specs.stated.Entries.{put_offs}
use Rattle.ivy_dynamic.specs.stated.Dynamic.{Hints, hint_of}
use Rattle.proof_table.specs.stated.Letters.{Letter, Net, Place, Loose, letter_of, IsAt}
use Rattle.proof_table.specs.stated.Orderly.{IsOrderly, key_as}
use Rattle.proof_table.specs.transitions.Letters.{goes_on, installs}
use Rattle.proof_table.specs.transitions.TableSteps.{letter}
use Rattle.proof_table.proofs.transitions.Places.{written_here, served, freed}
use Rattle.proof_table.proofs.routing.Remaining.{StaysPutOff}
use Rattle.proof_answers.specs.late.Late.{IsRequest, IsOut, Node, idle, AreOrdered}
use Rattle.proof_answers.proofs.late.LateSteps.{IsInOrder, HasLed, LateThen, hop_of}
use Rattle.proof_answers.proofs.late.LateNets.{IsFirst, IsNoPlace, served_order, freed_order, installed_order}
use Rattle.proof_answers.proofs.late.LateFacts.{idle_reading, idle_writing, idle_collecting, reading_writing, reading_collecting, writing_collecting, same_reading, IsAsking, for_copy, for_page, asking_of, answered_out}
use Rattle.proof_answers.proofs.late.LateKept.{IsLateKept, quiet_kept}

-- what comes, and what the node does with it: a copy, and its hint is told, or stays; the page; or
-- an acknowledgement
pub data IsComing (m m' : ℕ → Hints) (x p : ℕ) (e : Entry) (body : Content) (z : Entry) : Type 0
  where
    copy_told : (s : WaitingState) (t : IdleState) (bytes : List ℕ) → e ≡ entry.AwaitRead s
        → s.sent_on ≡ false → z ≡ entry.Idle t → body ≡ content.ReadRep p bytes
        → IsComing m m' x p e body z
    copy_late : (s : WaitingState) (t : IdleState) (bytes : List ℕ) → e ≡ entry.AwaitRead s
        → z ≡ entry.Idle t → t.owner ≡ false → hint_of (m' x) p ≡ hint_of (m x) p
        → body ≡ content.ReadRep p bytes → IsComing m m' x p e body z
    page_here : (s : AwaitWriteState) (bits : ℕ) (bytes : List ℕ) → e ≡ entry.AwaitWrite s
        → body ≡ content.WriteRep p bits bytes → IsComing m m' x p e body z
    gave_up : (s : AwaitAcksState) → e ≡ entry.AwaitAcks s → body ≡ content.InvalAck p
        → IsComing m m' x p e body z

module _ (c : Config) (m m' : ℕ → Hints) (n : Net) (order : IsOrderly c n) (p o x from call : ℕ)
    (body : Content) (e z : Entry) (loose : n.loose ≡ letter from x x call body ∷ [])
    (is : n.entry x p ≡ e) (comes : IsComing m m' x p e body z)
    (others : (y : ℕ) → y ≢ x → hint_of (m' y) p ≡ hint_of (m y) p)
    (ordered : AreOrdered c.nodes m n p) (out : IsOut n p o) where
  abbrev old : Letter
  old = letter from x x call body

  old_there : IsAt n (Loose 0) old
  old_there = ap (λ v. slice_get v 0) loose

  -- it is no request
  not_read : body ≡ content.ReadReq p → ⊥
  not_read says = by_comes comes
    where
      by_comes : IsComing m m' x p e body z → ⊥
      by_comes (copy_told s t bytes h on k is) =
          (let f : content.ReadReq p ≡ content.ReadRep p bytes = sym says ∙ is in cc)
      by_comes (copy_late s t bytes h k plain hint is) =
          (let f : content.ReadReq p ≡ content.ReadRep p bytes = sym says ∙ is in cc)
      by_comes (page_here s bits bytes h is) =
          (let f : content.ReadReq p ≡ content.WriteRep p bits bytes = sym says ∙ is in cc)
      by_comes (gave_up s h is) =
          (let f : content.ReadReq p ≡ content.InvalAck p = sym says ∙ is in cc)

  not_write : body ≡ content.WriteReq p → ⊥
  not_write says = by_comes comes
    where
      by_comes : IsComing m m' x p e body z → ⊥
      by_comes (copy_told s t bytes h on k is) =
          (let f : content.WriteReq p ≡ content.ReadRep p bytes = sym says ∙ is in cc)
      by_comes (copy_late s t bytes h k plain hint is) =
          (let f : content.WriteReq p ≡ content.ReadRep p bytes = sym says ∙ is in cc)
      by_comes (page_here s bits bytes h is) =
          (let f : content.WriteReq p ≡ content.WriteRep p bits bytes = sym says ∙ is in cc)
      by_comes (gave_up s h is) =
          (let f : content.WriteReq p ≡ content.InvalAck p = sym says ∙ is in cc)

  no_request : (j : ℕ) → IsRequest p j old → ⊥
  no_request j asks = elim asks.1 [ inl h ↦ not_read h | inr h ↦ not_write h ]

  -- and the node has none
  unasked : IsOut n p x → ⊥
  unasked asked = by_comes comes
    where
      by_comes : IsComing m m' x p e body z → ⊥
      by_comes (copy_told s t bytes h on k is) =
          answered_out c n order p x (Loose 0) old old_there (ap (key_as old) is) no_request asked
      by_comes (copy_late s t bytes h k plain hint is) =
          answered_out c n order p x (Loose 0) old old_there (ap (key_as old) is) no_request asked
      by_comes (page_here s bits bytes h is) =
          answered_out c n order p x (Loose 0) old old_there (ap (key_as old) is) no_request asked
      by_comes (gave_up s h k) = by_asking (asking_of c n order p x asked)
        where
          by_asking : IsAsking (n.entry x p) → ⊥
          by_asking (for_copy t g) = reading_collecting g (is ∙ h)
          by_asking (for_page t g) = writing_collecting g (is ∙ h)

  not_idle : (s : IdleState) → n.entry x p ≡ entry.Idle s → ⊥
  not_idle s g = by_comes comes
    where
      by_comes : IsComing m m' x p e body z → ⊥
      by_comes (copy_told t u bytes h on k says) = idle_reading g (is ∙ h)
      by_comes (copy_late t u bytes h k plain hint says) = idle_reading g (is ∙ h)
      by_comes (page_here t bits bytes h says) = idle_writing g (is ∙ h)
      by_comes (gave_up t h says) = idle_collecting g (is ∙ h)

  -- it awaits no copy then
  not_reading : (s t : WaitingState) → n.entry x p ≡ entry.AwaitRead s → z ≡ entry.AwaitRead t → ⊥
  not_reading s t g v = by_comes comes
    where
      by_comes : IsComing m m' x p e body z → ⊥
      by_comes (copy_told a u bytes h on k says) = idle_reading k v
      by_comes (copy_late a u bytes h k plain hint says) = idle_reading k v
      by_comes (page_here a bits bytes h says) = reading_writing g (is ∙ h)
      by_comes (gave_up a h says) = reading_collecting g (is ∙ h)

  module _ (n' : Net) (now : Place → Place) (Gone : Place → Type 0)
      (step : IsInOrder m m' n n' p o x now Gone ⊥) (then : n'.entry x p ≡ z) where
    sent_then : (First : ℕ → Type 0) → x < c.nodes → (s : WaitingState)
        → n.entry x p ≡ entry.AwaitRead s → s.sent_on ≡ true
        → HasLed m m' n n' p o x now Gone ⊥ c.nodes First x
        → LateThen m m' n n' p o x now Gone ⊥ c.nodes First (Node x)
    sent_then First lt s h on led = by_comes comes
      where
        by_comes : IsComing m m' x p e body z
            → LateThen m m' n n' p o x now Gone ⊥ c.nodes First (Node x)
        by_comes (copy_told a u bytes g off k says) = absurd (
            let same : s ≡ a = same_reading h (is ∙ g) in
            both_ways a.sent_on off (ap (λ (v : WaitingState). v.sent_on) (sym same) ∙ on)
            )
        by_comes (copy_late a u bytes g k plain hint says) =
            idle x lt u (then ∙ k) plain
            (hop_of m m' n n' p o x now Gone ⊥ c.nodes First x hint led)
        by_comes (page_here a bits bytes g says) = absurd (reading_writing h (is ∙ g))
        by_comes (gave_up a g says) = absurd (reading_collecting h (is ∙ g))

    pub come_kept : IsLateKept c.nodes m m' n n' p o
    come_kept =
        quiet_kept c.nodes m m' n n' p o x now Gone ⊥ ordered out step (λ f. f)
        (λ First starts. record {
          at_served = λ u j l at wants to late. absurd u;
          at_idle = λ lt s h plain led. absurd (not_idle s h);
          at_sent_on = λ lt s h on led. sent_then First lt s h on led;
          at_reads = λ lt s h asked led own. absurd (unasked asked);
          at_writes = λ lt s h asked own. absurd (unasked asked);
          at_hop = λ s t h k led. absurd (not_reading s t h (sym then ∙ k));
        })

  -- what was put off is loose then
  abbrev freeing : Net
  freeing = goes_on n x p z (map (letter_of x p) (put_offs e)) []

  freeing_order : IsInOrder m m' n freeing p o x (freed x p) IsNoPlace ⊥
  freeing_order =
      freed_order n x p e z old is loose m m' p o no_request
      (λ same b k bt asks. unasked (record { at = b; letter = k; there = bt; asks = asks })) others

  pub freed_kept : IsLateKept c.nodes m m' n freeing p o
  freed_kept =
      come_kept freeing (freed x p) IsNoPlace freeing_order
      (written_here n.entry x p z x p refl refl)

  pub freed_here : (bytes : List ℕ) → IsLateKept c.nodes m m' n (installs freeing x p bytes) p o
  freed_here bytes =
      come_kept (installs freeing x p bytes) (freed x p) IsNoPlace
      (installed_order m m' n freeing p o x (freed x p) IsNoPlace ⊥ x p bytes freeing_order)
      (written_here n.entry x p z x p refl refl)

  -- or stays put off
  module _ (parcels : List Parcel) (put : StaysPutOff e z) where
    abbrev staying : Net
    staying = goes_on n x p z [] parcels

    staying_order : IsInOrder m m' n staying p o x served IsFirst ⊥
    staying_order =
        served_order n x p e z [] parcels is put
        (λ k l h. ap (λ v. slice_get v (suc k)) (sym loose) ∙ h) m m' p o ⊥
        (λ j l at asks. absurd (no_request j
        (subst (IsRequest p j)
        (sym (same_Some old l (ap (λ v. slice_get v 0) (sym loose) ∙ at))) asks))) others

    pub stays_kept : IsLateKept c.nodes m m' n staying p o
    stays_kept =
        come_kept staying served IsFirst staying_order (written_here n.entry x p z x p refl refl)

    pub stays_here : (bytes : List ℕ)
        → IsLateKept c.nodes m m' n (installs staying x p bytes) p o
    stays_here bytes =
        come_kept (installs staying x p bytes) served IsFirst
        (installed_order m m' n staying p o x served IsFirst ⊥ x p bytes staying_order)
        (written_here n.entry x p z x p refl refl)
