-- Late nodes stay late in each row of the table, while the request is not served.
use Rattle.std.proofs.Common.{◌≡◌, ◌≢◌, ◌⊎◌, ◌<◌, ℕ, Bool, true, false, List, [], ◌∷◌, map, if◌then◌else◌, refl, sym, ap, ◌∙◌, subst, inl, inr}
use Rattle.std.proofs.lemmas.Option.{none-some}
use Rattle.ivy_model.specs.declared.Config.{Config}
use Rattle.ivy_model.specs.stated.Config.{IsConfig}
use Rattle.ivy_wire.specs.declared.Content.TheVariants as content
use Rattle.ivy_wire.specs.stated.Data.{Content, Parcel}
use Rattle.ivy_wire.specs.stated.Posts.{parcel_to}
use Rattle.ivy_pagetable.specs.declared.Entry.{Entry}
use Rattle.ivy_pagetable.specs.declared.Entry.TheVariants as entry
use Rattle.ivy_pagetable.specs.stated.NodeSets.{nodes_with}
use Rattle.ivy_pagetable.specs.stated.States.{IdleState, WaitingState, AwaitWriteState}
use Rattle.ivy_pagetable.specs.stated.Entries.{put_offs, with_put_off, without, copying, owning}
use Rattle.ivy_coherence.specs.stated.Fetching.{joined_by}
use Rattle.ivy_coherence.specs.stated.Serving.{invalidations}
use Rattle.ivy_coherence.specs.stated.MessageSteps.{sending}
use Rattle.ivy_dynamic.specs.stated.Dynamic.{Hints, hint_of, hinted, dynamic_ops}
use Rattle.proof_table.specs.stated.Letters.{Net, letter_of}
use Rattle.proof_table.specs.transitions.Letters.{goes_on, installs}
use Rattle.proof_table.specs.transitions.TableSteps.{Served, Comes, Begins, PutsOff, Joins, Notice, Row, IsNamedBy, noticed, with_manager, letter, bare}
use Rattle.proof_table.proofs.transitions.Needs.{page_of}
use Rattle.proof_table.proofs.transitions.RowsJoined.{joined_stays}
use Rattle.proof_table.proofs.routing.HintedKept.{hinted_descends}
use Rattle.proof_table.proofs.routing.Managers.{IsTold, none_told, hop_else, told_itself}
use Rattle.proof_table.proofs.routing.HintedManagers.{told_hint, hint_now}
use Rattle.proof_table.proofs.routing.NoBreach.{no_breach}
use Rattle.proof_table.proofs.routing.Remaining.{StaysPutOff}
use Rattle.proof_answers.specs.late.Late.{IsRequest, IsOut, AreOrdered}
use Rattle.proof_answers.specs.late.LateLaws.{IsBefore}
use Rattle.proof_answers.proofs.late.LateKept.{IsLateKept}
use Rattle.proof_answers.proofs.late.LateSending.{waits_for_nothing, awaits_copy, IsHinting, stays_so, follows, sent_kept}
use Rattle.proof_answers.proofs.late.LateAnswering.{IsGiving, shares_it, gives_it, answered_kept}
use Rattle.proof_answers.proofs.late.LateWaits.{asked_kept, ended_kept, given_up_kept, put_kept, joins_kept}
use Rattle.proof_answers.proofs.late.LateComes.{IsComing, copy_told, copy_late, page_here, gave_up, freed_kept, freed_here, stays_kept, stays_here}
use Rattle.proof_answers.proofs.late.LateRows.{either_page, served_else, served_installed, freed_else, freed_installed, put_else, first_about, none_about, next_loose, none_loose, carried_kept, taken_kept}

-- a manager that hints at a node
hint_told : (m : ℕ → Hints) (x q o : ℕ)
    → IsTold dynamic_ops m (with_manager m x (hinted (m x) q o)) x q
hint_told = told_hint

-- one that is told what changes nothing
same_told : (m : ℕ → Hints) (x q : ℕ) → IsTold dynamic_ops m (with_manager m x (m x)) x q
same_told m x q = none_told dynamic_ops m (with_manager m x (m x)) x q (told_itself m x)

still_told : (m : ℕ → Hints) (x q : ℕ) → IsTold dynamic_ops m m x q
still_told m x q = none_told dynamic_ops m m x q (λ i. refl)

-- steady hints stay where a copy is ended
abbrev pub ended_hints : Hints → ℕ → ℕ → Hints
ended_hints s q by = if s.steady then s else hinted s q by

ended_same : (s : Hints) (q by : ℕ) → s.steady ≡ true → ended_hints s q by ≡ s
ended_same s q by steady = ap (λ (b : Bool). if b then s else hinted s q by) steady

all_same : (m : ℕ → Hints) (x q by : ℕ) → (m x).steady ≡ true → (i : ℕ)
    → with_manager m x (ended_hints (m x) q by) i ≡ m i
all_same m x q by steady i =
    ap (λ v. with_manager m x v i) (ended_same (m x) q by steady) ∙ told_itself m x i

ended_told : (m : ℕ → Hints) (x q by : ℕ) → (m x).steady ≡ true
    → IsTold dynamic_ops m (with_manager m x (ended_hints (m x) q by)) x q
ended_told m x q by steady =
    none_told dynamic_ops m (with_manager m x (ended_hints (m x) q by)) x q
    (all_same m x q by steady)

others_of : (m m' : ℕ → Hints) (x q : ℕ) → IsTold dynamic_ops m m' x q → (y : ℕ) → y ≢ x
    → hint_of (m' y) q ≡ hint_of (m y) q
others_of m m' x q told y ne = hop_else dynamic_ops m m' x q told y q (inl ne)

module _ (c : Config) (m : ℕ → Hints) (n : Net) (b : IsBefore c m n) where
  abbrev ordered : (p : ℕ) → AreOrdered c.nodes m n p
  ordered p = b.steady.ordered p

  -- a request is sent on
  module _ (body : ℕ → Content) (m' : ℕ → Hints) where
    idle_sends : (r : Served c n entry.Idle body) (hop : ℕ) → r.state.owner ≡ false
        → hop ≡ hint_of (m r.node) r.page → IsTold dynamic_ops m m' r.node r.page
        → IsHinting m m' r.node r.page r.origin (body r.page) → page_of (body r.page) ≡ r.page
        → (p o : ℕ) → IsOut n p o
        → IsOut
        (goes_on n r.node r.page (entry.Idle r.state) r.rest
        (parcel_to r.node hop r.origin r.call (body r.page) ∷ [])) p o
        → IsLateKept c.nodes m m' n
        (goes_on n r.node r.page (entry.Idle r.state) r.rest
        (parcel_to r.node hop r.origin r.call (body r.page) ∷ [])) p o
    idle_sends r hop plain way told hinting about =
        either_page r.page
        (λ o out still.
        sent_kept c m m' n b.order b.counted b.steady.orders r.page o r.node r.from r.origin r.call
        hop (body r.page) (entry.Idle r.state) (entry.Idle r.state) r.rest r.loose r.here r.is
        (λ j q h. h) r.foreign way
        (waits_for_nothing r.state r.state refl refl plain plain) hinting
        (others_of m m' r.node r.page told) out (ordered r.page))
        (λ p o ne out.
        served_else c.nodes m m' n p o r.node r.page ne told (ordered p) out (entry.Idle r.state)
        (entry.Idle r.state) r.is r.rest (parcel_to r.node hop r.origin r.call (body r.page) ∷ [])
        (λ j q h. h) (next_loose n _ r.rest r.loose) (first_about n _ r.rest r.page r.loose about))

    reader_sends : (r : Served c n entry.AwaitRead body) (hop : ℕ)
        → hop ≡ hint_of (m r.node) r.page → IsTold dynamic_ops m m' r.node r.page
        → IsHinting m m' r.node r.page r.origin (body r.page) → page_of (body r.page) ≡ r.page
        → (p o : ℕ) → IsOut n p o
        → IsOut
        (goes_on n r.node r.page (entry.AwaitRead (sending r.state)) r.rest
        (parcel_to r.node hop r.origin r.call (body r.page) ∷ [])) p o
        → IsLateKept c.nodes m m' n
        (goes_on n r.node r.page (entry.AwaitRead (sending r.state)) r.rest
        (parcel_to r.node hop r.origin r.call (body r.page) ∷ [])) p o
    reader_sends r hop way told hinting about =
        either_page r.page
        (λ o out still.
        sent_kept c m m' n b.order b.counted b.steady.orders r.page o r.node r.from r.origin r.call
        hop (body r.page) (entry.AwaitRead r.state) (entry.AwaitRead (sending r.state)) r.rest
        r.loose r.here r.is (λ j q h. h) r.foreign way
        (awaits_copy r.state (sending r.state) refl refl refl) hinting
        (others_of m m' r.node r.page told) out (ordered r.page))
        (λ p o ne out.
        served_else c.nodes m m' n p o r.node r.page ne told (ordered p) out
        (entry.AwaitRead r.state) (entry.AwaitRead (sending r.state)) r.is r.rest
        (parcel_to r.node hop r.origin r.call (body r.page) ∷ []) (λ j q h. h)
        (next_loose n _ r.rest r.loose) (first_about n _ r.rest r.page r.loose about))

    -- it is answered
    owner_answers : (r : Served c n entry.Idle body) (t : IdleState) (answer : Content)
        → r.state.owner ≡ true → IsTold dynamic_ops m m' r.node r.page
        → IsGiving m' r.node r.page r.origin (body r.page) t → page_of (body r.page) ≡ r.page
        → ((j : ℕ) → IsRequest r.page j (letter r.node r.origin r.origin r.call answer) → ⊥)
        → (p o : ℕ) → IsOut n p o
        → IsOut
        (goes_on n r.node r.page (entry.Idle t) r.rest
        (parcel_to r.node r.origin r.origin r.call answer ∷ [])) p o
        → IsLateKept c.nodes m m' n
        (goes_on n r.node r.page (entry.Idle t) r.rest
        (parcel_to r.node r.origin r.origin r.call answer ∷ [])) p o
    owner_answers r t answer owner told giving about silent =
        either_page r.page
        (λ o out still.
        answered_kept c m m' n b.order b.steady.orders r.page o r.node r.from r.origin r.call
        (body r.page) answer r.state t r.rest r.loose r.here r.is owner giving silent
        (others_of m m' r.node r.page told) out (ordered r.page) still)
        (λ p o ne out.
        served_else c.nodes m m' n p o r.node r.page ne told (ordered p) out (entry.Idle r.state)
        (entry.Idle t) r.is r.rest (parcel_to r.node r.origin r.origin r.call answer ∷ [])
        (λ j q h. h) (next_loose n _ r.rest r.loose) (first_about n _ r.rest r.page r.loose about))

  -- a word begins to wait
  begun : (r : Begins c n) (z : Entry) (hop : ℕ) (body : Content)
      → hop ≡ hint_of (m r.node) r.page
      → (body ≡ content.ReadReq r.page) ⊎ (body ≡ content.WriteReq r.page)
      → ((w : WaitingState) × (z ≡ entry.AwaitRead w))
      ⊎ ((w : AwaitWriteState) × (z ≡ entry.AwaitWrite w))
      → (p o : ℕ) → IsOut n p o
      → IsOut (goes_on n r.node r.page z [] (parcel_to r.node hop r.node r.call body ∷ [])) p o
      → IsLateKept c.nodes m m n
      (goes_on n r.node r.page z [] (parcel_to r.node hop r.node r.call body ∷ [])) p o
  begun r z hop body way asks waits =
      either_page r.page
      (λ o out still.
      asked_kept c m n b.order b.counted r.page o r.node r.call hop body r.state z r.here r.is
      r.loose asks way (ordered r.page) out waits)
      (λ p o ne out.
      served_else c.nodes m m n p o r.node r.page ne (still_told m r.node r.page) (ordered p) out
      (entry.Idle r.state) z r.is [] (parcel_to r.node hop r.node r.call body ∷ [])
      (λ j q h. absurd (none-some q h)) (none_loose n r.loose) (none_about n r.page r.loose))

  ends : (r : Begins c n) (z : Entry) (parcels : List Parcel) → r.state.owner ≡ true → (p o : ℕ)
      → IsOut n p o → IsOut (goes_on n r.node r.page z [] parcels) p o
      → IsLateKept c.nodes m m n (goes_on n r.node r.page z [] parcels) p o
  ends r z parcels owner =
      either_page r.page
      (λ o out still.
      ended_kept c.nodes m n r.page o r.node r.state z parcels r.is r.loose owner (ordered r.page)
      out)
      (λ p o ne out.
      served_else c.nodes m m n p o r.node r.page ne (still_told m r.node r.page) (ordered p) out
      (entry.Idle r.state) z r.is [] parcels (λ j q h. absurd (none-some q h))
      (none_loose n r.loose) (none_about n r.page r.loose))

  -- a copy is given up
  gives_copy_up : {T : Type 0} {at : T → Entry} (r : Served c n at content.Inval) (z : Entry)
      → StaysPutOff (at r.state) z
      → ((s t : IdleState) × (at r.state ≡ entry.Idle s) × (z ≡ entry.Idle t) × (t.owner ≡ false))
      ⊎ ((s t : AwaitWriteState) × (at r.state ≡ entry.AwaitWrite s) × (z ≡ entry.AwaitWrite t))
      → (parcels : List Parcel) (p o : ℕ) → IsOut n p o
      → IsOut (goes_on n r.node r.page z r.rest parcels) p o
      → IsLateKept c.nodes m (with_manager m r.node (ended_hints (m r.node) r.page r.origin)) n
      (goes_on n r.node r.page z r.rest parcels) p o
  gives_copy_up {at = at} r z put how parcels =
      let steady : (m r.node).steady ≡ true = b.steady.hints r.node r.here in
      either_page r.page
      (λ o out still.
      given_up_kept c.nodes m (with_manager m r.node (ended_hints (m r.node) r.page r.origin)) n
      r.page o r.node r.from r.origin r.call (at r.state) z r.rest parcels r.loose r.is put
      (λ y. ap (λ v. hint_of v r.page) (all_same m r.node r.page r.origin steady y)) how
      (ordered r.page) out)
      (λ p o ne out.
      served_else c.nodes m (with_manager m r.node (ended_hints (m r.node) r.page r.origin)) n p o
      r.node r.page ne (ended_told m r.node r.page r.origin steady) (ordered p) out (at r.state) z
      r.is r.rest parcels put (next_loose n _ r.rest r.loose)
      (first_about n _ r.rest r.page r.loose refl))

  puts : (r : PutsOff c n) (p o : ℕ) → IsOut n p o
      → IsOut (goes_on n r.node r.page (with_put_off r.before r.later) r.rest []) p o
      → IsLateKept c.nodes m m n
      (goes_on n r.node r.page (with_put_off r.before r.later) r.rest []) p o
  puts r =
      either_page r.page (λ o out still. put_kept c m n r o (ordered r.page) out)
      (λ p o ne out. put_else c m n r p o ne (ordered p) out)

  -- a word joins the fetch of its page
  word_joins : (r : Joins c n) (p o : ℕ) → IsOut n p o
      → IsOut (goes_on n r.node r.page (joined_by r.before r.word) [] []) p o
      → IsLateKept c.nodes m m n (goes_on n r.node r.page (joined_by r.before r.word) [] []) p o
  word_joins r =
      either_page r.page (λ o out still. joins_kept c m n r o (ordered r.page) out)
      (λ p o ne out.
      served_else c.nodes m m n p o r.node r.page ne (still_told m r.node r.page) (ordered p) out
      r.before (joined_by r.before r.word) r.is [] [] (joined_stays r.before r.word)
      (none_loose n r.loose) (none_about n r.page r.loose))

  -- what a word waits for comes
  module _ {T : Type 0} {at : T → Entry} {bring : ℕ → Content} (m' : ℕ → Hints)
      (r : Comes c n at bring) (z : Entry) (told : IsTold dynamic_ops m m' r.node r.page)
      (coming : IsComing m m' r.node r.page (at r.state) (bring r.page) z)
      (about : page_of (bring r.page) ≡ r.page) where
    abbrev freed_net : Net
    freed_net = goes_on n r.node r.page z (map (letter_of r.node r.page) (put_offs (at r.state))) []

    comes_last : (p o : ℕ) → IsOut n p o → IsOut freed_net p o
        → IsLateKept c.nodes m m' n freed_net p o
    comes_last =
        either_page r.page
        (λ o out still.
        freed_kept c m m' n b.order r.page o r.node r.from r.call (bring r.page) (at r.state) z
        r.loose r.is coming (others_of m m' r.node r.page told) (ordered r.page) out)
        (λ p o ne out.
        freed_else c.nodes m m' n p o r.node r.page ne told (ordered p) out (at r.state) z r.is _
        r.loose about)

    comes_installed : (bytes : List ℕ) (p o : ℕ) → IsOut n p o
        → IsOut (installs freed_net r.node r.page bytes) p o
        → IsLateKept c.nodes m m' n (installs freed_net r.node r.page bytes) p o
    comes_installed bytes =
        either_page r.page
        (λ o out still.
        freed_here c m m' n b.order r.page o r.node r.from r.call (bring r.page) (at r.state) z
        r.loose r.is coming (others_of m m' r.node r.page told) (ordered r.page) out bytes)
        (λ p o ne out.
        freed_installed c.nodes m m' n p o r.node r.page ne told (ordered p) out (at r.state) z
        r.is _ r.loose about bytes)

    module _ (parcels : List Parcel) (put : StaysPutOff (at r.state) z) where
      comes_on : (p o : ℕ) → IsOut n p o → IsOut (goes_on n r.node r.page z [] parcels) p o
          → IsLateKept c.nodes m m' n (goes_on n r.node r.page z [] parcels) p o
      comes_on =
          either_page r.page
          (λ o out still.
          stays_kept c m m' n b.order r.page o r.node r.from r.call (bring r.page) (at r.state) z
          r.loose r.is coming (others_of m m' r.node r.page told) (ordered r.page) out parcels put)
          (λ p o ne out.
          served_else c.nodes m m' n p o r.node r.page ne told (ordered p) out (at r.state) z r.is
          [] parcels put (next_loose n _ [] r.loose) (first_about n _ [] r.page r.loose about))

      comes_in : (bytes : List ℕ) (p o : ℕ) → IsOut n p o
          → IsOut (installs (goes_on n r.node r.page z [] parcels) r.node r.page bytes) p o
          → IsLateKept c.nodes m m' n
          (installs (goes_on n r.node r.page z [] parcels) r.node r.page bytes) p o
      comes_in bytes =
          either_page r.page
          (λ o out still.
          stays_here c m m' n b.order r.page o r.node r.from r.call (bring r.page) (at r.state) z
          r.loose r.is coming (others_of m m' r.node r.page told) (ordered r.page) out parcels put
          bytes)
          (λ p o ne out.
          served_installed c.nodes m m' n p o r.node r.page ne told (ordered p) out (at r.state) z
          r.is [] parcels put (next_loose n _ [] r.loose)
          (first_about n _ [] r.page r.loose about) bytes)

no_read_answer : (p q : ℕ) (bytes : List ℕ)
    → (content.ReadRep q bytes ≡ content.ReadReq p) ⊎ (content.ReadRep q bytes ≡ content.WriteReq p)
    → ⊥
no_read_answer p q bytes asks = elim asks [ inl h ↦ cc | inr h ↦ cc ]

no_write_answer : (p q bits : ℕ) (bytes : List ℕ)
    → (content.WriteRep q bits bytes ≡ content.ReadReq p)
    ⊎ (content.WriteRep q bits bytes ≡ content.WriteReq p) → ⊥
no_write_answer p q bits bytes asks = elim asks [ inl h ↦ cc | inr h ↦ cc ]

module _ (c : Config) (config : IsConfig c) where
  pub late_row : {m : ℕ → Hints} {n : Net} {f : ℕ → List ℕ} {notice : Notice} {n' : Net}
      {f' : ℕ → List ℕ} → Row true c n f notice n' f' → IsNamedBy dynamic_ops c m notice
      → IsBefore c m n → (p o : ℕ) → IsOut n p o → IsOut n' p o
      → IsLateKept c.nodes m (noticed dynamic_ops m notice) n n' p o
  late_row {m = m} {n = n} (Row.carries r) of b p o out still =
      carried_kept c.nodes m n r.node r.page _ p o (b.steady.ordered p) out
  late_row {m = m} {n = n} (Row.takes r) of b p o out still =
      taken_kept c.nodes m n r p o (b.steady.ordered p) out
  late_row {m = m} {n = n} (Row.drops r) of b p o out still =
      absurd (no_breach n (hinted_descends c m n b.order b.hinted) c config b.order r.node r.old
      r.rest r.here r.loose r.dest r.misfits)
  late_row {m = m} {n = n} (Row.shares r owner low) of b p o out still =
      owner_answers c m n b content.ReadReq m r _ _ owner (still_told m r.node r.page)
      (shares_it refl) refl
      (λ j asks. no_read_answer r.page r.page (n.page r.node r.page) asks.1) p o out still
  late_row {m = m} {n = n} (Row.gives r owner low) of b p o out still =
      owner_answers c m n b content.WriteReq
      (with_manager m r.node (hinted (m r.node) r.page r.origin)) r _ _ owner (hint_told m r.node r.page r.origin)
      (gives_it refl refl
      (hint_now m r.node r.page r.origin
      (subst (λ k. r.page < k) (sym (b.hinted.size r.node r.here)) r.inside))) refl
      (λ j asks. no_write_answer r.page r.page _ (n.page r.node r.page) asks.1) p o out still
  late_row {m = m} {n = n} (Row.sends_on_read r hop plain away) of b p o out still =
      idle_sends c m n b content.ReadReq (with_manager m r.node (m r.node)) r hop plain of.1
      (same_told m r.node r.page)
      (stays_so refl (ap (λ v. hint_of v r.page) (told_itself m r.node r.node))) refl p o out still
  late_row {m = m} {n = n} (Row.sends_on_write r hop plain away) of b p o out still =
      idle_sends c m n b content.WriteReq
      (with_manager m r.node (hinted (m r.node) r.page r.origin)) r hop plain of.1
      (hint_told m r.node r.page r.origin)
      (follows refl
      (hint_now m r.node r.page r.origin
      (subst (λ k. r.page < k) (sym (b.hinted.size r.node r.here)) r.inside))) refl p o out still
  late_row {m = m} {n = n} (Row.reader_sends_on_read r hop sends away) of b p o out still =
      reader_sends c m n b content.ReadReq (with_manager m r.node (m r.node)) r hop of.1
      (same_told m r.node r.page)
      (stays_so refl (ap (λ v. hint_of v r.page) (told_itself m r.node r.node))) refl p o out still
  late_row {m = m} {n = n} (Row.reader_sends_on_write r hop sends away) of b p o out still =
      reader_sends c m n b content.WriteReq
      (with_manager m r.node (hinted (m r.node) r.page r.origin)) r hop of.1
      (hint_told m r.node r.page r.origin)
      (follows refl
      (hint_now m r.node r.page r.origin
      (subst (λ k. r.page < k) (sym (b.hinted.size r.node r.here)) r.inside))) refl p o out still
  late_row {m = m} {n = n} (Row.ends_copy r sender plain) of b p o out still =
      gives_copy_up c m n b r (entry.Idle without) (λ j q h. h)
      (inl (r.state, without, refl, refl, refl))
      (parcel_to r.node r.origin r.origin r.call (content.InvalAck r.page) ∷ []) p o out still
  late_row {m = m} {n = n} (Row.gives_up r sender) of b p o out still =
      gives_copy_up c m n b r (entry.AwaitWrite (bare r.state)) (λ j q h. h)
      (inr (r.state, bare r.state, refl, refl))
      (parcel_to r.node r.origin r.origin r.call (content.InvalAck r.page) ∷ []) p o out still
  late_row {m = m} {n = n} (Row.puts_off r kept) of b p o out still =
      puts c m n b r p o out still
  late_row {m = m} {n = n} (Row.copy_comes bytes r same quiet) of b p o out still =
      comes_installed c m n b (with_manager m r.node (hinted (m r.node) r.page r.from)) r
      (entry.Idle copying) (hint_told m r.node r.page r.from)
      (copy_told r.state copying bytes refl quiet refl refl) refl bytes p o out still
  late_row {m = m} {n = n} (Row.copy_comes_late bytes r same sent) of b p o out still =
      comes_installed c m n b m r (entry.Idle copying) (still_told m r.node r.page)
      (copy_late r.state copying bytes refl refl refl refl refl) refl bytes p o out still
  late_row {m = m} {n = n} (Row.page_comes copies bytes r same none) of b p o out still =
      comes_installed c m n b (with_manager m r.node (hinted (m r.node) r.page (m r.node).me)) r
      (entry.Idle owning) (hint_told m r.node r.page (m r.node).me)
      (page_here r.state copies bytes refl refl) refl bytes p o out still
  late_row {m = m} {n = n} (Row.page_comes_shared copies bytes r same some out_of low) of b p o out
      still =
      comes_in c m n b (with_manager m r.node (hinted (m r.node) r.page (m r.node).me)) r _
      (hint_told m r.node r.page (m r.node).me) (page_here r.state copies bytes refl refl) refl
      (invalidations r.node r.page r.call (nodes_with copies)) (λ j q h. h) bytes p o out still
  late_row {m = m} {n = n} (Row.acknowledges r same left more) of b p o out still =
      comes_on c m n b m r _ (still_told m r.node r.page) (gave_up r.state refl refl) refl []
      (λ j q h. h) p o out still
  late_row {m = m} {n = n} (Row.acknowledges_last r same left last) of b p o out still =
      comes_last c m n b m r (entry.Idle owning) (still_told m r.node r.page)
      (gave_up r.state refl refl) refl p o out still
  late_row {m = m} {n = n} (Row.asks_copy r hop plain unread away) of b p o out still =
      begun c m n b r _ hop (content.ReadReq r.page) of.1 (inl refl) (inl (_, refl)) p o out still
  late_row {m = m} {n = n} (Row.asks_page r hop plain away) of b p o out still =
      begun c m n b r _ hop (content.WriteReq r.page) of.1 (inr refl) (inr (_, refl)) p o out still
  late_row {m = m} {n = n} (Row.ends_copies r owner reader unwritten low away) of b p o out still =
      ends c m n b r _ (invalidations r.node r.page r.call r.state.copies) owner p o out still
  late_row {m = m} {n = n} (Row.joins r) of b p o out still = word_joins c m n b r p o out still
