-- A locked entry, through one step of the FIFO world: what waits there waits on, and no longer than
-- before, or it is unlocked. A word waits there, or its page is fetched.
use Rattle.std.proofs.Common.{◌≡◌, ◌≢◌, ◌⊎◌, ◌<◌, ◌≤◌, ◌+◌, ◌==◌, ◌&&◌, if◌then◌else◌, ℕ, zero, suc, Bool, true, false, List, [], ◌∷◌, length, take, cond, slice_get, Some, refl, sym, ap, ◌∙◌, subst, inl, inr, arith}
use Rattle.std.proofs.lemmas.Bool.{cases_Bool, cases_eq, and_parts, and_right, eqb-true, ne_eqb}
use Rattle.std.proofs.lemmas.List.{take-append-le}
use Rattle.std.proofs.lemmas.Option.{same_Some, none-some}
use Rattle.ivy_model.specs.declared.Config.{Config}
use Rattle.ivy_model.specs.stated.Config.{IsConfig}
use Rattle.ivy_wire.specs.declared.Content.TheVariants as content
use Rattle.ivy_wire.specs.stated.Data.{Message, Parcel}
use Rattle.ivy_pagetable.specs.declared.Entry.{Entry}
use Rattle.ivy_pagetable.specs.declared.Entry.TheVariants as entry
use Rattle.ivy_pagetable.specs.stated.Entries.{is_locked}
use Rattle.ivy_pagetable.specs.stated.Tables.{entry_at}
use Rattle.ivy_program.specs.stated.Programs.{Program}
use Rattle.ivy_link.specs.stated.Paired.{posted, extended}
use Rattle.ivy_moves.specs.stated.FifoWorld.{FifoWorld, Turns, Delivers, Steps, rests, turns, delivers, one_more}
use Rattle.ivy_coherence.specs.stated.Coherent.{Coherent}
use Rattle.ivy_coherence.specs.stated.MessageSteps.{handled}
use Rattle.proof_table.specs.stated.Letters.{Letter, Place, Underway, Aside, Loose, IsAt}
use Rattle.proof_table.specs.transitions.TableSteps.{Claim, IsPreservedBy}
use Rattle.proof_table.proofs.transitions.Both.{both-kept}
use Rattle.proof_table.proofs.transitions.Embedded.{embedded-kept}
use Rattle.proof_table.proofs.transitions.Needs.{page_of as about_page}
use Rattle.proof_table.proofs.waiting.Onward.{IsDue, IsWithin, IsLast}
use Rattle.proof_table.proofs.waiting.Targets.{IsLastAt, IsSameButWord, IsFollowed, followed_on}
use Rattle.ivy_host.specs.stated.Hosts.{Host, host_rules, serving}
use Rattle.ivy_host.specs.stated.Managers.{Managed, managed_ops}
use Rattle.ivy_host.specs.declared.opening.Opening.{Opening}
use Rattle.ivy_host.specs.stated.Openings.{managed_start}
use Rattle.ivy_host.specs.ManagedLaws.{managed_laws}
use Rattle.ivy_host.specs.stated.Sound.{IsSoundHost}
use Rattle.ivy_alloc.specs.stated.HeapCalls.{is_of_pages}
use Rattle.proof_worlds.specs.stated.Nets.{about_pages, entry_of, net_of, managers_of}
use Rattle.proof_worlds.specs.stated.FifoRuns.{IsReachedInOrder}
use Rattle.ivy_host.proofs.Pages.{page_serving}
use Rattle.proof_worlds.proofs.refinement.HeapWays.{within_taken}
use Rattle.proof_worlds.proofs.refinement.LiftedHosts.{WorldTells, kept-steps}
use Rattle.proof_worlds.proofs.refinement.LiftedWorlds.{IsSoundWorldBy, letter_first, letter_taken, heap_taken}
use Rattle.proof_answers.proofs.answers.Later.{core_here}
use Rattle.proof_answers.proofs.fairness.Leading.{told_of}
use Rattle.proof_answers.proofs.fairness.WaitRanks.{OfKind, spare, WaitRank, IsWaitingIn}
use Rattle.proof_answers.proofs.fairness.Unlocking.{last_unlocks}

-- no more of some messages are about pages than of all
one_about : (b : Bool) (m : Message) (xs ys : List Message) → length xs ≤ length ys
    → length (cond b (m ∷ xs) xs) ≤ length (cond b (m ∷ ys) ys)
one_about true m xs ys le = omega (arith, le)
one_about false m xs ys le = le

pub fewer_about : (k : ℕ) (ms : List Message) → length (about_pages (take k ms)) ≤ length (about_pages ms)
fewer_about zero ms = omega arith
fewer_about (suc k) [] = omega arith
fewer_about (suc k) (m ∷ ms) =
    one_about (is_of_pages m.content) m (about_pages (take k ms)) (about_pages ms) (fewer_about k ms)

-- a letter that nothing waits for
abbrev dummy : Letter
dummy = record {
  source = 0;
  dest = 0;
  message = record { origin = 0; call = 0; content = content.AllocReq 0 };
}

dummy_last : (e : Entry) (p : ℕ) → IsLast e dummy p → ⊥
dummy_last (entry.Idle s) p h = h
dummy_last (entry.AwaitRead s) p h = (let f = h.1.1 in cc)
dummy_last (entry.AwaitWrite s) p h = (let f = h.1.2 in cc)
dummy_last (entry.AwaitAcks s) p h = (let f = h.1 in cc)

module _ (opened : Opening) (c : Config) (limits : IsConfig c) (programs : List Program)
    (many : length programs ≡ c.nodes) (rank : WaitRank opened c programs)
    (o o' : FifoWorld (Host Managed))
    (run : IsReachedInOrder managed_ops (managed_start opened) c programs o)
    (step : Steps (host_rules managed_ops) o o') (i p : ℕ) (inside : p < c.pages)
    (h : Host Managed) (there : slice_get o.cores i ≡ Some h)
    (lock : is_locked (entry_at h.memory.coherence.table p) ≡ true) (due : ℕ → ℕ → ℕ) (r : ℕ)
    (waits : IsWaitingIn rank o due p i r)
  where
    abbrev extra : Managed
    extra = spare c

    abbrev sends : Bool
    sends = (managed_start opened).sends_on

    world : IsSoundWorldBy sends managed_ops c o
    world = (told_of opened c limits programs many o run).faithful.sound

    -- by the end of the step so many letters are delivered
    abbrev step_due : ℕ → ℕ → ℕ
    step_due x y = length (about_pages (take (o'.delivered x y) (o.posted x y)))

    here : (q : ℕ) → (net_of o).entry i q ≡ entry_at h.memory.coherence.table q
    here q = ap (λ z. entry_of z q) there

    shut : is_locked ((net_of o).entry i p) ≡ true
    shut = ap is_locked (here p) ∙ lock

    -- it waits on, or is unlocked
    abbrev pub WaitsOrOpens : Type 0
    WaitsOrOpens = IsWaitingIn rank o' due p i r
        ⊎ ((h' : Host Managed) → slice_get o'.cores i ≡ Some h'
        → is_locked (entry_at h'.memory.coherence.table p) ≡ false)

    -- what the event delivers, and what was delivered after it
    within_event : (ps : List Parcel) → o'.posted ≡ extended o.posted ps
        → ((x y : ℕ) → o'.delivered x y ≤ length (o.posted x y)) → IsWithin step_due (net_of o')
    within_event ps sent most x y =
        let e : length (about_pages (take (o'.delivered x y) (o'.posted x y))) ≡ step_due x y =
        ap (λ g. length (about_pages (take (o'.delivered x y) (g x y)))) sent
        ∙ ap (λ l. length (about_pages l))
        (take-append-le (o'.delivered x y) (o.posted x y) (posted x y ps) (most x y)) in
        omega (arith, e)

    module _ (l : Letter)
        (only : (a : Place) (k : Letter) → IsAt (net_of o) a k → IsDue step_due a → k.dest ≡ i
        → about_page k.message.content ≡ p
        → (k ≡ l) × IsSameButWord ((net_of o).entry i p) ((net_of o).entry i p))
        (within : IsWithin step_due (net_of o')) where
      abbrev Claimed : Claim rank.Kept
      Claimed s n f =
          rank.Base s n f
          × IsFollowed (rank.Waits s n due p i r) step_due i p ((net_of o).entry i p) l n

      claimed-kept : IsPreservedBy sends rank.small c Claimed
      claimed-kept = both-kept rank.kept (record {
        by = λ {m} {n} {f} {notice} {n'} {f'} row of before after g.
            followed_on c n n' (rank.onward row of before) (rank.order m n f before) step_due i p
            ((net_of o).entry i p) l
            (λ locked on_locked w.
            rank.on row of before after due p i r inside locked on_locked w) g;
      })

      wide-kept : IsPreservedBy sends managed_ops c (OfKind rank.embed c Claimed)
      wide-kept =
          embedded-kept rank.embed rank.within c Claimed (OfKind rank.embed c Claimed)
          (λ m n f k. k) (λ s m n f kind k. (s, kind, k)) claimed-kept

      first : IsFollowed (rank.Waits waits.1.0 (net_of o) due p i r) step_due i p
          ((net_of o).entry i p) l (net_of o)
      first = record {
        promised = λ x y. fewer_about (o'.delivered x y) (o.posted x y);
        aims = λ w. inl (record { shut = shut; only = only; holds = waits.1.2.1 });
      }

      all : (flat : ℕ → List ℕ)
          × OfKind rank.embed c Claimed (managers_of extra o') (net_of o') flat
          × WorldTells managed_ops (OfKind rank.embed c Claimed) c waits.0 o o' flat
      all = kept-steps managed_laws c wide-kept extra o o' waits.0 world
          (waits.1.0, waits.1.1, (waits.1.2.0, first)) step

      aimed : IsWaitingIn rank o' due p i r ⊎ IsLastAt i p ((net_of o).entry i p) l
      aimed = elim (all.1.2.1.aims within) [
        | inl a ↦ inl (all.0, (all.1.0, all.1.1, (all.1.2.0, a.holds)))
        | inr last ↦ inr last
      ]

    -- no letter is due to the node where no more about pages is delivered to it
    none_due : ((s : ℕ) → step_due s i ≡ (net_of o).delivered s i) → (a : Place) (k : Letter)
        → IsAt (net_of o) a k → IsDue step_due a → k.dest ≡ i → ⊥
    none_due same (Underway s j m) k at soon to =
        let e : step_due s j ≡ (net_of o).delivered s j =
        subst (λ v. step_due s v ≡ (net_of o).delivered s v) (sym to ∙ at.3) (same s) in
        let low = at.0 in
        omega (arith, e, low, soon)
    none_due same (Aside x q m) k at soon to = soon
    none_due same (Loose m) k at soon to = none-some k at

    -- then the word waits on
    unmoved : ((s : ℕ) → step_due s i ≡ (net_of o).delivered s i) → IsWithin step_due (net_of o')
        → IsWaitingIn rank o' due p i r
    unmoved same within =
        elim (aimed dummy (λ a k at soon to about. absurd (none_due same a k at soon to)) within) [
          | inl a ↦ a
          | inr last ↦ absurd (dummy_last ((net_of o).entry i p) p last.last)
        ]

    same_due : (d : ℕ → ℕ → ℕ) → o'.delivered ≡ d → (s : ℕ) → d s i ≡ o.delivered s i
        → step_due s i ≡ (net_of o).delivered s i
    same_due d is s same =
        ap (λ g. length (about_pages (take (g s i) (o.posted s i)))) is
        ∙ ap (λ v. length (about_pages (take v (o.posted s i)))) same

    by_turn : (x : ℕ) → Turns (host_rules managed_ops) o x o' → IsWaitingIn rank o' due p i r
    by_turn x t =
        unmoved (λ s. same_due o.delivered t.delivered s refl)
        (within_event t.outcome.posted t.posted
        (λ a b. subst (λ (d : ℕ → ℕ → ℕ). d a b ≤ length (o.posted a b)) (sym t.delivered)
        (world.within a b)))

    module _ (source x : ℕ) (t : Delivers (host_rules managed_ops) o source x o') where
      delivery_within : IsWithin step_due (net_of o')
      delivery_within =
          within_event (serving managed_ops t.core source t.message).posted t.posted
          (λ a b. subst (λ (d : ℕ → ℕ → ℕ). d a b ≤ length (o.posted a b)) (sym t.delivered)
          (within_taken o world.within source x t.message t.first a b))

      elsewhere : i ≢ x → IsWaitingIn rank o' due p i r
      elsewhere ne =
          unmoved (λ s. same_due (one_more o.delivered source x) t.delivered s
          (ap (λ (b : Bool). if b then o.delivered s i + 1 else o.delivered s i)
          (and_right (s == source) (i == x) (ne_eqb i x ne)))) delivery_within

      by_heap : is_of_pages t.message.content ≡ false → IsWaitingIn rank o' due p i r
      by_heap heap =
          unmoved (λ s.
          ap (λ g. length (about_pages (take (g s i) (o.posted s i)))) t.delivered
          ∙ (heap_taken o source x t.message t.first heap extra).delivered s i) delivery_within

      module _ (same : i ≡ x) (about : is_of_pages t.message.content ≡ true) where
        it : t.core ≡ h
        it = same_Some t.core h (sym t.there ∙ ap (slice_get o.cores) (sym same) ∙ there)

        abbrev letter_here : Letter
        letter_here = record { source = source; dest = x; message = t.message }

        abbrev k : Coherent Managed
        k = t.core.memory.coherence

        taken_due : (s j m : ℕ) → (net_of o).delivered s j ≤ m → m < step_due s j
            → (s ≡ source) × (j ≡ x) × (m ≡ (net_of o).delivered s j)
        taken_due s j m low soon =
            let e : step_due s j ≡ one_more (net_of o).delivered source x s j =
            ap (λ g. length (about_pages (take (g s j) (o.posted s j)))) t.delivered
            ∙ (letter_taken o source x t.message t.first about extra).delivered s j in
            either (s == source && j == x) refl
            (subst (λ v. m < v) e soon)
          where
            either : (b : Bool) → (s == source && j == x) ≡ b
                → m < (if b then (net_of o).delivered s j + 1 else (net_of o).delivered s j)
                → (s ≡ source) × (j ≡ x) × (m ≡ (net_of o).delivered s j)
            either false test less = absurd (omega (arith, low, less))
            either true test less =
                let both = and_parts (s == source) (j == x) test in
                (eqb-true s source both.0, eqb-true j x both.1, omega (arith, low, less))

        only : (a : Place) (l : Letter) → IsAt (net_of o) a l → IsDue step_due a → l.dest ≡ i
            → about_page l.message.content ≡ p
            → (l ≡ letter_here) × IsSameButWord ((net_of o).entry i p) ((net_of o).entry i p)
        only (Aside y q m) l at soon to page = absurd soon
        only (Loose m) l at soon to page = absurd (none-some l at)
        only (Underway s j m) l at soon to page =
            let d = taken_due s j m at.0 soon in
            let message : l.message ≡ t.message =
            same_Some l.message t.message
            (sym at.1 ∙ ap (slice_get ((net_of o).posted s j)) d.2
            ∙ ap (λ v. slice_get ((net_of o).posted v j) ((net_of o).delivered v j)) d.0
            ∙ ap (λ v. slice_get ((net_of o).posted source v) ((net_of o).delivered source v)) d.1
            ∙ letter_first o source x t.message t.first about) in (
              ap (λ v. record { source = v; dest = l.dest; message = l.message }) (at.2 ∙ d.0)
                  ∙ ap (λ v. record { source = source; dest = v; message = l.message }) (at.3 ∙ d.1)
                  ∙ ap (λ v. record { source = source; dest = x; message = v }) message,
              λ w. refl,
            )

        sound : IsSoundHost managed_ops c x t.core
        sound = world.sound x t.core t.there

        low : p < length k.table.entries
        low =
            let a = sound.memory.coherent.entries in
            let b : k.config.pages ≡ c.pages = ap (λ (d : Config). d.pages) sound.config in
            omega (arith, a, b, inside)

        unlocked : IsLastAt i p ((net_of o).entry i p) letter_here
            → is_locked (entry_at (handled managed_ops k source t.message).after.table p) ≡ false
        unlocked last =
            let mine : k.me ≡ i = sound.me ∙ sym same in
            let at : (net_of o).entry i p ≡ entry_at k.table p =
            here p ∙ ap (λ (z : Host Managed). entry_at z.memory.coherence.table p) (sym it) in
            last_unlocks managed_ops k source p low t.message (mine ∙ sym last.asker)
            (subst (λ v. IsLast (entry_at k.table p)
            (record { source = source; dest = v; message = t.message }) p)
            (sym same ∙ sym mine)
            (subst (λ e. IsLast e letter_here p) at last.last))

        after_is : (h' : Host Managed) → slice_get o'.cores i ≡ Some h'
            → h'.memory.coherence ≡ (handled managed_ops k source t.message).after
        after_is h' now =
            ap (λ (z : Host Managed). z.memory.coherence)
            (same_Some h' (serving managed_ops t.core source t.message).after
            (sym now ∙ core_here o o' x t.core _ i t.there t.cores same))
            ∙ ap (λ z. z.after.memory.coherence)
            (page_serving managed_ops t.core source t.message about)

        by_page : WaitsOrOpens
        by_page = elim (aimed letter_here only delivery_within) [
          | inl a ↦ inl a
          | inr last ↦
              inr (λ h' now.
              ap (λ (z : Coherent Managed). is_locked (entry_at z.table p)) (after_is h' now)
              ∙ unlocked last)
        ]

      by_delivery : WaitsOrOpens
      by_delivery = elim (cases_eq i x) [
        | inr ne ↦ inl (elsewhere ne)
        | inl same ↦ elim (cases_Bool (is_of_pages t.message.content)) [
          | inl about ↦ by_page same about
          | inr heap ↦ inl (by_heap heap)
        ]
      ]

    pub step_locked : WaitsOrOpens
    step_locked = by_steps step
      where
        by_steps : Steps (host_rules managed_ops) o o' → WaitsOrOpens
        by_steps (turns x t) = inl (by_turn x t)
        by_steps (delivers source x t) = by_delivery source x t
        by_steps (rests same) =
            inl (subst (λ (z : FifoWorld (Host Managed)). IsWaitingIn rank z due p i r) (sym same) waits)
