-- The opening world is faithful to the empty order: all bytes are 0, and nothing was asked or sent.
use Rattle.std.proofs.Common.{◌≡◌, ◌⊎◌, ◌<◌, ℕ, Bool, true, false, ◌==◌, List, [], ◌++◌, length}
use Rattle.std.proofs.Common.{get_or, replicate, slice_get, Option, Some, None, refl, ap, sym}
use Rattle.std.proofs.Common.{subst, ◌∙◌, inl, inr, arith, if◌then◌else◌}
use Rattle.std.proofs.lemmas.Bool.{cases_eq, cases_lt, ne_eqb}
use Rattle.std.proofs.lemmas.List.{length-replicate, get_or-replicate, get_or_past}
use Rattle.std.proofs.lemmas.Option.{same_Some, none-some, slice_get_within, slice_get-get_or}
use Rattle.ivy_model.specs.declared.Config.{Config}
use Rattle.ivy_model.specs.stated.Config.{IsConfig}
use Rattle.ivy_model.specs.Memory.{flat_page}
use Rattle.ivy_model.specs.stated.Memory.{first as first_memory}
use Rattle.ivy_model.proofs.Sizes.{zero_page}
use Rattle.ivy_pagetable.specs.declared.Entry.{Entry}
use Rattle.ivy_pagetable.specs.declared.PutOff.{PutOff}
use Rattle.ivy_pagetable.specs.stated.Entries.{put_offs, nothing, owned}
use Rattle.ivy_pagetable.specs.stated.Tables.{first_entry}
use Rattle.ivy_pagetable.specs.stated.Manager.{Ops}
use Rattle.ivy_program.specs.stated.Programs.{Program, Called}
use Rattle.ivy_alloc.specs.stated.Heap.{HeapState, first_heap}
use Rattle.ivy_alloc.specs.stated.HeapCalls.{first_side}
use Rattle.ivy_moves.specs.stated.Explained.{StandTogether}
use Rattle.ivy_moves.specs.stated.FifoWorld.{FifoWorld}
use Rattle.ivy_moves.specs.stated.Following.{fifo_of}
use Rattle.ivy_host.specs.stated.Hosts.{Host}
use Rattle.ivy_host.specs.stated.Openings.{Start, first_host, opening}
use Rattle.ivy_host.proofs.Starts.{IsStart}
use Rattle.proof_table.specs.stated.Letters.{Letter, Place, Underway, Aside, Loose, IsAt}
use Rattle.proof_worlds.specs.stated.HeapRequests.{heap_way}
use Rattle.proof_worlds.proofs.refinement.LiftedWorlds.{entry_of, page_of, net_of, IsSoundWorldBy}
use Rattle.proof_worlds.proofs.refinement.LiftedRuns.{sound_opening}
use Rattle.proof_table.proofs.transitions.Opening.{IsFirst, orderly_opening}
use Rattle.proof_worlds.proofs.refinement.Led.{opening_first}
use Rattle.proof_worlds.proofs.refinement.Worlds.{first_net}
use Rattle.proof_worlds.specs.consistency.Copied.{HasBytes}
use Rattle.proof_worlds.proofs.consistency.CopiedRows.{no_bytes, opening_copied}
use Rattle.proof_worlds.proofs.consistency.Owing.{pending, IsRunning}
use Rattle.proof_worlds.proofs.consistency.Adjacent.{none_together}
use Rattle.proof_worlds.proofs.consistency.Faithful.{IsFaithful}

-- the entry of a page at a node as it begins
first_is : (i : ℕ) → ((i ≡ 0) × (first_entry i ≡ owned)) ⊎ (first_entry i ≡ nothing)
first_is i =
    elim (cases_eq i 0) [
      | inl same ↦ inl (same, ap first_entry same)
      | inr ne ↦
          inr (ap (λ (b : Bool). if b then owned else nothing) (ne_eqb i 0 ne))
    ]

first_at : (i pages p : ℕ)
    → ((i ≡ 0) × (p < pages) × (get_or (replicate pages (first_entry i)) p nothing ≡ owned))
    ⊎ (get_or (replicate pages (first_entry i)) p nothing ≡ nothing)
first_at i pages p = elim (cases_lt p pages) [
  | inr past ↦
      inr (get_or_past (replicate pages (first_entry i)) p nothing
      (let long = length-replicate pages (first_entry i) in omega (arith, past, long)))
  | inl inside ↦ elim (first_is i) [
    | inl y ↦ inl (y.0, inside, get_or-replicate pages p (first_entry i) nothing inside ∙ y.1)
    | inr y ↦ inr (get_or-replicate pages p (first_entry i) nothing inside ∙ y)
  ]
]

module _ {S : Type 0} (ops : Ops S) (start : Start S) (c : Config) (config : IsConfig c)
    (fresh : IsStart ops c start) (programs : List Program)
    (many : length programs ≡ c.nodes) where
  abbrev begun : FifoWorld (Host S)
  begun = fifo_of (opening start c programs) (λ i j. [])

  sound : IsSoundWorldBy start.sends_on ops c begun
  sound = sound_opening start c config fresh programs many

  entry_there : (i p : ℕ) (h : Option (Host S)) → slice_get begun.cores i ≡ h
      → ((i ≡ 0) × (i < c.nodes) × (p < c.pages) × (entry_of h p ≡ owned))
      ⊎ (entry_of h p ≡ nothing)
  entry_there i p None there = inr refl
  entry_there i p (Some n) there =
      let new = opening_first start c programs i n there in
      let low : i < c.nodes =
      (let within = slice_get_within begun.cores i n there in let count = sound.count in
      omega (arith, within, count)) in
      let same : entry_of (Some n) p ≡ get_or (replicate c.pages (first_entry i)) p nothing =
      ap (λ (x : Host S). entry_of (Some x) p) new.1 in
      elim (first_at i c.pages p) [
        | inl y ↦ inl (y.0, low, y.1, same ∙ y.2)
        | inr y ↦
            inr (same ∙ y)
      ]

  first : IsFirst (net_of begun)
  first = first_net start c programs

  inside : (i p : ℕ) → HasBytes ((net_of begun).entry i p) → (i < c.nodes) × (p < c.pages)
  inside i p has =
      elim (entry_there i p (slice_get begun.cores i) refl) [
        | inl y ↦ (y.1, y.2)
        | inr y ↦
            absurd (no_bytes nothing refl refl (subst HasBytes y has))
      ]

  zeros : (i p : ℕ) → i < c.nodes → p < c.pages → (net_of begun).page i p ≡ replicate c.page_size 0
  zeros i p low within = at (slice_get begun.cores i) refl
    where
      at : (h : Option (Host S)) → slice_get begun.cores i ≡ h
          → page_of h p ≡ replicate c.page_size 0
      at None gone =
          let there =
          slice_get-get_or begun.cores i (first_host start c i (Called [] []))
          (let count = sound.count in omega (arith, low, count)) in
          absurd (none-some (get_or begun.cores i (first_host start c i (Called [] [])))
          (sym gone ∙ there))
      at (Some n) there =
          let new = opening_first start c programs i n there in
          ap (λ (x : Host S). page_of (Some x) p) new.1
          ∙ get_or-replicate c.pages p (replicate c.page_size 0) [] within

  none_aside : (e : Entry) (k : ℕ) (q : PutOff) → (e ≡ owned) ⊎ (e ≡ nothing)
      → slice_get (put_offs e) k ≡ Some q → ⊥
  none_aside e k q (inl is) there =
      none-some q (ap (λ x. slice_get (put_offs x) k) (sym is) ∙ there)
  none_aside e k q (inr is) there =
      none-some q (ap (λ x. slice_get (put_offs x) k) (sym is) ∙ there)

  no_letter : (a : Place) (l : Letter) → IsAt (net_of begun) a l → ⊥
  no_letter (Underway i j k) l at = none-some l.message at.1
  no_letter (Aside i p k) l at =
      none_aside ((net_of begun).entry i p) k at.0
      (elim (first.entries i p) [ inl y ↦ inl y.1 | inr y ↦ inr y ]) at.1
  no_letter (Loose k) l at = none-some l at

  -- no block is live
  first_blocks : (i : ℕ) (h : HeapState) → (first_side c i).heap ≡ Some h
      → h.blocks ≡ (first_memory c).blocks
  first_blocks i h has = at (i == 0) has
    where
      at : (b : Bool) → (if b then Some (first_heap c) else None) ≡ Some h
          → h.blocks ≡ (first_memory c).blocks
      at true is = ap (λ (x : HeapState). x.blocks) (sym (same_Some (first_heap c) h is))
      at false is = absurd (none-some h is)

  -- nothing is to be explained yet
  pub opening_faithful : IsFaithful start.sends_on ops c begun []
  opening_faithful = record {
    memory = first_memory c;
    legal = refl;
    pages = flat_page c (first_memory c);
    shows = λ p within. refl;
    sound = sound;
    orderly = orderly_opening (net_of begun) first c;
    copied =
        opening_copied c (net_of begun) (flat_page c (first_memory c)) inside zeros
        (λ p within. zero_page c p config within) no_letter;
    running = λ i n there. (let new = opening_first start c programs i n there in
        subst (IsRunning c) (sym new.1) (record {
          run = (0, refl);
          makes = λ called is. absurd (none-some called is);
          waits = λ called page word number is. absurd (none-some called is);
          waits_along = λ page lock. absurd (none-some page lock);
          prompt = λ page word number lock. absurd (none-some page lock);
          idle = λ lock done. refl;
          told = λ o done. inl refl;
        }));
    parts = λ i n there.
        (let new = opening_first start c programs i n there in
        ap (λ (x : Host S). x.history ++ pending x (heap_way begun 0 i)) (sym new.1));
    together = λ i n there.
        (let new = opening_first start c programs i n there in
        subst (λ (x : Host S). StandTogether (pending x (heap_way begun 0 i)) []) (sym new.1)
        (none_together []));
    blocks =
        λ i n h there has.
        (let new = opening_first start c programs i n there in
        first_blocks i h (ap (λ (x : Host S). x.memory.side.heap) (sym new.1) ∙ has));
  }
