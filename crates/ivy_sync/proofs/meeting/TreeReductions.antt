-- In a reduction by a tree each node finds the parts of its children, and all get node 0's.
use Rattle.std.proofs.Common.{◌≡◌, ◌≢◌, ℕ, zero, suc, ◌+◌, ◌-◌, ◌*◌, ◌/◌, ◌%◌, ◌^◌, ◌<◌, ◌≤◌, inl, inr, false}
use Rattle.std.proofs.Common.{List, [], ◌∷◌, ◌++◌, if◌then◌else◌, Some, refl, sym, ap, subst, ◌∙◌, append_assoc, arith}
use Rattle.std.specs.Prelude.{slice_get}
use Rattle.std.specs.List.{AllByRecursion as Each}
use Rattle.std.proofs.Math.Nat.{mod-le}
use Rattle.std.proofs.lemmas.Bool.{eq-eqb}
use Rattle.ivy_model.specs.declared.config.Config.{Config}
use Rattle.ivy_model.specs.declared.call.Record.{Record}
use Rattle.ivy_model.specs.stated.Memory.{Memory}
use Rattle.ivy_calls.specs.declared.answer.Answer.{Answer}
use Rattle.ivy_calls.specs.Answers.{answers_of}
use Rattle.ivy_sync.specs.Doing.{LooksUntil, loads, stores}
use Rattle.ivy_sync.specs.HeapWords.{word, word_after, is_write_in, KeepsBelow, NoWrite, LeadsThrough}
use Rattle.ivy_sync.specs.meeting.TreeBarriers.{Awaits, children}
use Rattle.ivy_sync.specs.meeting.TreeReductions.{Role, Part, Raised, Given, Opened, finds_from}
use Rattle.ivy_sync.specs.meeting.TreeReductions.{IsFoldPlace, ReducesByTree, TreeReductionsAgree}
use Rattle.ivy_sync.proofs.answers.Below.{StaysBelow, looks_quiet, no_write_below, quiet_below}
use Rattle.ivy_sync.proofs.answers.Lists.{All-append, All-both}
use Rattle.ivy_sync.proofs.excluding.Locked.{in_other}
use Rattle.ivy_sync.proofs.meeting.Flagged.{FindsFlagged, Flags, Guarded, found_flagged}
use Rattle.ivy_sync.proofs.meeting.Reductions.{some_there}
use Rattle.ivy_sync.proofs.meeting.TreeBarriers.{awaits_quiet, gathered_quiet, gathered_seen, until_seen}

-- loads write nothing, and the one at a place stands among them
finds_quiet : (at : ℕ → ℕ) (d n : ℕ) (vs : List ℕ) → NoWrite d (finds_from at n vs)
finds_quiet at d n [] = tt
finds_quiet at d n (v ∷ vs) = (refl, finds_quiet at d (n + 1) vs)

find_there : (at : ℕ → ℕ) (n k v : ℕ) (vs : List ℕ) → slice_get vs k ≡ Some v
    → (xs : List Answer) × (ys : List Answer)
    × (finds_from at n vs ≡ xs ++ loads (at (n + k)) v ∷ ys)
find_there at n k v [] e = absurd (cc)
find_there at n zero v (x ∷ vs) e =
    let same : x ≡ v = cc in
    let here : n ≡ n + 0 = omega arith in (
      [],
      finds_from at (n + 1) vs,
      ap (λ m. loads (at m) x ∷ finds_from at (n + 1) vs) here
          ∙ ap (λ u. loads (at (n + 0)) u ∷ finds_from at (n + 1) vs) same,
    )
find_there at n (suc k) v (x ∷ vs) e =
    let w = find_there at (n + 1) k v vs e in
    let there : n + 1 + k ≡ n + suc k = omega arith in (
      loads (at n) x ∷ w.0,
      w.1,
      ap (λ (l : List Answer). loads (at n) x ∷ l)
          (w.2 ∙ ap (λ m. w.0 ++ loads (at m) v ∷ w.1) there),
    )

-- histories that are cut where a word is raised, or seen raised
rise_cut : (b g e : List Answer) (s t : Answer)
    → (b ++ (g ++ s ∷ t ∷ [])) ++ e ≡ ((b ++ g) ++ s ∷ []) ++ t ∷ e
rise_cut b g e s t =
    append_assoc b (g ++ s ∷ t ∷ []) e
    ∙ ap (λ (l : List Answer). b ++ l) (append_assoc g (s ∷ t ∷ []) e)
    ∙ sym (append_assoc b g (s ∷ t ∷ e)) ∙ sym (append_assoc (b ++ g) (s ∷ []) (t ∷ e))

descent_cut : (b g e : List Answer) (s t : Answer)
    → b ++ ((g ++ s ∷ t ∷ []) ++ e) ≡ ((b ++ g) ++ s ∷ []) ++ t ∷ e
descent_cut b g e s t =
    ap (λ (l : List Answer). b ++ l) (append_assoc g (s ∷ t ∷ []) e)
    ∙ sym (append_assoc b g (s ∷ t ∷ e)) ∙ sym (append_assoc (b ++ g) (s ∷ []) (t ∷ e))

part_look : (b f k x y s e : List Answer) (r d : Answer)
    → (b ++ (((f ++ r ∷ k) ++ (x ++ d ∷ y)) ++ s)) ++ e
    ≡ ((b ++ f) ++ r ∷ (k ++ x)) ++ d ∷ (y ++ (s ++ e))
part_look b f k x y s e r d =
    let both : List Answer = (f ++ r ∷ k) ++ (x ++ d ∷ y) in
    let rest : List Answer = y ++ (s ++ e) in
    append_assoc b (both ++ s) e
    ∙ ap (λ (l : List Answer). b ++ l)
    (append_assoc both s e ∙ append_assoc (f ++ r ∷ k) (x ++ d ∷ y) (s ++ e)
    ∙ ap (λ (l : List Answer). (f ++ r ∷ k) ++ l) (append_assoc x (d ∷ y) (s ++ e))
    ∙ append_assoc f (r ∷ k) (x ++ d ∷ rest)
    ∙ ap (λ (l : List Answer). f ++ r ∷ l) (sym (append_assoc k x (d ∷ rest))))
    ∙ sym (append_assoc b f (r ∷ ((k ++ x) ++ d ∷ rest)))
    ∙ sym (append_assoc (b ++ f) (r ∷ (k ++ x)) (d ∷ rest))

given_look : (b f k s e : List Answer) (r d : Answer)
    → b ++ ((((f ++ r ∷ k) ++ d ∷ []) ++ s) ++ e) ≡ ((b ++ f) ++ r ∷ k) ++ d ∷ (s ++ e)
given_look b f k s e r d =
    ap (λ (l : List Answer). b ++ l)
    (append_assoc ((f ++ r ∷ k) ++ d ∷ []) s e ∙ append_assoc (f ++ r ∷ k) (d ∷ []) (s ++ e)
    ∙ append_assoc f (r ∷ k) (d ∷ (s ++ e)))
    ∙ sym (append_assoc b f (r ∷ (k ++ d ∷ (s ++ e))))
    ∙ sym (append_assoc (b ++ f) (r ∷ k) (d ∷ (s ++ e)))

guard_cut : (v f e a : List Answer) (s : Answer)
    → (((v ++ s ∷ []) ++ f) ++ e) ++ a ≡ v ++ s ∷ ((f ++ e) ++ a)
guard_cut v f e a s =
    append_assoc ((v ++ s ∷ []) ++ f) e a ∙ append_assoc (v ++ s ∷ []) f (e ++ a)
    ∙ append_assoc v (s ∷ []) (f ++ (e ++ a))
    ∙ ap (λ (l : List Answer). v ++ s ∷ l) (sym (append_assoc f e a))

next_cut : (q f b r : List Answer) (s : Answer)
    → q ++ ((f ++ s ∷ b) ++ r) ≡ (q ++ f) ++ s ∷ (b ++ r)
next_cut q f b r s =
    ap (λ (l : List Answer). q ++ l) (append_assoc f (s ∷ b) r)
    ∙ sym (append_assoc q f (s ∷ (b ++ r)))

-- a word that is raised to a phase stays below the next one
raise_low : (a phase : ℕ) → StaysBelow a (phase + 1) (stores a phase)
raise_low a phase = (
  λ t. (refl, refl),
  λ v less.
      let is : word_after a v (stores a phase).call ≡ phase % 2 ^ 64 =
      ap (λ b. if b then phase % 2 ^ 64 else v) (eq-eqb (a / 8) (a / 8) refl) in
      let most : phase % 2 ^ 64 ≤ phase = mod-le phase (2 ^ 64) in
      omega (arith, is, most),
)

module _ (c : Config) (old new : Memory) (order : List Record) (at : Role → ℕ → ℕ) (phase : ℕ)
    (part all : ℕ → ℕ) (values : ℕ → List ℕ) (run : LeadsThrough c old order new)
    (place : IsFoldPlace c old at phase)
    (reduces : (i : ℕ) → i < c.nodes
    → ReducesByTree at c.nodes phase i (part i) (all i) (values i) (answers_of i order)) where
  abbrev Quiet : ℕ → Answer → Type 0
  Quiet d r = is_write_in d r.call ≡ false

  -- at the reduction a node writes in its own words alone
  rise_quiet : (d i : ℕ) (l : i < c.nodes) → at Part i / 8 ≢ d / 8 → at Raised i / 8 ≢ d / 8
      → NoWrite d (reduces i l).rise
  rise_quiet d i l part_apart raised_apart =
      let w = (reduces i l).rises in
      let found : List Answer = finds_from (at Part) (4 * i + 1) (values i) in
      subst (NoWrite d) (sym w.whole)
      (All-both (Quiet d) (w.gathered ++ found)
      (stores (at Part i) (part i) ∷ stores (at Raised i) phase ∷ [])
      (All-both (Quiet d) w.gathered found
      (gathered_quiet d (at Raised) phase (4 * i + 1) (children c.nodes i) w.gathered w.gathers)
      (finds_quiet (at Part) d (4 * i + 1) (values i)))
      (in_other d (at Part i) part_apart, (in_other d (at Raised i) raised_apart, tt)))

  fetched_quiet : (d i : ℕ) (l : i < c.nodes) → NoWrite d (reduces i l).descends.fetched
  fetched_quiet d zero l = subst (NoWrite d) (sym (reduces zero l).descends.fetches.1) tt
  fetched_quiet d (suc i) l = subst (NoWrite d) (sym (reduces (suc i) l).descends.fetches) (refl, tt)

  descent_quiet : (d i : ℕ) (l : i < c.nodes) → at Given i / 8 ≢ d / 8 → at Opened i / 8 ≢ d / 8
      → NoWrite d (reduces i l).descent
  descent_quiet d i l given_apart open_apart =
      let w = (reduces i l).descends in
      subst (NoWrite d) (sym w.whole)
      (All-both (Quiet d) (w.waited ++ w.fetched)
      (stores (at Given i) (all i) ∷ stores (at Opened i) phase ∷ [])
      (All-both (Quiet d) w.waited w.fetched
      (awaits_quiet d (at Opened) phase i w.waited w.awaits) (fetched_quiet d i l))
      (in_other d (at Given i) given_apart, (in_other d (at Opened i) open_apart, tt)))

  -- so another one's words it leaves
  module _ (role : Role) (n i : ℕ) (m : n < c.nodes) (l : i < c.nodes) (ne : i ≢ n) where
    other_apart : (own : Role) → at own i / 8 ≢ at role n / 8
    other_apart own = place.apart own role i n l m (λ _. ne)

    -- what holds of all that it does holds of its history
    of_history : (P : Answer → Type 0) → Each P (reduces i l).before → Each P (reduces i l).rise
        → Each P (reduces i l).descent → Each P (reduces i l).after → Each P (answers_of i order)
    of_history P before rise descent after =
        let w = reduces i l in
        subst (Each P) (sym w.whole)
        (All-both P (w.before ++ w.rise) (w.descent ++ w.after)
        (All-both P w.before w.rise before rise) (All-both P w.descent w.after descent after))

    other_silent : NoWrite (at role n) (answers_of i order)
    other_silent =
        of_history (Quiet (at role n)) ((reduces i l).others role n m (λ e. ne (sym e))).0
        (rise_quiet (at role n) i l (other_apart Part) (other_apart Raised))
        (descent_quiet (at role n) i l (other_apart Given) (other_apart Opened))
        ((reduces i l).others role n m (λ e. ne (sym e))).1

    other_low : (least : ℕ) → KeepsBelow (at role n) least (answers_of i order)
    other_low least = no_write_below (at role n) least (answers_of i order) other_silent

  -- two words of one node
  own_apart : (role other : Role) (n : ℕ) → n < c.nodes → (role ≡ other → ⊥)
      → at role n / 8 ≢ at other n / 8
  own_apart role other n l ne = place.apart role other n n l l (λ same. absurd (ne same))

  -- a child raises its word once its part is there, and writes there no more before it has seen its parent's open
  part_flags : (n j : ℕ) (m : n < c.nodes) → n ≡ suc j
      → Flags (at Part n) (at Raised n) phase (at Opened (j / 4)) phase (part n) (answers_of n order)
  part_flags n j m e =
      let w = reduces n m in
      let found : List Answer = finds_from (at Part) (4 * n + 1) (values n) in
      let r : ℕ = at Raised n in
      let looks : LooksUntil (at Opened (j / 4)) phase w.descends.waited =
      subst (λ k. Awaits (at Opened) phase k w.descends.waited) e w.descends.awaits in
      let seen : Answer = loads (at Opened (j / 4)) looks.found in
      let end : List Answer = stores (at Given n) (all n) ∷ stores (at Opened n) phase ∷ [] in
      let begin : List Answer =
      ((w.before ++ (w.rises.gathered ++ found)) ++ stores (at Part n) (part n) ∷ []) in
      record {
        before = w.before ++ (w.rises.gathered ++ found);
        still = looks.vain;
        later = seen ∷ ((w.descends.fetched ++ end) ++ w.after);
        whole =
            w.whole
            ∙ ap (λ (rs : List Answer). (w.before ++ rs) ++ (w.descent ++ w.after)) w.rises.whole
            ∙ rise_cut w.before (w.rises.gathered ++ found) (w.descent ++ w.after)
            (stores (at Part n) (part n)) (stores r phase)
            ∙ ap (λ (rs : List Answer). begin ++ stores r phase ∷ rs)
            (ap (λ (rs : List Answer). rs ++ w.after) (w.descends.whole
            ∙ ap (λ (rs : List Answer). (rs ++ w.descends.fetched) ++ end) looks.whole)
            ∙ guard_cut looks.vain w.descends.fetched end w.after seen);
        low =
            All-both (StaysBelow r phase) w.before (w.rises.gathered ++ found)
            (w.low phase (omega arith)).0
            (no_write_below r phase (w.rises.gathered ++ found)
            (All-both (Quiet r) w.rises.gathered found
            (gathered_quiet r (at Raised) phase (4 * n + 1) (children c.nodes n) w.rises.gathered
            w.rises.gathers)
            (finds_quiet (at Part) r (4 * n + 1) (values n))));
        left = looks_quiet (at Part n) (at Opened (j / 4)) phase looks.vain looks.each;
        guarded = inr (looks.found, (w.descends.fetched ++ end) ++ w.after, looks.enough, refl);
      }

  -- and its parent sees that before it finds the part, and opens its own word later
  part_found : (i k v : ℕ) (l : i < c.nodes) → k < children c.nodes i
      → slice_get (values i) k ≡ Some v
      → FindsFlagged (at Part (4 * i + 1 + k)) (at Raised (4 * i + 1 + k)) phase (at Opened i) phase v
      (answers_of i order)
  part_found i k v l few e =
      let w = reduces i l in
      let n : ℕ = 4 * i + 1 + k in
      let q : ℕ = at Opened i in
      let seen =
      gathered_seen (at Raised) phase (4 * i + 1) (children c.nodes i) w.rises.gathered
      w.rises.gathers k few in
      let find = find_there (at Part) (4 * i + 1) k v (values i) e in
      let end : List Answer = stores (at Part i) (part i) ∷ stores (at Raised i) phase ∷ [] in
      let rest : List Answer = w.descent ++ w.after in
      let look : Answer = loads (at Raised n) seen.found in
      let looks =
      All-append (Quiet q) seen.front (look ∷ seen.back)
      (subst (NoWrite q) seen.whole
      (gathered_quiet q (at Raised) phase (4 * i + 1) (children c.nodes i) w.rises.gathered
      w.rises.gathers)) in
      let loaded =
      All-append (Quiet q) find.0 (loads (at Part n) v ∷ find.1)
      (subst (NoWrite q) find.2 (finds_quiet (at Part) q (4 * i + 1) (values i))) in
      record {
        before = w.before ++ seen.front;
        found = seen.found;
        between = seen.back ++ find.0;
        after = find.1 ++ (end ++ rest);
        enough = seen.enough;
        whole =
            w.whole ∙ ap (λ (rs : List Answer). (w.before ++ rs) ++ rest) w.rises.whole
            ∙ ap (λ (rs : List Answer). (w.before
            ++ ((rs ++ finds_from (at Part) (4 * i + 1) (values i)) ++ end)) ++ rest) seen.whole
            ∙ ap (λ (rs : List Answer). (w.before
            ++ (((seen.front ++ look ∷ seen.back) ++ rs) ++ end)) ++ rest) find.2
            ∙ part_look w.before seen.front seen.back find.0 find.1 end rest look
            (loads (at Part n) v);
        low =
            All-both (StaysBelow q phase) (w.before ++ seen.front) (look ∷ (seen.back ++ find.0))
            (All-both (StaysBelow q phase) w.before seen.front (w.low phase (omega arith)).1
            (no_write_below q phase seen.front looks.0))
            (no_write_below q phase (look ∷ (seen.back ++ find.0))
            (refl, All-both (Quiet q) seen.back find.0 looks.1.1 loaded.0));
      }

  child_there : (i k : ℕ) → k < children c.nodes i → 4 * i + 1 + k < c.nodes
  child_there i k few = omega (arith, few)

  part_is : (i k v : ℕ) (l : i < c.nodes) → k < children c.nodes i
      → slice_get (values i) k ≡ Some v → v ≡ part (4 * i + 1 + k)
  part_is i k v l few e =
      let n : ℕ = 4 * i + 1 + k in
      let m = child_there i k few in
      let below : n ≡ suc (4 * i + k) = omega arith in
      let above : (4 * i + k) / 4 ≡ i = omega (arith, few) in
      found_flagged c old new order (at Part n) (at Raised n) phase (at Opened i) phase (part n) v i n
      run (place.words Part n m) (place.words Raised n m) (place.words Opened i l)
      (own_apart Part Raised n m (λ x. cc)) (place.raised_low n m) (place.open_low i l)
      (reduces n m).rises.fits
      (subst (λ p. Flags (at Part n) (at Raised n) phase (at Opened p) phase (part n)
      (answers_of n order)) above (part_flags n (4 * i + k) m below))
      (λ j p ne. other_silent Part n j m p ne) (λ j p ne. other_low Raised n j m p ne phase)
      (λ j p ne. other_low Opened i j l p ne phase) (part_found i k v l few e)

  -- a parent opens its word once what all get is there
  given_flags_by : (n q bound : ℕ) (m : n < c.nodes) (still later : List Answer)
      → (reduces n m).after ≡ still ++ later → NoWrite (at Given n) still → Guarded q bound later
      → Flags (at Given n) (at Opened n) phase q bound (all n) (answers_of n order)
  given_flags_by n q bound m still later cut quiet guarded =
      let w = reduces n m in
      let so_far : List Answer = w.descends.waited ++ w.descends.fetched in
      let r : ℕ = at Opened n in
      record {
        before = (w.before ++ w.rise) ++ so_far;
        still = still;
        later = later;
        whole =
            w.whole
            ∙ ap (λ (rs : List Answer). (w.before ++ w.rise) ++ (rs ++ w.after)) w.descends.whole
            ∙ descent_cut (w.before ++ w.rise) so_far w.after (stores (at Given n) (all n))
            (stores r phase)
            ∙ ap (λ (rs : List Answer). (((w.before ++ w.rise) ++ so_far)
            ++ stores (at Given n) (all n) ∷ []) ++ stores r phase ∷ rs) cut;
        low =
            All-both (StaysBelow r phase) (w.before ++ w.rise) so_far
            (All-both (StaysBelow r phase) w.before w.rise (w.low phase (omega arith)).1
            (no_write_below r phase w.rise
            (rise_quiet r n m (own_apart Part Opened n m (λ e. cc))
            (own_apart Raised Opened n m (λ e. cc)))))
            (no_write_below r phase so_far
            (All-both (Quiet r) w.descends.waited w.descends.fetched
            (awaits_quiet r (at Opened) phase n w.descends.waited w.descends.awaits)
            (fetched_quiet r n m)));
        left = quiet;
        guarded = guarded;
      }

  -- and writes there no more before it has seen this child come to the next phase
  given_flags : (n k : ℕ) (m : n < c.nodes) → k < children c.nodes n
      → Flags (at Given n) (at Opened n) phase (at Raised (4 * n + 1 + k)) (phase + 1) (all n)
      (answers_of n order)
  given_flags n k m few =
      let g = (reduces n m).goes_on in
      let q : ℕ = at Raised (4 * n + 1 + k) in
      elim g.next [
        | inl none ↦
            given_flags_by n q (phase + 1) m g.quiet g.later g.whole (g.still Given) (inl none)
        | inr v ↦
            let seen =
            gathered_seen (at Raised) (phase + 1) (4 * n + 1) (children c.nodes n) v.0 v.2 k few in
            let look : Answer = loads q seen.found in
            let looks =
            All-append (Quiet (at Given n)) seen.front (look ∷ seen.back)
            (subst (NoWrite (at Given n)) seen.whole
            (gathered_quiet (at Given n) (at Raised) (phase + 1) (4 * n + 1) (children c.nodes n) v.0
            v.2)) in
            given_flags_by n q (phase + 1) m (g.quiet ++ seen.front) (look ∷ (seen.back ++ v.1))
            (g.whole ∙ ap (λ (rs : List Answer). g.quiet ++ rs)
            (v.3 ∙ ap (λ (rs : List Answer). rs ++ v.1) seen.whole)
            ∙ next_cut g.quiet seen.front seen.back v.1 look)
            (All-both (Quiet (at Given n)) g.quiet seen.front (g.still Given) looks.0)
            (inr (seen.found, seen.back ++ v.1, seen.enough, refl))
      ]

  given_found : (i : ℕ) (l : suc i < c.nodes)
      → FindsFlagged (at Given (i / 4)) (at Opened (i / 4)) phase (at Raised (suc i)) (phase + 1)
      (all (suc i)) (answers_of (suc i) order)
  given_found i l =
      let w = reduces (suc i) l in
      let q : ℕ = at Raised (suc i) in
      let seen = until_seen (at Opened (i / 4)) phase w.descends.waited w.descends.awaits in
      let look : Answer = loads (at Given (i / 4)) (all (suc i)) in
      let opens : Answer = loads (at Opened (i / 4)) seen.found in
      let found : List Answer = finds_from (at Part) (4 * suc i + 1) (values (suc i)) in
      let end : List Answer =
      stores (at Given (suc i)) (all (suc i)) ∷ stores (at Opened (suc i)) phase ∷ [] in
      let begin : List Answer = w.before ++ w.rise in
      let looks =
      All-append (Quiet q) seen.front (opens ∷ seen.back)
      (subst (NoWrite q) seen.whole
      (awaits_quiet q (at Opened) phase (suc i) w.descends.waited w.descends.awaits)) in
      let rise_low : KeepsBelow q (phase + 1) w.rise =
      subst (KeepsBelow q (phase + 1)) (sym w.rises.whole)
      (All-both (StaysBelow q (phase + 1)) (w.rises.gathered ++ found)
      (stores (at Part (suc i)) (part (suc i)) ∷ stores q phase ∷ [])
      (no_write_below q (phase + 1) (w.rises.gathered ++ found)
      (All-both (Quiet q) w.rises.gathered found
      (gathered_quiet q (at Raised) phase (4 * suc i + 1) (children c.nodes (suc i)) w.rises.gathered
      w.rises.gathers) (finds_quiet (at Part) q (4 * suc i + 1) (values (suc i))))) (
        quiet_below q (phase + 1) (stores (at Part (suc i)) (part (suc i)))
            (in_other q (at Part (suc i)) (own_apart Part Raised (suc i) l (λ e. cc))),
        (raise_low q phase, tt),
      )) in
      record {
        before = begin ++ seen.front;
        found = seen.found;
        between = seen.back;
        after = end ++ w.after;
        enough = seen.enough;
        whole =
            w.whole ∙ ap (λ (rs : List Answer). begin ++ (rs ++ w.after)) w.descends.whole
            ∙ ap (λ (rs : List Answer). begin ++ (((rs ++ w.descends.fetched) ++ end) ++ w.after))
            seen.whole
            ∙ ap (λ (rs : List Answer). begin
            ++ ((((seen.front ++ opens ∷ seen.back) ++ rs) ++ end) ++ w.after)) w.descends.fetches
            ∙ given_look begin seen.front seen.back end w.after opens look;
        low =
            All-both (StaysBelow q (phase + 1)) (begin ++ seen.front) (opens ∷ seen.back)
            (All-both (StaysBelow q (phase + 1)) begin seen.front
            (All-both (StaysBelow q (phase + 1)) w.before w.rise (w.low (phase + 1) (omega arith)).0
            rise_low)
            (no_write_below q (phase + 1) seen.front looks.0))
            (no_write_below q (phase + 1) (opens ∷ seen.back) looks.1);
      }

  some : 0 < c.nodes
  some = let from = run.config.nodes_from in omega (arith, from)

  -- who is no further than so many nodes down gets node 0's part
  gets : (most i : ℕ) → i ≤ most → i < c.nodes → all i ≡ part 0
  gets most zero few l = (reduces 0 l).descends.fetches.0
  gets zero (suc i) few l = absurd (omega (arith, few))
  gets (suc most) (suc i) few l =
      let n : ℕ = i / 4 in
      let m : n < c.nodes = omega (arith, l) in
      let above : all n ≡ part 0 = gets most n (omega (arith, few)) m in
      let fits : all n < 2 ^ 64 =
      (let small = (reduces 0 some).rises.fits in omega (arith, small, above)) in
      let k : ℕ = i - 4 * n in
      let there : 4 * n + 1 + k ≡ suc i = omega arith in
      let one : k < children c.nodes n = omega (arith, l) in
      let shut : word c old (at Raised (suc i)) < phase + 1 =
      (let low = place.raised_low (suc i) l in omega (arith, low)) in
      found_flagged c old new order (at Given n) (at Opened n) phase (at Raised (suc i)) (phase + 1)
      (all n) (all (suc i)) (suc i) n run (place.words Given n m) (place.words Opened n m)
      (place.words Raised (suc i) l) (own_apart Given Opened n m (λ x. cc)) (place.open_low n m) shut
      fits
      (subst (λ u. Flags (at Given n) (at Opened n) phase (at Raised u) (phase + 1) (all n)
      (answers_of n order)) there (given_flags n k m one))
      (λ j p ne. other_silent Given n j m p ne) (λ j p ne. other_low Opened n j m p ne phase)
      (λ j p ne. other_low Raised (suc i) j l p ne (phase + 1)) (given_found i l)
      ∙ above

pub tree_reductions-agree : TreeReductionsAgree
tree_reductions-agree c old new order at phase part all values run place reduces i l = (
  gets c old new order at phase part all values run place reduces i i (omega arith) l,
  λ k few.
      let long = (reduces i l).rises.long in
      let v = some_there (values i) k (omega (arith, few, long)) in
      v.1 ∙ ap Some (part_is c old new order at phase part all values run place reduces i k v.0 l
      few v.1),
)
