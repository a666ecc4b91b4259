-- The load of the messages under way, and of those put off, and what one delivery does to it.
use Rattle.std.proofs.Common.{◌≡◌, ◌≢◌, ◌≤◌, ◌<◌, ◌+◌, ℕ, List, ◌∷◌, ◌++◌, ap, ◌∙◌, inl, inr, ◌⊎◌, arith}
use Rattle.std.specs.Prelude.{sum_by}
use Rattle.std.proofs.lemmas.List.Sums.{sum_by-cons, sum_by-append, sum_by-le-sum_by}
use Rattle.ivy_wire.specs.stated.Data.{Content, Message, Parcel}
use Rattle.ivy_link.specs.stated.Paired.{posted}
use Rattle.ivy_pagetable.specs.declared.Entry.{Entry}
use Rattle.ivy_pagetable.specs.declared.PutOff.{PutOff}
use Rattle.ivy_pagetable.specs.stated.Entries.{put_offs}
use Rattle.proof_table.specs.stated.Letters.{content_of}
use Rattle.proof_worlds.specs.progress.Ending.{sum_below}
use Rattle.proof_worlds.proofs.progress.NumberTotals.{sum_le, sum_change, sum_add, count_posted, parcels, posted_once}

-- what messages weigh that are under way from one node to another, and that are put off at a page
-- of a node
abbrev pub way_load : (ℕ → Content → ℕ) → (ℕ → ℕ → List Message) → ℕ → ℕ → ℕ
way_load heavy way i j = sum_by (λ (m : Message). heavy j m.content) (way i j)

abbrev pub aside_load : (ℕ → Content → ℕ) → (ℕ → ℕ → Entry) → ℕ → ℕ → ℕ
aside_load weight at i p =
    sum_by (λ (q : PutOff). weight i (content_of q.kind p)) (put_offs (at i p))

module _ (nodes pages : ℕ) where
  abbrev pub way_loads : (ℕ → Content → ℕ) → (ℕ → ℕ → List Message) → ℕ
  way_loads heavy way = sum_below nodes (λ i. sum_below nodes (λ j. way_load heavy way i j))

  abbrev pub aside_loads : (ℕ → Content → ℕ) → (ℕ → ℕ → Entry) → ℕ
  aside_loads weight at = sum_below nodes (λ i. sum_below pages (λ p. aside_load weight at i p))

  -- all together
  abbrev pub load : (heavy weight : ℕ → Content → ℕ) → (ℕ → ℕ → List Message) → (ℕ → ℕ → Entry) → ℕ
  load heavy weight way at = way_loads heavy way + aside_loads weight at

  -- where each weighs no more
  pub lighter : (g w h v : ℕ → Content → ℕ) → ((i : ℕ) (b : Content) → g i b ≤ h i b)
      → ((i : ℕ) (b : Content) → w i b ≤ v i b) → (way : ℕ → ℕ → List Message)
      (at : ℕ → ℕ → Entry) → load g w way at ≤ load h v way at
  lighter g w h v less le way at =
      let a : way_loads g way ≤ way_loads h way =
      sum_le nodes (λ i. sum_below nodes (way_load g way i)) _ (λ i l.
      sum_le nodes (way_load g way i) _ (λ j d.
      sum_by-le-sum_by (λ (m : Message). g j m.content) (λ (m : Message). h j m.content) (way i j)
      (λ m. less j m.content))) in
      let b : aside_loads w at ≤ aside_loads v at =
      sum_le nodes (λ i. sum_below pages (aside_load w at i)) _ (λ i l.
      sum_le pages (aside_load w at i) _ (λ p d.
      sum_by-le-sum_by (λ (q : PutOff). w i (content_of q.kind p))
      (λ (q : PutOff). v i (content_of q.kind p)) (put_offs (at i p))
      (λ q. le i (content_of q.kind p)))) in
      omega (arith, a, b)

  -- parcels are posted
  module _ (heavy : ℕ → Content → ℕ) (rest now : ℕ → ℕ → List Message) (ps : List Parcel) where
    abbrev v : ℕ → Message → ℕ
    v j n = heavy j n.content

    posted_load : ((i j : ℕ) → now i j ≡ rest i j ++ posted i j ps)
        → way_loads heavy now ≤ way_loads heavy rest + parcels nodes v ps
    posted_load is =
        let once : count_posted nodes v ps ≤ parcels nodes v ps = posted_once nodes v ps in
        let split : sum_below nodes (λ i. sum_below nodes (way_load heavy rest i)
        + sum_below nodes (λ j. sum_by (v j) (posted i j ps)))
        ≡ way_loads heavy rest + count_posted nodes v ps =
        sum_add nodes (λ i. sum_below nodes (way_load heavy rest i))
        (λ i. sum_below nodes (λ j. sum_by (v j) (posted i j ps))) in
        let less : way_loads heavy now
        ≤ sum_below nodes (λ i. sum_below nodes (way_load heavy rest i)
        + sum_below nodes (λ j. sum_by (v j) (posted i j ps))) =
        sum_le nodes (λ i. sum_below nodes (way_load heavy now i)) _
        (λ i l. (let a : sum_below nodes (λ j. way_load heavy rest i j
        + sum_by (v j) (posted i j ps))
        ≡ sum_below nodes (way_load heavy rest i)
        + sum_below nodes (λ j. sum_by (v j) (posted i j ps)) =
        sum_add nodes (way_load heavy rest i) (λ j. sum_by (v j) (posted i j ps)) in
        let b : sum_below nodes (way_load heavy now i)
        ≤ sum_below nodes (λ j. way_load heavy rest i j + sum_by (v j) (posted i j ps)) =
        sum_le nodes (way_load heavy now i) _
        (λ j d. (let e : way_load heavy now i j
        ≡ way_load heavy rest i j + sum_by (v j) (posted i j ps) =
        ap (sum_by (v j)) (is i j) ∙ sum_by-append (v j) (rest i j) (posted i j ps) in
        omega (arith, e))) in
        omega (arith, a, b))) in
        omega (arith, once, split, less)

  -- the entry of one page is written
  module _ (weight : ℕ → Content → ℕ) (at then : ℕ → ℕ → Entry) (x p : ℕ) (here : x < nodes)
      (inside : p < pages) where
    written_load : ((i q : ℕ) → (i ≢ x) ⊎ (q ≢ p) → then i q ≡ at i q)
        → aside_loads weight then + aside_load weight at x p
        ≤ aside_loads weight at + aside_load weight then x p
    written_load others =
        let one : sum_below pages (aside_load weight then x) + aside_load weight at x p
        ≤ sum_below pages (aside_load weight at x) + aside_load weight then x p =
        sum_change pages p (aside_load weight at x) (aside_load weight then x) inside
        (λ q l ne. (let e : aside_load weight then x q ≡ aside_load weight at x q =
        ap (λ z. sum_by (λ (r : PutOff). weight x (content_of r.kind q)) (put_offs z))
        (others x q (inr ne)) in omega (arith, e))) in
        let all : aside_loads weight then + sum_below pages (aside_load weight at x)
        ≤ aside_loads weight at + sum_below pages (aside_load weight then x) =
        sum_change nodes x (λ i. sum_below pages (aside_load weight at i))
        (λ i. sum_below pages (aside_load weight then i)) here
        (λ i l ne. sum_le pages (aside_load weight then i) (aside_load weight at i)
        (λ q d. (let e : aside_load weight then i q ≡ aside_load weight at i q =
        ap (λ z. sum_by (λ (r : PutOff). weight i (content_of r.kind q)) (put_offs z))
        (others i q (inl ne)) in omega (arith, e)))) in
        omega (arith, one, all)

  -- One message from s to x is taken, the entry of one page is written there, and parcels are
  -- posted.
  module _ (heavy weight : ℕ → Content → ℕ) (way rest now : ℕ → ℕ → List Message)
      (at then : ℕ → ℕ → Entry) (s x p : ℕ) (m : Message) (ps : List Parcel) (from : s < nodes)
      (here : x < nodes) (inside : p < pages) where
    abbrev w : ℕ → Message → ℕ
    w j n = heavy j n.content

    taken_load : way s x ≡ m ∷ rest s x
        → ((i j : ℕ) → (i ≢ s) ⊎ (j ≢ x) → rest i j ≡ way i j)
        → way_loads heavy rest + heavy x m.content ≤ way_loads heavy way
    taken_load first others =
        let one : sum_below nodes (way_load heavy rest s) + way_load heavy way s x
        ≤ sum_below nodes (way_load heavy way s) + way_load heavy rest s x =
        sum_change nodes x (way_load heavy way s) (way_load heavy rest s) here
        (λ j l ne. (let e : way_load heavy rest s j ≡ way_load heavy way s j =
        ap (sum_by (w j)) (others s j (inr ne)) in omega (arith, e))) in
        let all : way_loads heavy rest + sum_below nodes (way_load heavy way s)
        ≤ way_loads heavy way + sum_below nodes (way_load heavy rest s) =
        sum_change nodes s (λ i. sum_below nodes (way_load heavy way i))
        (λ i. sum_below nodes (way_load heavy rest i)) from
        (λ i l ne. sum_le nodes (way_load heavy rest i) (way_load heavy way i)
        (λ j d. (let e : way_load heavy rest i j ≡ way_load heavy way i j =
        ap (sum_by (w j)) (others i j (inl ne)) in omega (arith, e)))) in
        let it : way_load heavy way s x
        ≡ heavy x m.content + way_load heavy rest s x =
        ap (sum_by (w x)) first ∙ sum_by-cons (w x) m (rest s x) in
        omega (arith, one, all, it)

    pub event_load : way s x ≡ m ∷ rest s x
        → ((i j : ℕ) → (i ≢ s) ⊎ (j ≢ x) → rest i j ≡ way i j)
        → ((i j : ℕ) → now i j ≡ rest i j ++ posted i j ps)
        → ((i q : ℕ) → (i ≢ x) ⊎ (q ≢ p) → then i q ≡ at i q)
        → load heavy weight now then + heavy x m.content + aside_load weight at x p
        ≤ load heavy weight way at + parcels nodes w ps + aside_load weight then x p
    event_load first others is same =
        let a : way_loads heavy rest + heavy x m.content
        ≤ way_loads heavy way = taken_load first others in
        let b : way_loads heavy now ≤ way_loads heavy rest + parcels nodes w ps =
        posted_load heavy rest now ps is in
        let d : aside_loads weight then + aside_load weight at x p
        ≤ aside_loads weight at + aside_load weight then x p = written_load weight at then x p here inside same in
        omega (arith, a, b, d)

  -- A node posts parcels, and writes the entry of one page.
  pub posting_load : (heavy weight : ℕ → Content → ℕ) (way now : ℕ → ℕ → List Message)
      (at then : ℕ → ℕ → Entry) (x p : ℕ) (ps : List Parcel) → x < nodes → p < pages
      → ((i j : ℕ) → now i j ≡ way i j ++ posted i j ps)
      → ((i q : ℕ) → (i ≢ x) ⊎ (q ≢ p) → then i q ≡ at i q)
      → load heavy weight now then + aside_load weight at x p
      ≤ load heavy weight way at + parcels nodes (λ j n. heavy j n.content) ps
      + aside_load weight then x p
  posting_load heavy weight way now at then x p ps here inside is same =
      let a = posted_load heavy way now ps is in
      let b = written_load weight at then x p here inside same in
      omega (arith, a, b)
