-- How the requests for one page may change at a step, and that they stay where the managing node
-- looks for them. Each move goes from claims a, requests to write W and to read R and the kept
-- owner k to b, V, Q and h; w manages the page.
use Rattle.std.proofs.Common.{◌≡◌, ◌≢◌, ◌⊎◌, ℕ, Bool, true, false, sym, ap, ◌∙◌, subst, inl, inr}
use Rattle.std.proofs.lemmas.Bool.{cases_eq, both_ways}
use Rattle.proof_table.specs.routing.Managing.{IsRoutedByManaging}

module _ (a b : ℕ → Bool) (W V R Q : ℕ → ℕ → Type 0) (w k h : ℕ) where
  -- requests may go; the managing node may keep another owner while it claims the page
  pub record IsCalm : Type 0 where
    pub claims : (y : ℕ) → b y ≡ a y
    pub writes : (i y : ℕ) → V i y → W i y
    pub reads : (i y : ℕ) → Q i y → R i y
    pub stays : (i y : ℕ) → W i y → V i y
    pub kept : (h ≡ k) ⊎ ((a w ≡ true) × ((y : ℕ) → R w y → ⊥))

  -- a request to read comes to the managing node, or from there to the kept owner
  pub record IsReadSent (o hop : ℕ) : Type 0 where
    pub claims : (y : ℕ) → b y ≡ a y
    pub writes : (i y : ℕ) → V i y → W i y
    pub reads : (i y : ℕ) → Q i y → R i y ⊎ ((i ≡ o) × (y ≡ hop))
    pub stays : (i y : ℕ) → W i y → V i y
    pub kept : h ≡ k
    pub route : ((hop ≡ w) × (o ≢ w)) ⊎ ((hop ≡ k) × (a w ≡ false) × (o ≢ k))

  -- the managing node sends a request to write on to the owner that it kept, and keeps its origin
  -- now
  pub record IsWriteSent (o : ℕ) : Type 0 where
    pub claims : (y : ℕ) → b y ≡ a y
    pub writes : (i y : ℕ) → V i y → (W i y × (i ≢ o)) ⊎ ((i ≡ o) × (y ≡ k))
    pub reads : (i y : ℕ) → Q i y → R i y
    pub stays : (i y : ℕ) → W i y → V i y ⊎ ((i ≡ o) × (y ≡ w))
    pub sent : V o k
    pub kept : h ≡ o
    pub plain : a w ≡ false
    pub unread : (y : ℕ) → R w y → ⊥
    pub asked : W o w
    pub waits : a o ≡ true

  -- the managing node gives its page
  pub record IsGivenHere (o : ℕ) : Type 0 where
    pub claims : (y : ℕ) → y ≢ w → b y ≡ a y
    pub writes : (i y : ℕ) → V i y → W i y × (i ≢ o)
    pub reads : (i y : ℕ) → Q i y → R i y
    pub stays : (i y : ℕ) → W i y → V i y ⊎ ((i ≡ o) × (y ≡ w))
    pub owner : a w ≡ true
    pub kept : h ≡ o
    pub unread : (y : ℕ) → R w y → ⊥
    pub asked : W o w
    pub waits : a o ≡ true

  -- another node gives its page
  pub record IsGivenElsewhere (x o : ℕ) : Type 0 where
    pub claims : (y : ℕ) → y ≢ x → b y ≡ a y
    pub writes : (i y : ℕ) → V i y → W i y × (i ≢ o)
    pub reads : (i y : ℕ) → Q i y → R i y
    pub stays : (i y : ℕ) → W i y → V i y ⊎ ((i ≡ o) × (y ≡ x))
    pub silent : (y : ℕ) → W x y → ⊥
    pub kept : h ≡ k
    pub away : x ≢ w
    pub asked : W o x

  -- the managing node asks the kept owner to write
  pub record IsAskedHere : Type 0 where
    pub claims : (y : ℕ) → y ≢ w → b y ≡ a y
    pub writes : (i y : ℕ) → V i y → W i y ⊎ ((i ≡ w) × (y ≡ k))
    pub reads : (i y : ℕ) → Q i y → R i y
    pub stays : (i y : ℕ) → W i y → V i y
    pub asks : V w k
    pub kept : h ≡ k
    pub plain : a w ≡ false
    pub waits : b w ≡ true

  -- another node asks the managing node to write
  pub record IsAskedElsewhere (x : ℕ) : Type 0 where
    pub claims : (y : ℕ) → y ≢ x → b y ≡ a y
    pub writes : (i y : ℕ) → V i y → W i y ⊎ ((i ≡ x) × (y ≡ w))
    pub reads : (i y : ℕ) → Q i y → R i y
    pub stays : (i y : ℕ) → W i y → V i y
    pub kept : h ≡ k
    pub away : x ≢ w
    pub plain : a x ≡ false
    pub waits : b x ≡ true

pub data Move (a b : ℕ → Bool) (W V R Q : ℕ → ℕ → Type 0) (w k h : ℕ) : Type 0 where
  Calm : IsCalm a b W V R Q w k h → Move a b W V R Q w k h
  ReadSent : (o hop : ℕ) → IsReadSent a b W V R Q w k h o hop → Move a b W V R Q w k h
  WriteSent : (o : ℕ) → IsWriteSent a b W V R Q w k h o → Move a b W V R Q w k h
  GivenHere : (o : ℕ) → IsGivenHere a b W V R Q w k h o → Move a b W V R Q w k h
  GivenElsewhere : (x o : ℕ) → IsGivenElsewhere a b W V R Q w k h x o → Move a b W V R Q w k h
  AskedHere : IsAskedHere a b W V R Q w k h → Move a b W V R Q w k h
  AskedElsewhere : (x : ℕ) → IsAskedElsewhere a b W V R Q w k h x → Move a b W V R Q w k h

module _ (a b : ℕ → Bool) (W V R Q : ℕ → ℕ → Type 0) (w k h : ℕ) (r : IsRoutedByManaging a W R w k) where
  calm_routed : IsCalm a b W V R Q w k h → IsRoutedByManaging b V Q w h
  calm_routed c = record {
    claimed = λ o y ne v. c.claims y ∙ r.claimed o y ne (c.writes o y v);
    one_writer = λ o q y ne v u. r.one_writer o q y ne (c.writes o y v) (c.writes q y u);
    kept_away = kept_then (λ i. i ≢ w) r.kept_away;
    kept_claims = kept_then (λ i. b i ≡ true) (λ f. c.claims k ∙ r.kept_claims f);
    kept_unasked =
        kept_then (λ i. (o : ℕ) → V o i → ⊥) (λ f o v. r.kept_unasked f o (c.writes o k v));
    queued_unasked = λ o q v u. r.queued_unasked o q (c.writes o w v) (c.writes q o u);
    queued_unkept = λ o v. kept_then (λ i. o ≢ i) (r.queued_unkept o (c.writes o w v));
    chained = λ o y no ny v. elim (r.chained o y no ny (c.writes o y v)) [
      | inl j ↦ inl (j.0, c.stays j.0 o j.1)
      | inr e ↦ elim c.kept [
        | inl same ↦ inr (c.claims w ∙ e.0, e.1 ∙ sym same)
        | inr own ↦ absurd (both_ways (a w) e.0 own.0)
      ]
    ];
    writer_away = λ o y v. r.writer_away o y (c.writes o y v);
    reader_away = λ o y v. r.reader_away o y (c.reads o y v);
    manager_reads = λ y v. elim c.kept [
      | inl same ↦ r.manager_reads y (c.reads w y v) ∙ sym same
      | inr own ↦ absurd (own.1 y (c.reads w y v))
    ];
  }
    where
      kept_then : (P : ℕ → Type 0) → (a w ≡ false → P k) → b w ≡ false → P h
      kept_then P was f = elim c.kept [
        | inl same ↦ subst P (sym same) (was (sym (c.claims w) ∙ f))
        | inr own ↦ absurd (both_ways (a w) (sym (c.claims w) ∙ f) own.0)
      ]

  read_sent_routed : (o hop : ℕ) → IsReadSent a b W V R Q w k h o hop → IsRoutedByManaging b V Q w h
  read_sent_routed o hop c = subst (IsRoutedByManaging b V Q w) (sym c.kept) (record {
    claimed = λ i y ne v. c.claims y ∙ r.claimed i y ne (c.writes i y v);
    one_writer = λ i q y ne v u. r.one_writer i q y ne (c.writes i y v) (c.writes q y u);
    kept_away = λ f. r.kept_away (sym (c.claims w) ∙ f);
    kept_claims = λ f. c.claims k ∙ r.kept_claims (sym (c.claims w) ∙ f);
    kept_unasked = λ f i v. r.kept_unasked (sym (c.claims w) ∙ f) i (c.writes i k v);
    queued_unasked = λ i q v u. r.queued_unasked i q (c.writes i w v) (c.writes q i u);
    queued_unkept = λ i v f. r.queued_unkept i (c.writes i w v) (sym (c.claims w) ∙ f);
    chained = λ i y ni ny v. elim (r.chained i y ni ny (c.writes i y v)) [
      | inl j ↦ inl (j.0, c.stays j.0 i j.1)
      | inr e ↦ inr (c.claims w ∙ e.0, e.1)
    ];
    writer_away = λ i y v. r.writer_away i y (c.writes i y v);
    reader_away = λ i y v. elim (c.reads i y v) [
      | inl old ↦ r.reader_away i y old
      | inr new ↦ λ same. elim c.route [
        | inl to ↦ to.1 (sym new.0 ∙ same ∙ new.1 ∙ to.0)
        | inr to ↦ to.2 (sym new.0 ∙ same ∙ new.1 ∙ to.0)
      ]
    ];
    manager_reads = λ y v. elim (c.reads w y v) [
      | inl old ↦ r.manager_reads y old
      | inr new ↦ elim c.route [
        | inl to ↦ absurd (to.1 (sym new.0))
        | inr to ↦ new.1 ∙ to.0
      ]
    ];
  })

  write_sent_routed : (o : ℕ) → IsWriteSent a b W V R Q w k h o → IsRoutedByManaging b V Q w h
  write_sent_routed o c = subst (IsRoutedByManaging b V Q w) (sym c.kept) (record {
    claimed = λ i y ne v. c.claims y ∙ elim (c.writes i y v) [
      | inl old ↦ r.claimed i y ne old.0
      | inr new ↦ ap a new.1 ∙ r.kept_claims c.plain
    ];
    one_writer = λ i q y ne v u. elim (c.writes i y v) [
      | inl old ↦ elim (c.writes q y u) [
        | inl too ↦ r.one_writer i q y ne old.0 too.0
        | inr new ↦ absurd (r.kept_unasked c.plain i (subst (W i) new.1 old.0))
      ]
      | inr new ↦ elim (c.writes q y u) [
        | inl old ↦ absurd (r.kept_unasked c.plain q (subst (W q) new.1 old.0))
        | inr too ↦ new.0 ∙ sym too.0
      ]
    ];
    kept_away = λ f. r.writer_away o w c.asked;
    kept_claims = λ f. c.claims o ∙ c.waits;
    kept_unasked = λ f i v. elim (c.writes i o v) [
      | inl old ↦ r.queued_unasked o i c.asked old.0
      | inr new ↦ r.queued_unkept o c.asked c.plain new.1
    ];
    queued_unasked = λ i q v u. elim (c.writes i w v) [
      | inl old ↦ elim (c.writes q i u) [
        | inl too ↦ r.queued_unasked i q old.0 too.0
        | inr new ↦ r.queued_unkept i old.0 c.plain new.1
      ]
      | inr new ↦ r.kept_away c.plain (sym new.1)
    ];
    queued_unkept = λ i v f. elim (c.writes i w v) [
      | inl old ↦ old.1
      | inr new ↦ absurd (r.kept_away c.plain (sym new.1))
    ];
    chained = λ i y ni ny v. elim (c.writes i y v) [
      | inr new ↦ inr (c.claims w ∙ c.plain, new.0)
      | inl old ↦ elim (r.chained i y ni ny old.0) [
        | inl j ↦ elim (c.stays j.0 i j.1) [ inl s ↦ inl (j.0, s) | inr at ↦ absurd (ni at.1) ]
        | inr e ↦ inl (o, subst (V o) (sym e.1) c.sent)
      ]
    ];
    writer_away = λ i y v. elim (c.writes i y v) [
      | inl old ↦ r.writer_away i y old.0
      | inr new ↦ λ same. r.queued_unkept o c.asked c.plain (sym new.0 ∙ same ∙ new.1)
    ];
    reader_away = λ i y v. r.reader_away i y (c.reads i y v);
    manager_reads = λ y v. absurd (c.unread y (c.reads w y v));
  })

  given_here_routed : (o : ℕ) → IsGivenHere a b W V R Q w k h o → IsRoutedByManaging b V Q w h
  given_here_routed o c = subst (IsRoutedByManaging b V Q w) (sym c.kept) (record {
    claimed = λ i y ne v. c.claims y ne ∙ r.claimed i y ne (c.writes i y v).0;
    one_writer = λ i q y ne v u. r.one_writer i q y ne (c.writes i y v).0 (c.writes q y u).0;
    kept_away = λ f. r.writer_away o w c.asked;
    kept_claims = λ f. c.claims o (r.writer_away o w c.asked) ∙ c.waits;
    kept_unasked = λ f i v. r.queued_unasked o i c.asked (c.writes i o v).0;
    queued_unasked = λ i q v u. r.queued_unasked i q (c.writes i w v).0 (c.writes q i u).0;
    queued_unkept = λ i v f. (c.writes i w v).1;
    chained = λ i y ni ny v. elim (r.chained i y ni ny (c.writes i y v).0) [
      | inl j ↦ elim (c.stays j.0 i j.1) [ inl s ↦ inl (j.0, s) | inr at ↦ absurd (ni at.1) ]
      | inr e ↦ absurd (both_ways (a w) e.0 c.owner)
    ];
    writer_away = λ i y v. r.writer_away i y (c.writes i y v).0;
    reader_away = λ i y v. r.reader_away i y (c.reads i y v);
    manager_reads = λ y v. absurd (c.unread y (c.reads w y v));
  })

  given_elsewhere_routed : (x o : ℕ) → IsGivenElsewhere a b W V R Q w k h x o → IsRoutedByManaging b V Q w h
  given_elsewhere_routed x o c = subst (IsRoutedByManaging b V Q w) (sym c.kept) (record {
    claimed = λ i y ne v. elim (cases_eq y x) [
      | inl here ↦
          absurd ((c.writes i y v).1
          (r.one_writer i o x c.away (subst (W i) here (c.writes i y v).0) c.asked))
      | inr other ↦ c.claims y other ∙ r.claimed i y ne (c.writes i y v).0
    ];
    one_writer = λ i q y ne v u. r.one_writer i q y ne (c.writes i y v).0 (c.writes q y u).0;
    kept_away = λ f. r.kept_away (was f);
    kept_claims =
        λ f. c.claims k (λ same. r.kept_unasked (was f) o (subst (W o) (sym same) c.asked))
        ∙ r.kept_claims (was f);
    kept_unasked = λ f i v. r.kept_unasked (was f) i (c.writes i k v).0;
    queued_unasked = λ i q v u. r.queued_unasked i q (c.writes i w v).0 (c.writes q i u).0;
    queued_unkept = λ i v f. r.queued_unkept i (c.writes i w v).0 (was f);
    chained = λ i y ni ny v. elim (r.chained i y ni ny (c.writes i y v).0) [
      | inl j ↦ elim (c.stays j.0 i j.1) [
        | inl s ↦ inl (j.0, s)
        | inr at ↦ absurd (c.silent y (subst (λ q. W q y) at.1 (c.writes i y v).0))
      ]
      | inr e ↦ inr (c.claims w (λ same. c.away (sym same)) ∙ e.0, e.1)
    ];
    writer_away = λ i y v. r.writer_away i y (c.writes i y v).0;
    reader_away = λ i y v. r.reader_away i y (c.reads i y v);
    manager_reads = λ y v. r.manager_reads y (c.reads w y v);
  })
    where
      was : b w ≡ false → a w ≡ false
      was f = sym (c.claims w (λ same. c.away (sym same))) ∙ f

  asked_here_routed : IsAskedHere a b W V R Q w k h → IsRoutedByManaging b V Q w h
  asked_here_routed c = subst (IsRoutedByManaging b V Q w) (sym c.kept) (record {
    claimed = λ i y ne v. c.claims y ne ∙ elim (c.writes i y v) [
      | inl old ↦ r.claimed i y ne old
      | inr new ↦ ap a new.1 ∙ r.kept_claims c.plain
    ];
    one_writer = λ i q y ne v u. elim (c.writes i y v) [
      | inl old ↦ elim (c.writes q y u) [
        | inl too ↦ r.one_writer i q y ne old too
        | inr new ↦ absurd (r.kept_unasked c.plain i (subst (W i) new.1 old))
      ]
      | inr new ↦ elim (c.writes q y u) [
        | inl old ↦ absurd (r.kept_unasked c.plain q (subst (W q) new.1 old))
        | inr too ↦ new.0 ∙ sym too.0
      ]
    ];
    kept_away = λ f. absurd (both_ways (b w) f c.waits);
    kept_claims = λ f. absurd (both_ways (b w) f c.waits);
    kept_unasked = λ f i v. both_ways (b w) f c.waits;
    queued_unasked = λ i q v u. elim (c.writes i w v) [
      | inl old ↦ elim (c.writes q i u) [
        | inl too ↦ r.queued_unasked i q old too
        | inr new ↦ r.queued_unkept i old c.plain new.1
      ]
      | inr new ↦ r.kept_away c.plain (sym new.1)
    ];
    queued_unkept = λ i v f. absurd (both_ways (b w) f c.waits);
    chained = λ i y ni ny v. elim (c.writes i y v) [
      | inr new ↦ absurd (ni new.0)
      | inl old ↦ elim (r.chained i y ni ny old) [
        | inl j ↦ inl (j.0, c.stays j.0 i j.1)
        | inr e ↦ inl (w, subst (V w) (sym e.1) c.asks)
      ]
    ];
    writer_away = λ i y v. elim (c.writes i y v) [
      | inl old ↦ r.writer_away i y old
      | inr new ↦ λ same. r.kept_away c.plain (sym new.1 ∙ sym same ∙ new.0)
    ];
    reader_away = λ i y v. r.reader_away i y (c.reads i y v);
    manager_reads = λ y v. r.manager_reads y (c.reads w y v);
  })

  asked_elsewhere_routed : (x : ℕ) → IsAskedElsewhere a b W V R Q w k h x → IsRoutedByManaging b V Q w h
  asked_elsewhere_routed x c = subst (IsRoutedByManaging b V Q w) (sym c.kept) (record {
    claimed = λ i y ne v. elim (c.writes i y v) [
      | inl old ↦ still y (r.claimed i y ne old)
      | inr new ↦ absurd (ne new.1)
    ];
    one_writer = λ i q y ne v u. elim (c.writes i y v) [
      | inl old ↦ elim (c.writes q y u) [
        | inl too ↦ r.one_writer i q y ne old too
        | inr new ↦ absurd (ne new.1)
      ]
      | inr new ↦ absurd (ne new.1)
    ];
    kept_away = λ f. r.kept_away (was f);
    kept_claims = λ f. still k (r.kept_claims (was f));
    kept_unasked = λ f i v. elim (c.writes i k v) [
      | inl old ↦ r.kept_unasked (was f) i old
      | inr new ↦ r.kept_away (was f) new.1
    ];
    queued_unasked = λ i q v u. elim (c.writes i w v) [
      | inl old ↦ elim (c.writes q i u) [
        | inl too ↦ r.queued_unasked i q old too
        | inr new ↦ r.writer_away i w old new.1
      ]
      | inr mine ↦ elim (c.writes q i u) [
        | inl too ↦ both_ways (a x) c.plain (r.claimed q x c.away (subst (W q) mine.0 too))
        | inr new ↦ c.away (sym mine.0 ∙ new.1)
      ]
    ];
    queued_unkept = λ i v f. elim (c.writes i w v) [
      | inl old ↦ r.queued_unkept i old (was f)
      | inr new ↦ λ same. both_ways (a x) c.plain (ap a (sym new.0 ∙ same) ∙ r.kept_claims (was f))
    ];
    chained = λ i y ni ny v. elim (c.writes i y v) [
      | inr new ↦ absurd (ny new.1)
      | inl old ↦ elim (r.chained i y ni ny old) [
        | inl j ↦ inl (j.0, c.stays j.0 i j.1)
        | inr e ↦ inr (c.claims w (λ same. c.away (sym same)) ∙ e.0, e.1)
      ]
    ];
    writer_away = λ i y v. elim (c.writes i y v) [
      | inl old ↦ r.writer_away i y old
      | inr new ↦ λ same. c.away (sym new.0 ∙ same ∙ new.1)
    ];
    reader_away = λ i y v. r.reader_away i y (c.reads i y v);
    manager_reads = λ y v. r.manager_reads y (c.reads w y v);
  })
    where
      was : b w ≡ false → a w ≡ false
      was f = sym (c.claims w (λ same. c.away (sym same))) ∙ f

      still : (y : ℕ) → a y ≡ true → b y ≡ true
      still y was_so =
          elim (cases_eq y x) [
            | inl here ↦ ap b here ∙ c.waits
            | inr other ↦
                c.claims y other ∙ was_so
          ]

pub move_routed : (a b : ℕ → Bool) (W V R Q : ℕ → ℕ → Type 0) (w k h : ℕ) → Move a b W V R Q w k h
    → IsRoutedByManaging a W R w k → IsRoutedByManaging b V Q w h
move_routed a b W V R Q w k h (Calm c) r = calm_routed a b W V R Q w k h r c
move_routed a b W V R Q w k h (ReadSent o hop c) r = read_sent_routed a b W V R Q w k h r o hop c
move_routed a b W V R Q w k h (WriteSent o c) r = write_sent_routed a b W V R Q w k h r o c
move_routed a b W V R Q w k h (GivenHere o c) r = given_here_routed a b W V R Q w k h r o c
move_routed a b W V R Q w k h (GivenElsewhere x o c) r =
    given_elsewhere_routed a b W V R Q w k h r x o c
move_routed a b W V R Q w k h (AskedHere c) r = asked_here_routed a b W V R Q w k h r c
move_routed a b W V R Q w k h (AskedElsewhere x c) r =
    asked_elsewhere_routed a b W V R Q w k h r x c
