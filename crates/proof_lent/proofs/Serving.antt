-- A call that one memory makes, another one makes that has the same counts and blocks, and the same
-- bytes of the page of a word.
use Rattle.std.proofs.Common.{◌≡◌, ◌≢◌, ◌⊎◌, inl, inr, ℕ, ◌-◌, ◌/◌, ◌%◌, ◌^◌, ◌<◌, ◌≤◌, Bool, true, false, List, drop, Option, Some, None, refl, sym, ap, subst, ◌∙◌}
use Rattle.std.specs.FinMap.{get}
use Rattle.std.specs.Prelude.{MatchOption, MatchBool, slice_get, ◌==◌}
use Rattle.std.proofs.lemmas.Bool.{cases_eq}
use Rattle.byteorder.specs.Endian.{big_number, big_bytes}
use Rattle.ivy_model.specs.declared.Act.{Act}
use Rattle.ivy_model.specs.declared.Act.TheVariants as act
use Rattle.ivy_model.specs.declared.CallKind.{CallKind}
use Rattle.ivy_model.specs.declared.CallKind.TheVariants as kind
use Rattle.ivy_model.specs.declared.Config.{Config}
use Rattle.ivy_model.specs.declared.Record.{Record}
use Rattle.ivy_model.specs.declared.Reply.{Reply}
use Rattle.ivy_model.specs.declared.Reply.TheVariants.{Value, Done, Refused}
use Rattle.ivy_model.specs.stated.Accesses.{kind_of_call, next_number, access_reply}
use Rattle.ivy_model.specs.stated.Config.{IsConfig}
use Rattle.ivy_model.specs.stated.Legal.{Makes, HasKindWidth, IsWidth}
use Rattle.ivy_model.specs.stated.Memory.{Memory}
use Rattle.ivy_model.specs.stated.Serves.{ServesKind, Accesses, access_refusal, number_in_word, overwrite, with_written}
use Rattle.ivy_model.specs.Memory.{IsSized, flat_page}
use Rattle.ivy_model.proofs.PageWords.{IsPlaced, read_by_page, write_by_page, write_elsewhere}
use Rattle.ivy_model.proofs.Sizes.{access_placed, by_option, by_bool}
use Rattle.proof_lent.specs.Lent.{IsWordOf}
use Rattle.proof_lent.proofs.Pieces.{with_bytes, page-same}

map_option : {A : Type 0} (o : Option A) {N M : Type 0} {S T : A → Type 0} → MatchOption o N S
    → (N → M) → ((x : A) → S x → T x) → MatchOption o M T
map_option None p f g = f p
map_option (Some x) p f g = g x p

map_bool : (b : Bool) {P Q R T : Type 0} → MatchBool b P Q → (P → R) → (Q → T) → MatchBool b R T
map_bool true p f g = f p
map_bool false p f g = g p

-- which it is
pub is_load : (a : Act) → (a ≡ act.Load) ⊎ (a ≢ act.Load)
is_load act.Load = inl refl
is_load (act.Store value) = inr (λ e. absurd cc)
is_load (act.Swap value) = inr (λ e. absurd cc)
is_load (act.Cas expected value) = inr (λ e. absurd cc)
is_load (act.FetchAdd value) = inr (λ e. absurd cc)

-- what another memory comes to by the call that led this one from the old to the new
pub record Follows (c : Config) (old new seen : Memory) (r : Record) : Type 0 where
  pub after : Memory
  pub makes : Makes c seen r after
  pub counts : after.counts ≡ new.counts
  pub blocks : after.blocks ≡ new.blocks
  pub goes : (p : ℕ) → 1 ≤ p → p < c.pages → flat_page c old p ≡ flat_page c seen p
      → flat_page c new p ≡ flat_page c after p
  pub stays : (p : ℕ) → 1 ≤ p → p < c.pages
      → ((a : Act) → IsWordOf c r.call p a → a ≢ act.Load → ⊥)
      → flat_page c after p ≡ flat_page c seen p

-- a word that is written, or not
module _ (c : Config) (width addr : ℕ) (h : IsPlaced c width addr) where
  put-same : (old seen : Memory) → IsSized c old → IsSized c seen → (next : Option ℕ) (p : ℕ)
      → p < c.pages → flat_page c old p ≡ flat_page c seen p
      → flat_page c (with_written c old width addr next) p
      ≡ flat_page c (with_written c seen width addr next) p
  put-same old seen s t None p to same = same
  put-same old seen s t (Some value) p to same = elim (cases_eq p (addr / c.page_size)) [
    | inl here ↦ (
        let at : flat_page c old (addr / c.page_size) ≡ flat_page c seen (addr / c.page_size) =
        ap (flat_page c old) (sym here) ∙ same ∙ ap (flat_page c seen) here in
        ap (flat_page c (with_written c old width addr (Some value))) here
        ∙ write_by_page c old width addr value s.bytes h
        ∙ ap (λ bs. overwrite bs (addr % c.page_size)
        (big_bytes width value)) at
        ∙ sym (write_by_page c seen width addr value t.bytes h)
        ∙ ap (flat_page c (with_written c seen width addr (Some value))) (sym here)
        )
    | inr other ↦
        write_elsewhere c old width addr value p s.bytes h to other ∙ same
        ∙ sym (write_elsewhere c seen width addr value p t.bytes h to other)
  ]

  pub put-elsewhere : (m : Memory) → IsSized c m → (next : Option ℕ) (p : ℕ) → p < c.pages
      → p ≢ addr / c.page_size → flat_page c (with_written c m width addr next) p ≡ flat_page c m p
  put-elsewhere m s None p to other = refl
  put-elsewhere m s (Some value) p to other =
      write_elsewhere c m width addr value p s.bytes h to other

put-counts : (c : Config) (m : Memory) (width addr : ℕ) (next : Option ℕ)
    → (with_written c m width addr next).counts ≡ m.counts
put-counts c m width addr None = refl
put-counts c m width addr (Some value) = refl

put-blocks : (c : Config) (m : Memory) (width addr : ℕ) (next : Option ℕ)
    → (with_written c m width addr next).blocks ≡ m.blocks
put-blocks c m width addr None = refl
put-blocks c m width addr (Some value) = refl

-- a call that is no word neither looks at the bytes of the heap nor changes them
abbrev pub IsNoWord : CallKind → Type 0
IsNoWord (kind.Word width addr a) = ⊥
IsNoWord _ = Unit {0}

pub rebased : (c : Config) (old new : Memory) (k : CallKind) (reply : Reply) → IsNoWord k
    → ServesKind c old k reply new → (bytes : List ℕ)
    → ServesKind c (with_bytes old bytes) k reply (with_bytes new bytes)
rebased c old new (kind.Word width addr a) reply none serves bytes = absurd none
rebased c old new (kind.Count k) reply none serves bytes =
    map_option (slice_get old.counts k) serves
    (λ x. (x.0, ap (λ m. with_bytes m bytes) x.1))
    (λ n x. (x.0, ap (λ m. with_bytes m bytes) x.1))
rebased c old new (kind.Advance k) reply none serves bytes =
    map_option (slice_get old.counts k) serves
    (λ x. (x.0, ap (λ m. with_bytes m bytes) x.1))
    (λ n x. map_bool (n == 2 ^ 64 - 1) x
    (λ y. (y.0, ap (λ m. with_bytes m bytes) y.1))
    (λ y. (y.0, ap (λ m. with_bytes m bytes) y.1)))
rebased c old new (kind.Await k least) reply none serves bytes =
    map_option (slice_get old.counts k) serves
    (λ x. (x.0, ap (λ m. with_bytes m bytes) x.1))
    (λ n x. (x.0, x.1, ap (λ m. with_bytes m bytes) x.2))
rebased c old new (kind.Alloc size) (Value addr) none serves bytes =
    map_bool (size == 0) serves
    (λ x. (x.0, ap (λ m. with_bytes m bytes) x.1))
    (λ x. (x.0, ap (λ m. with_bytes m bytes) x.1))
rebased c old new (kind.Alloc size) Done none serves bytes =
    map_bool (size == 0) serves
    (λ x. (x.0, ap (λ m. with_bytes m bytes) x.1))
    (λ x. x)
rebased c old new (kind.Alloc size) (Refused code) none serves bytes =
    map_bool (size == 0) serves
    (λ x. (x.0, ap (λ m. with_bytes m bytes) x.1))
    (λ x. (x.0, x.1, ap (λ m. with_bytes m bytes) x.2))
rebased c old new (kind.Free addr) reply none serves bytes =
    map_option (get old.blocks addr) serves
    (λ x. (x.0, ap (λ m. with_bytes m bytes) x.1))
    (λ n x. (x.0, ap (λ m. with_bytes m bytes) x.1))

bytes_of : (old new : Memory) → new ≡ old → new.bytes ≡ old.bytes
bytes_of old new same = ap (λ (m : Memory). m.bytes) same

pub bytes-kept : (c : Config) (old new : Memory) (k : CallKind) (reply : Reply) → IsNoWord k
    → ServesKind c old k reply new → new.bytes ≡ old.bytes
bytes-kept c old new (kind.Word width addr a) reply none serves = absurd none
bytes-kept c old new (kind.Count k) reply none serves =
    by_option (slice_get old.counts k) serves (λ e x. bytes_of old new x.1)
    (λ n e x. bytes_of old new x.1)
bytes-kept c old new (kind.Advance k) reply none serves =
    by_option (slice_get old.counts k) serves (λ e x. bytes_of old new x.1)
    (λ n e x. by_bool (n == 2 ^ 64 - 1) x (λ f y. bytes_of old new y.1)
    (λ f y. ap (λ (m : Memory). m.bytes) y.1))
bytes-kept c old new (kind.Await k least) reply none serves =
    by_option (slice_get old.counts k) serves (λ e x. bytes_of old new x.1)
    (λ n e x. bytes_of old new x.2)
bytes-kept c old new (kind.Alloc size) (Value addr) none serves =
    by_bool (size == 0) serves (λ e x. bytes_of old new x.1)
    (λ e x. ap (λ (m : Memory). m.bytes) x.1)
bytes-kept c old new (kind.Alloc size) Done none serves =
    by_bool (size == 0) serves (λ e x. bytes_of old new x.1) (λ e x. absurd x)
bytes-kept c old new (kind.Alloc size) (Refused code) none serves =
    by_bool (size == 0) serves (λ e x. bytes_of old new x.1) (λ e x. bytes_of old new x.2)
bytes-kept c old new (kind.Free addr) reply none serves =
    by_option (get old.blocks addr) serves (λ e x. bytes_of old new x.1)
    (λ n e x. ap (λ (m : Memory). m.bytes) x.1)

module _ (c : Config) (config : IsConfig c) (old new seen : Memory) (s : IsSized c old)
    (t : IsSized c seen) (counts : seen.counts ≡ old.counts) (blocks : seen.blocks ≡ old.blocks)
    (r : Record) (makes : Makes c old r new)
    (word : (p : ℕ) (a : Act) → IsWordOf c r.call p a → flat_page c old p ≡ flat_page c seen p) where
  -- the call is served as one of this kind
  served_as : (after : Memory) (k : CallKind) → kind_of_call r.call ≡ k
      → ServesKind c seen k r.reply after → Makes c seen r after
  served_as after k is serves = record {
    node = makes.node;
    width = makes.width;
    served = subst (λ z. ServesKind c seen z r.reply after) (sym is) serves;
  }

  other_follows : (k : CallKind) → kind_of_call r.call ≡ k → IsNoWord k → ServesKind c old k r.reply new
      → Follows c old new seen r
  other_follows k is none serves =
      let same : ◌≡◌ {A = Memory} (with_bytes old seen.bytes) seen =
      λ j. record { bytes = seen.bytes; counts = sym counts j; blocks = sym blocks j } in
      record {
        after = with_bytes new seen.bytes;
        makes = served_as (with_bytes new seen.bytes) k is
            (subst (λ m. ServesKind c m k r.reply (with_bytes new seen.bytes)) same
            (rebased c old new k r.reply none serves seen.bytes));
        counts = refl;
        blocks = refl;
        goes = λ p from to e.
            page-same c new old p from (bytes-kept c old new k r.reply none serves) ∙ e
            ∙ page-same c seen (with_bytes new seen.bytes) p from refl;
        stays = λ p from to not. page-same c (with_bytes new seen.bytes) seen p from refl;
      }

  module _ (width addr : ℕ) (a : Act) (is : kind_of_call r.call ≡ kind.Word width addr a)
      (legal : IsWidth width) where
    refused_follows : (code : ℕ) → access_refusal c width addr ≡ Some code → r.reply ≡ Refused code
        → new ≡ old → Follows c old new seen r
    refused_follows code refused reply same = record {
      after = seen;
      makes = served_as seen (kind.Word width addr a) is
          (subst (λ o. MatchOption o (Accesses c seen width addr a r.reply seen)
          (λ n. (r.reply ≡ Refused n) × (seen ≡ seen))) (sym refused) (reply, refl));
      counts = counts ∙ ap (λ (m : Memory). m.counts) (sym same);
      blocks = blocks ∙ ap (λ (m : Memory). m.blocks) (sym same);
      goes = λ p from to e. ap (λ m. flat_page c m p) same ∙ e;
      stays = λ p from to not. refl;
    }

    word_follows : access_refusal c width addr ≡ None → Accesses c old width addr a r.reply new
        → Follows c old new seen r
    word_follows allowed x =
        let h : IsPlaced c width addr = access_placed c width addr config legal allowed in
        let of : IsWordOf c r.call (addr / c.page_size) a =
        record { width = width; addr = addr; is = is; allowed = allowed; there = refl } in
        let number : number_in_word c old width addr ≡ number_in_word c seen width addr =
        read_by_page c old width addr h
        ∙ ap (λ bs. big_number width (drop (addr % c.page_size) bs)) (word (addr / c.page_size) a of)
        ∙ sym (read_by_page c seen width addr h) in
        let next : Option ℕ = next_number width a (number_in_word c seen width addr) in
        let goes_by : new ≡ with_written c old width addr next =
        x.1 ∙ ap (λ n. with_written c old width addr (next_number width a n)) number in
        let after : Memory = with_written c seen width addr next in
        record {
          after = after;
          makes = served_as after (kind.Word width addr a) is
              (subst (λ o. MatchOption o (Accesses c seen width addr a r.reply after)
              (λ n. (r.reply ≡ Refused n) × (after ≡ seen))) (sym allowed)
              (x.0 ∙ ap (access_reply a) number, refl));
          counts = put-counts c seen width addr next ∙ counts
              ∙ sym (put-counts c old width addr next) ∙ ap (λ (m : Memory). m.counts) (sym goes_by);
          blocks = put-blocks c seen width addr next ∙ blocks
              ∙ sym (put-blocks c old width addr next) ∙ ap (λ (m : Memory). m.blocks) (sym goes_by);
          goes = λ p from to e.
              ap (λ m. flat_page c m p) goes_by ∙ put-same c width addr h old seen s t next p to e;
          stays = λ p from to not. elim (is_load a) [
            | inl load ↦
                ap (λ z. flat_page c (with_written c seen width addr
                (next_number width z (number_in_word c seen width addr))) p) load
            | inr other ↦ elim (cases_eq p (addr / c.page_size)) [
              | inl here ↦ absurd (not a (subst (λ q. IsWordOf c r.call q a) (sym here) of) other)
              | inr ne ↦ put-elsewhere c width addr h seen t next p to ne
            ]
          ];
        }

  kind_follows : (k : CallKind) → kind_of_call r.call ≡ k → HasKindWidth k
      → ServesKind c old k r.reply new → Follows c old new seen r
  kind_follows (kind.Word width addr a) is legal serves =
      by_option (access_refusal c width addr) serves
      (λ allowed x. word_follows width addr a is legal allowed x)
      (λ code refused x. refused_follows width addr a is legal code refused x.0 x.1)
  kind_follows (kind.Count k) is legal serves = other_follows (kind.Count k) is tt serves
  kind_follows (kind.Advance k) is legal serves = other_follows (kind.Advance k) is tt serves
  kind_follows (kind.Await k least) is legal serves = other_follows (kind.Await k least) is tt serves
  kind_follows (kind.Alloc size) is legal serves = other_follows (kind.Alloc size) is tt serves
  kind_follows (kind.Free addr) is legal serves = other_follows (kind.Free addr) is tt serves

  pub follows : Follows c old new seen r
  follows = kind_follows (kind_of_call r.call) refl makes.width makes.served

-- what a word of a page leaves: all but that page; a load leaves all
pub record Leaves (c : Config) (old new : Memory) (page : ℕ) : Type 0 where
  pub counts : new.counts ≡ old.counts
  pub blocks : new.blocks ≡ old.blocks
  pub others : (q : ℕ) → q < c.pages → q ≢ page → flat_page c new q ≡ flat_page c old q

module _ (c : Config) (config : IsConfig c) (old new : Memory) (s : IsSized c old) (r : Record)
    (makes : Makes c old r new) (page : ℕ) (a : Act) (of : IsWordOf c r.call page a) where
  serves_word : ServesKind c old (kind.Word of.width of.addr a) r.reply new
  serves_word = subst (λ k. ServesKind c old k r.reply new) of.is makes.served

  is_written : new ≡ with_written c old of.width of.addr
      (next_number of.width a (number_in_word c old of.width of.addr))
  is_written =
      (subst (λ o. MatchOption o (Accesses c old of.width of.addr a r.reply new)
      (λ code. (r.reply ≡ Refused code) × (new ≡ old))) of.allowed serves_word).1

  pub word_leaves : Leaves c old new page
  word_leaves =
      let legal : IsWidth of.width = subst HasKindWidth of.is makes.width in
      let h : IsPlaced c of.width of.addr =
      access_placed c of.width of.addr config legal of.allowed in
      let next : Option ℕ = next_number of.width a (number_in_word c old of.width of.addr) in
      record {
        counts = ap (λ (m : Memory). m.counts) is_written ∙ put-counts c old of.width of.addr next;
        blocks = ap (λ (m : Memory). m.blocks) is_written ∙ put-blocks c old of.width of.addr next;
        others = λ q to ne.
            ap (λ m. flat_page c m q) is_written
            ∙ put-elsewhere c of.width of.addr h old s next q to (λ e. ne (e ∙ sym of.there));
      }

  pub load_leaves : a ≡ act.Load → new ≡ old
  load_leaves load =
      is_written
      ∙ ap (λ z. with_written c old of.width of.addr
      (next_number of.width z (number_in_word c old of.width of.addr))) load

-- the page of a word that is not refused is one of the heap
pub word_inside : (c : Config) → IsConfig c → (r : Record) → HasKindWidth (kind_of_call r.call) → (p : ℕ)
    (a : Act) → IsWordOf c r.call p a → (1 ≤ p) × (p < c.pages)
word_inside c config r wide p a of =
    let legal : IsWidth of.width = subst HasKindWidth of.is wide in
    let h : IsPlaced c of.width of.addr = access_placed c of.width of.addr config legal of.allowed in (
      subst (λ q. 1 ≤ q) (sym of.there) h.page_from,
      subst (λ q. q < c.pages) (sym of.there) h.page_to,
    )
