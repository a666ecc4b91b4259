-- What a step has to show so that requests to read stay before those to write; and steps at which
-- no request is new.
use Rattle.std.proofs.Common.{◌≡◌, ◌≢◌, ◌⊎◌, ◌<◌, ◌≤◌, ◌+◌, ◌==◌, ◌&&◌, if◌then◌else◌, ℕ, zero, suc, Bool, true, false, List, [], ◌∷◌, slice_get, Some, refl, sym, ap, ◌∙◌, subst, inl, inr, arith}
use Rattle.std.proofs.lemmas.Option.{same_Some, none-some}
use Rattle.ivy_wire.specs.declared.Content.TheVariants as content
use Rattle.ivy_wire.specs.stated.Data.{Content, Message}
use Rattle.ivy_pagetable.specs.declared.Entry.{Entry}
use Rattle.proof_table.specs.stated.Letters.{Letter, Net, Place, Underway, Aside, Loose, IsAt}
use Rattle.proof_table.specs.transitions.Letters.{installs}
use Rattle.proof_table.specs.transitions.TableSteps.{taken}
use Rattle.proof_table.proofs.transitions.Places.{written_here, written-other, same_or_other, served, freed}
use Rattle.proof_table.proofs.transitions.NetSteps.{IsStep}
use Rattle.proof_table.proofs.routing.Old.{taken_letters}
use Rattle.proof_table.specs.stated.Descending.{IsAsked}
use Rattle.proof_table.specs.routing.Claiming.{claims}
use Rattle.proof_table.specs.waiting.Readers.{IsBefore, AreReadersFirst}

-- the letters that stay keep their order, where the first loose one is served
pub served_before : (a b : Place) → a ≢ Loose 0 → b ≢ Loose 0 → IsBefore a b
    → IsBefore (served a) (served b)
served_before (Aside x p k) (Aside y q j) na nb h = h
served_before (Aside x p k) (Loose zero) na nb h = absurd (nb refl)
served_before (Aside x p k) (Loose (suc j)) na nb h = tt
served_before (Aside x p k) (Underway i y j) na nb h = tt
served_before (Loose zero) b na nb h = absurd (na refl)
served_before (Loose (suc k)) (Aside y q j) na nb h = absurd h
served_before (Loose (suc k)) (Loose zero) na nb h = absurd (nb refl)
served_before (Loose (suc k)) (Loose (suc j)) na nb h = omega (arith, h)
served_before (Loose (suc k)) (Underway i y j) na nb h = tt
served_before (Underway g x k) (Aside y q j) na nb h = absurd h
served_before (Underway g x k) (Loose j) na nb h = absurd h
served_before (Underway g x k) (Underway i y j) na nb h = h

pub served_under : (a : Place) (i y k : ℕ) → a ≢ Loose 0 → Underway i y k ≡ served a
    → a ≡ Underway i y k
served_under (Aside x p j) i y k ne h = cc
served_under (Loose zero) i y k ne h = absurd (ne refl)
served_under (Loose (suc j)) i y k ne h = cc
served_under (Underway g x j) i y k ne h = sym h

-- where a node lets loose what was put off, and no other letter is loose
module _ (n : Net) (x p : ℕ) (old : Letter) (loose : n.loose ≡ old ∷ []) where
  only_first : (k : ℕ) (l : Letter) → IsAt n (Loose k) l → Loose k ≢ Loose 0 → ⊥
  only_first zero l at ne = ne refl
  only_first (suc k) l at ne = none-some l (ap (λ v. slice_get v (suc k)) (sym loose) ∙ at)

  freed_asides : (i q k j : ℕ) → k < j
      → IsBefore (freed x p (Aside i q k)) (freed x p (Aside i q j))
  freed_asides i q k j less = elim (same_or_other i q x p) [
    | inl same ↦
        subst (λ a. IsBefore a (freed x p (Aside i q j)))
        (sym (written_here (λ a b. Aside a b k) x p (Loose k) i q same.0 same.1))
        (subst (IsBefore (Loose k))
        (sym (written_here (λ a b. Aside a b j) x p (Loose j) i q same.0 same.1)) less)
    | inr other ↦
        subst (λ a. IsBefore a (freed x p (Aside i q j)))
        (sym (written-other (λ a b. Aside a b k) x p (Loose k) i q other))
        (subst (IsBefore (Aside i q k))
        (sym (written-other (λ a b. Aside a b j) x p (Loose j) i q other)) (refl, refl, less))
  ]

  freed_aside_under : (i q k g y j : ℕ) → IsBefore (freed x p (Aside i q k)) (Underway g y j)
  freed_aside_under i q k g y j = elim (same_or_other i q x p) [
    | inl same ↦
        subst (λ a. IsBefore a (Underway g y j))
        (sym (written_here (λ a b. Aside a b k) x p (Loose k) i q same.0 same.1)) tt
    | inr other ↦
        subst (λ a. IsBefore a (Underway g y j))
        (sym (written-other (λ a b. Aside a b k) x p (Loose k) i q other)) tt
  ]

  pub freed_before : (a b : Place) (l m : Letter) → IsAt n a l → IsAt n b m → a ≢ Loose 0
      → b ≢ Loose 0 → IsBefore a b → IsBefore (freed x p a) (freed x p b)
  freed_before (Aside i q k) (Aside y r j) l m at bt na nb h =
      subst (λ v. IsBefore (freed x p (Aside i q k)) (freed x p (Aside v r j))) h.0
      (subst (λ v. IsBefore (freed x p (Aside i q k)) (freed x p (Aside i v j))) h.1
      (freed_asides i q k j h.2))
  freed_before (Aside i q k) (Loose j) l m at bt na nb h = absurd (only_first j m bt nb)
  freed_before (Aside i q k) (Underway g y j) l m at bt na nb h = freed_aside_under i q k g y j
  freed_before (Loose k) b l m at bt na nb h = absurd (only_first k l at na)
  freed_before (Underway g y k) (Aside i r j) l m at bt na nb h = absurd h
  freed_before (Underway g y k) (Loose j) l m at bt na nb h = absurd h
  freed_before (Underway g y k) (Underway i v j) l m at bt na nb h = h

  pub freed_under : (a : Place) (l : Letter) (i y k : ℕ) → IsAt n a l → a ≢ Loose 0
      → Underway i y k ≡ freed x p a → a ≡ Underway i y k
  freed_under (Aside g q j) l i y k at ne h = elim (same_or_other g q x p) [
    | inl same ↦ absurd (
        let e : Underway i y k ≡ Loose j =
        h ∙ written_here (λ a b. Aside a b j) x p (Loose j) g q same.0 same.1 in
        cc
        )
    | inr other ↦ absurd (
        let e : Underway i y k ≡ Aside g q j =
        h ∙ written-other (λ a b. Aside a b j) x p (Loose j) g q other in
        cc
        )
  ]
  freed_under (Loose j) l i y k at ne h = absurd (only_first j l at ne)
  freed_under (Underway g v j) l i y k at ne h = sym h

-- a request, as it is asked of a node
pub asked_at : (n : Net) (a : Place) (l : Letter) (body : Content) → IsAt n a l
    → l.message.content ≡ body → IsAsked n body l.message.origin l.dest
asked_at n a l body at is = record {
  at = a;
  letter = l;
  there = at;
  dest = refl;
  asker = refl;
  asks = is;
}

module _ (n n' : Net) (x p : ℕ) (e z : Entry) (now : Place → Place) (New : Place → Letter → Type 0)
    (step : IsStep n n' x p e z now New) (q w : ℕ) where
  -- What a step has to show about page q: the letters that stay keep their order, nobody who is
  -- asked to read ends to claim the page, and the new letters stand where they should.
  pub record IsReady : Type 0 where
    pub orders : (a b : Place) (l m : Letter) → IsAt n a l → IsAt n b m → a ≢ Loose 0 → b ≢ Loose 0
        → IsBefore a b → IsBefore (now a) (now b)
    pub under : (a : Place) (l : Letter) (i y k : ℕ) → IsAt n a l → a ≢ Loose 0
        → Underway i y k ≡ now a → a ≡ Underway i y k
    pub claimed : (a : Place) (l : Letter) → IsAt n a l → a ≢ Loose 0
        → l.message.content ≡ content.ReadReq q → l.dest ≢ w → claims (n.entry l.dest q) ≡ true
        → claims (n'.entry l.dest q) ≡ true
    pub new_claimed : (a : Place) (l : Letter) → New a l → l.message.content ≡ content.ReadReq q
        → l.dest ≢ w → claims (n'.entry l.dest q) ≡ true
    pub new_sent : (i y k : ℕ) (l : Letter) → New (Underway i y k) l
        → l.message.content ≡ content.ReadReq q → y ≢ w → i ≡ w
    pub new_first : (a b : Place) (l m : Letter) → New a l → IsAt n b m → b ≢ Loose 0
        → l.message.content ≡ content.ReadReq q → m.message.content ≡ content.WriteReq q
        → l.dest ≡ m.dest → l.dest ≢ w → IsBefore a (now b)
    pub new_last : (a b : Place) (l m : Letter) → IsAt n a l → a ≢ Loose 0 → New b m
        → l.message.content ≡ content.ReadReq q → m.message.content ≡ content.WriteReq q
        → l.dest ≡ m.dest → l.dest ≢ w → IsBefore (now a) b
    pub new_alone : (a b : Place) (l m : Letter) → New a l → New b m
        → l.message.content ≡ content.ReadReq q → m.message.content ≡ content.WriteReq q → ⊥
    pub new_queued : (b : Place) (m : Letter) (other : ℕ) → New b m
        → m.message.content ≡ content.WriteReq q → m.dest ≡ w → m.message.origin ≢ w
        → IsAsked n' (content.ReadReq q) other m.message.origin → ⊥
    pub new_unread : (a : Place) (l : Letter) → New a l → l.message.content ≡ content.ReadReq q
        → l.dest ≢ w → IsAsked n' (content.WriteReq q) l.dest w → ⊥

  module _ (ready : IsReady) (first : AreReadersFirst n q w) where
    after_claimed : (o y : ℕ) → y ≢ w → IsAsked n' (content.ReadReq q) o y
        → claims (n'.entry y q) ≡ true
    after_claimed o y ne k =
        subst (λ v. claims (n'.entry v q) ≡ true) k.dest (elim (step.letters k.at k.letter k.there) [
          | inl h ↦
              ready.claimed h.0 k.letter h.1 h.3 k.asks away
              (first.reader_claimed k.letter.message.origin k.letter.dest away
              (asked_at n h.0 k.letter (content.ReadReq q) h.1 k.asks))
          | inr h ↦ ready.new_claimed k.at k.letter h k.asks away
        ])
      where
        away : k.letter.dest ≢ w
        away same = ne (sym k.dest ∙ same)

    after_sent : (i y k : ℕ) (l : Letter) → IsAt n' (Underway i y k) l
        → l.message.content ≡ content.ReadReq q → y ≢ w → i ≡ w
    after_sent i y k l at is ne = elim (step.letters (Underway i y k) l at) [
      | inl h ↦
          first.reader_sent i y k l
          (subst (λ a. IsAt n a l) (ready.under h.0 l i y k h.1 h.3 h.2) h.1) is ne
      | inr h ↦ ready.new_sent i y k l h is ne
    ]

    after_first : (a b : Place) (l m : Letter) → IsAt n' a l → IsAt n' b m
        → l.message.content ≡ content.ReadReq q → m.message.content ≡ content.WriteReq q
        → l.dest ≡ m.dest → l.dest ≢ w → IsBefore a b
    after_first a b l m at bt reads writes same ne = elim (step.letters a l at) [
      | inl h ↦ elim (step.letters b m bt) [
        | inl g ↦
            subst (λ v. IsBefore v b) (sym h.2)
            (subst (IsBefore (now h.0)) (sym g.2)
            (ready.orders h.0 g.0 l m h.1 g.1 h.3 g.3
            (first.reader_first h.0 g.0 l m h.1 g.1 reads writes same ne)))
        | inr g ↦
            subst (λ v. IsBefore v b) (sym h.2)
            (ready.new_last h.0 b l m h.1 h.3 g reads writes same ne)
      ]
      | inr h ↦ elim (step.letters b m bt) [
        | inl g ↦
            subst (IsBefore a) (sym g.2)
            (ready.new_first a g.0 l m h g.1 g.3 reads writes same ne)
        | inr g ↦ absurd (ready.new_alone a b l m h g reads writes)
      ]
    ]

    after_unread : (o other : ℕ) → o ≢ w → IsAsked n' (content.WriteReq q) o w
        → IsAsked n' (content.ReadReq q) other o → ⊥
    after_unread o other ne k j = elim (step.letters k.at k.letter k.there) [
      | inr g ↦
          ready.new_queued k.at k.letter other g k.asks k.dest
          (λ same. ne (sym k.asker ∙ same))
          (subst (IsAsked n' (content.ReadReq q) other) (sym k.asker) j)
      | inl g ↦ elim (step.letters j.at j.letter j.there) [
        | inr h ↦
            ready.new_unread j.at j.letter h j.asks (λ same. ne (sym j.dest ∙ same))
            (subst (λ v. IsAsked n' (content.WriteReq q) v w) (sym j.dest) k)
        | inl h ↦
            first.queued_unread o other ne
            (record {
              at = g.0;
              letter = k.letter;
              there = g.1;
              dest = k.dest;
              asker = k.asker;
              asks = k.asks;
            })
            (record {
              at = h.0;
              letter = j.letter;
              there = h.1;
              dest = j.dest;
              asker = j.asker;
              asks = j.asks;
            })
      ]
    ]

    pub step_readers : AreReadersFirst n' q w
    step_readers = record {
      reader_claimed = after_claimed;
      reader_sent = after_sent;
      reader_first = after_first;
      queued_unread = after_unread;
    }

  -- no new letter is a request about this page
  pub calm_ready : ((a b : Place) (l m : Letter) → IsAt n a l → IsAt n b m → a ≢ Loose 0
      → b ≢ Loose 0 → IsBefore a b → IsBefore (now a) (now b))
      → ((a : Place) (l : Letter) (i y k : ℕ) → IsAt n a l → a ≢ Loose 0
      → Underway i y k ≡ now a → a ≡ Underway i y k)
      → ((a : Place) (l : Letter) → New a l → l.message.content ≡ content.ReadReq q → ⊥)
      → ((a : Place) (l : Letter) → New a l → l.message.content ≡ content.WriteReq q → ⊥)
      → ((a : Place) (l : Letter) → IsAt n a l → a ≢ Loose 0
      → l.message.content ≡ content.ReadReq q → l.dest ≢ w → claims (n.entry l.dest q) ≡ true
      → claims (n'.entry l.dest q) ≡ true)
      → IsReady
  calm_ready orders under unread unwritten claimed = record {
    orders = orders;
    under = under;
    claimed = claimed;
    new_claimed = λ a l new is ne. absurd (unread a l new is);
    new_sent = λ i y k l new is ne. absurd (unread (Underway i y k) l new is);
    new_first = λ a b l m new bt nb is writes same ne. absurd (unread a l new is);
    new_last = λ a b l m at na new reads is same ne. absurd (unwritten b m new is);
    new_alone = λ a b l m new other is writes. unread a l new is;
    new_queued = λ b m other new is there ne k. unwritten b m new is;
    new_unread = λ a l new is ne k. unread a l new is;
  }

-- where the letters are the same, and so are the claims
pub same_readers : (n n' : Net) (q w : ℕ) → ((a : Place) (l : Letter) → IsAt n' a l → IsAt n a l)
    → ((y : ℕ) → n'.entry y q ≡ n.entry y q) → AreReadersFirst n q w → AreReadersFirst n' q w
same_readers n n' q w letters entries first = record {
  reader_claimed = λ o y ne k. ap claims (entries y) ∙ first.reader_claimed o y ne (old k);
  reader_sent = λ i y k l at is ne. first.reader_sent i y k l (letters (Underway i y k) l at) is ne;
  reader_first = λ a b l m at bt reads writes same ne.
      first.reader_first a b l m (letters a l at) (letters b m bt) reads writes same ne;
  queued_unread = λ o other ne k j. first.queued_unread o other ne (old k) (old j);
}
  where
    old : {body : Content} {o y : ℕ} → IsAsked n' body o y → IsAsked n body o y
    old k = record {
      at = k.at;
      letter = k.letter;
      there = letters k.at k.letter k.there;
      dest = k.dest;
      asker = k.asker;
      asks = k.asks;
    }

pub installs_at : (n : Net) (x p : ℕ) (bytes : List ℕ) (a : Place) (l : Letter)
    → IsAt (installs n x p bytes) a l → IsAt n a l
installs_at n x p bytes (Underway i j k) l at = at
installs_at n x p bytes (Aside i q k) l at = at
installs_at n x p bytes (Loose k) l at = at

-- the letter is not loose
abbrev pub IsFixed : Place → Type 0
IsFixed (Underway i j k) = Unit {0}
IsFixed (Aside i p k) = Unit {0}
IsFixed (Loose k) = ⊥

-- a letter is taken
module _ (n : Net) (s x : ℕ) (m : Message)
    (next : slice_get (n.posted s x) (n.delivered s x) ≡ Some m) (q w : ℕ)
    (first : AreReadersFirst n q w) where
  abbrev after_taking : Net
  after_taking = taken n s x m

  -- it was the next of its pair, and the others are where they were
  IsTaken : Place → Letter → Type 0
  IsTaken a l =
      ((a ≡ Loose 0) × IsAt n (Underway s x (n.delivered s x)) l) ⊎ (IsAt n a l × IsFixed a)

  told : (b d : Bool) (k n' : ℕ) → (if b then n' + 1 else n') ≤ k → n' ≤ k
  told true d k n' le = omega (arith, le)
  told false d k n' le = le

  taken_from : (a : Place) (l : Letter) → IsAt after_taking a l → IsTaken a l
  unfolding IsTaken
  taken_from (Underway i j k) l at =
      inr ((told (i == s && j == x) true k (n.delivered i j) at.0, at.1, at.2, at.3), tt)
  taken_from (Aside i p k) l at = inr (at, tt)
  taken_from (Loose zero) l at = inl (
    refl,
    (
      omega arith,
      next ∙ ap (λ (v : Letter). Some v.message) (same_Some _ l at),
      ap (λ (v : Letter). v.source) (sym (same_Some _ l at)),
      ap (λ (v : Letter). v.dest) (sym (same_Some _ l at)),
    ),
  )
  taken_from (Loose (suc k)) l at = absurd (none-some l at)

  was_asked : {body : Content} {o y : ℕ} → IsAsked after_taking body o y → IsAsked n body o y
  was_asked k =
      let f = taken_letters n s x m next k.at k.letter k.there in
      record {
        at = f.0;
        letter = k.letter;
        there = f.1;
        dest = k.dest;
        asker = k.asker;
        asks = k.asks;
      }

  loose_before : (a : Place) → IsFixed a → (l : Letter) → IsAt n a l
      → IsBefore a (Underway s x (n.delivered s x)) → IsBefore a (Loose 0)
  loose_before (Underway i y k) fixed l at h =
      (let less = h.2 in
      let low : n.delivered i y ≤ k = at.0 in
      let same : n.delivered i y ≡ n.delivered s x =
      ap (λ v. n.delivered v y) h.0 ∙ ap (n.delivered s) h.1 in
      omega (arith, less, low, same))
  loose_before (Aside i p k) fixed l at h = tt
  loose_before (Loose k) fixed l at h = absurd fixed

  before_under : (b : Place) → IsFixed b → IsBefore (Underway s x (n.delivered s x)) b
      → IsBefore (Loose 0) b
  before_under (Underway i y k) fixed h = tt
  before_under (Aside i p k) fixed h = absurd h
  before_under (Loose k) fixed h = absurd fixed

  taken_order : (a b : Place) (l k : Letter) → IsTaken a l → IsTaken b k
      → l.message.content ≡ content.ReadReq q → k.message.content ≡ content.WriteReq q
      → l.dest ≡ k.dest → l.dest ≢ w → IsBefore a b
  unfolding IsTaken
  taken_order a b l k (inl h) (inl g) reads writes same ne = absurd (
      let e : Some l.message ≡ Some k.message = sym h.1.1 ∙ g.1.1 in
      let d : l.message ≡ k.message = same_Some _ _ e in
      let f : content.ReadReq q ≡ content.WriteReq q =
      sym reads ∙ ap (λ (v : Message). v.content) d ∙ writes in
      cc
      )
  taken_order a b l k (inl h) (inr g) reads writes same ne =
      subst (λ v. IsBefore v b) (sym h.0)
      (before_under b g.1
      (first.reader_first (Underway s x (n.delivered s x)) b l k h.1 g.0 reads writes same ne))
  taken_order a b l k (inr h) (inl g) reads writes same ne =
      subst (IsBefore a) (sym g.0)
      (loose_before a h.1 l h.0
      (first.reader_first a (Underway s x (n.delivered s x)) l k h.0 g.1 reads writes same ne))
  taken_order a b l k (inr h) (inr g) reads writes same ne =
      first.reader_first a b l k h.0 g.0 reads writes same ne

  taken_sent : (i y k : ℕ) (l : Letter) → IsTaken (Underway i y k) l
      → IsAt n (Underway i y k) l
  unfolding IsTaken
  taken_sent i y k l (inl h) = absurd (let e : Underway i y k ≡ Loose 0 = h.0 in cc)
  taken_sent i y k l (inr h) = h.0

  pub taken_readers : AreReadersFirst after_taking q w
  taken_readers = record {
    reader_claimed = λ o y ne k. first.reader_claimed o y ne (was_asked k);
    reader_sent = λ i y k l at is ne.
        first.reader_sent i y k l (taken_sent i y k l (taken_from (Underway i y k) l at)) is ne;
    reader_first = λ a b l k at bt reads writes same ne.
        taken_order a b l k (taken_from a l at) (taken_from b k bt) reads writes same ne;
    queued_unread = λ o other ne k j. first.queued_unread o other ne (was_asked k) (was_asked j);
  }
