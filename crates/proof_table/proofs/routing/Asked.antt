-- Which requests are where once a node has taken a step.
use Rattle.std.proofs.Common.{◌≡◌, ◌≢◌, ◌⊎◌, ◌<◌, ℕ, List, ◌∷◌, sym, ap, ◌∙◌, subst, inl, inr}
use Rattle.ivy_model.specs.declared.Config.{Config}
use Rattle.ivy_wire.specs.declared.Content.TheVariants as content
use Rattle.ivy_wire.specs.stated.Data.{Content}
use Rattle.ivy_pagetable.specs.declared.Entry.{Entry}
use Rattle.ivy_pagetable.specs.declared.Entry.TheVariants as entry
use Rattle.ivy_pagetable.specs.stated.States.{IdleState}
use Rattle.proof_table.specs.stated.Letters.{Letter, Net, Place, Loose, IsAt}
use Rattle.proof_table.specs.stated.Orderly.{AwaitsCopy, AwaitsPage, Own, key_of, key_as, IsExpectedAs, IsOrderly}
use Rattle.proof_table.proofs.transitions.Needs.{page_of}
use Rattle.proof_table.proofs.transitions.Sole.{fits_as, first_alone}
use Rattle.proof_table.proofs.transitions.NetSteps.{IsStep}
use Rattle.proof_table.proofs.transitions.Parcels.{IsThe}
use Rattle.proof_table.proofs.transitions.Fitting.{IsRequest}
use Rattle.proof_table.specs.stated.Descending.{IsAsked}
use Rattle.proof_table.specs.stated.Sending.{IsSent}
use Rattle.proof_table.specs.routing.Claiming.{IsReader, asking, getting}
use Rattle.proof_table.proofs.routing.Remaining.{Remain, IsOnly, IsNothing}
use Rattle.proof_table.specs.transitions.TableSteps.{letter}

-- who asks waits, for a page that there is
module _ (c : Config) (n : Net) (order : IsOrderly c n) (q i y : ℕ) where
  reader_fits : (k : IsAsked n (content.ReadReq q) i y)
      → IsExpectedAs c n k.letter (content.ReadReq q)
  reader_fits k = fits_as c n order k.at k.letter (content.ReadReq q) k.there k.asks

  writer_fits : (k : IsAsked n (content.WriteReq q) i y)
      → IsExpectedAs c n k.letter (content.WriteReq q)
  writer_fits k = fits_as c n order k.at k.letter (content.WriteReq q) k.there k.asks

  pub reader_inside : IsAsked n (content.ReadReq q) i y → q < c.pages
  reader_inside k = (reader_fits k).0.inside

  pub writer_inside : IsAsked n (content.WriteReq q) i y → q < c.pages
  writer_inside k = (writer_fits k).0.inside

  pub reader_awaits : IsAsked n (content.ReadReq q) i y → (call : ℕ) × AwaitsCopy (n.entry i q) call
  reader_awaits k = (
    k.letter.message.call,
    subst (λ j. AwaitsCopy (n.entry j q) k.letter.message.call) k.asker (reader_fits k).1,
  )

  pub writer_awaits : IsAsked n (content.WriteReq q) i y
      → (call : ℕ) × AwaitsPage (n.entry i q) call
  writer_awaits k = (
    k.letter.message.call,
    subst (λ j. AwaitsPage (n.entry j q) k.letter.message.call) k.asker (writer_fits k).1,
  )

  pub reading_awaits : IsReader n q i y → (call : ℕ) × AwaitsCopy (n.entry i q) call
  reading_awaits (asking k) = reader_awaits k
  reading_awaits (getting k) =
      let fit : IsExpectedAs c n k.letter (content.ReadRep q k.bytes) =
      fits_as c n order k.at k.letter (content.ReadRep q k.bytes) k.there k.brings in (
        k.letter.message.call,
        subst (λ j. AwaitsCopy (n.entry j q) k.letter.message.call) (sym fit.1 ∙ k.dest) fit.2,
      )

  pub idle_silent : (s : IdleState) → n.entry i q ≡ entry.Idle s
      → IsAsked n (content.WriteReq q) i y → ⊥
  idle_silent s is k =
      (let f : (call : ℕ) × AwaitsPage (n.entry i q) call = writer_awaits k in
      subst (λ e. AwaitsPage e f.0) is f.1)

  pub idle_unread : (s : IdleState) → n.entry i q ≡ entry.Idle s → IsReader n q i y → ⊥
  idle_unread s is k =
      (let f : (call : ℕ) × AwaitsCopy (n.entry i q) call = reading_awaits k in
      subst (λ e. AwaitsCopy e f.0) is f.1)

-- each request is one of the net before
pub record AreOld (n n' : Net) : Type 0 where
  pub asked : (body : Content) → IsRequest body → (o y : ℕ) → IsAsked n' body o y
      → IsAsked n body o y

-- as each letter is
pub part_old : (n n' : Net) → ((a : Place) (l : Letter) → IsAt n' a l → (b : Place) × IsAt n b l)
    → AreOld n n'
part_old n n' part = record {
  asked = λ body request o y k. (
      let f : (b : Place) × IsAt n b k.letter = part k.at k.letter k.there in
      record {
        at = f.0;
        letter = k.letter;
        there = f.1;
        dest = k.dest;
        asker = k.asker;
        asks = k.asks;
      }
      );
}

pub then_old : (n n' n'' : Net) → AreOld n n' → AreOld n' n'' → AreOld n n''
then_old n n' n'' old later =
    record {
      asked =
          λ body request o y k. old.asked body request o y (later.asked body request o y k);
    }

-- a request of the net before, which is not the one that is served
pub record IsOther (n : Net) (body : Content) (o y : ℕ) : Type 0 where
  pub was : IsAsked n body o y
  pub stays : was.at ≢ Loose 0

-- while a request of a node is served, no other of its own about the page is there
pub other_asker : (c : Config) (n : Net) (order : IsOrderly c n) (l : Letter) (rest : List Letter)
    (p i y : ℕ) (body : Content) → n.loose ≡ l ∷ rest
    → key_of l ≡ Own l.message.origin p → ((m : Letter) → key_as m body ≡ Own m.message.origin p)
    → IsOther n body i y → i ≢ l.message.origin
other_asker c n order l rest p i y body loose mine own other same =
    first_alone c n order l rest loose other.was.at other.was.letter other.was.there other.stays
    (ap (key_as other.was.letter) other.was.asks ∙ own other.was.letter
    ∙ ap (λ j. Own j p) (other.was.asker ∙ same) ∙ sym mine)

module _ (n n' : Net) (x p : ℕ) (e z : Entry) (now : Place → Place) (New : Place → Letter → Type 0)
    (step : IsStep n n' x p e z now New) where
  asked_either : (body : Content) (o y : ℕ) → IsAsked n' body o y
      → IsOther n body o y
      ⊎ ((a : Place) × (l : Letter) × New a l × (l.dest ≡ y) × (l.message.origin ≡ o)
      × (l.message.content ≡ body))
  asked_either body o y k = elim (step.letters k.at k.letter k.there) [
    | inl h ↦
        inl (record {
          was =
              record {
                at = h.0;
                letter = k.letter;
                there = h.1;
                dest = k.dest;
                asker = k.asker;
                asks = k.asks;
              };
          stays = h.3;
        })
    | inr h ↦ inr (k.at, k.letter, h, k.dest, k.asker, k.asks)
  ]

  -- no new letter is a request
  pub step_old : ((a : Place) (l : Letter) → New a l → IsRequest l.message.content → ⊥)
      → AreOld n n'
  step_old none = record {
    asked = λ body request o y k. elim (asked_either body o y k) [
      | inl h ↦ h.was
      | inr h ↦ absurd (none h.0 h.1 h.2 (subst IsRequest (sym h.5) request))
    ];
  }

-- each request to write is there still
abbrev pub AreStill : Net → Net → Type 0
AreStill n n' =
    (q o y : ℕ) → IsAsked n (content.WriteReq q) o y → IsAsked n' (content.WriteReq q) o y

-- who reads from another node did so before
abbrev pub AreReaders : Net → Net → Type 0
AreReaders n n' = (q i y : ℕ) → IsReader n' q i y → IsReader n q i y

-- a request is there still, or is gone
pub asked_remains : (n n' : Net) (Gone : Letter → Type 0) → Remain n n' Gone
    → (body : Content) (o y : ℕ) → IsAsked n body o y
    → IsAsked n' body o y
    ⊎ ((l : Letter) × Gone l × (l.dest ≡ y) × (l.message.origin ≡ o) × (l.message.content ≡ body))
asked_remains n n' Gone remain body o y k = elim (remain k.at k.letter k.there) [
  | inl h ↦
      inl (record {
        at = h.0;
        letter = k.letter;
        there = h.1;
        dest = k.dest;
        asker = k.asker;
        asks = k.asks;
      })
  | inr gone ↦ inr (k.letter, gone, k.dest, k.asker, k.asks)
]

-- no request to write is gone
pub all_still : (n n' : Net) (Gone : Letter → Type 0) → Remain n n' Gone
    → ((l : Letter) (q : ℕ) → Gone l → l.message.content ≡ content.WriteReq q → ⊥) → AreStill n n'
all_still n n' Gone remain none q o y k =
    elim (asked_remains n n' Gone remain (content.WriteReq q) o y k) [
      | inl h ↦ h
      | inr gone ↦
          absurd (none gone.0 q gone.1 gone.4)
    ]

-- the letter that is gone is no request to write, or one about this page
pub only_still : (n n' : Net) (old : Letter) → Remain n n' (IsOnly old)
    → ((q : ℕ) → old.message.content ≡ content.WriteReq q → ⊥) → AreStill n n'
only_still n n' old remain none =
    all_still n n' (IsOnly old) remain
    (λ l q gone is. none q (ap (λ (v : Letter). v.message.content) (sym gone) ∙ is))

pub none_gone : (n n' : Net) → Remain n n' IsNothing → AreStill n n'
none_gone n n' remain = all_still n n' IsNothing remain (λ l q gone is. gone)

-- it is the request to write that is served
module _ (n n' : Net) (from x o call p : ℕ)
    (remain : Remain n n' (IsOnly (letter from x o call (content.WriteReq p)))) where
  pub served_or_still : (i y : ℕ) → IsAsked n (content.WriteReq p) i y
      → IsAsked n' (content.WriteReq p) i y ⊎ ((i ≡ o) × (y ≡ x))
  served_or_still i y k =
      elim (asked_remains n n' (IsOnly (letter from x o call (content.WriteReq p))) remain
      (content.WriteReq p) i y k) [
        | inl h ↦ inl h
        | inr g ↦
            inr (
              sym g.3 ∙ ap (λ (v : Letter). v.message.origin) g.1,
              sym g.2 ∙ ap (λ (v : Letter). v.dest) g.1,
            )
      ]

  pub still_elsewhere : (q : ℕ) → q ≢ p → (i y : ℕ) → IsAsked n (content.WriteReq q) i y
      → IsAsked n' (content.WriteReq q) i y
  still_elsewhere q ne i y k =
      elim (asked_remains n n' (IsOnly (letter from x o call (content.WriteReq p))) remain
      (content.WriteReq q) i y k) [
        | inl h ↦ h
        | inr g ↦ absurd (ne (ap page_of (sym g.4 ∙ ap (λ (v : Letter). v.message.content) g.1)))
      ]

-- no request to read is new, and no copy is, but to who asked for it
pub all_readers : (n n' : Net) → AreOld n n' → ((q s y : ℕ) → IsSent n' q s y → IsReader n q y s)
    → AreReaders n n'
all_readers n n' old copies q i y (asking k) = asking (old.asked (content.ReadReq q) tt i y k)
all_readers n n' old copies q i y (getting k) = copies q y i k

-- each letter is one of the net before
pub part_readers : (n n' : Net)
    → ((a : Place) (l : Letter) → IsAt n' a l → (b : Place) × IsAt n b l) → AreReaders n n'
part_readers n n' part = all_readers n n' (part_old n n' part) (λ q s y k. (
    let f : (b : Place) × IsAt n b k.letter = part k.at k.letter k.there in
    getting (record {
      at = f.0;
      letter = k.letter;
      bytes = k.bytes;
      there = f.1;
      from = k.from;
      dest = k.dest;
      brings = k.brings;
    })
    ))

module _ (n n' : Net) (x p : ℕ) (e z : Entry) (now : Place → Place) (New : Place → Letter → Type 0)
    (step : IsStep n n' x p e z now New) where
  -- a copy was on its way before, or is new
  pub sent_either : (q s y : ℕ) → IsSent n' q s y
      → IsSent n q s y
      ⊎ ((a : Place) × (l : Letter) × (bytes : List ℕ) × New a l × (l.source ≡ s) × (l.dest ≡ y)
      × (l.message.content ≡ content.ReadRep q bytes))
  sent_either q s y k = elim (step.letters k.at k.letter k.there) [
    | inl h ↦
        inl (record {
          at = h.0;
          letter = k.letter;
          bytes = k.bytes;
          there = h.1;
          from = k.from;
          dest = k.dest;
          brings = k.brings;
        })
    | inr h ↦ inr (k.at, k.letter, k.bytes, h, k.from, k.dest, k.brings)
  ]

  -- none is new
  pub step_readers : ((a : Place) (l : Letter) → New a l → IsRequest l.message.content → ⊥)
      → ((a : Place) (l : Letter) (q : ℕ) (bytes : List ℕ) → New a l
      → l.message.content ≡ content.ReadRep q bytes → ⊥)
      → AreReaders n n'
  step_readers none uncopied =
      all_readers n n' (step_old n n' x p e z now New step none)
      (λ q s y k. elim (sent_either q s y k) [
        | inl h ↦ getting h
        | inr h ↦ absurd (uncopied h.0 h.1 q h.2 h.3 h.6)
      ])

-- one letter is new
module _ (n n' : Net) (x p : ℕ) (e z : Entry) (now : Place → Place) (at : Place) (new : Letter)
    (step : IsStep n n' x p e z now (IsThe at new)) where
  pub asked_or_new : (body : Content) (o y : ℕ) → IsAsked n' body o y
      → IsOther n body o y
      ⊎ ((new.dest ≡ y) × (new.message.origin ≡ o) × (new.message.content ≡ body))
  asked_or_new body o y k = elim (asked_either n n' x p e z now (IsThe at new) step body o y k) [
    | inl h ↦ inl h
    | inr h ↦ inr (
      ap (λ (v : Letter). v.dest) (sym h.2.1) ∙ h.3,
      ap (λ (v : Letter). v.message.origin) (sym h.2.1) ∙ h.4,
      ap (λ (v : Letter). v.message.content) (sym h.2.1) ∙ h.5,
    )
  ]

  pub asked_others : (body : Content) → (new.message.content ≡ body → ⊥) → (o y : ℕ)
      → IsAsked n' body o y → IsOther n body o y
  asked_others body none o y k =
      elim (asked_or_new body o y k) [ inl h ↦ h | inr h ↦ absurd (none h.2) ]

  -- an answer is no request
  pub answer_old : (IsRequest new.message.content → ⊥) → AreOld n n'
  answer_old none =
      step_old n n' x p e z now (IsThe at new) step
      (λ a l it request. none (subst (λ (v : Letter). IsRequest v.message.content) it.1 request))

  -- the new letter is no copy
  sent_others : (q : ℕ) → ((bytes : List ℕ) → new.message.content ≡ content.ReadRep q bytes → ⊥)
      → (s y : ℕ) → IsSent n' q s y → IsSent n q s y
  sent_others q none s y k = elim (sent_either n n' x p e z now (IsThe at new) step q s y k) [
    | inl h ↦ h
    | inr h ↦ absurd (none h.2 (ap (λ (v : Letter). v.message.content) (sym h.3.1) ∙ h.6))
  ]

  -- who reads did so before, or asks by the new letter
  pub reader_or_new : (q : ℕ)
      → ((bytes : List ℕ) → new.message.content ≡ content.ReadRep q bytes → ⊥) → (i y : ℕ)
      → IsReader n' q i y
      → IsReader n q i y
      ⊎ ((new.dest ≡ y) × (new.message.origin ≡ i) × (new.message.content ≡ content.ReadReq q))
  reader_or_new q none i y (asking k) =
      elim (asked_or_new (content.ReadReq q) i y k) [ inl h ↦ inl (asking h.was) | inr h ↦ inr h ]
  reader_or_new q none i y (getting k) = inl (getting (sent_others q none y i k))

  pub reader_others : (q : ℕ)
      → ((bytes : List ℕ) → new.message.content ≡ content.ReadRep q bytes → ⊥)
      → (new.message.content ≡ content.ReadReq q → ⊥) → (i y : ℕ) → IsReader n' q i y
      → IsReader n q i y
  reader_others q uncopied unread i y k =
      elim (reader_or_new q uncopied i y k) [ inl h ↦ h | inr h ↦ absurd (unread h.2) ]

  pub reader_elsewhere : (q : ℕ) → page_of new.message.content ≡ p → q ≢ p → (i y : ℕ)
      → IsReader n' q i y → IsReader n q i y
  reader_elsewhere q mine ne =
      reader_others q (λ bytes is. ne (ap page_of (sym is) ∙ mine))
      (λ is. ne (ap page_of (sym is) ∙ mine))

  -- the new letter is an answer: no copy, or one to who asked for it
  pub answer_readers : (IsRequest new.message.content → ⊥)
      → ((q : ℕ) (bytes : List ℕ) → new.message.content ≡ content.ReadRep q bytes
      → IsAsked n (content.ReadReq q) new.dest new.source) → AreReaders n n'
  answer_readers none copied =
      all_readers n n' (answer_old none)
      (λ q s y k. elim (sent_either n n' x p e z now (IsThe at new) step q s y k) [
        | inl h ↦ getting h
        | inr h ↦
            asking (subst (λ d. IsAsked n (content.ReadReq q) d s)
            (ap (λ (v : Letter). v.dest) (sym h.3.1) ∙ h.5)
            (subst (IsAsked n (content.ReadReq q) new.dest)
            (ap (λ (v : Letter). v.source) (sym h.3.1) ∙ h.4)
            (copied q h.2 (ap (λ (v : Letter). v.message.content) (sym h.3.1) ∙ h.6))))
      ])

  -- of other pages the requests are the same
  pub asked_elsewhere : (q : ℕ) → page_of new.message.content ≡ p → q ≢ p → (body : Content)
      → page_of body ≡ q → (o y : ℕ) → IsAsked n' body o y → IsAsked n body o y
  asked_elsewhere q mine ne body about o y k =
      (asked_others body (λ is. ne (sym about ∙ sym (ap page_of is) ∙ mine)) o y k).was
