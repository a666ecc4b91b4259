-- A word that waits, followed through a step of a world: one letter at most is delivered in it. The
-- word waits on, and no longer than before; or that letter is what it waited for last.
use Rattle.std.proofs.Common.{◌≡◌, ◌≢◌, ◌⊎◌, ℕ, true, slice_get, refl, sym, ap, ◌∙◌, subst, inl, inr, arith}
use Rattle.std.proofs.lemmas.Bool.{both_ways}
use Rattle.ivy_model.specs.declared.Config.{Config}
use Rattle.ivy_pagetable.specs.declared.Entry.{Entry}
use Rattle.ivy_pagetable.specs.declared.Entry.TheVariants as entry
use Rattle.ivy_pagetable.specs.declared.Word.{Word}
use Rattle.ivy_pagetable.specs.declared.Word.TheVariants as word
use Rattle.ivy_pagetable.specs.stated.Entries.{is_locked}
use Rattle.ivy_coherence.specs.stated.Fetching.{joined_by}
use Rattle.proof_table.specs.stated.Letters.{Letter, Net, Place, Loose, IsAt}
use Rattle.proof_table.specs.stated.Orderly.{key_of, IsOrderly}
use Rattle.proof_table.proofs.transitions.Needs.{page_of}
use Rattle.proof_table.proofs.waiting.Onward.{IsDue, IsPromised, IsWithin, IsLast, last_about, IsFreed, IsOnward}

-- the entries are the same, but for the word
abbrev pub IsSameButWord : Entry → Entry → Type 0
IsSameButWord e z = (w : Word) → joined_by e w ≡ joined_by z w

joined_again : (e : Entry) (v w : Word) → joined_by (joined_by e v) w ≡ joined_by e w
joined_again (entry.Idle s) v w = refl
joined_again (entry.AwaitRead s) v w = refl
joined_again (entry.AwaitWrite s) v w = refl
joined_again (entry.AwaitAcks s) v w = refl

-- then what is waited for last is the same
joined_last : (e : Entry) (w : Word) (l : Letter) (p : ℕ) → IsLast e l p
    → IsLast (joined_by e w) l p
joined_last (entry.Idle s) w l p h = h
joined_last (entry.AwaitRead s) w l p h = h
joined_last (entry.AwaitWrite s) w l p h = h
joined_last (entry.AwaitAcks s) w l p h = h

last_joined : (e : Entry) (w : Word) (l : Letter) (p : ℕ) → IsLast (joined_by e w) l p
    → IsLast e l p
last_joined (entry.Idle s) w l p h = h
last_joined (entry.AwaitRead s) w l p h = h
last_joined (entry.AwaitWrite s) w l p h = h
last_joined (entry.AwaitAcks s) w l p h = h

pub same_last : (e z : Entry) (l : Letter) (p : ℕ) → IsSameButWord e z → IsLast e l p → IsLast z l p
same_last e z l p same h =
    last_joined z any l p
    (subst (λ (v : Entry). IsLast v l p) (same any) (joined_last e any l p h))
  where
    any : Word
    any = word.Load 1 0

-- the letter is for node i, and what the word at the entry waits for last
pub record IsLastAt (i p : ℕ) (e : Entry) (l : Letter) : Type 0 where
  pub dest : l.dest ≡ i
  pub asker : l.message.origin ≡ i
  pub last : IsLast e l p

-- Node i waits at page p; a letter about that page that is due to the node is this one, and finds
-- the entry as it was, but for the word; and this holds. By the end of the step `step` is
-- delivered.
pub record IsAimed (Holds : Type 0) (step : ℕ → ℕ → ℕ) (i p : ℕ) (e : Entry) (l : Letter) (n : Net)
    : Type 0 where
  pub shut : is_locked (n.entry i p) ≡ true
  pub only : (a : Place) (k : Letter) → IsAt n a k → IsDue step a → k.dest ≡ i
      → page_of k.message.content ≡ p → (k ≡ l) × IsSameButWord (n.entry i p) e
  pub holds : Holds

-- so it is while no more is delivered than in the step
pub record IsFollowed (Holds : Type 0) (step : ℕ → ℕ → ℕ) (i p : ℕ) (e : Entry) (l : Letter) (n : Net)
    : Type 0 where
  pub promised : IsPromised step n
  pub aims : IsWithin step n → IsAimed Holds step i p e l n ⊎ IsLastAt i p e l

-- `keeps`: what holds while the word waits holds after the step if it waits on
module _ (c : Config) {alone : ℕ → ℕ → Type 0} (n n' : Net) (on : IsOnward c alone n n')
    (order : IsOrderly c n) (step : ℕ → ℕ → ℕ) (i p : ℕ) (e : Entry) (l : Letter)
    {Before After : Type 0}
    (keeps : is_locked (n.entry i p) ≡ true → is_locked (n'.entry i p) ≡ true → Before → After) where
  was_within : IsWithin step n' → IsWithin step n
  was_within within x y =
      let a = (on.grows x y).1 in let b = within x y in omega (arith, a, b)

  module _ (promised : IsPromised step n) (within : IsWithin step n')
      (a : IsAimed Before step i p e l n) where
    to_last : IsFreed n i p → IsLastAt i p e l
    to_last f =
        let it = a.only (Loose 0) f.letter (ap (λ v. slice_get v 0) f.loose) tt f.dest
        (last_about (n.entry i p) f.letter p f.last) in
        record {
          dest = ap (λ (v : Letter). v.dest) (sym it.0) ∙ f.dest;
          asker = ap (λ (v : Letter). v.message.origin) (sym it.0) ∙ f.asker;
          last = subst (λ v. IsLast e v p) it.0 (same_last (n.entry i p) e f.letter p it.1 f.last);
        }

    entry_on : (b : Place) (k : Letter) → IsAt n b k → k ≡ l → IsSameButWord (n.entry i p) e
        → ((b ≢ Loose 0) ⊎ ((y q : ℕ) → n'.entry y q ≡ n.entry y q))
        → IsSameButWord (n'.entry i p) e
    entry_on b k at it was how = elim (on.entries i p) [
      | inl same ↦ (λ w. ap (λ v. joined_by v w) same ∙ was w)
      | inr more ↦ elim more [
        | inl first ↦ elim how [
          | inr same ↦ (λ w. ap (λ v. joined_by v w) (same i p) ∙ was w)
          | inl ne ↦ absurd (
              let one = a.only (Loose 0) first.0 first.1 tt first.2 first.3 in
              ne (order.one_letter b (Loose 0) k first.0 at first.1
              (ap key_of (it ∙ sym one.0)))
              )
        ]
        | inr unserved ↦ elim unserved.1 [
          | inl free ↦ absurd (both_ways (is_locked (n.entry i p)) free a.shut)
          | inr joined ↦ (λ w.
              ap (λ v. joined_by v w) joined.1 ∙ joined_again (n.entry i p) joined.0 w ∙ was w)
        ]
      ]
    ]

    only_on : is_locked (n'.entry i p) ≡ true → (b : Place) (k : Letter) → IsAt n' b k
        → IsDue step b → k.dest ≡ i → page_of k.message.content ≡ p
        → (k ≡ l) × IsSameButWord (n'.entry i p) e
    only_on shut b k at soon to about = elim (on.dues step promised within b k at soon) [
      | inl h ↦ (
          let one = a.only h.0 k h.1 h.2 to about in (one.0, entry_on h.0 k h.1 one.0 one.1 h.3)
          )
      | inr f ↦ absurd (
          both_ways (is_locked (n'.entry i p))
          (ap (λ v. is_locked (n'.entry v p)) (sym to)
          ∙ ap (λ q. is_locked (n'.entry k.dest q)) (sym about) ∙ f.1) shut
          )
    ]

    aimed_on : is_locked (n'.entry i p) ≡ true → IsAimed After step i p e l n'
    aimed_on shut = record {
      shut = shut;
      only = only_on shut;
      holds = keeps a.shut shut a.holds;
    }

  pub followed_on : IsFollowed Before step i p e l n → IsFollowed After step i p e l n'
  followed_on h = record {
    promised = λ x y. (let a = (on.grows x y).0 in let b = h.promised x y in omega (arith, a, b));
    aims = λ within. elim (h.aims (was_within within)) [
      | inr last ↦ inr last
      | inl a ↦ elim (on.locks i p a.shut) [
        | inr f ↦ inr (to_last h.promised within a f)
        | inl shut ↦ inl (aimed_on h.promised within a shut)
      ]
    ];
  }
