-- Steps at which no request is new and no answer is posted: letters are taken or put off, bytes are
-- installed.
use Rattle.std.proofs.Common.{◌≡◌, ◌⊎◌, ◌≤◌, ◌+◌, ℕ, zero, suc, Bool, true, false, List, [], ◌∷◌, ◌++◌, length, slice_get, Some, refl, sym, ap, ◌∙◌, subst, inl, inr, arith, if◌then◌else◌, ◌==◌, ◌&&◌}
use Rattle.std.proofs.lemmas.Option.{same_Some, none-some}
use Rattle.ivy_wire.specs.declared.Content.TheVariants as content
use Rattle.ivy_wire.specs.stated.Data.{Message}
use Rattle.ivy_pagetable.specs.declared.Entry.{Entry}
use Rattle.ivy_pagetable.specs.declared.Entry.TheVariants as entry
use Rattle.ivy_pagetable.specs.declared.PutOff.{PutOff}
use Rattle.ivy_pagetable.specs.declared.Request.{Request}
use Rattle.ivy_pagetable.specs.declared.Request.TheVariants as request
use Rattle.ivy_pagetable.specs.stated.Entries.{put_offs, can_put_off, with_put_off}
use Rattle.proof_table.specs.stated.Letters.{Letter, Net, Place, Underway, Aside, Loose, content_of, letter_of, IsAt}
use Rattle.proof_table.specs.transitions.Letters.{goes_on, installs}
use Rattle.proof_table.specs.transitions.TableSteps.{letter, taken}
use Rattle.proof_table.proofs.transitions.Places.{get_append, served, written_here}
use Rattle.proof_table.proofs.transitions.Parcels.{IsThe, rest_told, is_step}
use Rattle.proof_table.proofs.transitions.NetSteps.{IsStep}
use Rattle.proof_table.proofs.routing.Asked.{AreOld, part_old, asked_or_new, AreReaders, all_readers, sent_either}
use Rattle.proof_table.proofs.routing.Remaining.{IsThere, StaysPutOff, get_first, get_second}
use Rattle.proof_table.specs.routing.Claiming.{getting}

-- each letter is one of the net before
pub installs_letters : (n : Net) (x p : ℕ) (bytes : List ℕ) (a : Place) (l : Letter)
    → IsAt (installs n x p bytes) a l → (b : Place) × IsAt n b l
installs_letters n x p bytes (Underway i j k) l at = (Underway i j k, at)
installs_letters n x p bytes (Aside i q k) l at = (Aside i q k, at)
installs_letters n x p bytes (Loose k) l at = (Loose k, at)

more_to : (b : Bool) (d k : ℕ) → (if b then d + 1 else d) ≤ k → d ≤ k
more_to true d k le = omega (arith, le)
more_to false d k le = le

pub taken_letters : (n : Net) (s x : ℕ) (m : Message)
    → slice_get (n.posted s x) (n.delivered s x) ≡ Some m
    → (a : Place) (l : Letter) → IsAt (taken n s x m) a l → (b : Place) × IsAt n b l
taken_letters n s x m first (Underway i j k) l at =
    (Underway i j k, (more_to (i == s && j == x) (n.delivered i j) k at.0, at.1, at.2, at.3))
taken_letters n s x m first (Aside i q k) l at = (Aside i q k, at)
taken_letters n s x m first (Loose zero) l at = (
  Underway s x (n.delivered s x),
  subst (IsAt n (Underway s x (n.delivered s x))) (same_Some _ l at)
      (omega arith, first, refl, refl),
)
taken_letters n s x m first (Loose (suc k)) l at = absurd (none-some l at)

pub installs_old : (n : Net) (x p : ℕ) (bytes : List ℕ) → AreOld n (installs n x p bytes)
installs_old n x p bytes = part_old n (installs n x p bytes) (installs_letters n x p bytes)

pub taken_old : (n : Net) (s x : ℕ) (m : Message)
    → slice_get (n.posted s x) (n.delivered s x) ≡ Some m → AreOld n (taken n s x m)
taken_old n s x m first = part_old n (taken n s x m) (taken_letters n s x m first)

put_last : (e : Entry) (q : PutOff) → can_put_off e ≡ true
    → put_offs (with_put_off e q) ≡ put_offs e ++ q ∷ []
put_last (entry.Idle s) q h = absurd (let f : false ≡ true = h in cc)
put_last (entry.AwaitRead s) q h = refl
put_last (entry.AwaitWrite s) q h = refl
put_last (entry.AwaitAcks s) q h = refl

-- what was put off stays so, and one more is put off
pub put_off_stays : (e : Entry) (r : PutOff) → can_put_off e ≡ true
    → StaysPutOff e (with_put_off e r)
put_off_stays e r room j q h =
    ap (λ v. slice_get v j) (put_last e r room) ∙ get_first (put_offs e) (r ∷ []) q j h

pub put_off_there : (n : Net) (x p : ℕ) (r : PutOff) (e : Entry) (rest : List Letter)
    → can_put_off e ≡ true → IsThere (goes_on n x p (with_put_off e r) rest []) (letter_of x p r)
put_off_there n x p r e rest room = (
  Aside x p (length (put_offs e) + 0),
  (
    r,
    ap (λ y. slice_get (put_offs y) (length (put_offs e) + 0))
        (written_here n.entry x p (with_put_off e r) x p refl refl)
        ∙ ap (λ v. slice_get v (length (put_offs e) + 0)) (put_last e r room)
        ∙ get_second (put_offs e) (r ∷ []) 0 (length (put_offs e) + 0) refl,
    refl,
  ),
)

-- what is put off is no copy
put_uncopied : (k : Request) (p q : ℕ) (bytes : List ℕ) → content_of k p ≡ content.ReadRep q bytes
    → ⊥
put_uncopied request.Read p q bytes h = cc
put_uncopied request.Write p q bytes h = cc
put_uncopied request.Invalidate p q bytes h = cc

-- a message is put off: it stays at its node
module _ (n : Net) (x p from : ℕ) (q : PutOff) (e : Entry) (rest : List Letter)
    (loose : n.loose ≡ letter from x q.origin q.call (content_of q.kind p) ∷ rest)
    (is : n.entry x p ≡ e) (room : can_put_off e ≡ true) where
  last : (k j : ℕ) (r : PutOff) → k ≡ length (put_offs e) + j → slice_get (q ∷ []) j ≡ Some r
      → (k ≡ length (put_offs e)) × (r ≡ q)
  last k zero r a b = (omega (arith, a), sym (same_Some q r b))
  last k (suc j) r a b = absurd (none-some r b)

  either : (k : ℕ) (r : PutOff) → slice_get (put_offs (with_put_off e q)) k ≡ Some r
      → (slice_get (put_offs e) k ≡ Some r) ⊎ ((k ≡ length (put_offs e)) × (r ≡ q))
  either k r h =
      elim (get_append (put_offs e) (q ∷ []) r k
      (ap (λ v. slice_get v k) (sym (put_last e q room)) ∙ h)) [
        | inl y ↦ inl y
        | inr y ↦
            inr (last k y.0 r y.1 y.2)
      ]

  pub put_off_step : IsStep n (goes_on n x p (with_put_off e q) rest []) x p e (with_put_off e q)
      served (IsThe (Aside x p (length (put_offs e))) (letter_of x p q))
  put_off_step =
      is_step n x p e (with_put_off e q) rest [] served
      (IsThe (Aside x p (length (put_offs e))) (letter_of x p q)) is (record {
        underway = λ i j k. refl;
        elsewhere = λ i r k other. refl;
        aside = λ k r h. elim (either k r h) [
          | inl y ↦
              inl (Aside x p k, (r, ap (λ v. slice_get (put_offs v) k) is ∙ y, refl), refl, λ b. cc)
          | inr y ↦ inr (ap (Aside x p) y.0, ap (letter_of x p) y.1)
        ];
        loose = rest_told n x p e (with_put_off e q)
            (letter from x q.origin q.call (content_of q.kind p)) rest loose;
        posts = λ i j k m h. absurd (none-some m h);
      })

  pub put_off_old : AreOld n (goes_on n x p (with_put_off e q) rest [])
  put_off_old = record {
    asked = λ body request o y k.
        elim (asked_or_new n (goes_on n x p (with_put_off e q) rest []) x p e (with_put_off e q)
        served (Aside x p (length (put_offs e))) (letter_of x p q) put_off_step body o y k) [
          | inl h ↦ h.was
          | inr h ↦ record {
            at = Loose 0;
            letter = letter from x q.origin q.call (content_of q.kind p);
            there = ap (λ v. slice_get v 0) loose;
            dest = h.0;
            asker = h.1;
            asks = h.2;
          }
        ];
  }

  pub put_off_readers : AreReaders n (goes_on n x p (with_put_off e q) rest [])
  put_off_readers =
      all_readers n (goes_on n x p (with_put_off e q) rest []) put_off_old
      (λ v s y k.
      elim (sent_either n (goes_on n x p (with_put_off e q) rest []) x p e (with_put_off e q) served
      (IsThe (Aside x p (length (put_offs e))) (letter_of x p q)) put_off_step v s y k) [
        | inl h ↦ getting h
        | inr h ↦
            absurd (put_uncopied q.kind p v h.2
            (ap (λ (l : Letter). l.message.content) (sym h.3.1) ∙ h.6))
      ])
