-- How many parcels go to a node: what they make of its numbers, and the number of each one's frame.
use Rattle.std.proofs.Common.{◌≡◌, ◌≢◌, ℕ, zero, suc, ◌+◌, ◌-◌, ◌^◌, ◌<◌, ◌≤◌, ◌==◌, List, [], ◌∷◌}
use Rattle.std.proofs.Common.{length, get_or, take, All, refl, sym, ap, ◌∙◌, arith, inl, inr, Some}
use Rattle.std.proofs.Common.{Bool, true, false, ◌&&◌, nat_lt, if◌then◌else◌}
use Rattle.std.proofs.lemmas.Bool.{cases_eq, cases_lt, cases_Bool, and_parts, eq-eqb, ne_eqb}
use Rattle.std.proofs.lemmas.Bool.Decides.{nat_tests}
use Rattle.std.proofs.lemmas.List.{get_or-set_other, get_or-take, length-set, length-take}
use Rattle.std.proofs.lemmas.List.Sums.{sum_by-cons, sum_by-take-le, count_by-le-length, count_by_more_yes, count_by_more_no}
use Rattle.std.proofs.lemmas.Grind.{get_or-set_at}
use Rattle.std.proofs.Math.ListN.{set}
use Rattle.std.specs.List.{slice_get}
use Rattle.ivy_wire.specs.stated.Data.{Parcel}
use Rattle.ivy_link.specs.stated.Linked.{Linked, peer_at, with_message, sent_one, after_sends, frame_of, frames_of, has_numbers, AreWithin}
use Rattle.ivy_link.specs.Sides.{Sided, side_at, count_to}
use Rattle.ivy_link.proofs.Peers.{at-with, IsAfter, sends-after, within-head, within-rest}

abbrev one_if : Bool → ℕ
one_if b = if b then 1 else 0

pub count-here : (p : Parcel) (ps : List Parcel) (j : ℕ) → p.dest ≡ j
    → count_to (p ∷ ps) j ≡ count_to ps j + 1
count-here p ps j e =
    let one : one_if (p.dest == j) ≡ 1 = ap one_if (eq-eqb p.dest j e) in
    omega (arith, one, sum_by-cons (λ q. one_if (q.dest == j)) p ps)

pub count_other : (p : Parcel) (ps : List Parcel) (j : ℕ) → p.dest ≢ j
    → count_to (p ∷ ps) j ≡ count_to ps j
count_other p ps j ne =
    let none : one_if (p.dest == j) ≡ 0 = ap one_if (ne_eqb p.dest j ne) in
    omega (arith, none, sum_by-cons (λ q. one_if (q.dest == j)) p ps)

-- no more go to a node than there are
pub counted_few : (ps : List Parcel) (j : ℕ) → count_to ps j ≤ length ps
counted_few ps j = count_by-le-length (λ p. p.dest == j) ps

-- one parcel sent: a number more was used, and a parcel fewer is to come
sent-shift : (l : Linked) (p : Parcel) (ps : List Parcel) (j : ℕ) → p.dest < length l.peers
    → (peer_at (sent_one l p) j).sent + count_to ps j ≡ (peer_at l j).sent + count_to (p ∷ ps) j
sent-shift l p ps j lt =
    at-with (λ q. q.sent + count_to ps j ≡ (peer_at l j).sent + count_to (p ∷ ps) j) l p.dest j
    (with_message (peer_at l p.dest) p.message) lt
    (λ e.
    let same : (peer_at l j).sent ≡ (peer_at l p.dest).sent = ap (λ k. (peer_at l k).sent) e in
    omega (arith, same, count-here p ps j (sym e)))
    (λ ne. omega (arith, count_other p ps j (λ e. ne (sym e))))

pub sent-count : (l : Linked) (ps : List Parcel) → AreWithin l ps → (j : ℕ)
    → (peer_at (after_sends l ps) j).sent ≡ (peer_at l j).sent + count_to ps j
sent-count l [] within j = omega arith
sent-count l (p ∷ ps) within j =
    sent-count (sent_one l p) ps (within-rest l p ps within) j
    ∙ sent-shift l p ps j (within-head l p ps within)

pub has-number : (l : Linked) (p : Parcel) (ps : List Parcel) → has_numbers l (p ∷ ps) ≡ true
    → ((peer_at l p.dest).sent + 1 < 2 ^ 64) × (has_numbers (sent_one l p) ps ≡ true)
has-number l p ps all =
    let both : (nat_lt (peer_at l p.dest).sent (2 ^ 64 - 1) ≡ true)
    × (has_numbers (sent_one l p) ps ≡ true) =
    and_parts (nat_lt (peer_at l p.dest).sent (2 ^ 64 - 1)) (has_numbers (sent_one l p) ps)
    all in
    let number : (peer_at l p.dest).sent + 1 < 2 ^ 64 = grind (arith, nat_tests, both.0) in
    (number, both.1)

-- there are numbers exactly if there are enough at each node
pub numbers-all : (l : Linked) (ps : List Parcel) → AreWithin l ps
    → All (λ p. (peer_at l p.dest).sent + count_to ps p.dest < 2 ^ 64) ps → has_numbers l ps ≡ true
numbers-all l [] within all = refl
numbers-all l (p ∷ ps) within all =
    let first : (peer_at l p.dest).sent + count_to (p ∷ ps) p.dest < 2 ^ 64 =
    all 0 p (omega arith) in
    let there : nat_lt (peer_at l p.dest).sent (2 ^ 64 - 1) ≡ true =
    grind (arith, nat_tests, first, count-here p ps p.dest refl) in
    let rest : All (λ q. (peer_at (sent_one l p) q.dest).sent + count_to ps q.dest < 2 ^ 64) ps =
    λ k d inside.
    let few : (peer_at l (get_or ps k d).dest).sent + count_to (p ∷ ps) (get_or ps k d).dest
    < 2 ^ 64 = all (suc k) d (omega arith) in
    omega (arith, few, sent-shift l p ps (get_or ps k d).dest (within-head l p ps within)) in
    ap (λ b. b && has_numbers (sent_one l p) ps) there
    ∙ numbers-all (sent_one l p) ps (within-rest l p ps within) rest

pub numbers-within : (l : Linked) (ps : List Parcel) → AreWithin l ps → has_numbers l ps ≡ true
    → (j : ℕ) → 1 ≤ count_to ps j → (peer_at l j).sent + count_to ps j < 2 ^ 64
numbers-within l [] within all j some = absurd (omega (arith, some))
numbers-within l (p ∷ ps) within all j some =
    let both : ((peer_at l p.dest).sent + 1 < 2 ^ 64) × (has_numbers (sent_one l p) ps ≡ true) =
    has-number l p ps all in
    elim (cases_lt 0 (count_to ps j)) [
      | inl more ↦
          omega (
            arith,
            numbers-within (sent_one l p) ps (within-rest l p ps within) both.1 j
                (omega (arith, more)),
            sent-shift l p ps j (within-head l p ps within),
          )
      | inr none ↦
          elim (cases_eq p.dest j) [
            | inl e ↦
                omega (arith, both.0, none, count-here p ps j e, ap (λ k. (peer_at l k).sent) e)
            | inr ne ↦ absurd (omega (arith, some, none, count_other p ps j ne))
          ]
    ]

pub numbers-spent : (l : Linked) (ps : List Parcel) → AreWithin l ps → (j : ℕ) → 1 ≤ count_to ps j
    → 2 ^ 64 ≤ (peer_at l j).sent + count_to ps j → has_numbers l ps ≡ false
numbers-spent l ps within j some spent =
    elim (cases_Bool (has_numbers l ps)) [
      | inl all ↦
          absurd (omega (arith, spent, numbers-within l ps within all j some))
      | inr none ↦ none
    ]

-- one parcel more is looked at
pub count-on : (ps : List Parcel) (i : ℕ) (p : Parcel) → i < length ps → p ≡ get_or ps i p
    → count_to (take (i + 1) ps) p.dest ≡ count_to (take i ps) p.dest + 1
count-on ps i p lt read =
    count_by_more_yes (λ q. q.dest == p.dest) ps i p lt
    (eq-eqb (get_or ps i p).dest p.dest (ap (λ (q : Parcel). q.dest) (sym read)))

pub count-past : (ps : List Parcel) (i : ℕ) (p : Parcel) → i < length ps → p ≡ get_or ps i p
    → (j : ℕ) → p.dest ≢ j → count_to (take (i + 1) ps) j ≡ count_to (take i ps) j
count-past ps i p lt read j ne =
    let apart : (get_or ps i p).dest ≢ j =
    λ e. ne (ap (λ (q : Parcel). q.dest) read ∙ e) in
    count_by_more_no (λ q. q.dest == j) ps i p lt (ne_eqb (get_or ps i p).dest j apart)

-- a parcel is not among the earlier ones
pub count-part : (ps : List Parcel) (i : ℕ) (p : Parcel) → i < length ps → p ≡ get_or ps i p
    → count_to (take i ps) p.dest + 1 ≤ count_to ps p.dest
count-part ps i p lt read =
    let part : count_to (take (i + 1) ps) p.dest ≤ count_to ps p.dest =
    sum_by-take-le (λ q. one_if (q.dest == p.dest)) ps (i + 1) in
    omega (arith, count-on ps i p lt read, part)

-- the frame of one of the parcels
frame-there : (l : Linked) (ps : List Parcel) (i : ℕ) (p : Parcel) → i < length ps
    → p ≡ get_or ps i p
    → slice_get (frames_of l ps) i ≡ Some (frame_of (after_sends l (take i ps)) p)
frame-there l [] i p lt read = absurd (omega (arith, lt))
frame-there l (q ∷ ps) zero p lt read = ap (λ r. Some (frame_of l r)) (sym read)
frame-there l (q ∷ ps) (suc i) p lt read =
    frame-there (sent_one l q) ps i p (omega (arith, lt)) read

within-take : (l : Linked) (ps : List Parcel) (i : ℕ) → AreWithin l ps → AreWithin l (take i ps)
within-take l ps i within k d lt =
    rw (get_or-take i ps k d (omega (arith, length-take i ps)))
    (within k d (omega (arith, length-take i ps)))

pub frame_at : (l : Linked) (ps : List Parcel) (i : ℕ) (p : Parcel) → AreWithin l ps → i < length ps
    → p ≡ get_or ps i p
    → slice_get (frames_of l ps) i
    ≡ Some (record {
      source = l.me;
      dest = p.dest;
      number = (peer_at l p.dest).sent + count_to (take i ps) p.dest + 1;
      ack = (peer_at l p.dest).delivered;
      body = Some p.message;
    })
frame_at l ps i p within lt read =
    let now : Linked = after_sends l (take i ps) in
    let after : IsAfter l now = sends-after l (take i ps) (within-take l ps i within) in
    let count : (peer_at now p.dest).sent ≡ (peer_at l p.dest).sent + count_to (take i ps) p.dest =
    sent-count l (take i ps) (within-take l ps i within) p.dest in
    frame-there l ps i p lt read
    ∙ (ap (λ m. Some
    (record {
      source = m;
      dest = p.dest;
      number = (peer_at now p.dest).sent + 1;
      ack = (peer_at now p.dest).delivered;
      body = Some p.message;
    })) after.me
    ∙ (ap (λ k. Some
    (record {
      source = l.me;
      dest = p.dest;
      number = k + 1;
      ack = (peer_at now p.dest).delivered;
      body = Some p.message;
    })) count
    ∙ ap (λ a. Some
    (record {
      source = l.me;
      dest = p.dest;
      number = (peer_at l p.dest).sent + count_to (take i ps) p.dest + 1;
      ack = a;
      body = Some p.message;
    })) (after.delivered p.dest)))

-- room made at the node of one more parcel
pub room-more : (sides : List Sided) (ps : List Parcel) (i n : ℕ) (p : Parcel) (new : Sided)
    → i < length ps → p ≡ get_or ps i p → n ≡ p.dest → n < length sides
    → count_to ps p.dest ≤ new.room
    → ((j : ℕ) → j < length sides → 1 ≤ count_to (take i ps) j
    → count_to ps j ≤ (side_at sides j).room) → (j : ℕ) → j < length (set sides n new)
    → 1 ≤ count_to (take (i + 1) ps) j → count_to ps j ≤ (side_at (set sides n new) j).room
room-more sides ps i n p new lt read here inside room before j below some =
    elim (cases_eq j n) [
      | inl e ↦
          rw (get_or-set_at sides n j new (side_at [] 0) e inside)
          (omega (arith, room, ap (count_to ps) (e ∙ here)))
      | inr ne ↦
          let same : count_to (take (i + 1) ps) j ≡ count_to (take i ps) j =
          count-past ps i p lt read j (λ d. ne (sym (here ∙ d))) in
          rw (get_or-set_other sides n j new (side_at [] 0) ne)
          (before j (omega (arith, below, length-set sides n new)) (omega (arith, some, same)))
    ]

pub room-none : (ps : List Parcel) (j room : ℕ) → (1 ≤ count_to ps j → count_to ps j ≤ room)
    → count_to ps j ≤ room
room-none ps j room some =
    elim (cases_lt 0 (count_to ps j)) [
      | inl lt ↦ some (omega (arith, lt))
      | inr none ↦
          omega (arith, none)
    ]
