-- Room for a block, as the free extents show it.
use Rattle.std.proofs.Common.{◌≡◌, ℕ, ◌+◌, ◌-◌, ◌<◌, ◌≤◌, inl, inr, get_or, List, length, sym, subst, ap, arith}
use Rattle.std.specs.List.{All}
use Rattle.std.proofs.lemmas.Bool.{cases_lt, cases_order}
use Rattle.std.proofs.lemmas.List.{get_or_default}
use Rattle.ivy_model.specs.declared.config.Config.{Config}
use Rattle.ivy_model.specs.stated.Config.{heap_end}
use Rattle.ivy_model.specs.stated.Memory.{Blocks}
use Rattle.ivy_model.specs.stated.Serves.{IsLeast, IsRoom, rounded}
use Rattle.ivy_alloc.specs.declared.extent.Extent.{Extent}
use Rattle.ivy_alloc.specs.Extents.{Has, IsFirstFit, IsFree, extent_end}
use Rattle.ivy_alloc.specs.Tied.{IsInBlock, IsTied}

-- no block has an address of the room
room_not_taken : (c : Config) (m : Blocks) (n a x : ℕ) → IsRoom c m n a → a ≤ x → x < a + n
    → IsInBlock m x → ⊥
room_not_taken c m n a x room from to taken =
    let above = taken.from in
    let below = taken.to in
    room.apart taken.start taken.len taken.live (omega arith) (omega arith)

pub room_free : (c : Config) (es : List Extent) (m : Blocks) (n a x : ℕ) → IsTied c es m
    → IsRoom c m n a → a ≤ x → x < a + n → IsFree es x
room_free c es m n a x tied room from to =
    let above = room.above in
    let below = room.below in
    tied.free x (omega arith) (omega arith) (room_not_taken c m n a x room from to)

-- the extent at the place has all of the room
record Holds (es : List Extent) (n a place : ℕ) : Type 0 where
  within : place < length es
  from : (d : Extent) → (get_or es place d).start ≤ a
  to : (d : Extent) → a + n ≤ extent_end (get_or es place d)

-- the first address of the room lies in an extent; if that ended in the room, its end would be free
-- too
room_held : (c : Config) (es : List Extent) (m : Blocks) (n a : ℕ) → IsTied c es m → 0 < n
    → IsRoom c m n a → (place : ℕ) × Holds es n a place
room_held c es m n a tied some room =
    let first = room_free c es m n a a tied room (omega arith) (omega arith) in (
      first.place,
      record {
        within = first.within;
        from = λ d. (first.has d).0;
        to = λ d. elim (cases_lt (extent_end (get_or es first.place d)) (a + n)) [
          | inl short ↦
              let has = first.has d in
              let next =
              room_free c es m n a (extent_end (get_or es first.place d)) tied room
              (omega (arith, has.1)) short in
              let has_next = next.has d in
              let within = next.within in
              let within_first = first.within in
              elim (cases_order next.place first.place) [
                | inl e ↦
                    let same : extent_end (get_or es next.place d)
                    ≡ extent_end (get_or es first.place d) =
                    ap (λ k. extent_end (get_or es k d)) e in
                    absurd (omega (arith, has_next.1, same))
                | inr other ↦ elim other [
                  | inl b ↦ let gap = tied.sound.apart next.place first.place d b within_first in
                      absurd (omega (arith, gap, has_next.1))
                  | inr f ↦ let gap = tied.sound.apart first.place next.place d f within in
                      absurd (omega (arith, gap, has_next.0))
                ]
              ]
          | inr fits ↦ fits
        ];
      },
    )

-- a block that starts with an extent and fits it has room
room_at_front : (c : Config) (es : List Extent) (m : Blocks) (n place : ℕ) (d : Extent)
    → IsTied c es m → place < length es → n ≤ (get_or es place d).len
    → IsRoom c m n (get_or es place d).start
room_at_front c es m n place d tied within fits =
    let x : Extent = get_or es place d in
    let sound = tied.sound.each place d within in
    let some = sound.not_empty in
    let free : (a : ℕ) → x.start ≤ a → a < extent_end x → IsFree es a =
    λ a from to.
    record {
      place = place;
      within = within;
      has = λ e. subst (Has a) (get_or_default es place d e within) (from, to);
    } in
    let above = tied.above x.start (free x.start (omega arith) (omega arith)) in
    let below =
    tied.below (extent_end x - 1) (free (extent_end x - 1) (omega arith) (omega arith)) in
    record {
      aligned = sound.aligned;
      above = above;
      below = omega arith;
      apart = λ start len live before after.
          let block = tied.apart.each start len live in
          let bytes = block.not_empty in
          elim (cases_lt x.start start) [
            | inl b ↦
                tied.not_taken start (free start (omega arith) (omega arith))
                (record {
                  start = start;
                  len = len;
                  live = live;
                  from = omega arith;
                  to = omega arith;
                })
            | inr f ↦
                tied.not_taken x.start (free x.start (omega arith) (omega arith))
                (record { start = start; len = len; live = live; from = f; to = before })
          ];
    }

pub least_room : (c : Config) (es : List Extent) (m : Blocks) (n place : ℕ) (d : Extent)
    → IsTied c es m → 0 < n → IsFirstFit es n place
    → IsLeast (IsRoom c m n) (get_or es place d).start
least_room c es m n place d tied some fit = record {
  holds = room_at_front c es m n place d tied fit.within (fit.fits d);
  least = λ a room.
      let held = room_held c es m n a tied some room in
      let from = held.1.from d in
      let to = held.1.to d in
      elim (cases_order place held.0) [
        | inl e ↦ subst (λ k. (get_or es k d).start ≤ a) (sym e) from
        | inr other ↦ elim other [
          | inl b ↦ let gap = tied.sound.apart place held.0 d b held.1.within in
              let bytes = (tied.sound.each place d fit.within).not_empty in omega arith
          | inr f ↦ let short = fit.first held.0 d f in absurd (omega arith)
        ]
      ];
}

pub no_room : (c : Config) (es : List Extent) (m : Blocks) (n : ℕ) (d : Extent) → IsTied c es m
    → 0 < n → All (λ e. e.len < n) es → (a : ℕ) → IsRoom c m n a → ⊥
no_room c es m n d tied some short a room =
    let held = room_held c es m n a tied some room in
    let from = held.1.from d in
    let to = held.1.to d in
    let len = short held.0 d held.1.within in
    omega arith

pub too_large : (c : Config) (m : Blocks) (size : ℕ) → heap_end c < size → (a : ℕ)
    → IsRoom c m (rounded size) a → ⊥
too_large c m size large a room = let below = room.below in omega arith
