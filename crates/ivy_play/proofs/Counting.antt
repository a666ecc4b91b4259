-- How many moves a play has made.
use Rattle.std.proofs.Common.{◌≡◌, ℕ, ◌+◌, ◌-◌, ◌*◌, ◌<◌, ◌≤◌, Bool, true, false, List, [], length, max, replicate, refl, ap, ◌∙◌, arith, length-append}
use Rattle.std.proofs.lemmas.List.{length-replicate}
use Rattle.ivy_model.specs.declared.Config.{Config}
use Rattle.ivy_moves.specs.declared.Move.{Move}
use Rattle.ivy_moves.specs.declared.Move.TheVariants.{Turn}
use Rattle.ivy_play.specs.Played.{AddsTurns, HasDrawn}

-- none was made
pub none_drawn : (c : Config) (settle : ℕ) (moves : List Move) (drawn : ℕ) → moves ≡ [] → drawn ≡ 0
    → HasDrawn c settle moves drawn
none_drawn c settle moves drawn none zero =
    let long : length moves ≡ 0 = ap length none in
    record { within = omega (arith, long, zero); few = omega (arith, long) }

-- More were made, no more than one row has turns, where another could be made. So many are drawn then.
pub drawn_more : (c : Config) (settle : ℕ) (old new : List Move) (drawn then more : ℕ)
    (is_settling : Bool) → HasDrawn c settle old drawn → length new ≡ length old + more
    → 8 * more ≤ c.page_size → (is_settling ≡ true → length old - drawn < settle)
    → (is_settling ≡ true → then ≡ drawn) → (is_settling ≡ false → then ≡ length new)
    → HasDrawn c settle new then
drawn_more c settle old new drawn then more true h longer fits left stays is =
    let within = h.within in
    let few = h.few in
    let same = stays refl in
    let below = left refl in
    record { within = omega arith; few = omega arith }
drawn_more c settle old new drawn then more false h longer fits left stays is =
    let same = is refl in
    record { within = omega arith; few = omega arith }

-- one more was made
pub drawn_one : (c : Config) (settle : ℕ) (old new : List Move) (drawn then : ℕ) (is_settling : Bool)
    → HasDrawn c settle old drawn → length new ≡ length old + 1
    → (is_settling ≡ true → length old - drawn < settle) → (is_settling ≡ true → then ≡ drawn)
    → (is_settling ≡ false → then ≡ length new) → HasDrawn c settle new then
drawn_one c settle old new drawn then true h longer left stays is =
    let within = h.within in
    let few = h.few in
    let same = stays refl in
    let below = left refl in
    record { within = omega arith; few = omega arith }
drawn_one c settle old new drawn then false h longer left stays is =
    let same = is refl in
    record { within = omega arith; few = omega arith }

-- so many turns more
pub turns_longer : (node most : ℕ) (old new : List Move) (h : AddsTurns node most old new)
    → length new ≡ length old + h.count
turns_longer node most old new h =
    ap length h.added ∙ length-append old (replicate h.count (Turn node))
    ∙ ap (λ k. length old + k) (length-replicate h.count (Turn node))

-- all moves are drawn ones
pub all_drawn : (c : Config) (settle : ℕ) (moves : List Move) (drawn : ℕ) → drawn ≡ length moves
    → HasDrawn c settle moves drawn
all_drawn c settle moves drawn is = record { within = omega (arith, is); few = omega (arith, is) }

-- more were made to let the world settle, and no more than may be
pub drawn_settled : (c : Config) (settle : ℕ) (old new : List Move) (drawn : ℕ)
    → HasDrawn c settle old drawn → length old ≤ length new
    → length new ≤ max (length old) (drawn + settle) → HasDrawn c settle new drawn
drawn_settled c settle old new drawn h longer most =
    let within = h.within in
    let few = h.few in
    record { within = omega (arith, longer, within); few = omega (arith, most, few) }
