-- Drawn moves: what a generator's next words make of the strings that were sent.
use Rattle.std.specs.Prelude.{ℕ, ◌+◌, ◌-◌, ◌%◌, List, length, min, nat_lt, slice_get, Option, Some, None, if◌then◌else◌}
use Rattle.rand_core.specs.Pcg32Seed.{pcg32_seed}
use Rattle.rand_pcg.specs.Lcg.{Lcg}
use Rattle.rand_pcg.specs.Pcg.{pcg32, pcg32_of_seed}
use Rattle.ivy_wire.specs.stated.DecodeErrors.{dest_at}
use Rattle.ivy_moves.specs.declared.Move.{Move}
use Rattle.ivy_moves.specs.declared.Move.TheVariants.{Turn, Deliver, Pulse}

-- the generator of a seed, whose sixteen bytes are made of the number as Rust's `seed_from_u64`
-- does
abbrev pub seeded : ℕ → Lcg
seeded seed = pcg32_of_seed (pcg32_seed 16 seed)

-- the next word of a generator, and the generator after it
abbrev pub word_of : Lcg → ℕ
word_of g = (pcg32 g).0

abbrev pub after_word : Lcg → Lcg
after_word g = (pcg32 g).1

-- how far back a delivery reaches
abbrev pub reach : ℕ
reach = 64

-- the string that stands y mod 64 before the last, or fewer where there are not so many
abbrev pub index_back : ℕ → ℕ → ℕ
index_back sent y = sent - 1 - y % min sent reach

-- the string goes to its destination; where none is there, a node makes a turn
abbrev pub drawn_delivery : ℕ → ℕ → ℕ → Option (List ℕ) → Move
drawn_delivery nodes y index (Some string) = Deliver index (dest_at string)
drawn_delivery nodes y index None = Turn (y % nodes)

-- the delivery that a word draws, of one of the last strings
abbrev pub delivery : ℕ → List (List ℕ) → ℕ → Move
delivery nodes sent y =
    let index = index_back (length sent) y in
    drawn_delivery nodes y index (slice_get sent index)

-- the node at a place among all but this one
abbrev pub other_at : ℕ → ℕ → ℕ
other_at node place = if nat_lt place node then place else place + 1

-- the pulse that two words draw, from one node to another
abbrev pub pulse : ℕ → ℕ → ℕ → Move
pulse nodes y z = Pulse (y % nodes) (other_at (y % nodes) (z % (nodes - 1)))

-- the move of two words, with the generator after them; of a pulse the generator gives a third
abbrev pub drawn_by : ℕ → List (List ℕ) → ℕ → ℕ → Lcg → Move × Lcg
drawn_by nodes sent x y g =
    if nat_lt (x % 8) 4
    then (Turn (y % nodes), g)
    else if nat_lt (x % 8) 7
    then (delivery nodes sent y, g)
    else (pulse nodes y (word_of g), after_word g)

-- the move that a generator draws, and the generator after it
unfoldable pub drawn : ℕ → List (List ℕ) → Lcg → Move × Lcg
drawn nodes sent g =
    drawn_by nodes sent (word_of g) (word_of (after_word g)) (after_word (after_word g))
