-- What is noted of the strings that came: how many messages were delivered, and which strings are held.
use Rattle.std.specs.Prelude.{◌≡◌, ℕ, ◌+◌, ◌==◌, ◌&&◌, List, ◌∷◌, ◌++◌, length, nat_le, Option, Some, None, if◌then◌else◌}
use Rattle.std.specs.Option.{option_or}
use Rattle.ivy_link.specs.declared.Verdict.{Verdict}
use Rattle.ivy_link.specs.declared.Verdict.TheVariants.{Next, Ahead, Repeat, NotMine}
use Rattle.ivy_link.specs.stated.LinkLimits.{most_ahead}
use Rattle.ivy_charts.specs.declared.head.RunHead.{RunHead}
use Rattle.ivy_charts.specs.declared.receivers.Receivers.{Receivers}
use Rattle.ivy_charts.specs.Heard.{delivered_of, held_of}

-- nothing changes
pub record NotesTheSame (old new : Receivers) : Type 0 where
  pub delivered : new.delivered.items ≡ old.delivered.items
  pub held : new.held.items ≡ old.held.items

-- so many messages of a node were delivered to another, of whose strings none is held any more up to
-- that number; of other pairs of nodes nothing changes
pub record Delivers (to source count : ℕ) (old new : Receivers) : Type 0 where
  pub delivered : (t s : ℕ) → delivered_of new t s
      ≡ (if to == t && source == s then count else delivered_of old t s)
  pub held : (t s number : ℕ) → held_of new t s number
      ≡ (if (to == t && source == s) && nat_le number count then None else held_of old t s number)

-- the string of a frame is held, unless it is more than 32 numbers ahead, or another of its number is
abbrev pub held_too : ℕ → ℕ → RunHead → Receivers → ℕ → ℕ → ℕ → Option ℕ
held_too to place h old t s number =
    if nat_le h.number (delivered_of old to h.source + most_ahead)
    && ((to == t && h.source == s) && h.number == number)
    then Some place else None

pub record Holds (to place : ℕ) (h : RunHead) (old new : Receivers) : Type 0 where
  pub delivered : (t s : ℕ) → delivered_of new t s ≡ delivered_of old t s
  pub held : (t s number : ℕ) → held_of new t s number
      ≡ option_or (held_of old t s number) (held_too to place h old t s number)

-- what is noted of a string: where it is the next one, that it and those behind it that were served
-- were delivered; where it came before its turn, that it is held; else nothing
abbrev pub Hears : Verdict → ℕ → ℕ → RunHead → List ℕ → List ℕ → Receivers → Receivers → Type 0
Hears Next to place h was now old new = (more : List ℕ) × (now ≡ was ++ place ∷ more)
    × Delivers to h.source (h.number + length more) old new
Hears Ahead to place h was now old new = Holds to place h old new
Hears Repeat to place h was now old new = NotesTheSame old new
Hears NotMine to place h was now old new = NotesTheSame old new
