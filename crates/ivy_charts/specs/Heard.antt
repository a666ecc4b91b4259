-- What a string is to the node that it comes to, and which messages are served then.
use Rattle.std.specs.Prelude.{◌≡◌, ℕ, ◌+◌, ◌<◌, ◌≤◌, ◌==◌, ◌&&◌, List, [], ◌∷◌, ◌++◌, length, slice_get, Option, Some, None, if◌then◌else◌}
use Rattle.ivy_link.specs.declared.Verdict.{Verdict}
use Rattle.ivy_link.specs.declared.Verdict.TheVariants.{NotMine}
use Rattle.ivy_link.specs.stated.Accepted.{verdict_on}
use Rattle.ivy_link.specs.stated.LinkLimits.{most_ahead}
use Rattle.ivy_charts.specs.declared.head.RunHead.{RunHead}
use Rattle.ivy_charts.specs.declared.receivers.Delivered.{Delivered}
use Rattle.ivy_charts.specs.declared.receivers.Held.{Held}
use Rattle.ivy_charts.specs.declared.receivers.Receivers.{Receivers}

-- how many messages of a node were delivered to another, by what is noted of pairs
abbrev pub noted : List Delivered → ℕ → ℕ → ℕ
noted [] to source = 0
noted (d ∷ ds) to source = if d.to == to && d.source == source then d.count else noted ds to source

-- the place of the string of this number, among those that are held
abbrev pub kept : List Held → ℕ → ℕ → ℕ → Option ℕ
kept [] to source number = None
kept (h ∷ hs) to source number =
    if (h.to == to && h.source == source) && h.number == number
    then Some h.place else kept hs to source number

abbrev pub delivered_of : Receivers → ℕ → ℕ → ℕ
delivered_of r to source = noted r.delivered.items to source

abbrev pub held_of : Receivers → ℕ → ℕ → ℕ → Option ℕ
held_of r to source number = kept r.held.items to source number

-- by the rule of the link
abbrev pub verdict_of : Receivers → ℕ → RunHead → Verdict
verdict_of r to h =
    if h.dest == to then verdict_on (delivered_of r to h.source) h.number else NotMine

-- the places of all strings that are held of the numbers after one, up to the first that is missing
pub record IsRunAfter (r : Receivers) (to source number : ℕ) (places : List ℕ) : Type 0 where
  pub each : (i : ℕ) → i < length places → held_of r to source (number + i + 1) ≡ slice_get places i
  pub most : length places ≤ most_ahead
  pub whole : length places < most_ahead → held_of r to source (number + length places + 1) ≡ None

-- these were added to what was served: all strings that are held of the numbers after one, up to the
-- last
abbrev pub Follows : Receivers → ℕ → ℕ → ℕ → ℕ → List ℕ → List ℕ → Type 0
Follows r to source number last was now = (more : List ℕ) × (now ≡ was ++ more)
    × (last ≡ number + length more) × IsRunAfter r to source number more

-- and these: the string at a place, and all that are held of the numbers after its own
abbrev pub Serves : Receivers → ℕ → ℕ → RunHead → List ℕ → List ℕ → Type 0
Serves r to place h was now = (more : List ℕ) × (now ≡ was ++ place ∷ more)
    × IsRunAfter r to h.source h.number more
