-- What holds of all spellings.
use Rattle.std.specs.Prelude.{◌≡◌, ℕ, List, [], ◌++◌}
use Rattle.ivy_model.specs.declared.Config.{Config}
use Rattle.ivy_model.specs.stated.Config.{IsConfig}
use Rattle.ivy_wire.specs.stated.Data.{Frame}
use Rattle.ivy_wire.specs.stated.Spelling.{Fits, Spells}

-- a frame that fits has one spelling
abbrev pub HasOneSpelling : Type 0
HasOneSpelling = (c : Config) (f : Frame) → Fits c f
    → (bytes : List ℕ) × Spells c f bytes × ((other : List ℕ) → Spells c f other → other ≡ bytes)

-- a string spells at most one frame
abbrev pub SpellsAtMostOne : Type 0
SpellsAtMostOne = (c : Config) (f g : Frame) (bytes : List ℕ) → IsConfig c → Spells c f bytes
    → Spells c g bytes → f ≡ g

-- no spelling begins another
abbrev pub NoneBeginsAnother : Type 0
NoneBeginsAnother = (c : Config) (f g : Frame) (bytes more : List ℕ) → IsConfig c
    → Spells c f bytes → Spells c g (bytes ++ more) → (more ≡ []) × (f ≡ g)
