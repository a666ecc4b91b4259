-- The page table of a node of any configuration, as the definitions see it.
use Rattle.std.specs.Prelude.{ℕ, ◌<◌, length}
use Rattle.ivy_model.specs.stated.Limits.{most_pages}
use Rattle.ivy_pagetable.specs.declared.node_table.Either.{Either}
use Rattle.ivy_pagetable.specs.declared.node_table.Either.TheVariants as either
use Rattle.ivy_pagetable.specs.stated.TableState.{Table}
use Rattle.ivy_pagetable.specs.stated.Tables.{IsBlank}

abbrev pub either_table : {A : Type 0} → Either A → Table
either_table (either.Narrow t) = t
either_table (either.Wide t) = t

-- pages are made one by one only where there are many
abbrev pub IsEither : {A : Type 0} → Either A → Type 0
IsEither (either.Narrow t) = Unit {0}
IsEither (either.Wide t) = most_pages < length t.entries

-- a page may have to be made before it is written: nobody has written it, and there are many
abbrev pub MayBeUnmade : Table → ℕ → Type 0
MayBeUnmade t page = (most_pages < length t.entries) × IsBlank t page
