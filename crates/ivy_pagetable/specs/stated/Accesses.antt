-- What an access lets a word do.
use Rattle.std.specs.Prelude.{Bool, true, false, if◌then◌else◌}
use Rattle.ivy_pagetable.specs.declared.access.Access.{Access}
use Rattle.ivy_pagetable.specs.declared.access.Access.TheVariants.{Nil, Read, Write}
use Rattle.ivy_pagetable.specs.declared.word.Word.{Word}
use Rattle.ivy_pagetable.specs.stated.Words.{needs_write}

-- whether a word may read
abbrev pub reads : Access → Bool
reads Nil = false
reads Read = true
reads Write = true

-- whether a word may write
abbrev pub writes : Access → Bool
writes Nil = false
writes Read = false
writes Write = true

-- whether this word may be carried out
abbrev pub suffices : Access → Word → Bool
suffices access word = if needs_write word then writes access else reads access
