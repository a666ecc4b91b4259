-- Words on entries.
use Rattle.std.specs.Prelude.{ℕ, Bool, false, not, []}
use Rattle.std.specs.FinSet as set
use Rattle.ivy_pagetable.specs.declared.entry.Entry.{Entry}
use Rattle.ivy_pagetable.specs.declared.entry.Entry.TheVariants as entry
use Rattle.ivy_pagetable.specs.declared.word.Word.{Word}
use Rattle.ivy_pagetable.specs.stated.Accesses.{suffices}
use Rattle.ivy_pagetable.specs.stated.NodeSets.{Nodes}
use Rattle.ivy_pagetable.specs.stated.Entries.{copying, sharing}

-- idle, and not the owner
abbrev pub is_plain : Entry → Bool
is_plain (entry.Idle s) = not s.owner
is_plain (entry.AwaitRead s) = false
is_plain (entry.AwaitWrite s) = false
is_plain (entry.AwaitAcks s) = false

-- a word may be carried out here at once: none waits, and the access suffices for it
abbrev pub suffices_at : Entry → Word → Bool
suffices_at (entry.Idle s) word = suffices s.access word
suffices_at (entry.AwaitRead s) word = false
suffices_at (entry.AwaitWrite s) word = false
suffices_at (entry.AwaitAcks s) word = false

abbrev pub copy : Entry
copy = entry.Idle copying

abbrev pub shared_with : Nodes → Entry
shared_with nodes = entry.Idle (sharing nodes)

-- an idle owner after it gave a node a copy
abbrev pub with_reader : Entry → ℕ → Entry
with_reader (entry.Idle s) node = shared_with (set.insert s.copies node)
with_reader (entry.AwaitRead s) node = entry.AwaitRead s
with_reader (entry.AwaitWrite s) node = entry.AwaitWrite s
with_reader (entry.AwaitAcks s) node = entry.AwaitAcks s

-- a copy was asked for; nothing is put off yet
abbrev pub awaiting_read : Word → ℕ → Entry
awaiting_read word call =
    entry.AwaitRead (record { word = word; call = call; put_off = []; sent_on = false })
