-- Words on entries.
use Rattle.std.specs.Prelude.{Bool, true, false, ◌&&◌, List, [], ◌∷◌, ◌++◌, length, nat_lt}
use Rattle.std.specs.FinSet as set
use Rattle.ivy_pagetable.specs.declared.entry.Entry.{Entry}
use Rattle.ivy_pagetable.specs.declared.entry.Entry.TheVariants as entry
use Rattle.ivy_pagetable.specs.declared.access.Access.TheVariants.{Nil, Read, Write}
use Rattle.ivy_pagetable.specs.declared.put_off.PutOff.{PutOff}
use Rattle.ivy_pagetable.specs.stated.EntryLimits.{most_put_off}
use Rattle.ivy_pagetable.specs.stated.Accesses.{reads, writes}
use Rattle.ivy_pagetable.specs.stated.NodeSets.{Nodes}
use Rattle.ivy_pagetable.specs.stated.States.{IdleState, WaitingState}

-- a word waits for the page
abbrev pub is_locked : Entry → Bool
is_locked (entry.Idle s) = false
is_locked (entry.AwaitRead s) = true
is_locked (entry.AwaitWrite s) = true
is_locked (entry.AwaitAcks s) = true

-- the node owns the page, also while it waits for acknowledgements
abbrev pub is_owner : Entry → Bool
is_owner (entry.Idle s) = s.owner
is_owner (entry.AwaitRead s) = false
is_owner (entry.AwaitWrite s) = false
is_owner (entry.AwaitAcks s) = true

-- the page's bytes may be read here: a copy stays one while the node waits to write
abbrev pub readable : Entry → Bool
readable (entry.Idle s) = reads s.access
readable (entry.AwaitRead s) = false
readable (entry.AwaitWrite s) = s.had_copy
readable (entry.AwaitAcks s) = true

-- the page may be written here, so no word waits for it
abbrev pub writable : Entry → Bool
writable (entry.Idle s) = writes s.access
writable (entry.AwaitRead s) = false
writable (entry.AwaitWrite s) = false
writable (entry.AwaitAcks s) = false

-- at an owner the nodes that have a copy, or whose acknowledgement is missing
abbrev pub copies_of : Entry → Nodes
copies_of (entry.Idle s) = s.copies
copies_of (entry.AwaitRead s) = set.empty
copies_of (entry.AwaitWrite s) = set.empty
copies_of (entry.AwaitAcks s) = s.left

-- idle: nothing of the page; a copy of another node's page; the whole page; the owner's page, which
-- these nodes have too
abbrev pub without : IdleState
without = record { access = Nil; owner = false; copies = set.empty }

abbrev pub copying : IdleState
copying = record { access = Read; owner = false; copies = set.empty }

abbrev pub owning : IdleState
owning = record { access = Write; owner = true; copies = set.empty }

abbrev pub sharing : Nodes → IdleState
sharing nodes = record { access = Read; owner = true; copies = nodes }

-- the entries of these
abbrev pub nothing : Entry
nothing = entry.Idle without

abbrev pub owned : Entry
owned = entry.Idle owning

-- what was put off
abbrev pub put_offs : Entry → List PutOff
put_offs (entry.Idle s) = []
put_offs (entry.AwaitRead s) = s.put_off
put_offs (entry.AwaitWrite s) = s.waiting.put_off
put_offs (entry.AwaitAcks s) = s.waiting.put_off

-- whether one more message can be put off
abbrev pub can_put_off : Entry → Bool
can_put_off e = is_locked e && nat_lt (length (put_offs e)) most_put_off

-- one more message is put off, behind the others
abbrev pub with_one_put_off : WaitingState → PutOff → WaitingState
with_one_put_off s message =
    record {
      word = s.word;
      call = s.call;
      put_off = s.put_off ++ message ∷ [];
      sent_on = s.sent_on;
    }

-- a locked entry with one more message put off
abbrev pub with_put_off : Entry → PutOff → Entry
with_put_off (entry.Idle s) message = entry.Idle s
with_put_off (entry.AwaitRead s) message = entry.AwaitRead (with_one_put_off s message)
with_put_off (entry.AwaitWrite s) message =
    entry.AwaitWrite
    (record { had_copy = s.had_copy; waiting = with_one_put_off s.waiting message })
with_put_off (entry.AwaitAcks s) message =
    entry.AwaitAcks (record { left = s.left; waiting = with_one_put_off s.waiting message })
