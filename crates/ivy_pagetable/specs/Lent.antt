-- An entry that is lent, as the entry that it is.
use Rattle.ivy_pagetable.specs.declared.entry.Entry.{Entry}
use Rattle.ivy_pagetable.specs.declared.entry.Entry.TheVariants as entry
use Rattle.ivy_pagetable.specs.declared.lent.LentEntry.{LentEntry}
use Rattle.ivy_pagetable.specs.declared.lent.LentEntry.TheVariants.{Idle, AwaitRead, AwaitWrite, AwaitAcks}

abbrev pub lent_entry : LentEntry → Entry
lent_entry (Idle s) = entry.Idle s.now
lent_entry (AwaitRead s) = entry.AwaitRead s.now
lent_entry (AwaitWrite s) = entry.AwaitWrite s.now
lent_entry (AwaitAcks s) = entry.AwaitAcks s.now
