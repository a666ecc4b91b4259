-- Each row of the table of coherence events keeps a net orderly, under every manager.
use Rattle.std.specs.Prelude.{ℕ, Bool, List}
use Rattle.ivy_model.specs.declared.Config.{Config}
use Rattle.ivy_model.specs.stated.Config.{IsConfig}
use Rattle.ivy_pagetable.specs.declared.Entry.TheVariants as entry
use Rattle.ivy_pagetable.specs.stated.Manager.{Ops}
use Rattle.ivy_coherence.specs.stated.MessageSteps.{sending}
use Rattle.proof_table.specs.stated.Letters.{Net}
use Rattle.proof_table.specs.stated.Orderly.{IsOrderly}
use Rattle.proof_table.specs.transitions.TableSteps.{Notice, Row, IsPreservedBy}
use Rattle.proof_table.proofs.transitions.Relabelled.{installed, letter_taken, letter_dropped}
use Rattle.proof_table.proofs.transitions.RowsAsked.{same_still, sending_still, read_sent_on, write_sent_on, copy_ended, copy_ended_waiting, put_aside}
use Rattle.proof_table.proofs.transitions.RowsGiven.{copy_given, page_given}
use Rattle.proof_table.proofs.transitions.RowsCome.{copy_came, page_came, page_came_shared, acknowledged, all_acknowledged}
use Rattle.proof_table.proofs.transitions.RowsBegun.{copy_asked, page_asked, copies_ordered_back}
use Rattle.proof_table.proofs.transitions.RowsJoined.{word_joined}

module _ (c : Config) (config : IsConfig c) where
  pub orderly_by : {sends : Bool} {n : Net} {f : ℕ → List ℕ} {notice : Notice} {n' : Net} {f' : ℕ → List ℕ}
      → Row sends c n f notice n' f' → IsOrderly c n → IsOrderly c n'
  orderly_by (Row.carries r) o = installed c _ r.node r.page _ o
  orderly_by (Row.takes r) o = letter_taken c _ r.source r.dest r.message r.first o
  orderly_by (Row.drops r) o = letter_dropped c _ r.node r.old r.rest r.loose o
  orderly_by (Row.shares r owner low) o = copy_given c _ r o owner
  orderly_by (Row.gives r owner low) o = page_given c _ r o owner config low
  orderly_by (Row.sends_on_read r hop plain away) o =
      read_sent_on c _ o r (entry.Idle r.state) hop (same_still (entry.Idle r.state))
  orderly_by (Row.sends_on_write r hop plain away) o =
      write_sent_on c _ o r (entry.Idle r.state) hop (same_still (entry.Idle r.state))
  orderly_by (Row.reader_sends_on_read r hop sends away) o =
      read_sent_on c _ o r (entry.AwaitRead (sending r.state)) hop (sending_still r.state)
  orderly_by (Row.reader_sends_on_write r hop sends away) o =
      write_sent_on c _ o r (entry.AwaitRead (sending r.state)) hop (sending_still r.state)
  orderly_by (Row.ends_copy r sender plain) o = copy_ended c _ o r
  orderly_by (Row.gives_up r sender) o = copy_ended_waiting c _ o r
  orderly_by (Row.puts_off r kept) o = put_aside c _ r o
  orderly_by (Row.copy_comes bytes r same quiet) o =
      installed c _ r.node r.page bytes (copy_came c _ o bytes r)
  orderly_by (Row.copy_comes_late bytes r same sent) o =
      installed c _ r.node r.page bytes (copy_came c _ o bytes r)
  orderly_by (Row.page_comes copies bytes r same none) o =
      installed c _ r.node r.page bytes (page_came c _ o copies bytes r none)
  orderly_by (Row.page_comes_shared copies bytes r same some out low) o =
      installed c _ r.node r.page bytes (page_came_shared c _ o copies bytes r same)
  orderly_by (Row.acknowledges r same left more) o = acknowledged c _ o r
  orderly_by (Row.acknowledges_last r same left last) o = all_acknowledged c _ o r last
  orderly_by (Row.asks_copy r hop plain unread away) o = copy_asked c _ r o hop
  orderly_by (Row.asks_page r hop plain away) o = page_asked c _ r o hop
  orderly_by (Row.ends_copies r owner reader unwritten low out) o = copies_ordered_back c _ r o owner reader
  orderly_by (Row.joins r) o = word_joined c _ r o

pub orderly-kept : {S : Type 0} {sends : Bool} (ops : Ops S) (c : Config) → IsConfig c
    → IsPreservedBy sends ops c (λ m n f. IsOrderly c n)
orderly-kept ops c config = record { by = λ row of order. orderly_by c config row order }
