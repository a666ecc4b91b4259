-- The first net: there is no request, and only node 0 claims anything.
use Rattle.std.proofs.Common.{ap, inl, inr, arith}
use Rattle.ivy_model.specs.declared.Config.{Config}
use Rattle.ivy_model.specs.stated.Config.{IsConfig}
use Rattle.ivy_wire.specs.declared.Content.TheVariants as content
use Rattle.proof_table.specs.stated.Letters.{Net, Underway}
use Rattle.proof_table.proofs.transitions.Opening.{IsFirst}
use Rattle.proof_table.specs.routing.Claiming.{claims}
use Rattle.proof_table.proofs.routing.FirstLetters.{no_letter, none_asked}
use Rattle.proof_table.specs.waiting.Readers.{IsFair}
use Rattle.proof_table.proofs.waiting.Onward.{IsBounded}

module _ (c : Config) (config : IsConfig c) (n : Net) (first : IsFirst n) where
  pub first_fair : IsFair c n
  first_fair p = record {
    reader_claimed = λ o y ne k. absurd (none_asked n first (content.ReadReq p) o y k);
    reader_sent = λ i y k l at is ne. absurd (no_letter n first (Underway i y k) l at);
    reader_first = λ a b l k at bt reads writes same ne. absurd (no_letter n first a l at);
    queued_unread = λ o other ne k j. none_asked n first (content.ReadReq p) other o j;
  }

  pub first_bounded : IsBounded c n
  first_bounded y p past = elim (first.entries y p) [
    | inr none ↦ ap claims none
    | inl own ↦
        absurd (let zero_node = own.0 in let some = config.nodes_from in
        omega (arith, past, zero_node, some))
  ]
