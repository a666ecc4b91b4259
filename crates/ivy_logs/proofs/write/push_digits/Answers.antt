use Rattle.std.proofs.Common.{◌∙◌, length, drop, arith}
use Rattle.std.proofs.lemmas.List.{take_at}
use Rattle.ivy_logs.proofs.Texts.{digits_read}
use Rattle.ivy_logs.proofs.write.push_digits.Goals as goal

pub unwrap-requires : goal.unwrap-requires
unwrap-requires g c =
    let places = c.put_digits.new.places in
    let same = c.as_slice.ensures.value
    ∙ take_at places (drop (length places) c.in_ok-digits.digits.items) c.in_ok-digits.digits.len (omega arith)
    ∙ c.put_digits.ensures in
    digits_read c.args.bytes.now c.as_slice.result.now c.from_utf8.result _ _ same c.from_utf8.ensures.cases
