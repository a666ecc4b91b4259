-- Where there is an LF, a CR before it goes too.
use Rattle.std.proofs.Common.{◌∙◌, Some, None, sym, ap, lit<}
use Rattle.std.proofs.lemmas.Str.Pattern.{strip_suffix_char}
use Rattle.ivy_program.proofs.reading.Ends.{return_stripped, without_end-ended, without_end-other}
use Rattle.ivy_program.proofs.words.without_end.Goals as goal

pub returns-in-Some : goal.returns-in-Some
returns-in-Some c =
    let ended =
    strip_suffix_char 10 c.args.line.now (Some c.in-Some.line) c.in-Some.ensures.cases
    (lit< tt) in
    let cut =
    strip_suffix_char 13 c.in-Some.line.now c.strip_suffix-in-Some.result
    c.strip_suffix-in-Some.ensures.cases (lit< tt) in
    ap (λ r. r.now) c.unwrap_or.ensures
    ∙ return_stripped c.strip_suffix-in-Some.result c.in-Some.line cut
    ∙ sym (without_end-ended c.args.line.now c.in-Some.line.now ended)

pub returns-in-None : goal.returns-in-None
returns-in-None c =
    sym (without_end-other c.args.line.now
    (strip_suffix_char 10 c.args.line.now None c.in-None.ensures.cases (lit< tt)))
