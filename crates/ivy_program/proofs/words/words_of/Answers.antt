-- The parts between spaces and tabs that the filter keeps are the words.
use Rattle.std.proofs.Common.{◌≡◌, ◌∙◌, ℕ, [], ◌∷◌, ap, length, rules, nat_lt, tests}
use Rattle.std.specs.Char.{char_set_contains}
use Rattle.std.specs.Str.Iter.{split_pattern}
use Rattle.std.proofs.lemmas.Iterator.Consumers.{map_from_collect, YieldsList-from_filter}
use Rattle.ivy_program.specs.texts.TextWords.{is_blank, without_comment, without_end}
use Rattle.ivy_program.proofs.reading.Cuts.{YieldsList-from_cuts, blanks_low, blanks_matched}
use Rattle.ivy_program.proofs.words.words_of.Goals as goal

pub returns : goal.returns
returns g c =
    let blanks : split_pattern c.filter.result.iter ≡ 32 ∷ 9 ∷ [] = cc in
    map_from_collect _ c.collect.ensures.ran
    (YieldsList-from_filter _ (λ w. nat_lt 0 (length w))
    (YieldsList-from_cuts is_blank blanks_low (λ l k. (d : ℕ) → char_set_contains l d ≡ k d)
    (without_comment (without_end c.args.line.now)) (cc) (cc)
    (λ d. ap (λ l. char_set_contains l d) blanks ∙ blanks_matched d))
    c.filter.ensures.closure (λ x r q k. search (rules, tests)))
