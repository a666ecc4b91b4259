-- The whole lines of a text, and what a log's text says.
use Rattle.std.proofs.Common.{◌≡◌, ℕ, List, ◌∷◌, ◌++◌, take, drop, sym, ap, subst, ◌∙◌, inl, lit<}
use Rattle.std.proofs.lemmas.Str.Ascii.{encode_ascii}
use Rattle.std.proofs.lemmas.List.{take-append-drop}
use Rattle.std.specs.List.{AllZip, before_first, after_first}
use Rattle.std.specs.Str.{NoCharPasses}
use Rattle.std.specs.Str.Lines.{lines}
use Rattle.std.specs.Str.Pattern.{RFindsChar, SplitsAroundMatch}
use Rattle.ivy_program.specs.texts.TextWords.{words_of}
use Rattle.ivy_texts.specs.Spelled.{worded}
use Rattle.ivy_logs.specs.declared.log.LogHead.{LogHead}
use Rattle.ivy_logs.specs.declared.log.LogKind.{LogKind}
use Rattle.ivy_logs.specs.Entries.{LogEntry, SpellsIn, SpellsLog}
use Rattle.ivy_logs.specs.Spelled.{is_end, HasWholeLines, SpellsHead}

pub cut-last : (text whole torn : List ℕ) → SplitsAroundMatch (RFindsChar 10) text whole torn
    → HasWholeLines text whole
cut-last text whole torn s = inl (
  torn,
  sym (take-append-drop s.0 text)
      ∙ ap (λ l. take s.0 text ++ l)
      (s.2.1.split ∙ ap (λ e. e ++ drop s.1 text) (encode_ascii 10 (lit< tt)))
      ∙ ap (λ l. take s.0 text ++ 10 ∷ l) (sym s.4) ∙ ap (λ l. l ++ 10 ∷ torn) (sym s.3),
  subst (NoCharPasses is_end) (sym s.4) s.2.0,
)

pub log-spelled : (kind : LogKind) (text first rest whole : List ℕ) (head : LogHead) (entries : List LogEntry)
    → first ≡ before_first is_end text → rest ≡ after_first is_end text
    → SpellsHead kind (words_of first) head → HasWholeLines rest whole
    → AllZip (SpellsIn kind) (worded (lines whole)) entries → SpellsLog kind text head entries
log-spelled kind text first rest whole head entries is behind said cut each = record {
  first = subst (λ l. SpellsHead kind (words_of l) head) is said;
  whole = whole;
  cut = subst (λ l. HasWholeLines l whole) behind cut;
  each = each;
}
