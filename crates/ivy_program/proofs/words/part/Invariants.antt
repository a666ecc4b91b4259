-- The words so far, and those of what follows the last blank, are the words of the text.
use Rattle.std.proofs.Common.{◌≡◌, ◌≤◌, ◌++◌, length, drop}
use Rattle.std.specs.Str.{IsCharBoundary}
use Rattle.ivy_program.specs.texts.TextWords.{parted_words}
use Rattle.ivy_program.proofs.reading.Wording.{IsBare, texts_to}
use Rattle.ivy_program.proofs.words.part.Given as goal

abbrev pub invariant-loop-at : goal.invariant-loop-at
invariant-loop-at l = record {
  so_far : texts_to l.words l.count ++ parted_words (drop l.start l.bytes) ≡ parted_words l.bytes;
  places : l.count ≤ length l.words;
  behind : l.start ≤ l.at;
  bare : IsBare l.bytes l.start l.at;
  cut : IsCharBoundary l.bytes l.start;
}
