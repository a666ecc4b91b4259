-- A word that is always written whole is one register.
use Rattle.std.specs.Prelude.{◌≡◌, ℕ, List, [], ◌∷◌}
use Rattle.std.specs.List.{AllByRecursion as Each, filter}
use Rattle.ivy_model.specs.declared.config.Config.{Config}
use Rattle.ivy_model.specs.declared.call.Record.{Record}
use Rattle.ivy_model.specs.declared.call.Reply.TheVariants.{Value}
use Rattle.ivy_model.specs.stated.Memory.{Memory}
use Rattle.ivy_calls.specs.declared.answer.Answer.{Answer}
use Rattle.ivy_calls.specs.Answers.{answers}
use Rattle.ivy_sync.specs.HeapWords.{word, IsHeapWord, IsWhole, is_access_in, Reads, word_after, last}
use Rattle.ivy_sync.specs.HeapWords.{LeadsThrough}

-- each read of the word at a is answered with what the writes before it left
abbrev pub ReadsTheLast : ℕ → ℕ → List Answer → Type 0
ReadsTheLast a v [] = Unit {0}
ReadsTheLast a v (r ∷ rs) =
    (Reads a r.call → r.reply ≡ Value v) × ReadsTheLast a (word_after a v r.call) rs

-- the accesses in the word at a, in their order
abbrev pub accesses : ℕ → List Answer → List Answer
accesses a rs = filter (λ r. is_access_in a r.call) rs

-- In every order of records that a flat memory makes, the accesses to a word that is always written
-- whole are those of one register.
abbrev pub WordsAreRegisters : Type 0
WordsAreRegisters = (c : Config) (old new : Memory) (order : List Record) (a : ℕ)
    → LeadsThrough c old order new → IsHeapWord c a → Each (λ r. IsWhole a r.call) (answers order)
    → (word c new a ≡ last a (word c old a) (accesses a (answers order)))
    × ReadsTheLast a (word c old a) (accesses a (answers order))
