-- What the lines of schedules and of orders say.
use Rattle.std.specs.Prelude.{◌≡◌, ℕ, List, [], ◌∷◌, ◌++◌, codes, map, Bool, true, false}
use Rattle.std.specs.List.{AllZip, filter}
use Rattle.std.specs.Str.Lines.{lines}
use Rattle.ivy_model.specs.declared.Call.{Call}
use Rattle.ivy_model.specs.declared.Call.TheVariants.{Load, Store, Swap, Cas, FetchAdd, Count, Advance, Await, Alloc, Free}
use Rattle.ivy_model.specs.declared.Reply.{Reply}
use Rattle.ivy_model.specs.declared.Reply.TheVariants.{Value, Done, Refused}
use Rattle.ivy_model.specs.declared.Record.{Record}
use Rattle.ivy_model.specs.stated.Legal.{HasWidth}
use Rattle.ivy_moves.specs.declared.Move.{Move}
use Rattle.ivy_moves.specs.declared.Move.TheVariants.{Turn, Deliver, Pulse}
use Rattle.ivy_program.specs.texts.Lines.{IsNumberWord}
use Rattle.ivy_program.specs.texts.TextWords.{words_of}
use Rattle.ivy_texts.specs.declared.order.Sizes.{Sizes}

-- a keyword, and words of which this holds after it
abbrev pub BeginsWith : List ℕ → (List (List ℕ) → Type 0) → List (List ℕ) → Type 0
BeginsWith keyword P [] = ⊥
BeginsWith keyword P (word ∷ words) = (word ≡ keyword) × P words

-- a keyword, and these numbers after it
abbrev pub Names : List ℕ → List ℕ → List (List ℕ) → Type 0
Names keyword numbers = BeginsWith keyword (λ words. AllZip IsNumberWord words numbers)

-- the words of a move
abbrev pub SpellsMove : List (List ℕ) → Move → Type 0
SpellsMove words (Turn node) = Names (codes "turn") (node ∷ []) words
SpellsMove words (Deliver index to) = Names (codes "deliver") (index ∷ to ∷ []) words
SpellsMove words (Pulse from to) = Names (codes "pulse") (from ∷ to ∷ []) words

-- the words of a call
abbrev pub SpellsCall : List (List ℕ) → Call → Type 0
SpellsCall words (Load width addr) = Names (codes "load") (width ∷ addr ∷ []) words
SpellsCall words (Store width addr value) =
    Names (codes "store") (width ∷ addr ∷ value ∷ []) words
SpellsCall words (Swap width addr value) = Names (codes "swap") (width ∷ addr ∷ value ∷ []) words
SpellsCall words (Cas width addr expected value) =
    Names (codes "cas") (width ∷ addr ∷ expected ∷ value ∷ []) words
SpellsCall words (FetchAdd width addr value) =
    Names (codes "fadd") (width ∷ addr ∷ value ∷ []) words
SpellsCall words (Count k) = Names (codes "count") (k ∷ []) words
SpellsCall words (Advance k) = Names (codes "advance") (k ∷ []) words
SpellsCall words (Await k least) = Names (codes "await") (k ∷ least ∷ []) words
SpellsCall words (Alloc size) = Names (codes "alloc") (size ∷ []) words
SpellsCall words (Free addr) = Names (codes "free") (addr ∷ []) words

-- the words of a reply
abbrev pub SpellsReply : List (List ℕ) → Reply → Type 0
SpellsReply words (Value value) = Names (codes "value") (value ∷ []) words
SpellsReply words Done = words ≡ codes "done" ∷ []
SpellsReply words (Refused code) = Names (codes "refused") (code ∷ []) words

-- the words of a record: its node, its call, of a width that there is, an equals sign, its reply
pub record SpellsRecord (words : List (List ℕ)) (r : Record) : Type 0 where
  pub node : List ℕ
  pub call : List (List ℕ)
  pub reply : List (List ℕ)
  pub parts : words ≡ node ∷ (call ++ codes "=" ∷ reply)
  pub named : IsNumberWord node r.node
  pub called : SpellsCall call r.call
  pub width : HasWidth r.call
  pub replied : SpellsReply reply r.reply

-- the words of an order's first line
abbrev pub SpellsSizes : List (List ℕ) → Sizes → Type 0
SpellsSizes words s =
    BeginsWith (codes "ivy") (Names (codes "order") (s.nodes ∷ s.pages ∷ s.page_size ∷ [])) words

-- whether a line has words
abbrev pub has_words : List (List ℕ) → Bool
has_words [] = false
has_words (word ∷ words) = true

-- the words of those lines that have some
abbrev pub worded : List (List ℕ) → List (List (List ℕ))
worded texts = filter has_words (map words_of texts)

-- each line that has words says one of the moves, in order
abbrev pub SpellsSchedule : List ℕ → List Move → Type 0
SpellsSchedule text moves = AllZip SpellsMove (worded (lines text)) moves

-- the first line that has words says the sizes, and each other one of the records, in order
pub record SpellsOrder (text : List ℕ) (sizes : Sizes) (records : List Record) : Type 0 where
  pub first : List (List ℕ)
  pub rest : List (List (List ℕ))
  pub lines : worded (lines text) ≡ first ∷ rest
  pub sized : SpellsSizes first sizes
  pub recorded : AllZip SpellsRecord rest records
