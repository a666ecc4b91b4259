-- What the lines of frames and of logs say.
use Rattle.std.specs.Prelude.{◌≡◌, ◌⊎◌, ◌==◌, ℕ, Bool, true, false, List, [], ◌∷◌, ◌++◌, codes, Ok, Option, Some, None}
use Rattle.std.specs.List.{AllZip}
use Rattle.std.specs.Str.{NoCharPasses}
use Rattle.hex.specs.Hex.{decode_of}
use Rattle.ivy_model.specs.declared.Config.{Config}
use Rattle.ivy_model.specs.declared.Kind.{Kind}
use Rattle.ivy_model.specs.declared.Kind.TheVariants.{Fixed, Dynamic}
use Rattle.ivy_moves.specs.Events.{Event}
use Rattle.ivy_moves.specs.declared.Event.TheVariants.{Turns, Delivered, Pulsed}
use Rattle.ivy_program.specs.texts.Lines.{IsNumberWord}
use Rattle.ivy_texts.specs.Spelled.{BeginsWith, Names}
use Rattle.ivy_logs.specs.declared.sum_line.SumLine.{SumLine}
use Rattle.ivy_logs.specs.declared.log.LogHead.{LogHead}
use Rattle.ivy_logs.specs.declared.log.LogKind.{LogKind}
use Rattle.ivy_logs.specs.declared.log.LogKind.TheVariants.{OfProgram, OfOwnCode}

-- an LF, which ends a line
abbrev pub is_end : ℕ → Bool
is_end b = b == 10

-- the digits of these bytes, two for each, in either case
abbrev pub IsHexOf : List ℕ → List ℕ → Type 0
IsHexOf word bytes = decode_of word ≡ Ok bytes

-- the words of the line of a frame: the node that it is for, and its string
abbrev pub SpellsFrame : List (List ℕ) → ℕ → List ℕ → Type 0
SpellsFrame (number ∷ digits ∷ []) to bytes = IsNumberWord number to × IsHexOf digits bytes
SpellsFrame _ to bytes = ⊥

-- the words of a line by which a node tells another one the sum of its run
abbrev pub SpellsSumLine : List (List ℕ) → SumLine → Type 0
SpellsSumLine (to ∷ word ∷ from ∷ sum ∷ []) s = IsNumberWord to s.to × (word ≡ codes "sum")
    × IsNumberWord from s.from × IsNumberWord sum s.sum
SpellsSumLine _ s = ⊥

-- the word of a kind of manager
abbrev pub kind_word : Kind → List ℕ
kind_word Fixed = codes "fixed"
kind_word Dynamic = codes "dynamic"

-- the word of the manager with which nodes begin: steady hints, or the manager of this kind that
-- their configuration names
abbrev pub manager_word : Bool → Kind → List ℕ
manager_word false kind = kind_word kind
manager_word true kind = codes "steady"

-- the kind that the configuration of these nodes names, where it names this one: with steady hints
-- the dynamic one
abbrev pub named_kind : Bool → Kind → Kind
named_kind false kind = kind
named_kind true kind = Dynamic

-- the word names the manager of nodes with such a configuration
abbrev pub IsManagerWord : List ℕ → Bool → Kind → Type 0
IsManagerWord word steady kind =
    (word ≡ manager_word steady kind) × (kind ≡ named_kind steady kind)

-- the word of a sum, or none
abbrev pub SpellsSum : List (List ℕ) → Option ℕ → Type 0
SpellsSum [] None = Unit {0}
SpellsSum (word ∷ []) (Some sum) = IsNumberWord word sum
SpellsSum _ sum = ⊥

-- the words of a configuration, and of the manager with which its nodes begin
abbrev pub SpellsConfig : List ℕ → List ℕ → List ℕ → List ℕ → Bool → Config → Type 0
SpellsConfig nodes pages page_size manager steady c = IsNumberWord nodes c.nodes
    × IsNumberWord pages c.pages × IsNumberWord page_size c.page_size
    × IsManagerWord manager steady c.manager

-- the words of a node's number and of a configuration, and of a sum where there is one
abbrev pub SpellsNode : List (List ℕ) → LogHead → Option ℕ → Type 0
SpellsNode (me ∷ nodes ∷ pages ∷ page_size ∷ manager ∷ rest) h sum = IsNumberWord me h.me
    × SpellsConfig nodes pages page_size manager h.steady h.config × SpellsSum rest sum
SpellsNode _ h sum = ⊥

-- the word of a log's first line that says whose log it is
abbrev pub log_word : LogKind → List ℕ
log_word OfProgram = codes "log"
log_word OfOwnCode = codes "own"

-- own code is no program, so that its logs have no sum
abbrev pub MayHaveSum : LogKind → Option ℕ → Type 0
MayHaveSum OfProgram sum = Unit {0}
MayHaveSum OfOwnCode sum = sum ≡ None

-- the words of a log's first line, which names this sum, or none
abbrev pub SpellsFirst : LogKind → List (List ℕ) → LogHead → Option ℕ → Type 0
SpellsFirst kind words h sum = MayHaveSum kind sum
    × BeginsWith (codes "ivy") (BeginsWith (log_word kind) (λ rest. SpellsNode rest h sum)) words

-- the words of a log's first line
abbrev pub SpellsHead : LogKind → List (List ℕ) → LogHead → Type 0
SpellsHead kind words h = (sum : Option ℕ) × SpellsFirst kind words h sum

-- the words of an event
abbrev pub SpellsEvent : List (List ℕ) → Event → Type 0
SpellsEvent words (Turns count) = Names (codes "turns") (count ∷ []) words
SpellsEvent words (Delivered bytes) =
    BeginsWith (codes "took") (λ rest. AllZip IsHexOf rest (bytes ∷ [])) words
SpellsEvent words (Pulsed to) = Names (codes "pulse") (to ∷ []) words

-- the word of what a page is fetched ahead for: to read, or to write
abbrev pub fetch_word : Bool → List ℕ
fetch_word false = codes "read"
fetch_word true = codes "write"

-- these are the whole lines of the text, without the LF of the last one: what stands behind it is none
abbrev pub HasWholeLines : List ℕ → List ℕ → Type 0
HasWholeLines text whole =
    ((torn : List ℕ) × (text ≡ whole ++ 10 ∷ torn) × NoCharPasses is_end torn)
    ⊎ ((whole ≡ []) × NoCharPasses is_end text)
