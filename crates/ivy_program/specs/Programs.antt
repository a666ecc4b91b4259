-- A node's program: instructions, or the calls that its owner makes.
use Rattle.std.specs.Prelude.{◌≡◌, ℕ, Bool, List, [], ◌∷◌, ◌++◌, length, map, All}
use Rattle.ivy_model.specs.declared.Call.{Call}
use Rattle.ivy_program.specs.declared.instruction.Instruction.{Instruction}
use Rattle.ivy_program.specs.Instructions.{IsProgram}
use Rattle.ivy_program.specs.stated.Programs.{Called, HandedFetch, Program, Written, calls_in, fetches_of}

-- calls that are made one at a time
abbrev pub one_by_one : List Call → List (List Call)
one_by_one calls = map (λ call. call ∷ []) calls

-- the instructions that are written down
abbrev pub instructions_of : Program → List Instruction
instructions_of (Written instructions) = instructions
instructions_of (Called rows fetches) = []

-- it is written down, within the limits of a program
abbrev pub IsWritten : Program → Type 0
IsWritten (Written instructions) = IsProgram instructions
IsWritten (Called rows fetches) = ⊥

-- it is own code
abbrev pub IsCalled : Program → Type 0
IsCalled (Written instructions) = ⊥
IsCalled (Called rows fetches) = Unit {0}

-- the owner makes these further rows of calls; what is written down stays as it is
abbrev pub handed : List (List Call) → Program → Program
handed more (Written instructions) = Written instructions
handed more (Called rows fetches) = Called (rows ++ more) fetches

-- a page that is to be fetched after all these calls
abbrev pub fetch_after : List (List Call) → ℕ → Bool → HandedFetch
fetch_after rows page write =
    record { page = page; write = write; after = length (calls_in rows) }

-- the owner has this page fetched ahead too; what is written down stays as it is
abbrev pub ahead : ℕ → Bool → Program → Program
ahead page write (Written instructions) = Written instructions
ahead page write (Called rows fetches) = Called rows (fetches ++ fetch_after rows page write ∷ [])

-- some further calls were made
abbrev pub HandedTo : Program → Program → Type 0
HandedTo old new = (more : List (List Call)) × (new ≡ handed more old)

-- it has no page fetched ahead
abbrev pub FetchesNone : Program → Type 0
FetchesNone p = fetches_of p ≡ []

-- none of them has
abbrev pub FetchNothing : List Program → Type 0
FetchNothing programs = All FetchesNone programs
