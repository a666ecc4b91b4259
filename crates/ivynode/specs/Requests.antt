-- What a command line asks for.
use Rattle.std.specs.Prelude.{◌≡◌, ℕ, List, codes, Some, slice_get}
use Rattle.ivynode.specs.declared.request.Request.{Request}
use Rattle.ivynode.specs.declared.request.Request.TheVariants as request

-- the word after the program's name asks for logs to be joined
abbrev pub AsksToJoin : List (List ℕ) → Type 0
AsksToJoin words = slice_get words 1 ≡ Some (codes "join")

-- or for logs of own code
abbrev pub AsksToJoinOwn : List (List ℕ) → Type 0
AsksToJoinOwn words = slice_get words 1 ≡ Some (codes "join-own")

-- it is a request to join logs
abbrev pub IsJoin : Request → Type 0
IsJoin (request.Join file logs) = Unit {0}
IsJoin _ = ⊥

-- it is a request to join logs of own code
abbrev pub IsJoinOwn : Request → Type 0
IsJoinOwn (request.JoinOwn logs) = Unit {0}
IsJoinOwn _ = ⊥
