-- What is noted of a move: which strings it sent, and the heads of all strings that were sent since.
use Rattle.std.specs.Prelude.{◌≡◌, ℕ, ◌≤◌, List, [], ◌∷◌, ◌++◌, length, slice_get, Option, Some, IfSome}
use Rattle.ivy_link.specs.declared.Verdict.{Verdict}
use Rattle.ivy_model.specs.declared.Config.{Config}
use Rattle.ivy_moves.specs.declared.Move.{Move}
use Rattle.ivy_charts.specs.Heads.{IsHeadOf}
use Rattle.ivy_charts.specs.declared.head.RunHead.{RunHead}
use Rattle.ivy_charts.specs.declared.log.Happening.{Happening}
use Rattle.ivy_replay.specs.declared.play.Before.{Before}
use Rattle.ivy_replay.specs.declared.play.Play.{Play}

-- every string that was sent in the world, in order
abbrev pub sent_in : Play → List (List ℕ)
sent_in p = p.world.world.sent

-- the heads of strings, and what each move did, as far as they are noted
abbrev pub heads_in : Play → List RunHead
heads_in p = p.log.strings.items

abbrev pub happenings_in : Play → List Happening
happenings_in p = p.log.happenings.items

-- from a place on, each is the head of the string in its place
abbrev pub AreHeadsFrom : Config → ℕ → List (List ℕ) → List RunHead → Type 0
AreHeadsFrom c from sent heads = (i : ℕ) (head : RunHead) → slice_get heads i ≡ Some head
    → from ≤ i → IfSome (slice_get sent i) (λ bytes. IsHeadOf c bytes head)

-- behind the heads that are noted those of all further strings are
pub record NotesHeads (c : Config) (sent : List (List ℕ)) (old new : List RunHead) : Type 0 where
  pub more : List RunHead
  pub behind : new ≡ old ++ more
  pub each : AreHeadsFrom c (length old) sent new
  pub whole : length old ≤ length sent → length new ≡ length sent

-- what is noted of a move: its node, what its string was there and which messages were served; and
-- that it sent the strings from the place where those sent before it end
pub record IsNoted (before : Before) (verdict : Option Verdict) (messages : List ℕ) (sent : ℕ)
    (h : Happening) : Type 0 where
  pub step : h.step ≡ before.step
  pub node : h.node ≡ before.node
  pub from : h.sent_before ≡ before.sent
  pub to : h.sent_after ≡ sent
  pub heard : h.heard ≡ verdict
  pub served : h.served.items ≡ messages
  pub asked : h.before ≡ before.asked

-- that is noted behind what the moves before did
abbrev pub NotesMove : Before → Option Verdict → List ℕ → Play → Play → Type 0
NotesMove before heard served old new = (h : Happening)
    × (happenings_in new ≡ happenings_in old ++ h ∷ [])
    × IsNoted before heard served (length (sent_in old)) h

-- and so it is with some verdict, and some messages that were served
abbrev pub NotesSome : Before → Play → Play → Type 0
NotesSome before old new = (heard : Option Verdict) × (served : List ℕ)
    × NotesMove before heard served old new

-- of a move is noted which one it was, and that it sent the strings that the world has more than
-- before, whose heads are noted too
pub record SeesMove (move : Move) (old new : Play) : Type 0 where
  pub happening : Happening
  pub behind : happenings_in new ≡ happenings_in old ++ happening ∷ []
  pub step : happening.step ≡ move
  pub from : happening.sent_before ≡ length (sent_in old)
  pub to : happening.sent_after ≡ length (sent_in new)
  pub heads : NotesHeads old.config (sent_in new) (heads_in old) (heads_in new)
