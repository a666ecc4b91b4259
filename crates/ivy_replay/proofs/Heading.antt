-- Heads that are noted one behind another.
use Rattle.std.proofs.Common.{◌≡◌, ℕ, zero, suc, ◌+◌, ◌≤◌, ◌<◌, List, [], ◌∷◌, ◌++◌, length, slice_get, Some, IfSome, OnOk, Result, Ok, Err, Option, refl, sym, subst, ◌∙◌, ap, arith, append_assoc, length-append, append-nil}
use Rattle.std.proofs.lemmas.Option.{same_Some, none-some, slice_get_within}
use Rattle.ivy_model.specs.declared.Config.{Config}
use Rattle.ivy_charts.specs.Heads.{IsHeadOf}
use Rattle.ivy_charts.specs.declared.head.RunHead.{RunHead}
use Rattle.ivy_charts.specs.declared.log.Happening.{Happening}
use Rattle.ivy_charts.specs.declared.log.RunLog.{RunLog}
use Rattle.ivy_link.specs.declared.Verdict.{Verdict}
use Rattle.ivy_moves.specs.declared.Move.{Move}
use Rattle.ivy_replay.specs.declared.play.Before.{Before}
use Rattle.ivy_replay.specs.declared.play.Play.{Play}
use Rattle.ivy_replay.specs.Seen.{AreHeadsFrom, IsNoted, NotesHeads, NotesMove, NotesSome, SeesMove, heads_in, sent_in, happenings_in}

-- what holds of each by its place, and of one more
each_more : {X : Type 0} (P : ℕ → X → Type 0) (xs : List X) (x : X)
    → ((i : ℕ) (y : X) → slice_get xs i ≡ Some y → P i y) → P (length xs) x → (i : ℕ) (y : X)
    → slice_get (xs ++ x ∷ []) i ≡ Some y → P i y
each_more P [] x all last zero y at = subst (P 0) (same_Some x y at) last
each_more P [] x all last (suc i) y at = absurd (none-some y at)
each_more P (z ∷ xs) x all last zero y at = all 0 y at
each_more P (z ∷ xs) x all last (suc i) y at =
    each_more (λ k. P (suc k)) xs x (λ k. all (suc k)) last i y at

-- so far the heads of the strings before this place are noted
pub record NotedTo (c : Config) (was : List RunHead) (sent : List (List ℕ)) (place : ℕ)
    (heads : List RunHead) : Type 0 where
  pub more : List RunHead
  pub behind : heads ≡ was ++ more
  pub each : AreHeadsFrom c (length was) sent heads
  pub count : length heads ≡ place

-- none is noted anew at first
pub none_yet : (c : Config) (was heads : List RunHead) (sent : List (List ℕ)) (place : ℕ)
    → heads ≡ was → place ≡ length was → NotedTo c was sent place heads
none_yet c was heads sent place same count = record {
  more = [];
  behind = same ∙ sym (append-nil was);
  each = λ i head at from. absurd (omega (arith, from, ap length same, slice_get_within heads i head at));
  count = ap length same ∙ sym count;
}

-- and one more
pub one_more : (c : Config) (was heads now : List RunHead) (sent : List (List ℕ)) (place : ℕ)
    (head : RunHead) → NotedTo c was sent place heads → now ≡ heads ++ head ∷ []
    → IfSome (slice_get sent place) (λ bytes. IsHeadOf c bytes head)
    → NotedTo c was sent (place + 1) now
one_more c was heads now sent place head n is of = record {
  more = n.more ++ head ∷ [];
  behind = is ∙ ap (λ (l : List RunHead). l ++ head ∷ []) n.behind ∙ append_assoc was n.more (head ∷ []);
  each = λ i h at.
      each_more (λ k x. length was ≤ k → IfSome (slice_get sent k) (λ bytes. IsHeadOf c bytes x))
      heads head n.each
      (λ from. subst (λ k. IfSome (slice_get sent k) (λ bytes. IsHeadOf c bytes head)) (sym n.count) of)
      i h (subst (λ l. slice_get l i ≡ Some h) is at);
  count = ap length is ∙ length-append heads (head ∷ []) ∙ ap (λ k. k + 1) n.count;
}

-- the head that was read is that of the string in its place
pub of_one : (c : Config) (sent : List (List ℕ)) (place : ℕ) (text bytes : List ℕ) (head : RunHead)
    → slice_get sent place ≡ Some text → bytes ≡ text → IsHeadOf c bytes head
    → IfSome (slice_get sent place) (λ (b : List ℕ). IsHeadOf c b head)
of_one c sent place text bytes head got same is =
    subst (λ o. IfSome o (λ (b : List ℕ). IsHeadOf c b head)) (sym got)
    (subst (λ (b : List ℕ). IsHeadOf c b head) same is)

-- what is noted behind a play of the same log is noted behind the play
noted_there : (before : Before) (verdict : Option Verdict) (messages : List ℕ) (mid old new : Play)
    → mid.log ≡ old.log → sent_in mid ≡ sent_in old → NotesMove before verdict messages mid new
    → NotesMove before verdict messages old new
noted_there before verdict messages mid old new log sent n = (
  n.0,
  n.1 ∙ ap (λ (l : RunLog). l.happenings.items ++ n.0 ∷ []) log,
  record {
    step = n.2.step;
    node = n.2.node;
    from = n.2.from;
    to = n.2.to ∙ ap length sent;
    heard = n.2.heard;
    served = n.2.served;
    asked = n.2.asked;
  },
)

pub some_noted : {A E : Type 0} (result : Result A E) (before : Before) (verdict : Option Verdict)
    (messages : List ℕ) (mid old new : Play) → mid.log ≡ old.log → sent_in mid ≡ sent_in old
    → OnOk result (NotesMove before verdict messages mid new)
    → OnOk result (NotesSome before old new)
some_noted (Ok x) before verdict messages mid old new log sent n =
    (verdict, messages, noted_there before verdict messages mid old new log sent n)
some_noted (Err e) before verdict messages mid old new log sent n = tt

-- a move that was made, whose strings were read, and which was noted then
pub sees : (move : Move) (before : Before) (old mid new : Play) (sent : List (List ℕ))
    → before.step ≡ move → before.sent ≡ length (sent_in old)
    → happenings_in mid ≡ happenings_in old → sent_in mid ≡ sent
    → NotesHeads old.config sent (heads_in old) (heads_in mid) → NotesSome before mid new
    → sent_in new ≡ sent_in mid → heads_in new ≡ heads_in mid → SeesMove move old new
sees move before old mid new sent step count happened there heads n still same = record {
  happening = n.2.0;
  behind = n.2.1 ∙ ap (λ (l : List Happening). l ++ n.2.0 ∷ []) happened;
  step = n.2.2.step ∙ step;
  from = n.2.2.from ∙ count;
  to = n.2.2.to ∙ ap length (sym still);
  heads = subst (λ (s : List (List ℕ)). NotesHeads old.config s (heads_in old) (heads_in new))
      (sym (still ∙ there))
      (subst (λ (hs : List RunHead). NotesHeads old.config sent (heads_in old) hs) (sym same) heads);
}
