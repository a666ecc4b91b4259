-- The calls that the work of a node makes, with turns of the node between.
use Rattle.std.proofs.Common.{◌≡◌, ℕ, ◌+◌, ◌*◌, ◌≤◌, List, [], ◌∷◌, ◌++◌, drop, take, map, Bool, Result, Ok, Err, OnOk, OnErr, append-nil, append_assoc, refl, sym, ap, subst, ◌∙◌}
use Rattle.std.proofs.lemmas.List.{map-append}
use Rattle.ivy_model.specs.declared.Call.{Call}
use Rattle.ivy_model.specs.declared.Fault.{Fault}
use Rattle.ivy_model.specs.declared.Record.{Record}
use Rattle.ivy_model.specs.declared.Row.{Row}
use Rattle.ivy_model.specs.Rows.{calls_of, numbers_in, row}
use Rattle.ivy_model.proofs.Rows.{numbers_in-take}
use Rattle.ivy_calls.specs.declared.answer.Answer.{Answer}
use Rattle.ivy_calls.specs.Answers.{answers}
use Rattle.ivy_calls.proofs.BlockAnswers.{words_go_on}
use Rattle.ivy_moves.specs.declared.Move.TheVariants.{Turn}
use Rattle.ivy_moves.specs.stated.Worlds.{Moves}
use Rattle.ivy_host.specs.stated.Hosts.{host_rules}
use Rattle.ivy_host.specs.stated.Managers.{managed_ops}
use Rattle.proof_worlds.specs.stated.RunState.{Run}
use Rattle.ivy_world.specs.HandedWorlds.{BeginsBlock, run_handed}
use Rattle.ivy_world.specs.stated.Runs.{IsSameRun}
use Rattle.ivy_play.specs.Played.{Step, Calls, Makes, AreOf, MakesCalls, calls_in}
use Rattle.ivy_play.proofs.Playing.{plays_on, went_on}

calls_on : (first more : List Step) → calls_in (first ++ more) ≡ calls_in first ++ calls_in more
calls_on [] more = refl
calls_on (Calls i calls ∷ steps) more =
    ap (λ (l : List Call). calls ++ l) (calls_on steps more)
    ∙ sym (append_assoc calls (calls_in steps) (calls_in more))
calls_on (Makes m ∷ steps) more = calls_on steps more

own_on : (node : ℕ) (first more : List Step) → AreOf node first → AreOf node more
    → AreOf node (first ++ more)
own_on node [] more is on = on
own_on node (Calls i calls ∷ steps) more is on = (is.0, own_on node steps more is.1 on)
own_on node (Makes m ∷ steps) more is on = (is.0, own_on node steps more is.1 on)

-- calls after others
pub made_on : (node : ℕ) (first more : List Call) (old mid new : Run)
    → MakesCalls node first old mid → MakesCalls node more mid new
    → MakesCalls node (first ++ more) old new
made_on node first more old mid new h on = record {
  steps = h.steps ++ on.steps;
  own = own_on node h.steps on.steps h.own on.own;
  made =
      calls_on h.steps on.steps ∙ ap (λ (l : List Call). l ++ calls_in on.steps) h.made
      ∙ ap (λ (l : List Call). first ++ l) on.made;
  plays = plays_on old mid new h.steps on.steps h.plays on.plays;
}

-- none
pub none_made : (node : ℕ) (calls : List Call) (old new : Run) → calls ≡ [] → new ≡ old
    → MakesCalls node calls old new
none_made node calls old new none same =
    record { steps = []; own = tt; made = sym none; plays = same }

-- calls that are handed in
calls_handed : (node : ℕ) (calls : List Call) (old new : Run)
    → new ≡ run_handed node (calls ∷ []) old → MakesCalls node calls old new
calls_handed node calls old new is =
    record { steps = Calls node calls ∷ []; own = (refl, tt); made = append-nil calls; plays = is }

-- a turn
turn_made : (node : ℕ) (old new : Run) → IsSameRun old new
    → Moves (host_rules managed_ops) old.config old.world (Turn node) new.world
    → MakesCalls node [] old new
turn_made node old new same moves = record {
  steps = Makes (Turn node) ∷ [];
  own = (refl, tt);
  made = refl;
  plays = (new.world, moves, went_on old new same);
}

-- a turn, where it was not refused
turn_tried : (Same : Type 0) (node : ℕ) (old new : Run) (r : Result Bool Fault) → IsSameRun old new
    → OnOk r (Moves (host_rules managed_ops) old.config old.world (Turn node) new.world)
    → OnErr r ((new ≡ old) × Same) → MakesCalls node [] old new
turn_tried Same node old new (Ok did) same ok err = turn_made node old new same ok
turn_tried Same node old new (Err fault) same ok err = none_made node [] old new refl err.0

-- calls that begin together
pub block_made : (node : ℕ) (calls : List Call) (old new : Run) → BeginsBlock node calls old new
    → MakesCalls node calls old new
block_made node [] old new same = none_made node [] old new refl same
block_made node (call ∷ more) old new b =
    let mid : Run = run_handed node ((call ∷ more) ∷ []) old in
    subst (λ (l : List Call). MakesCalls node l old new) (append-nil (call ∷ more))
    (made_on node (call ∷ more) [] old mid new (calls_handed node (call ∷ more) old mid refl)
    (turn_made node mid new b.turn.stays b.turn.moves))

calls_answered : (rs : List Record) → map (λ (a : Answer). a.call) (answers rs) ≡ calls_of rs
calls_answered [] = refl
calls_answered (r ∷ rs) = ap (λ (l : List Call). r.call ∷ l) (calls_answered rs)

-- the calls of one word more
word_more : (kind : Row) (addr m : ℕ) (bytes : List ℕ)
    → calls_of (row kind 0 addr (numbers_in m bytes))
    ++ calls_of (row kind 0 (addr + 8 * m) (numbers_in 1 (drop (8 * m) bytes)))
    ≡ calls_of (row kind 0 addr (numbers_in (m + 1) bytes))
word_more kind addr m bytes =
    let first : List Record = row kind 0 addr (numbers_in m bytes) in
    let last : List Record = row kind 0 (addr + 8 * m) (numbers_in 1 (drop (8 * m) bytes)) in
    let all : List Record = row kind 0 addr (numbers_in (m + 1) bytes) in
    let call : Answer → Call = λ a. a.call in
    let whole : answers first ++ answers last ≡ answers all =
    words_go_on kind addr m bytes [] (answers first) (answers first ++ answers last) refl 1 refl in
    ap (λ (l : List Call). l ++ calls_of last) (sym (calls_answered first))
    ∙ ap (λ (l : List Call). map call (answers first) ++ l) (sym (calls_answered last))
    ∙ sym (map-append call (answers first) (answers last)) ∙ ap (map call) whole
    ∙ calls_answered all

-- one word more of a row, and the turn in which it begins, where that was not refused
pub word_made : (Same : Type 0) (node : ℕ) (kind : Row) (addr m k : ℕ) (bytes : List ℕ)
    (old before mid new : Run) (r : Result Bool Fault) → 8 * 1 ≤ k
    → MakesCalls node (calls_of (row kind 0 addr (numbers_in m bytes))) old before
    → mid ≡ run_handed node
    (calls_of (row kind 0 (addr + 8 * m) (numbers_in 1 (take k (drop (8 * m) bytes)))) ∷ []) before
    → IsSameRun mid new
    → OnOk r (Moves (host_rules managed_ops) mid.config mid.world (Turn node) new.world)
    → OnErr r ((new ≡ mid) × Same)
    → MakesCalls node (calls_of (row kind 0 addr (numbers_in (m + 1) bytes))) old new
word_made Same node kind addr m k bytes old before mid new r fits h is same ok err =
    let first : List Call = calls_of (row kind 0 addr (numbers_in m bytes)) in
    let last : List Call =
    calls_of (row kind 0 (addr + 8 * m) (numbers_in 1 (drop (8 * m) bytes))) in
    let handed : mid ≡ run_handed node (last ∷ []) before =
    is ∙ ap (λ (l : List ℕ). run_handed node (calls_of (row kind 0 (addr + 8 * m) l) ∷ []) before)
    (numbers_in-take 1 k (drop (8 * m) bytes) fits) in
    let turned : MakesCalls node (last ++ []) before new =
    made_on node last [] before mid new (calls_handed node last before mid handed)
    (turn_tried Same node mid new r same ok err) in
    let more : MakesCalls node last before new =
    subst (λ (l : List Call). MakesCalls node l before new) (append-nil last) turned in
    subst (λ (l : List Call). MakesCalls node l old new) (word_more kind addr m bytes)
    (made_on node first last old before new h more)
