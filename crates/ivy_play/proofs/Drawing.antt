-- The moves that a source gives are made.
use Rattle.std.proofs.Common.{◌≡◌, ℕ, suc, ◌+◌, ◌≤◌, true, false, List, [], ◌∷◌, ◌++◌, length, take, drop, replicate, Option, None, Some, Bor, inl, inr, append-nil, append_assoc, length-append, refl, sym, ap, subst, ◌∙◌, arith}
use Rattle.std.proofs.Math.Seq.{take-length}
use Rattle.std.proofs.lemmas.List.{take-append-le, drop_more, drop_all}
use Rattle.std.specs.Slice.{IsItemAt}
use Rattle.std.proofs.lemmas.Bool.{false≢true}
use Rattle.ivy_model.specs.declared.Config.{Config}
use Rattle.ivy_moves.specs.declared.Move.{Move}
use Rattle.ivy_moves.specs.declared.Move.TheVariants.{Turn}
use Rattle.proof_worlds.specs.stated.RunState.{Run}
use Rattle.ivy_play.specs.declared.ahead.Ahead.{Ahead}
use Rattle.ivy_play.specs.declared.budget.Budget.{Budget}
use Rattle.ivy_play.specs.Played.{AddsTurns, HasGoneOn, IsPlayed, LeadsOn, Moment}
use Rattle.ivy_play.specs.Given.{AreCounted, AreDrawn, AreGiven, AreGivenUpTo, GivesNext, Giving, HoldsOn, IsDrawing, IsGiven, IsHeld, WasGiven}

-- the next of so many moves, and those behind it
pub drop_at : (moves : List Move) (i : ℕ) (found : Option (Bor Move)) (move : Bor Move)
    → found ≡ Some move → IsItemAt moves i found → drop i moves ≡ move.now ∷ drop (i + 1) moves
drop_at moves i found move is h =
    let at = subst (IsItemAt moves i) is h in
    drop_more moves i move.now at.3.0 ∙ ap (λ m. m ∷ drop (i + 1) moves) (sym at.1)

-- none is left
pub drop_past : (moves : List Move) (i : ℕ) (found : Option (Bor Move))
    → ((move : Bor Move) → found ≡ Some move → ⊥) → IsItemAt moves i found → drop i moves ≡ []
drop_past moves i None none h = drop_all i moves h.3
drop_past moves i (Some move) none h = absurd (none move refl)

-- no move was made since
stayed : (moves : List Move) (r : Run) → HasGoneOn (record { moves = moves; run = r }) moves r
stayed moves r = record {
  steps = [];
  made = append-nil moves;
  plays = refl;
  config = refl;
  opened = refl;
}

module _ (c : Config) (old new : List Move) (before after : Run) (on : LeadsOn old before new after) where
  -- what was given at a moment was so also where the world has gone on
  was_on : (give : Giving) (since : ℕ) (move : Move) → WasGiven c old before give since move
      → WasGiven c new after give since move
  was_on give since move h =
      record { past = h.past; played = h.played; on = on h.past h.on; late = h.late; is = h.is }

  pub are_on : (moves : List Move) (gives : List Giving) (since place : ℕ)
      → AreGiven c old before gives since place moves → AreGiven c new after gives since place moves
  are_on [] gives since place h = h
  are_on (move ∷ moves) gives since place (inl h) =
      inl (h.0, h.1, h.2, was_on h.0 since move h.3, are_on moves h.1 (place + 1) (place + 1) h.4)
  are_on (move ∷ moves) gives since place (inr h) = inr (are_on moves gives since (place + 1) h)

  up_to_on : (moves : List Move) (gives : List Giving) (since place : ℕ) (left : List Giving) (last : ℕ)
      → AreGivenUpTo c old before gives since place moves left last
      → AreGivenUpTo c new after gives since place moves left last
  up_to_on [] gives since place left last h = h
  up_to_on (move ∷ moves) gives since place left last (inl h) = inl (
    h.0,
    h.1,
    h.2,
    was_on h.0 since move h.3,
    up_to_on moves h.1 (place + 1) (place + 1) left last h.4,
  )
  up_to_on (move ∷ moves) gives since place left last (inr h) =
      inr (up_to_on moves gives since (place + 1) left last h)

  held_on : (last : ℕ) (held : Option Move) (rest left : List Giving)
      → IsHeld c old before last held rest left → IsHeld c new after last held rest left
  held_on last None rest left h = h
  held_on last (Some move) rest left (inl h) = inl (h.0, h.1, was_on h.0 last move h.2)
  held_on last (Some move) rest left (inr same) = inr same

  counted_on : (gives : List Giving) (made : List Move) (held : Option Move) (left : List Giving)
      → AreCounted c old before gives made held left → AreCounted c new after gives made held left
  counted_on gives made held left h = record {
    rest = h.rest;
    last = h.last;
    within = h.within;
    given = up_to_on made gives 0 0 h.rest h.last h.given;
    holds = held_on h.last held h.rest left h.holds;
  }

module _ (c : Config) (all : List Move) (r : Run) where
  -- the source gave none of these
  none_more : (more : List Move) (gives : List Giving) (since place : ℕ) (left : List Giving) (last : ℕ)
      → gives ≡ left → since ≤ last → AreGivenUpTo c all r gives since place more left last
  none_more [] gives since place left last is before = (is, before)
  none_more (move ∷ more) gives since place left last is before =
      inr (none_more more gives since (place + 1) left last is before)

  up_to_more : (made more : List Move) (gives : List Giving) (since place : ℕ) (left : List Giving)
      (last : ℕ) → AreGivenUpTo c all r gives since place made left last
      → AreGivenUpTo c all r gives since place (made ++ more) left last
  up_to_more [] more gives since place left last h =
      none_more more gives since place left last h.0 h.1
  up_to_more (move ∷ made) more gives since place left last (inl h) =
      inl (h.0, h.1, h.2, h.3, up_to_more made more h.1 (place + 1) (place + 1) left last h.4)
  up_to_more (move ∷ made) more gives since place left last (inr h) =
      inr (up_to_more made more gives since (place + 1) left last h)

  -- the move behind the others is the next that the source gave
  up_to_given : (made : List Move) (step : Move) (gives : List Giving) (since place : ℕ)
      (left : List Giving) (last : ℕ) (give : Giving) (others : List Giving) (end : ℕ)
      → AreGivenUpTo c all r gives since place made left last → left ≡ give ∷ others
      → WasGiven c all r give last step → place + (length made + 1) ≤ end
      → AreGivenUpTo c all r gives since place (made ++ step ∷ []) others end
  up_to_given [] step gives since place left last give others end h is was behind =
      let before = h.1 in
      let late = was.late in
      inl (
        give,
        others,
        h.0 ∙ is,
        record {
          past = was.past;
          played = was.played;
          on = was.on;
          late = omega (arith, before, late);
          is = was.is;
        },
        (refl, omega (arith, behind)),
      )
  up_to_given (move ∷ made) step gives since place left last give others end (inl h) is was behind =
      inl (
        h.0,
        h.1,
        h.2,
        h.3,
        up_to_given made step h.1 (place + 1) (place + 1) left last give others end h.4 is was
            (omega (arith, behind)),
      )
  up_to_given (move ∷ made) step gives since place left last give others end (inr h) is was behind =
      inr (up_to_given made step gives since (place + 1) left last give others end h is was
      (omega (arith, behind)))

  -- none is left
  up_to_end : (made : List Move) (gives : List Giving) (since place : ℕ) (left : List Giving) (last : ℕ)
      → left ≡ [] → AreGivenUpTo c all r gives since place made left last
      → AreGiven c all r gives since place made
  up_to_end [] gives since place left last none h = h.0 ∙ none
  up_to_end (move ∷ made) gives since place left last none (inl h) =
      inl (h.0, h.1, h.2, h.3, up_to_end made h.1 (place + 1) (place + 1) left last none h.4)
  up_to_end (move ∷ made) gives since place left last none (inr h) =
      inr (up_to_end made gives since (place + 1) left last none h)

  -- moves count that the source did not give
  counted_more : (gives : List Giving) (made more : List Move) (held : Option Move) (left : List Giving)
      → AreCounted c all r gives made held left → AreCounted c all r gives (made ++ more) held left
  counted_more gives made more held left h =
      let long = length-append made more in
      let within = h.within in
      record {
        rest = h.rest;
        last = h.last;
        within = omega (arith, long, within);
        given = up_to_more made more gives 0 0 h.rest h.last h.given;
        holds = h.holds;
      }

  -- the move that was held counts, where the source gave it
  held_counts : (gives : List Giving) (made : List Move) (step : Move) (rest left : List Giving)
      (last : ℕ) → last ≤ length made → AreGivenUpTo c all r gives 0 0 made rest last
      → IsHeld c all r last (Some step) rest left
      → AreCounted c all r gives (made ++ step ∷ []) None left
  held_counts gives made step rest left last within h (inl was) =
      let long = length-append made (step ∷ []) in
      record {
        rest = left;
        last = length made + 1;
        within = omega (arith, long);
        given = up_to_given made step gives 0 0 rest last was.0 left (length made + 1) h was.1 was.2
            (omega arith);
        holds = refl;
      }
  held_counts gives made step rest left last within h (inr same) =
      let long = length-append made (step ∷ []) in
      record {
        rest = rest;
        last = last;
        within = omega (arith, long, within);
        given = up_to_more made (step ∷ []) gives 0 0 rest last h;
        holds = same;
      }

  counted_held : (gives : List Giving) (made : List Move) (step : Move) (left : List Giving)
      → AreCounted c all r gives made (Some step) left
      → AreCounted c all r gives (made ++ step ∷ []) None left
  counted_held gives made step left h =
      held_counts gives made step h.rest left h.last h.within h.given h.holds

  -- the move behind the others counts, and is held no longer
  counted_made : (gives : List Giving) (made : List Move) (step : Move) (old new : Option Move)
      (left : List Giving) → HoldsOn old step new → AreCounted c all r gives made old left
      → AreCounted c all r gives (made ++ step ∷ []) new left
  counted_made gives made step old new left (inl is) h =
      subst (λ o. AreCounted c all r gives (made ++ step ∷ []) o left) (sym is.1)
      (counted_held gives made step left (subst (λ o. AreCounted c all r gives made o left) is.0 h))
  counted_made gives made step old new left (inr same) h =
      subst (λ o. AreCounted c all r gives (made ++ step ∷ []) o left) (sym same)
      (counted_more gives made (step ∷ []) old left h)

  -- all moves count, where no turn is ahead
  drawing_all : (gives : List Giving) (ahead : Ahead) (held : Option Move) (left : List Giving)
      → ahead.turns ≡ 0 → AreCounted c all r gives all held left
      → IsDrawing c gives all r ahead held left
  drawing_all gives ahead held left none h = record {
    made = all;
    all = sym (ap (λ n. all ++ replicate n (Turn ahead.of_node)) none ∙ append-nil all);
    counted = h;
  }

  -- turns that are ahead may count
  counted_all : (gives : List Giving) (ahead : Ahead) (held : Option Move) (left : List Giving)
      → IsDrawing c gives all r ahead held left → AreCounted c all r gives all held left
  counted_all gives ahead held left d =
      subst (λ l. AreCounted c all r gives l held left) (sym d.all)
      (counted_more gives d.made (replicate ahead.turns (Turn ahead.of_node)) held left d.counted)

  -- the source gives a move
  drawing_asked : (gives : List Giving) (ahead : Ahead) (old left : List Giving) (move : Move)
      → IsPlayed c all r → GivesNext old r (Some move) left
      → IsDrawing c gives all r ahead None old → IsDrawing c gives all r ahead (Some move) left
  drawing_asked gives ahead old left move played (inl gave) d =
      let turns : List Move = replicate ahead.turns (Turn ahead.of_node) in
      let h = d.counted in
      let within = h.within in
      let long : length all ≡ length d.made + length turns =
      ap length d.all ∙ length-append d.made turns in
      record {
        made = d.made;
        all = d.all;
        counted = record {
          rest = h.rest;
          last = h.last;
          within = h.within;
          given = h.given;
          holds = inl (
            gave.0,
            h.holds ∙ gave.1,
            record {
              past = record { moves = all; run = r };
              played = played;
              on = stayed all r;
              late = omega (arith, within, long);
              is = gave.2;
            },
          );
        };
      }
  drawing_asked gives ahead old left move played (inr none) d =
      let h = d.counted in
      record {
        made = d.made;
        all = d.all;
        counted = record {
          rest = h.rest;
          last = h.last;
          within = h.within;
          given = h.given;
          holds = inr (h.holds ∙ none.0 ∙ sym none.1);
        };
      }

  -- the source has come to its end
  drawing_over : (gives : List Giving) (ahead : Ahead) (old left : List Giving)
      → GivesNext old r None left → IsDrawing c gives all r ahead None old
      → AreGiven c all r gives 0 0 all
  drawing_over gives ahead old left none d =
      let h = counted_all gives ahead None old d in
      up_to_end all gives 0 0 h.rest h.last (h.holds ∙ none.0) h.given

-- the drawn moves stay
pub drawn_stay : (drawn : ℕ) (old more new : List Move) → new ≡ old ++ more → drawn ≤ length old
    → take drawn new ≡ take drawn old
drawn_stay drawn old more new is within = ap (take drawn) is ∙ take-append-le drawn old more within

module _ (c : Config) (gives : List Giving) (old new : List Move) (before after : Run)
    (on : LeadsOn old before new after) where
  -- more moves, none of which the source gave
  drawing_more : (more : List Move) (ahead then : Ahead) (held : Option Move) (left : List Giving)
      → new ≡ old ++ more → then.turns ≡ 0 → IsDrawing c gives old before ahead held left
      → IsDrawing c gives new after then held left
  drawing_more more ahead then held left is none d =
      drawing_all c new after gives then held left none
      (subst (λ l. AreCounted c new after gives l held left) (sym is)
      (counted_more c new after gives old more held left
      (counted_on c old new before after on gives old held left
      (counted_all c old before gives ahead held left d))))

  -- the turns of a row are ahead
  drawing_row : (node most : ℕ) (ahead then : Ahead) (held : Option Move) (left : List Giving)
      (turns : AddsTurns node most old new) → then.turns ≡ turns.count → then.of_node ≡ node
      → IsDrawing c gives old before ahead held left → IsDrawing c gives new after then held left
  drawing_row node most ahead then held left turns count of d = record {
    made = old;
    all = turns.added ∙ (λ k. old ++ replicate (sym count k) (Turn (sym of k)));
    counted = counted_on c old new before after on gives old held left
        (counted_all c old before gives ahead held left d);
  }

  -- a move is made
  drawing_made : (step : Move) (ahead then : Ahead) (held holds : Option Move) (left : List Giving)
      → new ≡ old ++ step ∷ [] → then.turns ≡ 0 → HoldsOn held step holds
      → IsDrawing c gives old before ahead held left → IsDrawing c gives new after then holds left
  drawing_made step ahead then held holds left is none made d =
      drawing_all c new after gives then holds left none
      (subst (λ l. AreCounted c new after gives l holds left) (sym is)
      (counted_made c new after gives old step held holds left made
      (counted_on c old new before after on gives old held left
      (counted_all c old before gives ahead held left d))))

  settling_more : (more : List Move) (drawn then : ℕ) → new ≡ old ++ more → then ≡ drawn
      → drawn ≤ length old → AreDrawn c gives old drawn before → AreDrawn c gives new then after
  settling_more more drawn then is same within h =
      subst (λ l. AreGiven c new after gives 0 0 l)
      (sym (ap (λ n. take n new) same ∙ drawn_stay drawn old more new is within))
      (are_on c old new before after on (take drawn old) gives 0 0 h)

  -- a move was made
  pub given_made : (step : Move) (budget so_far : Budget) (ahead then : Ahead)
      (held holds : Option Move) (left : List Giving) → new ≡ old ++ step ∷ [] → then.turns ≡ 0
      → HoldsOn held step holds → so_far.is_settling ≡ budget.is_settling
      → (budget.is_settling ≡ true → so_far.drawn ≡ budget.drawn) → budget.drawn ≤ length old
      → IsGiven c gives old before budget ahead held left
      → IsGiven c gives new after so_far then holds left
  given_made step budget so_far ahead then held holds left is none made phase stays within h = record {
    drawing = λ drawing. drawing_made step ahead then held holds left is none made
        (h.drawing (sym phase ∙ drawing));
    settling = λ settling. settling_more (step ∷ []) budget.drawn so_far.drawn is
        (stays (sym phase ∙ settling)) within (h.settling (sym phase ∙ settling));
  }

  -- moves were made that the source did not give
  pub given_more : (more : List Move) (budget : Budget) (ahead then : Ahead) (held : Option Move)
      (left : List Giving) → new ≡ old ++ more → then.turns ≡ 0 → budget.drawn ≤ length old
      → IsGiven c gives old before budget ahead held left
      → IsGiven c gives new after budget then held left
  given_more more budget ahead then held left is none within h = record {
    drawing = λ drawing. drawing_more more ahead then held left is none (h.drawing drawing);
    settling = λ settling. settling_more more budget.drawn budget.drawn is refl within
        (h.settling settling);
  }

  -- the turns of a row were made
  pub given_row : (node most : ℕ) (budget so_far : Budget) (ahead then : Ahead) (held : Option Move)
      (left : List Giving) (turns : AddsTurns node most old new) → then.turns ≡ turns.count
      → then.of_node ≡ node → so_far.is_settling ≡ budget.is_settling
      → (budget.is_settling ≡ true → so_far.drawn ≡ budget.drawn) → budget.drawn ≤ length old
      → IsGiven c gives old before budget ahead held left
      → IsGiven c gives new after so_far then held left
  given_row node most budget so_far ahead then held left turns count of phase stays within h = record {
    drawing = λ drawing. drawing_row node most ahead then held left turns count of
        (h.drawing (sym phase ∙ drawing));
    settling = λ settling. settling_more (replicate turns.count (Turn node)) budget.drawn so_far.drawn
        turns.added (stays (sym phase ∙ settling)) within (h.settling (sym phase ∙ settling));
  }

-- the work of a node made a call, and no move was made
pub given_called : (c : Config) (gives : List Giving) (moves : List Move) (before after : Run)
    → LeadsOn moves before moves after → (budget : Budget) (ahead : Ahead) (held : Option Move)
    (left : List Giving) → IsGiven c gives moves before budget ahead held left
    → IsGiven c gives moves after budget ahead held left
given_called c gives moves before after on budget ahead held left h = record {
  drawing = λ drawing.
      let d = h.drawing drawing in
      record {
        made = d.made;
        all = d.all;
        counted = counted_on c moves moves before after on gives d.made held left d.counted;
      };
  settling = λ settling.
      are_on c moves moves before after on (take budget.drawn moves) gives 0 0 (h.settling settling);
}

-- no move was made
pub given_first : (c : Config) (gives : List Giving) (moves : List Move) (r : Run) (budget : Budget)
    (ahead : Ahead) (left : List Giving) → moves ≡ [] → budget.is_settling ≡ false
    → ahead.turns ≡ 0 → left ≡ gives → IsGiven c gives moves r budget ahead None left
given_first c gives moves r budget ahead left none drawing turns is = record {
  drawing = λ _. drawing_all c moves r gives ahead None left turns (record {
    rest = gives;
    last = 0;
    within = omega arith;
    given = none_more c moves r moves gives 0 0 gives 0 refl (omega arith);
    holds = sym is;
  });
  settling = λ settling. absurd (false≢true (sym drawing ∙ settling));
}

-- one more of so many
replicate_one : (first : List Move) (n m : ℕ) (move : Move) → n ≡ m + 1
    → first ++ replicate n move ≡ (first ++ move ∷ []) ++ replicate m move
replicate_one first n m move is =
    ap (λ k. first ++ replicate k move) (let e : n ≡ suc m = omega (arith, is) in e)
    ∙ sym (append_assoc first (move ∷ []) (replicate m move))

-- a turn that is ahead is asked for
drawing_ahead : (c : Config) (gives : List Giving) (moves : List Move) (r : Run) (step : Move)
    (ahead then : Ahead) (held holds : Option Move) (left : List Giving) → step ≡ Turn ahead.of_node
    → ahead.turns ≡ then.turns + 1 → then.of_node ≡ ahead.of_node → HoldsOn held step holds
    → IsDrawing c gives moves r ahead held left → IsDrawing c gives moves r then holds left
drawing_ahead c gives moves r step ahead then held holds left is fewer of made d = record {
  made = d.made ++ step ∷ [];
  all = d.all ∙ ap (λ m. d.made ++ replicate ahead.turns m) (sym is)
      ∙ replicate_one d.made ahead.turns then.turns step fewer
      ∙ ap (λ m. (d.made ++ step ∷ []) ++ replicate then.turns m) (is ∙ ap Turn (sym of));
  counted = counted_made c moves r gives d.made step held holds left made d.counted;
}

-- a turn that is ahead was asked for
pub given_ahead : (c : Config) (gives : List Giving) (moves : List Move) (r : Run) (step : Move)
    (budget : Budget) (ahead then : Ahead) (held holds : Option Move) (left : List Giving)
    → step ≡ Turn ahead.of_node → ahead.turns ≡ then.turns + 1 → then.of_node ≡ ahead.of_node
    → HoldsOn held step holds → IsGiven c gives moves r budget ahead held left
    → IsGiven c gives moves r budget then holds left
given_ahead c gives moves r step budget ahead then held holds left is fewer of made h = record {
  drawing = λ drawing. drawing_ahead c gives moves r step ahead then held holds left is fewer of made
      (h.drawing drawing);
  settling = h.settling;
}

-- no move is held
none_held : (held : Option Move) → ((move : Move) → held ≡ Some move → ⊥) → held ≡ None
none_held None other = refl
none_held (Some move) other = absurd (other move refl)

-- the source gave a move, while moves are drawn
pub given_asked : (c : Config) (gives : List Giving) (moves : List Move) (r : Run) (budget : Budget)
    (ahead : Ahead) (held : Option Move) (old left : List Giving) (next : Option Move) (move : Move)
    → ((move : Move) → held ≡ Some move → ⊥) → budget.is_settling ≡ false → next ≡ Some move
    → IsPlayed c moves r → GivesNext old r next left
    → IsGiven c gives moves r budget ahead held old
    → IsGiven c gives moves r budget ahead (Some move) left
given_asked c gives moves r budget ahead held old left next move none drawing is played gave h = record {
  drawing = λ _. drawing_asked c moves r gives ahead old left move played
      (subst (λ n. GivesNext old r n left) is gave)
      (subst (λ o. IsDrawing c gives moves r ahead o old) (none_held held none) (h.drawing drawing));
  settling = h.settling;
}

-- the source has come to its end
pub given_over : (c : Config) (gives : List Giving) (moves : List Move) (r : Run)
    (budget after : Budget) (ahead : Ahead) (held : Option Move) (old left : List Giving)
    (next : Option Move) → ((move : Move) → held ≡ Some move → ⊥) → budget.is_settling ≡ false
    → after.is_settling ≡ true → after.drawn ≡ length moves → next ≡ None
    → GivesNext old r next left → IsGiven c gives moves r budget ahead held old
    → IsGiven c gives moves r after ahead held left
given_over c gives moves r budget after ahead held old left next none drawing settling all is gave h =
    record {
      drawing = λ no. absurd (false≢true (sym no ∙ settling));
      settling = λ _. subst (λ l. AreGiven c moves r gives 0 0 l)
          (sym (ap (λ n. take n moves) all ∙ take-length moves))
          (drawing_over c moves r gives ahead old left
          (subst (λ n. GivesNext old r n left) is gave)
          (subst (λ o. IsDrawing c gives moves r ahead o old) (none_held held none)
          (h.drawing drawing)));
    }
