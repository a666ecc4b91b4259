-- What was stored before a word was raised is found after it was seen raised.
use Rattle.std.proofs.Common.{◌≡◌, ◌≢◌, ℕ, ◌/◌, ◌%◌, ◌^◌, ◌<◌, ◌≤◌, ◌⊎◌, inl, inr, false, List, [], ◌∷◌, ◌++◌}
use Rattle.std.proofs.Common.{if◌then◌else◌, refl, sym, ap, subst, ◌∙◌, append-nil, append_assoc}
use Rattle.std.proofs.Common.{mod-eq_of_lt, arith}
use Rattle.std.specs.List.{AllByRecursion as Each}
use Rattle.std.proofs.lemmas.Bool.{eq-eqb}
use Rattle.ivy_model.specs.declared.config.Config.{Config}
use Rattle.ivy_model.specs.declared.call.Record.{Record}
use Rattle.ivy_model.specs.declared.call.Reply.TheVariants.{Value}
use Rattle.ivy_model.specs.stated.Legal.{ServesAll}
use Rattle.ivy_model.specs.stated.Memory.{Memory}
use Rattle.ivy_model.proofs.Sizes.{leads_sized, serves_sized}
use Rattle.ivy_calls.specs.declared.answer.Answer.{Answer}
use Rattle.ivy_calls.specs.Answers.{by, answers, answers_of}
use Rattle.ivy_calls.proofs.Answers.{answers-append, answers_of-append}
use Rattle.ivy_sync.specs.Doing.{loads, stores}
use Rattle.ivy_sync.specs.HeapWords.{word, IsHeapWord, is_write_in, KeepsBelow, NoWrite}
use Rattle.ivy_sync.specs.HeapWords.{LeadsThrough}
use Rattle.ivy_sync.proofs.answers.Below.{StaysBelow, quiet_below, word_below}
use Rattle.ivy_sync.proofs.answers.Cuts.{OwnOr, part_cut, leads_cut, nodes_there, own_or, all_from}
use Rattle.ivy_sync.proofs.answers.HeapWords.{read_step, word_last, word_step}
use Rattle.ivy_sync.proofs.answers.Lists.{All-append, All-both, two_cuts}
use Rattle.ivy_sync.proofs.excluding.Locked.{in_other}
use Rattle.ivy_sync.proofs.excluding.Registers.{last-none}
use Rattle.ivy_sync.proofs.meeting.Phases.{no_write_whole}

-- At q is a word that only its owner raises. Answers of another node begin with a look that found it raised to a bound, or
-- there are none.
abbrev pub Guarded : ℕ → ℕ → List Answer → Type 0
Guarded q bound later =
    (later ≡ []) ⊎ ((found : ℕ) × (rest : List Answer) × (bound ≤ found) × (later ≡ loads q found ∷ rest))

-- x was stored in the word at d, and then the word at r, which was below the phase, was raised to it. Nothing more is stored
-- at d before the word at q was seen raised to the bound.
pub record Flags (d r phase q bound x : ℕ) (history : List Answer) : Type 0 where
  pub before : List Answer
  pub still : List Answer
  pub later : List Answer
  pub whole : history ≡ (before ++ stores d x ∷ []) ++ stores r phase ∷ (still ++ later)
  pub low : KeepsBelow r phase before
  pub left : NoWrite d still
  pub guarded : Guarded q bound later

-- The word at r was seen raised to the phase, and y found in the word at d behind that. Until then the word at q stays below
-- the bound.
pub record FindsFlagged (d r phase q bound y : ℕ) (history : List Answer) : Type 0 where
  pub before : List Answer
  pub found : ℕ
  pub between : List Answer
  pub after : List Answer
  pub enough : phase ≤ found
  pub whole : history ≡ (before ++ loads r found ∷ between) ++ loads d y ∷ after
  pub low : KeepsBelow q bound (before ++ loads r found ∷ between)

-- a word that all leave below a number is not seen at it
module _ (c : Config) (old mid : Memory) (rs : List Record) (a n : ℕ) (run : LeadsThrough c old rs mid)
    (at : IsHeapWord c a) (from : word c old a < n) (keeps : KeepsBelow a n (answers rs)) where
  pub not_seen : (i found : ℕ) (xs ys : List Answer) → answers_of i rs ≡ xs ++ loads a found ∷ ys
      → n ≤ found → ⊥
  not_seen i found xs ys is enough =
      let k = part_cut i rs xs (loads a found) ys is in
      let seen : Record = by i (loads a found) in
      let w = leads_cut c old mid k.front (seen ∷ k.back)
      (subst (λ (l : List Record). ServesAll c old l mid) k.whole run.led) in
      let some : KeepsBelow a n (answers k.front) =
      (All-append (StaysBelow a n) (answers k.front) (answers (seen ∷ k.back))
      (subst (KeepsBelow a n) (answers-append k.front (seen ∷ k.back))
      (subst (λ (l : List Record). KeepsBelow a n (answers l)) k.whole keeps))).0 in
      let less =
      word_below c old w.0 a n k.front
      (record { config = run.config; sized = run.sized; led = w.1 }) at some from in
      let same : Value found ≡ Value (word c w.0 a) =
      read_step c w.0 w.2.0 a (loads a found).call (loads a found).reply at (refl, refl, refl)
      w.2.1.served in
      let is : found ≡ word c w.0 a = cc in
      absurd (omega (arith, less, is, enough))

module _ (c : Config) (old new : Memory) (order : List Record) (d r phase q bound x y i j : ℕ)
    (run : LeadsThrough c old order new) (at : IsHeapWord c d) (at_flag : IsHeapWord c r)
    (at_guard : IsHeapWord c q) (apart : d / 8 ≢ r / 8) (from : word c old r < phase)
    (from_guard : word c old q < bound) (fits : x < 2 ^ 64)
    (flags : Flags d r phase q bound x (answers_of j order))
    (others : (m : ℕ) → m < c.nodes → (m ≡ j → ⊥) → NoWrite d (answers_of m order))
    (below : (m : ℕ) → m < c.nodes → (m ≡ j → ⊥) → KeepsBelow r phase (answers_of m order))
    (guard : (m : ℕ) → m < c.nodes → (m ≡ i → ⊥) → KeepsBelow q bound (answers_of m order))
    (finds : FindsFlagged d r phase q bound y (answers_of i order)) where
  abbrev look : Record
  look = by i (loads d y)

  -- the order up to that look
  front : List Record
  front = (part_cut i order (finds.before ++ loads r finds.found ∷ finds.between) (loads d y)
      finds.after finds.whole).front

  back : List Record
  back = (part_cut i order (finds.before ++ loads r finds.found ∷ finds.between) (loads d y)
      finds.after finds.whole).back

  whole : order ≡ front ++ look ∷ back
  unfolding front back
  whole = (part_cut i order (finds.before ++ loads r finds.found ∷ finds.between) (loads d y)
      finds.after finds.whole).whole

  mine : answers_of i front ≡ finds.before ++ loads r finds.found ∷ finds.between
  unfolding front
  mine = (part_cut i order (finds.before ++ loads r finds.found ∷ finds.between) (loads d y)
      finds.after finds.whole).fronts

  leads : (mid : Memory) × ServesAll c old front mid × ServesAll c mid (look ∷ back) new
  leads = leads_cut c old new front (look ∷ back) (subst (λ rs. ServesAll c old rs new) whole run.led)

  front_run : LeadsThrough c old front leads.0
  front_run = record { config = run.config; sized = run.sized; led = leads.1 }

  parts : (m : ℕ) → answers_of m front ++ answers_of m (look ∷ back) ≡ answers_of m order
  parts m = sym (answers_of-append m front (look ∷ back)) ∙ ap (answers_of m) (sym whole)

  -- what all but one node keep in the order they keep in its front
  of_front : (P : Answer → Type 0) (own : ℕ)
      → ((m : ℕ) → m < c.nodes → (m ≡ own → ⊥) → Each P (answers_of m order))
      → Each (OwnOr own P) front
  of_front P own h =
      (All-append (OwnOr own P) front (look ∷ back)
      (subst (Each (OwnOr own P)) whole
      (own_or P own c.nodes order (nodes_there c old new order run.led) h))).0

  -- so the flag was not seen raised where node j has not raised it
  flag_not_seen : KeepsBelow r phase (answers_of j front) → ⊥
  flag_not_seen own =
      not_seen c old leads.0 front r phase front_run at_flag from
      (all_from (StaysBelow r phase) j front (of_front (StaysBelow r phase) j below) own)
      i finds.found finds.before finds.between mine finds.enough

  -- and node j has not seen the guard raised
  guard_not_seen : (found : ℕ) (xs ys : List Answer)
      → answers_of j front ≡ xs ++ loads q found ∷ ys → bound ≤ found → ⊥
  guard_not_seen found xs ys is enough =
      not_seen c old leads.0 front q bound front_run at_guard from_guard
      (all_from (StaysBelow q bound) i front (of_front (StaysBelow q bound) i guard)
      (subst (KeepsBelow q bound) (sym mine) finds.low))
      j found xs ys is enough

  abbrev stored : List Answer
  stored = flags.before ++ stores d x ∷ []

  stored_low : KeepsBelow r phase stored
  stored_low =
      All-both (StaysBelow r phase) flags.before (stores d x ∷ []) flags.low
      (quiet_below r phase (stores d x) (in_other r d apart), tt)

  -- what it did since writes nothing there
  since : (es : List Answer) → answers_of j front ≡ stored ++ stores r phase ∷ es
      → flags.still ++ flags.later ≡ es ++ answers_of j (look ∷ back) → NoWrite d es
  since es so_far rest =
      elim (two_cuts flags.still flags.later es (answers_of j (look ∷ back)) rest) [
        | inl w ↦ past w.0 w.1 w.2
        | inr w ↦
            (All-append (λ (a : Answer). is_write_in d a.call ≡ false) es w.0
            (subst (NoWrite d) w.1 flags.left)).0
      ]
    where
      past : (ds : List Answer) → es ≡ flags.still ++ ds → flags.later ≡ ds ++ answers_of j (look ∷ back)
          → NoWrite d es
      past [] e later = subst (NoWrite d) (sym (e ∙ append-nil flags.still)) flags.left
      past (a ∷ ds) e later =
          elim flags.guarded [
            | inl none ↦ absurd (cc (none, later))
            | inr w ↦
                let same : a ≡ loads q w.0 = cc (w.3, later) in
                absurd (guard_not_seen w.0 ((stored ++ stores r phase ∷ []) ++ flags.still) ds
                (so_far ∙ ap (λ (l : List Answer). stored ++ stores r phase ∷ l) e
                ∙ ap (λ (b : Answer). stored ++ stores r phase ∷ (flags.still ++ b ∷ ds)) same
                ∙ sym (append_assoc stored (stores r phase ∷ []) (flags.still ++ loads q w.0 ∷ ds))
                ∙ sym (append_assoc (stored ++ stores r phase ∷ []) flags.still (loads q w.0 ∷ ds)))
                w.2)
          ]

  -- node j had raised it
  had_raised : (es : List Answer) × (answers_of j front ≡ stored ++ stores r phase ∷ es)
      × NoWrite d es
  had_raised =
      elim (two_cuts stored (stores r phase ∷ (flags.still ++ flags.later)) (answers_of j front)
      (answers_of j (look ∷ back)) (sym flags.whole ∙ sym (parts j))) [
        | inl w ↦ by_more w.0 w.1 w.2
        | inr w ↦
            absurd (flag_not_seen (All-append (StaysBelow r phase) (answers_of j front) w.0
            (subst (KeepsBelow r phase) w.1 stored_low)).0)
      ]
    where
      by_more : (ds : List Answer) → answers_of j front ≡ stored ++ ds
          → stores r phase ∷ (flags.still ++ flags.later) ≡ ds ++ answers_of j (look ∷ back)
          → (es : List Answer) × (answers_of j front ≡ stored ++ stores r phase ∷ es) × NoWrite d es
      by_more [] so_far rest =
          absurd (flag_not_seen
          (subst (KeepsBelow r phase) (sym (so_far ∙ append-nil stored)) stored_low))
      by_more (a ∷ es) so_far rest =
          let same : a ≡ stores r phase = cc rest in
          let tail : flags.still ++ flags.later ≡ es ++ answers_of j (look ∷ back) = cc rest in
          let so : answers_of j front ≡ stored ++ stores r phase ∷ es =
          so_far ∙ ap (λ (b : Answer). stored ++ b ∷ es) same in
          (es, so, since es so tail)

  -- and what it stored before is found
  pub found_flagged : y ≡ x
  found_flagged =
      let Q : Answer → Type 0 = λ a. is_write_in d a.call ≡ false in
      let rest : List Answer = stores r phase ∷ had_raised.0 in
      let k = part_cut j front flags.before (stores d x) rest
      (had_raised.1 ∙ append_assoc flags.before (stores d x ∷ []) rest) in
      let put : Record = by j (stores d x) in
      let w = leads_cut c old leads.0 k.front (put ∷ k.back)
      (subst (λ rs. ServesAll c old rs leads.0) k.whole leads.1) in
      let sized = leads_sized c old w.0 k.front run.config run.sized w.1 in
      let after = serves_sized c w.0 w.2.0 put.call put.reply run.config w.2.1.width sized w.2.1.served
      in
      let holds : word c w.2.0 d ≡ x =
      word_step c w.0 w.2.0 d put.call put.reply run.config sized at w.2.1.width (λ t. (refl, refl))
      w.2.1.served
      ∙ ap (λ b. if b then x % 2 ^ 64 else word c w.0 d) (eq-eqb (d / 8) (d / 8) refl)
      ∙ mod-eq_of_lt fits in
      let own : NoWrite d (answers_of j k.back) =
      subst (NoWrite d) (sym k.backs) (in_other d r (λ e. apart (sym e)), had_raised.2) in
      let cut : Each (OwnOr j Q) (k.front ++ put ∷ k.back) =
      subst (Each (OwnOr j Q)) k.whole (of_front Q j others) in
      let quiet : NoWrite d (answers k.back) =
      all_from Q j k.back ((All-append (OwnOr j Q) k.front (put ∷ k.back) cut).1).1 own in
      let still : word c leads.0 d ≡ word c w.2.0 d =
      word_last c w.2.0 leads.0 d k.back
      (record { config = run.config; sized = after; led = w.2.2 }) at
      (no_write_whole d (answers k.back) quiet)
      ∙ last-none d (word c w.2.0 d) (answers k.back) quiet in
      let read : Value y ≡ Value (word c leads.0 d) =
      read_step c leads.0 leads.2.0 d look.call look.reply at (refl, refl, refl) leads.2.1.served in
      let is : y ≡ word c leads.0 d = cc in
      is ∙ still ∙ holds
