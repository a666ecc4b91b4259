-- A barrier by a tree separates.
use Rattle.std.proofs.Common.{◌≡◌, ◌≢◌, ℕ, zero, suc, ◌+◌, ◌-◌, ◌*◌, ◌/◌, ◌<◌, ◌≤◌, ◌⊎◌, inl, inr, false}
use Rattle.std.proofs.Common.{List, [], ◌∷◌, ◌++◌, length, refl, sym, ap, subst, ◌∙◌, append_assoc}
use Rattle.std.proofs.Common.{append-nil, length-append, arith}
use Rattle.std.proofs.Math.Bridge.{le_prop}
use Rattle.std.specs.List.{AllByRecursion as Each}
use Rattle.std.proofs.lemmas.Bool.{cases_eq, cases_order}
use Rattle.ivy_model.specs.declared.config.Config.{Config}
use Rattle.ivy_model.specs.declared.call.Record.{Record}
use Rattle.ivy_model.specs.declared.call.Reply.TheVariants.{Value}
use Rattle.ivy_model.specs.stated.Legal.{ServesAll}
use Rattle.ivy_model.specs.stated.Memory.{Memory}
use Rattle.ivy_calls.specs.declared.answer.Answer.{Answer}
use Rattle.ivy_calls.specs.Answers.{by, answer, answers, answers_of}
use Rattle.ivy_calls.proofs.Answers.{answers-append}
use Rattle.ivy_sync.specs.meeting.Separated.{IsSeparated}
use Rattle.ivy_sync.specs.meeting.TreeBarriers.{children, Gathered, Awaits, ClimbsAt, IsTreePlace}
use Rattle.ivy_sync.specs.meeting.TreeBarriers.{TreeBarrierSeparates, TreePhasesShare}
use Rattle.ivy_sync.specs.Doing.{LooksUntil, loads, stores}
use Rattle.ivy_sync.specs.HeapWords.{word, IsHeapWord, is_write_in, KeepsBelow, NoWrite, LeadsThrough}
use Rattle.ivy_sync.proofs.answers.Below.{StaysBelow, looks_quiet, no_write_below, quiet_below, word_below}
use Rattle.ivy_sync.proofs.answers.Cuts.{part_cut, leads_cut, nodes_there, all_parts}
use Rattle.ivy_sync.proofs.answers.HeapWords.{read_step}
use Rattle.ivy_sync.proofs.answers.Lists.{All-append, All-both, short_prefix, two_cuts}
use Rattle.ivy_sync.proofs.excluding.Locked.{in_other}
use Rattle.ivy_sync.proofs.meeting.FirstOut.{IsFirstOut, HasCome, first_out, come_or_not, left_of}
use Rattle.ivy_sync.proofs.meeting.FirstOut.{last_of, out_leads, separated}
use Rattle.ivy_sync.proofs.meeting.SeparatedPhases.{shared_on}

-- looks at words write nothing
pub until_quiet : (d a least : ℕ) (looks : List Answer) → LooksUntil a least looks → NoWrite d looks
until_quiet d a least looks w =
    subst (NoWrite d) (sym w.whole)
    (All-both (λ (r : Answer). is_write_in d r.call ≡ false) w.vain (loads a w.found ∷ [])
    (looks_quiet d a least w.vain w.each) (refl, tt))

pub gathered_quiet : (d : ℕ) (raised : ℕ → ℕ) (phase first more : ℕ) (looks : List Answer)
    → Gathered raised phase first more looks → NoWrite d looks
gathered_quiet d raised phase first zero looks w = subst (NoWrite d) (sym w) tt
gathered_quiet d raised phase first (suc more) looks w =
    subst (NoWrite d) (sym w.4)
    (All-both (λ (r : Answer). is_write_in d r.call ≡ false) w.0 w.1
    (gathered_quiet d raised phase first more w.0 w.2)
    (until_quiet d (raised (first + more)) phase w.1 w.3))

pub awaits_quiet : (d : ℕ) (opened : ℕ → ℕ) (phase i : ℕ) (looks : List Answer)
    → Awaits opened phase i looks → NoWrite d looks
awaits_quiet d opened phase zero looks w = subst (NoWrite d) (sym w) tt
awaits_quiet d opened phase (suc i) looks w = until_quiet d (opened (i / 4)) phase looks w

-- among these answers is a look at the word at a that found at least so much
pub record HasSeen (a least : ℕ) (looks : List Answer) : Type 0 where
  pub front : List Answer
  pub found : ℕ
  pub back : List Answer
  pub enough : least ≤ found
  pub whole : looks ≡ front ++ loads a found ∷ back

pub until_seen : (a least : ℕ) (looks : List Answer) → LooksUntil a least looks → HasSeen a least looks
until_seen a least looks w =
    record { front = w.vain; found = w.found; back = []; enough = w.enough; whole = w.whole }

seen_before : (a least : ℕ) (xs ys : List Answer) → HasSeen a least ys → HasSeen a least (xs ++ ys)
seen_before a least xs ys w = record {
  front = xs ++ w.front;
  found = w.found;
  back = w.back;
  enough = w.enough;
  whole = ap (λ (l : List Answer). xs ++ l) w.whole
      ∙ sym (append_assoc xs w.front (loads a w.found ∷ w.back));
}

seen_behind : (a least : ℕ) (xs ys : List Answer) → HasSeen a least xs → HasSeen a least (xs ++ ys)
seen_behind a least xs ys w = record {
  front = w.front;
  found = w.found;
  back = w.back ++ ys;
  enough = w.enough;
  whole = ap (λ (l : List Answer). l ++ ys) w.whole
      ∙ append_assoc w.front (loads a w.found ∷ w.back) ys;
}

-- each child's word was seen raised
pub gathered_seen : (raised : ℕ → ℕ) (phase first more : ℕ) (looks : List Answer)
    → Gathered raised phase first more looks → (k : ℕ) → k < more
    → HasSeen (raised (first + k)) phase looks
gathered_seen raised phase first zero looks w k l = absurd (omega (arith, l))
gathered_seen raised phase first (suc more) looks w k l =
    subst (HasSeen (raised (first + k)) phase) (sym w.4)
    (elim (cases_order k more) [
      | inl same ↦
          seen_before (raised (first + k)) phase w.0 w.1
          (subst (λ (n : ℕ). HasSeen (raised (first + n)) phase w.1) (sym same)
          (until_seen (raised (first + more)) phase w.1 w.3))
      | inr other ↦ elim other [
        | inl below ↦
            seen_behind (raised (first + k)) phase w.0 w.1
            (gathered_seen raised phase first more w.0 w.2 k below)
        | inr above ↦ absurd (omega (arith, l, above))
      ]
    ])

module _ (c : Config) (old new : Memory) (order : List Record) (raised opened : ℕ → ℕ) (phase : ℕ)
    (before during after : (i : ℕ) → i < c.nodes → List Answer)
    (run : LeadsThrough c old order new) (place : IsTreePlace c old raised opened phase)
    (climb : (i : ℕ) (l : i < c.nodes)
    → ClimbsAt raised opened c.nodes phase i (before i l) (during i l) (after i l) (answers_of i order))
  where
    -- what a node does before it raises its word, and then until the last of it
    abbrev low : (i : ℕ) → i < c.nodes → List Answer
    low i l = before i l ++ (climb i l).climbs.gathered

    abbrev rest : (i : ℕ) → i < c.nodes → List Answer
    rest i l = (climb i l).climbs.waited ++ stores (opened i) phase ∷ []

    abbrev quiet : (i : ℕ) → i < c.nodes → List Answer
    quiet i l = low i l ++ stores (raised i) phase ∷ (climb i l).climbs.waited

    upto_low : (i : ℕ) (l : i < c.nodes)
        → before i l ++ during i l ≡ low i l ++ stores (raised i) phase ∷ rest i l
    upto_low i l =
        let w = (climb i l).climbs in
        ap (λ (rs : List Answer). before i l ++ rs)
        (w.whole ∙ append_assoc w.gathered (stores (raised i) phase ∷ []) (rest i l))
        ∙ sym (append_assoc (before i l) w.gathered (stores (raised i) phase ∷ rest i l))

    upto_is : (i : ℕ) (l : i < c.nodes)
        → before i l ++ during i l ≡ quiet i l ++ stores (opened i) phase ∷ []
    upto_is i l =
        upto_low i l
        ∙ sym (append_assoc (low i l) (stores (raised i) phase ∷ (climb i l).climbs.waited)
        (stores (opened i) phase ∷ []))

    -- until the last of it no word that is opened is, and until then no other one's that is raised
    low_quiet : (d : ℕ) (i : ℕ) (l : i < c.nodes) → KeepsBelow d phase (before i l)
        → KeepsBelow d phase (low i l)
    low_quiet d i l keeps =
        let w = (climb i l).climbs in
        All-both (StaysBelow d phase) (before i l) w.gathered keeps
        (no_write_below d phase w.gathered
        (gathered_quiet d raised phase (4 * i + 1) (children c.nodes i) w.gathered w.gathers))

    quiet_low : (d : ℕ) (i : ℕ) (l : i < c.nodes) → KeepsBelow d phase (before i l)
        → d / 8 ≢ raised i / 8 → KeepsBelow d phase (quiet i l)
    quiet_low d i l keeps apart =
        let w = (climb i l).climbs in
        All-both (StaysBelow d phase) (low i l) (stores (raised i) phase ∷ w.waited)
        (low_quiet d i l keeps) (
          quiet_below d phase (stores (raised i) phase) (in_other d (raised i) (λ e. apart (sym e))),
          no_write_below d phase w.waited (awaits_quiet d opened phase i w.waited w.awaits),
        )

    some : 0 < c.nodes
    some = let from = run.config.nodes_from in omega (arith, from)

    out : IsFirstOut c order (λ i l. before i l ++ during i l) after
    out =
        first_out c (λ i l. before i l ++ during i l) after [] order
        (nodes_there c old new order run.led) some (λ i l. (climb i l).whole)
        (λ i l.
        let whole : length (before i l ++ during i l)
        ≡ length (quiet i l ++ stores (opened i) phase ∷ []) = ap length (upto_is i l) in
        let sum = length-append (quiet i l) (stores (opened i) phase ∷ []) in
        omega (arith, whole, sum))

    leads : (mid : Memory) × ServesAll c old out.front mid
        × ServesAll c mid (out.leaver ∷ out.back) new
    leads = out_leads c old new order before during after run.led out

    there : Each (λ (r : Record). r.node < c.nodes) out.front
    there = nodes_there c old leads.0 out.front leads.1

    begins : (i : ℕ) (l : i < c.nodes)
        → (es : List Answer) × (quiet i l ≡ answers_of i out.front ++ es)
    begins i l =
        short_prefix (quiet i l) (stores (opened i) phase) (answers_of i out.front)
        (out.each i l).next (out.each i l).more (sym (upto_is i l) ∙ (out.each i l).fronts)

    quiet_part : (d : ℕ) (i : ℕ) (l : i < c.nodes) → KeepsBelow d phase (quiet i l)
        → KeepsBelow d phase (answers_of i out.front)
    quiet_part d i l keeps =
        (All-append (StaysBelow d phase) (answers_of i out.front) (begins i l).0
        (subst (KeepsBelow d phase) (begins i l).1 keeps)).0

    -- a word that all leave below the phase in the front is not seen above it there
    module _ (d : ℕ) (at : IsHeapWord c d) (from : word c old d < phase)
        (keeps : (i : ℕ) → i < c.nodes → KeepsBelow d phase (answers_of i out.front)) where
      not_seen : (i : ℕ) (xs ys : List Answer) (found : ℕ) → phase ≤ found
          → answers_of i out.front ≡ xs ++ loads d found ∷ ys → ⊥
      not_seen i xs ys found enough is =
          let k = part_cut i out.front xs (loads d found) ys is in
          let look : Record = by i (loads d found) in
          let w = leads_cut c old leads.0 k.front (look ∷ k.back)
          (subst (λ rs. ServesAll c old rs leads.0) k.whole leads.1) in
          let all : KeepsBelow d phase (answers out.front) =
          all_parts (StaysBelow d phase) c.nodes out.front there keeps in
          let part : KeepsBelow d phase (answers k.front) =
          (All-append (StaysBelow d phase) (answers k.front) (answers (look ∷ k.back))
          (subst (KeepsBelow d phase) (answers-append k.front (look ∷ k.back))
          (subst (λ (rs : List Record). KeepsBelow d phase (answers rs)) k.whole all))).0 in
          let less =
          word_below c old w.0 d phase k.front
          (record { config = run.config; sized = run.sized; led = w.1 }) at part from in
          let same : Value found ≡ Value (word c w.0 d) =
          read_step c w.0 w.2.0 d (loads d found).call (loads d found).reply at (refl, refl, refl)
          w.2.1.served in
          let is : found ≡ word c w.0 d = cc in
          absurd (omega (arith, less, is, enough))

    -- no open word is seen there, so the first who goes through is node 0
    open_shut : (n : ℕ) → n < c.nodes → (i : ℕ) → i < c.nodes
        → KeepsBelow (opened n) phase (answers_of i out.front)
    open_shut n p i l =
        quiet_part (opened n) i l
        (quiet_low (opened n) i l ((climb i l).open_low n p)
        (λ e. place.both_apart i n l p (sym e)))

    out_is : quiet out.leaver.node out.there ≡ answers_of out.leaver.node out.front
    out_is =
        last_of (quiet out.leaver.node out.there) (answers_of out.leaver.node out.front)
        (begins out.leaver.node out.there).0 (stores (opened out.leaver.node) phase)
        (answer out.leaver) (begins out.leaver.node out.there).1
        (sym (upto_is out.leaver.node out.there) ∙ out.out)

    not_below : (i : ℕ) (l : i < c.nodes) → quiet i l ≡ answers_of i out.front → (j : ℕ) → i ≡ suc j
        → ⊥
    not_below i l is j e =
        let w = (climb i l).climbs in
        let above : j / 4 < c.nodes = omega (arith, l, e) in
        let looks : LooksUntil (opened (j / 4)) phase w.waited =
        subst (λ (n : ℕ). Awaits opened phase n w.waited) e w.awaits in
        let all : quiet i l ≡ (low i l ++ stores (raised i) phase ∷ []) ++ w.waited =
        sym (append_assoc (low i l) (stores (raised i) phase ∷ []) w.waited) in
        let seen = seen_before (opened (j / 4)) phase (low i l ++ stores (raised i) phase ∷ [])
        w.waited (until_seen (opened (j / 4)) phase w.waited looks) in
        not_seen (opened (j / 4)) (place.open_words (j / 4) above) (place.open_low (j / 4) above)
        (open_shut (j / 4) above) i seen.front seen.back seen.found seen.enough
        (sym is ∙ all ∙ seen.whole)

    -- a node has raised its word in the front
    abbrev HasRaised : (i : ℕ) → i < c.nodes → Type 0
    HasRaised i l = (es : List Answer)
        × (answers_of i out.front ≡ (low i l ++ stores (raised i) phase ∷ []) ++ es)

    root : HasRaised 0 some
    root = by_node out.leaver.node out.there out_is
      where
        by_node : (i : ℕ) (l : i < c.nodes) → quiet i l ≡ answers_of i out.front → HasRaised 0 some
        by_node zero l is =
            subst (λ (m : 0 < c.nodes). HasRaised 0 m) (le_prop l some) (
              (climb 0 l).climbs.waited,
              sym is ∙ sym (append_assoc (low 0 l) (stores (raised 0) phase ∷ [])
                  (climb 0 l).climbs.waited),
            )
        by_node (suc j) l is = absurd (not_below (suc j) l is j refl)

    raised_or_low : (i : ℕ) (l : i < c.nodes)
        → HasRaised i l ⊎ ((ds : List Answer) × (low i l ≡ answers_of i out.front ++ ds))
    raised_or_low i l =
        let still = out.each i l in
        elim (two_cuts (low i l) (stores (raised i) phase ∷ rest i l) (answers_of i out.front)
        (still.next ∷ still.more) (sym (upto_low i l) ∙ still.fronts)) [
          | inl w ↦ by_more w.0 w.1 w.2
          | inr w ↦ inr (w.0, w.1)
        ]
      where
        by_more : (ds : List Answer) → answers_of i out.front ≡ low i l ++ ds
            → stores (raised i) phase ∷ rest i l
            ≡ ds ++ (out.each i l).next ∷ (out.each i l).more
            → HasRaised i l ⊎ ((ds : List Answer) × (low i l ≡ answers_of i out.front ++ ds))
        by_more [] front back =
            inr ([], sym (append-nil (low i l)) ∙ sym front ∙ sym (append-nil (answers_of i out.front)))
        by_more (d ∷ ds) front back =
            let same : stores (raised i) phase ≡ d = cc back in
            inl (
              ds,
              front ∙ ap (λ (x : Answer). low i l ++ x ∷ ds) (sym same)
                  ∙ sym (append_assoc (low i l) (stores (raised i) phase ∷ []) ds),
            )

    -- a node whose parent has raised its word has done so before
    child_first : (j : ℕ) (l : suc j < c.nodes) (m : j / 4 < c.nodes) → HasRaised (j / 4) m
        → HasRaised (suc j) l
    child_first j l m parent =
        elim (raised_or_low (suc j) l) [
          | inl h ↦ h
          | inr w ↦
              let p : ℕ = j / 4 in
              let k : ℕ = j - 4 * p in
              let is : 4 * p + 1 + k ≡ suc j = omega arith in
              let up = (climb p m).climbs in
              let few : k < children c.nodes p = omega (arith, l) in
              let seen : HasSeen (raised (suc j)) phase up.gathered =
              subst (λ (n : ℕ). HasSeen (raised n) phase up.gathered) is
              (gathered_seen raised phase (4 * p + 1) (children c.nodes p) up.gathered up.gathers k
              few) in
              let all =
              seen_behind (raised (suc j)) phase (low p m ++ stores (raised p) phase ∷ []) parent.0
              (seen_behind (raised (suc j)) phase (low p m) (stores (raised p) phase ∷ [])
              (seen_before (raised (suc j)) phase (before p m) up.gathered seen)) in
              absurd (not_seen (raised (suc j)) (place.raised_words (suc j) l)
              (place.raised_low (suc j) l) (others w.0 w.1) p all.front all.back all.found all.enough
              (parent.1 ∙ all.whole))
        ]
      where
        others : (ds : List Answer) → low (suc j) l ≡ answers_of (suc j) out.front ++ ds → (i : ℕ)
            → i < c.nodes → KeepsBelow (raised (suc j)) phase (answers_of i out.front)
        others ds is i n =
            elim (cases_eq i (suc j)) [
              | inl same ↦
                  subst (λ (x : ℕ). KeepsBelow (raised (suc j)) phase (answers_of x out.front))
                  (sym same)
                  (All-append (StaysBelow (raised (suc j)) phase) (answers_of (suc j) out.front) ds
                  (subst (KeepsBelow (raised (suc j)) phase) is
                  (low_quiet (raised (suc j)) (suc j) l ((climb (suc j) l).raised_low (suc j) l)))).0
              | inr ne ↦
                  quiet_part (raised (suc j)) i n
                  (quiet_low (raised (suc j)) i n ((climb i n).raised_low (suc j) l)
                  (place.raised_apart (suc j) i (λ e. ne (sym e))))
            ]

    all_raised : (n i : ℕ) → i < n → (l : i < c.nodes) → HasRaised i l
    all_raised zero i less l = absurd (omega (arith, less))
    all_raised (suc n) zero less l =
        subst (λ (m : 0 < c.nodes). HasRaised 0 m) (le_prop some l) root
    all_raised (suc n) (suc j) less l =
        let m : j / 4 < c.nodes = omega (arith, l) in
        child_first j l m (all_raised n (j / 4) (omega (arith, less)) m)

    come : (i : ℕ) (l : i < c.nodes)
        → HasCome (before i l) (during i l) (answers_of i out.front)
        (left_of c old new order before during after run.led out i l)
    come i l =
        elim (come_or_not (before i l) (during i l) (answers_of i out.front)
        (left_of c old new order before during after run.led out i l) (out.each i l).fronts) [
          | inl h ↦ h
          | inr w ↦
              let up = all_raised (suc i) i (omega arith) l in
              let gathered : List Answer = (climb i l).climbs.gathered in
              let front : length (answers_of i out.front)
              ≡ length ((low i l ++ stores (raised i) phase ∷ []) ++ up.0) = ap length up.1 in
              let one = length-append (low i l ++ stores (raised i) phase ∷ []) up.0 in
              let two = length-append (low i l) (stores (raised i) phase ∷ []) in
              let three = length-append (before i l) gathered in
              let all : length (before i l) ≡ length (answers_of i out.front ++ w.0 ∷ w.1) =
              ap length w.2 in
              let four = length-append (answers_of i out.front) (w.0 ∷ w.1) in
              absurd (omega (arith, front, one, two, three, all, four))
        ]

    pub is_separated : IsSeparated c old order new before during after
    is_separated = separated c old new order before during after run.led out come

    -- at the barrier a node writes in its own two words alone
    pub during_quiet : (d : ℕ) → ((n : ℕ) → n < c.nodes → (d / 8 ≢ raised n / 8) × (d / 8 ≢ opened n / 8))
        → (i : ℕ) (l : i < c.nodes) → NoWrite d (during i l)
    during_quiet d apart i l =
        let w = (climb i l).climbs in
        let Q : Answer → Type 0 = λ r. is_write_in d r.call ≡ false in
        subst (NoWrite d) (sym w.whole)
        (All-both Q (w.gathered ++ stores (raised i) phase ∷ [])
        (w.waited ++ stores (opened i) phase ∷ [])
        (All-both Q w.gathered (stores (raised i) phase ∷ [])
        (gathered_quiet d raised phase (4 * i + 1) (children c.nodes i) w.gathered w.gathers)
        (in_other d (raised i) (λ e. (apart i l).0 (sym e)), tt))
        (All-both Q w.waited (stores (opened i) phase ∷ [])
        (awaits_quiet d opened phase i w.waited w.awaits)
        (in_other d (opened i) (λ e. (apart i l).1 (sym e)), tt)))

pub tree_barrier-separates : TreeBarrierSeparates
tree_barrier-separates c old new order raised opened phase before during after run place climb =
    is_separated c old new order raised opened phase before during after run place climb

pub tree_phases-share : TreePhasesShare
tree_phases-share c old new order raised opened phase before during after d i l run place climb at
    apart whole others left j m =
    shared_on c old new order before during after d run
    (is_separated c old new order raised opened phase before during after run place climb) at
    (during_quiet c old new order raised opened phase before during after run place climb d apart) i l
    whole others left j m
