-- What was stored before an advance is loaded after its await.
use Rattle.std.proofs.Common.{◌≡◌, ℕ, ◌+◌, ◌<◌, ◌⊎◌, inl, inr, false, List, [], ◌∷◌, ◌++◌}
use Rattle.std.proofs.Common.{refl, sym, ap, subst, ◌∙◌, append-nil, append_assoc, arith}
use Rattle.std.specs.List.{AllByRecursion as Each}
use Rattle.ivy_model.specs.declared.config.Config.{Config}
use Rattle.ivy_model.specs.declared.call.Record.{Record}
use Rattle.ivy_model.specs.declared.call.Reply.TheVariants.{Value}
use Rattle.ivy_model.specs.stated.Memory.{Memory}
use Rattle.ivy_model.specs.stated.Legal.{ServesAll}
use Rattle.ivy_calls.specs.declared.answer.Answer.{Answer}
use Rattle.ivy_calls.specs.Answers.{by, answers, answers_of}
use Rattle.ivy_calls.proofs.Answers.{answers_of-append}
use Rattle.ivy_sync.specs.meeting.Counts.{is_advance_of, raised, times_advanced}
use Rattle.ivy_sync.specs.Doing.{arrives, passes}
use Rattle.ivy_sync.specs.HeapWords.{word, IsHeapWord, is_write_in, NoWrite, IsWhole, Reads, last}
use Rattle.ivy_sync.specs.HeapWords.{LeadsThrough}
use Rattle.ivy_sync.specs.queueing.Messages.{AdvancesAlone, WritesAlone, AwaitsMore, MessagesPass}
use Rattle.ivy_sync.proofs.meeting.Counting.{tally-times_advanced, reached}
use Rattle.ivy_sync.proofs.answers.Cuts.{OwnOr, part_cut, leads_cut, nodes_there, own_or, all_from}
use Rattle.ivy_sync.proofs.answers.Lists.{two_cuts, short_prefix, All-append, All-both}
use Rattle.ivy_sync.proofs.answers.AnswerTotals.{tally, tally-append}
use Rattle.ivy_sync.proofs.answers.HeapWords.{word_last, read_step, whole_quiet}
use Rattle.ivy_sync.proofs.excluding.Registers.{last-append, last-none, last_part}
use Rattle.ivy_sync.proofs.meeting.Phases.{no_write_whole}

-- each advance of k is node i's, and each write to d
abbrev pub Advancer : ℕ → ℕ → Record → Type 0
Advancer k i = OwnOr i (λ (r : Answer). is_advance_of k r.call ≡ false)

abbrev pub Writer : ℕ → ℕ → Record → Type 0
Writer d i = OwnOr i (λ (r : Answer). is_write_in d r.call ≡ false)

-- the list begins with what stands up to the advance, as the count tells
reaches : (k : ℕ) (before ps qs later : List Answer)
    → ps ++ qs ≡ (before ++ arrives k ∷ []) ++ later
    → tally (raised k) before < tally (raised k) ps
    → (ds : List Answer) × (ps ≡ (before ++ arrives k ∷ []) ++ ds) × (later ≡ ds ++ qs)
reaches k before ps qs later e less =
    elim (two_cuts ps qs (before ++ arrives k ∷ []) later e) [
      | inl w ↦ short w.0 w.1 w.2
      | inr w ↦ w
    ]
  where
    short : (ds : List Answer) → before ++ arrives k ∷ [] ≡ ps ++ ds → qs ≡ ds ++ later
        → (es : List Answer) × (ps ≡ (before ++ arrives k ∷ []) ++ es) × (later ≡ es ++ qs)
    short [] front back = (
      [],
      sym (append-nil ps) ∙ sym front ∙ sym (append-nil (before ++ arrives k ∷ [])),
      sym back,
    )
    short (d ∷ ds) front back =
        (let w = short_prefix before (arrives k) ps d ds front in
        let sum = tally-append (raised k) ps w.0 in
        let whole = ap (tally (raised k)) w.1 in
        absurd (omega (arith, sum, whole, less)))

module _ (c : Config) (old new : Memory) (order : List Record) (d k count i j : ℕ)
    (before during later start so_far rest : List Answer) (r : Answer) (least found : ℕ)
    (run : LeadsThrough c old order new) (place : IsHeapWord c d)
    (sends : AdvancesAlone c old order k count i)
    (writes : WritesAlone c order d i)
    (sender : answers_of i order ≡ (before ++ arrives k ∷ []) ++ (during ++ later))
    (front back : List Record)
    (cut : order ≡ front ++ by j r ∷ back)
    (mine : answers_of j front ≡ start ++ passes k least found ∷ so_far)
    (enough : count + times_advanced k before < least)
    (whole : Each (λ (s : Answer). IsWhole d s.call) before) (quiet : NoWrite d during)
    (waits : (later ≡ []) ⊎ AwaitsMore c old order j (start ++ passes k least found ∷ so_far) later)
  where
    abbrev pass : Answer
    pass = passes k least found

    leads : (mid : Memory) × ServesAll c old front mid × ServesAll c mid (by j r ∷ back) new
    leads = leads_cut c old new front (by j r ∷ back) (subst (λ rs. ServesAll c old rs new) cut
        run.led)

    front_part : (m : ℕ) → answers_of m front ++ answers_of m (by j r ∷ back) ≡ answers_of m order
    front_part m = sym (answers_of-append m front (by j r ∷ back)) ∙ ap (answers_of m) (sym cut)

    of_front : (P : Answer → Type 0)
        → ((m : ℕ) → m < c.nodes → (m ≡ i → ⊥) → Each P (answers_of m order))
        → Each (OwnOr i P) front
    of_front P h =
        (All-append (OwnOr i P) front (by j r ∷ back)
        (subst (Each (OwnOr i P)) cut
        (own_or P i c.nodes order (nodes_there c old new order run.led) h))).0

    -- node i had made the advance
    passed : tally (raised k) before < tally (raised k) (answers_of i front)
    passed =
        let w = part_cut j front start pass so_far mine in
        let wants =
        reached c old leads.0 w.front (by j pass) w.back k count least found i refl
        (subst (λ rs. ServesAll c old rs leads.0) w.whole leads.1) sends.first
        (subst (Each (Advancer k i)) w.whole
        (of_front (λ (q : Answer). is_advance_of k q.call ≡ false) sends.alone)) in
        let sum = tally-append (raised k) (answers_of i w.front) (answers_of i (by j pass ∷
        w.back)) in
        let parts : answers_of i front ≡ answers_of i w.front ++ answers_of i (by j pass ∷ w.back) =
        ap (answers_of i) w.whole ∙ answers_of-append i w.front (by j pass ∷ w.back) in
        let all = ap (tally (raised k)) parts in
        let so_many = tally-times_advanced k before in
        omega (arith, wants, sum, all, so_many, enough)

    done : (ds : List Answer) × (answers_of i front ≡ (before ++ arrives k ∷ []) ++ ds)
        × (during ++ later ≡ ds ++ answers_of i (by j r ∷ back))
    done =
        reaches k before (answers_of i front) (answers_of i (by j r ∷ back)) (during ++ later)
        (front_part i ∙ sender) passed

    -- node i has not got past an await of more
    not_past : (es : List Answer) (w : AwaitsMore c old order j (start ++ pass ∷ so_far) later)
        → answers_of i front
        ≡ ((before ++ arrives k ∷ []) ++ during) ++ passes w.back w.least w.found ∷ es → ⊥
    not_past es w e =
        let u =
        part_cut i front ((before ++ arrives k ∷ []) ++ during) (passes w.back w.least w.found) es
        e in
        let advancers =
        (All-append (Advancer w.back j) front (by j r ∷ back)
        (subst (Each (Advancer w.back j)) cut
        (own_or (λ (q : Answer). is_advance_of w.back q.call ≡ false) j c.nodes order
        (nodes_there c old new order run.led) w.only.alone))).0 in
        let wants =
        reached c old leads.0 u.front (by i (passes w.back w.least w.found)) u.back w.back w.count
        w.least w.found j refl
        (subst (λ rs. ServesAll c old rs leads.0) u.whole leads.1) w.only.first
        (subst (Each (Advancer w.back j)) u.whole advancers) in
        let sum = tally-append (raised w.back) (answers_of j u.front)
        (answers_of j (by i (passes w.back w.least w.found) ∷ u.back)) in
        let parts : answers_of j front
        ≡ answers_of j u.front ++ answers_of j (by i (passes w.back w.least w.found) ∷ u.back) =
        ap (answers_of j) u.whole ∙ answers_of-append j u.front (by i (passes w.back w.least
        w.found) ∷ u.back) in
        let all = ap (tally (raised w.back)) parts in
        let history = ap (tally (raised w.back)) mine in
        let so_many = tally-times_advanced w.back (start ++ pass ∷ so_far) in
        let more = w.more in
        absurd (omega (arith, wants, sum, all, history, so_many, more))

    past : (q : Answer) (es : List Answer) → later ≡ q ∷ (es ++ answers_of i (by j r ∷ back))
        → answers_of i front ≡ ((before ++ arrives k ∷ []) ++ during) ++ q ∷ es
        → (later ≡ []) ⊎ AwaitsMore c old order j (start ++ pass ∷ so_far) later → ⊥
    past q es e at (inl none) = absurd (cc (none, e))
    past q es e at (inr w) =
        let same : passes w.back w.least w.found ≡ q = cc (w.whole, e) in
        not_past es w (at ∙ ap (λ x. ((before ++ arrives k ∷ []) ++ during) ++ x ∷ es) (sym same))

    nothing_by : (ds : List Answer) → answers_of i front ≡ (before ++ arrives k ∷ []) ++ ds
        → ((es : List Answer) × (ds ≡ during ++ es) × (later ≡ es ++ answers_of i (by j r ∷ back)))
        ⊎ ((es : List Answer) × (during ≡ ds ++ es) × (answers_of i (by j r ∷ back) ≡ es ++ later))
        → NoWrite d ds
    nothing_by ds at (inr w) =
        (All-append (λ (q : Answer). is_write_in d q.call ≡ false) ds w.0 (subst (NoWrite d) w.1
        quiet)).0
    nothing_by ds at (inl w) = elim w.0 as (λ es. ds ≡ during ++ es → later ≡ es ++ answers_of i
        (by j r ∷ back) → NoWrite d ds) [
          | [] ↦ λ f g. subst (NoWrite d) (sym (f ∙ append-nil during)) quiet
          | q ∷ es ↦ λ f g.
              absurd (past q es g
              (at ∙ ap (λ l. (before ++ arrives k ∷ []) ++ l) f
              ∙ sym (append_assoc (before ++ arrives k ∷ []) during (q ∷ es))) waits)
        ] w.1 w.2

    nothing_since : NoWrite d done.0
    nothing_since =
        nothing_by done.0 done.1 (two_cuts during later done.0 (answers_of i (by j r ∷ back))
        done.2)

    front_whole : Each (λ (q : Answer). IsWhole d q.call) (answers front)
    front_whole =
        all_from (λ (q : Answer). IsWhole d q.call) i front
        (of_front (λ (q : Answer). IsWhole d q.call) (λ m l ne. no_write_whole d (answers_of m
        order) (writes m l ne)))
        (subst (Each (λ (q : Answer). IsWhole d q.call)) (sym done.1)
        (All-both (λ (q : Answer). IsWhole d q.call) (before ++ arrives k ∷ []) done.0
        (All-both (λ (q : Answer). IsWhole d q.call) before (arrives k ∷ []) whole
        (whole_quiet d (arrives k).call refl, tt))
        (no_write_whole d done.0 nothing_since)))

    stored : word c leads.0 d ≡ last d (word c old d) before
    stored =
        word_last c old leads.0 d front
        (record { config = run.config; sized = run.sized; led = leads.1 }) place front_whole
        ∙ last_part d i (word c old d) front
        (of_front (λ (q : Answer). is_write_in d q.call ≡ false) writes)
        ∙ ap (last d (word c old d)) done.1
        ∙ last-append d (word c old d) (before ++ arrives k ∷ []) done.0
        ∙ last-none d (last d (word c old d) (before ++ arrives k ∷ [])) done.0 nothing_since
        ∙ last-append d (word c old d) before (arrives k ∷ [])

    pub loaded : Reads d r.call → r.reply ≡ Value (last d (word c old d) before)
    loaded reads =
        read_step c leads.0 leads.2.0 d r.call r.reply place reads leads.2.1.served ∙ ap Value
        stored

pub messages-pass : MessagesPass
messages-pass c old new order d k count i j before during later start so_far rest r least found run
    place sends writes sender receiver enough whole quiet waits reads =
    let w = part_cut j order (start ++ passes k least found ∷ so_far) r rest receiver in
    loaded c old new order d k count i j before during later start so_far rest r least found run
    place
    sends writes sender w.front w.back w.whole w.fronts enough whole quiet waits reads
