-- At no point has the turn of two tickets come.
use Rattle.std.proofs.Common.{◌≡◌, ℕ, ◌+◌, ◌%◌, ◌^◌, ◌<◌, ◌≤◌, inl, inr, Bool, true, false}
use Rattle.std.proofs.Common.{List, []}
use Rattle.std.proofs.Common.{if◌then◌else◌, cond, ◌∷◌, ◌++◌, IsTrue, Some, None, refl, sym}
use Rattle.std.proofs.Common.{ap, subst}
use Rattle.std.proofs.Common.{◌∙◌, append-nil, mod-eq_of_lt, arith}
use Rattle.std.specs.Prelude.{slice_get, ◌==◌}
use Rattle.std.proofs.lemmas.Bool.{cases_eq, eq-eqb, ne_eqb, false≢true}
use Rattle.std.proofs.lemmas.List.Sums.{sum_by-append}
use Rattle.std.proofs.lemmas.Option.{same_Some, none-some}
use Rattle.ivy_model.specs.declared.config.Config.{Config}
use Rattle.ivy_model.specs.declared.call.Act.{Act}
use Rattle.ivy_model.specs.declared.call.Call.TheVariants as call
use Rattle.ivy_model.specs.declared.call.CallKind.{CallKind}
use Rattle.ivy_model.specs.declared.call.CallKind.TheVariants.{Word, Count, Advance, Await, Alloc}
use Rattle.ivy_model.specs.declared.call.CallKind.TheVariants.{Free}
use Rattle.ivy_model.specs.declared.call.Record.{Record}
use Rattle.ivy_model.specs.declared.call.Reply.{Reply}
use Rattle.ivy_model.specs.declared.call.Reply.TheVariants.{Done, Refused, Value}
use Rattle.ivy_model.specs.stated.Accesses.{kind_of_call, gives_number, next_number}
use Rattle.ivy_model.specs.stated.Config.{IsConfig}
use Rattle.ivy_model.specs.stated.Legal.{HasWidth}
use Rattle.ivy_model.specs.stated.Memory.{Memory}
use Rattle.ivy_model.specs.Memory.{IsSized}
use Rattle.ivy_model.specs.stated.Serves.{Serves, ServesKind}
use Rattle.ivy_model.proofs.Sizes.{serves_sized}
use Rattle.ivy_calls.specs.declared.answer.Answer.{Answer}
use Rattle.ivy_calls.specs.Answers.{answer, answers, answers_of}
use Rattle.ivy_calls.proofs.Answers.{answers-append, answers_of-append, answers_of-at}
use Rattle.ivy_calls.proofs.Answers.{answers_of-push_own, answers_of-push_other}
use Rattle.ivy_sync.specs.meeting.Counts.{raised, raised_kind}
use Rattle.ivy_sync.specs.excluding.TicketLocks.{Turn, idle, with_drawn, with_moved, turn_after, turn, IsDraw}
use Rattle.ivy_sync.specs.excluding.TicketLocks.{MayMove, KeepsTurns, draws_of, TicketLocksExclude}
use Rattle.ivy_sync.specs.HeapWords.{word, IsHeapWord, is_write_in, IsAtWord}
use Rattle.ivy_sync.specs.HeapWords.{ReadsKind}
use Rattle.ivy_sync.specs.HeapWords.{put_after, put_over, LeadsThrough}
use Rattle.ivy_sync.proofs.meeting.Counting.{count_step, awaited}
use Rattle.ivy_sync.proofs.answers.Cuts.{leads_cut}
use Rattle.ivy_sync.proofs.answers.Lists.{one_more}
use Rattle.ivy_sync.proofs.answers.HeapWords.{word_step, read_step, written_quiet, whole_quiet}

turn-append : (a k : ℕ) (t : Turn) (xs ys : List Answer)
    → turn a k t (xs ++ ys) ≡ turn a k (turn a k t xs) ys
turn-append a k t [] ys = refl
turn-append a k t (x ∷ xs) ys = turn-append a k (turn_after a k t x) xs ys

turns_front : (a k : ℕ) (t : Turn) (xs ys : List Answer) → KeepsTurns a k t (xs ++ ys)
    → KeepsTurns a k t xs
turns_front a k t [] ys h = tt
turns_front a k t (x ∷ xs) ys h = (h.0, h.1, turns_front a k (turn_after a k t x) xs ys h.2)

turns_at : (a k : ℕ) (t : Turn) (xs : List Answer) (r : Answer) (ys : List Answer)
    → KeepsTurns a k t (xs ++ r ∷ ys) → KeepsTurns a k (turn a k t xs) (r ∷ ys)
turns_at a k t [] r ys h = h
turns_at a k t (x ∷ xs) r ys h = turns_at a k (turn_after a k t x) xs r ys h.2

-- what a draw does
pub draw_at : (a : ℕ) (kind : CallKind) → IsDraw a kind → IsAtWord a kind
draw_at a (Word width addr does) d = (d.0, d.1)
draw_at a (Count j) d = d
draw_at a (Advance j) d = d
draw_at a (Await j least) d = d
draw_at a (Alloc size) d = d
draw_at a (Free addr) d = d

pub draw_reads : (a : ℕ) (kind : CallKind) → IsDraw a kind → ReadsKind a kind
draw_reads a (Word width addr does) d = (d.0, d.1, ap gives_number d.2)
draw_reads a (Count j) d = d
draw_reads a (Advance j) d = d
draw_reads a (Await j least) d = d
draw_reads a (Alloc size) d = d
draw_reads a (Free addr) d = d

pub draw_puts : (a v : ℕ) (kind : CallKind) → IsDraw a kind → v + 1 < 2 ^ 64 → put_after v kind ≡ v + 1
draw_puts a v (Word width addr does) d small =
    ap (λ (x : Act). put_over v (next_number 8 x v)) d.2
    ∙ ap (λ n. n % 2 ^ 64) (mod-eq_of_lt small) ∙ mod-eq_of_lt small
draw_puts a v (Count j) d small = absurd d
draw_puts a v (Advance j) d small = absurd d
draw_puts a v (Await j least) d small = absurd d
draw_puts a v (Alloc size) d small = absurd d
draw_puts a v (Free addr) d small = absurd d

draw_raises : (a k : ℕ) (kind : CallKind) (reply : Reply) → IsDraw a kind
    → raised_kind k kind reply ≡ 0
draw_raises a k (Word width addr does) reply d = refl
draw_raises a k (Count j) reply d = absurd d
draw_raises a k (Advance j) reply d = absurd d
draw_raises a k (Await j least) reply d = absurd d
draw_raises a k (Alloc size) reply d = absurd d
draw_raises a k (Free addr) reply d = absurd d

-- a node's ticket was drawn, by itself, and its turn did not pass; where it has come it is the next
pub record IsFair (count number : ℕ) (owner : ℕ → ℕ) (i : ℕ) (x : Turn) : Type 0 where
  pub within : (t : ℕ) → x.ticket ≡ Some t → (count ≤ t) × (t < number) × (owner t ≡ i)
  pub next : x.inside ≡ true → x.ticket ≡ Some count

pub record AreTurns (c : Config) (a k : ℕ) (m : Memory) (rs : List Record) : Type 0 where
  pub count : ℕ
  pub is : slice_get m.counts k ≡ Some count
  pub number : ℕ
  pub holds : word c m a ≡ number
  pub drawn : number ≡ draws_of a (answers rs)
  pub most : count ≤ number
  pub owner : ℕ → ℕ
  pub fair : (i : ℕ) → IsFair count number owner i (turn a k idle (answers_of i rs))

pub draws-append : (a : ℕ) (xs ys : List Answer)
    → draws_of a (xs ++ ys) ≡ draws_of a xs + draws_of a ys
draws-append a xs ys = sum_by-append (λ (r : Answer). cond (is_write_in a r.call) 1 0) xs ys

module _ (c : Config) (a k : ℕ) (old new : Memory) (rs : List Record) (r : Record) (h : IsConfig c)
    (s : IsSized c old) (at : IsHeapWord c a) (w : HasWidth r.call)
    (served : Serves c old r.call r.reply new) (here : AreTurns c a k old rs) where
  abbrev mine : Turn
  mine = turn a k idle (answers_of r.node rs)

  abbrev longer : List Record
  longer = rs ++ r ∷ []

  drawn_on : (b : Bool) → is_write_in a r.call ≡ b
      → draws_of a (answers longer) ≡ here.number + cond b 1 0
  drawn_on b e =
      let sum = draws-append a (answers rs) (answer r ∷ []) in
      let one : draws_of a (answer r ∷ []) ≡ cond b 1 0 =
      one_draw (answer r) ∙ ap (λ x. cond x 1 0) e in
      let before = here.drawn in
      ap (draws_of a) (answers-append rs (r ∷ [])) ∙ omega (arith, sum, one, before)
    where
      one_draw : (q : Answer) → draws_of a (q ∷ []) ≡ cond (is_write_in a q.call) 1 0
      one_draw q = omega arith

  -- the turns after the record, where its node's own is this
  module _ (x : Turn) (e : turn_after a k mine (answer r) ≡ x) (count number : ℕ)
      (owner : ℕ → ℕ) where
    own_turn : turn a k idle (answers_of r.node longer) ≡ x
    own_turn =
        ap (turn a k idle) (answers_of-push_own r.node rs r refl)
        ∙ turn-append a k idle (answers_of r.node rs) (answer r ∷ []) ∙ e

    each_fair : IsFair count number owner r.node x
        → ((i : ℕ) → (r.node ≡ i → ⊥)
        → IsFair count number owner i (turn a k idle (answers_of i rs))) → (i : ℕ)
        → IsFair count number owner i (turn a k idle (answers_of i longer))
    each_fair own others i =
        elim (cases_eq r.node i) [
          | inl same ↦
              subst (λ n. IsFair count number owner n (turn a k idle (answers_of n longer))) same
              (subst (IsFair count number owner r.node) (sym own_turn) own)
          | inr ne ↦
              subst (IsFair count number owner i)
              (sym (ap (turn a k idle) (answers_of-push_other i rs r ne))) (others i ne)
        ]

  counted_on : (n : ℕ) → raised k (answer r) ≡ n → slice_get new.counts k ≡ Some (here.count + n)
  counted_on n e =
      count_step c old new k here.count (answer r) served here.is ∙ ap (λ x. Some (here.count +
      x)) e

  -- a call that is no write in the word
  module _ (quiet : is_write_in a r.call ≡ false) where
    word_same : word c new a ≡ here.number
    word_same =
        word_step c old new a r.call r.reply h s at w (whole_quiet a r.call quiet) served
        ∙ written_quiet a (word c old a) r.call quiet ∙ here.holds

    drawn_same : here.number ≡ draws_of a (answers longer)
    drawn_same = let more = drawn_on false quiet in omega (arith, more)

    moves : turn_after a k mine (answer r) ≡ with_moved k mine (kind_of_call r.call) r.reply
    moves =
        ap (λ b. if b then with_drawn mine r.reply else with_moved k mine
        (kind_of_call r.call) r.reply)
        quiet

    -- the count is as it was
    keeps : (x : Turn) → turn_after a k mine (answer r) ≡ x → raised k (answer r) ≡ 0
        → IsFair here.count here.number here.owner r.node x → AreTurns c a k new longer
    keeps x e none own = record {
      count = here.count;
      is = counted_on 0 none ∙ ap Some (let k : here.count + 0 ≡ here.count = omega arith in k);
      number = here.number;
      holds = word_same;
      drawn = drawn_same;
      most = here.most;
      owner = here.owner;
      fair = each_fair x e here.count here.number here.owner own (λ i ne. here.fair i);
    }

    stays : turn_after a k mine (answer r) ≡ mine → raised k (answer r) ≡ 0
        → AreTurns c a k new longer
    stays e none = keeps mine e none (here.fair r.node)

    -- the turn of the node's ticket has come
    enters : (least : ℕ)
        → turn_after a k mine (answer r) ≡ record { ticket = mine.ticket; inside = true }
        → raised k (answer r) ≡ 0 → least ≤ here.count → mine.ticket ≡ Some least
        → AreTurns c a k new longer
    enters least e none reached ticket =
        let f = here.fair r.node in
        let past = (f.within least ticket).0 in
        let now : least ≡ here.count = omega (arith, past, reached) in
        keeps (record { ticket = mine.ticket; inside = true }) e none
        (record { within = f.within; next = λ _. ticket ∙ ap Some now })

    -- it gives the turn to the next
    leaves : turn_after a k mine (answer r) ≡ idle → raised k (answer r) ≡ 1 → mine.inside ≡ true
        → AreTurns c a k new longer
    leaves e one inside =
        let f = here.fair r.node in
        let mine_at = f.within here.count (f.next inside) in
        let less = mine_at.1 in
        record {
          count = here.count + 1;
          is = counted_on 1 one;
          number = here.number;
          holds = word_same;
          drawn = drawn_same;
          most = omega (arith, less);
          owner = here.owner;
          fair = each_fair idle e (here.count + 1) here.number here.owner
              (record {
                within = λ t is. absurd (none-some t is);
                next = λ is. absurd (false≢true is);
              })
              (λ i ne. record {
                within = λ t is.
                    let b = (here.fair i).within t is in
                    let from = b.0 in
                    let later : here.count + 1 ≤ t =
                    elim (cases_eq here.count t) [
                      | inl same ↦ absurd (ne (sym mine_at.2 ∙ ap here.owner same ∙ b.2))
                      | inr apart ↦ omega (arith, from, apart)
                    ] in
                    (later, b.1, b.2);
                next = λ is.
                    let b = (here.fair i).within here.count ((here.fair i).next is) in
                    absurd (ne (sym mine_at.2 ∙ b.2));
              });
        }

    moved : (kind : CallKind) (reply : Reply)
        → turn_after a k mine (answer r) ≡ with_moved k mine kind reply
        → raised k (answer r) ≡ raised_kind k kind reply → ServesKind c old kind reply new
        → MayMove k mine kind reply → AreTurns c a k new longer
    moved (Await j least) (Value found) t n by may =
        elim (cases_eq j k) [
          | inl same ↦
              enters least
              (t ∙ ap (λ b. if b then record { ticket = mine.ticket; inside = true } else mine)
              (eq-eqb j k same)) n
              (awaited c old new k here.count least found
              (subst (λ x. Serves c old (call.Await x least) (Value found) new) same by) here.is)
              (may same)
          | inr ne ↦
              stays
              (t ∙ ap (λ b. if b then record { ticket = mine.ticket; inside = true } else mine)
              (ne_eqb j k ne)) n
        ]
    moved (Await j least) Done t n by may = stays t n
    moved (Await j least) (Refused code) t n by may = stays t n
    moved (Advance j) Done t n by may =
        elim (cases_eq j k) [
          | inl same ↦
              leaves (t ∙ ap (λ b. if b then idle else mine) (eq-eqb j k same))
              (n ∙ ap (λ b. if b then 1 else 0) (eq-eqb j k same)) (may same)
          | inr ne ↦
              stays (t ∙ ap (λ b. if b then idle else mine) (ne_eqb j k ne))
              (n ∙ ap (λ b. if b then 1 else 0) (ne_eqb j k ne))
        ]
    moved (Advance j) (Value v) t n by may = stays t n
    moved (Advance j) (Refused code) t n by may = stays t n
    moved (Word width addr does) reply t n by may = stays t n
    moved (Count j) reply t n by may = stays t n
    moved (Alloc size) reply t n by may = stays t n
    moved (Free addr) reply t n by may = stays t n

  -- a ticket is drawn
  draws : is_write_in a r.call ≡ true → IsDraw a (kind_of_call r.call)
      → draws_of a (answers longer) < 2 ^ 64 → AreTurns c a k new longer
  draws write draw few =
      let more = drawn_on true write in
      let small : here.number + 1 < 2 ^ 64 = omega (arith, more, few) in
      let answered : r.reply ≡ Value here.number =
      read_step c old new a r.call r.reply at (draw_reads a (kind_of_call r.call) draw) served
      ∙ ap Value here.holds in
      let most = here.most in
      let drawn_turn : turn_after a k mine (answer r) ≡ record {
        ticket = Some here.number;
        inside = false;
      } =
      ap (λ b. if b then with_drawn mine r.reply else with_moved k mine
      (kind_of_call r.call) r.reply)
      write
      ∙ ap (with_drawn mine) answered in
      let put : word c new a ≡ here.number + 1 =
      word_step c old new a r.call r.reply h s at w (λ _. draw_at a (kind_of_call r.call) draw)
      served
      ∙ ap (λ b. if b then put_after (word c old a) (kind_of_call r.call) else word c old a) write
      ∙ ap (λ v. put_after v (kind_of_call r.call)) here.holds
      ∙ draw_puts a here.number (kind_of_call r.call) draw small in
      let owner : ℕ → ℕ = λ t. if t == here.number then r.node else here.owner t in
      record {
        count = here.count;
        is = counted_on 0 (draw_raises a k (kind_of_call r.call) r.reply draw)
            ∙ ap Some (let k : here.count + 0 ≡ here.count = omega arith in k);
        number = here.number + 1;
        holds = put;
        drawn = omega (arith, more);
        most = omega (arith, most);
        owner = owner;
        fair = each_fair (record { ticket = Some here.number; inside = false }) drawn_turn
            here.count
            (here.number + 1) owner
            (record {
              within = λ t is.
                  let same : here.number ≡ t = same_Some here.number t is in (
                    omega (arith, same, most),
                    omega (arith, same),
                    ap (λ b. if b then r.node else here.owner t) (eq-eqb t here.number (sym same)),
                  );
              next = λ is. absurd (false≢true is);
            })
            (λ i ne. record {
              within = λ t is.
                  let b = (here.fair i).within t is in
                  let less = b.1 in (
                    b.0,
                    omega (arith, less),
                    ap (λ x. if x then r.node else here.owner t)
                        (ne_eqb t here.number (λ same. omega (arith, same, less)))
                        ∙ b.2,
                  );
              next = (here.fair i).next;
            });
      }

  step : (b : Bool) → is_write_in a r.call ≡ b
      → (IsTrue (is_write_in a r.call) → IsDraw a (kind_of_call r.call) × (mine.ticket ≡ None))
      → MayMove k mine (kind_of_call r.call) r.reply → draws_of a (answers longer) < 2 ^ 64
      → AreTurns c a k new longer
  step false e draw may few =
      moved e (kind_of_call r.call) r.reply (moves e) refl served may
  step true e draw may few = draws e (draw e).0 few

pub turns_on : (c : Config) (a k : ℕ) (old new : Memory) (xs ys : List Record)
    → LeadsThrough c old ys new
    → IsHeapWord c a → draws_of a (answers (xs ++ ys)) < 2 ^ 64
    → ((i : ℕ) → i < c.nodes → KeepsTurns a k idle (answers_of i (xs ++ ys)))
    → AreTurns c a k old xs → AreTurns c a k new (xs ++ ys)
turns_on c a k old new xs [] run at few rules here =
    subst (λ m. AreTurns c a k m (xs ++ [])) (sym run.led)
    (subst (AreTurns c a k old) (sym (append-nil xs)) here)
turns_on c a k old new xs (r ∷ rs) run at few rules here =
    let made = run.led.1 in
    let sized =
    serves_sized c old run.led.0 r.call r.reply run.config made.width run.sized made.served in
    let rule =
    turns_at a k idle (answers_of r.node xs) (answer r) (answers_of r.node rs)
    (subst (KeepsTurns a k idle) (answers_of-at xs r rs) (rules r.node made.node)) in
    let longer = xs ++ r ∷ [] in
    let few' : draws_of a (answers (longer ++ rs)) < 2 ^ 64 =
    subst (λ all. draws_of a (answers all) < 2 ^ 64) (one_more xs r rs) few in
    let sum =
    ap (draws_of a) (answers-append longer rs) ∙ draws-append a (answers longer) (answers rs) in
    let next : AreTurns c a k run.led.0 longer =
    step c a k old run.led.0 xs r run.config run.sized at made.width made.served here
    (is_write_in a r.call) refl rule.0 rule.1 (omega (arith, few', sum)) in
    subst (AreTurns c a k new) (sym (one_more xs r rs))
    (turns_on c a k run.led.0 new longer rs
    (record { config = run.config; sized = sized; led = run.led.2 }) at few'
    (λ i l. subst (λ all. KeepsTurns a k idle (answers_of i all)) (one_more xs r rs) (rules i l))
    next)

pub ticket_locks-exclude : TicketLocksExclude
ticket_locks-exclude c old new before after a k run at zero first few rules i j p q =
    let w = leads_cut c old new before after run.led in
    let here : AreTurns c a k w.0 before =
    turns_on c a k old w.0 [] before (record {
      config = run.config;
      sized = run.sized;
      led = w.1;
    }) at
    few
    (λ n l. turns_front a k idle (answers_of n before) (answers_of n after)
    (subst (KeepsTurns a k idle) (answers_of-append n before after) (rules n l)))
    (record {
      count = 0;
      is = first;
      number = 0;
      holds = zero;
      drawn = refl;
      most = omega arith;
      owner = λ t. t;
      fair = λ n. record {
        within = λ t is. absurd (none-some t is);
        next = λ is. absurd (false≢true is);
      };
    }) in
    let f = here.fair i in
    let g = here.fair j in
    sym (f.within here.count (f.next p)).2 ∙ (g.within here.count (g.next q)).2
