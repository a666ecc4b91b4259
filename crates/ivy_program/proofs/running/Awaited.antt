-- Own code of which the last calls have no reply yet.
use Rattle.std.proofs.Common.{◌≡◌, ◌≢◌, ◌≤◌, ◌<◌, ◌+◌, ◌-◌, ℕ, zero, suc, List, [], ◌∷◌, ◌++◌, drop, length, length-append, length-drop, append-nil, slice_get, All, Option, Some, None, if◌then◌else◌, refl, sym, ap, subst, ◌∙◌, arith}
use Rattle.std.proofs.lemmas.Bool.{lt-ltb}
use Rattle.std.proofs.lemmas.List.Elements.{All-cons, All-drop, All-head, All-nil, All-tail}
use Rattle.std.proofs.lemmas.List.{drop-drop, drop_all, length-map}
use Rattle.std.proofs.lemmas.Option.{none-some, slice_get_within, get_or_from_slice_get}
use Rattle.ivy_model.specs.declared.Call.{Call}
use Rattle.ivy_model.specs.declared.Reply.{Reply}
use Rattle.ivy_model.specs.declared.Reply.TheVariants.{Done}
use Rattle.ivy_model.specs.declared.Record.{Record}
use Rattle.ivy_model.specs.declared.Row.{Row}
use Rattle.ivy_model.specs.declared.Row.TheVariants.{Loads, Stores}
use Rattle.ivy_model.specs.stated.Legal.{HasWidth}
use Rattle.ivy_model.specs.Rows.{calls_of, numbers_in, record_in, row}
use Rattle.ivy_model.proofs.Rows.{length-numbers_in, length-row}
use Rattle.ivy_program.specs.OwnCode.{AsksNext, IsLastOf, LacksReplies, Rests, asking, awaiting, process_handed}
use Rattle.ivy_program.specs.stated.Programs.{HandedFetch, Program, Written, Called, calls_in, fetches_of}
use Rattle.ivy_program.specs.stated.States.{first_state, gone_to}
use Rattle.ivy_program.specs.stated.InstructionSteps.{Process, Asks, Ends, AsksRow, step_of, answered_with, called_at, up_to_width, behind, along_of}
use Rattle.ivy_program.specs.InstructionSteps.{HasEnded, IsAsking, AsksMany, answered_all}
use Rattle.ivy_program.proofs.running.Along.{asks_along, called_asks, get_back}
use Rattle.ivy_program.proofs.running.Handing.{calls-append}
use Rattle.ivy_program.proofs.running.Nexts.{all_answered, alone_waiting, asks_next, behind_past}
use Rattle.ivy_program.proofs.reading.Widths.{has_width_test}

-- calls with good widths are made together, all of them
all_wide : (calls : List Call) → All HasWidth calls → up_to_width calls ≡ calls
all_wide [] wide = refl
all_wide (c ∷ cs) wide =
    ap (λ b. if b then c ∷ up_to_width cs else []) (has_width_test c (All-head HasWidth c cs wide))
    ∙ ap (λ xs. c ∷ xs) (all_wide cs (All-tail HasWidth c cs wide))

there : (calls : List Call) (k : ℕ) → k < length calls → (c : Call) × (slice_get calls k ≡ Some c)
there [] k within = absurd (omega (arith, within))
there (c ∷ cs) zero within = (c, refl)
there (c ∷ cs) (suc k) within = there cs k (omega (arith, within))

-- some of the calls of the last row have no reply yet
module _ (before : List (List Call)) (row : List Call)
    (wide : All HasWidth row) (left : ℕ) (some : 0 < left) (enough : left ≤ length row) where
  abbrev rows : List (List Call)
  rows = before ++ row ∷ []

  abbrev place : ℕ
  place = length row - left

  calls : calls_in rows ≡ calls_in before ++ row
  calls = calls-append before (row ∷ []) ∙ ap (λ xs. calls_in before ++ xs) (append-nil row)

  long : length (calls_in rows) ≡ length (calls_in before) + length row
  long = ap length calls ∙ length-append (calls_in before) row

  here : length (calls_in rows) - left ≡ length (calls_in before) + place
  here = omega (arith, long, enough)

  got : slice_get (calls_in rows) (length (calls_in rows) - left) ≡ slice_get row place
  got =
      ap (slice_get (calls_in rows)) here
      ∙ ap (λ xs. slice_get xs (length (calls_in before) + place)) calls
      ∙ get_back (calls_in before) row (length (calls_in before) + place) (omega arith)
      ∙ ap (slice_get row)
      (let e : length (calls_in before) + place - length (calls_in before) ≡ place = omega arith in e)

  -- it asks for the first of them
  asks_first : (c : Call) → slice_get row place ≡ Some c → step_of (awaiting [] rows left) ≡ Asks c
  asks_first c is =
      ap called_at (got ∙ is)
      ∙ ap (λ b. if b then Asks c else Ends)
      (has_width_test c
      (subst HasWidth (get_or_from_slice_get row place c c is)
      (wide place c (slice_get_within row place c is))))

  -- and along with it for the others
  others : along_of (awaiting [] rows left) ≡ drop (place + 1) row
  others =
      ap (λ k. up_to_width (behind rows k)) here
      ∙ ap up_to_width
      (behind_past before (row ∷ []) place
      ∙ ap (λ b. if b then drop (place + 1) row else behind [] (place - length row))
      (lt-ltb place (length row) (omega (arith, some, enough))))
      ∙ all_wide (drop (place + 1) row) (All-drop HasWidth (place + 1) row wide)

settled : (fs : List HandedFetch) (rows : List (List Call)) → asking fs rows None ≡ awaiting fs rows 0
settled fs rows =
    ap (λ n. record { program = Called rows fs; state = gone_to first_state n })
    (let e : length (calls_in rows) ≡ length (calls_in rows) - 0 = omega arith in e)

same : (fs : List HandedFetch) (rows : List (List Call)) (left : ℕ) → left ≡ 0
    → asking fs rows None ≡ awaiting fs rows left
same fs rows left none = settled fs rows ∙ ap (awaiting fs rows) (sym none)

pub rests_none : (fs : List HandedFetch) (rows : List (List Call)) (left : ℕ) → left ≡ 0
    → Rests (awaiting fs rows left)
rests_none fs rows left none = (fs, rows, sym (same fs rows left none))

module _ (rows : List (List Call)) (left : ℕ) (none : left ≡ 0) where
  -- no call is to be named
  pub none_last : (last : Option Call) → IsLastOf rows last left
  none_last last = record { together = λ some. absurd (omega (arith, none, some)) }

module _ (rows : List (List Call)) (last : Option Call) (left : ℕ) (is : IsLastOf rows last left) where
  pub inside : left ≤ length (calls_in rows)
  inside = either left refl
    where
      either : (n : ℕ) → left ≡ n → left ≤ length (calls_in rows)
      either zero l = omega (arith, l)
      either (suc n) l =
          let some : 0 < left = omega (arith, l) in
          let e = is.together some in
          let all : length (calls_in (e.before ++ e.row ∷ [])) ≡ length (calls_in e.before) + length e.row =
          long e.before e.row e.wide left some e.enough in
          let rs : length (calls_in rows) ≡ length (calls_in (e.before ++ e.row ∷ [])) =
          ap (λ (xs : List (List Call)). length (calls_in xs)) e.rows_are in
          omega (arith, all, rs, e.enough)

  -- so many of them have no reply
  pub lacking : (fs : List HandedFetch) → LacksReplies left (awaiting fs rows left)
  lacking fs = record { fetches = fs; rows = rows; program = refl; all = omega (arith, inside) }

  -- the same, once some more of them have one
  pub fewer_left : (fewer : ℕ) → fewer ≤ left → IsLastOf rows last fewer
  fewer_left fewer le = record {
    together = λ some.
        let e = is.together (omega (arith, some, le)) in
        record {
          before = e.before;
          row = e.row;
          rows_are = e.rows_are;
          enough = omega (arith, le, e.enough);
          wide = e.wide;
          ends = e.ends;
        };
  }

  pub last_wide : 0 < left → (call : Call) → last ≡ Some call → HasWidth call
  last_wide some call l =
      let e = is.together some in
      let at : slice_get e.row (length e.row - 1) ≡ Some call = e.ends ∙ l in
      subst HasWidth (get_or_from_slice_get e.row (length e.row - 1) call call at)
      (e.wide (length e.row - 1) call (slice_get_within e.row (length e.row - 1) call at))

-- own code of which each call has its reply
module _ (rows : List (List Call)) (left : ℕ) (none : left ≡ 0) where
  pub ended_none : HasEnded (awaiting [] rows left)
  ended_none = subst HasEnded (same [] rows left none) (all_answered rows)

  along_none : along_of (awaiting [] rows left) ≡ []
  along_none = ap along_of (sym (same [] rows left none)) ∙ alone_waiting rows None

  pub next_none : AsksNext (awaiting [] rows left)
  next_none = subst AsksNext (same [] rows left none) (asks_next rows None refl)

-- own code of which the last calls have none
module _ (rows : List (List Call)) (last : Option Call) (left : ℕ)
    (is : IsLastOf rows last left) where
  asks_some : 0 < left → IsAsking (awaiting [] rows left)
  asks_some some =
      let e = is.together some in
      let c = there e.row (length e.row - left) (omega (arith, some, e.enough)) in
      subst (λ (rs : List (List Call)). IsAsking (awaiting [] rs left)) (sym e.rows_are)
      (c.0, asks_first e.before e.row e.wide left some e.enough c.0 c.1)

  pub none_left : HasEnded (awaiting [] rows left) → left ≡ 0
  none_left ended = either left refl
    where
      either : (n : ℕ) → left ≡ n → left ≡ 0
      either zero l = l
      either (suc n) l =
          let a = asks_some (omega (arith, l)) in absurd (let f : Asks a.0 ≡ Ends = sym a.1 ∙ ended in cc)

  pub some_left : IsAsking (awaiting [] rows left) → 0 < left
  some_left asks = either left refl
    where
      either : (n : ℕ) → left ≡ n → 0 < left
      either zero l = absurd (let f : Asks asks.0 ≡ Ends = sym asks.1 ∙ ended_none rows left l in cc)
      either (suc n) l = omega (arith, l)

  -- what is made along with the next of some of them
  along_some : (some : 0 < left) (n : ℕ) → n ≤ left → 0 < n
      → along_of (awaiting [] rows n) ≡ drop (length (is.together some).row - n + 1) (is.together some).row
  along_some some n le any =
      let e = is.together some in
      ap (λ (rs : List (List Call)). along_of (awaiting [] rs n)) e.rows_are
      ∙ others e.before e.row e.wide n any (omega (arith, le, e.enough))

  along_long : length (along_of (awaiting [] rows left)) ≡ left - 1
  along_long = either left refl
    where
      either : (n : ℕ) → left ≡ n → length (along_of (awaiting [] rows left)) ≡ left - 1
      either zero l =
          ap length (along_none rows left l) ∙ (let e : 0 ≡ left - 1 = omega (arith, l) in e)
      either (suc n) l =
          let some : 0 < left = omega (arith, l) in
          let e = is.together some in
          ap length (along_some some left (omega arith) some)
          ∙ length-drop (length e.row - left + 1) e.row
          ∙ (let f : length e.row - (length e.row - left + 1) ≡ left - 1 =
          omega (arith, some, e.enough) in f)

  -- it is less by the calls that have a reply
  pub along_fewer : (count : ℕ) → count ≤ left
      → along_of (awaiting [] rows (left - count)) ≡ drop count (along_of (awaiting [] rows left))
  along_fewer count le = either (left - count) refl
    where
      either : (n : ℕ) → left - count ≡ n
          → along_of (awaiting [] rows (left - count)) ≡ drop count (along_of (awaiting [] rows left))
      either zero l =
          along_none rows (left - count) l
          ∙ sym (drop_all count (along_of (awaiting [] rows left)) (omega (arith, l, along_long)))
      either (suc n) l =
          let some : 0 < left = omega (arith, l) in
          let e = is.together some in
          along_some some (left - count) (omega arith) (omega (arith, l))
          ∙ ap (λ k. drop k e.row)
          (let f : length e.row - (left - count) + 1 ≡ (length e.row - left + 1) + count =
          omega (arith, l, le, e.enough) in f)
          ∙ sym (drop-drop count (length e.row - left + 1) e.row)
          ∙ ap (drop count) (sym (along_some some left (omega arith) some))

  -- where no call is made along with the next, that is the last
  module _ (some : 0 < left) (alone : along_of (awaiting [] rows left) ≡ []) where
    one : left ≡ 1
    one =
        let e = is.together some in
        let none : drop (length e.row - left + 1) e.row ≡ [] =
        sym (others e.before e.row e.wide left some e.enough)
        ∙ ap (λ (rs : List (List Call)). along_of (awaiting [] rs left)) (sym e.rows_are)
        ∙ alone in
        let short : length e.row - (length e.row - left + 1) ≡ 0 =
        sym (length-drop (length e.row - left + 1) e.row) ∙ ap length none in
        omega (arith, some, e.enough, short)

    pub is_there : last ≢ None
    is_there not =
        let e = is.together some in
        let c = there e.row (length e.row - 1) (omega (arith, some, e.enough)) in
        none-some c.0 (sym not ∙ sym e.ends ∙ c.1)

    pub asks_last : (call : Call) → last ≡ Some call → step_of (awaiting [] rows left) ≡ Asks call
    asks_last call l =
        let e = is.together some in
        let at : length e.row - left ≡ length e.row - 1 = omega (arith, one) in
        subst (λ (rs : List (List Call)). step_of (awaiting [] rs left) ≡ Asks call) (sym e.rows_are)
        (asks_first e.before e.row e.wide left some e.enough call
        (ap (slice_get e.row) at ∙ e.ends ∙ l))

  -- whether no call is made along with the next
  pub alone_left : left ≤ 1 → along_of (awaiting [] rows left) ≡ []
  alone_left few = either left refl
    where
      either : (n : ℕ) → left ≡ n → along_of (awaiting [] rows left) ≡ []
      either zero l = along_none rows left l
      either (suc n) l =
          let some : 0 < left = omega (arith, l) in
          let e = is.together some in
          ap (λ (rs : List (List Call)). along_of (awaiting [] rs left)) e.rows_are
          ∙ others e.before e.row e.wide left some e.enough
          ∙ drop_all (length e.row - left + 1) e.row (omega (arith, few, e.enough))

  pub left_alone : along_of (awaiting [] rows left) ≡ [] → left ≤ 1
  left_alone alone = either left refl
    where
      either : (n : ℕ) → left ≡ n → left ≤ 1
      either zero l = omega (arith, l)
      either (suc n) l = omega (arith, one (omega (arith, l)) alone)

-- own code that was answered so many calls
abbrev answered_at : List HandedFetch → List (List Call) → ℕ → Process
answered_at fs rows place = record { program = Called rows fs; state = gone_to first_state place }

-- what a reply changes
pub answered_one : (fs : List HandedFetch) (rows : List (List Call)) (left : ℕ) (reply : Reply) → 0 < left
    → left ≤ length (calls_in rows)
    → awaiting fs rows (left - 1) ≡ answered_with (awaiting fs rows left) reply
answered_one fs rows left reply some within =
    ap (answered_at fs rows)
    (let e : length (calls_in rows) - (left - 1) ≡ length (calls_in rows) - left + 1 =
    omega (arith, some, within) in e)

asked_within : (fs : List HandedFetch) (rows : List (List Call)) (place : ℕ) (calls : List Call)
    → place ≤ length (calls_in rows) → AsksRow (answered_at fs rows place) calls
    → place + length calls ≤ length (calls_in rows)
asked_within fs rows place [] le asks = omega (arith, le)
asked_within fs rows place (c ∷ cs) le asks =
    let at : slice_get (calls_in rows) place ≡ Some c =
    called_asks rows (gone_to first_state place) c (slice_get (calls_in rows) place) refl asks.0 in
    let next : place < length (calls_in rows) = slice_get_within (calls_in rows) place c at in
    let rest : place + 1 + length cs ≤ length (calls_in rows) =
    asked_within fs rows (place + 1) cs (omega (arith, next)) (asks.1 Done) in
    omega (arith, rest)

answered_many : (fs : List HandedFetch) (rows : List (List Call)) (place : ℕ) (replies : List Reply)
    → answered_at fs rows (place + length replies) ≡ answered_all (answered_at fs rows place) replies
answered_many fs rows place [] = ap (answered_at fs rows) (omega arith)
answered_many fs rows place (r ∷ rs) =
    ap (answered_at fs rows) (let e : place + suc (length rs) ≡ place + 1 + length rs = omega arith in e)
    ∙ answered_many fs rows (place + 1) rs

module _ (fs : List HandedFetch) (rows : List (List Call)) (last : Option Call) (left count : ℕ)
    (is : IsLastOf rows last left) (asks : AsksMany (awaiting fs rows left) count) where
  -- no more calls have their replies than had none
  pub asked_left : count ≤ left
  asked_left =
      let all : left ≤ length (calls_in rows) = inside rows last left is in
      let most : length (calls_in rows) - left + length asks.0 ≤ length (calls_in rows) =
      asked_within fs rows (length (calls_in rows) - left) asks.0 (omega arith) asks.2 in
      omega (arith, all, most, asks.1)

  pub answered_row : (replies : List Reply) → length replies ≡ count
      → awaiting fs rows (left - count) ≡ answered_all (awaiting fs rows left) replies
  answered_row replies long =
      ap (answered_at fs rows)
      (let e : length (calls_in rows) - (left - count) ≡ length (calls_in rows) - left + length replies =
      (let all : left ≤ length (calls_in rows) = inside rows last left is in
      omega (arith, all, asked_left, long)) in e)
      ∙ answered_many fs rows (length (calls_in rows) - left) replies

module _ (rows : List (List Call)) (calls : List Call) where
  longer : length (calls_in (rows ++ calls ∷ [])) ≡ length (calls_in rows) + length calls
  longer =
      ap length (calls-append rows (calls ∷ []) ∙ ap (λ xs. calls_in rows ++ xs) (append-nil calls))
      ∙ length-append (calls_in rows) calls

  pub ends_together : (count : ℕ) → length calls ≡ count → All HasWidth calls → (last : Option Call)
      → last ≡ slice_get calls (count - 1) → IsLastOf (rows ++ calls ∷ []) last count
  ends_together count long wide last l = record {
    together = λ some.
        record {
          before = rows;
          row = calls;
          rows_are = refl;
          enough = omega (arith, long);
          wide = wide;
          ends = ap (λ n. slice_get calls (n - 1)) long ∙ sym l;
        };
  }

-- a row more is made, where each call has its reply
module _ (fs : List HandedFetch) (rows : List (List Call)) (left : ℕ) (none : left ≡ 0) (calls : List Call) where
  pub handed_together : (count : ℕ) → length calls ≡ count
      → awaiting fs (rows ++ calls ∷ []) count ≡ process_handed (calls ∷ []) (awaiting fs rows left)
  handed_together count long =
      ap (answered_at fs (rows ++ calls ∷ []))
      (let e : length (calls_in (rows ++ calls ∷ [])) - count ≡ length (calls_in rows) - left =
      omega (arith, longer rows calls, long, none) in e)

-- a call that is answered at once
pub handed_answered : (fs : List HandedFetch) (rows : List (List Call)) (left : ℕ) (call : Call)
    (reply : Reply) → left ≡ 0
    → awaiting fs (rows ++ (call ∷ []) ∷ []) left
    ≡ answered_with (process_handed ((call ∷ []) ∷ []) (awaiting fs rows left)) reply
handed_answered fs rows left call reply none =
    ap (answered_at fs (rows ++ (call ∷ []) ∷ []))
    (let e : length (calls_in (rows ++ (call ∷ []) ∷ [])) - left ≡ length (calls_in rows) - left + 1 =
    (let all : length (calls_in (rows ++ (call ∷ []) ∷ [])) ≡ length (calls_in rows) + 1 =
    longer rows (call ∷ []) in omega (arith, all, none)) in e)

rows_of : Program → List (List Call)
rows_of (Written instructions) = []
rows_of (Called rows fs) = rows

-- rows more that are answered at once
pub handed_rows : (fs : List HandedFetch) (rows : List (List Call)) (left : ℕ) → left ≡ 0
    → (gs : List HandedFetch) (before more : List (List Call))
    → awaiting fs rows left ≡ asking gs before None
    → awaiting fs (rows ++ more) left ≡ asking gs (before ++ more) None
unfolding rows_of
handed_rows fs rows left none gs before more is =
    ap (awaiting fs (rows ++ more)) none ∙ sym (settled fs (rows ++ more))
    ∙ (λ i. asking (fetches_of (is i).program) (rows_of (is i).program ++ more) None)

-- the calls of a row of words
pub record_wide : (kind : Row) (node addr number : ℕ) → HasWidth (record_in kind node addr number).call
record_wide Loads node addr number = (3, omega arith, refl)
record_wide Stores node addr number = (3, omega arith, refl)

pub row_wide : (kind : Row) (node addr : ℕ) (numbers : List ℕ)
    → All HasWidth (calls_of (row kind node addr numbers))
row_wide kind node addr [] = All-nil HasWidth
row_wide kind node addr (number ∷ more) =
    All-cons HasWidth (record_in kind node addr number).call (calls_of (row kind node (addr + 8) more))
    (record_wide kind node addr number) (row_wide kind node (addr + 8) more)

pub row_long : (kind : Row) (node addr words : ℕ) (bytes : List ℕ)
    → length (calls_of (row kind node addr (numbers_in words bytes))) ≡ words
row_long kind node addr words bytes =
    length-map (row kind node addr (numbers_in words bytes)) (λ (r : Record). r.call)
    ∙ length-row kind node addr (numbers_in words bytes) ∙ length-numbers_in words bytes

-- what the owner of own code that rests makes together next: it asks for the first, and for the
-- others along with it
module _ (p : Process) (rests : Rests p) (call : Call) (calls : List Call)
    (wide : All HasWidth (call ∷ calls)) where
  some : 0 < length (call ∷ calls)
  some = let e : length (call ∷ calls) ≡ suc (length calls) = refl in omega (arith, e)

  begun : process_handed ((call ∷ calls) ∷ []) p
      ≡ awaiting rests.0 (rests.1 ++ (call ∷ calls) ∷ []) (length (call ∷ calls))
  begun =
      ap (process_handed ((call ∷ calls) ∷ [])) (rests.2 ∙ settled rests.0 rests.1)
      ∙ sym (handed_together rests.0 rests.1 0 refl (call ∷ calls) (length (call ∷ calls)) refl)

  none_before : length (call ∷ calls) - length (call ∷ calls) ≡ 0
  none_before = omega arith

  pub together_asks : step_of (process_handed ((call ∷ calls) ∷ []) p) ≡ Asks call
  together_asks =
      ap step_of begun
      ∙ asks_first rests.1 (call ∷ calls) wide (length (call ∷ calls)) some (omega arith) call
      (ap (slice_get (call ∷ calls)) none_before)

  pub together_along : along_of (process_handed ((call ∷ calls) ∷ []) p) ≡ calls
  together_along =
      ap along_of begun
      ∙ others rests.1 (call ∷ calls) wide (length (call ∷ calls)) some (omega arith)
      ∙ ap (λ k. drop (k + 1) (call ∷ calls)) none_before

-- one after another
pub together_row : (p : Process) → Rests p → (calls : List Call) → All HasWidth calls
    → AsksRow (process_handed (calls ∷ []) p) calls
together_row p rests [] wide = tt
together_row p rests (c ∷ cs) wide =
    subst (λ xs. AsksRow (process_handed ((c ∷ cs) ∷ []) p) (c ∷ xs)) (together_along p rests c cs wide)
    (asks_along (process_handed ((c ∷ cs) ∷ []) p) c (together_asks p rests c cs wide))

-- and so for each of so many words in a row
pub together_words : (p : Process) → Rests p → (kind : Row) (addr words : ℕ) (bytes : List ℕ)
    → AsksMany (process_handed (calls_of (row kind 0 addr (numbers_in words bytes)) ∷ []) p) words
together_words p rests kind addr words bytes = (
  calls_of (row kind 0 addr (numbers_in words bytes)),
  row_long kind 0 addr words bytes,
  together_row p rests (calls_of (row kind 0 addr (numbers_in words bytes)))
      (row_wide kind 0 addr (numbers_in words bytes)),
)
