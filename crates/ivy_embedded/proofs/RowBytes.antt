-- Words in a row that are answered at once are those that stand in their page: what is loaded stood
-- there, and what is stored stands there then.
use Rattle.std.proofs.Common.{◌≡◌, ℕ, zero, suc, ◌+◌, ◌*◌, ◌/◌, ◌%◌, ◌^◌, ◌<◌, ◌≤◌, nat_lt, List, [], ◌∷◌, ◌++◌, length, length-set, drop, drop-drop, slice_get, All, Option, Some, None, refl, sym, ap, ◌∙◌, subst, arith}
use Rattle.std.proofs.Math.Nat.{div-add-mod}
use Rattle.std.proofs.lemmas.List.{get_or-set_same, length-append, places, same_lists}
use Rattle.std.proofs.lemmas.Nat.{div-mul-add, mod-mul-add}
use Rattle.std.proofs.lemmas.Option.{none-some, same_Some}
use Rattle.byteorder.specs.Endian.{big_number}
use Rattle.ivy_model.specs.declared.Call.{Call}
use Rattle.ivy_model.specs.declared.Config.{Config}
use Rattle.ivy_model.specs.declared.Record.{Record}
use Rattle.ivy_model.specs.declared.Reply.{Reply}
use Rattle.ivy_model.specs.declared.Reply.TheVariants as reply
use Rattle.ivy_model.specs.declared.Row.{Row}
use Rattle.ivy_model.specs.declared.Row.TheVariants.{Loads, Stores}
use Rattle.ivy_model.specs.stated.Config.{IsConfig}
use Rattle.ivy_model.specs.stated.Serves.{access_refusal}
use Rattle.ivy_model.specs.Rows.{numbers_in, record_in, row}
use Rattle.ivy_model.proofs.Rows.{length-numbers_in, same_numbers}
use Rattle.ivy_pagetable.specs.declared.Out.{Out}
use Rattle.ivy_pagetable.specs.declared.Out.TheVariants as out
use Rattle.ivy_pagetable.specs.declared.Word.{Word}
use Rattle.ivy_pagetable.specs.stated.Tables.{page_at, with_page}
use Rattle.ivy_pagetable.specs.stated.Words.{carried_out}
use Rattle.ivy_pagetable.specs.WordRows.{AreCarried, out_in, with_row, word_in}
use Rattle.ivy_pagetable.proofs.RowsCarried.{stores}
use Rattle.ivy_coherence.specs.declared.need.Need.{Need}
use Rattle.ivy_coherence.specs.declared.need.Need.TheVariants as need
use Rattle.ivy_coherence.specs.stated.Coherent.{Coherent}
use Rattle.ivy_coherence.specs.stated.PageFaults.{Begun, begun}
use Rattle.ivy_coherence.proofs.keeping.EventTable.{AccessRows, begun-by_rows}
use Rattle.ivy_alloc.specs.declared.CallProgress.{CallProgress}
use Rattle.ivy_alloc.specs.declared.CallProgress.TheVariants.{Given, Awaited, Unserved}
use Rattle.ivy_memory.specs.AtOnce.{IsRowAt}
use Rattle.ivy_memory.specs.stated.Asking.{asked_of, word_unless}
use Rattle.ivy_memory.specs.stated.Beside.{Beside, beside}
use Rattle.ivy_memory.specs.stated.Sound.{IsSoundMemory}
use Rattle.ivy_memory.specs.stated.Memories.{NodeMemory, CallBegun, answered, begun_as, call_begun, needed, reply_of}
use Rattle.ivy_memory.proofs.batches.AtOnce.{row_begins}
use Rattle.ivy_program.specs.Programs.{IsCalled}
use Rattle.ivy_program.specs.stated.InstructionSteps.{Step, Asks, Ends, Local, along_of, step_of}
use Rattle.ivy_moves.specs.stated.Cores.{Outcome}
use Rattle.ivy_host.specs.stated.Hosts.{Host, begins_as, begins_with, due, number_of, recorded, steps, turn_of, turned_at}
use Rattle.ivy_host.specs.stated.Managers.{Managed, managed_ops}
use Rattle.ivy_host.proofs.Programs.{guarded}
use Rattle.ivy_host.proofs.Turns.{none-due}
use Rattle.ivy_site.specs.Calls.{AreAnswered, BeginsCall}
use Rattle.ivy_site.specs.Handed.{site_handed}
use Rattle.ivy_site.specs.SiteView.{SiteView}
use Rattle.ivy_site.proofs.Calling.{used-due}
use Rattle.ivy_embedded.specs.declared.lending.Lending.{Lending}
use Rattle.ivy_embedded.proofs.Delivered.{table_of}
use Rattle.ivy_embedded.proofs.Going.{IsSettled, answered_config, answered_settled, core_of, handed_own, turned_core}
use Rattle.ivy_embedded.proofs.Unanswered.{asks_unanswered, local_less}

-- the words are carried out on the bytes of a page, one after another
abbrev RunsOn : Row → ℕ → List ℕ → List ℕ → List ℕ → Type 0
RunsOn kind offset [] old new = new ≡ old
RunsOn kind offset (number ∷ more) old new =
    ((carried_out (word_in kind offset number) old).out ≡ out_in kind number)
    × RunsOn kind (offset + 8) more (carried_out (word_in kind offset number) old).bytes new

runs : (kind : Row) (offset : ℕ) (numbers old new : List ℕ) → AreCarried kind offset numbers old new
    → RunsOn kind offset numbers old new
runs kind offset [] old new same = same
runs kind offset (number ∷ more) old new h = (h.1, runs kind (offset + 8) more _ new h.2)

same_run : (kind : Row) (offset : ℕ) (numbers old one other : List ℕ)
    → RunsOn kind offset numbers old one → RunsOn kind offset numbers old other → one ≡ other
same_run kind offset [] old one other a b = a ∙ sym b
same_run kind offset (number ∷ more) old one other a b =
    same_run kind (offset + 8) more _ one other a.1 b.1

-- what was loaded stands there
loads_are : (offset : ℕ) (numbers old new : List ℕ) → RunsOn Loads offset numbers old new
    → (numbers_in (length numbers) (drop offset new) ≡ numbers) × (new ≡ old)
loads_are offset [] old new same = (refl, same)
loads_are offset (number ∷ more) old new h =
    let rest = loads_are (offset + 8) more old new h.1 in
    let first : big_number 8 (drop offset old) ≡ number = (let f = h.0 in cc) in (
      (λ j. (ap (λ bytes. big_number 8 (drop offset bytes)) rest.1 ∙ first) j
          ∷ (ap (numbers_in (length more)) (drop-drop 8 offset new) ∙ rest.0) j),
      rest.1,
    )

-- and so does what was stored
stores_are : (offset n : ℕ) (old new from : List ℕ) → offset % 8 ≡ 0
    → offset + 8 * n ≤ length old → 8 * n ≤ length from → All (λ b. b < 256) from
    → RunsOn Stores offset (numbers_in n from) old new
    → numbers_in n (drop offset new) ≡ numbers_in n from
stores_are offset n old new from aligned fits many low h =
    let is : new ≡ with_row old offset n from =
    same_run Stores offset (numbers_in n from) old new (with_row old offset n from) h
    (runs Stores offset (numbers_in n from) old (with_row old offset n from)
    (stores n offset old from aligned fits many low)) in
    ap (λ bytes. numbers_in n (drop offset bytes)) is
    ∙ same_numbers n (drop offset (with_row old offset n from)) from
    (same_lists _ _ (grind (arith, places)) (λ k d h. grind (arith, places)))

-- one call that is answered in the turn in which it begins

last_same : (xs : List Record) (a b : Record) → xs ++ a ∷ [] ≡ xs ++ b ∷ [] → a ≡ b
last_same [] a b same = same_Some a b (ap (λ l. slice_get l 0) same)
last_same (x ∷ xs) a b same = last_same xs a b (ap (drop 1) same)

no_more : (xs : List Record) (a : Record) → xs ≡ xs ++ a ∷ [] → ⊥
no_more xs a same =
    let long = ap length same ∙ length-append xs (a ∷ []) in absurd (omega (arith, long))

-- the turn is the beginning of the call, which was given this reply
abbrev IsGivenBy : Host Managed → Record → Host Managed → Type 0
IsGivenBy n r new =
    ((call_begun managed_ops n.memory r.call (along_of n.process) (length n.history + 1)).answer
    ≡ Given r.reply)
    × (new.memory
    ≡ (call_begun managed_ops n.memory r.call (along_of n.process) (length n.history + 1)).after)

module _ (n : Host Managed) (r : Record) (o : Outcome (Host Managed))
    (grown : o.after.history ≡ n.history ++ r ∷ []) where
  given_with : (k : Call) (a : CallBegun Managed) (p : CallProgress)
      → a ≡ call_begun managed_ops n.memory k (along_of n.process) (length n.history + 1)
      → a.answer ≡ p → begins_with n k a p ≡ Some o → IsGivenBy n r o.after
  given_with k a (Given q) begun is at =
      let same : record { after = recorded n a.after k q; posted = a.posted } ≡ o =
      same_Some (record { after = recorded n a.after k q; posted = a.posted }) o at in
      let last : record { node = number_of n; call = k; reply = q } ≡ r =
      last_same n.history (record { node = number_of n; call = k; reply = q }) r
      (ap (λ (x : Outcome (Host Managed)). x.after.history) same ∙ grown) in
      let call : k ≡ r.call = ap (λ (x : Record). x.call) last in
      let whole : a ≡ call_begun managed_ops n.memory r.call (along_of n.process) (length n.history + 1) =
      begun ∙ ap (λ c. call_begun managed_ops n.memory c (along_of n.process) (length n.history + 1)) call in (
        ap (λ (b : CallBegun Managed). b.answer) (sym whole)
            ∙ (is ∙ ap (λ (x : Record). Given x.reply) last),
        ap (λ (x : Outcome (Host Managed)). x.after.memory) (sym same)
            ∙ ap (λ (b : CallBegun Managed). b.after) whole,
      )
  given_with k a Awaited begun is at =
      let same : record { after = record n { memory = a.after }; posted = a.posted } ≡ o =
      same_Some (record { after = record n { memory = a.after }; posted = a.posted }) o at in
      absurd (no_more n.history r
      (ap (λ (x : Outcome (Host Managed)). x.after.history) same ∙ grown))
  given_with k a Unserved begun is at = absurd (none-some o at)

  given_step : (t : Step) → IsCalled n.process.program → step_of n.process ≡ t
      → steps managed_ops n t ≡ Some o → IsGivenBy n r o.after
  given_step (Local s) called is at = absurd (local_less n.process s called is)
  given_step (Asks k) called is at =
      let a = call_begun managed_ops n.memory k (along_of n.process) (length n.history + 1) in
      given_with k a a.answer refl refl
      (guarded (nat_lt (length n.history + 1) (2 ^ 64)) (begins_as n k a) o at).1
  given_step Ends called is at = absurd (none-some o at)

  given_at : (a : Option Call) → a ≡ None → IsCalled n.process.program
      → turned_at managed_ops n a ≡ Some o → IsGivenBy n r o.after
  given_at None none called at = given_step (step_of n.process) called refl at
  given_at (Some k) none called at = absurd (none-some k (sym none))

  given_turn : n.memory.asked ≡ None → IsCalled n.process.program → due n ≡ None
      → turn_of managed_ops n ≡ Some o → IsGivenBy n r o.after
  given_turn none called undue at =
      given_at n.memory.asked none called (sym (none-due managed_ops n undue) ∙ at)

-- what an access that is had at once does to its page
abbrev IsHad : Coherent Managed → ℕ → Word → Begun Managed → Type 0
IsHad c page w b = (o : Out) → b.need ≡ need.Have o
    → (o ≡ (carried_out w (page_at c.table page)).out)
    × (b.after ≡ record c { table = with_page c.table page (carried_out w (page_at c.table page)).bytes })

had_rows : (c : Coherent Managed) (page : ℕ) (w : Word) (call : ℕ)
    → AccessRows managed_ops c page w call (IsHad c page w)
had_rows c page w call = record {
  busy = λ o is. absurd cc;
  hit = λ i none at enough o is.
      (let same : (carried_out w (page_at c.table page)).out ≡ o = cc in (sym same, refl));
  read = λ i none at short reads o is. absurd cc;
  write = λ i none at short writes other o is. absurd cc;
  owner = λ i none at short writes own o is. absurd cc;
  joins = λ e none at fits o is. absurd cc;
  beside = λ e none at lock unfit o is. absurd cc;
}

-- a call whose word was had
abbrev IsAnsweredBy : NodeMemory Managed → Begun Managed → Reply → CallBegun Managed → Type 0
IsAnsweredBy m b r a = (o : Out) × (b.need ≡ need.Have o) × (reply_of o ≡ Some r)
    × (a.after.coherence ≡ b.after)

answered_by_reply : (m : NodeMemory Managed) (k : Call) (number : ℕ) (b : Begun Managed) (r : Reply)
    (o : Out) (p : Option Reply) → b.need ≡ need.Have o → reply_of o ≡ p
    → (answered m k number b p).answer ≡ Given r → IsAnsweredBy m b r (answered m k number b p)
answered_by_reply m k number b r o None at is given = absurd cc
answered_by_reply m k number b r o (Some q) at is given =
    let same : q ≡ r = cc in (o, at, is ∙ ap Some same, refl)

answered_by_need : (m : NodeMemory Managed) (k : Call) (more : Beside) (number : ℕ)
    (b : Begun Managed) (r : Reply) (n : Need) → b.need ≡ n
    → (needed m k more number b n).answer ≡ Given r
    → IsAnsweredBy m b r (needed m k more number b n)
answered_by_need m k more number b r (need.Have o) at given =
    answered_by_reply m k number b r o (reply_of o) at refl given
answered_by_need m k more number b r need.Started at given = absurd cc
answered_by_need m k more number b r need.Busy at given = absurd cc
answered_by_need m k more number b r need.Fetched at given = absurd cc

-- a word of a row was had: its page changed so, and no other page did
pub record IsWordHad (kind : Row) (addr number : ℕ) (old new : NodeMemory Managed) : Type 0 where
  pub place : access_refusal old.coherence.config 8 addr ≡ None
  pub out : (carried_out (word_in kind (addr % old.coherence.config.page_size) number)
      (page_at old.coherence.table (addr / old.coherence.config.page_size))).out
      ≡ out_in kind number
  pub page : page_at new.coherence.table (addr / old.coherence.config.page_size)
      ≡ (carried_out (word_in kind (addr % old.coherence.config.page_size) number)
      (page_at old.coherence.table (addr / old.coherence.config.page_size))).bytes
  pub config : new.coherence.config ≡ old.coherence.config
  pub pages : length new.coherence.table.pages ≡ length old.coherence.table.pages

asks_as : (kind : Row) (c : Config) (node addr number : ℕ)
    → asked_of c (record_in kind node addr number).call
    ≡ word_unless (access_refusal c 8 addr) (addr / c.page_size)
    (word_in kind (addr % c.page_size) number)
asks_as Loads c node addr number = refl
asks_as Stores c node addr number = refl

not_refused : (kind : Row) (node addr number code : ℕ)
    → Given (reply.Refused code) ≡ Given (record_in kind node addr number).reply → ⊥
not_refused Loads node addr number code e = cc
not_refused Stores node addr number code e = cc

-- what such a word gives
gives : (kind : Row) (node addr number offset : ℕ) (bytes : List ℕ)
    → reply_of (carried_out (word_in kind offset number) bytes).out
    ≡ Some (record_in kind node addr number).reply
    → (carried_out (word_in kind offset number) bytes).out ≡ out_in kind number
gives Loads node addr number offset bytes is = ap out.Value (let f = is in cc)
gives Stores node addr number offset bytes is = refl

module _ (m : NodeMemory Managed) (kind : Row) (node addr number : ℕ) (calls : List Call)
    (at : ℕ) (limits : IsConfig m.coherence.config)
    (pages : length m.coherence.table.pages ≡ m.coherence.config.pages) where
  abbrev c : Config
  c = m.coherence.config

  abbrev w : Word
  w = word_in kind (addr % c.page_size) number

  abbrev here : ℕ
  here = addr / c.page_size

  had_word : (a : CallBegun Managed) → access_refusal c 8 addr ≡ None
      → IsAnsweredBy m (begun managed_ops m.coherence here w at)
      (record_in kind node addr number).reply a
      → IsWordHad kind addr number m a.after
  had_word a permitted h =
      let had : IsHad m.coherence here w (begun managed_ops m.coherence here w at) =
      begun-by_rows (had_rows m.coherence here w at) in
      let got = had h.0 h.1 in
      let place : IsRowAt c addr (record { page = here; offset = addr % c.page_size }) =
      record { permitted = permitted; page = refl; offset = refl } in
      let inside = (row_begins c addr _ limits place).to in
      let after = h.3 ∙ got.1 in
      record {
        place = permitted;
        out = gives kind node addr number (addr % c.page_size) (page_at m.coherence.table here)
            (ap reply_of (sym got.0) ∙ h.2);
        page = ap (λ (x : Coherent Managed). page_at x.table here) after
            ∙ get_or-set_same m.coherence.table.pages here _ [] (omega (arith, inside, pages));
        config = ap (λ (x : Coherent Managed). x.config) after;
        pages = ap (λ (x : Coherent Managed). length x.table.pages) after
            ∙ length-set m.coherence.table.pages here _;
      }

  had_as : (o : Option ℕ) → access_refusal c 8 addr ≡ o
      → (begun_as managed_ops m (record_in kind node addr number).call calls at
      (word_unless o here w)).answer ≡ Given (record_in kind node addr number).reply
      → IsWordHad kind addr number m
      (begun_as managed_ops m (record_in kind node addr number).call calls at
      (word_unless o here w)).after
  had_as (Some code) is given = absurd (not_refused kind node addr number code given)
  had_as None is given =
      let b = begun managed_ops m.coherence here w at in
      had_word
      (needed m (record_in kind node addr number).call (beside m.coherence.config here w calls at) at
      b b.need) is
      (answered_by_need m (record_in kind node addr number).call
      (beside m.coherence.config here w calls at) at b (record_in kind node addr number).reply
      b.need refl given)

  word_had : (call_begun managed_ops m (record_in kind node addr number).call calls at).answer
      ≡ Given (record_in kind node addr number).reply
      → IsWordHad kind addr number m
      (call_begun managed_ops m (record_in kind node addr number).call calls at).after
  unfolding call_begun
  word_had given =
      subst (λ a. IsWordHad kind addr number m
      (begun_as managed_ops m (record_in kind node addr number).call calls at a).after)
      (sym (asks_as kind c node addr number))
      (had_as (access_refusal c 8 addr) refl
      (ap (λ a. (begun_as managed_ops m (record_in kind node addr number).call calls at a).answer)
      (sym (asks_as kind c node addr number)) ∙ given))

-- a site whose calls have their replies asks for none
settled_asks : (lent : List Lending) (s : SiteView) → IsSettled lent s
    → (core_of s).memory.asked ≡ None
settled_asks lent s settled = by (core_of s).memory.asked refl
  where
    by : (o : Option Call) → (core_of s).memory.asked ≡ o → (core_of s).memory.asked ≡ None
    by None is = is
    by (Some k) is =
        absurd (settled.none k
        (asks_unanswered (core_of s).process k settled.own.called (settled.own.asking k is).0))

-- the first word of a row was had
module _ (lent : List Lending) (c : Config) (limits : IsConfig c) (kind : Row) (me : ℕ) where
  first_had : (number addr : ℕ) (old mid : SiteView) → IsSettled lent old
      → (core_of old).memory.coherence.config ≡ c
      → length (table_of (core_of old)).pages ≡ c.pages
      → BeginsCall (record_in kind me addr number).call
      (Some (record_in kind me addr number).reply) old mid
      → IsWordHad kind addr number (core_of old).memory (core_of mid).memory
  first_had number addr old mid settled config pages h =
      let r = record_in kind me addr number in
      let handed = site_handed ((r.call ∷ []) ∷ []) old in
      let own = handed_own old ((r.call ∷ []) ∷ []) settled.own settled.none in
      let after = turned_core handed mid h.turns in
      let given = given_turn (core_of handed)
      (record { node = number_of (core_of old); call = r.call; reply = r.reply })
      h.turns.outcome (ap (λ (n : Host Managed). n.history) after ∙ h.recorded)
      (settled_asks lent old settled) own.called (used-due (core_of handed) own.fetched) h.turns.turn in
      subst (IsWordHad kind addr number (core_of old).memory)
      (sym given.1 ∙ ap (λ (n : Host Managed). n.memory) after)
      (word_had (core_of old).memory kind me addr number (along_of (core_of handed).process)
      (length (core_of old).history + 1) (subst IsConfig (sym config) limits)
      (pages ∙ ap (λ (k : Config). k.pages) (sym config)) given.0)

  -- and all of one that lies in one page, on the bytes of that page
  row_runs : (page : ℕ) (numbers : List ℕ) (addr offset : ℕ) (old new : SiteView)
      → addr ≡ page * c.page_size + offset → offset + 8 * length numbers ≤ c.page_size
      → IsSettled lent old → (core_of old).memory.coherence.config ≡ c
      → length (table_of (core_of old)).pages ≡ c.pages
      → AreAnswered (row kind me addr numbers) old new
      → RunsOn kind offset numbers (page_at (table_of (core_of old)) page)
      (page_at (table_of (core_of new)) page)
  row_runs page [] addr offset old new is fits settled config pages same =
      ap (λ (s : SiteView). page_at (table_of (core_of s)) page) same
  row_runs page (number ∷ more) addr offset old new is fits settled config pages h =
      let r = record_in kind me addr number in
      let t = table_of (core_of old) in
      let had = first_had number addr old h.0 settled config pages h.1 in
      let size : (core_of old).memory.coherence.config.page_size ≡ c.page_size =
      ap (λ (k : Config). k.page_size) config in
      let low : offset < c.page_size = omega (arith, fits) in
      let of : addr / (core_of old).memory.coherence.config.page_size ≡ page =
      (λ j. is j / size j) ∙ div-mul-add page c.page_size offset low in
      let at : addr % (core_of old).memory.coherence.config.page_size ≡ offset =
      (λ j. is j % size j) ∙ mod-mul-add page c.page_size offset low in
      let settled_on = answered_settled lent (r ∷ []) old h.0 (h.0, h.1, refl) settled in
      let on : addr + 8 ≡ page * c.page_size + (offset + 8) = omega (arith, is) in
      let rest = row_runs page more (addr + 8) (offset + 8) h.0 new on (omega (arith, fits))
      settled_on (had.config ∙ config) (had.pages ∙ pages) h.2 in (
        ap (λ x. (carried_out (word_in kind x number) (page_at t page)).out) (sym at)
            ∙ (ap (λ p. (carried_out (word_in kind (addr % (core_of old).memory.coherence.config.page_size) number)
            (page_at t p)).out) (sym of) ∙ had.out),
        subst (λ bytes. RunsOn kind (offset + 8) more bytes (page_at (table_of (core_of new)) page))
            (ap (page_at (table_of (core_of h.0))) (sym of)
            ∙ (had.page
            ∙ (λ j. (carried_out (word_in kind (at j) number) (page_at t (of j))).bytes)))
            rest,
      )

-- the words of the node, from the address on in its page
abbrev words_at : SiteView → ℕ → ℕ → List ℕ
words_at s addr n = numbers_in n (drop (addr % s.config.page_size)
    (page_at (table_of (core_of s)) (addr / s.config.page_size)))

abbrev IsInside : SiteView → ℕ → ℕ → Type 0
IsInside s addr n = addr % s.config.page_size + 8 * n ≤ s.config.page_size

split : (addr size : ℕ) → addr ≡ addr / size * size + addr % size
split addr size =
    let whole = div-add-mod addr size in
    let turned : addr / size * size ≡ size * (addr / size) = grind arith in
    omega (arith, whole, turned)

module _ (lent : List Lending) (s new : SiteView) (addr n : ℕ) (bytes : List ℕ)
    (settled : IsSettled lent s) (memory : IsSoundMemory managed_ops (core_of s).memory)
    (config : (core_of s).memory.coherence.config ≡ s.config) where
  limits : IsConfig s.config
  limits = subst IsConfig config memory.coherent.limits

  pages : length (table_of (core_of s)).pages ≡ s.config.pages
  pages = memory.coherent.pages ∙ ap (λ (c : Config). c.pages) config

  abbrev page : ℕ
  page = addr / s.config.page_size

  abbrev offset : ℕ
  offset = addr % s.config.page_size

  run : (kind : Row) → AreAnswered (row kind s.me addr (numbers_in n bytes)) s new
      → IsInside s addr n
      → RunsOn kind offset (numbers_in n bytes) (page_at (table_of (core_of s)) page)
      (page_at (table_of (core_of new)) page)
  run kind h inside =
      let long = length-numbers_in n bytes in
      row_runs lent s.config limits kind s.me page (numbers_in n bytes) addr offset s new
      (split addr s.config.page_size) (omega (arith, inside, long)) settled config pages h

  -- what is loaded are the node's words
  pub loads_have : AreAnswered (row Loads s.me addr (numbers_in n bytes)) s new
      → IsInside new addr n → words_at new addr n ≡ numbers_in n bytes
  loads_have h =
      rw (answered_config (row Loads s.me addr (numbers_in n bytes)) s new h)
      (λ inside. (let long = length-numbers_in n bytes in
      subst (λ k. numbers_in k (drop offset (page_at (table_of (core_of new)) page)) ≡ numbers_in n bytes)
      long
      (loads_are offset (numbers_in n bytes) (page_at (table_of (core_of s)) page)
      (page_at (table_of (core_of new)) page) (run Loads h inside)).0))

  -- and what is stored are they then
  stored_some : (count : ℕ) → count ≡ n → 8 * n ≤ length bytes → All (λ b. b < 256) bytes
      → AreAnswered (row Stores s.me addr (numbers_in count bytes)) s new
      → IsInside s addr n
      → numbers_in n (drop offset (page_at (table_of (core_of new)) page)) ≡ numbers_in n bytes
  stored_some zero is many low h inside =
      subst (λ k. numbers_in k (drop offset (page_at (table_of (core_of new)) page))
      ≡ numbers_in k bytes) is refl
  stored_some (suc count) is many low h inside =
      let first = first_had lent s.config limits Stores s.me (big_number 8 bytes) addr s h.0
      settled config pages h.1 in
      let permitted : access_refusal s.config 8 addr ≡ None =
      ap (λ c. access_refusal c 8 addr) (sym config) ∙ first.place in
      let place : IsRowAt s.config addr (record { page = page; offset = offset }) =
      record { permitted = permitted; page = refl; offset = refl } in
      let found = row_begins s.config addr _ limits place in
      let sized : length (page_at (table_of (core_of s)) page) ≡ s.config.page_size =
      memory.coherent.sized page
      (subst (λ (c : Config). page < c.pages) (sym config) found.to)
      ∙ ap (λ (c : Config). c.page_size) config in
      stores_are offset n (page_at (table_of (core_of s)) page)
      (page_at (table_of (core_of new)) page) bytes found.aligned
      (omega (arith, inside, sized)) many low
      (run Stores (subst (λ k. AreAnswered (row Stores s.me addr (numbers_in k bytes)) s new) is h)
      inside)

  pub stores_have : 8 * n ≤ length bytes → All (λ b. b < 256) bytes
      → AreAnswered (row Stores s.me addr (numbers_in n bytes)) s new
      → IsInside new addr n → words_at new addr n ≡ numbers_in n bytes
  stores_have many low h =
      rw (answered_config (row Stores s.me addr (numbers_in n bytes)) s new h)
      (stored_some n refl many low h)
