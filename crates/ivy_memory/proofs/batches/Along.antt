-- Calls that are made along with one, and their words, which wait along with its word.
use Rattle.std.proofs.Common.{◌≡◌, ℕ, ◌+◌, ◌^◌, ◌<◌, Bool, true, false, not, ◌&&◌, ◌||◌, ◌==◌, inl, inr, List, [], ◌∷◌, ◌++◌, length, Option, Some, None, nat_lt, refl, sym, ap, ◌∙◌, subst, arith, if◌then◌else◌}
use Rattle.std.specs.Prelude.{All}
use Rattle.std.proofs.lemmas.Bool.{and_parts, eqb-true, ltb-true}
use Rattle.std.proofs.lemmas.List.{length-append}
use Rattle.std.proofs.lemmas.List.Elements.{All-nil, All-cons, All-head, All-tail, All-weaker}
use Rattle.std.proofs.lemmas.Option.{same_Some, none-some}
use Rattle.ivy_model.specs.declared.Config.{Config}
use Rattle.ivy_model.specs.declared.Call.{Call}
use Rattle.ivy_model.specs.stated.Config.{IsConfig}
use Rattle.ivy_model.specs.stated.Legal.{HasWidth}
use Rattle.ivy_pagetable.specs.declared.Entry.{Entry}
use Rattle.ivy_pagetable.specs.declared.Entry.TheVariants as entry
use Rattle.ivy_pagetable.specs.declared.Word.{Word}
use Rattle.ivy_pagetable.specs.stated.Tables.{entry_at, with_entry}
use Rattle.ivy_pagetable.specs.stated.Words.{IsWord, needs_write}
use Rattle.ivy_pagetable.specs.stated.Manager.{Ops}
use Rattle.ivy_coherence.specs.declared.Need.TheVariants as need
use Rattle.ivy_coherence.specs.stated.Coherent.{Coherent}
use Rattle.ivy_coherence.specs.stated.PageFaults.{Begun, along, started, begun}
use Rattle.ivy_coherence.specs.stated.Fetching.{suits, joined_by}
use Rattle.ivy_coherence.specs.stated.Sound.{Waits, WaitAlong, IsSound}
use Rattle.ivy_coherence.proofs.keeping.Changing.{entry_with}
use Rattle.ivy_coherence.proofs.keeping.EventTable.{AccessRows, begun-by_rows}
use Rattle.ivy_memory.specs.declared.memory.Asked.{Asked}
use Rattle.ivy_memory.specs.declared.memory.Asked.TheVariants as asked
use Rattle.ivy_memory.specs.Asking.{CanAsk}
use Rattle.ivy_memory.specs.stated.Asking.{asked_of}
use Rattle.ivy_memory.specs.stated.Beside.{Beside, nothing_beside, gives_reply, goes_along, word_along, beside_with, all_beside, beside}
use Rattle.ivy_memory.specs.stated.Sound.{IsWordOfPage}
use Rattle.ivy_memory.proofs.serving.Asking.{can_ask}

-- a word that may wait along with this one
abbrev pub MayWaitWith : Config → Word → Word → Type 0
MayWaitWith c first w =
    IsWord c.page_size w × (needs_write first ≡ false → needs_write w ≡ false)

-- these calls are the first ones of all of them
abbrev pub AreFirst : List Call → List Call → Type 0
AreFirst calls all = (rest : List Call) × (all ≡ calls ++ rest)

-- what is made beside a call whose word is this one
record AreBeside (c : Config) (first : Word) (more : Beside) : Type 0 where
  words : All (MayWaitWith c first) more.words
  widths : All HasWidth more.calls
  of_pages : All (IsWordOfPage c) more.calls

-- calls that may be in progress after one of this number
pub record MayFollow (c : Config) (number : ℕ) (calls : List Call) : Type 0 where
  pub widths : All HasWidth calls
  pub of_pages : All (IsWordOfPage c) calls
  pub small : number + length calls < 2 ^ 64

pub none_follow : (c : Config) (number : ℕ) → number < 2 ^ 64 → MayFollow c number []
none_follow c number most = record {
  widths = All-nil HasWidth;
  of_pages = All-nil (IsWordOfPage c);
  small = omega (arith, most);
}

none_beside : (c : Config) (first : Word) → AreBeside c first nothing_beside
none_beside c first = record {
  words = All-nil (MayWaitWith c first);
  widths = All-nil HasWidth;
  of_pages = All-nil (IsWordOfPage c);
}

reads_along : (b w : Bool) → (b || not w) ≡ true → b ≡ false → w ≡ false
reads_along b true h reads = absurd (let e : true ≡ false = sym h ∙ ap (λ x. x || false) reads in cc)
reads_along b false h reads = refl

along_if : (b : Bool) (v w : Word) → (if b then Some v else None) ≡ Some w → (b ≡ true) × (v ≡ w)
along_if true v w is = (refl, same_Some v w is)
along_if false v w is = absurd (none-some w is)

-- a word that goes along is one of the page
goes : (c : Config) (page : ℕ) (first : Word) (a : Asked) (w : Word) → CanAsk c a
    → word_along page first a ≡ Some w → MayWaitWith c first w × (a ≡ asked.Word page w)
goes c page first (asked.Refused code) w can is = absurd (none-some w is)
goes c page first (asked.Word p v) w can is =
    let x = along_if (goes_along page first p v) v w is in
    let both =
    and_parts ((p == page) && gives_reply v) (needs_write first || not (needs_write v)) x.0 in
    let there = and_parts (p == page) (gives_reply v) both.0 in (
      subst (MayWaitWith c first) x.1
          (can.1, reads_along (needs_write first) (needs_write v) both.1),
      (λ j. asked.Word (eqb-true p page there.0 j) (x.1 j)),
    )
goes c page first (asked.Heap k) w can is = absurd (none-some w is)

-- they are the first ones of those made
module _ (c : Config) (page : ℕ) (first : Word) where
  with_first : (call : Call) (calls : List Call) (o : Option Word) (more : Beside)
      → AreFirst more.calls calls → AreFirst (beside_with call o more).calls (call ∷ calls)
  with_first call calls None more are = (call ∷ calls, refl)
  with_first call calls (Some w) more are = (are.0, ap (λ cs. call ∷ cs) are.1)

  all-first : (calls : List Call) → AreFirst (all_beside c page first calls).calls calls
  all-first [] = ([], refl)
  all-first (call ∷ calls) =
      with_first call calls (word_along page first (asked_of c call)) _ (all-first calls)

  if-first : (b : Bool) (calls : List Call)
      → AreFirst (if b then all_beside c page first calls else nothing_beside).calls calls
  if-first true calls = all-first calls
  if-first false calls = (calls, refl)

  pub beside-first : (calls : List Call) (number : ℕ)
      → AreFirst (beside c page first calls number).calls calls
  beside-first [] number = ([], refl)
  beside-first (call ∷ calls) number =
      if-first (gives_reply first && nat_lt (number + length (call ∷ calls)) (2 ^ 64)) (call ∷ calls)

module _ (c : Config) (limits : IsConfig c) (page : ℕ) (first : Word) where
  with_beside : (call : Call) (o : Option Word) (more : Beside) → HasWidth call
      → word_along page first (asked_of c call) ≡ o → AreBeside c first more
      → AreBeside c first (beside_with call o more)
  with_beside call None more wide is are = none_beside c first
  with_beside call (Some w) more wide is are =
      let x = goes c page first (asked_of c call) w (can_ask c call limits wide) is in
      record {
        words = All-cons (MayWaitWith c first) w more.words x.0 are.words;
        widths = All-cons HasWidth call more.calls wide are.widths;
        of_pages = All-cons (IsWordOfPage c) call more.calls (page, w, x.1) are.of_pages;
      }

  all-beside : (calls : List Call) → All HasWidth calls
      → AreBeside c first (all_beside c page first calls)
  all-beside [] wide = none_beside c first
  all-beside (call ∷ calls) wide =
      with_beside call (word_along page first (asked_of c call)) _
      (All-head HasWidth call calls wide) refl
      (all-beside calls (All-tail HasWidth call calls wide))

  if-follow : (calls : List Call) (number : ℕ) (gives below : Bool) → All HasWidth calls
      → number < 2 ^ 64 → nat_lt (number + length calls) (2 ^ 64) ≡ below → (more : Beside)
      → (if gives && below then all_beside c page first calls else nothing_beside) ≡ more
      → All (MayWaitWith c first) more.words × MayFollow c number more.calls
  if-follow calls number true true wide most is more same =
      let are = all-beside calls wide in
      let few = all-first c page first calls in
      subst (λ (x : Beside). All (MayWaitWith c first) x.words × MayFollow c number x.calls) same (
        are.words,
        record {
          widths = are.widths;
          of_pages = are.of_pages;
          small =
              (let small = ltb-true (number + length calls) (2 ^ 64) is in
              let many =
              ap length few.1 ∙ length-append (all_beside c page first calls).calls few.0 in
              omega (arith, small, many));
        },
      )
  if-follow calls number true false wide most is more same =
      subst (λ (x : Beside). All (MayWaitWith c first) x.words × MayFollow c number x.calls) same
      (All-nil (MayWaitWith c first), none_follow c number most)
  if-follow calls number false below wide most is more same =
      subst (λ (x : Beside). All (MayWaitWith c first) x.words × MayFollow c number x.calls) same
      (All-nil (MayWaitWith c first), none_follow c number most)

  -- their words may wait along, and they may be in progress after it
  pub beside-follow : (calls : List Call) (number : ℕ) → All HasWidth calls → number < 2 ^ 64
      → All (MayWaitWith c first) (beside c page first calls number).words
      × MayFollow c number (beside c page first calls number).calls
  beside-follow [] number wide most = (All-nil (MayWaitWith c first), none_follow c number most)
  beside-follow (call ∷ calls) number wide most =
      if-follow (call ∷ calls) number (gives_reply first)
      (nat_lt (number + length (call ∷ calls)) (2 ^ 64)) wide most refl _ refl

-- at the entry where the word waits then, such words may wait along
abbrev pub LetsWait : {S : Type 0} → Coherent S → ℕ → Word → Begun S → Type 0
LetsWait c page first b =
    b.need ≡ need.Started
    → (b.after.config ≡ c.config) × (b.after.locked ≡ Some page)
    × ((words : List Word) → All (MayWaitWith c.config first) words
    → WaitAlong c.config (entry_at b.after.table page) words)

not_written : (b : Bool) → not b ≡ true → b ≡ false
not_written true h = absurd cc
not_written false h = refl

module _ {S : Type 0} (ops : Ops S) (c : Coherent S) (page : ℕ) (first : Word) (call : ℕ)
    (s : IsSound ops c) (inside : page < c.config.pages) where
  entry_now : (e : Entry) → entry_at (with_entry c.table page e) page ≡ e
  entry_now e =
      elim (entry_with c.table page e page (let many = s.entries in omega (arith, many, inside))) [
        | inl x ↦ x.1
        | inr x ↦ absurd (x.0 refl)
      ]

  started-lets : (e : Entry)
      → ((words : List Word) → All (MayWaitWith c.config first) words → WaitAlong c.config e words)
      → LetsWait c page first (started ops c page e [])
  started-lets e waits = λ is. (
    refl,
    refl,
    λ words are. subst (λ x. WaitAlong c.config x words) (sym (entry_now e)) (waits words are),
  )

  in_page : (words : List Word) → All (MayWaitWith c.config first) words
      → All (IsWord c.config.page_size) words
  in_page words are =
      All-weaker (MayWaitWith c.config first) (IsWord c.config.page_size) (λ w is. is.0) words are

  -- at an entry that the first one joins
  joined-lets : (e : Entry) → suits e (needs_write first) ≡ true → (words : List Word)
      → All (MayWaitWith c.config first) words → WaitAlong c.config (joined_by e first) words
  joined-lets (entry.Idle s) fits words are = absurd cc
  joined-lets (entry.AwaitRead s) fits words are =
      All-weaker (MayWaitWith c.config first) (Waits c.config false)
      (λ w may. (may.0, may.1 (not_written (needs_write first) fits))) words are
  joined-lets (entry.AwaitWrite s) fits words are = in_page words are
  joined-lets (entry.AwaitAcks s) fits words are = in_page words are

  lets-rows : AccessRows ops c page first call (LetsWait c page first)
  lets-rows = record {
    busy = λ is. absurd cc;
    hit = λ i none is enough started. absurd cc;
    read = λ i none is short reads. started-lets _ (λ words are.
        All-weaker (MayWaitWith c.config first) (Waits c.config false)
        (λ w may. (may.0, may.1 reads)) words are);
    write = λ i none is short writes other. started-lets _ in_page;
    owner = λ i none is short writes own. started-lets _ in_page;
    joins = λ e none is fits started. (
      refl,
      refl,
      λ words are. subst (λ x. WaitAlong c.config x words) (sym (entry_now (joined_by e first)))
          (joined-lets e fits words are),
    );
    beside = λ e none is lock unfit started. absurd cc;
  }

  pub begun-lets : LetsWait c page first (begun ops c page first call)
  begun-lets = begun-by_rows lets-rows

-- with words that may wait along
pub along-sound : {S : Type 0} {ops : Ops S} (c : Coherent S) (page : ℕ) (words : List Word)
    → IsSound ops c → c.locked ≡ Some page
    → WaitAlong c.config (entry_at c.table page) words → IsSound ops (along words c)
along-sound c page [] s locked waits = s
along-sound c page (w ∷ words) s locked waits = record {
  limits = s.limits;
  here = s.here;
  mine = s.mine;
  managed = s.managed;
  nodes = s.nodes;
  size = s.size;
  entries = s.entries;
  pages = s.pages;
  sized = s.sized;
  each = s.each;
  hop = s.hop;
  away = s.away;
  locked = s.locked;
  fetched = s.fetched;
  others = s.others;
  apart = s.apart;
  few = s.few;
  along = λ p is.
      subst (λ q. WaitAlong c.config (entry_at c.table q) (w ∷ words))
      (same_Some page p (sym locked ∙ is)) waits;
  alone = λ free. absurd (none-some page (sym free ∙ locked));
}

-- as those of an access that was begun
pub started_along : {S : Type 0} (ops : Ops S) (c : Coherent S) (page : ℕ) (first : Word)
    (call : ℕ) (words : List Word) → IsSound ops c → page < c.config.pages
    → IsSound ops (begun ops c page first call).after → All (MayWaitWith c.config first) words
    → (begun ops c page first call).need ≡ need.Started
    → IsSound ops (along words (begun ops c page first call).after)
started_along ops c page first call words s inside good may is =
    let b = begun ops c page first call in
    let x = begun-lets ops c page first call s inside is in
    along-sound b.after page words good x.1
    (subst (λ k. WaitAlong k (entry_at b.after.table page) words) (sym x.0) (x.2 words may))
