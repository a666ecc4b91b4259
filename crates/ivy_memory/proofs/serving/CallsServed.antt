-- A call by what it is to the memory of a node: its word, carried out on its page, is the call, and
-- what is refused the flat memory refuses.
use Rattle.std.proofs.Common.{◌≡◌, ◌≤◌, ◌<◌, ℕ, ◌*◌, ◌/◌, ◌%◌, Bool, true, false, get_or, Option, Some, None, Ok, Err, nat_lt, refl, sym, ap, subst, arith, if◌then◌else◌, slice_get}
use Rattle.std.proofs.lemmas.Bool.{ltb-true, ltb-false}
use Rattle.std.proofs.lemmas.Option.{slice_get-get_or, slice_get_past}
use Rattle.ivy_model.specs.declared.Config.{Config}
use Rattle.ivy_model.specs.declared.Call.{Call}
use Rattle.ivy_model.specs.declared.Call.TheVariants as call
use Rattle.ivy_model.specs.declared.Act.{Act}
use Rattle.ivy_model.specs.declared.CallKind.TheVariants as kind
use Rattle.ivy_model.specs.declared.Reply.TheVariants as reply
use Rattle.ivy_model.specs.declared.Fault.TheVariants.{NoSuchCount}
use Rattle.ivy_model.specs.stated.Accesses.{kind_of_call}
use Rattle.ivy_model.specs.stated.Config.{IsConfig, count_len}
use Rattle.ivy_model.specs.Memory.{IsSized, flat_page}
use Rattle.ivy_model.specs.stated.Memory as model
use Rattle.ivy_model.specs.stated.Serves.{Serves, ServesKind, Accesses, access_refusal}
use Rattle.ivy_model.specs.stated.Legal.{HasWidth, IsWidth}
use Rattle.ivy_pagetable.specs.declared.Word.{Word}
use Rattle.ivy_pagetable.specs.declared.Word.TheVariants as word
use Rattle.ivy_pagetable.specs.stated.Words.{carried_out, word_with}
use Rattle.ivy_memory.specs.declared.memory.Asked.TheVariants as asked
use Rattle.ivy_memory.specs.stated.Asking.{asked_of, count_asked, word_unless}
use Rattle.ivy_memory.specs.Flat.{IsServed, WordsAreFlat, RefusalsAreFlat}
use Rattle.ivy_memory.proofs.serving.WordsServed.{access_served, access_refused, count_served, advance_served, await_served, count_refused, advance_refused, await_refused}

-- what a word that is not refused is, and the code of one that is
is_word : (o : Option ℕ) (p q : ℕ) (v w : Word) → word_unless o p v ≡ asked.Word q w
    → (o ≡ None) × (p ≡ q) × (v ≡ w)
is_word None p q v w h = (refl, (let e : p ≡ q = cc in e), (let e : v ≡ w = cc in e))
is_word (Some code) p q v w h = absurd cc

is_refused : (o : Option ℕ) (p code : ℕ) (v : Word) → word_unless o p v ≡ asked.Refused code
    → o ≡ Some code
is_refused None p code v h = absurd cc
is_refused (Some n) p code v h = (let e : n ≡ code = cc in ap Some e)

-- a count that is a word is there, and one that is refused is past the last
count_there : (b : Bool) (q : ℕ) (v w : Word)
    → count_asked (if b then Ok v else Err NoSuchCount) ≡ asked.Word q w
    → (b ≡ true) × (0 ≡ q) × (v ≡ w)
count_there true q v w h = (refl, (let e : 0 ≡ q = cc in e), (let e : v ≡ w = cc in e))
count_there false q v w h = absurd cc

count_gone : (b : Bool) (code : ℕ) (v : Word)
    → count_asked (if b then Ok v else Err NoSuchCount) ≡ asked.Refused code
    → (b ≡ false) × (6 ≡ code)
count_gone true code v h = absurd cc
count_gone false code v h = (refl, (let e : 6 ≡ code = cc in e))

module _ (c : Config) (mem : model.Memory) (sized : IsSized c mem) where
  -- the count itself
  abbrev count_at : ℕ → ℕ
  count_at k = get_or mem.counts k 0

  counts_on : (k : ℕ) → nat_lt k (count_len c) ≡ true → slice_get mem.counts k ≡ Some (count_at k)
  counts_on k there = slice_get-get_or mem.counts k 0 (
      let below : k < count_len c = ltb-true k (count_len c) there in
      let long = sized.counts in
      omega (arith, below, long)
      )

  no_count : (k : ℕ) → nat_lt k (count_len c) ≡ false → slice_get mem.counts k ≡ None
  no_count k gone =
      let past : count_len c ≤ k = ltb-false k (count_len c) gone in
      slice_get_past mem.counts k (let long = sized.counts in omega (arith, past, long))

  -- the word is what stands here
  this_word : (called : Call) (p q : ℕ) (v w : Word) → p ≡ q → v ≡ w
      → IsServed c mem called p (carried_out v (flat_page c mem p))
      → IsServed c mem called q (carried_out w (flat_page c mem q))
  this_word called p q v w a b served =
      subst (λ r. IsServed c mem called r (carried_out w (flat_page c mem r))) a
      (subst (λ u. IsServed c mem called p (carried_out u (flat_page c mem p))) b served)

  access_word : (called : Call) (width addr : ℕ) (a : Act)
      → kind_of_call called ≡ kind.Word width addr a → IsConfig c → (page : ℕ) (w : Word)
      → IsWidth width
      → word_unless (access_refusal c width addr) (addr / c.page_size)
      (word_with width (addr % c.page_size) a) ≡ asked.Word page w
      → IsServed c mem called page (carried_out w (flat_page c mem page))
  access_word called width addr a known config page w legal of =
      let is =
      is_word (access_refusal c width addr) (addr / c.page_size) page
      (word_with width (addr % c.page_size) a) w of in
      this_word called (addr / c.page_size) page (word_with width (addr % c.page_size) a) w is.1 is.2
      (access_served c mem config width addr legal is.0 sized a called known)

  pub word_served : IsConfig c → (called : Call) (page : ℕ) (w : Word) → HasWidth called
      → asked_of c called ≡ asked.Word page w
      → IsServed c mem called page (carried_out w (flat_page c mem page))
  word_served config (call.Count k) page w legal of =
      let is = count_there (nat_lt k (count_len c)) page (word.Count (8 * k)) w of in
      this_word (call.Count k) 0 page (word.Count (8 * k)) w is.1 is.2
      (count_served c mem sized k (count_at k) (counts_on k is.0))
  word_served config (call.Advance k) page w legal of =
      let is = count_there (nat_lt k (count_len c)) page (word.Advance (8 * k)) w of in
      this_word (call.Advance k) 0 page (word.Advance (8 * k)) w is.1 is.2
      (advance_served c mem sized k (count_at k) (counts_on k is.0))
  word_served config (call.Await k least) page w legal of =
      let is = count_there (nat_lt k (count_len c)) page (word.Await (8 * k) least) w of in
      this_word (call.Await k least) 0 page (word.Await (8 * k) least) w is.1 is.2
      (await_served c mem sized k (count_at k) (counts_on k is.0) least)
  word_served config (call.Alloc size) page w legal of = absurd cc
  word_served config (call.Free addr) page w legal of = absurd cc
  word_served config called page w legal of =
      access_word called _ _ _ refl config page w legal of

  access_gone : (called : Call) (width addr : ℕ) (a : Act)
      → kind_of_call called ≡ kind.Word width addr a → (code : ℕ)
      → word_unless (access_refusal c width addr) (addr / c.page_size)
      (word_with width (addr % c.page_size) a) ≡ asked.Refused code
      → Serves c mem called (reply.Refused code) mem
  access_gone called width addr a is code of =
      subst (λ k. ServesKind c mem k (reply.Refused code) mem) (sym is)
      (access_refused c mem width addr code
      (is_refused (access_refusal c width addr) (addr / c.page_size) code
      (word_with width (addr % c.page_size) a) of)
      (Accesses c mem width addr a (reply.Refused code) mem))

  pub refusal_served : (called : Call) (code : ℕ) → asked_of c called ≡ asked.Refused code
      → Serves c mem called (reply.Refused code) mem
  refusal_served (call.Count k) code is =
      let gone = count_gone (nat_lt k (count_len c)) code (word.Count (8 * k)) is in
      subst (λ n. Serves c mem (call.Count k) (reply.Refused n) mem) gone.1
      (count_refused c mem k (no_count k gone.0))
  refusal_served (call.Advance k) code is =
      let gone = count_gone (nat_lt k (count_len c)) code (word.Advance (8 * k)) is in
      subst (λ n. Serves c mem (call.Advance k) (reply.Refused n) mem) gone.1
      (advance_refused c mem k (no_count k gone.0))
  refusal_served (call.Await k least) code is =
      let gone = count_gone (nat_lt k (count_len c)) code (word.Await (8 * k) least) is in
      subst (λ n. Serves c mem (call.Await k least) (reply.Refused n) mem) gone.1
      (await_refused c mem k (no_count k gone.0) least)
  refusal_served (call.Alloc size) code is = absurd cc
  refusal_served (call.Free addr) code is = absurd cc
  refusal_served called code is = access_gone called _ _ _ refl code is

pub words_are_flat : WordsAreFlat
words_are_flat c m called page w config sized legal of =
    word_served c m sized config called page w legal of

pub refusals_are_flat : RefusalsAreFlat
refusals_are_flat c m called code sized is = refusal_served c m sized called code is
