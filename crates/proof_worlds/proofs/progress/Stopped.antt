-- The turn of a node at which no word waits, where a call is in progress: it records the reply, or
-- tries the word of the call again; and what a word is that gives no reply.
use Rattle.std.proofs.Common.{◌≡◌, ◌⊎◌, ◌<◌, ◌*◌, ℕ, Bool, true, false, nat_le, nat_lt, List, [], ◌∷◌, ◌++◌, if◌then◌else◌, Option, Some, None, Ok, Err, refl, sym, ap, ◌∙◌, subst, inl, inr}
use Rattle.std.proofs.lemmas.Bool.{ltb-true}
use Rattle.std.proofs.lemmas.Option.{none-some}
use Rattle.ivy_model.specs.declared.Config.{Config}
use Rattle.ivy_model.specs.stated.Config.{count_len}
use Rattle.ivy_model.specs.declared.Call.{Call}
use Rattle.ivy_model.specs.declared.Call.TheVariants as call
use Rattle.ivy_model.specs.declared.Fault.{Fault}
use Rattle.ivy_model.specs.declared.Reply.{Reply}
use Rattle.ivy_model.specs.declared.Reply.TheVariants as reply
use Rattle.ivy_wire.specs.declared.Content.TheVariants as content
use Rattle.ivy_wire.specs.stated.Data.{Parcel}
use Rattle.ivy_pagetable.specs.declared.Entry.TheVariants as entry
use Rattle.ivy_pagetable.specs.declared.Out.{Out}
use Rattle.ivy_pagetable.specs.declared.Out.TheVariants as out
use Rattle.ivy_pagetable.specs.declared.Word.{Word}
use Rattle.ivy_pagetable.specs.declared.Word.TheVariants as word
use Rattle.ivy_pagetable.specs.stated.Accesses.{reads, suffices}
use Rattle.ivy_pagetable.specs.stated.States.{IdleState}
use Rattle.ivy_pagetable.specs.stated.Manager.{Ops}
use Rattle.ivy_pagetable.specs.stated.Tables.{entry_at, page_at}
use Rattle.ivy_pagetable.specs.stated.Words.{number_at, awaited, offset_of, width_of, carried_out}
use Rattle.ivy_pagetable.proofs.Words.{not_yet}
use Rattle.ivy_coherence.specs.stated.PageFaults.{Begun, hit, faulted, accessed, begun_at, begun}
use Rattle.ivy_memory.specs.declared.Asked.TheVariants as kinds
use Rattle.ivy_memory.specs.stated.Asking.{asked_of, word_unless, count_asked}
use Rattle.ivy_memory.specs.stated.Beside.{nothing_beside}
use Rattle.ivy_memory.specs.stated.Memories.{NodeMemory, reply_of, reply_at, taken_out, without_call, answered, needed, again, again_unless, tried_as, polled_as}
use Rattle.ivy_memory.proofs.keeping.Polling.{polled_so}
use Rattle.ivy_moves.specs.stated.Cores.{Outcome}
use Rattle.ivy_host.proofs.Turns.{none-due}
use Rattle.ivy_program.specs.stated.Programs.{HandedFetch}
use Rattle.ivy_host.specs.stated.Hosts.{Host, number_of, recorded, begins_as, asks_reply, due, or_fetches, turned_at, turned_by, turn_of}

-- a word is not answered: it is an await, and the number there is below the least
pub record IsUnanswered (w : Word) (bytes : List ℕ) : Type 0 where
  pub offset : ℕ
  pub least : ℕ
  pub is : w ≡ word.Await offset least
  pub below : number_at 8 offset bytes < least

some_none : {X : Type 0} (x : X) → Some x ≡ None → ⊥
some_none x h = none-some x (sym h)

unanswered_out : (o : Out) → reply_of o ≡ None → o ≡ out.NotYet
unanswered_out (out.Value value) h = absurd (some_none _ h)
unanswered_out out.Done h = absurd (some_none _ h)
unanswered_out out.Full h = absurd (some_none _ h)
unanswered_out out.NotYet h = refl

pub unanswered : (w : Word) (bytes : List ℕ) → reply_of (carried_out w bytes).out ≡ None
    → IsUnanswered w bytes
unanswered w bytes h =
    let waits =
    not_yet w (number_at (width_of w) (offset_of w) bytes)
    (unanswered_out (carried_out w bytes).out h) in
    record {
      offset = waits.offset;
      least = waits.least;
      is = waits.is;
      below =
          subst (λ v. number_at (width_of v) (offset_of v) bytes < waits.least) waits.is waits.below;
    }

-- the call is an await of a count that there is
pub record IsAwait (c : Config) (called : Call) (page offset least : ℕ) : Type 0 where
  pub count : ℕ
  pub is : called ≡ call.Await count least
  pub at : offset ≡ 8 * count
  pub first : page ≡ 0
  pub there : count < count_len c

no_access : (o : Option ℕ) (p page offset least : ℕ) (w : Word)
    → ((offset least : ℕ) → w ≡ word.Await offset least → ⊥)
    → word_unless o p w ≡ kinds.Word page (word.Await offset least) → ⊥
no_access (Some code) p page offset least w other h = cc
no_access None p page offset least w other h =
    other offset least
    (let f : kinds.Word p w ≡ kinds.Word page (word.Await offset least) = h in cc)

count_word : (b : Bool) (w : Word) (fault : Fault) (page offset least : ℕ)
    → count_asked (if b then Ok w else Err fault) ≡ kinds.Word page (word.Await offset least)
    → (b ≡ true) × (page ≡ 0) × (w ≡ word.Await offset least)
count_word true w fault page offset least h =
    (let f : kinds.Word 0 w ≡ kinds.Word page (word.Await offset least) = h in (refl, cc, cc))
count_word false w fault page offset least h = absurd cc

pub await_is : (c : Config) (called : Call) (page offset least : ℕ)
    → asked_of c called ≡ kinds.Word page (word.Await offset least)
    → IsAwait c called page offset least
await_is c (call.Count k) page offset least h =
    (let f = count_word (nat_lt k (count_len c)) (word.Count (8 * k)) _ page offset least h in
    let g : word.Count (8 * k) ≡ word.Await offset least = f.2 in absurd cc)
await_is c (call.Advance k) page offset least h =
    (let f = count_word (nat_lt k (count_len c)) (word.Advance (8 * k)) _ page offset least h in
    let g : word.Advance (8 * k) ≡ word.Await offset least = f.2 in absurd cc)
await_is c (call.Await k l) page offset least h =
    (let f = count_word (nat_lt k (count_len c)) (word.Await (8 * k) l) _ page offset least h in
    let g : word.Await (8 * k) l ≡ word.Await offset least = f.2 in
    let same : l ≡ least = cc in
    let place : 8 * k ≡ offset = cc in
    record {
      count = k;
      is = ap (call.Await k) same;
      at = sym place;
      first = f.1;
      there = ltb-true k (count_len c) f.0;
    })
await_is c (call.Alloc size) page offset least h = absurd cc
await_is c (call.Free addr) page offset least h = absurd cc
await_is c called page offset least h =
    absurd (no_access _ _ page offset least _ (λ o l e. cc) h)

module _ {S : Type 0} (ops : Ops S) (n : Host S) (called : Call)
    (asked : n.memory.asked ≡ Some called) where
  abbrev m : NodeMemory S
  m = n.memory

  -- the call comes before a fetch that is due
  by_due : (d : Option HandedFetch) (o : Outcome (Host S))
      → begins_as n called (polled_as ops m called (reply_at m)) ≡ Some o
      → turned_by ops n d ≡ Some o
  by_due None o is =
      ap (turned_at ops n) asked ∙ ap (begins_as n called) (polled_so ops m called asked) ∙ is
  by_due (Some f) o is =
      ap (or_fetches ops n f)
      (ap (asks_reply ops n) asked ∙ ap (begins_as n called) (polled_so ops m called asked) ∙ is)

  polls : (o : Outcome (Host S))
      → begins_as n called (polled_as ops m called (reply_at m)) ≡ Some o → turn_of ops n ≡ Some o
  unfolding turn_of
  polls o is = by_due (due n) o is

  -- where none is due, it is the turn
  polls-undue : due n ≡ None
      → turn_of ops n ≡ begins_as n called (polled_as ops m called (reply_at m))
  polls-undue undue =
      none-due ops n undue ∙ ap (turned_at ops n) asked
      ∙ ap (begins_as n called) (polled_so ops m called asked)

  -- a reply that is there is recorded
  pub replied_turn : (r : Reply) → reply_at m ≡ Some r
      → turn_of ops n ≡ Some (record { after = recorded n (taken_out m) called r; posted = [] })
  replied_turn r is = polls _ (ap (λ o. begins_as n called (polled_as ops m called o)) is)

  -- Without one, where no word waits at the node, the word of the call is tried again.
  module _ (c : Config) (config : m.coherence.config ≡ c) (none : reply_at m ≡ None)
      (free : m.coherence.locked ≡ None) (page : ℕ) (w : Word)
      (of : asked_of c called ≡ kinds.Word page w) where
    -- what comes of it
    abbrev tried : Begun S → Option (Outcome (Host S))
    tried b =
        begins_as n called
        (again m (needed (without_call m) called nothing_beside m.number b b.need) b.need)

    begun_free : begun ops (without_call m).coherence page w m.number
        ≡ accessed ops (without_call m).coherence page w m.number (entry_at m.coherence.table page)
    unfolding begun
    begun_free = ap (begun_at ops (without_call m).coherence page w m.number) free

    tried_so : (s : IdleState) (b : Bool) → entry_at m.coherence.table page ≡ entry.Idle s
        → suffices s.access w ≡ b
        → begins_as n called (polled_as ops m called (reply_at m))
        ≡ tried
        (if b then hit ops (without_call m).coherence page w
        else faulted ops (without_call m).coherence page w m.number s)
    tried_so s b idle enough =
        ap (λ o. begins_as n called (polled_as ops m called o)) none
        ∙ ap (λ d. begins_as n called (tried_as ops m called (asked_of d called))) config
        ∙ ap (λ k. begins_as n called (tried_as ops m called k)) of ∙ ap tried begun_free
        ∙ ap (λ e. tried (accessed ops (without_call m).coherence page w m.number e)) idle
        ∙ ap (λ v. tried
        (if v then hit ops (without_call m).coherence page w
        else faulted ops (without_call m).coherence page w m.number s)) enough

    pub tries : (s : IdleState) (b : Bool) → entry_at m.coherence.table page ≡ entry.Idle s
        → suffices s.access w ≡ b → (o : Outcome (Host S))
        → tried
        (if b then hit ops (without_call m).coherence page w
        else faulted ops (without_call m).coherence page w m.number s) ≡ Some o
        → turn_of ops n ≡ Some o
    tries s b idle enough o is = polls o (tried_so s b idle enough ∙ is)

    pub tries-undue : due n ≡ None → (s : IdleState) (b : Bool)
        → entry_at m.coherence.table page ≡ entry.Idle s → suffices s.access w ≡ b
        → turn_of ops n
        ≡ tried
        (if b then hit ops (without_call m).coherence page w
        else faulted ops (without_call m).coherence page w m.number s)
    tries-undue undue s b idle enough = polls-undue undue ∙ tried_so s b idle enough

  module _ (c : Config) (config : m.coherence.config ≡ c) (none : reply_at m ≡ None)
      (free : m.coherence.locked ≡ None) (page offset least : ℕ)
      (of : asked_of c called ≡ kinds.Word page (word.Await offset least)) (s : IdleState)
      (idle : entry_at m.coherence.table page ≡ entry.Idle s) where
    -- what comes of it that the word gives this answer
    abbrev given : Out → Option (Outcome (Host S))
    given o =
        begins_as n called
        (again_unless m
        (answered (without_call m) called m.number
        (hit ops (without_call m).coherence page (word.Await offset least)) (reply_of o)) (reply_of o))

    -- an await whose count is high enough in the node's own copy is answered with the count
    pub await_answered : reads s.access ≡ true → (count : ℕ)
        → number_at 8 offset (page_at m.coherence.table page) ≡ count → nat_le least count ≡ true
        → (after : Host S) × (turn_of ops n ≡ Some (record { after = after; posted = [] }))
        × (after.history
        ≡ n.history ++ record { node = number_of n; call = called; reply = reply.Value count } ∷ [])
        × (after.memory.asked ≡ None)
    await_answered read count is enough = (
      _,
      tries c config none free page (word.Await offset least) of s true idle read _
          (ap (λ v. given (awaited v least)) is
          ∙ ap (λ b. given (if b then out.Value count else out.NotYet)) enough),
      refl,
      refl,
    )

    -- and one whose page the node may not read asks for a copy
    pub await_asks : reads s.access ≡ false
        → (o : Outcome (Host S)) × (turn_of ops n ≡ Some o) × (p : Parcel) × (o.posted ≡ p ∷ [])
        × (p.message.content ≡ content.ReadReq page)
    await_asks unread = (
      _,
      tries c config none free page (word.Await offset least) of s false idle unread _ refl,
      _,
      refl,
      refl,
    )

  -- A word that is no await, at an entry where none waits: the next turn records a reply, or the
  -- word waits there from then on.
  module _ (c : Config) (config : m.coherence.config ≡ c) (none : reply_at m ≡ None)
      (free : m.coherence.locked ≡ None) (page : ℕ) (w : Word)
      (of : asked_of c called ≡ kinds.Word page w) (s : IdleState)
      (idle : entry_at m.coherence.table page ≡ entry.Idle s) where
    -- what comes of it that the word has this reply
    abbrev replying : Option Reply → Option (Outcome (Host S))
    replying r =
        begins_as n called
        (again_unless m
        (answered (without_call m) called m.number (hit ops (without_call m).coherence page w) r) r)

    abbrev Replies : Type 0
    Replies =
        (after : Host S) × (r : Reply)
        × (turn_of ops n ≡ Some (record { after = after; posted = [] }))
        × (after.history
        ≡ n.history ++ record { node = number_of n; call = called; reply = r } ∷ [])
        × (after.memory.asked ≡ None)

    abbrev WaitsThen : Type 0
    WaitsThen =
        (o : Outcome (Host S)) × (turn_of ops n ≡ Some o)
        × (o.after.memory.coherence.locked ≡ Some page)

    replies_by : suffices s.access w ≡ true → (r : Option Reply)
        → reply_of (carried_out w (page_at m.coherence.table page)).out ≡ r
        → (r ≡ None → ⊥) → Replies
    replies_by enough None is never = absurd (never refl)
    replies_by enough (Some r) is never = (
      _,
      r,
      tries c config none free page w of s true idle enough _ (ap replying is),
      refl,
      refl,
    )

    either_turn : (reply_of (carried_out w (page_at m.coherence.table page)).out ≡ None → ⊥)
        → (b : Bool) → suffices s.access w ≡ b → Replies ⊎ WaitsThen
    either_turn never true enough =
        inl (replies_by enough (reply_of (carried_out w (page_at m.coherence.table page)).out) refl
        never)
    either_turn never false short =
        inr (_, tries c config none free page w of s false idle short _ refl, refl)

    pub word_turn : ((offset least : ℕ) → w ≡ word.Await offset least → ⊥) → Replies ⊎ WaitsThen
    word_turn plain =
        either_turn
        (λ none. let u = unanswered w (page_at m.coherence.table page) none in
        plain u.offset u.least u.is)
        (suffices s.access w) refl
