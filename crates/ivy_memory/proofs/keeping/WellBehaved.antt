-- Accesses and messages keep what holds of a memory, and post only what can be sent. For every
-- manager that keeps the laws.
use Rattle.std.proofs.Common.{◌≡◌, ◌≢◌, ℕ, ◌^◌, ◌<◌, ◌≤◌, ◌⊎◌, inl, inr, Bool, true, false}
use Rattle.std.proofs.Common.{List, [], ◌∷◌, length, nat_lt, Option, Some, None, refl, sym, ap, ◌∙◌}
use Rattle.std.proofs.Common.{subst, arith, if◌then◌else◌}
use Rattle.std.specs.Prelude.{All, slice_set}
use Rattle.std.proofs.lemmas.List.{set-get_or}
use Rattle.std.proofs.lemmas.List.Elements.{All-nil, All-head, All-tail}
use Rattle.std.proofs.lemmas.Option.{same_Some, none-some}
use Rattle.ivy_model.specs.declared.Config.{Config}
use Rattle.ivy_model.specs.declared.Call.{Call}
use Rattle.ivy_model.specs.declared.Reply.{Reply}
use Rattle.ivy_model.specs.stated.Config.{IsConfig}
use Rattle.ivy_model.specs.stated.Legal.{HasWidth}
use Rattle.ivy_wire.specs.stated.Data.{Message, Parcel}
use Rattle.ivy_wire.specs.stated.Spelling.{FitsMessage, FitsParcel}
use Rattle.ivy_wire.specs.stated.Posts.{parcel_to}
use Rattle.ivy_pagetable.specs.declared.Entry.{Entry}
use Rattle.ivy_pagetable.specs.declared.Request.{Request}
use Rattle.ivy_pagetable.specs.declared.Request.TheVariants as asks
use Rattle.ivy_pagetable.specs.declared.Out.{Out}
use Rattle.ivy_pagetable.specs.declared.Out.TheVariants as out
use Rattle.ivy_pagetable.specs.declared.Word.{Word}
use Rattle.ivy_pagetable.specs.stated.States.{IdleState, WaitingState}
use Rattle.ivy_pagetable.specs.stated.Entries.{copying, owning}
use Rattle.ivy_pagetable.specs.stated.TableState.{Table}
use Rattle.ivy_pagetable.specs.stated.Tables.{page_at, with_page}
use Rattle.ivy_pagetable.specs.stated.Words.{number_at, carried_out, offset_of, width_of}
use Rattle.ivy_pagetable.proofs.Words.{not_yet}
use Rattle.ivy_pagetable.specs.stated.Manager.{Ops}
use Rattle.ivy_pagetable.specs.Manager.{Laws, IsNew}
use Rattle.ivy_coherence.specs.declared.Need.{Need}
use Rattle.ivy_coherence.specs.declared.Need.TheVariants as need
use Rattle.ivy_coherence.specs.stated.Coherent.{Coherent}
use Rattle.ivy_coherence.specs.stated.Several.{first_out, later_outs}
use Rattle.ivy_coherence.specs.stated.MessageSteps.{copy_reply, unlocked, handled}
use Rattle.ivy_coherence.specs.stated.PageFaults.{Begun, along, started, hit, taken_up, begun}
use Rattle.ivy_coherence.specs.stated.Sound.{IsSound, new_coherent}
use Rattle.ivy_coherence.proofs.keeping.SoundEntries.{new-sound}
use Rattle.ivy_coherence.proofs.keeping.Accesses.{begun-keeps}
use Rattle.ivy_coherence.proofs.keeping.Fetched.{unlocked_by}
use Rattle.ivy_coherence.proofs.keeping.Keeping.{handled-keeps}
use Rattle.ivy_coherence.specs.EventLimits.{most_posted}
use Rattle.ivy_alloc.specs.stated.Heap.{HeapState}
use Rattle.ivy_coherence.proofs.keeping.IdleServing.{all_none, all_one}
use Rattle.ivy_coherence.proofs.keeping.EventTable.{Rows, AccessRows, handled-by_rows, begun-by_rows}
use Rattle.ivy_coherence.proofs.posting.Few.{begun-few, handled-few}
use Rattle.ivy_alloc.specs.declared.CallProgress.TheVariants.{Awaited, Unserved}
use Rattle.ivy_memory.specs.declared.memory.Asked.{Asked}
use Rattle.ivy_memory.specs.declared.memory.Asked.TheVariants as asked
use Rattle.ivy_alloc.specs.declared.HeapCall.{HeapCall}
use Rattle.ivy_alloc.specs.declared.HeapRequest.{HeapRequest}
use Rattle.ivy_alloc.specs.declared.HeapRequest.TheVariants as heap_request
use Rattle.ivy_memory.specs.Asking.{CanAsk}
use Rattle.ivy_memory.specs.stated.Asking.{asked_of}
use Rattle.ivy_alloc.specs.stated.HeapCalls.{HeapTold, closed, number_in, request, heap_begun_at, heap_told, reply_told}
use Rattle.ivy_alloc.proofs.HeapMessages.{either}
use Rattle.ivy_memory.specs.stated.Memories.{NodeMemory, CallBegun, MemoryEffect, memory_over, new_memory, reply_of}
use Rattle.ivy_memory.specs.stated.Memories.{reply_there, first_reply, reply_at, without_call}
use Rattle.ivy_memory.specs.stated.Memories.{taken_with, taken_out, answered, needed, again_unless, again}
use Rattle.ivy_memory.specs.stated.Memories.{heap_answered, begun_as, call_begun, by_side, by_coherence, memory_handled, memory_told}
use Rattle.ivy_memory.specs.stated.Beside.{Beside, nothing_beside, beside}
use Rattle.ivy_memory.proofs.serving.Asking.{can_ask}
use Rattle.ivy_memory.proofs.batches.Along.{MayFollow, none_follow, beside-follow, started_along}
use Rattle.ivy_memory.specs.stated.Sound.{IsInProgress, IsWordOfPage, IsSoundMemory, IsSoundSide}
use Rattle.ivy_memory.proofs.serving.Sides.{KeepsSide, no_heap_request, same_side, quiet_side, idle_words, word_words, closed_side, kept_side, request_sent, told-keeps, first_sound-side, heap_begun-few}

-- the node stays who it is
pub record SameNode {S : Type 0} (old new : Coherent S) : Type 0 where
  pub config : new.config ≡ old.config
  pub me : new.me ≡ old.me
  pub sends_on : new.sends_on ≡ old.sends_on

-- a message leaves the word that waits as it is, or that word was carried out
abbrev pub Told : {S : Type 0} → Coherent S → Coherent S → Type 0
Told old new =
    SameNode old new
    × (((new.locked ≡ old.locked) × (new.done ≡ old.done))
    ⊎ ((p : ℕ) × (old.locked ≡ Some p) × (new.locked ≡ None)))

-- an access carries out no word that waited, and one waits from now on only where the access is
-- told so
pub record Begins {S : Type 0} (c : Coherent S) (b : Begun S) : Type 0 where
  pub same : SameNode c b.after
  pub done : b.after.done ≡ c.done
  pub lock : (o : Out) → b.need ≡ need.Have o → b.after.locked ≡ c.locked
  pub free : (o : Out) → b.need ≡ need.Have o → c.locked ≡ None
  pub start : b.need ≡ need.Started → c.locked ≡ None
  pub busy : b.need ≡ need.Busy → b.after ≡ c
  pub none : b.need ≡ need.Busy → b.posted ≡ []
  pub had : (o : Out) → b.need ≡ need.Have o → b.posted ≡ []
  pub quiet : (o : Out) → b.need ≡ need.Have o → reply_of o ≡ None → b.after ≡ c
  pub fetched : b.need ≡ need.Fetched → b.after ≡ c
  pub beside : b.need ≡ need.Fetched → c.locked ≡ None
  pub unasked : b.need ≡ need.Fetched → b.posted ≡ []

-- bytes that stay as they are
kept_page : (t : Table) (page : ℕ) (bytes : List ℕ) → bytes ≡ page_at t page
    → with_page t page bytes ≡ t
kept_page t page bytes is =
    ap (λ x. record { page_size = t.page_size; entries = t.entries; pages = x })
    (ap (slice_set t.pages page) is ∙ set-get_or t.pages page [])

unanswered_out : (o : Out) → reply_of o ≡ None → o ≡ out.NotYet
unanswered_out (out.Value value) h = absurd cc
unanswered_out out.Done h = absurd cc
unanswered_out out.Full h = absurd cc
unanswered_out out.NotYet h = refl

-- a word that has no answer yet writes nothing
quiet_bytes : (w : Word) (bytes : List ℕ) → reply_of (carried_out w bytes).out ≡ None
    → (carried_out w bytes).bytes ≡ bytes
quiet_bytes w bytes h =
    let waits =
    not_yet w (number_at (width_of w) (offset_of w) bytes)
    (unanswered_out (carried_out w bytes).out h) in
    subst (λ v. (carried_out v bytes).bytes ≡ bytes) (sym waits.is) refl

reply_done : (d : Option Out) (r : Reply) → reply_there d ≡ Some r → (o : Out) × (d ≡ Some o)
reply_done None r h = absurd (none-some r h)
reply_done (Some o) r h = (o, refl)

module _ {S : Type 0} where
  pub stays : {c : Coherent S} {new : Coherent S} → new.config ≡ c.config → new.me ≡ c.me
      → new.sends_on ≡ c.sends_on → new.locked ≡ c.locked → new.done ≡ c.done → Told c new
  stays config me sends_on locked done =
      (record { config = config; me = me; sends_on = sends_on }, inl (locked, done))

  answered-fits : (k : Config) (me : ℕ) (m : NodeMemory S) (c : Call) (number : ℕ) (b : Begun S)
      (r : Option Reply) → All (FitsParcel k me) b.posted
      → All (FitsParcel k me) (answered m c number b r).posted
  answered-fits k me m c number b None fits = fits
  answered-fits k me m c number b (Some r) fits = fits

  needed-fits : (k : Config) (me : ℕ) (m : NodeMemory S) (c : Call) (more : Beside) (number : ℕ)
      (b : Begun S) (n : Need) → All (FitsParcel k me) b.posted
      → All (FitsParcel k me) (needed m c more number b n).posted
  needed-fits k me m c more number b (need.Have o) fits =
      answered-fits k me m c number b (reply_of o) fits
  needed-fits k me m c more number b need.Started fits = fits
  needed-fits k me m c more number b need.Busy fits = all_none (FitsParcel k me)
  needed-fits k me m c more number b need.Fetched fits = fits

  answered-same : (m : NodeMemory S) (c : Call) (number : ℕ) (b : Begun S) (r : Option Reply)
      → SameNode m.coherence b.after
      → SameNode m.coherence (answered m c number b r).after.coherence
  answered-same m c number b None same = same
  answered-same m c number b (Some r) same = same

  -- the words that wait along are no part of who the node is
  along-same : (c new : Coherent S) (words : List Word) → SameNode c new
      → SameNode c (along words new)
  along-same c new [] same = same
  along-same c new (w ∷ words) same =
      record { config = same.config; me = same.me; sends_on = same.sends_on }

  pub needed-same : (m : NodeMemory S) (c : Call) (more : Beside) (number : ℕ) (b : Begun S)
      (n : Need) → SameNode m.coherence b.after
      → SameNode m.coherence (needed m c more number b n).after.coherence
  needed-same m c more number b (need.Have o) same = answered-same m c number b (reply_of o) same
  needed-same m c more number b need.Started same = along-same m.coherence b.after more.words same
  needed-same m c more number b need.Busy same =
      record { config = refl; me = refl; sends_on = refl }
  needed-same m c more number b need.Fetched same = same

  answered-posted : (m : NodeMemory S) (c : Call) (number : ℕ) (b : Begun S) (r : Option Reply)
      → (answered m c number b r).posted ≡ b.posted
  answered-posted m c number b None = refl
  answered-posted m c number b (Some r) = refl

  -- what is posted is what the access posts
  pub needed-posted : (m : NodeMemory S) (c : Call) (more : Beside) (number : ℕ) (b : Begun S)
      (n : Need) → Begins m.coherence b → b.need ≡ n → (needed m c more number b n).posted ≡ b.posted
  needed-posted m c more number b (need.Have o) bs is = answered-posted m c number b (reply_of o)
  needed-posted m c more number b need.Started bs is = refl
  needed-posted m c more number b need.Busy bs is = sym (bs.none is)
  needed-posted m c more number b need.Fetched bs is = refl

  -- words that wait along with one leave the rest as the access left it
  along-begins : (c : Coherent S) (b : Begun S) (words : List Word) → b.need ≡ need.Started
      → Begins c b → Begins c (record b { after = along words b.after })
  along-begins c b [] is bs = bs
  along-begins c b (w ∷ words) is bs = record {
    same = record { config = bs.same.config; me = bs.same.me; sends_on = bs.same.sends_on };
    done = bs.done;
    lock = λ o h. absurd (let e : need.Started ≡ need.Have o = sym is ∙ h in cc);
    free = bs.free;
    start = bs.start;
    busy = λ h. absurd (let e : need.Started ≡ need.Busy = sym is ∙ h in cc);
    none = bs.none;
    had = bs.had;
    quiet = λ o h none. absurd (let e : need.Started ≡ need.Have o = sym is ∙ h in cc);
    fetched = λ h. absurd (let e : need.Started ≡ need.Fetched = sym is ∙ h in cc);
    beside = bs.beside;
    unasked = bs.unasked;
  }

module _ {S : Type 0} (ops : Ops S) where
  -- the word that waited was carried out, or the page was fetched
  unlocked-told : (c : Coherent S) (from page : ℕ) (idle : IdleState) (reply : Option Request)
      (bytes : List ℕ) (s : WaitingState)
      → Told c (unlocked ops c from page idle reply bytes s).after
  unlocked-told c from page idle reply bytes s =
      unlocked_by ops (λ e. Told c e.after) c from page idle reply bytes s
      (λ here. (record { config = refl; me = refl; sends_on = refl }, inr (page, here, refl)))
      (λ elsewhere. stays refl refl refl refl refl)

  told-rows : (c : Coherent S) (from origin call : ℕ) → IsSound ops c
      → Rows ops c from origin call (λ m e. Told c e.after)
  told-rows c from origin call s = record {
    breach = λ m why. stays refl refl refl refl refl;
    served = λ kind page i may is order. stays refl refl refl refl refl;
    put_off = λ kind page e may is room at. stays refl refl refl refl refl;
    sent_on = λ kind page w may is asks sends. stays refl refl refl refl refl;
    given_up = λ page w by is. stays refl refl refl refl refl;
    copy = λ page bytes w mine is this. unlocked-told c from page copying (copy_reply w) bytes w;
    alone = λ page copies bytes w mine is this none. unlocked-told c from page owning
        (Some asks.Write) bytes w.waiting;
    shared = λ page copies bytes w mine is this some apart. stays refl refl refl refl refl;
    acknowledged = λ page w mine is this missing others. stays refl refl refl refl refl;
    last = λ page w mine is this missing none. unlocked-told c from page owning None
        (page_at c.table page) w.waiting;
  }

  pub handled-told : (c : Coherent S) (from : ℕ) (m : Message) → IsSound ops c
      → Told c (handled ops c from m).after
  handled-told c from m s = handled-by_rows m (told-rows c from m.origin m.call s)

  -- a word waits from now on
  waits-begins : (c : Coherent S) (b : Begun S) → c.locked ≡ None → b.need ≡ need.Started
      → SameNode c b.after → b.after.done ≡ c.done → Begins c b
  waits-begins c b free is same done = record {
    same = same;
    done = done;
    lock = λ o h. absurd (let e : need.Started ≡ need.Have o = sym is ∙ h in cc);
    free = λ o h. free;
    start = λ h. free;
    busy = λ h. absurd (let e : need.Started ≡ need.Busy = sym is ∙ h in cc);
    none = λ h. absurd (let e : need.Started ≡ need.Busy = sym is ∙ h in cc);
    had = λ o h. absurd (let e : need.Started ≡ need.Have o = sym is ∙ h in cc);
    quiet = λ o h n. absurd (let e : need.Started ≡ need.Have o = sym is ∙ h in cc);
    fetched = λ h. absurd (let e : need.Started ≡ need.Fetched = sym is ∙ h in cc);
    beside = λ h. free;
    unasked = λ h. absurd (let e : need.Started ≡ need.Fetched = sym is ∙ h in cc);
  }

  started-begins : (c : Coherent S) (page : ℕ) → c.locked ≡ None → (e : Entry) (ps : List Parcel)
      → Begins c (started ops c page e ps)
  started-begins c page free e ps =
      waits-begins c (started ops c page e ps) free refl
      (record { config = refl; me = refl; sends_on = refl }) refl

  hit_begins : (c : Coherent S) (page : ℕ) (w : Word) → c.locked ≡ None
      → Begins c (hit ops c page w)
  hit_begins c page w free = record {
    same = record { config = refl; me = refl; sends_on = refl };
    done = refl;
    lock = λ o h. refl;
    free = λ o h. free;
    start = λ h. free;
    busy = λ h. absurd cc;
    none = λ h. absurd cc;
    had = λ o h. refl;
    quiet = λ o h n.
        (let given : (carried_out w (page_at c.table page)).out ≡ o = cc in
        ap (λ t. record c { table = t })
        (kept_page c.table page _
        (quiet_bytes w (page_at c.table page) (ap reply_of given ∙ n))));
    fetched = λ h. absurd cc;
    beside = λ h. free;
    unasked = λ h. absurd cc;
  }

  begins-rows : (c : Coherent S) (page : ℕ) (w : Word) (number : ℕ)
      → AccessRows ops c page w number (Begins c)
  begins-rows c page w number = record {
    busy = record {
      same = record { config = refl; me = refl; sends_on = refl };
      done = refl;
      lock = λ o h. refl;
      free = λ o h. absurd cc;
      start = λ h. absurd cc;
      busy = λ h. refl;
      none = λ h. refl;
      had = λ o h. refl;
      quiet = λ o h n. refl;
      fetched = λ h. refl;
      beside = λ h. absurd cc;
      unasked = λ h. refl;
    };
    hit = λ i none is enough. hit_begins c page w none;
    read = λ i none is short reads. started-begins c page none _ _;
    write = λ i none is short writes other. started-begins c page none _ _;
    owner = λ i none is short writes own. started-begins c page none _ _;
    joins = λ e none is fits. waits-begins c (taken_up ops c page w e) none refl
        (record { config = refl; me = refl; sends_on = refl }) refl;
    beside = λ e none is lock unfit. record {
      same = record { config = refl; me = refl; sends_on = refl };
      done = refl;
      lock = λ o h. refl;
      free = λ o h. none;
      start = λ h. none;
      busy = λ h. refl;
      none = λ h. refl;
      had = λ o h. refl;
      quiet = λ o h n. refl;
      fetched = λ h. refl;
      beside = λ h. none;
      unasked = λ h. refl;
    };
  }

  pub begun-begins : (c : Coherent S) (page : ℕ) (w : Word) (number : ℕ)
      → Begins c (begun ops c page w number)
  begun-begins c page w number = begun-by_rows (begins-rows c page w number)

pub one_wide : (c : Call) → HasWidth c → (j : Call) → Some c ≡ Some j → HasWidth j
one_wide c wide j h = subst HasWidth (same_Some c j h) wide

module _ {S : Type 0} {ops : Ops S} where
  -- without a call in progress node 0 was asked for none
  pub idle_side : (m : NodeMemory S) → IsSoundMemory ops m → m.asked ≡ None → m.side.heap_request ≡ None
  idle_side m s idle = no_heap_request m.coherence.config m.asked m.side.heap_request idle s.side.heap_request

  started_side : (m : NodeMemory S) (b : Begun S) (a : Option Call)
      → ((k : HeapCall) → IsInProgress m.coherence.config a k → ⊥) → IsSoundMemory ops m
      → m.asked ≡ None → Begins m.coherence b → IsSoundSide b.after.config b.after.me a m.side
  started_side m b a words s idle bs =
      quiet_side b.after.config b.after.me m.asked a m.side (idle_side m s idle)
      (subst (λ d. (k : HeapCall) → IsInProgress d a k → ⊥) (sym bs.same.config) words)
      (same_side m.coherence.config b.after.config m.coherence.me b.after.me m.asked m.side
      bs.same.config bs.same.me s.side)

  -- the memory after an access, by what it was told
  pub had-sound : (m : NodeMemory S) (b : Begun S) (o : Out) (a : Option Call) (number : ℕ)
      → ((j : Call) → a ≡ Some j → HasWidth j) → ((j : Call) → a ≡ Some j → 1 ≤ number)
      → number < 2 ^ 64 → ((k : HeapCall) → IsInProgress m.coherence.config a k → ⊥)
      → IsSoundMemory ops m → m.asked ≡ None → Begins m.coherence b → IsSound ops b.after
      → b.need ≡ need.Have o
      → IsSoundMemory ops
      (record { coherence = b.after; asked = a; along = []; number = number; side = m.side })
  had-sound m b o a number wide least most words s idle bs good is = record {
    width = wide;
    widths = All-nil HasWidth;
    of_pages = All-nil (IsWordOfPage b.after.config);
    numbered = least;
    small = omega (arith, most);
    alone = λ h. refl;
    coherent = good;
    done = λ h. bs.done ∙ s.done idle;
    locked = λ h. bs.lock o is ∙ s.locked idle;
    answered = λ p h. bs.lock o is ∙ s.locked idle;
    side = started_side m b a words s idle bs;
    under = λ k n h. absurd (none-some (heap_request.Asked k n) (sym (idle_side m s idle) ∙ h));
    apart = λ e h. absurd (none-some e (sym (idle_side m s idle) ∙ h));
  }

  pub started-sound : (m : NodeMemory S) (b : Begun S) (c : Call) (calls : List Call) (number : ℕ)
      → HasWidth c → 1 ≤ number → MayFollow m.coherence.config number calls
      → ((k : HeapCall) → IsInProgress m.coherence.config (Some c) k → ⊥) → IsSoundMemory ops m
      → m.asked ≡ None → Begins m.coherence b → IsSound ops b.after
      → IsSoundMemory ops
      (record { coherence = b.after; asked = Some c; along = calls; number = number; side = m.side })
  started-sound m b c calls number wide least follow words s idle bs good = record {
    width = one_wide c wide;
    widths = follow.widths;
    of_pages =
        subst (λ d. All (IsWordOfPage d) calls) (sym bs.same.config) follow.of_pages;
    numbered = λ j h. least;
    small = follow.small;
    alone = λ h. absurd (none-some c (sym h));
    coherent = good;
    done = λ h. absurd (none-some c (sym h));
    locked = λ h. absurd (none-some c (sym h));
    answered = λ o h. absurd (none-some o (sym (bs.done ∙ s.done idle) ∙ h));
    side = started_side m b (Some c) words s idle bs;
    under = λ k n h. absurd (none-some (heap_request.Asked k n) (sym (idle_side m s idle) ∙ h));
    apart = λ e h. absurd (none-some e (sym (idle_side m s idle) ∙ h));
  }

  -- the number alone can be carried
  pub below : (m : NodeMemory S) → IsSoundMemory ops m → m.number < 2 ^ 64
  below m s = let small = s.small in omega (arith, small)

  answered-sound : (m : NodeMemory S) (c : Call) (number : ℕ) (b : Begun S) (o : Out)
      (r : Option Reply) → HasWidth c → 1 ≤ number → number < 2 ^ 64
      → ((k : HeapCall) → IsInProgress m.coherence.config (Some c) k → ⊥) → IsSoundMemory ops m
      → m.asked ≡ None → Begins m.coherence b → IsSound ops b.after → b.need ≡ need.Have o
      → IsSoundMemory ops (answered m c number b r).after
  answered-sound m c number b o None wide least most words s idle bs good is =
      had-sound m b o (Some c) number (one_wide c wide) (λ j h. least) most words s idle bs good is
  answered-sound m c number b o (Some r) wide least most words s idle bs good is =
      had-sound m b o None m.number (λ j h. absurd (none-some j h)) (λ j h. absurd (none-some j h))
      (below m s) (idle_words m.coherence.config) s idle bs good is

  needed-sound : (m : NodeMemory S) (c : Call) (more : Beside) (number : ℕ) (b : Begun S) (n : Need)
      → HasWidth c → 1 ≤ number → number < 2 ^ 64
      → MayFollow m.coherence.config number more.calls
      → ((k : HeapCall) → IsInProgress m.coherence.config (Some c) k → ⊥) → IsSoundMemory ops m
      → m.asked ≡ None → Begins m.coherence b → IsSound ops b.after
      → (b.need ≡ need.Started → IsSound ops (along more.words b.after)) → b.need ≡ n
      → IsSoundMemory ops (needed m c more number b n).after
  needed-sound m c more number b (need.Have o) wide least most follow words s idle bs good waits is =
      answered-sound m c number b o (reply_of o) wide least most words s idle bs good is
  needed-sound m c more number b need.Started wide least most follow words s idle bs good waits is =
      started-sound m (record b { after = along more.words b.after }) c more.calls number wide least
      follow words s idle (along-begins m.coherence b more.words is bs) (waits is)
  needed-sound m c more number b need.Busy wide least most follow words s idle bs good waits is = s
  needed-sound m c more number b need.Fetched wide least most follow words s idle bs good waits is =
      started-sound m b c [] number wide least (none_follow m.coherence.config number most) words s
      idle bs good

  pub told_memory : (m : NodeMemory S) (new : Coherent S) → IsSoundMemory ops m
      → Told m.coherence new → IsSound ops new
      → IsSoundMemory ops
      (record {
        coherence = new;
        asked = m.asked;
        along = m.along;
        number = m.number;
        side = m.side;
      })
  told_memory m new s told good =
      elim told.1 [
        | inl x ↦ record {
          coherent = good;
          done = λ h. x.1 ∙ s.done h;
          locked = λ h. x.0 ∙ s.locked h;
          answered = λ o h. x.0 ∙ s.answered o (sym x.1 ∙ h);
          width = s.width;
          widths = s.widths;
          of_pages =
              subst (λ d. All (IsWordOfPage d) m.along) (sym told.0.config) s.of_pages;
          numbered = s.numbered;
          small = s.small;
          alone = s.alone;
          under = s.under;
          side = same_side m.coherence.config new.config m.coherence.me new.me m.asked m.side
              told.0.config told.0.me s.side;
          apart = λ e h. (x.0 ∙ (s.apart e h).0, x.1 ∙ (s.apart e h).1);
        }
        | inr x ↦ record {
          coherent = good;
          done = λ h. absurd (none-some x.0 (sym (s.locked h) ∙ x.1));
          locked = λ h. x.2;
          answered = λ o h. x.2;
          width = s.width;
          widths = s.widths;
          of_pages =
              subst (λ d. All (IsWordOfPage d) m.along) (sym told.0.config) s.of_pages;
          numbered = s.numbered;
          small = s.small;
          alone = s.alone;
          under = s.under;
          side = same_side m.coherence.config new.config m.coherence.me new.me m.asked m.side
              told.0.config told.0.me s.side;
          apart = λ e h. absurd (none-some x.0 (sym (s.apart e h).0 ∙ x.1));
        }
      ]

  -- whatever stands there as the answers
  with_outs-sound : (c : Coherent S) (d : Option Out) (ds : List Out) → IsSound ops c
      → IsSound ops (record c { done = d; done_more = ds })
  with_outs-sound c d ds s = record {
    limits = s.limits;
    here = s.here;
    mine = s.mine;
    managed = s.managed;
    nodes = s.nodes;
    size = s.size;
    entries = s.entries;
    pages = s.pages;
    sized = s.sized;
    each = s.each;
    hop = s.hop;
    away = s.away;
    locked = s.locked;
    fetched = s.fetched;
    others = s.others;
    apart = s.apart;
    few = s.few;
    along = s.along;
    alone = s.alone;
  }

  pub with_done-sound : (c : Coherent S) (d : Option Out) → IsSound ops c
      → IsSound ops (record c { done = d })
  with_done-sound c d s = with_outs-sound c d c.done_more s

  -- the memory without its call in progress, where no word waits
  pub without-sound : (m : NodeMemory S) → IsSoundMemory ops m → m.coherence.locked ≡ None
      → IsSoundMemory ops (without_call m)
  without-sound m s free = record {
    coherent = with_done-sound m.coherence None s.coherent;
    done = λ h. refl;
    locked = λ h. free;
    answered = λ o h. absurd (none-some o h);
    width = λ j h. absurd (none-some j h);
    widths = All-nil HasWidth;
    of_pages = All-nil (IsWordOfPage m.coherence.config);
    numbered = λ j h. absurd (none-some j h);
    small = (let small = s.small in omega (arith, small));
    alone = λ h. refl;
    side = closed_side m.coherence.config m.coherence.me m.asked m.side s.side;
    under = λ k n h. absurd (none-some (heap_request.Asked k n) h);
    apart = λ e h. absurd (none-some e h);
  }

  -- no word waits where the reply is there
  free_at : (m : NodeMemory S) (r : Reply) → IsSoundMemory ops m → (e : Option HeapRequest)
      → m.side.heap_request ≡ e → first_reply (reply_told e) (reply_there m.coherence.done) ≡ Some r
      → m.coherence.locked ≡ None
  free_at m r s None is there = let d = reply_done m.coherence.done r there in s.answered d.0 d.1
  free_at m r s (Some e) is there = (s.apart e is).0

  -- the next of the calls made along is in progress, where no word waits
  taken_with-sound : (m : NodeMemory S) (calls : List Call) → m.along ≡ calls
      → IsSoundMemory ops m → m.coherence.locked ≡ None → IsSoundMemory ops (taken_with m calls)
  taken_with-sound m [] is s free = without-sound m s free
  taken_with-sound m (next ∷ calls) is s free =
      let wide = subst (All HasWidth) is s.widths in
      let pages = subst (All (IsWordOfPage m.coherence.config)) is s.of_pages in
      let word = All-head (IsWordOfPage m.coherence.config) next calls pages in
      record {
        coherent = with_outs-sound m.coherence (first_out m.coherence.done_more)
            (later_outs m.coherence.done_more) s.coherent;
        done = λ h. absurd (none-some next (sym h));
        locked = λ h. free;
        answered = λ o h. free;
        width = one_wide next (All-head HasWidth next calls wide);
        widths = All-tail HasWidth next calls wide;
        of_pages = All-tail (IsWordOfPage m.coherence.config) next calls pages;
        numbered = λ j h. omega arith;
        small =
            (let small = s.small in
            let many : length m.along ≡ length (next ∷ calls) = ap length is in
            omega (arith, small, many));
        alone = λ h. absurd (none-some next (sym h));
        side = quiet_side m.coherence.config m.coherence.me None (Some next) (closed m.side) refl
            (word_words m.coherence.config next word.0 word.1 word.2)
            (closed_side m.coherence.config m.coherence.me m.asked m.side s.side);
        under = λ k n h. absurd (none-some (heap_request.Asked k n) h);
        apart = λ e h. absurd (none-some e h);
      }

  pub taken-sound : (m : NodeMemory S) (r : Reply) → IsSoundMemory ops m → reply_at m ≡ Some r
      → IsSoundMemory ops (taken_out m)
  taken-sound m r s there =
      taken_with-sound m m.along refl s (free_at m r s m.side.heap_request refl there)

  again_unless-sound : (m : NodeMemory S) (c : Call) (number : ℕ) (b : Begun S) (o : Out)
      (r : Option Reply) → HasWidth c → 1 ≤ number → number < 2 ^ 64
      → ((k : HeapCall) → IsInProgress m.coherence.config (Some c) k → ⊥) → IsSoundMemory ops m
      → Begins (without_call m).coherence b → IsSound ops b.after → b.need ≡ need.Have o
      → IsSoundMemory ops (again_unless m (answered (without_call m) c number b r) r).after
  again_unless-sound m c number b o None wide least most words s bs good is = s
  again_unless-sound m c number b o (Some r) wide least most words s bs good is =
      answered-sound (without_call m) c number b o (Some r) wide least most words
      (without-sound m s (bs.free o is)) refl bs good is

  pub again-sound : (m : NodeMemory S) (c : Call) (number : ℕ) (b : Begun S) (n : Need) → HasWidth c
      → 1 ≤ number → number < 2 ^ 64
      → ((k : HeapCall) → IsInProgress m.coherence.config (Some c) k → ⊥) → IsSoundMemory ops m
      → Begins (without_call m).coherence b → IsSound ops b.after → b.need ≡ n
      → IsSoundMemory ops (again m (needed (without_call m) c nothing_beside number b n) n).after
  again-sound m c number b (need.Have o) wide least most words s bs good is =
      again_unless-sound m c number b o (reply_of o) wide least most words s bs good is
  again-sound m c number b need.Started wide least most words s bs good is =
      started-sound (without_call m) b c [] number wide least
      (none_follow m.coherence.config number most) words (without-sound m s (bs.start is)) refl bs
      good
  again-sound m c number b need.Busy wide least most words s bs good is = s
  again-sound m c number b need.Fetched wide least most words s bs good is = s

-- what a call that begins keeps
abbrev pub KeepsMemory : {S : Type 0} → Ops S → NodeMemory S → CallBegun S → Type 0
KeepsMemory ops m a =
    IsSoundMemory ops a.after × All (FitsParcel m.coherence.config m.coherence.me) a.posted
    × SameNode m.coherence a.after.coherence

module _ {S : Type 0} {ops : Ops S} where
  -- over a coherence that no word was asked of yet
  pub over_sound-memory : (h : Coherent S) → IsSound ops h → h.done ≡ None → h.locked ≡ None
      → IsSoundMemory ops (memory_over h)
  over_sound-memory h s undone free = record {
    coherent = s;
    done = λ e. undone;
    locked = λ e. free;
    answered = λ o e. free;
    width = λ j e. absurd (none-some j e);
    widths = All-nil HasWidth;
    of_pages = All-nil (IsWordOfPage h.config);
    numbered = λ j e. absurd (none-some j e);
    small = omega arith;
    alone = λ e. refl;
    side = first_sound-side h.config h.me;
    under = λ k n e. absurd (none-some (heap_request.Asked k n) e);
    apart = λ e f. absurd (none-some e f);
  }

  pub new_sound-memory : (sends_on : Bool) (c : Config) (me : ℕ) (manager : S) → IsConfig c
      → me < c.nodes → IsNew ops c me manager → IsSoundMemory ops (new_memory sends_on c me manager)
  new_sound-memory sends_on c me manager limits here new =
      over_sound-memory (new_coherent sends_on c me manager)
      (new-sound sends_on c me limits here new) refl refl

module _ {S : Type 0} {ops : Ops S} (laws : Laws ops) where
  -- what the side was told leaves the rest as it is
  side-sound : (m : NodeMemory S) (t : HeapTold) → IsSoundMemory ops m
      → KeepsSide m.coherence.config m.coherence.me m.asked m.side t
      → IsSoundMemory ops (by_side m t).after
  side-sound m t s kept = record {
    coherent = s.coherent;
    done = s.done;
    locked = s.locked;
    answered = s.answered;
    width = s.width;
    widths = s.widths;
    of_pages = s.of_pages;
    numbered = s.numbered;
    small = s.small;
    alone = s.alone;
    side = kept.sound;
    under = λ k n h. s.under k n (kept.under k n h);
    apart = λ e h. (let d = kept.apart e h in s.apart d.0 d.1);
  }

  pub told-sound : (m : NodeMemory S) (from : ℕ) (message : Message) → IsSoundMemory ops m
      → from < m.coherence.config.nodes → from ≢ m.coherence.me
      → FitsMessage m.coherence.config message
      → IsSoundMemory ops (memory_told ops m from message)
      × All (FitsParcel m.coherence.config m.coherence.me)
      (memory_handled ops m from message).posted
  told-sound m from message s below foreign fits =
      let kept = handled-keeps laws m.coherence from message s.coherent below foreign fits in
      let t : HeapTold = heap_told m.coherence.me m.side from message in
      let side =
      told-keeps m.coherence.config m.coherence.me m.asked m.side s.side s.coherent.limits
      s.coherent.here from message below foreign fits in
      either (λ (e : MemoryEffect S). IsSoundMemory ops e.after
      × All (FitsParcel m.coherence.config m.coherence.me) e.posted) t.fits (by_side m t)
      (by_coherence ops m from message)
      (side-sound m t s side, side.fits)
      (told_memory m _ s (handled-told ops m.coherence from message s.coherent) kept.0, kept.1)

  -- a message has few answers
  pub told_few : (m : NodeMemory S) (from : ℕ) (message : Message) → IsSoundMemory ops m
      → from < m.coherence.config.nodes → from ≢ m.coherence.me
      → FitsMessage m.coherence.config message
      → length (memory_handled ops m from message).posted ≤ most_posted
  told_few m from message s below foreign fits =
      let t : HeapTold = heap_told m.coherence.me m.side from message in
      let few =
      (told-keeps m.coherence.config m.coherence.me m.asked m.side s.side s.coherent.limits
      s.coherent.here from message below foreign fits).few in
      either (λ (e : MemoryEffect S). length e.posted ≤ most_posted) t.fits (by_side m t)
      (by_coherence ops m from message) (omega (arith, few))
      (handled-few ops m.coherence from message s.coherent fits)

  module _ (m : NodeMemory S) (k : Call) (number : ℕ) (s : IsSoundMemory ops m) (wide : HasWidth k)
      (idle : m.asked ≡ None) (h : HeapCall) (of : asked_of m.coherence.config k ≡ asked.Heap h)
      (least : 1 ≤ number) (most : number < 2 ^ 64) where
    asked-heap : m.side.heap ≡ None → (b : Bool) → nat_lt (number_in h) (2 ^ 64) ≡ b
        → KeepsMemory ops m
        (heap_answered m k number
        (if b then record {
          answer = Awaited;
          after = record m.side { heap_request = Some (heap_request.Asked h number) };
          posted = parcel_to m.coherence.me 0 m.coherence.me number (request h) ∷ [];
        }
        else record { answer = Unserved; after = m.side; posted = [] }))
    asked-heap away false small = (
      s,
      all_none (FitsParcel m.coherence.config m.coherence.me),
      record { config = refl; me = refl; sends_on = refl },
    )
    asked-heap away true small = (
      record {
        coherent = s.coherent;
        done = λ x. absurd (none-some k (sym x));
        locked = λ x. absurd (none-some k (sym x));
        answered = s.answered;
        width = one_wide k wide;
        widths = All-nil HasWidth;
        of_pages = All-nil (IsWordOfPage m.coherence.config);
        numbered = λ j x. least;
        small = omega (arith, most);
        alone = λ x. absurd (none-some k (sym x));
        side = record {
          away = s.side.away;
          home = s.side.home;
          heap_request = record { call = k; asked = refl; of = of };
          owed = λ j in_progress. (heap_request.Asked h number, refl);
          none = λ zero. absurd (s.side.away away zero);
        };
        under = λ j n x.
            (let e : heap_request.Asked h number ≡ heap_request.Asked j n = same_Some _ _ x in
            let i : n ≡ number = cc in i);
        apart = λ e x. (s.locked idle, s.done idle);
      },
      all_one (FitsParcel m.coherence.config m.coherence.me) _
          (request_sent m.coherence.config m.coherence.me m.asked m.side s.side s.coherent.limits
          s.coherent.here h number away small least most),
      record { config = refl; me = refl; sends_on = refl },
    )

    heap-at : (o : Option HeapState) → m.side.heap ≡ o
        → KeepsMemory ops m
        (heap_answered m k number (heap_begun_at m.coherence.me m.side h number o))
    heap-at None there = asked-heap there (nat_lt (number_in h) (2 ^ 64)) refl
    heap-at (Some g) there = (
      record {
        coherent = s.coherent;
        done = s.done;
        locked = s.locked;
        answered = s.answered;
        width = s.width;
        widths = s.widths;
        of_pages = s.of_pages;
        numbered = s.numbered;
        small = s.small;
        alone = s.alone;
        side = kept_side m.coherence.config m.coherence.me m.asked m.side g h there s.side;
        under = s.under;
        apart = s.apart;
      },
      all_none (FitsParcel m.coherence.config m.coherence.me),
      record { config = refl; me = refl; sends_on = refl },
    )

  as-sound : (m : NodeMemory S) (k : Call) (calls : List Call) (number : ℕ) (x : Asked)
      → asked_of m.coherence.config k ≡ x → HasWidth k → All HasWidth calls → IsSoundMemory ops m
      → m.asked ≡ None → CanAsk m.coherence.config x → 1 ≤ number → number < 2 ^ 64
      → KeepsMemory ops m (begun_as ops m k calls number x)
  as-sound m k calls number (asked.Refused code) of wide widths s idle can least most = (
    s,
    all_none (FitsParcel m.coherence.config m.coherence.me),
    record { config = refl; me = refl; sends_on = refl },
  )
  as-sound m k calls number (asked.Heap h) of wide widths s idle can least most =
      heap-at m k number s wide idle h of least most m.side.heap refl
  as-sound m k calls number (asked.Word page w) of wide widths s idle can least most =
      let b : Begun S = begun ops m.coherence page w number in
      let more : Beside = beside m.coherence.config page w calls number in
      let go =
      beside-follow m.coherence.config s.coherent.limits page w calls number widths most in
      let kept = begun-keeps laws m.coherence page w number s.coherent can.0 can.1 least most in
      let marks : Begins m.coherence b = begun-begins ops m.coherence page w number in (
        needed-sound m k more number b b.need wide least most go.1
            (word_words m.coherence.config k page w of) s idle marks kept.0
            (started_along ops m.coherence page w number more.words s.coherent can.0 kept.0
            go.0) refl,
        needed-fits m.coherence.config m.coherence.me m k more number b b.need kept.1,
        needed-same m k more number b b.need marks.same,
      )

  -- a call that begins, and others made along with it
  pub call-sound : (m : NodeMemory S) (k : Call) (calls : List Call) (number : ℕ)
      → IsSoundMemory ops m → m.asked ≡ None → HasWidth k → All HasWidth calls → 1 ≤ number
      → number < 2 ^ 64 → KeepsMemory ops m (call_begun ops m k calls number)
  unfolding call_begun
  call-sound m k calls number s idle w widths least most =
      as-sound m k calls number (asked_of m.coherence.config k) refl w widths s idle
      (can_ask m.coherence.config k s.coherent.limits w) least most

module _ {S : Type 0} (ops : Ops S) where
  as-same : (m : NodeMemory S) (k : Call) (calls : List Call) (number : ℕ) (x : Asked)
      → SameNode m.coherence (begun_as ops m k calls number x).after.coherence
  as-same m k calls number (asked.Refused code) =
      record { config = refl; me = refl; sends_on = refl }
  as-same m k calls number (asked.Word page w) =
      let b : Begun S = begun ops m.coherence page w number in
      needed-same m k (beside m.coherence.config page w calls number) number b b.need
      (begun-begins ops m.coherence page w number).same
  as-same m k calls number (asked.Heap h) = record { config = refl; me = refl; sends_on = refl }

  -- the node stays who it is
  pub call-same : (m : NodeMemory S) (k : Call) (calls : List Call) (number : ℕ)
      → SameNode m.coherence (call_begun ops m k calls number).after.coherence
  unfolding call_begun
  call-same m k calls number = as-same m k calls number (asked_of m.coherence.config k)

  as-few : (m : NodeMemory S) (k : Call) (calls : List Call) (number : ℕ) (x : Asked)
      → IsSound ops m.coherence → length (begun_as ops m k calls number x).posted ≤ most_posted
  as-few m k calls number (asked.Refused code) s = omega arith
  as-few m k calls number (asked.Word page w) s =
      let b : Begun S = begun ops m.coherence page w number in
      let more : Beside = beside m.coherence.config page w calls number in
      let few = begun-few ops m.coherence page w number s in
      let is : length (needed m k more number b b.need).posted ≡ length b.posted =
      ap length
      (needed-posted m k more number b b.need (begun-begins ops m.coherence page w number) refl) in
      omega (arith, few, is)
  as-few m k calls number (asked.Heap h) s = heap_begun-few m.coherence.me m.side h number

  pub call_few : (m : NodeMemory S) (k : Call) (calls : List Call) (number : ℕ)
      → IsSound ops m.coherence → length (call_begun ops m k calls number).posted ≤ most_posted
  unfolding call_begun
  call_few m k calls number s = as-few m k calls number (asked_of m.coherence.config k) s
