-- A call that is asked for its reply: what it keeps, and how the code has it.
use Rattle.std.proofs.Common.{◌≡◌, ℕ, ◌+◌, ◌<◌, ◌≤◌, ◌&&◌, drop, is_none, is_some, slice_get, Bool, true, false, List, [], ◌∷◌, length, Option, Some, None, Result, Ok, Err, OnErr, refl, sym, ap, ◌∙◌, subst, arith, if◌then◌else◌, ◌⊎◌, inl, inr}
use Rattle.std.specs.Prelude.{All}
use Rattle.ivy_model.specs.declared.Config.{Config}
use Rattle.ivy_model.specs.declared.Call.{Call}
use Rattle.ivy_model.specs.declared.Reply.{Reply}
use Rattle.ivy_wire.specs.stated.Spelling.{FitsParcel}
use Rattle.ivy_pagetable.specs.declared.Entry.{Entry}
use Rattle.ivy_pagetable.specs.declared.Entry.TheVariants as entry
use Rattle.ivy_pagetable.specs.declared.Out.{Out}
use Rattle.ivy_pagetable.specs.declared.Word.{Word}
use Rattle.ivy_pagetable.specs.stated.Tables.{entry_at}
use Rattle.ivy_pagetable.specs.stated.Words.{IsWord, needs_write}
use Rattle.ivy_pagetable.specs.stated.Manager.{Ops}
use Rattle.ivy_pagetable.specs.Manager.{Laws}
use Rattle.ivy_coherence.specs.declared.Need.{Need}
use Rattle.ivy_coherence.specs.declared.Need.TheVariants as need
use Rattle.ivy_coherence.specs.stated.Coherent.{Coherent}
use Rattle.ivy_pagetable.specs.stated.Accesses.{suffices}
use Rattle.ivy_coherence.specs.stated.Several.{first_out, later_outs}
use Rattle.ivy_coherence.specs.stated.Fetching.{suits}
use Rattle.ivy_coherence.specs.stated.PageFaults.{Begun, joined, accessed, begun_at, begun}
use Rattle.ivy_coherence.specs.PageFaults.{HasToAsk, MayMakePage}
use Rattle.ivy_coherence.specs.stated.Sound.{IsSound}
use Rattle.ivy_coherence.proofs.keeping.Accesses.{begun-keeps}
use Rattle.ivy_coherence.specs.EventLimits.{most_posted}
use Rattle.ivy_coherence.proofs.keeping.IdleServing.{all_none}
use Rattle.ivy_coherence.proofs.posting.Few.{begun-few}
use Rattle.ivy_alloc.specs.declared.CallProgress.{CallProgress}
use Rattle.ivy_alloc.specs.declared.CallProgress.TheVariants.{Given, Awaited, Unserved}
use Rattle.ivy_memory.specs.declared.memory.Asked.{Asked}
use Rattle.ivy_memory.specs.declared.memory.Asked.TheVariants as asked
use Rattle.ivy_memory.specs.Asking.{CanAsk, HasToAskFor, MayMakePageFor}
use Rattle.ivy_memory.specs.stated.Asking.{asked_of}
use Rattle.ivy_alloc.specs.stated.HeapCalls.{HeapSide, closed}
use Rattle.ivy_memory.specs.stated.Beside.{nothing_beside}
use Rattle.ivy_memory.specs.stated.Memories.{NodeMemory, CallBegun, reply_of, reply_at, without_call, taken_with, taken_out, answered, unserved, needed, again_unless, again, tried_as, polled_as, polled_at, polled}
use Rattle.ivy_memory.specs.Memories.{MayFailAgain, only_waits, waits_as, waits_for}
use Rattle.ivy_memory.specs.stated.Sound.{IsSoundMemory}
use Rattle.ivy_memory.proofs.serving.Asking.{can_ask}
use Rattle.ivy_memory.proofs.serving.Sides.{word_words}
use Rattle.ivy_memory.proofs.keeping.WellBehaved.{SameNode, Begins, begun-begins, below, taken-sound, with_done-sound, again-sound, KeepsMemory}
use Rattle.ivy_memory.proofs.keeping.Begun.{IsBegun, again-begun, unserved-begun, taken_with-goes}

-- the call in progress as the definitions have it
pub polled_so : {S : Type 0} (ops : Ops S) (m : NodeMemory S) (k : Call) → m.asked ≡ Some k
    → polled ops m ≡ polled_as ops m k (reply_at m)
unfolding polled
polled_so ops m k is = ap (polled_at ops m) is

-- while a word waits at a locked entry, no call in progress is answered by its word
module _ {S : Type 0} (ops : Ops S) (m : NodeMemory S) (k : Call) (page : ℕ)
    (locked : m.coherence.locked ≡ Some page) where
  tried-locked : (x : Asked) → tried_as ops m k x ≡ unserved m
  unfolding begun
  tried-locked (asked.Refused code) = refl
  tried-locked (asked.Word p w) =
      ap (λ b. again m (needed (without_call m) k nothing_beside m.number b b.need) b.need)
      (ap (begun_at ops (without_call m).coherence p w m.number) locked)
  tried-locked (asked.Heap h) = refl

  polled-locked : m.asked ≡ Some k → reply_at m ≡ None → polled ops m ≡ unserved m
  polled-locked called untold =
      polled_so ops m k called ∙ ap (polled_as ops m k) untold
      ∙ tried-locked (asked_of m.coherence.config k)

-- where it can only wait, to ask it for its reply changes nothing
only-waiting : {S : Type 0} (ops : Ops S) (m : NodeMemory S) (k : Call) (a : Asked)
    → a ≡ asked_of m.coherence.config k → m.asked ≡ Some k → reply_at m ≡ None
    → (l : Option ℕ) → l ≡ m.coherence.locked → waits_as a l ≡ true → polled ops m ≡ unserved m
only-waiting ops m k (asked.Word page word) is called untold None locked waits = absurd cc
only-waiting ops m k (asked.Word page word) is called untold (Some l) locked waits =
    polled-locked ops m k l (sym locked) called untold
only-waiting ops m k (asked.Refused code) is called untold l locked waits =
    polled_so ops m k called ∙ ap (polled_as ops m k) untold ∙ ap (tried_as ops m k) (sym is)
only-waiting ops m k (asked.Heap h) is called untold l locked waits =
    polled_so ops m k called ∙ ap (polled_as ops m k) untold ∙ ap (tried_as ops m k) (sym is)

called-waits : {S : Type 0} (ops : Ops S) (m : NodeMemory S) (k : Call) (r : Option Reply)
    → r ≡ reply_at m → m.asked ≡ Some k
    → (is_none r && waits_as (asked_of m.coherence.config k) m.coherence.locked) ≡ true
    → polled ops m ≡ unserved m
called-waits ops m k (Some r) is called waits = absurd cc
called-waits ops m k None is called waits =
    only-waiting ops m k (asked_of m.coherence.config k) refl called (sym is) m.coherence.locked refl waits

waits-unserved : {S : Type 0} (ops : Ops S) (m : NodeMemory S) (o : Option Call) → o ≡ m.asked
    → waits_for m o ≡ true → polled ops m ≡ unserved m
unfolding polled
waits-unserved ops m None is waits = ap (polled_at ops m) (sym is)
waits-unserved ops m (Some k) is waits = called-waits ops m k (reply_at m) refl (sym is) waits

pub waiting_unserved : {S : Type 0} (ops : Ops S) (m : NodeMemory S) → only_waits m ≡ true
    → polled ops m ≡ unserved m
waiting_unserved ops m waits = waits-unserved ops m m.asked refl waits

pub polled-waits : {S : Type 0} (ops : Ops S) (n v : NodeMemory S) → v ≡ n → (k : Call)
    → v.asked ≡ Some k → reply_at n ≡ None → (o : Option ℕ) → o ≡ v.coherence.locked
    → is_some o ≡ true → polled ops n ≡ unserved n
polled-waits ops n v same k called untold None is some = absurd cc
polled-waits ops n v same k called untold (Some page) is some =
    polled-locked ops n k page (ap (λ (x : NodeMemory _). x.coherence.locked) (sym same) ∙ sym is)
    (ap (λ (x : NodeMemory _). x.asked) (sym same) ∙ called) untold

module _ {S : Type 0} where
  unless-posted : (m : NodeMemory S) (k : Call) (number : ℕ) (b : Begun S) (r : Option Reply)
      → b.posted ≡ [] → (again_unless m (answered (without_call m) k number b r) r).posted ≡ b.posted
  unless-posted m k number b None none = sym none
  unless-posted m k number b (Some r) none = refl

  -- what is posted is what the access posts
  pub again-posted : (m : NodeMemory S) (k : Call) (number : ℕ) (b : Begun S) (n : Need)
      → Begins (without_call m).coherence b → b.need ≡ n
      → (again m (needed (without_call m) k nothing_beside number b n) n).posted ≡ b.posted
  again-posted m k number b (need.Have o) bs is =
      unless-posted m k number b (reply_of o) (bs.had o is)
  again-posted m k number b need.Started bs is = refl
  again-posted m k number b need.Busy bs is = sym (bs.none is)
  again-posted m k number b need.Fetched bs is = sym (bs.unasked is)

  unless-same : (m : NodeMemory S) (k : Call) (number : ℕ) (b : Begun S) (r : Option Reply)
      → SameNode m.coherence b.after
      → SameNode m.coherence
      (again_unless m (answered (without_call m) k number b r) r).after.coherence
  unless-same m k number b None same = record { config = refl; me = refl; sends_on = refl }
  unless-same m k number b (Some r) same = same

  again-same : (m : NodeMemory S) (k : Call) (number : ℕ) (b : Begun S) (n : Need)
      → SameNode m.coherence b.after
      → SameNode m.coherence (again m (needed (without_call m) k nothing_beside number b n) n).after.coherence
  again-same m k number b (need.Have o) same = unless-same m k number b (reply_of o) same
  again-same m k number b need.Started same = same
  again-same m k number b need.Busy same = record { config = refl; me = refl; sends_on = refl }
  again-same m k number b need.Fetched same = record { config = refl; me = refl; sends_on = refl }

  taken_with-same : (m : NodeMemory S) (calls : List Call)
      → SameNode m.coherence (taken_with m calls).coherence
  taken_with-same m [] = record { config = refl; me = refl; sends_on = refl }
  taken_with-same m (next ∷ calls) = record { config = refl; me = refl; sends_on = refl }

module _ {S : Type 0} (ops : Ops S) (m : NodeMemory S) (k : Call) where
  -- the access that the call makes
  abbrev retry : ℕ → Word → Begun S
  retry page w = begun ops (without_call m).coherence page w m.number

  marks : (page : ℕ) (w : Word) → Begins (without_call m).coherence (retry page w)
  marks page w = begun-begins ops (without_call m).coherence page w m.number

  tried-same : (x : Asked) → SameNode m.coherence (tried_as ops m k x).after.coherence
  tried-same (asked.Refused code) = record { config = refl; me = refl; sends_on = refl }
  tried-same (asked.Word page w) =
      again-same m k m.number (retry page w) (retry page w).need
      (let s = (marks page w).same in
      record { config = s.config; me = s.me; sends_on = s.sends_on })
  tried-same (asked.Heap k) = record { config = refl; me = refl; sends_on = refl }

  as-same : (r : Option Reply) → SameNode m.coherence (polled_as ops m k r).after.coherence
  as-same None = tried-same (asked_of m.coherence.config k)
  as-same (Some r) = taken_with-same m m.along

  tried-begun : m.asked ≡ Some k → (x : Asked)
      → IsBegun k m.along m.along m.number (tried_as ops m k x)
  tried-begun is (asked.Refused code) = unserved-begun m k is
  tried-begun is (asked.Word page w) = again-begun m k (retry page w) (retry page w).need is
  tried-begun is (asked.Heap h) = unserved-begun m k is

  as-begun : m.asked ≡ Some k → (r : Option Reply)
      → IsBegun k m.along m.along m.number (polled_as ops m k r)
  as-begun is None = tried-begun is (asked_of m.coherence.config k)
  as-begun is (Some r) = taken_with-goes m m.along

  pub polled-begun : m.asked ≡ Some k → IsBegun k m.along m.along m.number (polled ops m)
  polled-begun is =
      subst (IsBegun k m.along m.along m.number) (sym (polled_so ops m k is))
      (as-begun is (reply_at m))

  tried-few : IsSound ops m.coherence → (x : Asked)
      → length (tried_as ops m k x).posted ≤ most_posted
  tried-few s (asked.Refused code) = omega arith
  tried-few s (asked.Word page w) =
      let few =
      begun-few ops (without_call m).coherence page w m.number
      (with_done-sound m.coherence None s) in
      let is : length
      (again m (needed (without_call m) k nothing_beside m.number (retry page w) (retry page w).need)
      (retry page w).need).posted ≡ length (retry page w).posted
      = ap length
      (again-posted m k m.number (retry page w) (retry page w).need (marks page w) refl) in
      omega (arith, few, is)
  tried-few s (asked.Heap k) = omega arith

  as-few : IsSound ops m.coherence → (r : Option Reply)
      → length (polled_as ops m k r).posted ≤ most_posted
  as-few s None = tried-few s (asked_of m.coherence.config k)
  as-few s (Some r) = omega arith

module _ {S : Type 0} (ops : Ops S) where
  at-same : (m : NodeMemory S) (a : Option Call)
      → SameNode m.coherence (polled_at ops m a).after.coherence
  at-same m None = record { config = refl; me = refl; sends_on = refl }
  at-same m (Some k) = as-same ops m k (reply_at m)

  -- the node stays who it is
  pub polled-same : (m : NodeMemory S) → SameNode m.coherence (polled ops m).after.coherence
  unfolding polled
  polled-same m = at-same m m.asked

  at-few : (m : NodeMemory S) → IsSound ops m.coherence → (a : Option Call)
      → length (polled_at ops m a).posted ≤ most_posted
  at-few m s None = omega arith
  at-few m s (Some k) = as-few ops m k s (reply_at m)

  -- it posts few messages
  pub polled-few : (n v : NodeMemory S) → v ≡ n → IsSoundMemory ops v
      → length (polled ops n).posted ≤ most_posted
  unfolding polled
  polled-few n v same s =
      subst (λ (x : NodeMemory S). length (polled_at ops x x.asked).posted ≤ most_posted) same
      (at-few v s.coherent v.asked)

module _ {S : Type 0} {ops : Ops S} (laws : Laws ops) (m : NodeMemory S) (k : Call)
    (s : IsSoundMemory ops m) (called : m.asked ≡ Some k) where
  Keeps : CallBegun S → Type 0
  Keeps a = IsSoundMemory ops a.after × All (FitsParcel m.coherence.config m.coherence.me) a.posted

  quiet_keeps : IsSoundMemory ops m × All (FitsParcel m.coherence.config m.coherence.me) []
  quiet_keeps = (s, all_none (FitsParcel m.coherence.config m.coherence.me))

  tried-keeps : (x : Asked) → asked_of m.coherence.config k ≡ x → CanAsk m.coherence.config x
      → IsSoundMemory ops (tried_as ops m k x).after
      × All (FitsParcel m.coherence.config m.coherence.me) (tried_as ops m k x).posted
  tried-keeps (asked.Refused code) of can = quiet_keeps
  tried-keeps (asked.Word page w) of can =
      let b : Begun S = retry ops m k page w in
      let bs : Begins (without_call m).coherence b = marks ops m k page w in
      let kept =
      begun-keeps laws (without_call m).coherence page w m.number
      (with_done-sound m.coherence None s.coherent) can.0 can.1 (s.numbered k called) (below m s) in (
        again-sound m k m.number b b.need (s.width k called) (s.numbered k called) (below m s)
            (word_words m.coherence.config k page w of) s bs kept.0 refl,
        subst (All (FitsParcel m.coherence.config m.coherence.me))
            (sym (again-posted m k m.number b b.need bs refl)) kept.1,
      )
  tried-keeps (asked.Heap k) of can = quiet_keeps

  as-keeps : (r : Option Reply) → reply_at m ≡ r
      → IsSoundMemory ops (polled_as ops m k r).after
      × All (FitsParcel m.coherence.config m.coherence.me) (polled_as ops m k r).posted
  as-keeps None is =
      tried-keeps (asked_of m.coherence.config k) refl
      (can_ask m.coherence.config k s.coherent.limits (s.width k called))
  as-keeps (Some r) is =
      (taken-sound m r s is, all_none (FitsParcel m.coherence.config m.coherence.me))

  -- what asking for the reply keeps
  pub polled-keeps : KeepsMemory ops m (polled ops m)
  polled-keeps =
      let kept =
      subst (λ (a : CallBegun S). IsSoundMemory ops a.after
      × All (FitsParcel m.coherence.config m.coherence.me) a.posted)
      (sym (polled_so ops m k called)) (as-keeps (reply_at m) refl) in
      (kept.0, kept.1, polled-same ops m)

-- an access after which no answer stands there
abbrev cleared : {S : Type 0} → Begun S → Begun S
cleared b = record { need = b.need; after = record b.after { done = None }; posted = b.posted }

module _ {S : Type 0} (ops : Ops S) (c : Coherent S) (page : ℕ) (w : Word) (number : ℕ) where
  if_cleared : (b : Bool) (x y x' y' : Begun S) → x ≡ cleared x' → y ≡ cleared y'
      → (if b then x else y) ≡ cleared (if b then x' else y')
  if_cleared true x y x' y' h k = h
  if_cleared false x y x' y' h k = k

  join-cleared : (e : Entry)
      → joined ops (record c { done = None }) page w e ≡ cleared (joined ops c page w e)
  join-cleared e = if_cleared (suits e (needs_write w)) _ _ _ _ refl refl

  entry-cleared : (e : Entry)
      → accessed ops (record c { done = None }) page w number e
      ≡ cleared (accessed ops c page w number e)
  entry-cleared (entry.Idle s) = if_cleared (suffices s.access w) _ _ _ _ refl refl
  entry-cleared (entry.AwaitRead s) = join-cleared (entry.AwaitRead s)
  entry-cleared (entry.AwaitWrite s) = join-cleared (entry.AwaitWrite s)
  entry-cleared (entry.AwaitAcks s) = join-cleared (entry.AwaitAcks s)

  at-cleared : (o : Option ℕ)
      → begun_at ops (record c { done = None }) page w number o
      ≡ cleared (begun_at ops c page w number o)
  at-cleared None = entry-cleared (entry_at c.table page)
  at-cleared (Some locked) = refl

  -- an access does not look at the answer that stands there
  begun-cleared : begun ops (record c { done = None }) page w number
      ≡ cleared (begun ops c page w number)
  unfolding begun
  begun-cleared = at-cleared c.locked

-- A call in progress whose word is tried again, as the code has it: `v` is what the fields are seen
-- as, `n` the value.
pub record IsRetry {S : Type 0} (ops : Ops S) (n v : NodeMemory S) (k : Config) (c : Call)
    (page : ℕ) (w : Word) : Type 0 where
  pub same : v ≡ n
  pub sound : IsSoundMemory ops v
  pub config : k ≡ v.coherence.config
  pub called : v.asked ≡ Some c
  pub untold : reply_at n ≡ None
  pub asks : asked_of k c ≡ asked.Word page w

module _ {S : Type 0} {ops : Ops S} (laws : Laws ops) (n v : NodeMemory S) (k : Config) (c : Call)
    (page : ℕ) (w : Word) (l : IsRetry ops n v k c page w) where
  abbrev access : Begun S
  access = begun ops v.coherence page w v.number

  asking : asked_of v.coherence.config c ≡ asked.Word page w
  asking = ap (λ x. asked_of x c) (sym l.config) ∙ l.asks

  pub retry_can : (page < v.coherence.config.pages) × IsWord v.coherence.config.page_size w
  retry_can =
      subst (CanAsk v.coherence.config) asking
      (can_ask v.coherence.config c l.sound.coherent.limits (l.sound.width c l.called))

  untold : reply_at v ≡ None
  untold = ap (λ (x : NodeMemory S). reply_at x) l.same ∙ l.untold

  access_begins : Begins v.coherence access
  access_begins = begun-begins ops v.coherence page w v.number

  -- what asking comes to, by what the access was told
  polled_by : (told : Need) → told ≡ access.need
      → polled ops n ≡ again v (needed (without_call v) c nothing_beside v.number (cleared access) told) told
  polled_by told was =
      ap (λ x. polled ops x) (sym l.same)
      ∙ polled_so ops v c l.called
      ∙ ap (polled_as ops v c) untold
      ∙ ap (tried_as ops v c) asking
      ∙ ap (λ b. again v (needed (without_call v) c nothing_beside v.number b b.need) b.need)
      (begun-cleared ops v.coherence page w v.number)
      ∙ ap (λ t. again v (needed (without_call v) c nothing_beside v.number (cleared access) t) t) (sym was)

  -- what the call comes to where the memory is this, and what the access posts is posted
  abbrev pub comes_to : CallProgress → Coherent S → Option Call → List Call → HeapSide → CallBegun S
  comes_to answer new a ks side =
      record {
        answer = answer;
        after =
            record { coherence = new; asked = a; along = ks; number = v.number; side = side };
        posted = access.posted;
      }

  last_is : (new last : Coherent S) → new ≡ access.after → last ≡ record new { done = None }
      → record access.after { done = None } ≡ last
  last_is new last is gone = ap (λ (z : Coherent S). record z { done = None }) (sym is) ∙ sym gone

  -- the word has an answer now
  pub given_is : (new last : Coherent S) (told : Need) (o : Out) (r : Reply) (ks : List Call)
      (side : HeapSide) → ks ≡ [] → side ≡ closed v.side → new ≡ access.after
      → last ≡ record new { done = None } → told ≡ access.need → told ≡ need.Have o
      → reply_of o ≡ Some r → polled ops n ≡ comes_to (Given r) last None ks side
  given_is new last told o r ks side emptied over is gone was had replies =
      polled_by told was
      ∙ ap (λ t. again v (needed (without_call v) c nothing_beside v.number (cleared access) t) t) had
      ∙ ap (λ x. again_unless v (answered (without_call v) c v.number (cleared access) x) x) replies
      ∙ ap (λ x. comes_to (Given r) x None [] (closed v.side)) (last_is new last is gone)
      ∙ (λ j. comes_to (Given r) last None (sym emptied j) (sym over j))

  nothing_is : (new : Coherent S) → new ≡ v.coherence → access.posted ≡ []
      → unserved v ≡ comes_to Unserved new v.asked v.along v.side
  nothing_is new is none =
      ap (λ x. unserved (record v { coherence = x })) (sym is)
      ∙ ap (λ ps. record (comes_to Unserved new v.asked v.along v.side) { posted = ps }) (sym none)

  -- it has none
  pub quiet_is : (new : Coherent S) (told : Need) (o : Out) → new ≡ access.after
      → told ≡ access.need → told ≡ need.Have o → reply_of o ≡ None
      → polled ops n ≡ comes_to Unserved new v.asked v.along v.side
  quiet_is new told o is was had none =
      polled_by told was
      ∙ ap (λ t. again v (needed (without_call v) c nothing_beside v.number (cleared access) t) t) had
      ∙ ap (λ x. again_unless v (answered (without_call v) c v.number (cleared access) x) x) none
      ∙ nothing_is new (is ∙ access_begins.quiet o (sym was ∙ had) none)
      (access_begins.had o (sym was ∙ had))

  -- it has to be asked for
  pub starts_is : (new last : Coherent S) (told : Need) (ks : List Call) (side : HeapSide)
      → ks ≡ [] → side ≡ closed v.side → new ≡ access.after → last ≡ record new { done = None }
      → told ≡ access.need → told ≡ need.Started
      → polled ops n ≡ comes_to Awaited last v.asked ks side
  starts_is new last told ks side emptied over is gone was started =
      polled_by told was
      ∙ ap (λ t. again v (needed (without_call v) c nothing_beside v.number (cleared access) t) t) started
      ∙ ap (λ x. comes_to Awaited x (Some c) [] (closed v.side)) (last_is new last is gone)
      ∙ ap (λ x. comes_to Awaited last x [] (closed v.side)) (sym l.called)
      ∙ (λ j. comes_to Awaited last v.asked (sym emptied j) (sym over j))

  -- it waits
  pub waits_is : (new : Coherent S) (told : Need) → new ≡ access.after → told ≡ access.need
      → told ≡ need.Busy
      → polled ops n ≡ comes_to Unserved new v.asked v.along v.side
  waits_is new told is was busy =
      polled_by told was
      ∙ ap (λ t. again v (needed (without_call v) c nothing_beside v.number (cleared access) t) t) busy
      ∙ nothing_is new (is ∙ access_begins.busy (sym was ∙ busy))
      (access_begins.none (sym was ∙ busy))

  -- its page is fetched otherwise
  pub beside_is : (new : Coherent S) (told : Need) → new ≡ access.after → told ≡ access.need
      → told ≡ need.Fetched
      → polled ops n ≡ comes_to Unserved new v.asked v.along v.side
  beside_is new told is was fetched =
      polled_by told was
      ∙ ap (λ t. again v (needed (without_call v) c nothing_beside v.number (cleared access) t) t)
      fetched
      ∙ nothing_is new (is ∙ access_begins.fetched (sym was ∙ fetched))
      (access_begins.unasked (sym was ∙ fetched))

  -- the memory after it is sound
  pub poll_memory : (answer : CallProgress) (new : Coherent S) (a : Option Call) (ks : List Call)
      (side : HeapSide) → polled ops n ≡ comes_to answer new a ks side
      → IsSoundMemory ops
      (record { coherence = new; asked = a; along = ks; number = v.number; side = side })
  poll_memory answer new a ks side is =
      subst (λ (x : CallBegun S). IsSoundMemory ops x.after) (ap (λ x. polled ops x) l.same ∙ is)
      (polled-keeps laws v c l.sound l.called).0

  -- what is posted is what the access posts
  pub poll_posts : access.posted ≡ (polled ops n).posted
  poll_posts =
      sym (ap (λ (x : CallBegun S). x.posted) (polled_by access.need refl)
      ∙ again-posted v c v.number (cleared access) access.need
      (subst (Begins (without_call v).coherence) (begun-cleared ops v.coherence page w v.number)
      (begun-begins ops (without_call v).coherence page w v.number)) refl)

  pub retry_asks : {A E : Type 0} (r : Result A E)
      → HasToAsk v.coherence page w ⊎ MayMakePage v.coherence page w → OnErr r (MayFailAgain n)
  retry_asks (Ok a) why = tt
  retry_asks (Err x) why =
      subst (λ (m : NodeMemory S). MayFailAgain m) l.same (record {
        call = c;
        asked = l.called;
        untold = untold;
        asks = elim why [
          | inl asks ↦ inl (subst (HasToAskFor v.coherence) (sym asking) asks)
          | inr makes ↦ inr (subst (MayMakePageFor v.coherence) (sym asking) makes)
        ];
      })

some_is : {A : Type 0} (o : Option A) → is_some o ≡ true → (x : A) × (o ≡ Some x)
some_is None h = absurd cc
some_is (Some x) h = (x, refl)

-- what is left once a reply that is there was taken out
pub taken_keeps : {S : Type 0} {ops : Ops S} (n v : NodeMemory S) → v ≡ n → IsSoundMemory ops v
    → is_some (reply_at n) ≡ true → IsSoundMemory ops (taken_out n)
taken_keeps {S} {ops} n v same s there =
    let r = some_is (reply_at n) there in
    taken-sound n r.0 (subst (IsSoundMemory ops) same s) r.1

-- the first of some calls, if there is one
next_is : (calls : List Call) (a : Option Call) → a ≡ slice_get calls 0 → is_some a ≡ true
    → (next : Call) × (calls ≡ next ∷ drop 1 calls) × (a ≡ Some next)
next_is [] a is some = absurd (let none : is_some a ≡ false = ap is_some is in cc)
next_is (next ∷ calls) a is some = (next, refl, is)

none_is : (calls : List Call) (a : Option Call) → a ≡ slice_get calls 0 → is_some a ≡ false
    → (calls ≡ []) × (a ≡ None)
none_is [] a is none = (refl, is)
none_is (next ∷ calls) a is none = absurd (let some : is_some a ≡ true = ap is_some is in cc)

-- The reply of the call in progress is taken out, as the code has it: `a` is the call that is next, and
-- `ks` are those that are left behind it.
module _ {S : Type 0} (n v : NodeMemory S) (same : v ≡ n) (new : Coherent S) (a : Option Call)
    (ks : List Call) (side : HeapSide) (over : side ≡ closed v.side)
    (is : a ≡ slice_get v.along 0) (left : ks ≡ drop 1 v.along) where
  -- there is none
  pub taken_last : is_some a ≡ false → new ≡ record v.coherence { done = None }
      → record { coherence = new; asked = a; along = ks; number = v.number; side = side }
      ≡ taken_out n
  taken_last none outs =
      let x = none_is v.along a is none in
      let gone : ks ≡ [] = left ∙ ap (λ (cs : List Call). drop 1 cs) x.0 in
      (λ j. record {
        coherence = outs j;
        asked = x.1 j;
        along = gone j;
        number = v.number;
        side = over j;
      })
      ∙ sym (ap (taken_with v) x.0) ∙ ap (λ (m : NodeMemory S). taken_out m) same

  pub more_left : is_some a ≡ true → 1 ≤ length v.along
  more_left some =
      let x = next_is v.along a is some in
      let many : length v.along ≡ length (x.0 ∷ drop 1 v.along) = ap length x.1 in
      omega (arith, many)

  -- there is one
  pub taken_next : is_some a ≡ true
      → new ≡ record v.coherence {
        done = first_out v.coherence.done_more;
        done_more = later_outs v.coherence.done_more;
      }
      → record { coherence = new; asked = a; along = ks; number = v.number + 1; side = side }
      ≡ taken_out n
  taken_next some outs =
      let x = next_is v.along a is some in
      (λ j. record {
        coherence = outs j;
        asked = x.2 j;
        along = left j;
        number = v.number + 1;
        side = over j;
      })
      ∙ sym (ap (taken_with v) x.1) ∙ ap (λ (m : NodeMemory S). taken_out m) same
