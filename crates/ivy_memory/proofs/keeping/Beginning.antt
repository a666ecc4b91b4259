-- A call that begins, and a message that comes, as the code has them.
use Rattle.std.proofs.Common.{◌≡◌, ◌≢◌, ℕ, ◌^◌, ◌<◌, ◌≤◌, ◌⊎◌, inl, inr, Bool, true, false, List}
use Rattle.std.proofs.Common.{[], ◌∷◌, length, is_some, Option, Some, None, Result, Ok, Err, OnOk}
use Rattle.std.proofs.Common.{OnErr, IsErrAnd, IfErr, refl, sym, ap, ◌∙◌, subst, if◌then◌else◌}
use Rattle.std.proofs.lemmas.Bool.{cases_Bool}
use Rattle.std.proofs.lemmas.List.Elements.{All-nil}
use Rattle.ivy_model.specs.declared.Config.{Config}
use Rattle.ivy_model.specs.declared.Call.{Call}
use Rattle.ivy_model.specs.stated.Legal.{HasWidth}
use Rattle.ivy_wire.specs.stated.Data.{Message, Parcel}
use Rattle.ivy_wire.specs.stated.Spelling.{FitsMessage}
use Rattle.ivy_pagetable.specs.declared.Out.{Out}
use Rattle.ivy_pagetable.specs.declared.Word.{Word}
use Rattle.ivy_pagetable.specs.stated.Words.{IsWord, needs_write}
use Rattle.ivy_pagetable.specs.stated.Manager.{Ops}
use Rattle.ivy_pagetable.specs.Manager.{Laws}
use Rattle.ivy_coherence.specs.declared.Need.{Need}
use Rattle.ivy_coherence.specs.declared.Need.TheVariants as need
use Rattle.ivy_coherence.specs.stated.Coherent.{Coherent}
use Rattle.ivy_pagetable.specs.stated.Accesses.{suffices}
use Rattle.ivy_coherence.specs.stated.PageFaults.{Begun, hit, faulted, taken_up, waits_beside, joined, accessed, begun_at, begun}
use Rattle.ivy_coherence.specs.stated.Fetching.{suits}
use Rattle.ivy_coherence.specs.PageFaults.{HasToAsk, MayMakePage}
use Rattle.ivy_pagetable.specs.declared.Entry.{Entry}
use Rattle.ivy_pagetable.specs.declared.Entry.TheVariants as entry
use Rattle.ivy_pagetable.specs.stated.Tables.{entry_at}
use Rattle.ivy_coherence.specs.stated.Sound.{IsSound}
use Rattle.ivy_coherence.specs.stated.MessageSteps.{handled}
use Rattle.ivy_alloc.specs.declared.CallProgress.{CallProgress}
use Rattle.ivy_alloc.specs.declared.CallProgress.TheVariants.{Given, Awaited, Unserved}
use Rattle.ivy_coherence.proofs.keeping.Accesses.{begun-keeps}
use Rattle.ivy_memory.specs.declared.memory.Asked.TheVariants as asked
use Rattle.ivy_alloc.specs.declared.HeapCall.{HeapCall}
use Rattle.ivy_memory.specs.Asking.{CanAsk, HasToAskFor, CallHasToAsk, MayMakePageFor, CallMayMakePage, MayBeRefused, IsMessageWant}
use Rattle.ivy_memory.specs.stated.Asking.{asked_of}
use Rattle.ivy_model.specs.declared.Fault.{Fault}
use Rattle.ivy_alloc.specs.HeapCalls.{IsAddressPosted, IsGrowthPosted}
use Rattle.ivy_alloc.specs.stated.HeapCalls.{HeapBegun, HeapSide, HeapTold, heap_begun, heap_told}
use Rattle.ivy_alloc.proofs.HeapMessages.{misfit_stays}
use Rattle.ivy_memory.specs.stated.Beside.{nothing_beside}
use Rattle.ivy_memory.specs.stated.Memories.{NodeMemory, CallBegun, needed, asked_after, along_after}
use Rattle.ivy_memory.specs.stated.Memories.{number_after}
use Rattle.ivy_memory.specs.stated.Memories.{heap_answered, begun_as, call_begun, MemoryEffect, by_side}
use Rattle.ivy_memory.specs.stated.Memories.{by_coherence, memory_handled_as, memory_handled, memory_told}
use Rattle.ivy_memory.proofs.batches.Along.{none_follow}
use Rattle.ivy_memory.proofs.serving.Asking.{can_ask}
use Rattle.ivy_memory.specs.stated.Sound.{IsInProgress, IsSoundMemory}
use Rattle.ivy_memory.proofs.keeping.WellBehaved.{Begins, begun-begins, one_wide, had-sound, started-sound, told-sound, needed-posted, call_few, call-sound, told_few}
use Rattle.ivy_memory.proofs.serving.Sides.{idle_words, word_words}
use Rattle.ivy_coherence.specs.EventLimits.{most_posted}

none_of : {A : Type 0} (o : Option A) → is_some o ≡ false → o ≡ None
none_of None h = refl
none_of (Some a) h = absurd cc

-- what holds of a result either way
pub of_either : {A B X : Type 0} (F : X → Type 0) (r : Result A B) (new good old : X)
    → OnOk r (new ≡ good) → OnErr r (new ≡ old) → F good → F old → F new
of_either F (Ok a) new good old h k x y = subst F (sym h) x
of_either F (Err e) new good old h k x y = subst F (sym k) y

-- what holds of the fault that a result is
pub err_there : {A E : Type 0} (r : Result A E) (F : E → Type 0) (e : E) → IsErrAnd r (λ x. x ≡ e)
    → F e → IfErr r F
err_there (Ok a) F e h k = absurd h
err_there (Err x) F e h k = subst F (sym h) k

-- or of one of two
pub err_refuses : {A E X : Type 0} (r : Result A E) (W G : E → Type 0) (R : X → E → Type 0) (e : E)
    (x y : X) → x ≡ y → IsErrAnd r (λ z. z ≡ e) → (W e → G e) → W e ⊎ R x e
    → IfErr r (λ f. G f ⊎ R y f)
err_refuses r W G R e x y same is wants why =
    err_there r (λ f. G f ⊎ R y f) e is
    (elim why [ inl lacks ↦ inl (wants lacks) | inr refuses ↦ inr (subst (λ z. R z e) same refuses) ])

-- no call is in progress where the code sees none
pub no_call : {S : Type 0} (n v : NodeMemory S) {b : Bool} → v ≡ n → b ≡ is_some v.asked → b ≡ false
    → n.asked ≡ None
no_call n v same seen none =
    ap (λ (m : NodeMemory _). m.asked) (sym same) ∙ none_of v.asked (sym seen ∙ none)

-- a call that begins as a word of a page, as the code has it: `v` is what the fields are seen as,
-- `n` the value
pub record IsBeginning {S : Type 0} (ops : Ops S) (n v : NodeMemory S) (k : Config) (c : Call)
    (number page : ℕ) (w : Word) : Type 0 where
  pub same : v ≡ n
  pub sound : IsSoundMemory ops v
  pub config : k ≡ v.coherence.config
  pub idle : n.asked ≡ None
  pub legal : HasWidth c
  pub least : 1 ≤ number
  pub most : number < 2 ^ 64
  pub asks : asked_of k c ≡ asked.Word page w

-- a call posts few messages
pub few_posted : {S : Type 0} {ops : Ops S} (n v : NodeMemory S) → v ≡ n → IsSoundMemory ops v
    → (c : Call) (number : ℕ) → length (call_begun ops n c [] number).posted ≤ most_posted
few_posted {S} {ops} n v same s c number =
    subst (λ (x : NodeMemory S). length (call_begun ops x c [] number).posted ≤ most_posted) same
    (call_few ops v c [] number s.coherent)

-- where no word waits, a word is carried out, or has to be asked for
module _ {S : Type 0} (ops : Ops S) (c : Coherent S) (page : ℕ) (w : Word) (number : ℕ) where
  either_need : (b : Bool) (x y : Begun S) → x.need ≢ need.Busy → y.need ≢ need.Busy
      → (if b then x else y).need ≢ need.Busy
  either_need true x y h k = h
  either_need false x y h k = k

  join_serves : (e : Entry) → (joined ops c page w e).need ≢ need.Busy
  join_serves e =
      either_need (suits e (needs_write w)) (taken_up ops c page w e) (waits_beside ops c)
      (λ e. absurd cc) (λ e. absurd cc)

  entry_serves : (e : Entry) → (accessed ops c page w number e).need ≢ need.Busy
  entry_serves (entry.Idle s) =
      either_need (suffices s.access w) (hit ops c page w) (faulted ops c page w number s)
      (λ e. absurd cc) (λ e. absurd cc)
  entry_serves (entry.AwaitRead s) = join_serves (entry.AwaitRead s)
  entry_serves (entry.AwaitWrite s) = join_serves (entry.AwaitWrite s)
  entry_serves (entry.AwaitAcks s) = join_serves (entry.AwaitAcks s)

  never_busy : IsSound ops c → c.locked ≡ None → (begun ops c page w number).need ≢ need.Busy
  unfolding begun
  never_busy sound free =
      subst (λ o. (begun_at ops c page w number o).need ≢ need.Busy) (sym free)
      (entry_serves (entry_at c.table page))

module _ {S : Type 0} {ops : Ops S} (laws : Laws ops) where
  pub message_memory : (n v : NodeMemory S) → v ≡ n → IsSoundMemory ops v
      → (from : ℕ) (message : Message) → from < n.coherence.config.nodes → from ≢ n.coherence.me
      → FitsMessage n.coherence.config message → IsSoundMemory ops (memory_told ops v from message)
  message_memory n v same s from message below foreign fits =
      (told-sound laws v from message s
      (subst (λ (x : NodeMemory S). from < x.coherence.config.nodes) (sym same) below)
      (subst (λ (x : NodeMemory S). from ≢ x.coherence.me) (sym same) foreign)
      (subst (λ (x : NodeMemory S). FitsMessage x.coherence.config message) (sym same) fits)).0

  module _ (n v : NodeMemory S) (k : Config) (c : Call) (number page : ℕ) (w : Word)
      (l : IsBeginning ops n v k c number page w) where
    abbrev access : Begun S
    access = begun ops v.coherence page w number

    asking : asked_of v.coherence.config c ≡ asked.Word page w
    asking = ap (λ x. asked_of x c) (sym l.config) ∙ l.asks

    pub can : (page < v.coherence.config.pages) × IsWord v.coherence.config.page_size w
    can = subst (CanAsk v.coherence.config) asking
        (can_ask v.coherence.config c l.sound.coherent.limits l.legal)

    access_begins : Begins v.coherence access
    access_begins = begun-begins ops v.coherence page w number

    access-sound : IsSound ops access.after
    access-sound =
        (begun-keeps laws v.coherence page w number l.sound.coherent can.0 can.1 l.least l.most).0

    resting : v.asked ≡ None
    resting = ap (λ (x : NodeMemory S). x.asked) l.same ∙ l.idle

    alone : v.along ≡ []
    alone = l.sound.alone resting

    -- the call is none of the heap
    pub words_now : (h : HeapCall) → IsInProgress v.coherence.config (Some c) h → ⊥
    words_now = word_words v.coherence.config c page w asking

    -- nor is one in progress before
    pub words_before : (h : HeapCall) → IsInProgress v.coherence.config v.asked h → ⊥
    words_before =
        subst (λ x. (h : HeapCall) → IsInProgress v.coherence.config x h → ⊥) (sym resting)
        (idle_words v.coherence.config)

    pub had_memory : (new : Coherent S) (told : Need) (o : Out) (a : Option Call) (k : ℕ)
        → ((j : Call) → a ≡ Some j → HasWidth j) → ((j : Call) → a ≡ Some j → 1 ≤ k) → k < 2 ^ 64
        → ((h : HeapCall) → IsInProgress v.coherence.config a h → ⊥) → new ≡ access.after
        → told ≡ access.need → told ≡ need.Have o
        → IsSoundMemory ops
        (record { coherence = new; asked = a; along = v.along; number = k; side = v.side })
    had_memory new told o a k wide least most words is was had =
        subst (λ x. IsSoundMemory ops
        (record { coherence = new; asked = a; along = x; number = k; side = v.side })) (sym alone)
        (subst (λ x. IsSoundMemory ops
        (record { coherence = x; asked = a; along = []; number = k; side = v.side })) (sym is)
        (had-sound v access o a k wide least most words l.sound resting access_begins
        access-sound (sym was ∙ had)))

    pub started_memory : (new : Coherent S) → new ≡ access.after
        → IsSoundMemory ops
        (record { coherence = new; asked = Some c; along = v.along; number = number; side = v.side })
    started_memory new is =
        subst (λ x. IsSoundMemory ops
        (record { coherence = new; asked = Some c; along = x; number = number; side = v.side }))
        (sym alone)
        (subst (λ x. IsSoundMemory ops
        (record { coherence = x; asked = Some c; along = []; number = number; side = v.side }))
        (sym is)
        (started-sound v access c [] number l.legal l.least
        (none_follow v.coherence.config number l.most) words_now l.sound resting access_begins
        access-sound))

    -- the call in progress is that call
    pub wide : (j : Call) → Some c ≡ Some j → HasWidth j
    wide = one_wide c l.legal

    begun_is : call_begun ops n c [] number ≡ needed v c nothing_beside number access access.need
    unfolding call_begun
    begun_is =
        ap (λ x. call_begun ops x c [] number) (sym l.same) ∙ ap (begun_as ops v c [] number) asking

    -- a call whose word has to be asked for, or whose page may have to be made
    pub call_asks : {A E : Type 0} (r : Result A E)
        → HasToAsk v.coherence page w ⊎ MayMakePage v.coherence page w
        → OnErr r
        (CallHasToAsk n.coherence c
        ⊎ (CallMayMakePage n.coherence c
        ⊎ MayBeRefused (asked_of n.coherence.config c) (call_begun ops n c [] number).answer))
    call_asks (Ok a) why = tt
    call_asks (Err x) (inl asks) =
        inl (subst (λ (m : NodeMemory S). CallHasToAsk m.coherence c) l.same
        (subst (HasToAskFor v.coherence) (sym asking) asks))
    call_asks (Err x) (inr makes) =
        inr (inl (subst (λ (m : NodeMemory S). CallMayMakePage m.coherence c) l.same
        (subst (MayMakePageFor v.coherence) (sym asking) makes)))

    -- no word waits before it
    pub not_busy : (told : Need) → told ≡ access.need → told ≡ need.Busy → ⊥
    not_busy told was busy =
        never_busy ops v.coherence page w number l.sound.coherent (l.sound.locked resting)
        (sym was ∙ busy)

    -- what a call posts is what its access posts
    pub call_posts : access.posted ≡ (call_begun ops n c [] number).posted
    call_posts =
        sym (ap (λ (x : CallBegun S). x.posted) begun_is
        ∙ needed-posted v c nothing_beside number access access.need access_begins refl)

-- A call that begins as one of the heap, as the code has it: `v` is what the fields are seen as,
-- `n` the value.
pub record IsHeapBeginning {S : Type 0} (ops : Ops S) (n v : NodeMemory S) (k : Config) (c : Call)
    (number : ℕ) (h : HeapCall) (node : ℕ) : Type 0 where
  pub same : v ≡ n
  pub sound : IsSoundMemory ops v
  pub config : k ≡ v.coherence.config
  pub idle : n.asked ≡ None
  pub legal : HasWidth c
  pub least : 1 ≤ number
  pub most : number < 2 ^ 64
  pub asks : asked_of k c ≡ asked.Heap h
  pub me : node ≡ v.coherence.me

module _ {S : Type 0} {ops : Ops S} (laws : Laws ops) (n v : NodeMemory S) (k : Config) (c : Call)
    (number : ℕ) (h : HeapCall) (node : ℕ) (l : IsHeapBeginning ops n v k c number h node) where
  abbrev begins : HeapBegun
  begins = heap_begun node v.side h number

  heap_asking : asked_of v.coherence.config c ≡ asked.Heap h
  heap_asking = ap (λ x. asked_of x c) (sym l.config) ∙ l.asks

  -- what the call comes to
  pub heap_is : call_begun ops n c [] number ≡ heap_answered v c number begins
  unfolding call_begun
  heap_is =
      ap (λ x. call_begun ops x c [] number) (sym l.same)
      ∙ ap (begun_as ops v c [] number) heap_asking
      ∙ ap (λ i. heap_answered v c number (heap_begun i v.side h number)) (sym l.me)

  none_after : (r : CallProgress) → along_after v.along r ≡ v.along
  none_after Awaited = sym (l.sound.alone (ap (λ (x : NodeMemory S). x.asked) l.same ∙ l.idle))
  none_after (Given r) = refl
  none_after Unserved = refl

  -- the memory after it is sound
  pub heap_memory : (answer : CallProgress) (new : HeapSide) (a : Option Call) (i : ℕ)
      → answer ≡ begins.answer → new ≡ begins.after → asked_after v.asked c answer ≡ a
      → number_after v.number number answer ≡ i
      → IsSoundMemory ops
      (record { coherence = v.coherence; asked = a; along = v.along; number = i; side = new })
  heap_memory answer new a i told after waits counts =
      subst (λ x. IsSoundMemory ops
      (record { coherence = v.coherence; asked = a; along = v.along; number = i; side = x })) (sym after)
      (subst (λ x. IsSoundMemory ops
      (record { coherence = v.coherence; asked = a; along = v.along; number = x; side = begins.after }))
      (ap (number_after v.number number) (sym told) ∙ counts)
      (subst (λ x. IsSoundMemory ops
      (record {
        coherence = v.coherence;
        asked = x;
        along = v.along;
        number = number_after v.number number begins.answer;
        side = begins.after;
      }))
      (ap (asked_after v.asked c) (sym told) ∙ waits)
      (subst (λ x. IsSoundMemory ops
      (record {
        coherence = v.coherence;
        asked = asked_after v.asked c begins.answer;
        along = x;
        number = number_after v.number number begins.answer;
        side = begins.after;
      }))
      (none_after begins.answer)
      (subst (λ (x : CallBegun S). IsSoundMemory ops x.after)
      (ap (λ x. call_begun ops x c [] number) l.same ∙ heap_is)
      (call-sound laws v c [] number l.sound (ap (λ (x : NodeMemory S). x.asked) l.same ∙ l.idle)
      l.legal (All-nil HasWidth) l.least l.most).0))))

-- nothing posted is no address
no_address : IsAddressPosted [] → ⊥
no_address a = let none : [] ≡ a.0 ∷ [] = a.2 in absurd cc

-- A message that comes, as the code has it: `v` is what the fields are seen as, `n` the value.
pub record IsMessage {S : Type 0} (ops : Ops S) (n v : NodeMemory S) (node from : ℕ)
    (m : Message) : Type 0 where
  pub same : v ≡ n
  pub sound : IsSoundMemory ops v
  pub me : node ≡ v.coherence.me
  pub below : from < n.coherence.config.nodes
  pub foreign : from ≢ n.coherence.me
  pub fits : FitsMessage n.coherence.config m

module _ {S : Type 0} {ops : Ops S} (laws : Laws ops) (n v : NodeMemory S) (node from : ℕ)
    (m : Message) (l : IsMessage ops n v node from m) where
  abbrev heard : HeapTold
  heard = heap_told node v.side from m

  abbrev effect_by : HeapTold → MemoryEffect S
  effect_by t = memory_handled_as ops v from m t

  heard_is : memory_handled ops n from m ≡ effect_by heard
  heard_is =
      ap (λ x. memory_handled ops x from m) (sym l.same)
      ∙ ap (λ i. effect_by (heap_told i v.side from m)) (sym l.me)

  pub few_answers : length (memory_handled ops n from m).posted ≤ most_posted
  few_answers =
      subst (λ (x : NodeMemory S). length (memory_handled ops x from m).posted ≤ most_posted) l.same
      (told_few laws v from m l.sound
      (subst (λ (x : NodeMemory S). from < x.coherence.config.nodes) (sym l.same) l.below)
      (subst (λ (x : NodeMemory S). from ≢ x.coherence.me) (sym l.same) l.foreign)
      (subst (λ (x : NodeMemory S). FitsMessage x.coherence.config m) (sym l.same) l.fits))

  told_memory : IsSoundMemory ops (memory_told ops n from m)
  told_memory =
      subst (λ (x : NodeMemory S). IsSoundMemory ops (memory_told ops x from m)) l.same
      (message_memory laws n v l.same l.sound from m l.below l.foreign l.fits)

  -- it is one of the heap that fits a rule
  pub side_is : (fits : Bool) → fits ≡ heard.fits → fits ≡ true
      → memory_handled ops n from m ≡ by_side v heard
  side_is fits same is =
      heard_is ∙ ap (λ b. if b then by_side v heard else by_coherence ops v from m) (sym same ∙ is)

  pub side_memory : (fits : Bool) (new : HeapSide) → fits ≡ heard.fits → fits ≡ true
      → new ≡ heard.after
      → IsSoundMemory ops
      (record {
        coherence = v.coherence;
        asked = v.asked;
        along = v.along;
        number = v.number;
        side = new;
      })
  side_memory fits new same is after =
      subst (λ x. IsSoundMemory ops
      (record {
        coherence = v.coherence;
        asked = v.asked;
        along = v.along;
        number = v.number;
        side = x;
      }))
      (sym after)
      (subst (λ (e : MemoryEffect S). IsSoundMemory ops e.after) (side_is fits same is) told_memory)

  -- it is none
  pub coherence_is : (fits : Bool) → fits ≡ heard.fits → fits ≡ false
      → memory_handled ops n from m ≡ by_coherence ops v from m
  coherence_is fits same is =
      heard_is ∙ ap (λ b. if b then by_side v heard else by_coherence ops v from m) (sym same ∙ is)

  pub coherence_memory : (fits : Bool) → fits ≡ heard.fits → fits ≡ false
      → IsSoundMemory ops (by_coherence ops v from m).after
  coherence_memory fits same is =
      subst (λ (e : MemoryEffect S). IsSoundMemory ops e.after) (coherence_is fits same is)
      told_memory

  -- what the side could not post, the memory could not post
  pub side_posts : (R : List Parcel → Type 0) → (R [] → ⊥) → R heard.posted
      → R (memory_handled ops n from m).posted
  side_posts R none why =
      elim (cases_Bool heard.fits) [
        | inl fits ↦
            subst (λ (e : MemoryEffect S). R e.posted) (sym (side_is true (sym fits) refl)) why
        | inr misfits ↦ absurd (none (subst R (misfit_stays node v.side from m misfits).1 why))
      ]

  -- what it is refused by: the heap does not grow, so that something else is `Unasked`; or the post
  -- refuses
  pub err_posts : {A : Type 0} (r : Result A Fault) (Unasked : Type 0)
      (Refuses : List Parcel → Fault → Type 0) (e : Fault) → ((f : Fault) → Refuses [] f → ⊥)
      → IsErrAnd r (λ x. x ≡ e) → (IsGrowthPosted heard.posted e × Unasked) ⊎ Refuses heard.posted e
      → IfErr r
      (λ f. (IsMessageWant n.coherence (memory_handled ops n from m).posted f × Unasked)
      ⊎ Refuses (memory_handled ops n from m).posted f)
  err_posts r Unasked Refuses e none is why =
      err_there r
      (λ f. (IsMessageWant n.coherence (memory_handled ops n from m).posted f × Unasked)
      ⊎ Refuses (memory_handled ops n from m).posted f) e is
      (elim (side_posts (λ ps. (IsGrowthPosted ps e × Unasked) ⊎ Refuses ps e)
      (λ x. elim x [ inl grows ↦ no_address grows.0.0 | inr refuses ↦ none e refuses ]) why) [
        | inl grows ↦ inl ((inl grows.0.0, grows.0.1), grows.1)
        | inr refuses ↦ inr refuses
      ])

  -- the memory after the coherence had the message, or refused it
  pub left_memory : {A E : Type 0} (fits : Bool) (r : Result A E) (new : Coherent S)
      (side : HeapSide) → fits ≡ heard.fits → fits ≡ false → side ≡ v.side
      → OnOk r (new ≡ (handled ops v.coherence from m).after) → OnErr r (new ≡ v.coherence)
      → IsSoundMemory ops
      (record {
        coherence = new;
        asked = v.asked;
        along = v.along;
        number = v.number;
        side = side;
      })
  left_memory fits r new side same is kept good bad =
      subst (λ x. IsSoundMemory ops
      (record { coherence = new; asked = v.asked; along = v.along; number = v.number; side = x }))
      (sym kept)
      (of_either
      (λ x. IsSoundMemory ops
      (record {
        coherence = x;
        asked = v.asked;
        along = v.along;
        number = v.number;
        side = v.side;
      })) r new _ _
      good bad (coherence_memory fits same is) l.sound)
