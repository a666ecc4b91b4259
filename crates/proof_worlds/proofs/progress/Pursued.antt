-- Whoever has a call in progress that asks for a word of a page waits for that word, or has its
-- answer, unless it awaits a count, or was handed the page to fetch.
use Rattle.std.proofs.Common.{◌≡◌, ℕ, Bool, List, [], ◌∷◌, slice_get, Option, Some, None, true, refl, sym, ap, ◌∙◌, inl, inr, subst}
use Rattle.std.proofs.lemmas.Option.{same_Some, none-some}
use Rattle.std.specs.List.{Contains}
use Rattle.ivy_model.specs.declared.Config.{Config}
use Rattle.ivy_model.specs.declared.Call.{Call}
use Rattle.ivy_model.specs.declared.Record.{Record}
use Rattle.ivy_model.specs.declared.Reply.{Reply}
use Rattle.ivy_model.specs.stated.Config.{IsConfig}
use Rattle.ivy_pagetable.specs.declared.Entry.{Entry}
use Rattle.ivy_pagetable.specs.declared.Out.{Out}
use Rattle.ivy_pagetable.specs.declared.Word.{Word}
use Rattle.ivy_pagetable.specs.declared.Word.TheVariants as word
use Rattle.ivy_pagetable.specs.stated.Entries.{is_locked}
use Rattle.ivy_pagetable.specs.stated.Tables.{entry_at}
use Rattle.ivy_pagetable.specs.stated.Words.{carried_out}
use Rattle.ivy_pagetable.specs.stated.Manager.{Ops}
use Rattle.ivy_pagetable.specs.Manager.{Laws}
use Rattle.ivy_coherence.specs.declared.need.Need.TheVariants as need
use Rattle.ivy_coherence.specs.stated.Coherent.{Coherent}
use Rattle.ivy_coherence.specs.stated.PageFaults.{Begun}
use Rattle.ivy_coherence.specs.stated.Several.{first_out}
use Rattle.ivy_moves.specs.stated.Cores.{Outcome}
use Rattle.ivy_moves.specs.stated.FifoWorld.{FifoWorld, Steps}
use Rattle.ivy_memory.specs.declared.Asked.TheVariants as kinds
use Rattle.ivy_memory.specs.stated.Asking.{asked_of}
use Rattle.ivy_memory.specs.stated.Memories.{answered, needed, reply_of, reply_there, taken_with, taken_out}
use Rattle.ivy_memory.specs.stated.Beside.{Beside, nothing_beside}
use Rattle.ivy_host.specs.stated.Hosts.{Host, host_rules, begins_as, recorded, serving}
use Rattle.ivy_host.specs.stated.Sound.{IsSoundHost}
use Rattle.ivy_host.proofs.Pages.{page_serving}
use Rattle.proof_worlds.specs.stated.Nets.{net_of}
use Rattle.proof_worlds.specs.stated.Unblocked.{IsHanded}
use Rattle.proof_worlds.proofs.refinement.HeapDeliveries.{HeapDelivery, serves, learns}
use Rattle.proof_worlds.proofs.refinement.HostTurns.{number_of, asks, asked_for, made_along, without_call, asked_coherence}
use Rattle.proof_worlds.proofs.refinement.HostTurns.{HostTurn, answers, tries_again, goes_on, refuses, asks_for, serves_heap, asks_heap, carries_fetch}
use Rattle.proof_worlds.proofs.refinement.FetchTurns.{carried-leaves}
use Rattle.proof_worlds.proofs.refinement.LiftedEvents.{Tells, quiet, answers as is_answered, Starts, busy, hits, waits, otherwise}
use Rattle.proof_worlds.proofs.refinement.LiftedHosts.{TurnTells, WorldTells, rested, turned, delivered, heap_delivered, kept-steps}
use Rattle.proof_worlds.proofs.consistency.CopiedRows.{copied-kept}
use Rattle.proof_worlds.proofs.consistency.Faithful.{IsFaithful, set-places}
use Rattle.proof_worlds.proofs.consistency.Owing.{HaveReplies, IsRunning}
use Rattle.proof_worlds.proofs.consistency.CarriedWords.{Copies}
use Rattle.proof_worlds.proofs.progress.FetchedPages.{handled-fetches, handed-on, turn-fetches}
use Rattle.proof_worlds.proofs.progress.Stopped.{IsUnanswered, unanswered}

-- the word is no await
abbrev pub IsPlain : Word → Type 0
IsPlain (word.Await offset least) = ⊥
IsPlain _ = Unit {0}

-- The pages that are fetched were handed. Where no word waits, and the one that waited has no
-- answer, the call in progress asks for no word but an await, or for one of a page that was handed.
pub record IsPursued {S : Type 0} (c : Config) (n : Host S) : Type 0 where
  pub fetched : (p : ℕ) → Contains n.memory.coherence.fetched p → IsHanded n p
  pub pursued : (called : Call) (page : ℕ) (w : Word) → n.memory.asked ≡ Some called
      → asked_of c called ≡ kinds.Word page w → IsPlain w → n.memory.coherence.locked ≡ None
      → reply_there n.memory.coherence.done ≡ None → IsHanded n page

abbrev pub AllPursued : {S : Type 0} → Config → FifoWorld (Host S) → Type 0
AllPursued {S} c o = (i : ℕ) (n : Host S) → slice_get o.cores i ≡ Some n → IsPursued c n

plain_replies : (w : Word) (bytes : List ℕ) → IsPlain w
    → reply_of (carried_out w bytes).out ≡ None → ⊥
plain_replies w bytes plain none =
    (let u : IsUnanswered w bytes = unanswered w bytes none in subst IsPlain u.is plain)

-- a call asks for one word
one_word : (c : Config) (called other : Call) (page q : ℕ) (w v : Word) → other ≡ called
    → asked_of c called ≡ kinds.Word page w → asked_of c other ≡ kinds.Word q v → v ≡ w
one_word c called other page q w v same of that =
    let e : kinds.Word q v ≡ kinds.Word page w = sym that ∙ ap (asked_of c) same ∙ of in
    let i : v ≡ w = cc in i

-- of one page
one_page : (c : Config) (called other : Call) (page q : ℕ) (w v : Word) → other ≡ called
    → asked_of c called ≡ kinds.Word page w → asked_of c other ≡ kinds.Word q v → page ≡ q
one_page c called other page q w v same of that =
    let e : kinds.Word page w ≡ kinds.Word q v = sym of ∙ ap (asked_of c) (sym same) ∙ that in
    let i : page ≡ q = cc in i

-- the second part of it alone
abbrev AsksForNone : {S : Type 0} → Config → Host S → Type 0
AsksForNone c n = (called : Call) (page : ℕ) (w : Word) → n.memory.asked ≡ Some called
    → asked_of c called ≡ kinds.Word page w → IsPlain w → n.memory.coherence.locked ≡ None
    → reply_there n.memory.coherence.done ≡ None → IsHanded n page

module _ {S : Type 0} (ops : Ops S) (c : Config) where
  -- a call whose word was carried out: it has its reply, or is in progress from now on
  hit_pursued : (h : Host S) (called : Call) (page : ℕ) (w : Word) (b : Begun S) (r : Option Reply)
      (out : Outcome (Host S)) → asked_of c called ≡ kinds.Word page w
      → (IsPlain w → r ≡ None → ⊥)
      → begins_as h called (answered h.memory called (number_of h) b r) ≡ Some out
      → AsksForNone c out.after
  hit_pursued h called page w b None out of never is other q v asked that plain free none =
      let same : called ≡ other =
      same_Some called other
      (ap (λ (z : Outcome (Host S)). z.after.memory.asked) (same_Some _ out is) ∙ asked) in
      absurd
      (never (subst IsPlain (one_word c called other page q w v (sym same) of that) plain) refl)
  hit_pursued h called page w b (Some r) out of never is other q v asked that plain free none =
      absurd (none-some other
      (ap (λ (z : Outcome (Host S)). z.after.memory.asked) (same_Some _ out is) ∙ asked))

  -- what is fetched was handed, and an entry that is locked where no word waits is fetched
  begun_pursued : {entries : ℕ → ℕ → Entry} (x page number : ℕ) (f flat : ℕ → List ℕ) (h : Host S) (called : Call)
      (more : Beside) (w : Word)
      (out : Outcome (Host S)) → asked_of c called ≡ kinds.Word page w
      → begins_as h called (asked_for ops h called more page w) ≡ Some out
      → Starts (Copies {S = S} c) entries c x f page w number h.memory.coherence (asks ops h page w).need
      (asks ops h page w).after flat
      → (h.memory.coherence.locked ≡ None
      → is_locked (entry_at h.memory.coherence.table page) ≡ true → IsHanded out.after page)
      → AsksForNone c out.after
  begun_pursued x page number f flat h called more w out of is (busy q lock needs after same) may =
      absurd (none-some out
      (sym (ap
      (λ d. begins_as h called (needed h.memory called more (number_of h) (asks ops h page w) d))
      needs) ∙ is))
  begun_pursued x page number f flat h called more w out of is
      (hits o needs rest locked carries) may =
      hit_pursued h called page w (asks ops h page w) (reply_of o) out of
      (λ plain none. plain_replies w (carries.net.page x page) plain
      (ap reply_of (sym carries.gives) ∙ none))
      (sym (ap
      (λ d. begins_as h called (needed h.memory called more (number_of h) (asks ops h page w) d))
      needs) ∙ is)
  begun_pursued x page number f flat h called more w out of is
      (waits under needs same rest locked there) may =
      λ other q v asked that plain free none.
      absurd (none-some page
      (sym free
      ∙ (asked_coherence ops h called more page w out is).locked ∙ locked))
  begun_pursued x page number f flat h called more w out of is
      (otherwise unlocked lock needs after same) may =
      λ other q v asked that plain free none.
      let now : begins_as h called
      (needed h.memory called more (number_of h) (asks ops h page w) need.Fetched) ≡ Some out =
      sym (ap
      (λ d. begins_as h called (needed h.memory called more (number_of h) (asks ops h page w) d))
      needs) ∙ is in
      let same : called ≡ other =
      same_Some called other
      (ap (λ (z : Outcome (Host S)). z.after.memory.asked) (same_Some _ out now) ∙ asked) in
      subst (λ (p : ℕ). IsHanded out.after p)
      (one_page c called other page q w v (sym same) of that) (may unlocked lock)

  -- the next of the calls made along has its reply
  taken_pursued : (n : Host S) → IsRunning c n → (called : Call) (r : Reply) (calls : List Call)
      (d : Option Out) (outs : List Out) → n.memory.along ≡ calls → n.memory.coherence.done ≡ d
      → n.memory.coherence.done_more ≡ outs
      → AsksForNone c (recorded n (taken_out n.memory) called r)
  taken_pursued n running called r [] d outs along done more other q v asked that plain free none =
      absurd (none-some other (sym (ap (λ ks. (taken_with n.memory ks).asked) along) ∙ asked))
  taken_pursued n running called r (k ∷ ks) None outs along done more other q v asked that plain free
      none =
      let f : k ∷ ks ≡ [] =
      sym along ∙ running.idle
      (sym (ap (λ js. (taken_with n.memory js).coherence.locked) along) ∙ free) done in absurd cc
  taken_pursued n running called r (k ∷ ks) (Some o) outs along done more other q v asked that plain
      free none =
      absurd (elim (running.told o done) [
        | inl alone ↦ (let f : k ∷ ks ≡ [] = sym along ∙ alone in absurd cc)
        | inr h ↦
            next_replies ks outs
            (subst (λ js. HaveReplies js outs) along
            (subst (HaveReplies n.memory.along) more h.1))
            (ap (λ os. reply_there (first_out os)) (sym more)
            ∙ sym (ap (λ js. reply_there (taken_with n.memory js).coherence.done) along) ∙ none)
      ])
    where
      next_replies : (js : List Call) (os : List Out) → HaveReplies (k ∷ js) os
          → reply_there (first_out os) ≡ None → ⊥
      next_replies js [] have gone = have
      next_replies js (p ∷ ps) have gone = none-some have.0.0 (sym gone ∙ have.0.1)

  -- a turn
  module _ (entries : ℕ → ℕ → Entry) (x : ℕ) (f flat : ℕ → List ℕ) (n : Host S)
      (good : IsSoundHost ops c x n) (out : Outcome (Host S)) (running : IsRunning c n)
      (was : IsPursued c n) where
    -- a page at whose entry no word waits is fetched where that is locked
    locked_fetched : (page : ℕ) → n.memory.coherence.locked ≡ None
        → is_locked (entry_at n.memory.coherence.table page) ≡ true → IsHanded n page
    locked_fetched page none lock = elim (good.memory.coherent.others page lock) [
      | inl here ↦ absurd (none-some page (sym none ∙ here))
      | inr among ↦ was.fetched page among
    ]

    turn_asks : (turn : HostTurn ops c n out)
        → TurnTells (Copies {S = S} c) entries c x f n out turn flat → AsksForNone c out.after
    turn_asks (answers called r asked there is) tells =
        subst (λ (z : Outcome (Host S)). AsksForNone c z.after) (sym is)
        (taken_pursued n running called r n.memory.along n.memory.coherence.done
        n.memory.coherence.done_more refl refl refl)
    turn_asks (tries_again called page w asked untold free of inside lies is) tells =
        begun_pursued x page (number_of n) f flat (without_call n) called nothing_beside w out
        (subst (λ d. asked_of d called ≡ kinds.Word page w) good.config of) is tells
        (λ none lock. handed-on ops c n out
        (tries_again called page w asked untold free of inside lies is) page
        (locked_fetched page none lock))
    turn_asks (goes_on s idle step is) tells =
        subst (λ (z : Outcome (Host S)). AsksForNone c z.after) (sym is) was.pursued
    turn_asks (refuses called code idle step refusal is) tells =
        subst (λ (z : Outcome (Host S)). AsksForNone c z.after) (sym is)
        (λ other q v asked that plain free none. absurd (none-some other (sym idle ∙ asked)))
    turn_asks (asks_for called page w idle step of inside lies few is) tells =
        begun_pursued x page (number_of n) f flat n called (made_along n page w) w out
        (subst (λ d. asked_of d called ≡ kinds.Word page w) good.config of) is tells
        (λ none lock. handed-on ops c n out
        (asks_for called page w idle step of inside lies few is) page
        (locked_fetched page none lock))
    turn_asks (serves_heap called k heap idle step of there is) tells =
        subst (λ (z : Outcome (Host S)). AsksForNone c z.after) (sym is)
        (λ other q v asked that plain free none. absurd (none-some other (sym idle ∙ asked)))
    turn_asks (asks_heap called k idle step of away is) tells =
        subst (λ (z : Outcome (Host S)). AsksForNone c z.after) (sym is)
        (λ other q v asked that plain free none.
        (let heap : asked_of c called ≡ kinds.Heap k =
        subst (λ d. asked_of d called ≡ kinds.Heap k) good.config of in
        let e : kinds.Word q v ≡ kinds.Heap k =
        sym that ∙ ap (asked_of c) (sym (same_Some called other asked)) ∙ heap in
        absurd cc))
    turn_asks (carries_fetch fetch next is) tells =
        let left = carried-leaves ops n fetch good.memory.coherent in
        subst (λ (z : Outcome (Host S)). AsksForNone c z.after) (sym is)
        (λ called page w asked of plain free none. was.pursued called page w
        (sym left.asked ∙ asked) of plain (sym left.coherence.locked ∙ free)
        (ap reply_there (sym left.coherence.rest.done) ∙ none))

    turn_pursued : (turn : HostTurn ops c n out)
        → TurnTells (Copies {S = S} c) entries c x f n out turn flat → IsPursued c out.after
    turn_pursued turn tells = record {
      fetched = λ p h. handed-on ops c n out turn p
          (elim (turn-fetches ops c n out good.memory.coherent turn p h) [
            | inl before ↦ was.fetched p before
            | inr handed ↦ handed
          ]);
      pursued = turn_asks turn tells;
    }

  -- a message about a page
  told_pursued : {entries : ℕ → ℕ → Entry} (x : ℕ) (f flat : ℕ → List ℕ) (n : Host S) (k : Coherent S) → IsRunning c n
      → Tells (Copies {S = S} c) entries c x f n.memory.coherence k flat → IsPursued c n
      → AsksForNone c (record n { memory = record n.memory { coherence = k } })
  told_pursued x f flat n k running (quiet same rest locked waiting) was called page w asked of
      plain free none =
      was.pursued called page w asked of plain (sym locked ∙ free)
      (ap reply_there (sym rest.done) ∙ none)
  told_pursued x f flat n k running (is_answered page w number out lock there free alone done carries)
      was
      called q v asked of plain unlocked none =
      absurd (plain_replies w (carries.1.net.page x page)
      (subst IsPlain
      (one_word c called called page q w v refl
      (running.waits called page w number asked lock there) of) plain)
      (ap reply_of (sym carries.1.gives) ∙ ap reply_there (sym done) ∙ none))

module _ {S : Type 0} {sends : Bool} (ops : Ops S) (laws : Laws ops) (c : Config)
    (config : IsConfig c) (o o' : FifoWorld (Host S)) (order : List Record)
    (f : IsFaithful sends ops c o order)
    (was : AllPursued c o) where
  heap_pursued : (source x : ℕ) (t : _) (core : Host S) → slice_get o.cores x ≡ Some core
      → HeapDelivery ops o source x core t → IsPursued c (serving ops core source t).after
  heap_pursued source x t core there
      (serves home away asker at k number asked before back message heap has does) =
      subst (λ (z : Outcome (Host S)). IsPursued c z.after) (sym does) (record {
        fetched = (was x core there).fetched;
        pursued = (was x core there).pursued;
      })
  heap_pursued source x t core there (learns away from k number r asked before reply does) =
      subst (λ (z : Outcome (Host S)). IsPursued c z.after) (sym does) (record {
        fetched = (was x core there).fetched;
        pursued = (was x core there).pursued;
      })

  tells_pursued : (flat : ℕ → List ℕ) → WorldTells ops (Copies {S = S} c) c f.pages o o' flat
      → AllPursued c o'
  tells_pursued flat (rested same tells) j n there =
      was j n (ap (λ (w : FifoWorld (Host S)). slice_get w.cores j) (sym same) ∙ there)
  tells_pursued flat (turned x t turn tells) j n there =
      elim (set-places o.cores x j t.outcome.after n
      (ap (λ l. slice_get l j) (sym t.cores) ∙ there)) [
        | inl here ↦
            subst (IsPursued c) (sym here.1)
            (turn_pursued ops c (net_of o).entry x f.pages flat t.core
            (f.sound.sound x t.core t.there) t.outcome (f.running x t.core t.there)
            (was x t.core t.there) turn tells)
        | inr other ↦ was j n other.1
      ]
  tells_pursued flat (delivered source x t about tells) j n there =
      elim (set-places o.cores x j ((host_rules ops).serve t.core source t.message).after n
      (ap (λ l. slice_get l j) (sym t.cores) ∙ there)) [
        | inl here ↦
            subst (IsPursued c) (sym here.1)
            (subst (λ (z : Outcome (Host S)). IsPursued c z.after)
            (sym (page_serving ops t.core source t.message about))
            (record {
              fetched = λ p h. (was x t.core t.there).fetched p
                  (handled-fetches ops t.core.memory.coherence source t.message p h);
              pursued =
                  told_pursued ops c x f.pages flat t.core _ (f.running x t.core t.there) tells
                  (was x t.core t.there);
            }))
        | inr other ↦ was j n other.1
      ]
  tells_pursued flat (heap_delivered source x t delivery same) j n there =
      elim (set-places o.cores x j ((host_rules ops).serve t.core source t.message).after n
      (ap (λ l. slice_get l j) (sym t.cores) ∙ there)) [
        | inl here ↦
            subst (IsPursued c) (sym here.1)
            (heap_pursued source x t.message t.core t.there delivery)
        | inr other ↦ was j n other.1
      ]

  -- each step of the FIFO world keeps it
  pub pursued_next : Steps (host_rules ops) o o' → AllPursued c o'
  pursued_next step =
      let all =
      kept-steps {P = Copies {S = S} c} laws c (copied-kept ops c config) (ops.first c 0) o o'
      f.pages f.sound (f.orderly, f.copied) step in
      tells_pursued all.0 all.2
