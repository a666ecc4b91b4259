-- What the events of a node add to the order of all records, but for a message of the heap. For
-- every manager.
use Rattle.std.proofs.Common.{◌≡◌, ◌⊎◌, ◌<◌, ℕ, ◌+◌, List, [], ◌∷◌, ◌++◌, length, Option, Some, None, refl, ap, sym, ◌∙◌, subst, inl, inr, true}
use Rattle.std.proofs.lemmas.List.{append-nil}
use Rattle.std.proofs.lemmas.List.Elements.{All-nil, All-append}
use Rattle.std.proofs.lemmas.Option.{same_Some, none-some}
use Rattle.ivy_model.specs.declared.Config.{Config}
use Rattle.ivy_model.specs.declared.Call.{Call}
use Rattle.ivy_model.specs.declared.Record.{Record}
use Rattle.ivy_model.specs.declared.Reply.{Reply}
use Rattle.ivy_model.specs.stated.Config.{IsConfig}
use Rattle.ivy_model.specs.Memory.{IsSized, flat_page}
use Rattle.ivy_model.specs.stated.Memory as model
use Rattle.ivy_model.specs.stated.Serves.{Serves}
use Rattle.ivy_model.specs.stated.Legal.{HasWidth, ServesAll}
use Rattle.ivy_model.specs.stated.Explains.{part}
use Rattle.ivy_model.proofs.OrderParts.{part-append, leads-append}
use Rattle.ivy_model.proofs.Sizes.{leads_sized}
use Rattle.ivy_wire.specs.stated.Data.{Message}
use Rattle.ivy_pagetable.specs.declared.Entry.{Entry}
use Rattle.ivy_pagetable.specs.declared.Entry.TheVariants as entry
use Rattle.ivy_pagetable.specs.declared.Out.{Out}
use Rattle.ivy_pagetable.specs.declared.Word.{Word}
use Rattle.ivy_pagetable.specs.stated.Tables.{entry_at}
use Rattle.ivy_pagetable.specs.stated.Manager.{Ops}
use Rattle.ivy_coherence.specs.stated.Coherent.{Coherent}
use Rattle.ivy_coherence.specs.stated.MessageSteps.{handled}
use Rattle.ivy_coherence.specs.stated.PageFaults.{Begun, along}
use Rattle.ivy_coherence.proofs.keeping.Same.{handled-same}
use Rattle.ivy_program.specs.stated.States.{State, first_state}
use Rattle.ivy_program.specs.stated.InstructionSteps.{Local, Asks, step_of, at_state, AsksRow}
use Rattle.ivy_program.proofs.running.Running.{runs_on, runs_answered, asked_legal}
use Rattle.ivy_moves.specs.stated.Cores.{Outcome}
use Rattle.ivy_moves.specs.stated.Explained.{StandTogether}
use Rattle.ivy_memory.specs.declared.Asked.TheVariants as kinds
use Rattle.ivy_memory.specs.stated.Asking.{asked_of}
use Rattle.ivy_alloc.specs.declared.HeapCall.{HeapCall}
use Rattle.ivy_alloc.specs.declared.HeapRequest.{HeapRequest}
use Rattle.ivy_alloc.specs.declared.HeapRequest.TheVariants as heap_request
use Rattle.ivy_alloc.specs.stated.HeapCalls.{HeapSide, reply_told}
use Rattle.ivy_memory.specs.stated.Memories.{NodeMemory, first_reply, reply_of, reply_there, reply_at, taken_out, answered, needed}
use Rattle.ivy_memory.specs.stated.Beside.{Beside, gives_reply}
use Rattle.ivy_host.specs.stated.Hosts.{Host, number_of, recorded, begins_as, serving}
use Rattle.ivy_memory.proofs.serving.Pages.{is_of_pages, no_heap_request_of}
use Rattle.ivy_host.proofs.Pages.{page_serving}
use Rattle.ivy_host.specs.stated.Sound.{IsSoundHost}
use Rattle.proof_worlds.proofs.refinement.LiftedEvents.{WaitsAt, CarriesAll, SameRest, Tells, quiet, answers as is_answered, Starts, busy, hits, waits, otherwise}
use Rattle.proof_worlds.proofs.refinement.HostTurns.{asks as access, taken-heap_request}
use Rattle.proof_worlds.proofs.consistency.Beside.{along-kept, along-more}
use Rattle.ivy_memory.specs.Flat.{Answers}
use Rattle.proof_worlds.proofs.consistency.CarriedWords.{Copies, Came, came, CameAll, came_all, have-replies}
use Rattle.proof_worlds.specs.consistency.Alone.{IsAlone, AreAlone}
use Rattle.proof_worlds.proofs.consistency.Alone.{carries_alone, owed_alone, along_alone}
use Rattle.proof_worlds.proofs.consistency.Owing.{owed, reply_owed, pending, told-owed, owed-unasked}
use Rattle.proof_worlds.proofs.consistency.Owing.{owed-untold, owed-leads, owed-own, owed-other}
use Rattle.proof_worlds.proofs.consistency.Owing.{owed_then, owed_along, along_owed, then-alone, then-untold, none_pending, along-own, along-other, reply-given, IsReply, HaveReplies, AreWordsOf, taken_history, taken-pending, taken-running}
use Rattle.proof_worlds.proofs.consistency.Owing.{served_history, owing_history, IsWordOf, IsRunning, GoOn}
use Rattle.proof_worlds.proofs.consistency.Owing.{blocks_stay, Adds}
use Rattle.proof_worlds.proofs.consistency.Adjacent.{none_together, added_together, grown_together, later_together}

-- a program's calls are legal
asked_width : {S : Type 0} (n : Host S) (called : Call) → step_of n.process ≡ Asks called
    → HasWidth called
asked_width n called step = asked_legal n.process.program n.process.state called step

-- one word waits at an entry
one_word : (e : Entry) (w v : Word) (j k : ℕ) → WaitsAt e w j → WaitsAt e v k → w ≡ v
one_word (entry.Idle s) w v j k a b = absurd a
one_word (entry.AwaitRead s) w v j k a b = sym a.0 ∙ b.0
one_word (entry.AwaitWrite s) w v j k a b = sym a.0 ∙ b.0
one_word (entry.AwaitAcks s) w v j k a b = sym a.0 ∙ b.0

module _ {S : Type 0} (ops : Ops S) (c : Config) (config : IsConfig c) (was : ℕ → ℕ → Entry) (x : ℕ)
    (mem : model.Memory) (sized : IsSized c mem) (f : ℕ → List ℕ)
    (shows : (p : ℕ) → p < c.pages → f p ≡ flat_page c mem p)
    (n : Host S) (good : IsSoundHost ops c x n) (running : IsRunning c n) (ms : List Message) where
  here : number_of n < c.nodes
  here = subst (λ k. number_of n < k.nodes) good.config good.memory.coherent.here

  pub same_pages : (flat : ℕ → List ℕ) → flat ≡ f → (p : ℕ) → p < c.pages → flat p ≡ flat_page c mem p
  same_pages flat same p inside = ap (λ g. g p) same ∙ shows p inside

  -- node 0 was asked for nothing where no call is in progress, where that is one of a word, and
  -- where a word waits
  no_heap_request : ((called : Call) → n.memory.asked ≡ Some called → (k : HeapCall)
      → asked_of n.memory.coherence.config called ≡ kinds.Heap k → ⊥) → n.memory.side.heap_request ≡ None
  no_heap_request words =
      no_heap_request_of n.memory.coherence.config n.memory.asked n.memory.side.heap_request words
      good.memory.side.heap_request

  pub idle_heap_request : n.memory.asked ≡ None → n.memory.side.heap_request ≡ None
  idle_heap_request idle = no_heap_request (λ called is. absurd (none-some called (sym idle ∙ is)))

  pub word_heap_request : (called : Call) (page : ℕ) (word : Word) → n.memory.asked ≡ Some called
      → asked_of n.memory.coherence.config called ≡ kinds.Word page word
      → n.memory.side.heap_request ≡ None
  word_heap_request called page word asked of =
      no_heap_request
      (λ other is k heap.
      (let e : kinds.Word page word ≡ kinds.Heap k =
      sym of ∙ ap (asked_of n.memory.coherence.config) (same_Some called other (sym asked ∙ is))
      ∙ heap in absurd cc))

  locked_heap_request : (page : ℕ) → n.memory.coherence.locked ≡ Some page → n.memory.side.heap_request ≡ None
  locked_heap_request page lock = at n.memory.side.heap_request refl
    where
      at : (e : Option HeapRequest) → n.memory.side.heap_request ≡ e → n.memory.side.heap_request ≡ None
      at None is = is
      at (Some y) is = absurd (none-some page (sym (good.memory.apart y is).0 ∙ lock))

  -- then a reply is that of a word
  word_owed : (d : Option Out) → n.memory.side.heap_request ≡ None
      → reply_owed n.memory.side.heap_request ms d ≡ reply_there d
  word_owed d none = ap (λ e. reply_owed e ms d) none

  -- without a call in progress none is owed
  idle_pending : n.memory.asked ≡ None → pending n ms ≡ []
  idle_pending idle =
      none_pending _ (along_owed n)
      (owed-unasked (number_of n) n.memory.asked
      (reply_owed n.memory.side.heap_request ms n.memory.coherence.done) idle)
      (then-alone (number_of n) n.memory.along n.memory.coherence.done n.memory.coherence.done_more
      (good.memory.alone idle))

  -- nothing is added, and what is owed was all so before
  silent : (n' : Host S) (flat : ℕ → List ℕ) → flat ≡ f
      → n'.history ++ pending n' ms ≡ n.history ++ pending n ms
      → (taken : List Record) → pending n ms ≡ taken ++ pending n' ms → IsRunning c n'
      → n'.process.program ≡ n.process.program → n'.memory.side.heap ≡ n.memory.side.heap
      → Adds c was mem x n n' ms flat
  silent n' flat same history taken owes now program heap = record {
    more = [];
    new = mem;
    legal = refl;
    shows = same_pages flat same;
    own = refl;
    other = λ j ne. refl;
    alone = All-nil (λ (r : Record). IsAlone c was r.node r.call);
    history = history ∙ sym (append-nil (n.history ++ pending n ms));
    together = λ order s. grown_together (pending n' ms) order []
        (later_together taken (pending n' ms) order (subst (λ xs. StandTogether xs order) owes s));
    running = now;
    program = program;
    blocks = blocks_stay refl heap;
  }

  -- a call is answered, or waits on, and nothing is owed
  owing : (n' : Host S) (flat : ℕ → List ℕ) (called : Call) (o : Option Reply) (new : model.Memory)
      → HasWidth called → Answers c mem called o new
      → ((p : ℕ) → p < c.pages → flat p ≡ flat_page c new p)
      → AreAlone c was (owed (number_of n) (Some called) o)
      → n'.history ++ pending n' ms
      ≡ (n.history ++ pending n ms) ++ owed (number_of n) (Some called) o → pending n' ms ≡ []
      → IsRunning c n' → n'.process.program ≡ n.process.program
      → GoOn mem.blocks n.memory.side.heap n'.memory.side.heap new.blocks
      → Adds c was mem x n n' ms flat
  owing n' flat called o new legal given pages alone history none now program blocks = record {
    more = owed (number_of n) (Some called) o;
    new = new;
    legal = owed-leads c mem new (number_of n) called o here legal given;
    shows = pages;
    own = owed-own (number_of n) x called o good.me;
    other = λ j ne. owed-other (number_of n) x j called o good.me ne;
    alone = alone;
    history = history;
    together = λ order s. subst (λ xs. StandTogether xs (order ++ owed (number_of n) (Some called) o))
        (sym none) (none_together (order ++ owed (number_of n) (Some called) o));
    running = now;
    program = program;
    blocks = blocks;
  }

  -- where the reply is there no word waits
  replied_free : (r : Reply) (e : Option HeapRequest) (d : Option Out) → n.memory.side.heap_request ≡ e
      → n.memory.coherence.done ≡ d → first_reply (reply_told e) (reply_there d) ≡ Some r
      → n.memory.coherence.locked ≡ None
  replied_free r (Some e) d is done there = (good.memory.apart e is).0
  replied_free r None (Some o) is done there = good.memory.answered o done
  replied_free r None None is done there = absurd (none-some r there)

  -- the reply of the call in progress is recorded
  pub records_reply : (called : Call) (r : Reply) → n.memory.asked ≡ Some called
      → reply_at n.memory ≡ Some r → (flat : ℕ → List ℕ) → flat ≡ f
      → Adds c was mem x n (recorded n (taken_out n.memory) called r) ms flat
  records_reply called r asked there flat same =
      let given : Record = record { node = number_of n; call = called; reply = r } in
      let free : n.memory.coherence.locked ≡ None =
      replied_free r n.memory.side.heap_request n.memory.coherence.done refl refl there in
      let now : Host S = recorded n (taken_out n.memory) called r in
      let owes : pending n ms ≡ (given ∷ []) ++ along_owed n =
      ap (λ xs. xs ++ along_owed n)
      (ap (λ a. owed (number_of n) a (reply_owed n.memory.side.heap_request ms n.memory.coherence.done))
      asked
      ∙ ap (owed (number_of n) (Some called))
      (told-owed n.memory.side.heap_request ms n.memory.coherence.done r
      (λ y is. (good.memory.apart y is).1) there)) in
      let rest : pending now ms ≡ along_owed n =
      taken-pending n ms called r n.memory.along n.memory.coherence.done
      n.memory.coherence.done_more refl refl refl (running.idle free) in
      silent now flat same
      (taken_history n.history (pending n ms) (pending now ms) (along_owed n) given owes rest)
      (given ∷ []) (owes ∙ ap (λ xs. (given ∷ []) ++ xs) (sym rest))
      (taken-running n c called r
      (runs_answered n.process.program n.history first_state n.process.state given
      running.run (running.makes called asked).0)
      n.memory.along n.memory.coherence.done n.memory.coherence.done_more refl refl refl free
      ((running.makes called asked).1 r) (running.idle free) running.told)
      refl
      (ap (λ (z : HeapSide). z.heap) (taken-heap_request n.memory n.memory.along))

  -- the program goes on by itself
  pub goes_alone : (s : State) → n.memory.asked ≡ None → step_of n.process ≡ Local s
      → (flat : ℕ → List ℕ) → flat ≡ f
      → Adds c was mem x n (record n { process = at_state n.process s }) ms flat
  goes_alone s idle step flat same =
      silent (record n { process = at_state n.process s }) flat same refl [] refl
      (record {
        run = runs_on n.process.program n.history first_state n.process.state s running.run step;
        makes = λ other is. absurd (none-some other (sym idle ∙ is));
        waits = λ other page word number is. absurd (none-some other (sym idle ∙ is));
        waits_along = running.waits_along;
        prompt = running.prompt;
        idle = running.idle;
        told = running.told;
      })
      refl
      refl

  -- a call is answered at once: its record is the node's, and stands in the order
  pub records_call : (m : NodeMemory S) (called : Call) (r : Reply) (new : model.Memory)
      → n.memory.asked ≡ None → step_of n.process ≡ Asks called → m.asked ≡ None → m.along ≡ []
      → m.coherence.locked ≡ None → Serves c mem called r new → (flat : ℕ → List ℕ)
      → ((p : ℕ) → p < c.pages → flat p ≡ flat_page c new p) → IsAlone c was (number_of n) called
      → GoOn mem.blocks n.memory.side.heap m.side.heap new.blocks
      → Adds c was mem x n (recorded n m called r) ms flat
  records_call m called r new idle step free alone unlocked serves flat pages has blocks =
      let given : Record = record { node = number_of n; call = called; reply = r } in
      let none : pending (recorded n m called r) ms ≡ [] =
      none_pending (owed m.coherence.me m.asked (reply_owed m.side.heap_request ms m.coherence.done)) _
      (owed-unasked m.coherence.me m.asked (reply_owed m.side.heap_request ms m.coherence.done) free)
      (then-alone m.coherence.me m.along m.coherence.done m.coherence.done_more alone) in
      owing (recorded n m called r) flat called (Some r) new (asked_width n called step) serves
      pages (owed_alone c was (number_of n) called (Some r) has)
      (served_history n.history (pending n ms) (pending (recorded n m called r) ms) given
      (idle_pending idle) none)
      none
      (record {
        run = runs_answered n.process.program n.history first_state n.process.state given
            running.run step;
        makes = λ other is. absurd (none-some other (sym free ∙ is));
        waits = λ other page word number is. absurd (none-some other (sym free ∙ is));
        waits_along = λ page lock. absurd (none-some page (sym unlocked ∙ lock));
        prompt = λ page word number lock. absurd (none-some page (sym unlocked ∙ lock));
        idle = λ lock done. alone;
        told = λ o done. inl alone;
      })
      refl
      blocks

  -- a call is in progress from now on, with these made along, and has no reply yet
  call_waits : (k : Coherent S) (called : Call) (calls : List Call) (flat : ℕ → List ℕ)
      → n.memory.asked ≡ None → AsksRow n.process (called ∷ calls)
      → k.done ≡ n.memory.coherence.done
      → ((p : ℕ) → p < c.pages → flat p ≡ flat_page c mem p)
      → ((page : ℕ) (word : Word) (number : ℕ) → k.locked ≡ Some page
      → WaitsAt (entry_at k.table page) word number → IsWordOf c called page word
      × ((calls ≡ []) ⊎ (gives_reply word ≡ true)))
      → ((page : ℕ) → k.locked ≡ Some page → AreWordsOf c page calls k.more)
      → (k.locked ≡ None → calls ≡ [])
      → Adds c was mem x n
      (record n {
        memory =
            record n.memory {
              coherence = k;
              asked = Some called;
              along = calls;
              number = length n.history + 1;
            };
      })
      ms flat
  call_waits k called calls flat idle asks done pages waiting beside alone =
      let now : k.done ≡ None = done ∙ good.memory.done idle in
      let untold : reply_owed n.memory.side.heap_request ms k.done ≡ None =
      word_owed k.done (idle_heap_request idle) ∙ ap reply_there now in
      let none : owed k.me (Some called) (reply_owed n.memory.side.heap_request ms k.done)
      ++ owed_then k.me calls k.done k.done_more ≡ [] =
      none_pending _ _
      (owed-untold k.me (Some called) (reply_owed n.memory.side.heap_request ms k.done) untold)
      (then-untold k.me calls k.done k.done_more now) in
      owing (record n {
        memory =
            record n.memory {
              coherence = k;
              asked = Some called;
              along = calls;
              number = length n.history + 1;
            };
      })
      flat called None mem (asked_width n called asks.0) refl pages
      (All-nil (λ (r : Record). IsAlone c was r.node r.call))
      (ap (λ xs. n.history ++ xs) none ∙ owing_history n.history (pending n ms) [] (idle_pending idle))
      none
      (record {
        run = running.run;
        makes = λ other is.
            subst (λ j. AsksRow n.process (j ∷ calls)) (same_Some called other is) asks;
        waits = λ other page word number is lock there. subst (λ d. IsWordOf c d page word)
            (same_Some called other is) (waiting page word number lock there).0;
        waits_along = beside;
        prompt = λ page word number lock there. (waiting page word number lock there).1;
        idle = λ lock d. alone lock;
        told = λ o is. absurd (none-some o (sym now ∙ is));
      })
      refl
      (blocks_stay refl refl)

  -- node 0 is asked for a call of the heap
  pub heap_request_waits : (called : Call) (k : HeapCall) (number : ℕ) (flat : ℕ → List ℕ) → flat ≡ f
      → n.memory.asked ≡ None → step_of n.process ≡ Asks called → ms ≡ []
      → Adds c was mem x n
      (record n {
        memory =
            record n.memory {
              asked = Some called;
              along = [];
              number = number;
              side = record n.memory.side { heap_request = Some (heap_request.Asked k number) };
            };
      }) ms flat
  heap_request_waits called k number flat same idle step none =
      let untold : reply_owed (Some (heap_request.Asked k number)) ms n.memory.coherence.done ≡ None
      = ap (λ (l : List Message). reply_owed (Some (heap_request.Asked k number)) l
      n.memory.coherence.done) none ∙ ap reply_there (good.memory.done idle) in
      let unowed : owed (number_of n) (Some called)
      (reply_owed (Some (heap_request.Asked k number)) ms n.memory.coherence.done)
      ++ owed_then (number_of n) [] n.memory.coherence.done n.memory.coherence.done_more ≡ [] =
      none_pending _ _
      (owed-untold (number_of n) (Some called)
      (reply_owed (Some (heap_request.Asked k number)) ms n.memory.coherence.done) untold)
      (then-alone (number_of n) [] n.memory.coherence.done n.memory.coherence.done_more refl) in
      owing (record n {
        memory =
            record n.memory {
              asked = Some called;
              along = [];
              number = number;
              side = record n.memory.side { heap_request = Some (heap_request.Asked k number) };
            };
      }) flat called
      None mem (asked_width n called step) refl (same_pages flat same)
      (All-nil (λ (r : Record). IsAlone c was r.node r.call))
      (ap (λ xs. n.history ++ xs) unowed
      ∙ owing_history n.history (pending n ms) [] (idle_pending idle))
      unowed
      (record {
        run = running.run;
        makes = λ other is. (step ∙ ap Asks (same_Some called other is), λ r. tt);
        waits = λ other page word j is lock there. absurd
            (none-some page (sym (good.memory.locked idle) ∙ lock));
        waits_along = λ page lock. absurd (none-some page (sym (good.memory.locked idle) ∙ lock));
        prompt = λ page word j lock there. inl refl;
        idle = λ lock done. refl;
        told = λ o done. inl refl;
      })
      refl
      (blocks_stay refl refl)

  module _ (called : Call) (page : ℕ) (word : Word) (idle : n.memory.asked ≡ None)
      (step : step_of n.process ≡ Asks called) (of : IsWordOf c called page word) where
    abbrev begun_now : Begun S
    begun_now = access ops n page word

    -- a word that is carried out at once gives the call's reply, or none yet
    hit_adds : (e : Outcome (Host S)) (flat : ℕ → List ℕ) (o : Option Reply) (new : model.Memory)
        → begun_now.after.done ≡ n.memory.coherence.done
        → begun_now.after.locked ≡ n.memory.coherence.locked
        → Answers c mem called o new → ((p : ℕ) → p < c.pages → flat p ≡ flat_page c new p)
        → new.blocks ≡ mem.blocks → IsAlone c was (number_of n) called
        → begins_as n called (answered n.memory called (length n.history + 1) begun_now o) ≡ Some e
        → Adds c was mem x n e.after ms flat
    hit_adds e flat None new done locked given pages blocks alone is =
        subst (λ (z : Outcome (Host S)). Adds c was mem x n z.after ms flat)
        (same_Some
        (record {
          after =
              record n {
                memory =
                    record n.memory {
                      coherence = begun_now.after;
                      asked = Some called;
                      along = [];
                      number = length n.history + 1;
                    };
              };
          posted = begun_now.posted;
        }) e is)
        (call_waits begun_now.after called [] flat idle (step, λ r. tt) done
        (λ p inside. pages p inside ∙ ap (λ m. flat_page c m p) given)
        (λ q w number lock there. absurd
        (none-some q (sym (good.memory.locked idle) ∙ sym locked ∙ lock)))
        (λ q lock. absurd (none-some q (sym (good.memory.locked idle) ∙ sym locked ∙ lock)))
        (λ lock. refl))
    hit_adds e flat (Some r) new done locked given pages blocks alone is =
        subst (λ (z : Outcome (Host S)). Adds c was mem x n z.after ms flat)
        (same_Some
        (record {
          after =
              recorded n (record n.memory { coherence = begun_now.after; asked = None; along = [] })
              called r;
          posted = begun_now.posted;
        }) e is)
        (records_call (record n.memory { coherence = begun_now.after; asked = None; along = [] })
        called r new
        idle step refl refl (locked ∙ good.memory.locked idle) given flat pages alone
        (blocks_stay blocks refl))

    pub starts_adds : (more : Beside) → AsksRow n.process (called ∷ more.calls)
        → AreWordsOf c page more.calls more.words → (more.calls ≡ []) ⊎ (gives_reply word ≡ true)
        → (e : Outcome (Host S)) (flat : ℕ → List ℕ) (number : ℕ)
        → begins_as n called
        (needed n.memory called more (length n.history + 1) begun_now begun_now.need) ≡ Some e
        → Starts (Copies {S = S} c) was c x f page word number n.memory.coherence begun_now.need
        begun_now.after flat → Adds c was mem x n e.after ms flat
    starts_adds more asks are prompt e flat number is (busy q lock needs after same) =
        absurd (none-some q (sym (good.memory.locked idle) ∙ lock))
    starts_adds more asks are prompt e flat number is (hits out needs rest locked carries) =
        let k : Came c mem called out flat =
        came c config x mem sized f shows page word out flat called (asked_width n called step) of
        carries in
        hit_adds e flat (reply_of out) k.new rest.done locked k.gives k.shows k.blocks
        (carries_alone c was (number_of n) called good.me of carries)
        (sym (ap
        (λ d. begins_as n called (needed n.memory called more (length n.history + 1) begun_now d))
        needs) ∙ is)
    starts_adds more asks are prompt e flat number is (waits under needs same rest locked there) =
        let k : Coherent S = along more.words begun_now.after in
        let kept = along-kept more.words begun_now.after in
        subst (λ (z : Outcome (Host S)). Adds c was mem x n z.after ms flat)
        (same_Some
        (record {
          after =
              record n {
                memory =
                    record n.memory {
                      coherence = k;
                      asked = Some called;
                      along = more.calls;
                      number = length n.history + 1;
                    };
              };
          posted = begun_now.posted;
        }) e
        (sym (ap
        (λ d. begins_as n called (needed n.memory called more (length n.history + 1) begun_now d))
        needs) ∙ is))
        (call_waits k called more.calls flat idle asks (kept.done ∙ rest.done) (same_pages flat same)
        (λ q w j lock waiting. (
        let at : page ≡ q = same_Some page q (sym locked ∙ sym kept.locked ∙ lock) in
        let one : word ≡ w =
        one_word (entry_at begun_now.after.table page) word w under j there
        (subst (λ r. WaitsAt (entry_at begun_now.after.table r) w j) (sym at)
        (subst (λ t. WaitsAt (entry_at t q) w j) kept.table waiting)) in (
          subst (λ r. IsWordOf c called r w) at (subst (IsWordOf c called page) one of),
          subst (λ v. (more.calls ≡ []) ⊎ (gives_reply v ≡ true)) one prompt,
        )
        ))
        (λ q lock.
        subst (λ r. AreWordsOf c r more.calls k.more)
        (same_Some page q (sym locked ∙ sym kept.locked ∙ lock))
        (subst (AreWordsOf c page more.calls)
        (sym (along-more more.words begun_now.after
        (rest.more ∙ good.memory.coherent.alone (good.memory.locked idle)))) are))
        (λ free. absurd (none-some page (sym free ∙ kept.locked ∙ locked))))
    starts_adds more asks are prompt e flat number is (otherwise free lock needs after same) =
        let locked : begun_now.after.locked ≡ n.memory.coherence.locked =
        ap (λ (z : Coherent S). z.locked) after in
        subst (λ (z : Outcome (Host S)). Adds c was mem x n z.after ms flat)
        (same_Some
        (record {
          after =
              record n {
                memory =
                    record n.memory {
                      coherence = begun_now.after;
                      asked = Some called;
                      along = [];
                      number = length n.history + 1;
                    };
              };
          posted = begun_now.posted;
        }) e
        (sym (ap
        (λ d. begins_as n called (needed n.memory called more (length n.history + 1) begun_now d))
        needs) ∙ is))
        (call_waits begun_now.after called [] flat idle (step, λ r. tt)
        (ap (λ (z : Coherent S). z.done) after) (same_pages flat same)
        (λ q w j at there. absurd
        (none-some q (sym (good.memory.locked idle) ∙ sym locked ∙ at)))
        (λ q at. absurd (none-some q (sym (good.memory.locked idle) ∙ sym locked ∙ at)))
        (λ at. refl))

  -- the node's coherence is this one then, and the call in progress waits for what it waited for
  pub quiet_adds : (told : Coherent S) (used : ℕ) (flat : ℕ → List ℕ) → flat ≡ f
      → told.me ≡ number_of n → SameRest n.memory.coherence told
      → told.locked ≡ n.memory.coherence.locked
      → ((q : ℕ) (word : Word) (number : ℕ) → n.memory.coherence.locked ≡ Some q
      → WaitsAt (entry_at told.table q) word number
      → WaitsAt (entry_at n.memory.coherence.table q) word number)
      → Adds c was mem x n
      (record n { memory = record n.memory { coherence = told }; used = used }) ms flat
  quiet_adds told used flat same same_me rest locked waiting =
      let now : Host S =
      record n { memory = record n.memory { coherence = told }; used = used } in
      let still : pending now ms ≡ pending n ms
      = ap (λ me. owed me n.memory.asked (reply_owed n.memory.side.heap_request ms told.done)
      ++ owed_then me n.memory.along told.done told.done_more) same_me
      ∙ ap (λ d. owed (number_of n) n.memory.asked (reply_owed n.memory.side.heap_request ms d)
      ++ owed_then (number_of n) n.memory.along d told.done_more) rest.done
      ∙ ap (λ os. owed (number_of n) n.memory.asked
      (reply_owed n.memory.side.heap_request ms n.memory.coherence.done)
      ++ owed_then (number_of n) n.memory.along n.memory.coherence.done os) rest.done_more in
      silent now flat same (ap (λ xs. n.history ++ xs) still) [] (sym still)
      (record {
        run = running.run;
        makes = running.makes;
        waits = λ called page word number asked lock there. running.waits called page word number
            asked (sym locked ∙ lock) (waiting page word number (sym locked ∙ lock) there);
        waits_along = λ page lock.
            subst (AreWordsOf c page n.memory.along) (sym rest.more)
            (running.waits_along page (sym locked ∙ lock));
        prompt = λ page word number lock there. running.prompt page word number
            (sym locked ∙ lock) (waiting page word number (sym locked ∙ lock) there);
        idle = λ lock done. running.idle (sym locked ∙ lock) (sym rest.done ∙ done);
        told = λ o done.
            subst (λ os. (n.memory.along ≡ []) ⊎ (IsReply o × HaveReplies n.memory.along os))
            (sym rest.done_more) (running.told o (sym rest.done ∙ done));
      })
      refl
      refl

  -- a message
  module _ (source : ℕ) (m : Message) where
    abbrev told : Coherent S
    told = (handled ops n.memory.coherence source m).after

    abbrev told_host : Host S
    told_host = record n { memory = record n.memory { coherence = told } }

    same_me : told.me ≡ number_of n
    same_me = (handled-same ops n.memory.coherence source m).me

    -- the word that waited is carried out, and those that waited along
    answer_adds : (flat : ℕ → List ℕ) (page : ℕ) (word : Word) (number : ℕ) (out : Out)
        (a : Option Call) → n.memory.asked ≡ a → n.memory.coherence.locked ≡ Some page
        → WaitsAt (entry_at n.memory.coherence.table page) word number → told.locked ≡ None
        → told.done ≡ Some out
        → CarriesAll (Copies {S = S} c) was c x f page (word ∷ n.memory.coherence.more)
        (out ∷ told.done_more) flat
        → Adds c was mem x n told_host ms flat
    answer_adds flat page word number out None idle lock there free done carries =
        absurd (none-some page (sym (good.memory.locked idle) ∙ lock))
    answer_adds flat page word number out (Some called) asked lock there free done carries =
        let makes = running.makes called asked in
        let wide : HasWidth called = asked_width n called makes.0 in
        let k : Came c mem called out carries.0 =
        came c config x mem sized f shows page word out carries.0 called wide
        (running.waits called page word number asked lock there) carries.1 in
        let first : List Record = owed (number_of n) (Some called) (reply_of out) in
        let legal : ServesAll c mem first k.new =
        owed-leads c mem k.new (number_of n) called (reply_of out) here wide k.gives in
        let rest : CameAll c k.new (number_of n) n.memory.along told.done_more flat =
        came_all S was c config x (number_of n) k.new
        (leads_sized c mem k.new first config sized legal) carries.0 k.shows here page
        n.memory.along n.memory.coherence.more told.done_more flat
        good.memory.widths (running.waits_along page lock) carries.2 in
        let all : List Record = first ++ owed_along (number_of n) n.memory.along told.done_more in
        let none : n.memory.side.heap_request ≡ None = locked_heap_request page lock in
        let undone : n.memory.coherence.done ≡ None = untold n.memory.coherence.done refl in
        let before : pending n ms ≡ [] =
        none_pending _ (along_owed n)
        (owed-untold (number_of n) n.memory.asked
        (reply_owed n.memory.side.heap_request ms n.memory.coherence.done)
        (word_owed n.memory.coherence.done none ∙ ap reply_there undone))
        (then-untold (number_of n) n.memory.along n.memory.coherence.done
        n.memory.coherence.done_more undone) in
        let now : pending told_host ms ≡ all
        = ap (λ me. owed me n.memory.asked (reply_owed n.memory.side.heap_request ms told.done)
        ++ owed_then me n.memory.along told.done told.done_more) same_me
        ∙ ap (λ b. owed (number_of n) b (reply_owed n.memory.side.heap_request ms told.done)
        ++ owed_then (number_of n) n.memory.along told.done told.done_more) asked
        ∙ ap (λ e. owed (number_of n) (Some called) (reply_owed e ms told.done)
        ++ owed_then (number_of n) n.memory.along told.done told.done_more) none
        ∙ ap (λ d. owed (number_of n) (Some called) (reply_there d)
        ++ owed_then (number_of n) n.memory.along d told.done_more) done in
        record {
          more = all;
          new = rest.new;
          legal = leads-append c mem k.new rest.new first
              (owed_along (number_of n) n.memory.along told.done_more) legal rest.legal;
          shows = rest.shows;
          own = part-append x first (owed_along (number_of n) n.memory.along told.done_more)
              ∙ ap (λ xs. xs ++ part x (owed_along (number_of n) n.memory.along told.done_more))
              (owed-own (number_of n) x called (reply_of out) good.me)
              ∙ ap (λ xs. first ++ xs)
              (along-own (number_of n) x n.memory.along told.done_more good.me);
          other = λ j ne.
              part-append j first (owed_along (number_of n) n.memory.along told.done_more)
              ∙ none_pending _ _ (owed-other (number_of n) x j called (reply_of out) good.me ne)
              (along-other (number_of n) x j n.memory.along told.done_more good.me ne);
          alone = All-append (λ (r : Record). IsAlone c was r.node r.call) first
              (owed_along (number_of n) n.memory.along told.done_more)
              (owed_alone c was (number_of n) called (reply_of out)
              (carries_alone c was (number_of n) called good.me
              (running.waits called page word number asked lock there) carries.1))
              (along_alone c was S x (number_of n) page n.memory.along n.memory.coherence.more
              carries.0 told.done_more flat good.me (running.waits_along page lock) carries.2);
          history = ap (λ xs. n.history ++ xs) now
              ∙ owing_history n.history (pending n ms) all before;
          together = λ order s.
              subst (λ xs. StandTogether xs (order ++ all)) (sym now) (added_together order all);
          running = record {
            run = running.run;
            makes = running.makes;
            waits = λ other q w j is locked. absurd (none-some q (sym free ∙ locked));
            waits_along = λ q locked. absurd (none-some q (sym free ∙ locked));
            prompt = λ q w j locked. absurd (none-some q (sym free ∙ locked));
            idle = λ lock gone. absurd (none-some out (sym gone ∙ done));
            told = λ o is.
                elim (running.prompt page word number lock there) [
                  | inl alone ↦ inl alone
                  | inr prompt ↦
                      inr (
                        subst IsReply (same_Some out o (sym done ∙ is))
                            (subst IsReply (sym carries.1.gives)
                            (reply-given word (carries.1.net.page x page) prompt)),
                        have-replies S was c x page n.memory.along n.memory.coherence.more carries.0
                            told.done_more flat (running.waits_along page lock) carries.2,
                      )
                ];
          };
          program = refl;
          blocks = blocks_stay (rest.blocks ∙ k.blocks) refl;
        }
      where
        untold : (d : Option Out) → n.memory.coherence.done ≡ d → n.memory.coherence.done ≡ None
        untold None is = is
        untold (Some o) is = absurd (none-some page (sym (good.memory.answered o is) ∙ lock))

    told_adds : (flat : ℕ → List ℕ) → Tells (Copies {S = S} c) was c x f n.memory.coherence told flat
        → Adds c was mem x n told_host ms flat
    told_adds flat (quiet same rest locked waiting) =
        quiet_adds told n.used flat same same_me rest locked
        (λ q word number lock. waiting q word number)
    told_adds flat (is_answered page word number out lock there free none done carries) =
        answer_adds flat page word number out n.memory.asked refl lock there free done carries

    pub message_adds : is_of_pages m.content ≡ true → (flat : ℕ → List ℕ)
        → Tells (Copies {S = S} c) was c x f n.memory.coherence told flat
        → Adds c was mem x n (serving ops n source m).after ms flat
    message_adds about flat tells =
        subst (λ (z : Outcome (Host S)). Adds c was mem x n z.after ms flat)
        (sym (page_serving ops n source m about)) (told_adds flat tells)
