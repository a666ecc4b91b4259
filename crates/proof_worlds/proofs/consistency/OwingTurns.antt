-- What each turn of a node adds to the order of all records. For every manager.
use Rattle.std.proofs.Common.{◌≡◌, ◌<◌, ℕ, ◌+◌, List, [], ◌++◌, length, Some, None, refl, ap, sym, ◌∙◌, subst, inl}
use Rattle.std.proofs.lemmas.Option.{none-some}
use Rattle.ivy_model.specs.declared.Config.{Config}
use Rattle.ivy_model.specs.declared.Call.{Call}
use Rattle.ivy_model.specs.declared.Reply.TheVariants as reply
use Rattle.ivy_model.specs.stated.Config.{IsConfig}
use Rattle.ivy_model.specs.Memory.{IsSized, flat_page}
use Rattle.ivy_model.specs.stated.Memory as model
use Rattle.ivy_wire.specs.stated.Data.{Message}
use Rattle.ivy_pagetable.specs.declared.Entry.{Entry}
use Rattle.ivy_pagetable.specs.declared.Word.{Word}
use Rattle.ivy_pagetable.specs.stated.Manager.{Ops}
use Rattle.ivy_coherence.specs.stated.Coherent.{Coherent}
use Rattle.ivy_coherence.specs.stated.PageFaults.{fetch}
use Rattle.ivy_program.specs.stated.InstructionSteps.{along_of}
use Rattle.ivy_moves.specs.stated.Cores.{Outcome}
use Rattle.ivy_memory.specs.declared.Asked.TheVariants as kinds
use Rattle.ivy_memory.specs.stated.Asking.{asked_of}
use Rattle.ivy_alloc.specs.stated.Heap.{HeapState}
use Rattle.ivy_alloc.specs.stated.HeapCalls.{kept, told_of, reply_told}
use Rattle.ivy_memory.specs.stated.Memories.{MemoryFetch, first_reply, reply_there, reply_at}
use Rattle.ivy_memory.specs.stated.Beside.{nothing_beside}
use Rattle.ivy_memory.proofs.keeping.WellBehaved.{without-sound}
use Rattle.ivy_program.specs.stated.Programs.{HandedFetch}
use Rattle.ivy_host.specs.stated.Hosts.{Host, number_of, fetch_of, fetched_with}
use Rattle.ivy_host.proofs.Turns.{either_fetch}
use Rattle.ivy_host.specs.stated.Sound.{IsSoundHost}
use Rattle.proof_worlds.proofs.refinement.LiftedEvents.{WaitsAt}
use Rattle.proof_worlds.proofs.refinement.HostTurns.{HostTurn, answers, tries_again, goes_on, refuses, asks_for, serves_heap, asks_heap, carries_fetch, made_along, without_call}
use Rattle.proof_worlds.proofs.refinement.FetchTurns.{Leaves, left_alone, fetch-leaves}
use Rattle.proof_worlds.proofs.refinement.HostTurns.{number_of as number_of_call}
use Rattle.proof_worlds.proofs.consistency.Beside.{beside-words, beside-prompt, beside-asks}
use Rattle.ivy_program.proofs.running.Along.{asks_along}
use Rattle.proof_worlds.proofs.refinement.LiftedHosts.{TurnTells}
use Rattle.ivy_memory.proofs.serving.CallsServed.{refusal_served}
use Rattle.proof_worlds.proofs.consistency.HeapServed.{memory_told, heap_served}
use Rattle.proof_worlds.proofs.consistency.CarriedWords.{Copies}
use Rattle.proof_worlds.proofs.consistency.Owing.{reply_owed}
use Rattle.proof_worlds.proofs.consistency.Owing.{owed-untold}
use Rattle.proof_worlds.proofs.consistency.Owing.{along_owed, untold-along, none_pending, AreWordsOf}
use Rattle.proof_worlds.proofs.consistency.Owing.{IsWordOf, IsRunning}
use Rattle.proof_worlds.proofs.consistency.Owing.{blocks_stay, blocks_change, Adds}
use Rattle.proof_worlds.proofs.consistency.Adjacent.{none_together}
use Rattle.proof_worlds.proofs.consistency.OwingEvents.{goes_alone, heap_request_waits, idle_heap_request, quiet_adds, records_call, records_reply, same_pages, starts_adds, word_heap_request}

-- the call in progress begins anew, as its word was not carried out or gave no reply
again_adds : {S : Type 0} (c : Config) (was : ℕ → ℕ → Entry) (mem : model.Memory) (x : ℕ)
    (n n' : Host S) (ms : List Message) (flat : ℕ → List ℕ)
    → reply_owed n.memory.side.heap_request ms n.memory.coherence.done ≡ None → along_owed n ≡ []
    → Adds c was mem x (without_call n) n' ms flat → Adds c was mem x n n' ms flat
again_adds c was mem x n n' ms flat untold alone a = record {
  more = a.more;
  new = a.new;
  legal = a.legal;
  shows = a.shows;
  own = a.own;
  other = a.other;
  alone = a.alone;
  history =
      a.history
      ∙ ap (λ xs. (n.history ++ xs) ++ a.more)
      (sym (none_pending _ (along_owed n)
      (owed-untold (number_of n) n.memory.asked
      (reply_owed n.memory.side.heap_request ms n.memory.coherence.done) untold) alone));
  together = λ order s. a.together order (none_together order);
  running = a.running;
  program = a.program;
  blocks = a.blocks;
}

module _ {S : Type 0} (ops : Ops S) (c : Config) (config : IsConfig c) (was : ℕ → ℕ → Entry) (x : ℕ)
    (mem : model.Memory) (sized : IsSized c mem) (f : ℕ → List ℕ)
    (shows : (p : ℕ) → p < c.pages → f p ≡ flat_page c mem p)
    (n : Host S) (good : IsSoundHost ops c x n) (running : IsRunning c n) (ms : List Message)
    (blocks : (h : HeapState) → n.memory.side.heap ≡ Some h → h.blocks ≡ mem.blocks)
    (way : n.memory.side.heap ≡ None → n.memory.side.heap_request ≡ None → ms ≡ []) where
  -- without its call in progress, where no word waits, the node is sound, and its program runs
  good_without : n.memory.coherence.locked ≡ None → IsSoundHost ops c x (without_call n)
  good_without free = record {
    memory = without-sound n.memory good.memory free;
    config = good.config;
    me = good.me;
    asking = λ called is. absurd (none-some called is);
    numbered = λ called is. absurd (none-some called is);
  }

  -- of those made along none is owed then either
  none_along : n.memory.side.heap_request ≡ None → reply_at n.memory ≡ None → along_owed n ≡ []
  none_along none untold =
      untold-along c n running
      (sym (ap (λ e. first_reply (reply_told e) (reply_there n.memory.coherence.done)) none) ∙ untold)

  running_without : n.memory.coherence.locked ≡ None → IsRunning c (without_call n)
  running_without free = record {
    run = running.run;
    makes = λ called is. absurd (none-some called is);
    waits = λ called page word number is. absurd (none-some called is);
    waits_along = λ page lock. absurd (none-some page (sym free ∙ lock));
    prompt = λ page word number lock. absurd (none-some page (sym free ∙ lock));
    idle = λ lock done. refl;
    told = λ o done. inl refl;
  }

  -- where no reply is there, and the call in progress is one of a word, none is owed
  none_owed : (called : Call) (page : ℕ) (word : Word) → n.memory.asked ≡ Some called
      → asked_of n.memory.coherence.config called ≡ kinds.Word page word → reply_at n.memory ≡ None
      → reply_owed n.memory.side.heap_request ms n.memory.coherence.done ≡ None
  none_owed called page word asked of untold =
      let none : n.memory.side.heap_request ≡ None =
      word_heap_request ops c config was x mem sized f shows n good running ms called page word asked
      of in
      ap (λ e. reply_owed e ms n.memory.coherence.done) none
      ∙ sym (ap (λ e. first_reply (reply_told e) (reply_there n.memory.coherence.done)) none)
      ∙ untold

  same_flat : (flat : ℕ → List ℕ) → flat ≡ f → (p : ℕ) → p < c.pages → flat p ≡ flat_page c mem p
  same_flat = same_pages ops c config was x mem sized f shows n good running ms

  -- a fetch is carried out
  fetch_adds : (handed : HandedFetch) (flat : ℕ → List ℕ) → flat ≡ f
      → Adds c was mem x n (fetched_with n (fetch_of ops n handed)).after ms flat
  fetch_adds handed flat same =
      either_fetch ops (λ (z : MemoryFetch S). Adds c was mem x n (fetched_with n z).after ms flat) n
      handed (leaves_adds n.memory.coherence (left_alone n.memory.coherence handed.page))
      (λ inside below.
      leaves_adds (fetch ops n.memory.coherence handed.page handed.write (length n.history + 1)).after
      (fetch-leaves ops n.memory.coherence good.memory.coherent handed.page handed.write
      (length n.history + 1) inside))
    where
      leaves_adds : (after : Coherent S) → Leaves n.memory.coherence handed.page after
          → Adds c was mem x n
          (record n { memory = record n.memory { coherence = after }; used = n.used + 1 })
          ms flat
      leaves_adds after left =
          quiet_adds ops c config was x mem sized f shows n good running ms after
          (n.used + 1) flat same left.me left.rest left.locked
          (λ q word number lock there.
          subst (λ e. WaitsAt e word number)
          (left.entries q (good.memory.coherent.locked q lock)) there)

  -- a turn
  pub turn_adds : (e : Outcome (Host S)) (turn : HostTurn ops c n e) (flat : ℕ → List ℕ)
      → TurnTells (Copies {S = S} c) was c x f n e turn flat → Adds c was mem x n e.after ms flat
  turn_adds e (answers called r asked there is) flat tells =
      subst (λ (z : Outcome (Host S)). Adds c was mem x n z.after ms flat) (sym is)
      (records_reply ops c config was x mem sized f shows n good running ms called r asked there
      flat tells)
  turn_adds e (tries_again called page word asked untold free of inside lies is) flat tells =
      again_adds c was mem x n e.after ms flat (none_owed called page word asked of untold)
      (none_along
      (word_heap_request ops c config was x mem sized f shows n good running ms called page word asked of)
      untold)
      (starts_adds ops c config was x mem sized f shows (without_call n) (good_without free)
      (running_without free) ms called page word refl (running.makes called asked).0
      (subst (λ k. IsWordOf k called page word) good.config of) nothing_beside
      ((running.makes called asked).0, λ r. tt) tt (inl refl) e flat (length n.history + 1) is
      tells)
  turn_adds e (goes_on s idle step is) flat tells =
      subst (λ (z : Outcome (Host S)). Adds c was mem x n z.after ms flat) (sym is)
      (goes_alone ops c config was x mem sized f shows n good running ms s idle step flat tells)
  turn_adds e (refuses called code idle step refusal is) flat tells =
      subst (λ (z : Outcome (Host S)). Adds c was mem x n z.after ms flat) (sym is)
      (records_call ops c config was x mem sized f shows n good running ms n.memory called
      (reply.Refused code) mem idle step idle (good.memory.alone idle) (good.memory.locked idle)
      (refusal_served c mem sized called code
      (subst (λ k. asked_of k called ≡ kinds.Refused code) good.config refusal)) flat
      (same_flat flat tells)
      (λ page word is j ne.
      (let two : kinds.Refused code ≡ kinds.Word page word =
      sym (subst (λ k. asked_of k called ≡ kinds.Refused code) good.config refusal) ∙ is in absurd cc))
      (blocks_stay refl refl))
  turn_adds e (asks_for called page word idle step of inside lies few is) flat tells =
      starts_adds ops c config was x mem sized f shows n good running ms called page word idle step
      (subst (λ k. IsWordOf k called page word) good.config of) (made_along n page word)
      (beside-asks n.memory.coherence.config page word n.process called (along_of n.process)
      (number_of_call n) (asks_along n.process called step))
      (subst (λ k. AreWordsOf k page (made_along n page word).calls (made_along n page word).words)
      good.config
      (beside-words n.memory.coherence.config page word (along_of n.process) (number_of_call n)))
      (beside-prompt n.memory.coherence.config page word (along_of n.process) (number_of_call n))
      e flat (length n.history + 1) is tells
  turn_adds e (serves_heap called k heap idle step of there is) flat tells =
      subst (λ (z : Outcome (Host S)). Adds c was mem x n z.after ms flat) (sym is)
      (records_call ops c config was x mem sized f shows n good running ms
      (record n.memory { side = kept n.memory.side heap (told_of heap k) }) called
      (told_of heap k).reply (memory_told mem heap k) idle step idle (good.memory.alone idle)
      (good.memory.locked idle)
      (heap_served c mem heap ((good.memory.side.home heap there).0 ∙ good.config)
      (blocks heap there) called k
      (subst (λ d. asked_of d called ≡ kinds.Heap k) good.config of)) flat
      (same_flat flat tells)
      (λ page word is j ne.
      (let two : kinds.Heap k ≡ kinds.Word page word =
      sym (subst (λ d. asked_of d called ≡ kinds.Heap k) good.config of) ∙ is in absurd cc))
      (blocks_change heap (told_of heap k) there refl refl))
  turn_adds e (asks_heap called k idle step of away is) flat tells =
      subst (λ (z : Outcome (Host S)). Adds c was mem x n z.after ms flat) (sym is)
      (heap_request_waits ops c config was x mem sized f shows n good running ms called k
      (length n.history + 1) flat tells idle step
      (way away (idle_heap_request ops c config was x mem sized f shows n good running ms idle)))
  turn_adds e (carries_fetch handed next is) flat tells =
      subst (λ (z : Outcome (Host S)). Adds c was mem x n z.after ms flat) (sym is)
      (fetch_adds handed flat tells)
