-- What is owed of a node is nothing, or a record of each of its calls in progress.
use Rattle.std.proofs.Common.{◌≡◌, ◌⊎◌, inl, inr, ℕ, List, [], ◌∷◌, ◌++◌, map, Option, Some, None, refl, ap, sym, ◌∙◌}
use Rattle.std.proofs.lemmas.Option.{none-some}
use Rattle.ivy_model.specs.declared.Config.{Config}
use Rattle.ivy_model.specs.declared.Call.{Call}
use Rattle.ivy_model.specs.declared.Record.{Record}
use Rattle.ivy_model.specs.declared.Reply.{Reply}
use Rattle.ivy_wire.specs.stated.Data.{Message}
use Rattle.ivy_pagetable.specs.declared.Out.{Out}
use Rattle.ivy_pagetable.specs.stated.Manager.{Ops}
use Rattle.ivy_alloc.specs.declared.HeapRequest.{HeapRequest}
use Rattle.ivy_memory.specs.stated.Memories.{in_progress, reply_there}
use Rattle.ivy_host.specs.stated.Hosts.{Host, number_of}
use Rattle.ivy_host.specs.stated.Sound.{IsSoundHost}
use Rattle.proof_worlds.proofs.consistency.Owing.{owed, reply_owed, owed_along, owed_then, along_owed, pending, IsReply, HaveReplies, then-alone, IsRunning}

abbrev calls : List Record → List Call
calls rs = map (λ r. r.call) rs

along_calls : (me : ℕ) (ks : List Call) (os : List Out) → HaveReplies ks os
    → calls (owed_along me ks os) ≡ ks
along_calls me [] os have = refl
along_calls me (k ∷ ks) [] have = absurd have
along_calls me (k ∷ ks) (o ∷ os) have =
    ap (λ y. calls (owed me (Some k) y ++ owed_along me ks os)) have.0.1
    ∙ ap (λ xs. k ∷ xs) (along_calls me ks os have.1)

module _ {S : Type 0} (ops : Ops S) (c : Config) (i : ℕ) (n : Host S)
    (good : IsSoundHost ops c i n) (running : IsRunning c n) (ms : List Message) where
  abbrev Owes : Option Call → Type 0
  Owes a = (owed (number_of n) a (reply_owed n.memory.side.heap_request ms n.memory.coherence.done)
      ++ along_owed n ≡ [])
      ⊎ (calls (owed (number_of n) a (reply_owed n.memory.side.heap_request ms n.memory.coherence.done)
      ++ along_owed n) ≡ in_progress a n.memory.along)

  -- where nothing was made along there is one record, or none
  one_owed : (called : Call) (y : Option Reply) → n.memory.along ≡ []
      → (owed (number_of n) (Some called) y ++ along_owed n ≡ [])
      ⊎ (calls (owed (number_of n) (Some called) y ++ along_owed n) ≡ called ∷ n.memory.along)
  one_owed called None alone =
      inl (then-alone (number_of n) n.memory.along n.memory.coherence.done
      n.memory.coherence.done_more alone)
  one_owed called (Some r) alone =
      inr (ap (λ xs. called ∷ calls xs)
      (then-alone (number_of n) n.memory.along n.memory.coherence.done
      n.memory.coherence.done_more alone) ∙ ap (λ ks. called ∷ ks) (sym alone))

  -- the word of the call in progress was carried out, with those of these
  all_owed : (called : Call) (o : Out) → n.memory.coherence.done ≡ Some o
      → n.memory.side.heap_request ≡ None → IsReply o
      → HaveReplies n.memory.along n.memory.coherence.done_more → Owes (Some called)
  all_owed called o done none reply have =
      inr (ap (λ e. calls (owed (number_of n) (Some called)
      (reply_owed e ms n.memory.coherence.done) ++ along_owed n)) none
      ∙ ap (λ d. calls (owed (number_of n) (Some called) (reply_there d)
      ++ owed_then (number_of n) n.memory.along d n.memory.coherence.done_more)) done
      ∙ ap (λ y. calls (owed (number_of n) (Some called) y
      ++ owed_along (number_of n) n.memory.along n.memory.coherence.done_more)) reply.1
      ∙ ap (λ ks. called ∷ ks)
      (along_calls (number_of n) n.memory.along n.memory.coherence.done_more have))

  -- a word waits, so nothing is owed
  waiting_owed : (called : Call) (page : ℕ) → n.memory.coherence.locked ≡ Some page
      → Owes (Some called)
  waiting_owed called page lock = inl (at n.memory.side.heap_request n.memory.coherence.done refl refl)
    where
      at : (e : Option HeapRequest) (d : Option Out) → n.memory.side.heap_request ≡ e
          → n.memory.coherence.done ≡ d
          → owed (number_of n) (Some called)
          (reply_owed n.memory.side.heap_request ms n.memory.coherence.done) ++ along_owed n ≡ []
      at (Some y) d is done = absurd (none-some page (sym (good.memory.apart y is).0 ∙ lock))
      at None (Some o) is done = absurd (none-some page (sym (good.memory.answered o done) ∙ lock))
      at None None is done =
          ap (λ e. owed (number_of n) (Some called) (reply_owed e ms n.memory.coherence.done)
          ++ along_owed n) is
          ∙ ap (λ d. owed (number_of n) (Some called) (reply_there d)
          ++ owed_then (number_of n) n.memory.along d n.memory.coherence.done_more) done

  owes : (called : Call) (lock : Option ℕ) (d : Option Out) (e : Option HeapRequest)
      → n.memory.coherence.locked ≡ lock → n.memory.coherence.done ≡ d → n.memory.side.heap_request ≡ e
      → Owes (Some called)
  owes called (Some page) d e locked done is = waiting_owed called page locked
  owes called None None e locked done is =
      one_owed called (reply_owed n.memory.side.heap_request ms n.memory.coherence.done)
      (running.idle locked done)
  owes called None (Some o) (Some y) locked done is =
      absurd (none-some o (sym (good.memory.apart y is).1 ∙ done))
  owes called None (Some o) None locked done is = elim (running.told o done) [
    | inl alone ↦
        one_owed called (reply_owed n.memory.side.heap_request ms n.memory.coherence.done) alone
    | inr have ↦ all_owed called o done is have.0 have.1
  ]

  at_asked : (a : Option Call) → n.memory.asked ≡ a → Owes a
  at_asked None idle =
      inl (then-alone (number_of n) n.memory.along n.memory.coherence.done
      n.memory.coherence.done_more (good.memory.alone idle))
  at_asked (Some called) asked =
      owes called n.memory.coherence.locked n.memory.coherence.done n.memory.side.heap_request refl refl
      refl

  pub pending-calls : (pending n ms ≡ [])
      ⊎ (map (λ r. r.call) (pending n ms) ≡ in_progress n.memory.asked n.memory.along)
  pending-calls = at_asked n.memory.asked refl
