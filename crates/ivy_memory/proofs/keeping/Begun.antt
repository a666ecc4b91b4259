-- What is in progress after a call began, or was asked after: itself, or one of those made along with it.
use Rattle.std.proofs.Common.{◌≡◌, ℕ, ◌+◌, ◌⊎◌, inl, inr, List, [], ◌∷◌, ◌++◌, append-nil, Option, Some, None, refl, sym, ap, ◌∙◌, subst}
use Rattle.std.proofs.lemmas.Option.{same_Some, none-some}
use Rattle.ivy_model.specs.declared.Call.{Call}
use Rattle.ivy_model.specs.declared.Reply.{Reply}
use Rattle.ivy_model.specs.declared.Reply.TheVariants as reply
use Rattle.ivy_pagetable.specs.stated.Manager.{Ops}
use Rattle.ivy_coherence.specs.declared.Need.{Need}
use Rattle.ivy_coherence.specs.declared.Need.TheVariants as need
use Rattle.ivy_coherence.specs.stated.PageFaults.{Begun, begun}
use Rattle.ivy_alloc.specs.declared.CallProgress.{CallProgress}
use Rattle.ivy_alloc.specs.declared.CallProgress.TheVariants.{Given, Awaited, Unserved}
use Rattle.ivy_alloc.specs.stated.HeapCalls.{HeapBegun, heap_begun}
use Rattle.ivy_memory.specs.declared.memory.Asked.{Asked}
use Rattle.ivy_memory.specs.declared.memory.Asked.TheVariants as asked
use Rattle.ivy_memory.specs.stated.Asking.{asked_of}
use Rattle.ivy_memory.specs.stated.Memories.{NodeMemory, CallBegun, reply_of, without_call, taken_with, answered, waiting}
use Rattle.ivy_memory.specs.stated.Memories.{unserved, needed, again_unless, again, asked_after, along_after, number_after}
use Rattle.ivy_memory.specs.stated.Memories.{heap_answered, begun_as, call_begun}
use Rattle.ivy_memory.specs.stated.Beside.{Beside, nothing_beside, beside}
use Rattle.ivy_memory.proofs.batches.Along.{AreFirst, beside-first}

-- the calls in progress, one after another, are the first ones of these, and the first of them has
-- this number
pub record GoesOn {S : Type 0} (calls : List Call) (number : ℕ) (m : NodeMemory S) : Type 0 where
  pub first : (j : Call) → m.asked ≡ Some j → AreFirst (j ∷ m.along) calls
  pub numbered : (j : Call) → m.asked ≡ Some j → m.number ≡ number

-- What is in progress after a call, under this number and with these calls made along, was so
-- answered: where it has its reply, one of the later ones, under the next number.
abbrev pub IsBegunAs : {S : Type 0} → Call → List Call → List Call → ℕ → NodeMemory S → CallProgress
    → Type 0
IsBegunAs k calls later number m (Given r) = GoesOn later (number + 1) m
IsBegunAs k calls later number m Awaited = GoesOn (k ∷ calls) number m
IsBegunAs k calls later number m Unserved = GoesOn (k ∷ calls) number m

abbrev pub IsBegun : {S : Type 0} → Call → List Call → List Call → ℕ → CallBegun S → Type 0
IsBegun k calls later number a = IsBegunAs k calls later number a.after a.answer

first_same : (k j : Call) (calls more : List Call) → k ∷ calls ≡ j ∷ more → k ≡ j
first_same k j calls more is = cc

module _ {S : Type 0} where
  -- nothing is in progress
  pub none_goes : (m : NodeMemory S) (calls : List Call) (number : ℕ) → m.asked ≡ None
      → GoesOn calls number m
  none_goes m calls number idle = record {
    first = λ j h. absurd (none-some j (sym idle ∙ h));
    numbered = λ j h. absurd (none-some j (sym idle ∙ h));
  }

  -- this call is
  pub one_goes : (m : NodeMemory S) (k : Call) (calls : List Call) → m.asked ≡ Some k
      → AreFirst m.along calls → GoesOn (k ∷ calls) m.number m
  one_goes m k calls asked are = record {
    first = λ j h. (are.0, (λ i. same_Some k j (sym asked ∙ h) i ∷ are.1 i));
    numbered = λ j h. refl;
  }

  next_as : (k : Call) (calls later : List Call) (number : ℕ) (m : NodeMemory S) (r : CallProgress)
      (j : Call) → IsBegunAs k calls later number m r → m.asked ≡ Some j
      → (k ≡ j) ⊎ ((rest : List Call) × (later ≡ j ∷ rest))
  next_as k calls later number m (Given r) j is h =
      let x = is.first j h in inr (m.along ++ x.0, x.1)
  next_as k calls later number m Awaited j is h = inl (first_same k j calls _ (is.first j h).1)
  next_as k calls later number m Unserved j is h = inl (first_same k j calls _ (is.first j h).1)

  -- a call in progress after this one is this one, or the first of the later ones
  pub begun-next : (k : Call) (calls later : List Call) (number : ℕ) (a : CallBegun S) (j : Call)
      → IsBegun k calls later number a → a.after.asked ≡ Some j
      → (k ≡ j) ⊎ ((rest : List Call) × (later ≡ j ∷ rest))
  begun-next k calls later number a j is h =
      next_as k calls later number a.after a.answer j is h

  -- this one, where there are no later ones
  pub begun-one : (k : Call) (calls : List Call) (number : ℕ) (a : CallBegun S) (j : Call)
      → IsBegun k calls [] number a → a.after.asked ≡ Some j → k ≡ j
  begun-one k calls number a j is h =
      elim (begun-next k calls [] number a j is h) [
        | inl same ↦ same
        | inr x ↦ absurd (let e : [] ≡ j ∷ x.0 = x.1 in cc)
      ]

  -- what changes nothing
  idle-begun : (m : NodeMemory S) (k : Call) (calls later : List Call) (number : ℕ)
      → m.asked ≡ None → (r : CallProgress) → IsBegunAs k calls later number m r
  idle-begun m k calls later number idle (Given r) = none_goes m later (number + 1) idle
  idle-begun m k calls later number idle Awaited = none_goes m (k ∷ calls) number idle
  idle-begun m k calls later number idle Unserved = none_goes m (k ∷ calls) number idle

  pub unserved-begun : (m : NodeMemory S) (k : Call) → m.asked ≡ Some k
      → IsBegun k m.along m.along m.number (unserved m)
  unserved-begun m k asked = one_goes m k m.along asked ([], sym (append-nil m.along))

  answered-begun : (m : NodeMemory S) (k : Call) (calls later : List Call) (number : ℕ)
      (b : Begun S) (r : Option Reply) → IsBegun k calls later number (answered m k number b r)
  answered-begun m k calls later number b None =
      one_goes (answered m k number b None).after k calls refl (calls, refl)
  answered-begun m k calls later number b (Some r) =
      none_goes (answered m k number b (Some r)).after later (number + 1) refl

  heap_as : (m n : NodeMemory S) (k : Call) (calls later : List Call) (number : ℕ) (r : CallProgress)
      → m.asked ≡ None → n.asked ≡ asked_after m.asked k r → n.along ≡ along_after m.along r
      → n.number ≡ number_after m.number number r → IsBegunAs k calls later number n r
  heap_as m n k calls later number (Given r) idle asked made under =
      none_goes n later (number + 1) (asked ∙ idle)
  heap_as m n k calls later number Awaited idle asked made under =
      subst (λ i. GoesOn (k ∷ calls) i n) under (one_goes n k calls asked (calls, ap (λ cs. cs ++ calls) (sym made)))
  heap_as m n k calls later number Unserved idle asked made under =
      none_goes n (k ∷ calls) number (asked ∙ idle)

  heap-begun : (m : NodeMemory S) (k : Call) (calls later : List Call) (number : ℕ)
      (b : HeapBegun) → m.asked ≡ None → IsBegun k calls later number (heap_answered m k number b)
  heap-begun m k calls later number b idle =
      heap_as m (heap_answered m k number b).after k calls later number b.answer idle refl refl refl

  needed-begun : (m : NodeMemory S) (k : Call) (calls later : List Call) (more : Beside)
      (number : ℕ) (b : Begun S) (n : Need) → AreFirst more.calls calls → m.asked ≡ None
      → IsBegun k calls later number (needed m k more number b n)
  needed-begun m k calls later more number b (need.Have o) are idle =
      answered-begun m k calls later number b (reply_of o)
  needed-begun m k calls later more number b need.Started are idle =
      one_goes (waiting m k more number b).after k calls refl are
  needed-begun m k calls later more number b need.Busy are idle =
      none_goes m (k ∷ calls) number idle
  needed-begun m k calls later more number b need.Fetched are idle =
      one_goes (waiting m k nothing_beside number b).after k calls refl (calls, refl)

  again_unless-begun : (m : NodeMemory S) (k : Call) (b : Begun S) (r : Option Reply)
      → m.asked ≡ Some k
      → IsBegun k m.along m.along m.number
      (again_unless m (answered (without_call m) k m.number b r) r)
  again_unless-begun m k b None asked = unserved-begun m k asked
  again_unless-begun m k b (Some r) asked =
      answered-begun (without_call m) k m.along m.along m.number b (Some r)

  pub again-begun : (m : NodeMemory S) (k : Call) (b : Begun S) (n : Need) → m.asked ≡ Some k
      → IsBegun k m.along m.along m.number
      (again m (needed (without_call m) k nothing_beside m.number b n) n)
  again-begun m k b (need.Have o) asked = again_unless-begun m k b (reply_of o) asked
  again-begun m k b need.Started asked =
      one_goes (waiting (without_call m) k nothing_beside m.number b).after k m.along refl
      (m.along, refl)
  again-begun m k b need.Busy asked = unserved-begun m k asked
  again-begun m k b need.Fetched asked = unserved-begun m k asked

  -- the next of the calls made along is in progress
  pub taken_with-goes : (m : NodeMemory S) (calls : List Call)
      → GoesOn calls (m.number + 1) (taken_with m calls)
  taken_with-goes m [] = none_goes (without_call m) [] (m.number + 1) refl
  taken_with-goes m (next ∷ calls) =
      one_goes (taken_with m (next ∷ calls)) next calls refl ([], sym (append-nil calls))

module _ {S : Type 0} (ops : Ops S) where
  as-begun : (m : NodeMemory S) (k : Call) (calls : List Call) (number : ℕ) (x : Asked)
      → m.asked ≡ None → IsBegun k calls [] number (begun_as ops m k calls number x)
  as-begun m k calls number (asked.Refused code) idle =
      idle-begun m k calls [] number idle (Given (reply.Refused code))
  as-begun m k calls number (asked.Word page w) idle =
      let b : Begun S = begun ops m.coherence page w number in
      needed-begun m k calls [] (beside m.coherence.config page w calls number) number b b.need
      (beside-first m.coherence.config page w calls number) idle
  as-begun m k calls number (asked.Heap h) idle =
      heap-begun m k calls [] number (heap_begun m.coherence.me m.side h number) idle

  pub call-begun : (m : NodeMemory S) (k : Call) (calls : List Call) (number : ℕ)
      → m.asked ≡ None → IsBegun k calls [] number (call_begun ops m k calls number)
  unfolding call_begun
  call-begun m k calls number idle =
      as-begun m k calls number (asked_of m.coherence.config k) idle
