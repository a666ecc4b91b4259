-- A node's side of the calls of the heap, beside the call in progress: what begins there and what
-- comes to it keeps what always holds.
use Rattle.std.proofs.Common.{◌≡◌, ◌≢◌, ℕ, ◌^◌, ◌<◌, ◌≤◌, Bool, true, false, ◌==◌, [], length, Option, Some, None, refl, sym, ap, ◌∙◌, subst, arith, if◌then◌else◌, nat_lt}
use Rattle.std.specs.Prelude.{All}
use Rattle.std.proofs.lemmas.Bool.{eqb-true, eqb-false, ltb-true}
use Rattle.std.proofs.lemmas.Option.{same_Some, none-some}
use Rattle.ivy_model.specs.declared.Config.{Config}
use Rattle.ivy_model.specs.declared.Call.{Call}
use Rattle.ivy_model.specs.stated.Config.{IsConfig}
use Rattle.ivy_wire.specs.stated.Data.{Message}
use Rattle.ivy_wire.specs.stated.Spelling.{FitsMessage, FitsParcel}
use Rattle.ivy_wire.specs.stated.Posts.{parcel_to}
use Rattle.ivy_coherence.specs.EventLimits.{most_posted}
use Rattle.ivy_coherence.proofs.keeping.IdleServing.{all_none, all_one}
use Rattle.ivy_alloc.specs.stated.Heap.{HeapState, first_heap}
use Rattle.ivy_alloc.specs.declared.HeapCall.{HeapCall}
use Rattle.ivy_alloc.specs.declared.HeapRequest.{HeapRequest}
use Rattle.ivy_alloc.specs.declared.HeapRequest.TheVariants as heap_request
use Rattle.ivy_alloc.specs.declared.CallProgress.TheVariants.{Unserved}
use Rattle.ivy_alloc.specs.stated.HeapCalls.{HeapSide, HeapBegun, HeapTold, first_side, told_of, request, number_in, answer_to, heap_begun_at, heap_begun, heap_told}
use Rattle.ivy_alloc.proofs.HeapMessages.{either, told-by_rows}
use Rattle.ivy_alloc.proofs.Spelled.{answer_fits, request_fits}
use Rattle.ivy_memory.specs.stated.Memories.{NodeMemory, heap_answered}
use Rattle.ivy_pagetable.specs.declared.Word.{Word}
use Rattle.ivy_memory.specs.declared.memory.Asked.TheVariants as kinds
use Rattle.ivy_memory.specs.stated.Asking.{asked_of}
use Rattle.ivy_memory.specs.stated.Sound.{IsHeapRequestOf, IsInProgress, IsSoundSide}

-- without a call in progress node 0 was asked for none
pub no_heap_request : (c : Config) (a : Option Call) (e : Option HeapRequest) → a ≡ None → IsHeapRequestOf c a e
    → e ≡ None
no_heap_request c a None none is = refl
no_heap_request c a (Some (heap_request.Asked k number)) none is =
    absurd (none-some is.call (sym none ∙ is.asked))
no_heap_request c a (Some (heap_request.Told r)) none is = absurd (none-some is.1.call (sym none ∙ is.1.asked))

-- the side of the same node, with the same call in progress
pub same_side : (c k : Config) (me i : ℕ) (a : Option Call) (s : HeapSide) → k ≡ c → i ≡ me
    → IsSoundSide c me a s → IsSoundSide k i a s
same_side c k me i a s config node is =
    subst (λ x. IsSoundSide x i a s) (sym config) (subst (λ x. IsSoundSide c x a s) (sym node) is)

-- a side without a request of the heap, where the call in progress is none of the heap
pub quiet_side : (c : Config) (me : ℕ) (a b : Option Call) (s : HeapSide) → s.heap_request ≡ None
    → ((k : HeapCall) → IsInProgress c b k → ⊥) → IsSoundSide c me a s → IsSoundSide c me b s
quiet_side c me a b s none words is = record {
  away = is.away;
  home = is.home;
  heap_request = subst (IsHeapRequestOf c b) (sym none) tt;
  owed = λ k in_progress. absurd (words k in_progress);
  none = λ zero. none;
}

-- no call is in progress, or one that is a word
pub idle_words : (c : Config) (k : HeapCall) → IsInProgress c None k → ⊥
idle_words c k is = none-some is.call is.asked

pub word_words : (c : Config) (called : Call) (page : ℕ) (w : Word)
    → asked_of c called ≡ kinds.Word page w → (k : HeapCall) → IsInProgress c (Some called) k → ⊥
word_words c called page w word k is =
    let same : called ≡ is.call = same_Some called is.call is.asked in
    let e : kinds.Word page w ≡ kinds.Heap k = sym word ∙ ap (asked_of c) same ∙ is.of in absurd cc

-- a side whose call is over
pub closed_side : (c : Config) (me : ℕ) (a : Option Call) (s : HeapSide) → IsSoundSide c me a s
    → IsSoundSide c me None (record s { heap_request = None })
closed_side c me a s is = record {
  away = is.away;
  home = is.home;
  heap_request = tt;
  owed = λ k in_progress. absurd (idle_words c k in_progress);
  none = λ zero. refl;
}

-- the side after the heap served a call
pub kept_side : (c : Config) (me : ℕ) (a : Option Call) (s : HeapSide) (h : HeapState)
    (k : HeapCall) → s.heap ≡ Some h → IsSoundSide c me a s
    → IsSoundSide c me a
    (record s { heap = Some (record { config = h.config; blocks = (told_of h k).blocks }) })
kept_side c me a s h k there is = record {
  away = λ none. absurd (none-some _ (sym none));
  home = λ g same. subst (λ (x : HeapState). (x.config ≡ c) × (me ≡ 0)) (same_Some _ g same)
      (is.home h there);
  heap_request = is.heap_request;
  owed = is.owed;
  none = is.none;
}

-- what a message to the side keeps
pub record KeepsSide (c : Config) (me : ℕ) (a : Option Call) (s : HeapSide) (t : HeapTold) : Type 0
  where
    pub sound : IsSoundSide c me a t.after
    pub fits : All (FitsParcel c me) t.posted
    pub few : length t.posted ≤ 1
    -- a request of the heap after it is one that there was before it
    pub apart : (e : HeapRequest) → t.after.heap_request ≡ Some e → (d : HeapRequest) × (s.heap_request ≡ Some d)
    -- and node 0 is still asked for what it was asked for
    pub under : (k : HeapCall) (number : ℕ) → t.after.heap_request ≡ Some (heap_request.Asked k number)
        → s.heap_request ≡ Some (heap_request.Asked k number)

module _ (c : Config) (me : ℕ) (a : Option Call) (s : HeapSide) (sound : IsSoundSide c me a s)
    (limits : IsConfig c) (here : me < c.nodes) where
  answer_sent : (from number : ℕ) (k : HeapCall) (h : HeapState) → s.heap ≡ Some h → from < c.nodes
      → from ≢ me → 1 ≤ number → number < 2 ^ 64
      → FitsParcel c me (parcel_to me from from number (answer_to k (told_of h k).reply))
  answer_sent from number k h there below foreign least most = record {
    source = refl;
    here = here;
    dest = below;
    apart = foreign;
    message =
        record {
          origin = below;
          call_from = least;
          call_to = most;
          content = answer_fits c h k limits (sound.home h there).0;
        };
  }

  pub told-keeps : (from : ℕ) (m : Message) → from < c.nodes → from ≢ me → FitsMessage c m
      → KeepsSide c me a s (heap_told me s from m)
  told-keeps from m below foreign fits =
      told-by_rows {P = KeepsSide c me a s} (record {
        breach =
            record {
              sound = sound;
              fits = all_none (FitsParcel c me);
              few = omega arith;
              apart = λ e is. (e, is);
              under = λ k number is. is;
            };
        serves = λ k h there. record {
          sound = kept_side c me a s h k there sound;
          fits = all_one (FitsParcel c me) _
              (answer_sent from m.call k h there below foreign fits.call_from fits.call_to);
          few = omega arith;
          apart = λ e is. (e, is);
          under = λ j number is. is;
        };
        told = λ k number r is. record {
          sound = record {
            away = sound.away;
            home = sound.home;
            heap_request = (k, subst (IsHeapRequestOf c a) is sound.heap_request);
            owed = λ j in_progress. (heap_request.Told r, refl);
            none = λ zero. absurd (none-some _ (sym (sound.none zero) ∙ is));
          };
          fits = all_none (FitsParcel c me);
          few = omega arith;
          apart = λ e same. (heap_request.Asked k number, is);
          under = λ j n same.
              (let e : heap_request.Told r ≡ heap_request.Asked j n = same_Some _ _ same in absurd cc);
        };
      })

  -- node 0 can be asked
  pub request_sent : (k : HeapCall) (number : ℕ) → s.heap ≡ None
      → nat_lt (number_in k) (2 ^ 64) ≡ true → 1 ≤ number → number < 2 ^ 64
      → FitsParcel c me (parcel_to me 0 me number (request k))
  request_sent k number away small least most = record {
    source = refl;
    here = here;
    dest = (let few = limits.nodes_from in omega (arith, few));
    apart = λ same. sound.away away (sym same);
    message =
        record {
          origin = here;
          call_from = least;
          call_to = most;
          content = request_fits c k (ltb-true (number_in k) (2 ^ 64) small);
        };
  }

-- the side of a node as it begins
first_as : (c : Config) (me : ℕ) (b : Bool) → (me == 0) ≡ b
    → IsSoundSide c me None
    (record { heap = if b then Some (first_heap c) else None; heap_request = None })
first_as c me true is =
    record {
      away = λ none. absurd (none-some _ (sym none));
      home = λ h same.
          (ap (λ (x : HeapState). x.config) (sym (same_Some _ h same)), eqb-true me 0 is);
      heap_request = tt;
      owed = λ k in_progress. absurd (idle_words c k in_progress);
      none = λ zero. refl;
    }
first_as c me false is =
    record {
      away = λ none. eqb-false me 0 is;
      home = λ h same. absurd (none-some h same);
      heap_request = tt;
      owed = λ k in_progress. absurd (idle_words c k in_progress);
      none = λ zero. refl;
    }

pub first_sound-side : (c : Config) (me : ℕ) → IsSoundSide c me None (first_side c me)
first_sound-side c me = first_as c me (me == 0) refl

-- a call of the heap that begins posts one message at most
few_if : (me : ℕ) (s : HeapSide) (k : HeapCall) (number : ℕ) (o : Option HeapState)
    → length (heap_begun_at me s k number o).posted ≤ most_posted
few_if me s k number (Some h) = omega arith
few_if me s k number None =
    either (λ (b : HeapBegun). length b.posted ≤ most_posted) (nat_lt (number_in k) (2 ^ 64)) _ _
    (omega arith) (omega arith)

pub heap_begun-few : (me : ℕ) (s : HeapSide) (k : HeapCall) (number : ℕ)
    → length (heap_begun me s k number).posted ≤ most_posted
heap_begun-few me s k number = few_if me s k number s.heap

unserved_at : {S : Type 0} (m : NodeMemory S) (k : Call) (number : ℕ) (h : HeapCall)
    (o : Option HeapState) → (heap_begun_at m.coherence.me m.side h number o).answer ≡ Unserved
    → ((heap_answered m k number (heap_begun_at m.coherence.me m.side h number o)).after ≡ m)
    × ((heap_begun_at m.coherence.me m.side h number o).posted ≡ [])
unserved_at m k number h (Some g) is = absurd cc
unserved_at m k number h None is =
    either (λ (b : HeapBegun). b.answer ≡ Unserved
    → ((heap_answered m k number b).after ≡ m) × (b.posted ≡ []))
    (nat_lt (number_in h) (2 ^ 64)) _ _ (λ asks. absurd cc) (λ none. (refl, refl)) is

-- a call of the heap that does not begin changes nothing
pub heap_unserved : {S : Type 0} (m : NodeMemory S) (k : Call) (number : ℕ) (h : HeapCall)
    → (heap_begun m.coherence.me m.side h number).answer ≡ Unserved
    → ((heap_answered m k number (heap_begun m.coherence.me m.side h number)).after ≡ m)
    × ((heap_begun m.coherence.me m.side h number).posted ≡ [])
heap_unserved m k number h is = unserved_at m k number h m.side.heap is
