-- What a reduction has folded so far.
use Rattle.std.proofs.Common.{◌≡◌, ℕ, ◌+◌, ◌*◌, List, [], ◌∷◌, ◌++◌, length}
use Rattle.std.proofs.Common.{length-append}
use Rattle.std.proofs.Common.{inl, inr, refl, sym, ap, subst, ◌∙◌, append_assoc, append-nil, arith}
use Rattle.std.specs.List.{FoldsTo}
use Rattle.std.proofs.lemmas.Fn.{FoldsTo-push}
use Rattle.ivy_model.specs.declared.call.Call.TheVariants.{Load}
use Rattle.ivy_model.specs.declared.fault.Fault.{Fault}
use Rattle.ivy_calls.specs.declared.answer.Answer.{Answer}
use Rattle.ivy_calls.specs.declared.error.CallError.{CallError}
use Rattle.ivy_calls.specs.Fails.{Fails}
use Rattle.ivy_sync.specs.declared.error.SyncError.TheVariants as error
use Rattle.ivy_sync.specs.declared.reduction.Reduction.{Reduction}
use Rattle.ivy_sync.specs.Doing.{Crosses, arrives, loads, passes, stores}
use Rattle.ivy_sync.specs.meeting.Folds.{FailsToGather, Folds}
use Rattle.ivy_sync.specs.meeting.Reductions.{finds, gathered}
use Rattle.ivy_sync.proofs.meeting.Reductions.{finds-append}

-- so many words were found, and calls at their numbers have led from the first to the last
pub record HasFolded {T : Type 0} (calls : T → ℕ → T → Type 0) (at n : ℕ) (first last : T)
    (old new : List Answer) : Type 0 where
  pub values : List ℕ
  pub long : length values ≡ n
  pub whole : new ≡ old ++ finds at 0 values
  pub folds : FoldsTo calls first values last

pub folded_none : {T : Type 0} (calls : T → ℕ → T → Type 0) (at : ℕ) (first : T)
    (old : List Answer) → HasFolded calls at 0 first first old old
folded_none calls at first old =
    record { values = []; long = refl; whole = sym (append-nil old); folds = refl }

pub folded_more : {T : Type 0} (calls : T → ℕ → T → Type 0) (at n : ℕ) (first last next : T)
    (v : ℕ) (old mid new : List Answer) → HasFolded calls at n first last old mid
    → new ≡ mid ++ loads (at + 8 * n) v ∷ [] → calls last v next
    → HasFolded calls at (n + 1) first next old new
folded_more calls at n first last next v old mid new w adds call =
    let long = w.long in
    let place : 0 + length w.values ≡ n = omega (arith, long) in
    record {
      values = w.values ++ v ∷ [];
      long = (let k = length-append w.values (v ∷ []) in omega (arith, k, long));
      whole =
          adds ∙ ap (λ (rs : List Answer). rs ++ loads (at + 8 * n) v ∷ []) w.whole
          ∙ append_assoc old (finds at 0 w.values) (loads (at + 8 * n) v ∷ [])
          ∙ ap (λ (rs : List Answer). old ++ rs)
          (ap (λ m. finds at 0 w.values ++ loads (at + 8 * m) v ∷ []) (sym place)
          ∙ sym (finds-append at 0 w.values v));
      folds = FoldsTo-push calls first w.values last v next w.folds call;
    }

-- up to here the history is that of a reduction with these values
pub gathered_so : (r : Reduction) (me value : ℕ) (values : List ℕ) (h0 h1 h2 h3 : List Answer)
    → h1 ≡ h0 ++ stores (r.addr + 8 * me) value ∷ []
    → (crosses : Crosses r.barrier.count (r.barrier.passed + r.barrier.nodes) h1 h2)
    → h3 ≡ h2 ++ finds r.addr 0 values
    → h3
    ≡ gathered r.addr r.barrier.count (r.barrier.passed + r.barrier.nodes) value me crosses.found
    values h0
gathered_so r me value values h0 h1 h2 h3 e crosses found =
    let k = r.barrier.count in
    let pass = passes k (r.barrier.passed + r.barrier.nodes) crosses.found in
    found
    ∙ ap (λ (rs : List Answer). rs ++ finds r.addr 0 values)
    (crosses.whole ∙ ap (λ (rs : List Answer). (rs ++ arrives k ∷ []) ++ pass ∷ []) e)
    ∙ append_assoc ((h0 ++ stores (r.addr + 8 * me) value ∷ []) ++ arrives k ∷ []) (pass ∷ [])
    (finds r.addr 0 values)

-- the whole reduction
pub folds_all : {T : Type 0} (calls : T → ℕ → T → Type 0) (r : Reduction) (me value : ℕ)
    (first last : T) (h0 h1 h2 h3 : List Answer)
    → h1 ≡ h0 ++ stores (r.addr + 8 * me) value ∷ []
    → Crosses r.barrier.count (r.barrier.passed + r.barrier.nodes) h1 h2
    → HasFolded calls r.addr r.barrier.nodes first last h2 h3
    → Folds calls r me value first last h0 h3
folds_all calls r me value first last h0 h1 h2 h3 e crosses w = record {
  values = w.values;
  gathers = record {
    found = crosses.found;
    long = w.long;
    whole = gathered_so r me value w.values h0 h1 h2 h3 e crosses w.whole;
  };
  folds = w.folds;
}

-- it stops at the next number
pub find_stops : {T : Type 0} (calls : T → ℕ → T → Type 0) (can : Fault → Type 0) (r : Reduction)
    (me value n : ℕ) (first last : T) (e : CallError) (h0 h1 h2 h3 new : List Answer)
    → h1 ≡ h0 ++ stores (r.addr + 8 * me) value ∷ []
    → Crosses r.barrier.count (r.barrier.passed + r.barrier.nodes) h1 h2
    → HasFolded calls r.addr n first last h2 h3 → Fails can (Load 8 (r.addr + 8 * n)) e h3 new
    → FailsToGather can r me value (error.Call e) h0 new
find_stops calls can r me value n first last e h0 h1 h2 h3 new stored crosses w fails =
    let all = gathered_so r me value w.values h0 h1 h2 h3 stored crosses w.whole in
    inr (record {
      values = w.values;
      found = crosses.found;
      stops =
          inl (subst (λ (h : List Answer). Fails can (Load 8
          (r.addr + 8 * length w.values)) e h new) all
          (subst (λ k. Fails can (Load 8 (r.addr + 8 * k)) e h3 new) (sym w.long) fails));
    })
