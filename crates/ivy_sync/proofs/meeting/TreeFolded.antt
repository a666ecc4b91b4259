-- What a node of a reduction by a tree has done so far.
use Rattle.std.proofs.Common.{◌≡◌, ℕ, suc, ◌+◌, ◌*◌, ◌^◌, ◌<◌, inl, inr, List, [], ◌∷◌, ◌++◌, length}
use Rattle.std.proofs.Common.{refl, sym, ap, subst, ◌∙◌, append_assoc, append-nil, length-append, arith}
use Rattle.std.specs.List.{FoldsTo}
use Rattle.std.proofs.lemmas.Fn.{FoldsTo-push}
use Rattle.ivy_model.specs.declared.call.Call.TheVariants.{Load, Store}
use Rattle.ivy_model.specs.declared.call.Reply.TheVariants.{Done}
use Rattle.ivy_model.specs.declared.fault.Fault.{Fault}
use Rattle.ivy_calls.specs.declared.answer.Answer.{Answer}
use Rattle.ivy_calls.specs.declared.error.CallError.{CallError}
use Rattle.ivy_calls.specs.Fails.{Fails}
use Rattle.ivy_sync.specs.declared.error.SyncError.TheVariants as error
use Rattle.ivy_sync.specs.declared.tree_reduction.TreeReduction.{TreeReduction}
use Rattle.ivy_sync.specs.Doing.{loads, stores}
use Rattle.ivy_sync.specs.meeting.TreeBarriers.{AddsAbove, AddsGathered, children, phase_of}
use Rattle.ivy_sync.specs.meeting.TreeFolds.{AddsFetched, AddsPart, AddsRise, FailsToDescend, FailsToPart}
use Rattle.ivy_sync.specs.meeting.TreeFolds.{FailsToRise, word_at}
use Rattle.ivy_sync.specs.meeting.TreeReductions.{Part, Raised, Given, Opened, finds_from}

finds_from-append : (at : ℕ → ℕ) (n : ℕ) (vs : List ℕ) (v : ℕ)
    → finds_from at n (vs ++ v ∷ []) ≡ finds_from at n vs ++ loads (at (n + length vs)) v ∷ []
finds_from-append at n [] v =
    ap (λ m. loads (at m) v ∷ []) (let e : n ≡ n + 0 = omega arith in e)
finds_from-append at n (x ∷ vs) v =
    ap (λ (rs : List Answer). loads (at n) x ∷ rs) (finds_from-append at (n + 1) vs v
    ∙ ap (λ m. finds_from at (n + 1) vs ++ loads (at m) v ∷ [])
    (let e : n + 1 + length vs ≡ n + suc (length vs) = omega arith in e))

-- so many words were found, and calls at their numbers have led from the first to the last
pub record HasPut (calls : ℕ → ℕ → ℕ → Type 0) (at : ℕ → ℕ) (from n first last : ℕ)
    (old new : List Answer) : Type 0 where
  pub values : List ℕ
  pub long : length values ≡ n
  pub whole : new ≡ old ++ finds_from at from values
  pub folds : FoldsTo calls first values last

pub put_none : (calls : ℕ → ℕ → ℕ → Type 0) (at : ℕ → ℕ) (from first : ℕ) (old : List Answer)
    → HasPut calls at from 0 first first old old
put_none calls at from first old =
    record { values = []; long = refl; whole = sym (append-nil old); folds = refl }

pub put_more : (calls : ℕ → ℕ → ℕ → Type 0) (at : ℕ → ℕ) (from n first last next v : ℕ)
    (old mid new : List Answer) → HasPut calls at from n first last old mid
    → new ≡ mid ++ loads (at (from + n)) v ∷ [] → calls last v next
    → HasPut calls at from (n + 1) first next old new
put_more calls at from n first last next v old mid new w adds call =
    let long = w.long in
    record {
      values = w.values ++ v ∷ [];
      long = (let k = length-append w.values (v ∷ []) in omega (arith, k, long));
      whole =
          adds ∙ ap (λ (rs : List Answer). rs ++ loads (at (from + n)) v ∷ []) w.whole
          ∙ append_assoc old (finds_from at from w.values) (loads (at (from + n)) v ∷ [])
          ∙ ap (λ (rs : List Answer). old ++ rs)
          (ap (λ m. finds_from at from w.values ++ loads (at (from + m)) v ∷ []) (sym long)
          ∙ sym (finds_from-append at from w.values v));
      folds = FoldsTo-push calls first w.values last v next w.folds call;
    }

-- it stops at the next child's part
pub part_stops : (calls : ℕ → ℕ → ℕ → Type 0) (can : Fault → Type 0) (r : TreeReduction)
    (me n first last : ℕ) (e : CallError) (old mid new : List Answer)
    → HasPut calls (word_at r Part) (4 * me + 1) n first last old mid → n < children r.tree.nodes me
    → Fails can (Load 8 (word_at r Part (4 * me + 1 + n))) e mid new → FailsToPart can r me e old new
part_stops calls can r me n first last e old mid new w few fails =
    let long = w.long in
    record {
      values = w.values;
      some = omega (arith, few, long);
      fails =
          subst (λ (h : List Answer). Fails can
          (Load 8 (word_at r Part (4 * me + 1 + length w.values))) e h new) w.whole
          (subst (λ k. Fails can (Load 8 (word_at r Part (4 * me + 1 + k))) e mid new) (sym long) fails);
    }

-- the last store of the way up stops
pub rise_stops : (calls : ℕ → ℕ → ℕ → Type 0) (can : Fault → Type 0) (r : TreeReduction)
    (me value part : ℕ) (e : CallError) (old up mid put new : List Answer)
    → AddsGathered r.tree me old up → AddsPart calls r me value part up mid
    → put ≡ mid ++ stores (word_at r Part me) part ∷ []
    → Fails can (Store 8 (word_at r Raised me) (phase_of r.tree)) e put new
    → FailsToRise calls can r me value (error.Call e) old new
rise_stops calls can r me value part e old up mid put new gathers adds puts fails =
    inr (inr (
      up,
      mid,
      part,
      gathers,
      adds,
      inr (
        Done,
        inl (subst (λ (h : List Answer). Fails can
            (Store 8 (word_at r Raised me) (phase_of r.tree)) e h new) puts fails),
      ),
    ))

-- or the first of the way up
pub part_not_left : (calls : ℕ → ℕ → ℕ → Type 0) (can : Fault → Type 0) (r : TreeReduction)
    (me value part : ℕ) (e : CallError) (old up mid new : List Answer)
    → AddsGathered r.tree me old up → AddsPart calls r me value part up mid
    → Fails can (Store 8 (word_at r Part me) part) e mid new
    → FailsToRise calls can r me value (error.Call e) old new
part_not_left calls can r me value part e old up mid new gathers adds fails =
    inr (inr (up, mid, part, gathers, adds, inl fails))

-- where nothing does, the part is left
pub rises_so : (calls : ℕ → ℕ → ℕ → Type 0) (r : TreeReduction) (me value part : ℕ)
    (old up mid put new : List Answer) → AddsGathered r.tree me old up
    → AddsPart calls r me value part up mid → part < 2 ^ 64
    → put ≡ mid ++ stores (word_at r Part me) part ∷ []
    → new ≡ put ++ stores (word_at r Raised me) (phase_of r.tree) ∷ []
    → AddsRise calls r me value part old new
rises_so calls r me value part old up mid put new gathers adds fits puts raises =
    let leaves : Answer = stores (word_at r Part me) part in
    let last : Answer = stores (word_at r Raised me) (phase_of r.tree) in
    let found : List Answer = finds_from (word_at r Part) (4 * me + 1) adds.values in
    record {
      values = adds.values;
      rise = (gathers.gathered ++ found) ++ (leaves ∷ last ∷ []);
      rises = record {
        gathered = gathers.gathered;
        gathers = gathers.gathers;
        long = adds.long;
        fits = fits;
        whole = refl;
      };
      folds = adds.folds;
      whole =
          raises ∙ ap (λ (l : List Answer). l ++ last ∷ []) puts
          ∙ append_assoc mid (leaves ∷ []) (last ∷ [])
          ∙ ap (λ (l : List Answer). l ++ (leaves ∷ last ∷ []))
          (adds.whole ∙ ap (λ (l : List Answer). l ++ found) gathers.whole
          ∙ append_assoc old gathers.gathered found)
          ∙ append_assoc old (gathers.gathered ++ found) (leaves ∷ last ∷ []);
    }

-- the last store of the way down stops
pub descent_stops : (can : Fault → Type 0) (r : TreeReduction) (me part all : ℕ) (e : CallError)
    (old down mid put new : List Answer) → AddsAbove r.tree me old down
    → AddsFetched r me part all down mid → put ≡ mid ++ stores (word_at r Given me) all ∷ []
    → Fails can (Store 8 (word_at r Opened me) (phase_of r.tree)) e put new
    → FailsToDescend can r me part (error.Call e) old new
descent_stops can r me part all e old down mid put new awaits fetches puts fails =
    inr (inr (
      down,
      mid,
      all,
      awaits,
      fetches,
      inr (
        Done,
        inl (subst (λ (h : List Answer). Fails can
            (Store 8 (word_at r Opened me) (phase_of r.tree)) e h new) puts fails),
      ),
    ))
