-- Pages that are touched.
use Rattle.std.proofs.Common.{◌≡◌, ℕ, ◌+◌, ◌*◌, ◌%◌, ◌^◌, ◌<◌, Bool, true, false, List, [], ◌∷◌, ◌++◌}
use Rattle.std.proofs.Common.{if◌then◌else◌, length, refl, sym, ap, ◌∙◌, append-nil, append_assoc, length-append}
use Rattle.std.proofs.Common.{mod-eq_of_lt, arith}
use Rattle.ivy_calls.specs.declared.answer.Answer.{Answer}
use Rattle.ivy_sync.specs.HeapWords.{is_write_in, last, word_after}
use Rattle.ivy_sync.specs.Touching.{touches, touched, HasTouched, TouchesKeep}

pub touched-append : (addr apart n : ℕ) (vs : List ℕ) (v : ℕ)
    → touched addr apart n (vs ++ v ∷ [])
    ≡ touched addr apart n vs ++ touches (addr + apart * (n + length vs)) v ∷ []
touched-append addr apart n [] v =
    ap (λ m. touches (addr + apart * m) v ∷ []) (let e : n ≡ n + 0 = omega arith in e)
touched-append addr apart n (x ∷ vs) v =
    ap (λ rs. touches (addr + apart * n) x ∷ rs) (touched-append addr apart (n + 1) vs v
    ∙ ap (λ m. touched addr apart (n + 1) vs ++ touches (addr + apart * m) v ∷ [])
    (let e : n + 1 + length vs ≡ n + length (x ∷ vs) = omega arith in e))

pub touched_none : (addr apart : ℕ) (old : List Answer) → HasTouched addr apart 0 old old
touched_none addr apart old = record { found = []; long = refl; whole = sym (append-nil old) }

pub touched_more : (addr apart n v : ℕ) (old mid new : List Answer) → HasTouched addr apart n old mid
    → new ≡ mid ++ touches (addr + apart * n) v ∷ [] → HasTouched addr apart (n + 1) old new
touched_more addr apart n v old mid new w adds =
    let long = w.long in
    let place : 0 + length w.found ≡ n = omega (arith, long) in
    record {
      found = w.found ++ v ∷ [];
      long = (let k = length-append w.found (v ∷ []) in omega (arith, k, long));
      whole =
          adds ∙ ap (λ (rs : List Answer). rs ++ touches (addr + apart * n) v ∷ []) w.whole
          ∙ append_assoc old (touched addr apart 0 w.found) (touches (addr + apart * n) v ∷ [])
          ∙ ap (λ (rs : List Answer). old ++ rs)
          (ap (λ m. touched addr apart 0 w.found ++ touches (addr + apart * m) v ∷ []) (sym place)
          ∙ sym (touched-append addr apart 0 w.found v));
    }

-- a word to which 0 is added is as it was
kept : (a v addr found : ℕ) (b : Bool) → is_write_in a (touches addr found).call ≡ b → v < 2 ^ 64
    → word_after a v (touches addr found).call ≡ v
kept a v addr found true is small =
    let same : v + 0 ≡ v = omega arith in
    ap (λ b. if b then ((v + 0) % 2 ^ 64) % 2 ^ 64 else v) is
    ∙ ap (λ x. (x % 2 ^ 64) % 2 ^ 64) same
    ∙ ap (λ x. x % 2 ^ 64) (mod-eq_of_lt small) ∙ mod-eq_of_lt small
kept a v addr found false is small =
    ap (λ b. if b then ((v + 0) % 2 ^ 64) % 2 ^ 64 else v) is

pub touches-keep : TouchesKeep
touches-keep a v addr apart n [] small = refl
touches-keep a v addr apart n (x ∷ xs) small =
    ap (λ u. last a u (touched addr apart (n + 1) xs))
    (kept a v (addr + apart * n) x (is_write_in a (touches (addr + apart * n) x).call) refl small)
    ∙ touches-keep a v addr apart (n + 1) xs small
