-- How many words a call has.
use Rattle.std.proofs.Common.{ℕ, ◌+◌, ◌≤◌, List, [], ◌∷◌, length, arith}
use Rattle.std.proofs.lemmas.Slice.Zip.{AllZip-long}
use Rattle.ivy_model.specs.declared.Call.{Call}
use Rattle.ivy_model.specs.declared.Call.TheVariants.{Load, Store, Swap, Cas, FetchAdd, Count, Advance, Await, Alloc, Free}
use Rattle.ivy_program.specs.texts.Lines.{IsNumberWord}
use Rattle.ivy_texts.specs.Spelled.{Names, SpellsCall}

few : (words : List (List ℕ)) (keyword : List ℕ) (numbers : List ℕ) → Names keyword numbers words
    → length words ≤ length numbers + 1
few [] keyword numbers h = absurd h
few (w ∷ ws) keyword numbers h = omega (arith, AllZip-long IsNumberWord ws numbers h.1)

-- five at most
pub call_counted : (words : List (List ℕ)) (c : Call) → SpellsCall words c → length words ≤ 5
call_counted words (Load width addr) h = omega (arith, few words _ (width ∷ addr ∷ []) h)
call_counted words (Store width addr value) h =
    omega (arith, few words _ (width ∷ addr ∷ value ∷ []) h)
call_counted words (Swap width addr value) h =
    omega (arith, few words _ (width ∷ addr ∷ value ∷ []) h)
call_counted words (Cas width addr expected value) h =
    omega (arith, few words _ (width ∷ addr ∷ expected ∷ value ∷ []) h)
call_counted words (FetchAdd width addr value) h =
    omega (arith, few words _ (width ∷ addr ∷ value ∷ []) h)
call_counted words (Count k) h = omega (arith, few words _ (k ∷ []) h)
call_counted words (Advance k) h = omega (arith, few words _ (k ∷ []) h)
call_counted words (Await k least) h = omega (arith, few words _ (k ∷ least ∷ []) h)
call_counted words (Alloc size) h = omega (arith, few words _ (size ∷ []) h)
call_counted words (Free addr) h = omega (arith, few words _ (addr ∷ []) h)
