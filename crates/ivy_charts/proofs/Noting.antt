-- What is noted of strings, after one is noted more.
use Rattle.std.proofs.Common.{◌≡◌, ℕ, Bool, true, false, cond, not, List, [], ◌∷◌, ◌++◌, Option, Some, None, refl, ap, ◌∙◌, arith}
use Rattle.std.specs.Prelude.{◌==◌, ◌&&◌, ◌||◌, nat_le, ltb, filter, if◌then◌else◌}
use Rattle.std.specs.Option.{option_or}
use Rattle.std.proofs.lemmas.Bool.Decides.{nat_tests}
use Rattle.ivy_charts.specs.declared.receivers.Delivered.{Delivered}
use Rattle.ivy_charts.specs.declared.receivers.Held.{Held}
use Rattle.ivy_charts.specs.Heard.{noted, kept}

-- which pairs stay, once so many messages of one are noted anew
abbrev pub is_other : ℕ → ℕ → Delivered → Bool
is_other to source d = not (d.to == to) || not (d.source == source)

-- which strings stay, once messages up to a number were delivered
abbrev pub is_later : ℕ → ℕ → ℕ → Held → Bool
is_later to source last h = (not (h.to == to) || not (h.source == source)) || ltb last h.number

noted_step : (dt ds dc to source t s count n m : ℕ)
    → m ≡ (if to == t && source == s then count else n)
    → cond (not (dt == to) || not (ds == source)) (if dt == t && ds == s then dc else m) m
    ≡ (if to == t && source == s then count else (if dt == t && ds == s then dc else n))
noted_step dt ds dc to source t s count n m is = grind (arith, nat_tests)

noted_cond : (b : Bool) (d : Delivered) (ds more : List Delivered) (t s : ℕ)
    → noted (cond b (d ∷ ds) ds ++ more) t s
    ≡ cond b (noted (d ∷ (ds ++ more)) t s) (noted (ds ++ more) t s)
noted_cond true d ds more t s = refl
noted_cond false d ds more t s = refl

-- so many are noted of the pair, and of the others as many as before
pub noted_anew : (ds : List Delivered) (new : Delivered) (t s : ℕ)
    → noted (filter (is_other new.to new.source) ds ++ new ∷ []) t s
    ≡ (if new.to == t && new.source == s then new.count else noted ds t s)
noted_anew [] new t s = refl
noted_anew (d ∷ ds) new t s =
    noted_cond (is_other new.to new.source d) d (filter (is_other new.to new.source) ds) (new ∷ []) t s
    ∙ noted_step d.to d.source d.count new.to new.source t s new.count (noted ds t s)
    (noted (filter (is_other new.to new.source) ds ++ new ∷ []) t s) (noted_anew ds new t s)

kept_step : (ht hs hn hp to source last t s number : ℕ) (n m : Option ℕ)
    → m ≡ (if (to == t && source == s) && nat_le number last then None else n)
    → cond ((not (ht == to) || not (hs == source)) || ltb last hn)
    (if (ht == t && hs == s) && hn == number then Some hp else m) m
    ≡ (if (to == t && source == s) && nat_le number last then None
    else (if (ht == t && hs == s) && hn == number then Some hp else n))
kept_step ht hs hn hp to source last t s number n m is = grind (arith, nat_tests)

kept_cond : (b : Bool) (h : Held) (hs : List Held) (t s number : ℕ)
    → kept (cond b (h ∷ hs) hs) t s number ≡ cond b (kept (h ∷ hs) t s number) (kept hs t s number)
kept_cond true h hs t s number = refl
kept_cond false h hs t s number = refl

-- of the pair nothing is held up to the number, and what else is held is held as before
pub kept_later : (hs : List Held) (to source last t s number : ℕ)
    → kept (filter (is_later to source last) hs) t s number
    ≡ (if (to == t && source == s) && nat_le number last then None else kept hs t s number)
kept_later [] to source last t s number = grind (arith, nat_tests)
kept_later (h ∷ hs) to source last t s number =
    kept_cond (is_later to source last h) h (filter (is_later to source last) hs) t s number
    ∙ kept_step h.to h.source h.number h.place to source last t s number (kept hs t s number)
    (kept (filter (is_later to source last) hs) t s number)
    (kept_later hs to source last t s number)

or_cond : (b : Bool) (place : ℕ) (m o : Option ℕ) → (if b then Some place else option_or m o)
    ≡ option_or (if b then Some place else m) o
or_cond true place m o = refl
or_cond false place m o = refl

-- one string more
pub kept_more : (hs : List Held) (h : Held) (t s number : ℕ) → kept (hs ++ h ∷ []) t s number
    ≡ option_or (kept hs t s number)
    (if (h.to == t && h.source == s) && h.number == number then Some h.place else None)
kept_more [] h t s number = refl
kept_more (x ∷ hs) h t s number =
    ap (λ (o : Option ℕ). if (x.to == t && x.source == s) && x.number == number then Some x.place else o)
    (kept_more hs h t s number)
    ∙ or_cond ((x.to == t && x.source == s) && x.number == number) x.place (kept hs t s number)
    (if (h.to == t && h.source == s) && h.number == number then Some h.place else None)
