-- What an entry of a log adds to what is counted of those behind it.
use Rattle.std.proofs.Common.{◌≡◌, ◌<◌, ◌≤◌, ◌+◌, ◌==◌, ◌&&◌, ◌||◌, nat_lt, ℕ, Bool, true, false, List, ◌∷◌, length, slice_index_or, slice_set, Some, unwrap_or, refl, sym, ap, ◌∙◌, subst, arith, if◌then◌else◌, replicate, drop}
use mir.Val.{bool_byte}
use Rattle.std.proofs.lemmas.Bool.{eqb-true, eqb-false, ltb-true, ltb-false}
use Rattle.std.proofs.lemmas.List.{drop_all, get_or-replicate, get_or-set_same, get_or-set_other, length-replicate, length-set}
use Rattle.std.proofs.lemmas.Option.{slice_get_past, unwrap_or-slice_get}
use Rattle.ivy_model.specs.declared.Call.{Call}
use Rattle.ivy_model.specs.declared.Config.{Config}
use Rattle.ivy_model.specs.stated.Accesses.{kind_of_call}
use Rattle.ivy_logs.specs.Entries.{LogEntry}
use Rattle.ivy_logs.specs.declared.log.LogEntry.TheVariants.{Asked, Fetched}
use Rattle.ivynode.specs.Fetched.{IsCounted, fetched_in, fetched_line, fetched_text, is_called, is_page, page_of, used_in}

-- a truth value as a number
pub as_number : (a b : Bool) → a ≡ b → bool_byte a ≡ (if b then 1 else 0)
as_number a true is = ap bool_byte is
as_number a false is = ap bool_byte is

-- before any entry is counted
pub none_counted : (size pages : ℕ) (entries : List LogEntry) (called : List Bool)
    → called ≡ replicate pages false
    → IsCounted size pages (drop (length entries) entries) called 0 0
none_counted size pages entries called is =
    rw (drop_all (length entries) entries (omega arith)) (rw is (record {
      all = length-replicate pages false;
      each = λ page within. get_or-replicate pages page false false within;
      asked = refl;
      needed = refl;
    }))

module _ (size pages : ℕ) (rest : List LogEntry) (called : List Bool) (fetched used : ℕ)
    (counted : IsCounted size pages rest called fetched used) where
  -- what stands where one page was written
  written : (page p : ℕ) (b : Bool) → p < pages → (is : Bool) → (page == p) ≡ is
      → slice_index_or (slice_set called page b) p false
      ≡ (if is then b else is_called size p rest)
  written page p b within true same =
      let long = counted.all in
      subst (λ x. slice_index_or (slice_set called x b) p false ≡ b) (sym (eqb-true page p same))
      (get_or-set_same called p b false (omega (arith, within, long)))
  written page p b within false other =
      get_or-set_other called page p b false (λ same. eqb-false page p other (sym same))
      ∙ counted.each p within

  -- whether a call for the page comes, where there is such a page
  comes : (page : ℕ)
      → nat_lt page pages && is_called size page rest ≡ slice_index_or called page false
  comes page = by (nat_lt page pages) refl
    where
      by : (b : Bool) → nat_lt page pages ≡ b
          → b && is_called size page rest ≡ slice_index_or called page false
      by true is = sym (counted.each page (ltb-true page pages is))
      by false is =
          let past : length called ≤ page =
          (let x = ltb-false page pages is in let y = counted.all in omega (arith, x, y)) in
          sym (ap (λ o. unwrap_or o false) (slice_get_past called page past))
          ∙ unwrap_or-slice_get called page false

  pub after_fetch : (page : ℕ) (write : Bool) (more : ℕ)
      → more ≡ (if slice_index_or called page false then 1 else 0)
      → IsCounted size pages (Fetched page write ∷ rest) (slice_set called page false)
      (fetched + 1) (used + more)
  after_fetch page write more is =
      let e = is ∙ ap (λ (b : Bool). if b then 1 else 0) (sym (comes page)) in
      let u = counted.needed in record {
        all = length-set called page false ∙ counted.all;
        each = λ p within. written page p false within (page == p) refl;
        asked = ap (λ n. n + 1) counted.asked;
        needed = omega (arith, u, e);
      }

  pub after_call : (call : Call) (page : ℕ) → page_of size (kind_of_call call) ≡ Some page
      → IsCounted size pages (Asked call ∷ rest) (slice_set called page true) fetched used
  after_call call page is = record {
    all = length-set called page true ∙ counted.all;
    each = λ p within.
        written page p true within (page == p) refl ∙ either (page == p) (is_called size p rest)
        ∙ ap (λ (b : Bool). b || is_called size p rest) (sym (ap (is_page p) is));
    asked = counted.asked;
    needed = counted.needed;
  }
    where
      either : (a b : Bool) → (if a then true else b) ≡ a || b
      either true b = refl
      either false b = refl

-- the line of a log whose entries were counted
pub same_line : (c : Config) (node : ℕ) (entries counted : List LogEntry) (fetched used : ℕ)
    → counted ≡ entries → fetched ≡ fetched_in counted
    → used ≡ used_in c.page_size c.pages counted
    → fetched_line node fetched used ≡ fetched_text c node entries
same_line c node entries counted fetched used same asked needed =
    ap (λ n. fetched_line node n used) asked
    ∙ ap (λ n. fetched_line node (fetched_in counted) n) needed ∙ ap (fetched_text c node) same
