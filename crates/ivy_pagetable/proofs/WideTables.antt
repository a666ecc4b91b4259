-- The entries and pages of a table of many pages.
use Rattle.std.proofs.Common.{◌≡◌, ◌≢◌, ℕ, zero, suc, ◌<◌, List, [], ◌∷◌, ◌++◌, length, get_or, set, replicate, refl, sym, ap, ◌∙◌, subst, arith}
use Rattle.std.proofs.Common.{map, All, Bool, true, false, not, cond, eqb-true, eqb, inl, inr, if◌then◌else◌}
use Rattle.std.specs.List.{AllByRecursion, count_by, refill}
use Rattle.std.specs.List.Retain.{RetainsInTurn}
use Rattle.std.proofs.Common.{take, drop, append-nil}
use Rattle.std.proofs.Math.Seq.{take-length}
use Rattle.std.proofs.lemmas.Bool.{cases_Bool, eq-eqb}
use Rattle.std.proofs.lemmas.List.Elements.{All-get_or}
use Rattle.std.proofs.lemmas.List.{drop_all, length-map, length-set, get_or-map, get_or-set_same, get_or-set_other, get_or_default, set-get_or, set-set, set_comm, map-set}
use Rattle.std.proofs.lemmas.List.Sums.{sum_by-set}
use Rattle.ivy_model.specs.declared.Config.{Config}
use Rattle.ivy_pagetable.specs.declared.entry.Entry.{Entry}
use Rattle.ivy_pagetable.specs.declared.entry.Entry.TheVariants as entry
use Rattle.ivy_pagetable.specs.declared.put_off.PutOff.{PutOff}
use Rattle.ivy_pagetable.specs.declared.wide_table.Locked.{Locked}
use Rattle.ivy_pagetable.specs.stated.Entries.{nothing, without, is_locked, can_put_off, with_put_off}
use Rattle.ivy_pagetable.specs.LockedEntries.{locked_beside}
use Rattle.ivy_pagetable.specs.Pages.{shown_page, HasAllOrNone}
use Rattle.ivy_pagetable.specs.stated.States.{IdleState}
use Rattle.ivy_pagetable.specs.stated.TableState.{Table}
use Rattle.ivy_pagetable.specs.stated.Tables.{first_entry, first_table, entry_at, page_at, with_entry, with_page}
use Rattle.ivy_pagetable.specs.WideTables.{entries_in, StandsNowhere, StandsAt, without_page, AreApart, IsAside, IsWideTable}

each_of : {X Y : Type 0} (f : X → Y) (x : X) (n : ℕ) → map f (replicate n x) ≡ replicate n (f x)
each_of f x zero = refl
each_of f x (suc n) = ap (λ ys. f x ∷ ys) (each_of f x n)

-- the table at first
pub first_wide : (c : Config) (me : ℕ) (idle : List IdleState) (ls : List Locked)
    (pages : List (List ℕ)) → map entry.Idle idle ≡ replicate c.pages (first_entry me)
    → ls ≡ [] → pages ≡ replicate c.pages []
    → ◌≡◌ {A = Table}
    (record {
      page_size = c.page_size;
      entries = entries_in idle ls;
      pages = map (shown_page c.page_size) pages;
    })
    (first_table c me)
first_wide c me idle ls pages idle_are none pages_are =
    let zeros : map (shown_page c.page_size) pages ≡ replicate c.pages (replicate c.page_size 0) =
    ap (map (shown_page c.page_size)) pages_are ∙ each_of (shown_page c.page_size) [] c.pages in
    let entries : entries_in idle ls ≡ replicate c.pages (first_entry me) =
    ap (entries_in idle) none ∙ idle_are in
    (λ j. record { page_size = c.page_size; entries = entries j; pages = zeros j })

pub entries_long : (idle : List IdleState) (ls : List Locked)
    → length (entries_in idle ls) ≡ length idle
entries_long idle [] = length-map idle entry.Idle
entries_long idle (l ∷ ls) =
    length-set (entries_in idle ls) l.page l.entry ∙ entries_long idle ls

-- what the fields are seen as
abbrev pub seen_as : ℕ → List IdleState → List Locked → List (List ℕ) → Table
seen_as size idle locked pages = record {
  page_size = size;
  entries = entries_in idle locked;
  pages = map (shown_page size) pages;
}

-- none of these is the page's: so at each place
nowhere_at : (page : ℕ) (ls : List Locked) → StandsNowhere page ls
    → (place : ℕ) (d : Locked) → place < length ls → (get_or ls place d).page ≢ page
nowhere_at page [] none place d lt = absurd (omega arith)
nowhere_at page (l ∷ ls) none zero d lt = none.0
nowhere_at page (l ∷ ls) none (suc place) d lt = nowhere_at page ls none.1 place d (omega arith)

-- where none of these is the page's, the idle entry is
pub idle_there : (idle : List IdleState) (ls : List Locked) (page : ℕ) → page < length idle
    → StandsNowhere page ls
    → entry.Idle (get_or idle page without) ≡ get_or (entries_in idle ls) page nothing
idle_there idle [] page lt none = sym (get_or-map entry.Idle idle page without nothing lt)
idle_there idle (l ∷ ls) page lt none =
    idle_there idle ls page lt none.1
    ∙ sym (get_or-set_other (entries_in idle ls) l.page page l.entry nothing
    (λ e. none.0 (sym e)))

-- a locked entry is that of its page
pub locked_there : (idle : List IdleState) (ls : List Locked) → AreApart ls
    → AllByRecursion (IsAside idle) ls → (place : ℕ) (d : Locked) → place < length ls
    → (get_or ls place d).entry
    ≡ get_or (entries_in idle ls) (get_or ls place d).page nothing
locked_there idle [] apart aside place d lt = absurd (omega arith)
locked_there idle (l ∷ ls) apart aside zero d lt =
    let inside : l.page < length idle = aside.0.inside in
    let within : l.page < length (entries_in idle ls) =
    omega (arith, inside, entries_long idle ls) in
    sym (get_or-set_same (entries_in idle ls) l.page l.entry nothing within)
locked_there idle (l ∷ ls) apart aside (suc place) d lt =
    let less : place < length ls = omega arith in
    locked_there idle ls apart.1 aside.1 place d less
    ∙ sym (get_or-set_other (entries_in idle ls) l.page (get_or ls place d).page l.entry nothing
    (nowhere_at l.page ls apart.0 place d less))

-- a page whose idle entry gives some access is none of these
pub open_nowhere : (idle : List IdleState) (page : ℕ) → get_or idle page without ≢ without
    → (ls : List Locked) → AllByRecursion (IsAside idle) ls → StandsNowhere page ls
open_nowhere idle page some [] aside = tt
open_nowhere idle page some (l ∷ ls) aside = (
  λ e. some (ap (λ (i : ℕ). get_or idle i without) (sym e) ∙ aside.0.hidden),
  open_nowhere idle page some ls aside.1,
)

-- what another entry of the page stands over
pub set_without : (idle : List IdleState) (page : ℕ) (e : Entry) (ls : List Locked)
    → set (entries_in idle (without_page page ls)) page e ≡ set (entries_in idle ls) page e
set_without idle page e [] = refl
set_without idle page e (l ∷ ls) =
    elim (cases_Bool (eqb l.page page)) [
      | inl here ↦ ap (λ b. set (entries_in idle (cond (not b) (l ∷ rest) rest)) page e) here
          ∙ set_without idle page e ls
          ∙ sym (ap (λ (i : ℕ). set (set (entries_in idle ls) i l.entry) page e)
          (eqb-true l.page page here)
          ∙ set-set (entries_in idle ls) page l.entry e)
      | inr other ↦ ap (λ b. set (entries_in idle (cond (not b) (l ∷ rest) rest)) page e) other
          ∙ set_comm (entries_in idle rest) l.page page l.entry e (apart other)
          ∙ ap (λ es. set es l.page l.entry) (set_without idle page e ls)
          ∙ sym (set_comm (entries_in idle ls) l.page page l.entry e (apart other))
    ]
  where
    rest : List Locked
    rest = without_page page ls

    apart : eqb l.page page ≡ false → l.page ≢ page
    apart other at =
        let same : eqb l.page page ≡ true = eq-eqb l.page page at in
        let f : false ≡ true = sym other ∙ same in cc

-- what holds of each of these holds of each but the page's
all_without : (P : Locked → Type 0) (page : ℕ) (ls : List Locked) → AllByRecursion P ls
    → AllByRecursion P (without_page page ls)
all_without P page [] all = tt
all_without P page (l ∷ ls) all =
    elim (eqb l.page page)
    as (λ b. AllByRecursion P (cond (not b) (l ∷ without_page page ls) (without_page page ls))) [
      | true ↦ all_without P page ls all.1
      | false ↦ (all.0, all_without P page ls all.1)
    ]

pub aside_without : (idle : List IdleState) (page : ℕ) (ls : List Locked)
    → AllByRecursion (IsAside idle) ls → AllByRecursion (IsAside idle) (without_page page ls)
aside_without idle page ls = all_without (IsAside idle) page ls

pub apart_without : (page : ℕ) (ls : List Locked) → AreApart ls → AreApart (without_page page ls)
apart_without page [] apart = tt
apart_without page (l ∷ ls) apart =
    elim (eqb l.page page)
    as (λ b. AreApart (cond (not b) (l ∷ without_page page ls) (without_page page ls))) [
      | true ↦ apart_without page ls apart.1
      | false ↦ (all_without (λ k. k.page ≢ l.page) page ls apart.0, apart_without page ls apart.1)
    ]

pub nowhere_without : (page : ℕ) (ls : List Locked) → StandsNowhere page (without_page page ls)
nowhere_without page [] = tt
nowhere_without page (l ∷ ls) =
    elim (cases_Bool (eqb l.page page)) [
      | inl here ↦ rw here (nowhere_without page ls)
      | inr other ↦ rw other (
        λ at. let same : eqb l.page page ≡ true = eq-eqb l.page page at in
            let f : false ≡ true = sym other ∙ same in cc,
        nowhere_without page ls,
      )
    ]

-- an idle entry of a page that is none of these
pub idle_set : (idle : List IdleState) (page : ℕ) (s : IdleState) (ls : List Locked)
    → StandsNowhere page ls
    → entries_in (set idle page s) ls ≡ set (entries_in idle ls) page (entry.Idle s)
idle_set idle page s [] none = map-set entry.Idle idle page s
idle_set idle page s (l ∷ ls) none =
    ap (λ es. set es l.page l.entry) (idle_set idle page s ls none.1)
    ∙ set_comm (entries_in idle ls) page l.page (entry.Idle s) l.entry (λ e. none.0 (sym e))

pub idle_kept : (idle : List IdleState) (page : ℕ) (s : IdleState) (ls : List Locked)
    → StandsNowhere page ls → AllByRecursion (IsAside idle) ls
    → AllByRecursion (IsAside (set idle page s)) ls
idle_kept idle page s [] none aside = tt
idle_kept idle page s (l ∷ ls) none aside = (
  record {
    inside = let long = length-set idle page s in let inside : l.page < length idle = aside.0.inside in
        omega (arith, long, inside);
    waits = aside.0.waits;
    hidden = get_or-set_other idle page l.page s without none.0 ∙ aside.0.hidden;
  },
  idle_kept idle page s ls none.1 aside.1,
)

-- one more, of a page that is none of these
pub pushed : (idle : List IdleState) (page : ℕ) (e : Entry) (ls : List Locked)
    → StandsNowhere page ls
    → entries_in idle (ls ++ record { page = page; entry = e } ∷ [])
    ≡ set (entries_in idle ls) page e
pushed idle page e [] none = refl
pushed idle page e (l ∷ ls) none =
    ap (λ es. set es l.page l.entry) (pushed idle page e ls none.1)
    ∙ set_comm (entries_in idle ls) page l.page e l.entry (λ at. none.0 (sym at))

all_pushed : (P : Locked → Type 0) (k : Locked) (ls : List Locked) → AllByRecursion P ls → P k
    → AllByRecursion P (ls ++ k ∷ [])
all_pushed P k [] all here = (here, tt)
all_pushed P k (l ∷ ls) all here = (all.0, all_pushed P k ls all.1 here)

pub apart_pushed : (k : Locked) (ls : List Locked) → AreApart ls → StandsNowhere k.page ls
    → AreApart (ls ++ k ∷ [])
apart_pushed k [] apart none = (tt, tt)
apart_pushed k (l ∷ ls) apart none = (
  all_pushed (λ x. x.page ≢ l.page) k ls apart.0 (λ e. none.0 (sym e)),
  apart_pushed k ls apart.1 none.1,
)

pub aside_pushed : (idle : List IdleState) (k : Locked) (ls : List Locked)
    → AllByRecursion (IsAside idle) ls → IsAside idle k
    → AllByRecursion (IsAside idle) (ls ++ k ∷ [])
aside_pushed idle k ls = all_pushed (IsAside idle) k ls

-- an entry that is not idle is locked
pub locked_entry : (e : Entry) → ((s : IdleState) → e ≡ entry.Idle s → ⊥) → is_locked e ≡ true
locked_entry (entry.Idle s) not = absurd (not s refl)
locked_entry (entry.AwaitRead s) not = refl
locked_entry (entry.AwaitWrite s) not = refl
locked_entry (entry.AwaitAcks s) not = refl

-- bytes that are all of a page are shown
pub shown_whole : (size : ℕ) (bytes : List ℕ) → length bytes ≡ size → shown_page size bytes ≡ bytes
shown_whole size [] long = ap (λ (n : ℕ). replicate n 0) (sym long)
shown_whole size (b ∷ bytes) long = refl

-- a page has these bytes from now on, which are its own
pub page_set : (t : Table) (size : ℕ) (idle : List IdleState) (locked : List Locked)
    (pages : List (List ℕ)) → seen_as size idle locked pages ≡ t
    → (page : ℕ) (own bytes : List ℕ) → own ≡ bytes → length bytes ≡ t.page_size
    → seen_as size idle locked (set pages page own) ≡ with_page t page bytes
page_set t size idle locked pages is page own bytes same long =
    let whole : length own ≡ size = ap length same ∙ long ∙ sym (ap (λ x. x.page_size) is) in
    ap (λ ps. record { page_size = size; entries = entries_in idle locked; pages = ps })
    (map-set (shown_page size) pages page own
    ∙ ap (set (map (shown_page size) pages) page) (shown_whole size own whole ∙ same))
    ∙ ap (λ x. with_page x page bytes) is

-- a page without bytes of its own is zeros, and another one is its own bytes
shown_zeros : (size : ℕ) (own : List ℕ) → eqb (length own) 0 ≡ true
    → shown_page size own ≡ replicate size 0
shown_zeros size [] none = refl
shown_zeros size (b ∷ bytes) none =
    let e : length (b ∷ bytes) ≡ 0 = eqb-true (length (b ∷ bytes)) 0 none in absurd cc

shown_own : (size : ℕ) (own : List ℕ) → eqb (length own) 0 ≡ false → shown_page size own ≡ own
shown_own size [] some = absurd cc
shown_own size (b ∷ bytes) some = refl

-- a page of the table as which the fields are seen, and the bytes that it has of its own
pub record OwnPage (t : Table) (size : ℕ) (idle : List IdleState) (locked : List Locked)
    (pages : List (List ℕ)) (page : ℕ) (own : List ℕ) : Type 0 where
  pub is : seen_as size idle locked pages ≡ t
  pub count : length pages ≡ length idle
  pub sized : All (HasAllOrNone size) pages
  pub inside : page < length t.entries
  pub own_is : own ≡ get_or pages page own

module _ {t : Table} {size : ℕ} {idle : List IdleState} {locked : List Locked}
    {pages : List (List ℕ)} {page : ℕ} {own : List ℕ}
    (k : OwnPage t size idle locked pages page own) where
  within_pages : page < length pages
  within_pages =
      let long = entries_long idle locked in
      let there : length (entries_in idle locked) ≡ length t.entries =
      ap (λ (x : Table). length x.entries) k.is in
      let count = k.count in let inside = k.inside in omega (arith, inside, count, long, there)

  -- its bytes are these, or zeros where it has none
  pub shown : shown_page size own ≡ page_at t page
  shown =
      ap (shown_page size) k.own_is
      ∙ sym (get_or-map (shown_page size) pages page own [] within_pages)
      ∙ ap (λ x. page_at x page) k.is

  pub blank : (b : Bool) → b ≡ eqb (length own) 0 → b ≡ true → page_at t page ≡ replicate size 0
  blank b told none = sym shown ∙ shown_zeros size own (sym told ∙ none)

  pub has_own : (b : Bool) → b ≡ eqb (length own) 0 → b ≡ false → own ≡ page_at t page
  has_own b told some = sym (shown_own size own (sym told ∙ some)) ∙ shown

  -- as many as a page has
  pub whole : length (page_at t page) ≡ size
  whole =
      ap length (sym shown)
      ∙ subst (HasAllOrNone size) (sym k.own_is)
      (All-get_or (HasAllOrNone size) pages page own within_pages k.sized)

  -- it has other bytes of its own from now on, which were made of those that it had
  pub changed : (f : List ℕ → List ℕ) (old new : List ℕ) → old ≡ page_at t page → new ≡ f old
      → length new ≡ length old
      → seen_as size idle locked (set pages page new) ≡ with_page t page (f (page_at t page))
  changed f old new at made long =
      let same : new ≡ f (page_at t page) = made ∙ ap f at in
      page_set t size idle locked pages k.is page new (f (page_at t page)) same
      (sym (ap length same) ∙ long ∙ ap length at ∙ whole ∙ ap (λ x. x.page_size) k.is)

-- another entry stands at a page from now on
pub entries_set : (t : Table) (size : ℕ) (idle : List IdleState) (locked : List Locked)
    (pages : List (List ℕ)) → seen_as size idle locked pages ≡ t
    → (page : ℕ) (e f : Entry) (idle' : List IdleState) (locked' : List Locked) → e ≡ f
    → entries_in idle' locked' ≡ set (entries_in idle locked) page e
    → seen_as size idle' locked' pages ≡ with_entry t page f
entries_set t size idle locked pages is page e f idle' locked' same sets =
    ap (λ es. record { page_size = size; entries = es; pages = map (shown_page size) pages })
    (sets ∙ ap (set (entries_in idle locked) page) same)
    ∙ ap (λ x. with_entry x page f) is

-- a page that is idle is set, whose entry was locked or not
pub set_idle : (t : Table) (size : ℕ) (idle : List IdleState) (ls : List Locked)
    (pages : List (List ℕ)) → seen_as size idle ls pages ≡ t → (page : ℕ) (s : IdleState)
    → seen_as size (set idle page s) (without_page page ls) pages
    ≡ with_entry t page (entry.Idle s)
set_idle t size idle ls pages is page s =
    entries_set t size idle ls pages is page (entry.Idle s) (entry.Idle s) (set idle page s)
    (without_page page ls) refl
    (idle_set idle page s (without_page page ls) (nowhere_without page ls)
    ∙ set_without idle page (entry.Idle s) ls)

-- and one that is locked
pub set_locked : (t : Table) (size : ℕ) (idle : List IdleState) (ls : List Locked)
    (pages : List (List ℕ)) → seen_as size idle ls pages ≡ t → (page : ℕ) (e : Entry)
    → seen_as size (set idle page without)
    (without_page page ls ++ record { page = page; entry = e } ∷ []) pages
    ≡ with_entry t page e
set_locked t size idle ls pages is page e =
    let rest : List Locked = without_page page ls in
    let none : StandsNowhere page rest = nowhere_without page ls in
    entries_set t size idle ls pages is page e e (set idle page without)
    (rest ++ record { page = page; entry = e } ∷ []) refl
    (pushed (set idle page without) page e rest none
    ∙ ap (λ es. set es page e) (idle_set idle page without rest none)
    ∙ set-set (entries_in idle rest) page nothing e
    ∙ set_without idle page e ls)

-- what holds of the fields then
pub idle_sound : (size : ℕ) (idle : List IdleState) (ls : List Locked) (pages : List (List ℕ))
    (zeros : List ℕ) → IsWideTable size idle ls pages zeros → (page : ℕ) (s : IdleState)
    → IsWideTable size (set idle page s) (without_page page ls) pages zeros
idle_sound size idle ls pages zeros w page s =
    record {
      count = w.count ∙ sym (length-set idle page s);
      long = entries_long (set idle page s) (without_page page ls);
      aside = idle_kept idle page s (without_page page ls) (nowhere_without page ls)
          (aside_without idle page ls w.aside);
      apart = apart_without page ls w.apart;
      sized = w.sized;
      blank = w.blank;
    }

pub locked_sound : (size : ℕ) (idle : List IdleState) (ls : List Locked) (pages : List (List ℕ))
    (zeros : List ℕ) → IsWideTable size idle ls pages zeros → (page : ℕ) (e : Entry)
    → page < length idle → is_locked e ≡ true
    → IsWideTable size (set idle page without)
    (without_page page ls ++ record { page = page; entry = e } ∷ []) pages zeros
locked_sound size idle ls pages zeros w page e lt waits =
    let v : IsWideTable size (set idle page without) (without_page page ls) pages zeros =
    idle_sound size idle ls pages zeros w page without in
    record {
      count = v.count;
      long = entries_long (set idle page without)
          (without_page page ls ++ record { page = page; entry = e } ∷ []);
      aside = aside_pushed (set idle page without) (record { page = page; entry = e })
          (without_page page ls) v.aside
          (record {
            inside = let long = length-set idle page without in omega (arith, long, lt);
            waits = waits;
            hidden = get_or-set_same idle page without without lt;
          });
      apart = apart_pushed (record { page = page; entry = e }) (without_page page ls) v.apart
          (nowhere_without page ls);
      sized = v.sized;
      blank = v.blank;
    }

none_locked : (idle : List IdleState) → count_by is_locked (map entry.Idle idle) ≡ 0
none_locked [] = refl
none_locked (s ∷ idle) = none_locked idle

-- as many entries are locked as stand aside
pub locked_count : (idle : List IdleState) (ls : List Locked) → AreApart ls
    → AllByRecursion (IsAside idle) ls → count_by is_locked (entries_in idle ls) ≡ length ls
locked_count idle [] apart aside = none_locked idle
locked_count idle (l ∷ ls) apart aside =
    let inside : l.page < length idle = aside.0.inside in
    let within : l.page < length (entries_in idle ls) =
    omega (arith, inside, entries_long idle ls) in
    let more = sum_by-set (λ (e : Entry). cond {A = ℕ} (is_locked e) 1 0) (entries_in idle ls) l.page
    l.entry nothing within in
    let was : ◌≡◌ {A = ℕ} (cond (is_locked (get_or (entries_in idle ls) l.page nothing)) 1 0) 0 =
    ap (λ e. cond {A = ℕ} (is_locked e) 1 0) (sym (idle_there idle ls l.page inside apart.0)) in
    let now : ◌≡◌ {A = ℕ} (cond (is_locked l.entry) 1 0) 1 =
    ap (λ b. cond {A = ℕ} b 1 0) aside.0.waits in
    let rest : count_by is_locked (entries_in idle ls) ≡ length ls =
    locked_count idle ls apart.1 aside.1 in
    omega (arith, more, was, now, rest)

-- so there is room for one more where fewer than so many others are locked
pub room : (t : Table) (size : ℕ) (idle : List IdleState) (ls : List Locked)
    (pages : List (List ℕ)) (zeros : List ℕ) → seen_as size idle ls pages ≡ t
    → IsWideTable size idle ls pages zeros → (page : ℕ)
    → length (without_page page ls) ≡ locked_beside t page
room t size idle ls pages zeros is w page =
    let v : IsWideTable size (set idle page without) (without_page page ls) pages zeros =
    idle_sound size idle ls pages zeros w page without in
    sym (locked_count (set idle page without) (without_page page ls) v.apart v.aside)
    ∙ ap (λ (x : Table). count_by is_locked x.entries) (set_idle t size idle ls pages is page without)

-- one of these stands for the entry of its page
pub placed : (t : Table) (size : ℕ) (idle : List IdleState) (ls : List Locked)
    (pages : List (List ℕ)) (zeros : List ℕ) → seen_as size idle ls pages ≡ t
    → IsWideTable size idle ls pages zeros → (page place : ℕ) → StandsAt page ls place
    → (d : Locked) → (get_or ls place d).entry ≡ entry_at t page
placed t size idle ls pages zeros is w page place at d =
    locked_there idle ls w.apart w.aside place d at.inside
    ∙ ap (λ (i : ℕ). get_or (entries_in idle ls) i nothing) (at.is d)
    ∙ ap (λ x. entry_at x page) is

-- another entry of a page takes the place of its locked one
pub replaced : (idle : List IdleState) (page : ℕ) (e : Entry) (ls : List Locked) → AreApart ls
    → (place : ℕ) → StandsAt page ls place
    → entries_in idle (set ls place (record { page = page; entry = e }))
    ≡ set (entries_in idle ls) page e
replaced idle page e [] apart place at = let lt = at.inside in absurd (omega arith)
replaced idle page e (l ∷ ls) apart zero at =
    sym (ap (λ (i : ℕ). set (set (entries_in idle ls) i l.entry) page e) (at.is l)
    ∙ set-set (entries_in idle ls) page l.entry e)
replaced idle page e (l ∷ ls) apart (suc place) at =
    let lt = at.inside in
    let less : place < length ls = omega arith in
    let here : (get_or ls place l).page ≡ page = at.is l in
    ap (λ es. set es l.page l.entry)
    (replaced idle page e ls apart.1 place (record { inside = less; is = λ d. at.is d }))
    ∙ set_comm (entries_in idle ls) page l.page e l.entry
    (λ same. nowhere_at l.page ls apart.0 place l less (here ∙ same))

-- what stands at each place stays of its page
same_nowhere : (q : ℕ) (ls : List Locked) → StandsNowhere q ls → (place : ℕ) (k : Locked)
    → k.page ≢ q → StandsNowhere q (set ls place k)
same_nowhere q [] none place k other = tt
same_nowhere q (l ∷ ls) none zero k other = (other, none.1)
same_nowhere q (l ∷ ls) none (suc place) k other = (none.0, same_nowhere q ls none.1 place k other)

same_apart : (page : ℕ) (e : Entry) (ls : List Locked) → AreApart ls → (place : ℕ)
    → StandsAt page ls place → AreApart (set ls place (record { page = page; entry = e }))
same_apart page e [] apart place at = tt
same_apart page e (l ∷ ls) apart zero at =
    (subst (λ (i : ℕ). StandsNowhere i ls) (at.is l) apart.0, apart.1)
same_apart page e (l ∷ ls) apart (suc place) at =
    let lt = at.inside in
    let less : place < length ls = omega arith in
    let here : (get_or ls place l).page ≡ page = at.is l in (
      same_nowhere l.page ls apart.0 place (record { page = page; entry = e })
          (λ same. nowhere_at l.page ls apart.0 place l less (here ∙ same)),
      same_apart page e ls apart.1 place (record { inside = less; is = λ d. at.is d }),
    )

same_aside : (idle : List IdleState) (page : ℕ) (e : Entry) (ls : List Locked)
    → AllByRecursion (IsAside idle) ls → (place : ℕ) → StandsAt page ls place
    → is_locked e ≡ true
    → AllByRecursion (IsAside idle) (set ls place (record { page = page; entry = e }))
same_aside idle page e [] aside place at waits = tt
same_aside idle page e (l ∷ ls) aside zero at waits = (
  record {
    inside = subst (λ (i : ℕ). i < length idle) (at.is l) aside.0.inside;
    waits = waits;
    hidden = subst (λ (i : ℕ). get_or idle i without ≡ without) (at.is l) aside.0.hidden;
  },
  aside.1,
)
same_aside idle page e (l ∷ ls) aside (suc place) at waits =
    let lt = at.inside in
    let less : place < length ls = omega arith in
    (aside.0, same_aside idle page e ls aside.1 place (record { inside = less; is = λ d. at.is d }) waits)

stays_locked : (e : Entry) (q : PutOff) → is_locked (with_put_off e q) ≡ is_locked e
stays_locked (entry.Idle s) q = refl
stays_locked (entry.AwaitRead s) q = refl
stays_locked (entry.AwaitWrite s) q = refl
stays_locked (entry.AwaitAcks s) q = refl

-- an entry once a message was put off there, where one can be
abbrev pub put_off_at : Entry → PutOff → Entry
put_off_at e q = if can_put_off e then with_put_off e q else e

put_off_waits : (e : Entry) (q : PutOff) → is_locked (put_off_at e q) ≡ is_locked e
put_off_waits e q =
    elim (can_put_off e) as (λ b. is_locked (if b then with_put_off e q else e) ≡ is_locked e) [
      | true ↦ stays_locked e q
      | false ↦ refl
    ]

-- a message is put off at the locked entry of the page
pub put_off_kept : (t : Table) (size : ℕ) (idle : List IdleState) (ls : List Locked)
    (pages : List (List ℕ)) (zeros : List ℕ) → seen_as size idle ls pages ≡ t
    → IsWideTable size idle ls pages zeros → (page place : ℕ) → StandsAt page ls place
    → (q : PutOff)
    → seen_as size idle
    (set ls place (record { page = page; entry = put_off_at (entry_at t page) q })) pages
    ≡ (if can_put_off (entry_at t page)
    then with_entry t page (with_put_off (entry_at t page) q) else t)
put_off_kept t size idle ls pages zeros is w page place at q =
    entries_set t size idle ls pages is page (put_off_at (entry_at t page) q)
    (put_off_at (entry_at t page) q) idle
    (set ls place (record { page = page; entry = put_off_at (entry_at t page) q })) refl
    (replaced idle page (put_off_at (entry_at t page) q) ls w.apart place at)
    ∙ elim (can_put_off (entry_at t page))
    as (λ b. with_entry t page (if b then with_put_off (entry_at t page) q else entry_at t page)
    ≡ (if b then with_entry t page (with_put_off (entry_at t page) q) else t)) [
      | true ↦ refl
      | false ↦ ap (λ es. record { page_size = t.page_size; entries = es; pages = t.pages })
          (set-get_or t.entries page nothing)
    ]

pub put_off_sound : (t : Table) (size : ℕ) (idle : List IdleState) (ls : List Locked)
    (pages : List (List ℕ)) (zeros : List ℕ) → seen_as size idle ls pages ≡ t
    → IsWideTable size idle ls pages zeros → (page place : ℕ) → StandsAt page ls place
    → (q : PutOff)
    → IsWideTable size idle
    (set ls place (record { page = page; entry = put_off_at (entry_at t page) q })) pages zeros
put_off_sound t size idle ls pages zeros is w page place at q =
    let l : Locked = get_or ls place (record { page = page; entry = nothing }) in
    let waits : is_locked (put_off_at (entry_at t page) q) ≡ true =
    put_off_waits (entry_at t page) q
    ∙ ap is_locked (sym (placed t size idle ls pages zeros is w page place at
    (record { page = page; entry = nothing })))
    ∙ waits_at idle ls w.aside place (record { page = page; entry = nothing }) at.inside in
    record {
      count = w.count;
      long = entries_long idle
          (set ls place (record { page = page; entry = put_off_at (entry_at t page) q }));
      aside = same_aside idle page (put_off_at (entry_at t page) q) ls w.aside place at waits;
      apart = same_apart page (put_off_at (entry_at t page) q) ls w.apart place at;
      sized = w.sized;
      blank = w.blank;
    }
  where
    waits_at : (idle : List IdleState) (ls : List Locked) → AllByRecursion (IsAside idle) ls
        → (place : ℕ) (d : Locked) → place < length ls → is_locked (get_or ls place d).entry ≡ true
    waits_at idle [] aside place d lt = absurd (omega arith)
    waits_at idle (l ∷ ls) aside zero d lt = aside.0.waits
    waits_at idle (l ∷ ls) aside (suc place) d lt = waits_at idle ls aside.1 place d (omega arith)

-- an idle entry is that of its page, where no locked one is
pub idle_placed : (t : Table) (size : ℕ) (idle : List IdleState) (ls : List Locked)
    (pages : List (List ℕ)) → seen_as size idle ls pages ≡ t → (page : ℕ) → page < length idle
    → StandsNowhere page ls → (s : IdleState) → s ≡ get_or idle page s
    → entry.Idle s ≡ entry_at t page
idle_placed t size idle ls pages is page lt none s read =
    ap entry.Idle (read ∙ get_or_default idle page s without lt)
    ∙ idle_there idle ls page lt none
    ∙ ap (λ x. entry_at x page) is

-- a list that was written as a whole has what was written
refilled : (xs ws : List Locked) → length ws ≡ length xs → refill (length xs) xs ws ≡ ws
refilled xs ws long =
    let none : drop (length ws) xs ≡ [] = drop_all (length ws) xs (omega (arith, long)) in
    ap (λ ys. take (length xs) (ws ++ ys)) none
    ∙ ap (take (length xs)) (append-nil ws)
    ∙ ap (λ (n : ℕ). take n ws) (sym long)
    ∙ take-length ws

pub written : (xs ys : List Locked) (place : ℕ) (k l : Locked) → ys ≡ xs → k ≡ l
    → refill (length xs) xs (set ys place k) ≡ set xs place l
written xs ys place k l same is =
    refilled xs (set ys place k) (length-set ys place k ∙ ap length same)
    ∙ (λ i. set (same i) place (is i))

-- what stays where a closure keeps all but the page's
pub kept_by : {F : Type 0} (R : F → Locked → Bool → F → Locked → Type 0) (page : ℕ) (f : F)
    → ((x : Locked) (b : Bool) (g : F) (y : Locked) → R f x b g y
    → (b ≡ not (eqb x.page page)) × (g ≡ f) × (y ≡ x))
    → (ls xs : List Locked) → RetainsInTurn R f ls xs → xs ≡ without_page page ls
kept_by R page f says [] xs h = h
kept_by R page f says (l ∷ ls) xs (b, g, y, r, zs, rest, is) =
    let told : (b ≡ not (eqb l.page page)) × (g ≡ f) × (y ≡ l) = says l b g y r in
    let same : zs ≡ without_page page ls =
    kept_by R page f says ls zs (subst (λ q. RetainsInTurn R q ls zs) told.1 rest) in
    is ∙ (λ i. cond (told.0 i) (told.2 i ∷ same i) (same i))
