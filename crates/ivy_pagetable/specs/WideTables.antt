-- The entries and pages of a node that has many pages and uses few.
use Rattle.std.specs.Prelude.{◌≡◌, ◌≢◌, ℕ, ◌<◌, true, not, ◌==◌, List, [], ◌∷◌, length, map, replicate, slice_index_or, slice_set}
use Rattle.std.specs.List.{All, AllByRecursion, HoldsAt, filter}
use Rattle.ivy_pagetable.specs.declared.entry.Entry.{Entry}
use Rattle.ivy_pagetable.specs.declared.entry.Entry.TheVariants as entry
use Rattle.ivy_pagetable.specs.declared.wide_table.Locked.{Locked}
use Rattle.ivy_pagetable.specs.stated.Entries.{is_locked, without}
use Rattle.ivy_pagetable.specs.Pages.{HasAllOrNone}
use Rattle.ivy_pagetable.specs.stated.States.{IdleState}

-- the entries: idle ones, but for those that are locked
abbrev pub entries_in : List IdleState → List Locked → List Entry
entries_in idle [] = map entry.Idle idle
entries_in idle (l ∷ ls) = slice_set (entries_in idle ls) l.page l.entry

-- none of these is the entry of the page
abbrev pub StandsNowhere : ℕ → List Locked → Type 0
StandsNowhere page ls = AllByRecursion (λ l. l.page ≢ page) ls

-- this one of these is the entry of the page
pub record StandsAt (page : ℕ) (ls : List Locked) (place : ℕ) : Type 0 where
  pub inside : place < length ls
  pub is : HoldsAt (λ l. l.page ≡ page) ls place

-- these but the entry of the page
abbrev pub without_page : ℕ → List Locked → List Locked
without_page page ls = filter (λ l. not (l.page == page)) ls

-- each of these is the entry of another page
abbrev pub AreApart : List Locked → Type 0
AreApart [] = Unit {0}
AreApart (l ∷ ls) = StandsNowhere l.page ls × AreApart ls

-- the entry is locked, and the idle one that stands in its place gives no access
pub record IsAside (idle : List IdleState) (l : Locked) : Type 0 where
  pub inside : l.page < length idle
  pub waits : is_locked l.entry ≡ true
  pub hidden : slice_index_or idle l.page without ≡ without

-- there are as many pages and entries as idle entries, and the locked ones are of pages apart
pub record IsWideTable (size : ℕ) (idle : List IdleState) (locked : List Locked)
    (pages : List (List ℕ)) (zeros : List ℕ) : Type 0 where
  pub count : length pages ≡ length idle
  pub long : length (entries_in idle locked) ≡ length idle
  pub aside : AllByRecursion (IsAside idle) locked
  pub apart : AreApart locked
  pub sized : All (HasAllOrNone size) pages
  pub blank : zeros ≡ replicate size 0
