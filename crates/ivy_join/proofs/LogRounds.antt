-- A round over the logs: one more was gone on with.
use Rattle.std.proofs.Common.{◌≡◌, ℕ, ◌+◌, ◌<◌, ◌≤◌, Bool, true, false, List, length, map, set, slice_get, Some, refl, sym, ap, subst, ◌∙◌, arith}
use Rattle.std.specs.Prelude.{IsTrue}
use Rattle.ivy_model.specs.declared.Config.{Config}
use Rattle.ivy_logs.specs.Entries.{LogEntry, events_in}
use Rattle.ivy_moves.specs.Marks.{marks}
use Rattle.ivy_program.specs.stated.Programs.{Program}
use Rattle.ivy_site.specs.SiteView.{SiteView}
use Rattle.ivy_world.specs.WorldSites.{programs_of}
use Rattle.ivy_host.specs.declared.opening.Opening.{Opening}
use Rattle.ivy_join.specs.Exact.{left_of, IsNoPart, PlaysTo}
use Rattle.ivy_join.specs.Joined.{AreNoParts}
use Rattle.ivy_join.specs.ReplaySites.{ArePlayed}
use Rattle.ivy_join.proofs.Counted.{left-less, set_again, stuck-more, AreStuckTo}
use Rattle.ivy_join.proofs.Ended.{part_at}
use Rattle.ivy_join.proofs.Others.{no-parts}
use Rattle.std.proofs.lemmas.List.{length-map}
use Rattle.std.proofs.lemmas.Option.{slice_get_within}

module _ {X : Type 0} (f : X → List LogEntry) (logs : List X) (node : ℕ) (x : X) (made : List ℕ) (m m' : ℕ)
    (cur new : List SiteView) (sent sent' : List (List ℕ)) (there : slice_get logs node ≡ Some x)
    (was : slice_get made node ≡ Some m) where
  few-then : (on : Bool) → PlaysTo node (f x) m m' cur new sent sent' on
      → left_of (map f logs) (set made node m') ≤ left_of (map f logs) made
  few-then true p =
      let less = left-less f logs made node x m m' there was (p.more refl) p.here.few in
      omega (arith, less)
  few-then false p =
      let same : set made node m' ≡ made = ap (set made node) (p.place refl) ∙ set_again made node m was in
      let left = ap (left_of (map f logs)) same in
      omega (arith, left)

  pub few-on : (on : Bool) (n : ℕ) → PlaysTo node (f x) m m' cur new sent sent' on
      → left_of (map f logs) made ≤ n → left_of (map f logs) (set made node m') ≤ n
  few-on on n p before = let few = few-then on p in omega (arith, few, before)

  pub less-on : (on went went' : Bool) (n : ℕ) → PlaysTo node (f x) m m' cur new sent sent' on
      → (on ≡ false → went' ≡ went) → left_of (map f logs) made ≤ n
      → (IsTrue went → left_of (map f logs) made < n) → IsTrue went'
      → left_of (map f logs) (set made node m') < n
  less-on true went went' n p joins few before yet =
      let less = left-less f logs made node x m m' there was (p.more refl) p.here.few in
      omega (arith, less, few)
  less-on false went went' n p joins few before yet =
      let less = before (sym (joins refl) ∙ yet) in
      let then_few = few-then false p in
      omega (arith, less, then_few)

  pub stuck-on : (on went went' : Bool) → PlaysTo node (f x) m m' cur new sent sent' on
      → (on ≡ true → went' ≡ true) → (on ≡ false → went' ≡ went)
      → (went ≡ false → AreStuckTo node sent (map f logs) made) → went' ≡ false
      → AreStuckTo (node + 1) sent' (map f logs) (set made node m')
  stuck-on true went went' p one joins before none =
      absurd (let apart : true ≡ false = sym (one refl) ∙ none in absurd cc)
  stuck-on false went went' p one joins before none =
      stuck-more f logs made node x m m' sent sent' there was (p.place refl) (p.strings refl) (p.stuck refl)
      (before (sym (joins refl) ∙ none))

-- a node that can't make its log
pub none_of : {X : Type 0} (f : X → List LogEntry) (c : Config) (o : Opening) (sites : List SiteView) (sent : List (List ℕ))
    (programs : List Program) (logs : List X) (node : ℕ) (x : X) → ArePlayed c o sites sent
    → programs_of sites ≡ programs → length logs ≡ length sites → slice_get logs node ≡ Some x
    → IsNoPart c o (programs_of sites) node (marks (events_in (f x)))
    → AreNoParts c o programs (map (λ y. marks (events_in (f y))) logs)
none_of f c o sites sent programs logs node x played same each there never =
    let size = length-map sites (λ (s : SiteView). s.node.core.process.program) in
    let count = played.count in
    let inside = slice_get_within logs node x there in
    subst (λ ps. AreNoParts c o ps (map (λ y. marks (events_in (f y))) logs)) same
    (no-parts c o (programs_of sites) (map (λ y. marks (events_in (f y))) logs) node (size ∙ count)
    (omega (arith, size, inside, each))
    (subst (IsNoPart c o (programs_of sites) node)
    (sym (part_at (λ y. marks (events_in (f y))) logs node x there)) never))
