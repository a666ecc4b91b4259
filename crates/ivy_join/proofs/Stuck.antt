-- Where no log goes on, or a node can't make its next event, the logs are the parts of no run.
use Rattle.std.proofs.Common.{◌≡◌, ℕ, zero, suc, ◌+◌, ◌<◌, ◌≤◌, List, [], ◌∷◌, ◌++◌, length, map, drop, get_or, slice_get, Contains, Option, Some, None, option_map, refl, sym, ap, subst, append-nil, ◌∙◌, inl, inr, arith}
use Rattle.std.proofs.lemmas.List.{length-map}
use Rattle.std.proofs.lemmas.Option.{same_Some, none-some, slice_get-map, slice_get_within, slice_get_cases}
use Rattle.ivy_model.specs.declared.Config.{Config}
use Rattle.ivy_logs.specs.declared.log.LogEntry.TheVariants.{Did, Asked, Answered, Fetched}
use Rattle.ivy_logs.specs.Entries.{LogEntry, event_in, events_in}
use Rattle.ivy_logs.specs.Faults.{HandsNothing}
use Rattle.ivy_logs.proofs.Entries.{marks-append}
use Rattle.ivy_moves.specs.declared.Event.TheVariants.{Turns, Delivered, Pulsed}
use Rattle.ivy_moves.specs.Marks.{Mark, Delivery, marks, marks_of}
use Rattle.ivy_moves.specs.stated.Nodes.{Node, Effect}
use Rattle.ivy_moves.specs.Parts.{AllHappen}
use Rattle.ivy_moves.specs.stated.Worlds.{early_of}
use Rattle.ivy_moves.proofs.Splitting.{all-split, none-in, same-effect}
use Rattle.ivy_program.specs.stated.Programs.{Program}
use Rattle.ivy_host.specs.declared.opening.Opening.{Opening}
use Rattle.ivy_host.specs.stated.Hosts.{Host, host_rules}
use Rattle.ivy_host.specs.stated.Managers.{Managed, managed_ops}
use Rattle.ivy_host.specs.stated.Openings.{first_node, managed_start, opening}
use Rattle.ivy_host.proofs.WellBehaved.{first_length}
use Rattle.ivy_site.specs.SiteView.{SiteView}
use Rattle.ivy_world.specs.WorldSites.{programs_of}
use Rattle.ivy_join.specs.Exact.{AreMadeTo, AreToOthers, AreStuck, HaveSent, IsMadeTo, IsNeverBy, IsNoPart, IsOneLeft, IsStuck, NeverHappen}
use Rattle.ivy_join.specs.Joined.{list_of, part_in, AreNoParts}
use Rattle.ivy_join.specs.ReplaySites.{program_in, events_at, listed, IsNode, ArePlayed}
use Rattle.ivy_join.proofs.Counted.{drop_at, marks-cut}
use Rattle.ivy_join.proofs.HandedLogs.{there_is}
use Rattle.ivy_join.proofs.Others.{others-left, others-right}
use Rattle.ivy_join.proofs.Played.{first_there}
use Rattle.ivy_join.proofs.Within.{all_made, AreBlocked}

-- the events of a site, as those of node i
site-happens : (c : Config) (o : Opening) (sent : List (List ℕ)) (i : ℕ) (s : SiteView) → (own : IsNode c o sent i s)
    → AllHappen (host_rules managed_ops) c (first_node (managed_start o) c i (program_in s)) s.events
    own.made.effect
site-happens c o sent i s own =
    subst (λ k. AllHappen (host_rules managed_ops) k (first_node (managed_start o) k i (program_in s)) s.events
    own.made.effect) own.config
    (subst (λ j. AllHappen (host_rules managed_ops) s.config
    (first_node (managed_start o) s.config j (program_in s)) s.events own.made.effect) own.me
    (subst (λ k. AllHappen (host_rules managed_ops) s.config
    (first_node (managed_start k) s.config s.me (program_in s)) s.events own.made.effect) own.opened
    own.made.happen))

-- where nothing is handed by it, the event of an entry can't be made
pub never-by : (node : ℕ) (entry : LogEntry) (sites : List SiteView) → HandsNothing entry
    → IsNeverBy node entry sites → (s : SiteView) → slice_get sites node ≡ Some s
    → NeverHappen s.config s.me s.node (marks (event_in entry))
never-by node (Did event) sites silent never s at =
    subst (NeverHappen s.config s.me s.node) (sym (append-nil (marks_of event))) (never s at)
never-by node (Asked call) sites silent never s at = absurd silent
never-by node (Answered answer) sites silent never s at = absurd never
never-by node (Fetched page write) sites silent never s at = absurd silent

-- an entry whose event can't follow those of the first ones of a log
pub never-part : (c : Config) (o : Opening) (sent : List (List ℕ)) (sites : List SiteView) (i : ℕ) (s : SiteView)
    (log : List LogEntry) (m : ℕ) (entry : LogEntry) → ArePlayed c o sites sent → slice_get sites i ≡ Some s
    → IsMadeTo log m (events_at sites i) → m < length log → entry ≡ get_or log m entry
    → NeverHappen s.config s.me s.node (marks (event_in entry))
    → IsNoPart c o (programs_of sites) i (marks (events_in log))
never-part c o sent sites i s log m entry played there to below is never program at others effect happen =
    let own = played.each i s there in
    let mine : program ≡ program_in s =
    same_Some program (program_in s)
    (sym at ∙ slice_get-map program_in sites i ∙ ap (option_map program_in) there) in
    let first : Node (Host Managed) = first_node (managed_start o) c i (program_in s) in
    let rest : List Mark = marks (events_in (drop (m + 1) log)) in
    let parts : marks (events_in log) ≡ s.events ++ (marks (event_in entry) ++ rest) =
    marks-cut log m ∙ ap (λ l. l ++ marks (events_in (drop m log))) (sym to.are ∙ ap listed there)
    ∙ ap (λ l. s.events ++ marks (events_in l)) (drop_at log m entry below is)
    ∙ ap (λ l. s.events ++ l) (marks-append (event_in entry) (events_in (drop (m + 1) log))) in
    let all : AllHappen (host_rules managed_ops) c (first_node (managed_start o) c i (program_in s))
    (s.events ++ (marks (event_in entry) ++ marks (events_in (drop (m + 1) log)))) effect =
    subst (λ l. AllHappen (host_rules managed_ops) c (first_node (managed_start o) c i (program_in s)) l effect)
    parts
    (subst (λ p. AllHappen (host_rules managed_ops) c (first_node (managed_start o) c i p) (marks (events_in log)) effect) mine
    happen) in
    let split = all-split (host_rules managed_ops) c first s.events (marks (event_in entry) ++ rest) effect all in
    let before = same-effect (host_rules managed_ops) c first s.events split.first own.made.effect split.happen
    (site-happens c o sent i s own) in
    let node : split.first.after ≡ s.node =
    ap (λ (e : Effect (Host Managed)). e.after) before ∙ sym own.made.node in
    let then = all-split (host_rules managed_ops) c s.node (marks (event_in entry)) rest split.rest
    (subst (λ n. AllHappen (host_rules managed_ops) c n (marks (event_in entry) ++ marks (events_in (drop (m + 1) log))) split.rest)
    node split.go_on) in
    let here : NeverHappen c i s.node (marks (event_in entry)) =
    subst (λ j. NeverHappen c j s.node (marks (event_in entry))) own.me
    (subst (λ (k : Config). NeverHappen k s.me s.node (marks (event_in entry))) own.config never) in
    here
    (others-left c.nodes i (marks (event_in entry)) rest
    (others-right c.nodes i s.events (marks (event_in entry) ++ rest)
    (subst (λ l. AreToOthers c.nodes i l) parts others)))
    then.first then.happen

-- behind what was made of a log that is stuck
stuck-blocked : (sent : List (List ℕ)) (rest : List LogEntry) → IsStuck sent rest
    → AreBlocked sent (marks (events_in rest))
stuck-blocked sent [] stuck = tt
stuck-blocked sent (Did (Turns count) ∷ rest) stuck = absurd (stuck tt)
stuck-blocked sent (Did (Delivered bytes) ∷ rest) stuck = stuck
stuck-blocked sent (Did (Pulsed to) ∷ rest) stuck = absurd (stuck tt)
stuck-blocked sent (Asked call ∷ rest) stuck = absurd (stuck tt)
stuck-blocked sent (Answered answer ∷ rest) stuck = absurd (stuck tt)
stuck-blocked sent (Fetched page write ∷ rest) stuck = absurd (stuck tt)

-- it is not at its end
stuck-some : (sent : List (List ℕ)) (rest : List LogEntry) → IsStuck sent rest → 0 < length rest
    → marks (events_in rest) ≡ [] → ⊥
stuck-some sent [] stuck some none = omega (arith, some)
stuck-some sent (Did (Turns count) ∷ rest) stuck some none = stuck tt
stuck-some sent (Did (Delivered bytes) ∷ rest) stuck some none =
    (let one : Delivery bytes ∷ marks (events_in rest) ≡ [] = none in absurd cc)
stuck-some sent (Did (Pulsed to) ∷ rest) stuck some none = stuck tt
stuck-some sent (Asked call ∷ rest) stuck some none = stuck tt
stuck-some sent (Answered answer ∷ rest) stuck some none = stuck tt
stuck-some sent (Fetched page write ∷ rest) stuck some none = stuck tt

none_early : (o : Opening) (c : Config) (programs : List Program) (j : ℕ) → early_of (opening (managed_start o) c programs) j ≡ []
none_early o c [] j = refl
none_early o c (p ∷ ps) zero = refl
none_early o c (p ∷ ps) (suc j) = none_early o c ps j

module _ {X : Type 0} (f : X → List LogEntry) (c : Config) (o : Opening) (sites : List SiteView) (sent : List (List ℕ))
    (logs : List X) (made : List ℕ) (played : ArePlayed c o sites sent) (have : HaveSent sent sites)
    (each : length logs ≡ length sites) (count : length made ≡ length sites)
    (to : AreMadeTo (map f logs) made sites) (stuck : AreStuck sent (map f logs) made) where
  abbrev lists : List (List Mark)
  lists = map (λ x. marks (events_in (f x))) logs

  -- what is behind the events that were made of a log
  rest_of : Option X → Option ℕ → List Mark
  rest_of (Some x) (Some m) = marks (events_in (drop m (f x)))
  rest_of (Some x) None = []
  rest_of None o = []

  abbrev rest_at : ℕ → List Mark
  rest_at i = rest_of (slice_get logs i) (slice_get made i)

  log-at : (i : ℕ) (x : X) → slice_get logs i ≡ Some x → slice_get (map f logs) i ≡ Some (f x)
  log-at i x there = slice_get-map f logs i ∙ ap (option_map f) there

  past-all : (i : ℕ) (o : Option SiteView) → slice_get sites i ≡ o → length sites ≤ i → listed o ≡ []
  past-all i None at past = refl
  past-all i (Some s) at past =
      absurd (let l = slice_get_within sites i s at in omega (arith, l, past))

  whole : (i : ℕ) → part_in lists i ≡ events_at sites i ++ rest_at i
  unfolding rest_of
  whole i = elim (slice_get_cases logs i).1 [
    | inl there ↦
        (let x = there.0 in
        let inside : i < length made = (let l = there.1 in omega (arith, l, each, count)) in
        let m = there_is made i inside in
        let own = to i (f x) m.0 (log-at i x there.2) m.1 in
        ap list_of (slice_get-map (λ y. marks (events_in (f y))) logs i
        ∙ ap (option_map (λ y. marks (events_in (f y)))) there.2)
        ∙ marks-cut (f x) m.0
        ∙ ap (λ l. l ++ marks (events_in (drop m.0 (f x)))) (sym own.are)
        ∙ ap (λ o. events_at sites i ++ rest_of o (Some m.0)) (sym there.2)
        ∙ ap (λ o. events_at sites i ++ rest_of (slice_get logs i) o) (sym m.1))
    | inr past ↦
        (ap list_of (slice_get-map (λ y. marks (events_in (f y))) logs i
        ∙ ap (option_map (λ y. marks (events_in (f y)))) past.1)
        ∙ ap (λ l. l ++ []) (sym (past-all i (slice_get sites i) refl
        (let l = past.0 in omega (arith, l, each))))
        ∙ ap (λ o. events_at sites i ++ rest_of o (slice_get made i)) (sym past.1))
  ]

  stop-at : (i : ℕ) (o : Option X) (p : Option ℕ) → slice_get logs i ≡ o → slice_get made i ≡ p
      → AreBlocked sent (rest_of o p)
  unfolding rest_of
  stop-at i None p log was = tt
  stop-at i (Some x) None log was = tt
  stop-at i (Some x) (Some m) log was =
      stuck-blocked sent (drop m (f x)) (stuck i (f x) m (log-at i x log) was)

  happened : (i : ℕ) (n : Node (Host Managed))
      → slice_get (opening (managed_start o) c (programs_of sites)).nodes i ≡ Some n
      → (e : Effect (Host Managed)) × AllHappen (host_rules managed_ops) c n (events_at sites i) e
      × ((b : List ℕ) → Contains e.sent b → Contains sent b)
  happened i n at =
      let l = slice_get_within (opening (managed_start o) c (programs_of sites)).nodes i n at in
      let many = first_length (managed_start o) c 0 (programs_of sites) in
      let size = length-map sites program_in in
      let found = there_is sites i (omega (arith, l, many, size)) in
      let s : SiteView = found.0 in
      let there : slice_get sites i ≡ Some found.0 = found.1 in
      let own = played.each i found.0 there in
      let is : first_node (managed_start o) c i (program_in found.0) ≡ n =
      same_Some (first_node (managed_start o) c i (program_in found.0)) n
      (sym (first_there o c 0 i (programs_of sites) i (program_in found.0) (omega arith)
      (slice_get-map program_in sites i ∙ ap (option_map program_in) there)) ∙ at) in
      let all : AllHappen (host_rules managed_ops) c n (events_at sites i) own.made.effect =
      subst (λ l. AllHappen (host_rules managed_ops) c n l own.made.effect) (sym (ap listed there))
      (subst (λ k. AllHappen (host_rules managed_ops) c k found.0.events own.made.effect) is
      (site-happens c o sent i found.0 own)) in (
        own.made.effect,
        all,
        λ b from. (have i found.0 there).all b (own.made.effect, own.made.happen, from),
      )

  pub stuck-no-parts : IsOneLeft (map f logs) made → AreNoParts c o (programs_of sites) lists
  unfolding rest_of
  stuck-no-parts left end run =
      let i = left.node in
      let nothing : rest_at left.node ≡ [] =
      all_made (host_rules managed_ops) c (opening (managed_start o) c (programs_of sites)) sent (events_at sites)
      (part_in lists) rest_at whole
      (λ j. stop-at j (slice_get logs j) (slice_get made j) refl refl) happened end
      (λ b from. absurd (none-in b from))
      (λ j b from. absurd (none-in b (subst (λ l. Contains l b) (none_early o c (programs_of sites) j) from)))
      run left.node in
      let own = found-log logs left.node left.log left.there in
      let x : X = own.0 in
      let here : rest_at left.node ≡ marks (events_in (drop left.made_of (f own.0))) =
      ap (λ o. rest_of o (slice_get made left.node)) own.1 ∙ ap (rest_of (Some own.0)) left.was in
      let below = left.left in
      let size = ap length own.2 in
      stuck-some sent (drop left.made_of (f own.0))
      (stuck left.node (f own.0) left.made_of (log-at left.node own.0 own.1) left.was)
      (drop-some (f own.0) left.made_of (omega (arith, below, size))) (sym here ∙ nothing)
    where
      found-log : (xs : List X) (i : ℕ) (log : List LogEntry) → slice_get (map f xs) i ≡ Some log
          → (x : X) × (slice_get xs i ≡ Some x) × (f x ≡ log)
      found-log [] i log at = absurd (none-some log at)
      found-log (y ∷ ys) zero log at = (y, refl, same_Some (f y) log at)
      found-log (y ∷ ys) (suc i) log at = found-log ys i log at

      drop-some : (log : List LogEntry) (m : ℕ) → m < length log → 0 < length (drop m log)
      drop-some [] m below = absurd (omega (arith, below))
      drop-some (e ∷ log) zero below = below
      drop-some (e ∷ log) (suc m) below = drop-some log m (omega (arith, below))
