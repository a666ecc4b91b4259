-- The lists of sites are the parts of one run, and stay so where one of them goes on.
use Rattle.std.proofs.Common.{◌≡◌, ◌≢◌, ℕ, zero, suc, ◌+◌, ◌≤◌, List, [], ◌∷◌, ◌++◌, length, set, slice_get}
use Rattle.std.proofs.Common.{Contains, Some, if◌then◌else◌, refl, sym, ap, subst, ◌∙◌, inl, inr, ⊎_elim, option_map, append-nil, arith, length-set}
use Rattle.std.proofs.lemmas.Bool.{cases_eq, eq-eqb, ne_eqb}
use Rattle.std.proofs.lemmas.List.{length-map}
use Rattle.std.proofs.lemmas.Option.{same_Some, none-some, slice_get-map, slice_get_within}
use Rattle.ivy_model.specs.declared.Config.{Config}
use Rattle.ivy_model.specs.stated.Config.{IsConfig}
use Rattle.ivy_moves.specs.stated.Cores.{Core}
use Rattle.ivy_moves.specs.Marks.{Mark}
use Rattle.ivy_moves.specs.stated.Nodes.{Node, Effect, stays}
use Rattle.ivy_moves.specs.Parts.{AllHappen, AllCanBeMade, AreParts, GoOn}
use Rattle.ivy_moves.specs.stated.Worlds.{World}
use Rattle.ivy_moves.proofs.GoingOn.{only_at, parts_go_on}
use Rattle.ivy_moves.proofs.Parts.{runs_are_their_parts}
use Rattle.ivy_moves.proofs.Places.{set-cases, set-there, set-elsewhere}
use Rattle.ivy_moves.proofs.Splitting.{all-split, same-effect, part_sent, can-more, can-append}
use Rattle.ivy_host.specs.declared.opening.Opening.{Opening}
use Rattle.ivy_host.specs.stated.Hosts.{Host, host_rules}
use Rattle.ivy_host.specs.stated.Managers.{Managed, managed_ops}
use Rattle.ivy_host.specs.stated.Openings.{first_node, first_nodes, managed_start, opening}
use Rattle.ivy_host.proofs.WellBehaved.{first_length}
use Rattle.ivy_site.specs.SiteView.{SiteView}
use Rattle.ivy_site.specs.Sites.{IsMadeByEvents}
use Rattle.ivy_world.specs.WorldSites.{programs_of}
use Rattle.ivy_world.proofs.Making.{same_map}
use Rattle.ivy_program.specs.stated.Programs.{Program}
use Rattle.ivy_join.specs.ReplaySites.{program_in, events_at, listed, GoesOnBy, Sends, AddsSent, IsNode, ArePlayed}

-- one of the lists goes on

module _ {C : Type 0} (rules : Core C) (c : Config) (opening : World C) where
  -- list i goes on by these events: they happen after it, with this effect in all
  record OneGoesOn (parts : ℕ → List Mark) (end : World C) (i : ℕ) (more : List Mark) : Type 0
    where
      first : Node C
      there : slice_get opening.nodes i ≡ Some first
      effect : Effect C
      happen : AllHappen rules c first (parts i ++ more) effect
      can : AllCanBeMade end.sent (length opening.nodes) i more

  -- the run that has them too
  record HasGoneOn (parts : ℕ → List Mark) (end : World C) (i : ℕ) (more : List Mark) : Type 0
    where
      further : World C
      run : AreParts rules c opening (λ j. parts j ++ only_at i more j) further
      before : (s : List ℕ) → Contains end.sent s → Contains further.sent s

  here : (i : ℕ) (more : List Mark) → only_at i more i ≡ more
  here i more = ap (λ b. if b then more else []) (eq-eqb i i refl)

  elsewhere : (i j : ℕ) (more : List Mark) → i ≢ j → only_at i more j ≡ []
  elsewhere i j more apart = ap (λ b. if b then more else []) (ne_eqb i j apart)

  module _ (parts : ℕ → List Mark) (end : World C) (i : ℕ) (more : List Mark)
      (run : AreParts rules c opening parts end) (on : OneGoesOn parts end i more) where
    count : length end.nodes ≡ length opening.nodes
    count = (runs_are_their_parts rules c opening end parts run).nodes

    each_here : (n : Node C) → slice_get end.nodes i ≡ Some n
        → (e : Effect C) × AllHappen rules c n more e
    each_here n there =
        let split = all-split rules c on.first (parts i) more on.effect on.happen in
        let made = (runs_are_their_parts rules c opening end parts run).each i on.first on.there in
        let same : split.first ≡ made.0 =
        same-effect rules c on.first (parts i) split.first made.0 split.happen made.1 in
        let node : split.first.after ≡ n =
        ap (λ (x : Effect C). x.after) same ∙ same_Some made.0.after n (sym made.2 ∙ there) in
        (split.rest, subst (λ x. AllHappen rules c x more split.rest) node split.go_on)

    each : (j : ℕ) (n : Node C) → slice_get end.nodes j ≡ Some n
        → (e : Effect C) × AllHappen rules c n (only_at i more j) e
    each j n there = elim (cases_eq i j) [
      | inl same ↦
          (let now = each_here n (ap (slice_get end.nodes) same ∙ there) in (
            now.0,
            subst (λ l. AllHappen rules c n l now.0)
                (sym (ap (only_at i more) (sym same) ∙ here i more)) now.1,
          ))
      | inr apart ↦
          (stays n, subst (λ l. AllHappen rules c n l (stays n)) (sym (elsewhere i j more apart)) refl)
    ]

    can : (j : ℕ) → AllCanBeMade end.sent (length end.nodes) j (only_at i more j)
    can j = elim (cases_eq i j) [
      | inl same ↦
          subst (λ x. AllCanBeMade end.sent (length end.nodes) x (only_at i more x)) same
          (subst (AllCanBeMade end.sent (length end.nodes) i) (sym (here i more))
          (subst (λ k. AllCanBeMade end.sent k i more) (sym count) on.can))
      | inr apart ↦
          subst (AllCanBeMade end.sent (length end.nodes) j) (sym (elsewhere i j more apart)) tt
    ]

    none : (j : ℕ) → length end.nodes ≤ j → only_at i more j ≡ []
    none j past =
        elsewhere i j more
        (λ same. let inside = slice_get_within opening.nodes i on.first on.there in
        let many = count in omega (arith, inside, past, many, same))

    goes : GoOn rules c end (only_at i more)
    goes = record { each = each; can = can; none = none }

    gone : HasGoneOn parts end i more
    gone =
        let went = parts_go_on rules c opening end parts (only_at i more) run goes in
        record { further = went.0; run = went.1.run; before = went.1.before }

-- the nodes of the programs as they begin

pub first_there : (o : Opening) (c : Config) (me k : ℕ) (programs : List Program) (i : ℕ) (program : Program)
    → me + i ≡ k → slice_get programs i ≡ Some program
    → slice_get (first_nodes (managed_start o) c me programs) i
    ≡ Some (first_node (managed_start o) c k program)
first_there o c me k [] i program at is = absurd (none-some program is)
first_there o c me k (p ∷ ps) zero program at is =
    let same : me ≡ k = omega (arith, at) in
    ap (λ j. Some (first_node (managed_start o) c j p)) same
    ∙ ap (λ q. Some (first_node (managed_start o) c k q)) (same_Some p program is)
first_there o c me k (p ∷ ps) (suc i) program at is =
    first_there o c (me + 1) k ps i program (omega (arith, at)) is

-- one of the sites goes on

module _ (c : Config) (o : Opening) (sites : List SiteView) (sent more : List (List ℕ)) (i : ℕ)
    (old mid new : SiteView) (played : ArePlayed c o sites sent) (there : slice_get sites i ≡ Some old)
    (on : GoesOnBy sent old mid) (made : IsMadeByEvents mid) (made' : IsMadeByEvents new)
    (same : record new { waiting = [] } ≡ record mid { waiting = [] })
    (kept : (b : List ℕ) → Contains sent b → Contains more b) (added : AddsSent mid sent more) where
  was : IsNode c o sent i old
  was = played.each i old there

  abbrev after : List SiteView
  after = set sites i new

  config : mid.config ≡ c
  config = on.config ∙ was.config

  me : mid.me ≡ i
  me = on.me ∙ was.me

  opened : mid.opened ≡ o
  opened = on.opened ∙ was.opened

  program : program_in mid ≡ program_in old
  program = on.program

  new-config : new.config ≡ c
  new-config = ap (λ (s : SiteView). s.config) same ∙ config

  new-opened : new.opened ≡ o
  new-opened = ap (λ (s : SiteView). s.opened) same ∙ opened

  new-me : new.me ≡ i
  new-me = ap (λ (s : SiteView). s.me) same ∙ me

  new-events : new.events ≡ old.events ++ on.more
  new-events = ap (λ (s : SiteView). s.events) same ∙ on.events

  pub programs-same : programs_of after ≡ programs_of sites
  programs-same =
      same_map program_in sites i old new there (ap program_in same ∙ program)

  abbrev begins : World (Host Managed)
  begins = opening (managed_start o) c (programs_of sites)

  abbrev first : Node (Host Managed)
  first = first_node (managed_start o) c i (program_in mid)

  first_is : slice_get begins.nodes i ≡ Some first
  first_is =
      first_there o c 0 i (programs_of sites) i (program_in mid) (omega arith)
      (slice_get-map program_in sites i ∙ ap (option_map program_in) there
      ∙ ap Some (sym program))

  own : events_at sites i ≡ old.events
  own = ap listed there

  -- the events of the site happen, as those of node i
  happens : (e : Effect (Host Managed))
      → AllHappen (host_rules managed_ops) mid.config
      (first_node (managed_start mid.opened) mid.config mid.me (program_in mid)) mid.events e
      → AllHappen (host_rules managed_ops) c first (events_at sites i ++ on.more) e
  happens e h =
      subst (λ l. AllHappen (host_rules managed_ops) c first l e)
      (on.events ∙ ap (λ l. l ++ on.more) (sym own))
      (subst (λ k. AllHappen (host_rules managed_ops) k
      (first_node (managed_start o) k i (program_in mid)) mid.events e) config
      (subst (λ j. AllHappen (host_rules managed_ops) mid.config
      (first_node (managed_start o) mid.config j (program_in mid)) mid.events e) me
      (subst (λ k. AllHappen (host_rules managed_ops) mid.config
      (first_node (managed_start k) mid.config mid.me (program_in mid)) mid.events e) opened h)))

  goes_on : OneGoesOn (host_rules managed_ops) c begins (events_at sites) played.end i on.more
  goes_on = record {
    first = first;
    there = first_is;
    effect = made.effect;
    happen = happens made.effect made.happen;
    can = can-more sent played.end.sent (length begins.nodes) i on.more played.all_sent
        (subst (λ k. AllCanBeMade sent k i on.more)
        (ap (λ (k : Config). k.nodes) was.config ∙ sym played.count
        ∙ sym (length-map sites program_in)
        ∙ sym (first_length (managed_start o) c 0 (programs_of sites)))
        (subst (λ j. AllCanBeMade sent old.config.nodes j on.more) was.me on.can));
  }

  went : HasGoneOn (host_rules managed_ops) c begins (events_at sites) played.end i on.more
  went = gone (host_rules managed_ops) c begins (events_at sites) played.end i on.more played.run goes_on

  lists : (j : ℕ) → events_at sites j ++ only_at i on.more j ≡ events_at after j
  lists j = elim (cases_eq i j) [
    | inl is ↦
        ap (λ x. events_at sites x ++ only_at i on.more x) (sym is)
        ∙ ap (λ l. events_at sites i ++ l) (here (host_rules managed_ops) c begins i on.more)
        ∙ ap (λ l. l ++ on.more) own ∙ sym new-events
        ∙ sym (ap listed (set-there sites i new old there)) ∙ ap (events_at after) is
    | inr apart ↦
        ap (λ l. events_at sites j ++ l)
        (elsewhere (host_rules managed_ops) c begins i j on.more apart)
        ∙ append-nil (events_at sites j) ∙ sym (ap listed (set-elsewhere sites i j new apart))
  ]

  run : AreParts (host_rules managed_ops) c (opening (managed_start o) c (programs_of after))
      (events_at after) went.further
  run =
      subst (λ ps. AreParts (host_rules managed_ops) c (opening (managed_start o) c ps)
      (events_at after) went.further) (sym programs-same)
      (subst (λ l. AreParts (host_rules managed_ops) c begins l went.further)
      (λ k j. lists j k) went.run)

  -- what the site's events send was sent in that run
  was_sent : (b : List ℕ) → Sends mid b → Contains went.further.sent b
  was_sent b s =
      part_sent (host_rules managed_ops) c begins went.further
      (λ j. events_at sites j ++ only_at i on.more j) i first s.0 b went.run first_is
      (subst (λ l. AllHappen (host_rules managed_ops) c first (events_at sites i ++ l) s.0)
      (sym (here (host_rules managed_ops) c begins i on.more)) (happens s.0 s.1)) s.2

  all-sent : (b : List ℕ) → Contains more b → Contains went.further.sent b
  all-sent b in-more = elim (added b in-more) [
    | inl before ↦ went.before b (played.all_sent b before)
    | inr by-it ↦ was_sent b by-it
  ]

  took-here : AllCanBeMade more c.nodes i new.events
  took-here =
      can-more sent more c.nodes i new.events kept
      (subst (AllCanBeMade sent c.nodes i) (sym (new-events))
      (can-append sent c.nodes i old.events on.more was.took
      (subst (λ (k : Config). AllCanBeMade sent k.nodes i on.more) was.config
      (subst (λ j. AllCanBeMade sent old.config.nodes j on.more) was.me on.can))))

  node_each : (j : ℕ) (s : SiteView) → slice_get after j ≡ Some s → IsNode c o more j s
  node_each j s at =
      ⊎_elim
      (λ p. subst (IsNode c o more j) (sym p.1)
      (subst (λ x. IsNode c o more x new) (sym p.0)
      (record {
        config = new-config;
        me = new-me;
        opened = new-opened;
        made = made';
        took = took-here;
      })))
      (λ q. let old-one = played.each j s q in record {
        config = old-one.config;
        me = old-one.me;
        opened = old-one.opened;
        made = old-one.made;
        took = can-more sent more c.nodes j s.events kept old-one.took;
      })
      (set-cases sites i j new s at)

  pub played_on : ArePlayed c o after more
  played_on = record {
    limits = played.limits;
    count = length-set sites i new ∙ played.count;
    each = node_each;
    end = went.further;
    run = run;
    all_sent = all-sent;
  }

-- each string that was given to a node is one of these
pub took-old : (c : Config) (o : Opening) (sent : List (List ℕ)) (i : ℕ) (s : SiteView) → IsNode c o sent i s
    → AllCanBeMade sent s.config.nodes s.me s.events
took-old c o sent i s own =
    subst (λ (k : Config). AllCanBeMade sent k.nodes s.me s.events) (sym own.config)
    (subst (λ j. AllCanBeMade sent c.nodes j s.events) (sym own.me) own.took)

pub limits-old : (c : Config) (o : Opening) (sent : List (List ℕ)) (i : ℕ) (s : SiteView) → IsConfig c
    → IsNode c o sent i s → IsConfig s.config
limits-old c o sent i s limits own = subst IsConfig (sym own.config) limits
