-- Sites that are played stay so where the program at one of them gets more, which no event sees: own
-- code makes a further call, or has a page fetched ahead.
use Rattle.std.proofs.Common.{◌≡◌, ◌≢◌, ℕ, zero, suc, ◌+◌, ◌==◌, ◌<◌, arith, IfSome, Bool, true, false, List, [], ◌∷◌, length, length-set, map, set, slice_get, Contains, Some, option_map, refl, sym, ap, subst, append-nil, ◌∙◌, inl, inr, ⊎_elim}
use Rattle.std.proofs.lemmas.Bool.{cases_eq, eq-eqb, ne_eqb}
use Rattle.std.proofs.lemmas.List.{length-map}
use Rattle.std.proofs.lemmas.Option.{same_Some, none-some, slice_get-map}
use Rattle.ivy_model.specs.declared.Call.{Call}
use Rattle.ivy_model.specs.declared.Config.{Config}
use Rattle.ivy_moves.specs.Parts.{AreParts}
use Rattle.ivy_moves.proofs.Carried.{carry_over}
use Rattle.ivy_moves.proofs.Splitting.{same-effect}
use Rattle.ivy_moves.proofs.Unseen.{events-over}
use Rattle.ivy_moves.specs.Carrying.{EventsCarryOver, IsChangedBy, IsUnseen, effect_changed, node_changed}
use Rattle.ivy_moves.specs.stated.Nodes.{Node, Effect}
use Rattle.ivy_moves.proofs.Places.{set-cases, set-there, set-elsewhere}
use Rattle.ivy_logs.specs.declared.log.LogEntry.TheVariants.{Asked}
use Rattle.ivy_program.specs.stated.Programs.{Program}
use Rattle.ivy_host.specs.declared.opening.Opening.{Opening}
use Rattle.ivy_host.specs.stated.Hosts.{Host, host_rules}
use Rattle.ivy_host.specs.stated.Managers.{Managed, managed_ops}
use Rattle.ivy_host.specs.stated.Openings.{first_node, first_nodes, managed_start, opening}
use Rattle.ivy_host.proofs.HandedHosts.{unseen}
use Rattle.ivy_host.proofs.WellBehaved.{first_length}
use Rattle.ivy_site.specs.Handed.{site_handed}
use Rattle.ivy_site.specs.SiteView.{SiteView}
use Rattle.ivy_site.specs.Sites.{IsMadeByEvents}
use Rattle.ivy_world.specs.WorldSites.{programs_of}
use Rattle.ivy_join.specs.ReplaySites.{program_in, events_at, listed, IsNode, ArePlayed, Sends}
use Rattle.ivy_join.specs.Calls.{HasHanded, handed_by}
use Rattle.ivy_join.specs.Exact.{HasSent, HaveSent, IsMadeAt}
use Rattle.ivy_join.proofs.Played.{first_there}

-- the node, and the site, with this change of its program
abbrev pub changing : (Program → Program) → Host Managed → Host Managed
changing change n =
    record n { process = record { program = change n.process.program; state = n.process.state } }

abbrev pub site_changed : (Program → Program) → SiteView → SiteView
site_changed change s = record s { node = node_changed (changing change) s.node }

-- no turn that does something sees the change, and no message
abbrev pub IsHidden : (Program → Program) → Type 0
IsHidden change = IsUnseen (host_rules managed_ops) (changing change)

-- that of further calls
pub calls-hidden : (call : Call) → IsHidden (handed_by (Asked call))
calls-hidden call = unseen managed_ops ((call ∷ []) ∷ [])

-- one site

module _ (change : Program → Program) (hidden : IsHidden change) (s : SiteView) (made : IsMadeByEvents s) where
  abbrev first : Node (Host Managed)
  first = first_node (managed_start s.opened) s.config s.me (program_in s)

  over : EventsCarryOver (host_rules managed_ops) s.config (changing change) first s.events made.effect
  over =
      events-over (host_rules managed_ops) s.config (changing change) hidden first s.events made.effect
      made.happen

  -- its events make it of the first node of the program that has more
  pub made-changed : IsMadeByEvents (site_changed change s)
  made-changed = record {
    effect = effect_changed (changing change) made.effect;
    happen = over.happen;
    node = ap (node_changed (changing change)) made.node;
    taken = made.taken;
    waits = made.waits;
  }

  -- what they send with the change they send without it
  pub sends-changed : (b : List ℕ) → Sends (site_changed change s) b → Sends s b
  sends-changed b (effect, happen, own) =
      let same : effect ≡ effect_changed (changing change) made.effect =
      same-effect (host_rules managed_ops) s.config
      (first_node (managed_start s.opened) s.config s.me (change (program_in s))) s.events effect
      (effect_changed (changing change) made.effect) happen over.happen in
      (made.effect, made.happen, subst (λ (e : Effect (Host Managed)). Contains e.sent b) same own)

-- the world of all

program-at : (o : Opening) (c : Config) (me k : ℕ) (ps : List Program) (i : ℕ) (n : Node (Host Managed)) → me + i ≡ k
    → slice_get (first_nodes (managed_start o) c me ps) i ≡ Some n
    → (p : Program) × (slice_get ps i ≡ Some p) × (first_node (managed_start o) c k p ≡ n)
program-at o c me k [] i n at is = absurd (none-some n is)
program-at o c me k (p ∷ ps) zero n at is =
    let same : k ≡ me = omega (arith, at) in
    (p, refl, ap (λ j. first_node (managed_start o) c j p) same ∙ same_Some (first_node (managed_start o) c me p) n is)
program-at o c me k (p ∷ ps) (suc i) n at is = program-at o c (me + 1) k ps i n (omega (arith, at)) is

as_many : {X Y : Type 0} (xs ys : List X) (y : Y) → length ys ≡ length xs
    → map (λ (x : X). y) ys ≡ map (λ (x : X). y) xs
as_many [] [] y e = refl
as_many [] (z ∷ ys) y e = absurd (omega (arith, e))
as_many (x ∷ xs) [] y e = absurd (omega (arith, e))
as_many (x ∷ xs) (z ∷ ys) y e = ap (λ l. y ∷ l) (as_many xs ys y (omega (arith, e)))

-- programs that are these, each with its change
pub opening-changed : (change : ℕ → Program → Program) (o : Opening) (c : Config) (old new : List Program)
    → length new ≡ length old
    → ((i : ℕ) (p : Program) → slice_get old i ≡ Some p → slice_get new i ≡ Some (change i p))
    → IsChangedBy (λ i. changing (change i)) (opening (managed_start o) c old) (opening (managed_start o) c new)
opening-changed change o c old new count each = record {
  there = λ i n at.
      (let p = program-at o c 0 i old i n (omega arith) at in
      first_there o c 0 i new i (change i p.0) (omega arith) (each i p.0 p.1)
      ∙ ap (λ m. Some (node_changed (changing (change i)) m)) p.2);
  count = first_length (managed_start o) c 0 new ∙ count ∙ sym (first_length (managed_start o) c 0 old);
  sent = refl;
  early = as_many old new [] count;
}

module _ (sites : List SiteView) (node : ℕ) (old : SiteView) (there : slice_get sites node ≡ Some old)
    (change : Program → Program) (hidden : IsHidden change) where
  abbrev new : SiteView
  new = site_changed change old

  abbrev after : List SiteView
  after = set sites node new

  -- each node's program has the change, or none
  abbrev by_test : Bool → Program → Program
  by_test true p = change p
  by_test false p = p

  abbrev change_at : ℕ → Program → Program
  change_at i = by_test (i == node)

  change_here : (i : ℕ) (p : Program) → i ≡ node → change_at i p ≡ change p
  change_here i p same = ap (λ b. by_test b p) (eq-eqb i node same)

  change_there : (i : ℕ) (p : Program) → i ≢ node → change_at i p ≡ p
  change_there i p apart = ap (λ b. by_test b p) (ne_eqb i node apart)

  hidden_by : (b : Bool) → IsHidden (by_test b)
  hidden_by true = hidden
  hidden_by false = record { turn = λ n o e. e; serve = λ n from m. refl }

  changed_here : slice_get (programs_of after) node ≡ Some (change (program_in old))
  changed_here =
      slice_get-map program_in after node ∙ ap (option_map program_in) (set-there sites node new old there)

  changed_elsewhere : (i : ℕ) → i ≢ node → slice_get (programs_of after) i ≡ slice_get (programs_of sites) i
  changed_elsewhere i apart =
      slice_get-map program_in after i
      ∙ ap (option_map program_in) (set-elsewhere sites node i new (λ e. apart (sym e)))
      ∙ sym (slice_get-map program_in sites i)

  mine : (p : Program) → slice_get (programs_of sites) node ≡ Some p → program_in old ≡ p
  mine p at =
      same_Some (program_in old) p
      (sym (slice_get-map program_in sites node ∙ ap (option_map program_in) there) ∙ at)

  changed_there : (i : ℕ) (p : Program) → slice_get (programs_of sites) i ≡ Some p
      → slice_get (programs_of after) i ≡ Some (change_at i p)
  changed_there i p at = elim (cases_eq i node) [
    | inl same ↦
        ap (slice_get (programs_of after)) same ∙ changed_here
        ∙ ap (λ q. Some (change q)) (mine p (ap (slice_get (programs_of sites)) (sym same) ∙ at))
        ∙ ap Some (sym (change_here i p same))
    | inr apart ↦ changed_elsewhere i apart ∙ at ∙ ap Some (sym (change_there i p apart))
  ]

  -- that is no event
  pub same_events : (i : ℕ) → events_at sites i ≡ events_at after i
  same_events i = elim (cases_eq i node) [
    | inl same ↦
        ap (events_at sites) same ∙ ap listed there
        ∙ sym (ap listed (set-there sites node new old there)) ∙ ap (events_at after) (sym same)
    | inr apart ↦ ap listed (sym (set-elsewhere sites node i new (λ e. apart (sym e))))
  ]

  -- and the node's program has it
  pub programs-here : (p : Program) → slice_get (programs_of sites) node ≡ Some p
      → slice_get (programs_of after) node ≡ Some (change p)
  programs-here p at = changed_here ∙ ap (λ q. Some (change q)) (mine p at)

  pub programs-elsewhere : (i : ℕ) → i ≢ node → slice_get (programs_of after) i ≡ slice_get (programs_of sites) i
  programs-elsewhere = changed_elsewhere

  module _ (c : Config) (o : Opening) (sent : List (List ℕ)) (played : ArePlayed c o sites sent) where
    node_each : (i : ℕ) (s : SiteView) → slice_get after i ≡ Some s → IsNode c o sent i s
    node_each i s at =
        ⊎_elim
        (λ p. let was = played.each node old there in
        subst (IsNode c o sent i) (sym p.1) (subst (λ x. IsNode c o sent x new) (sym p.0) (record {
          config = was.config;
          me = was.me;
          opened = was.opened;
          made = made-changed change hidden old was.made;
          took = was.took;
        })))
        (λ q. played.each i s q)
        (set-cases sites node i new s at)

    pub played-changed : ArePlayed c o after sent
    played-changed =
        let over = carry_over (host_rules managed_ops) c (λ i. changing (change_at i))
        (λ i. hidden_by (i == node)) (opening (managed_start o) c (programs_of sites)) played.end
        (events_at sites) played.run (opening (managed_start o) c (programs_of after))
        (opening-changed change_at o c (programs_of sites) (programs_of after)
        (length-map after program_in ∙ length-set sites node new ∙ sym (length-map sites program_in))
        changed_there) in
        record {
          limits = played.limits;
          count = length-set sites node new ∙ played.count;
          each = node_each;
          end = over.0;
          run = subst (λ l. AreParts (host_rules managed_ops) c
              (opening (managed_start o) c (programs_of after)) l over.0) (λ k j. same_events j k) over.1;
          all_sent = λ b is. subst (λ l. Contains l b) (sym over.2.sent) (played.all_sent b is);
        }

    -- all that was sent is among the strings still
    module _ (have : HaveSent sent sites) where
      sent-here : HasSent sent new
      sent-here = record {
        none = (have node old there).none;
        all = λ b own. (have node old there).all b
            (sends-changed change hidden old (played.each node old there).made b own);
      }

      pub sent-changed : HaveSent sent after
      sent-changed i s at =
          ⊎_elim
          (λ p. subst (HasSent sent) (sym p.1) sent-here)
          (λ q. have i s q)
          (set-cases sites node i new s at)

pub there_is : {X : Type 0} (xs : List X) (i : ℕ) → i < length xs → (x : X) × (slice_get xs i ≡ Some x)
there_is [] i l = absurd (omega (arith, l))
there_is (x ∷ xs) zero l = (x, refl)
there_is (x ∷ xs) (suc i) l = there_is xs i (omega (arith, l))

-- own code at the site in this place made the call
module _ (sites : List SiteView) (node : ℕ) (call : Call) (end : List SiteView) (l : node < length sites)
    (after : IfSome (slice_get sites node) (λ s. end ≡ set sites node (site_handed ((call ∷ []) ∷ []) s))) where
  old : SiteView
  old = (there_is sites node l).0

  there : slice_get sites node ≡ Some old
  unfolding old
  there = (there_is sites node l).1

  abbrev more : Program → Program
  more = handed_by (Asked call)

  is : end ≡ set sites node (site_changed more old)
  is = rw there at after

  pub call-played : (c : Config) (o : Opening) (sent : List (List ℕ)) → ArePlayed c o sites sent → ArePlayed c o end sent
  call-played c o sent played =
      subst (λ ss. ArePlayed c o ss sent) (sym is)
      (played-changed sites node old there more (calls-hidden call) c o sent played)

  pub call-handed : HasHanded node (Asked call ∷ []) (programs_of sites) (programs_of end)
  call-handed =
      subst (λ ss. HasHanded node (Asked call ∷ []) (programs_of sites) (programs_of ss)) (sym is) (record {
        here = programs-here sites node old there more (calls-hidden call);
        elsewhere = programs-elsewhere sites node old there more (calls-hidden call);
      })

  pub call-made : (c : Config) (o : Opening) (sent : List (List ℕ)) → ArePlayed c o sites sent → HaveSent sent sites
      → IsMadeAt node [] sites end sent
  call-made c o sent played have =
      subst (λ ss. IsMadeAt node [] sites ss sent) (sym is) (record {
        have = sent-changed sites node old there more (calls-hidden call) c o sent played have;
        here = sym (same_events sites node old there more (calls-hidden call) node)
            ∙ sym (append-nil (events_at sites node));
        elsewhere = λ i apart. sym (same_events sites node old there more (calls-hidden call) i);
      })

-- an answer is passed over
pub passed : (sites : List SiteView) (node : ℕ) (sent : List (List ℕ)) → HaveSent sent sites
    → IsMadeAt node [] sites sites sent
passed sites node sent have = record {
  have = have;
  here = sym (append-nil (events_at sites node));
  elsewhere = λ i apart. refl;
}
