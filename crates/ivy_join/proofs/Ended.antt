-- Sites that are played, and whose lists are those of the logs, are joined; and they are played as
-- they begin.
use Rattle.std.proofs.Common.{◌≡◌, ℕ, Bool, zero, suc, ◌+◌, ◌<◌, List, [], ◌∷◌, ◌++◌, length, map, slice_get, Contains, Some, refl, sym, ap, subst, ◌∙◌, append_assoc, option_map, arith, take, get_or}
use Rattle.std.proofs.lemmas.List.{length-map, length-take-le, map_push, take_more}
use Rattle.std.proofs.lemmas.Option.{same_Some, none-some, slice_get-map}
use Rattle.ivy_model.specs.declared.Config.{Config}
use Rattle.ivy_model.specs.stated.Config.{IsConfig}
use Rattle.ivy_moves.specs.Marks.{Mark}
use Rattle.ivy_moves.specs.stated.Nodes.{Node, Effect}
use Rattle.ivy_moves.specs.Parts.{AllHappen, AllCanBeMade, AreParts}
use Rattle.ivy_moves.proofs.Parts.{runs_are_their_parts}
use Rattle.ivy_moves.proofs.Splitting.{same-effect}
use Rattle.ivy_host.specs.declared.opening.Opening.{Opening}
use Rattle.ivy_host.specs.stated.Hosts.{Host, host_rules}
use Rattle.ivy_host.specs.stated.Managers.{Managed, managed_ops}
use Rattle.ivy_host.specs.stated.Openings.{first_node, managed_start, opening}
use Rattle.ivy_site.specs.SiteView.{SiteView}
use Rattle.ivy_site.specs.Sites.{first_opened, IsMadeByEvents}
use Rattle.ivy_world.specs.WorldSites.{programs_of}
use Rattle.proof_worlds.proofs.headline.Headline.{keeps-reached}
use Rattle.ivy_moves.specs.declared.keep.Keep.{Keep}
use Rattle.ivy_site.proofs.Made.{first_made}
use Rattle.ivy_program.specs.stated.Programs.{Program}
use Rattle.ivy_join.specs.ReplaySites.{program_in, events_at, listed, kept_from, IsNode, ArePlayed}
use Rattle.ivy_logs.specs.declared.log.LogHead.{LogHead}
use Rattle.ivy_join.specs.Exact.{HasSent, HaveSent}
use Rattle.ivy_join.specs.Joined.{part_in, list_of, run_to, AreHeads, AreJoined}
use Rattle.ivy_join.proofs.Played.{first_there}

module _ (c : Config) (o : Opening) (programs : List Program) (sites : List SiteView) (sent : List (List ℕ))
    (lists : List (List Mark)) (played : ArePlayed c o sites sent)
    (same : programs_of sites ≡ programs) (each : length lists ≡ length sites)
    (are : (i : ℕ) → events_at sites i ≡ part_in lists i) where
  run : AreParts (host_rules managed_ops) c (opening (managed_start o) c programs) (part_in lists) played.end
  run =
      subst (λ ps. AreParts (host_rules managed_ops) c (opening (managed_start o) c ps) (part_in lists)
      played.end) same
      (subst (λ l. AreParts (host_rules managed_ops) c (opening (managed_start o) c (programs_of sites)) l
      played.end) (λ k j. are j k) played.run)

  -- a site is the node of its place at the end
  node : (i : ℕ) (s : SiteView) → slice_get sites i ≡ Some s
      → slice_get played.end.nodes i ≡ Some s.node
  node i s there =
      let own = played.each i s there in
      let first : Node (Host Managed) = first_node (managed_start o) c i (program_in s) in
      let first_is : slice_get (opening (managed_start o) c (programs_of sites)).nodes i ≡ Some first =
      first_there o c 0 i (programs_of sites) i (program_in s) (omega arith)
      (slice_get-map program_in sites i ∙ ap (option_map program_in) there) in
      let made = (runs_are_their_parts (host_rules managed_ops) c
      (opening (managed_start o) c (programs_of sites)) played.end (events_at sites) played.run).each i first
      first_is in
      let happen : AllHappen (host_rules managed_ops) c first (events_at sites i) own.made.effect =
      subst (λ l. AllHappen (host_rules managed_ops) c first l own.made.effect)
      (sym (ap listed there))
      (subst (λ k. AllHappen (host_rules managed_ops) k
      (first_node (managed_start o) k i (program_in s)) s.events own.made.effect) own.config
      (subst (λ j. AllHappen (host_rules managed_ops) s.config
      (first_node (managed_start o) s.config j (program_in s)) s.events own.made.effect) own.me
      (subst (λ l. AllHappen (host_rules managed_ops) s.config
      (first_node (managed_start l) s.config s.me (program_in s)) s.events own.made.effect)
      own.opened own.made.happen))) in
      let equal : made.0 ≡ own.made.effect =
      same-effect (host_rules managed_ops) c first (events_at sites i) made.0 own.made.effect made.1
      happen in
      made.2 ∙ ap (λ (e : Effect (Host Managed)). Some e.after) equal ∙ ap Some (sym own.made.node)

  pub joined : AreJoined c o programs lists sites
  joined = record {
    each = each ∙ played.count;
    count = played.count;
    end = played.end;
    run = run;
    keeps = keeps-reached (run_to c o programs played.end) played.limits
        (ap length (sym same) ∙ length-map sites program_in ∙ played.count)
        (run.moves, run.leads);
    nodes = node;
  }

-- as they begin

pub one_more_kept : (o : Opening) (k : Keep) (c : Config) (me : ℕ) (sites : List SiteView) (p : Program)
    (left rest : List Program) → left ≡ p ∷ rest → (site : SiteView) → site ≡ first_opened o k c me p
    → (more : List SiteView) → more ≡ sites ++ site ∷ []
    → more ++ kept_from o k c (me + 1) rest ≡ sites ++ kept_from o k c me left
one_more_kept o k c me sites p left rest steps site is more added =
    ap (λ l. l ++ kept_from o k c (me + 1) rest) added
    ∙ append_assoc sites (site ∷ []) (kept_from o k c (me + 1) rest)
    ∙ ap (λ s. sites ++ s ∷ kept_from o k c (me + 1) rest) is
    ∙ ap (λ l. sites ++ kept_from o k c me l) (sym steps)

module _ (o : Opening) (k : Keep) (c : Config) where
  first_count : (me : ℕ) (ps : List Program) → length (kept_from o k c me ps) ≡ length ps
  first_count me [] = refl
  first_count me (p ∷ ps) = ap suc (first_count (me + 1) ps)

  programs-from : (me : ℕ) (ps : List Program) → programs_of (kept_from o k c me ps) ≡ ps
  programs-from me [] = refl
  programs-from me (p ∷ ps) = ap (λ l. p ∷ l) (programs-from (me + 1) ps)

  first-events : (me : ℕ) (ps : List Program) (i : ℕ) → events_at (kept_from o k c me ps) i ≡ []
  first-events me [] i = refl
  first-events me (p ∷ ps) zero = refl
  first-events me (p ∷ ps) (suc i) = first-events (me + 1) ps i

  first_at : (me : ℕ) (ps : List Program) (i j : ℕ) (s : SiteView) → me + i ≡ j
      → slice_get (kept_from o k c me ps) i ≡ Some s → (p : Program) × (s ≡ first_opened o k c j p)
  first_at me [] i j s at e = absurd (none-some s e)
  first_at me (p ∷ ps) zero j s at e =
      let same : me ≡ j = omega (arith, at) in
      (p, sym (same_Some (first_opened o k c me p) s e) ∙ ap (λ n. first_opened o k c n p) same)
  first_at me (p ∷ ps) (suc i) j s at e = first_at (me + 1) ps i j s (omega (arith, at)) e

module _ (o : Opening) (k : Keep) (c : Config) (programs : List Program) (sites : List SiteView) (limits : IsConfig c)
    (each : length programs ≡ c.nodes) (first : sites ≡ kept_from o k c 0 programs) where
  pub first_programs : programs_of sites ≡ programs
  first_programs = ap programs_of first ∙ programs-from o k c 0 programs

  pub nothing : (i : ℕ) → events_at sites i ≡ []
  nothing i = ap (λ l. events_at l i) first ∙ first-events o k c 0 programs i

  first-node : (i : ℕ) (s : SiteView) → slice_get sites i ≡ Some s → IsNode c o [] i s
  first-node i s there =
      let own = first_at o k c 0 programs i i s (omega arith)
      (subst (λ l. slice_get l i ≡ Some s) first there) in
      let is : s ≡ first_opened o k c i own.0 = own.1 in record {
        config = ap (λ (x : SiteView). x.config) is;
        me = ap (λ (x : SiteView). x.me) is;
        opened = ap (λ (x : SiteView). x.opened) is;
        made = subst IsMadeByEvents (sym is) (first_made o k c i own.0);
        took = subst (AllCanBeMade [] c.nodes i) (sym (ap (λ (x : SiteView). x.events) is)) tt;
      }

  pub first-played : ArePlayed c o sites []
  first-played = record {
    limits = limits;
    count = ap length first ∙ first_count o k c 0 programs ∙ each;
    each = first-node;
    end = opening (managed_start o) c (programs_of sites);
    run = record { moves = []; leads = refl; are = nothing };
    all_sent = λ b there. there;
  }

  -- nothing was sent
  pub first-sent : HaveSent [] sites
  first-sent i s there =
      let own = first_at o k c 0 programs i i s (omega arith)
      (subst (λ l. slice_get l i ≡ Some s) first there) in
      subst (HasSent []) (sym own.1) (record {
        none = refl;
        all = λ b sends. subst (λ (e : Effect (Host Managed)). Contains e.sent b) sends.1 sends.2;
      })

-- what the lists of logs have

pub part_at : {X : Type 0} (f : X → List Mark) (xs : List X) (i : ℕ) (x : X) → slice_get xs i ≡ Some x
    → part_in (map f xs) i ≡ f x
part_at f xs i x there = ap list_of (slice_get-map f xs i ∙ ap (option_map f) there)

-- one head more
heads-push : (steady : Bool) (c : Config) (n m : ℕ) (hs : List LogHead) (h : LogHead) → AreHeads steady c n hs → m ≡ n + length hs
    → h ≡ record { me = m; config = c; steady = steady } → AreHeads steady c n (hs ++ h ∷ [])
heads-push steady c n m [] h heads at is =
    (is ∙ ap (λ k. record { me = k; config = c; steady = steady }) (omega (arith, at)), tt)
heads-push steady c n m (x ∷ hs) h heads at is =
    (heads.0, heads-push steady c (n + 1) m hs h heads.1 (omega (arith, at)) is)

pub heads-more : {X : Type 0} (f : X → LogHead) (steady : Bool) (c : Config) (xs : List X) (i : ℕ) (x : X) → i < length xs
    → x ≡ get_or xs i x → AreHeads steady c 0 (map f (take i xs)) → f x ≡ record { me = i; config = c; steady = steady }
    → AreHeads steady c 0 (map f (take (i + 1) xs))
heads-more f steady c xs i x below there heads is =
    let longer : map f (take (i + 1) xs) ≡ map f (take i xs) ++ f x ∷ [] =
    ap (map f) (take_more xs i x below ∙ ap (λ y. take i xs ++ y ∷ []) (sym there))
    ∙ map_push f (take i xs) x in
    let count : length (map f (take i xs)) ≡ i =
    length-map (take i xs) f ∙ length-take-le i xs (omega (arith, below)) in
    subst (AreHeads steady c 0) (sym longer)
    (heads-push steady c 0 i (map f (take i xs)) (f x) heads (omega (arith, count)) is)
