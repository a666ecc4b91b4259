-- A world whose moves led to it is one of moves still where the owner of a node makes further calls.
use Rattle.std.proofs.Common.{◌≡◌, ◌≢◌, ℕ, zero, suc, ◌==◌, ◌<◌, List, [], ◌∷◌, length, length-set, map, set, slice_get, Result, Ok, Err, OnOk, OnErr, IfSome, Some, None, Option, option_map, if◌then◌else◌, refl, sym, ap, subst, ◌∙◌, arith, inl, inr}
use Rattle.std.proofs.lemmas.Bool.{cases_eq, eq-eqb, ne_eqb}
use Rattle.std.proofs.lemmas.List.{length-map}
use Rattle.std.proofs.lemmas.Option.{same_Some, slice_get-map}
use Rattle.ivy_model.specs.declared.Call.{Call}
use Rattle.ivy_model.specs.declared.Config.{Config}
use Rattle.ivy_model.specs.declared.Fault.{Fault}
use Rattle.ivy_host.specs.declared.opening.Opening.{Opening}
use Rattle.ivy_moves.specs.Carrying.{IsChangedBy, node_changed}
use Rattle.ivy_moves.specs.stated.Nodes.{Node}
use Rattle.ivy_moves.specs.Parts.{parts_of}
use Rattle.ivy_moves.proofs.Carried.{carry_over, changed-one}
use Rattle.ivy_moves.proofs.Places.{set-there, set-elsewhere}
use Rattle.ivy_program.specs.OwnCode.{IsFree}
use Rattle.ivy_program.specs.Programs.{handed}
use Rattle.proof_worlds.specs.stated.Reached.{IsLedTo}
use Rattle.ivy_link.specs.stated.Linked.{peer_at}
use Rattle.ivy_host.specs.Handing.{handing}
use Rattle.ivy_host.specs.stated.Hosts.{Host, host_rules}
use Rattle.ivy_host.specs.stated.Managers.{Managed, managed_ops}
use Rattle.ivy_host.specs.stated.Openings.{managed_start, opening}
use Rattle.ivy_site.specs.Handed.{site_handed}
use Rattle.ivy_site.specs.SiteView.{SiteView}
use Rattle.ivy_site.specs.Sites.{early_at, IsMadeByEvents}
use Rattle.ivy_site.proofs.Handed.{handed_made, handed_early}
use Rattle.ivy_host.proofs.HandedHosts.{AreHanded, handed_none, handing_none, opening_handed, unseen}
use Rattle.ivy_world.specs.HandedWorlds.{changed_at, run_handed}
use Rattle.ivy_world.specs.WorldRounds.{Comes, IsPassed}
use Rattle.ivy_world.specs.WorldSites.{programs_of, world_of, run_of, IsRunning}
use Rattle.ivy_world.proofs.Making.{changed_are, same_map}

-- what the sites show, where one is written
map_changed : {X Y : Type 0} (f : X → Y) (g : Y → Y) (xs : List X) (i : ℕ) (old new : X)
    → slice_get xs i ≡ Some old → f new ≡ g (f old)
    → map f (set xs i new) ≡ changed_at i g (map f xs)
map_changed f g [] i old new there is = refl
map_changed f g (x ∷ xs) zero old new there is =
    ap (λ y. y ∷ map f xs) (is ∙ ap (λ z. g (f z)) (sym (same_Some x old there)))
map_changed f g (x ∷ xs) (suc i) old new there is =
    ap (λ l. f x ∷ l) (map_changed f g xs i old new there is)

module _ (c : Config) (opened : Opening) (sites : List SiteView) (sent : List (List ℕ)) (node : ℕ)
    (old : SiteView)
    (there : slice_get sites node ≡ Some old) (more : List (List Call))
    (h : IsRunning c opened sites sent) where
  abbrev new : SiteView
  new = site_handed more old

  abbrev sites' : List SiteView
  sites' = set sites node new

  made : IsMadeByEvents old
  made = h.nodes.made node old there

  -- each node is handed these rows of calls, or none
  abbrev pub more_at : ℕ → List (List Call)
  more_at i = if i == node then more else []

  more_here : more_at node ≡ more
  more_here = ap (λ b. if b then more else []) (eq-eqb node node refl)

  more_there : (i : ℕ) → i ≢ node → more_at i ≡ []
  more_there i apart = ap (λ b. if b then more else []) (ne_eqb i node apart)

  -- the world that they are
  pub handed_run : run_of c opened sites' sent ≡ run_handed node more (run_of c opened sites sent)
  handed_run =
      λ k. record {
        config = c;
        opened = opened;
        programs = map_changed (λ (s : SiteView). s.node.core.process.program) (handed more) sites
            node old new there refl k;
        world = record {
          nodes = map_changed (λ (s : SiteView). s.node) (node_changed (handing more)) sites node old
              new there refl k;
          sent = sent;
          early = same_map early_at sites node old new there (handed_early more old made) k;
        };
      }

  node_kept : (n : Node (Host Managed)) → node_changed (handing []) n ≡ n
  node_kept n = ap (λ h. record { core = h; link = n.link }) (handing_none n.core)

  -- what the sites show of what the calls change
  module _ {Y : Type 0} (f : SiteView → Y) (g : List (List Call) → Y → Y) (none : (y : Y) → g [] y ≡ y)
      (is : f new ≡ g more (f old)) where
    changed_there : (i : ℕ) (y : Y) → slice_get (map f sites) i ≡ Some y
        → slice_get (map f sites') i ≡ Some (g (more_at i) y)
    changed_there i y at = elim (cases_eq i node) [
      | inl same ↦
          (let here : slice_get (map f sites) i ≡ Some (f old) =
          slice_get-map f sites i ∙ ap (λ j. option_map f (slice_get sites j)) same
          ∙ ap (option_map f) there in
          slice_get-map f sites' i ∙ ap (λ j. option_map f (slice_get sites' j)) same
          ∙ ap (option_map f) (set-there sites node new old there)
          ∙ ap Some is
          ∙ ap (λ m. Some (g m (f old))) (sym more_here)
          ∙ ap (λ j. Some (g (more_at j) (f old))) (sym same)
          ∙ ap (λ x. Some (g (more_at i) x)) (same_Some (f old) y (sym here ∙ at)))
      | inr apart ↦
          slice_get-map f sites' i
          ∙ ap (option_map f) (set-elsewhere sites node i new (λ e. apart (sym e)))
          ∙ sym (slice_get-map f sites i) ∙ at
          ∙ ap Some (sym (none y))
          ∙ ap (λ m. Some (g m y)) (sym (more_there i apart))
    ]

    changed_count : length (map f sites') ≡ length (map f sites)
    changed_count =
        length-map sites' f ∙ length-set sites node new ∙ sym (length-map sites f)

  pub world_changed : IsChangedBy (λ i. handing (more_at i)) (world_of sites sent)
      (world_of sites' sent)
  world_changed = record {
    there = changed_there (λ (s : SiteView). s.node) (λ m. node_changed (handing m)) node_kept refl;
    count = changed_count (λ (s : SiteView). s.node) (λ m. node_changed (handing m)) node_kept refl;
    sent = refl;
    early = same_map early_at sites node old new there (handed_early more old made);
  }

  pub programs_handed : AreHanded more_at (programs_of sites) (programs_of sites')
  programs_handed = record {
    count = changed_count (λ (s : SiteView). s.node.core.process.program) handed handed_none refl;
    each = changed_there (λ (s : SiteView). s.node.core.process.program) handed handed_none refl;
  }

  -- the world runs on
  pub handed_running : IsRunning c opened sites' sent
  handed_running =
      let start = opening_handed (managed_start opened) c more_at (programs_of sites)
      (programs_of sites')
      programs_handed in
      let over = carry_over (host_rules managed_ops) c (λ i. handing (more_at i))
      (λ i. unseen managed_ops (more_at i)) (opening (managed_start opened) c (programs_of sites))
      (world_of sites sent)
      (λ j. parts_of (host_rules managed_ops) c h.reached.0
      (opening (managed_start opened) c (programs_of sites)) (world_of sites sent) h.reached.1 j)
      (record { moves = h.reached.0; leads = h.reached.1; are = λ j. refl })
      (opening (managed_start opened) c (programs_of sites')) start in
      record {
        limits = h.limits;
        count = length-set sites node new ∙ h.count;
        nodes = changed_are c sites node old new h.nodes there refl refl refl
            (h.nodes.none_waits node old there) (handed_made more old made);
        reached = (
          over.1.moves,
          subst (λ w. IsLedTo c (opening (managed_start opened) c (programs_of sites')) over.1.moves
              w)
              (changed-one (λ i. handing (more_at i)) (world_of sites sent) over.0
              (world_of sites' sent) over.2 world_changed)
              over.1.leads,
        );
      }

  -- no string comes to a node that did not before
  comes_too : (index to : ℕ) → Comes c (world_of sites' sent) index to
      → Comes c (world_of sites sent) index to
  comes_too index to k = elim (cases_eq to node) [
    | inl same ↦
        (let is : new.node ≡ k.node =
        same_Some new.node k.node
        (ap Some refl
        ∙ sym (slice_get-map (λ (s : SiteView). s.node) sites' to
        ∙ ap (λ j. option_map (λ (s : SiteView). s.node) (slice_get sites' j)) same
        ∙ ap (option_map (λ (s : SiteView). s.node)) (set-there sites node new old there))
        ∙ k.at) in
        record {
          string = k.string;
          there = k.there;
          byte = k.byte;
          node = old.node;
          at = slice_get-map (λ (s : SiteView). s.node) sites to
              ∙ ap (λ j. option_map (λ (s : SiteView). s.node) (slice_get sites j)) same
              ∙ ap (option_map (λ (s : SiteView). s.node)) there;
          frame = k.frame;
          spelled = k.spelled;
          dest = k.dest;
          later = subst (λ (n : Node (Host Managed)). (peer_at n.link k.frame.source).delivered
              < k.frame.number) (sym is) k.later;
        })
    | inr apart ↦
        record {
          string = k.string;
          there = k.there;
          byte = k.byte;
          node = k.node;
          at = slice_get-map (λ (s : SiteView). s.node) sites to
              ∙ ap (option_map (λ (s : SiteView). s.node))
              (sym (set-elsewhere sites node to new (λ e. apart (sym e))))
              ∙ sym (slice_get-map (λ (s : SiteView). s.node) sites' to) ∙ k.at;
          frame = k.frame;
          spelled = k.spelled;
          dest = k.dest;
          later = k.later;
        }
  ]

  pub handed_passed : (passed : ℕ) → IsPassed c (world_of sites sent) passed
      → IsPassed c (world_of sites' sent) passed
  handed_passed passed p = record {
    within = p.within;
    none = λ index to l k. p.none index to l (comes_too index to k);
  }

there_is : {X : Type 0} (xs : List X) (i : ℕ) → i < length xs → (x : X) × (slice_get xs i ≡ Some x)
there_is [] i l = absurd (omega (arith, l))
there_is (x ∷ xs) zero l = (x, refl)
there_is (x ∷ xs) (suc i) l = there_is xs i (omega (arith, l))

-- the sites after a call was handed in, or refused
pub record AreAfter (sites : List SiteView) (node : ℕ) (more : List (List Call)) (r : Result (Unit {0}) Fault)
    (end : List SiteView) : Type 0 where
  pub ok : OnOk r (IfSome (slice_get sites node)
      (λ s. end ≡ set sites node (site_handed more s)))
  pub err : OnErr r (end ≡ sites)

module _ (c : Config) (opened : Opening) (sites : List SiteView) (sent : List (List ℕ))
    (passed node : ℕ)
    (more : List (List Call)) (h : IsRunning c opened sites sent)
    (p : IsPassed c (world_of sites sent) passed)
    (l : node < length sites) where
  old : SiteView
  old = (there_is sites node l).0

  there : slice_get sites node ≡ Some old
  unfolding old
  there = (there_is sites node l).1

  pub after_running : (r : Result (Unit {0}) Fault) (end : List SiteView)
      → AreAfter sites node more r end
      → IsRunning c opened end sent × IsPassed c (world_of end sent) passed
  after_running (Ok u) end a =
      let is : end ≡ set sites node (site_handed more old) = rw there at a.ok in
      subst (λ ss. IsRunning c opened ss sent × IsPassed c (world_of ss sent) passed) (sym is) (
        handed_running c opened sites sent node old there more h,
        handed_passed c opened sites sent node old there more h passed p,
      )
  after_running (Err e) end a =
      subst (λ ss. IsRunning c opened ss sent × IsPassed c (world_of ss sent) passed) (sym a.err)
      (h, p)

  pub after_run : (r : Result (Unit {0}) Fault) (end : List SiteView)
      → AreAfter sites node more r end
      → OnOk r (run_of c opened end sent ≡ run_handed node more (run_of c opened sites sent))
  after_run (Ok u) end a =
      let is : end ≡ set sites node (site_handed more old) = rw there at a.ok in
      ap (λ ss. run_of c opened ss sent) is ∙ handed_run c opened sites sent node old there more h
  after_run (Err e) end a = tt

-- where it was refused the world is as it was
pub after_refusal : (c : Config) (opened : Opening) (sites : List SiteView) (sent : List (List ℕ))
    (r : Result (Unit {0}) Fault) (end : List SiteView) → OnErr r (end ≡ sites)
    → OnErr r (run_of c opened end sent ≡ run_of c opened sites sent)
after_refusal c opened sites sent (Ok u) end same = tt
after_refusal c opened sites sent (Err e) end same = ap (λ ss. run_of c opened ss sent) same

free_of : (o : Option SiteView)
    → IfSome (option_map (λ (s : SiteView). s.node) o) (λ n. IsFree n.core.process)
    → IfSome o (λ s. IsFree s.node.core.process)
free_of None f = tt
free_of (Some s) f = f

-- a node that is free is a site that is
pub free_site : (sites : List SiteView) (node : ℕ)
    → IfSome (slice_get (map (λ (s : SiteView). s.node) sites) node) (λ n. IsFree n.core.process)
    → IfSome (slice_get sites node) (λ s. IsFree s.node.core.process)
free_site sites node f =
    free_of (slice_get sites node)
    (subst (λ o. IfSome o (λ n. IsFree n.core.process))
    (slice_get-map (λ (s : SiteView). s.node) sites node) f)
