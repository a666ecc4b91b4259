-- Lists of sites: as they begin, and with one of them changed.
use Rattle.std.proofs.Common.{◌≡◌, ◌↔◌, ℕ, zero, suc, ◌+◌, List, [], ◌∷◌, ◌++◌, length, map, slice_get, Option, Some, Err, refl, sym, ap, subst, ◌∙◌, append_assoc, arith}
use Rattle.std.specs.Result.{result_err}
use Rattle.std.proofs.lemmas.List.{length-map}
use Rattle.std.proofs.lemmas.Option.{same_Some, none-some}
use Rattle.ivy_model.specs.declared.Config.{Config}
use Rattle.ivy_model.specs.stated.Config.{IsConfig}
use Rattle.ivy_model.specs.declared.Fault.{Fault}
use Rattle.ivy_model.specs.declared.Fault.TheVariants.{NoSuchFrame}
use Rattle.ivy_host.specs.declared.opening.Opening.{Opening}
use Rattle.ivy_host.specs.stated.Managers.{Managed, managed_ops}
use Rattle.ivy_program.specs.stated.Programs.{Program}
use Rattle.ivy_moves.specs.declared.Move.{Move}
use Rattle.ivy_moves.specs.stated.Worlds as worlds
use Rattle.ivy_host.specs.stated.Hosts.{Host, host_rules}
use Rattle.ivy_host.specs.stated.Openings.{first_nodes, managed_start, opening}
use Rattle.proof_worlds.specs.stated.Reached.{IsLedTo}
use Rattle.ivy_world.specs.stated.Runs.{IsRefusedBy, CannotBeNamed, IsNamedUnless, opened_run}
use Rattle.ivy_host.specs.stated.Holding.{AllSpell}
use Rattle.ivy_site.specs.SiteView.{SiteView}
use Rattle.proof_worlds.proofs.headline.Headline.{spelled-led}
use Rattle.ivy_moves.proofs.Leading.{leads_one}
use Rattle.ivy_site.specs.Sites.{first_opened, early_at, IsMadeByEvents}
use Rattle.ivy_site.proofs.Made.{first_made}
use Rattle.ivy_moves.specs.declared.keep.Keep.TheVariants.{History}
use Rattle.ivy_world.specs.WorldSites.{programs_of, world_of, run_of, AreSites, IsRunning, first_sites_from}

-- the site of the first program left goes behind those that are there
pub one_more_site : (opened : Opening) (c : Config) (me : ℕ) (sites : List SiteView) (p : Program)
    (left rest : List Program) → left ≡ p ∷ rest
    → (site : SiteView) → site ≡ first_opened opened History c me p → (more : List SiteView) → more
    ≡ sites ++ site ∷ []
    → more ++ first_sites_from opened c (me + 1) rest ≡ sites ++ first_sites_from opened c me left
one_more_site opened c me sites p left rest steps site is more added =
    ap (λ l. l ++ first_sites_from opened c (me + 1) rest) added
    ∙ append_assoc sites (site ∷ []) (first_sites_from opened c (me + 1) rest)
    ∙ ap (λ s. sites ++ s ∷ first_sites_from opened c (me + 1) rest) is
    ∙ ap (λ l. sites ++ first_sites_from opened c me l) (sym steps)

-- the sites that begin

module _ (opened : Opening) (c : Config) where
  first_length : (me : ℕ) (ps : List Program)
      → length (first_sites_from opened c me ps) ≡ length ps
  first_length me [] = refl
  first_length me (p ∷ ps) = ap suc (first_length (me + 1) ps)

  first_programs : (me : ℕ) (ps : List Program)
      → programs_of (first_sites_from opened c me ps) ≡ ps
  first_programs me [] = refl
  first_programs me (p ∷ ps) = ap (λ l. p ∷ l) (first_programs (me + 1) ps)

  first_nodes_are : (me : ℕ) (ps : List Program)
      → map (λ (s : SiteView). s.node) (first_sites_from opened c me ps) ≡ first_nodes
      (managed_start opened) c me ps
  first_nodes_are me [] = refl
  first_nodes_are me (p ∷ ps) =
      ap (λ l. (first_opened opened History c me p).node ∷ l) (first_nodes_are (me + 1) ps)

  first_at : (me : ℕ) (ps : List Program) (i : ℕ) (s : SiteView)
      → slice_get (first_sites_from opened c me ps) i ≡ Some s
      → (s.config ≡ c) × (s.me ≡ me + i) × (s.waiting ≡ []) × (s.keep ≡ History)
  first_at me [] i s e = absurd (none-some s e)
  first_at me (p ∷ ps) zero s e =
      let is = sym (same_Some (first_opened opened History c me p) s e) in
      let me-is : s.me ≡ me = ap (λ (x : SiteView). x.me) is in (
        ap (λ (x : SiteView). x.config) is,
        omega (arith, me-is),
        ap (λ (x : SiteView). x.waiting) is,
        ap (λ (x : SiteView). x.keep) is,
      )
  first_at me (p ∷ ps) (suc i) s e =
      let rest = first_at (me + 1) ps i s e in
      let me-is : s.me ≡ me + 1 + i = rest.1 in
      (rest.0, omega (arith, me-is), rest.2, rest.3)

  first_made_at : (me : ℕ) (ps : List Program) (i : ℕ) (s : SiteView)
      → slice_get (first_sites_from opened c me ps) i ≡ Some s → IsMadeByEvents s
  first_made_at me [] i s e = absurd (none-some s e)
  first_made_at me (p ∷ ps) zero s e =
      subst IsMadeByEvents (same_Some (first_opened opened History c me p) s e)
      (first_made opened History c me p)
  first_made_at me (p ∷ ps) (suc i) s e = first_made_at (me + 1) ps i s e

  first_early : (me : ℕ) (ps : List Program)
      → map early_at (first_sites_from opened c me ps) ≡ map (λ (p : Program). []) ps
  first_early me [] = refl
  first_early me (p ∷ ps) = ap (λ l. [] ∷ l) (first_early (me + 1) ps)

  first_are : (ps : List Program) → AreSites c (first_sites_from opened c 0 ps)
  first_are ps = record {
    config = λ i s e. (first_at 0 ps i s e).0;
    me = λ i s e. (let is : s.me ≡ 0 + i = (first_at 0 ps i s e).1 in omega (arith, is));
    none_waits = λ i s e. (first_at 0 ps i s e).2;
    keep = λ i s e. (first_at 0 ps i s e).3;
    made = λ i s e. first_made_at 0 ps i s e;
  }

  first_run : (ps : List Program)
      → run_of c opened (first_sites_from opened c 0 ps) []
      ≡ opened_run opened c ps
  first_run ps =
      λ k. record {
        config = c;
        opened = opened;
        programs = first_programs 0 ps k;
        world = record { nodes = first_nodes_are 0 ps k; sent = []; early = first_early 0 ps k };
      }

  first_leads : (ps : List Program)
      → IsLedTo c (opening (managed_start opened) c (programs_of (first_sites_from opened c 0 ps)))
      []
      (world_of (first_sites_from opened c 0 ps) [])
  first_leads ps =
      λ k. record {
        nodes =
            (first_nodes_are 0 ps ∙ ap (first_nodes (managed_start opened) c 0)
            (sym (first_programs 0 ps))) k;
        sent = [];
        early = (first_early 0 ps
            ∙ ap (map (λ (p : Program). [])) (sym (first_programs 0 ps))) k;
      }

  first_running : IsConfig c → (ps : List Program) → length ps ≡ c.nodes
      → IsRunning c opened (first_sites_from opened c 0 ps) []
  first_running config ps each = record {
    limits = config;
    count = first_length 0 ps ∙ each;
    nodes = first_are ps;
    reached = ([], first_leads ps);
  }

-- the world of the first sites is the opening one, and it runs
pub first_running-of : (opened : Opening) (c : Config) (ps : List Program) (sites : List SiteView)
    (sent : List (List ℕ)) → IsConfig c → length ps ≡ c.nodes → sites ≡ first_sites_from opened c 0
    ps
    → sent ≡ [] → IsRunning c opened sites sent
first_running-of opened c ps sites sent config each is none =
    rw is (rw none (first_running opened c config ps each))

pub first_run-of : (opened : Opening) (c : Config) (ps : List Program) (sites : List SiteView)
    (sent : List (List ℕ)) → sites ≡ first_sites_from opened c 0 ps → sent ≡ []
    → run_of c opened sites sent ≡ opened_run opened c ps
first_run-of opened c ps sites sent is none =
    ap (λ l. run_of c opened l sent) is ∙ ap (run_of c opened (first_sites_from opened c 0 ps)) none
    ∙ first_run opened c ps

-- a running world has programs for its nodes, and its strings spell frames
pub running_each : (c : Config) (opened : Opening) (sites : List SiteView) (sent : List (List ℕ))
    → IsRunning c opened sites sent
    → length (programs_of sites) ≡ c.nodes
running_each c opened sites sent h =
    length-map sites (λ (s : SiteView). s.node.core.process.program) ∙ h.count

pub running_spelled : (c : Config) (opened : Opening) (sites : List SiteView) (sent : List (List ℕ))
    → IsRunning c opened sites sent → AllSpell c (world_of sites sent)
running_spelled c opened sites sent h =
    spelled-led opened c (programs_of sites) h.limits (running_each c opened sites sent h)
    h.reached.0
    (world_of sites sent) h.reached.1

-- a world that made one more move runs on
pub runs_on : (c : Config) (opened : Opening) (sites sites' : List SiteView)
    (sent sent' : List (List ℕ)) (step : Move)
    → IsRunning c opened sites sent → AreSites c sites' → length sites' ≡ c.nodes
    → programs_of sites' ≡ programs_of sites
    → worlds.Moves (host_rules managed_ops) c (world_of sites sent) step (world_of sites' sent')
    → IsRunning c opened sites' sent'
runs_on c opened sites sites' sent sent' step h are count programs made = record {
  limits = h.limits;
  count = count;
  nodes = are;
  reached = (
    h.reached.0 ++ step ∷ [],
    subst (λ ps. IsLedTo c (opening (managed_start opened) c ps) (h.reached.0 ++ step ∷ [])
        (world_of sites' sent')) (sym programs)
        (leads_one (host_rules managed_ops) c (opening (managed_start opened) c (programs_of sites))
        (world_of sites sent) (world_of sites' sent') h.reached.0 step h.reached.1 made),
  );
}

-- refused by that number exactly where it can't be named
pub named_exactly : (c : Config) (w : worlds.World (Host Managed)) (e : Fault) (o : Option Move)
    (m : Move) → o ≡ Some m → IsRefusedBy c w e (Some m) → IsNamedUnless w (Err e) m
    → (e ≡ NoSuchFrame) ↔ CannotBeNamed w o
named_exactly c w e o m is refused named = (
  λ spent. rw is (subst (λ f. IsRefusedBy c w f (Some m)) spent refused),
  λ not. same_Some e NoSuchFrame (ap result_err (named (rw is at not))),
)
