-- A site with the program that its owner has made in the end: what it does, it does so.
use Rattle.std.proofs.Common.{◌≡◌, ℕ, List, [], ◌∷◌, ◌++◌, refl, sym, ap, subst, ◌∙◌}
use Rattle.ivy_model.specs.declared.Call.{Call}
use Rattle.ivy_model.specs.stated.Config.{IsConfig}
use Rattle.ivy_wire.specs.stated.Data.{Message}
use Rattle.ivy_link.specs.declared.Verdict.{Verdict}
use Rattle.ivy_link.specs.declared.Verdict.TheVariants as verdict
use Rattle.ivy_program.specs.stated.Programs.{Program}
use Rattle.ivy_program.specs.stated.InstructionSteps.{Process}
use Rattle.ivy_moves.specs.stated.Nodes.{pulsing}
use Rattle.ivy_moves.specs.declared.keep.Keep.TheVariants.{History}
use Rattle.ivy_host.specs.stated.Hosts.{Host, serving}
use Rattle.ivy_host.specs.stated.Managers.{Managed, managed_ops}
use Rattle.ivy_host.proofs.Programs.{posting-core, turned-program}
use Rattle.ivy_site.specs.Handed.{site_fetching}
use Rattle.ivy_site.specs.SiteView.{SiteView, after_pulse_to}
use Rattle.ivy_site.specs.Sites.{IsMadeByEvents, SiteGoesOn}
use Rattle.ivy_embedded.proofs.Delivering.{delivers_program, delivery_program}
use Rattle.ivy_embedded.proofs.Going.{turned_config}
use Rattle.proof_embedded.proofs.Acting.{Act, Acts, Hands, Fetches, Turns, Delivers, Goes, Pulses, acts_carry}
use Rattle.proof_embedded.proofs.Additions.{Addition, Page, Rows, grown, site_grown}
use Rattle.proof_embedded.proofs.Emptied.{with_strings}
use Rattle.proof_embedded.proofs.Lifts.{lift_delivery, lift_goes, lift_pulse, lift_turn}
use Rattle.proof_embedded.proofs.Served.{goes_keeps}

-- what its owner has handed in
abbrev pub program_of : SiteView → Program
program_of s = s.node.core.process.program

-- the site of this program, at which these strings wait
abbrev pub as_run : Program → List (List ℕ) → SiteView → SiteView
as_run p waiting s = record s {
  node = record {
    core = record s.node.core {
      process = record { program = p; state = s.node.core.process.state };
    };
    link = s.node.link;
  };
  waiting = waiting;
  keep = History;
}

-- the program is the site's, with more handed in
abbrev pub Extends : Program → SiteView → Type 0
Extends p a = (more : List Addition) × (p ≡ grown more (program_of a))

goes_config : (source : ℕ) (more : List (List ℕ)) (a b : SiteView) → IsConfig a.config
    → SiteGoesOn source more a b → b.config ≡ a.config
goes_config source [] a b limits same = ap (λ (s : SiteView). s.config) same
goes_config source (bytes ∷ more) a b limits g =
    let first = delivers_program bytes verdict.Next _ g.0 limits g.1.next in
    goes_config source more g.0 b (subst IsConfig (sym first.config) limits) g.2 ∙ first.config

pub acts_config : (x : Act) (a b : SiteView) → IsConfig a.config → Acts x a b → b.config ≡ a.config
acts_config (Hands rows) a b limits same = ap (λ (s : SiteView). s.config) same
acts_config (Fetches page write) a b limits f =
    turned_config (site_fetching page write a) b f.turns
acts_config Turns a b limits t = turned_config a b t
acts_config (Delivers bytes v) a b limits d = (delivery_program bytes v a b limits d).config
acts_config (Goes source more) a b limits g = goes_config source more a b limits g
acts_config (Pulses to) a b limits p = ap (λ (s : SiteView). s.config) p.2

program_served : (p : Program) (n : Host Managed) (from : ℕ) (m : Message)
    → n.process.program ≡ p → (serving managed_ops n from m).after.process.program ≡ p
unfolding serving
program_served p n from m same = same

-- a turn, and what comes, leave the program
pub turn_program : (a b : SiteView) → Acts Turns a b → program_of b ≡ program_of a
turn_program a b t =
    ap program_of t.after
    ∙ ap (λ (k : Host Managed). k.process.program)
    (posting-core a.node t.outcome.after t.outcome.posted t.effect t.sent)
    ∙ turned-program a.node.core t.outcome t.turn

delivery_same : (bytes : List ℕ) (v : Verdict) (a b : SiteView) → IsConfig a.config
    → Acts (Delivers bytes v) a b → program_of b ≡ program_of a
delivery_same bytes v a b limits d =
    ap (λ (p : Process). p.program) (delivery_program bytes v a b limits d).process

goes_program : (source : ℕ) (more : List (List ℕ)) (a b : SiteView) → IsConfig a.config
    → SiteGoesOn source more a b → program_of b ≡ program_of a
goes_program source more a b limits g =
    goes_keeps (λ n. n.process.program ≡ program_of a) (program_served (program_of a)) source more a b
    limits g refl

pulse_program : (to : ℕ) (a b : SiteView) → b ≡ after_pulse_to a to (pulsing a.node to)
    → program_of b ≡ program_of a
unfolding pulsing
pulse_program to a b p = ap program_of p

by_same : (p : Program) (a b : SiteView) → program_of b ≡ program_of a → Extends p b → Extends p a
by_same p a b same e = (e.0, e.1 ∙ ap (grown e.0) same)

-- what extends a site's program extends it as it was before
pub extends_back : (p : Program) (x : Act) (a b : SiteView) → IsConfig a.config → Acts x a b
    → Extends p b → Extends p a
extends_back p (Hands rows) a b limits same e =
    (Rows rows ∷ e.0, e.1 ∙ ap (grown e.0) (ap program_of same))
extends_back p (Fetches page write) a b limits f e =
    (Page page write ∷ e.0, e.1 ∙ ap (grown e.0) (turn_program (site_fetching page write a) b f.turns))
extends_back p Turns a b limits t e = by_same p a b (turn_program a b t) e
extends_back p (Delivers bytes v) a b limits d e =
    by_same p a b (delivery_same bytes v a b limits d) e
extends_back p (Goes source more) a b limits g e =
    by_same p a b (goes_program source more a b limits g) e
extends_back p (Pulses to) a b limits q e = by_same p a b (pulse_program to a b q.2) e

-- the site does so with all its calls, and the strings that it sends wait there alone
pub record Lifted (p : Program) (x : Act) (a b : SiteView) : Type 0 where
  pub more : List (List ℕ)
  pub waiting : b.waiting ≡ a.waiting ++ more
  pub acts : Acts x (as_run p [] a) (as_run p more b)

-- and what was lifted with what it lacks is so
lifted_by : (p : Program) (x : Act) (a b : SiteView) (more : List (List ℕ))
    → b.waiting ≡ a.waiting ++ more → (e : Extends p a) → program_of b ≡ program_of a
    → Acts x (site_grown e.0 (with_strings [] a)) (site_grown e.0 (with_strings more b))
    → Lifted p x a b
lifted_by p x a b more waiting e same acts = record {
  more = more;
  waiting = waiting;
  acts = subst (λ q. Acts x (as_run q [] a) (as_run p more b)) (sym e.1)
      (subst (λ q. Acts x (as_run (grown e.0 (program_of a)) [] a) (as_run q more b))
      (ap (grown e.0) same ∙ sym e.1) acts);
}

-- an act that hands in nothing
abbrev pub HandsNone : Act → Type 0
HandsNone (Hands rows) = ⊥
HandsNone (Fetches page write) = ⊥
HandsNone x = Unit {0}

pub lifted : (p : Program) (x : Act) (a b : SiteView) → HandsNone x → IsConfig a.config
    → IsMadeByEvents (with_strings [] a) → Acts x a b → Extends p a → Lifted p x a b
lifted p (Hands rows) a b none limits made same e = absurd none
lifted p (Fetches page write) a b none limits made f e = absurd none
lifted p Turns a b none limits made t e =
    let k = acts_carry Turns a b t in
    lifted_by p Turns a b k.more k.waiting e (turn_program a b t)
    (lift_turn e.0 (with_strings [] a) (with_strings k.more b) (k.goes []))
lifted p (Delivers bytes v) a b none limits made d e =
    let k = acts_carry (Delivers bytes v) a b d in
    lifted_by p (Delivers bytes v) a b k.more k.waiting e (delivery_same bytes v a b limits d)
    (lift_delivery e.0 bytes v (with_strings [] a) (with_strings k.more b) limits made (k.goes []))
lifted p (Goes source more) a b none limits made g e =
    let k = acts_carry (Goes source more) a b g in
    lifted_by p (Goes source more) a b k.more k.waiting e (goes_program source more a b limits g)
    (lift_goes e.0 source more (with_strings [] a) (with_strings k.more b) limits made (k.goes []))
lifted p (Pulses to) a b none limits made q e =
    let k = acts_carry (Pulses to) a b q in
    let goes = k.goes [] in
    lifted_by p (Pulses to) a b k.more k.waiting e (pulse_program to a b q.2)
    (goes.0, goes.1, lift_pulse e.0 to (with_strings [] a) (with_strings k.more b) goes.2)

-- what is handed in is its own already
pub handed_same : (p : Program) (rows : List (List Call)) (a b : SiteView)
    → Acts (Hands rows) a b → (ws : List (List ℕ)) → as_run p ws b ≡ as_run p ws a
handed_same p rows a b same ws = ap (as_run p ws) same
