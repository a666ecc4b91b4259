-- What holds of a site holds where its owner makes further calls, and nearly so where it has a page
-- fetched.
use Rattle.std.proofs.Common.{◌≡◌, ◌∙◌, ℕ, Bool, List, [], ◌∷◌, length, Option, Some, None, Contains, refl, sym, ap, subst}
use Rattle.ivy_model.specs.declared.Call.{Call}
use Rattle.ivy_host.specs.Handing.{handing, fetching}
use Rattle.ivy_host.specs.stated.Hosts.{host_rules}
use Rattle.ivy_host.specs.stated.Managers.{managed_ops}
use Rattle.ivy_host.proofs.HandedHosts.{unseen, fetch_unseen}
use Rattle.ivy_moves.specs.Carrying.{EventsCarryOver, node_changed, effect_changed}
use Rattle.ivy_moves.proofs.Unseen.{events-over}
use Rattle.ivy_program.specs.OwnCode.{IsFree, process_ahead, process_handed}
use Rattle.ivy_program.proofs.running.Handing.{ahead_row}
use Rattle.ivy_site.proofs.Calling.{handed-fetches, host-used}
use Rattle.ivy_program.specs.stated.InstructionSteps.{Process, Asks, Ends, step_of}
use Rattle.ivy_program.specs.InstructionSteps.{HasEnded}
use Rattle.ivy_site.specs.Inside.{host_of}
use Rattle.ivy_site.specs.SiteView.{SiteView, box_of, shown_of}
use Rattle.ivy_site.specs.Handed.{site_handed, site_fetching}
use Rattle.ivy_host.specs.stated.Openings.{first_node, managed_start}
use Rattle.ivy_site.specs.Sites.{IsSite, IsHeld, IsMadeByEvents, HoldsEarly, early_at}
use Rattle.ivy_site.proofs.Turned.{IsHanded}

module _ (more : List (List Call)) (s : SiteView) (made : IsMadeByEvents s) where
  carried : EventsCarryOver (host_rules managed_ops) s.config (handing more)
      (first_node (managed_start s.opened) s.config s.me s.node.core.process.program) s.events made.effect
  carried = events-over (host_rules managed_ops) s.config (handing more) (unseen managed_ops more)
      (first_node (managed_start s.opened) s.config s.me s.node.core.process.program) s.events made.effect
      made.happen

  -- its events make it of the first node of the longer program
  pub handed_made : IsMadeByEvents (site_handed more s)
  handed_made = record {
    effect = effect_changed (handing more) made.effect;
    happen = carried.happen;
    node = ap (node_changed (handing more)) made.node;
    taken = made.taken;
    waits = made.waits;
  }

  -- and no other string came too early
  pub handed_early : early_at (site_handed more s) ≡ early_at s
  handed_early = carried.early

  handed_held : HoldsEarly s → HoldsEarly (site_handed more s)
  handed_held held source place bytes is =
      let h : IsHeld s source place bytes = held source place bytes is in
      record {
        early = subst (λ l. Contains l bytes) (sym handed_early) h.early;
        frame = h.frame;
        spelled = h.spelled;
        source = h.source;
        dest = h.dest;
        number = h.number;
      }

-- what holds of a site that was free
pub handed_site : (more : List (List Call)) (s : SiteView) → IsSite s → IsFree s.node.core.process
    → IsSite (site_handed more s)
handed_site more s h free = record {
  config = h.config;
  me = h.me;
  asking = λ call asked. (let asks = (h.asking call asked).0 in let ended = free.ended in absurd cc);
  made = handed_made more s h.made;
  held = handed_held more s h.made h.held;
  fetched = h.fetched ∙ handed-fetches more s.node.core.process.program;
}

-- and where it is to fetch a page
module _ (page : ℕ) (write : Bool) (s : SiteView) (made : IsMadeByEvents s) where
  carried-on : EventsCarryOver (host_rules managed_ops) s.config (fetching page write)
      (first_node (managed_start s.opened) s.config s.me s.node.core.process.program) s.events made.effect
  carried-on =
      events-over (host_rules managed_ops) s.config (fetching page write)
      (fetch_unseen managed_ops page write) (first_node (managed_start s.opened) s.config s.me s.node.core.process.program) s.events made.effect made.happen

  fetching_made : IsMadeByEvents (site_fetching page write s)
  fetching_made = record {
    effect = effect_changed (fetching page write) made.effect;
    happen = carried-on.happen;
    node = ap (node_changed (fetching page write)) made.node;
    taken = made.taken;
    waits = made.waits;
  }

  fetching_early : early_at (site_fetching page write s) ≡ early_at s
  fetching_early = carried-on.early

  fetching_held : HoldsEarly s → HoldsEarly (site_fetching page write s)
  fetching_held held source place bytes is =
      let h : IsHeld s source place bytes = held source place bytes is in
      record {
        early = subst (λ l. Contains l bytes) (sym fetching_early) h.early;
        frame = h.frame;
        spelled = h.spelled;
        source = h.source;
        dest = h.dest;
        number = h.number;
      }

-- what holds of the site then, but that a fetch waits
pub fetching_site : (page : ℕ) (write : Bool) (s : SiteView) → IsSite s
    → IsHanded (site_fetching page write s)
fetching_site page write s h = record {
  config = h.config;
  me = h.me;
  asking = λ call asked. ahead_row page write s.node.core.process (call ∷ s.node.core.memory.along)
      (h.asking call asked);
  made = fetching_made page write s h.made;
  held = fetching_held page write s h.made h.held;
}

idle_by : (p : Process) (asked : Option Call)
    → ((call : Call) → asked ≡ Some call → step_of p ≡ Asks call) → HasEnded p → asked ≡ None
idle_by p None asking ended = refl
idle_by p (Some call) asking ended =
    (let apart : Asks call ≡ Ends = sym (asking call refl) ∙ ended in absurd cc)

-- a site that is free has no call in progress
pub free_idle : (s : SiteView) → IsSite s → IsFree s.node.core.process
    → s.node.core.memory.asked ≡ None
free_idle s h free = idle_by s.node.core.process s.node.core.memory.asked (λ call is. (h.asking call is).0)
    free.ended

-- the site with this program, which has come this far
abbrev with_process : SiteView → Process → SiteView
with_process v p =
    shown_of v.opened v.keep (host_of v.node.core.memory p v.node.core.history) (box_of v) v.events

-- it is so once the calls were handed in
pub after_hand : (more : List (List Call)) (v n : SiteView) → v ≡ n → (p : Process)
    → p ≡ process_handed more v.node.core.process → IsSite v → IsFree n.node.core.process
    → IsSite (with_process v p)
after_hand more v n same p is h free =
    subst (λ q. IsSite (with_process v q)) (sym is)
    (subst (λ k. IsSite (shown_of v.opened v.keep k (box_of v) v.events))
    (sym (host-used (handing more v.node.core) v.node.core.memory v.node.core.history
    (h.fetched ∙ handed-fetches more v.node.core.process.program)))
    (handed_site more v h (subst (λ (x : SiteView). IsFree x.node.core.process) (sym same) free)))
