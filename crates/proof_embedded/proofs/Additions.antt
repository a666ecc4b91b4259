-- What the owner of a node hands in: rows of calls, or a page that is to be fetched ahead. What a site
-- did before does not see it.
use Rattle.std.proofs.Common.{◌≡◌, ◌∙◌, ℕ, Bool, List, [], ◌∷◌, refl, ap}
use Rattle.ivy_model.specs.declared.Call.{Call}
use Rattle.ivy_program.specs.Programs.{ahead, handed}
use Rattle.ivy_program.specs.stated.Programs.{Program}
use Rattle.ivy_moves.specs.Carrying.{EventsCarryOver, IsUnseen, changed, effect_changed, node_changed}
use Rattle.ivy_moves.proofs.Unseen.{events-over}
use Rattle.ivy_host.specs.Handing.{fetching, handing}
use Rattle.ivy_host.specs.stated.Hosts.{Host, host_rules}
use Rattle.ivy_host.specs.stated.Managers.{Managed, managed_ops}
use Rattle.ivy_host.specs.stated.Openings.{first_node, managed_start}
use Rattle.ivy_host.proofs.HandedHosts.{fetch_unseen, unseen}
use Rattle.ivy_site.specs.SiteView.{SiteView}
use Rattle.ivy_site.specs.Sites.{IsMadeByEvents, early_at}

pub data Addition : Type 0 where
  Rows : List (List Call) → Addition
  Page : ℕ → Bool → Addition

abbrev pub added : Addition → Program → Program
added (Rows rows) p = handed rows p
added (Page page write) p = ahead page write p

-- one after another
abbrev pub grown : List Addition → Program → Program
grown [] p = p
grown (x ∷ xs) p = grown xs (added x p)

-- a node whose program is longer by these, and of which nothing else changes
abbrev pub growing : List Addition → Host Managed → Host Managed
growing xs n = record n {
  process = record { program = grown xs n.process.program; state = n.process.state };
}

abbrev pub site_grown : List Addition → SiteView → SiteView
site_grown xs s = record s { node = node_changed (growing xs) s.node }

-- two changes that are seen by none
both-unseen : (f g : Host Managed → Host Managed) → IsUnseen (host_rules managed_ops) f
    → IsUnseen (host_rules managed_ops) g → IsUnseen (host_rules managed_ops) (λ n. g (f n))
both-unseen f g one two = record {
  turn = λ n o is. two.turn (f n) (changed f o) (one.turn n o is);
  serve = λ n from m.
      two.serve (f n) from m
      ∙ ap (changed g) (one.serve n from m);
}

pub grown_unseen : (xs : List Addition) → IsUnseen (host_rules managed_ops) (growing xs)
grown_unseen [] = record { turn = λ n o is. is; serve = λ n from m. refl }
grown_unseen (Rows rows ∷ xs) =
    both-unseen (handing rows) (growing xs) (unseen managed_ops rows) (grown_unseen xs)
grown_unseen (Page page write ∷ xs) =
    both-unseen (fetching page write) (growing xs) (fetch_unseen managed_ops page write)
    (grown_unseen xs)

module _ (xs : List Addition) (s : SiteView) (made : IsMadeByEvents s) where
  carried : EventsCarryOver (host_rules managed_ops) s.config (growing xs)
      (first_node (managed_start s.opened) s.config s.me s.node.core.process.program) s.events made.effect
  carried =
      events-over (host_rules managed_ops) s.config (growing xs) (grown_unseen xs)
      (first_node (managed_start s.opened) s.config s.me s.node.core.process.program) s.events
      made.effect made.happen

  -- its events make it of the first node of the longer program
  pub grown_made : IsMadeByEvents (site_grown xs s)
  grown_made = record {
    effect = effect_changed (growing xs) made.effect;
    happen = carried.happen;
    node = ap (node_changed (growing xs)) made.node;
    taken = made.taken;
    waits = made.waits;
  }

  -- and no other string came too early
  pub grown_early : early_at (site_grown xs s) ≡ early_at s
  grown_early = carried.early
