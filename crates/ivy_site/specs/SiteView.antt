-- What contracts see of a site: the node, the events that it lists, the strings that wait to be put
-- on the wire, and those that its link holds.
use Rattle.std.specs.Prelude.{ℕ, List, [], ◌∷◌, ◌++◌}
use Rattle.ivy_model.specs.declared.Config.{Config}
use Rattle.ivy_link.specs.declared.Verdict.{Verdict}
use Rattle.ivy_link.specs.declared.Verdict.TheVariants as verdict
use Rattle.ivy_link.specs.Windows.{Window}
use Rattle.ivy_link.specs.Holding.{Holding, holding, moved_at}
use Rattle.ivy_host.specs.declared.opening.Opening.{Opening}
use Rattle.ivy_host.specs.stated.Managers.{Managed}
use Rattle.ivy_moves.specs.Marks.{Mark, Delivery}
use Rattle.ivy_moves.specs.declared.keep.Keep.{Keep}
use Rattle.ivy_moves.specs.stated.Nodes.{Node, Effect}
use Rattle.ivy_moves.specs.Parts.{pulse_marks}
use Rattle.ivy_host.specs.stated.Hosts.{Host}
use Rattle.ivy_link.specs.Outboxes.{Outbox}

-- `events` are all that the site ever listed; `waiting` are the strings not yet put on the wire,
-- the first first; `held` has a window for each node; `opened` says how the node began; `keep` are
-- the lists of its own past that can be read
pub record SiteView : Type 0 where
  pub config : Config
  pub opened : Opening
  pub me : ℕ
  pub node : Node (Host Managed)
  pub events : List Mark
  pub waiting : List (List ℕ)
  pub held : List Window
  pub keep : Keep

-- the site of this core and this outbox, which began so, and at which these events are listed
abbrev pub shown_of : Opening → Keep → Host Managed → Outbox → List Mark → SiteView
shown_of opened keep core box events = record {
  config = box.config;
  opened = opened;
  me = box.me;
  node = record { core = core; link = box.link };
  events = events;
  waiting = box.waiting;
  held = box.held;
  keep = keep;
}

-- a site's outbox
abbrev pub box_of : SiteView → Outbox
box_of s = record {
  config = s.config;
  me = s.me;
  link = s.node.link;
  waiting = s.waiting;
  held = s.held;
}

-- the site with this one
abbrev pub boxed : SiteView → Outbox → SiteView
boxed s box = shown_of s.opened s.keep s.node.core box s.events

-- the link, with what it holds
abbrev pub holding_at : SiteView → Holding
holding_at s = holding s.node.link s.held

-- the site after an event that it lists
abbrev pub after_event : SiteView → Mark → Effect (Host Managed) → SiteView
after_event s mark e = record s {
  node = e.after;
  events = s.events ++ mark ∷ [];
  waiting = s.waiting ++ e.sent;
}

-- the string of a message that was delivered is held no more
abbrev pub after_hearing : SiteView → List ℕ → Verdict → ℕ → Effect (Host Managed) → SiteView
after_hearing s bytes v source e =
    record (after_event s (Delivery bytes) e) { held = moved_at v s.held source }

-- a frame that is not for this node is no event
abbrev pub after_delivery : SiteView → List ℕ → Verdict → ℕ → Effect (Host Managed) → SiteView
after_delivery s bytes verdict.NotMine source e = s
after_delivery s bytes verdict.Next source e = after_hearing s bytes verdict.Next source e
after_delivery s bytes verdict.Repeat source e = after_hearing s bytes verdict.Repeat source e
after_delivery s bytes verdict.Ahead source e = after_hearing s bytes verdict.Ahead source e

-- a pulse without a frame is no event
abbrev pub after_pulse_to : SiteView → ℕ → Effect (Host Managed) → SiteView
after_pulse_to s to e = record s {
  node = e.after;
  events = s.events ++ pulse_marks to e.sent;
  waiting = s.waiting ++ e.sent;
}
