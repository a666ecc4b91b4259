-- What a site's turn and its deliveries are, from what its parts did. `v` is what the fields are
-- seen as, `n` the value.
use Rattle.std.proofs.Common.{◌≡◌, ℕ, true, false, List, [], ◌∷◌, ◌++◌, map, Option, Some, None, refl, sym, ap, ◌∙◌, subst, append-nil}
use Rattle.ivy_model.specs.declared.Fault.{Fault}
use Rattle.ivy_wire.specs.stated.Data.{Parcel}
use Rattle.ivy_wire.specs.stated.Spelling.{spelling}
use Rattle.ivy_link.specs.stated.Linked.{sends, has_numbers}
use Rattle.ivy_host.specs.stated.Managers.{Managed, managed_ops}
use Rattle.ivy_program.specs.stated.InstructionSteps.{Step, step_of}
use Rattle.ivy_moves.specs.Marks.{Mark, Turn}
use Rattle.ivy_moves.specs.stated.Cores.{Outcome}
use Rattle.ivy_moves.specs.stated.Nodes.{Node, Effect, posting, turned, turned_to}
use Rattle.ivy_host.specs.stated.Hosts.{Host, host_rules, turn_of, turned_at, steps, quietly}
use Rattle.ivy_link.specs.Outboxes.{Outbox}
use Rattle.ivy_site.specs.SiteView.{SiteView, box_of, shown_of}
use Rattle.ivy_host.proofs.Turns.{none-due}
use Rattle.ivy_site.specs.Sites.{AreUsed, SiteTurns, IsSpentTurn}
use Rattle.ivy_site.proofs.Calling.{used-due}
use Rattle.ivy_site.specs.Inside.{HasTurn, HasNoNumbers}

abbrev H : Type 0
H = Host Managed

abbrev turn : H → Option (Outcome H)
turn = turn_of managed_ops

pub turn_steps : (h : H) (t : Step) → AreUsed h → h.memory.asked ≡ None
    → step_of h.process ≡ t → turn h ≡ steps managed_ops h t
turn_steps h t used idle is =
    none-due managed_ops h (used-due h used) ∙ ap (turned_at managed_ops h) idle
    ∙ ap (steps managed_ops h) is

-- a turn that posts nothing
pub moved_quietly : (n v : SiteView) → v ≡ n → (h : H) (events : List Mark)
    → turn v.node.core ≡ Some (quietly h) → events ≡ v.events ++ Turn ∷ []
    → SiteTurns n
    (record {
      config = v.config;
      opened = v.opened;
      me = v.me;
      node = record { core = h; link = v.node.link };
      events = events;
      waiting = v.waiting;
      held = v.held;
      keep = v.keep;
    })
moved_quietly n v same h events is listed =
    subst (λ x. SiteTurns x
    (record {
      config = v.config;
      opened = v.opened;
      me = v.me;
      node = record { core = h; link = v.node.link };
      events = events;
      waiting = v.waiting;
      held = v.held;
      keep = v.keep;
    })) same
    (record {
      outcome = quietly h;
      turn = is;
      effect = record { after = record { core = h; link = v.node.link }; sent = [] };
      sent = refl;
      after = ap
          (λ (es : List Mark).
          record {
            config = v.config;
            opened = v.opened;
            me = v.me;
            node = record { core = h; link = v.node.link };
            events = es;
            waiting = v.waiting;
            held = v.held;
            keep = v.keep;
          }) listed
          ∙ ap (λ (ws : List (List ℕ)).
          record {
            config = v.config;
            opened = v.opened;
            me = v.me;
            node = record { core = h; link = v.node.link };
            events = v.events ++ Turn ∷ [];
            waiting = ws;
            held = v.held;
            keep = v.keep;
          })
          (sym (append-nil v.waiting));
    })

sent_so : (n : Node H) (h : H) (parcels : List Parcel) → has_numbers n.link parcels ≡ true
    → posting n h parcels
    ≡ Some (record {
      after = record { core = h; link = (sends n.link parcels).after };
      sent = map spelling (sends n.link parcels).frames;
    })
sent_so n h parcels numbers = rw numbers refl

not_sent : (n : Node H) (h : H) (parcels : List Parcel) → has_numbers n.link parcels ≡ false
    → posting n h parcels ≡ None
not_sent n h parcels numbers = rw numbers refl

-- a turn in which a call begins, or is asked for its reply
pub moved_by_call : (n v : SiteView) → v ≡ n → (h : H) (box : Outbox) (events : List Mark)
    → HasTurn v.node.core (box_of v) h box
    → events ≡ v.events ++ Turn ∷ []
    → SiteTurns n (shown_of v.opened v.keep h box events)
moved_by_call n v same h box events b listed =
    let s = sends v.node.link b.outcome.posted in
    let e : Effect H =
    record {
      after = record { core = b.outcome.after; link = s.after };
      sent = map spelling s.frames;
    } in
    subst (λ x. SiteTurns x
    (record {
      config = box.config;
      opened = v.opened;
      me = box.me;
      node = record { core = h; link = box.link };
      events = events;
      waiting = box.waiting;
      held = box.held;
      keep = v.keep;
    })) same
    (record {
      outcome = b.outcome;
      turn = b.turn;
      effect = e;
      sent = sent_so v.node b.outcome.after b.outcome.posted b.numbers;
      after = ap
          (λ (x : Outbox).
          record {
            config = x.config;
            opened = v.opened;
            me = x.me;
            node = record { core = h; link = x.link };
            events = events;
            waiting = x.waiting;
            held = x.held;
            keep = v.keep;
          }) b.sent
          ∙ ap (λ (x : H).
          record {
            config = v.config;
            opened = v.opened;
            me = v.me;
            node = record { core = x; link = s.after };
            events = events;
            waiting = v.waiting ++ map spelling s.frames;
            held = v.held;
            keep = v.keep;
          }) b.host
          ∙ ap (λ (es : List Mark).
          record {
            config = v.config;
            opened = v.opened;
            me = v.me;
            node = e.after;
            events = es;
            waiting = v.waiting ++ e.sent;
            held = v.held;
            keep = v.keep;
          }) listed;
    })

pub spent_call : (n v : SiteView) → v ≡ n → (fault : Fault) → HasNoNumbers v.node.core (box_of v) fault
    → IsSpentTurn n fault
unfolding turned
spent_call n v same fault cannot is =
    let x = cannot is in
    subst (λ (y : SiteView). turned_to (host_rules managed_ops) y.node (turn y.node.core) ≡ None) same
    (ap (turned_to (host_rules managed_ops) v.node) x.1 ∙ not_sent v.node x.0.after x.0.posted x.2)
