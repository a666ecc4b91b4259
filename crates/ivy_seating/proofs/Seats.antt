-- A seated site stays seated, and may give its list.
use Rattle.std.proofs.Common.{◌≡◌, ◌≢◌, ℕ, zero, suc, ◌+◌, ◌<◌, List, [], ◌∷◌, ◌++◌, length}
use Rattle.std.proofs.Common.{slice_get, Bool, Contains, Option, Some, None, refl, sym, ap}
use Rattle.std.proofs.Common.{subst, ◌∙◌, arith, append-nil, append_assoc}
use Rattle.std.specs.Prelude.{MatchResult, MatchOption, Result, Ok, Err}
use Rattle.ivy_model.specs.declared.Fault.{Fault}
use Rattle.ivy_host.specs.declared.opening.Opening.{Opening}
use Rattle.ivy_ether.specs.Data.{Put, Item}
use Rattle.ivy_ether.specs.Items.{strings_in}
use Rattle.ivy_ether.specs.EtherViews.{MatchPut}
use Rattle.ivy_ether.specs.declared.ether.Put.TheVariants.{Sent, Lost}
use Rattle.std.proofs.lemmas.List.Elements.{Contains-append_left}
use Rattle.std.proofs.lemmas.Option.{none-some, same_Some}
use Rattle.atomic_table.specs.Seated.{TableId}
use Rattle.ivy_model.specs.declared.Config.{Config}
use Rattle.ivy_model.specs.stated.Config.{IsConfig}
use Rattle.ivy_program.specs.stated.Programs.{Program}
use Rattle.ivy_program.specs.Programs.{one_by_one}
use Rattle.ivy_model.specs.declared.Call.{Call}
use Rattle.ivy_model.specs.declared.Record.{Record}
use Rattle.ivy_model.specs.declared.Reply.{Reply}
use Rattle.ivy_model.specs.declared.Row.{Row}
use Rattle.ivy_model.specs.Rows.{calls_of, numbers_in, row}
use Rattle.ivy_model.proofs.Rows.{calls-of-row}
use Rattle.ivy_link.specs.declared.Verdict.{Verdict}
use Rattle.ivy_link.specs.declared.Verdict.TheVariants as verdict
use Rattle.ivy_moves.specs.Marks.{Mark, Turn, Delivery}
use Rattle.ivy_moves.specs.stated.Nodes.{Node, pulsing}
use Rattle.ivy_moves.specs.Parts.{AllHappen, AllCanBeMade, pulse_marks}
use Rattle.ivy_wire.specs.stated.Data.{Frame}
use Rattle.ivy_moves.proofs.Early.{early-can}
use Rattle.ivy_moves.proofs.Splitting.{can-append, can-more}
use Rattle.ivy_host.specs.stated.Hosts.{Host, host_rules}
use Rattle.ivy_host.specs.stated.Managers.{Managed, managed_ops}
use Rattle.ivy_host.specs.stated.Openings.{first_node, first_nodes, managed_start}
use Rattle.ivy_ether.specs.Going.{IsListOf}
use Rattle.ivy_ether.specs.Handings.{Handing, Calls, Page, handing_all, rows_of, with_all}
use Rattle.ivy_ether.specs.Held.{Held, held}
use Rattle.ivy_ether.specs.Programs.{beginning, all_handed, MayGive, SendsFrom}
use Rattle.ivy_ether.proofs.Hosts.{handed-at, handed_count, starts_with, with_all-append}
use Rattle.ivy_ether.specs.Views.{View, with_put, with_refused, with_taken, with_empty, with_handed, with_all_handed, with_handings, with_page}
use Rattle.ivy_site.specs.declared.turn.Turn as turn
use Rattle.ivy_site.specs.declared.turn.Turn.TheVariants.{Idle, Moved, Ended}
use Rattle.ivy_site.specs.SiteView.{SiteView, after_hearing, after_delivery, after_pulse_to}
use Rattle.ivy_site.specs.Sites.{IsMadeByEvents, IsSentBy, AfterTurn, AfterDelivery, SiteDelivers, without_ready, GoesOnOnce, FollowsDelivery}
use Rattle.ivy_site.specs.Sites as sites
use Rattle.ivy_site.specs.Calls.{AreAnswered, AreTaken, BeginsFetch, BeginsRow}
use Rattle.ivy_site.specs.Handed.{site_handed, site_fetching}
use Rattle.ivy_host.proofs.Programs.{turned-program, posting-core, delivered-program}
use Rattle.ivy_program.specs.InstructionSteps.{HasEnded}
use Rattle.ivy_seating.specs.Places.{RunsProgram, IsSeated, IsFreshSeat}
use Rattle.ivy_seating.specs.Reports.{report_of, IsDone}

abbrev program_in : SiteView → Program
program_in s = s.node.core.process.program

-- the site, where these were handed to it
abbrev handed_all : List Handing → SiteView → SiteView
handed_all hs s = record s {
  node = record { core = handing_all hs s.node.core; link = s.node.link };
}

-- the first node of a program
first_there : (opened : Opening) (c : Config) (me k : ℕ) (programs : List Program) (i : ℕ)
    (program : Program) → me + i ≡ k → slice_get programs i ≡ Some program
    → slice_get (first_nodes (managed_start opened) c me programs) i
    ≡ Some (first_node (managed_start opened) c k program)
first_there opened c me k [] i program at is = absurd (none-some program is)
first_there opened c me k (p ∷ ps) zero program at is =
    let here : me ≡ k = omega (arith, at) in
    ap (λ j. Some (first_node (managed_start opened) c j p)) here
    ∙ ap (λ q. Some (first_node (managed_start opened) c k q)) (same_Some p program is)
first_there opened c me k (p ∷ ps) (suc i) program at is =
    first_there opened c (me + 1) k ps i program (omega (arith, at)) is

-- the site's list is one of its node
pub its_list : (c : Config) (opened : Opening) (programs : List Program) (s : SiteView)
    (made : IsMadeByEvents s)
    → s.config ≡ c → s.opened ≡ opened → slice_get programs s.me ≡ Some (program_in s)
    → IsListOf (host_rules managed_ops) c (beginning c opened programs) s.me s.events made.effect
its_list c opened programs s made config began program = record {
  node = first_node (managed_start opened) c s.me (program_in s);
  there = first_there opened c 0 s.me programs s.me (program_in s) (omega arith) program;
  happen = subst
      (λ o. AllHappen (host_rules managed_ops) c
      (first_node (managed_start o) c s.me (program_in s))
      s.events made.effect) began
      (subst (λ k. AllHappen (host_rules managed_ops) k
      (first_node (managed_start s.opened) k s.me (program_in s)) s.events made.effect)
      config made.happen);
}

-- where these were handed to all nodes, as to its own, its program is the one that it runs
pub runs_there : (programs : List Program) (s : SiteView) (hs : List Handing)
    → RunsProgram programs s hs
    → slice_get (all_handed (λ _. hs) programs) s.me ≡ Some (program_in s)
runs_there programs s hs r =
    handed-at (λ _. hs) programs s.me r.first r.there ∙ ap Some (sym r.is)

module _ (c : Config) (opened : Opening) (programs : List Program) where
  -- so it may be given
  pub may_give : (wire : TableId) (s : SiteView) (p : Held) (es : List Mark) → es ≡ s.events
      → IsSeated wire c opened programs s p → IsMadeByEvents s → MayGive c opened programs p.known
      es
  may_give wire s p es is h made = subst (MayGive c opened programs p.known) (sym is) (record {
    node = s.me;
    sits = h.node;
    unreported = h.unreported;
    at = starts_with c opened programs s.me p.known.handed;
    goes_on = record {
      more = h.given.more;
      is = h.given.is;
      effect = made.effect;
      list = its_list c opened (all_handed (λ _. p.known.handed) programs) s made h.config h.began
          (runs_there programs s p.known.handed h.program);
      can = subst (λ k. AllCanBeMade p.known.took k s.me h.given.more)
          (sym (handed_count c opened (λ _. p.known.handed) programs)) h.given.can;
    };
  })

  -- and sends what its events sent
  pub sends_from : (wire : TableId) (s s' : SiteView) (p : Held) (es : List Mark) (bytes : List ℕ)
      → es ≡ s'.events → s' ≡ record s { waiting = s'.waiting } → IsSeated wire c opened programs s
      p
      → IsSentBy s bytes → SendsFrom c opened programs p.known es bytes
  sends_from wire s s' p es bytes is same h sent =
      subst (λ l. SendsFrom c opened programs p.known l bytes)
      (sym (is ∙ ap (λ (x : SiteView). x.events) same)) (record {
        node = s.me;
        sits = h.node;
        at = starts_with c opened programs s.me p.known.handed;
        sends = record {
          effect = sent.made.effect;
          list = its_list c opened (all_handed (λ _. p.known.handed) programs) s sent.made h.config
              h.began (runs_there programs s p.known.handed h.program);
          sent = sent.sent;
        };
      })

  -- one more event, or none
  record StaysAt (s s' : SiteView) (took : List (List ℕ)) : Type 0 where
    me : s'.me ≡ s.me
    config : s'.config ≡ s.config
    began : s'.opened ≡ s.opened
    program : program_in s' ≡ program_in s
    ms : List Mark
    events : s'.events ≡ s.events ++ ms
    can : AllCanBeMade took (length programs) s.me ms

  stays_same : (s s' : SiteView) (took : List (List ℕ)) → s' ≡ s → StaysAt s s' took
  stays_same s s' took same = record {
    me = ap (λ (x : SiteView). x.me) same;
    config = ap (λ (x : SiteView). x.config) same;
    began = ap (λ (x : SiteView). x.opened) same;
    program = ap program_in same;
    ms = [];
    events = ap (λ (x : SiteView). x.events) same ∙ sym (append-nil s.events);
    can = tt;
  }

  stays_took : (s s' : SiteView) (took : List (List ℕ))
      → AllCanBeMade took (length programs) s.me s.events → StaysAt s s' took
      → AllCanBeMade took (length programs) s'.me s'.events
  stays_took s s' took before on =
      subst (λ i. AllCanBeMade took (length programs) i s'.events) (sym on.me)
      (subst (AllCanBeMade took (length programs) s.me) (sym on.events)
      (can-append took (length programs) s.me s.events on.ms before on.can))

  stays_on : (a b d : SiteView) (took : List (List ℕ)) → StaysAt a b took → StaysAt b d took
      → StaysAt a d took
  stays_on a b d took x y = record {
    me = y.me ∙ x.me;
    config = y.config ∙ x.config;
    began = y.began ∙ x.began;
    program = y.program ∙ x.program;
    ms = x.ms ++ y.ms;
    events = y.events ∙ ap (λ l. l ++ y.ms) x.events ∙ append_assoc a.events x.ms y.ms;
    can = can-append took (length programs) a.me x.ms y.ms x.can
        (subst (λ i. AllCanBeMade took (length programs) i y.ms) x.me y.can);
  }

  stays_seated : (wire : TableId) (s s' : SiteView) (p : Held) → IsSeated wire c opened programs s p
      → StaysAt s s' p.known.took → IsSeated wire c opened programs s' p
  stays_seated wire s s' p h on = record {
    limits = h.limits;
    each = h.each;
    ether = h.ether;
    node = h.node ∙ ap Some (sym on.me);
    unreported = h.unreported;
    config = on.config ∙ h.config;
    began = on.began ∙ h.began;
    program = record {
      first = h.program.first;
      there = ap (slice_get programs) on.me ∙ h.program.there;
      is = on.program ∙ h.program.is;
    };
    given = record {
      more = h.given.more ++ on.ms;
      is = on.events ∙ ap (λ l. l ++ on.ms) h.given.is
          ∙ append_assoc p.known.events h.given.more on.ms;
      can = subst (λ i. AllCanBeMade p.known.took (length programs) i (h.given.more ++ on.ms))
          (sym on.me)
          (can-append p.known.took (length programs) s.me h.given.more on.ms h.given.can on.can);
    };
    took = stays_took s s' p.known.took h.took on;
  }

  -- after a turn
  turn_stays : (t : turn.Turn) (s s' : SiteView) (took : List (List ℕ)) → AfterTurn t s s'
      → StaysAt s s' took
  turn_stays Idle s s' took after = stays_same s s' took after.1
  turn_stays Ended s s' took after = stays_same s s' took after.2
  turn_stays Moved s s' took after = record {
    me = ap (λ (x : SiteView). x.me) after.after;
    config = ap (λ (x : SiteView). x.config) after.after;
    began = ap (λ (x : SiteView). x.opened) after.after;
    program = ap program_in after.after
        ∙ ap (λ (k : Host Managed). k.process.program)
        (posting-core s.node after.outcome.after after.outcome.posted after.effect after.sent)
        ∙ turned-program s.node.core after.outcome after.turn;
    ms = Turn ∷ [];
    events = ap (λ (x : SiteView). x.events) after.after;
    can = (tt, tt);
  }

  pub turn_seated : (wire : TableId) (t : turn.Turn) (s s' : SiteView) (p : Held)
      → IsSeated wire c opened programs s p → AfterTurn t s s' → IsSeated wire c opened programs s'
      p
  turn_seated wire t s s' p h after =
      stays_seated wire s s' p h (turn_stays t s s' p.known.took after)

  -- after a delivery of a string that the pass took
  listed : (bytes : List ℕ) (v w : Verdict) (s s' : SiteView) (took : List (List ℕ))
      → IsConfig s.config
      → Contains took bytes → (d : SiteDelivers bytes v s s')
      → s' ≡ after_hearing s bytes w d.frame.source d.effect → StaysAt s s' took
  listed bytes v w s s' took limits there d after = record {
    me = ap (λ (x : SiteView). x.me) after;
    config = ap (λ (x : SiteView). x.config) after;
    began = ap (λ (x : SiteView). x.opened) after;
    program = ap program_in after
        ∙ delivered-program s.config limits s.node d.frame bytes d.effect d.spelled d.delivered;
    ms = Delivery bytes ∷ [];
    events = ap (λ (x : SiteView). x.events) after;
    can = (there, tt);
  }

  delivery_as : (bytes : List ℕ) (v w : Verdict) (s s' : SiteView) (took : List (List ℕ)) → v ≡ w
      → IsConfig s.config → Contains took bytes → (d : SiteDelivers bytes v s s')
      → StaysAt s s' took
  delivery_as bytes v verdict.NotMine s s' took is limits there d =
      stays_same s s' took (d.after ∙ ap (λ x. after_delivery s bytes x d.frame.source d.effect) is)
  delivery_as bytes v verdict.Next s s' took is limits there d =
      listed bytes v verdict.Next s s' took limits there d
      (d.after ∙ ap (λ x. after_delivery s bytes x d.frame.source d.effect) is)
  delivery_as bytes v verdict.Repeat s s' took is limits there d =
      listed bytes v verdict.Repeat s s' took limits there d
      (d.after ∙ ap (λ x. after_delivery s bytes x d.frame.source d.effect) is)
  delivery_as bytes v verdict.Ahead s s' took is limits there d =
      listed bytes v verdict.Ahead s s' took limits there d
      (d.after ∙ ap (λ x. after_delivery s bytes x d.frame.source d.effect) is)

  -- and of one that it held, which the pass took once
  once_stays : (source : ℕ) (bytes : List ℕ) (s s' : SiteView) (took : List (List ℕ))
      → IsConfig s.config → AllCanBeMade took (length programs) s.me s.events
      → GoesOnOnce source bytes s s' → StaysAt s s' took
  once_stays source bytes s s' took limits before once =
      let there : Contains took bytes =
      early-can (host_rules managed_ops) s.config took (length programs) s.me
      (first_node (managed_start s.opened) s.config s.me (program_in s)) s.events bytes before
      once.early in
      let x : StaysAt (without_ready s source) s' took =
      delivery_as bytes verdict.Next verdict.Next (without_ready s source) s' took refl limits there
      once.next in
      record {
        me = x.me;
        config = x.config;
        began = x.began;
        program = x.program;
        ms = x.ms;
        events = x.events;
        can = x.can;
      }

  all_stay : (source : ℕ) (more : List (List ℕ)) (s s' : SiteView) (took : List (List ℕ))
      → IsConfig s.config → AllCanBeMade took (length programs) s.me s.events
      → sites.SiteGoesOn source more s s' → StaysAt s s' took
  all_stay source [] s s' took limits before same = stays_same s s' took same
  all_stay source (bytes ∷ more) s s' took limits before on =
      let x : StaysAt s on.0 took = once_stays source bytes s on.0 took limits before on.1 in
      stays_on s on.0 s' took x
      (all_stay source more on.0 s' took (subst IsConfig (sym x.config) limits)
      (stays_took s on.0 took before x) on.2)

  holding_stays : (s s' : SiteView) (took : List (List ℕ)) → s' ≡ record s { held = s'.held }
      → StaysAt s s' took
  holding_stays s s' took same = record {
    me = ap (λ (x : SiteView). x.me) same;
    config = ap (λ (x : SiteView). x.config) same;
    began = ap (λ (x : SiteView). x.opened) same;
    program = ap program_in same;
    ms = [];
    events = ap (λ (x : SiteView). x.events) same ∙ sym (append-nil s.events);
    can = tt;
  }

  follows_stay : (v : Verdict) (f : Frame) (bytes : List ℕ) (s s' : SiteView) (took : List (List ℕ))
      → IsConfig s.config → AllCanBeMade took (length programs) s.me s.events
      → FollowsDelivery v f bytes s s' → StaysAt s s' took
  follows_stay verdict.NotMine f bytes s s' took limits before same = stays_same s s' took same
  follows_stay verdict.Repeat f bytes s s' took limits before same = stays_same s s' took same
  follows_stay verdict.Ahead f bytes s s' took limits before same =
      holding_stays s s' took
      (same ∙ ap (λ h. record s { held = h }) (sym (ap (λ (x : SiteView). x.held) same)))
  follows_stay verdict.Next f bytes s s' took limits before on =
      all_stay f.source on.0 s s' took limits before on.1

  pub delivery_seated : (wire : TableId) (bytes : List ℕ) (v : Verdict) (s s' : SiteView) (p : Held)
      → IsSeated wire c opened programs s p → Contains p.known.took bytes → AfterDelivery bytes v s
      s'
      → IsSeated wire c opened programs s' p
  delivery_seated wire bytes v s s' p h there d =
      let limits : IsConfig s.config = subst IsConfig (sym h.config) h.limits in
      let x : StaysAt s d.mid p.known.took =
      delivery_as bytes v v s d.mid p.known.took refl limits there d.first in
      stays_seated wire s s' p h
      (stays_on s d.mid s' p.known.took x
      (follows_stay v d.first.frame bytes d.mid s' p.known.took
      (subst IsConfig (sym x.config) limits)
      (stays_took s d.mid p.known.took h.took x) d.follows))

  -- after a pulse to another node
  pulse_can : (to : ℕ) (me nodes : ℕ) (took strings : List (List ℕ)) → to < nodes → me ≢ to
      → AllCanBeMade took nodes me (pulse_marks to strings)
  pulse_can to me nodes took [] below apart = tt
  pulse_can to me nodes took (x ∷ xs) below apart = ((below, apart), tt)

  pub pulse_seated : (wire : TableId) (to : ℕ) (s s' : SiteView) (p : Held)
      → IsSeated wire c opened programs s p → to < s.config.nodes → to ≢ s.me
      → s' ≡ after_pulse_to s to (pulsing s.node to) → IsSeated wire c opened programs s' p
  unfolding pulsing
  pulse_seated wire to s s' p h below apart after =
      let inside : to < length programs =
      subst (λ k. to < k) (ap (λ (k : Config). k.nodes) h.config ∙ sym h.each) below in
      stays_seated wire s s' p h (record {
        me = ap (λ (x : SiteView). x.me) after;
        config = ap (λ (x : SiteView). x.config) after;
        began = ap (λ (x : SiteView). x.opened) after;
        program = ap program_in after;
        ms = pulse_marks to (pulsing s.node to).sent;
        events = ap (λ (x : SiteView). x.events) after;
        can = pulse_can to s.me (length programs) p.known.took (pulsing s.node to).sent inside
            (λ same. apart (sym same));
      })

  -- after a step that gave the list
  record Gives (old new : Held) (es : List Mark) : Type 0 where
    ether : new.ether ≡ old.ether
    node : new.known.node ≡ old.known.node
    reported : new.known.reported ≡ old.known.reported
    handed : new.known.handed ≡ old.known.handed
    events : new.known.events ≡ es
    took : (b : List ℕ) → Contains old.known.took b → Contains new.known.took b

  gave_seated : (wire : TableId) (s : SiteView) (p p' : Held) → IsSeated wire c opened programs s p
      → Gives p p' s.events → IsSeated wire c opened programs s p'
  gave_seated wire s p p' h g = record {
    limits = h.limits;
    each = h.each;
    ether = g.ether ∙ h.ether;
    node = g.node ∙ h.node;
    unreported = g.reported ∙ h.unreported;
    config = h.config;
    began = h.began;
    program = record {
      first = h.program.first;
      there = h.program.there;
      is = h.program.is ∙ ap (λ l. with_all l h.program.first) (sym g.handed);
    };
    given = record { more = []; is = sym (append-nil p'.known.events ∙ g.events); can = tt };
    took = can-more p.known.took p'.known.took (length programs) s.me s.events g.took h.took;
  }

  pub given_seated : (wire : TableId) (s : SiteView) (p p' : Held) (es : List Mark)
      (strings : List (List ℕ)) → es ≡ s.events → p'.ether ≡ p.ether
      → p'.known ≡ with_put p.known es strings → IsSeated wire c opened programs s p
      → IsSeated wire c opened programs s p'
  given_seated wire s p p' es strings is ether known h = gave_seated wire s p p' h (record {
    ether = ether;
    node = ap (λ (v : View). v.node) known;
    reported = ap (λ (v : View). v.reported) known;
    handed = ap (λ (v : View). v.handed) known;
    events = ap (λ (v : View). v.events) known ∙ is;
    took = λ b there. subst (λ (v : View). Contains v.took b) (sym known) there;
  })

  pub taken_seated : (wire : TableId) (s : SiteView) (p p' : Held) (es : List Mark) (x : Item)
      → es ≡ s.events → p'.ether ≡ p.ether → p'.known ≡ with_taken p.known es x
      → IsSeated wire c opened programs s p → IsSeated wire c opened programs s p'
  taken_seated wire s p p' es x is ether known h = gave_seated wire s p p' h (record {
    ether = ether;
    node = ap (λ (v : View). v.node) known;
    reported = ap (λ (v : View). v.reported) known;
    handed = ap (λ (v : View). v.handed) known;
    events = ap (λ (v : View). v.events) known ∙ is;
    took = λ b there. subst (λ (v : View). Contains v.took b) (sym known)
        (Contains-append_left p.known.took (strings_in x) b there);
  })

  -- after one that came to nothing, which the pass notes
  pub noted_seated : (wire : TableId) (s : SiteView) (p p' : Held) (refused : List (List ℕ))
      (empty : ℕ) → p'.ether ≡ p.ether
      → p'.known ≡ record p.known { refused = refused; empty = empty }
      → IsSeated wire c opened programs s p → IsSeated wire c opened programs s p'
  noted_seated wire s p p' refused empty ether known h =
      subst (IsSeated wire c opened programs s) (λ k. held (sym ether k) (sym known k)) (record {
        limits = h.limits;
        each = h.each;
        ether = h.ether;
        node = h.node;
        unreported = h.unreported;
        config = h.config;
        began = h.began;
        program = h.program;
        given = record { more = h.given.more; is = h.given.is; can = h.given.can };
        took = h.took;
      })

  -- a string less waits
  pub less_seated : (wire : TableId) (s s' : SiteView) (p : Held)
      → s' ≡ record s { waiting = s'.waiting } → IsSeated wire c opened programs s p
      → IsSeated wire c opened programs s' p
  less_seated wire s s' p same h = stays_seated wire s s' p h (record {
    me = ap (λ (x : SiteView). x.me) same;
    config = ap (λ (x : SiteView). x.config) same;
    began = ap (λ (x : SiteView). x.opened) same;
    program = ap program_in same;
    ms = [];
    events = ap (λ (x : SiteView). x.events) same ∙ sym (append-nil s.events);
    can = tt;
  })

  -- at first
  pub fresh_seated : (wire : TableId) (s : SiteView) (p : Held)
      → IsFreshSeat wire c opened programs s p
      → IsSeated wire c opened programs s p
  fresh_seated wire s p f = record {
    limits = f.limits;
    each = f.each;
    ether = f.ether;
    node = ap (λ (v : View). v.node) f.pass;
    unreported = ap (λ (v : View). v.reported) f.pass;
    config = ap (λ (x : SiteView). x.config) f.site;
    began = ap (λ (x : SiteView). x.opened) f.site;
    program = record {
      first = f.program;
      there = f.there;
      is = ap program_in f.site ∙ ap (λ (v : View). with_all v.handed f.program) (sym f.pass);
    };
    given = record {
      more = [];
      is = ap (λ (x : SiteView). x.events) f.site ∙ sym (ap (λ (v : View). v.events) f.pass)
          ∙ sym (append-nil p.known.events);
      can = tt;
    };
    took = subst (AllCanBeMade p.known.took (length programs) s.me)
        (sym (ap (λ (x : SiteView). x.events) f.site)) tt;
  }

  -- as the calls of a site answer
  pub turned : (wire : TableId) (r : Result turn.Turn Fault) (s s' : SiteView) (p : Held)
      → MatchResult r (λ t. AfterTurn t s s') (λ _. s' ≡ s) → IsSeated wire c opened programs s p
      → IsSeated wire c opened programs s' p
  turned wire (Ok t) s s' p after h = turn_seated wire t s s' p h after
  turned wire (Err fault) s s' p same h =
      stays_seated wire s s' p h (stays_same s s' p.known.took same)

  pub polled : (wire : TableId) (r : Result (turn.Turn × Option Reply) Fault) (s s' : SiteView)
      (p : Held) → MatchResult r (λ t. AfterTurn t.0 s s') (λ _. s' ≡ s)
      → IsSeated wire c opened programs s p → IsSeated wire c opened programs s' p
  polled wire (Ok t) s s' p after h = turn_seated wire t.0 s s' p h after
  polled wire (Err fault) s s' p same h =
      stays_seated wire s s' p h (stays_same s s' p.known.took same)

  pub delivered : (wire : TableId) (r : Result Verdict Fault) (bytes : List ℕ) (s s' : SiteView)
      (p : Held) → MatchResult r (λ v. AfterDelivery bytes v s s') (λ _. s' ≡ s)
      → Contains p.known.took bytes → IsSeated wire c opened programs s p → IsSeated wire c opened
      programs s' p
  delivered wire (Ok v) bytes s s' p after there h =
      delivery_seated wire bytes v s s' p h there after
  delivered wire (Err fault) bytes s s' p same there h =
      stays_seated wire s s' p h (stays_same s s' p.known.took same)

  pub pulsed : (wire : TableId) (r : Result (Unit {0}) Fault) (to : ℕ) (s s' : SiteView) (p : Held)
      → MatchResult r (λ _. s' ≡ after_pulse_to s to (pulsing s.node to)) (λ _. s' ≡ s)
      → to < s.config.nodes → to ≢ s.me → IsSeated wire c opened programs s p
      → IsSeated wire c opened programs s' p
  pulsed wire (Ok done) to s s' p after below apart h =
      pulse_seated wire to s s' p h below apart after
  pulsed wire (Err fault) to s s' p same below apart h =
      stays_seated wire s s' p h (stays_same s s' p.known.took same)

  -- and those of the ether
  pub put_seated : (wire : TableId) (r : Put) (s : SiteView) (p p' : Held) (es : List Mark)
      (frame : List ℕ) → es ≡ s.events → p'.ether ≡ p.ether
      → MatchPut r (p'.known ≡ with_put p.known es (frame ∷ []))
      (λ back. (back ≡ frame) × (p'.known ≡ with_refused p.known frame))
      → IsSeated wire c opened programs s p → IsSeated wire c opened programs s p'
  put_seated wire Sent s p p' es frame is ether known h =
      given_seated wire s p p' es (frame ∷ []) is ether known h
  put_seated wire (Lost back) s p p' es frame is ether known h =
      noted_seated wire s p p' (p.known.refused ++ frame ∷ []) p.known.empty ether known.1 h

  pub take_seated : (wire : TableId) (r : Option Item) (s : SiteView) (p p' : Held) (es : List Mark)
      → es ≡ s.events → p'.ether ≡ p.ether
      → MatchOption r (p'.known ≡ with_empty p.known) (λ x. p'.known ≡ with_taken p.known es x)
      → IsSeated wire c opened programs s p → IsSeated wire c opened programs s p'
  take_seated wire None s p p' es is ether known h =
      noted_seated wire s p p' p.known.refused (p.known.empty + 1) ether known h
  take_seated wire (Some x) s p p' es is ether known h =
      taken_seated wire s p p' es x is ether known h

  -- once calls or pages were handed to its node
  pub all_handed_seated : (wire : TableId) (s s' : SiteView) (p p' : Held) (hs : List Handing)
      → s' ≡ handed_all hs s → p'.ether ≡ p.ether
      → p'.known ≡ with_handings p.known hs → IsSeated wire c opened programs s p
      → IsSeated wire c opened programs s' p'
  all_handed_seated wire s s' p p' hs same ether known h =
      subst (λ x. IsSeated wire c opened programs x p') (sym same)
      (subst (IsSeated wire c opened programs (handed_all hs s))
      (λ k. held (sym ether k) (sym known k)) (record {
        limits = h.limits;
        each = h.each;
        ether = h.ether;
        node = h.node;
        unreported = h.unreported;
        config = h.config;
        began = h.began;
        program = record {
          first = h.program.first;
          there = h.program.there;
          is = ap (with_all hs) h.program.is
              ∙ sym (with_all-append p.known.handed hs h.program.first);
        };
        given = record { more = h.given.more; is = h.given.is; can = h.given.can };
        took = h.took;
      }))

  -- and once a call was
  pub hand_seated : (wire : TableId) (s s' : SiteView) (p p' : Held) (call : Call)
      → s' ≡ site_handed ((call ∷ []) ∷ []) s → p'.ether ≡ p.ether
      → p'.known ≡ with_handed p.known call → IsSeated wire c opened programs s p
      → IsSeated wire c opened programs s' p'
  hand_seated wire s s' p p' call same ether known h =
      all_handed_seated wire s s' p p' (Calls (call ∷ []) ∷ []) same ether known h

  -- once calls were made one after another, each answered in its turn
  pub answered_seated : (wire : TableId) (rs : List Record) (s s' : SiteView) (p p' : Held)
      → AreAnswered rs s s' → p'.ether ≡ p.ether
      → p'.known ≡ with_all_handed p.known (one_by_one (calls_of rs)) → IsSeated wire c opened
      programs s p
      → IsSeated wire c opened programs s' p'
  answered_seated wire [] s s' p p' same ether known h =
      let is : p'.known ≡ p.known =
      known ∙ ap (λ l. record p.known { handed = l }) (append-nil p.known.handed) in
      subst (λ x. IsSeated wire c opened programs x p') (sym same)
      (subst (IsSeated wire c opened programs s) (λ k. held (sym ether k) (sym is k)) h)
  answered_seated wire (r ∷ rs) s s' p p' on ether known h =
      let next : Held = held p.ether (with_handed p.known r.call) in
      let asks : IsSeated wire c opened programs (site_handed ((r.call ∷ []) ∷ []) s) next =
      hand_seated wire s (site_handed ((r.call ∷ []) ∷ []) s) p next r.call refl refl refl h in
      let mid : IsSeated wire c opened programs on.0 next =
      turn_seated wire Moved (site_handed ((r.call ∷ []) ∷ []) s) on.0 next asks on.1.turns in
      answered_seated wire rs on.0 s' next p' on.2 ether
      (known
      ∙ ap (λ l. record p.known { handed = l })
      (sym (append_assoc p.known.handed (Calls (r.call ∷ []) ∷ [])
      (rows_of (one_by_one (calls_of rs)))))) mid

  -- so it is of a row of words
  pub row_seated : (wire : TableId) (kind : Row) (addr : ℕ) (numbers : List ℕ) (s s' : SiteView)
      (p p' : Held) → AreAnswered (row kind s.me addr numbers) s s' → p'.ether ≡ p.ether
      → p'.known ≡ with_all_handed p.known (one_by_one (calls_of (row kind 0 addr numbers)))
      → IsSeated wire c opened programs s p → IsSeated wire c opened programs s' p'
  row_seated wire kind addr numbers s s' p p' on ether known h =
      answered_seated wire (row kind s.me addr numbers) s s' p p' on ether
      (known ∙ ap (λ ks. with_all_handed p.known (one_by_one ks)) (calls-of-row kind 0 s.me addr numbers)) h

  -- once calls of a row were made together, at least one
  pub begun_seated : (wire : TableId) (kind : Row) (addr words : ℕ) (bytes : List ℕ) (s s' : SiteView)
      (p p' : Held) → words ≢ 0
      → BeginsRow (calls_of (row kind 0 addr (numbers_in words bytes))) s s' → p'.ether ≡ p.ether
      → p'.known
      ≡ with_all_handed p.known (calls_of (row kind 0 addr (numbers_in words bytes)) ∷ [])
      → IsSeated wire c opened programs s p → IsSeated wire c opened programs s' p'
  begun_seated wire kind addr zero bytes s s' p p' some begins ether known h = absurd (some refl)
  begun_seated wire kind addr (suc n) bytes s s' p p' some begins ether known h =
      let calls = calls_of (row kind 0 addr (numbers_in (suc n) bytes)) in
      turn_seated wire Moved (site_handed (calls ∷ []) s) s' p'
      (all_handed_seated wire s (site_handed (calls ∷ []) s) p p' (Calls calls ∷ []) refl ether known h)
      begins.turns

  -- once a page was asked for ahead
  pub fetched_seated : (wire : TableId) (page : ℕ) (write : Bool) (s s' : SiteView) (p p' : Held)
      → BeginsFetch page write s s' → p'.ether ≡ p.ether → p'.known ≡ with_page p.known page write
      → IsSeated wire c opened programs s p → IsSeated wire c opened programs s' p'
  fetched_seated wire page write s s' p p' begins ether known h =
      turn_seated wire Moved (site_fetching page write s) s' p'
      (all_handed_seated wire s (site_fetching page write s) p p' (Page page write ∷ []) refl ether known h)
      begins.turns

  -- and once the replies to calls were taken, each in a turn of its own
  pub replies_seated : (wire : TableId) (rs : List Record) (s s' : SiteView) (p : Held)
      → AreTaken rs s s' → IsSeated wire c opened programs s p → IsSeated wire c opened programs s'
      p
  replies_seated wire [] s s' p same h =
      stays_seated wire s s' p h (stays_same s s' p.known.took same)
  replies_seated wire (r ∷ rs) s s' p on h =
      replies_seated wire rs on.0 s' p on.2 (turn_seated wire Moved s on.0 p h on.1.turns)

  -- a site whose program has ended is done
  pub is_done : (wire : TableId) (s : SiteView) (p : Held) (i : ℕ) → IsSeated wire c opened programs
      s p
      → IsMadeByEvents s → s.me ≡ i → HasEnded s.node.core.process
      → IsDone c opened (all_handed (λ _. p.known.handed) programs) i (report_of s)
  is_done wire s p i h made at ended = record {
    of = record {
      effect = made.effect;
      list = subst
          (λ j. IsListOf (host_rules managed_ops) c
          (beginning c opened (all_handed (λ _. p.known.handed) programs)) j s.events made.effect)
          at
          (its_list c opened (all_handed (λ _. p.known.handed) programs) s made h.config h.began
          (runs_there programs s p.known.handed h.program));
      history = ap (λ (n : Node (Host Managed)). n.core.history) made.node;
      output = ap (λ (n : Node (Host Managed)). n.core.process.state.output) made.node;
    };
    ended = subst (λ (n : Node (Host Managed)). HasEnded n.core.process) made.node ended;
  }
