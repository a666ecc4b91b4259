-- What a site does, of what kind it is; and what stays true of the site.
use Rattle.std.proofs.Common.{◌≡◌, ◌≢◌, ℕ, ◌<◌, Bool, List, [], ◌∷◌, ◌++◌, Contains, append-nil, sym, ap, subst, ◌∙◌, arith, ⊎_elim}
use Rattle.std.proofs.lemmas.List.Elements.{Contains-append_cases, Contains-push_cases}
use Rattle.ivy_model.specs.declared.Call.{Call}
use Rattle.ivy_model.specs.declared.Config.{Config}
use Rattle.ivy_model.specs.stated.Config.{IsConfig}
use Rattle.ivy_wire.specs.stated.Data.{Frame, Message}
use Rattle.ivy_link.specs.declared.Verdict.{Verdict}
use Rattle.ivy_link.specs.declared.Verdict.TheVariants as verdict
use Rattle.ivy_program.specs.OwnCode.{process_handed}
use Rattle.ivy_program.specs.Programs.{IsCalled, ahead, handed}
use Rattle.ivy_program.specs.stated.Programs.{Program}
use Rattle.ivy_program.specs.stated.InstructionSteps.{Asks, AsksRow, Process, answered_with}
use Rattle.ivy_program.proofs.running.Handing.{ahead_called, ahead_row, handed_called, handed_reply, handed_step}
use Rattle.ivy_moves.specs.Early.{early_as}
use Rattle.ivy_moves.specs.stated.Nodes.{pulsing}
use Rattle.ivy_host.specs.stated.Hosts.{Host, serving}
use Rattle.ivy_host.specs.stated.Managers.{Managed, managed_ops}
use Rattle.ivy_host.proofs.Programs.{posting-core, turned-program}
use Rattle.ivy_host.proofs.WellBehaved.{IsAskingHost, serve-asking, turn-asking}
use Rattle.ivy_site.proofs.Calling.{handing-used}
use Rattle.ivy_site.specs.declared.turn.Turn.TheVariants.{Moved}
use Rattle.ivy_site.specs.Handed.{site_fetching, site_handed}
use Rattle.ivy_site.specs.SiteView.{SiteView, after_pulse_to}
use Rattle.ivy_site.specs.Sites.{AfterDelivery, AreUsed, FollowsDelivery, IsMadeByEvents, SiteDelivers, SiteGoesOn, SiteTurns, early_at, holding_in, without_ready}
use Rattle.ivy_site.proofs.Handed.{handed_early, handed_made}
use Rattle.ivy_site.proofs.Made.{delivery_early, pulse_early, pulse_made-on, turn_early, turn_made}
use Rattle.ivy_world.proofs.GoingOn.{IsLater, delivered_later, once_later}
use Rattle.ivy_embedded.proofs.Going.{IsOwn, core_of, turned_core, turned_own}
use Rattle.proof_embedded.proofs.Additions.{Page, grown_early, grown_made}
use Rattle.proof_embedded.proofs.Emptied.{Carries, delivery_carries, goes_carries, kept, none_more, pulse_carries, turn_carries}
use Rattle.proof_embedded.proofs.Served.{delivery_keeps, goes_keeps}

-- A page is handed to be fetched ahead, and the site has a turn, after which no fetch is left.
pub record IsFetched (page : ℕ) (write : Bool) (a b : SiteView) : Type 0 where
  pub turns : SiteTurns (site_fetching page write a) b
  pub used : AreUsed (core_of b)

-- its owner makes further calls, or has a page fetched ahead; it has a turn, is delivered a string, goes
-- on with strings of a node that it held, or pulses to a node
pub data Act : Type 0 where
  Hands : List (List Call) → Act
  Fetches : ℕ → Bool → Act
  Turns : Act
  Delivers : List ℕ → Verdict → Act
  Goes : ℕ → List (List ℕ) → Act
  Pulses : ℕ → Act

abbrev pub Acts : Act → SiteView → SiteView → Type 0
Acts (Hands rows) a b = b ≡ site_handed rows a
Acts (Fetches page write) a b = IsFetched page write a b
Acts Turns a b = SiteTurns a b
Acts (Delivers bytes v) a b = AfterDelivery bytes v a b
Acts (Goes source more) a b = SiteGoesOn source more a b
Acts (Pulses to) a b = (to < a.config.nodes) × (to ≢ a.me)
    × (b ≡ after_pulse_to a to (pulsing a.node to))

-- a string that is delivered is one of these
abbrev pub WasSent : List (List ℕ) → Act → Type 0
WasSent sent (Delivers bytes v) = Contains sent bytes
WasSent sent x = Unit {0}

-- whatever strings wait at the site, it does so
pub acts_carry : (x : Act) (a b : SiteView) → Acts x a b → Carries (Acts x) a b
acts_carry (Hands rows) a b same = record {
  more = [];
  waiting = none_more (site_handed rows a) b same;
  goes = λ ws. kept (site_handed rows a) b same ws;
}
acts_carry (Fetches page write) a b f =
    let k = turn_carries (site_fetching page write a) b f.turns in record {
      more = k.more;
      waiting = k.waiting;
      goes = λ ws. record { turns = k.goes ws; used = f.used };
    }
acts_carry Turns a b t =
    let k = turn_carries a b t in record { more = k.more; waiting = k.waiting; goes = k.goes }
acts_carry (Delivers bytes v) a b d =
    let k = delivery_carries bytes v a b d in
    record { more = k.more; waiting = k.waiting; goes = k.goes }
acts_carry (Goes source more) a b g =
    let k = goes_carries source more a b g in
    record { more = k.more; waiting = k.waiting; goes = k.goes }
acts_carry (Pulses to) a b p =
    let k = pulse_carries to a b p.2 in
    record { more = k.more; waiting = k.waiting; goes = λ ws. (p.0, p.1, k.goes ws) }

-- the calls in progress are those of the longer program

row_handed : (rows : List (List Call)) (p : Process) (calls : List Call) → AsksRow p calls
    → AsksRow (process_handed rows p) calls
row_handed rows p [] asks = tt
row_handed rows p (call ∷ calls) asks = (
  handed_step rows p.program p.state (Asks call) asks.0 (λ e. cc),
  λ r. subst (λ s. AsksRow (record { program = handed rows p.program; state = s }) calls)
      (sym (handed_reply rows p.program p.state r))
      (row_handed rows (answered_with p r) calls (asks.1 r)),
)

pub own_handed : (rows : List (List Call)) (a : SiteView) → IsOwn (core_of a)
    → IsOwn (core_of (site_handed rows a))
own_handed rows a own = record {
  called = handed_called rows (core_of a).process.program own.called;
  asking = λ call is.
      row_handed rows (core_of a).process (call ∷ (core_of a).memory.along) (own.asking call is);
  fetched = handing-used rows (core_of a) own.fetched;
}

-- a page is fetched

pub fetched_program : (page : ℕ) (write : Bool) (a b : SiteView) → IsFetched page write a b
    → b.node.core.process.program ≡ ahead page write a.node.core.process.program
fetched_program page write a b f =
    ap (λ (s : SiteView). s.node.core.process.program) f.turns.after
    ∙ ap (λ (k : Host Managed). k.process.program)
    (posting-core (site_fetching page write a).node f.turns.outcome.after f.turns.outcome.posted
    f.turns.effect f.turns.sent)
    ∙ turned-program (core_of (site_fetching page write a)) f.turns.outcome f.turns.turn

pub own_fetched : (page : ℕ) (write : Bool) (a b : SiteView) → IsFetched page write a b
    → IsOwn (core_of a) → IsOwn (core_of b)
own_fetched page write a b f own = record {
  called = subst IsCalled (sym (fetched_program page write a b f))
      (ahead_called page write (core_of a).process.program own.called);
  asking = subst IsAskingHost (turned_core (site_fetching page write a) b f.turns)
      (turn-asking managed_ops (core_of (site_fetching page write a)) f.turns.outcome
      (λ call is.
      ahead_row page write (core_of a).process (call ∷ (core_of a).memory.along) (own.asking call is))
      f.turns.turn);
  fetched = f.used;
}

-- own code, as messages keep it
own_served : (n : Host Managed) (from : ℕ) (m : Message) → IsOwn n
    → IsOwn (serving managed_ops n from m).after
unfolding serving
own_served n from m own = record {
  called = own.called;
  asking = serve-asking managed_ops n from m own.asking;
  fetched = own.fetched;
}

pub own_on : (x : Act) (a b : SiteView) → IsConfig a.config → Acts x a b → IsOwn (core_of a)
    → IsOwn (core_of b)
unfolding pulsing
own_on (Hands rows) a b limits same own =
    subst (λ s. IsOwn (core_of s)) (sym same) (own_handed rows a own)
own_on (Fetches page write) a b limits f own = own_fetched page write a b f own
own_on Turns a b limits t own = turned_own a b own t
own_on (Delivers bytes v) a b limits d own =
    delivery_keeps IsOwn own_served bytes v a b limits d own
own_on (Goes source more) a b limits g own =
    goes_keeps IsOwn own_served source more a b limits g own
own_on (Pulses to) a b limits p own = subst (λ s. IsOwn (core_of s)) (sym p.2) own

-- the same node, later

abbrev program_of : SiteView → Program
program_of s = s.node.core.process.program

same_later : (a b : SiteView) → IsMadeByEvents b → b.config ≡ a.config → b.me ≡ a.me
    → b.keep ≡ a.keep → program_of b ≡ program_of a → IsLater a b
same_later a b made config me keep program =
    record { config = config; me = me; keep = keep; program = program; made = made }

still_later : (a b : SiteView) → IsMadeByEvents a → b ≡ a → IsLater a b
still_later a b made same =
    same_later a b (subst IsMadeByEvents (sym same) made) (ap (λ (s : SiteView). s.config) same)
    (ap (λ (s : SiteView). s.me) same) (ap (λ (s : SiteView). s.keep) same) (ap program_of same)

then_later : (a b d : SiteView) → IsLater a b → IsLater b d → IsLater a d
then_later a b d x y =
    same_later a d y.made (y.config ∙ x.config) (y.me ∙ x.me) (y.keep ∙ x.keep) (y.program ∙ x.program)

turn_later : (a b : SiteView) → IsMadeByEvents a → SiteTurns a b → IsLater a b
turn_later a b made t =
    same_later a b (turn_made Moved a b made t) (ap (λ (s : SiteView). s.config) t.after)
    (ap (λ (s : SiteView). s.me) t.after) (ap (λ (s : SiteView). s.keep) t.after)
    (ap program_of t.after
    ∙ ap (λ (k : Host Managed). k.process.program)
    (posting-core a.node t.outcome.after t.outcome.posted t.effect t.sent)
    ∙ turned-program a.node.core t.outcome t.turn)

pub goes_later : (source : ℕ) (more : List (List ℕ)) (a b : SiteView) → IsConfig a.config
    → IsMadeByEvents a → SiteGoesOn source more a b → IsLater a b
goes_later source [] a b limits made same = still_later a b made same
goes_later source (bytes ∷ more) a b limits made g =
    let one = once_later source bytes a g.0 limits made g.1 in
    then_later a g.0 b one
    (goes_later source more g.0 b (subst IsConfig (sym one.config) limits) one.made g.2)

held_made : (f : Frame) (bytes : List ℕ) (a : SiteView) → IsMadeByEvents a
    → IsMadeByEvents (holding_in a f bytes)
held_made f bytes a made = record {
  effect = made.effect;
  happen = made.happen;
  node = made.node;
  taken = made.taken;
  waits = made.waits;
}

follows_later : (v : Verdict) (f : Frame) (bytes : List ℕ) (a b : SiteView) → IsConfig a.config
    → IsMadeByEvents a → FollowsDelivery v f bytes a b → IsLater a b
follows_later verdict.NotMine f bytes a b limits made same = still_later a b made same
follows_later verdict.Repeat f bytes a b limits made same = still_later a b made same
follows_later verdict.Ahead f bytes a b limits made same =
    same_later a b (subst IsMadeByEvents (sym same) (held_made f bytes a made))
    (ap (λ (s : SiteView). s.config) same) (ap (λ (s : SiteView). s.me) same)
    (ap (λ (s : SiteView). s.keep) same) (ap program_of same)
follows_later verdict.Next f bytes a b limits made went =
    goes_later f.source went.0 a b limits made went.1

pub delivery_later : (bytes : List ℕ) (v : Verdict) (a b : SiteView) → IsConfig a.config
    → IsMadeByEvents a → AfterDelivery bytes v a b → IsLater a b
delivery_later bytes v a b limits made d =
    let one = delivered_later bytes v a d.mid limits made d.first in
    then_later a d.mid b one
    (follows_later v d.first.frame bytes d.mid b (subst IsConfig (sym one.config) limits) one.made
    d.follows)

pulse_later : (to : ℕ) (a b : SiteView) → IsMadeByEvents a
    → b ≡ after_pulse_to a to (pulsing a.node to) → IsLater a b
unfolding pulsing
pulse_later to a b made p =
    same_later a b (pulse_made-on to a b made p) (ap (λ (s : SiteView). s.config) p)
    (ap (λ (s : SiteView). s.me) p) (ap (λ (s : SiteView). s.keep) p) (ap program_of p)

-- the strings that came too early were sent

module _ (sent : List (List ℕ)) where
  abbrev pub EarlySent : SiteView → Type 0
  EarlySent a = (bytes : List ℕ) → Contains (early_at a) bytes → Contains sent bytes

  no_earlier : (a b : SiteView) → early_at b ≡ early_at a ++ [] → EarlySent a → EarlySent b
  no_earlier a b is early bytes has =
      early bytes (subst (λ l. Contains l bytes) (is ∙ append-nil (early_at a)) has)

  early_one : (v : Verdict) (string bytes : List ℕ) → Contains sent string
      → Contains (early_as v string) bytes → Contains sent bytes
  early_one verdict.NotMine string bytes in_sent has =
      absurd (let low = has.1 in omega (arith, low))
  early_one verdict.Next string bytes in_sent has = absurd (let low = has.1 in omega (arith, low))
  early_one verdict.Repeat string bytes in_sent has = absurd (let low = has.1 in omega (arith, low))
  early_one verdict.Ahead string bytes in_sent has =
      ⊎_elim (λ none. absurd (let low = none.1 in omega (arith, low)))
      (λ same. subst (Contains sent) same in_sent) (Contains-push_cases [] string bytes has)

  delivers_early : (string : List ℕ) (v : Verdict) (a b : SiteView) → IsConfig a.config
      → IsMadeByEvents a → Contains sent string → SiteDelivers string v a b → EarlySent a
      → EarlySent b
  delivers_early string v a b limits made in_sent d early bytes has =
      ⊎_elim (early bytes) (early_one v string bytes in_sent)
      (Contains-append_cases (early_at a) (early_as v string) bytes
      (subst (λ l. Contains l bytes) (delivery_early string v a b limits made d).1 has))

  ready_made : (a : SiteView) (source : ℕ) → IsMadeByEvents a → IsMadeByEvents (without_ready a source)
  ready_made a source made = record {
    effect = made.effect;
    happen = made.happen;
    node = made.node;
    taken = made.taken;
    waits = made.waits;
  }

  pub goes_early : (source : ℕ) (more : List (List ℕ)) (a b : SiteView) → IsConfig a.config
      → IsMadeByEvents a → SiteGoesOn source more a b → EarlySent a → EarlySent b
  goes_early source [] a b limits made same early = subst EarlySent (sym same) early
  goes_early source (bytes ∷ more) a b limits made g early =
      let one = once_later source bytes a g.0 limits made g.1 in
      goes_early source more g.0 b (subst IsConfig (sym one.config) limits) one.made g.2
      (no_earlier a g.0
      (delivery_early bytes verdict.Next (without_ready a source) g.0 limits (ready_made a source made)
      g.1.next).1 early)

  follows_early : (v : Verdict) (f : Frame) (bytes : List ℕ) (a b : SiteView) → IsConfig a.config
      → IsMadeByEvents a → FollowsDelivery v f bytes a b → EarlySent a → EarlySent b
  follows_early verdict.NotMine f bytes a b limits made same early = subst EarlySent (sym same) early
  follows_early verdict.Repeat f bytes a b limits made same early = subst EarlySent (sym same) early
  follows_early verdict.Ahead f bytes a b limits made same early =
      subst EarlySent (sym same) (λ bytes has. early bytes has)
  follows_early verdict.Next f bytes a b limits made went early =
      goes_early f.source went.0 a b limits made went.1 early

  pub delivery_early_sent : (bytes : List ℕ) (v : Verdict) (a b : SiteView) → IsConfig a.config
      → IsMadeByEvents a → Contains sent bytes → AfterDelivery bytes v a b → EarlySent a
      → EarlySent b
  delivery_early_sent bytes v a b limits made in_sent d early =
      let one = delivered_later bytes v a d.mid limits made d.first in
      follows_early v d.first.frame bytes d.mid b (subst IsConfig (sym one.config) limits) one.made
      d.follows (delivers_early bytes v a d.mid limits made in_sent d.first early)

-- what holds of node i's site, at which no string waits
pub record IsNodeSite (c : Config) (i : ℕ) (sent : List (List ℕ)) (a : SiteView) : Type 0 where
  pub config : a.config ≡ c
  pub me : a.me ≡ i
  pub made : IsMadeByEvents a
  pub early : EarlySent sent a
  pub own : IsOwn (core_of a)

module _ (c : Config) (limits : IsConfig c) (i : ℕ) (sent : List (List ℕ)) where
  within : (a : SiteView) → IsNodeSite c i sent a → IsConfig a.config
  within a n = subst IsConfig (sym n.config) limits

  by_later : (x : Act) (a b : SiteView) → IsNodeSite c i sent a → Acts x a b → IsLater a b
      → EarlySent sent b → IsNodeSite c i sent b
  by_later x a b n acts later early = record {
    config = later.config ∙ n.config;
    me = later.me ∙ n.me;
    made = later.made;
    early = early;
    own = own_on x a b (within a n) acts n.own;
  }

  -- it goes on to hold
  pub node_on : (x : Act) (a b : SiteView) → WasSent sent x → Acts x a b → IsNodeSite c i sent a
      → IsNodeSite c i sent b
  node_on (Hands rows) a b was same n =
      subst (IsNodeSite c i sent) (sym same)
      (record {
        config = n.config;
        me = n.me;
        made = handed_made rows a n.made;
        early = λ bytes has.
            n.early bytes (subst (λ l. Contains l bytes) (handed_early rows a n.made) has);
        own = own_handed rows a n.own;
      })
  node_on (Fetches page write) a b was f n =
      let fetching : SiteView = site_fetching page write a in
      let made : IsMadeByEvents fetching = grown_made (Page page write ∷ []) a n.made in
      let later = turn_later fetching b made f.turns in record {
        config = later.config ∙ n.config;
        me = later.me ∙ n.me;
        made = later.made;
        early = no_earlier sent a b
            (turn_early Moved fetching b made f.turns
            ∙ ap (λ l. l ++ []) (grown_early (Page page write ∷ []) a n.made)) n.early;
        own = own_fetched page write a b f n.own;
      }
  node_on Turns a b was t n =
      by_later Turns a b n t (turn_later a b n.made t)
      (no_earlier sent a b (turn_early Moved a b n.made t) n.early)
  node_on (Delivers bytes v) a b was d n =
      by_later (Delivers bytes v) a b n d (delivery_later bytes v a b (within a n) n.made d)
      (delivery_early_sent sent bytes v a b (within a n) n.made was d n.early)
  node_on (Goes source more) a b was g n =
      by_later (Goes source more) a b n g (goes_later source more a b (within a n) n.made g)
      (goes_early sent source more a b (within a n) n.made g n.early)
  node_on (Pulses to) a b was p n =
      by_later (Pulses to) a b n p (pulse_later to a b n.made p.2)
      (no_earlier sent a b (pulse_early to a b n.made p.2) n.early)
