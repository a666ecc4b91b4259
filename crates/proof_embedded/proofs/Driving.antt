-- Nodes that a program drives are the nodes of a world that moves lead to: each request makes moves
-- of its node, or none.
use Rattle.std.proofs.Common.{◌≡◌, ◌≢◌, ◌⊎◌, ℕ, zero, suc, ◌+◌, ◌<◌, Bool, true, false, List, [], ◌∷◌, ◌++◌, length, length-set, map, set, slice_get, take, Option, Some, None, Contains, append-nil, append_assoc, refl, sym, ap, subst, ◌∙◌, arith, inl, inr, ⊎_elim, option_map}
use Rattle.std.proofs.lemmas.List.{map-set, set-set}
use Rattle.std.proofs.lemmas.List.Elements.{Contains-append_left, Contains-append_right, Contains-append_cases, Contains-push_cases}
use Rattle.std.proofs.lemmas.Option.{same_Some, none-some, slice_get-map, slice_get_read}
use Rattle.ivy_model.specs.declared.Call.{Call}
use Rattle.ivy_model.specs.declared.Config.{Config}
use Rattle.ivy_model.specs.declared.Record.{Record}
use Rattle.ivy_model.specs.declared.Reply as reply
use Rattle.ivy_model.specs.declared.Row.{Row}
use Rattle.ivy_model.specs.declared.Row.TheVariants.{Loads, Stores}
use Rattle.ivy_model.specs.stated.Config.{IsConfig}
use Rattle.ivy_model.specs.Rows.{calls_of, numbers_in, row}
use Rattle.ivy_program.specs.stated.Programs.{Program, Called}
use Rattle.ivy_host.specs.stated.Hosts.{Host, host_rules, answered_by}
use Rattle.ivy_host.specs.stated.Managers.{Managed, managed_ops}
use Rattle.ivy_host.specs.declared.opening.Opening.{Opening}
use Rattle.ivy_host.specs.stated.Openings.{managed_start, opening}
use Rattle.ivy_moves.specs.stated.Explained.{IsUntorn}
use Rattle.ivy_moves.specs.stated.Nodes.{pulsing}
use Rattle.ivy_moves.specs.stated.Worlds.{World}
use Rattle.ivy_moves.proofs.Moments.{explained_whole, untorn_at}
use Rattle.ivy_moves.specs.declared.Move.{Move}
use Rattle.ivy_moves.specs.declared.Move.TheVariants as move
use Rattle.ivy_moves.specs.declared.keep.Keep.TheVariants.{History}
use Rattle.ivy_link.specs.declared.Verdict.{Verdict}
use Rattle.ivy_moves.proofs.Places.{set-cases, set-there, set_same}
use Rattle.ivy_site.specs.declared.turn.Turn.TheVariants.{Moved}
use Rattle.ivy_site.specs.Calls.{AreAnswered, AreTaken, BeginsRow}
use Rattle.ivy_site.specs.Handed.{site_fetching, site_handed}
use Rattle.ivy_site.specs.SiteView.{SiteView, after_pulse_to}
use Rattle.ivy_site.specs.Sites.{SiteTurns, AfterDelivery, first_opened}
use Rattle.ivy_embedded.specs.Nodes.{Embedded, opened_embedded, strings_of, waiting_in}
use Rattle.ivy_embedded.specs.declared.lending.Lending.{Lending as Mark}
use Rattle.ivy_embedded.specs.Exports.{AfterBegin, AfterCall, ChangesWaiting, Takes}
use Rattle.ivy_embedded.specs.Fetches.{AfterAhead, is_to_write}
use Rattle.ivy_embedded.specs.declared.status.TheConstants.{DONE, SHORT_BUFFER, NO_FRAME}
use Rattle.proof_worlds.specs.stated.Keeping.{Keeps}
use Rattle.ivy_world.specs.WorldSites.{programs_of, world_of, run_of, first_sites_from, AfterMove}
use Rattle.ivy_world.proofs.GoingOn.{went_there, delivery_went}
use Rattle.ivy_world.proofs.Making.{turn_went, pulse_went}
use Rattle.ivy_world.proofs.Worlds.{first_running-of, running_each}
use Rattle.proof_worlds.proofs.consistency.Untorn.{serve-keeps}
use Rattle.proof_worlds.proofs.headline.Headline.{keeps-reached, explained-along}
use Rattle.proof_embedded.specs.Driven.{Request, Begin, Reply, LoadBlock, StoreBlock, BeginLoadBlock, BeginStoreBlock, TakeLoadBlock, TakeStoreBlock, Fetch, Deliver, NextFrame, Pulse, Driven, TakesOut, Does, Asks, DrivesTo, first_from, opened, moments, node_in, program_in, AreOfOneRun, DrivenNodesAreOfOneRun}
use Rattle.proof_embedded.proofs.Emptied.{with_strings, turn_carries, delivery_carries, pulse_carries}
use Rattle.proof_embedded.proofs.Additions.{Addition, Page, Rows, site_grown}
use Rattle.proof_embedded.proofs.Points.{RunsWith, grown_with, reaches_now, running_of, runs_first, runs_with}

-- the node as a site whose strings are on the wire
abbrev seen : Embedded → SiteView
seen e = with_strings [] e.site

-- the nodes are those of a world that runs, and whatever was taken out of them or waits there was
-- sent
record AreDriven (c : Config) (o : Opening) (past : List Driven) (nodes : List Embedded)
    (strings : List (List ℕ)) : Type 0 where
  sent : List (List ℕ)
  running : RunsWith c o past (map seen nodes) sent
  taken : (bytes : List ℕ) → Contains strings bytes → Contains sent bytes
  waits : (i : ℕ) (e : Embedded) → slice_get nodes i ≡ Some e → (bytes : List ℕ)
      → Contains (waiting_in e) bytes → Contains sent bytes

-- one site of a world goes on

module _ (c : Config) (o : Opening) (past : List Driven) (sites : List SiteView)
    (sent : List (List ℕ)) (i : ℕ) (old : SiteView)
    (there : slice_get sites i ≡ Some (with_strings [] old)) (h : RunsWith c o past sites sent)
  where
    -- the site went on: it has these strings more, and the world runs on
    record Further (new : SiteView) : Type 0 where
      more : List (List ℕ)
      waiting : new.waiting ≡ old.waiting ++ more
      running : RunsWith c o past (set sites i (with_strings [] new)) (sent ++ more)

    here : (new : SiteView) (more : List (List ℕ)) (step : Move)
        → AfterMove c sites (set sites i (with_strings [] new)) sent (sent ++ more) step
        → RunsWith c o past (set sites i (with_strings [] new)) (sent ++ more)
    here new more step m =
        runs_with c o past sites (set sites i (with_strings [] new)) sent (sent ++ more) step h m.are
        (length-set sites i (with_strings [] new) ∙ h.count) m.programs m.made

    stayed : (new : SiteView) → new ≡ old → Further new
    stayed new same = record {
      more = [];
      waiting = ap (λ (s : SiteView). s.waiting) same ∙ sym (append-nil old.waiting);
      running = subst (RunsWith c o past (set sites i (with_strings [] new))) (sym (append-nil sent))
          (subst (λ ss. RunsWith c o past ss sent)
          (sym (set_same sites i (with_strings [] old) there)
          ∙ ap (λ s. set sites i (with_strings [] s)) (sym same)) h);
    }

    turned : (new : SiteView) → SiteTurns old new → Further new
    turned new t =
        let k = turn_carries old new t in record {
          more = k.more;
          waiting = k.waiting;
          running = here new k.more (move.Turn i)
              (went_there c sites (set sites i (with_strings [] new)) sent (sent ++ k.more) (move.Turn i)
              (turn_went c sites sent i (with_strings [] old) (with_strings k.more new)
              (with_strings [] new) Moved (move.Turn i) (sent ++ k.more) h.nodes there (k.goes []) refl
              refl refl));
        }

    turned_once : (new : SiteView) → (new ≡ old) ⊎ SiteTurns old new → Further new
    turned_once new w = ⊎_elim (stayed new) (turned new) w

    delivered : (new : SiteView) (bytes : List ℕ) (v : Verdict) → Contains sent bytes
        → AfterDelivery bytes v old new → Further new
    delivered new bytes v in_sent d =
        let k = delivery_carries bytes v old new d in record {
          more = k.more;
          waiting = k.waiting;
          running = here new k.more (move.Deliver in_sent.0 i)
              (delivery_went c sites sent in_sent.0 i (with_strings [] old) (with_strings k.more new)
              (with_strings [] new) bytes v (move.Deliver in_sent.0 i) (sent ++ k.more) h.limits h.nodes
              there (slice_get_read sent (length sent) in_sent.0 bytes refl in_sent.1 (sym in_sent.2))
              (k.goes []) refl refl refl);
        }

    pulsed : (new : SiteView) (to : ℕ) → to < old.config.nodes → to ≢ old.me
        → new ≡ after_pulse_to old to (pulsing old.node to) → Further new
    pulsed new to within other p =
        let k = pulse_carries to old new p in
        let config : old.config ≡ c = h.nodes.config i (with_strings [] old) there in
        let me : old.me ≡ i = h.nodes.me i (with_strings [] old) there in
        let inside : to < length sites =
        subst (λ n. to < n) (ap (λ (k : Config). k.nodes) config ∙ sym h.count) within in
        let apart : i ≢ to = λ e. other (sym e ∙ sym me) in record {
          more = k.more;
          waiting = k.waiting;
          running = here new k.more (move.Pulse i to)
              (went_there c sites (set sites i (with_strings [] new)) sent (sent ++ k.more)
              (move.Pulse i to)
              (pulse_went c sites sent i to (with_strings [] old) (with_strings k.more new)
              (with_strings [] new) (move.Pulse i to) (sent ++ k.more) h.nodes there inside apart
              (k.goes []) refl refl refl));
        }

-- something is handed in first
module _ (c : Config) (o : Opening) (past : List Driven) (sites : List SiteView)
    (sent : List (List ℕ)) (i : ℕ) (old : SiteView)
    (there : slice_get sites i ≡ Some (with_strings [] old)) (h : RunsWith c o past sites sent)
  where
    added : (x : Addition) (new : SiteView)
        → (new ≡ site_grown (x ∷ []) old) ⊎ SiteTurns (site_grown (x ∷ []) old) new
        → Further c o past sites sent i old there h new
    added x new w =
        let mid : SiteView = site_grown (x ∷ []) old in
        let after : List SiteView = set sites i (with_strings [] mid) in
        let at : slice_get after i ≡ Some (with_strings [] mid) =
        set-there sites i (with_strings [] mid) (with_strings [] old) there in
        let f = turned_once c o past after sent i mid at
        (grown_with c o past sites sent i (with_strings [] old) there (x ∷ []) h) new w in
        record {
          more = f.more;
          waiting = f.waiting;
          running = subst (λ ss. RunsWith c o past ss (sent ++ f.more))
              (set-set sites i (with_strings [] mid) (with_strings [] new)) f.running;
        }

    -- calls
    handed : (calls : List Call) (new : SiteView)
        → (new ≡ site_handed (calls ∷ []) old) ⊎ SiteTurns (site_handed (calls ∷ []) old) new
        → Further c o past sites sent i old there h new
    handed calls new w = added (Rows (calls ∷ [])) new w

    -- a page that is fetched ahead
    fetched : (page : ℕ) (write : Bool) (new : SiteView) → SiteTurns (site_fetching page write old) new
        → Further c o past sites sent i old there h new
    fetched page write new t = added (Page page write) new (inr t)

    -- together, with a turn in which the first begins, or there are none
    together : (calls : List Call) (new : SiteView) → BeginsRow calls old new
        → Further c o past sites sent i old there h new
    together [] new same = stayed c o past sites sent i old there h new same
    together (call ∷ calls) new b = handed (call ∷ calls) new (inr b.turns)

-- one step of the site, and then others
followed : (c : Config) (o : Opening) (past : List Driven) (sites : List SiteView)
    (sent : List (List ℕ)) (i : ℕ) (old mid new : SiteView)
    (there : slice_get sites i ≡ Some (with_strings [] old)) (h : RunsWith c o past sites sent)
    (first : Further c o past sites sent i old there h mid)
    → Further c o past (set sites i (with_strings [] mid)) (sent ++ first.more) i mid
    (set-there sites i (with_strings [] mid) (with_strings [] old) there) first.running new
    → Further c o past sites sent i old there h new
followed c o past sites sent i old mid new there h first rest = record {
  more = first.more ++ rest.more;
  waiting = rest.waiting ∙ (ap (λ l. l ++ rest.more) first.waiting
      ∙ append_assoc old.waiting first.more rest.more);
  running = subst (λ ss. RunsWith c o past ss (sent ++ (first.more ++ rest.more)))
      (set-set sites i (with_strings [] mid) (with_strings [] new))
      (subst (RunsWith c o past (set (set sites i (with_strings [] mid)) i (with_strings [] new)))
      (append_assoc sent first.more rest.more) rest.running);
}

-- calls of a row are handed in one after another
answered : (c : Config) (o : Opening) (past : List Driven) (sites : List SiteView)
    (sent : List (List ℕ)) (i : ℕ) (rs : List Record)
    (old new : SiteView) (there : slice_get sites i ≡ Some (with_strings [] old))
    (h : RunsWith c o past sites sent) → AreAnswered rs old new
    → Further c o past sites sent i old there h new
answered c o past sites sent i [] old new there h same =
    stayed c o past sites sent i old there h new same
answered c o past sites sent i (r ∷ rs) old new there h a =
    let first = handed c o past sites sent i old there h (r.call ∷ []) a.0 (inr a.1.turns) in
    followed c o past sites sent i old a.0 new there h first
    (answered c o past (set sites i (with_strings [] a.0)) (sent ++ first.more) i rs a.0 new
    (set-there sites i (with_strings [] a.0) (with_strings [] old) there) first.running a.2)

-- and their replies are taken so, each in a turn
replied : (c : Config) (o : Opening) (past : List Driven) (sites : List SiteView)
    (sent : List (List ℕ)) (i : ℕ) (rs : List Record)
    (old new : SiteView) (there : slice_get sites i ≡ Some (with_strings [] old))
    (h : RunsWith c o past sites sent) → AreTaken rs old new
    → Further c o past sites sent i old there h new
replied c o past sites sent i [] old new there h same =
    stayed c o past sites sent i old there h new same
replied c o past sites sent i (r ∷ rs) old new there h a =
    let first = turned c o past sites sent i old there h a.0 a.1.turns in
    followed c o past sites sent i old a.0 new there h first
    (replied c o past (set sites i (with_strings [] a.0)) (sent ++ first.more) i rs a.0 new
    (set-there sites i (with_strings [] a.0) (with_strings [] old) there) first.running a.2)

-- what waits at a node with more strings

strings_more : (first : Option (List ℕ)) (waiting more : List (List ℕ))
    → strings_of first (waiting ++ more) ≡ strings_of first waiting ++ more
strings_more None waiting more = refl
strings_more (Some string) waiting more = refl

pub waits_more : (s t : Embedded) (more : List (List ℕ)) → t.first ≡ s.first
    → t.site.waiting ≡ s.site.waiting ++ more → waiting_in t ≡ waiting_in s ++ more
waits_more s t more first waiting =
    (λ k. strings_of (first k) (waiting k)) ∙ strings_more s.first s.site.waiting more

-- no status is two
pub done_short : (status : ℕ) → status ≡ DONE → status ≡ SHORT_BUFFER → ⊥
done_short status done short = omega (arith, done, short)

pub done_none : (status : ℕ) → status ≡ DONE → status ≡ NO_FRAME → ⊥
done_none status done none = omega (arith, done, none)

-- one of the nodes goes on

module _ (c : Config) (o : Opening) (past : List Driven) (nodes : List Embedded)
    (strings : List (List ℕ)) (i : ℕ) (s : Embedded)
    (there : slice_get nodes i ≡ Some s) (d : AreDriven c o past nodes strings) where
  seen_there : slice_get (map seen nodes) i ≡ Some (seen s)
  seen_there = slice_get-map seen nodes i ∙ ap (option_map seen) there

  abbrev Goes : SiteView → Type 0
  Goes new = Further c o past (map seen nodes) d.sent i s.site seen_there d.running new

  -- what waits at the nodes was sent, where it was at the one before or is among what was sent
  -- since
  waits_on : (t : Embedded) (sent : List (List ℕ))
      → ((bytes : List ℕ) → Contains d.sent bytes → Contains sent bytes)
      → ((bytes : List ℕ) → Contains (waiting_in t) bytes → Contains sent bytes)
      → (j : ℕ) (e : Embedded) → slice_get (set nodes i t) j ≡ Some e → (bytes : List ℕ)
      → Contains (waiting_in e) bytes → Contains sent bytes
  waits_on t sent before own j e at bytes has =
      ⊎_elim (λ p. own bytes (subst (λ (x : Embedded). Contains (waiting_in x) bytes) p.1 has))
      (λ q. before bytes (d.waits j e q bytes has)) (set-cases nodes i j t e at)

  further : (t : Embedded) → t.first ≡ s.first → Goes t.site
      → AreDriven c o past (set nodes i t) strings
  further t first f =
      let more = waits_more s t f.more first f.waiting in
      let before : (bytes : List ℕ) → Contains d.sent bytes → Contains (d.sent ++ f.more) bytes =
      λ bytes has. Contains-append_left d.sent f.more bytes has in
      let own : (bytes : List ℕ) → Contains (waiting_in t) bytes → Contains (d.sent ++ f.more) bytes =
      λ bytes has. ⊎_elim (λ old. before bytes (d.waits i s there bytes old))
      (λ new. Contains-append_right d.sent f.more bytes new)
      (Contains-append_cases (waiting_in s) f.more bytes
      (subst (λ l. Contains l bytes) more has)) in record {
        sent = d.sent ++ f.more;
        running = subst (λ ss. RunsWith c o past ss (d.sent ++ f.more))
            (sym (map-set seen nodes i t)) f.running;
        taken = λ bytes has. before bytes (d.taken bytes has);
        waits = waits_on t (d.sent ++ f.more) before own;
      }

  unchanged : (t : Embedded) → t ≡ s → AreDriven c o past (set nodes i t) strings
  unchanged t same =
      subst (λ ns. AreDriven c o past ns strings)
      (sym (set_same nodes i s there) ∙ ap (set nodes i) (sym same)) d

  -- by what a turn that has a call comes to
  begun : (call : Call) (progress : Option reply.Reply) (t : Embedded)
      → AfterBegin call progress s.site t.site → Goes t.site
  begun call None t a =
      handed c o past (map seen nodes) d.sent i s.site seen_there d.running (call ∷ []) t.site
      (⊎_elim inl (λ w. inr w.0) a)
  begun call (Some r) t a =
      handed c o past (map seen nodes) d.sent i s.site seen_there d.running (call ∷ []) t.site
      (inr a.turns)

  polled : (progress : Option reply.Reply) (t : Embedded) → AfterCall progress s.site t.site
      → Goes t.site
  polled None t a =
      turned_once c o past (map seen nodes) d.sent i s.site seen_there d.running t.site
      (⊎_elim (λ idle. inl idle.1) (λ w. inr w.0) a)
  polled (Some r) t a =
      turned c o past (map seen nodes) d.sent i s.site seen_there d.running t.site a.2.turns

  carried : (kind : Row) (addr words : ℕ) (bytes : List ℕ) (t : Embedded)
      → AreAnswered (row kind s.site.me addr (numbers_in words bytes)) s.site t.site → Goes t.site
  carried kind addr words bytes t a =
      answered c o past (map seen nodes) d.sent i
      (row kind s.site.me addr (numbers_in words bytes)) s.site t.site seen_there d.running a

  begun_row : (kind : Row) (addr words : ℕ) (bytes : List ℕ) (t : Embedded)
      → BeginsRow (calls_of (row kind 0 addr (numbers_in words bytes))) s.site t.site → Goes t.site
  begun_row kind addr words bytes t b =
      together c o past (map seen nodes) d.sent i s.site seen_there d.running
      (calls_of (row kind 0 addr (numbers_in words bytes))) t.site b

  taken_row : (kind : Row) (addr words : ℕ) (bytes : List ℕ) (t : Embedded)
      → AreTaken (row kind s.site.me addr (numbers_in words bytes)) s.site t.site → Goes t.site
  taken_row kind addr words bytes t a =
      replied c o past (map seen nodes) d.sent i (row kind s.site.me addr (numbers_in words bytes))
      s.site t.site seen_there d.running a

  -- by what a fetch comes to
  ahead : (page : ℕ) (to : Mark) (begun : Bool) (t : Embedded) → AfterAhead begun page to s t
      → AreDriven c o past (set nodes i t) strings
  ahead page to true t a =
      further t a.asks.0
      (fetched c o past (map seen nodes) d.sent i s.site seen_there d.running page (is_to_write to)
      t.site a.asks.1.turns)
  ahead page to false t a = unchanged t a.same

  -- a string was taken out, or none was
  seen_same : (t : Embedded) → ChangesWaiting s t → seen t ≡ seen s
  seen_same t same = ap (with_strings []) same

  less_waits : (t : Embedded) (more : List (List ℕ)) → ChangesWaiting s t
      → ((bytes : List ℕ) → Contains (waiting_in t) bytes → Contains (waiting_in s) bytes)
      → ((bytes : List ℕ) → Contains more bytes → Contains d.sent bytes)
      → AreDriven c o past (set nodes i t) more
  less_waits t more same fewer taken = record {
    sent = d.sent;
    running = subst (λ ss. RunsWith c o past ss d.sent)
        (sym (map-set seen nodes i t ∙ ap (set (map seen nodes) i) (seen_same t same)
        ∙ set_same (map seen nodes) i (seen s) seen_there)) d.running;
    taken = taken;
    waits = waits_on t d.sent (λ bytes has. has) (λ bytes has. d.waits i s there bytes (fewer bytes has));
  }

  -- the one that stood in the buffer waited there
  gave : (t : Embedded) (string : List ℕ) (more : List (List ℕ)) → ChangesWaiting s t
      → waiting_in s ≡ string ∷ waiting_in t
      → (more ≡ strings ++ string ∷ []) ⊎ (more ≡ strings) → AreDriven c o past (set nodes i t) more
  gave t string more same gives is =
      let fewer : (bytes : List ℕ) → Contains (waiting_in t) bytes → Contains (waiting_in s) bytes =
      λ bytes has. subst (λ l. Contains l bytes) (sym gives)
      (Contains-append_right (string ∷ []) (waiting_in t) bytes has) in
      let own : Contains (waiting_in s) string =
      subst (λ l. Contains l string) (sym gives)
      (Contains-append_left (string ∷ []) (waiting_in t) string (0, omega arith, refl)) in
      less_waits t more same fewer
      (λ bytes has. ⊎_elim
      (λ added. ⊎_elim (d.taken bytes)
      (λ e. subst (Contains d.sent) e (d.waits i s there string own))
      (Contains-push_cases strings string bytes (subst (λ l. Contains l bytes) added has)))
      (λ none. d.taken bytes (subst (λ l. Contains l bytes) none has)) is)

  kept_strings : (t : Embedded) (more : List (List ℕ)) → ChangesWaiting s t
      → waiting_in t ≡ waiting_in s → more ≡ strings → AreDriven c o past (set nodes i t) more
  kept_strings t more same waiting none =
      less_waits t more same (λ bytes has. subst (λ l. Contains l bytes) waiting has)
      (λ bytes has. d.taken bytes (subst (λ l. Contains l bytes) none has))

  took : (status len dest : ℕ) (buffer : List ℕ) (t : Embedded) (more : List (List ℕ))
      → Takes status buffer len dest s t → TakesOut status buffer len strings more
      → AreDriven c o past (set nodes i t) more
  took status len dest buffer t more h out =
      let either : (more ≡ strings ++ take len buffer ∷ []) ⊎ (more ≡ strings) =
      ⊎_elim (λ p. inl p.1) (λ p. inr p.1) out in
      ⊎_elim (λ given. gave t (take len buffer) more h.0 given.1.0 either)
      (λ rest. ⊎_elim
      (λ short. kept_strings t more h.0 short.1.0
      (⊎_elim (λ p. absurd (done_short status p.0 short.0)) (λ p. p.1) out))
      (λ none. kept_strings t more h.0 (none.2 ∙ sym none.1)
      (⊎_elim (λ p. absurd (done_none status p.0 none.0)) (λ p. p.1) out)) rest) h.1

  -- each request makes moves of its node, or none
  did : (request : Request) (t : Embedded) (more : List (List ℕ)) → Does request strings s t more
      → AreDriven c o past (set nodes i t) more
  did (Begin kind width place operand expected) t more h =
      rw h.0 (⊎_elim
      (λ does. further t does.4.0 (begun does.0 does.2 t does.4.1))
      (λ refused. unchanged t refused.1) h.1.3)
  did Reply t more h =
      rw h.0 (⊎_elim (λ does. further t does.2.0 (polled does.0 t does.2.1))
      (λ refused. unchanged t refused.1) h.1.3)
  did (LoadBlock addr) t more h =
      rw h.0 (⊎_elim (λ does. further t does.3.0 (carried Loads addr h.1.1 h.1.2 t does.3.1))
      (λ none. absurd none.0) h.1.3)
  did (StoreBlock addr bytes) t more h =
      rw h.0 (⊎_elim (λ does. further t does.3.0 (carried Stores addr h.1.1 bytes t does.3.1))
      (λ refused. unchanged t refused.1) h.1.2)
  did (BeginLoadBlock addr bytes) t more h =
      rw h.0 (⊎_elim (λ does. further t does.2.0 (begun_row Loads addr h.1.1 bytes t does.2.1))
      (λ refused. unchanged t refused.1) h.1.2)
  did (BeginStoreBlock addr bytes) t more h =
      rw h.0 (⊎_elim (λ does. further t does.2.0 (begun_row Stores addr h.1.1 bytes t does.2.1))
      (λ refused. unchanged t refused.1) h.1.2)
  did (TakeLoadBlock addr) t more h =
      rw h.0 (⊎_elim (λ does. further t does.4.0 (taken_row Loads addr h.1.1 h.1.2 t does.4.1))
      (λ none. absurd none.0) h.1.3)
  did (TakeStoreBlock addr bytes) t more h =
      rw h.0 (⊎_elim (λ does. further t does.4.0 (taken_row Stores addr h.1.1 bytes t does.4.1))
      (λ none. absurd none.0) h.1.2)
  did (Fetch page number) t more h =
      rw h.0 (⊎_elim (λ does. ahead page does.1 does.3 t does.5) (λ refused. unchanged t refused.1)
      h.1.2)
  did (Deliver bytes) t more h =
      rw h.0 (⊎_elim
      (λ does. further t does.3.0
      (delivered c o past (map seen nodes) d.sent i s.site seen_there d.running t.site bytes does.1
      (d.taken bytes h.1) does.3.1))
      (λ refused. unchanged t refused.1) h.2.2)
  did NextFrame t more h = took h.0 h.1 h.2 h.3 t more h.4 h.5
  did (Pulse to) t more h =
      rw h.0 (⊎_elim
      (λ does. further t does.3.0
      (pulsed c o past (map seen nodes) d.sent i s.site seen_there d.running t.site to does.1 does.2
      does.3.1))
      (λ refused. unchanged t refused.1) h.1.1)

-- one request, and one after another

asked : (c : Config) (o : Opening) (past : List Driven) (request : ℕ × Request) (old new : Driven)
    → Asks request.0 request.1 old new → AreDriven c o past old.nodes old.strings
    → AreDriven c o past new.nodes new.strings
asked c o past request old new a d =
    subst (λ ns. AreDriven c o past ns new.strings) (sym a.nodes)
    (did c o past old.nodes old.strings request.0 a.before a.there d request.1 a.after new.strings
    a.does)

pub nodes_seen : (nodes : List Embedded) → map (λ (s : SiteView). s.node) (map seen nodes) ≡ map node_in nodes
nodes_seen [] = refl
nodes_seen (e ∷ es) = ap (λ l. e.site.node ∷ l) (nodes_seen es)

-- the nodes as they are now are a point of their past from now on
now : (c : Config) (o : Opening) (past : List Driven) (d : Driven)
    → AreDriven c o past d.nodes d.strings
    → AreDriven c o (d ∷ past) d.nodes d.strings
now c o past d h = record {
  sent = h.sent;
  running = record {
    limits = h.running.limits;
    count = h.running.count;
    nodes = h.running.nodes;
    reached = reaches_now c past (opening (managed_start o) c (programs_of (map seen d.nodes)))
        (world_of (map seen d.nodes) h.sent) d (sym (nodes_seen d.nodes)) h.running.reached;
  };
  taken = h.taken;
  waits = h.waits;
}

driven_on : (c : Config) (o : Opening) (past : List Driven) (requests : List (ℕ × Request))
    (old end : Driven)
    → (led : DrivesTo old requests end) → AreDriven c o past old.nodes old.strings
    → AreDriven c o (moments past requests old end led) end.nodes end.strings
driven_on c o past [] old end same d =
    subst (λ (x : Driven). AreDriven c o (old ∷ past) x.nodes x.strings) (sym same)
    (now c o past old d)
driven_on c o past (request ∷ requests) old end h d =
    driven_on c o (old ∷ past) requests h.0 end h.2
    (asked c o (old ∷ past) request old h.0 h.1 (now c o past old d))

-- the nodes as they begin

no_programs : ℕ → List Program
no_programs zero = []
no_programs (suc left) = Called [] [] ∷ no_programs left

so_many : (left : ℕ) → length (no_programs left) ≡ left
unfolding no_programs
so_many zero = refl
so_many (suc left) = ap suc (so_many left)

first_seen : (o : Opening) (c : Config) (me left : ℕ)
    → map seen (first_from o c me left) ≡ first_sites_from o c me (no_programs left)
unfolding no_programs
first_seen o c me zero = refl
first_seen o c me (suc left) =
    ap (λ l. first_opened o History c me (Called [] []) ∷ l) (first_seen o c (me + 1) left)

pub none_waits : (o : Opening) (c : Config) (me left i : ℕ) (e : Embedded)
    → slice_get (first_from o c me left) i ≡ Some e → waiting_in e ≡ []
none_waits o c me zero i e at = absurd (none-some e at)
none_waits o c me (suc left) zero e at =
    ap waiting_in (sym (same_Some (opened_embedded o c me) e at))
none_waits o c me (suc left) (suc i) e at = none_waits o c (me + 1) left i e at

first_driven : (c : Config) (o : Opening) → IsConfig c
    → AreDriven c o [] (first_from o c 0 c.nodes) []
first_driven c o limits = record {
  sent = [];
  running = runs_first c o (map seen (first_from o c 0 c.nodes)) []
      (first_running-of o c (no_programs c.nodes) (map seen (first_from o c 0 c.nodes)) [] limits
      (so_many c.nodes) (first_seen o c 0 c.nodes) refl);
  taken = λ bytes has. has;
  waits = λ i e at bytes has. subst (λ l. Contains l bytes) (none_waits o c 0 c.nodes i e at) has;
}

-- what is promised of a world that runs

programs_seen : (nodes : List Embedded) → programs_of (map seen nodes) ≡ map program_in nodes
programs_seen [] = refl
programs_seen (e ∷ es) = ap (λ l. program_in e ∷ l) (programs_seen es)

of_one_run : (c : Config) (o : Opening) (past : List Driven) (d : Driven)
    → AreDriven c o past d.nodes d.strings
    → AreOfOneRun o c past d
of_one_run c o past d h =
    let sites = map seen d.nodes in
    let runs = running_of c o past sites h.sent h.running in
    let r = h.running.reached in
    let first : World (Host Managed) = opening (managed_start o) c (programs_of sites) in
    let each = running_each c o sites h.sent runs in
    let whole =
    explained_whole (host_rules managed_ops) c answered_by [] first (world_of sites h.sent) [] r.moves
    (explained-along o c (programs_of sites) h.running.limits each r.moves) r.leads in
    record {
      world = world_of sites h.sent;
      keeps = subst (λ ps. Keeps (record {
        config = c;
        opened = o;
        programs = ps;
        world = world_of sites h.sent;
      }))
          (programs_seen d.nodes)
          (keeps-reached (run_of c o sites h.sent) h.running.limits each runs.reached);
      nodes = nodes_seen d.nodes;
      sent = h.taken;
      order = whole.0;
      explained = whole.1.now;
      untorn = λ k m below i e at.
          (let p = r.points k m below i e at in
          subst (IsUntorn whole.0 i) p.same
          (untorn_at (host_rules managed_ops) c answered_by (serve-keeps managed_ops) whole.0 i r.moves
          first (world_of sites h.sent) r.leads whole.1.each p.node p.there p.before p.after p.parts
          p.effect p.happen));
    }

pub driven_nodes_are_of_one_run : DrivenNodesAreOfOneRun
driven_nodes_are_of_one_run o c limits requests d led =
    of_one_run c o (moments [] requests (opened o c) d led) d
    (driven_on c o [] requests (opened o c) d led (first_driven c o limits))
