-- The nodes of a run at each moment are those of a world of programs that make all calls, and have all
-- pages fetched, that the owners hand in in the end.
use Rattle.std.proofs.Common.{◌≡◌, ◌⊎◌, inl, inr, ℕ, List, [], ◌∷◌, ◌++◌, length, set, slice_get, Contains, Some, refl, sym, ap, subst, ◌∙◌, arith, ⊎_elim}
use Rattle.std.proofs.lemmas.List.{length-set}
use Rattle.std.proofs.lemmas.List.Elements.{Contains-append_cases, Contains-append_left, Contains-append_right}
use Rattle.std.proofs.lemmas.Option.{slice_get_past, slice_get_cases, slice_get_within}
use Rattle.ivy_model.specs.declared.Config.{Config}
use Rattle.ivy_model.specs.stated.Config.{IsConfig}
use Rattle.ivy_pagetable.specs.stated.Tables.{entry_at}
use Rattle.ivy_program.specs.stated.Programs.{Program}
use Rattle.ivy_moves.specs.declared.Move.{Move}
use Rattle.ivy_moves.proofs.Leading.{leads_on}
use Rattle.ivy_moves.proofs.Places.{set-cases, set-there, set_same}
use Rattle.ivy_host.specs.stated.Hosts.{host_rules}
use Rattle.ivy_host.specs.stated.Managers.{managed_ops}
use Rattle.ivy_host.specs.declared.opening.Opening.{Opening}
use Rattle.ivy_host.specs.stated.Openings.{managed_start, opening}
use Rattle.ivy_world.specs.WorldSites.{AreSites, world_of}
use Rattle.proof_worlds.specs.stated.Reached.{IsLedTo}
use Rattle.ivy_embedded.specs.Lending.{LendsSoundly, lending_in}
use Rattle.ivy_embedded.specs.Nodes.{Embedded, waiting_in}
use Rattle.ivy_embedded.proofs.Delivered.{table_of}
use Rattle.ivy_embedded.proofs.Going.{core_of}
use Rattle.proof_lent.specs.Lent.{Lending}
use Rattle.proof_lent.specs.LentWorlds.{LentWorld, SufficesFor}
use Rattle.proof_embedded.specs.Driven.{Driven}
use Rattle.proof_embedded.specs.Mapped.{lending_of, lent_by}
use Rattle.proof_embedded.proofs.Acting.{IsNodeSite}
use Rattle.proof_embedded.proofs.Along.{along, along_from, along_length, along_set, along_there}
use Rattle.proof_embedded.proofs.Driving.{waits_more}
use Rattle.proof_embedded.proofs.Effects.{IsActed, IsEmptied}
use Rattle.proof_embedded.proofs.Emptied.{with_strings}
use Rattle.proof_embedded.proofs.LentMoves.{AreOthersQuiet, IsQuietSite, LeadsLent, had_suffices, lent_world, mark_read}
use Rattle.proof_embedded.proofs.Lifted.{as_run}
use Rattle.proof_embedded.proofs.Quiet.{asked_quiet, sound_quiet}
use Rattle.proof_embedded.proofs.Running.{ran, sent_more}
use Rattle.proof_embedded.proofs.Touching.{AllExtend, AreKept, IsTouched, emptied_same, out_from, waits_fewer}

module _ (o : Opening) (c : Config) (limits : IsConfig c) (ps : List Program)
    (few : length ps ≡ c.nodes) where
  -- of programs that are these in the end
  pub record IsMoment (d : Driven) : Type 0 where
    pub sent : List (List ℕ)
    pub are : AreSites c (along ps d.nodes)
    pub each : length ps ≡ length d.nodes
    pub real : (i : ℕ) (e : Embedded) → slice_get d.nodes i ≡ Some e
        → IsNodeSite c i sent (with_strings [] e.site)
    pub sound : (i : ℕ) (e : Embedded) → slice_get d.nodes i ≡ Some e → LendsSoundly e
    pub taken : (bytes : List ℕ) → Contains d.strings bytes → Contains sent bytes
    pub waits : (i : ℕ) (e : Embedded) → slice_get d.nodes i ≡ Some e → (bytes : List ℕ)
        → Contains (waiting_in e) bytes → Contains sent bytes
    pub before : List Move
    pub led : IsLedTo c (opening (managed_start o) c ps) before (world_of (along ps d.nodes) sent)

  pub kept_now : (d : Driven) → IsMoment d → AreKept c d
  kept_now d m i e at = record {
    config = (m.real i e at).config;
    own = (m.real i e at).own;
    sound = m.sound i e at;
  }

  world_leads : (moves : List Move) (l end : LentWorld) → LeadsLent c l moves end
      → IsLedTo c l.world moves end.world
  world_leads [] l end led = ap (λ (x : LentWorld). x.world) led
  world_leads (step ∷ moves) l end led =
      ((led.0).world, led.1.moves, world_leads moves led.0 end led.2)

  -- a program for each node
  pub program_at : (d : Driven) → IsMoment d → (i : ℕ) (e : Embedded) → slice_get d.nodes i ≡ Some e
      → (p : Program) × (slice_get ps i ≡ Some p)
  program_at d m i e at = elim (slice_get_cases ps i).1 [
    | inl found ↦ (found.0, found.2)
    | inr none ↦ absurd
        (let within = slice_get_within d.nodes i e at in
        let each = m.each in
        let past = none.0 in
        omega (arith, within, each, past))
  ]

  -- nodes that stay
  pub still_next : (d d' : Driven) → d' ≡ d → (m : IsMoment d)
      → (next : IsMoment d') × (next.sent ≡ m.sent)
  still_next d d' is m = (
    record {
      sent = m.sent;
      are = subst (λ (x : Driven). AreSites c (along ps x.nodes)) (sym is) m.are;
      each = subst (λ (x : Driven). length ps ≡ length x.nodes) (sym is) m.each;
      real = subst (λ (x : Driven). (i : ℕ) (e : Embedded) → slice_get x.nodes i ≡ Some e
          → IsNodeSite c i m.sent (with_strings [] e.site)) (sym is) m.real;
      sound = subst (λ (x : Driven). (i : ℕ) (e : Embedded) → slice_get x.nodes i ≡ Some e
          → LendsSoundly e) (sym is) m.sound;
      taken = subst (λ (x : Driven). (bytes : List ℕ) → Contains x.strings bytes
          → Contains m.sent bytes) (sym is) m.taken;
      waits = subst (λ (x : Driven). (i : ℕ) (e : Embedded) → slice_get x.nodes i ≡ Some e
          → (bytes : List ℕ) → Contains (waiting_in e) bytes → Contains m.sent bytes) (sym is) m.waits;
      before = m.before;
      led = subst (λ (x : Driven). IsLedTo c (opening (managed_start o) c ps) m.before
          (world_of (along ps x.nodes) m.sent)) (sym is) m.led;
    },
    refl,
  )

  module _ (lent : ℕ → ℕ → Lending) (image : ℕ → ℕ → List ℕ) (d d' : Driven) (m : IsMoment d)
      (same : (i p : ℕ) → lent i p ≡ lent_by (slice_get d.nodes i) p) where
    -- what is lent
    lent_at : (i : ℕ) (e : Embedded) → slice_get d.nodes i ≡ Some e → (p : ℕ)
        → lent i p ≡ lending_of (lending_in e.lent p)
    lent_at i e at p = same i p ∙ ap (λ o. lent_by o p) at

    others : (i : ℕ) → AreOthersQuiet c lent image i (along ps d.nodes)
    others i = record {
      each = λ j x ne at.
          (let a = along_from ps d.nodes j x at in
          let kept = kept_now d m j a.node a.at in
          subst (IsQuietSite c lent image j) (sym a.is)
          (record {
            held = λ p. subst (SufficesFor (entry_at (table_of (core_of (a.node).site)) p))
                (sym (lent_at j a.node a.at p))
                (had_suffices (entry_at (table_of (core_of (a.node).site)) p)
                (lending_in (a.node).lent p) (kept.sound.had p));
            asked = λ call among p w is read.
                asked_quiet c (a.node).lent (core_of (a.node).site) kept.own
                (sound_quiet c (a.node).lent a.node kept.sound kept.config refl) call among p w is
                (mark_read (lending_in (a.node).lent p) (sym (lent_at j a.node a.at p) ∙ read));
          }));
      beyond = λ j past p.
          same j p
          ∙ ap (λ o. lent_by o p)
          (slice_get_past d.nodes j
          (let long = along_length ps d.nodes m.each in omega (arith, past, long)));
    }

    -- the nodes go on, and a world with them, by these moves
    pub record HasGone : Type 0 where
      pub next : IsMoment d'
      pub moves : List Move
      pub leads : LeadsLent c (lent_world c lent image (along ps d.nodes) m.sent) moves
          (lent_world c lent image (along ps d'.nodes) next.sent)

    -- what holds of the others holds on
    module _ (i : ℕ) (s t : Embedded) (there : slice_get d.nodes i ≡ Some s)
        (nodes : d'.nodes ≡ set d.nodes i t) (sound : LendsSoundly t) (sent : List (List ℕ))
        (taken : (bytes : List ℕ) → Contains d'.strings bytes → Contains sent bytes)
        (more : (bytes : List ℕ) → Contains m.sent bytes → Contains sent bytes)
        (node : IsNodeSite c i sent (with_strings [] t.site))
        (rest : (j : ℕ) (e : Embedded) → slice_get d.nodes j ≡ Some e
        → IsNodeSite c j sent (with_strings [] e.site))
        (waits : (bytes : List ℕ) → Contains (waiting_in t) bytes → Contains sent bytes)
        (are : AreSites c (along ps d'.nodes)) (moves : List Move)
        (leads : LeadsLent c (lent_world c lent image (along ps d.nodes) m.sent) moves
        (lent_world c lent image (along ps d'.nodes) sent)) where
      at_old : (j : ℕ) (e : Embedded) → slice_get d'.nodes j ≡ Some e
          → ((j ≡ i) × (e ≡ t)) ⊎ (slice_get d.nodes j ≡ Some e)
      at_old j e at = set-cases d.nodes i j t e (ap (λ ns. slice_get ns j) (sym nodes) ∙ at)

      gone : HasGone
      gone = record {
        next = record {
          sent = sent;
          are = are;
          each = m.each ∙ sym (ap length nodes ∙ length-set d.nodes i t);
          real = λ j e at. ⊎_elim
              (λ here. subst (λ k. IsNodeSite c k sent (with_strings [] e.site)) (sym here.0)
              (subst (λ (x : Embedded). IsNodeSite c i sent (with_strings [] x.site)) (sym here.1) node))
              (λ old. rest j e old) (at_old j e at);
          sound = λ j e at. ⊎_elim (λ here. subst LendsSoundly (sym here.1) sound)
              (λ old. m.sound j e old) (at_old j e at);
          taken = taken;
          waits = λ j e at bytes has. ⊎_elim
              (λ here. waits bytes (subst (λ (x : Embedded). Contains (waiting_in x) bytes) here.1 has))
              (λ old. more bytes (m.waits j e old bytes has)) (at_old j e at);
          before = m.before ++ moves;
          led = leads_on (host_rules managed_ops) c (opening (managed_start o) c ps)
              (world_of (along ps d.nodes) m.sent) (world_of (along ps d'.nodes) sent) m.before moves m.led
              (world_leads moves (lent_world c lent image (along ps d.nodes) m.sent)
              (lent_world c lent image (along ps d'.nodes) sent) leads);
        };
        moves = moves;
        leads = leads;
      }

    module _ (touch : IsTouched c d d') (all : AllExtend ps d') where
      abbrev i : ℕ
      i = touch.node

      abbrev s : Embedded
      s = touch.before

      abbrev t : Embedded
      t = touch.after

      has : (p : Program) × (slice_get ps i ≡ Some p)
      has = program_at d m i s touch.there

      abbrev p : Program
      p = has.0

      now_there : slice_get d'.nodes i ≡ Some t
      now_there =
          ap (λ ns. slice_get ns i) touch.nodes ∙ set-there d.nodes i t s touch.there

      site_there : slice_get (along ps d.nodes) i ≡ Some (as_run p [] s.site)
      site_there = along_there ps d.nodes i p s has.1 touch.there

      sites_now : along ps d'.nodes ≡ set (along ps d.nodes) i (as_run p [] t.site)
      sites_now = ap (along ps) touch.nodes ∙ along_set ps d.nodes i p t has.1

      acted : IsActed c d.strings s t → d'.strings ≡ d.strings → HasGone
      acted a strings =
          let r =
          ran c limits lent image i p s.lent (lent_at i s touch.there) d.strings a.chain.acts
          (along ps d.nodes) m.sent s.site t.site a.chain.all site_there m.are
          (along_length ps d.nodes m.each ∙ (sym m.each ∙ few)) (others i) m.taken
          (m.real i s touch.there) (all i t p now_there has.1) in
          let sites : r.after ≡ along ps d'.nodes = r.is ∙ sym sites_now in
          let own : (bytes : List ℕ) → Contains (waiting_in t) bytes
          → Contains (m.sent ++ r.more) bytes =
          λ bytes among. ⊎_elim
          (λ old. Contains-append_left m.sent r.more bytes (m.waits i s touch.there bytes old))
          (λ new. Contains-append_right m.sent r.more bytes new)
          (Contains-append_cases (waiting_in s) r.more bytes
          (subst (λ l. Contains l bytes) (waits_more s t r.more a.first r.waiting) among)) in
          gone i s t touch.there touch.nodes touch.sound (m.sent ++ r.more)
          (λ bytes among. Contains-append_left m.sent r.more bytes
          (m.taken bytes (subst (λ l. Contains l bytes) strings among)))
          (λ bytes among. Contains-append_left m.sent r.more bytes among) r.node
          (λ j e at. sent_more c j m.sent r.more (with_strings [] e.site) (m.real j e at)) own
          (subst (AreSites c) sites r.are) r.moves
          (subst (λ ss. LeadsLent c (lent_world c lent image (along ps d.nodes) m.sent) r.moves
          (lent_world c lent image ss (m.sent ++ r.more))) sites r.leads)

      emptied : IsEmptied s t d.strings d'.strings → HasGone
      emptied e =
          let same_site : with_strings [] t.site ≡ with_strings [] s.site =
          ap (with_strings []) (emptied_same c limits s t d.strings d'.strings e) in
          let sites : along ps d'.nodes ≡ along ps d.nodes =
          sites_now
          ∙ ap (set (along ps d.nodes) i)
          (ap (as_run p []) (emptied_same c limits s t d.strings d'.strings e))
          ∙ set_same (along ps d.nodes) i (as_run p [] s.site) site_there in
          gone i s t touch.there touch.nodes touch.sound m.sent
          (λ bytes among. ⊎_elim (m.taken bytes) (m.waits i s touch.there bytes)
          (out_from c limits s t d.strings d'.strings e bytes among))
          (λ bytes among. among)
          (subst (IsNodeSite c i m.sent) (sym same_site) (m.real i s touch.there)) m.real
          (λ bytes among. m.waits i s touch.there bytes (waits_fewer c limits s t d.strings d'.strings e bytes among))
          (subst (AreSites c) (sym sites) m.are) []
          (ap (λ ss. lent_world c lent image ss m.sent) sites)

      touched_on : HasGone
      touched_on = ⊎_elim (λ a. acted a.0 a.1) emptied touch.effect

    still : d' ≡ d → HasGone
    still is =
        let n = still_next d d' is m in record {
          next = n.0;
          moves = [];
          leads = λ k. lent_world c lent image (along ps (is k).nodes) (n.1 k);
        }

    pub gone_on : AllExtend ps d' → (d' ≡ d) ⊎ IsTouched c d d' → HasGone
    gone_on all (inl is) = still is
    gone_on all (inr touch) = touched_on touch all
