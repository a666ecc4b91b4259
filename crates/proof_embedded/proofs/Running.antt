-- What the site of a node does, one act after another, while its pages are lent, leads a world that
-- lends them on.
use Rattle.std.proofs.Common.{◌≡◌, ℕ, Bool, List, [], ◌∷◌, ◌++◌, length, set, slice_get, Contains, Some, inl, inr, refl, sym, ap, subst, ◌∙◌, append-nil, append_assoc}
use Rattle.std.proofs.lemmas.List.{length-set, set-set}
use Rattle.std.proofs.lemmas.List.Elements.{Contains-append_left}
use Rattle.ivy_model.specs.declared.Call.{Call}
use Rattle.ivy_model.specs.declared.Config.{Config}
use Rattle.ivy_model.specs.stated.Config.{IsConfig}
use Rattle.ivy_pagetable.specs.stated.Tables.{entry_at}
use Rattle.ivy_program.specs.stated.Programs.{Program}
use Rattle.ivy_moves.specs.declared.Move.{Move}
use Rattle.ivy_moves.proofs.Places.{set-there, set_same}
use Rattle.ivy_site.specs.Handed.{site_fetching}
use Rattle.ivy_site.specs.SiteView.{SiteView}
use Rattle.ivy_site.specs.Sites.{early_at}
use Rattle.ivy_site.proofs.Made.{all_taken}
use Rattle.ivy_world.specs.WorldSites.{AreSites, programs_of}
use Rattle.ivy_embedded.specs.declared.lending.Lending.{Lending as Mark}
use Rattle.ivy_embedded.specs.Lending.{lending_in}
use Rattle.ivy_embedded.proofs.Delivered.{table_of}
use Rattle.ivy_embedded.proofs.Going.{core_of}
use Rattle.proof_lent.specs.Lent.{Lending}
use Rattle.proof_lent.specs.LentWorlds.{SufficesFor}
use Rattle.proof_embedded.specs.Mapped.{lending_of}
use Rattle.proof_embedded.proofs.Acting.{Act, Acts, Hands, Fetches, Turns, Delivers, Goes, Pulses, EarlySent, IsFetched, IsNodeSite, WasSent, acts_carry, node_on}
use Rattle.proof_embedded.proofs.Additions.{Page, grown_early, grown_made}
use Rattle.proof_embedded.proofs.Effects.{chain_extends}
use Rattle.proof_embedded.proofs.Emptied.{with_strings}
use Rattle.proof_embedded.proofs.LentMoves.{AreOthersQuiet, LeadsLent, QuietAt, goes_lent, had_suffices, leads_both, lent_world, mark_read, others_set}
use Rattle.proof_embedded.proofs.Lifted.{Extends, HandsNone, acts_config, as_run, extends_back, handed_same, lifted}
use Rattle.proof_embedded.proofs.Quiet.{AllAct, IsFine, IsQuiet, IsQuietAct}
use Rattle.proof_embedded.proofs.Stepping.{IsStep, stepped}

-- more was sent since
pub sent_more : (c : Config) (i : ℕ) (sent more : List (List ℕ)) (a : SiteView) → IsNodeSite c i sent a
    → IsNodeSite c i (sent ++ more) a
sent_more c i sent more a n = record {
  config = n.config;
  me = n.me;
  made = n.made;
  early = λ bytes has. Contains-append_left sent more bytes (n.early bytes has);
  own = n.own;
}

-- its strings were put on the wire
no_strings : (c : Config) (i : ℕ) (sent ws : List (List ℕ)) (a : SiteView)
    → IsNodeSite c i sent (with_strings ws a) → IsNodeSite c i sent (with_strings [] a)
no_strings c i sent ws a n = record {
  config = n.config;
  me = n.me;
  made = all_taken (with_strings ws a) n.made;
  early = n.early;
  own = n.own;
}

was_sent : (strings sent : List (List ℕ)) (x : Act)
    → ((bytes : List ℕ) → Contains strings bytes → Contains sent bytes) → WasSent strings x
    → WasSent sent x
was_sent strings sent (Hands rows) taken was = tt
was_sent strings sent (Fetches page write) taken was = tt
was_sent strings sent Turns taken was = tt
was_sent strings sent (Delivers bytes v) taken was = taken bytes was
was_sent strings sent (Goes source more) taken was = tt
was_sent strings sent (Pulses to) taken was = tt

module _ (c : Config) (limits : IsConfig c) (lent : ℕ → ℕ → Lending) (image : ℕ → ℕ → List ℕ) (i : ℕ)
    (p : Program) (marks : List Mark) (own : (q : ℕ) → lent i q ≡ lending_of (lending_in marks q))
    (strings : List (List ℕ)) where
  -- the site has come from the one to the other, and the world that it is a node's of with it
  pub record Ran (sites : List SiteView) (sent : List (List ℕ)) (a b : SiteView) : Type 0 where
    pub more : List (List ℕ)
    pub waiting : b.waiting ≡ a.waiting ++ more
    pub after : List SiteView
    pub is : after ≡ set sites i (as_run p [] b)
    pub node : IsNodeSite c i (sent ++ more) (with_strings [] b)
    pub are : AreSites c after
    pub programs : programs_of after ≡ programs_of sites
    pub moves : List Move
    pub leads : LeadsLent c (lent_world c lent image sites sent) moves
        (lent_world c lent image after (sent ++ more))

  quiet_at : (call : Call) → IsQuiet c marks call → QuietAt c lent image i call
  quiet_at call quiet q w is read =
      quiet q w is (mark_read (lending_in marks q) (sym (own q) ∙ read))

  -- nothing is done
  module _ (sites : List SiteView) (sent : List (List ℕ)) (a b : SiteView)
      (there : slice_get sites i ≡ Some (as_run p [] a)) (are : AreSites c sites) where
    rests : b.waiting ≡ a.waiting ++ [] → as_run p [] b ≡ as_run p [] a
        → IsNodeSite c i sent (with_strings [] b) → Ran sites sent a b
    rests waiting same node = record {
      more = [];
      waiting = waiting;
      after = sites;
      is = sym (set_same sites i (as_run p [] a) there) ∙ ap (set sites i) (sym same);
      node = sent_more c i sent [] (with_strings [] b) node;
      are = are;
      programs = refl;
      moves = [];
      leads = ap (lent_world c lent image sites) (append-nil sent);
    }

  -- one act
  module _ (sites : List SiteView) (sent : List (List ℕ)) (a b : SiteView)
      (there : slice_get sites i ≡ Some (as_run p [] a)) (are : AreSites c sites)
      (count : length sites ≡ c.nodes) (others : AreOthersQuiet c lent image i sites)
      (taken : (bytes : List ℕ) → Contains strings bytes → Contains sent bytes)
      (node : IsNodeSite c i sent (with_strings [] a)) where
    limits_here : IsConfig a.config
    limits_here = subst IsConfig (sym node.config) limits

    node_after : (x : Act) → Acts x a b → WasSent strings x → IsNodeSite c i sent (with_strings [] b)
    node_after x acts was =
        let k = acts_carry x a b acts in
        no_strings c i sent k.more b
        (node_on c limits i sent x (with_strings [] a) (with_strings k.more b)
        (was_sent strings sent x taken was) (k.goes []) node)

    hands : (rows : List (List Call)) → Acts (Hands rows) a b → Ran sites sent a b
    hands rows same =
        let k = acts_carry (Hands rows) a b same in
        rests sites sent a b there are (ap (λ (s : SiteView). s.waiting) same ∙ sym (append-nil a.waiting))
        (handed_same p rows a b same [])
        (node_after (Hands rows) same tt)

    early_run : Extends p a → EarlySent sent (as_run p [] a)
    early_run e bytes has =
        node.early bytes
        (subst (λ l. Contains l bytes)
        (ap (λ q. early_at (as_run q [] a)) e.1 ∙ grown_early e.0 (with_strings [] a) node.made) has)

    -- by a move of the world, or none
    by_step : (more : List (List ℕ)) → b.waiting ≡ a.waiting ++ more
        → IsNodeSite c i sent (with_strings [] b) → IsQuietAct c marks a b
        → IsStep c limits sites sent i (as_run p [] a) there are count (as_run p more b)
        → Ran sites sent a b
    by_step more waiting after quiet (inl still) =
        rests sites sent a b there are (waiting ∙ ap (λ ws. a.waiting ++ ws) still.0) still.1 after
    by_step more waiting after quiet (inr step) = record {
      more = more;
      waiting = waiting;
      after = set sites i (as_run p [] b);
      is = refl;
      node = sent_more c i sent more (with_strings [] b) after;
      are = step.1.are;
      programs = step.1.programs;
      moves = step.0 ∷ [];
      leads = (
        lent_world c lent image (set sites i (as_run p [] b)) (sent ++ more),
        goes_lent c lent image sites sent (sent ++ more) i (as_run p [] a) (as_run p [] b) step.0
            there others step.1
            (λ q. subst (SufficesFor (entry_at (table_of (core_of a)) q)) (sym (own q))
            (had_suffices (entry_at (table_of (core_of a)) q) (lending_in marks q) (quiet.held q)))
            (λ call among. quiet_at call (quiet.grown call among))
            (λ call among. quiet_at call (quiet.asked call among)),
        refl,
      );
    }

    act_so : (x : Act) → HandsNone x → Acts x a b → WasSent strings x → IsQuietAct c marks a b
        → Extends p b → Ran sites sent a b
    act_so x none acts was quiet e =
        let before = extends_back p x a b limits_here acts e in
        let l = lifted p x a b none limits_here node.made acts before in
        by_step l.more l.waiting (node_after x acts was) quiet
        (stepped c limits sites sent i (as_run p [] a) there are count x (as_run p l.more b) none
        l.acts (was_sent strings sent x taken was) (early_run before))

    -- a page that is fetched is among those of the program already: the site has a turn
    fetched_so : (page : ℕ) (write : Bool) → (f : IsFetched page write a b) → IsQuietAct c marks a b
        → Extends p b → Ran sites sent a b
    fetched_so page write f quiet e =
        let fetching : SiteView = site_fetching page write a in
        let l = lifted p Turns fetching b tt limits_here
        (grown_made (Page page write ∷ []) (with_strings [] a) node.made) f.turns
        (extends_back p Turns fetching b limits_here f.turns e) in
        by_step l.more l.waiting (node_after (Fetches page write) f tt) quiet
        (stepped c limits sites sent i (as_run p [] a) there are count Turns (as_run p l.more b) tt
        l.acts tt (early_run (extends_back p (Fetches page write) a b limits_here f e)))

    one : (x : Act) → Acts x a b → WasSent strings x → IsFine c marks x a b → Extends p b
        → Ran sites sent a b
    one (Hands rows) acts was fine e = hands rows acts
    one (Fetches page write) acts was fine e = fetched_so page write acts fine e
    one Turns acts was fine e = act_so Turns tt acts was fine e
    one (Delivers bytes v) acts was fine e = act_so (Delivers bytes v) tt acts was fine e
    one (Goes source more) acts was fine e = act_so (Goes source more) tt acts was fine e
    one (Pulses to) acts was fine e = act_so (Pulses to) tt acts was fine e

  -- one after another
  joined : (sites : List SiteView) (sent : List (List ℕ)) (a mid b : SiteView)
      (first : Ran sites sent a mid) → Ran first.after (sent ++ first.more) mid b → Ran sites sent a b
  joined sites sent a mid b first rest =
      let strings_more : (sent ++ first.more) ++ rest.more ≡ sent ++ (first.more ++ rest.more) =
      append_assoc sent first.more rest.more in
      record {
        more = first.more ++ rest.more;
        waiting = rest.waiting ∙ (ap (λ l. l ++ rest.more) first.waiting
            ∙ append_assoc a.waiting first.more rest.more);
        after = rest.after;
        is = rest.is ∙ (ap (λ ss. set ss i (as_run p [] b)) first.is
            ∙ set-set sites i (as_run p [] mid) (as_run p [] b));
        node = subst (λ s. IsNodeSite c i s (with_strings [] b)) strings_more rest.node;
        are = rest.are;
        programs = rest.programs ∙ first.programs;
        moves = first.moves ++ rest.moves;
        leads = leads_both c first.moves rest.moves (lent_world c lent image sites sent)
            (lent_world c lent image first.after (sent ++ first.more))
            (lent_world c lent image rest.after (sent ++ (first.more ++ rest.more))) first.leads
            (subst (λ s. LeadsLent c (lent_world c lent image first.after (sent ++ first.more)) rest.moves
            (lent_world c lent image rest.after s)) strings_more rest.leads);
      }

  pub ran : (acts : List Act) (sites : List SiteView) (sent : List (List ℕ)) (a b : SiteView)
      → AllAct c marks strings acts a b → slice_get sites i ≡ Some (as_run p [] a) → AreSites c sites
      → length sites ≡ c.nodes → AreOthersQuiet c lent image i sites
      → ((bytes : List ℕ) → Contains strings bytes → Contains sent bytes)
      → IsNodeSite c i sent (with_strings [] a) → Extends p b → Ran sites sent a b
  ran [] sites sent a b same there are count others taken node e =
      rests sites sent a b there are
      (ap (λ (s : SiteView). s.waiting) same ∙ sym (append-nil a.waiting)) (ap (as_run p []) same)
      (subst (λ (s : SiteView). IsNodeSite c i sent (with_strings [] s)) (sym same) node)
  ran (x ∷ xs) sites sent a b h there are count others taken node e =
      let limits_a : IsConfig a.config = subst IsConfig (sym node.config) limits in
      let limits_mid : IsConfig (h.0).config =
      subst IsConfig (sym (acts_config x a h.0 limits_a h.1)) limits_a in
      let e_mid = chain_extends c marks strings p xs h.0 b limits_mid h.4 e in
      let first =
      one sites sent a h.0 there are count others taken node x h.1 h.2 h.3 e_mid in
      joined sites sent a h.0 b first
      (ran xs first.after (sent ++ first.more) h.0 b h.4
      (ap (λ ss. slice_get ss i) first.is
      ∙ set-there sites i (as_run p [] h.0) (as_run p [] a) there)
      first.are (ap length first.is ∙ length-set sites i (as_run p [] h.0) ∙ count)
      (subst (AreOthersQuiet c lent image i) (sym first.is)
      (others_set c lent image i sites (as_run p [] h.0) others))
      (λ bytes has. Contains-append_left sent first.more bytes (taken bytes has)) first.node e)
