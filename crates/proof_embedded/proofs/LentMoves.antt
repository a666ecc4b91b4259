-- What a site does while its pages are lent are moves of a world that lends them.
use Rattle.std.proofs.Common.{◌≡◌, ◌≢◌, ◌⊎◌, inl, inr, ℕ, ◌+◌, ◌≤◌, true, false, List, [], ◌∷◌, ◌++◌, drop, length, map, set, slice_get, Option, Some, None, option_map, refl, sym, ap, subst, ◌∙◌, arith}
use Rattle.std.proofs.lemmas.Bool.{cases_eq}
use Rattle.std.proofs.lemmas.List.{length-set}
use Rattle.std.proofs.lemmas.Option.{none-some, same_Some, slice_get-map, slice_get_cases}
use Rattle.ivy_model.specs.declared.Call.{Call}
use Rattle.ivy_model.specs.declared.Config.{Config}
use Rattle.ivy_model.specs.declared.Record.{Record}
use Rattle.ivy_pagetable.specs.declared.Entry.{Entry}
use Rattle.ivy_pagetable.specs.declared.Entry.TheVariants as entry
use Rattle.ivy_pagetable.specs.declared.Word.{Word}
use Rattle.ivy_pagetable.specs.stated.Tables.{entry_at, page_at}
use Rattle.ivy_pagetable.specs.stated.Words.{needs_write}
use Rattle.ivy_coherence.specs.Leavings.{access_at}
use Rattle.ivy_memory.specs.declared.Asked.TheVariants as asked
use Rattle.ivy_memory.specs.stated.Asking.{asked_of}
use Rattle.ivy_moves.specs.declared.Move.{Move}
use Rattle.ivy_moves.specs.stated.Nodes.{Node}
use Rattle.ivy_moves.proofs.Places.{set-elsewhere, set-there}
use Rattle.ivy_host.specs.stated.Hosts.{Host, answered_by}
use Rattle.ivy_host.specs.stated.Managers.{Managed}
use Rattle.ivy_site.specs.SiteView.{SiteView}
use Rattle.ivy_world.specs.WorldSites.{AfterMove, world_of}
use Rattle.proof_worlds.specs.consistency.Alone.{bytes_in, entries_in}
use Rattle.proof_worlds.specs.stated.Nets.{entry_of, page_of}
use Rattle.ivy_embedded.specs.declared.lending.Lending.{Lending as Mark}
use Rattle.ivy_embedded.specs.declared.lending.Lending.TheVariants as mark
use Rattle.ivy_embedded.specs.Lending.{is_had}
use Rattle.ivy_embedded.proofs.Delivered.{table_of}
use Rattle.ivy_embedded.proofs.Going.{core_of}
use Rattle.proof_lent.specs.Lent.{Lending, Unlent, ToRead}
use Rattle.proof_lent.specs.LentWorlds.{Goes, IsMadeSince, LendsSoundly, LentWorld, SufficesFor, WritesNoneRead}
use Rattle.proof_lent.proofs.Members.{In}
use Rattle.proof_embedded.specs.Mapped.{lending_of}
use Rattle.proof_embedded.proofs.Quiet.{contains_in, drop_all}

-- what is had of a page suffices for what it is lent for
pub had_suffices : (e : Entry) (l : Mark) → is_had (access_at e) l ≡ true
    → SufficesFor e (lending_of l)
had_suffices e mark.Unlent h = tt
had_suffices (entry.Idle s) mark.ToRead h = h
had_suffices (entry.AwaitRead s) mark.ToRead h = absurd cc
had_suffices (entry.AwaitWrite s) mark.ToRead h = absurd cc
had_suffices (entry.AwaitAcks s) mark.ToRead h = absurd cc
had_suffices (entry.Idle s) mark.ToWrite h = h
had_suffices (entry.AwaitRead s) mark.ToWrite h = absurd cc
had_suffices (entry.AwaitWrite s) mark.ToWrite h = absurd cc
had_suffices (entry.AwaitAcks s) mark.ToWrite h = absurd cc

pub mark_read : (l : Mark) → lending_of l ≡ ToRead → l ≡ mark.ToRead
mark_read mark.Unlent is = absurd cc
mark_read mark.ToRead is = refl
mark_read mark.ToWrite is = absurd cc

-- the nodes of a world that sites are

core_there : (sites : List SiteView) (sent : List (List ℕ)) (j : ℕ)
    → slice_get (map (λ (n : Node (Host Managed)). n.core) (world_of sites sent).nodes) j
    ≡ option_map core_of (slice_get sites j)
core_there sites sent j =
    slice_get-map (λ (n : Node (Host Managed)). n.core) (world_of sites sent).nodes j
    ∙ ap (option_map (λ (n : Node (Host Managed)). n.core))
    (slice_get-map (λ (s : SiteView). s.node) sites j)
    ∙ twice (slice_get sites j)
  where
    twice : (o : Option SiteView)
        → option_map (λ (n : Node (Host Managed)). n.core) (option_map (λ (s : SiteView). s.node) o)
        ≡ option_map core_of o
    twice None = refl
    twice (Some s) = refl

pub entry_is : (sites : List SiteView) (sent : List (List ℕ)) (j p : ℕ) (x : SiteView)
    → slice_get sites j ≡ Some x
    → entries_in (world_of sites sent) j p ≡ entry_at (table_of (core_of x)) p
entry_is sites sent j p x at =
    ap (λ o. entry_of o p) (core_there sites sent j ∙ ap (option_map core_of) at)

pub bytes_are : (sites : List SiteView) (sent : List (List ℕ)) (j p : ℕ) (x : SiteView)
    → slice_get sites j ≡ Some x
    → bytes_in (world_of sites sent) j p ≡ page_at (table_of (core_of x)) p
bytes_are sites sent j p x at =
    ap (λ o. page_of o p) (core_there sites sent j ∙ ap (option_map core_of) at)

site_of : (sites : List SiteView) (j : ℕ) (n : Node (Host Managed))
    → slice_get (map (λ (s : SiteView). s.node) sites) j ≡ Some n
    → (x : SiteView) × (slice_get sites j ≡ Some x) × (x.node ≡ n)
site_of sites j n at = by (slice_get sites j) refl
  where
    by : (o : Option SiteView) → slice_get sites j ≡ o
        → (x : SiteView) × (slice_get sites j ≡ Some x) × (x.node ≡ n)
    by None is =
        absurd (none-some n
        (sym (slice_get-map (λ (s : SiteView). s.node) sites j ∙ ap (option_map (λ (s : SiteView). s.node)) is)
        ∙ at))
    by (Some x) is = (
      x,
      is,
      same_Some x.node n
          (sym (slice_get-map (λ (s : SiteView). s.node) sites j
          ∙ ap (option_map (λ (s : SiteView). s.node)) is) ∙ at),
    )

in_either : {X : Type 0} (xs ys : List X) (x : X) → In (xs ++ ys) x → In xs x ⊎ In ys x
in_either [] ys x h = inr h
in_either (z ∷ zs) ys x (inl e) = inl (inl e)
in_either (z ∷ zs) ys x (inr h) = elim (in_either zs ys x h) [ inl a ↦ inl (inr a) | inr b ↦ inr b ]

-- moves lead from the one world to the other, while nothing is lent or given back
abbrev pub LeadsLent : Config → LentWorld → List Move → LentWorld → Type 0
LeadsLent c l [] end = end ≡ l
LeadsLent c l (step ∷ steps) end =
    (mid : LentWorld) × Goes c step l mid × LeadsLent c mid steps end

pub leads_both : (c : Config) (first second : List Move) (l mid end : LentWorld)
    → LeadsLent c l first mid → LeadsLent c mid second end → LeadsLent c l (first ++ second) end
leads_both c [] second l mid end one two = subst (λ x. LeadsLent c x second end) one two
leads_both c (step ∷ first) second l mid end one two =
    (one.0, one.1, leads_both c first second one.0 mid end one.2 two)

module _ (c : Config) (lent : ℕ → ℕ → Lending) (image : ℕ → ℕ → List ℕ) where
  abbrev pub lent_world : List SiteView → List (List ℕ) → LentWorld
  lent_world sites sent = record { world = world_of sites sent; lent = lent; image = image }

  -- a call writes no page that is lent to be read at node j
  abbrev pub QuietAt : ℕ → Call → Type 0
  QuietAt j call = (p : ℕ) (w : Word) → asked_of c call ≡ asked.Word p w → lent j p ≡ ToRead
      → needs_write w ≡ false

  -- the site of node j has what is lent, and its calls in progress are quiet
  pub record IsQuietSite (j : ℕ) (x : SiteView) : Type 0 where
    pub held : (p : ℕ) → SufficesFor (entry_at (table_of (core_of x)) p) (lent j p)
    pub asked : (call : Call) → In (answered_by (core_of x)).asked call → QuietAt j call

  -- so it is of the sites of other nodes, and nothing is lent beyond the nodes
  pub record AreOthersQuiet (i : ℕ) (sites : List SiteView) : Type 0 where
    pub each : (j : ℕ) (x : SiteView) → j ≢ i → slice_get sites j ≡ Some x → IsQuietSite j x
    pub beyond : (j : ℕ) → length sites ≤ j → (p : ℕ) → lent j p ≡ Unlent

  pub others_set : (i : ℕ) (sites : List SiteView) (new : SiteView) → AreOthersQuiet i sites
      → AreOthersQuiet i (set sites i new)
  others_set i sites new q = record {
    each = λ j x ne at. q.each j x ne (sym (set-elsewhere sites i j new (λ e. ne (sym e))) ∙ at);
    beyond = λ j past. q.beyond j (let long = length-set sites i new in omega (arith, past, long));
  }

  -- one move of node i
  module _ (sites : List SiteView) (sent sent' : List (List ℕ)) (i : ℕ) (old new : SiteView) (step : Move)
      (there : slice_get sites i ≡ Some old) (q : AreOthersQuiet i sites)
      (after : AfterMove c sites (set sites i new) sent sent' step)
      (held : (p : ℕ) → SufficesFor (entry_at (table_of (core_of old)) p) (lent i p))
      (grown : (call : Call)
      → In (map (λ (r : Record). r.call) (drop (length (core_of old).history) (core_of new).history)) call
      → QuietAt i call)
      (asked : (call : Call) → In (answered_by (core_of new)).asked call → QuietAt i call) where
    sound_at : (j p : ℕ) (x : SiteView) → slice_get sites j ≡ Some x
        → SufficesFor (entries_in (world_of sites sent) j p) (lent j p)
    sound_at j p x at = elim (cases_eq j i) [
      | inl same ↦
          subst (λ k. SufficesFor (entries_in (world_of sites sent) k p) (lent k p)) (sym same)
          (subst (λ e. SufficesFor e (lent i p)) (sym (entry_is sites sent i p old there)) (held p))
      | inr ne ↦
          subst (λ e. SufficesFor e (lent j p)) (sym (entry_is sites sent j p x at))
          ((q.each j x ne at).held p)
    ]

    sound : LendsSoundly (lent_world sites sent)
    sound j p = elim (slice_get_cases sites j).1 [
      | inl found ↦ sound_at j p found.0 found.2
      | inr none ↦
          subst (SufficesFor (entries_in (world_of sites sent) j p)) (sym (q.beyond j none.0 p)) tt
    ]

    -- what a node's calls since are
    abbrev AreSinceQuiet : ℕ → Node (Host Managed) → Node (Host Managed) → Type 0
    AreSinceQuiet j n m = (call : Call) → IsMadeSince n.core.history (answered_by m.core) call
        → QuietAt j call

    own_since : AreSinceQuiet i old.node new.node
    own_since call since =
        elim (in_either (map (λ (r : Record). r.call)
        (drop (length (core_of old).history) (core_of new).history)) (answered_by (core_of new)).asked call
        (contains_in (map (λ (r : Record). r.call)
        (drop (length (core_of old).history) (core_of new).history) ++ (answered_by (core_of new)).asked)
        call since)) [
          | inl among ↦ grown call among
          | inr waits ↦ asked call waits
        ]

    same_since : (j : ℕ) (x : SiteView) → IsQuietSite j x → AreSinceQuiet j x.node x.node
    same_since j x quiet call since =
        elim (in_either (map (λ (r : Record). r.call)
        (drop (length (core_of x).history) (core_of x).history)) (answered_by (core_of x)).asked call
        (contains_in (map (λ (r : Record). r.call)
        (drop (length (core_of x).history) (core_of x).history) ++ (answered_by (core_of x)).asked)
        call since)) [
          | inl among ↦
              absurd (subst (λ rs. In (map (λ (r : Record). r.call) rs) call)
              (drop_all (core_of x).history) among)
          | inr waits ↦ quiet.asked call waits
        ]

    none : WritesNoneRead c (lent_world sites sent) (world_of (set sites i new) sent')
    none j n m at_n at_m call since =
        let x = site_of sites j n at_n in
        let y = site_of (set sites i new) j m at_m in
        elim (cases_eq j i) [
          | inl same ↦
              let was : old.node ≡ n =
              ap (λ (s : SiteView). s.node)
              (same_Some old x.0 (sym there ∙ ap (slice_get sites) (sym same) ∙ x.1)) ∙ x.2 in
              let is : new.node ≡ m =
              ap (λ (s : SiteView). s.node)
              (same_Some new y.0
              (sym (set-there sites i new old there) ∙ ap (slice_get (set sites i new)) (sym same) ∙ y.1))
              ∙ y.2 in
              subst (λ k. AreSinceQuiet k n m) (sym same)
              (subst (λ a. AreSinceQuiet i a m) was (subst (λ b. AreSinceQuiet i old.node b) is own_since))
              call since
          | inr ne ↦
              let same : x.0.node ≡ m =
              ap (λ (s : SiteView). s.node)
              (same_Some x.0 y.0
              (sym x.1 ∙ sym (set-elsewhere sites i j new (λ e. ne (sym e))) ∙ y.1)) ∙ y.2 in
              subst (λ a. AreSinceQuiet j a m) x.2
              (subst (λ b. AreSinceQuiet j x.0.node b) same (same_since j x.0 (q.each j x.0 ne x.1)))
              call since
        ]

    pub goes_lent : Goes c step (lent_world sites sent) (lent_world (set sites i new) sent')
    goes_lent = record {
      moves = after.made;
      sound = sound;
      none = none;
      lent = λ j p. refl;
      image = λ j p. refl;
    }
