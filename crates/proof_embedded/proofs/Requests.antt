-- What the functions of a node do to its site, by acts of its kind, while its pages are lent.
use Rattle.std.proofs.Common.{◌≡◌, ◌⊎◌, inl, inr, ℕ, ◌<◌, Bool, List, [], ◌∷◌, ◌++◌, length, map, drop, Contains, Option, Some, None, refl, ap, subst, ⊎_elim}
use Rattle.std.specs.Prelude.{MatchOption}
use Rattle.ivy_model.specs.declared.Call.{Call}
use Rattle.ivy_model.specs.declared.Config.{Config}
use Rattle.ivy_model.specs.declared.Record.{Record}
use Rattle.ivy_model.specs.declared.Reply.{Reply}
use Rattle.ivy_model.specs.stated.Config.{IsConfig}
use Rattle.ivy_wire.specs.stated.Data.{Message}
use Rattle.ivy_link.specs.declared.Verdict.{Verdict}
use Rattle.ivy_program.specs.stated.InstructionSteps.{Asks, step_of}
use Rattle.ivy_moves.specs.stated.Nodes.{pulsing}
use Rattle.ivy_host.specs.stated.Hosts.{Host, number_of, serving}
use Rattle.ivy_host.specs.stated.Managers.{Managed, managed_ops}
use Rattle.ivy_site.specs.Calls.{AreAnswered, AreTaken, BeginsRow, IsCallOf}
use Rattle.ivy_site.specs.Handed.{site_handed}
use Rattle.ivy_site.specs.SiteView.{SiteView, after_pulse_to}
use Rattle.ivy_site.specs.Sites.{AfterDelivery, SiteGoesOn, SiteTurns}
use Rattle.ivy_embedded.specs.declared.lending.Lending.{Lending}
use Rattle.ivy_embedded.specs.Exports.{AfterBegin, AfterCall}
use Rattle.ivy_embedded.specs.Lending.{HasUnanswered}
use Rattle.ivy_embedded.proofs.Going.{IsOwn, core_of, recorded_waits, turned_less, turned_own, turned_so}
use Rattle.ivy_embedded.proofs.Holding.{IsHeld, turned_held}
use Rattle.ivy_embedded.proofs.Unanswered.{asks_unanswered}
use Rattle.proof_lent.proofs.Members.{In}
use Rattle.proof_embedded.proofs.Acting.{Hands, Fetches, Turns, Delivers, Goes, Pulses, IsFetched, own_fetched, own_handed, own_on}
use Rattle.proof_embedded.proofs.Quiet.{AreQuiet, Chain, IsQuiet, IsQuietAct, asked_quiet, handed_quiet, none_grown, one_grown}
use Rattle.proof_embedded.proofs.Served.{delivery_keeps, goes_keeps}

history_served : (h : List Record) (n : Host Managed) (from : ℕ) (m : Message) → n.history ≡ h
    → (serving managed_ops n from m).after.history ≡ h
unfolding serving
history_served h n from m same = same

-- the call that a turn is about has no reply yet
about_unanswered : (a : SiteView) (call : Call) → IsOwn (core_of a) → IsCallOf a call
    → HasUnanswered (core_of a).process call
about_unanswered a call own of = at (core_of a).memory.asked refl of
  where
    at : (o : Option Call) → (core_of a).memory.asked ≡ o
        → MatchOption o (step_of (core_of a).process ≡ Asks call) (λ asked. asked ≡ call)
        → HasUnanswered (core_of a).process call
    at None is asks = asks_unanswered (core_of a).process call own.called asks
    at (Some k) is same =
        subst (HasUnanswered (core_of a).process) same
        (asks_unanswered (core_of a).process k own.called (own.asking k is).0)

module _ (c : Config) (lent : List Lending) (strings : List (List ℕ)) where
  -- nothing is done
  pub nothing_done : (a b : SiteView) → b ≡ a → Chain c lent strings a b
  nothing_done a b same = record { acts = []; all = same }

  abbrev handed_in : List Call → SiteView → SiteView
  handed_in calls a = site_handed (calls ∷ []) a

  -- calls are handed in, with a turn
  begun_so : (calls : List Call) (a b : SiteView) → SiteTurns (handed_in calls a) b
      → IsQuietAct c lent (handed_in calls a) b → Chain c lent strings a b
  begun_so calls a b turns quiet = record {
    acts = Hands (calls ∷ []) ∷ Turns ∷ [];
    all = (handed_in calls a, refl, tt, tt, (b, turns, tt, quiet, refl));
  }

  -- of a site whose calls without a reply are quiet after it, and whose pages that are lent were had
  module _ (a b : SiteView) (own : IsOwn (core_of a)) (held : IsHeld lent (core_of a))
      (after : AreQuiet c lent (core_of b)) where
    quiet_by : (x : SiteView) → (core_of x).memory ≡ (core_of a).memory → IsOwn (core_of b)
        → ((call : Call)
        → In (map (λ (r : Record). r.call) (drop (length (core_of x).history) (core_of b).history)) call
        → IsQuiet c lent call) → IsQuietAct c lent x b
    quiet_by x same own_after grown = record {
      held = rw same held;
      grown = grown;
      asked = asked_quiet c lent (core_of b) own_after after;
    }

    -- a turn with calls handed in
    turned_from : (calls : List Call) → SiteTurns (handed_in calls a) b
        → ((core_of b).history ≡ (core_of a).history)
        ⊎ ((r : Record) × ((core_of b).history ≡ (core_of a).history ++ r ∷ [])
        × IsQuiet c lent r.call) → IsQuietAct c lent (handed_in calls a) b
    turned_from calls turns grown =
        quiet_by (handed_in calls a) refl
        (turned_own (handed_in calls a) b (own_handed (calls ∷ []) a own) turns)
        (⊎_elim (none_grown c lent (handed_in calls a) b)
        (λ more. one_grown c lent (handed_in calls a) b more.0 more.1 more.2) grown)

    turned_alone : SiteTurns a b → ((core_of b).history ≡ (core_of a).history)
        ⊎ ((r : Record) × ((core_of b).history ≡ (core_of a).history ++ r ∷ [])
        × IsQuiet c lent r.call) → Chain c lent strings a b
    turned_alone turns grown = record {
      acts = Turns ∷ [];
      all = (
        b,
        turns,
        tt,
        quiet_by a refl (turned_own a b own turns)
            (⊎_elim (none_grown c lent a b) (λ more. one_grown c lent a b more.0 more.1 more.2) grown),
        refl,
      );
    }

    pub begun : (call : Call) (progress : Option Reply) → AfterBegin call progress a b
        → IsQuiet c lent call → Chain c lent strings a b
    begun call None (inl same) quiet = record {
      acts = Hands ((call ∷ []) ∷ []) ∷ [];
      all = (handed_in (call ∷ []) a, refl, tt, tt, same);
    }
    begun call None (inr waits) quiet =
        begun_so (call ∷ []) a b waits.0 (turned_from (call ∷ []) waits.0 (inl waits.1))
    begun call (Some reply) replies quiet =
        begun_so (call ∷ []) a b replies.turns
        (turned_from (call ∷ []) replies.turns (inr (
          record { node = number_of (core_of a); call = call; reply = reply },
          replies.recorded,
          quiet,
        )))

    pub polled : AreQuiet c lent (core_of a) → (progress : Option Reply) → AfterCall progress a b
        → Chain c lent strings a b
    polled before None (inl idle) = nothing_done a b idle.1
    polled before None (inr waits) = turned_alone waits.0 (inl waits.1)
    polled before (Some reply) replies =
        turned_alone replies.2.turns (inr (
          record { node = number_of (core_of a); call = replies.0; reply = reply },
          replies.2.recorded,
          before replies.0 (about_unanswered a replies.0 own replies.1),
        ))

    pub together : (calls : List Call) → BeginsRow calls a b → Chain c lent strings a b
    together [] same = nothing_done a b same
    together (call ∷ calls) begins =
        begun_so (call ∷ calls) a b begins.turns
        (turned_from (call ∷ calls) begins.turns (inl begins.recorded))

    -- a page that is fetched ahead
    pub fetched : (page : ℕ) (write : Bool) → IsFetched page write a b
        → (core_of b).history ≡ (core_of a).history → Chain c lent strings a b
    fetched page write f recorded = record {
      acts = Fetches page write ∷ [];
      all = (
        b,
        f,
        tt,
        quiet_by a refl (own_fetched page write a b f own) (none_grown c lent a b recorded),
        refl,
      );
    }

    module _ (limits : IsConfig a.config) where
      pub delivered : (bytes : List ℕ) (v : Verdict) → Contains strings bytes
          → AfterDelivery bytes v a b → Chain c lent strings a b
      delivered bytes v was d = record {
        acts = Delivers bytes v ∷ [];
        all = (
          b,
          d,
          was,
          quiet_by a refl (own_on (Delivers bytes v) a b limits d own)
              (none_grown c lent a b
              (delivery_keeps (λ n. n.history ≡ (core_of a).history)
              (history_served (core_of a).history) bytes v a b limits d refl)),
          refl,
        );
      }

      pub gone_on : (from : ℕ) (more : List (List ℕ)) → SiteGoesOn from more a b
          → Chain c lent strings a b
      gone_on from more g = record {
        acts = Goes from more ∷ [];
        all = (
          b,
          g,
          tt,
          quiet_by a refl (own_on (Goes from more) a b limits g own)
              (none_grown c lent a b
              (goes_keeps (λ n. n.history ≡ (core_of a).history)
              (history_served (core_of a).history) from more a b limits g refl)),
          refl,
        );
      }

      pub pulsed : (to : ℕ) → to < a.config.nodes → (to ≡ a.me → ⊥)
          → b ≡ after_pulse_to a to (pulsing a.node to) → Chain c lent strings a b
      unfolding pulsing
      pulsed to low other p = record {
        acts = Pulses to ∷ [];
        all = (
          b,
          (low, other, p),
          tt,
          quiet_by a refl (own_on (Pulses to) a b limits (low, other, p) own)
              (none_grown c lent a b (ap (λ (s : SiteView). (core_of s).history) p)),
          refl,
        );
      }

  -- calls in a row that are answered at once
  pub answered : (rs : List Record) (a b : SiteView) → AreAnswered rs a b → IsOwn (core_of a)
      → IsHeld lent (core_of a) → AreQuiet c lent (core_of a)
      → ((r : Record) → In rs r → IsQuiet c lent r.call) → Chain c lent strings a b
  answered [] a b same own held quiet each = nothing_done a b same
  answered (r ∷ rs) a b h own held quiet each =
      let one = handed_in (r.call ∷ []) a in
      let own_one = own_handed ((r.call ∷ []) ∷ []) a own in
      let t = turned_so one h.0 own_one h.1.turns in
      let own_mid = turned_own one h.0 own_one h.1.turns in
      let quiet_one = handed_quiet c lent a r.call quiet (each r (inl refl)) in
      let quiet_mid : AreQuiet c lent (core_of h.0) =
      λ call u. quiet_one call (turned_less (core_of one) (core_of h.0) t call u) in
      let held_mid = turned_held lent (core_of one) (core_of h.0) t held
      (recorded_waits lent (core_of one) (core_of h.0) _ h.1.recorded) in
      let rest = answered rs h.0 b h.2 own_mid held_mid quiet_mid (λ q among. each q (inr among)) in
      record {
        acts = Hands ((r.call ∷ []) ∷ []) ∷ Turns ∷ rest.acts;
        all = (
          one,
          refl,
          tt,
          tt,
          (
            h.0,
            h.1.turns,
            tt,
            turned_from a h.0 own held quiet_mid (r.call ∷ []) h.1.turns
                (inr (_, h.1.recorded, each r (inl refl))),
            rest.all,
          ),
        );
      }

  -- replies in a row that are taken
  pub taken : (rs : List Record) (a b : SiteView) → AreTaken rs a b → IsOwn (core_of a)
      → IsHeld lent (core_of a) → AreQuiet c lent (core_of a) → Chain c lent strings a b
  taken [] a b same own held quiet = nothing_done a b same
  taken (r ∷ rs) a b h own held quiet =
      let t = turned_so a h.0 own h.1.turns in
      let own_mid = turned_own a h.0 own h.1.turns in
      let quiet_mid : AreQuiet c lent (core_of h.0) =
      λ call u. quiet call (turned_less (core_of a) (core_of h.0) t call u) in
      let held_mid = turned_held lent (core_of a) (core_of h.0) t held
      (recorded_waits lent (core_of a) (core_of h.0) _ h.1.recorded) in
      let rest = taken rs h.0 b h.2 own_mid held_mid quiet_mid in
      let asks = asks_unanswered (core_of a).process r.call own.called
      (own.asking r.call h.1.asked).0 in
      record {
        acts = Turns ∷ rest.acts;
        all = (
          h.0,
          h.1.turns,
          tt,
          quiet_by a h.0 own held quiet_mid a refl own_mid
              (one_grown c lent a h.0 r h.1.recorded (quiet r.call asks)),
          rest.all,
        );
      }
