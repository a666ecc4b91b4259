-- Few nodes send a request on under steady hints: who does so is late from then on, and was not
-- before, and the node where the request is is never late.
use Rattle.std.proofs.Common.{◌≡◌, ◌≢◌, ◌⊎◌, ◌<◌, ◌≤◌, ◌+◌, ◌*◌, ℕ, zero, suc, true, List, [], ◌∷◌, length, take, slice_get, Some, refl, sym, ap, ◌∙◌, subst, inl, inr, arith}
use Rattle.std.proofs.lemmas.List.{take-append-le}
use Rattle.std.proofs.lemmas.Option.{same_Some, none-some, slice_get_within}
use Rattle.ivy_model.specs.declared.Config.{Config}
use Rattle.ivy_model.specs.stated.Config.{IsConfig}
use Rattle.ivy_wire.specs.stated.Data.{Parcel}
use Rattle.ivy_link.specs.stated.Paired.{posted, extended}
use Rattle.ivy_dynamic.specs.stated.Dynamic.{Hints}
use Rattle.ivy_program.specs.stated.Programs.{Program}
use Rattle.ivy_moves.specs.stated.FifoWorld.{FifoWorld, Steps, rests, turns, delivers}
use Rattle.ivy_host.specs.declared.opening.Opening.TheVariants.{Steady}
use Rattle.ivy_host.specs.stated.Hosts.{Host, host_rules, serving}
use Rattle.ivy_host.specs.stated.Managers.{Managed, Dynamic, managed_ops}
use Rattle.ivy_host.specs.stated.Openings.{managed_start}
use Rattle.ivy_host.specs.ManagedLaws.{managed_laws}
use Rattle.ivy_wire.specs.declared.Content.TheVariants as content
use Rattle.proof_table.specs.stated.Letters.{Letter, Underway, IsAt as at_place}
use Rattle.proof_table.proofs.transitions.Embedded.{AreWithin}
use Rattle.proof_table.proofs.waiting.Onward.{IsPromised}
use Rattle.proof_answers.specs.late.Late.{IsOut, first, IsLate, begins as itself}
use Rattle.proof_answers.proofs.late.LateFacts.{one_at, request_key, asker_below}
use Rattle.proof_worlds.specs.stated.FifoRuns.{IsReachedInOrder}
use Rattle.proof_worlds.specs.stated.Nets.{about_pages, net_of, managers_of}
use Rattle.proof_worlds.proofs.refinement.FifoRuns.{letters_below}
use Rattle.proof_worlds.proofs.refinement.HeapWays.{within_taken}
use Rattle.proof_worlds.proofs.refinement.LiftedHosts.{WorldTells, kept-steps}
use Rattle.proof_worlds.proofs.refinement.LiftedRuns.{Holds}
use Rattle.proof_worlds.proofs.refinement.LiftedWorlds.{IsSoundWorldBy}
use Rattle.proof_answers.proofs.fairness.Locked.{fewer_about}
use Rattle.proof_answers.proofs.fairness.WaitRanks.{OfKind, spare}
use Rattle.proof_answers.specs.steady.SendsOn.{SendOn, begins, goes_on, sends, AreApart, FewSendOn}
use Rattle.proof_answers.proofs.steady.Counted.{AreCounted, counted_all, counted_less}
use Rattle.proof_answers.proofs.steady.Senders.{known, not_late}
use Rattle.proof_answers.proofs.steady.SendsOn.{reply_key, reply_asks, IsTracked, IsReplied, Claimed, wide-kept}
use Rattle.proof_answers.proofs.steady.SteadyWorlds.{IsBase, reached_base}

-- a number is one of these
abbrev In : List ℕ → ℕ → Type 0
In xs y = (k : ℕ) × (slice_get xs k ≡ Some y)

-- numbers that stand apart are no more than there are
apart_few : (n : ℕ) (xs : List ℕ) → AreApart xs → ((y : ℕ) → In xs y → y < n)
    → (s : ℕ) × (s + length xs ≤ n) × AreCounted (λ y w. In xs y ⊎ (1 ≤ w)) n s
apart_few n [] apart low =
    (1 * n, omega arith, counted_all (λ y w. In [] y ⊎ (1 ≤ w)) 1 (λ y. inr (omega arith)) n)
apart_few n (x ∷ xs) apart low =
    let rest = apart_few n xs apart.1 (λ y h. low y (suc h.0, h.1)) in
    let one = counted_less (λ y w. In xs y ⊎ (1 ≤ w)) (λ y w. In (x ∷ xs) y ⊎ (1 ≤ w)) n
    (λ y w within h. elim h [ inl is ↦ inl (suc is.0, is.1) | inr le ↦ inr le ]) x 1
    (λ w h. elim h [
      | inl is ↦ absurd (apart.0 is.0 is.1)
      | inr le ↦ (0, omega (arith, le), inl (0, refl))
    ]) n rest.0 (omega arith) (low x (0, refl)) rest.2 in
    let a = rest.1 in
    let b = one.1 in
    (one.0, omega (arith, a, b), one.2)

-- what holds of one more node, and of those before
late_now : (x : ℕ) (nodes : List ℕ) (Has : ℕ → Type 0) → Has x
    → ((y : ℕ) → In nodes y → Has y) → (y : ℕ) → In (x ∷ nodes) y → Has y
late_now x nodes Has here others y (zero, is) = subst Has (same_Some x y is) here
late_now x nodes Has here others y (suc k, is) = others y (k, is)

asker_apart : {asker : ℕ} (x : ℕ) (nodes : List ℕ) → x ≢ asker
    → ((k : ℕ) → slice_get nodes k ≡ Some asker → ⊥) → (k : ℕ)
    → slice_get (x ∷ nodes) k ≡ Some asker → ⊥
asker_apart {asker = asker} x nodes other apart zero is = other (same_Some x asker is)
asker_apart x nodes other apart (suc k) is = apart k is

module _ (c : Config) (limits : IsConfig c) (programs : List Program)
    (many : length programs ≡ c.nodes) (page asker : ℕ) where
  abbrev IsRun : FifoWorld (Host Managed) → Type 0
  IsRun u = IsReachedInOrder managed_ops (managed_start Steady) c programs u

  world : (u : FifoWorld (Host Managed)) → IsRun u → IsSoundWorldBy true managed_ops c u
  world u run = (reached_base c limits programs many u run).0

  -- what is known of a world and the hints of its nodes
  record IsKnown (u : FifoWorld (Host Managed)) (hints : ℕ → Hints) : Type 0 where
    run : IsRun u
    within : AreWithin Dynamic c hints (managers_of (spare c) u)
    base : IsBase c limits hints (net_of u) (λ p. [])
    out : IsOut (net_of u) page asker

  -- one step
  module _ (u v : FifoWorld (Host Managed)) (s : ℕ → Hints) (at : IsKnown u s)
      (step : Steps (host_rules managed_ops) u v) (out : IsOut (net_of v) page asker) where
    -- by its end so many messages are delivered, all of which had been posted before
    abbrev due : ℕ → ℕ → ℕ
    due x y = (net_of v).delivered x y

    by_event : (ps : List Parcel) → v.posted ≡ extended u.posted ps
        → ((x y : ℕ) → v.delivered x y ≤ length (u.posted x y)) → IsPromised due (net_of u)
    by_event ps sent most x y =
        let e : length (about_pages (take (v.delivered x y) (v.posted x y)))
        ≡ length (about_pages (take (v.delivered x y) (u.posted x y))) =
        ap (λ g. length (about_pages (take (v.delivered x y) (g x y)))) sent
        ∙ ap (λ l. length (about_pages l))
        (take-append-le (v.delivered x y) (u.posted x y) (posted x y ps) (most x y)) in
        let le = fewer_about (v.delivered x y) (u.posted x y) in
        omega (arith, e, le)

    promised : IsPromised due (net_of u)
    promised = by_steps step
      where
        by_steps : Steps (host_rules managed_ops) u v → IsPromised due (net_of u)
        by_steps (rests same) x y =
            subst (λ (z : FifoWorld (Host Managed)).
            (net_of z).delivered x y ≤ length ((net_of u).posted x y)) (sym same)
            (at.base.0.0.1.counted x y)
        by_steps (turns x t) a b =
            by_event t.outcome.posted t.posted
            (λ i j. subst (λ (d : ℕ → ℕ → ℕ). d i j ≤ length (u.posted i j)) (sym t.delivered)
            ((world u at.run).within i j)) a b
        by_steps (delivers source x t) a b =
            by_event (serving managed_ops t.core source t.message).posted t.posted
            (λ i j. subst (λ (d : ℕ → ℕ → ℕ). d i j ≤ length (u.posted i j)) (sym t.delivered)
            (within_taken u (world u at.run).within source x t.message t.first i j)) a b

    tracked : IsTracked c limits page asker due s (net_of u) s (net_of u)
    tracked = record {
      out = at.out;
      late = λ y h. h;
      sent = λ x y k message new there asks other. absurd (
          let low = slice_get_within ((net_of u).posted x y) k message there in
          omega (arith, new, low)
          );
    }

    all : (flat : ℕ → List ℕ)
        × OfKind Dynamic c (Claimed c limits page asker due s (net_of u))
        (managers_of (spare c) v) (net_of v) flat
        × WorldTells managed_ops (OfKind Dynamic c (Claimed c limits page asker due s (net_of u))) c
        (λ p. []) u v flat
    all = kept-steps managed_laws c (wide-kept c limits page asker due s (net_of u)) (spare c) u v
        (λ p. []) (world u at.run) (s, at.within, (at.base, (promised, λ w. inl tracked))) step

    abbrev then : ℕ → Hints
    then = all.1.0

    at_then : IsKnown v then
    at_then = record {
      run = (u ∷ at.run.0, (at.run.1, step));
      within = all.1.1;
      base = all.1.2.0;
      out = out;
    }

    -- the request is out, so it was not answered
    module _ (r : IsReplied c limits page asker due s (net_of u) (net_of v)) where
      abbrev reply : Letter
      reply = record { source = r.from; dest = asker; message = r.message }

      letters : reply ≡ out.letter
      letters =
          one_at (net_of v) out.at reply out.letter
          (subst (λ a. at_place (net_of v) a reply)
          (all.1.2.0.0.0.0.0.one_letter (Underway r.from asker r.number) out.at reply out.letter
          (r.new, r.there, refl, refl) out.there
          (reply_key page asker reply r.origin r.reply
          ∙ sym (request_key page asker out.letter out.asks)))
          (r.new, r.there, refl, refl)) out.there

      unreplied : ⊥
      unreplied =
          reply_asks page r.message.content r.reply
          (subst (λ (l : Letter). (l.message.content ≡ content.ReadReq page)
          ⊎ (l.message.content ≡ content.WriteReq page)) (sym letters) out.asks.1)

    after : IsTracked c limits page asker due s (net_of u) then (net_of v)
    after = elim (all.1.2.1.1 (λ x y. omega arith)) [
      | inl t ↦ t
      | inr r ↦ absurd (unreplied r)
    ]

  -- what is known along the way
  record IsSoFar (u : FifoWorld (Host Managed)) (nodes : List ℕ) : Type 0 where
    hints : ℕ → Hints
    at : IsKnown u hints
    late : (y : ℕ) → In nodes y → IsLate c.nodes hints (net_of u) page asker y
    below : (y : ℕ) → In nodes y → y < c.nodes
    apart : AreApart (asker ∷ nodes)

  module _ (o : FifoWorld (Host Managed)) (run : IsRun o) where
    so_far : {v : FifoWorld (Host Managed)} {nodes : List ℕ} → SendOn page asker o v nodes
        → IsSoFar v nodes
    so_far (begins out) =
        let base : Holds true managed_ops c (OfKind Dynamic c (IsBase c limits)) (spare c) o =
        reached_base c limits programs many o run in
        record {
          hints = base.1.1.0;
          at = record { run = run; within = base.1.1.1; base = base.1.1.2; out = out };
          late = λ y is. absurd (none-some y is.1);
          below = λ y is. absurd (none-some y is.1);
          apart = ((λ k is. none-some asker is), tt);
        }
    so_far (goes_on {u = u} v before step out) =
        let h = so_far before in
        let t = after u v h.hints h.at step out in
        record {
          hints = then u v h.hints h.at step out;
          at = at_then u v h.hints h.at step out;
          late = λ y is. t.late y (h.late y is);
          below = h.below;
          apart = h.apart;
        }
    so_far (sends {u = u} {nodes = nodes} v x before step out by) =
        let h = so_far before in
        let t = after u v h.hints h.at step out in
        let s = t.sent x by.to by.number by.message by.new by.there by.asks by.other in
        record {
          hints = then u v h.hints h.at step out;
          at = at_then u v h.hints h.at step out;
          late = late_now x nodes
              (IsLate c.nodes (then u v h.hints h.at step out) (net_of v) page asker)
              s.1 (λ y is. t.late y (h.late y is));
          below = late_now x nodes (λ y. y < c.nodes) s.2 h.below;
          apart = (
            asker_apart x nodes by.other h.apart.0,
            ((λ k is. s.0 (h.late x (k, is))), h.apart.1),
          );
        }

  -- two nodes are none of these
  module _ (v : FifoWorld (Host Managed)) (nodes : List ℕ) (h : IsSoFar v nodes) where
    abbrev letter : Letter
    letter = h.at.out.letter

    unlate : IsLate c.nodes h.hints (net_of v) page asker letter.dest → ⊥
    unlate =
        not_late c limits page asker h.hints (net_of v)
        (known c limits page asker h.hints (net_of v) h.at.base) h.at.out h.at.out.at letter
        (first h.at.out.at letter h.at.out.there h.at.out.asks)

    here_apart : (k : ℕ) → slice_get (asker ∷ nodes) k ≡ Some letter.dest → ⊥
    here_apart zero is = unlate (itself letter.dest (sym (same_Some asker letter.dest is)))
    here_apart (suc k) is = unlate (h.late letter.dest (k, is))

    all_below : (y : ℕ) → In (letter.dest ∷ asker ∷ nodes) y → y < c.nodes
    all_below y (zero, is) =
        subst (λ z. z < c.nodes) (same_Some letter.dest y is)
        (letters_below managed_ops c v (world v h.at.run) h.at.out.at letter h.at.out.there)
    all_below y (suc zero, is) =
        subst (λ z. z < c.nodes) (same_Some asker y is)
        (asker_below c (net_of v) h.at.base.0.0.0.0 page asker h.at.out.at letter
        h.at.out.there h.at.out.asks)
    all_below y (suc (suc k), is) = h.below y (k, is)

    sum : (s : ℕ) × (s + length (letter.dest ∷ asker ∷ nodes) ≤ c.nodes)
        × AreCounted (λ y w. In (letter.dest ∷ asker ∷ nodes) y ⊎ (1 ≤ w)) c.nodes s
    sum = apart_few c.nodes (letter.dest ∷ asker ∷ nodes) (here_apart, h.apart) all_below

    few : length nodes + 2 ≤ c.nodes
    few = (let le = sum.1 in omega (arith, le))

pub few_send_on : FewSendOn
few_send_on c limits programs many o run page asker v nodes path =
    let h = so_far c limits programs many page asker o run path in
    (h.apart, few c limits programs many page asker v nodes h)
