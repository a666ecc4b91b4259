-- A list of events splits at any place, its effect is one, and what a part of a run sends was sent
-- in the run.
use Rattle.std.proofs.Common.{◌≡◌, ℕ, Bool, true, false, List, [], ◌∷◌, ◌++◌, slice_get, Contains, Some, if◌then◌else◌, ◌==◌, refl, sym, ap, subst, ◌∙◌, inl, inr, arith, append_assoc}
use Rattle.std.proofs.lemmas.Option.{same_Some}
use Rattle.std.proofs.lemmas.List.Elements.{Contains-append_left, Contains-append_right, Contains-append_cases}
use Rattle.ivy_model.specs.declared.Config.{Config}
use Rattle.ivy_moves.specs.stated.Cores.{Core}
use Rattle.ivy_moves.specs.Marks.{Mark, Turn, Delivery, Pulse}
use Rattle.ivy_moves.specs.stated.Nodes.{Node, Effect, stays}
use Rattle.ivy_moves.specs.stated.Worlds.{World}
use Rattle.ivy_moves.specs.Parts.{followed_by, sent_from, AllCanBeMade, Happens, AllHappen, AreParts}
use Rattle.ivy_moves.proofs.Parts.{runs_are_their_parts}

pub none-in : {X : Type 0} (x : X) → Contains [] x → ⊥
none-in x c = omega (arith, c.1)

-- what a node sent was sent
sent_by : (b : Bool) (s x : List ℕ) (own rest : List (List ℕ)) → (Contains own x → Contains rest x)
    → Contains (if b then s ∷ own else own) x → Contains (s ∷ rest) x
sent_by false s x own rest more c = Contains-append_right (s ∷ []) rest x (more c)
sent_by true s x own rest more c = elim (Contains-append_cases (s ∷ []) own x c) [
  | inl here ↦ Contains-append_left (s ∷ []) rest x here
  | inr later ↦ Contains-append_right (s ∷ []) rest x (more later)
]

pub from-sent : (j : ℕ) (is : List ℕ) (strings : List (List ℕ)) (x : List ℕ)
    → Contains (sent_from j is strings) x → Contains strings x
from-sent j [] [] x c = c
from-sent j [] (s ∷ strings) x c = absurd (none-in x c)
from-sent j (i ∷ is) [] x c = c
from-sent j (i ∷ is) (s ∷ strings) x c =
    sent_by (i == j) s x (sent_from j is strings) strings (from-sent j is strings x) c

-- what can be made of some strings can be made of others that have them
pub can-more : (strings others : List (List ℕ)) (nodes j : ℕ) (ms : List Mark)
    → ((s : List ℕ) → Contains strings s → Contains others s)
    → AllCanBeMade strings nodes j ms → AllCanBeMade others nodes j ms
can-more strings others nodes j [] more can = can
can-more strings others nodes j (Turn ∷ ms) more can =
    (can.0, can-more strings others nodes j ms more can.1)
can-more strings others nodes j (Delivery bytes ∷ ms) more can =
    (more bytes can.0, can-more strings others nodes j ms more can.1)
can-more strings others nodes j (Pulse to ∷ ms) more can =
    (can.0, can-more strings others nodes j ms more can.1)

pub can-append : (strings : List (List ℕ)) (nodes j : ℕ) (ms ms' : List Mark)
    → AllCanBeMade strings nodes j ms → AllCanBeMade strings nodes j ms'
    → AllCanBeMade strings nodes j (ms ++ ms')
can-append strings nodes j [] ms' can can' = can'
can-append strings nodes j (m ∷ ms) ms' can can' =
    (can.0, can-append strings nodes j ms ms' can.1 can')

module _ {C : Type 0} (rules : Core C) (c : Config) where
  -- events that happen split at any place
  pub record IsSplit (n : Node C) (ms ms' : List Mark) (e : Effect C) : Type 0 where
    pub first : Effect C
    pub happen : AllHappen rules c n ms first
    pub rest : Effect C
    pub go_on : AllHappen rules c first.after ms' rest
    pub whole : e ≡ followed_by first rest

  pub all-split : (n : Node C) (ms ms' : List Mark) (e : Effect C)
      → AllHappen rules c n (ms ++ ms') e → IsSplit n ms ms' e
  all-split n [] ms' e h =
      record { first = stays n; happen = refl; rest = e; go_on = h; whole = refl }
  all-split n (m ∷ ms) ms' e h =
      let s = all-split h.0.after ms ms' h.2.0 h.2.1 in
      record {
        first = followed_by h.0 s.first;
        happen = (h.0, h.1, (s.first, s.happen, refl));
        rest = s.rest;
        go_on = s.go_on;
        whole = h.2.2 ∙ ap (λ (x : Effect C). followed_by h.0 x) s.whole
            ∙ (λ k. record {
              after = s.rest.after;
              sent = sym (append_assoc h.0.sent s.first.sent s.rest.sent) k;
            });
      }

  -- and their effect is one
  one-effect : (n : Node C) (m : Mark) (e e' : Effect C) → Happens rules c n m e
      → Happens rules c n m e' → e ≡ e'
  one-effect n Turn e e' h h' = same_Some e e' (sym h.1 ∙ h'.1)
  one-effect n (Delivery bytes) e e' h h' = same_Some e e' (sym h.1 ∙ h'.1)
  one-effect n (Pulse to) e e' h h' = h.0 ∙ sym h'.0

  pub same-effect : (n : Node C) (ms : List Mark) (e e' : Effect C) → AllHappen rules c n ms e
      → AllHappen rules c n ms e' → e ≡ e'
  same-effect n [] e e' h h' = h ∙ sym h'
  same-effect n (m ∷ ms) e e' h h' =
      let first : h.0 ≡ h'.0 = one-effect n m h.0 h'.0 h.1 h'.1 in
      let rest : h.2.0 ≡ h'.2.0 = same-effect h.0.after ms h.2.0 h'.2.0 h.2.1
      (subst (λ (x : Effect C). AllHappen rules c x.after ms h'.2.0) (sym first) h'.2.1) in
      h.2.2 ∙ (λ k. followed_by (first k) (rest k)) ∙ sym h'.2.2

  -- what a part of a run sends was sent in it
  pub part_sent : (w end : World C) (parts : ℕ → List Mark) (j : ℕ) (n : Node C) (e : Effect C)
      (s : List ℕ) → AreParts rules c w parts end → slice_get w.nodes j ≡ Some n
      → AllHappen rules c n (parts j) e → Contains e.sent s → Contains end.sent s
  part_sent w end parts j n e s run there happen sent =
      let made = runs_are_their_parts rules c w end parts run in
      let b = made.each j n there in
      let own : e.sent ≡ sent_from j made.senders made.strings =
      ap (λ (x : Effect C). x.sent) (same-effect n (parts j) e b.0 happen b.1) ∙ sym b.3 in
      let in_run : Contains made.strings s =
      from-sent j made.senders made.strings s (subst (λ l. Contains l s) own sent) in
      subst (λ l. Contains l s) (sym made.sent)
      (Contains-append_right w.sent made.strings s in_run)

  -- what was sent before a run was sent in it
  pub before-sent : (w end : World C) (parts : ℕ → List Mark) (s : List ℕ)
      → AreParts rules c w parts end → Contains w.sent s → Contains end.sent s
  before-sent w end parts s run sent =
      let made = runs_are_their_parts rules c w end parts run in
      subst (λ l. Contains l s) (sym made.sent) (Contains-append_left w.sent made.strings s sent)
