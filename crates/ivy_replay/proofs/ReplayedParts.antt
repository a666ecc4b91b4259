-- One node more has its part of the order.
use Rattle.std.proofs.Common.{◌≡◌, ℕ, ◌<◌, IfSome, inl, inr, List, [], ◌∷◌, length, slice_get, option_map}
use Rattle.std.proofs.Common.{Option, None, Some, ap, refl, sym, subst, ◌∙◌}
use Rattle.std.proofs.lemmas.List.{length-map}
use Rattle.std.proofs.lemmas.Option.{slice_get-map, slice_get_cases, slice_get_within}
use Rattle.ivy_model.specs.declared.Call.{Call}
use Rattle.ivy_model.specs.declared.Config.{Config}
use Rattle.ivy_model.specs.declared.Record.{Record}
use Rattle.ivy_model.specs.stated.Explains.{part, Answered, IsOwed, IsExplained}
use Rattle.ivy_model.specs.stated.Legal.{Legal}
use Rattle.ivy_moves.specs.stated.Nodes.{Node}
use Rattle.ivy_moves.specs.stated.Worlds.{World}
use Rattle.ivy_host.specs.stated.Hosts.{Host, answered_by}
use Rattle.ivy_host.specs.stated.Managers.{Managed}
use Rattle.ivy_memory.specs.stated.Memories.{in_progress}
use Rattle.ivy_replay.specs.Orders.{IsAskedAlone, IsOwedAlone, IsPart, IsPartAlone, HavePartsBelow, answers_of}

-- records that have the same fields are the same
pub record_same : (a b : Record) → a.node ≡ b.node → a.call ≡ b.call → a.reply ≡ b.reply → a ≡ b
record_same a b node call reply =
    ap (λ k. record { node = k; call = a.call; reply = a.reply }) node
    ∙ ap (λ k. record { node = b.node; call = k; reply = a.reply }) call
    ∙ ap (λ k. record { node = b.node; call = b.call; reply = k }) reply

-- the call, where it is one, is the only one of these
abbrev IsOnly : Option Call → List Call → Type 0
IsOnly None calls = Unit {0}
IsOnly (Some call) calls = calls ≡ call ∷ []

-- so a record of it is all that is owed
owed_alone : (asked : Option Call) (calls : List Call) (rest : List Record) → IsOnly asked calls
    → IsOwedAlone asked rest → IsOwed calls rest
owed_alone asked calls [] only owed = inl refl
owed_alone asked calls (r ∷ []) only owed =
    inr (sym (subst (λ (a : Option Call). IsOnly a calls) owed only))
owed_alone asked calls (r ∷ s ∷ rest) only owed = absurd owed

-- the calls that a node has in progress
abbrev asked_at : Node (Host Managed) → List Call
asked_at n = in_progress n.core.memory.asked n.core.memory.along

only_asked : (w : World (Host Managed)) (node : ℕ) (asked : Option Call) (n : Node (Host Managed))
    → slice_get w.nodes node ≡ Some n → IsAskedAlone w node asked → IsOnly asked (asked_at n)
only_asked w node None n there alone = tt
only_asked w node (Some call) n there alone =
    subst (λ (o : Option (Node (Host Managed))). IfSome o (λ m. asked_at m ≡ call ∷ [])) there alone

abbrev answer : Node (Host Managed) → Answered
answer m = answered_by m.core

-- a node's history and its one call in progress are what it was answered
pub part-there : (w : World (Host Managed)) (order : List Record) (node : ℕ)
    (history : List Record) (asked : Option Call)
    → IfSome (slice_get w.nodes node) (λ (m : Node (Host Managed)). history ≡ m.core.history)
    → IsAskedAlone w node asked → IsPartAlone (part node order) history asked
    → (n : Answered) → slice_get (answers_of w) node ≡ Some n → IsPart (part node order) n
part-there w order node history asked told alone here n there =
    let mapped = slice_get-map answer w.nodes node in
    let whole : IfSome (option_map answer (slice_get w.nodes node))
    (λ k. IsPart (part node order) k) =
    elim (slice_get_cases w.nodes node).1 [
      | inl p ↦
          let same : history ≡ p.0.core.history =
          subst (λ (o : Option (Node (Host Managed))). IfSome o
          (λ (m : Node (Host Managed)). history ≡ m.core.history)) p.2 told in
          let one : IsPartAlone (part node order) p.0.core.history asked =
          subst (λ (hs : List Record). IsPartAlone (part node order) hs asked) same here in
          let both : IsPart (part node order) (answered_by p.0.core) = (
            one.0,
            one.1,
            owed_alone asked (asked_at p.0) one.0 (only_asked w node asked p.0 p.2 alone) one.2,
          ) in
          subst (λ (o : Option (Node (Host Managed))). IfSome (option_map answer o)
          (λ k. IsPart (part node order) k)) (sym p.2) both
      | inr q ↦
          subst (λ (o : Option (Node (Host Managed))). IfSome (option_map answer o)
          (λ k. IsPart (part node order) k)) (sym q.1) tt
    ] in
    subst (λ (o : Option Answered). IfSome o (λ k. IsPart (part node order) k))
    (sym mapped ∙ there) whole

-- a legal order of which each node has its part explains the world
pub explained : (c : Config) (w : World (Host Managed)) (order : List Record) (nodes : ℕ)
    → length w.nodes ≡ nodes → Legal c order → HavePartsBelow nodes w order
    → IsExplained c order (answers_of w)
explained c w order nodes count legal parts = record {
  legal = legal;
  parts = λ i n there.
      let within : i < length (answers_of w) = slice_get_within (answers_of w) i n there in
      parts i (subst (λ k. i < k) (length-map w.nodes answer ∙ count) within) n there;
}
