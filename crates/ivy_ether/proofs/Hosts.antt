-- Calls and pages are handed to the nodes of a world of hosts.
use Rattle.std.proofs.Common.{◌≡◌, ℕ, zero, suc, ◌+◌, List, [], ◌∷◌, ◌++◌, length, map, slice_get, Some}
use Rattle.std.proofs.Common.{refl, sym, ap, subst, ◌∙◌, arith}
use Rattle.std.proofs.lemmas.Option.{none-some, same_Some}
use Rattle.ivy_model.specs.declared.Config.{Config}
use Rattle.ivy_wire.specs.stated.Data.{Message}
use Rattle.ivy_program.specs.stated.Programs.{Program}
use Rattle.ivy_moves.specs.Carrying.{IsUnseen, changed, node_changed}
use Rattle.ivy_moves.specs.Marks.{Mark}
use Rattle.ivy_moves.specs.Parts.{AreParts}
use Rattle.ivy_moves.specs.stated.Cores.{Outcome}
use Rattle.ivy_moves.specs.stated.Nodes.{Node}
use Rattle.ivy_moves.specs.stated.Worlds.{World}
use Rattle.ivy_moves.proofs.Carried.{changed-one}
use Rattle.ivy_host.specs.declared.opening.Opening.{Opening}
use Rattle.ivy_host.specs.stated.Hosts.{Host, host_rules, serving, turn_of}
use Rattle.ivy_host.specs.stated.Managers.{Managed, managed_ops}
use Rattle.ivy_host.specs.stated.Openings.{Start, first_node, first_nodes, managed_start}
use Rattle.ivy_host.proofs.HandedHosts.{fetch_unseen, unseen}
use Rattle.ivy_host.proofs.WellBehaved.{first_length}
use Rattle.ivy_ether.specs.Handings.{Handing, Calls, Page, handing_all, with_all, with_one}
use Rattle.ivy_ether.specs.Programs.{beginning, all_handed_from, all_handed}
use Rattle.ivy_ether.specs.Rule.{IsHanding, IsStart, AreRunParts, StartsWith}

-- some and then more
pub with_all-append : (some more : List Handing) (p : Program)
    → with_all (some ++ more) p ≡ with_all more (with_all some p)
with_all-append [] more p = refl
with_all-append (h ∷ some) more p = with_all-append some more (with_one h p)

-- neither turns nor messages see one of them, nor all
one_unseen : (h : Handing) → IsUnseen (host_rules managed_ops) (handing_all (h ∷ []))
one_unseen (Calls row) = unseen managed_ops (row ∷ [])
one_unseen (Page page write) = fetch_unseen managed_ops page write

turn_unseen : (hs : List Handing) (n : Host Managed) (o : Outcome (Host Managed))
    → turn_of managed_ops n ≡ Some o
    → turn_of managed_ops (handing_all hs n) ≡ Some (changed (handing_all hs) o)
turn_unseen [] n o is = is
turn_unseen (h ∷ hs) n o is =
    turn_unseen hs (handing_all (h ∷ []) n) (changed (handing_all (h ∷ [])) o)
    ((one_unseen h).turn n o is)

serve_unseen : (hs : List Handing) (n : Host Managed) (from : ℕ) (m : Message)
    → serving managed_ops (handing_all hs n) from m
    ≡ changed (handing_all hs) (serving managed_ops n from m)
serve_unseen [] n from m = refl
serve_unseen (h ∷ hs) n from m =
    serve_unseen hs (handing_all (h ∷ []) n) from m
    ∙ ap (changed (handing_all hs)) ((one_unseen h).serve n from m)

pub is_handing : IsHanding (host_rules managed_ops) handing_all
is_handing = record {
  unseen = λ hs. record { turn = turn_unseen hs; serve = serve_unseen hs };
  none = λ core. refl;
  more = λ some more core. ap
      (λ p. record core { process = record { program = p; state = core.process.state } })
      (with_all-append some more core.process.program);
}

-- the programs of the nodes
handed-from : (handings : ℕ → List Handing) (k j : ℕ) (ps : List Program) (i : ℕ) (p : Program)
    → k + i ≡ j → slice_get ps i ≡ Some p
    → slice_get (all_handed_from k handings ps) i ≡ Some (with_all (handings j) p)
handed-from handings k j [] i p at is = absurd (none-some p is)
handed-from handings k j (q ∷ ps) zero p at is =
    let here : k ≡ j = omega (arith, at) in
    ap (λ x. Some (with_all (handings x) q)) here
    ∙ ap (λ x. Some (with_all (handings j) x)) (same_Some q p is)
handed-from handings k j (q ∷ ps) (suc i) p at is =
    handed-from handings (k + 1) j ps i p (omega (arith, at)) is

pub handed-at : (handings : ℕ → List Handing) (ps : List Program) (i : ℕ) (p : Program)
    → slice_get ps i ≡ Some p
    → slice_get (all_handed handings ps) i ≡ Some (with_all (handings i) p)
handed-at handings ps i p is = handed-from handings 0 i ps i p (omega arith) is

length-handed : (handings : ℕ → List Handing) (k : ℕ) (ps : List Program)
    → length (all_handed_from k handings ps) ≡ length ps
length-handed handings k [] = refl
length-handed handings k (p ∷ ps) = let e = length-handed handings (k + 1) ps in omega (arith, e)

pub length-all_handed : (handings : ℕ → List Handing) (ps : List Program)
    → length (all_handed handings ps) ≡ length ps
length-all_handed handings ps = length-handed handings 0 ps

pub handed_count : (c : Config) (opened : Opening) (handings : ℕ → List Handing)
    (ps : List Program)
    → length (beginning c opened (all_handed handings ps)).nodes ≡ length ps
handed_count c opened handings ps =
    first_length (managed_start opened) c 0 (all_handed handings ps) ∙ length-all_handed handings ps

-- the nodes as they begin
module _ (start : Start Managed) (c : Config) (handings : ℕ → List Handing) where
  nodes-handed : (k j : ℕ) (ps : List Program) (i : ℕ) (n : Node (Host Managed)) → k + i ≡ j
      → slice_get (first_nodes start c k ps) i ≡ Some n
      → slice_get (first_nodes start c k (all_handed_from k handings ps)) i
      ≡ Some (node_changed (handing_all (handings j)) n)
  nodes-handed k j [] i n at is = absurd (none-some n is)
  nodes-handed k j (p ∷ ps) zero n at is =
      let here : k ≡ j = omega (arith, at) in
      ap (λ x. Some (node_changed (handing_all (handings x)) (first_node start c k p))) here
      ∙ ap (λ m. Some (node_changed (handing_all (handings j)) m))
      (same_Some (first_node start c k p) n is)
  nodes-handed k j (p ∷ ps) (suc i) n at is =
      nodes-handed (k + 1) j ps i n (omega (arith, at)) is

  none_early : (k : ℕ) (ps : List Program) (y : List (List ℕ))
      → map (λ (p : Program). y) (all_handed_from k handings ps) ≡ map (λ (p : Program). y) ps
  none_early k [] y = refl
  none_early k (p ∷ ps) y = ap (λ l. y ∷ l) (none_early (k + 1) ps y)

pub handed_start : (c : Config) (opened : Opening) (programs : List Program)
    (handings : ℕ → List Handing)
    → IsStart (host_rules managed_ops) c (beginning c opened programs) handing_all handings
    (beginning c opened (all_handed handings programs))
handed_start c opened programs handings = record {
  there = λ i n is.
      nodes-handed (managed_start opened) c handings 0 i programs i n (omega arith) is;
  count = handed_count c opened handings programs
      ∙ sym (first_length (managed_start opened) c 0 programs);
  sent = refl;
  early = none_early (managed_start opened) c handings 0 programs [];
}

-- whatever was handed to the others
abbrev pub starts_with : (c : Config) (opened : Opening) (programs : List Program) (node : ℕ)
    (hs : List Handing)
    → StartsWith (host_rules managed_ops) c (beginning c opened programs) handing_all node hs
starts_with c opened programs node hs = record {
  handings = λ _. hs;
  own = refl;
  start = beginning c opened (all_handed (λ _. hs) programs);
  starts = handed_start c opened programs (λ _. hs);
}

-- a run of nodes to which these were handed is one of the programs that have them
pub from_start : (c : Config) (opened : Opening) (programs : List Program)
    (handings : ℕ → List Handing) (parts : ℕ → List Mark) (end : World (Host Managed))
    → AreRunParts (host_rules managed_ops) c (beginning c opened programs) handing_all handings
    parts end
    → AreParts (host_rules managed_ops) c (beginning c opened (all_handed handings programs)) parts
    end
from_start c opened programs handings parts end r =
    subst (λ w. AreParts (host_rules managed_ops) c w parts end)
    (changed-one (λ i. handing_all (handings i)) (beginning c opened programs) r.start
    (beginning c opened (all_handed handings programs)) r.starts
    (handed_start c opened programs handings)) r.run
