-- The laws of a manager, for that of a configuration: each of the two keeps them.
use Rattle.std.specs.Prelude.{◌≡◌, ◌<◌, ℕ, Bool, true, false, List, [], ◌∷◌, if◌then◌else◌, ◌==◌, refl}
use Rattle.std.proofs.Common.{ap, ◌∙◌}
use Rattle.ivy_model.specs.declared.Config.{Config}
use Rattle.ivy_model.specs.declared.Kind.{Kind}
use Rattle.ivy_model.specs.declared.Kind.TheVariants as kind
use Rattle.ivy_model.specs.stated.Config.{IsConfig}
use Rattle.ivy_pagetable.specs.Manager.{Laws, KeepsElsewhere, IsRouted, Change, Forward, Given, Replied, Invalidated, all_changed, brought_back}
use Rattle.ivy_fixed.specs.stated.Fixed.{Owners, fixed_ops}
use Rattle.ivy_fixed.specs.FixedLaws.{fixed_laws}
use Rattle.ivy_dynamic.specs.stated.Dynamic.{Hints, dynamic_ops}
use Rattle.ivy_dynamic.specs.DynamicLaws.{dynamic_laws}
use Rattle.ivy_host.specs.stated.Managers.{Managed, Fixed, Dynamic, first_managed, managed_ops}

-- what holds of the one and of the other
each : (P : Managed → Type 0) → ((s : Owners) → P (Fixed s)) → ((s : Hints) → P (Dynamic s))
    → (s : Managed) → P s
each P f g (Fixed s) = f s
each P f g (Dynamic s) = g s

each_kind : (P : Kind → Type 0) → P kind.Fixed → P kind.Dynamic → (k : Kind) → P k
each_kind P f g kind.Fixed = f
each_kind P f g kind.Dynamic = g

keeps_fixed : (s t : Owners) (p : ℕ) → KeepsElsewhere fixed_ops s p t
    → KeepsElsewhere managed_ops (Fixed s) p (Fixed t)
keeps_fixed s t p k = record { me = k.me; size = k.size; nodes = k.nodes; others = k.others }

keeps_dynamic : (s t : Hints) (p : ℕ) → KeepsElsewhere dynamic_ops s p t
    → KeepsElsewhere managed_ops (Dynamic s) p (Dynamic t)
keeps_dynamic s t p k = record { me = k.me; size = k.size; nodes = k.nodes; others = k.others }

routed_fixed : (s : Owners) (p : ℕ) → IsRouted managed_ops (Fixed s) p → IsRouted fixed_ops s p
routed_fixed s p r = record { page = r.page; me = r.me; hop = r.hop }

routed_dynamic : (s : Hints) (p : ℕ) → IsRouted managed_ops (Dynamic s) p
    → IsRouted dynamic_ops s p
routed_dynamic s p r = record { page = r.page; me = r.me; hop = r.hop }

-- taking back
changed_fixed : (s : Owners) (p : ℕ) (cs : List Change)
    → all_changed managed_ops p (Fixed s) cs ≡ Fixed (all_changed fixed_ops p s cs)
changed_fixed s p [] = refl
changed_fixed s p (Forward write o ∷ cs) = changed_fixed (fixed_ops.on_forward s p write o) p cs
changed_fixed s p (Given o ∷ cs) = changed_fixed (fixed_ops.on_given s p o) p cs
changed_fixed s p (Replied write o ∷ cs) = changed_fixed (fixed_ops.on_replied s p write o) p cs
changed_fixed s p (Invalidated o ∷ cs) = changed_fixed (fixed_ops.on_invalidated s p o) p cs

changed_dynamic : (s : Hints) (p : ℕ) (cs : List Change)
    → all_changed managed_ops p (Dynamic s) cs ≡ Dynamic (all_changed dynamic_ops p s cs)
changed_dynamic s p [] = refl
changed_dynamic s p (Forward write o ∷ cs) =
    changed_dynamic (dynamic_ops.on_forward s p write o) p cs
changed_dynamic s p (Given o ∷ cs) = changed_dynamic (dynamic_ops.on_given s p o) p cs
changed_dynamic s p (Replied write o ∷ cs) =
    changed_dynamic (dynamic_ops.on_replied s p write o) p cs
changed_dynamic s p (Invalidated o ∷ cs) = changed_dynamic (dynamic_ops.on_invalidated s p o) p cs

if_inside : {X Y : Type 0} (f : X → Y) (b : Bool) (x y : X)
    → (if b then f x else f y) ≡ f (if b then x else y)
if_inside f true x y = refl
if_inside f false x y = refl

undo_fixed : (s : Owners) (p from : ℕ) (cs : List Change)
    → brought_back managed_ops p (managed_ops.next_hop (Fixed s) p) from
    (all_changed managed_ops p (Fixed s) cs) ≡ Fixed s
undo_fixed s p from cs =
    let t : Owners = all_changed fixed_ops p s cs in
    let hop : ℕ = fixed_ops.next_hop s p in
    ap (brought_back managed_ops p hop from) (changed_fixed s p cs)
    ∙ if_inside Fixed (hop == t.me) (fixed_ops.on_replied t p true from)
    (fixed_ops.on_given t p hop)
    ∙ ap Fixed (fixed_laws.undo s p from cs)

undo_dynamic : (s : Hints) (p from : ℕ) (cs : List Change)
    → brought_back managed_ops p (managed_ops.next_hop (Dynamic s) p) from
    (all_changed managed_ops p (Dynamic s) cs) ≡ Dynamic s
undo_dynamic s p from cs =
    let t : Hints = all_changed dynamic_ops p s cs in
    let hop : ℕ = dynamic_ops.next_hop s p in
    ap (brought_back managed_ops p hop from) (changed_dynamic s p cs)
    ∙ if_inside Dynamic (hop == t.me) (dynamic_ops.on_replied t p true from)
    (dynamic_ops.on_given t p hop)
    ∙ ap Dynamic (dynamic_laws.undo s p from cs)

-- the first states
module _ (c : Config) (i : ℕ) (limits : IsConfig c) (here : i < c.nodes) where
  first_me_as : (k : Kind) → managed_ops.me (first_managed k c i) ≡ i
  first_me_as =
      each_kind _ (fixed_laws.first_me c i limits here) (dynamic_laws.first_me c i limits here)

  first_size_as : (k : Kind) → managed_ops.size (first_managed k c i) ≡ c.pages
  first_size_as =
      each_kind _ (fixed_laws.first_size c i limits here) (dynamic_laws.first_size c i limits here)

  first_nodes_as : (k : Kind) → managed_ops.nodes (first_managed k c i) ≡ c.nodes
  first_nodes_as =
      each_kind _ (fixed_laws.first_nodes c i limits here)
      (dynamic_laws.first_nodes c i limits here)

  module _ (p : ℕ) (inside : p < c.pages) where
    first_hop_as : (k : Kind) → managed_ops.next_hop (first_managed k c i) p < c.nodes
    first_hop_as = each_kind _ (fixed_laws.first_hop c i p limits here inside)
        (dynamic_laws.first_hop c i p limits here inside)

    first_own_as : (k : Kind) → managed_ops.next_hop (first_managed k c i) p ≡ i → i ≡ 0
    first_own_as = each_kind _ (fixed_laws.first_own c i p limits here inside)
        (dynamic_laws.first_own c i p limits here inside)

pub managed_laws : Laws managed_ops
managed_laws = record {
  first_me = λ c i h below. first_me_as c i h below c.manager;
  first_size = λ c i h below. first_size_as c i h below c.manager;
  first_nodes = λ c i h below. first_nodes_as c i h below c.manager;
  first_hop = λ c i p h below lt. first_hop_as c i h below p lt c.manager;
  first_own = λ c i p h below lt. first_own_as c i h below p lt c.manager;
  keeps_forward = each _
      (λ s p write origin. keeps_fixed s _ p (fixed_laws.keeps_forward s p write origin))
      (λ s p write origin. keeps_dynamic s _ p (dynamic_laws.keeps_forward s p write origin));
  keeps_given = each _
      (λ s p to. keeps_fixed s _ p (fixed_laws.keeps_given s p to))
      (λ s p to. keeps_dynamic s _ p (dynamic_laws.keeps_given s p to));
  keeps_replied = each _
      (λ s p write from. keeps_fixed s _ p (fixed_laws.keeps_replied s p write from))
      (λ s p write from. keeps_dynamic s _ p (dynamic_laws.keeps_replied s p write from));
  keeps_invalidated = each _
      (λ s p by. keeps_fixed s _ p (fixed_laws.keeps_invalidated s p by))
      (λ s p by. keeps_dynamic s _ p (dynamic_laws.keeps_invalidated s p by));
  hop_forward = each _
      (λ s p write origin r. fixed_laws.hop_forward s p write origin (routed_fixed s p r))
      (λ s p write origin r. dynamic_laws.hop_forward s p write origin (routed_dynamic s p r));
  hop_given = each _
      (λ s p to r. fixed_laws.hop_given s p to (routed_fixed s p r))
      (λ s p to r. dynamic_laws.hop_given s p to (routed_dynamic s p r));
  hop_replied = each _
      (λ s p write from r. fixed_laws.hop_replied s p write from (routed_fixed s p r))
      (λ s p write from r. dynamic_laws.hop_replied s p write from (routed_dynamic s p r));
  hop_invalidated = each _
      (λ s p by r. fixed_laws.hop_invalidated s p by (routed_fixed s p r))
      (λ s p by r. dynamic_laws.hop_invalidated s p by (routed_dynamic s p r));
  away_forward = each _ fixed_laws.away_forward dynamic_laws.away_forward;
  away_read = each _ fixed_laws.away_read dynamic_laws.away_read;
  away_invalidated = each _ fixed_laws.away_invalidated dynamic_laws.away_invalidated;
  gone_given = each _ fixed_laws.gone_given dynamic_laws.gone_given;
  undo = each _ undo_fixed undo_dynamic;
}
