-- What a manager's next hop is once it has sent a request on: the same, or the origin of a request
-- to write.
use Rattle.std.proofs.Common.{◌≡◌, ◌⊎◌, ◌<◌, ◌%◌, ℕ, Bool, true, false, List, length, refl, inl, inr, slice_index, slice_set, get_or-set_same, if◌then◌else◌}
use Rattle.ivy_fixed.specs.stated.Fixed.{Owners, fixed_ops, manages}
use Rattle.ivy_dynamic.specs.stated.Dynamic.{Hints, dynamic_ops}
use Rattle.ivy_host.specs.stated.Managers.{Managed, Fixed, Dynamic, managed_ops}

abbrev IsForwarded : ℕ → ℕ → Bool → ℕ → Type 0
IsForwarded old new write origin = (new ≡ old) ⊎ ((write ≡ true) × (new ≡ origin))

-- where the node manages the page, and where it does not
owner_forwarded : (manage : Bool) (owners : List ℕ) (p else_to origin : ℕ) → p < length owners
    → IsForwarded (if manage then slice_index owners p else else_to)
    (if manage then slice_index (if manage then slice_set owners p origin else owners) p
    else else_to) true origin
owner_forwarded true owners p else_to origin lt =
    inr (refl, get_or-set_same owners p origin 0 lt)
owner_forwarded false owners p else_to origin lt = inl refl

fixed_forwarded : (s : Owners) (p : ℕ) (write : Bool) (origin : ℕ) → p < length s.owners
    → IsForwarded (fixed_ops.next_hop s p)
    (fixed_ops.next_hop (fixed_ops.on_forward s p write origin) p) write origin
fixed_forwarded s p true origin lt =
    owner_forwarded (manages s p) s.owners p (p % s.nodes) origin lt
fixed_forwarded s p false origin lt = inl refl

dynamic_forwarded : (s : Hints) (p : ℕ) (write : Bool) (origin : ℕ) → p < length s.hints
    → IsForwarded (dynamic_ops.next_hop s p)
    (dynamic_ops.next_hop (dynamic_ops.on_forward s p write origin) p) write origin
dynamic_forwarded s p true origin lt = inr (refl, get_or-set_same s.hints p origin 0 lt)
dynamic_forwarded s p false origin lt = inl refl

pub forwarded : (s : Managed) (p : ℕ) (write : Bool) (origin : ℕ) → p < managed_ops.size s
    → IsForwarded (managed_ops.next_hop s p)
    (managed_ops.next_hop (managed_ops.on_forward s p write origin) p) write origin
forwarded (Fixed s) p write origin lt = fixed_forwarded s p write origin lt
forwarded (Dynamic s) p write origin lt = dynamic_forwarded s p write origin lt
