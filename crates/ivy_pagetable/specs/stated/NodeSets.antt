-- Sets of nodes.
use Rattle.std.specs.Prelude.{◌≡◌, ℕ, ◌^◌, ◌<◌, true, List, filter, sum_by, ◌==◌}
use Rattle.std.specs.Int.{bit_at}
use Rattle.std.specs.List.{range_with_len}
use Rattle.std.specs.Ordering.{nat_cmp}
use Rattle.std.specs.FinSet as set
use Rattle.std.specs.Coded.{Coded, coded_ℕ}
use Rattle.ivy_model.specs.stated.Limits.{most_nodes}

-- a set of nodes, by their numbers
abbrev pub Nodes : Type 0
Nodes = set.FinSet nat_cmp

-- by which a proof tells sets apart
abbrev pub nodes_code : Coded Nodes
nodes_code = set.code coded_ℕ

-- the nodes of a set, in ascending order
unfoldable pub nodes_of : Nodes → List ℕ
nodes_of s = filter (set.contains s) (range_with_len 0 most_nodes)

-- each node of the set is a number below n
abbrev pub IsBelow : ℕ → Nodes → Type 0
IsBelow n s = (q : ℕ) → set.contains s q ≡ true → q < n

-- the number whose bits are the nodes of the set, bit 0 the least
unfoldable pub bits_of : Nodes → ℕ
bits_of s = sum_by (λ q. 2 ^ q) (nodes_of s)

-- the nodes whose bits the number has
unfoldable pub nodes_with : ℕ → Nodes
nodes_with bits =
    set.from_list (filter (λ q. bit_at bits q == 1) (range_with_len 0 most_nodes))
