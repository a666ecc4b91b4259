-- The limits of a configuration.
use Rattle.std.specs.Prelude.{ℕ, List, [], ◌∷◌}

abbrev pub least_nodes : ℕ
least_nodes = 2

abbrev pub most_nodes : ℕ
most_nodes = 32

abbrev pub least_pages : ℕ
least_pages = 2

-- of a narrow configuration
abbrev pub most_pages : ℕ
most_pages = 256

-- of any configuration
abbrev pub most_wide_pages : ℕ
most_wide_pages = 65536

-- the powers of two from 64 to 4,096
abbrev pub page_sizes : List ℕ
page_sizes = 64 ∷ 128 ∷ 256 ∷ 512 ∷ 1024 ∷ 2048 ∷ 4096 ∷ []
