use Rattle.std.specs.Prelude.{ℕ, Contains}
use Rattle.ivy_model.specs.stated.Limits.{page_sizes}

-- it is one of the sizes that a page may have
abbrev pub IsPageSize : ℕ → Type 0
IsPageSize size = Contains page_sizes size
