-- What a post is: its calls over what contracts see of it, the laws that its callers rest on, and
-- what a call that posts comes to. The post was `post` and is `then`.
use Rattle.std.specs.Prelude.{ℕ}
use Rattle.ivy_wire.specs.stated.Data.{Content, Parcel}

-- a parcel of a message for the origin's call of this number
abbrev pub parcel_to : ℕ → ℕ → ℕ → ℕ → Content → Parcel
parcel_to me dest origin call body = record {
  source = me;
  dest = dest;
  message = record { origin = origin; call = call; content = body };
}
