-- What is wrong with a string that is no frame: the first of these tests that fails.
use Rattle.std.specs.Prelude.{◌≡◌, ◌≢◌, ℕ, ◌+◌, ◌<◌, ◌≤◌, List, length, slice_index, Some}
use Rattle.ivy_model.specs.declared.Config.{Config}
use Rattle.ivy_wire.specs.declared.frame.FrameKind.{FrameKind}
use Rattle.ivy_wire.specs.stated.Lengths.{frame_version, header_len}
use Rattle.ivy_wire.specs.stated.Spelling.{text_len}
use Rattle.ivy_wire.specs.stated.DecodeErrors.{dest_at, kind_at, kind_byte, len_at, source_at}

-- what all tests but that of number and body ask of a string of this kind
pub record HasHead (c : Config) (kind : FrameKind) (bytes : List ℕ) : Type 0 where
  pub long : header_len ≤ length bytes
  pub magic : (slice_index bytes 0 ≡ 73) × (slice_index bytes 1 ≡ 86)
  pub version : slice_index bytes 2 ≡ frame_version
  pub known : kind_at (kind_byte bytes) ≡ Some kind
  pub source : source_at bytes < c.nodes
  pub dest : dest_at bytes < c.nodes
  pub apart : source_at bytes ≢ dest_at bytes
  pub len : length bytes ≡ header_len + len_at bytes
  pub text_len : len_at bytes ≡ text_len c kind
