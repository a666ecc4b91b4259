-- What strings begin with: the version of frames, and the lengths of their parts.
use Rattle.std.specs.Prelude.{ℕ}

-- the one version of frames that there is
abbrev pub frame_version : ℕ
frame_version = 2

-- magic bytes, version, kind, source, destination, length of the body, number and acknowledgement
abbrev pub header_len : ℕ
header_len = 24

-- the origin and the call of a message
abbrev pub call_len : ℕ
call_len = 9
