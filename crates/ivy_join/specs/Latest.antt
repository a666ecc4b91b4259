-- Strings by their hashes: where the latest one of a hash stands.
use Rattle.std.specs.Prelude.{◌≡◌, ℕ, zero, suc, ◌*◌, ◌%◌, ◌^◌, ◌==◌, List, [], length, slice_get, slice_index_or, Option, Some, None, if◌then◌else◌, bit_xor}
use Rattle.std.specs.List.{fold}

-- the hash FNV-1a in 64 bits: each byte goes into the hash of those before it
unfoldable pub hash_with : ℕ → ℕ → ℕ
hash_with hash byte = (bit_xor hash byte * 0x0000_0100_0000_01b3) % 2 ^ 64

unfoldable pub hash_of : List ℕ → ℕ
hash_of bytes = fold hash_with 0xcbf2_9ce4_8422_2325 bytes

-- of the first n strings the last place of one with this hash
abbrev pub latest : List (List ℕ) → ℕ → ℕ → Option ℕ
latest strings hash zero = None
latest strings hash (suc n) =
    if hash_of (slice_index_or strings n []) == hash then Some n else latest strings hash n

-- each string has the place of the one before it with the same hash, and each hash that of its last
-- one
pub record AreChained (strings : List (List ℕ)) (earlier : List (Option ℕ)) (last : ℕ → Option ℕ)
    : Type 0 where
  pub count : length earlier ≡ length strings
  pub back : (i : ℕ) (bytes : List ℕ) → slice_get strings i ≡ Some bytes
      → slice_get earlier i ≡ Some (latest strings (hash_of bytes) i)
  pub ends : (hash : ℕ) → last hash ≡ latest strings hash (length strings)
