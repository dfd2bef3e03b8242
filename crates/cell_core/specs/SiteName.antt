-- The names of sites, how one is stored in sixteen bytes, and the names of numbered sites (project
-- rules).
use Rattle.std.specs.Prelude.{◌≡◌, ℕ, ◌<◌, ◌≤◌, ◌-◌, Bool, ◌||◌, ◌&&◌, ◌==◌, nat_le}
use Rattle.std.specs.Prelude.{List, ◌++◌, length, replicate, All, IsTrue}
use Rattle.std.specs.Fmt.{decimal}
use Rattle.cell_core.specs.ZeroPadded.{zero_padded, before_zeros}

-- "a" to "z", "0" to "9" or "-"
unfoldable pub is_site_byte : ℕ → Bool
is_site_byte b = (nat_le 97 b && nat_le b 122) || ((nat_le 48 b && nat_le b 57) || (b == 45))

-- 1 to 16 such bytes
pub record IsSiteName (text : List ℕ) : Type 0 where
  pub some : 0 < length text
  pub most : length text ≤ 16
  pub bytes : All (λ b. IsTrue (is_site_byte b)) text

-- the bytes are a name, padded
pub record KeepsName (bytes : List ℕ) : Type 0 where
  pub name : IsSiteName (before_zeros bytes)
  pub zeros : zero_padded 16 (before_zeros bytes) ≡ bytes

-- the decimal digits of a number, with zeros in front to ten digits (48 is "0")
abbrev pub padded_name : ℕ → List ℕ
padded_name n = replicate (10 - length (decimal n)) 48 ++ decimal n
