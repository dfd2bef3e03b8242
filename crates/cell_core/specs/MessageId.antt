-- What a message id is (a limit of this project), and how one is stored.
use Rattle.std.specs.Prelude.{◌≡◌, ℕ, ◌<◌, ◌≤◌, ◌≢◌, Bool, not, ◌&&◌, ◌==◌, nat_le}
use Rattle.std.specs.Prelude.{List, length, slice_get, Some, All, IsTrue}
use Rattle.std.specs.Str.{IsUtf8}
use Rattle.std.specs.String.{string_bytes}
use Rattle.cell_core.specs.declared.message_id.IdText.{IdText}
use Rattle.cell_core.specs.declared.message_id.IdText.TheVariants.{Short, Long}
use Rattle.cell_core.specs.ZeroPadded.{zero_padded, before_zeros}

-- neither below 32 nor 127
unfoldable pub is_id_byte : ℕ → Bool
is_id_byte b = nat_le 32 b && not (b == 127)

-- 1 to 128 bytes, none of them a control, the first not "@" (64)
pub record IsMessageId (text : List ℕ) : Type 0 where
  pub some : 0 < length text
  pub most : length text ≤ 128
  pub bytes : All (λ b. IsTrue (is_id_byte b)) text
  pub unmarked : slice_get text 0 ≢ Some 64

-- the id does not lie in the value itself: it is over 32 bytes
abbrev pub IdTakesMemory : List ℕ → Type 0
IdTakesMemory text = 32 < length text

-- the id that is stored
abbrev pub id_bytes : IdText → List ℕ
id_bytes (Short bytes) = before_zeros bytes
id_bytes (Long text) = string_bytes text

-- the bytes are an id, padded
pub record KeepsShortId (bytes : List ℕ) : Type 0 where
  pub id : IsMessageId (before_zeros bytes)
  pub short : length (before_zeros bytes) ≤ 32
  pub zeros : zero_padded 32 (before_zeros bytes) ≡ bytes
  pub utf8 : IsUtf8 (before_zeros bytes)

-- the bytes are an id of over 32 bytes
pub record KeepsLongId (bytes : List ℕ) : Type 0 where
  pub id : IsMessageId bytes
  pub long : IdTakesMemory bytes

-- an id of at most 32 bytes lies in the value itself, any other outside
abbrev pub KeepsId : IdText → Type 0
KeepsId (Short bytes) = KeepsShortId bytes
KeepsId (Long text) = KeepsLongId (string_bytes text)
