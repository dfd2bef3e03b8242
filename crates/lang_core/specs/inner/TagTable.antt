-- How a tag is read byte by byte.
use Rattle.std.specs.Prelude.{ℕ, ◌==◌, ◌&&◌, ◌||◌, Bool, List, Some, if◌then◌else◌}
use Rattle.std.specs.List.{list_all}
use Rattle.std.specs.Char.{is_ascii_alphabetic, is_ascii_digit}
use Rattle.lang_core.specs.Grammar.{is_private_piece}
use Rattle.lang_core.specs.inner.Stage.{accepts}
use Rattle.lang_core.specs.declared.stage.Stage.TheVariants.{Start}

-- the class of a byte: "x" in any case 1, another letter 0, a digit 2, a hyphen 3, any other byte 4
abbrev pub byte_class : ℕ → ℕ
byte_class b = if (b == 120) || (b == 88) then 1
    else (if is_ascii_alphabetic b then 0
    else (if is_ascii_digit b then 2 else (if b == 45 then 3 else 4)))

-- each subtag is 1 to 8 letters or digits, and the stages accept them in this order
abbrev pub is_staged : List (List ℕ) → Bool
is_staged list = list_all is_private_piece list && accepts list (Some Start)
