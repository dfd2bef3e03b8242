use Rattle.std.specs.Prelude.{ℕ, Bool, List}
use Rattle.std.specs.List.{list_any}
use Rattle.std.specs.Str.{bytes_eq}

-- whether a text is that of one of the languages
abbrev pub is_among : List (List ℕ) → List ℕ → Bool
is_among langs text = list_any (λ l. bytes_eq l text) langs
