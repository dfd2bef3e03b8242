use Rattle.std.specs.Prelude.{ℕ, ◌==◌, ◌&&◌, nat_le, Bool, true, List, [], ◌∷◌, length, drop}

-- a subtag ends before this rest of a text: nothing is left, or a hyphen is next
abbrev pub ends_subtag : List ℕ → Bool
ends_subtag [] = true
ends_subtag (b ∷ rest) = b == 45

-- a subtag of the text ends after so many bytes
abbrev pub ends_at : List ℕ → ℕ → Bool
ends_at text len = nat_le len (length text) && ends_subtag (drop len text)
