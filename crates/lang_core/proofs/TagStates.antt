-- The states of the table that reads tags, which tools/tag-table prints: of each stage a list, in
-- it of each length of the subtag that is read, from none to eight, six states: of no byte yet, of
-- "x", of letters, of digits, of both from a letter on, of both from a digit on.
use Rattle.std.specs.Prelude.{ℕ, List, [], ◌∷◌}

-- no stage
abbrev after_none : List ℕ
after_none =
    0 ∷ 0 ∷ 0 ∷ 0 ∷ 0 ∷ 0 ∷ 0 ∷ 0 ∷ 0 ∷ 0 ∷ 0 ∷ 0 ∷ 0 ∷ 0 ∷ 0 ∷ 0 ∷ 0 ∷ 0
    ∷ 0 ∷ 0 ∷ 0 ∷ 0 ∷ 0 ∷ 0 ∷ 0 ∷ 0 ∷ 0 ∷ 0 ∷ 0 ∷ 0 ∷ 0 ∷ 0 ∷ 0 ∷ 0 ∷ 0 ∷ 0
    ∷ 0 ∷ 0 ∷ 0 ∷ 0 ∷ 0 ∷ 0 ∷ 0 ∷ 0 ∷ 0 ∷ 0 ∷ 0 ∷ 0 ∷ 0 ∷ 0 ∷ 0 ∷ 0 ∷ 0 ∷ 0 ∷ []

-- nothing yet
abbrev after_start : List ℕ
after_start =
    1 ∷ 0 ∷ 0 ∷ 0 ∷ 0 ∷ 0 ∷ 0 ∷ 2 ∷ 3 ∷ 0 ∷ 0 ∷ 0 ∷ 0 ∷ 0 ∷ 37 ∷ 0 ∷ 0 ∷ 0
    ∷ 0 ∷ 0 ∷ 38 ∷ 0 ∷ 0 ∷ 0 ∷ 0 ∷ 0 ∷ 39 ∷ 0 ∷ 0 ∷ 0 ∷ 0 ∷ 0 ∷ 40 ∷ 0 ∷ 0 ∷ 0
    ∷ 0 ∷ 0 ∷ 41 ∷ 0 ∷ 0 ∷ 0 ∷ 0 ∷ 0 ∷ 42 ∷ 0 ∷ 0 ∷ 0 ∷ 0 ∷ 0 ∷ 43 ∷ 0 ∷ 0 ∷ 0 ∷ []

-- a language that three extlangs may follow
abbrev after_language3 : List ℕ
after_language3 =
    4 ∷ 0 ∷ 0 ∷ 0 ∷ 0 ∷ 0 ∷ 0 ∷ 5 ∷ 6 ∷ 7 ∷ 0 ∷ 0 ∷ 0 ∷ 0 ∷ 44 ∷ 8 ∷ 9 ∷ 10
    ∷ 0 ∷ 0 ∷ 45 ∷ 46 ∷ 11 ∷ 12 ∷ 0 ∷ 0 ∷ 47 ∷ 48 ∷ 13 ∷ 48 ∷ 0 ∷ 0 ∷ 49 ∷ 49 ∷ 49 ∷ 49
    ∷ 0 ∷ 0 ∷ 50 ∷ 50 ∷ 50 ∷ 50 ∷ 0 ∷ 0 ∷ 51 ∷ 51 ∷ 51 ∷ 51 ∷ 0 ∷ 0 ∷ 52 ∷ 52 ∷ 52 ∷ 52 ∷ []

-- the same, two
abbrev after_language2 : List ℕ
after_language2 =
    14 ∷ 0 ∷ 0 ∷ 0 ∷ 0 ∷ 0 ∷ 0 ∷ 15 ∷ 16 ∷ 7 ∷ 0 ∷ 0 ∷ 0 ∷ 0 ∷ 53 ∷ 8 ∷ 9 ∷ 10
    ∷ 0 ∷ 0 ∷ 54 ∷ 46 ∷ 11 ∷ 12 ∷ 0 ∷ 0 ∷ 47 ∷ 48 ∷ 13 ∷ 48 ∷ 0 ∷ 0 ∷ 49 ∷ 49 ∷ 49 ∷ 49
    ∷ 0 ∷ 0 ∷ 50 ∷ 50 ∷ 50 ∷ 50 ∷ 0 ∷ 0 ∷ 51 ∷ 51 ∷ 51 ∷ 51 ∷ 0 ∷ 0 ∷ 52 ∷ 52 ∷ 52 ∷ 52 ∷ []

-- the same, one
abbrev after_language1 : List ℕ
after_language1 =
    17 ∷ 0 ∷ 0 ∷ 0 ∷ 0 ∷ 0 ∷ 0 ∷ 18 ∷ 19 ∷ 7 ∷ 0 ∷ 0 ∷ 0 ∷ 0 ∷ 55 ∷ 8 ∷ 9 ∷ 10
    ∷ 0 ∷ 0 ∷ 56 ∷ 46 ∷ 11 ∷ 12 ∷ 0 ∷ 0 ∷ 47 ∷ 48 ∷ 13 ∷ 48 ∷ 0 ∷ 0 ∷ 49 ∷ 49 ∷ 49 ∷ 49
    ∷ 0 ∷ 0 ∷ 50 ∷ 50 ∷ 50 ∷ 50 ∷ 0 ∷ 0 ∷ 51 ∷ 51 ∷ 51 ∷ 51 ∷ 0 ∷ 0 ∷ 52 ∷ 52 ∷ 52 ∷ 52 ∷ []

-- a language that no extlang may follow
abbrev after_language0 : List ℕ
after_language0 =
    20 ∷ 0 ∷ 0 ∷ 0 ∷ 0 ∷ 0 ∷ 0 ∷ 21 ∷ 22 ∷ 7 ∷ 0 ∷ 0 ∷ 0 ∷ 0 ∷ 57 ∷ 8 ∷ 9 ∷ 10
    ∷ 0 ∷ 0 ∷ 23 ∷ 46 ∷ 11 ∷ 12 ∷ 0 ∷ 0 ∷ 47 ∷ 48 ∷ 13 ∷ 48 ∷ 0 ∷ 0 ∷ 49 ∷ 49 ∷ 49 ∷ 49
    ∷ 0 ∷ 0 ∷ 50 ∷ 50 ∷ 50 ∷ 50 ∷ 0 ∷ 0 ∷ 51 ∷ 51 ∷ 51 ∷ 51 ∷ 0 ∷ 0 ∷ 52 ∷ 52 ∷ 52 ∷ 52 ∷ []

-- a script
abbrev after_script : List ℕ
after_script =
    24 ∷ 0 ∷ 0 ∷ 0 ∷ 0 ∷ 0 ∷ 0 ∷ 25 ∷ 26 ∷ 7 ∷ 0 ∷ 0 ∷ 0 ∷ 0 ∷ 58 ∷ 8 ∷ 9 ∷ 10
    ∷ 0 ∷ 0 ∷ 11 ∷ 46 ∷ 11 ∷ 12 ∷ 0 ∷ 0 ∷ 13 ∷ 48 ∷ 13 ∷ 48 ∷ 0 ∷ 0 ∷ 49 ∷ 49 ∷ 49 ∷ 49
    ∷ 0 ∷ 0 ∷ 50 ∷ 50 ∷ 50 ∷ 50 ∷ 0 ∷ 0 ∷ 51 ∷ 51 ∷ 51 ∷ 51 ∷ 0 ∷ 0 ∷ 52 ∷ 52 ∷ 52 ∷ 52 ∷ []

-- a region or a variant
abbrev after_variants : List ℕ
after_variants =
    27 ∷ 0 ∷ 0 ∷ 0 ∷ 0 ∷ 0 ∷ 0 ∷ 28 ∷ 29 ∷ 30 ∷ 0 ∷ 0 ∷ 0 ∷ 0 ∷ 9 ∷ 10 ∷ 9 ∷ 10
    ∷ 0 ∷ 0 ∷ 11 ∷ 12 ∷ 11 ∷ 12 ∷ 0 ∷ 0 ∷ 13 ∷ 48 ∷ 13 ∷ 48 ∷ 0 ∷ 0 ∷ 49 ∷ 49 ∷ 49 ∷ 49
    ∷ 0 ∷ 0 ∷ 50 ∷ 50 ∷ 50 ∷ 50 ∷ 0 ∷ 0 ∷ 51 ∷ 51 ∷ 51 ∷ 51 ∷ 0 ∷ 0 ∷ 52 ∷ 52 ∷ 52 ∷ 52 ∷ []

-- a singleton
abbrev after_singleton : List ℕ
after_singleton =
    31 ∷ 0 ∷ 0 ∷ 0 ∷ 0 ∷ 0 ∷ 0 ∷ 32 ∷ 32 ∷ 32 ∷ 0 ∷ 0 ∷ 0 ∷ 0 ∷ 59 ∷ 59 ∷ 59 ∷ 59
    ∷ 0 ∷ 0 ∷ 60 ∷ 60 ∷ 60 ∷ 60 ∷ 0 ∷ 0 ∷ 61 ∷ 61 ∷ 61 ∷ 61 ∷ 0 ∷ 0 ∷ 62 ∷ 62 ∷ 62 ∷ 62
    ∷ 0 ∷ 0 ∷ 63 ∷ 63 ∷ 63 ∷ 63 ∷ 0 ∷ 0 ∷ 64 ∷ 64 ∷ 64 ∷ 64 ∷ 0 ∷ 0 ∷ 65 ∷ 65 ∷ 65 ∷ 65 ∷ []

-- a subtag of an extension
abbrev after_extension : List ℕ
after_extension =
    33 ∷ 0 ∷ 0 ∷ 0 ∷ 0 ∷ 0 ∷ 0 ∷ 34 ∷ 35 ∷ 35 ∷ 0 ∷ 0 ∷ 0 ∷ 0 ∷ 59 ∷ 59 ∷ 59 ∷ 59
    ∷ 0 ∷ 0 ∷ 60 ∷ 60 ∷ 60 ∷ 60 ∷ 0 ∷ 0 ∷ 61 ∷ 61 ∷ 61 ∷ 61 ∷ 0 ∷ 0 ∷ 62 ∷ 62 ∷ 62 ∷ 62
    ∷ 0 ∷ 0 ∷ 63 ∷ 63 ∷ 63 ∷ 63 ∷ 0 ∷ 0 ∷ 64 ∷ 64 ∷ 64 ∷ 64 ∷ 0 ∷ 0 ∷ 65 ∷ 65 ∷ 65 ∷ 65 ∷ []

-- the "x" of private use
abbrev after_private_start : List ℕ
after_private_start =
    36 ∷ 0 ∷ 0 ∷ 0 ∷ 0 ∷ 0 ∷ 0 ∷ 66 ∷ 66 ∷ 66 ∷ 0 ∷ 0 ∷ 0 ∷ 0 ∷ 67 ∷ 67 ∷ 67 ∷ 67
    ∷ 0 ∷ 0 ∷ 68 ∷ 68 ∷ 68 ∷ 68 ∷ 0 ∷ 0 ∷ 69 ∷ 69 ∷ 69 ∷ 69 ∷ 0 ∷ 0 ∷ 70 ∷ 70 ∷ 70 ∷ 70
    ∷ 0 ∷ 0 ∷ 71 ∷ 71 ∷ 71 ∷ 71 ∷ 0 ∷ 0 ∷ 72 ∷ 72 ∷ 72 ∷ 72 ∷ 0 ∷ 0 ∷ 73 ∷ 73 ∷ 73 ∷ 73 ∷ []

-- a subtag of private use
abbrev after_private : List ℕ
after_private =
    36 ∷ 0 ∷ 0 ∷ 0 ∷ 0 ∷ 0 ∷ 0 ∷ 66 ∷ 66 ∷ 66 ∷ 0 ∷ 0 ∷ 0 ∷ 0 ∷ 67 ∷ 67 ∷ 67 ∷ 67
    ∷ 0 ∷ 0 ∷ 68 ∷ 68 ∷ 68 ∷ 68 ∷ 0 ∷ 0 ∷ 69 ∷ 69 ∷ 69 ∷ 69 ∷ 0 ∷ 0 ∷ 70 ∷ 70 ∷ 70 ∷ 70
    ∷ 0 ∷ 0 ∷ 71 ∷ 71 ∷ 71 ∷ 71 ∷ 0 ∷ 0 ∷ 72 ∷ 72 ∷ 72 ∷ 72 ∷ 0 ∷ 0 ∷ 73 ∷ 73 ∷ 73 ∷ 73 ∷ []

-- The states after each stage.
abbrev pub states : List (List ℕ)
states =
    after_none ∷ after_start ∷ after_language3 ∷ after_language2
    ∷ after_language1 ∷ after_language0 ∷ after_script ∷ after_variants
    ∷ after_singleton ∷ after_extension ∷ after_private_start ∷ after_private ∷ []
