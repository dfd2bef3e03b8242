-- What words that request help mean (project rule).
use Rattle.std.specs.Prelude.{List, [], ◌∷◌, codes, if◌then◌else◌}
use Rattle.std.specs.Str.{bytes_eq}
use Rattle.clap.specs.Words.{Text}

-- `help` means `--help`, and `help COMMAND` means `COMMAND --help`; all other words mean themselves
abbrev pub words_meant : List Text → List Text
words_meant (word ∷ []) = if bytes_eq word (codes "help") then codes "--help" ∷ [] else word ∷ []
words_meant (word ∷ command ∷ []) = if bytes_eq word (codes "help") then
    command ∷ codes "--help" ∷ [] else word ∷ command ∷ []
words_meant words = words
