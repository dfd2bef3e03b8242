use Rattle.std.specs.Prelude.{ℕ, ◌≡◌, ◌≢◌, ◌⊎◌, codes, List, Option, Some, None, if◌then◌else◌}
use Rattle.std.specs.Str.{bytes_eq, str_to_ascii_lowercase}
use Rattle.lang_core.specs.Tag.{IsTag, RefusesTag}
use Rattle.lang_core.specs.declared.fault.LangFault.{LangFault}

-- JSON-LD 1.1, section 9.8: the key "@none" is that of a text without a language
abbrev pub none_text : List ℕ
none_text = codes "@none"

-- a text in lower case is a language: "@none", or a tag
abbrev pub IsLang : List ℕ → Type 0
IsLang text = (text ≡ none_text) ⊎ IsTag text

-- the tag that a language holds: none in "@none"
abbrev pub tag_of : List ℕ → Option (List ℕ)
tag_of lang = if bytes_eq lang none_text then None else Some lang

-- the bytes spell the language: "@none" byte for byte, or a tag in any case
abbrev pub SpellsLang : List ℕ → List ℕ → Type 0
SpellsLang bytes lang =
    ((bytes ≡ none_text) × (lang ≡ none_text))
    ⊎ (IsTag (str_to_ascii_lowercase bytes) × (lang ≡ str_to_ascii_lowercase bytes))

-- why the bytes spell no language: they are not "@none", and no tag either
abbrev pub RefusesLang : List ℕ → LangFault → Type 0
RefusesLang bytes fault = (bytes ≢ none_text) × RefusesTag (str_to_ascii_lowercase bytes) fault
