use Rattle.std.specs.Prelude.{ℕ, ◌≢◌, List, [], ◌∷◌}
use Rattle.std.specs.String.{string_bytes}
use Rattle.lang_core.specs.Text.{pieces, joined}
use Rattle.lang_core.specs.Matching.{as_basic}
use Rattle.lang_core.specs.declared.lookup_text.LookupText.{LookupText}
use Rattle.lang_core.specs.declared.lookup_text.LookupText.TheVariants.{Own, Every, Other}

-- RFC 4647 section 3.2: the text of an extended range as a basic one
abbrev pub lookup_text : List ℕ → List ℕ
lookup_text range = joined (as_basic (pieces range))

-- what is kept of it beside the range's own text
abbrev pub kept_text : List ℕ → LookupText → List ℕ
kept_text own Own = own
kept_text own Every = 42 ∷ []
kept_text own (Other text) = string_bytes text

-- the lookup text is neither the range's own text nor "*"
abbrev pub HasOtherText : List ℕ → Type 0
HasOtherText range = (lookup_text range ≢ range) × (lookup_text range ≢ 42 ∷ [])

-- a text is kept beside that of such a range alone
abbrev pub IsKeptFor : List ℕ → LookupText → Type 0
IsKeptFor range Own = Unit {0}
IsKeptFor range Every = Unit {0}
IsKeptFor range (Other text) = HasOtherText range
