use Rattle.std.specs.Prelude.{ℕ, ◌≡◌, ◌<◌, ◌⊎◌, Bool, List, [], length}
use Rattle.lang_core.specs.Text.{pieces, IsSized}
use Rattle.lang_core.specs.Grammar.{IsFirstRefused}
use Rattle.lang_core.specs.LowerText.{TakesMemory}
use Rattle.lang_core.specs.LookupText.{HasOtherText}
use Rattle.lang_core.specs.declared.fault.LangFault.{LangFault}
use Rattle.lang_core.specs.declared.fault.LangFault.TheVariants.{RangeEmpty, RangeTooLong}
use Rattle.lang_core.specs.declared.fault.LangFault.TheVariants.{RangeSubtag, NoMemory}

-- a text in lower case is a range of a grammar, which says which pieces may be where
abbrev pub IsRange : (List (List ℕ) → Type 0) → List ℕ → Type 0
IsRange Grammar text = IsSized text × Grammar (pieces text)

-- project rule: a range takes memory for its text, and for a lookup text that is neither that text
-- nor "*"
abbrev pub RangeTakesMemory : List ℕ → Type 0
RangeTakesMemory range = TakesMemory range ⊎ HasOtherText range

-- why a text in lower case is no such range, or that it is one and there was no memory for it
abbrev pub RefusesRange : (List (List ℕ) → Type 0) → (ℕ → List ℕ → Bool) → List ℕ → LangFault
    → Type 0
RefusesRange Grammar allowed text RangeEmpty = text ≡ []
RefusesRange Grammar allowed text RangeTooLong = 255 < length text
RefusesRange Grammar allowed text (RangeSubtag offset) =
    IsSized text × ¬ Grammar (pieces text) × IsFirstRefused allowed (pieces text) offset
RefusesRange Grammar allowed text NoMemory = IsRange Grammar text × RangeTakesMemory text
RefusesRange Grammar allowed text _ = ⊥
