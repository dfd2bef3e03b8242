-- The refusals: their numbers, and when each is answered. Of two faults that fit, at most one is.
use Rattle.std.specs.Prelude.{◌≡◌, ℕ, List, length, Some}
use Rattle.std.specs.List.{position}
use Rattle.cell_core.specs.declared.fault.CellFault.{CellFault}
use Rattle.cell_core.specs.declared.fault.CellFault.TheVariants.{SiteName, IdRefused, LabelCount}
use Rattle.cell_core.specs.declared.fault.CellFault.TheVariants.{TextTooLong, ClockSpent, NoMemory}
use Rattle.cell_core.specs.SiteName.{IsSiteName}
use Rattle.cell_core.specs.MessageId.{IsMessageId, IdTakesMemory}
use Rattle.cell_core.specs.Label.{IsLabel, IsLabelCount, is_too_long}

-- the number of each (project rule)
abbrev pub number_of : CellFault → ℕ
number_of IdRefused = 10
number_of (TextTooLong index) = 11
number_of (LabelCount count) = 12
number_of ClockSpent = 14
number_of NoMemory = 26
number_of SiteName = 27

-- a name that is none
abbrev pub RefusesName : List ℕ → CellFault → Type 0
RefusesName text SiteName = ¬ (IsSiteName text)
RefusesName text _ = ⊥

-- out of memory comes last, and for a long id alone
abbrev pub RefusesId : List ℕ → CellFault → Type 0
RefusesId text IdRefused = ¬ (IsMessageId text)
RefusesId text NoMemory = IsMessageId text × IdTakesMemory text
RefusesId text _ = ⊥

-- the count is looked at first, then the first text that is too long
abbrev pub RefusesTexts : List (List ℕ) → CellFault → Type 0
RefusesTexts texts (LabelCount count) = (count ≡ length texts) × ¬ (IsLabelCount (length texts))
RefusesTexts texts (TextTooLong index) =
    IsLabelCount (length texts) × (position is_too_long texts ≡ Some index)
RefusesTexts texts _ = ⊥

-- the same, and out of memory last
abbrev pub RefusesLabel : List (List ℕ) → CellFault → Type 0
RefusesLabel texts NoMemory = IsLabel texts
RefusesLabel texts fault = RefusesTexts texts fault
