-- What each refusal of a catalogue means, and what it leaves (project rules).
use Rattle.std.specs.Prelude.{◌≡◌, ℕ}
use Rattle.catalogue.specs.declared.cata_fault.CataFault.{CataFault}
use Rattle.catalogue.specs.declared.cata_fault.CataFault.TheVariants.{StampReused, ClockSpent}
use Rattle.catalogue.specs.declared.cata_fault.CataFault.TheVariants.{NotForMe, NoMemory}
use Rattle.catalogue.specs.Clash.{IsFirstClash}
use Rattle.cell_core.specs.Entry.{key_cmp}
use Rattle.catalogue.specs.Entries.{Entries, Agree, Between}

-- the number of a refusal
abbrev pub number_of : CataFault → ℕ
number_of (StampReused place stamp) = 13
number_of ClockSpent = 14
number_of (NotForMe addressee) = 15
number_of NoMemory = 26

-- why cells are refused: the least clash, or out of memory where there is none
abbrev pub IsRefusal : Entries → Entries → CataFault → Type 0
IsRefusal own other (StampReused place stamp) = IsFirstClash key_cmp own other place stamp
IsRefusal own other NoMemory = Agree own other
IsRefusal own other _ = ⊥

-- what a refusal leaves: all as it was, or for lack of memory at each key the old cell or the
-- join's
abbrev pub IsLeft : Entries → Entries → Entries → CataFault → Type 0
IsLeft old new other NoMemory = Between old new other
IsLeft old new other _ = new ≡ old
