-- What is known of the latest stamp once cells have come in.
use Rattle.std.specs.Prelude.{Option}
use Rattle.cell_core.specs.declared.stamp.Stamp.{Stamp}
use Rattle.cell_core.specs.Cell.{joined_stamps}
use Rattle.cell_core.specs.Keyed.{joined_if_both}
use Rattle.cata_core.specs.declared.latest.Latest.{Latest}
use Rattle.cata_core.specs.declared.latest.Latest.TheVariants.{Known, Unknown}

-- what is known with cells besides whose latest stamp is this
abbrev pub known_with : Latest → Option Stamp → Latest
known_with (Known latest) other = Known (joined_if_both joined_stamps latest other)
known_with Unknown other = Unknown
