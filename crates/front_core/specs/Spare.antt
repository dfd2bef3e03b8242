-- A site before its last edits, and the cells that these brought (project rules).
use Rattle.std.specs.Prelude.{IfSome, Option}
use Rattle.cata_core.specs.Site.{SiteState}
use Rattle.front_core.specs.OpenSite.{IsJoined}
use Rattle.front_core.specs.declared.spare.Spare.{Spare}

-- the spare, joined with what it missed, is the site
abbrev pub IsSpareOf : SiteState → Option Spare → Type 0
IsSpareOf site spare = IfSome spare (λ s. IsJoined s.missed s.share.value site)
