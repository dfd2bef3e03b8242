-- What a handle has once a site was made for it.
use Rattle.std.specs.Prelude.{◌≡◌, ◌⊎◌, Option, Some, MatchResult, Result}
use Rattle.cata_core.specs.Site.{SiteState}
use Rattle.front_core.specs.declared.fault.FrontFault.{FrontFault}
use Rattle.front_core.specs.declared.fault.FrontFault.TheVariants.{NoMemory}
use Rattle.front_c.specs.Reporting.{Reports, ReportsDone, ReportsFault}

-- the handle has the site that was made; or it is as it was, since none was made or memory ended
abbrev pub IsHeld : Result SiteState FrontFault → Option SiteState → Option SiteState → Reports
IsHeld made old new told status =
    MatchResult made
    (λ site. ((new ≡ Some site) × ReportsDone told status)
    ⊎ ((new ≡ old) × ReportsFault NoMemory told status))
    (λ fault. (new ≡ old) × ReportsFault fault told status)
