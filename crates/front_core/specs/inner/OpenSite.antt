-- The name of a new site, and what a refused join leaves of one.
use Rattle.std.specs.Prelude.{◌≡◌, ℕ, List, ◌⊎◌}
use Rattle.std.specs.Str.{IsUtf8}
use Rattle.cell_core.specs.SiteName.{IsSiteName}
use Rattle.catalogue.specs.Entries.{Entries}
use Rattle.front_core.specs.OpenSite.{Edits, IsPartlyJoined, IsPartlyJoinedOwn}
use Rattle.cata_core.specs.declared.delta.Delta.{Delta}
use Rattle.site_docs.specs.declared.checks.OwnEdits.{OwnEdits}

-- the name that the bytes are
abbrev pub IsName : List ℕ → List ℕ → Type 0
IsName bytes name = IsUtf8 bytes × IsSiteName bytes × (name ≡ bytes)

-- ---- joins

-- a join that is refused leaves the site as it was, or partly joined
abbrev pub LeavesJoin : Entries → Edits
LeavesJoin cells old new = (new ≡ old) ⊎ IsPartlyJoined cells old new

-- ---- joins after the test for own edits

-- the site is as it was, or partly joined
abbrev pub LeavesJoinOwn : OwnEdits → Entries → Edits
LeavesJoinOwn own cells old new = (new ≡ old) ⊎ IsPartlyJoinedOwn own cells old new

-- ---- deltas

-- the site is as it was, or partly joined if the delta is for it
abbrev pub LeavesTakeDelta : OwnEdits → Delta → Edits
LeavesTakeDelta own delta old new =
    (new ≡ old) ⊎ ((old.name ≡ delta.addressee) × IsPartlyJoinedOwn own delta.cells old new)
