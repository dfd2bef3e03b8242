-- What a site knows of the latest stamp after a join.
use Rattle.std.proofs.Common.{◌≡◌, Option, sym, ◌∙◌, ap}
use Rattle.cell_core.specs.declared.stamp.Stamp.{Stamp}
use Rattle.cell_core.specs.Cell.{joined_stamps}
use Rattle.cell_core.specs.Keyed.{joined_if_both}
use Rattle.cata_core.specs.declared.latest.Latest.{Latest}
use Rattle.cata_core.specs.declared.latest.Latest.TheVariants.{Known, Unknown}
use Rattle.catalogue.specs.Entries.{Entries, Agree, joined}
use Rattle.cata_core.specs.LatestKnown.{IsKnownLatest}
use Rattle.cata_core.specs.inner.LatestKnown.{known_with}
use Rattle.catalogue.specs.CatalogueLatest.{latest_of}
use Rattle.catalogue.proofs.CatalogueJoinedLatestLemmas.{latest_joined}

-- What is known of a catalogue, with the latest stamp of another, is true of the join of both.
pub known_joined : (l : Latest) (own other new : Entries) (s : Option Stamp) → IsKnownLatest l own
    → Agree own other → s ≡ latest_of other → new ≡ joined own other
    → IsKnownLatest (known_with l s) new
known_joined (Known latest) own other new s known agree is joins =
    (λ i. joined_if_both joined_stamps (known i) (is i)) ∙ sym (latest_joined own other agree)
    ∙ sym (ap latest_of joins)
known_joined Unknown own other new s known agree is joins = tt
