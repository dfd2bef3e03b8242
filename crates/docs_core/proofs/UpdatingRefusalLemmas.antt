-- Why an update is refused, and what its document is.
use Rattle.std.proofs.Common.{◌≡◌, ◌∙◌, ℕ, List, ap, inl, inr}
use Rattle.cata_core.specs.Site.{SiteState}
use Rattle.catalogue.specs.declared.cata_fault.CataFault.{CataFault}
use Rattle.catalogue.specs.declared.cata_fault.CataFault.TheVariants.{ClockSpent, NoMemory}
use Rattle.json_docs.specs.FaultChecks.{OrMemory}
use Rattle.json_docs.specs.Faults.{of_no_document, of_site}
use Rattle.json_docs.specs.declared.fault.DocFault.{DocFault}
use Rattle.row_docs.specs.Reading.{no_memory}
use Rattle.site_docs.specs.Reading.{ReadsAsSite}
use Rattle.map_docs.specs.MapsLabels.{AreLangMaps}
use Rattle.map_docs.specs.Maps.{Labelled}
use Rattle.docs_core.specs.Updating.{IsUpdated, RefusesUpdate, SpendsUpdate}
use Rattle.docs_core.specs.inner.Updating.{IsWithUpdates, RefusesUpdates}

-- why cells are not updated is why the changes of a site are refused
pub not_updated : (bytes : List ℕ) (now : ℕ) (before after : List Labelled) (site : SiteState)
    (cause : CataFault) (fault : DocFault) → ReadsAsSite bytes site
    → OrMemory NoMemory (λ c. (c ≡ ClockSpent) × SpendsUpdate now site.name before after site.cells)
    cause
    → fault ≡ of_no_document (of_site cause)
    → OrMemory no_memory (RefusesUpdates bytes now before after) fault
not_updated bytes now before after site cause fault reads why is = elim why [
  | inl memory ↦ inl (is ∙ ap (λ c. of_no_document (of_site c)) memory)
  | inr spent ↦ inr (inr (
    site,
    reads,
    spent.1,
    is ∙ ap (λ c. of_no_document (of_site c)) spent.0,
  ))
]

-- the labels are those of two language maps
module _ (bytes : List ℕ) (now : ℕ) (old new : List ℕ) (before after : List Labelled) where
  -- with the changes between these labels the site is updated
  pub maps_updated : (doc : List ℕ) → AreLangMaps old before → AreLangMaps new after
      → IsWithUpdates bytes now before after doc → IsUpdated bytes now old new doc
  maps_updated doc olds news (site, cells, reads, updates, text) =
      (site, before, after, cells, reads, olds, news, updates, text)

  -- why it is refused, so is the update
  pub maps_refused : (fault : DocFault) → AreLangMaps old before → AreLangMaps new after
      → OrMemory no_memory (RefusesUpdates bytes now before after) fault
      → OrMemory no_memory (RefusesUpdate bytes now old new) fault
  maps_refused fault olds news why = elim why [
    | inl memory ↦ inl memory
    | inr refused ↦ elim refused [
      | inl site ↦ inr (inl site)
      | inr (site, reads, spent, is) ↦
          inr (inr (inr (inr (site, before, after, reads, olds, news, spent, is))))
    ]
  ]
