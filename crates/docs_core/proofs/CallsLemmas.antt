-- What a call on documents writes, and which refusal it passes on.
use Rattle.std.proofs.Common.{◌≡◌, ◌∙◌, ℕ, List, ap, inl, inr, subst, sym}
use Rattle.std.specs.Prelude.{◌⊎◌}
use Rattle.cata_core.specs.Site.{SiteState}
use Rattle.catalogue.specs.declared.cata_fault.CataFault.{CataFault}
use Rattle.catalogue.specs.declared.cata_fault.CataFault.TheVariants as cata
use Rattle.json_docs.specs.FaultChecks.{OrMemory}
use Rattle.json_docs.specs.Faults.{of_no_document, of_site}
use Rattle.json_docs.specs.declared.fault.DocFault.{DocFault}
use Rattle.site_docs.specs.Documents.{site_text}
use Rattle.row_docs.specs.Reading.{IsOfDocument, no_memory}
use Rattle.site_docs.specs.Reading.{IsSiteText, ReadsAsSite, RefusesSite}
use Rattle.docs_core.specs.Calls.{IsOfSite}

-- the refusal of a site's call, as that of a call on documents
pub of_call : (Refuses : CataFault → Type 0) (cause : CataFault) (fault : DocFault) → Refuses cause
    → fault ≡ of_no_document (of_site cause) → OrMemory no_memory (IsOfSite Refuses) fault
of_call Refuses (cata.StampReused place stamp) fault why is =
    inr (cata.StampReused place stamp, (λ e. cc), why, is)
of_call Refuses cata.ClockSpent fault why is = inr (cata.ClockSpent, (λ e. cc), why, is)
of_call Refuses (cata.NotForMe addressee) fault why is =
    inr (cata.NotForMe addressee, (λ e. cc), why, is)
of_call Refuses cata.NoMemory fault why is = inl is

-- the document that was written for an equal site
pub site_written : (doc : List ℕ) (left site : SiteState) → left ≡ site → doc ≡ site_text left
    → ReadsAsSite doc left → IsSiteText site doc
site_written doc left site same text reads =
    (text ∙ ap site_text same, subst (ReadsAsSite doc) same reads)

-- where another document is refused, document 1 is refused before it or is read
pub refused_after : (bytes : List ℕ) (fault first : DocFault) (Refuses : DocFault → Type 0)
    → OrMemory no_memory (λ f. IsOfDocument 1 (RefusesSite bytes) f
    ⊎ ((site : SiteState) × ReadsAsSite bytes site × (f ≡ fault))) first
    → OrMemory no_memory Refuses fault
    → OrMemory no_memory (λ f. IsOfDocument 1 (RefusesSite bytes) f
    ⊎ ((site : SiteState) × ReadsAsSite bytes site × Refuses f)) first
refused_after bytes fault first Refuses why refused = elim why [
  | inl memory ↦ inl memory
  | inr before ↦ elim before [
    | inl site ↦ inr (inl site)
    | inr read ↦ elim refused [
      | inl memory ↦ inl (read.2 ∙ memory)
      | inr other ↦ inr (inr (read.0, read.1, subst Refuses (sym read.2) other))
    ]
  ]
]
