-- A text reads as one site, one delta and one summary at most.
use Rattle.std.proofs.Common.{◌≡◌, ◌∙◌, ℕ, List, ap₂, sym}
use Rattle.serde_json.specs.Data.{Data}
use Rattle.catalogue.specs.Entries.{Entries}
use Rattle.cata_core.specs.Site.{SiteState}
use Rattle.cata_core.specs.Summary.{SummaryState}
use Rattle.cata_core.specs.declared.delta.Delta.{Delta}
use Rattle.row_docs.proofs.OneReading.{one_read, same_entries}
use Rattle.site_docs.specs.Reading.{ReadsAsDelta, ReadsAsSite, ReadsAsSummary}
use Rattle.site_docs.specs.SiteDocuments.{IsDeltaDocument, IsSiteDocument, IsSummaryDocument}
use Rattle.site_docs.specs.SiteDocuments.{delta_checks, site_checks, summary_checks}
use Rattle.catalogue.proofs.Basics.{some_same as inside}

site_is : (d : Data) (s t : SiteState) → IsSiteDocument d s → IsSiteDocument d t → s ≡ t
site_is d s t p q =
    ap₂ (λ (n : List ℕ) (es : Entries). let r : SiteState = record { name = n; cells = es } in r)
    (inside s.name t.name (sym p.name ∙ q.name)) (same_entries _ _ s.cells t.cells p.cells q.cells)

delta_is : (d : Data) (s t : Delta) → IsDeltaDocument d s → IsDeltaDocument d t → s ≡ t
delta_is d s t p q =
    ap₂ (λ (n : List ℕ) (es : Entries). let r : Delta = record { addressee = n; cells = es } in r)
    (inside s.addressee t.addressee (sym p.addressee ∙ q.addressee))
    (same_entries _ _ s.cells t.cells p.cells q.cells)

summary_is : (d : Data) (s t : SummaryState) → IsSummaryDocument d s → IsSummaryDocument d t → s ≡ t
summary_is d s t p q =
    ap₂ (λ (n : List ℕ) ts. let r : SummaryState = record { owner = n; stamps = ts } in r)
    (inside s.owner t.owner (sym p.owner ∙ q.owner))
    (same_entries _ _ s.stamps t.stamps p.stamps q.stamps)

-- a text reads as one site at most
pub one_site : (bytes : List ℕ) (s t : SiteState) → ReadsAsSite bytes s → ReadsAsSite bytes t
    → s ≡ t
one_site = one_read site_checks IsSiteDocument site_is

-- a text reads as one delta at most
pub one_delta : (bytes : List ℕ) (s t : Delta) → ReadsAsDelta bytes s → ReadsAsDelta bytes t → s ≡ t
one_delta = one_read delta_checks IsDeltaDocument delta_is

-- a text reads as one summary at most
pub one_summary : (bytes : List ℕ) (s t : SummaryState) → ReadsAsSummary bytes s
    → ReadsAsSummary bytes t → s ≡ t
one_summary = one_read summary_checks IsSummaryDocument summary_is
