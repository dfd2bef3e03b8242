-- What an exchange by a summary that shows labels notices.
use Rattle.std.proofs.Common.{◌≡◌, ◌∙◌, ℕ, List, ap, ap₂, inl, inr, refl, subst}
use Rattle.std.specs.Prelude.{◌↔◌, None}
use Rattle.catalogue.specs.CataFault.{IsRefusal}
use Rattle.cata_core.specs.Site.{SiteState}
use Rattle.cata_core.specs.declared.delta.Delta.{Delta}
use Rattle.json_docs.specs.declared.fault.DocFault.{DocFault}
use Rattle.site_docs.specs.Checks.{no_checks}
use Rattle.site_docs.specs.Reading.{ReadsAsDelta, ReadsAsSite}
use Rattle.site_docs.specs.declared.checks.OwnEdits.TheVariants.{Unchecked}
use Rattle.site_docs.proofs.ReadingOneDocument.{one_delta, one_site}
use Rattle.summary_docs.specs.Shown.{DigestsTell, ShownState, delta_for, shown_of}
use Rattle.summary_docs.specs.declared.summaries.Shows.TheVariants.{Labels}
use Rattle.summary_docs.proofs.ReadingLemmas.{one_shown}
use Rattle.summary_docs.proofs.ShownDeltaLemmas.{checked_refused}
use Rattle.docs_core.specs.Calls.{IsDeltaFor, IsOfSite, IsSummarised, RefusesJoin, RefusesSync}
use Rattle.docs_core.specs.Calls.{RefusesTaken, RefusesTaking}
use Rattle.docs_core.proofs.CallLaws.{delta_in_time_not_refused}
use Rattle.docs_core.proofs.CallRefusals.{site_ascends, site_not_refused}
use Rattle.docs_core.proofs.SitesExchangedLemmas.{told_by, told_reads}

-- the delta that the other makes for the summary with labels
abbrev made : SiteState → SiteState → Delta
made site other = record {
  addressee = site.name;
  cells = delta_for other.cells (shown_of site.name site.cells);
}

made_reads : (a b told delta : List ℕ) (site other : SiteState) → ReadsAsSite a site
    → ReadsAsSite b other → IsSummarised Labels a told → IsDeltaFor b told delta
    → ReadsAsDelta delta (made site other)
made_reads a b told delta site other reads_site reads_other (s, s_reads, summarised)
    (o, shown, o_reads, shown_reads, news) =
    let summary : shown ≡ shown_of site.name site.cells =
    one_shown told shown (told_by Labels s) shown_reads (told_reads Labels s told summarised)
    ∙ ap (told_by Labels) (one_site a s site s_reads reads_site) in
    subst (ReadsAsDelta delta)
    (ap₂ (λ (x : SiteState) (y : ShownState). let r : Delta =
    record { addressee = y.summary.owner; cells = delta_for x.cells y } in r)
    (one_site b o other o_reads reads_other) summary) news.1

module _ (a b delta : List ℕ) (site other : SiteState) (fault : DocFault)
    (reads_site : ReadsAsSite a site) (reads_other : ReadsAsSite b other)
    (tells : DigestsTell site.cells other.cells)
    (reads_made : ReadsAsDelta delta (made site other)) where
  clashes : IsOfSite (IsRefusal site.cells (delta_for other.cells (shown_of site.name site.cells)))
      fault ↔ IsOfSite (IsRefusal site.cells other.cells) fault
  clashes =
      let same = checked_refused site.cells other.cells site.name (site_ascends a site reads_site)
      (site_ascends b other reads_other) tells in (
        λ why. (why.0, why.1, (same why.0).0 why.2, why.3),
        λ why. (why.0, why.1, (same why.0).1 why.2, why.3),
      )

  taken_synced : RefusesTaking no_checks a delta fault → RefusesSync no_checks a b fault
  taken_synced why = elim why [
    | inl one ↦ absurd (site_not_refused 1 a site fault reads_site one)
    | inr later ↦ elim later [
      | inl (s, r, refused) ↦ absurd (delta_in_time_not_refused 2 None delta (made site other)
          fault (reads_made, tt) refused)
      | inr (s, d, r, t, refused) ↦ joined
          (subst (λ (e : Delta). RefusesTaken Unchecked site e fault)
          (one_delta delta d (made site other) t.0 reads_made)
          (subst (λ (z : SiteState). RefusesTaken Unchecked z d fault)
          (one_site a s site r reads_site) refused))
    ]
  ]
    where
      joined : RefusesTaken Unchecked site (made site other) fault
          → RefusesSync no_checks a b fault
      joined refused = elim refused [
        | inl another ↦ absurd (another.0 refl)
        | inr later ↦ elim later [
          | inl missing ↦ absurd missing.1
          | inr clash ↦
              inr (inr (inr (
                site,
                other,
                reads_site,
                reads_other,
                tt,
                tt,
                inr ((tt, tt), clashes.0 clash.2),
              )))
        ]
      ]

  synced_taken : RefusesSync no_checks a b fault → RefusesTaking no_checks a delta fault
  synced_taken why = elim why [
    | inl one ↦ absurd (site_not_refused 1 a site fault reads_site one)
    | inr later ↦ elim later [
      | inl (s, r, two) ↦ absurd (site_not_refused 2 b other fault reads_other two)
      | inr last ↦ elim last [
        | inl (s, o, r, t, ahead) ↦ elim ahead [ inl x ↦ absurd x | inr x ↦ absurd x.1 ]
        | inr (s, o, r, t, u, v, refused) ↦ taken
            (subst (λ (z : SiteState). RefusesJoin Unchecked site z fault)
            (one_site b o other t reads_other)
            (subst (λ (z : SiteState). RefusesJoin Unchecked z o fault)
            (one_site a s site r reads_site) refused))
      ]
    ]
  ]
    where
      taken : RefusesJoin Unchecked site other fault → RefusesTaking no_checks a delta fault
      taken refused = elim refused [
        | inl missing ↦ elim missing [ inl x ↦ absurd x | inr x ↦ absurd x.1 ]
        | inr clash ↦
            inr (inr (
              site,
              made site other,
              reads_site,
              (reads_made, tt),
              inr (inr (refl, tt, clashes.1 clash.1)),
            ))
      ]

-- an exchange by a summary that shows labels is refused exactly as a sync is
pub noticed : (a b told delta : List ℕ) (site other : SiteState) (fault : DocFault)
    → ReadsAsSite a site → ReadsAsSite b other → DigestsTell site.cells other.cells
    → IsSummarised Labels a told → IsDeltaFor b told delta
    → RefusesTaking no_checks a delta fault ↔ RefusesSync no_checks a b fault
noticed a b told delta site other fault reads_site reads_other tells summarised news =
    let reads_made =
    made_reads a b told delta site other reads_site reads_other summarised news in (
      taken_synced a b delta site other fault reads_site reads_other tells reads_made,
      synced_taken a b delta site other fault reads_site reads_other tells reads_made,
    )
