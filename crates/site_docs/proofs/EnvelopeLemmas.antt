-- The two parts of the document of a site, a delta or a summary, put together.
use Rattle.std.proofs.Common.{◌≡◌, ◌∙◌, ◌++◌, ◌∷◌, [], ℕ, List, ap, append_assoc, codes, decimal}
use Rattle.std.proofs.Common.{false, refl, subst, sym}
use Rattle.std.proofs.lemmas.Str.{IsUtf8-append}
use Rattle.std.specs.Prelude.{IsUtf8}
use Rattle.json.specs.Print.{print, print_from, quoted}
use Rattle.serde_json.specs.Data.{Data}
use Rattle.cell_core.specs.SiteName.{IsSiteName}
use Rattle.cata_core.specs.Delta.{Stamps}
use Rattle.catalogue.specs.Entries.{Entries}
use Rattle.cata_core.specs.Site.{SiteState}
use Rattle.cata_core.specs.Summary.{SummaryState}
use Rattle.cata_core.specs.declared.delta.Delta.{Delta as DeltaState}
use Rattle.row_docs.specs.Entries.{cells_values, stamps_values}
use Rattle.row_docs.specs.Kinds.{kind_text, subject_of}
use Rattle.row_docs.specs.WritingTexts.{text}
use Rattle.row_docs.specs.declared.kind.Kind.{Kind}
use Rattle.row_docs.specs.declared.kind.Kind.TheVariants.{Delta, Site}
use Rattle.site_docs.specs.Envelope.{cells_opening}
use Rattle.site_docs.specs.inner.Envelope.{IsFront, IsStampsFront, end_text, stamps_end}
use Rattle.site_docs.specs.inner.Envelope.{stamps_opening}
use Rattle.site_docs.specs.Documents.{delta_text, site_text, summary_text}
use Rattle.site_docs.specs.Plain.{cells_document, last_members, open_items}
use Rattle.site_docs.specs.Reading.{IsDeltaText, IsSiteText, IsSummaryText, ReadsAsDelta}
use Rattle.site_docs.specs.Reading.{ReadsAsSite, ReadsAsSummary}
use Rattle.site_docs.specs.DocumentsValues.{summary_value}
use Rattle.site_docs.proofs.PlainLemmas.{items_closed, whole}
use Rattle.site_docs.proofs.WritingRoundTrip.{delta_again, site_again, summary_again}

cells_joined : (cells items kind_name kind subject name version two : List ℕ)
    → ((123 ∷ ((cells ++ 58 ∷ []) ++ 91 ∷ [])) ++ items)
    ++ ((93 ∷ 44 ∷ ((kind_name ++ 58 ∷ []) ++ (kind ++ 44 ∷ ((subject ++ 58 ∷ []) ++
    (name ++ 44 ∷ ((version ++ 58 ∷ []) ++ (two ++ 125 ∷ []))))))) ++ 10 ∷ [])
    ≡ 123 ∷ (cells ++ 58 ∷ 91 ∷ ((items ++ 93 ∷ []) ++ 44 ∷ (kind_name ++ 58 ∷ (kind ++ 44 ∷
    (subject ++ 58 ∷ (name ++ 44 ∷ (version ++ 58 ∷ (two ++ 125 ∷ 10 ∷ []))))))))
cells_joined cells items kind_name kind subject name version two = simp append_assoc

-- as far as the cells, and what follows them
cells_whole : (kind : Kind) (name : List ℕ) (cells : Entries)
    → (print cells_opening ++ open_items false (cells_values cells)) ++ end_text kind name
    ≡ text (cells_document kind name (cells_values cells))
unfolding print_from
cells_whole kind name cells =
    let items = open_items false (cells_values cells) in
    let left = last_members (kind_text kind) (subject_of kind) name (125 ∷ 10 ∷ []) in
    whole kind _ (91 ∷ ((items ++ 93 ∷ []) ++ left)) left name (10 ∷ []) cells
    (cells_joined (quoted (codes "cells")) items (quoted (codes "kind")) (quoted (kind_text kind))
    (quoted (subject_of kind)) (quoted name) (quoted (codes "version")) (decimal 2))
    (ap (λ t. 91 ∷ (t ++ left)) (sym (items_closed false (cells_values cells)))) refl

stamps_joined : (kind summary own owner stamps items version two : List ℕ)
    → ((123 ∷ ((kind ++ 58 ∷ []) ++ (summary ++ 44 ∷ ((own ++ 58 ∷ []) ++ (owner ++ 44 ∷
    ((stamps ++ 58 ∷ []) ++ 91 ∷ [])))))) ++ items)
    ++ ((93 ∷ 44 ∷ ((version ++ 58 ∷ []) ++ (two ++ 125 ∷ []))) ++ 10 ∷ [])
    ≡ (123 ∷ (kind ++ 58 ∷ (summary ++ 44 ∷ (own ++ 58 ∷ (owner ++ 44 ∷ (stamps ++ 58 ∷ 91 ∷
    ((items ++ 93 ∷ []) ++ 44 ∷ (version ++ 58 ∷ (two ++ 125 ∷ []))))))))) ++ 10 ∷ []
stamps_joined kind summary own owner stamps items version two = simp append_assoc

-- as far as the stamps, and what follows them
stamps_whole : (owner : List ℕ) (rows : List Data)
    → (print (stamps_opening owner) ++ open_items false rows) ++ stamps_end
    ≡ text (summary_value owner rows)
unfolding print_from
stamps_whole owner rows =
    rw (items_closed false rows)
    (stamps_joined (quoted (codes "kind")) (quoted (codes "summary")) (quoted (codes "owner"))
    (quoted owner) (quoted (codes "stamps")) (open_items false rows) (quoted (codes "version"))
    (decimal 2))

-- the text as far as the cells and what follows them are the document of the site
pub site_together : (name front end bytes : List ℕ) (cells : Entries) → IsSiteName name
    → IsFront cells front → end ≡ end_text Site name → IsUtf8 end → bytes ≡ front ++ end
    → IsSiteText (record { name = name; cells = cells }) bytes
site_together name front end bytes cells is_name is_front ended utf8 both =
    let site : SiteState = record { name = name; cells = cells } in
    let is : bytes ≡ site_text site = both ∙ ap (λ t. front ++ t) ended
    ∙ ap (λ t. t ++ end_text Site name) is_front.text ∙ cells_whole Site name cells in
    let written : IsUtf8 (site_text site) =
    subst IsUtf8 (sym both ∙ is) (IsUtf8-append front end is_front.utf8 utf8) in (
      is,
      subst (λ doc. ReadsAsSite doc site) (sym is) (site_again site is_name is_front.kept written),
    )

-- the same of a delta
pub delta_together : (name front end bytes : List ℕ) (cells : Entries) → IsSiteName name
    → IsFront cells front → end ≡ end_text Delta name → IsUtf8 end → bytes ≡ front ++ end
    → IsDeltaText (record { addressee = name; cells = cells }) bytes
delta_together name front end bytes cells is_name is_front ended utf8 both =
    let delta : DeltaState = record { addressee = name; cells = cells } in
    let is : bytes ≡ delta_text delta = both ∙ ap (λ t. front ++ t) ended
    ∙ ap (λ t. t ++ end_text Delta name) is_front.text ∙ cells_whole Delta name cells in
    let written : IsUtf8 (delta_text delta) =
    subst IsUtf8 (sym both ∙ is) (IsUtf8-append front end is_front.utf8 utf8) in (
      is,
      subst
          (λ doc. ReadsAsDelta doc delta)
          (sym is)
          (delta_again delta is_name is_front.kept written),
    )

-- the same of a summary
pub summary_together : (owner front end bytes : List ℕ) (stamps : Stamps) → IsSiteName owner
    → IsStampsFront owner stamps front → end ≡ stamps_end → IsUtf8 end → bytes ≡ front ++ end
    → IsSummaryText (record { owner = owner; stamps = stamps }) bytes
summary_together owner front end bytes stamps is_owner is_front ended utf8 both =
    let summary : SummaryState = record { owner = owner; stamps = stamps } in
    let is : bytes ≡ summary_text summary = both ∙ ap (λ t. front ++ t) ended
    ∙ ap (λ t. t ++ stamps_end) is_front.text ∙ stamps_whole owner (stamps_values stamps) in
    let written : IsUtf8 (summary_text summary) =
    subst IsUtf8 (sym both ∙ is) (IsUtf8-append front end is_front.utf8 utf8) in (
      is,
      subst (λ doc. ReadsAsSummary doc summary) (sym is)
          (summary_again summary is_owner is_front.kept written),
    )
