-- An input is cut after a text that was written.
use Rattle.std.proofs.Common.{◌≡◌, ◌≢◌, ◌∙◌, ◌+◌, ◌==◌, ℕ, List, [], ◌∷◌, ◌++◌, false}
use Rattle.std.proofs.Common.{true, not, length, length-append, refl, ap, sym, subst, arith}
use Rattle.std.specs.Prelude.{All, Some, drop, nat_lt, position}
use Rattle.std.specs.List.{prefix_len}
use Rattle.std.proofs.lemmas.Bool.Decides.{nat_tests}
use Rattle.std.proofs.lemmas.List.{append_assoc, drop_at, take_at}
use Rattle.std.proofs.lemmas.List.Elements.{All-head, All-tail}
use Rattle.cata_core.specs.Site.{SiteState}
use Rattle.row_docs.specs.Entries.{cells_values}
use Rattle.site_docs.specs.Reading.{IsSiteText, ReadsAsSite}
use Rattle.site_docs.specs.SiteDocuments.{IsSiteDocument, site_checks}
use Rattle.row_docs.specs.WritingTexts.{IsOneLine}
use Rattle.site_docs.specs.DocumentsValues.{site_value}
use Rattle.map_docs.specs.MapsLabels.{AreLangMaps, ReadsAsLangMaps}
use Rattle.map_docs.specs.LabelsChecks.{langmaps_checks}
use Rattle.map_docs.specs.Maps.{Labelled}
use Rattle.docs_core.proofs.LinesFreeLineFeed.{free}
use Rattle.row_docs.proofs.WritingOneLine.{one_line}
use Rattle.docs_core.specs.Lines.{AreDocuments}

other : (b : ℕ) → b ≢ 10 → (b == 10) ≡ false
other b h = grind (arith, nat_tests, h)

-- the bytes before the first line feed are those of the line
before : (line rest : List ℕ) → All (λ b. b ≢ 10) line
    → prefix_len (λ b. not (b == 10)) (line ++ 10 ∷ rest) ≡ length line
before [] rest h = refl
before (b ∷ line) rest h =
    let test : (b == 10) ≡ false = other b (All-head (λ c. c ≢ 10) b line h) in
    let more = before line rest (All-tail (λ c. c ≢ 10) b line h) in
    rw test (omega (arith, more))

within : (line rest : List ℕ) → nat_lt (length line) (length (line ++ 10 ∷ rest)) ≡ true
within line rest = let size = length-append line (10 ∷ rest) in grind (arith, nat_tests, size)

first : (line rest : List ℕ) → All (λ b. b ≢ 10) line
    → position (λ b. b == 10) (line ++ 10 ∷ rest) ≡ Some (length line)
first line rest h = rw (before line rest h, within line rest) refl

cut : (line rest : List ℕ) → All (λ b. b ≢ 10) line → AreDocuments (line ++ 10 ∷ rest) line rest
cut line rest h =
    let size : length (line ++ 10 ∷ []) ≡ length line + 1 = length-append line (10 ∷ []) in
    let behind : drop (length line + 1) (line ++ 10 ∷ rest) ≡ rest =
    ap (drop (length line + 1)) (sym (append_assoc line (10 ∷ []) rest))
    ∙ drop_at (line ++ 10 ∷ []) rest (length line + 1) size in
    rw (first line rest h) (sym (take_at line (10 ∷ rest) (length line) refl), sym behind)

cut_behind : (text line rest : List ℕ) → text ≡ line ++ 10 ∷ [] → All (λ b. b ≢ 10) line
    → AreDocuments (text ++ rest) line rest
cut_behind text line rest is h =
    let whole : text ++ rest ≡ line ++ 10 ∷ rest =
    ap (λ (t : List ℕ). t ++ rest) is ∙ append_assoc line (10 ∷ []) rest in
    subst (λ (t : List ℕ). AreDocuments t line rest) (sym whole) (cut line rest h)

-- The text of a site that was written is read as the first document of an input.
pub written_site : (site : SiteState) (text rest : List ℕ) → IsSiteText site text
    → (document : List ℕ) × AreDocuments (text ++ rest) document rest × ReadsAsSite document site
written_site site text rest is =
    let one = one_line (site_value site.name (cells_values site.cells)) in
    let whole : text ≡ one.0 ++ 10 ∷ [] = is.0 ∙ one.1 in (
      one.0,
      cut_behind text one.0 rest whole one.2,
      (free site_checks IsSiteDocument one.0 site).0
          (subst (λ (t : List ℕ). ReadsAsSite t site) whole is.1),
    )

-- So are the language maps of a text that is one line.
pub written_labels : (labels : List Labelled) (text rest : List ℕ) → IsOneLine text
    → AreLangMaps text labels
    → (document : List ℕ) × AreDocuments (text ++ rest) document rest × AreLangMaps document labels
written_labels labels text rest one reads = (
  one.0,
  cut_behind text one.0 rest one.1 one.2,
  (free langmaps_checks ReadsAsLangMaps one.0 labels).0
      (subst (λ (t : List ℕ). AreLangMaps t labels) one.1 reads),
)
