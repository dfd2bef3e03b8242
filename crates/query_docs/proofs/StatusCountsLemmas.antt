-- The counts of cells with one cell more.
use Rattle.std.proofs.Common.{◌≡◌, ◌∙◌, ◌+◌, ◌++◌, [], ◌∷◌, ap, cond, count_by, length}
use Rattle.std.proofs.Common.{length-append, refl, sym, zero-add}
use Rattle.std.proofs.lemmas.List.Sums.{sum_by-append}
use Rattle.std.specs.Prelude.{Some}
use Rattle.cell_core.specs.Cell.{joined_stamps}
use Rattle.cell_core.specs.Keyed.{joined_if_both}
use Rattle.catalogue.specs.Entries.{Entries, Entry}
use Rattle.catalogue.specs.CatalogueLatest.{latest_of}
use Rattle.catalogue.proofs.CatalogueLatestLemmas.{latest_assoc}
use Rattle.query_docs.specs.inner.StatusCounts.{AreCounts}
use Rattle.query_docs.specs.Status.{is_labelled}
use Rattle.query_docs.specs.declared.status.Counts.{Counts}

length_more : (cells : Entries) (e : Entry) → length (cells ++ e ∷ []) ≡ length cells + 1
length_more cells e = length-append cells (e ∷ [])

labels_more : (cells : Entries) (e : Entry)
    → count_by is_labelled (cells ++ e ∷ [])
    ≡ count_by is_labelled cells + cond (is_labelled e) 1 0
labels_more cells e =
    sum_by-append (λ (x : Entry). cond (is_labelled x) 1 0) cells (e ∷ [])
    ∙ ap (λ n. count_by is_labelled cells + n) (zero-add (cond (is_labelled e) 1 0))

-- The latest stamp with one more entry is the later of the two.
pub latest_more : (cells : Entries) (e : Entry)
    → latest_of (cells ++ e ∷ [])
    ≡ joined_if_both joined_stamps (latest_of cells) (Some e.1.stamp)
latest_more [] e = refl
latest_more (x ∷ xs) e =
    ap (joined_if_both joined_stamps (Some x.1.stamp)) (latest_more xs e)
    ∙ sym (latest_assoc (Some x.1.stamp) (latest_of xs) (Some e.1.stamp))

-- Counts that have one cell more are those of the cells with that one.
pub counts_more : (old new : Counts) (cells : Entries) (e : Entry) → new.cells ≡ old.cells + 1
    → new.labels ≡ old.labels + cond (is_labelled e) 1 0
    → new.last ≡ joined_if_both joined_stamps old.last (Some e.1.stamp)
    → AreCounts old cells → AreCounts new (cells ++ e ∷ [])
counts_more old new cells e more labels last are = record {
  cells_are = more ∙ ap (λ n. n + 1) are.cells_are ∙ sym (length_more cells e);
  labels_are =
      labels ∙ ap (λ n. n + cond (is_labelled e) 1 0) are.labels_are ∙ sym (labels_more cells e);
  last_is =
      last ∙ ap (λ o. joined_if_both joined_stamps o (Some e.1.stamp)) are.last_is
      ∙ sym (latest_more cells e);
}
