-- Deltas and summaries in parts.
use Rattle.std.proofs.Common.{◌≡◌, ℕ, Bool, true, false, cond, List, [], ◌∷◌, None}
use Rattle.std.proofs.Common.{refl, sym, ap, ◌∙◌}
use Rattle.std.specs.FinMap.Entries.{find}
use Rattle.cell_core.specs.Entry.{key_cmp}
use Rattle.catalogue.specs.Entries.{Entries}
use Rattle.cata_core.specs.Delta.{Stamps, summary_of, is_missing, delta_of}
use Rattle.catalogue.specs.CatalogueParts.{part_of}
use Rattle.catalogue.proofs.CataloguePartsLemmas.{find-part}

-- The part of a delta is the delta of the part against the part of the summary.
pub part_of_delta : (messages : List ℕ → Bool) (cells : Entries) (summary : Stamps)
    → part_of messages (delta_of cells summary)
    ≡ delta_of (part_of messages cells) (part_of messages summary)
part_of_delta messages [] summary = refl
part_of_delta messages (e ∷ es) summary =
    let rest = part_of_delta messages es summary in
    let whole = delta_of es summary in
    let part = part_of messages es in
    let summarised = part_of messages summary in
    elim (messages e.0.0) as
    (λ b. messages e.0.0 ≡ b
    → part_of messages
    (cond (is_missing (find key_cmp e.0 summary) e.1.stamp) (e ∷ whole) whole)
    ≡ delta_of (cond b (e ∷ part) part) summarised) [
      | true ↦ λ b.
          let same : is_missing (find key_cmp e.0 summarised) e.1.stamp
          ≡ is_missing (find key_cmp e.0 summary) e.1.stamp =
          ap (λ o. is_missing o e.1.stamp)
          (find-part messages e.0 summary ∙ ap (λ u. cond u (find key_cmp e.0 summary) None) b)
          in
          elim (is_missing (find key_cmp e.0 summary) e.1.stamp) as
          (λ n. is_missing (find key_cmp e.0 summary) e.1.stamp ≡ n
          → part_of messages (cond n (e ∷ whole) whole)
          ≡ cond (is_missing (find key_cmp e.0 summarised) e.1.stamp)
          (e ∷ delta_of part summarised) (delta_of part summarised)) [
            | true ↦
                λ n. ap (λ u. cond u (e ∷ part_of messages whole) (part_of messages whole)) b
                ∙ ap (λ xs. e ∷ xs) rest
                ∙ ap (λ u. cond u (e ∷ delta_of part summarised) (delta_of part summarised))
                (sym (same ∙ n))
            | false ↦
                λ n. rest
                ∙ ap (λ u. cond u (e ∷ delta_of part summarised) (delta_of part summarised))
                (sym (same ∙ n))
          ] refl
      | false ↦
          λ b. elim (is_missing (find key_cmp e.0 summary) e.1.stamp) as
          (λ n. part_of messages (cond n (e ∷ whole) whole) ≡ delta_of part summarised) [
            | true ↦ ap (λ u. cond u (e ∷ part_of messages whole) (part_of messages whole)) b ∙ rest
            | false ↦ rest
          ]
    ] refl

-- The part of a summary is the summary of the part.
pub part_of_summary : (messages : List ℕ → Bool) (cells : Entries)
    → part_of messages (summary_of cells) ≡ summary_of (part_of messages cells)
part_of_summary messages [] = refl
part_of_summary messages (e ∷ es) =
    let rest = part_of_summary messages es in
    elim (messages e.0.0) as
    (λ b. cond b ((e.0, e.1.stamp) ∷ part_of messages (summary_of es))
    (part_of messages (summary_of es))
    ≡ summary_of (cond b (e ∷ part_of messages es) (part_of messages es))) [
      | true ↦ ap (λ xs. (e.0, e.1.stamp) ∷ xs) rest
      | false ↦ rest
    ]
