-- The labels of each language, with one cell more.
use Rattle.std.proofs.Common.{◌≡◌, ◌∙◌, ◌+◌, ◌++◌, ℕ, List, [], ◌∷◌, ap, arith, cond, false}
use Rattle.std.proofs.Common.{refl, subst, suc, sym, true, zero}
use Rattle.std.specs.Prelude.{◌&&◌, Some, unwrap_or}
use Rattle.std.specs.Ordering.{is_eq}
use Rattle.std.specs.Cmp.Lexicographic.{nat_list_cmp_total}
use Rattle.std.specs.FinMap.Entries.{find, find-put, find_tied, is_sorted-put, put}
use Rattle.std.proofs.lemmas.List.Sums.{sum_by_push}
use Rattle.cell_core.specs.Entry.{text_cmp}
use Rattle.catalogue.specs.Entries.{Entries, Entry}
use Rattle.cell_core.proofs.Basics.{tied_order as tied}
use Rattle.query_docs.specs.Labels.{AreLabelCounts, LabelCounts, count_of, if_any, is_label_of}
use Rattle.query_docs.specs.Labels.{label_count}
use Rattle.query_docs.specs.Status.{is_labelled}

-- The count of a language that is listed with its count.
pub counted : (n : ℕ) → unwrap_or (if_any n) 0 ≡ n
counted zero = refl
counted (suc n) = refl

-- The count of a language is the number of its labels.
pub count_is : (cells : Entries) (counts : LabelCounts) → AreLabelCounts cells counts
    → (lang : List ℕ) → count_of lang counts ≡ label_count lang cells
count_is cells counts are lang =
    ap (λ o. unwrap_or o 0) (are.each lang) ∙ counted (label_count lang cells)

some_more : (n : ℕ) → Some (n + 1) ≡ if_any (n + 1)
some_more n = let more : n + 1 ≡ suc n = omega arith in ap Some more ∙ ap if_any (sym more)

-- one label more of a language, in the counts of these numbers
pub counted_more : (counts : LabelCounts) (number : List ℕ → ℕ)
    → ((lang : List ℕ) → find text_cmp lang counts ≡ if_any (number lang)) → (lang other : List ℕ)
    → find text_cmp other (put text_cmp lang (count_of lang counts + 1) counts)
    ≡ if_any (number other + cond (is_eq (text_cmp other lang)) 1 0)
counted_more counts number each lang other =
    let count = count_of lang counts + 1 in
    find-put text_cmp nat_list_cmp_total other lang count counts
    ∙ elim (is_eq (text_cmp other lang)) as
    (λ t. is_eq (text_cmp other lang) ≡ t → cond t (Some count) (find text_cmp other counts)
    ≡ if_any (number other + cond t 1 0)) [
      | true ↦ λ t.
          let same : count_of lang counts ≡ number other =
          ap (λ o. unwrap_or o 0)
          (find_tied text_cmp nat_list_cmp_total other lang (tied (text_cmp other lang) t) counts
          ∙ each other)
          ∙ counted (number other) in
          ap (λ n. Some (n + 1)) same ∙ some_more (number other)
      | false ↦ λ t. each other ∙ ap if_any (omega arith)
    ] refl

-- the labels of a language in cells with one more
count_more : (lang : List ℕ) (cells : Entries) (e : Entry) → label_count lang (cells ++ e ∷ [])
    ≡ label_count lang cells + cond (is_label_of lang e) 1 0
count_more lang cells e = sum_by_push (λ (x : Entry). cond (is_label_of lang x) 1 0) cells e

-- A cell with a label is one label more of its language.
pub label_seen : (cells : Entries) (e : Entry) (old new : LabelCounts) → is_labelled e ≡ true
    → new ≡ put text_cmp e.0.1 (count_of e.0.1 old + 1) old → AreLabelCounts cells old
    → AreLabelCounts (cells ++ e ∷ []) new
label_seen cells e old new labelled is are =
    subst (AreLabelCounts (cells ++ e ∷ [])) (sym is) (record {
      ascend = is_sorted-put text_cmp nat_list_cmp_total e.0.1 (count_of e.0.1 old + 1) old
          are.ascend;
      each = λ lang. counted_more old (λ l. label_count l cells) are.each e.0.1 lang
          ∙ ap (λ t. if_any (label_count lang cells + cond (t && is_eq (text_cmp lang e.0.1)) 1 0))
          (sym labelled)
          ∙ ap if_any (sym (count_more lang cells e));
    })
