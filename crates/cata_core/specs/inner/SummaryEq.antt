-- What `Eq` asks of summaries.
use Rattle.std.specs.Cmp.{IsEquivalence, eq_by_cmp_equiv, and_equiv, on_equiv}
use Rattle.std.specs.Cmp.Lexicographic.{on_texts_equal, lists_equiv}
use Rattle.cell_core.specs.declared.stamp.Stamp.{Stamp}
use Rattle.cell_core.specs.Entry.{EntryKey}
use Rattle.cell_core.specs.inner.Entry.{key_cmp_total}
use Rattle.cell_core.specs.inner.StampEq.{stamp_equiv}
use Rattle.cata_core.specs.Summary.{SummaryState}
use Rattle.cata_core.specs.SummaryEq.{summary_entry_eq, summary_eq}

-- equality of a summary's entries is an equivalence
pub summary_entry_equiv : IsEquivalence summary_entry_eq
summary_entry_equiv =
    and_equiv (on_equiv (λ (e : EntryKey × Stamp). e.0) (eq_by_cmp_equiv key_cmp_total))
    (on_equiv (λ (e : EntryKey × Stamp). e.1) stamp_equiv)

-- equality of summaries is an equivalence
pub summary_equiv : IsEquivalence summary_eq
summary_equiv =
    and_equiv (on_texts_equal (λ (s : SummaryState). s.owner))
    (on_equiv (λ (s : SummaryState). s.stamps) (lists_equiv summary_entry_equiv))
