-- When summaries are equal.
use Rattle.std.specs.Prelude.{Bool, nat_eq}
use Rattle.std.specs.Ordering.{eq_by_cmp, on, eq_of_both}
use Rattle.std.specs.Cmp.Lexicographic.{pointwise}
use Rattle.cell_core.specs.declared.stamp.Stamp.{Stamp}
use Rattle.cell_core.specs.Entry.{EntryKey, key_cmp}
use Rattle.cell_core.specs.StampEq.{stamp_eq}
use Rattle.cata_core.specs.Summary.{SummaryState}

-- one key with one stamp
abbrev pub summary_entry_eq : EntryKey × Stamp → EntryKey × Stamp → Bool
summary_entry_eq = eq_of_both (on (λ e. e.0) (eq_by_cmp key_cmp)) (on (λ e. e.1) stamp_eq)

-- the same owner and the same list
abbrev pub summary_eq : SummaryState → SummaryState → Bool
summary_eq =
    eq_of_both (on (λ s. s.owner) (pointwise nat_eq))
    (on (λ s. s.stamps) (pointwise summary_entry_eq))
