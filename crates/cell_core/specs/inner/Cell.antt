-- What `Join` asks of stamps and cells.
use Rattle.std.specs.Prelude.{◌≡◌}
use Rattle.std.proofs.Common.{ap}
use Rattle.std.specs.declared.cmp.Ordering.TheVariants.{Equal}
use Rattle.std.specs.Cmp.{IsTotalOrder, on_total, then_total, nat_cmp_total}
use Rattle.std.specs.Cmp.Lexicographic.{slice_cmp, nat_list_cmp_total}
use Rattle.std.specs.Ordering.{nat_cmp}
use Rattle.std.proofs.lemmas.Map.Lookups.{exact_pairs, exact_unsigned, exact_bytes}
use Rattle.cell_core.specs.Cell.{AgreeStamps, joined_stamps, AgreeCells, joined_cells}
use Rattle.cell_core.specs.declared.stamp.Stamp.{Stamp}
use Rattle.cell_core.specs.Join.{JoinLaws}
use Rattle.cell_core.specs.StampLater.{IsEitherOf}
use Rattle.cell_core.specs.inner.StampLaterLaws.{later_laws}
use Rattle.cell_core.specs.Stamp.{stamp_cmp}

-- the order of stamps is total
pub stamp_cmp_total : IsTotalOrder stamp_cmp
stamp_cmp_total =
    then_total (on_total (λ s. s.time) nat_cmp_total)
    (then_total (on_total (λ s. s.site) nat_list_cmp_total) (on_total (λ s. s.count) nat_cmp_total))

-- stamps that compare equal are one
pub stamp_cmp_exact : (a b : Stamp) → stamp_cmp a b ≡ Equal → a ≡ b
stamp_cmp_exact a b h =
    let fields =
    exact_pairs nat_cmp _ exact_unsigned
    (exact_pairs (slice_cmp nat_cmp) nat_cmp exact_bytes exact_unsigned)
    (a.time, (a.site, a.count)) (b.time, (b.site, b.count)) h in
    λ i. record { time = (fields i).0; site = (fields i).1.0; count = (fields i).1.1 }

-- stamps keep the laws of the join
pub stamp_laws : JoinLaws AgreeStamps joined_stamps (IsEitherOf joined_stamps)
stamp_laws =
    later_laws (λ s. s) stamp_cmp stamp_cmp_total stamp_cmp_exact AgreeStamps (λ a b _ e. e)
    (λ a b _. tt)

-- cells keep the laws of the join
pub cell_laws : JoinLaws AgreeCells joined_cells (IsEitherOf joined_cells)
cell_laws =
    later_laws (λ c. c.stamp) stamp_cmp stamp_cmp_total stamp_cmp_exact AgreeCells
    (λ a b h e. let labels = h e in λ i. record { stamp = e i; label = labels i })
    (λ a b h e. ap (λ c. c.label) (h e))
