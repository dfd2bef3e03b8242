use Rattle.std.proofs.Common.{◌++◌, [], ◌∷◌, ℕ, refl, subst, sym}
use Rattle.cell_core.specs.Cell.{joined_cells}
use Rattle.catalogue.specs.Clash.{IsFirstClash}
use Rattle.cell_core.specs.Entry.{key_cmp}
use Rattle.site_docs.specs.Sink.{entry_of}
use Rattle.docs_core.specs.inner.JoinedRows.{left_of}
use Rattle.docs_core.proofs.JoinedRowsLemmas.{joining_before, joining_both, joining_clashes}
use Rattle.docs_core.proofs.JoinedRowsLemmas.{joining_own}
use Rattle.docs_core.proofs.call.joined_rows.write_joined.Goals as goal

-- The catalogue has nothing at the key: the row is one more.
pub returns-in_ok-add-in-None : goal.returns-in_ok-add-in-None
returns-in_ok-add-in-None c = λ others before rows so_far holds above place.
    let e = entry_of c.args.cell.now in
    let wrote = rw c.in-None.is at c.in_ok-write_before.ensures in
    let less = wrote.0 in
    let left = left_of c.write_before.new.left in
    let ready = joining_before e.0 (left_of c.args.left.now) others before rows less left so_far
    wrote.3.0 wrote.1 above in (
      (rows ++ less) ++ e ∷ [],
      joining_own e.0 e.1 left others before (rows ++ less) ready wrote.3.1 above,
      c.in_ok-add-in-None.ensures (rows ++ less) (wrote.2 rows holds),
    )

-- The catalogue has a cell of the key that agrees: the later one is one more.
pub returns-in-Agree : goal.returns-in-Agree
returns-in-Agree c = λ others before rows so_far holds above place.
    let e = entry_of c.args.cell.now in
    let other = c.in-Some.other.now in
    let wrote = rw c.in-Some.is at c.in_ok-write_before.ensures in
    let less = wrote.0 in
    let more = left_of c.write_before.new.left in
    let left = (e.0, other) ∷ more in
    let ready = joining_before e.0 (left_of c.args.left.now) others before rows less left so_far
    wrote.3 wrote.1 above in
    let both = rw c.in-Agree.is at c.in_ok-write_both-in-Some.ensures in (
      (rows ++ less) ++ (e.0, joined_cells e.1 other) ∷ [],
      joining_both e.0 e.1 other left more others before (rows ++ less) ready refl above both.0,
      both.1 (rows ++ less) (wrote.2 rows holds),
    )

-- It has one that does not: this is the first place at which they do not agree.
pub returns-in-Clash : goal.returns-in-Clash
returns-in-Clash c = λ others before rows so_far holds above place.
    let e = entry_of c.args.cell.now in
    let other = c.in-Some.other.now in
    let wrote = rw c.in-Some.is at c.in_ok-write_before.ensures in
    let less = wrote.0 in
    let more = left_of c.write_before.new.left in
    let left = (e.0, other) ∷ more in
    let ready = joining_before e.0 (left_of c.args.left.now) others before rows less left so_far
    wrote.3 wrote.1 above in
    subst (λ (n : ℕ). IsFirstClash key_cmp (before ++ e ∷ []) others n e.1.stamp) (sym place)
    (joining_clashes e.0 e.1 other left more others before (rows ++ less) ready refl
    (rw c.in-Clash.is at c.in_ok-write_both-in-Some.ensures))
