-- What `Eq` asks of edits and catalogues.
use Rattle.std.specs.Cmp.{IsEquivalence, eq_by_cmp_equiv, and_equiv, on_equiv}
use Rattle.std.specs.Cmp.Lexicographic.{lists_equiv}
use Rattle.cell_core.specs.contracts.cell.CellEq.TheImpl.Laws as cell_laws
use Rattle.cell_core.specs.inner.Entry.{key_cmp_total}
use Rattle.catalogue.specs.Entries.{Entry}
use Rattle.catalogue.specs.Equality.{entry_eq, entries_eq}

-- equality of entries is an equivalence
pub entry_equiv : IsEquivalence entry_eq
entry_equiv =
    and_equiv (on_equiv (λ (e : Entry). e.0) (eq_by_cmp_equiv key_cmp_total))
    (on_equiv (λ (e : Entry). e.1) cell_laws.laws-law)

-- equality of catalogues is an equivalence
pub entries_equiv : IsEquivalence entries_eq
entries_equiv = lists_equiv entry_equiv
