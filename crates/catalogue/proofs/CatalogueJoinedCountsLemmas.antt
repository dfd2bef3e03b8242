-- How many cells a join has.
use Rattle.std.proofs.Common.{◌≡◌, ℕ, ◌+◌, cond, Bool, true, false, not, [], ◌∷◌, length, Option}
use Rattle.std.proofs.Common.{Some, None, refl, sym, ap, ◌∙◌, arith}
use Rattle.std.specs.Prelude.{filter}
use Rattle.std.specs.Option.{is_some, is_none, option_copied, SomeIff, IfSome}
use Rattle.std.specs.Borrow.{Bor}
use Rattle.std.specs.FinMap.Entries.{find, length-put, is_sorted, below_all}
use Rattle.cell_core.specs.declared.cell.Cell.{Cell}
use Rattle.cell_core.specs.Cell.{joined_cells}
use Rattle.cell_core.specs.Keyed.{IsMap, joined_at, joined_entries}
use Rattle.cell_core.specs.inner.KeyedLaws.{joined_entries-IsMap, joined_of_maps}
use Rattle.catalogue.specs.inner.CatalogueCounts.{count_absent}
use Rattle.cell_core.specs.Entry.{key_cmp}
use Rattle.cell_core.specs.inner.Entry.{key_cmp_total}
use Rattle.catalogue.specs.Entries.{Entry, Entries, joined}
use Rattle.cell_core.proofs.Basics.{second_part}
use Rattle.catalogue.proofs.CatalogueJoinedLatestLemmas.{found_first}

-- one cell more of the other
pub absent_more : (own : Entries) (e : Entry) (es : Entries)
    → count_absent own (e ∷ es)
    ≡ cond (is_none (find key_cmp e.0 own)) (count_absent own es + 1) (count_absent own es)
absent_more own e es =
    elim (is_none (find key_cmp e.0 own)) as
    (λ b. length
    (cond b (e ∷ filter (λ (x : Entry). is_none (find key_cmp x.0 own)) es)
    (filter (λ (x : Entry). is_none (find key_cmp x.0 own)) es))
    ≡ cond b (count_absent own es + 1) (count_absent own es)) [
      | true ↦ omega arith
      | false ↦ refl
    ]

one_more : (o : Option Cell) (n m k : ℕ) → n ≡ m + k
    → cond (is_some o) n (n + 1) ≡ m + cond (is_none o) (k + 1) k
one_more None n m k is = omega (arith, is)
one_more (Some c) n m k is = is

length_entries : (xs ys : Entries) → IsMap key_cmp xs → IsMap key_cmp ys
    → length (joined_entries key_cmp joined_cells xs ys) ≡ length xs + count_absent xs ys
length_entries xs [] m n = omega arith
length_entries xs (e ∷ ys) m n =
    let rest = joined_entries key_cmp joined_cells xs ys in
    let o = find key_cmp e.0 xs in
    length-put key_cmp key_cmp_total e.0 (joined_at joined_cells o e.1) rest
    (joined_entries-IsMap key_cmp key_cmp_total joined_cells xs ys m)
    ∙ ap (λ x. cond (is_some x) (length rest) (length rest + 1)) (found_first xs ys e n)
    ∙ one_more o (length rest) (length xs) (count_absent xs ys)
    (length_entries xs ys m (second_part (below_all key_cmp e.0 ys) (is_sorted key_cmp ys) n))
    ∙ ap (λ k. length xs + k) (sym (absent_more xs e ys))

-- the own cells, and those of the other with further keys
pub length_joined : (a b : Entries) → IsMap key_cmp a → IsMap key_cmp b
    → length (joined a b) ≡ length a + count_absent a b
length_joined a b m n =
    ap length (joined_of_maps key_cmp key_cmp_total joined_cells a b m n) ∙ length_entries a b m n

absent_copied : {X : Type 0} (o : Option (Bor X)) (b : Bool) → b ≡ is_some o
    → is_none (option_copied o) ≡ not b
absent_copied None b is = ap not (sym is)
absent_copied (Some x) b is = ap not (sym is)

-- one cell more of the other, whose key is held or not
pub absent_next : (own : Entries) (e : Entry) (left : Entries) (o : Option (Bor Cell)) (b : Bool)
    → option_copied o ≡ find key_cmp e.0 own → b ≡ is_some o
    → count_absent own (e ∷ left) ≡ cond (not b) (count_absent own left + 1) (count_absent own left)
absent_next own e left o b found is =
    absent_more own e left
    ∙ ap (λ t. cond t (count_absent own left + 1) (count_absent own left))
    (ap is_none (sym found) ∙ absent_copied o b is)

-- A number that is the given value, if there is one, is also any value equal to it.
pub if_some_of : (P : Type 0) (o : Option ℕ) (v n : ℕ) → SomeIff o P v → v ≡ n
    → IfSome o (λ x. x ≡ n)
if_some_of P None v n h is = tt
if_some_of P (Some x) v n h is = h.1 ∙ is
