-- What a catalogue has after a write.
use Rattle.std.proofs.Common.{List, [], ◌≡◌, ℕ, ◌+◌, length, cond, Bool, Option, Some, None, sym}
use Rattle.std.proofs.Common.{ap, ◌∙◌, refl}
use Rattle.std.specs.Cmp.Lexicographic.{nat_list_cmp_total}
use Rattle.cell_core.specs.Cell.{joined_cells}
use Rattle.cell_core.specs.Keyed.{joined_at}
use Rattle.catalogue.proofs.CatalogueFlatLemmas.{find-flat}
use Rattle.std.specs.Option.{is_some, is_none}
use Rattle.std.specs.FinMap.Entries.{find, put, length-put}
use Rattle.cell_core.specs.declared.cell.Cell.{Cell}
use Rattle.catalogue.specs.CatalogueFlat.{flat}
use Rattle.catalogue.specs.inner.CatalogueFlat.{found_in, inner_of}
use Rattle.cell_core.specs.Entry.{EntryKey, text_cmp, key_cmp}
use Rattle.cell_core.specs.inner.Entry.{key_cmp_total}
use Rattle.catalogue.specs.Entries.{Entries}
use Rattle.catalogue.specs.CatalogueNested.{Inner, Nested, IsCatalogue}
use Rattle.catalogue.proofs.CatalogueNestedLemmas.{IsMap-catalogue, flat-put}

-- A language of a message has the cell that its key has.
pub found_inner : (m : Nested) → IsCatalogue m → (id lang : List ℕ) (inner : Inner)
    → inner ≡ inner_of (find text_cmp id m)
    → find text_cmp lang inner ≡ find key_cmp (id, lang) (flat m)
found_inner m n id lang inner is =
    ap (find text_cmp lang) is ∙ within (find text_cmp id m)
    ∙ sym (find-flat text_cmp text_cmp nat_list_cmp_total m n.outer (id, lang))
  where
    within : (o : Option Inner) → find text_cmp lang (inner_of o) ≡ found_in text_cmp lang o
    within None = refl
    within (Some es) = refl

-- A key whose message is not there has no cell.
pub no_cell : (m : Nested) → IsCatalogue m → (id lang : List ℕ) → None ≡ find text_cmp id m
    → find key_cmp (id, lang) (flat m) ≡ None
no_cell m n id lang is = sym (found_inner m n id lang [] (ap inner_of is))

-- A cell joined to that of its language in its message is joined to that of its key.
pub joined_inner : (m : Nested) → IsCatalogue m → (id lang : List ℕ) (c : Cell) (inner new : Inner)
    → inner ≡ inner_of (find text_cmp id m)
    → new ≡ put text_cmp lang (joined_at joined_cells (find text_cmp lang inner) c) inner
    → flat (put text_cmp id new m)
    ≡ put key_cmp (id, lang) (joined_at joined_cells (find key_cmp (id, lang) (flat m)) c) (flat m)
joined_inner m n id lang c inner new is e =
    flat-put m n id lang (joined_at joined_cells (find text_cmp lang inner) c) inner new is e
    ∙ ap (λ o. put key_cmp (id, lang) (joined_at joined_cells o c) (flat m))
    (found_inner m n id lang inner is)

-- how many cells there are after a write
pub length_written : (m new : Nested) → IsCatalogue m → (es : Entries) → flat m ≡ es
    → (key : EntryKey) (c : Cell) (b : Bool) → b ≡ is_none (find key_cmp key (flat m))
    → flat new ≡ put key_cmp key c (flat m)
    → length (flat new) ≡ cond b (length es + 1) (length es)
length_written m new n es same key c b added is =
    ap length is ∙ length-put key_cmp key_cmp_total key c (flat m) (IsMap-catalogue m n)
    ∙ turned (find key_cmp key (flat m))
    ∙ (λ i. cond (sym added i) (length (same i) + 1) (length (same i)))
  where
    turned : {X : Type 0} (o : Option X)
        → cond (is_some o) (length (flat m)) (length (flat m) + 1)
        ≡ cond (is_none o) (length (flat m) + 1) (length (flat m))
    turned None = refl
    turned (Some x) = refl
