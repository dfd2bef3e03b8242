-- What is written in a catalogue, and how catalogues agree and join.
use Rattle.std.specs.Prelude.{◌↔◌}
use Rattle.std.proofs.Common.{◌≡◌, ℕ, true, false, cond, List, Some, Result, Ok, Err, OnOk, OnErr}
use Rattle.std.proofs.Common.{sym, ap, ◌∙◌, subst, refl}
use Rattle.std.specs.declared.cmp.Ordering.{Ordering}
use Rattle.std.specs.declared.cmp.Ordering.TheVariants.{Equal}
use Rattle.std.specs.Ordering.{eq_by_cmp}
use Rattle.std.specs.Cmp.{IsTotalOrder}
use Rattle.std.specs.Cmp.Lexicographic.{nat_list_cmp_total}
use Rattle.std.specs.FinMap.Entries.{find, put, find-put, find_tied, is_sorted-put}
use Rattle.std.proofs.lemmas.Map.Lookups.{exact_bytes}
use Rattle.cell_core.specs.declared.cell.Cell.{Cell}
use Rattle.cell_core.specs.Cell.{joined_cells}
use Rattle.cell_core.specs.inner.Cell.{cell_laws}
use Rattle.cell_core.specs.StampLater.{IsEitherOf}
use Rattle.cell_core.specs.Keyed.{IsMap}
use Rattle.cell_core.specs.inner.KeyedLaws.{same_maps}
use Rattle.catalogue.specs.CatalogueFlat.{flat, IsInner}
use Rattle.catalogue.specs.inner.CatalogueFlat.{inner_of}
use Rattle.cell_core.specs.Entry.{text_cmp, key_cmp}
use Rattle.catalogue.specs.Entries.{Agree, joined, Between}
use Rattle.catalogue.specs.CatalogueNested.{Nested, IsCatalogue, AgreeNested, joined_nested}
use Rattle.catalogue.specs.inner.CatalogueNested.{BetweenNested}
use Rattle.cell_core.proofs.Basics.{tied_order as tied}
use Rattle.catalogue.proofs.CatalogueFlatLemmas.{put-flat, IsMap-flat, nested_put, inner_put}
use Rattle.catalogue.proofs.CatalogueFlatLemmas.{agree_of_flat}
use Rattle.catalogue.proofs.CatalogueFlatLemmas.{agree_to_flat, nested_joined, joined-flat}
use Rattle.catalogue.proofs.CatalogueFlatLemmas.{nested_between}
use Rattle.catalogue.proofs.CatalogueFlatLemmas.{between-flat, same_nested}

-- Texts that compare as equal are equal.
pub text_exact : (x y : List ℕ) → text_cmp x y ≡ Equal → x ≡ y
text_exact x y e = exact_bytes x y e

-- The keys of a catalogue's flat list strictly ascend.
pub IsMap-catalogue : (m : Nested) → IsCatalogue m → IsMap key_cmp (flat m)
IsMap-catalogue = IsMap-flat text_cmp text_cmp nat_list_cmp_total

-- what is found, put back, changes nothing
pub put_same : {K J : Type 0} (R : K → K → Ordering) → IsTotalOrder R
    → ((x y : K) → R x y ≡ Equal → x ≡ y) → (es : List (K × J)) (k : K) (v : J) → IsMap R es
    → find R k es ≡ Some v → put R k v es ≡ es
put_same R total exact es k v map there =
    same_maps R total exact (put R k v es) es (is_sorted-put R total k v es map) map
    (λ q. find-put R total q k v es
    ∙ elim (eq_by_cmp R q k) as
    (λ t. eq_by_cmp R q k ≡ t → cond t (Some v) (find R q es) ≡ find R q es) [
      | true ↦ λ t. sym there ∙ find_tied R total q k (tied (R q k) t) es
      | false ↦ λ t. refl
    ] refl)

-- what a result leaves, whichever it is
pub either_way : {A E P Q G : Type 0} (r : Result A E) → OnOk r P → OnErr r Q → (P → G) → (Q → G)
    → G
either_way (Ok x) p q f g = f p
either_way (Err e) p q f g = g q

-- the inner map with the cell
pub inner_with : (m : Nested) → IsCatalogue m
    → (k l : List ℕ) (c : Cell) (inner : List (List ℕ × Cell))
    → inner ≡ inner_of (find text_cmp k m) → IsInner text_cmp (put text_cmp l c inner)
inner_with m n k l c inner is =
    subst (λ es. IsInner text_cmp (put text_cmp l c es)) (sym is)
    (inner_put text_cmp text_cmp nat_list_cmp_total nat_list_cmp_total m n k l c)

-- A catalogue with a cell put at a message and a language is a catalogue.
pub IsCatalogue-put : (m : Nested) → IsCatalogue m
    → (k l : List ℕ) (c : Cell) (inner new : List (List ℕ × Cell))
    → inner ≡ inner_of (find text_cmp k m) → new ≡ put text_cmp l c inner
    → IsCatalogue (put text_cmp k new m)
IsCatalogue-put m n k l c inner new is e =
    nested_put text_cmp text_cmp nat_list_cmp_total nat_list_cmp_total m n k new
    (subst (IsInner text_cmp) (sym e) (inner_with m n k l c inner is))

-- A cell put at a message and a language is put at that key in the flat list.
pub flat-put : (m : Nested) → IsCatalogue m
    → (k l : List ℕ) (c : Cell) (inner new : List (List ℕ × Cell))
    → inner ≡ inner_of (find text_cmp k m) → new ≡ put text_cmp l c inner
    → flat (put text_cmp k new m) ≡ put key_cmp (k, l) c (flat m)
flat-put m n k l c inner new is e =
    ap (λ es. flat (put text_cmp k es m)) (e ∙ ap (put text_cmp l c) is)
    ∙ sym (put-flat text_cmp text_cmp nat_list_cmp_total nat_list_cmp_total text_exact
    text_exact m n k l c)

-- Putting a message's own inner map back changes nothing.
pub put_back : (m : Nested) → IsCatalogue m → (k : List ℕ) (inner new : List (List ℕ × Cell))
    → Some inner ≡ find text_cmp k m → new ≡ inner → put text_cmp k new m ≡ m
put_back m n k inner new is e =
    ap (λ es. put text_cmp k es m) e
    ∙ put_same text_cmp nat_list_cmp_total text_exact m k inner n.outer (sym is)

-- ---- nested catalogues as a whole

-- Catalogues agree message by message where their flat lists agree.
pub nested_agree : (a b : Nested) → IsCatalogue a → IsCatalogue b → Agree (flat a) (flat b)
    → AgreeNested a b
nested_agree =
    agree_of_flat text_cmp text_cmp nat_list_cmp_total nat_list_cmp_total text_exact text_exact
    cell_laws

-- The join of two catalogues, message by message, is a catalogue.
pub joined_catalogue : (a b : Nested) → IsCatalogue a → IsCatalogue b
    → IsCatalogue (joined_nested a b)
joined_catalogue =
    nested_joined text_cmp text_cmp nat_list_cmp_total nat_list_cmp_total text_exact text_exact
    cell_laws

-- The flat list of a join is the join of the flat lists.
pub flat-joined : (a b : Nested) → IsCatalogue a → IsCatalogue b
    → flat (joined_nested a b) ≡ joined (flat a) (flat b)
flat-joined =
    joined-flat text_cmp text_cmp nat_list_cmp_total nat_list_cmp_total text_exact text_exact
    cell_laws

-- What is between two catalogues, message by message, is a catalogue.
pub between_catalogue : (a x b : Nested) → IsCatalogue a → IsCatalogue b → BetweenNested a x b
    → IsCatalogue x
between_catalogue =
    nested_between text_cmp text_cmp nat_list_cmp_total nat_list_cmp_total (IsEitherOf joined_cells)

-- The flat list of what is between two catalogues is between their flat lists.
pub flat-between : (a x b : Nested) → IsCatalogue a → IsCatalogue b → AgreeNested a b
    → BetweenNested a x b → Between (flat a) (flat x) (flat b)
flat-between a x b m n g h =
    between-flat text_cmp text_cmp nat_list_cmp_total nat_list_cmp_total text_exact text_exact
    cell_laws a x b m (between_catalogue a x b m n h) n g h

-- catalogues with the same cells are one
pub same_catalogue : (a b : Nested) → IsCatalogue a → IsCatalogue b → flat a ≡ flat b → a ≡ b
same_catalogue =
    same_nested text_cmp text_cmp nat_list_cmp_total nat_list_cmp_total text_exact text_exact

-- Catalogues agree message by message exactly where their flat lists agree.
pub agree_both_ways : (a b : Nested) → IsCatalogue a → IsCatalogue b → AgreeNested a b
    ↔ Agree (flat a) (flat b)
agree_both_ways a b m n = (
  agree_to_flat text_cmp text_cmp nat_list_cmp_total nat_list_cmp_total text_exact text_exact
      cell_laws a b m n,
  nested_agree a b m n,
)
