-- Items whose lookup goes by a table differ from those of the field in what is tried alone.
use Rattle.std.proofs.Common.{ℕ, ◌≡◌, ◌≤◌, List, [], ◌∷◌, ◌<◌, ◌∙◌, arith, inl, inr, length}
use Rattle.std.proofs.Common.{refl, sym}
use Rattle.std.proofs.Common.{ap, subst}
use Rattle.std.specs.Prelude.{All, map, Result, Ok, Err, MatchResult}
use Rattle.std.proofs.lemmas.List.{length-map}
use Rattle.std.proofs.lemmas.List.Elements.{All-map, All-weaker}
use Rattle.lang_core.specs.Text.{pieces}
use Rattle.lang_core.specs.Grammar.{BasicRange}
use Rattle.list_core.specs.Fallbacks.{IsFieldBy, with_fallbacks}
use Rattle.list_core.specs.Field.{IsField, IsOfOneKind, RefusesField}
use Rattle.list_core.specs.Item.{Item}
use Rattle.list_core.specs.declared.fallbacks.Fallback.{Fallback}
use Rattle.list_core.specs.declared.fault.NegoFault.{NegoFault}
use Rattle.list_core.specs.declared.fault.NegoFault.TheVariants.{NoMemory}
use Rattle.list_core.specs.declared.field.Malformed.{Malformed}
use Rattle.list_core.specs.declared.scheme.Scheme.{Scheme}
use Rattle.list_core.proofs.FieldLemmas.{has_element}

-- A table without elements changes no item.
pub no_table : (table : List Fallback) (items : List Item) → length table ≡ 0
    → items ≡ map (with_fallbacks table) items
no_table [] [] h = refl
no_table [] (i ∷ items) h = ap (λ (x : List Item). i ∷ x) (no_table [] items h)
no_table (f ∷ table) items h = absurd (omega arith)

-- The ranges stay.
pub same_range : (table : List Fallback) (i : Item) → i.range ≡ (with_fallbacks table i).range
same_range [] i = refl
same_range (f ∷ table) i = refl

-- The weights stay.
pub same_weight : (table : List Fallback) (i : Item) → i.weight ≡ (with_fallbacks table i).weight
same_weight [] i = refl
same_weight (f ∷ table) i = refl

-- Weights that are small stay small.
pub small_by : (table : List Fallback) (items : List Item) → All (λ i. i.weight ≤ 1000) items
    → All (λ i. i.weight ≤ 1000) (map (with_fallbacks table) items)
small_by table items all =
    All-map (λ i. i.weight ≤ 1000) (with_fallbacks table) items
    (All-weaker (λ i. i.weight ≤ 1000) (λ i. (with_fallbacks table i).weight ≤ 1000)
    (λ i h. subst (λ (n : ℕ). n ≤ 1000) (same_weight table i) h) items all)

-- Items of one kind stay of it.
pub one_kind_by : (table : List Fallback) (items : List Item) → IsOfOneKind items
    → IsOfOneKind (map (with_fallbacks table) items)
one_kind_by table items (inl all) =
    inl (All-map (λ i. BasicRange (pieces i.range)) (with_fallbacks table) items
    (All-weaker (λ i. BasicRange (pieces i.range))
    (λ i. BasicRange (pieces (with_fallbacks table i).range))
    (λ i h. subst (λ (x : List ℕ). BasicRange (pieces x)) (same_range table i) h) items all))
one_kind_by table items (inr all) =
    inr (All-map (λ i. i.weight ≡ 1000) (with_fallbacks table) items
    (All-weaker (λ i. i.weight ≡ 1000) (λ i. (with_fallbacks table i).weight ≡ 1000)
    (λ i h. subst (λ (n : ℕ). n ≡ 1000) (same_weight table i) h) items all))

-- The list that is made of a field's items by a table, or that memory ended.
pub list_read_by : (table : List Fallback) (scheme : Scheme) (malformed : Malformed)
    (bytes : List ℕ) (items listed : List Item) (r : Result (List Item) NegoFault)
    → length bytes ≤ 65535 → IsField scheme malformed bytes items
    → listed ≡ map (with_fallbacks table) items
    → MatchResult r (λ list. list ≡ listed) (λ fault. (fault ≡ NoMemory) × (0 < length listed))
    → MatchResult r (λ list. (length bytes ≤ 65535) × IsFieldBy table scheme malformed bytes list)
    (RefusesField scheme malformed bytes)
list_read_by table scheme malformed bytes items listed (Ok list) short f is h =
    (short, (items, f, h ∙ is))
list_read_by table scheme malformed bytes items listed (Err fault) short f is h =
    let size : length listed ≡ length items = ap length is ∙ simp length-map in
    subst (RefusesField scheme malformed bytes) (sym h.0)
    (short, has_element scheme malformed bytes items f (omega (arith, h.1, size)))
