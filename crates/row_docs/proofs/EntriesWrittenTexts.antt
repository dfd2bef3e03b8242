-- The text of rows that were written is read as their values.
use Rattle.std.proofs.Common.{◌≡◌, ◌∙◌, ◌<◌, ◌≤◌, ◌^◌, ℕ, List, [], ◌∷◌, map, refl, append-nil}
use Rattle.std.proofs.Common.{arith}
use Rattle.std.specs.List.{All}
use Rattle.std.specs.Prelude.{Option, None, Some}
use Rattle.json.specs.Json.{value}
use Rattle.json.specs.Lex.{tokens}
use Rattle.json.specs.Print.{print}
use Rattle.json.specs.Tree.{HasNumbers, ItemsHaveNumbers, json_tokens}
use Rattle.json.specs.Tree as tree
use Rattle.json.proofs.Printed.Decimals.{IsNumber-decimal}
use Rattle.json.proofs.Printed.Tokens.{tokens-print}
use Rattle.json.proofs.Printed.Trees.{ArePrintable-json_tokens, value-json_tokens}
use Rattle.serde_json.specs.Data.{Data, Items, item, string}
use Rattle.serde_json.specs.Read.{of_items, of_json, read}
use Rattle.serde_json.specs.View.{items_of}
use Rattle.serde_json.specs.Written.{items_outline, outline}
use Rattle.serde_json.proofs.Numbers.{number_of-decimal}
use Rattle.serde_json.proofs.Texts.{print-outline}
use Rattle.cell_core.specs.declared.stamp.Stamp.{Stamp}
use Rattle.cell_core.specs.Entry.{EntryKey}
use Rattle.catalogue.specs.Entries.{Entries, Entry}
use Rattle.catalogue.proofs.CatalogueFlatLemmas.{all_first, all_rest}
use Rattle.row_docs.specs.Entries.{cells_values, entry_value, stamps_values, stamped_value}
use Rattle.row_docs.specs.WritingTexts.{text}
use Rattle.row_docs.specs.EntriesValid.{IsKeptCell, IsKeptStamp}
use Rattle.row_docs.specs.EntriesValues.{label_value}
use Rattle.json_docs.proofs.TextLineFeed.{read-line_feed}

-- a value without floats that nests at most 127 levels deep is read from its text
pub read-text : (d : Data) → HasNumbers (outline d) → tree.depth (outline d) ≤ 127
    → of_json (outline d) ≡ Some d → read (text d) ≡ Some d
read-text d numbers shallow back =
    let j = outline d in
    let ts : tokens (print (json_tokens j)) ≡ json_tokens j =
    tokens-print (json_tokens j) (ArePrintable-json_tokens j numbers) in
    let whole : value 127 (json_tokens j) ≡ Some (j, []) =
    rw append-nil at (value-json_tokens j 127 [] shallow) in
    read-line_feed _ ∙ rw (← print-outline d, ts, whole) back

-- ---- rows that were written hold what a text may

-- what is required of each item, of all
pub record AreWritten (ds : Items) (most : ℕ) : Type 0 where
  pub numbers : ItemsHaveNumbers (items_outline ds)
  pub shallow : tree.items_depth (items_outline ds) ≤ most
  pub back : of_items (items_outline ds) ≡ Some ds

-- the same of one value
pub record IsWritten (d : Data) (most : ℕ) : Type 0 where
  pub numbers : HasNumbers (outline d)
  pub shallow : tree.depth (outline d) ≤ most
  pub back : of_json (outline d) ≡ Some d

-- One value more, in front of the others.
pub one_more : (d : Data) (ds : Items) (most : ℕ) → IsWritten d most → AreWritten ds most
    → AreWritten (item d ds) most
one_more d ds most p q = record {
  numbers = (p.numbers, q.numbers);
  shallow = omega (arith, p.shallow, q.shallow);
  back = rw (p.back, q.back) refl;
}

texts_written : (texts : List (List ℕ)) → AreWritten (items_of (map string texts)) 0
texts_written [] = record { numbers = tt; shallow = omega arith; back = refl }
texts_written (t ∷ ts) = one_more (string t) (items_of (map string ts)) 0
    (record { numbers = tt; shallow = omega arith; back = refl }) (texts_written ts)

-- The value of a label holds what a text may.
pub label_written : (label : Option (List (List ℕ))) → IsWritten (label_value label) 1
label_written None = record { numbers = tt; shallow = omega arith; back = refl }
label_written (Some texts) =
    let all = texts_written texts in
    record { numbers = all.numbers; shallow = omega (arith, all.shallow); back = rw all.back refl }

cell_written : (e : Entry) → IsKeptCell e → IsWritten (entry_value e) 2
cell_written e kept =
    let label = label_written e.1.label in
    let time = IsNumber-decimal e.1.stamp.time kept.0.time in
    let small : e.1.stamp.count < 2 ^ 64 = omega (arith, kept.0.count) in
    let count = IsNumber-decimal e.1.stamp.count small in
    record {
      numbers = (tt, (tt, (time, (tt, (count, (label.numbers, tt))))));
      shallow = omega (arith, label.shallow);
      back = rw (
        number_of-decimal e.1.stamp.time kept.0.time,
        number_of-decimal e.1.stamp.count
            small,
        label.back,
      ) refl;
    }

stamp_written : (t : EntryKey × Stamp) → IsKeptStamp t → IsWritten (stamped_value t) 2
stamp_written t kept =
    let time = IsNumber-decimal t.1.time kept.time in
    let small : t.1.count < 2 ^ 64 = omega (arith, kept.count) in
    let count = IsNumber-decimal t.1.count small in
    record {
      numbers = (tt, (tt, (time, (tt, (count, tt)))));
      shallow = omega arith;
      back = rw (number_of-decimal t.1.time kept.time, number_of-decimal t.1.count small) refl;
    }

-- the rows of cells
pub cells_written : (es : Entries) → All IsKeptCell es → AreWritten (items_of (cells_values es)) 2
cells_written [] kept = record { numbers = tt; shallow = omega arith; back = refl }
cells_written (e ∷ es) kept =
    one_more (entry_value e) (items_of (cells_values es)) 2
    (cell_written e (all_first IsKeptCell e es kept))
    (cells_written es (all_rest IsKeptCell e es kept))

-- the rows of stamps
pub stamps_written : (ts : List (EntryKey × Stamp)) → All IsKeptStamp ts
    → AreWritten (items_of (stamps_values ts)) 2
stamps_written [] kept = record { numbers = tt; shallow = omega arith; back = refl }
stamps_written (t ∷ ts) kept =
    one_more (stamped_value t) (items_of (stamps_values ts)) 2
    (stamp_written t (all_first IsKeptStamp t ts kept))
    (stamps_written ts (all_rest IsKeptStamp t ts kept))
