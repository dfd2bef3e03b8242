-- The texts of a label, and refusals of fields.
use Rattle.std.proofs.Common.{◌≡◌, ◌∙◌, ◌+◌, ◌<◌, ◌++◌, ℕ, List, [], ◌∷◌, true, Global, String}
use Rattle.std.proofs.Common.{string_bytes, map, take, length, get_or, refl, ap, sym, add-one, inl}
use Rattle.std.proofs.Common.{inr}
use Rattle.std.proofs.Math.Seq.{take-suc}
use Rattle.std.proofs.lemmas.List.{map-append}
use Rattle.std.specs.List.{cons_option, filter_map}
use Rattle.std.specs.Prelude.{◌⊎◌, Option, None, Some, is_some, option_and_then, option_map}
use Rattle.std.specs.Prelude.{unwrap_or}
use Rattle.json.specs.declared.value.Value.{Value}
use Rattle.serde_json.specs.Data.{Data}
use Rattle.serde_json.specs.Find.{as_str}
use Rattle.cell_core.specs.Fault.{RefusesLabel}
use Rattle.cell_core.specs.declared.fault.CellFault.{CellFault}
use Rattle.cell_core.specs.declared.fault.CellFault.TheVariants.{IdRefused, TextTooLong, LabelCount}
use Rattle.cell_core.specs.declared.fault.CellFault.TheVariants.{ClockSpent, NoMemory, SiteName}
use Rattle.json_docs.specs.ScanningReads.{seen}
use Rattle.json_docs.specs.Parts.{texts_in}
use Rattle.json_docs.specs.declared.fault.DocCause.TheVariants.{NoMemory as no_memory}
use Rattle.row_docs.specs.Fields.{IsLabelRefusal, cell_cause}

append_one : (xs : List (List ℕ)) (o : Option (List ℕ)) (ys : List (List ℕ))
    → cons_option o (xs ++ ys) ≡ cons_option o xs ++ ys
append_one xs None ys = refl
append_one xs (Some x) ys = refl

among-append : (ds es : List Data) → filter_map as_str (ds ++ es) ≡ filter_map as_str ds
    ++ filter_map as_str es
among-append [] es = refl
among-append (d ∷ ds) es = ap (cons_option (as_str d)) (among-append ds es)
    ∙ append_one (filter_map as_str ds) (as_str d) (filter_map as_str es)

-- one value more
pub among-more : (vs : List (Value Global)) (k : ℕ) (v : Value Global) → k < length vs
    → v ≡ get_or vs k v
    → filter_map as_str (map seen (take (k + 1) vs)) ≡ filter_map as_str (map seen (take k vs))
    ++ cons_option (as_str (seen v)) []
among-more vs k v h is =
    let taken : take (k + 1) vs ≡ take k vs ++ v ∷ [] =
    rw (add-one, take-suc vs k v h) (ap (λ (x : Value Global). take k vs ++ x ∷ []) (sym is)) in
    rw (taken, map-append seen (take k vs) (v ∷ []))
    (among-append (map seen (take k vs)) (seen v ∷ []))

all_texts : (o : Option (List ℕ)) (r : Option (List (List ℕ))) (rest : List (List ℕ))
    → (is_some r ≡ true → rest ≡ unwrap_or r [])
    → is_some (option_and_then (λ text. option_map (λ texts. text ∷ texts) r) o) ≡ true
    → cons_option o rest ≡ unwrap_or
    (option_and_then (λ text. option_map (λ texts. text ∷ texts) r) o) []
all_texts None r rest same h = cc
all_texts (Some text) None rest same h = cc
all_texts (Some text) (Some texts) rest same h = ap (λ t. text ∷ t) (same refl)

-- of values that are all texts none is left out
pub among-texts_in : (ds : List Data) → is_some (texts_in ds) ≡ true → filter_map as_str ds
    ≡ unwrap_or (texts_in ds) []
among-texts_in [] h = refl
among-texts_in (d ∷ ds) h = all_texts (as_str d) (texts_in ds) (filter_map as_str ds)
    (among-texts_in ds) h

-- texts that are no label are refused in this row, or memory has run out
pub label_cause : (k : ℕ) (texts : List (List ℕ)) (fault : CellFault) → RefusesLabel texts fault
    → (cell_cause k fault ≡ no_memory) ⊎ IsLabelRefusal k (Some texts) (cell_cause k fault)
label_cause k texts IdRefused why = absurd why
label_cause k texts (TextTooLong index) why = inr (TextTooLong index, why, refl)
label_cause k texts (LabelCount count) why = inr (LabelCount count, why, refl)
label_cause k texts ClockSpent why = absurd why
label_cause k texts NoMemory why = inl refl
label_cause k texts SiteName why = absurd why

-- one text more
pub pushed_text : (items old : List (String Global)) (x : String Global) (text : List ℕ)
    (texts : List (List ℕ))
    → items ≡ old ++ x ∷ [] → string_bytes x ≡ text → map string_bytes old ≡ texts
    → map string_bytes items ≡ texts ++ text ∷ []
pushed_text items old x text texts pushed is so_far =
    rw (pushed, map-append string_bytes old (x ∷ []), so_far, is) refl
