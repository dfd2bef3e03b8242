-- The tokens of rows, and pieces one after another.
use Rattle.std.proofs.Common.{◌≡◌, ◌∙◌, ◌+◌, ◌<◌, ◌++◌, ℕ, List, [], ◌∷◌, String, Global, map, take}
use Rattle.std.proofs.Common.{length, get_or, refl, ap, sym, append_assoc, append-nil, add-one}
use Rattle.std.proofs.Common.{subst}
use Rattle.std.proofs.Common.{string_bytes}
use Rattle.std.proofs.Math.Seq.{take-suc}
use Rattle.std.proofs.lemmas.List.{map-append}
use Rattle.json.specs.Print.{print}
use Rattle.serde_json.proofs.Texts.{print-outline}
use Rattle.json.specs.Token.{Token, begin_array, end_array}
use Rattle.json.specs.Token as token
use Rattle.json.specs.Tree.{items_tokens}
use Rattle.std.proofs.lemmas.Result.{IfOk-weaker}
use Rattle.std.proofs.lemmas.Str.{IsUtf8-append}
use Rattle.std.specs.Prelude.{IsUtf8, OnOk, Result}
use Rattle.json.proofs.Printed.Utf8.{IsUtf8-are_ascii}
use Rattle.json.specs.Written.{Writes, Written}
use Rattle.serde_json.specs.Data.{Data, array, string}
use Rattle.serde_json.specs.View.{items_of}
use Rattle.serde_json.specs.Written.{items_outline}
use Rattle.row_docs.specs.WritingTexts.{Adds, text, value_tokens}
use Rattle.row_docs.specs.inner.WritingTexts.{row_tokens}
use Rattle.cell_core.specs.Label.{texts_of}

-- what was added in two steps
pub Adds-then : (a b c : Written) (x y : List Token) → Adds a b x → Adds b c y → Adds a c (x ++ y)
Adds-then a b c x y p q = (q.0 ∙ p.0, q.1 ∙ (ap (λ t. t ++ y) p.1 ∙ append_assoc a.tokens x y))

-- an array is its bracket, its values and its bracket
pub items_tokens-rows : (ds : List Data) → items_tokens (items_outline (items_of ds))
    ≡ row_tokens ds ++ end_array ∷ []
items_tokens-rows [] = refl
items_tokens-rows (d ∷ ds) = ap (λ t. value_tokens d ++ t) (items_tokens-rows ds)
    ∙ sym (append_assoc (value_tokens d) (row_tokens ds) (end_array ∷ []))

-- the tokens of values that follow others
pub row_tokens-append : (ds es : List Data) → row_tokens (ds ++ es) ≡ row_tokens ds ++ row_tokens es
row_tokens-append [] es = refl
row_tokens-append (d ∷ ds) es = ap (λ t. value_tokens d ++ t) (row_tokens-append ds es)
    ∙ sym (append_assoc (value_tokens d) (row_tokens ds) (row_tokens es))

-- the tokens of one value more
pub row_tokens-push : (ds : List Data) (d : Data) → row_tokens (ds ++ d ∷ []) ≡ row_tokens ds
    ++ value_tokens d
row_tokens-push ds d = row_tokens-append ds (d ∷ [])
    ∙ ap (λ t. row_tokens ds ++ t) (append-nil (value_tokens d))

-- one text more
pub row_tokens-text : (texts : List (String Global)) (k : ℕ) (text : String Global)
    → k < length texts → text ≡ get_or texts k text
    → row_tokens (map string (texts_of (take (k + 1) texts)))
    ≡ row_tokens (map string (texts_of (take k texts))) ++ token.string (string_bytes text) ∷ []
row_tokens-text texts k text h is =
    let taken : take (k + 1) texts ≡ take k texts ++ text ∷ [] =
    rw (add-one, take-suc texts k text h)
    (ap (λ (x : String Global). take k texts ++ x ∷ []) (sym is)) in
    rw (
      taken,
      map-append string_bytes (take k texts) (text ∷ []),
      map-append string
          (texts_of (take k texts)) (string_bytes text ∷ []),
    )
    (row_tokens-push (map string (texts_of (take k texts))) (string (string_bytes text)))

-- an array is whole once its bracket comes after its values
pub array_closed : {E : Type 0} → (a b c : Written) (ds : List Data)
    → Adds a b (begin_array ∷ row_tokens ds) → (r : Result (Unit {0}) E) → Writes r b c end_array
    → OnOk r (Adds a c (value_tokens (array (items_of ds))))
array_closed a b c ds p r w =
    IfOk-weaker r _ _ (λ _ wrote. rw items_tokens-rows
    (Adds-then a b c _ (end_array ∷ []) p (w.room.0, wrote))) w.ok

-- the tokens of a value print as its compact text
pub printed : (ts : List Token) (d : Data) → ts ≡ value_tokens d → print ts ++ 10 ∷ [] ≡ text d
printed ts d is = ap (λ t. print t ++ 10 ∷ []) is ∙ ap (λ t. t ++ 10 ∷ []) (print-outline d)

-- The tokens of a member that is an array of rows are those of the rows, and then a bracket.
pub rows_member : (ds : List Data) (rest : List Token)
    → items_tokens (items_outline (items_of ds)) ++ rest ≡ row_tokens ds ++ end_array ∷ rest
rows_member ds rest = ap (λ t. t ++ rest) (items_tokens-rows ds)
    ∙ append_assoc (row_tokens ds) (end_array ∷ []) rest

-- a text in UTF-8 with nothing before it, and its line feed
pub utf8_line : (before bytes : List ℕ) → IsUtf8 bytes → before ≡ []
    → IsUtf8 (before ++ (bytes ++ 10 ∷ []))
utf8_line before bytes utf8 none = subst (λ b. IsUtf8 (b ++ (bytes ++ 10 ∷ []))) (sym none)
    (IsUtf8-append bytes (10 ∷ []) utf8 (IsUtf8-are_ascii (10 ∷ []) refl))
