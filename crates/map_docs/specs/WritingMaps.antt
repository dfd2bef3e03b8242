-- What a label adds to language maps that are being written.
use Rattle.std.specs.Prelude.{◌≡◌, ◌||◌, ℕ, List, [], ◌∷◌, ◌++◌, Option, None, Some, is_some}
use Rattle.std.specs.Prelude.{if◌then◌else◌}
use Rattle.std.specs.Str.{bytes_eq}
use Rattle.json.specs.Token.{Token, begin_object, end_object, key}
use Rattle.json.specs.Written.{Written}
use Rattle.row_docs.specs.WritingTexts.{value_tokens}
use Rattle.map_docs.specs.MapsLaws.{AreWritable}
use Rattle.map_docs.specs.WritingTexts.{has_label}
use Rattle.map_docs.specs.Maps.{Labelled}
use Rattle.map_docs.specs.MapsValue.{language_value}

-- the end of the current message, if there is one
abbrev pub closing_tokens : Option (List ℕ) → List Token
closing_tokens None = []
closing_tokens (Some id) = end_object ∷ []

-- from the current message to this one
abbrev pub opening_tokens : Option (List ℕ) → List ℕ → List Token
opening_tokens None id = key id ∷ begin_object ∷ []
opening_tokens (Some current) id =
    if bytes_eq current id then [] else end_object ∷ key id ∷ begin_object ∷ []

-- a language and its label
abbrev pub label_tokens : Labelled → List Token
label_tokens e = key e.0.1 ∷ value_tokens (language_value e.1)

-- the labels after those of the current message, then its end and that of the outer object
abbrev pub labels_tokens : Option (List ℕ) → List Labelled → List Token
labels_tokens current [] = closing_tokens current ++ end_object ∷ []
labels_tokens current (e ∷ es) =
    opening_tokens current e.0.0 ++ (label_tokens e ++ labels_tokens (Some e.0.0) es)

-- a draft in the current message: with what is left it comes to all labels
pub record IsWriting (draft : Written) (current : Option (List ℕ))
    (left all : List Labelled) : Type 0 where
  pub before : draft.before ≡ []
  pub tokens : draft.tokens ++ labels_tokens current left ≡ begin_object ∷ labels_tokens None all
  pub writable : AreWritable left → AreWritable all
  pub found : (is_some current || has_label left) ≡ has_label all
