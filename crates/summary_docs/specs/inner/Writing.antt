-- How the document of a summary that shows labels begins.
use Rattle.std.specs.Prelude.{◌++◌, ℕ, List, [], ◌∷◌, codes}
use Rattle.json.specs.Token.{Token, begin_array, begin_object, key}
use Rattle.json.specs.Token as token
use Rattle.row_docs.specs.EntriesValues.{texts_value}
use Rattle.row_docs.specs.WritingTexts.{value_tokens}

-- `{"kind":"summary","labels":`
abbrev pub kind_opening : List Token
kind_opening =
    begin_object ∷ key (codes "kind") ∷ token.string (codes "summary") ∷ key (codes "labels") ∷ []

-- `"owner":NAME,"stamps":[`
abbrev pub stamps_opening : List ℕ → List Token
stamps_opening owner =
    key (codes "owner") ∷ token.string owner ∷ key (codes "stamps") ∷ begin_array ∷ []

-- `{"kind":"summary","labels":[DIGEST,..],"owner":NAME,"stamps":[`
abbrev pub labels_opening : List ℕ → List (List ℕ) → List Token
labels_opening owner digests =
    kind_opening ++ (value_tokens (texts_value digests) ++ stamps_opening owner)
