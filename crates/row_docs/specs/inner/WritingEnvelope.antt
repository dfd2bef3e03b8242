-- Parts of documents as tokens.
use Rattle.std.specs.Prelude.{ℕ, List, [], ◌∷◌, codes, decimal}
use Rattle.json.specs.Token.{Token, end_object, key, number, string}

-- a member that is a text
abbrev pub name_tokens : List ℕ → List ℕ → List Token
name_tokens member name = key member ∷ string name ∷ []

-- the version, and the end of the document's object
abbrev pub version_tokens : List Token
version_tokens = key (codes "version") ∷ number (decimal 2) ∷ end_object ∷ []
