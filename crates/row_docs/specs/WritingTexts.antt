-- The text of a document, and what its pieces add to it.
use Rattle.std.specs.Prelude.{◌≡◌, ◌≢◌, ℕ, List, [], ◌∷◌, ◌++◌, All}
use Rattle.json.specs.Token.{Token}
use Rattle.json.specs.Tree.{json_tokens}
use Rattle.json.specs.Written.{Written}
use Rattle.serde_json.specs.Data.{Data}
use Rattle.serde_json.specs.Written.{compact_text, outline}

-- Project rule: the compact text of the value, and a line feed.
abbrev pub text : Data → List ℕ
text d = compact_text d ++ 10 ∷ []

-- a line feed is its last byte, and there is no other
abbrev pub IsOneLine : List ℕ → Type 0
IsOneLine bytes = (line : List ℕ) × (bytes ≡ line ++ 10 ∷ []) × All (λ byte. byte ≢ 10) line

-- the tokens of a value
abbrev pub value_tokens : Data → List Token
value_tokens d = json_tokens (outline d)

-- the draft grew by these tokens
abbrev pub Adds : Written → Written → List Token → Type 0
Adds old new tokens = (new.before ≡ old.before) × (new.tokens ≡ old.tokens ++ tokens)
