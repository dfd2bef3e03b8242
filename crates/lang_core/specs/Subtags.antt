use Rattle.std.specs.Prelude.{ℕ, List, [], Option, Some, None}
use Rattle.std.specs.Borrow.{Bor}
use Rattle.lang_core.specs.Text.{pieces}
use Rattle.lang_core.specs.declared.subtags.Subtags.{Subtags}

-- the subtags that are still to come
abbrev pub subtags_left : Subtags → List (List ℕ)
subtags_left s = left s.rest where
  left : Option (Bor (List ℕ)) → List (List ℕ)
  left None = []
  left (Some text) = pieces text.now
