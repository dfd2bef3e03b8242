use Rattle.std.proofs.Common.{◌≡◌, ◌++◌, ◌∷◌, length, string_bytes}
use denote.Text.{Utf8}
use denote.Shadow.{shadow}
use Rattle.json.specs.Print.{escape}
use Rattle.row_docs.proofs.plain_texts.escaped_text.Given as goal

-- the pieces that were taken, and what is left
abbrev pub invariant-loop-content : goal.invariant-loop-content
invariant-loop-content l =
    shadow (Utf8 l.rest) × (l.fn.text ≡ 34 ∷ (escape (string_bytes l.content) ++ l.rest))

abbrev pub decreases-loop-content : goal.decreases-loop-content
decreases-loop-content l = length l.rest
