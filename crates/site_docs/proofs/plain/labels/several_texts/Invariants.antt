use Rattle.std.proofs.Common.{◌≡◌, ◌∷◌, ◌++◌, true, false, map, string_bytes, length}
use denote.Text.{Utf8}
use denote.Shadow.{shadow}
use Rattle.json.specs.Print.{quoted}
use Rattle.serde_json.specs.Data.{string}
use Rattle.site_docs.specs.Plain.{is_later, open_items}
use Rattle.site_docs.proofs.plain.labels.several_texts.Given as goal

-- the texts that were read, and what is left
abbrev pub invariant-loop-next : goal.invariant-loop-next
invariant-loop-next l =
    shadow (Utf8 l.rest)
    × (is_later (map string_bytes l.texts.items) ≡ true)
    × (91 ∷ (quoted (string_bytes l.fn.first) ++ l.fn.text)
    ≡ 91 ∷ (open_items false (map string (map string_bytes l.texts.items)) ++ l.rest))

abbrev pub decreases-loop-next : goal.decreases-loop-next
decreases-loop-next l = length l.rest
