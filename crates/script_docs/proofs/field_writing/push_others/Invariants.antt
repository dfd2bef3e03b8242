use Rattle.std.proofs.Common.{◌≡◌, [], ◌∷◌, ◌++◌, take}
use Rattle.std.specs.Prelude.{flat_map, string_bytes}
use Rattle.script_docs.specs.FieldWriting.{item_text}
use Rattle.script_docs.proofs.field_writing.push_others.Given as goal

-- the items so far, each after a comma
abbrev pub invariant-loop-item : goal.invariant-loop-item
invariant-loop-item l =
    string_bytes l.text
    ≡ string_bytes l.fn.text ++ flat_map (λ i. (44 ∷ []) ++ item_text i) (take l.item-index l.items)
