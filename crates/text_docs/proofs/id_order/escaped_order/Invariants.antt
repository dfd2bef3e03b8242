use Rattle.std.proofs.Common.{◌≡◌, List, ℕ, length, true}
use Rattle.cell_core.specs.Entry.{text_cmp}
use Rattle.text_docs.specs.inner.Row.{is_simple}
use Rattle.text_docs.specs.RowStrings.{IsString}
use Rattle.text_docs.proofs.id_order.escaped_order.Given as goal

-- what is left of both is ordered as both are
abbrev pub invariant-loop-byte : goal.invariant-loop-byte
invariant-loop-byte l = (text : List ℕ) → IsString l.fn.written text
    → is_simple l.fn.written ≡ true
    → (more : List ℕ) × IsString l.left more × (is_simple l.left ≡ true)
    × (text_cmp text l.fn.id ≡ text_cmp more l.right)

abbrev pub decreases-loop-byte : goal.decreases-loop-byte
decreases-loop-byte l = length l.left
