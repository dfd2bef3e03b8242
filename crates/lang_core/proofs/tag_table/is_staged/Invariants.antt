use Rattle.std.proofs.Common.{◌≡◌, ◌<◌, take}
use Rattle.lang_core.specs.declared.tag_table.TheConstants.{NEXT}
use Rattle.lang_core.proofs.TagTableLemmas.{run}
use Rattle.lang_core.proofs.tag_table.is_staged.Given as goal

-- the state after the bytes that were read
abbrev pub invariant-loop-byte : goal.invariant-loop-byte
invariant-loop-byte l = (l.state ≡ run NEXT 1 (take l.byte-index l.text)) × (l.state < 74)
