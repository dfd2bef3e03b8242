use Rattle.std.proofs.Common.{◌≡◌, map, take}
use Rattle.cell_core.specs.Label.{texts_of}
use Rattle.front_core.proofs.change.owned.Given as goal

-- each text so far is that of its word
abbrev pub invariant-loop-text : goal.invariant-loop-text
invariant-loop-text l = texts_of l.copies.items ≡ map (λ s. s.now) (take l.text-index l.texts)
