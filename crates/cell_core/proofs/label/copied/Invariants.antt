use Rattle.std.proofs.Common.{◌≡◌, take}
use Rattle.cell_core.specs.Label.{texts_of}
use Rattle.cell_core.proofs.label.copied.Given as goal

abbrev pub invariant-loop-text : goal.invariant-loop-text
invariant-loop-text l = texts_of l.copies.items ≡ texts_of (take l.text-index l.texts)
