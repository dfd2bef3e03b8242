use Rattle.std.proofs.Common.{take}
use Rattle.script_docs.specs.inner.Writing.{HasRows}
use Rattle.script_docs.proofs.writing.steps_draft.Given as goal

-- the steps so far are written
abbrev pub invariant-loop-place : goal.invariant-loop-place
invariant-loop-place l = HasRows l.draft l.fn.script.sites (take l.place l.fn.script.steps)
