use Rattle.std.proofs.Common.{◌≡◌, ◌++◌, ◌∷◌, codes, decimal, length, take}
use Rattle.std.specs.Prelude.{flat_map}
use Rattle.query_docs.specs.Lines.{line}
use Rattle.front_core.specs.TagFilter.{taken_line}
use Rattle.front_core.specs.inner.TagFilter.{texts_of}
use Rattle.front_core.proofs.tag_filter.taken.Given as goal

-- the lines of the picks so far
abbrev pub invariant-loop-at : goal.invariant-loop-at
invariant-loop-at l =
    l.text.items ≡ line (codes "filter" ++ 32 ∷ decimal (length l.picks)) ++ flat_map
    (taken_line (texts_of l.names)) (take l.at l.picks)
