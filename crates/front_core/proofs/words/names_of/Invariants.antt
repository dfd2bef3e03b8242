use Rattle.std.proofs.Common.{◌≡◌, take}
use Rattle.front_core.specs.inner.TagFilter.{texts_of}
use Rattle.front_core.proofs.words.names_of.Given as goal

-- the texts of the languages so far
abbrev pub invariant-loop-lang : goal.invariant-loop-lang
invariant-loop-lang l = texts_of l.names.items ≡ take l.lang-index l.langs
