use Rattle.std.proofs.Common.{map, take}
use Rattle.front_core.specs.Tags.{SpellLangs}
use Rattle.front_core.proofs.tags.read_words.Given as goal

-- each language so far is that of its word
abbrev pub invariant-loop-tag : goal.invariant-loop-tag
invariant-loop-tag g l = SpellLangs (map g.S.AsStr.text (take l.tag-index l.tags)) l.langs.items
