use Rattle.std.proofs.Common.{◌≡◌, map, take}
use Rattle.std.specs.Prelude.{string_bytes}
use Rattle.command_c.specs.Words.{AreUtf8}
use Rattle.command_c.proofs.words.texts_of.Given as goal

-- each text so far is its argument, which is UTF-8
abbrev pub invariant-loop-word : goal.invariant-loop-word
invariant-loop-word l =
    let given = map (λ word. word.text.now) (take l.word-index l.words) in
    (map string_bytes l.texts.items ≡ given) × AreUtf8 given
