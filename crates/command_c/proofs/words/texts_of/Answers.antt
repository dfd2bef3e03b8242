use Rattle.std.proofs.Common.{rules, map, string_bytes}
use Rattle.std_io.specs.IoError.{error_kind}
use Rattle.command_c.specs.Words.{LacksTexts}
use Rattle.command_c.proofs.WordsLemmas.{lacks_text, more_texts}
use Rattle.command_c.proofs.words.texts_of.Goals as goal

pub returns-in_err-text_of : goal.returns-in_err-text_of
returns-in_err-text_of c =
    let lacks : LacksTexts (map (λ word. word.text.now) c.args.words.now)
    (error_kind c.in_err-text_of.field-0.0) =
    lacks_text (λ word. word.text.now) c.args.words.now c.loop-word.word-index _ _
    c.loop-word-test.true c.in_err-text_of.ensures in
    search rules

pub loop-word-preserved : goal.loop-word-preserved
loop-word-preserved c =
    more_texts (λ word. word.text.now) string_bytes c.args.words.now c.loop-word.word-index _ _ _ _
    c.loop-word-test.true c.in_ok-push.ensures.items c.loop-word.invariant c.in_ok-text_of.ensures
