use Rattle.std.specs.Str.{str_to_ascii_lowercase}
use Rattle.lang_core.proofs.SubtagLemmas.{basic_none}
use Rattle.lang_core.proofs.range_syntax.is_basic_piece.Goals as goal

pub returns-in-None : goal.returns-in-None
returns-in-None c =
    basic_none c.args.place (str_to_ascii_lowercase c.args.piece.now) c.in-None.ensures
