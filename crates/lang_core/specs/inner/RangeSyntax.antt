use Rattle.std.specs.Prelude.{ℕ, Bool, List}
use Rattle.lang_core.specs.Grammar.{basic_piece, extended_piece}
use Rattle.lang_core.specs.declared.range_syntax.RangeSyntax.{RangeSyntax}
use Rattle.lang_core.specs.declared.range_syntax.RangeSyntax.TheVariants.{Basic, Extended}

-- whether the piece may be at the place
abbrev pub allowed_by : RangeSyntax → ℕ → List ℕ → Bool
allowed_by Basic = basic_piece
allowed_by Extended = extended_piece
