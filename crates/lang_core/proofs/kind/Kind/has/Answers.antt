use Rattle.std.proofs.Common.{◌≡◌, true, ◌∙◌, ap}
use Rattle.std.specs.Str.{str_to_ascii_lowercase}
use Rattle.lang_core.specs.Grammar.{is_private_piece}
use Rattle.lang_core.specs.inner.Kind.{is_of}
use Rattle.lang_core.proofs.SubtagLemmas.{lower_piece}
use Rattle.lang_core.proofs.kind.Kind.has.Goals as goal

pub unreachable-requires : goal.unreachable-requires
unreachable-requires c =
    let lower : str_to_ascii_lowercase c.as_bytes.result.now ≡ c.args.subtag.now =
    ap str_to_ascii_lowercase c.as_bytes.ensures.value
    ∙ lower_piece c.args.subtag.now c.requires in
    let fits : is_private_piece (str_to_ascii_lowercase c.as_bytes.result.now) ≡ true =
    ap is_private_piece lower ∙ c.requires in
    let none = c.in-None.ensures in
    cc

pub returns : goal.returns
returns c =
    let lower : str_to_ascii_lowercase c.as_bytes.result.now ≡ c.args.subtag.now =
    ap str_to_ascii_lowercase c.as_bytes.ensures.value
    ∙ lower_piece c.args.subtag.now c.requires in
    c.fits.ensures ∙ ap (is_of c.args.self) (c.in-Some.ensures.0 ∙ lower)
