use Rattle.std.proofs.Common.{◌≡◌, length, arith}
use Rattle.std.specs.Char.{to_ascii_lowercase}
use Rattle.std.specs.Str.{str_to_ascii_lowercase}
use Rattle.std.proofs.lemmas.List.{length-map}
use Rattle.lang_core.proofs.LowerTextLemmas.{KeepsShort-lower, take-lower}
use Rattle.lang_core.proofs.lower_text.ShortText.lower.Goals as goal

pub fill-bytes-requires : goal.fill-bytes-requires
fill-bytes-requires c =
    let size : length (str_to_ascii_lowercase c.args.text.now) ≡ length c.args.text.now =
    length-map c.args.text.now to_ascii_lowercase in
    omega (arith, size, c.requires.0)

pub invariant_of-result : goal.invariant_of-result
invariant_of-result c =
    rw (c.make_ascii_lowercase.ensures.after, c.fill-bytes.ensures)
    (KeepsShort-lower c.args.text.now c.requires)

pub returns : goal.returns
returns c =
    rw (c.make_ascii_lowercase.ensures.after, c.fill-bytes.ensures) (take-lower c.args.text.now)
