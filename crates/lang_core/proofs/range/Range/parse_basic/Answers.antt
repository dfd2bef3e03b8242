use Rattle.std.proofs.Common.{◌≡◌, length, arith}
use Rattle.std.proofs.lemmas.List.{length-map}
use Rattle.std.specs.Char.{to_ascii_lowercase}
use Rattle.std.specs.Str.{str_to_ascii_lowercase}
use Rattle.lang_core.specs.Text.{subtags, IsSized}
use Rattle.lang_core.specs.Grammar.{BasicRange, ExtendedRange}
use Rattle.lang_core.specs.Range.{IsRange}
use Rattle.lang_core.proofs.RangeText.{basic_nonzero, basic_extended}
use Rattle.lang_core.proofs.LookupTextLemmas.{lookup_text-basic}
use Rattle.lang_core.proofs.range.Range.parse_basic.Goals as goal

pub new-requires : goal.new-requires
new-requires c = basic_nonzero _ c.in_default.ensures

pub invariant_of-result : goal.invariant_of-result
invariant_of-result c =
    let basic : BasicRange (subtags c.args.text.now) = c.in_default.ensures in
    let size : length (str_to_ascii_lowercase c.args.text.now) ≡ length c.args.text.now =
    length-map c.args.text.now to_ascii_lowercase in
    let sized : IsSized (str_to_ascii_lowercase c.args.text.now) = (grind arith, omega arith) in
    let range : IsRange ExtendedRange (str_to_ascii_lowercase c.args.text.now) =
    (sized, basic_extended _ basic) in
    (rw c.in_ok-text.ensures range, rw c.in_ok-text.ensures (lookup_text-basic _ basic), tt)
