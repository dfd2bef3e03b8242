use Rattle.std.proofs.Common.{ℕ, ◌≡◌, ◌<◌, List, length, arith}
use Rattle.std.specs.Str.{str_to_ascii_lowercase}
use Rattle.std.specs.Char.{to_ascii_lowercase}
use Rattle.std.proofs.lemmas.List.{length-map}
use Rattle.lang_core.proofs.LowerTextLemmas.{nonzero-lower}
use Rattle.lang_core.proofs.lower_text.LowerText.new.Goals as goal
use Rattle.lang_core.proofs.lower_text.LowerText.new.Goals.{then-bytes-le-MAX_SHORT_LEN}
use Rattle.lang_core.proofs.lower_text.LowerText.new.Goals.{else-bytes-le-MAX_SHORT_LEN+in_ok-lower_long}

pub lower_long-requires : goal.lower_long-requires
lower_long-requires c = nonzero-lower c.args.bytes.now c.requires

lower_size : (text : List ℕ) → length (str_to_ascii_lowercase text) ≡ length text
lower_size text = length-map text to_ascii_lowercase

pub invariant_of-result : goal.invariant_of-result
invariant_of-result c =
    let lower : List ℕ = str_to_ascii_lowercase c.args.bytes.now in
    elim c.if-bytes-le-MAX_SHORT_LEN.branch [
      | then-bytes-le-MAX_SHORT_LEN w ↦ rw w.kept-is tt
      | else-bytes-le-MAX_SHORT_LEN+in_ok-lower_long w ↦
          (let long : 16 < length lower =
          omega (arith, lower_size c.args.bytes.now, w.if-bytes-le-MAX_SHORT_LEN.false) in
          rw w.kept-is (rw w.in_ok-lower_long.ensures (c.requires, long)))
    ]

pub returns : goal.returns
returns c =
    elim c.if-bytes-le-MAX_SHORT_LEN.branch [
      | then-bytes-le-MAX_SHORT_LEN w ↦ rw w.kept-is w.lower.ensures
      | else-bytes-le-MAX_SHORT_LEN+in_ok-lower_long w ↦ rw w.kept-is w.in_ok-lower_long.ensures
    ]
