use Rattle.std.proofs.Common.{ℕ, List, ◌<◌, ap, length, subst}
use Rattle.std.specs.Prelude.{slice_index}
use Rattle.list_core.proofs.ItemLemmas.{first_is_hyphen, first_is_none, first_is_other}
use Rattle.list_core.proofs.item.first_byte.Goals as goal

pub returns-in-len1-up : goal.returns-in-len1-up
returns-in-len1-up c =
    first_is_other c.args.text.now _
    (ap (λ (x : List ℕ). slice_index x 0) c.as_bytes.ensures.value)
    c.if-first-ne45.true

pub returns-in_default : goal.returns-in_default
returns-in_default c =
    first_is_none c.args.text.now
    (subst (λ (x : List ℕ). length x < 1) c.as_bytes.ensures.value c.in_default.len_below)

pub returns-in_default-2 : goal.returns-in_default-2
returns-in_default-2 c =
    first_is_hyphen c.args.text.now _
    (ap (λ (x : List ℕ). slice_index x 0) c.as_bytes.ensures.value)
    c.if-first-ne45.false
