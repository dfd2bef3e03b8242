use Rattle.std.proofs.Common.{ℕ, ◌≡◌, ◌+◌, ◌*◌, ◌<◌, ◌++◌, ◌∷◌, [], List, true, get_or, take, refl}
use Rattle.std.proofs.Common.{sym, ◌∙◌, ap, arith}
use Rattle.std.specs.Prelude.{nat_le}
use Rattle.std.proofs.lemmas.List.{take_all, take_more}
use Rattle.lang_core.specs.inner.TagTable.{byte_class}
use Rattle.lang_core.specs.declared.tag_table.TheConstants.{NEXT}
use Rattle.lang_core.proofs.TagTableLemmas.{usual, state_of, grows, ends, stops, fits, all_fit}
use Rattle.lang_core.proofs.TagTableLemmas.{is_table, run, run_push, small_state, staged}
use Rattle.lang_core.proofs.tag_table.is_staged.Goals as goal

-- the table is as it has to be
checked : is_table NEXT ≡ true
unfolding is_table all_fit fits stops ends grows state_of usual
checked = refl

-- The state is that of the bytes read, since one more byte moves it by the table's row and the
-- byte's class; and each state has a row, so the next place lies in the table too.
pub loop-byte-preserved : goal.loop-byte-preserved
loop-byte-preserved c =
    let read : List ℕ = take c.loop-byte.byte-index c.args.text.now in
    let b : ℕ = get_or c.args.text.now c.loop-byte.byte-index 0 in
    let row : c.from.result ≡ run NEXT 1 read = c.from.ensures ∙ c.loop-byte.invariant.0 in
    let class : c.from-in-loop-byte.result ≡ byte_class b = c.from-in-loop-byte.ensures
    ∙ c.byte_class.ensures.class in
    let small : c.from-in-loop-byte.result < 5 =
    omega (arith, c.from-in-loop-byte.ensures, c.byte_class.ensures.small) in
    let place : c.from.result * 5 + c.from-in-loop-byte.result < 370 =
    omega (arith, c.from.ensures, c.loop-byte.invariant.1) in
    let next : get_or NEXT (c.from.result * 5 + c.from-in-loop-byte.result) 0
    ≡ run NEXT 1 (read ++ b ∷ []) = (λ i. get_or NEXT (row i * 5 + class i) 0)
    ∙ sym (run_push NEXT 1 read b) in (
      next ∙ ap (run NEXT 1)
          (sym (take_more c.args.text.now c.loop-byte.byte-index 0 c.loop-byte-test.true)),
      small_state NEXT (c.from.result * 5 + c.from-in-loop-byte.result) checked place,
    )

pub returns : goal.returns
returns c =
    let whole : take c.loop-byte.byte-index c.args.text.now ≡ c.args.text.now =
    take_all _ _ (omega arith) in
    ap (nat_le 37) (c.loop-byte.invariant.0 ∙ ap (run NEXT 1) whole)
    ∙ staged NEXT c.args.text.now checked
