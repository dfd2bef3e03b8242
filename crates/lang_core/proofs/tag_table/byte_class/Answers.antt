use Rattle.std.proofs.Common.{ℕ, ◌≡◌, ◌<◌, get_or, refl, sym, ◌∙◌, ap, subst, arith}
use Rattle.lang_core.specs.inner.TagTable.{byte_class}
use Rattle.lang_core.specs.declared.tag_table.TheConstants.{CLASSES}
use Rattle.lang_core.proofs.TagTableLemmas.{class_from_table, small_class}
use Rattle.lang_core.proofs.tag_table.byte_class.Goals as goal

pub returns : goal.returns
returns c =
    let class : get_or CLASSES c.from.result 0 ≡ byte_class c.args.byte =
    ap (λ (n : ℕ). get_or CLASSES n 0) c.from.ensures
    ∙ class_from_table CLASSES c.args.byte refl (omega arith) in
    record {
      class = class;
      small = subst (λ (n : ℕ). n < 5) (sym class) (small_class c.args.byte);
    }
