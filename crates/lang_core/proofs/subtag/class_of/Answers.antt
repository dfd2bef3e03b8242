use Rattle.std.proofs.Common.{ℕ, ◌≡◌, ◌≤◌, get_or, refl, sym, ◌∙◌, ap, subst, arith}
use Rattle.lang_core.specs.inner.Subtag.{class_of}
use Rattle.lang_core.specs.declared.subtag.TheConstants.{CLASSES}
use Rattle.lang_core.proofs.SubtagClassSums.{from_table, small_class}
use Rattle.lang_core.proofs.subtag.class_of.Goals as goal

pub returns : goal.returns
returns c =
    let class : get_or CLASSES c.from.result 0 ≡ class_of c.args.byte =
    ap (λ (n : ℕ). get_or CLASSES n 0) c.from.ensures
    ∙ from_table CLASSES c.args.byte refl (omega arith) in
    record {
      class = class;
      small =
          subst (λ (n : ℕ). n ≤ 16) (sym class) (small_class c.args.byte);
    }
