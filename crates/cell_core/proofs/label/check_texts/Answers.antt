use Rattle.std.proofs.Common.{sym, ◌∙◌, arith}
use Rattle.std.specs.String.{string_bytes}
use Rattle.cell_core.specs.Label.{texts_of, is_too_long}
use Rattle.cell_core.proofs.LabelLemmas.{position-map, length-texts_of, all_short}
use Rattle.cell_core.proofs.label.check_texts.Goals as goal

pub returns-in-Some : goal.returns-in-Some
returns-in-Some c = (
  record {
    some = omega (arith, length-texts_of c.args.texts.now);
    most =
        omega (arith, length-texts_of c.args.texts.now);
  },
  sym (position-map is_too_long string_bytes c.args.texts.now) ∙ sym c.first_too_long.ensures
      ∙ c.in-Some.is,
)

pub returns-in-None : goal.returns-in-None
returns-in-None c = record {
  count =
      record {
        some = omega (arith, length-texts_of c.args.texts.now);
        most =
            omega (arith, length-texts_of c.args.texts.now);
      };
  short =
      all_short (texts_of c.args.texts.now)
      (sym (position-map is_too_long string_bytes c.args.texts.now) ∙ sym c.first_too_long.ensures
      ∙ c.in-None.is);
}
