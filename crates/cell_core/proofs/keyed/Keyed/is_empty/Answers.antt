use Rattle.std.proofs.Common.{◌∙◌, ap, length, sym}
use Rattle.std.proofs.lemmas.Bool.Decides.{Decides-eqb}
use Rattle.std.proofs.lemmas.List.{nil_from_length}
use Rattle.cell_core.proofs.keyed.Keyed.is_empty.Goals as goal

pub returns : goal.returns
returns g c =
    let none = Decides-eqb c.len.result 0 in
    record {
      empty = (
        λ is. nil_from_length _ (sym c.len.ensures.len ∙ none.0 is),
        λ empty. none.1 (c.len.ensures.len ∙ ap length empty),
      );
    }
