use Rattle.std.proofs.Common.{◌≡◌, Bool, subst, sym}
use Rattle.std.specs.Bool.{Decides}
use Rattle.std.specs.Prelude.{option_map}
use Rattle.docs_core.proofs.UpdatingLemmas.{borrowed_decides}
use Rattle.docs_core.proofs.call.revised.are_equal.Goals as goal

pub returns : goal.returns
returns c =
    let label = option_map (λ l. l.now) c.args.label in
    let other = option_map (λ l. l.now) c.args.other in
    subst (λ (b : Bool). Decides b (label ≡ other)) (sym c.eq.ensures)
    (borrowed_decides c.args.label c.args.other)
