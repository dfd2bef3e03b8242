use Rattle.std.proofs.Common.{ℕ, ◌-◌, List, length, Bor, sym, ap, ◌∙◌}
use Rattle.std.specs.Prelude.{slice_get}
use Rattle.std.specs.Option.{option_map}
use Rattle.catalogue.specs.CatalogueFlat.{flat}
use Rattle.cell_core.specs.declared.cell.Cell.{Cell}
use Rattle.catalogue.specs.CatalogueNested.{Nested}
use Rattle.catalogue.proofs.PlacesLastKeysLemmas.{last_of_all, no_last, last_is_some}
use Rattle.catalogue.proofs.places.last.Goals as goal

pub returns-in_err-id : goal.returns-in_err-id
returns-in_err-id c =
    ap (option_map (λ (e : Bor (List ℕ) × Bor (List ℕ) × Bor Cell). ((e.0.now, e.1.now), e.2.now)))
    c.from_residual.ensures
    ∙ ap (λ (es : Nested). slice_get (flat es) (length (flat es) - 1))
    (sym (no_last c.args.map.now (sym c.in_err-id.ensures.entry)))

pub returns-in_err-lang : goal.returns-in_err-lang
returns-in_err-lang c =
    absurd
    (last_is_some c.args.map.now c.in_ok-id.id.now c.in_ok-id.cells.now c.requires
    (sym c.in_ok-id.ensures.entry) (sym c.in_err-lang.ensures.entry))

pub returns : goal.returns
returns c =
    sym (last_of_all c.args.map.now c.in_ok-id.id.now c.in_ok-id.cells.now c.in_ok-lang.lang.now
    c.in_ok-lang.cell.now (sym c.in_ok-id.ensures.entry) (sym c.in_ok-lang.ensures.entry))
