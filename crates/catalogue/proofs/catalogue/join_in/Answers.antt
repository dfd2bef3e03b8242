use Rattle.std.proofs.Common.{◌≡◌, Option, Some, sym, ap, ◌∙◌, subst}
use Rattle.std.specs.Prelude.{IfOk, IfErr, IsOk, OnOk}
use Rattle.std.specs.Option.{is_none}
use Rattle.std.specs.FinMap.Entries.{find, put}
use Rattle.std.proofs.lemmas.Result.{on_ok_weaker, on_err_weaker}
use Rattle.cell_core.specs.declared.cell.Cell.{Cell}
use Rattle.cell_core.specs.Cell.{AgreeCells, joined_cells}
use Rattle.cell_core.specs.Keyed.{AgreeIfBoth, joined_at}
use Rattle.catalogue.specs.declared.cell_refusal.CellRefusal.TheVariants.{NoMemory}
use Rattle.catalogue.specs.inner.CellRefusal.{IsCellRefusal}
use Rattle.cell_core.specs.Entry.{text_cmp}
use Rattle.catalogue.specs.CatalogueFlat.{flat}
use Rattle.catalogue.specs.inner.CatalogueFlat.{inner_of}
use Rattle.catalogue.specs.CatalogueNested.{Inner, IsCatalogue}
use Rattle.catalogue.specs.CatalogueSettled.{IsSettledBy}
use Rattle.catalogue.proofs.CatalogueNestedLemmas.{either_way, IsCatalogue-put, put_back}
use Rattle.catalogue.proofs.CellRefusalLemmas.{refused_new, unsettled}
use Rattle.catalogue.proofs.CatalogueWrittenLemmas.{found_inner, joined_inner, no_cell}
use Rattle.catalogue.proofs.catalogue.join_in.Goals as goal

pub returns-in-Some-clause-nested : goal.returns-in-Some-clause-nested
returns-in-Some-clause-nested c =
    let m = c.args.map.now in
    let inner = c.in-Some.cells.now in
    let new = c.join_lang.new.cells in
    let lang = c.args.lang.now in
    either_way c.join_lang.result c.join_lang.ensures.ok c.join_lang.ensures.err
    (λ is. IsCatalogue-put m c.requires c.args.id.now lang
    (joined_at joined_cells (find text_cmp lang inner) c.args.cell.now) inner new
    (ap inner_of c.in-Some.ensures.value) is)
    (λ is. subst IsCatalogue
    (sym (put_back m c.requires c.args.id.now inner new c.in-Some.ensures.value is)) c.requires)

pub returns-in-Some-clause-ok : goal.returns-in-Some-clause-ok
returns-in-Some-clause-ok c =
    on_ok_weaker c.join_lang.result
    (joined_inner c.args.map.now c.requires c.args.id.now c.args.lang.now c.args.cell.now
    c.in-Some.cells.now c.join_lang.new.cells (ap inner_of c.in-Some.ensures.value))
    c.join_lang.ensures.ok

pub returns-in-Some-clause-agree : goal.returns-in-Some-clause-agree
returns-in-Some-clause-agree c =
    subst (λ o. OnOk c.join_lang.result (AgreeIfBoth AgreeCells o (Some c.args.cell.now)))
    (found_inner c.args.map.now c.requires c.args.id.now c.args.lang.now c.in-Some.cells.now
    (ap inner_of c.in-Some.ensures.value))
    c.join_lang.ensures.agree

pub returns-in-Some-clause-new : goal.returns-in-Some-clause-new
returns-in-Some-clause-new c =
    subst (λ (o : Option Cell). IfOk c.join_lang.result (λ new. new ≡ is_none o))
    (found_inner c.args.map.now c.requires c.args.id.now c.args.lang.now c.in-Some.cells.now
    (ap inner_of c.in-Some.ensures.value))
    c.join_lang.ensures.new

pub returns-in-Some-clause-err : goal.returns-in-Some-clause-err
returns-in-Some-clause-err c =
    on_err_weaker c.join_lang.result
    (put_back c.args.map.now c.requires c.args.id.now c.in-Some.cells.now c.join_lang.new.cells
    c.in-Some.ensures.value)
    c.join_lang.ensures.err

pub returns-in-Some-clause-fault : goal.returns-in-Some-clause-fault
returns-in-Some-clause-fault c =
    subst (λ o. IfErr c.join_lang.result (IsCellRefusal o c.args.cell.now))
    (found_inner c.args.map.now c.requires c.args.id.now c.args.lang.now c.in-Some.cells.now
    (ap inner_of c.in-Some.ensures.value))
    c.join_lang.ensures.fault

pub returns-in-Some-clause-settled : goal.returns-in-Some-clause-settled
returns-in-Some-clause-settled c =
    subst (λ o. IsSettledBy o c.args.cell.now → IsOk c.join_lang.result)
    (found_inner c.args.map.now c.requires c.args.id.now c.args.lang.now c.in-Some.cells.now
    (ap inner_of c.in-Some.ensures.value))
    c.join_lang.ensures.settled

pub returns-in_err-is_new-in-None-clause-fault : goal.returns-in_err-is_new-in-None-clause-fault
returns-in_err-is_new-in-None-clause-fault c =
    let none =
    no_cell c.args.map.now c.requires c.args.id.now c.args.lang.now c.in-None.ensures.value in
    refused_new c.from_residual.result c.in_err-is_new-in-None.field-0.0 _ c.args.cell.now
    c.from_residual.ensures.1 none
    (subst (λ (es : Inner). IsCellRefusal (find text_cmp c.args.lang.now es) c.args.cell.now
    c.in_err-is_new-in-None.field-0.0) c.new-cells.ensures c.in_err-is_new-in-None.ensures.fault)

pub returns-in_err-is_new-in-None-clause-settled : goal.returns-in_err-is_new-in-None-clause-settled
returns-in_err-is_new-in-None-clause-settled c =
    unsettled _ c.args.cell.now
    (no_cell c.args.map.now c.requires c.args.id.now c.args.lang.now c.in-None.ensures.value)

pub returns-in_err-copy-in-None-clause-fault : goal.returns-in_err-copy-in-None-clause-fault
returns-in_err-copy-in-None-clause-fault c =
    refused_new c.from_residual-in_err-copy-in-None.result NoMemory _ c.args.cell.now
    c.from_residual-in_err-copy-in-None.ensures.1
    (no_cell c.args.map.now c.requires c.args.id.now c.args.lang.now c.in-None.ensures.value) tt

pub returns-in_err-copy-in-None-clause-settled : goal.returns-in_err-copy-in-None-clause-settled
returns-in_err-copy-in-None-clause-settled c =
    unsettled _ c.args.cell.now
    (no_cell c.args.map.now c.requires c.args.id.now c.args.lang.now c.in-None.ensures.value)

pub returns-in_err-put-in-None-clause-fault : goal.returns-in_err-put-in-None-clause-fault
returns-in_err-put-in-None-clause-fault c =
    refused_new c.from_residual-in_err-put-in-None.result NoMemory _ c.args.cell.now
    c.from_residual-in_err-put-in-None.ensures.1
    (no_cell c.args.map.now c.requires c.args.id.now c.args.lang.now c.in-None.ensures.value) tt

pub returns-in_err-put-in-None-clause-settled : goal.returns-in_err-put-in-None-clause-settled
returns-in_err-put-in-None-clause-settled c =
    unsettled _ c.args.cell.now
    (no_cell c.args.map.now c.requires c.args.id.now c.args.lang.now c.in-None.ensures.value)

pub returns-in_ok-put-in-None-clause-nested : goal.returns-in_ok-put-in-None-clause-nested
returns-in_ok-put-in-None-clause-nested c =
    let m = c.args.map.now in
    let inner = c.new-cells.result in
    let new = c.join_lang-in-None.new.cells in
    let lang = c.args.lang.now in
    subst IsCatalogue
    (sym (c.in_ok-put-in-None.ensures.ok
    ∙ ap (λ k. put text_cmp k new m) c.in_ok-copy-in-None.ensures.equal))
    (IsCatalogue-put m c.requires c.args.id.now lang
    (joined_at joined_cells (find text_cmp lang inner) c.args.cell.now) inner new
    (c.new-cells.ensures ∙ ap inner_of c.in-None.ensures.value) c.in_ok-is_new-in-None.ensures.ok)

pub returns-in_ok-put-in-None-clause-ok : goal.returns-in_ok-put-in-None-clause-ok
returns-in_ok-put-in-None-clause-ok c =
    let m = c.args.map.now in
    let new = c.join_lang-in-None.new.cells in
    ap flat (c.in_ok-put-in-None.ensures.ok
    ∙ ap (λ k. put text_cmp k new m) c.in_ok-copy-in-None.ensures.equal)
    ∙ joined_inner m c.requires c.args.id.now c.args.lang.now c.args.cell.now c.new-cells.result
    new (c.new-cells.ensures ∙ ap inner_of c.in-None.ensures.value)
    c.in_ok-is_new-in-None.ensures.ok

pub returns-in_ok-put-in-None-clause-agree : goal.returns-in_ok-put-in-None-clause-agree
returns-in_ok-put-in-None-clause-agree c =
    subst (λ o. AgreeIfBoth AgreeCells o (Some c.args.cell.now))
    (found_inner c.args.map.now c.requires c.args.id.now c.args.lang.now c.new-cells.result
    (c.new-cells.ensures ∙ ap inner_of c.in-None.ensures.value))
    c.in_ok-is_new-in-None.ensures.agree

pub returns-in_ok-put-in-None-clause-new : goal.returns-in_ok-put-in-None-clause-new
returns-in_ok-put-in-None-clause-new c =
    c.in_ok-is_new-in-None.ensures.new
    ∙ ap is_none
    (found_inner c.args.map.now c.requires c.args.id.now c.args.lang.now c.new-cells.result
    (c.new-cells.ensures ∙ ap inner_of c.in-None.ensures.value))
