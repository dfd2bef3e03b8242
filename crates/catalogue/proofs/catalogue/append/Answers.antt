use Rattle.std.proofs.Common.{sym, ap, ◌∙◌, subst}
use Rattle.std.proofs.lemmas.Result.{on_ok_weaker, on_err_weaker}
use Rattle.catalogue.specs.CatalogueFlat.{flat}
use Rattle.catalogue.specs.inner.CatalogueFlat.{inner_of}
use Rattle.catalogue.specs.CatalogueNested.{IsCatalogue}
use Rattle.catalogue.proofs.CatalogueNestedLemmas.{either_way, IsCatalogue-put, flat-put, put_back}
use Rattle.catalogue.proofs.catalogue.append.Goals as goal

pub returns-in-Some-clause-nested : goal.returns-in-Some-clause-nested
returns-in-Some-clause-nested c =
    let m = c.args.map.now in
    let inner = c.in-Some.cells.now in
    let new = c.put.new.map in
    either_way c.put.result c.put.ensures.ok c.put.ensures.err
    (λ is. IsCatalogue-put m c.requires c.args.id c.args.lang c.args.cell inner new
    (ap inner_of c.in-Some.ensures.value) is)
    (λ is. subst IsCatalogue
    (sym (put_back m c.requires c.args.id inner new c.in-Some.ensures.value is)) c.requires)

pub returns-in-Some-clause-ok : goal.returns-in-Some-clause-ok
returns-in-Some-clause-ok c =
    let m = c.args.map.now in
    on_ok_weaker c.put.result
    (λ is. flat-put m c.requires c.args.id c.args.lang c.args.cell c.in-Some.cells.now c.put.new.map
    (ap inner_of c.in-Some.ensures.value) is)
    c.put.ensures.ok

pub returns-in-Some-clause-err : goal.returns-in-Some-clause-err
returns-in-Some-clause-err c =
    on_err_weaker c.put.result
    (λ is. put_back c.args.map.now c.requires c.args.id c.in-Some.cells.now c.put.new.map
    c.in-Some.ensures.value is)
    c.put.ensures.err

pub returns-in_ok-put-in-None-clause-nested : goal.returns-in_ok-put-in-None-clause-nested
returns-in_ok-put-in-None-clause-nested c =
    let m = c.args.map.now in
    either_way c.put-in-None-2.result c.put-in-None-2.ensures.ok c.put-in-None-2.ensures.err
    (λ is. subst IsCatalogue (sym is)
    (IsCatalogue-put m c.requires c.args.id c.args.lang c.args.cell c.new-cells.result
    c.put-in-None.new.map (c.new-cells.ensures ∙ ap inner_of c.in-None.ensures.value)
    c.in_ok-put-in-None.ensures.ok))
    (λ is. subst IsCatalogue (sym is) c.requires)

pub returns-in_ok-put-in-None-clause-ok : goal.returns-in_ok-put-in-None-clause-ok
returns-in_ok-put-in-None-clause-ok c =
    on_ok_weaker c.put-in-None-2.result
    (λ is. ap flat is
    ∙ flat-put c.args.map.now c.requires c.args.id c.args.lang c.args.cell c.new-cells.result
    c.put-in-None.new.map (c.new-cells.ensures ∙ ap inner_of c.in-None.ensures.value)
    c.in_ok-put-in-None.ensures.ok)
    c.put-in-None-2.ensures.ok
