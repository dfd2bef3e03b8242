use Rattle.std.proofs.Common.{◌≡◌, [], ◌∷◌, subst}
use Rattle.std.specs.Prelude.{OnOk, IfErr, IsOk}
use Rattle.catalogue.specs.CataFault.{IsRefusal}
use Rattle.catalogue.specs.Entries.{Entry, joined}
use Rattle.catalogue.specs.CatalogueSettled.{IsSettledIn}
use Rattle.catalogue.proofs.catalogue.Catalogue.apply.Goals as goal

pub returns-clause-ok : goal.returns-clause-ok
returns-clause-ok c =
    subst (λ (e : Entry). OnOk c.join_cell.result
    (c.join_cell.new.self ≡ joined c.args.self.now (e ∷ [])))
    (λ i. ((c.id.ensures i, c.lang.ensures i), c.cell.ensures i)) c.join_cell.ensures.ok

pub returns-clause-fault : goal.returns-clause-fault
returns-clause-fault c =
    subst (λ (e : Entry). IfErr c.join_cell.result (IsRefusal c.args.self.now (e ∷ [])))
    (λ i. ((c.id.ensures i, c.lang.ensures i), c.cell.ensures i)) c.join_cell.ensures.fault

pub returns-clause-settled : goal.returns-clause-settled
returns-clause-settled c =
    subst (λ (e : Entry). IsSettledIn c.args.self.now e → IsOk c.join_cell.result)
    (λ i. ((c.id.ensures i, c.lang.ensures i), c.cell.ensures i)) c.join_cell.ensures.settled
