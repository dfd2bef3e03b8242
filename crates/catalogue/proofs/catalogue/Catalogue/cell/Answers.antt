use Rattle.std.proofs.Common.{sym, ◌∙◌, ap}
use Rattle.std.specs.FinMap.Entries.{find}
use Rattle.std.specs.Cmp.Lexicographic.{nat_list_cmp_total}
use Rattle.catalogue.specs.inner.CatalogueFlat.{found_in}
use Rattle.cell_core.specs.Entry.{EntryKey, text_cmp, key_cmp}
use Rattle.catalogue.proofs.CatalogueFlatLemmas.{find-flat}
use Rattle.catalogue.proofs.catalogue.Catalogue.cell.Goals as goal

pub returns-in-Some : goal.returns-in-Some
returns-in-Some c =
    let key : EntryKey = (c.args.id.now, c.args.lang.now) in
    c.get-in-Some.ensures.value ∙ ap (found_in text_cmp c.args.lang.now) c.in-Some.ensures.value
    ∙ sym (find-flat text_cmp text_cmp nat_list_cmp_total c.self.inside.map
    c.self.invariant.nested.outer key) ∙ ap (find key_cmp key) c.self.view_is

pub returns-in-None : goal.returns-in-None
returns-in-None c =
    let key : EntryKey = (c.args.id.now, c.args.lang.now) in
    ap (found_in text_cmp c.args.lang.now) c.in-None.ensures.value
    ∙ sym (find-flat text_cmp text_cmp nat_list_cmp_total c.self.inside.map
    c.self.invariant.nested.outer key) ∙ ap (find key_cmp key) c.self.view_is
