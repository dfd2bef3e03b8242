use Rattle.std.proofs.Common.{sym, ◌∙◌, ap}
use Rattle.std.specs.Cmp.Lexicographic.{nat_list_cmp_total}
use Rattle.std.specs.FinMap.Entries.{put}
use Rattle.cell_core.specs.Entry.{text_cmp}
use Rattle.catalogue.proofs.CatalogueNestedLemmas.{put_same, text_exact}
use Rattle.catalogue.proofs.catalogue.join_lang.Goals as goal

pub returns-in-Err-clause-err : goal.returns-in-Err-clause-err
returns-in-Err-clause-err c =
    ap (λ v. put text_cmp c.args.lang.now v c.args.cells.now) c.in-Err.ensures.err
    ∙ put_same text_cmp nat_list_cmp_total text_exact c.args.cells.now c.args.lang.now
    c.in-Some.mine.now c.in-Some.ensures.map (sym c.in-Some.ensures.value)
