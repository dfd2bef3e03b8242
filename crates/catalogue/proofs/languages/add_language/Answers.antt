use Rattle.std.specs.FinMap.Entries.{find}
use Rattle.cell_core.specs.Entry.{text_cmp}
use Rattle.catalogue.proofs.LanguageLemmas.{added_put, added_there, there_of}
use Rattle.catalogue.proofs.languages.add_language.Goals as goal
use Rattle.catalogue.proofs.languages.add_language.Goals.{in-Ok, in-Err}

pub returns-then-is_some : goal.returns-then-is_some
returns-then-is_some c =
    let langs = c.args.langs.now in
    let lang = c.args.lang.now in
    added_there langs lang c.get.ensures.map (there_of c.get.result (find text_cmp lang langs)
    c.is_some.result c.get.ensures.value c.is_some.ensures c.if-is_some.true)

pub returns : goal.returns
returns c = elim c.match-put.branch [
  | in-Ok w ↦ rw (w.result-is, w.in-Ok.ensures.ok, c.in_ok-copied.ensures.equal)
      (added_put c.args.langs.now c.args.lang.now c.get.ensures.map)
  | in-Err w ↦ rw w.result-is tt
]
