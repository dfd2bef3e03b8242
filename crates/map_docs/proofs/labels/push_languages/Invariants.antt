use Rattle.std.proofs.Common.{◌≡◌, ◌++◌}
use Rattle.cell_core.specs.Keyed.{IsMap}
use Rattle.cell_core.specs.Entry.{key_cmp}
use Rattle.catalogue.specs.CatalogueFlat.{under}
use Rattle.map_docs.specs.inner.MembersRowsSeen.{live}
use Rattle.map_docs.proofs.labels.push_languages.Given as goal

-- what was put, and what is left to put, ascend
abbrev pub invariant-loop-lang : goal.invariant-loop-lang
invariant-loop-lang l = record {
  all : l.maps ++ under l.id (live l.lang-iterator)
      ≡ l.fn.maps ++ under l.id (live l.fn.found.entries);
  sorted : IsMap key_cmp (l.maps ++ under l.id (live l.lang-iterator));
}
