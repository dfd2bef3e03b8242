use Rattle.cell_core.specs.Cell.{joined_cells}
use Rattle.cell_core.specs.inner.KeyedLaws.{joined_maps-IsMap, find-joined_maps}
use Rattle.cell_core.proofs.ChunkJoinsRunLemmas.{joined_is}
use Rattle.cell_core.specs.Entry.{key_cmp}
use Rattle.cell_core.specs.inner.Entry.{key_cmp_total, key_cmp_exact}
use Rattle.catalogue.proofs.laws.a_join_has_each_key.Goals as goal

pub returns-clause-each : goal.returns-clause-each
returns-clause-each c =
    λ a b m n.
    record {
      map = joined_maps-IsMap key_cmp key_cmp_total joined_cells a b m n;
      at =
          find-joined_maps key_cmp key_cmp_total joined_cells a b m n;
    }

pub returns-clause-one : goal.returns-clause-one
returns-clause-one c =
    λ a b x m n is. joined_is key_cmp key_cmp_total key_cmp_exact joined_cells a b x m n is
