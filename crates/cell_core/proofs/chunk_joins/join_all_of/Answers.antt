use Rattle.std.proofs.Common.{◌+◌, ◌-◌, [], length, take, drop, arith, sym, subst}
use Rattle.cell_core.specs.Keyed.{IsMap, IsJoinedWith}
use Rattle.cell_core.specs.Chunks.{all_of}
use Rattle.cell_core.proofs.Basics.{on_err_always}
use Rattle.cell_core.proofs.ChunkJoinsRunLemmas.{take_run, split_rest, length_rest, map_of_take}
use Rattle.cell_core.proofs.ChunkJoinsRunLemmas.{map_of_rest}
use Rattle.cell_core.proofs.ChunkJoinsRunLemmas.{joined_none_yet, joined_further, agree_further}
use Rattle.cell_core.proofs.ChunkJoinsRunLemmas.{stopped_further}
use Rattle.cell_core.proofs.chunk_joins.join_all_of.Goals as goal

pub loop-from-init : goal.loop-from-init
loop-from-init g c = record {
  within = omega arith;
  some = c.requires.some;
  kept = c.requires.kept;
  joined =
      joined_none_yet g.K.Ord.cmp g.met.K.Ord.total g.J.Join.joined
      (all_of c.args.chunks.now.list.items) c.requires.kept.chunked.map;
}

pub join_first_run-requires-clause-pairs : goal.join_first_run-requires-clause-pairs
join_first_run-requires-clause-pairs g c =
    map_of_rest g.K.Ord.cmp c.loop-from.from c.args.pairs.now c.requires.pairs

pub join_first_run-requires-clause-agree : goal.join_first_run-requires-clause-agree
join_first_run-requires-clause-agree g c =
    let pairs = c.args.pairs.now in
    let from = c.loop-from.from in
    agree_further g.K.Ord.cmp g.met.K.Ord.total g.met.J.Join.laws
    (all_of c.args.chunks.now.list.items) pairs (take from pairs)
    (take (length pairs - from) (drop from pairs)) [] (all_of c.loop-from.chunks.list.items)
    (split_rest from pairs)
    c.requires.pairs c.requires.agree c.loop-from.invariant.joined

pub returns-in_err-from-clause-err : goal.returns-in_err-from-clause-err
returns-in_err-from-clause-err g c =
    let pairs = c.args.pairs.now in
    let from = c.loop-from.from in
    on_err_always c.from_residual.result
    (stopped_further g.K.Ord.cmp g.met.K.Ord.total g.met.J.Join.laws
    (all_of c.args.chunks.now.list.items) pairs (take from pairs)
    (take (length pairs - from) (drop from pairs)) [] (all_of c.loop-from.chunks.list.items)
    (split_rest from pairs)
    c.requires.pairs c.requires.agree c.loop-from.invariant.joined
    (all_of c.join_first_run.new.chunks.list.items) c.requires.kept.chunked.map
    c.in_err-from.ensures.err)

-- The entries before `from` are joined: the first run of the rest was joined to what they had
-- become, and no key is in both parts, so those before its end are joined.
pub loop-from-preserved : goal.loop-from-preserved
loop-from-preserved g c =
    let cmp = g.K.Ord.cmp in
    let joined = g.J.Join.joined in
    let old = all_of c.args.chunks.now.list.items in
    let new = all_of c.join_first_run.new.chunks.list.items in
    let pairs = c.args.pairs.now in
    let from = c.loop-from.from in
    let end = c.in_ok-from.field-0 in
    let rest = take (length pairs - from) (drop from pairs) in
    record {
      within = omega (arith, c.in_ok-from.ensures.end, length_rest from pairs);
      some = c.join_first_run.ensures.some;
      kept = c.join_first_run.ensures.kept;
      joined = subst (λ xs. IsJoinedWith cmp joined old xs new) (take_run from end pairs)
          (joined_further cmp g.met.K.Ord.total joined old (take from pairs)
          (all_of c.loop-from.chunks.list.items) (take end rest) new
          (subst (IsMap cmp) (sym (take_run from end pairs))
          (map_of_take cmp (from + end) pairs c.requires.pairs))
          c.loop-from.invariant.joined c.in_ok-from.ensures.ok);
    }
