use Rattle.std.proofs.Common.{◌≤◌, Vec, Global, [], length, set, take, drop, arith, sym, subst}
use Rattle.std.proofs.Common.{take-append-drop}
use Rattle.cell_core.specs.Keyed.{IsMap, IsJoinedWith}
use Rattle.cell_core.specs.Chunks.{all_of}
use Rattle.cell_core.specs.inner.Chunks.{IsRunFor}
use Rattle.cell_core.proofs.Basics.{on_err_always}
use Rattle.cell_core.proofs.ChunkLemmas.{chunk_map}
use Rattle.cell_core.proofs.ChunkJoinsRunLemmas.{map_of_take, chunk_agrees, length_with}
use Rattle.cell_core.proofs.ChunkJoinsRunLemmas.{run_chunked}
use Rattle.cell_core.proofs.ChunkJoinsRunLemmas.{run_joined, stopped_chunked, run_stopped}
use Rattle.cell_core.proofs.ChunkJoinsRunLemmas.{joined_none_yet}
use Rattle.cell_core.proofs.ChunkJoinsRunLemmas.{agree_further, stopped_further}
use Rattle.cell_core.proofs.chunk_joins.join_first_run.Goals as goal

pub join_pairs-requires-clause-pairs : goal.join_pairs-requires-clause-pairs
join_pairs-requires-clause-pairs g c =
    let cs = c.args.chunks.now.list.items in
    let at = c.first_run-at.result.0 in
    let end = c.first_run-at.result.1 in
    let fits =
    subst (λ xs. IsRunFor g.K.Ord.cmp (take end c.args.pairs.now) xs at) c.deref.ensures.value
    c.first_run-at.ensures.fits in
    subst (λ (x : Vec (g.row.K.Denot × g.row.J.Denot) Global). IsMap g.K.Ord.cmp x.items)
    (sym c.index_mut.ensures.value)
    (chunk_map g.K.Ord.cmp g.met.K.Ord.total cs c.requires.kept.chunked at
    c.index_mut.result.now fits.in_range)

pub join_pairs-requires-clause-run : goal.join_pairs-requires-clause-run
join_pairs-requires-clause-run g c =
    map_of_take g.K.Ord.cmp c.first_run-at.result.1 c.args.pairs.now c.requires.pairs

-- The run agrees with its chunk: it is a part of what agrees with all entries, and what has one of
-- its keys is in that chunk.
pub join_pairs-requires-clause-agree : goal.join_pairs-requires-clause-agree
join_pairs-requires-clause-agree g c =
    let cmp = g.K.Ord.cmp in
    let total = g.met.K.Ord.total in
    let cs = c.args.chunks.now.list.items in
    let at = c.first_run-at.result.0 in
    let end = c.first_run-at.result.1 in
    let pairs = c.args.pairs.now in
    let fits =
    subst (λ xs. IsRunFor cmp (take end pairs) xs at) c.deref.ensures.value
    c.first_run-at.ensures.fits in
    chunk_agrees cmp total cs c.requires.kept.chunked (take end pairs) at fits
    c.index_mut.result.now c.index_mut.ensures.value g.J.Join.agree
    (agree_further cmp total g.met.J.Join.laws (all_of cs) pairs [] (take end pairs)
    (drop end pairs) (all_of cs) (sym (take-append-drop end pairs)) c.requires.pairs
    c.requires.agree
    (joined_none_yet cmp total g.J.Join.joined (all_of cs) c.requires.kept.chunked.map))

-- Memory ended within the run: the keys still ascend, since each new one goes to this chunk, and
-- the count is right, since it grew as the chunk did.
pub returns-in_err-join_pairs-clause-kept : goal.returns-in_err-join_pairs-clause-kept
returns-in_err-join_pairs-clause-kept g c =
    let cmp = g.K.Ord.cmp in
    let cs = c.args.chunks.now.list.items in
    let at = c.first_run-at.result.0 in
    let end = c.first_run-at.result.1 in
    let run = take end c.args.pairs.now in
    let fits =
    subst (λ xs. IsRunFor cmp run xs at) c.deref.ensures.value c.first_run-at.ensures.fits in
    let grows : length c.index_mut.result.now.items ≤ length c.join_pairs.new.pairs.items =
    omega (
      arith,
      c.join_pairs.ensures.grows,
      c.index_mut.result.now.ok.0,
      c.join_pairs.new.pairs.ok.0,
    ) in
    let sum =
    length_with cs at c.index_mut.result.now c.join_pairs.new.pairs fits.in_range
    c.index_mut.ensures.value in
    record {
      chunked =
          stopped_chunked cmp g.met.K.Ord.total cs c.requires.kept.chunked run at fits
          c.index_mut.result.now c.join_pairs.new.pairs c.index_mut.ensures.value grows
          g.J.Join.between c.in_err-join_pairs.ensures.err;
      counted =
          omega (
            arith,
            sum,
            c.join_pairs.ensures.count,
            c.requires.kept.counted,
            c.index_mut.result.now.ok.0,
            c.join_pairs.new.pairs.ok.0,
          );
    }

-- Memory ended within the run: the chunk is on its way to the join with it, so all entries are on
-- their way to the join with the run, and with what follows it.
pub returns-in_err-join_pairs-clause-err : goal.returns-in_err-join_pairs-clause-err
returns-in_err-join_pairs-clause-err g c =
    let cmp = g.K.Ord.cmp in
    let total = g.met.K.Ord.total in
    let cs = c.args.chunks.now.list.items in
    let at = c.first_run-at.result.0 in
    let end = c.first_run-at.result.1 in
    let pairs = c.args.pairs.now in
    let run = take end pairs in
    let x = c.join_pairs.new.pairs in
    let fits =
    subst (λ xs. IsRunFor cmp run xs at) c.deref.ensures.value c.first_run-at.ensures.fits in
    let grows : length c.index_mut.result.now.items ≤ length x.items =
    omega (arith, c.join_pairs.ensures.grows, c.index_mut.result.now.ok.0, x.ok.0) in
    on_err_always c.from_residual.result
    (stopped_further cmp total g.met.J.Join.laws (all_of cs) pairs [] run (drop end pairs)
    (all_of cs) (sym (take-append-drop end pairs)) c.requires.pairs c.requires.agree
    (joined_none_yet cmp total g.J.Join.joined (all_of cs) c.requires.kept.chunked.map)
    (all_of (set cs at x)) c.requires.kept.chunked.map
    (run_stopped cmp total cs c.requires.kept.chunked run at fits c.index_mut.result.now x
    c.index_mut.ensures.value grows g.J.Join.between c.in_err-join_pairs.ensures.err))

-- With the run joined to its chunk the keys still ascend, since each goes there; so it may be cut.
pub cut_if_full-requires-clause-chunked : goal.cut_if_full-requires-clause-chunked
cut_if_full-requires-clause-chunked g c =
    let cmp = g.K.Ord.cmp in
    let cs = c.args.chunks.now.list.items in
    let at = c.first_run-at.result.0 in
    let run = take c.first_run-at.result.1 c.args.pairs.now in
    let fits =
    subst (λ xs. IsRunFor cmp run xs at) c.deref.ensures.value c.first_run-at.ensures.fits in
    let grows : length c.index_mut.result.now.items ≤ length c.join_pairs.new.pairs.items =
    omega (
      arith,
      c.join_pairs.ensures.grows,
      c.index_mut.result.now.ok.0,
      c.join_pairs.new.pairs.ok.0,
    ) in
    run_chunked cmp g.met.K.Ord.total cs c.requires.kept.chunked run at fits c.index_mut.result.now
    c.join_pairs.new.pairs c.index_mut.ensures.value grows g.J.Join.joined
    c.in_ok-join_pairs.ensures.ok

-- The count is right: it grew by as many entries as the chunk did, and a cut changes none.
pub returns-clause-kept : goal.returns-clause-kept
returns-clause-kept g c =
    let cs = c.args.chunks.now.list.items in
    let at = c.first_run-at.result.0 in
    let run = take c.first_run-at.result.1 c.args.pairs.now in
    let fits =
    subst (λ xs. IsRunFor g.K.Ord.cmp run xs at) c.deref.ensures.value
    c.first_run-at.ensures.fits in
    let sum =
    length_with cs at c.index_mut.result.now c.join_pairs.new.pairs fits.in_range
    c.index_mut.ensures.value in
    record {
      chunked = c.cut_if_full.ensures.chunked;
      counted =
          rw c.cut_if_full.ensures.same
          (omega (
            arith,
            sum,
            c.join_pairs.ensures.count,
            c.requires.kept.counted,
            c.index_mut.result.now.ok.0,
            c.join_pairs.new.pairs.ok.0,
          ));
    }

-- The run is joined to all entries: it is joined to its chunk, other chunks have none of its keys,
-- and a cut changes no entry.
pub returns-clause-ok : goal.returns-clause-ok
returns-clause-ok g c =
    let cmp = g.K.Ord.cmp in
    let cs = c.args.chunks.now.list.items in
    let at = c.first_run-at.result.0 in
    let run = take c.first_run-at.result.1 c.args.pairs.now in
    let fits =
    subst (λ xs. IsRunFor cmp run xs at) c.deref.ensures.value c.first_run-at.ensures.fits in
    let grows : length c.index_mut.result.now.items ≤ length c.join_pairs.new.pairs.items =
    omega (
      arith,
      c.join_pairs.ensures.grows,
      c.index_mut.result.now.ok.0,
      c.join_pairs.new.pairs.ok.0,
    ) in
    subst (IsJoinedWith cmp g.J.Join.joined (all_of cs) run) (sym c.cut_if_full.ensures.same)
    (run_joined cmp g.met.K.Ord.total cs c.requires.kept.chunked run at fits c.index_mut.result.now
    c.join_pairs.new.pairs c.index_mut.ensures.value grows g.J.Join.joined
    c.in_ok-join_pairs.ensures.ok)
