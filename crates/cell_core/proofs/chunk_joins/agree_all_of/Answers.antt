use Rattle.std.proofs.Common.{◌-◌, Vec, Global, length, take, drop, arith, sym, ap, ◌∙◌, subst}
use Rattle.std.proofs.Common.{true≢false}
use Rattle.std.specs.FinMap.Entries.{find}
use Rattle.cell_core.specs.Keyed.{IsMap, AgreeIfBoth}
use Rattle.cell_core.specs.Chunks.{all_of}
use Rattle.cell_core.proofs.JoinAbsentLemmas.{same_right}
use Rattle.cell_core.proofs.ChunkLemmas.{chunk_map}
use Rattle.cell_core.proofs.ChunkJoinsRunLemmas.{take_run, split_run, length_rest, map_of_take}
use Rattle.cell_core.proofs.ChunkJoinsRunLemmas.{map_of_rest}
use Rattle.cell_core.proofs.ChunkJoinsRunLemmas.{same_in_chunk, run_agrees, agree_parts}
use Rattle.cell_core.proofs.chunk_joins.agree_all_of.Goals as goal

pub first_run-at-requires-clause-pairs : goal.first_run-at-requires-clause-pairs
first_run-at-requires-clause-pairs g c =
    map_of_rest g.K.Ord.cmp c.loop-from.from c.args.pairs.now c.requires.pairs

pub agree_pairs-requires-clause-mine : goal.agree_pairs-requires-clause-mine
agree_pairs-requires-clause-mine g c =
    let pairs = c.args.pairs.now in
    let from = c.loop-from.from in
    map_of_take g.K.Ord.cmp c.first_run-at.result.1 (take (length pairs - from) (drop from pairs))
    (map_of_rest g.K.Ord.cmp from pairs c.requires.pairs)

pub agree_pairs-requires-clause-theirs : goal.agree_pairs-requires-clause-theirs
agree_pairs-requires-clause-theirs g c =
    subst (IsMap g.K.Ord.cmp)
    (ap (λ (x : Vec (g.row.K.Denot × g.row.J.Denot) Global). x.items) (sym c.index-theirs-at.is)
    ∙ sym c.deref.ensures.value)
    (chunk_map g.K.Ord.cmp g.met.K.Ord.total c.args.theirs.now c.requires.theirs
    c.first_run-at.result.0 c.index-theirs-at.result c.first_run-at.ensures.fits.in_range)

-- The run does not agree with its chunk, so its entries and theirs do not agree: a key of the run
-- has in all chunks what it has in this one.
pub returns-then-not-agree_pairs : goal.returns-then-not-agree_pairs
returns-then-not-agree_pairs g c =
    let cmp = g.K.Ord.cmp in
    let total = g.met.K.Ord.total in
    let agree = g.J.Join.agree in
    let pairs = c.args.pairs.now in
    let theirs = c.args.theirs.now in
    let from = c.loop-from.from in
    let rest = take (length pairs - from) (drop from pairs) in
    let end = c.first_run-at.result.1 in
    let run = take end rest in
    let chunk = c.index-theirs-at.result in (
      λ no. absurd (true≢false (sym no)),
      λ all.
          let whole =
          run_agrees cmp total agree pairs (take from pairs) run (drop end rest) (all_of theirs)
          (split_run from end pairs) c.requires.pairs all in
          absurd (true≢false (sym (c.agree_pairs.ensures.1 (λ q.
          same_right agree (find cmp q run) (find cmp q (all_of theirs))
          (find cmp q c.deref.result.now)
          (λ v there. same_in_chunk cmp total theirs c.requires.theirs run c.first_run-at.result.0
          c.first_run-at.ensures.fits chunk c.index-theirs-at.is q v there
          ∙ ap (find cmp q) (sym c.deref.ensures.value))
          (whole q))) ∙ c.if-not-agree_pairs.true)),
    )

-- The entries before `from` agree with theirs: the run agrees with its chunk, where all its keys
-- are, so the entries before the end of the run agree too.
pub loop-from-preserved : goal.loop-from-preserved
loop-from-preserved g c =
    let cmp = g.K.Ord.cmp in
    let total = g.met.K.Ord.total in
    let agree = g.J.Join.agree in
    let pairs = c.args.pairs.now in
    let theirs = c.args.theirs.now in
    let from = c.loop-from.from in
    let rest = take (length pairs - from) (drop from pairs) in
    let end = c.first_run-at.result.1 in
    let run = take end rest in
    let chunk = c.index-theirs-at.result in
    let part = c.agree_pairs.ensures.0 c.if-not-agree_pairs.false in
    record {
      within = omega (arith, c.first_run-at.ensures.within, length_rest from pairs);
      agree =
          λ q. subst (λ xs. AgreeIfBoth agree (find cmp q xs) (find cmp q (all_of theirs)))
          (take_run from end pairs)
          (agree_parts cmp agree (take from pairs) run (all_of theirs) c.loop-from.invariant.agree
          (λ r. same_right agree (find cmp r run) (find cmp r c.deref.result.now)
          (find cmp r (all_of theirs))
          (λ v there. sym
          (same_in_chunk cmp total theirs c.requires.theirs run c.first_run-at.result.0
          c.first_run-at.ensures.fits chunk c.index-theirs-at.is r v there
          ∙ ap (find cmp r) (sym c.deref.ensures.value)))
          (part r)) q);
    }
