use Rattle.std.proofs.Common.{◌<◌, ◌++◌, ◌-◌, ◌∙◌, [], ◌∷◌, ap, append-nil, arith, length}
use Rattle.std.proofs.Common.{length-append, refl}
use Rattle.json.specs.Json.{parse_map, value}
use Rattle.serde_json.specs.Data.{no_items}
use Rattle.json_docs.proofs.ScanningReadingLemmas.{item_read, item_refused, items_over}
use Rattle.json_docs.proofs.ScanningArraysLemmas.{before, list_of-before, not_json, parse_map-none}
use Rattle.json_docs.proofs.ScanningArraysLemmas.{parse_map-push, TakesRows-next}
use Rattle.row_docs.proofs.arrays.read_rows.Goals as goal

pub loop-alloc-init : goal.loop-alloc-init
loop-alloc-init g c = (
  length c.args.reader.now,
  [],
  omega arith,
  parse_map-none _,
  (tt, c.restart.ensures c.args.version),
  c.requires.numbers,
  omega arith,
  refl,
)

-- The items so far, and then those left, are the array's, and their rows are taken or refused: the
-- next item comes after them, and its row after theirs. Each takes a token at least.
pub loop-alloc-preserved : goal.loop-alloc-preserved
loop-alloc-preserved g c =
    let inv = c.loop-alloc.invariant in
    let p = value c.args.depth in
    let row = c.in-Ok.ensures in
    let d = row.read.0 in
    let r = c.read_row.new.reader in
    let going = c.loop-alloc-test.ensures in
    let less : length r < length c.loop-alloc.reader = rw (← going.1) row.shorter in
    let turn = item_read p inv.0 c.loop-alloc.reader r d (omega (arith, inv.2, less)) going.0
    (rw (← going.1) row.read.1) in (
      inv.0 - 1,
      inv.1 ++ d ∷ [],
      omega (arith, inv.2, less),
      inv.3 ∙ ap (parse_map (before inv.1)) turn ∙ parse_map-push inv.1 d _,
      TakesRows-next (g.R.Rows.Checks c.args.version)
          (g.R.Rows.Holds c.args.start.now c.args.version) c.loop-alloc.rows
          c.read_row.new.rows c.loop-alloc.refusal c.in-Ok.next inv.1 d inv.4
          (row.read.2 c.args.start.now inv.1 inv.7),
      row.left,
      omega (arith, inv.6, less),
      simp length-append (omega (arith, inv.7)),
    )

pub returns-in-Err-clause-read : goal.returns-in-Err-clause-read
returns-in-Err-clause-read g c =
    let inv = c.loop-alloc.invariant in
    let p = value c.args.depth in
    let going = c.loop-alloc-test.ensures in
    not_json c.in-Err.cause _ _
    (λ none. inv.3 ∙ ap (parse_map (before inv.1))
    (item_refused p inv.0 c.loop-alloc.reader going.0
    (rw (← going.1) none)))
    c.in-Err.ensures.read

-- the rows that were read are all
pub returns-clause-read : goal.returns-clause-read
returns-clause-read g c =
    let inv = c.loop-alloc.invariant in
    let all = items_over (value c.args.depth) inv.0 c.loop-alloc.reader c.take_end_array.new.self
    inv.2
    c.loop-alloc-test.ensures in (
      before inv.1 no_items,
      inv.3 ∙ ap (parse_map (before inv.1)) all,
      rw (list_of-before, append-nil) inv.4,
    )
