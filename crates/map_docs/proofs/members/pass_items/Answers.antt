use Rattle.std.proofs.Common.{◌<◌, ◌++◌, ◌-◌, ◌∙◌, [], ◌∷◌, ap, arith, length, refl}
use Rattle.json.specs.Json.{parse_map, value}
use Rattle.serde_json.specs.Data.{no_items}
use Rattle.json_docs.proofs.ScanningReadingLemmas.{item_read, item_refused, items_over}
use Rattle.json_docs.proofs.ScanningArraysLemmas.{before, parse_map-none, parse_map-push}
use Rattle.json_docs.proofs.ObjectMembersLemmas.{not_skipped, skipped}
use Rattle.map_docs.proofs.members.pass_items.Goals as goal

pub loop-reader-init : goal.loop-reader-init
loop-reader-init c =
    (length c.args.reader.now, [], omega arith, parse_map-none _, c.requires, omega arith)

-- The items so far, and then those left, are the array's: the value skipped is one item more. Each
-- takes a token at least.
pub loop-reader-preserved : goal.loop-reader-preserved
loop-reader-preserved c =
    let inv = c.loop-reader.invariant in
    let p = value 125 in
    let going = c.loop-reader-test.ensures in
    let r = c.skip_value.new.self in
    let passed = skipped 125 c.loop-reader.reader r inv.4 (rw (← going.1) c.in-Ok.ensures.value) in
    let d = passed.0 in
    let less : length r < length c.loop-reader.reader = rw (← going.1) c.in-Ok.ensures.shorter in
    let turn =
    item_read p inv.0 c.loop-reader.reader r d (omega (arith, inv.2, less)) going.0 passed.1 in (
      inv.0 - 1,
      inv.1 ++ d ∷ [],
      omega (arith, inv.2, less),
      inv.3 ∙ ap (parse_map (before inv.1)) turn ∙ parse_map-push inv.1 d _,
      passed.2,
      omega (arith, inv.5, less),
    )

pub returns-in-Err-clause-read : goal.returns-in-Err-clause-read
returns-in-Err-clause-read c =
    let inv = c.loop-reader.invariant in
    let going = c.loop-reader-test.ensures in (
      refl,
      inv.3
          ∙ ap (parse_map (before inv.1))
          (item_refused (value 125) inv.0 c.loop-reader.reader going.0
          (not_skipped 125 c.loop-reader.reader (rw (← going.1) c.in-Err.ensures.value))),
    )

pub returns-clause-read : goal.returns-clause-read
returns-clause-read c =
    let inv = c.loop-reader.invariant in
    let all =
    items_over (value 125) inv.0 c.loop-reader.reader c.take_end_array.new.self inv.2
    c.loop-reader-test.ensures in
    (before inv.1 no_items, inv.3 ∙ ap (parse_map (before inv.1)) all)
