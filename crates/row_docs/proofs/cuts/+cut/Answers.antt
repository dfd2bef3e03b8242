use Rattle.std.proofs.Common.{◌≡◌, ◌<◌, ◌≤◌, ◌+◌, ◌++◌, ◌-◌, ◌∙◌, [], ◌∷◌, ap, append-nil}
use Rattle.std.proofs.Common.{arith, inl, inr, length, refl, subst, sym}
use Rattle.json.specs.Json.{parse_map, value}
use Rattle.json.specs.Reads.{token_of}
use Rattle.json.specs.Token.{begin_array, begin_object}
use Rattle.serde_json.specs.Data.{array, no_items, object}
use Rattle.row_docs.specs.inner.CutsSeen.{Keeps}
use Rattle.row_docs.specs.declared.cuts.Kept.{Kept}
use Rattle.lang_core.proofs.Basics.{not_false, true_not}
use Rattle.json_docs.proofs.ObjectMembersLemmas.{both_weaker, range_after}
use Rattle.json_docs.proofs.ScanningArraysLemmas.{before, list_of-before, not_json, parse_map-none}
use Rattle.json_docs.proofs.ScanningArraysLemmas.{parse_map-push}
use Rattle.json_docs.proofs.ScanningReadingLemmas.{item_read, item_refused, items_over}
use Rattle.row_docs.proofs.CutsReadLemmas.{array_read, begins_array, begins_object, kept_none}
use Rattle.row_docs.proofs.CutsReadLemmas.{kept_some, no_array, no_object, no_scalar, nothing_read}
use Rattle.row_docs.proofs.CutsReadLemmas.{object_cut, object_read, scalar_cut}
use Rattle.row_docs.proofs.cuts.+cut.Goals as goal

pub next_cut-returns-in_default-clause-read : goal.next_cut-returns-in_default-clause-read
next_cut-returns-in_default-clause-read t c =
    inr (refl, nothing_read c.args.depth c.args.reader.now c.in_default.ensures.value.0)

-- An array was begun: what its items are is what it is.
pub next_cut-returns-in-BeginArray-clause-read : goal.next_cut-returns-in-BeginArray-clause-read
next_cut-returns-in-BeginArray-clause-read t c =
    let old = c.args.reader.now in
    let ts = c.next.new.self in
    let is : old ≡ begin_array ∷ ts =
    c.in-Some.ensures.value ∙ ap (λ t. token_of t ∷ ts) c.in-BeginArray.is in
    both_weaker c.next_items.result _ _ _ _ c.next_items.ensures.read
    (λ cut h. (
      array h.0,
      array_read c.args.depth old ts (omega (arith, c.requires.deep)) c.next_items.new.reader h.0 is
          h.1,
      h.2,
    ))
    (λ e why. not_json e _ _ (no_array c.args.depth old ts (omega (arith, c.requires.deep)) is) why)

-- An object was skipped, and nothing is kept of it.
pub next_cut-returns-in-Ok-clause-read : goal.next_cut-returns-in-Ok-clause-read
next_cut-returns-in-Ok-clause-read t c =
    let old = c.args.reader.now in
    let ts = c.next.new.self in
    let is : old ≡ begin_object ∷ ts =
    c.in-Some.ensures.value ∙ ap (λ t. token_of t ∷ ts) c.in-BeginObject.is in
    let found = c.in-Ok.ensures.read in (
      object found.0,
      object_read c.args.depth old ts (omega (arith, c.requires.deep)) c.pass_members.new.reader
          found.0 is found.1,
      object_cut c.args.levels found.0 _ c.nothing.ensures,
    )

pub next_cut-returns-in-Err-clause-read : goal.next_cut-returns-in-Err-clause-read
next_cut-returns-in-Err-clause-read t c =
    let old = c.args.reader.now in
    let ts = c.next.new.self in
    let is : old ≡ begin_object ∷ ts =
    c.in-Some.ensures.value ∙ ap (λ t. token_of t ∷ ts) c.in-BeginObject.is in
    let e = c.in-Err.ensures.read in
    inr (e.0, no_object c.args.depth old ts (omega (arith, c.requires.deep)) is e.1)

-- A value of its own was read, and is kept whole.
pub next_cut-returns-in-Some-scalar_of-clause-read :
    goal.next_cut-returns-in-Some-scalar_of-clause-read
next_cut-returns-in-Some-scalar_of-clause-read t c =
    scalar_cut c.args.depth c.args.levels c.args.reader.now (token_of c.in-Some.token)
    c.next.new.self c.in-Some-scalar_of.value c.in-Some.ensures.value c.requires.numbers
    (begins_array c.in-Some.token c.in_default-token.not-BeginArray)
    (begins_object c.in-Some.token c.in_default-token.not-BeginObject) c.in-Some-scalar_of.ensures

pub next_cut-returns-in-Some-scalar_of-clause-left :
    goal.next_cut-returns-in-Some-scalar_of-clause-left
next_cut-returns-in-Some-scalar_of-clause-left t c =
    range_after (token_of c.in-Some.token) c.next.new.self
    (rw c.in-Some.ensures.value at c.requires.numbers)

pub next_cut-returns-in-Some-scalar_of-clause-shorter :
    goal.next_cut-returns-in-Some-scalar_of-clause-shorter
next_cut-returns-in-Some-scalar_of-clause-shorter t c =
    omega (arith, ap length c.in-Some.ensures.value)

pub next_cut-returns-in-None-clause-read : goal.next_cut-returns-in-None-clause-read
next_cut-returns-in-None-clause-read t c =
    inr (
      refl,
      no_scalar c.args.depth c.args.reader.now (token_of c.in-Some.token) c.next.new.self
          c.in-Some.ensures.value
          (begins_array c.in-Some.token c.in_default-token.not-BeginArray)
          (begins_object c.in-Some.token c.in_default-token.not-BeginObject)
          c.in-None.ensures,
    )

-- ---- the items of an array

pub next_items-loop-alloc-init : goal.next_items-loop-alloc-init
next_items-loop-alloc-init t c = (
  length c.args.reader.now,
  [],
  omega arith,
  parse_map-none _,
  c.none_kept-kept.ensures.keeps,
  c.requires.numbers,
  omega (arith, c.none_kept-kept.ensures.count),
)

-- The items so far, and then those left, are the array's. Each takes a token at least.
pub next_items-loop-alloc-preserved : goal.next_items-loop-alloc-preserved
next_items-loop-alloc-preserved t c =
    let inv = c.loop-alloc.invariant in
    let p = value c.args.depth in
    let next = c.in-Ok.ensures in
    let d = next.read.0 in
    let r = c.next_kept.new.reader in
    let going = c.loop-alloc-test.ensures in
    let less : length r < length c.loop-alloc.reader = rw (← going.1) next.shorter in
    let turn = item_read p inv.0 c.loop-alloc.reader r d (omega (arith, inv.2, less)) going.0
    (rw (← going.1) next.read.1) in (
      inv.0 - 1,
      inv.1 ++ d ∷ [],
      omega (arith, inv.2, less),
      inv.3 ∙ ap (parse_map (before inv.1)) turn ∙ parse_map-push inv.1 d _,
      next.read.3 inv.1 inv.4,
      next.left,
      omega (arith, inv.6, less, next.read.2),
    )

pub next_items-returns-in-Err-clause-read : goal.next_items-returns-in-Err-clause-read
next_items-returns-in-Err-clause-read t c =
    let inv = c.loop-alloc.invariant in
    let p = value c.args.depth in
    let going = c.loop-alloc-test.ensures in
    not_json c.in-Err.cause _ _
    (λ none. inv.3 ∙ ap (parse_map (before inv.1))
    (item_refused p inv.0 c.loop-alloc.reader going.0 (rw (← going.1) none)))
    c.in-Err.ensures.read

-- the items that were read are all
pub next_items-returns-clause-read : goal.next_items-returns-clause-read
next_items-returns-clause-read t c =
    let inv = c.loop-alloc.invariant in
    let all = items_over (value c.args.depth) inv.0 c.loop-alloc.reader c.take_end_array.new.self
    inv.2 c.loop-alloc-test.ensures in (
      before inv.1 no_items,
      inv.3 ∙ ap (parse_map (before inv.1)) all,
      c.cut_of.ensures c.args.levels (before inv.1 no_items)
          (rw (list_of-before, append-nil) inv.4),
    )

-- ---- one item more

pub next_kept-returns-then-not-kept-clause-read : goal.next_kept-returns-then-not-kept-clause-read
next_kept-returns-then-not-kept-clause-read t c =
    both_weaker c.pass_kept.result _ _ _ _ c.pass_kept.ensures.read
    (λ next h. (
      h.0,
      h.1,
      subst (λ (k : Kept). k.count ≤ c.args.kept.count + 1) (sym h.2) (omega arith),
      λ front keeps. subst (λ (k : Kept). Keeps c.args.levels (front ++ h.0 ∷ []) k) (sym h.2)
          (kept_none c.args.kept c.args.levels front h.0
          (true_not c.args.kept.fits c.if-not-kept.true) keeps),
    ))
    (λ e why. inr why)

pub next_kept-returns-in-Ok-clause-read : goal.next_kept-returns-in-Ok-clause-read
next_kept-returns-in-Ok-clause-read t c =
    let found = c.in-Ok.ensures.read in
    both_weaker c.with_item.result _ _ _ _ c.with_item.ensures
    (λ next h. (
      found.0,
      found.1,
      h.0,
      λ front keeps. kept_some c.args.kept c.args.levels front found.0 next c.in-Ok.item
          (not_false c.args.kept.fits c.if-not-kept.false) keeps found.2 h.1,
    ))
    (λ e memory. inl memory)
