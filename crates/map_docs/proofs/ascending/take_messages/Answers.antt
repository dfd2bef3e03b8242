use Rattle.std.proofs.Common.{◌≡◌, ◌∙◌, ◌-◌, ◌<◌, ◌++◌, ◌∷◌, [], length, None, Some}
use Rattle.std.proofs.Common.{refl, subst, sym, arith, rules}
use Rattle.std.specs.declared.cmp.Ordering.TheVariants.{Less}
use Rattle.json.specs.Json.{read_key, value}
use Rattle.json.proofs.Grammar.{read_key-shorter}
use Rattle.serde_json.specs.Data.{no_members, object, put}
use Rattle.cell_core.specs.Entry.{text_cmp}
use Rattle.json_docs.proofs.ScanningReadingLemmas.{member_read, members_over}
use Rattle.map_docs.specs.MapsLabels.{rows_labels}
use Rattle.map_docs.specs.MembersRows.{Rows, keys_in, keys_of, message_rows}
use Rattle.map_docs.proofs.AscendingLemmas.{AreAscendingRows, labels_behind, member_behind, no_rows}
use Rattle.map_docs.proofs.AscendingLemmas.{rows_next}
use Rattle.map_docs.proofs.ascending.take_messages.Goals as goal

-- no message was read yet
pub loop-name-init : goal.loop-name-init
loop-name-init g c = (
  search rules,
  (
    length c.args.reader.now,
    no_members,
    omega arith,
    refl,
    no_rows [],
    c.requires,
  ),
)

-- all messages so far are lesser
pub take_message-requires : goal.take_message-requires
take_message-requires g c =
    let inv = c.loop-name.invariant.1 in
    let ascends : text_cmp c.loop-name.last.now c.in-Some.name.now ≡ Less =
    rw c.in-Some.is at c.in_ok-name.ensures.ascends in (
      c.args.taker.now,
      rows_labels (message_rows inv.1),
      inv.5,
      inv.4.lesser c.in-Some.name.now ascends,
      inv.4.map,
    )

pub loop-name-smaller : goal.loop-name-smaller
loop-name-smaller g c =
    let named : read_key c.loop-name.reader
    ≡ Some (Some c.in-Some.name.now, c.name_after.new.reader) =
    rw c.in-Some.is at c.in_ok-name.ensures.read in
    let less = read_key-shorter c.loop-name.reader (Some c.in-Some.name.now)
    c.name_after.new.reader named in
    let lesser = c.in_ok-take_message.ensures.2 in
    omega (arith, less, lesser)

-- one message more
pub loop-name-preserved : goal.loop-name-preserved
loop-name-preserved g c =
    let inv = c.loop-name.invariant.1 in
    let n = inv.0 in
    let old = inv.1 in
    let rows = message_rows old in
    let last = c.loop-name.last.now in
    let name = c.in-Some.name.now in
    let s = c.name_after.new.reader in
    let r = c.take_message.new.reader in
    let named : read_key c.loop-name.reader ≡ Some (Some name, s) =
    rw c.in-Some.is at c.in_ok-name.ensures.read in
    let ascends : text_cmp last name ≡ Less = rw c.in-Some.is at c.in_ok-name.ensures.ascends in
    let less = read_key-shorter c.loop-name.reader (Some name) s named in
    let read = c.in_ok-take_message.ensures in
    let lesser : length r < length s = read.2 in
    let ms = read.0 in
    let keys = keys_of ms in
    let took = read.4 in
    let all = took.1 c.args.taker.now (rows_labels rows) inv.5 (inv.4.lesser name ascends) inv.4.map
    in
    let is : message_rows (put name (object ms) old) ≡ rows ++ (name, Some keys) ∷ [] =
    member_behind keys_in name (object ms) old (inv.4.above name ascends) in
    let id = read.3 in (
      search rules,
      (
        n - 1,
        put name (object ms) old,
        omega (arith, inv.2, less, lesser),
        inv.3
            ∙ member_read (value 126) old n name c.loop-name.reader s r (object ms)
            (omega (arith, inv.2, less)) named read.1,
        subst (AreAscendingRows name) (sym is)
            (rows_next last name rows keys inv.4 ascends id took.0 all.0),
        subst (λ (rs : Rows). g.T.TakeLabels.Holds c.args.taker.now c.take_message.new.taker
            (rows_labels rs)) (sym is)
            (subst (g.T.TakeLabels.Holds c.args.taker.now c.take_message.new.taker)
            (sym (labels_behind last name rows keys inv.4 ascends id took.0)) all.1),
      ),
    )

-- the end of the object
pub returns : goal.returns
returns g c =
    let inv = c.loop-name.invariant.1 in
    let over : read_key c.loop-name.reader ≡ Some (None, c.name_after.new.reader) =
    rw c.in_default.is at c.in_ok-name.ensures.read in (
      inv.1,
      inv.3
          ∙ members_over (value 126) inv.1 inv.0 c.loop-name.reader c.name_after.new.reader inv.2
          over,
      inv.4.passes,
      inv.4.map,
      inv.5,
    )
