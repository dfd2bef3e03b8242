use Rattle.std.proofs.Common.{◌≡◌, ◌-◌, ◌∙◌, None, Some, arith, length, refl}
use Rattle.std.proofs.lemmas.Result.{err_from_is_err_and}
use Rattle.json.specs.Json.{read_key, value}
use Rattle.json.proofs.Grammar.{read_key-shorter}
use Rattle.serde_json.specs.Data.{no_members, put}
use Rattle.json_docs.proofs.ObjectMembersLemmas.{not_skipped, range_after_key, skipped}
use Rattle.json_docs.proofs.ScanningReadingLemmas.{key_refused, member_read, member_refused}
use Rattle.json_docs.proofs.ScanningReadingLemmas.{members_over}
use Rattle.row_docs.proofs.cuts.pass_members.Goals as goal

pub loop-reader-init : goal.loop-reader-init
loop-reader-init c = (
  length c.args.reader.now,
  no_members,
  omega arith,
  refl,
  c.requires,
  omega
      arith,
)

pub returns-in_err-next_name-clause-read : goal.returns-in_err-next_name-clause-read
returns-in_err-next_name-clause-read c =
    let inv = c.loop-reader.invariant in
    let p = err_from_is_err_and c.from_residual.result c.from_residual.ensures.1 in
    let e = c.in_err-next_name.ensures in
    rw (p.1, p.2) (
      e.0,
      inv.3 ∙ key_refused (value c.args.depth) inv.1 inv.0
          c.loop-reader.reader e.1,
    )

pub returns-in-Err-clause-read : goal.returns-in-Err-clause-read
returns-in-Err-clause-read c =
    let inv = c.loop-reader.invariant in
    let name = c.in-Some.field-0.now in
    let s = c.next_name.new.reader in
    let named : read_key c.loop-reader.reader ≡ Some (Some name, s) =
    rw c.in-Some.is at c.in_ok-next_name.ensures in (
      refl,
      inv.3 ∙ member_refused (value c.args.depth) inv.1 inv.0 name c.loop-reader.reader s named
          (not_skipped c.args.depth s c.in-Err.ensures.value),
    )

-- The members so far, and then those left, are the object's: the next name and the value skipped
-- are one member more. Each takes a token at least.
pub loop-reader-preserved : goal.loop-reader-preserved
loop-reader-preserved c =
    let inv = c.loop-reader.invariant in
    let name = c.in-Some.field-0.now in
    let s = c.next_name.new.reader in
    let r = c.skip_value.new.self in
    let named : read_key c.loop-reader.reader ≡ Some (Some name, s) =
    rw c.in-Some.is at c.in_ok-next_name.ensures in
    let next = skipped c.args.depth s r
    (range_after_key c.loop-reader.reader (Some name) s named inv.4)
    c.in-Ok.ensures.value in
    let less = read_key-shorter c.loop-reader.reader (Some name) s named in
    let more = c.in-Ok.ensures.shorter in (
      inv.0 - 1,
      put name next.0 inv.1,
      omega (arith, inv.2),
      inv.3 ∙ member_read (value c.args.depth) inv.1 inv.0 name c.loop-reader.reader s r next.0
          (omega (arith, inv.2)) named next.1,
      next.2,
      omega (arith, inv.5),
    )

pub returns-clause-read : goal.returns-clause-read
returns-clause-read c =
    let inv = c.loop-reader.invariant in
    let over : read_key c.loop-reader.reader ≡ Some (None, c.next_name.new.reader) =
    rw c.in_default.is at c.in_ok-next_name.ensures in (
      inv.1,
      inv.3 ∙ members_over (value c.args.depth) inv.1 inv.0 c.loop-reader.reader
          c.next_name.new.reader
          inv.2 over,
    )
