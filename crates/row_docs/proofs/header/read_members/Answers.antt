use Rattle.std.proofs.Common.{◌≡◌, ◌-◌, ◌∙◌, None, Some, arith, inr, length, refl, sym}
use Rattle.std.proofs.lemmas.Result.{err_from_is_err_and}
use Rattle.json.specs.Json.{read_key, value}
use Rattle.json.proofs.Grammar.{read_key-shorter}
use Rattle.serde_json.specs.Data.{no_members, put}
use Rattle.json_docs.proofs.ScanningArraysLemmas.{not_json}
use Rattle.json_docs.proofs.ScanningReadingLemmas.{key_refused, member_read, member_refused}
use Rattle.json_docs.proofs.ScanningReadingLemmas.{members_over}
use Rattle.row_docs.proofs.HeadersLemmas.{Shows-none}
use Rattle.row_docs.proofs.header.read_members.Goals as goal

pub loop-name-init : goal.loop-name-init
loop-name-init g c = (
  length c.args.reader.now,
  no_members,
  omega arith,
  refl,
  Shows-none c.args.wanted.now.kind
      (g.R.Rows.Checks c.args.wanted.now.version)
      (g.R.Rows.Holds c.args.wanted.now.start.now c.args.wanted.now.version) c.args.rows.now,
  c.requires.numbers,
  omega arith,
)

pub returns-in_err-name : goal.returns-in_err-name
returns-in_err-name g c =
    let inv = c.loop-name.invariant in
    let p = err_from_is_err_and c.from_residual.result c.from_residual.ensures.1 in
    let e = c.in_err-name.ensures in
    rw (p.1, p.2) (inr (e.0, inv.3 ∙ key_refused (value 126) inv.1 inv.0 c.loop-name.reader e.1))

pub returns-in_err-header : goal.returns-in_err-header
returns-in_err-header g c =
    let inv = c.loop-name.invariant in
    let name = c.in-Some.name.now in
    let s = c.next_name.new.reader in
    let named : read_key c.loop-name.reader ≡ Some (Some name, s) =
    rw c.in-Some.is at c.in_ok-name.ensures in
    let p = err_from_is_err_and c.from_residual-in_err-header.result
    c.from_residual-in_err-header.ensures.1 in
    rw (p.1, p.2) (not_json _ _ _ (λ none. inv.3
    ∙ member_refused (value 126) inv.1 inv.0 name c.loop-name.reader s named none)
    c.in_err-header.ensures)

-- The header shows the members so far: the next one, which may be any, was read and is shown too.
-- Each takes a token at least.
pub loop-name-preserved : goal.loop-name-preserved
loop-name-preserved g c =
    let inv = c.loop-name.invariant in
    let name = c.in-Some.name.now in
    let s = c.next_name.new.reader in
    let r = c.read_member.new.reader in
    let named : read_key c.loop-name.reader ≡ Some (Some name, s) =
    rw c.in-Some.is at c.in_ok-name.ensures in
    let next = c.in_ok-header.ensures in
    let less = read_key-shorter c.loop-name.reader (Some name) s named in
    let more = next.1.shorter in (
      inv.0 - 1,
      put name next.0 inv.1,
      omega (arith, inv.2),
      inv.3 ∙ member_read (value 126) inv.1 inv.0 name c.loop-name.reader s r next.0
          (omega (arith, inv.2)) named next.1.read,
      next.2 name inv.1 (sym c.member-member.ensures) inv.4,
      next.1.left,
      omega (arith, inv.6),
    )

pub returns : goal.returns
returns g c =
    let inv = c.loop-name.invariant in
    let over : read_key c.loop-name.reader ≡ Some (None, c.next_name.new.reader) =
    rw c.in_default.is at c.in_ok-name.ensures in (
      inv.1,
      inv.3 ∙ members_over (value 126) inv.1 inv.0 c.loop-name.reader c.next_name.new.reader
          inv.2 over,
      inv.4,
    )
