use Rattle.std.proofs.Common.{◌≡◌, ◌∙◌, ◌-◌, ◌<◌, length, None, Some, string_bytes, string_cmp}
use Rattle.std.proofs.Common.{ap, inr, refl, subst, sym}
use Rattle.std.proofs.Common.{arith, rules}
use Rattle.std.proofs.lemmas.Result.{err_from_is_err_and}
use Rattle.json.specs.Json.{read_key, value}
use Rattle.json.proofs.Grammar.{read_key-shorter}
use Rattle.serde_json.specs.Data.{no_members, put}
use Rattle.map_docs.specs.inner.AscendingMap.{entries_of}
use Rattle.map_docs.specs.inner.MembersRowsSeen.{AreSorted, members_seen}
use Rattle.map_docs.proofs.AscendingMapLemmas.{none_sorted}
use Rattle.json_docs.proofs.ScanningArraysLemmas.{not_json}
use Rattle.json_docs.proofs.ScanningReadingLemmas.{key_refused, member_read, member_refused}
use Rattle.json_docs.proofs.ScanningReadingLemmas.{members_over}
use Rattle.map_docs.proofs.MembersLemmas.{member_inserted}
use Rattle.map_docs.proofs.members.read_members.Goals as goal

pub loop-found-init : goal.loop-found-init
loop-found-init g c = (
  length c.args.reader.now,
  no_members,
  omega arith,
  refl,
  ap (members_seen g.V.MemberValue.seen_of) c.new-found.ensures,
  c.requires,
  omega arith,
  subst AreSorted (sym c.new-found.ensures) (none_sorted g.row.V.Denot string_cmp),
)

pub returns-in_err-name-clause-read : goal.returns-in_err-name-clause-read
returns-in_err-name-clause-read g c =
    let inv = c.loop-found.invariant in
    let e = c.in_err-name.ensures in
    let p = err_from_is_err_and c.from_residual.result c.from_residual.ensures.1 in
    rw (p.1, p.2)
    (inr (
      e.0,
      inv.3
          ∙ key_refused (value g.V.MemberValue.most_depth) inv.1 inv.0 c.loop-found.reader e.1,
    ))

pub returns-in_err-value-clause-read : goal.returns-in_err-value-clause-read
returns-in_err-value-clause-read g c =
    let inv = c.loop-found.invariant in
    let name = c.in-Some.name.now in
    let s = c.next_name.new.reader in
    let named : read_key c.loop-found.reader ≡ Some (Some name, s) =
    rw c.in-Some.is at c.in_ok-name.ensures in
    let p =
    err_from_is_err_and c.from_residual-in_err-value.result
    c.from_residual-in_err-value.ensures.1 in
    rw (p.1, p.2)
    (not_json _ _ _
    (λ none. inv.3
    ∙ member_refused (value g.V.MemberValue.most_depth) inv.1 inv.0 name
    c.loop-found.reader s named none) c.in_err-value.ensures.read)

-- The members so far are held in order of their names: the next one was read and inserted, in place
-- of an earlier one of its name. Each takes a token at least.
pub loop-found-preserved : goal.loop-found-preserved
loop-found-preserved g c =
    let inv = c.loop-found.invariant in
    let n = inv.0 in
    let old = inv.1 in
    let k = c.in-Some.name.now in
    let s = c.next_name.new.reader in
    let r = c.read.new.reader in
    let named : read_key c.loop-found.reader ≡ Some (Some k, s) =
    rw c.in-Some.is at c.in_ok-name.ensures in
    let less = read_key-shorter c.loop-found.reader (Some k) s named in
    let lesser : length r < length s = c.in_ok-value.ensures.shorter in
    let read = c.in_ok-value.ensures.read in
    let d = read.0 in
    let copied : string_bytes c.in_ok-name-2.name ≡ k = search rules in (
      n - 1,
      put k d old,
      omega (arith, inv.2, less, lesser),
      inv.3
          ∙ member_read (value g.V.MemberValue.most_depth) old n k c.loop-found.reader s r d
          (omega (arith, inv.2, less)) named read.1,
      ap (members_seen g.V.MemberValue.seen_of) c.in_ok-found.ensures.entries
          ∙ member_inserted g.V.MemberValue.seen_of g.V.MemberValue.in_data
          (entries_of c.loop-found.found)
          c.in_ok-name-2.name c.in_ok-value.value k d old inv.4 copied read.2,
      c.in_ok-value.ensures.left,
      omega (arith, inv.6, less, lesser),
      c.in_ok-found.ensures.sorted,
    )

pub with-requires : goal.with-requires
with-requires g c = c.loop-found.invariant.7

pub returns-clause-read : goal.returns-clause-read
returns-clause-read g c =
    let inv = c.loop-found.invariant in
    let over : read_key c.loop-found.reader ≡ Some (None, c.next_name.new.reader) =
    rw c.in_default.is at c.in_ok-name.ensures in (
      inv.1,
      inv.3
          ∙ members_over (value g.V.MemberValue.most_depth) inv.1 inv.0 c.loop-found.reader
          c.next_name.new.reader inv.2 over,
      ap (members_seen g.V.MemberValue.seen_of) c.in_ok-members.ensures ∙ inv.4,
    )
