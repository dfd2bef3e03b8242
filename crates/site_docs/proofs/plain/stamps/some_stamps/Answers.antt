use Rattle.std.proofs.Common.{◌≡◌, ◌∙◌, ◌++◌, ◌∷◌, ap, false, rules, subst, sym}
use Rattle.std.specs.Prelude.{Some}
use Rattle.serde_json.specs.Written.{comma_if, compact_text}
use Rattle.cata_core.specs.Delta.{Stamps}
use Rattle.row_docs.specs.Entries.{stamped_value, stamps_values}
use Rattle.row_docs.specs.EntriesValid.{AreKeptStamps}
use Rattle.site_docs.specs.Plain.{is_later, open_items}
use Rattle.site_docs.specs.inner.PlainRows.{IsLastOf, stamped_in}
use Rattle.site_docs.proofs.PlainLemmas.{array_taken, is_later-push, last_taken}
use Rattle.site_docs.proofs.PlainStampsLemmas.{stamps_kept, stamps_taken}
use Rattle.site_docs.proofs.plain.stamps.some_stamps.Goals as goal

-- one row more
pub loop-row-preserved : goal.loop-row-preserved
loop-row-preserved c =
    let inv = c.loop-row.invariant in
    let next = c.in-Some-next_stamp.ensures in
    let old = c.loop-row.summary.stamps in
    let t = stamped_in c.next_stamp.new.last.front in
    let text = c.args.text.now in
    let left = c.in-Some-next_stamp.left.now in
    let above = inv.2 t.0 next.1 in
    let same = sym next.3 in (
      search rules,
      subst AreKeptStamps same (stamps_kept old t inv.1 next.4 above),
      subst (λ (ts : Stamps). IsLastOf (Some t.0) ts) same (last_taken old t above),
      ap is_later next.3 ∙ is_later-push old t,
      subst (λ (ts : Stamps). text ≡ 91 ∷ (open_items false (stamps_values ts) ++ left)) same
          (stamps_taken old t text c.loop-row.rest.now left inv.4
          (c.in-Some.ensures ∙ ap (λ r. 44 ∷ r) next.2
          ∙ ap (λ b. comma_if b ++ (compact_text (stamped_value t) ++ left)) (sym inv.3))),
      next.0,
    )

-- all rows, and the bracket
pub returns-clause-text : goal.returns-clause-text
returns-clause-text c =
    array_taken (stamps_values c.loop-row.summary.stamps) c.args.text.now c.loop-row.rest.now
    c.in_ok-rest-2.rest.now c.loop-row.invariant.4 c.in_ok-rest-2.ensures
