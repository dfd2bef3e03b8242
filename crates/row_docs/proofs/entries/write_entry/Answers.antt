use Rattle.std.proofs.Common.{◌≡◌, arith, subst}
use Rattle.std.proofs.lemmas.Result.{IfOk-weaker}
use Rattle.std.specs.Prelude.{Some}
use Rattle.cell_core.specs.Entry.{EntryKey}
use Rattle.lang_core.specs.Lang.{IsLang}
use Rattle.row_docs.specs.Fields.{IsLabelText}
use Rattle.row_docs.specs.EntriesValid.{IsKept}
use Rattle.row_docs.proofs.entries.write_entry.Goals as goal

-- the texts that are written are those of the cell's label
pub returns-in-Some-clause-tokens : goal.returns-in-Some-clause-tokens
returns-in-Some-clause-tokens c =
    let label : Some c.in-Some.label.now ≡ c.args.cell.now.label = c.in-Some.ensures in
    rw (← label) (rw (
      c.as_str.ensures.text,
      c.as_str-2.ensures.text,
      c.as_str-3.ensures.text,
      c.texts.ensures.texts,
      c.stamp-stamp.ensures,
    ) at c.write_cell.ensures)

-- its label is one, and the rest is as all have it
pub returns-in-Some-clause-kept : goal.returns-in-Some-clause-kept
returns-in-Some-clause-kept c =
    let key : EntryKey = (c.args.id.now, c.args.lang.now) in
    let label : Some c.in-Some.label.now ≡ c.args.cell.now.label = c.in-Some.ensures in
    let fits = c.stamp-stamp.type_inv in
    let kept : IsKept key c.stamp-stamp.result = record {
      id = c.as_str.ensures.id;
      lang = subst IsLang c.as_str-2.ensures.text c.as_str-2.ensures.lang;
      time = omega (arith, fits);
      site = c.as_str-3.ensures.name;
      count = omega (arith, fits);
    } in
    IfOk-weaker c.write_cell.result _ _
    (λ _ _. (
      subst (IsKept key) c.stamp-stamp.ensures kept,
      subst IsLabelText label
          c.texts.ensures.label,
    )) c.write_cell.ensures
