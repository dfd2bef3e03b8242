use Rattle.std.proofs.Common.{◌∙◌, subst, sym}
use Rattle.std.proofs.lemmas.Option.{IfSome_then}
use Rattle.cell_core.specs.Entry.{EntryKey}
use Rattle.docs_core.specs.ImportingLabels.{puts_of}
use Rattle.docs_core.specs.inner.StampedRows.{HoldsStamped}
use Rattle.docs_core.proofs.StampedRowsLemmas.{puts_above, puts_more}
use Rattle.docs_core.proofs.call.stamped_rows.StampedRowsTakeLabels.take.Goals as goal

-- the rows are read as far as they are joined
pub add-requires : goal.add-requires
add-requires c =
    let so_far = c.requires.2.1.synced in
    (c.args.self.now.site.now, so_far.read, so_far.has_read)

-- the label is one change more
pub returns : goal.returns
returns c =
    IfSome_then c.add.result c.add.ensures.holds
    (λ _ added. λ first before holds above.
    let key : EntryKey = (c.args.id.now, c.args.lang) in (
      c.add.ensures.site ∙ holds.0,
      subst (HoldsStamped first.now first.name first.latest c.add.new.self)
          (sym (puts_more before (key, c.args.label)))
          (added first.now first.name first.latest (puts_of before) (puts_above before key above)
          holds.1),
    ))
