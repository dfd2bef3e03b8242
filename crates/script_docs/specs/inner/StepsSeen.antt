-- A step that was read, without where it lies in memory.
use Rattle.std.specs.Prelude.{option_map}
use Rattle.row_docs.specs.ShapesRowsSeen.{AreTextsOf, cell_of}
use Rattle.script_docs.specs.Steps.{StepText, edit_step, merge_step, filter_step, lookup_step}
use Rattle.script_docs.specs.Steps.{cells_step, tell_step, post_step, deliver_step}
use Rattle.script_docs.specs.declared.steps.StepRow.{StepRow}
use Rattle.script_docs.specs.declared.steps.StepRow.TheVariants.{Edit, Merge, Filter, Lookup, Cells}
use Rattle.script_docs.specs.declared.steps.StepRow.TheVariants.{Tell, Post, Deliver}

-- the step with the bytes of its texts
abbrev pub text_of : StepRow → StepText
text_of (Edit site cell) = edit_step site (cell_of cell)
text_of (Merge into source) = merge_step into source
text_of (Filter site id scheme field) = filter_step site id.now scheme field.now
text_of (Lookup site id field default) =
    lookup_step site id.now field.now (option_map (λ s. s.now) default)
text_of (Cells site) = cells_step site
text_of (Tell site) = tell_step site
text_of (Post site told) = post_step site told
text_of (Deliver post) = deliver_step post

-- the values of the label of an edit are texts
abbrev pub HasTexts : StepRow → Type 0
HasTexts (Edit site cell) = AreTextsOf cell.texts
HasTexts _ = Unit {0}
