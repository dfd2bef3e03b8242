-- Rows that were written for steps are read as these steps.
--
-- For each kind of step the written row has the members that its reader wants, in the form that it
-- wants, so that it reads as that step and passes its tests. The rows of a list follow one by one.
-- In the other direction a row that some reader made a step of is a row that is written for it,
-- which gives that each step of a run can be written.
use Rattle.std.proofs.Common.{◌≡◌, ◌<◌, ◌^◌, ◌++◌, ℕ, List, [], ◌∷◌, map, refl, ap, ap₂, subst}
use Rattle.std.proofs.Common.{sym, arith}
use Rattle.std.specs.Prelude.{None, Option, Some, option_map}
use Rattle.std.specs.Str.{str_to_ascii_lowercase}
use Rattle.catalogue.specs.Entries.{Entry}
use Rattle.cata_core.specs.declared.step.Step.{Step}
use Rattle.cata_core.specs.declared.step.Step.TheVariants.{AskFilter, AskLookup, Edit}
use Rattle.cell_core.specs.MessageId.{IsMessageId}
use Rattle.json.proofs.Printed.Decimals.{IsNumber-decimal}
use Rattle.list_core.specs.Item.{Item}
use Rattle.list_core.specs.declared.scheme.Scheme.{Scheme}
use Rattle.list_core.specs.declared.scheme.Scheme.TheVariants.{Basic, Extended}
use Rattle.serde_json.specs.Data.{Data}
use Rattle.serde_json.specs.View.{items_of}
use Rattle.serde_json.proofs.Numbers.{number_of-decimal}
use Rattle.json_docs.specs.FaultChecks.{AllPass, rows_checks}
use Rattle.row_docs.specs.Entries.{row_of}
use Rattle.row_docs.specs.ShapesRows.{cell_in}
use Rattle.row_docs.specs.EntriesValid.{IsKeptCell}
use Rattle.row_docs.specs.EntriesValues.{Row, cell_value}
use Rattle.row_docs.specs.declared.version.Version.TheVariants.{Two}
use Rattle.script_docs.specs.FieldWriting.{field_text}
use Rattle.script_docs.specs.inner.Writing.{AreRowsOf}
use Rattle.script_docs.specs.StepFields.{AreSteps, Lists, default_checks, step_checks}
use Rattle.script_docs.specs.Steps.{StepText, edit_step, merge_step, filter_step, lookup_step}
use Rattle.script_docs.specs.Steps.{cells_step, tell_step, post_step, deliver_step, step_in}
use Rattle.script_docs.specs.StepsWritten.{FitsMember, IsWritableStep, step_row, step_value}
use Rattle.script_docs.specs.inner.StepsWritten.{HasRoom, IsDefault, IsRowOf}
use Rattle.json_docs.proofs.FaultChecksLemmas.{AllPass-both}
use Rattle.row_docs.proofs.EntriesLowerLemmas.{lower-IsLang, spells-IsLang}
use Rattle.row_docs.proofs.EntriesWrittenRows.{label_again, narrow}
use Rattle.row_docs.proofs.EntriesWrittenTexts.{AreWritten, IsWritten, label_written, one_more}
use Rattle.script_docs.proofs.StepsLemmas.{step_passes}

-- ---- the text of a row

cell_again : (row : Row) (label : Option (List (List ℕ))) → FitsMember row.count
    → cell_in Two (cell_value row label) ≡ Some (row, label)
cell_again row label h = rw (narrow row.count h, label_again label) refl

row_again : (text : StepText) → HasRoom text → step_in Two (step_value text) ≡ Some text
row_again (edit_step site row) h = rw (narrow site h.0, cell_again row.0 row.1 h.2) refl
row_again (merge_step into source) h = rw (narrow into h.0, narrow source h.1) refl
row_again (filter_step site id Basic field) h = rw (narrow site h) refl
row_again (filter_step site id Extended field) h = rw (narrow site h) refl
row_again (lookup_step site id field None) h = rw (narrow site h) refl
row_again (lookup_step site id field (Some default)) h = rw (narrow site h) refl
row_again (cells_step site) h = rw (narrow site h) refl
row_again (tell_step site) h = rw (narrow site h) refl
row_again (post_step site told) h = rw (narrow site h.0, narrow told h.1) refl
row_again (deliver_step post) h = rw (narrow post h) refl

-- ---- rows hold what a text may

wide : (n : ℕ) → FitsMember n → n < 2 ^ 64
wide n h = omega (arith, h)

cell_written : (row : Row) (label : Option (List (List ℕ))) → row.time < 2 ^ 64
    → FitsMember row.count → IsWritten (cell_value row label) 2
cell_written row texts late few =
    let label = label_written texts in
    record {
      numbers = (
        tt,
        (
          tt,
          (
            IsNumber-decimal row.time late,
            (
              tt,
              (
                IsNumber-decimal row.count (wide row.count few),
                (label.numbers, tt),
              ),
            ),
          ),
        ),
      );
      shallow = omega (arith, label.shallow);
      back =
          rw (
            number_of-decimal row.time late,
            number_of-decimal row.count (wide row.count few),
            label.back,
          ) refl;
    }

row_sound : (text : StepText) → HasRoom text → IsWritten (step_value text) 3
row_sound (edit_step site row) h =
    let cell = cell_written row.0 row.1 h.1 h.2 in
    let n = wide site h.0 in
    record {
      numbers = (tt, (IsNumber-decimal site n, (cell.numbers, tt)));
      shallow = omega (arith, cell.shallow);
      back = rw (number_of-decimal site n, cell.back) refl;
    }
row_sound (merge_step into source) h =
    let m = wide into h.0 in
    let n = wide source h.1 in
    record {
      numbers = (tt, (IsNumber-decimal into m, (IsNumber-decimal source n, tt)));
      shallow = omega arith;
      back = rw (number_of-decimal into m, number_of-decimal source n) refl;
    }
row_sound (filter_step site id scheme field) h =
    let n = wide site h in
    record {
      numbers = (tt, (IsNumber-decimal site n, (tt, (tt, (tt, tt)))));
      shallow = omega arith;
      back = rw (number_of-decimal site n) refl;
    }
row_sound (lookup_step site id field None) h =
    let n = wide site h in
    record {
      numbers = (tt, (IsNumber-decimal site n, (tt, (tt, (tt, tt)))));
      shallow = omega arith;
      back = rw (number_of-decimal site n) refl;
    }
row_sound (lookup_step site id field (Some default)) h =
    let n = wide site h in
    record {
      numbers = (tt, (IsNumber-decimal site n, (tt, (tt, (tt, tt)))));
      shallow = omega arith;
      back = rw (number_of-decimal site n) refl;
    }
row_sound (cells_step site) h =
    let n = wide site h in
    record {
      numbers = (tt, (IsNumber-decimal site n, tt));
      shallow = omega arith;
      back = rw (number_of-decimal site n) refl;
    }
row_sound (tell_step site) h =
    let n = wide site h in
    record {
      numbers = (tt, (IsNumber-decimal site n, tt));
      shallow = omega arith;
      back = rw (number_of-decimal site n) refl;
    }
row_sound (post_step site told) h =
    let m = wide site h.0 in
    let n = wide told h.1 in
    record {
      numbers = (tt, (IsNumber-decimal site m, (IsNumber-decimal told n, tt)));
      shallow = omega arith;
      back = rw (number_of-decimal site m, number_of-decimal told n) refl;
    }
row_sound (deliver_step post) h =
    let n = wide post h in
    record {
      numbers = (tt, (IsNumber-decimal post n, tt));
      shallow = omega arith;
      back = rw (number_of-decimal post n) refl;
    }

-- ---- rows of steps

-- the rows of steps hold what a text may
pub rows_sound : (texts : List StepText) (steps : List Step) → AreRowsOf texts steps
    → AreWritten (items_of (map step_value texts)) 3
rows_sound [] [] rows = record { numbers = tt; shallow = omega arith; back = refl }
rows_sound [] (s ∷ ss) rows = absurd rows
rows_sound (t ∷ ts) [] rows = absurd rows
rows_sound (t ∷ ts) (s ∷ ss) rows =
    one_more (step_value t) (items_of (map step_value ts)) 3 (row_sound t rows.0.room)
    (rows_sound ts ss rows.1)

-- the rows of steps read as these steps
pub steps_again : (texts : List StepText) (steps : List Step) → AreRowsOf texts steps
    → AreSteps Two (map step_value texts) steps
steps_again [] [] rows = tt
steps_again [] (s ∷ ss) rows = absurd rows
steps_again (t ∷ ts) [] rows = absurd rows
steps_again (t ∷ ts) (s ∷ ss) rows =
    ((t, row_again t rows.0.room, rows.0.makes), steps_again ts ss rows.1)

-- the rows of steps pass their tests
pub steps_pass : (done : List Data) (texts : List StepText) (steps : List Step)
    → AreRowsOf texts steps → AllPass (rows_checks (step_checks Two) done (map step_value texts))
steps_pass done [] steps rows = tt
steps_pass done (t ∷ ts) [] rows = absurd rows
steps_pass done (t ∷ ts) (s ∷ ss) rows =
    AllPass-both (step_checks Two done (step_value t)) _
    (step_passes Two done (step_value t) t (sym (row_again t rows.0.room)) (rows.0.fields _))
    (steps_pass (done ++ step_value t ∷ []) ts ss rows.1)

-- one row more is that of one step more
pub rows_push : (texts : List StepText) (steps : List Step) (text : StepText) (step : Step)
    → AreRowsOf texts steps → IsRowOf text step
    → AreRowsOf (texts ++ text ∷ []) (steps ++ step ∷ [])
rows_push [] [] text step rows last = (last, tt)
rows_push [] (s ∷ ss) text step rows last = absurd rows
rows_push (t ∷ ts) [] text step rows last = absurd rows
rows_push (t ∷ ts) (s ∷ ss) text step rows last = (rows.0, rows_push ts ss text step rows.1 last)

-- the rows that were written are those of the steps
pub rows_written : (texts : List StepText) (steps : List Step) → AreRowsOf texts steps
    → map step_value texts ≡ map step_row steps
rows_written [] [] rows = refl
rows_written [] (s ∷ ss) rows = absurd rows
rows_written (t ∷ ts) [] rows = absurd rows
rows_written (t ∷ ts) (s ∷ ss) rows =
    ap₂ (λ (d : Data) (ds : List Data). d ∷ ds) (ap step_value rows.0.written)
    (rows_written ts ss rows.1)

-- ---- the row of a step

-- a step that a row makes is writable
pub writable_of : (text : StepText) (step : Step) → IsRowOf text step → IsWritableStep step
writable_of (edit_step site row) step r = subst IsWritableStep (sym r.makes) r.room.0
writable_of (merge_step into source) step r = subst IsWritableStep (sym r.makes) r.room
writable_of (filter_step site id scheme field) step r =
    subst IsWritableStep (sym r.makes.2) (r.room, (field, r.makes.1))
writable_of (lookup_step site id field default) step r =
    subst IsWritableStep (sym r.makes.2) (r.room, (field, r.makes.1))
writable_of (cells_step site) step r = subst IsWritableStep (sym r.makes) r.room
writable_of (tell_step site) step r = subst IsWritableStep (sym r.makes) r.room
writable_of (post_step site told) step r = subst IsWritableStep (sym r.makes) r.room
writable_of (deliver_step post) step r = subst IsWritableStep (sym r.makes) r.room

-- the row of an edit is one of its steps
pub edit_row_of : (site : ℕ) (e : Entry) → FitsMember site → IsKeptCell e
    → IsRowOf (edit_step site (row_of e, e.1.label)) (Edit site e)
edit_row_of site e h kept = record {
  room = (h, kept.0.time, kept.0.count);
  fields =
      λ k. (kept.0.id, ((e.0.1, spells-IsLang e.0.1 kept.0.lang), (kept.0.site, (kept.1, tt))));
  makes = rw (lower-IsLang e.0.1 kept.0.lang) refl;
  written = refl;
}

-- the row of a filter is one of its steps
pub filter_row_of : (site : ℕ) (id : List ℕ) (scheme : Scheme) (items : List Item) (field : List ℕ)
    → FitsMember site → IsMessageId id → field ≡ field_text items → Lists scheme field items
    → IsRowOf (filter_step site id scheme field) (AskFilter site id scheme items)
filter_row_of site id scheme items field h is joined lists = record {
  room = h;
  fields = λ k. (is, ((items, lists), tt));
  makes = (items, lists, refl);
  written = ap (filter_step site id scheme) joined;
}

default_passes : (k : ℕ) (default : Option (List ℕ)) → IsDefault default
    → AllPass (default_checks k default)
default_passes k None is = tt
default_passes k (Some lang) is = ((lang, spells-IsLang lang is), tt)

lower_default : (default : Option (List ℕ)) → IsDefault default
    → option_map str_to_ascii_lowercase default ≡ default
lower_default None is = refl
lower_default (Some lang) is = ap Some (lower-IsLang lang is)

-- the row of a lookup is one of its steps
pub lookup_row_of : (site : ℕ) (id : List ℕ) (items : List Item) (default : Option (List ℕ))
    (field : List ℕ)
    → FitsMember site → IsMessageId id → field ≡ field_text items → Lists Basic field items
    → IsDefault default
    → IsRowOf (lookup_step site id field default) (AskLookup site id items default)
lookup_row_of site id items default field h is joined lists known = record {
  room = h;
  fields = λ k. (is, ((items, lists), default_passes k default known));
  makes = (items, lists, ap (AskLookup site id items) (sym (lower_default default known)));
  written = ap (λ (f : List ℕ). lookup_step site id f default) joined;
}
