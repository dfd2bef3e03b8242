-- What is kept of a step has the step's parts, and of its label the first 65 texts.
use Rattle.std.proofs.Common.{◌≡◌, ◌∙◌, ℕ, zero, suc, List, [], ◌∷◌, Bool, true, false, ◌&&◌}
use Rattle.std.proofs.Common.{length}
use Rattle.std.proofs.Common.{map, take, refl, ap, ap₂, sym, subst, inl, inr}
use Rattle.std.specs.Prelude.{◌⊎◌, Option, None, Some, is_some, if◌then◌else◌, option_map}
use Rattle.std.specs.Prelude.{option_and_then}
use Rattle.cata_core.specs.declared.step.Step.{Step}
use Rattle.cata_core.specs.declared.step.Step.TheVariants.{Edit as Edited}
use Rattle.lang_core.proofs.Basics.{and_false}
use Rattle.list_core.specs.declared.scheme.Scheme.{Scheme}
use Rattle.serde_json.specs.Data.{Data, Items, array, boolean, null, number, object, string}
use Rattle.serde_json.specs.Find.{as_str}
use Rattle.serde_json.specs.View.{items_of}
use Rattle.json_docs.specs.FaultChecks.{AllPass, FirstFails}
use Rattle.json_docs.specs.Parts.{list_of, u32_in}
use Rattle.json_docs.specs.declared.fault.DocCause.{DocCause}
use Rattle.json_docs.specs.declared.fault.DocCause.TheVariants.{NoMemory}
use Rattle.row_docs.specs.Cuts.{are_texts, cut_items, cut_to, fits, nothing, recounted, texts_among}
use Rattle.row_docs.specs.Cuts.{texts_to}
use Rattle.row_docs.specs.EntriesValues.{Row}
use Rattle.row_docs.specs.Fields.{entry_of}
use Rattle.row_docs.specs.ShapesRows.{cell_in}
use Rattle.row_docs.specs.declared.version.Version.{Version}
use Rattle.row_docs.proofs.CutsFieldsLemmas.{Counts, fields_fail, fields_pass}
use Rattle.row_docs.proofs.CutsLemmas.{are_texts-push, as_str-cut, same_of_cut, u32_in-cut}
use Rattle.row_docs.proofs.CutsRowsLemmas.{cell_counted, cell_in-cut, cell_no_text, first_of}
use Rattle.script_docs.specs.StepFields.{IsStep, Makes, default_checks, step_checks, step_fields}
use Rattle.script_docs.specs.Steps.{StepText, cells_step, default_in, deliver_step, edit_of}
use Rattle.script_docs.specs.Steps.{edit_step, filter_of, filter_step, lookup_of, lookup_step}
use Rattle.script_docs.specs.Steps.{merge_step, one_of, post_step, scheme_in, step_after, step_in}
use Rattle.script_docs.specs.Steps.{step_of, tell_step, two_of, word_of}
use Rattle.script_docs.specs.declared.steps.Word.{Word}
use Rattle.script_docs.specs.declared.steps.Word.TheVariants.{Edit, Merge, Filter, Lookup, Cells}
use Rattle.script_docs.specs.declared.steps.Word.TheVariants.{Tell, Post, Deliver}
use Rattle.script_docs.proofs.StepsLemmas.{step_fails, step_passes}

-- the step as it is kept
abbrev pub first_step : StepText → StepText
first_step (edit_step site row) = edit_step site (first_of row)
first_step (merge_step into source) = merge_step into source
first_step (filter_step site id scheme field) = filter_step site id scheme field
first_step (lookup_step site id field default) = lookup_step site id field default
first_step (cells_step site) = cells_step site
first_step (tell_step site) = tell_step site
first_step (post_step site told) = post_step site told
first_step (deliver_step post) = deliver_step post

-- ---- parts

edit_kept : (o : Option ℕ) (b : Option (Row × Option (List (List ℕ))))
    → option_and_then (λ site. option_map (λ cell. edit_step site cell) (option_map first_of b)) o
    ≡ option_map first_step
    (option_and_then (λ site. option_map (λ cell. edit_step site cell) b) o)
edit_kept None b = refl
edit_kept (Some site) None = refl
edit_kept (Some site) (Some cell) = refl

filter_kept : (o : Option ℕ) (i : Option (List ℕ)) (c : Option Scheme) (f : Option (List ℕ))
    → option_and_then (λ site. option_and_then (λ id. option_and_then (λ scheme.
    option_map (λ field. filter_step site id scheme field) f) c) i) o
    ≡ option_map first_step (option_and_then (λ site. option_and_then (λ id. option_and_then
    (λ scheme. option_map (λ field. filter_step site id scheme field) f) c) i) o)
filter_kept None i c f = refl
filter_kept (Some site) None c f = refl
filter_kept (Some site) (Some id) None f = refl
filter_kept (Some site) (Some id) (Some scheme) None = refl
filter_kept (Some site) (Some id) (Some scheme) (Some field) = refl

lookup_kept : (o : Option ℕ) (i : Option (List ℕ)) (f : Option (List ℕ))
    (l : Option (Option (List ℕ)))
    → option_and_then (λ site. option_and_then (λ id. option_and_then (λ field.
    option_map (λ default. lookup_step site id field default) l) f) i) o
    ≡ option_map first_step (option_and_then (λ site. option_and_then (λ id. option_and_then
    (λ field. option_map (λ default. lookup_step site id field default) l) f) i) o)
lookup_kept None i f l = refl
lookup_kept (Some site) None f l = refl
lookup_kept (Some site) (Some id) None l = refl
lookup_kept (Some site) (Some id) (Some field) None = refl
lookup_kept (Some site) (Some id) (Some field) (Some default) = refl

one_kept : (step : ℕ → StepText) → ((m : ℕ) → step m ≡ first_step (step m)) → (o : Option ℕ)
    → option_map step o ≡ option_map first_step (option_map step o)
one_kept step same None = refl
one_kept step same (Some m) = ap Some (same m)

two_kept : (step : ℕ → ℕ → StepText) → ((m n : ℕ) → step m n ≡ first_step (step m n))
    → (o p : Option ℕ)
    → option_and_then (λ m. option_map (λ n. step m n) p) o
    ≡ option_map first_step (option_and_then (λ m. option_map (λ n. step m n) p) o)
two_kept step same None p = refl
two_kept step same (Some m) None = refl
two_kept step same (Some m) (Some n) = ap Some (same m n)

scheme_in-cut : (levels : ℕ) (d : Data) → scheme_in (cut_to levels d) ≡ scheme_in d
scheme_in-cut levels d = same_of_cut scheme_in None (λ ds. refl) (λ b. refl) (λ ms. refl) levels d

default_in-cut : (levels : ℕ) (d : Data) → default_in (cut_to levels d) ≡ default_in d
default_in-cut levels d = same_of_cut default_in None (λ ds. refl) (λ b. refl) (λ ms. refl) levels d

module _ (version : Version) (n : ℕ) where
  one_cut : (step : ℕ → StepText) → ((m : ℕ) → step m ≡ first_step (step m)) → (ds : List Data)
      → one_of step (map (cut_to (suc (suc n))) ds) ≡ option_map first_step (one_of step ds)
  one_cut step same [] = refl
  one_cut step same (d ∷ []) =
      ap (option_map step) (u32_in-cut (suc (suc n)) d) ∙ one_kept step same (u32_in d)
  one_cut step same (d ∷ e ∷ ds) = refl

  two_cut : (step : ℕ → ℕ → StepText) → ((k m : ℕ) → step k m ≡ first_step (step k m))
      → (ds : List Data)
      → two_of step (map (cut_to (suc (suc n))) ds) ≡ option_map first_step (two_of step ds)
  two_cut step same [] = refl
  two_cut step same (d ∷ []) = refl
  two_cut step same (d ∷ e ∷ []) =
      rw (u32_in-cut (suc (suc n)) d, u32_in-cut (suc (suc n)) e)
      (two_kept step same (u32_in d) (u32_in e))
  two_cut step same (d ∷ e ∷ f ∷ ds) = refl

  edit_cut : (ds : List Data) → edit_of version (map (cut_to (suc (suc n))) ds)
      ≡ option_map first_step (edit_of version ds)
  edit_cut [] = refl
  edit_cut (s ∷ []) = refl
  edit_cut (s ∷ c ∷ []) =
      rw (u32_in-cut (suc (suc n)) s, cell_in-cut version n c)
      (edit_kept (u32_in s) (cell_in version c))
  edit_cut (s ∷ c ∷ d ∷ ds) = refl

  filter_cut : (ds : List Data) → filter_of (map (cut_to (suc (suc n))) ds)
      ≡ option_map first_step (filter_of ds)
  filter_cut [] = refl
  filter_cut (s ∷ []) = refl
  filter_cut (s ∷ i ∷ []) = refl
  filter_cut (s ∷ i ∷ c ∷ []) = refl
  filter_cut (s ∷ i ∷ c ∷ f ∷ []) =
      rw (
        u32_in-cut (suc (suc n)) s,
        as_str-cut (suc (suc n)) i,
        scheme_in-cut (suc (suc n)) c,
        as_str-cut (suc (suc n)) f,
      )
      (filter_kept (u32_in s) (as_str i) (scheme_in c) (as_str f))
  filter_cut (s ∷ i ∷ c ∷ f ∷ d ∷ ds) = refl

  lookup_cut : (ds : List Data) → lookup_of (map (cut_to (suc (suc n))) ds)
      ≡ option_map first_step (lookup_of ds)
  lookup_cut [] = refl
  lookup_cut (s ∷ []) = refl
  lookup_cut (s ∷ i ∷ []) = refl
  lookup_cut (s ∷ i ∷ f ∷ []) = refl
  lookup_cut (s ∷ i ∷ f ∷ l ∷ []) =
      rw (
        u32_in-cut (suc (suc n)) s,
        as_str-cut (suc (suc n)) i,
        as_str-cut (suc (suc n)) f,
        default_in-cut (suc (suc n)) l,
      )
      (lookup_kept (u32_in s) (as_str i) (as_str f) (default_in l))
  lookup_cut (s ∷ i ∷ f ∷ l ∷ d ∷ ds) = refl

  after_cut : (word : Word) (ds : List Data)
      → step_after version word (map (cut_to (suc (suc n))) ds)
      ≡ option_map first_step (step_after version word ds)
  after_cut Edit ds = edit_cut ds
  after_cut Merge ds = two_cut merge_step (λ k m. refl) ds
  after_cut Filter ds = filter_cut ds
  after_cut Lookup ds = lookup_cut ds
  after_cut Cells ds = one_cut cells_step (λ m. refl) ds
  after_cut Tell ds = one_cut tell_step (λ m. refl) ds
  after_cut Post ds = two_cut post_step (λ k m. refl) ds
  after_cut Deliver ds = one_cut deliver_step (λ m. refl) ds

  word_cut : (o : Option Word) (ds : List Data)
      → option_and_then (λ word. step_after version word (map (cut_to (suc (suc n))) ds)) o
      ≡ option_map first_step (option_and_then (λ word. step_after version word ds) o)
  word_cut None ds = refl
  word_cut (Some word) ds = after_cut word ds

  text_cut : (o : Option (List ℕ)) (ds : List Data)
      → option_and_then (λ text. option_and_then
      (λ word. step_after version word (map (cut_to (suc (suc n))) ds)) (word_of text)) o
      ≡ option_map first_step (option_and_then (λ text. option_and_then
      (λ word. step_after version word ds) (word_of text)) o)
  text_cut None ds = refl
  text_cut (Some text) ds = word_cut (word_of text) ds

  list_cut : (ds : List Data) → step_of version (map (cut_to (suc (suc n))) ds)
      ≡ option_map first_step (step_of version ds)
  list_cut [] = refl
  list_cut (d ∷ ds) =
      ap (option_and_then (λ text. option_and_then
      (λ word. step_after version word (map (cut_to (suc (suc n))) ds)) (word_of text)))
      (as_str-cut (suc (suc n)) d)
      ∙ text_cut (as_str d) ds

  no_after : (word : Word) (d1 d2 d3 d4 d5 d6 : Data) (ds : List Data)
      → step_after version word (d1 ∷ d2 ∷ d3 ∷ d4 ∷ d5 ∷ d6 ∷ ds) ≡ None
  no_after Edit d1 d2 d3 d4 d5 d6 ds = refl
  no_after Merge d1 d2 d3 d4 d5 d6 ds = refl
  no_after Filter d1 d2 d3 d4 d5 d6 ds = refl
  no_after Lookup d1 d2 d3 d4 d5 d6 ds = refl
  no_after Cells d1 d2 d3 d4 d5 d6 ds = refl
  no_after Tell d1 d2 d3 d4 d5 d6 ds = refl
  no_after Post d1 d2 d3 d4 d5 d6 ds = refl
  no_after Deliver d1 d2 d3 d4 d5 d6 ds = refl

  no_word : (o : Option Word) (d1 d2 d3 d4 d5 d6 : Data) (ds : List Data)
      → option_and_then (λ word. step_after version word (d1 ∷ d2 ∷ d3 ∷ d4 ∷ d5 ∷ d6 ∷ ds)) o
      ≡ None
  no_word None d1 d2 d3 d4 d5 d6 ds = refl
  no_word (Some word) d1 d2 d3 d4 d5 d6 ds = no_after word d1 d2 d3 d4 d5 d6 ds

  no_text : (o : Option (List ℕ)) (d1 d2 d3 d4 d5 d6 : Data) (ds : List Data)
      → option_and_then (λ text. option_and_then
      (λ word. step_after version word (d1 ∷ d2 ∷ d3 ∷ d4 ∷ d5 ∷ d6 ∷ ds)) (word_of text)) o ≡ None
  no_text None d1 d2 d3 d4 d5 d6 ds = refl
  no_text (Some text) d1 d2 d3 d4 d5 d6 ds = no_word (word_of text) d1 d2 d3 d4 d5 d6 ds

  no_step : (b : Bool) (d0 d1 d2 d3 d4 d5 d6 : Data) (ds : List Data)
      → step_in version
      (if b then array (items_of (d0 ∷ d1 ∷ d2 ∷ d3 ∷ d4 ∷ d5 ∷ d6 ∷ ds)) else nothing) ≡ None
  no_step true d0 d1 d2 d3 d4 d5 d6 ds = no_text (as_str d0) d1 d2 d3 d4 d5 d6 _
  no_step false d0 d1 d2 d3 d4 d5 d6 ds = refl

  step_kept : (ds : List Data) → step_in version (cut_items (cut_to (suc (suc n))) ds)
      ≡ option_map first_step (step_of version ds)
  step_kept [] = refl
  step_kept (d0 ∷ []) = list_cut (d0 ∷ [])
  step_kept (d0 ∷ d1 ∷ []) = list_cut (d0 ∷ d1 ∷ [])
  step_kept (d0 ∷ d1 ∷ d2 ∷ []) = list_cut (d0 ∷ d1 ∷ d2 ∷ [])
  step_kept (d0 ∷ d1 ∷ d2 ∷ d3 ∷ []) = list_cut (d0 ∷ d1 ∷ d2 ∷ d3 ∷ [])
  step_kept (d0 ∷ d1 ∷ d2 ∷ d3 ∷ d4 ∷ []) = list_cut (d0 ∷ d1 ∷ d2 ∷ d3 ∷ d4 ∷ [])
  step_kept (d0 ∷ d1 ∷ d2 ∷ d3 ∷ d4 ∷ d5 ∷ []) = list_cut (d0 ∷ d1 ∷ d2 ∷ d3 ∷ d4 ∷ d5 ∷ [])
  step_kept (d0 ∷ d1 ∷ d2 ∷ d3 ∷ d4 ∷ d5 ∷ d6 ∷ ds) =
      no_step (fits (d0 ∷ d1 ∷ d2 ∷ d3 ∷ d4 ∷ d5 ∷ d6 ∷ ds)) _ _ _ _ _ _ _
      (take 58 (map (cut_to (suc (suc n))) ds))
      ∙ ap (option_map first_step) (sym (no_text (as_str d0) d1 d2 d3 d4 d5 d6 ds))

  -- a step is kept, with the first 65 texts of its label
  pub step_in-cut : (d : Data)
      → step_in version (cut_to (suc (suc (suc n))) d) ≡ option_map first_step (step_in version d)
  step_in-cut null = refl
  step_in-cut (boolean b) = refl
  step_in-cut (number x) = refl
  step_in-cut (string s) = refl
  step_in-cut (array ds) = step_kept (list_of ds)
  step_in-cut (object ms) = refl

-- ---- the texts of its label are counted

-- so many texts as the label of an edit has, where it has some
abbrev CountsStep : ℕ → StepText → Type 0
CountsStep n (edit_step site row) = Counts n row.1
CountsStep n _ = Unit {0}

abbrev CountsIn : ℕ → Option StepText → Type 0
CountsIn n None = Unit {0}
CountsIn n (Some text) = CountsStep n text

cell_counts : (version : Version) (n : ℕ) (d : Data) (p : Row × Option (List (List ℕ)))
    → cell_in version d ≡ Some p → Counts (texts_to (suc (suc n)) d) p.1
cell_counts version n d (row, None) is = tt
cell_counts version n d (row, Some texts) is = cell_counted version n row texts d is

and_counts : {A : Type 0} (x : ℕ) (f : A → Option StepText) → ((a : A) → CountsIn x (f a))
    → (o : Option A) → CountsIn x (option_and_then f o)
and_counts x f each None = tt
and_counts x f each (Some a) = each a

map_counts : {A : Type 0} (x : ℕ) (f : A → StepText) → ((a : A) → CountsStep x (f a))
    → (o : Option A) → CountsIn x (option_map f o)
map_counts x f each None = tt
map_counts x f each (Some a) = each a

one_counts : (x : ℕ) (step : ℕ → StepText) → ((m : ℕ) → CountsStep x (step m)) → (ds : List Data)
    → CountsIn x (one_of step ds)
one_counts x step each [] = tt
one_counts x step each (d ∷ []) = map_counts x step each (u32_in d)
one_counts x step each (d ∷ e ∷ ds) = tt

two_counts : (x : ℕ) (step : ℕ → ℕ → StepText) → ((k m : ℕ) → CountsStep x (step k m))
    → (ds : List Data) → CountsIn x (two_of step ds)
two_counts x step each [] = tt
two_counts x step each (d ∷ []) = tt
two_counts x step each (d ∷ e ∷ []) =
    and_counts x _ (λ k. map_counts x (step k) (each k) (u32_in e)) (u32_in d)
two_counts x step each (d ∷ e ∷ f ∷ ds) = tt

filter_counts : (x : ℕ) (ds : List Data) → CountsIn x (filter_of ds)
filter_counts x [] = tt
filter_counts x (s ∷ []) = tt
filter_counts x (s ∷ i ∷ []) = tt
filter_counts x (s ∷ i ∷ c ∷ []) = tt
filter_counts x (s ∷ i ∷ c ∷ f ∷ []) =
    and_counts x _ (λ site. and_counts x _ (λ id. and_counts x _
    (λ scheme. map_counts x (filter_step site id scheme) (λ field. tt) (as_str f)) (scheme_in c))
    (as_str i)) (u32_in s)
filter_counts x (s ∷ i ∷ c ∷ f ∷ d ∷ ds) = tt

lookup_counts : (x : ℕ) (ds : List Data) → CountsIn x (lookup_of ds)
lookup_counts x [] = tt
lookup_counts x (s ∷ []) = tt
lookup_counts x (s ∷ i ∷ []) = tt
lookup_counts x (s ∷ i ∷ f ∷ []) = tt
lookup_counts x (s ∷ i ∷ f ∷ l ∷ []) =
    and_counts x _ (λ site. and_counts x _ (λ id. and_counts x _
    (λ field. map_counts x (lookup_step site id field) (λ default. tt) (default_in l)) (as_str f))
    (as_str i)) (u32_in s)
lookup_counts x (s ∷ i ∷ f ∷ l ∷ d ∷ ds) = tt

module _ (version : Version) (n : ℕ) where
  three_counted : (w s c : Data) → is_some (cell_in version c) ≡ true
      → texts_among (texts_to (suc (suc n))) (w ∷ s ∷ c ∷ []) ≡ texts_to (suc (suc n)) c
  three_counted w s c some =
      let mixed : are_texts (w ∷ s ∷ c ∷ []) ≡ false =
      are_texts-push (w ∷ s ∷ []) c
      ∙ (ap (λ (o : Option (List ℕ)). are_texts (w ∷ s ∷ []) && is_some o)
      (cell_no_text version c some) ∙ and_false (are_texts (w ∷ s ∷ []))) in
      ap (λ b. if b then length (w ∷ s ∷ c ∷ []) else texts_to (suc (suc n)) c) mixed

  edit_counts : (w s c : Data) (o : Option ℕ) (b : Option (Row × Option (List (List ℕ))))
      → cell_in version c ≡ b
      → CountsIn (texts_among (texts_to (suc (suc n))) (w ∷ s ∷ c ∷ []))
      (option_and_then (λ site. option_map (λ cell. edit_step site cell) b) o)
  edit_counts w s c None b is = tt
  edit_counts w s c (Some site) None is = tt
  edit_counts w s c (Some site) (Some p) is =
      subst (λ m. Counts m p.1) (sym (three_counted w s c (ap is_some is)))
      (cell_counts version n c p is)

  edits_count : (w : Data) (ds : List Data)
      → CountsIn (texts_among (texts_to (suc (suc n))) (w ∷ ds)) (edit_of version ds)
  edits_count w [] = tt
  edits_count w (s ∷ []) = tt
  edits_count w (s ∷ c ∷ []) = edit_counts w s c (u32_in s) (cell_in version c) refl
  edits_count w (s ∷ c ∷ d ∷ ds) = tt

  after_counts : (w : Data) (word : Word) (ds : List Data)
      → CountsIn (texts_among (texts_to (suc (suc n))) (w ∷ ds)) (step_after version word ds)
  after_counts w Edit ds = edits_count w ds
  after_counts w Merge ds = two_counts _ merge_step (λ k m. tt) ds
  after_counts w Filter ds = filter_counts _ ds
  after_counts w Lookup ds = lookup_counts _ ds
  after_counts w Cells ds = one_counts _ cells_step (λ m. tt) ds
  after_counts w Tell ds = one_counts _ tell_step (λ m. tt) ds
  after_counts w Post ds = two_counts _ post_step (λ k m. tt) ds
  after_counts w Deliver ds = one_counts _ deliver_step (λ m. tt) ds

  list_counts : (ds : List Data)
      → CountsIn (texts_among (texts_to (suc (suc n))) ds) (step_of version ds)
  list_counts [] = tt
  list_counts (d ∷ ds) =
      let x = texts_among (texts_to (suc (suc n))) (d ∷ ds) in
      and_counts x _ (λ text. and_counts x _ (λ word. after_counts d word ds) (word_of text))
      (as_str d)

  step_counts : (d : Data) → CountsIn (texts_to (suc (suc (suc n))) d) (step_in version d)
  step_counts null = tt
  step_counts (boolean b) = tt
  step_counts (number x) = tt
  step_counts (string s) = tt
  step_counts (array ds) = list_counts (list_of ds)
  step_counts (object ms) = tt

-- ---- a step that was kept

uncut_step : (o : Option StepText) (kept : StepText) → Some kept ≡ option_map first_step o
    → (text : StepText) × (o ≡ Some text) × (kept ≡ first_step text)
uncut_step None kept is = cc
uncut_step (Some text) kept is = let same : kept ≡ first_step text = cc in (text, refl, same)

passes_so : (k : ℕ) (text : StepText) (step : Step)
    → AllPass (step_fields k (first_step text)) × Makes (first_step text) step
    → AllPass (step_fields k text) × Makes text step
passes_so k (edit_step site row) step h =
    let both = fields_pass k row.0 row.1 h.0 in
    (both.0, h.1 ∙ ap (λ label. Edited site (entry_of row.0 label)) both.1)
passes_so k (merge_step into source) step h = h
passes_so k (filter_step site id scheme field) step h = h
passes_so k (lookup_step site id field default) step h = h
passes_so k (cells_step site) step h = h
passes_so k (tell_step site) step h = h
passes_so k (post_step site told) step h = h
passes_so k (deliver_step post) step h = h

default_fails : (k n : ℕ) (default : Option (List ℕ)) (e : DocCause)
    → FirstFails (default_checks k default) e
    → FirstFails (default_checks k default) (recounted n e)
default_fails k n None e fails = absurd fails
default_fails k n (Some text) e fails = elim fails [
  | inl lang ↦ inl (lang.0, lang.1, lang.2, ap (recounted n) lang.3)
  | inr none ↦ absurd none.1
]

fails_so : (k n : ℕ) (text : StepText) (e : DocCause) → CountsStep n text
    → FirstFails (step_fields k (first_step text)) e
    → FirstFails (step_fields k text) (recounted n e)
fails_so k n (edit_step site row) e many fails = fields_fail k row.0 row.1 n e many fails
fails_so k n (merge_step into source) e many fails = absurd fails
fails_so k n (filter_step site id scheme field) e many fails = elim fails [
  | inl at_id ↦ inl (at_id.0, ap (recounted n) at_id.1)
  | inr after_id ↦ inr (
    after_id.0,
    elim after_id.1 [
      | inl list ↦ inl (list.0, list.1, list.2, ap (recounted n) list.3)
      | inr none ↦ absurd none.1
    ],
  )
]
fails_so k n (lookup_step site id field default) e many fails = elim fails [
  | inl at_id ↦ inl (at_id.0, ap (recounted n) at_id.1)
  | inr after_id ↦ inr (
    after_id.0,
    elim after_id.1 [
      | inl list ↦ inl (list.0, list.1, list.2, ap (recounted n) list.3)
      | inr rest ↦ inr (rest.0, default_fails k n default e rest.1)
    ],
  )
]
fails_so k n (cells_step site) e many fails = absurd fails
fails_so k n (tell_step site) e many fails = absurd fails
fails_so k n (post_step site told) e many fails = absurd fails
fails_so k n (deliver_step post) e many fails = absurd fails

module _ (version : Version) (before : List Data) (d : Data) (kept : StepText)
    (is : Some kept ≡ option_map first_step (step_in version d)) where
  -- a step that passes its tests as it is kept passes them, and is the step that is made
  pub kept_passes : (step : Step)
      → AllPass (step_fields (length before) kept) × Makes kept step
      → AllPass (step_checks version before d) × IsStep version d step
  kept_passes step h =
      let found = uncut_step (step_in version d) kept is in
      let both = passes_so (length before) found.0 step
      (subst (λ t. AllPass (step_fields (length before) t) × Makes t step) found.2 h) in
      (step_passes version before d found.0 (sym found.1) both.0, (found.0, found.1, both.1))

  -- a step that fails a test as it is kept fails it, with the count of the texts of its label
  pub kept_fails : (e : DocCause) → FirstFails (step_fields (length before) kept) e
      → FirstFails (step_checks version before d) (recounted (texts_to 3 d) e)
  kept_fails e fails =
      let found = uncut_step (step_in version d) kept is in
      let many : CountsStep (texts_to 3 d) found.0 =
      subst (λ o. CountsIn (texts_to 3 d) o) found.1 (step_counts version 0 d) in
      step_fails version before d found.0 found.1 (recounted (texts_to 3 d) e)
      (fails_so (length before) (texts_to 3 d) found.0 e many
      (subst (λ t. FirstFails (step_fields (length before) t) e) found.2 fails))

-- where no step is kept there is none
pub no_step_kept : (o : Option StepText) → None ≡ option_map first_step o → None ≡ o
no_step_kept None is = refl
no_step_kept (Some text) is = cc
