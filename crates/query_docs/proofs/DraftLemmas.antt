-- Language maps that are being written, with one label more, and closed.
use Rattle.std.proofs.Common.{◌≡◌, ◌++◌, [], ◌∷◌, ℕ, List, append_assoc, subst, sym}
use Rattle.std.specs.Prelude.{IfSome, Option, Some, option_map}
use Rattle.std.proofs.lemmas.List.Elements.{filter_map-append}
use Rattle.cell_core.specs.MessageId.{IsMessageId}
use Rattle.catalogue.specs.Entries.{Entries, Entry}
use Rattle.catalogue.proofs.Basics.{append_nil}
use Rattle.row_docs.specs.WritingTexts.{Adds}
use Rattle.map_docs.specs.MapsLaws.{IsWritable}
use Rattle.map_docs.specs.Maps.{Labelled}
use Rattle.map_docs.specs.WritingMaps.{IsWriting, label_tokens, opening_tokens}
use Rattle.map_docs.proofs.WritingLemmas.{writing_next}
use Rattle.query_docs.specs.inner.Draft.{HasWritten, labelled_by}
use Rattle.query_docs.specs.Exporting.{live_labels}
use Rattle.query_docs.specs.declared.draft.Draft.{Draft}

-- One label more is written, after its message was opened.
pub added : (old mid new : Draft) (e : Labelled) (labels : List Labelled)
    → Adds old.out mid.out (opening_tokens old.current e.0.0)
    → Adds mid.out new.out (label_tokens e) → IsWritable e → new.current ≡ Some e.0.0
    → HasWritten old labels → HasWritten new (labels ++ e ∷ [])
added old mid new e labels opened labelled valid now has = (
  λ left.
      subst (λ (o : Option (List ℕ)). IsWriting new.out o left ((labels ++ e ∷ []) ++ left))
      (sym now)
      (subst (λ (all : List Labelled). IsWriting new.out (Some e.0.0) left all)
      (sym (append_assoc labels (e ∷ []) left))
      (writing_next old.out mid.out new.out old.current e left (labels ++ e ∷ left)
      (has.0 (e ∷ left)) opened labelled valid)),
  subst (λ (o : Option (List ℕ)). IfSome o IsMessageId) (sym now) valid.id,
)

-- All labels are written.
pub all_written : (draft : Draft) (labels : List Labelled) → HasWritten draft labels
    → IsWriting draft.out draft.current [] labels
all_written draft labels has =
    subst (λ (all : List Labelled). IsWriting draft.out draft.current [] all) (append_nil labels)
    (has.0 [])

-- With one cell more the live labels are those before and that of the cell, if any.
pub live_more : (seen : Entries) (e : Entry)
    → live_labels (seen ++ e ∷ []) ≡ live_labels seen ++ labelled_by e.0 e.1.label
live_more seen e =
    filter_map-append (λ (x : Entry). option_map (λ label. (x.0, label)) x.1.label) seen (e ∷ [])
