-- The rows of a summary that is being written.
use Rattle.std.proofs.Common.{◌++◌, [], ◌∷◌, ℕ, List, subst, sym}
use Rattle.std.proofs.lemmas.List.{map-append}
use Rattle.cell_core.specs.Keyed.{IsMap}
use Rattle.cell_core.specs.declared.stamp.Stamp.{Stamp}
use Rattle.cata_core.specs.Delta.{Stamps, summary_of}
use Rattle.cell_core.specs.Entry.{EntryKey, key_cmp}
use Rattle.catalogue.specs.Entries.{Entries, Entry}
use Rattle.row_docs.specs.Entries.{stamped_value, stamps_values}
use Rattle.row_docs.specs.EntriesValid.{IsKeptStamp}
use Rattle.site_docs.specs.inner.Envelope.{IsStampsFront, stamps_opening}
use Rattle.site_docs.specs.OpenRows.{HoldsOpen}
use Rattle.site_docs.specs.inner.StampsDraft.{HoldsStamps}
use Rattle.site_docs.specs.declared.stamps_draft.StampsDraft.{StampsDraft}
use Rattle.site_docs.proofs.DocumentsLemmas.{kept_more}
use Rattle.site_docs.proofs.OpenRowsLemmas.{open_utf8}

-- the draft with one row more
pub stamp_added : (old new : StampsDraft) (owner : List ℕ) (stamps : Stamps) (t : EntryKey × Stamp)
    → HoldsStamps old owner stamps → IsKeptStamp t
    → HoldsOpen (stamps_opening owner) new.rows (stamps_values stamps ++ stamped_value t ∷ [])
    → HoldsStamps new owner (stamps ++ t ∷ [])
stamp_added old new owner stamps t holds kept rows = record {
  rows = rw (map-append stamped_value stamps (t ∷ [])) rows;
  is_owner = holds.is_owner;
  each = kept_more IsKeptStamp stamps t holds.each kept;
}

-- the same where the stamp is that of one cell more
pub cell_added : (draft : StampsDraft) (owner : List ℕ) (cells : Entries) (e : Entry)
    → HoldsStamps draft owner (summary_of cells ++ (e.0, e.1.stamp) ∷ [])
    → HoldsStamps draft owner (summary_of (cells ++ e ∷ []))
cell_added draft owner cells e holds =
    subst (HoldsStamps draft owner) (sym (map-append (λ (x : Entry). (x.0, x.1.stamp)) cells (e ∷
    []))) holds

-- the text of the draft can be closed
pub is_front : (draft : StampsDraft) (owner : List ℕ) (stamps : Stamps)
    → HoldsStamps draft owner stamps → IsMap key_cmp stamps
    → IsStampsFront owner stamps draft.rows.bytes.items
is_front draft owner stamps holds map = record {
  text = holds.rows.text;
  utf8 = open_utf8 (stamps_opening owner) draft.rows (stamps_values stamps) holds.rows;
  kept = record { each = holds.each; map = map };
}
