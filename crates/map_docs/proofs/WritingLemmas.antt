-- Language maps that are being written, label by label.
use Rattle.std.proofs.Common.{◌≡◌, ◌∙◌, ◌++◌, ℕ, Bool, true, false, List, [], ◌∷◌, refl, sym, ap}
use Rattle.std.proofs.Common.{subst}
use Rattle.std.specs.Prelude.{◌||◌, Err, IfOk, IfSome, IsUtf8, None, Ok, Option, Result, Some}
use Rattle.std.specs.Prelude.{is_some}
use Rattle.lang_core.proofs.Basics.{or_false}
use Rattle.cell_core.specs.Keyed.{IsMap}
use Rattle.cell_core.specs.MessageId.{IsMessageId}
use Rattle.cell_core.specs.Entry.{key_cmp}
use Rattle.json.specs.Token.{begin_object}
use Rattle.json.specs.Written.{Written}
use Rattle.row_docs.specs.WritingTexts.{Adds, text}
use Rattle.row_docs.proofs.WritingTextsLemmas.{Adds-then}
use Rattle.map_docs.specs.MapsLabels.{AreLangMaps}
use Rattle.map_docs.specs.MapsLaws.{AreWritable, IsWritable}
use Rattle.map_docs.specs.WritingTexts.{IsTextOf, has_label}
use Rattle.map_docs.specs.Maps.{Labelled}
use Rattle.map_docs.specs.MapsValue.{langmaps_value}
use Rattle.map_docs.specs.WritingMaps.{IsWriting, label_tokens, labels_tokens, opening_tokens}
use Rattle.map_docs.proofs.WritingTripLemmas.{reads_back}
use Rattle.map_docs.proofs.MapsLemmas.{one_written}

or_true : (b : Bool) → (b || true) ≡ true
or_true true = refl
or_true false = refl

-- nothing is written yet
pub writing_first : (draft : Written) (all : List Labelled) → draft.before ≡ []
    → draft.tokens ≡ begin_object ∷ [] → IsWriting draft None all all
writing_first draft all none is = record {
  before = none;
  tokens = ap (λ t. t ++ labels_tokens None all) is;
  writable = λ w. w;
  found = refl;
}

-- one label more is written, after its message was opened
pub writing_next : (old mid new : Written) (current : Option (List ℕ)) (e : Labelled)
    (left all : List Labelled) → IsWriting old current (e ∷ left) all
    → Adds old mid (opening_tokens current e.0.0) → Adds mid new (label_tokens e) → IsWritable e
    → IsWriting new (Some e.0.0) left all
writing_next old mid new current e left all w opened labelled valid =
    let adds = Adds-then old mid new (opening_tokens current e.0.0) (label_tokens e) opened labelled
    in record {
      before = adds.0 ∙ w.before;
      tokens =
          one_written (begin_object ∷ labels_tokens None all) old.tokens
          (opening_tokens current e.0.0 ++ label_tokens e) new.tokens current e left w.tokens
          adds.1 refl;
      writable = λ rest. w.writable (valid, rest);
      found = sym (or_true (is_some current)) ∙ w.found;
    }

-- the message that is open has an id
pub open_id : (opened : Bool) (current : Option (List ℕ)) (id : List ℕ)
    → (opened ≡ true → IsMessageId id) → (opened ≡ false → current ≡ Some id)
    → IfSome current IsMessageId → IsMessageId id
open_id true current id new same known = new refl
open_id false current id new same known = subst (λ o. IfSome o IsMessageId) (same refl) known

-- all are written
pub found_last : (draft : Written) (current : Option (List ℕ)) (all : List Labelled)
    → IsWriting draft current [] all → is_some current ≡ has_label all
found_last draft current all w = sym (or_false (is_some current)) ∙ w.found

-- a text that was written for labels is theirs
pub text_of : {E : Type 0} (all : List Labelled) (result : Result (List ℕ) E) → IsMap key_cmp all
    → AreWritable all → IfOk result (λ doc. doc ≡ text (langmaps_value all))
    → IfOk result (λ doc. IsUtf8 doc)
    → IfOk result (IsTextOf all)
text_of all (Ok doc) m w is utf8 = record {
  text_is = is;
  reads =
      subst (λ (d : List ℕ). AreLangMaps d all) (sym is)
      (reads_back all m w (subst IsUtf8 is utf8));
}
text_of all (Err e) m w is utf8 = tt
