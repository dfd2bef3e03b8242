-- The stages and the grammar.
use Rattle.std.proofs.Common.{ℕ, ◌≡◌, ◌<◌, ◌≤◌, ◌+◌, inl, inr, List, [], ◌∷◌, length, Option, Some}
use Rattle.std.proofs.Common.{None, Bool, true, false, refl, sym, ◌∙◌, ap}
use Rattle.std.specs.Prelude.{◌↔◌, ◌||◌, IsTrue}
use Rattle.std.specs.Char.{to_ascii_lowercase}
use Rattle.std.specs.List.{list_all}
use Rattle.std.specs.Str.{str_to_ascii_lowercase}
use Rattle.std.proofs.lemmas.List.{length-map}
use Rattle.lang_core.specs.Text.{pieces, subtags, IsSized}
use Rattle.lang_core.specs.Grammar.{WellFormed, is_irregular, are_allowed, tag_piece}
use Rattle.lang_core.specs.Grammar.{is_private_piece}
use Rattle.lang_core.specs.Tag.{IsTag}
use Rattle.lang_core.specs.inner.Tag.{RefusesTagFirst}
use Rattle.lang_core.specs.declared.fault.LangFault.TheVariants.{TagNotWellFormed}
use Rattle.lang_core.specs.inner.Stage.{accepts, stage_after}
use Rattle.lang_core.specs.inner.TagTable.{is_staged}
use Rattle.lang_core.specs.declared.stage.Stage.{Stage}
use Rattle.lang_core.specs.declared.stage.Stage.TheVariants.{Start}
use Rattle.lang_core.proofs.Basics.{both, each_true, one_true, or_left, or_right}
use Rattle.lang_core.proofs.PiecesLemmas.{joined-pieces}
use Rattle.lang_core.proofs.StageComplete.{accepted}
use Rattle.lang_core.proofs.StageSound.{follows}

-- what the stages and the table of irregular tags accept is well-formed, and nothing else
pub well_formed : (text : List ℕ) (b : Bool)
    → b ≡ (accepts (pieces text) (Some Start) || is_irregular text)
    → IsTrue b ↔ WellFormed (pieces text)
well_formed text b e = (
  (λ h. elim (one_true (accepts (pieces text) (Some Start)) (is_irregular text) (sym e ∙ h)) [
    | inl a ↦ inr (follows (pieces text) Start a)
    | inr i ↦ inl (ap is_irregular (joined-pieces text) ∙ i)
  ]),
  (λ w. elim w [
    | inl i ↦ e
        ∙ or_right (accepts (pieces text) (Some Start)) (is_irregular text)
        (sym (ap is_irregular (joined-pieces text)) ∙ i)
    | inr x ↦ e
        ∙ or_left (accepts (pieces text) (Some Start)) (is_irregular text)
        (accepted (pieces text) x)
  ]),
)

-- The stages accept a list just where they accept its rest from the stage after its first subtag.
pub accepts_next : (s : List ℕ) (more : List (List ℕ)) (stage : Option Stage)
    → accepts (s ∷ more) stage ≡ accepts more (stage_after stage s)
unfolding accepts
accepts_next s more None = refl
accepts_next s more (Some stage) = refl

-- ---- what the reader of a tag found

sized : (text : List ℕ) → (0 < length text) × (length text ≤ 255)
    → IsSized (str_to_ascii_lowercase text)
sized text h = let size : length (str_to_ascii_lowercase text) ≡ length text =
    length-map text to_ascii_lowercase in (rw size h.0, rw size h.1)

-- A text of 1 to 255 bytes is a tag where each subtag is allowed, and the stages accept them all or
-- it is an irregular tag.
pub is_tag : (text : List ℕ) (b : Bool) → (0 < length text) × (length text ≤ 255)
    → are_allowed tag_piece 0 (subtags text) ≡ true
    → b ≡ (accepts (subtags text) (Some Start) || is_irregular (str_to_ascii_lowercase text))
    → b ≡ true → IsTag (str_to_ascii_lowercase text)
is_tag text b size each e h =
    (sized text size, each, (well_formed (str_to_ascii_lowercase text) b e).0 h)

-- A text whose subtags are allowed is not well-formed where the stages do not accept them and the
-- text is no irregular tag.
pub is_no_tag : (text : List ℕ) (b : Bool) → are_allowed tag_piece 0 (subtags text) ≡ true
    → b ≡ (accepts (subtags text) (Some Start) || is_irregular (str_to_ascii_lowercase text))
    → b ≡ false → RefusesTagFirst (str_to_ascii_lowercase text) TagNotWellFormed
is_no_tag text b each e h =
    (each, (λ w. let x = (well_formed (str_to_ascii_lowercase text) b e).1 w in cc))

-- ---- what the table of states found

all_allowed : (place : ℕ) (list : List (List ℕ)) → list_all is_private_piece list ≡ true
    → are_allowed tag_piece place list ≡ true
all_allowed place [] h = refl
all_allowed place (s ∷ list) h =
    let parts = each_true (is_private_piece s) (list_all is_private_piece list) h in
    both _ _ parts.0 (all_allowed (place + 1) list parts.1)

-- A text whose subtags the stages accept is a tag.
pub staged_is_tag : (text : List ℕ) → (0 < length text) × (length text ≤ 255)
    → is_staged (subtags text) ≡ true → IsTag (str_to_ascii_lowercase text)
staged_is_tag text size h =
    let parts = each_true (list_all is_private_piece (subtags text))
    (accepts (subtags text) (Some Start)) h in
    let lower : List ℕ = str_to_ascii_lowercase text in
    let accepted : (accepts (subtags text) (Some Start) || is_irregular lower) ≡ true =
    or_left (accepts (subtags text) (Some Start)) (is_irregular lower) parts.1 in
    is_tag text true size (all_allowed 0 (subtags text) parts.0) (sym accepted) refl
