-- Languages: tags, and "@none".
use Rattle.std.proofs.Common.{ℕ, ◌≡◌, List, Some, false, refl, subst}
use Rattle.std.specs.Str.{bytes_eq}
use Rattle.std.proofs.lemmas.Slice.Eq.{bytes_eq-Decides}
use Rattle.lang_core.specs.Text.{pieces_by}
use Rattle.lang_core.specs.Grammar.{is_private_piece, is_run}
use Rattle.lang_core.specs.Tag.{IsTag, HasSubtags}
use Rattle.lang_core.specs.Lang.{none_text, tag_of}
use Rattle.lang_core.proofs.Basics.{is_false}

none_subtags : HasSubtags none_text → ⊥
unfolding pieces_by is_private_piece is_run
none_subtags h = cc

-- "@none" is no tag
pub none_no_tag : IsTag none_text → ⊥
none_no_tag h = none_subtags h.1

-- No tag is the text "@none".
pub tag_not_none : (text : List ℕ) → IsTag text → text ≡ none_text → ⊥
tag_not_none text h e = none_no_tag (let P : List ℕ → Type 0 = IsTag in subst P e h)

-- a language that is a tag holds it
pub tag_of_tag : (text : List ℕ) → IsTag text → tag_of text ≡ Some text
tag_of_tag text h =
    let other : bytes_eq text none_text ≡ false =
    is_false _ (λ e. tag_not_none text h ((bytes_eq-Decides text none_text).0 e)) in
    rw other refl
