-- A text that is refused as a tag is none.
use Rattle.std.proofs.Common.{◌≡◌, ◌≢◌, ◌+◌, ℕ, List, [], ◌∷◌, ◌++◌, Bool, true, false}
use Rattle.std.proofs.Common.{ap, arith, length, refl, subst}
use Rattle.lang_core.specs.Grammar.{IsFirstRefused, are_allowed, tag_piece}
use Rattle.lang_core.specs.Tag.{HasSubtags, IsTag, RefusesTag}
use Rattle.lang_core.specs.Text.{pieces}
use Rattle.lang_core.specs.declared.fault.LangFault.{LangFault}
use Rattle.lang_core.specs.declared.fault.LangFault.TheVariants as lang
use Rattle.lang_core.proofs.Basics.{each_true}

-- A piece that is refused is not in a list of allowed ones.
pub not_allowed : (allowed : ℕ → List ℕ → Bool) (from : ℕ) (before after : List (List ℕ))
    (piece : List ℕ) → are_allowed allowed from (before ++ piece ∷ after) ≡ true
    → allowed (from + length before) piece ≡ false → ⊥
not_allowed allowed from [] after piece all not =
    let fine : allowed from piece ≡ true =
    (each_true (allowed from piece) (are_allowed allowed (from + 1) after) all).0 in
    let refused : allowed from piece ≡ false =
    subst (λ (n : ℕ). allowed n piece ≡ false) (omega arith) not in
    cc
not_allowed allowed from (x ∷ xs) after piece all not =
    not_allowed allowed (from + 1) xs after piece
    (each_true (allowed from x) (are_allowed allowed (from + 1) (xs ++ piece ∷ after)) all).1
    (subst (λ (n : ℕ). allowed n piece ≡ false) (omega arith) not)

-- A text with a subtag that is refused has no subtags that are allowed.
pub has_no_subtags : (text : List ℕ) (offset : ℕ) → HasSubtags text
    → IsFirstRefused tag_piece (pieces text) offset → ⊥
has_no_subtags text offset all first =
    not_allowed tag_piece 0 first.before first.after first.piece
    (subst (λ list. are_allowed tag_piece 0 list ≡ true) first.whole all)
    (subst (λ (n : ℕ). tag_piece n first.piece ≡ false) {x = length first.before}
    {y = 0 + length first.before} (omega arith) first.refused)

-- A text that is refused as a tag, out of memory apart, is none.
pub no_tag : (text : List ℕ) (fault : LangFault) → fault ≢ lang.NoMemory → RefusesTag text fault
    → IsTag text → ⊥
no_tag text lang.TagEmpty n h tag =
    let size : length text ≡ 0 = ap length h in omega (arith, size, tag.0.0)
no_tag text lang.TagTooLong n h tag = let most = tag.0.1 in omega (arith, h, most)
no_tag text (lang.TagSubtag offset) n h tag = has_no_subtags text offset tag.1 h.1
no_tag text lang.TagNotWellFormed n h tag = h.2 tag.2
no_tag text lang.RangeEmpty n h tag = h
no_tag text lang.RangeTooLong n h tag = h
no_tag text (lang.RangeSubtag offset) n h tag = h
no_tag text lang.NoMemory n h tag = n refl
