-- The digits of a digest.
use Rattle.std.proofs.Common.{◌≡◌, ◌∙◌, ◌<◌, ◌/◌, ◌%◌, ◌++◌, ℕ, zero, suc, true}
use Rattle.std.proofs.Common.{List, [], ◌∷◌, ap, arith, codes, refl}
use Rattle.std.specs.Prelude.{Option, slice_index}
use Rattle.std.specs.List.{list_all}
use Rattle.std.specs.Int.{byte_at, bytes_high_first}
use Rattle.hex.specs.Hex.{encode_lower, encode_with, lower_digits}
use Rattle.json.specs.Print.{print}
use Rattle.json.specs.Written.{Written}
use Rattle.serde_json.specs.Data.{Data}
use Rattle.serde_json.specs.Written.{compact_text}
use Rattle.serde_json.proofs.Texts.{print-outline}
use Rattle.row_docs.specs.WritingTexts.{Adds, value_tokens}
use Rattle.lang_core.proofs.Basics.{both}
use Rattle.catalogue.specs.Entries.{Entries}
use Rattle.row_docs.specs.EntriesValues.{label_value}
use Rattle.summary_docs.specs.Digest.{digest, fnv_1a}
use Rattle.summary_docs.specs.Reading.{is_digest, is_hex_digit}
use Rattle.summary_docs.specs.Shown.{digests_of}

-- ---- the text of a label

-- what was written after nothing is the text of the value
pub label_text : (old new : Written) (d : Data) (text : List ℕ) → old.before ≡ []
    → old.tokens ≡ [] → Adds old new (value_tokens d) → text ≡ new.before ++ print new.tokens
    → text ≡ compact_text d
label_text old new d text none empty adds is =
    is ∙ ap (λ b. b ++ print new.tokens) (adds.0 ∙ none)
    ∙ ap print (adds.1 ∙ ap (λ t. t ++ value_tokens d) empty) ∙ print-outline d

-- ---- digits

high_digit : (n : ℕ) → n < 8 → is_hex_digit (slice_index (codes "89abcdef") n) ≡ true
high_digit zero small = refl
high_digit (suc zero) small = refl
high_digit (suc (suc zero)) small = refl
high_digit (suc (suc (suc zero))) small = refl
high_digit (suc (suc (suc (suc zero)))) small = refl
high_digit (suc (suc (suc (suc (suc zero))))) small = refl
high_digit (suc (suc (suc (suc (suc (suc zero)))))) small = refl
high_digit (suc (suc (suc (suc (suc (suc (suc zero))))))) small = refl
high_digit (suc (suc (suc (suc (suc (suc (suc (suc n)))))))) small = absurd (omega (arith, small))

-- a digit for each value below 16
digit_of : (n : ℕ) → n < 16 → is_hex_digit (slice_index lower_digits n) ≡ true
digit_of zero small = refl
digit_of (suc zero) small = refl
digit_of (suc (suc zero)) small = refl
digit_of (suc (suc (suc zero))) small = refl
digit_of (suc (suc (suc (suc zero)))) small = refl
digit_of (suc (suc (suc (suc (suc zero))))) small = refl
digit_of (suc (suc (suc (suc (suc (suc zero)))))) small = refl
digit_of (suc (suc (suc (suc (suc (suc (suc zero))))))) small = refl
digit_of (suc (suc (suc (suc (suc (suc (suc (suc n)))))))) small =
    high_digit n (omega (arith, small))

byte_small : (place n : ℕ) → byte_at place n < 256
byte_small zero n = omega arith
byte_small (suc place) n = omega arith

digits_of_bytes : (count n : ℕ)
    → list_all is_hex_digit (encode_lower (bytes_high_first count n)) ≡ true
unfolding encode_with
digits_of_bytes zero n = refl
digits_of_bytes (suc count) n =
    let byte = byte_at count n in
    let small = byte_small count n in
    both (is_hex_digit (slice_index lower_digits (byte / 16))) _
    (digit_of (byte / 16) (omega (arith, small)))
    (both (is_hex_digit (slice_index lower_digits (byte % 16))) _
    (digit_of (byte % 16) (omega arith)) (digits_of_bytes count n))

-- a digest has the form of one
pub digest-is : (label : Option (List (List ℕ))) → is_digest (digest label) ≡ true
unfolding encode_with
digest-is label = digits_of_bytes 8 (fnv_1a (compact_text (label_value label)))

-- so have all digests of some cells
pub digests-are : (cells : Entries) → list_all is_digest (digests_of cells) ≡ true
digests-are [] = refl
digests-are (e ∷ es) = both (is_digest (digest e.1.label)) (list_all is_digest (digests_of es))
    (digest-is e.1.label) (digests-are es)
