-- What is kept of a value says of its parts what the value says.
use Rattle.std.proofs.Common.{◌≡◌, ◌∙◌, ◌++◌, ℕ, zero, suc, List, [], ◌∷◌, Bool, true, false, ◌&&◌}
use Rattle.std.proofs.Common.{◌≤◌, length, map, take, nat_lt, refl, ap, ap₂, sym, arith}
use Rattle.std.specs.Prelude.{Option, None, Some, is_some, if◌then◌else◌, option_map}
use Rattle.std.specs.Prelude.{option_and_then}
use Rattle.std.proofs.lemmas.Bool.Decides.{nat_tests}
use Rattle.serde_json.specs.Data.{Data, Items, Members, null, boolean, number, string, array}
use Rattle.serde_json.specs.Data.{object, item, no_items}
use Rattle.serde_json.specs.Find.{as_str}
use Rattle.serde_json.specs.View.{items_of}
use Rattle.lang_core.proofs.Basics.{and_true}
use Rattle.json_docs.specs.Parts.{list_of, texts_in, u32_in, u64_in}
use Rattle.row_docs.specs.Headers.{IsSubject}
use Rattle.row_docs.specs.declared.header.Subject.{Subject}
use Rattle.row_docs.specs.declared.header.Subject.TheVariants.{Name, NoName, Number, Other}
use Rattle.row_docs.specs.Cuts.{are_texts, cut_by, cut_items, cut_to, fits, nothing, of_last}

-- a number that another one is not below is at most that
pub at_most : (m n : ℕ) → nat_lt m n ≡ false → n ≤ m
at_most m n h = grind (arith, nat_tests)

-- the items of a list as an array are the list
pub list_of-items_of : (ds : List Data) → list_of (items_of ds) ≡ ds
list_of-items_of [] = refl
list_of-items_of (d ∷ ds) = ap (λ t. d ∷ t) (list_of-items_of ds)

-- ---- what says the same of all arrays and objects as of `false`

module _ {X : Type 0} (f : Data → X) (none : X) (arrays : (ds : Items) → f (array ds) ≡ none)
    (booleans : (b : Bool) → f (boolean b) ≡ none) (objects : (ms : Members) → f (object ms) ≡ none)
  where
    of_kept : (b : Bool) (ds : Items) → f (if b then array ds else nothing) ≡ none
    of_kept true ds = arrays ds
    of_kept false ds = booleans false

    of_cut : (cut : List Data → Data) → ((ds : List Data) → f (cut ds) ≡ none) → (d : Data)
        → f (cut_by cut d) ≡ f d
    of_cut cut h null = refl
    of_cut cut h (boolean b) = refl
    of_cut cut h (number n) = refl
    of_cut cut h (string s) = refl
    of_cut cut h (array ds) = h (list_of ds) ∙ sym (arrays ds)
    of_cut cut h (object ms) = booleans false ∙ sym (objects ms)

    -- it says the same of what is kept of a value
    pub same_of_cut : (levels : ℕ) (d : Data) → f (cut_to levels d) ≡ f d
    same_of_cut zero d = of_cut (λ ds. nothing) (λ ds. booleans false) d
    same_of_cut (suc levels) d =
        of_cut (cut_items (cut_to levels))
        (λ ds. of_kept (fits ds) (items_of (take 65 (map (cut_to levels) ds)))) d

-- the text is kept
pub as_str-cut : (levels : ℕ) (d : Data) → as_str (cut_to levels d) ≡ as_str d
as_str-cut levels d = same_of_cut as_str None (λ ds. refl) (λ b. refl) (λ ms. refl) levels d

-- the number is kept
pub u64_in-cut : (levels : ℕ) (d : Data) → u64_in (cut_to levels d) ≡ u64_in d
u64_in-cut levels d = same_of_cut u64_in None (λ ds. refl) (λ b. refl) (λ ms. refl) levels d

-- a number of 32 bits is kept
pub u32_in-cut : (levels : ℕ) (d : Data) → u32_in (cut_to levels d) ≡ u32_in d
u32_in-cut levels d = same_of_cut u32_in None (λ ds. refl) (λ b. refl) (λ ms. refl) levels d

-- ---- items that are texts

both_some : (o : Option (List ℕ)) (r : Option (List (List ℕ)))
    → is_some (option_and_then (λ text. option_map (λ texts. text ∷ texts) r) o)
    ≡ (is_some o && is_some r)
both_some None r = refl
both_some (Some text) None = refl
both_some (Some text) (Some texts) = refl

-- there are texts where all are texts
pub is_some-texts_in : (ds : List Data) → is_some (texts_in ds) ≡ are_texts ds
is_some-texts_in [] = refl
is_some-texts_in (d ∷ ds) =
    both_some (as_str d) (texts_in ds) ∙ ap (λ b. is_some (as_str d) && b) (is_some-texts_in ds)

-- the texts of items are kept
pub texts_in-cut : (levels : ℕ) (ds : List Data) → texts_in (map (cut_to levels) ds) ≡ texts_in ds
texts_in-cut levels [] = refl
texts_in-cut levels (d ∷ ds) =
    ap₂ (λ (o : Option (List ℕ)) (r : Option (List (List ℕ))).
    option_and_then (λ text. option_map (λ texts. text ∷ texts) r) o)
    (as_str-cut levels d) (texts_in-cut levels ds)

one_text_more : (o : Option (List ℕ)) (r s : Option (List (List ℕ))) (n : ℕ)
    (texts : List (List ℕ))
    → option_and_then (λ text. option_map (λ texts. text ∷ texts) r) o ≡ Some texts
    → ((found : List (List ℕ)) → r ≡ Some found → s ≡ Some (take n found))
    → option_and_then (λ text. option_map (λ texts. text ∷ texts) s) o ≡ Some (take (suc n) texts)
one_text_more None r s n texts is more = cc
one_text_more (Some text) None s n texts is more = cc
one_text_more (Some text) (Some found) s n texts is more =
    let same : text ∷ found ≡ texts = cc in
    ap (option_map (λ (t : List (List ℕ)). text ∷ t)) (more found refl)
    ∙ ap (λ t. Some (take (suc n) t)) same

-- the first items have the first texts
pub texts_in-take : (n : ℕ) (ds : List Data) (texts : List (List ℕ)) → texts_in ds ≡ Some texts
    → texts_in (take n ds) ≡ Some (take n texts)
texts_in-take zero ds texts is = refl
texts_in-take (suc n) [] texts is =
    let same : [] ≡ texts = cc in
    ap (λ t. Some (take (suc n) t)) same
texts_in-take (suc n) (d ∷ ds) texts is =
    one_text_more (as_str d) (texts_in ds) (texts_in (take n ds)) n texts is
    (λ found h. texts_in-take n ds found h)

as_many : (o : Option (List ℕ)) (r : Option (List (List ℕ))) (n : ℕ) (texts : List (List ℕ))
    → option_and_then (λ text. option_map (λ texts. text ∷ texts) r) o ≡ Some texts
    → ((found : List (List ℕ)) → r ≡ Some found → n ≡ length found) → suc n ≡ length texts
as_many None r n texts is more = cc
as_many (Some text) None n texts is more = cc
as_many (Some text) (Some found) n texts is more =
    let same : text ∷ found ≡ texts = cc in ap suc (more found refl) ∙ ap length same

-- there are as many items as texts
pub length-texts_in : (ds : List Data) (texts : List (List ℕ)) → texts_in ds ≡ Some texts
    → length ds ≡ length texts
length-texts_in [] texts is =
    let same : [] ≡ texts = cc in
    ap length same
length-texts_in (d ∷ ds) texts is =
    as_many (as_str d) (texts_in ds) (length ds) texts is (λ found h. length-texts_in ds found h)

-- ---- one item more

and_assoc : (a b c : Bool) → (a && (b && c)) ≡ ((a && b) && c)
and_assoc true b c = refl
and_assoc false b c = refl

-- all are texts where the others and the last one are
pub are_texts-push : (ds : List Data) (d : Data)
    → are_texts (ds ++ d ∷ []) ≡ (are_texts ds && is_some (as_str d))
are_texts-push [] d = and_true (is_some (as_str d))
are_texts-push (e ∷ ds) d =
    ap (λ b. is_some (as_str e) && b) (are_texts-push ds d)
    ∙ and_assoc (is_some (as_str e)) (are_texts ds) (is_some (as_str d))

-- the last one is the last
pub of_last-push : (count : Data → ℕ) (ds : List Data) (d : Data)
    → of_last count (ds ++ d ∷ []) ≡ count d
of_last-push count [] d = refl
of_last-push count (e ∷ []) d = refl
of_last-push count (e ∷ f ∷ ds) d = of_last-push count (f ∷ ds) d

-- ---- the subject of a document

-- what has the same text and number as a member is the same subject
pub subject_kept : (subject : Subject) (d e : Data) → as_str d ≡ as_str e → u64_in d ≡ u64_in e
    → IsSubject subject d → IsSubject subject e
subject_kept (Name name) d e same_text same_number is = (sym same_text ∙ is.0, is.1)
subject_kept NoName d e same_text same_number is = (is.0, sym same_text ∙ is.1, is.2)
subject_kept (Number n) d e same_text same_number is = sym same_number ∙ is
subject_kept Other d e same_text same_number is = (sym same_text ∙ is.0, sym same_number ∙ is.1)
