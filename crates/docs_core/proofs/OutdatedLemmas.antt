-- What outdated labels are, and that a part has its part of them.
use Rattle.std.proofs.Common.{◌≡◌, ◌∙◌, ◌<◌, ℕ, Bool, List, [], ◌∷◌, true, false, cond, ap, ap₂}
use Rattle.std.proofs.Common.{arith, lt-ltb, ltb-true, refl, sym}
use Rattle.std.specs.Prelude.{◌↔◌, Contains, None, Option, Some, filter, is_some, nat_lt}
use Rattle.std.specs.Prelude.{option_map}
use Rattle.std.specs.FinMap.Entries.{find}
use Rattle.cell_core.specs.declared.cell.Cell.{Cell}
use Rattle.cell_core.specs.Entry.{EntryKey, key_cmp}
use Rattle.catalogue.specs.Entries.{Entries}
use Rattle.catalogue.specs.CatalogueParts.{part_of}
use Rattle.catalogue.proofs.CatalogueMembersLemmas.{Contains-from_in, filter_in, in_filter}
use Rattle.catalogue.proofs.CatalogueMembersLemmas.{in_from_Contains}
use Rattle.catalogue.proofs.CataloguePartsLemmas.{find-part}
use Rattle.map_docs.specs.Maps.{Labelled}
use Rattle.query_docs.specs.Exporting.{live_labels}
use Rattle.query_docs.specs.Outdated.{IsOutdatedMessage, is_before, is_outdated, labelled_at}
use Rattle.query_docs.specs.Outdated.{live_time, outdated_labels}
use Rattle.docs_core.proofs.PartLaws.{chosen_of_part, live_of_part}

abbrev Label : Type 0
Label = Option (List (List ℕ))

-- ---- a message that is outdated

labels_before : (own other : ℕ) (a b : Label)
    → is_before (option_map (λ _. own) a) (option_map (λ _. other) b) ≡ true → (is_some a ≡ true)
    × (is_some b ≡ true) × (own < other)
labels_before own other None b before = absurd (cc)
labels_before own other (Some x) None before = absurd (cc)
labels_before own other (Some x) (Some y) before = (refl, refl, ltb-true own other before)

not_before_none : (own : ℕ) (a : Label) → is_before (option_map (λ _. own) a) None ≡ false
not_before_none own None = refl
not_before_none own (Some x) = refl

cells_before : (lang source : List ℕ) (cells : Entries) (id : List ℕ) (a b : Option Cell)
    → find key_cmp (id, lang) cells ≡ a → find key_cmp (id, source) cells ≡ b
    → is_before (labelled_at a) (labelled_at b) ≡ true
    → IsOutdatedMessage lang source cells id
cells_before lang source cells id None b own other before = absurd (cc)
cells_before lang source cells id (Some a) None own other before = absurd (let no = sym
    (not_before_none a.stamp.time a.label) ∙ before in cc)
cells_before lang source cells id (Some a) (Some b) own other before =
    let labels = labels_before a.stamp.time b.stamp.time a.label b.label before in
    record {
      own = a;
      other = b;
      own_at = own;
      other_at = other;
      own_label = labels.0;
      other_label
          = labels.1;
      later = labels.2;
    }

before_labels : (own other : ℕ) (a b : Label) → is_some a ≡ true → is_some b ≡ true → own < other
    → is_before (option_map (λ _. own) a) (option_map (λ _. other) b) ≡ true
before_labels own other None b some more later = absurd (cc)
before_labels own other (Some x) None some more later = absurd (cc)
before_labels own other (Some x) (Some y) some more later = lt-ltb own other later

outdated_is : (lang source : List ℕ) (cells : Entries) (id : List ℕ)
    → is_outdated lang source cells id ≡ true ↔ IsOutdatedMessage lang source cells id
outdated_is lang source cells id = (
  cells_before lang source cells id (find key_cmp (id, lang) cells) (find key_cmp
      (id, source) cells) refl refl,
  λ is. ap₂ (λ (a b : Option Cell). is_before (labelled_at a) (labelled_at b)) is.own_at is.other_at
      ∙ before_labels is.own.stamp.time is.other.stamp.time is.own.label is.other.label
      is.own_label is.other_label is.later,
)

-- a label is among the outdated ones exactly where it is live and its message is outdated
pub outdated_where : (lang source : List ℕ) (cells : Entries) (e : Labelled)
    → Contains (outdated_labels lang source cells) e ↔ (Contains (live_labels cells) e
    × IsOutdatedMessage lang source cells e.0.0)
outdated_where lang source cells e =
    let chosen : Labelled → Bool = λ x. is_outdated lang source cells x.0.0 in
    let is = outdated_is lang source cells e.0.0 in (
      λ at. let kept = in_filter chosen (live_labels cells) e (in_from_Contains
          (outdated_labels lang source cells) e at) in
          (Contains-from_in (live_labels cells) e kept.0, is.0 kept.1),
      λ (live, old). Contains-from_in (outdated_labels lang source cells) e (filter_in chosen
          (live_labels cells) e (in_from_Contains (live_labels cells) e live) (is.1 old)),
    )

-- ---- of one language

not_less : (n : ℕ) → nat_lt n n ≡ false
not_less n = elim (nat_lt n n) as (λ t. nat_lt n n ≡ t → t ≡ false) [
  | true ↦ λ less. absurd (let lt = ltb-true n n less in omega (arith, lt))
  | false ↦ λ _. refl
] refl

not_before_itself : (time : Option ℕ) → is_before time time ≡ false
not_before_itself None = refl
not_before_itself (Some time) = not_less time

none_pass : (p : Labelled → Bool) (es : List Labelled) → ((e : Labelled) → p e ≡ false)
    → filter p es ≡ []
none_pass p [] none = refl
none_pass p (e ∷ es) none = ap (λ t. cond t (e ∷ filter p es) (filter p es)) (none e)
    ∙ none_pass p es none

-- no message is outdated where the two languages are one
pub none_of_one : (lang : List ℕ) (cells : Entries) → outdated_labels lang lang cells ≡ []
none_of_one lang cells = none_pass (λ (e : Labelled). is_outdated lang lang cells e.0.0)
    (live_labels cells) (λ e. not_before_itself (live_time (e.0.0, lang) cells))

-- ---- parts

time_of_part : (messages : List ℕ → Bool) (key : EntryKey) (cells : Entries)
    → messages key.0 ≡ true → live_time key (part_of messages cells) ≡ live_time key cells
time_of_part messages key cells inside = ap labelled_at (find-part messages key cells
    ∙ ap (λ u. cond u (find key_cmp key cells) None) inside)

-- the outdated labels of a part are the part of the outdated labels
pub outdated_of_part : (messages : List ℕ → Bool) (lang source : List ℕ) (cells : Entries)
    → outdated_labels lang source (part_of messages cells) ≡ part_of messages
    (outdated_labels lang source cells)
outdated_of_part messages lang source cells =
    let of_part : Labelled → Bool = λ e. is_outdated lang source (part_of messages cells) e.0.0 in
    let of_whole : Labelled → Bool = λ e. is_outdated lang source cells e.0.0 in
    ap (filter of_part) (live_of_part messages cells)
    ∙ chosen_of_part messages of_part of_whole (λ e inside. ap₂ is_before (time_of_part messages
    (e.0.0, lang) cells inside) (time_of_part messages (e.0.0, source) cells inside))
    (live_labels cells)
