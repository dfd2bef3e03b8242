-- A summary's document with labels, by that document without them.
--
-- A document that shows labels is one without them and a member more. So it is read in two steps:
-- the member is taken out of the object, which nests no deeper than before and has the same rows,
-- and what is left is read as a summary without labels. Each refusal is one of the member, of
-- version 1, or of the rest; they exclude one another, so that a text reads as one summary at most,
-- and is refused for one cause.
use Rattle.std.proofs.Common.{◌≡◌, ◌≢◌, ◌∙◌, ◌&&◌, ◌≤◌, ℕ, Bool, true, false, List, [], ◌∷◌, String}
use Rattle.std.proofs.Common.{Global, Vec, ap, ap₂, arith, cond, inl, inr, length, map, max, refl}
use Rattle.std.proofs.Common.{◌+◌, ◌++◌, ◌<◌, codes, get_or, string_bytes, subst, suc, sym, take}
use Rattle.std.proofs.Common.{true≢false, zero}
use Rattle.std.specs.Prelude.{IsUtf8, None, Option, Some, is_some, option_and_then}
use Rattle.std.specs.Prelude.{MatchOption, option_map, unwrap_or}
use Rattle.std.specs.Ordering.{match_ordering, nat_cmp, is_eq}
use Rattle.std.specs.declared.cmp.Ordering.{Ordering}
use Rattle.std.specs.declared.cmp.Ordering.TheVariants.{Equal, Greater, Less}
use Rattle.std.specs.Cmp.Lexicographic.{slice_cmp}
use Rattle.std.specs.BTreeMap.{is_at}
use Rattle.std.specs.Map.{remove_entry}
use Rattle.std.proofs.lemmas.Bool.Decides.{nat_tests}
use Rattle.serde_json.specs.Data.{Data, Items, Members, array, boolean, depth, member}
use Rattle.serde_json.specs.Data.{members_depth}
use Rattle.serde_json.specs.Data.{no_members, null, number, object, string}
use Rattle.serde_json.specs.Find.{as_array, get}
use Rattle.serde_json.specs.Read.{max_depth, read}
use Rattle.serde_json.specs.View.{items_view, members_view, view}
use Rattle.json_docs.specs.Parts.{items_in, list_of}
use Rattle.row_docs.specs.Headers.{rows_in}
use Rattle.row_docs.specs.declared.kind.Kind.TheVariants.{Summary}
use Rattle.row_docs.proofs.EntriesWrittenRows.{list_of-items_of}
use Rattle.std.proofs.lemmas.List.{length-map, map-append, take_more}
use Rattle.cell_core.specs.Label.{texts_of}
use Rattle.serde_json.specs.declared.value.Value.{Value}
use Rattle.serde_json.proofs.Views.{Entry}
use Rattle.lang_core.proofs.Basics.{and_false, both, each_true}
use Rattle.catalogue.proofs.Basics.{some_same}
use Rattle.cata_core.specs.Summary.{SummaryState}
use Rattle.json_docs.specs.FaultChecks.{AllPass, AreJson, FirstFails, IsRefusal, OrMemory}
use Rattle.json_docs.specs.Faults.{of_document}
use Rattle.json_docs.specs.declared.fault.DocFault.{DocFault}
use Rattle.json_docs.specs.declared.fault.DocCause.TheVariants as fault
use Rattle.row_docs.specs.Reading.{IsOfDocument, no_memory}
use Rattle.json_docs.specs.declared.fault.DocCause.{DocCause}
use Rattle.json_docs.specs.declared.fault.DocCause.TheVariants.{Shape}
use Rattle.json_docs.specs.declared.fault.Spot.TheVariants as spot
use Rattle.row_docs.specs.Headers.{version_in}
use Rattle.row_docs.proofs.OneReading.{one_read, same_entries, same_some}
use Rattle.site_docs.specs.Reading.{ReadsAsSummary, RefusesSummary}
use Rattle.site_docs.specs.SiteDocuments.{IsSummaryDocument, summary_checks}
use Rattle.summary_docs.specs.Reading.{HasDigests, IsShownBy, IsShownDocument, ReadsAsShown}
use Rattle.summary_docs.specs.Reading.{RefusesShown, checks_by, digest_in, is_two, other_members}
use Rattle.summary_docs.specs.Reading.{shown_checks, shows_labels, without}
use Rattle.summary_docs.specs.Shown.{ShownState}

-- ---- a document without labels

-- what passes the tests of a summary without labels shows none
shows_none : (d : Data) → AllPass (summary_checks d) → shows_labels d ≡ false
shows_none d pass =
    ap (λ b. is_two (version_in d) && b) (pass.1.1.0.0 (codes "labels"))
    ∙ and_false (is_two (version_in d))

-- a summary without labels is read as one
pub plain_reads : (bytes : List ℕ) (summary : SummaryState) → ReadsAsSummary bytes summary
    → ReadsAsShown bytes (record { summary = summary; digests = [] })
plain_reads bytes summary (d, json, pass, is) =
    let shown : ShownState = record { summary = summary; digests = [] } in
    let none = shows_none d pass in (
      d,
      json,
      subst (λ b. AllPass (checks_by b d)) (sym none) pass,
      subst (λ b. IsShownBy b d shown) (sym none) (is, refl),
    )

two_is : (o : Option ℕ) → is_two o ≡ true → o ≡ Some 2
two_is None is = absurd (cc)
two_is (Some n) is = let same : n ≡ 2 = grind (arith, nat_tests, is) in ap Some same

-- a document that shows labels is refused, as one without them, by its shape
labels_refused : (d : Data) (cause : DocCause) → shows_labels d ≡ true
    → FirstFails (summary_checks d) cause → cause ≡ Shape spot.Document
labels_refused d cause shows why =
    let each = each_true (is_two (version_in d)) (is_some (get (codes "labels") d)) shows in
    elim why [
      | inl begins ↦ begins.1
      | inr one ↦ elim one.1 [
        | inl version ↦ absurd (version.0 (inr (two_is (version_in d) each.0)))
        | inr two ↦ elim two.1 [
          | inl members ↦ members.1
          | inr three ↦ absurd (true≢false (sym each.1 ∙ three.0.0 (codes "labels")))
        ]
      ]
    ]

-- what is refused for another cause shows no labels, and is refused so
pub other_refused : (bytes : List ℕ) (cause : DocCause) → RefusesSummary bytes cause
    → cause ≢ Shape spot.Document → RefusesShown bytes cause
other_refused bytes cause why apart = elim why [
  | inl text ↦ inl text
  | inr (d, json, fails) ↦
      inr (
        d,
        json,
        elim (shows_labels d) as
            (λ b. shows_labels d ≡ b → FirstFails (checks_by b d) cause) [
              | true ↦ λ shows. absurd (apart (labels_refused d cause shows fails))
              | false ↦ λ shows. fails
            ] refl,
      )
]

-- ---- a document that is refused by its shape as one without labels

-- its data are those that the text is read as
pub shape_refused : (bytes : List ℕ) (d : Data) → AreJson bytes d
    → IsRefusal summary_checks bytes (Shape spot.Document)
    → FirstFails (summary_checks d) (Shape spot.Document)
shape_refused bytes d json why = elim why [
  | inl text ↦ elim text [
    | inl utf8 ↦ let no = utf8.1 in absurd (cc)
    | inr not_json ↦ let no = not_json.2 in absurd (cc)
  ]
  | inr (e, again, fails) ↦
      subst (λ x. FirstFails (summary_checks x) (Shape spot.Document))
      (some_same e d (sym again.1 ∙ json.1)) fails
]

-- it shows no labels
pub unshown_refused : (bytes : List ℕ) (d : Data) → AreJson bytes d
    → IsRefusal summary_checks bytes (Shape spot.Document) → shows_labels d ≡ false
    → RefusesShown bytes (Shape spot.Document)
unshown_refused bytes d json why shows =
    inr (
      d,
      json,
      subst (λ b. FirstFails (checks_by b d) (Shape spot.Document)) (sym shows)
          (shape_refused bytes d json why),
    )

-- its labels are no digests, or not one for each row
pub digests_refused : (bytes : List ℕ) (d : Data) → AreJson bytes d → shows_labels d ≡ true
    → ((digests : List (List ℕ)) → HasDigests d digests → ⊥)
    → RefusesShown bytes (Shape spot.Document)
digests_refused bytes d json shows none =
    inr (
      d,
      json,
      subst (λ b. FirstFails (checks_by b d) (Shape spot.Document)) (sym shows)
          (inl ((λ has. none has.0 has.1), refl)),
    )

module _ (bytes text : List ℕ) (d : Data) (digests : List (List ℕ)) (json : AreJson bytes d)
    (shows : shows_labels d ≡ true) (has : HasDigests d digests)
    (plain : AreJson text (without (codes "labels") d)) where
  -- its summary is that of the document without them
  pub labelled_reads : (summary : SummaryState) → ReadsAsSummary text summary
      → ReadsAsShown bytes (record { summary = summary; digests = digests })
  labelled_reads summary (e, again, pass, is) =
      let shown : ShownState = record { summary = summary; digests = digests } in
      let same : e ≡ without (codes "labels") d = some_same e _ (sym again.1 ∙ plain.1) in (
        d,
        json,
        subst (λ b. AllPass (checks_by b d)) (sym shows)
            ((digests, has), subst (λ x. AllPass (summary_checks x)) same pass),
        subst (λ b. IsShownBy b d shown) (sym shows)
            (subst (λ x. IsSummaryDocument x summary) same is, has),
      )

  -- it is refused as the document without them
  pub labelled_refused : (cause : DocCause) → RefusesSummary text cause → RefusesShown bytes cause
  labelled_refused cause why = elim why [
    | inl of_text ↦ elim of_text [
      | inl utf8 ↦ absurd (utf8.0 plain.0)
      | inr not_json ↦ absurd (no_data not_json.1)
    ]
    | inr (e, again, fails) ↦
        inr (
          d,
          json,
          subst (λ b. FirstFails (checks_by b d) cause) (sym shows)
              (inr (
                (digests, has),
                subst (λ x. FirstFails (summary_checks x) cause)
                    (some_same e _ (sym again.1 ∙ plain.1)) fails,
              )),
        )
  ]
    where
      no_data : read text ≡ None → ⊥
      no_data none = let no : Some (without (codes "labels") d) ≡ None = sym plain.1 ∙ none in cc

-- ---- the object without a member

others_by : (o : Ordering) (k : List ℕ) (d : Data) (others ms : Members)
    → members_depth others ≤ members_depth ms
    → members_depth (match_ordering o (member k d others) ms (member k d others))
    ≤ max (depth d) (members_depth ms)
others_by Less k d others ms rest = omega (arith, rest)
others_by Equal k d others ms rest = omega arith
others_by Greater k d others ms rest = omega (arith, rest)

-- the members without one nest no deeper
others_depth : (name : List ℕ) (ms : Members)
    → members_depth (other_members name ms) ≤ members_depth ms
others_depth name no_members = omega arith
others_depth name (member k d ms) =
    others_by (slice_cmp nat_cmp name k) k d (other_members name ms) ms (others_depth name ms)

-- the object without a member nests no deeper
pub without-depth : (name : List ℕ) (d : Data) → depth (without name d) ≤ depth d
without-depth name null = omega arith
without-depth name (boolean b) = omega arith
without-depth name (number n) = omega arith
without-depth name (string s) = omega arith
without-depth name (array ds) = omega arith
without-depth name (object ms) = let inner = others_depth name ms in omega (arith, inner)

removed_by : (o : Ordering) (e : Entry) (left es : List Entry) (others : Members)
    → members_view left ≡ others
    → members_view (cond (is_eq o) es (e ∷ left))
    ≡ match_ordering o (member (string_bytes e.0) (view e.1) others) (members_view es)
    (member (string_bytes e.0) (view e.1) others)
removed_by Less e left es others same = ap (member (string_bytes e.0) (view e.1)) same
removed_by Equal e left es others same = refl
removed_by Greater e left es others same = ap (member (string_bytes e.0) (view e.1)) same

-- what is left once the entry of a name is removed
pub members_view-removed : (name : List ℕ) (es : List Entry)
    → members_view (remove_entry (is_at (λ k. slice_cmp nat_cmp name (string_bytes k))) es)
    ≡ other_members name (members_view es)
members_view-removed name [] = refl
members_view-removed name (e ∷ es) =
    removed_by (slice_cmp nat_cmp name (string_bytes e.0)) e
    (remove_entry (is_at (λ k. slice_cmp nat_cmp name (string_bytes k))) es) es
    (other_members name (members_view es)) (members_view-removed name es)

-- ---- what a value has

-- the items of the rows are as many as the rows
pub rows_counted : (d stamps : Data) (rows : List Value) → Some stamps ≡ get (codes "stamps") d
    → Some (items_view rows) ≡ as_array stamps → length rows ≡ length (rows_in Summary d)
rows_counted d stamps rows there is =
    sym (length-map rows view) ∙ ap length (sym (list_of-items_of (map view rows)))
    ∙ ap (λ (o : Option Items). length (unwrap_or (option_map list_of o) [])) is
    ∙ ap (λ (o : Option Data). length (unwrap_or (option_and_then items_in o) [])) there

-- a value that is none leaves no list of all
pub none_at : (f : Data → Option (List ℕ)) (vs : List Value) (place : ℕ) (v : Value)
    (ds : List (List ℕ)) → place < length vs → v ≡ get_or vs place v → f (view v) ≡ None
    → map f (map view vs) ≡ map Some ds → ⊥
none_at f [] place v ds within is none are = absurd (omega (arith, within))
none_at f (x ∷ xs) zero v [] within is none are = cc
none_at f (x ∷ xs) zero v (d ∷ ds) within is none are =
    let head : f (view x) ≡ Some d = cc in
    let no : Some d ≡ None = sym head ∙ ap (λ y. f (view y)) (sym is) ∙ none in cc
none_at f (x ∷ xs) (suc place) v [] within is none are = cc
none_at f (x ∷ xs) (suc place) v (d ∷ ds) within is none are =
    let tails : map f (map view xs) ≡ map Some ds = cc in
    none_at f xs place v ds (omega (arith, within)) is none tails

-- one value more that is a digest
pub one_digest_more : (vs : List Value) (place : ℕ) (v : Value)
    (before after : List (String Global)) (text : String Global) (found : List ℕ)
    → place < length vs → v ≡ get_or vs place v
    → digest_in (view v) ≡ Some found → string_bytes text ≡ found → after ≡ before ++ text ∷ []
    → map digest_in (map view (take place vs)) ≡ map Some (texts_of before)
    → map digest_in (map view (take (place + 1) vs)) ≡ map Some (texts_of after)
one_digest_more vs place v before after text found within is digit copied pushed held =
    ap (λ xs. map digest_in (map view xs))
    (take_more vs place v within ∙ ap (λ (x : Value). take place vs ++ x ∷ []) (sym is))
    ∙ ap (map digest_in) (map-append view (take place vs) (v ∷ []))
    ∙ map-append digest_in (map view (take place vs)) (view v ∷ [])
    ∙ ap₂ (λ (xs : List (Option (List ℕ))) (x : Option (List ℕ)). xs ++ x ∷ []) held
    (digit ∙ ap Some (sym copied))
    ∙ sym (map-append Some (texts_of before) (string_bytes text ∷ []))
    ∙ ap (map Some) (sym (map-append string_bytes before (text ∷ [])))
    ∙ ap (λ xs. map Some (texts_of xs)) (sym pushed)

-- ---- one reading, and one refusal

one_digests : (d : Data) (xs ys : List (List ℕ)) → HasDigests d xs → HasDigests d ys → xs ≡ ys
one_digests d xs ys p q =
    let same : p.items ≡ q.items = some_same p.items q.items (sym p.there ∙ q.there) in
    same_some xs ys (sym p.are ∙ ap (map digest_in) same ∙ q.are)

summary_is : (d : Data) (s t : SummaryState) → IsSummaryDocument d s → IsSummaryDocument d t → s ≡ t
summary_is d s t p q =
    ap₂ (λ (n : List ℕ) ts. let r : SummaryState = record { owner = n; stamps = ts } in r)
    (some_same s.owner t.owner (sym p.owner ∙ q.owner))
    (same_entries _ _ s.stamps t.stamps p.stamps q.stamps)

shown_is : (b : Bool) (d : Data) (s t : ShownState) → IsShownBy b d s → IsShownBy b d t → s ≡ t
shown_is false d s t p q =
    ap₂ (λ (x : SummaryState) (y : List (List ℕ)). let r : ShownState =
    record { summary = x; digests = y } in r) (summary_is d s.summary t.summary p.0 q.0)
    (p.1 ∙ sym q.1)
shown_is true d s t p q =
    ap₂ (λ (x : SummaryState) (y : List (List ℕ)). let r : ShownState =
    record { summary = x; digests = y } in r)
    (summary_is (without (codes "labels") d) s.summary t.summary p.0 q.0)
    (one_digests d s.digests t.digests p.1 q.1)

-- a text reads as one summary at most, with labels or without
pub one_shown : (bytes : List ℕ) (s t : ShownState) → ReadsAsShown bytes s → ReadsAsShown bytes t
    → s ≡ t
one_shown = one_read shown_checks IsShownDocument (λ d. shown_is (shows_labels d) d)

-- ---- refusals that name a document

cause_of : (document : ℕ) (cause : DocCause)
    → (let fault : DocFault = of_document document cause in fault.cause ≡ cause)
cause_of document (fault.NotUtf8 offset) = refl
cause_of document fault.NotJson = refl
cause_of document (fault.Shape place) = refl
cause_of document (fault.Field row why) = refl
cause_of document (fault.CellOrder row) = refl
cause_of document (fault.RepeatedTag row) = refl
cause_of document fault.TooLarge = refl
cause_of document fault.ReadFault = refl
cause_of document fault.WriteFault = refl
cause_of document fault.SiteName = refl
cause_of document fault.VersionUnknown = refl
cause_of document (fault.TimeAhead row) = refl
cause_of document (fault.OwnEditMissing row) = refl
cause_of document (fault.Site why) = refl
cause_of document (fault.Step why) = refl
cause_of document fault.NoMemory = refl

-- the cause of a refusal is why the document is refused
pub caused : (document : ℕ) (bytes : List ℕ) (why : DocFault) (cause : DocCause)
    → OrMemory no_memory (IsOfDocument document (RefusesSummary bytes)) why → why.cause ≡ cause
    → cause ≢ fault.NoMemory → RefusesSummary bytes cause
caused document bytes why cause refused is apart = elim refused [
  | inl memory ↦ absurd (apart (sym is ∙ ap (λ (f : DocFault). f.cause) memory))
  | inr (found, refuses, told) ↦ subst (RefusesSummary bytes)
      (sym (cause_of document found) ∙ sym (ap (λ (f : DocFault). f.cause) told) ∙ is) refuses
]

-- a refusal for another cause than the document's shape is that of a summary that may show labels
pub other_caused : (document : ℕ) (bytes : List ℕ) (why : DocFault)
    → OrMemory no_memory (IsOfDocument document (RefusesSummary bytes)) why
    → why.cause ≢ Shape spot.Document
    → OrMemory no_memory (IsOfDocument document (RefusesShown bytes)) why
other_caused document bytes why refused apart = elim refused [
  | inl memory ↦ inl memory
  | inr (cause, refuses, told) ↦ inr (
    cause,
    other_refused bytes cause refuses (λ is. apart (ap (λ (f : DocFault). f.cause) told
        ∙ cause_of document cause ∙ is)),
    told,
  )
]

-- ---- the steps of a reading

-- another version shows no labels
pub shows-no_version : (d : Data) → is_two (version_in d) ≡ false → shows_labels d ≡ false
shows-no_version d other = ap (λ b. b && is_some (get (codes "labels") d)) other

-- without the member there are none
pub shows-no_member : (d : Data) → get (codes "labels") d ≡ None → shows_labels d ≡ false
shows-no_member d none =
    ap (λ (o : Option Data). is_two (version_in d) && is_some o) none
    ∙ and_false (is_two (version_in d))

-- the member of version 2 shows some
pub shows-member : (d labels : Data) → is_two (version_in d) ≡ true
    → get (codes "labels") d ≡ Some labels → shows_labels d ≡ true
shows-member d labels two there =
    both (is_two (version_in d)) (is_some (get (codes "labels") d)) two (ap is_some there)

-- it has no digests where its value is no array of them
pub no_digests : (d labels : Data) → get (codes "labels") d ≡ Some labels
    → ((items : List Data) (digests : List (List ℕ)) → items_in labels ≡ Some items
    → map digest_in items ≡ map Some digests → ⊥) → (digests : List (List ℕ))
    → HasDigests d digests → ⊥
no_digests d labels there none digests has =
    none has.items digests (sym (ap (option_and_then items_in) there) ∙ has.there) has.are

-- it has these, where they are as many as the rows
pub has_these : (d labels : Data) (items : List Data) (digests : List (List ℕ))
    → get (codes "labels") d ≡ Some labels → items_in labels ≡ Some items
    → map digest_in items ≡ map Some digests → length digests ≡ length (rows_in Summary d)
    → HasDigests d digests
has_these d labels items digests there listed are each = record {
  items = items;
  there = ap (option_and_then items_in) there ∙ listed;
  are = are;
  each = each;
}

-- and none, where they are not as many
pub miscounted : (d labels : Data) (items : List Data) (found : List (List ℕ))
    → get (codes "labels") d ≡ Some labels → items_in labels ≡ Some items
    → map digest_in items ≡ map Some found → (length found ≡ length (rows_in Summary d) → ⊥)
    → (digests : List (List ℕ)) → HasDigests d digests → ⊥
miscounted d labels items found there listed are apart digests has =
    let same : has.items ≡ items =
    some_same has.items items (sym has.there ∙ ap (option_and_then items_in) there ∙ listed) in
    let one : digests ≡ found =
    same_some digests found (sym has.are ∙ ap (map digest_in) same ∙ are) in
    apart (ap length (sym one) ∙ has.each)

-- the document without its labels is the text that is written of it
pub plain_text : (d plain : Data) (bytes text : List ℕ) → bytes ≡ text
    → plain ≡ without (codes "labels") d → depth d ≤ max_depth → IsUtf8 text
    → (depth plain ≤ max_depth → read text ≡ Some plain)
    → AreJson bytes (without (codes "labels") d)
plain_text d plain bytes text same is nests utf8 back =
    let less = without-depth (codes "labels") d in
    let shallow : depth plain ≤ max_depth =
    subst (λ (p : Data). depth p ≤ max_depth) (sym is) (omega (arith, less, nests)) in
    subst (λ b. AreJson b (without (codes "labels") d)) (sym same)
    (utf8, back shallow ∙ ap Some is)

-- a refusal of the document without its labels is one of the document
pub labelled_caused : (bytes text : List ℕ) (d : Data) (digests : List (List ℕ))
    → AreJson bytes d → shows_labels d ≡ true → HasDigests d digests
    → AreJson text (without (codes "labels") d) → (document : ℕ) (why : DocFault)
    → OrMemory no_memory (IsOfDocument document (RefusesSummary text)) why
    → OrMemory no_memory (IsOfDocument document (RefusesShown bytes)) why
labelled_caused bytes text d digests json shows has plain document why refused = elim refused [
  | inl memory ↦ inl memory
  | inr (cause, refuses, told) ↦ inr
      (cause, labelled_refused bytes text d digests json shows has plain cause refuses, told)
]

-- the digests of an array are those of its items
pub found_among : (labels : Data) (vs : List Value) (found : Option (Vec (String Global) Global))
    → items_in labels ≡ Some (map view vs)
    → MatchOption found ((digests : List (List ℕ))
    → map digest_in (map view vs) ≡ map Some digests → ⊥)
    (λ digests. map digest_in (map view vs) ≡ map Some (texts_of digests.items))
    → MatchOption found ((items : List Data) (digests : List (List ℕ))
    → items_in labels ≡ Some items → map digest_in items ≡ map Some digests → ⊥)
    (λ digests. (items : List Data) × (items_in labels ≡ Some items)
    × (map digest_in items ≡ map Some (texts_of digests.items)))
found_among labels vs None listed none = λ items digests other are.
    none digests
    (ap (map digest_in) (some_same (map view vs) items (sym listed ∙ other)) ∙ are)
found_among labels vs (Some digests) listed are = (map view vs, listed, are)
