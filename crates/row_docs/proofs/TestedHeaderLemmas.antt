-- The tests of a header, by what was read of the members.
--
-- A document of JSON is tested member by member, in a fixed order. A header has for each of these
-- tests what it needs: whether the member is there, and its value. So a header passes just if the
-- members do, and the first test that it fails is the first that the members fail, which names the
-- refusal.
use Rattle.std.proofs.Common.{◌≡◌, ◌∙◌, ℕ, List, [], ◌||◌, Bool, true, false, codes, ap, sym, refl}
use Rattle.std.proofs.Common.{inl, inr}
use Rattle.std.specs.Prelude.{Option, None, Some, IsUtf8, is_some, option_and_then, unwrap_or}
use Rattle.std.specs.Str.{bytes_eq}
use Rattle.std.proofs.lemmas.Slice.Eq.{bytes_eq-Decides}
use Rattle.serde_json.specs.Data.{Data, Members, null, object}
use Rattle.serde_json.specs.Find.{as_str, get_member}
use Rattle.json_docs.specs.ScanningArrays.{TakesRows}
use Rattle.json_docs.specs.FaultChecks.{Check, FirstFails, OrMemory}
use Rattle.row_docs.specs.Kinds.{is_among, kind_text, member_by, member_of, names_of, rows_of}
use Rattle.row_docs.specs.Kinds.{subject_of}
use Rattle.row_docs.specs.inner.HeaderSeen.{Shows, ShowsRows, ShowsSubject, is_text}
use Rattle.row_docs.specs.Headers.{Begins, HasMembers, IsKnownVersion, IsSubject, header_checks}
use Rattle.row_docs.specs.Headers.{kind_in, version_by}
use Rattle.row_docs.specs.TestedHeaders.{HasHeader, RefusesHeader}
use Rattle.row_docs.specs.inner.TestedHeaders.{RefusesText}
use Rattle.row_docs.specs.inner.HeaderTests.{FailsHeader, HasKnownVersion, IsWhole, PassesHeader}
use Rattle.row_docs.specs.inner.HeaderTests.{Starts}
use Rattle.serde_json.specs.Read.{read}
use Rattle.json_docs.specs.Parts.{items_in, u64_in}
use Rattle.json_docs.specs.declared.fault.DocCause.{DocCause}
use Rattle.json_docs.specs.declared.fault.DocCause.TheVariants.{NoMemory}
use Rattle.row_docs.specs.declared.kind.Kind.{Kind}
use Rattle.row_docs.specs.declared.kind.Member.{Member}
use Rattle.row_docs.specs.declared.kind.Member.TheVariants.{Kind as KindMember, Version}
use Rattle.row_docs.specs.declared.kind.Member.TheVariants.{Subject, Rows, Other}
use Rattle.row_docs.specs.declared.header.Header.{Header}
use Rattle.row_docs.specs.declared.header.Subject.{Subject as SubjectValue}
use Rattle.row_docs.specs.declared.tested_header.TestedHeader.{TestedHeader}
use Rattle.lang_core.proofs.Basics.{is_false as false_if}
use Rattle.row_docs.proofs.HeadersLemmas.{named_kind, named_rows, named_subject, named_version}
use Rattle.row_docs.proofs.HeadersLemmas.{subject_is}

-- ---- names

is_named : Member → Bool
is_named KindMember = true
is_named Version = true
is_named Subject = true
is_named Rows = true
is_named Other = false

among_by : (a b c d : Bool) → (a || (b || (c || (d || false)))) ≡ is_named (member_by a b c d)
unfolding is_named
among_by true b c d = refl
among_by false true c d = refl
among_by false false true d = refl
among_by false false false true = refl
among_by false false false false = refl

among_is : (kind : Kind) (name : List ℕ) → is_among name (names_of kind)
    ≡ is_named (member_of kind name)
among_is kind name = among_by (bytes_eq name (codes "kind")) (bytes_eq name (codes "version"))
    (bytes_eq name (subject_of kind)) (bytes_eq name (rows_of kind))

-- ---- parts that are there

text_is : (text : List ℕ) (o : Option (List ℕ)) → is_text text o ≡ true → o ≡ Some text
text_is text None h = cc
text_is text (Some found) h = ap Some ((bytes_eq-Decides found text).0 h)

is_same : (text : List ℕ) → is_text text (Some text) ≡ true
is_same text = (bytes_eq-Decides text text).1 refl

first_there : {A : Type 0} (f : Data → Option A) (m : Option Data) → is_some (option_and_then f m)
    ≡ true → is_some m ≡ true
first_there f None h = h
first_there f (Some d) h = refl

subject_there : (o : Option SubjectValue) (m : Option Data) → is_some o ≡ true → ShowsSubject o m
    → is_some m ≡ true
subject_there None m some shown = cc
subject_there (Some subject) m some shown = ap is_some shown.1

subject_shown : (o : Option SubjectValue) (m : Option Data) → is_some m ≡ true → ShowsSubject o m
    → is_some o ≡ true
subject_shown None m some shown = sym (ap is_some shown) ∙ some
subject_shown (Some subject) m some shown = refl

subject_held : (subject : SubjectValue) (o : Option SubjectValue) (m : Option Data)
    → o ≡ Some subject → ShowsSubject o m → IsSubject subject (unwrap_or m null)
subject_held subject o m is shown =
    let there : ShowsSubject (Some subject) m = rw is at shown in
    rw there.1 there.2

module _ {S : Type 0} (checks : List Data → Data → List Check) (Holds : S → List Data → Type 0)
    (rows : S) where
  rows_there : (o : Option (Option DocCause)) (ds : Option (List Data)) → is_some o ≡ true
      → ShowsRows checks Holds o rows ds → is_some ds ≡ true
  rows_there None ds some shown = cc
  rows_there (Some refusal) ds some shown = ap is_some shown.1

  rows_shown : (o : Option (Option DocCause)) (ds : Option (List Data)) → is_some ds ≡ true
      → ShowsRows checks Holds o rows ds → is_some o ≡ true
  rows_shown None ds some shown = sym (ap is_some shown) ∙ some
  rows_shown (Some refusal) ds some shown = refl

  rows_held : (refusal : Option DocCause) (o : Option (Option DocCause)) (ds : Option (List Data))
      → o ≡ Some refusal → ShowsRows checks Holds o rows ds → TakesRows checks Holds [] rows refusal
      (unwrap_or ds [])
  rows_held refusal o ds is shown =
      let there : ShowsRows checks Holds (Some refusal) rows ds = rw is at shown in
      rw there.1 there.2

-- ---- the tests

module _ {S : Type 0} (kind : Kind) (checks : List Data → Data → List Check)
    (Holds : S → List Data → Type 0) (header : Header) (rows : S) (ms : Members)
    (shown : Shows kind checks Holds header rows ms) where
  begins : Starts header → Begins kind (object ms)
  begins starts = (
    text_is (kind_text kind) (kind_in (object ms))
        (sym shown.is_kind ∙ starts.0),
    sym (ap is_some shown.version) ∙ starts.1,
  )

  starts_if : Begins kind (object ms) → Starts header
  starts_if begun = (
    shown.is_kind ∙ ap (is_text (kind_text kind)) begun.0
        ∙ is_same (kind_text kind),
    ap is_some shown.version ∙ begun.1,
  )

  known : HasKnownVersion header → IsKnownVersion (object ms)
  known is = elim is [ inl h ↦ inl (sym shown.version ∙ h) | inr h ↦ inr (sym shown.version ∙ h) ]

  known_if : IsKnownVersion (object ms) → HasKnownVersion header
  known_if is = elim is [ inl h ↦ inl (shown.version ∙ h) | inr h ↦ inr (shown.version ∙ h) ]

  just : Starts header → IsWhole header → (name : List ℕ) (m : Member) → member_of kind name ≡ m
      → is_some (get_member name ms) ≡ is_named m
  unfolding is_named
  just starts whole name KindMember is =
      rw (named_kind kind name is) (first_there as_str (get_member (codes "kind") ms)
      (ap is_some (begins starts).0))
  just starts whole name Version is =
      rw (named_version kind name is)
      (first_there u64_in (get_member (codes "version") ms) (begins starts).1)
  just starts whole name Subject is =
      rw (named_subject kind name is)
      (subject_there header.subject (get_member (subject_of kind) ms) whole.1 shown.subject)
  just starts whole name Rows is =
      rw (named_rows kind name is) (first_there items_in (get_member (rows_of kind) ms)
      (rows_there checks Holds rows header.rows _ whole.2 shown.rows_part))
  just starts whole name Other is =
      false_if (is_some (get_member name ms))
      (λ some. let never : true ≡ false = sym (shown.others.noted name is some) ∙ whole.0 in
      absurd (cc))

  has_members : Starts header → IsWhole header → HasMembers kind (object ms)
  has_members starts whole = (
    λ name. just starts whole name (member_of kind name) refl
        ∙ sym (among_is kind name),
    rows_there checks Holds rows header.rows _ whole.2
        shown.rows_part,
  )

  whole_if : HasMembers kind (object ms) → IsWhole header
  unfolding is_named
  whole_if has =
      let subject_named : is_some (get_member (subject_of kind) ms) ≡ true = has.0 (subject_of kind)
      ∙ among_is kind (subject_of kind) ∙ ap is_named (subject_is kind) in (
        false_if header.has_other (λ other. let o = shown.others.there other in let never : true
            ≡ false = sym o.2 ∙ has.0 o.0 ∙ among_is kind o.0 ∙ ap is_named o.1 in absurd (cc)),
        subject_shown header.subject (get_member (subject_of kind) ms) subject_named shown.subject,
        rows_shown checks Holds rows header.rows _ has.1 shown.rows_part,
      )

  -- where the header passes its tests, so do the members that it shows
  pub has_header : (tested : TestedHeader) → PassesHeader header tested
      → HasHeader kind checks Holds (object ms) tested rows
  has_header tested passes = record {
    passes = (
      begins passes.starts,
      (known passes.known, (has_members passes.starts passes.whole, tt)),
    );
    version = passes.version ∙ ap version_by shown.version;
    subject = subject_held tested.subject header.subject
        (get_member (subject_of kind) ms) passes.subject shown.subject;
    taken = rows_held checks Holds rows tested.refusal header.rows _ passes.rows shown.rows_part;
  }

  -- the first test that the header fails is the first that the members fail
  pub header_fails : (e : DocCause) → FailsHeader header e
      → FirstFails (header_checks kind (object ms)) e
  header_fails e fails = elim fails [
    | inl h ↦ inl (λ begun. h.0 (starts_if begun), h.1)
    | inr rest ↦ elim rest [
      | inl h ↦ inr (begins h.0, inl (λ is. h.1 (known_if is), h.2))
      | inr h ↦ inr (begins h.0, inr (known h.1, inl (λ has. h.2 (whole_if has), h.3)))
    ]
  ]

-- a text that is refused, as the bytes of a document
pub bytes_refused : (kind : Kind) (bytes text : List ℕ) → text ≡ bytes → IsUtf8 bytes
    → (e : DocCause) → OrMemory NoMemory (RefusesText kind text) e
    → OrMemory NoMemory (RefusesHeader kind bytes) e
bytes_refused kind bytes text same utf8 e why =
    elim why [
      | inl memory ↦ inl memory
      | inr rest ↦ elim rest [
        | inl h ↦ inr (inl (inr (utf8, ap read (sym same) ∙ h.1, h.0)))
        | inr h ↦ inr (inr (h.0, (utf8, ap read (sym same) ∙ h.1), h.2))
      ]
    ]
