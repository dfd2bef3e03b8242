-- One member more.
--
-- A header is what was read so far of the members of a document that are no rows. Its members may
-- come in any order, so it is compared with the list of names and values: a name shows in the
-- header just if the list has it. One member more is of one class (the kind, the version, the
-- subject, the rows, or another name) and changes this part alone.
use Rattle.std.proofs.Common.{◌≡◌, ◌∙◌, ◌||◌, ℕ, List, Bool, true, false, codes, ap, subst, sym}
use Rattle.std.proofs.Common.{refl}
use Rattle.std.specs.Prelude.{Option, None, Some, is_some, option_and_then}
use Rattle.std.specs.Ordering.{is_eq, match_ordering, nat_cmp}
use Rattle.std.specs.declared.cmp.Ordering.{Ordering}
use Rattle.std.specs.declared.cmp.Ordering.TheVariants.{Less, Equal, Greater}
use Rattle.std.specs.Cmp.Lexicographic.{slice_cmp}
use Rattle.std.specs.Str.{bytes_eq}
use Rattle.std.proofs.lemmas.Map.Text.{is_eq-slice_cmp}
use Rattle.std.proofs.lemmas.Slice.Eq.{bytes_eq-Decides}
use Rattle.serde_json.specs.Data.{Data, Members, member, no_members, put}
use Rattle.serde_json.specs.Find.{as_str, get_member}
use Rattle.serde_json.proofs.Views.{get_member-put, get_member-put_other}
use Rattle.json_docs.specs.FaultChecks.{Check}
use Rattle.json_docs.specs.Parts.{items_in, u64_in}
use Rattle.json_docs.specs.declared.fault.DocCause.{DocCause}
use Rattle.row_docs.specs.inner.HeaderSeen.{Shows, ShowsOthers, ShowsRows, is_text}
use Rattle.row_docs.specs.Headers.{IsSubject}
use Rattle.row_docs.specs.Kinds.{kind_text, member_by, member_of, rows_of, subject_of}
use Rattle.row_docs.specs.declared.header.Header.{Header}
use Rattle.row_docs.specs.declared.header.Subject.{Subject as SubjectValue}
use Rattle.row_docs.specs.declared.kind.Kind.{Kind}
use Rattle.row_docs.specs.declared.kind.Kind.TheVariants.{Site, Delta, Summary, Script}
use Rattle.row_docs.specs.declared.kind.Member.{Member}
use Rattle.row_docs.specs.declared.kind.Member.TheVariants.{Kind as KindMember, Version}
use Rattle.row_docs.specs.declared.kind.Member.TheVariants.{Subject, Rows, Other}

-- ---- names

-- the name of the subject is that of this member
pub subject_is : (kind : Kind) → member_of kind (subject_of kind) ≡ Subject
subject_is Site = refl
subject_is Delta = refl
subject_is Summary = refl
subject_is Script = refl

-- the name of the rows is that of this member
pub rows_is : (kind : Kind) → member_of kind (rows_of kind) ≡ Rows
rows_is Site = refl
rows_is Delta = refl
rows_is Summary = refl
rows_is Script = refl

-- the test for a member of this class
abbrev test_for : Member → Bool → Bool → Bool → Bool → Bool
test_for KindMember kind version subject rows = kind
test_for Version kind version subject rows = version
test_for Subject kind version subject rows = subject
test_for Rows kind version subject rows = rows
test_for Other kind version subject rows = true

passed : (a b c d : Bool) → test_for (member_by a b c d) a b c d ≡ true
passed true b c d = refl
passed false true c d = refl
passed false false true d = refl
passed false false false true = refl
passed false false false false = refl

passes : (a b c d : Bool) (m : Member) → member_by a b c d ≡ m → test_for m a b c d ≡ true
passes a b c d m is = subst (λ (n : Member). test_for n a b c d ≡ true) is (passed a b c d)

module _ (kind : Kind) (name : List ℕ) where
  -- the member that is the kind is named so
  pub named_kind : member_of kind name ≡ KindMember → name ≡ codes "kind"
  named_kind is = (bytes_eq-Decides name (codes "kind")).0 (passes _ _ _ _ KindMember is)

  -- the member that is the version is named so
  pub named_version : member_of kind name ≡ Version → name ≡ codes "version"
  named_version is = (bytes_eq-Decides name (codes "version")).0 (passes _ _ _ _ Version is)

  -- the member that names the site has the name of its kind of document
  pub named_subject : member_of kind name ≡ Subject → name ≡ subject_of kind
  named_subject is = (bytes_eq-Decides name (subject_of kind)).0 (passes _ _ _ _ Subject is)

  -- the member that has the rows has the name of its kind of document
  pub named_rows : member_of kind name ≡ Rows → name ≡ rows_of kind
  named_rows is = (bytes_eq-Decides name (rows_of kind)).0 (passes _ _ _ _ Rows is)

  -- a member of another class stays
  pub kept : (other : List ℕ) (d : Data) (ms : Members)
      → (member_of kind other ≡ member_of kind name → ⊥) → get_member other (put name d ms)
      ≡ get_member other ms
  kept other d ms apart = get_member-put_other other name d ms
      (λ same. apart (ap (member_of kind) same))

-- the member of this name is the new one
here : (name known : List ℕ) (d : Data) (ms : Members) → name ≡ known
    → get_member known (put name d ms) ≡ Some d
here name known d ms same = ap (λ n. get_member n (put name d ms)) (sym same)
    ∙ get_member-put name d ms

-- ---- what was read

module _ (kind : Kind) (name : List ℕ) (d : Data) (ms : Members) where
  others_kept : (has_other : Bool) → (member_of kind name ≡ Other → ⊥)
      → ShowsOthers kind has_other ms → ShowsOthers kind has_other (put name d ms)
  others_kept has_other apart shown = record {
    there = λ h. let o = shown.there h in
        (o.0, o.1, ap is_some (kept kind name o.0 d ms (λ same. apart (sym same ∙ o.1))) ∙ o.2);
    noted = λ n is some. shown.noted n is
        (sym (ap is_some (kept kind name n d ms (λ same. apart (sym same ∙ is)))) ∙ some);
  }

  others_more : member_of kind name ≡ Other → ShowsOthers kind true (put name d ms)
  others_more is = record {
    there = λ _. (name, is, ap is_some (get_member-put name d ms));
    noted = λ _ _ _. refl;
  }

module _ {S : Type 0} (kind : Kind) (checks : List Data → Data → List Check)
    (Holds : S → List Data → Type 0) where
  -- no member was read
  pub Shows-none : (rows : S)
      → Shows kind checks Holds
      (record { is_kind = false; version = None; subject = None; rows = None; has_other = false })
      rows no_members
  Shows-none rows = record {
    is_kind = refl;
    version = refl;
    subject = refl;
    rows_part = refl;
    others = record { there = λ h. absurd (cc); noted = λ _ _ h. h };
  }

  module _ (header : Header) (old : S) (name : List ℕ) (d : Data) (ms : Members)
      (shown : Shows kind checks Holds header old ms) where
    -- where the kind was read, the header shows it
    pub Shows-kind : member_of kind name ≡ KindMember
        → Shows kind checks Holds (record header { is_kind = is_text (kind_text kind) (as_str d) })
        old (put name d ms)
    Shows-kind is =
        let apart : (other : List ℕ) (m : Member) → member_of kind other ≡ m → (m ≡ KindMember → ⊥)
        → get_member other (put name d ms) ≡ get_member other ms =
        λ other m was differs. kept kind name other d ms (λ same. differs (sym was ∙ same ∙ is)) in
        record {
          is_kind = ap (λ m. is_text (kind_text kind) (option_and_then as_str m))
              (sym (here name (codes "kind") d ms (named_kind kind name is)));
          version = shown.version ∙ ap (option_and_then u64_in)
              (sym (apart (codes "version") Version refl (λ e. cc)));
          subject = rw (apart (subject_of kind) Subject (subject_is kind) (λ e. cc)) shown.subject;
          rows_part = rw (apart (rows_of kind) Rows (rows_is kind) (λ e. cc)) shown.rows_part;
          others = others_kept kind name d ms header.has_other (λ e. cc) shown.others;
        }

    -- where the version was read, the header shows it
    pub Shows-version : member_of kind name ≡ Version
        → Shows kind checks Holds (record header { version = u64_in d }) old (put name d ms)
    Shows-version is =
        let apart : (other : List ℕ) (m : Member) → member_of kind other ≡ m → (m ≡ Version → ⊥)
        → get_member other (put name d ms) ≡ get_member other ms =
        λ other m was differs. kept kind name other d ms (λ same. differs (sym was ∙ same ∙ is)) in
        record {
          is_kind = shown.is_kind ∙ ap (λ m. is_text (kind_text kind) (option_and_then as_str m))
              (sym (apart (codes "kind") KindMember refl (λ e. cc)));
          version = ap (option_and_then u64_in)
              (sym (here name (codes "version") d ms (named_version kind name is)));
          subject = rw (apart (subject_of kind) Subject (subject_is kind) (λ e. cc)) shown.subject;
          rows_part = rw (apart (rows_of kind) Rows (rows_is kind) (λ e. cc)) shown.rows_part;
          others = others_kept kind name d ms header.has_other (λ e. cc) shown.others;
        }

    -- where the member that names the site was read, the header shows it
    pub Shows-subject : (subject : SubjectValue) → IsSubject subject d → member_of kind name
        ≡ Subject → Shows kind checks Holds (record header { subject = Some subject }) old
        (put name d ms)
    Shows-subject subject read is =
        let apart : (other : List ℕ) (m : Member) → member_of kind other ≡ m → (m ≡ Subject → ⊥)
        → get_member other (put name d ms) ≡ get_member other ms =
        λ other m was differs. kept kind name other d ms (λ same. differs (sym was ∙ same ∙ is)) in
        record {
          is_kind = shown.is_kind ∙ ap (λ m. is_text (kind_text kind) (option_and_then as_str m))
              (sym (apart (codes "kind") KindMember refl (λ e. cc)));
          version = shown.version ∙ ap (option_and_then u64_in)
              (sym (apart (codes "version") Version refl (λ e. cc)));
          subject = (d, here name (subject_of kind) d ms (named_subject kind name is), read);
          rows_part = rw (apart (rows_of kind) Rows (rows_is kind) (λ e. cc)) shown.rows_part;
          others = others_kept kind name d ms header.has_other (λ e. cc) shown.others;
        }

    -- where the rows were read, the header shows them
    pub Shows-rows : (new : S) (read : Option (Option DocCause))
        → ShowsRows checks Holds read new (items_in d) → member_of kind name ≡ Rows
        → Shows kind checks Holds (record header { rows = read }) new (put name d ms)
    Shows-rows new read rows is =
        let apart : (other : List ℕ) (m : Member) → member_of kind other ≡ m → (m ≡ Rows → ⊥)
        → get_member other (put name d ms) ≡ get_member other ms =
        λ other m was differs. kept kind name other d ms (λ same. differs (sym was ∙ same ∙ is)) in
        record {
          is_kind = shown.is_kind ∙ ap (λ m. is_text (kind_text kind) (option_and_then as_str m))
              (sym (apart (codes "kind") KindMember refl (λ e. cc)));
          version = shown.version ∙ ap (option_and_then u64_in)
              (sym (apart (codes "version") Version refl (λ e. cc)));
          subject = rw (apart (subject_of kind) Subject (subject_is kind) (λ e. cc)) shown.subject;
          rows_part = rw (here name (rows_of kind) d ms (named_rows kind name is)) rows;
          others = others_kept kind name d ms header.has_other (λ e. cc) shown.others;
        }

    -- where a member of another name was read, the header shows that there is one
    pub Shows-other : member_of kind name ≡ Other
        → Shows kind checks Holds (record header { has_other = true }) old (put name d ms)
    Shows-other is =
        let apart : (other : List ℕ) (m : Member) → member_of kind other ≡ m → (m ≡ Other → ⊥)
        → get_member other (put name d ms) ≡ get_member other ms =
        λ other m was differs. kept kind name other d ms (λ same. differs (sym was ∙ same ∙ is)) in
        record {
          is_kind = shown.is_kind ∙ ap (λ m. is_text (kind_text kind) (option_and_then as_str m))
              (sym (apart (codes "kind") KindMember refl (λ e. cc)));
          version = shown.version ∙ ap (option_and_then u64_in)
              (sym (apart (codes "version") Version refl (λ e. cc)));
          subject = rw (apart (subject_of kind) Subject (subject_is kind) (λ e. cc)) shown.subject;
          rows_part = rw (apart (rows_of kind) Rows (rows_is kind) (λ e. cc)) shown.rows_part;
          others = others_more kind name d ms is;
        }

-- ---- which members there are

by_order : (r : Ordering) (x : Option Data) (d : Data)
    → is_some (match_ordering r x (Some d) x) ≡ (is_eq r || is_some x)
by_order Less x d = refl
by_order Equal x d = refl
by_order Greater x d = refl

-- Whether a name has a member, with one more member ahead.
pub some_member : (name k : List ℕ) (d : Data) (ms : Members)
    → is_some (get_member name (member k d ms)) ≡ (bytes_eq name k || is_some (get_member name ms))
some_member name k d ms =
    by_order (slice_cmp nat_cmp name k) (get_member name ms) d
    ∙ ap (λ b. b || is_some (get_member name ms)) (is_eq-slice_cmp name k)

-- The names of a header, as they are written or in ascending order.
pub in_turn : (kind own rows version : Bool)
    → (kind || (own || (rows || (version || false))))
    ≡ (kind || (version || (own || (rows || false))))
in_turn true own rows version = refl
in_turn false true rows true = refl
in_turn false true rows false = refl
in_turn false false true true = refl
in_turn false false true false = refl
in_turn false false false true = refl
in_turn false false false false = refl
