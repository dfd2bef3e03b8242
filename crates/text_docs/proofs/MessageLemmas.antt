-- A document of some rows of another one: those of a message are all there.
--
-- The text of the rows between two places, with an opening and an end about it, is a document
-- again, since each cut is before a byte of ASCII and at the border of a row. The rows left out are
-- of other messages, so the live labels of the message are those of the whole site, and a question
-- about this message has the same answer over both.
use Rattle.std.proofs.Common.{◌≡◌, ◌∙◌, ◌<◌, ◌≤◌, ◌++◌, ◌∷◌, [], ℕ, List, Bool, true}
use Rattle.std.proofs.Common.{false, cond, ◌⊎◌, inl, inr, refl, ap, sym, subst}
use Rattle.std.proofs.Common.{arith, append_assoc, drop, take, take-append-drop}
use Rattle.std.specs.Prelude.{Err, MatchResult, Ok, Result}
use Rattle.cata_core.specs.Site.{SiteState}
use Rattle.json_docs.specs.FaultChecks.{OrMemory}
use Rattle.json_docs.specs.declared.fault.DocFault.{DocFault}
use Rattle.row_docs.specs.Reading.{IsOfDocument, no_memory}
use Rattle.site_docs.specs.Reading.{ReadsAsSite, RefusesSite}
use Rattle.site_docs.proofs.ReadingOneDocument.{one_site}
use Rattle.query_docs.specs.OneMessage.{IsReadFor}
use Rattle.docs_core.proofs.CallRefusals.{site_not_refused}
use Rattle.std.proofs.Common.{IsUtf8, append-nil, get_or, length, length-append, map}
use Rattle.std.specs.Prelude.{filter}
use Rattle.std.specs.List.{All, slice_range}
use Rattle.std.specs.Ordering.{is_eq, ordering_reverse}
use Rattle.std.specs.declared.cmp.Ordering.{Ordering}
use Rattle.std.specs.declared.cmp.Ordering.TheVariants.{Greater, Less}
use Rattle.std.specs.Cmp.Lexicographic.{nat_list_cmp_total}
use Rattle.std.proofs.lemmas.List.{append_cancel_right, map-append}
use Rattle.std.proofs.lemmas.List.Elements.{All-cons, All-head, All-nil, All-tail, All-weaker}
use Rattle.std.proofs.lemmas.List.Elements.{filter-append}
use Rattle.cell_core.specs.Keyed.{IsMap}
use Rattle.std.proofs.lemmas.List.Folds.{drop_split}
use Rattle.std.proofs.lemmas.Str.{IsCharBoundary-before_ascii, IsUtf8-append, IsUtf8-drop}
use Rattle.std.proofs.lemmas.Str.{IsUtf8-take}
use Rattle.std.proofs.Common.{drop_at, take_at}
use Rattle.std.proofs.Math.Seq.{get_or-append_seam}
use Rattle.cell_core.specs.Entry.{key_cmp, text_cmp}
use Rattle.catalogue.specs.Entries.{Entries, Entry}
use Rattle.catalogue.specs.Live.{live, live_of}
use Rattle.row_docs.specs.EntriesValid.{AreKeptCells, IsKeptCell}
use Rattle.text_docs.specs.Message.{IsCompactSite}
use Rattle.text_docs.specs.inner.Part.{BeginsAt, HasAllFrom, HasAllUpTo, EndsAt}
use Rattle.text_docs.specs.Rows.{IsTail, opening}
use Rattle.text_docs.specs.inner.Rows.{AreRows, AreRowsAt}
use Rattle.text_docs.specs.RowsCompact.{CompactRow, IsCompactRow, entries, row_text, rows_text}
use Rattle.text_docs.proofs.MessageKeptLemmas.{kept_of_reads}
use Rattle.text_docs.proofs.RowBorderLemmas.{rows_step}
use Rattle.text_docs.proofs.RowsReadLemmas.{rows_read}
use Rattle.text_docs.proofs.ListLemmas.{All-back, All-front, cut_twice}
use Rattle.cell_core.proofs.ChunkLemmas.{map_back, map_front}

-- ---- UTF-8

-- a text is cut before a byte of ASCII
ascii_cut : (xs bs ys : List ℕ) (b : ℕ) → b < 128 → bs ≡ b ∷ ys → IsUtf8 (xs ++ bs)
    → IsUtf8 xs × IsUtf8 bs
ascii_cut xs bs ys b low is utf8 =
    let first : get_or (xs ++ bs) (length xs) 0 ≡ b =
    ap (λ r. get_or (xs ++ r) (length xs) 0) is ∙ get_or-append_seam xs b ys 0 in
    let border =
    IsCharBoundary-before_ascii (xs ++ bs) (length xs)
    (omega (arith, length-append xs bs, ap length is)) (omega (arith, first)) in (
      subst IsUtf8 (take_at xs bs (length xs) refl)
          (IsUtf8-take (xs ++ bs) (length xs) utf8 border),
      subst IsUtf8 (drop_at xs bs (length xs) refl)
          (IsUtf8-drop (xs ++ bs) (length xs) utf8 border),
    )

-- what begins with a byte of ASCII
abbrev Starts : List ℕ → Type 0
Starts bs = (b : ℕ) × (ys : List ℕ) × (b < 128) × (bs ≡ b ∷ ys)

rows_start : (later : Bool) (rows : List CompactRow) (tail : List ℕ) → IsTail tail
    → Starts (rows_text later rows ++ tail)
rows_start later [] tail is = (93, _, omega arith, is.tail_is)
rows_start true (row ∷ rows) tail is = (44, _, omega arith, rows_step true row rows tail)
rows_start false (row ∷ rows) tail is = (91, _, omega arith, rows_step false row rows tail)

cut_at : (xs bs : List ℕ) → Starts bs → IsUtf8 (xs ++ bs) → IsUtf8 xs × IsUtf8 bs
cut_at xs bs (b, ys, low, is) utf8 = ascii_cut xs bs ys b low is utf8

drop_utf8 : (bytes rest : List ℕ) (place : ℕ) → drop place bytes ≡ rest → Starts rest
    → IsUtf8 bytes → IsUtf8 rest
drop_utf8 bytes rest place is starts utf8 =
    (cut_at (take place bytes) rest starts
    (subst IsUtf8 (sym (take-append-drop place bytes) ∙ ap (λ r. take place bytes ++ r) is) utf8)).1

-- ---- rows one after another

rows_later : (rows others : List CompactRow)
    → rows_text true (rows ++ others) ≡ rows_text true rows ++ rows_text true others
rows_later [] others = refl
rows_later (row ∷ rows) others =
    ap (λ r. 44 ∷ (row_text row ++ r)) (rows_later rows others)
    ∙ ap (λ r. 44 ∷ r)
    (sym (append_assoc (row_text row) (rows_text true rows) (rows_text true others)))

first_rows : (row : CompactRow) (rows others : List CompactRow)
    → rows_text false ((row ∷ rows) ++ others)
    ≡ rows_text false (row ∷ rows) ++ rows_text true others
first_rows row rows others =
    ap (λ r. row_text row ++ r) (rows_later rows others)
    ∙ sym (append_assoc (row_text row) (rows_text true rows) (rows_text true others))

-- a text is no shorter than its end
not_longer : (xs ys : List ℕ) → ys ≡ xs ++ 44 ∷ ys → ⊥
not_longer xs ys is =
    let lengths = ap length is ∙ length-append xs (44 ∷ ys) in omega (arith, lengths)

-- the rows between two places, of which the second has a comma before it
rows_between : (from to slice tail : List ℕ) (middle after : List CompactRow) → from ≡ slice ++ to
    → from ≡ rows_text false (middle ++ after) ++ tail
    → to ≡ rows_text true after ++ tail
    → slice ≡ rows_text false middle
rows_between from to slice tail [] [] split first last =
    append_cancel_right slice [] tail
    (ap (λ r. slice ++ r) (sym last) ∙ sym split ∙ first)
rows_between from to slice tail [] (row ∷ rows) split first last =
    absurd (not_longer slice (rows_text false (row ∷ rows) ++ tail)
    (sym first ∙ split ∙ ap (λ r. slice ++ r) last))
rows_between from to slice tail (row ∷ rows) after split first last =
    append_cancel_right slice (rows_text false (row ∷ rows))
    (rows_text true after ++ tail)
    (ap (λ r. slice ++ r) (sym last) ∙ sym split ∙ first
    ∙ ap (λ r. r ++ tail) (first_rows row rows after)
    ∙ append_assoc (rows_text false (row ∷ rows)) (rows_text true after) tail)

-- ---- cells of other messages

abbrev is_own : List ℕ → Entry → Bool
is_own id e = is_eq (text_cmp id e.0.0)

none_own : (id : List ℕ) (es : Entries) → All (λ (e : Entry). is_own id e ≡ false) es
    → filter (is_own id) es ≡ []
none_own id [] others = refl
none_own id (e ∷ es) others =
    ap (λ b. cond b (e ∷ filter (is_own id) es) (filter (is_own id) es))
    (All-head (λ (x : Entry). is_own id x ≡ false) e es others)
    ∙ none_own id es (All-tail (λ (x : Entry). is_own id x ≡ false) e es others)

less_other : (id other : List ℕ) → text_cmp other id ≡ Less → is_eq (text_cmp id other) ≡ false
less_other id other less =
    ap is_eq (nat_list_cmp_total.antisymm id other ∙ ap ordering_reverse less)

greater_other : (id other : List ℕ) → text_cmp other id ≡ Greater
    → is_eq (text_cmp id other) ≡ false
greater_other id other greater =
    ap is_eq (nat_list_cmp_total.antisymm id other ∙ ap ordering_reverse greater)

-- the cells between others have all live labels of the message
live_between : (id : List ℕ) (before middle after : Entries)
    → All (λ (e : Entry). text_cmp e.0.0 id ≡ Less) before
    → All (λ (e : Entry). text_cmp e.0.0 id ≡ Greater) after
    → live (before ++ (middle ++ after)) id ≡ live middle id
live_between id before middle after less greater =
    let first = none_own id before (All-weaker (λ (e : Entry). text_cmp e.0.0 id ≡ Less)
    (λ (e : Entry). is_own id e ≡ false) (λ e l. less_other id e.0.0 l) before less) in
    let last = none_own id after (All-weaker (λ (e : Entry). text_cmp e.0.0 id ≡ Greater)
    (λ (e : Entry). is_own id e ≡ false) (λ e g. greater_other id e.0.0 g) after greater) in
    ap (λ (es : Entries). live_of (map (λ (e : Entry). (e.0.1, e.1)) es))
    (filter-append (is_own id) before (middle ++ after)
    ∙ ap (λ (es : Entries). es ++ filter (is_own id) (middle ++ after)) first
    ∙ filter-append (is_own id) middle after
    ∙ ap (λ (es : Entries). filter (is_own id) middle ++ es) last
    ∙ append-nil (filter (is_own id) middle))

-- ---- the part of a message

-- what holds of rows holds of their entries
to_entries : (P : Entry → Type 0) (rows : List CompactRow)
    → All (λ (row : CompactRow). P row.entry) rows → All P (entries rows)
to_entries P [] all = All-nil P
to_entries P (row ∷ rows) all =
    All-cons P row.entry (entries rows) (All-head (λ (r : CompactRow). P r.entry) row rows all)
    (to_entries P rows (All-tail (λ (r : CompactRow). P r.entry) row rows all))

entries_of_both : (rows others : List CompactRow)
    → entries (rows ++ others) ≡ entries rows ++ entries others
entries_of_both rows others = map-append (λ (row : CompactRow). row.entry) rows others

-- the rows between two places, of which no others are of the message
pub record IsPart (id : List ℕ) (rows : List CompactRow) (slice : List ℕ) : Type 0 where
  pub middle : List CompactRow
  pub each : All IsCompactRow middle
  pub kept : AreKeptCells (entries middle)
  pub slice_is : slice ≡ rows_text false middle
  pub live_is : live (entries middle) id ≡ live (entries rows) id

-- the id of the row is ordered so to this one
abbrev IsOrdered : List ℕ → Ordering → CompactRow → Type 0
IsOrdered id order row = text_cmp row.entry.0.0 id ≡ order

part_between : (id slice from to : List ℕ) (rows : List CompactRow) (tail : List ℕ)
    → All IsCompactRow rows → AreKeptCells (entries rows) → BeginsAt id from rows tail
    → EndsAt id to rows tail → from ≡ slice ++ to → IsPart id rows slice
part_between id slice from to rows tail each kept begins ends split =
    by (cut_twice begins.before begins.after ends.before ends.after
    (sym begins.rows_are ∙ ends.rows_are))
  where
    part : (m : List CompactRow) → ends.before ≡ begins.before ++ m → begins.after ≡ m ++ ends.after
        → IsPart id rows slice
    part m longer left =
        let first = entries begins.before in
        let last = entries ends.after in
        let own = entries m in
        let whole : rows ≡ begins.before ++ (m ++ ends.after) =
        begins.rows_are ∙ ap (λ (rs : List CompactRow). begins.before ++ rs) left in
        let cells : entries rows ≡ first ++ (own ++ last) =
        ap entries whole ∙ entries_of_both begins.before (m ++ ends.after)
        ∙ ap (λ (es : Entries). first ++ es) (entries_of_both m ends.after) in record {
          middle = m;
          each =
              All-front IsCompactRow m ends.after
              (All-back IsCompactRow begins.before (m ++ ends.after)
              (subst (λ (rs : List CompactRow). All IsCompactRow rs) whole each));
          kept = record {
            each =
                All-front IsKeptCell own last
                (All-back IsKeptCell first (own ++ last)
                (subst (λ (es : Entries). All IsKeptCell es) cells kept.each));
            map =
                map_front key_cmp own last
                (map_back key_cmp first (own ++ last)
                (subst (λ (es : Entries). IsMap key_cmp es) cells kept.map));
          };
          slice_is =
              rows_between from to slice tail m ends.after split
              (begins.rest_is ∙ ap (λ (rs : List CompactRow). rows_text false rs ++ tail) left)
              ends.rest_is;
          live_is =
              sym (ap (λ (es : Entries). live es id) cells
              ∙ live_between id first own last
              (to_entries (λ (e : Entry). text_cmp e.0.0 id ≡ Less) begins.before begins.others)
              (to_entries (λ (e : Entry). text_cmp e.0.0 id ≡ Greater) ends.after ends.others));
        }

    both : (row : CompactRow) → text_cmp row.entry.0.0 id ≡ Less
        → text_cmp row.entry.0.0 id ≡ Greater → ⊥
    both row less greater = cc

    by : ((m : List CompactRow) × (ends.before ≡ begins.before ++ m)
        × (begins.after ≡ m ++ ends.after))
        ⊎ ((row : CompactRow) × (m : List CompactRow) × (begins.before ≡ ends.before ++ row ∷ m)
        × (ends.after ≡ row ∷ (m ++ begins.after))) → IsPart id rows slice
    by (inl (m, longer, left)) = part m longer left
    by (inr (row, m, first, last)) =
        absurd (both row
        (All-head (IsOrdered id Less) row m
        (All-back (IsOrdered id Less) ends.before (row ∷ m)
        (subst (λ (rs : List CompactRow). All (IsOrdered id Less) rs) first begins.others)))
        (All-head (IsOrdered id Greater) row (m ++ begins.after)
        (subst (λ (rs : List CompactRow). All (IsOrdered id Greater) rs) last ends.others)))

-- the site without other rows has the same live labels of the message
pub record IsSitePart (document id : List ℕ) (cells : Entries) : Type 0 where
  pub site : SiteState
  pub reads : ReadsAsSite document site
  pub live_is : live site.cells id ≡ live cells id

-- the rows of a site without blanks
rows_of_site : (bytes : List ℕ) (site : SiteState) → (compact : IsCompactSite bytes site)
    → AreRows bytes compact.rows compact.tail
rows_of_site bytes site compact = record {
  whole = compact.whole;
  is_tail = compact.is_tail;
  each = compact.each;
  kept = subst AreKeptCells (sym compact.cells) (kept_of_reads bytes site compact.reads);
}

-- the document of the rows between two places, of which no others are of the message
pub part_reads : (bytes document id : List ℕ) (site : SiteState) (top start end last : ℕ)
    → IsCompactSite bytes site → AreRowsAt bytes top last → HasAllFrom bytes id start
    → HasAllUpTo bytes id end → start ≤ end
    → document ≡ opening ++ (slice_range bytes start end ++ drop last bytes)
    → IsSitePart document id site.cells
part_reads bytes document id site top start end last compact rows_at begins ends ordered is =
    let rows = compact.rows in
    let tail = compact.tail in
    let are = rows_of_site bytes site compact in
    let utf8 : IsUtf8 bytes = compact.reads.1.0 in
    let slice = slice_range bytes start end in
    let begin = begins rows tail are in
    let finish = ends rows tail are in
    let split = drop_split bytes start end ordered in
    let part =
    part_between id slice (drop start bytes) (drop end bytes) rows tail are.each are.kept begin
    finish split in
    let last_is = rows_at.finish rows tail are in
    let whole : document ≡ opening ++ (rows_text false part.middle ++ tail) =
    is ∙ ap (λ bs. opening ++ (bs ++ drop last bytes)) part.slice_is
    ∙ ap (λ bs. opening ++ (rows_text false part.middle ++ bs)) last_is in
    let from_utf8 : IsUtf8 (drop start bytes) =
    subst IsUtf8 (sym begin.rest_is)
    (drop_utf8 bytes (rows_text false begin.after ++ tail) start begin.rest_is
    (rows_start false begin.after tail are.is_tail) utf8) in
    let slice_utf8 : IsUtf8 slice =
    (cut_at slice (rows_text true finish.after ++ tail)
    (rows_start true finish.after tail are.is_tail)
    (subst IsUtf8 (split ∙ ap (λ bs. slice ++ bs) finish.rest_is) from_utf8)).0 in
    let opening_utf8 : IsUtf8 opening =
    (cut_at opening (rows_text false rows ++ tail)
    (rows_start false rows tail are.is_tail) (subst IsUtf8 are.whole utf8)).0 in
    let tail_utf8 : IsUtf8 (drop last bytes) =
    subst IsUtf8 (sym last_is)
    (drop_utf8 bytes tail last last_is (rows_start false [] tail are.is_tail) utf8) in
    let own : AreRows document part.middle tail = record {
      whole = whole;
      is_tail = are.is_tail;
      each = part.each;
      kept = part.kept;
    } in record {
      site = record { name = are.is_tail.name; cells = entries part.middle };
      reads =
          rows_read document tail part.middle own
          (subst IsUtf8 (sym is)
          (IsUtf8-append opening (slice ++ drop last bytes) opening_utf8
          (IsUtf8-append slice (drop last bytes) slice_utf8 tail_utf8)));
      live_is = part.live_is ∙ ap (λ (es : Entries). live es id) compact.cells;
    }

-- what is read of such a document answers questions about the message
pub answers_message : (document id : List ℕ) (cells : Entries) (site : SiteState)
    (result : Result SiteState DocFault) → ReadsAsSite document site
    → live site.cells id ≡ live cells id
    → MatchResult result (IsReadFor document id)
    (OrMemory no_memory (IsOfDocument 1 (RefusesSite document)))
    → MatchResult result (λ part. live part.cells id ≡ live cells id) (λ fault. fault ≡ no_memory)
answers_message document id cells site (Ok part) reads same read =
    read.3
    ∙ ap (λ (s : SiteState). live s.cells id)
    (one_site document read.0 site read.1 reads) ∙ same
answers_message document id cells site (Err fault) reads same (inl memory) = memory
answers_message document id cells site (Err fault) reads same (inr refused) =
    absurd (site_not_refused 1 document site fault reads refused)
