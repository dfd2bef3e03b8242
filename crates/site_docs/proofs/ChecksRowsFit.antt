-- A document has no more rows than bytes.
--
-- Each item of an array has a token of its own at least, and each token has a byte. By induction
-- over the tokens an array has fewer items than there are tokens, and so have the arrays of an
-- object's members. An input has fewer than 2^64 bytes, so the rows of a site or a delta can be
-- counted.
use Rattle.std.proofs.Common.{◌≡◌, ◌∙◌, ◌+◌, ◌<◌, ◌≤◌, ℕ, List, [], ◌∷◌, ◌++◌, length}
use Rattle.std.proofs.Common.{length-append, ap, arith, refl, subst, sym}
use Rattle.std.specs.Prelude.{⊤, None, Option, Some, option_and_then, option_map, unwrap_or}
use Rattle.std.specs.Ordering.{match_ordering, nat_cmp}
use Rattle.std.specs.declared.cmp.Ordering.TheVariants.{Equal, Greater, Less}
use Rattle.std.specs.Cmp.Lexicographic.{slice_cmp}
use Rattle.std.proofs.lemmas.List.{append-nil, length-map}
use Rattle.json.specs.Json as json
use Rattle.json.specs.Json.{if_last, value}
use Rattle.json.specs.Lex.{tokens}
use Rattle.json.specs.Token.{Token}
use Rattle.json.specs.Tree.{items_tokens, json_tokens, members_tokens}
use Rattle.json.proofs.Unique.Spelling.{value-json_tokens_back}
use Rattle.serde_json.specs.Data.{Data, Items, Members, array, boolean, item, member, no_members}
use Rattle.serde_json.specs.Data.{null, number, object, put, string}
use Rattle.serde_json.specs.Find.{get_member}
use Rattle.serde_json.specs.Read.{max_depth, number_of, of_items, of_json, of_members, read}
use Rattle.cell_core.specs.Entry.{EntryKey}
use Rattle.cata_core.specs.Site.{SiteState}
use Rattle.cata_core.specs.declared.delta.Delta.{Delta as DeltaState}
use Rattle.json_docs.specs.Parts.{items_in, list_of}
use Rattle.row_docs.specs.Headers.{rows_in, version_of}
use Rattle.row_docs.specs.Kinds.{rows_of}
use Rattle.site_docs.specs.Reading.{ReadsAsDelta, ReadsAsSite}
use Rattle.row_docs.specs.Ascending.{AreEntries, entry_in}
use Rattle.row_docs.specs.declared.kind.Kind.{Kind}
use Rattle.row_docs.specs.declared.kind.Kind.TheVariants.{Delta, Site}
use Rattle.json_docs.proofs.TextWholeLemmas.{length-tokens}

-- an array has fewer items than this
abbrev AreFewer : ℕ → Data → Type 0
AreFewer n d = (ds : List Data) → items_in d ≡ Some ds → length ds < n

-- the arrays of an object's members have fewer
abbrev HaveFewer : ℕ → Members → Type 0
HaveFewer n no_members = ⊤
HaveFewer n (member k d ms) = AreFewer n d × HaveFewer n ms

abbrev IfItems : ℕ → Option Items → Type 0
IfItems n None = ⊤
IfItems n (Some ds) = length (list_of ds) < n

abbrev IfData : ℕ → Option Data → Type 0
IfData n None = ⊤
IfData n (Some d) = AreFewer n d

abbrev IfMembers : ℕ → Option Members → Type 0
IfMembers n None = ⊤
IfMembers n (Some ms) = HaveFewer n ms

-- ---- arrays

some_tokens : (j : json.Json) → 1 ≤ length (json_tokens j)
some_tokens json.null = omega arith
some_tokens (json.boolean b) = omega arith
some_tokens (json.number s) = omega arith
some_tokens (json.string s) = omega arith
some_tokens (json.array js) = omega arith
some_tokens (json.object ms) = omega arith

with_item : (n m : ℕ) (d : Option Data) (ds : Option Items) → 1 ≤ n → IfItems m ds
    → IfItems (n + m) (option_and_then (λ x. option_map (item x) ds) d)
with_item n m None ds some fit = tt
with_item n m (Some x) None some fit = tt
with_item n m (Some x) (Some ds) some fit = omega (arith, some, fit)

items_fit : (js : json.Items) → IfItems (length (items_tokens js)) (of_items js)
items_fit json.no_items = omega arith
items_fit (json.item j js) =
    rw (length-append (json_tokens j) (items_tokens js)) (with_item (length (json_tokens j))
    (length (items_tokens js)) (of_json j) (of_items js) (some_tokens j) (items_fit js))

no_rows : (n : ℕ) (d : Data) → items_in d ≡ None → AreFewer n d
no_rows n d none ds is = absurd (let e = sym none ∙ is in cc)

of_array : (n m : ℕ) (ds : Option Items) → IfItems m ds → m ≤ n → IfData n (option_map array ds)
of_array n m None fit le = tt
of_array n m (Some ds) fit le = λ rows is. let same : length (list_of ds) ≡ length rows = ap (λ
    (o : Option (List Data)). length (unwrap_or o [])) is in omega (arith, same, fit, le)

of_number : (n : ℕ) (o : Option _) → IfData n (option_map number o)
of_number n None = tt
of_number n (Some x) = no_rows n (number x) refl

of_object : (n : ℕ) (o : Option Members) → IfData n (option_map object o)
of_object n None = tt
of_object n (Some ms) = no_rows n (object ms) refl

value_fits : (n : ℕ) (j : json.Json) → length (json_tokens j) ≤ n → IfData n (of_json j)
value_fits n json.null le = no_rows n null refl
value_fits n (json.boolean b) le = no_rows n (boolean b) refl
value_fits n (json.number s) le = of_number n (number_of s)
value_fits n (json.string s) le = no_rows n (string s) refl
value_fits n (json.array js) le = of_array n (length (items_tokens js)) (of_items js)
    (items_fit js) (omega (arith, le))
value_fits n (json.object ms) le = of_object n (of_members ms no_members)

-- ---- members

put_fits : (n : ℕ) (k : List ℕ) (d : Data) (ms : Members) → AreFewer n d → HaveFewer n ms
    → HaveFewer n (put k d ms)
put_fits n k d no_members fit rest = (fit, tt)
put_fits n k d (member l e ms) fit rest = elim (slice_cmp nat_cmp k l) as (λ o. HaveFewer n
    (match_ordering o (member k d (member l e ms)) (member l d ms) (member l e (put k d ms)))) [
      | Less ↦ (fit, rest)
      | Equal ↦ (fit, rest.1)
      | Greater ↦ (rest.0, put_fits n k d ms fit rest.1)
    ]

get_fits : (n : ℕ) (k : List ℕ) (ms : Members) → HaveFewer n ms → IfData n (get_member k ms)
get_fits n k no_members fit = tt
get_fits n k (member l e ms) fit = elim (slice_cmp nat_cmp k l) as (λ o. IfData n
    (match_ordering o (get_member k ms) (Some e) (get_member k ms))) [
      | Less ↦ get_fits n k ms fit.1
      | Equal ↦ fit.0
      | Greater ↦ get_fits n k ms fit.1
    ]

member_fits : (n : ℕ) (k : List ℕ) (found : Members) (d : Option Data) (more : Members
    → Option Members) → IfData n d → HaveFewer n found → ((ms : Members) → HaveFewer n ms
    → IfMembers n (more ms))
    → IfMembers n (option_and_then (λ x. more (put k x found)) d)
member_fits n k found None more fit before after = tt
member_fits n k found (Some x) more fit before after = after (put k x found)
    (put_fits n k x found fit before)

members_fit : (n : ℕ) (ms : json.Members) (found : Members) → length (members_tokens ms) ≤ n
    → HaveFewer n found → IfMembers n (of_members ms found)
members_fit n json.no_members found le before = before
members_fit n (json.member k j ms) found le before =
    let long = length-append (json_tokens j) (members_tokens ms) in
    member_fits n k found (of_json j) (of_members ms) (value_fits n j (omega
    (arith, le, long))) before (λ more fit. members_fit n ms more (omega (arith, le, long)) fit)

-- ---- documents

-- the rows of some data
rows_of_items : (n : ℕ) (o : Option Data) → 1 ≤ n → IfData n o
    → length (unwrap_or (option_and_then items_in o) []) < n
rows_of_items n None some fit = some
rows_of_items n (Some d) some fit = elim (items_in d) as (λ o. items_in d ≡ o
    → length (unwrap_or o []) < n) [
      | None ↦ λ _. some
      | Some ds ↦ λ is. fit ds is
    ] refl

object_rows : (n : ℕ) (kind : Kind) (o : Option Members) (d : Data) → 1 ≤ n → IfMembers n o
    → option_map object o ≡ Some d → length (rows_in kind d) < n
object_rows n kind None d some fit is = absurd (cc)
object_rows n kind (Some ms) d some fit is = subst (λ x. length (rows_in kind x) < n) (ap
    (λ o. unwrap_or o d) is) (rows_of_items n (get_member (rows_of kind) ms) some (get_fits n
    (rows_of kind) ms fit))

array_rows : (n : ℕ) (kind : Kind) (o : Option Items) (d : Data) → 1 ≤ n
    → option_map array o ≡ Some d → length (rows_in kind d) < n
array_rows n kind None d some is = absurd (cc)
array_rows n kind (Some ds) d some is = subst (λ x. length (rows_in kind x) < n) (ap
    (λ o. unwrap_or o d) is) some

number_rows : (n : ℕ) (kind : Kind) (o : Option _) (d : Data) → 1 ≤ n
    → option_map number o ≡ Some d → length (rows_in kind d) < n
number_rows n kind None d some is = absurd (cc)
number_rows n kind (Some x) d some is = subst (λ x. length (rows_in kind x) < n) (ap
    (λ o. unwrap_or o d) is) some

value_rows : (n : ℕ) (kind : Kind) (j : json.Json) (d : Data) → length (json_tokens j) ≤ n
    → of_json j ≡ Some d → length (rows_in kind d) < n
value_rows n kind json.null d le is = subst (λ x. length (rows_in kind x) < n) (ap
    (λ o. unwrap_or o d) is) (omega (arith, le))
value_rows n kind (json.boolean b) d le is = subst (λ x. length (rows_in kind x) < n) (ap
    (λ o. unwrap_or o d) is) (omega (arith, le))
value_rows n kind (json.number s) d le is = number_rows n kind (number_of s) d (omega
    (arith, le)) is
value_rows n kind (json.string s) d le is = subst (λ x. length (rows_in kind x) < n) (ap
    (λ o. unwrap_or o d) is) (omega (arith, le))
value_rows n kind (json.array js) d le is = array_rows n kind (of_items js) d (omega (arith, le)) is
value_rows n kind (json.object ms) d le is =
    object_rows n kind (of_members ms no_members) d (omega (arith, le))
    (members_fit n ms no_members (omega (arith, le)) tt) is

-- what is read of tokens
read_rows : (n : ℕ) (kind : Kind) (ts : List Token) (o : Option (json.Json
    × List Token)) (d : Data) → length ts ≤ n → ((j : json.Json) (r : List Token)
    → o ≡ Some (j, r) → ts ≡ json_tokens j ++ r)
    → option_and_then of_json (option_and_then (λ p. if_last p.0 p.1) o) ≡ Some d
    → length (rows_in kind d) < n
read_rows n kind ts None d le spelled is = absurd (cc)
read_rows n kind ts (Some (j, [])) d le spelled is = value_rows n kind j d (subst
    (λ xs. length xs ≤ n) (spelled j [] refl ∙ append-nil (json_tokens j)) le) is
read_rows n kind ts (Some (j, t ∷ r)) d le spelled is = absurd (cc)

rows_fit : (kind : Kind) (bytes : List ℕ) (d : Data) → read bytes ≡ Some d
    → length (rows_in kind d) ≤ length bytes
rows_fit kind bytes d is =
    let few = read_rows (length (tokens bytes)) kind (tokens bytes) (value max_depth
    (tokens bytes)) d (omega arith) (λ j r. value-json_tokens_back max_depth
    (tokens bytes) r j) is in
    omega (arith, few, length-tokens bytes)

entries_fit : {J : Type 0} (kind : Kind) (bytes : List ℕ) (d : Data) (entry : Data
    → Option (EntryKey × J)) (entries : List (EntryKey × J)) → read bytes ≡ Some d
    → AreEntries entry (rows_in kind d) entries
    → length entries ≤ length bytes
entries_fit kind bytes d entry entries is are =
    let rows = length-map (rows_in kind d) entry in
    let some = length-map entries Some in
    let same = ap length are in
    omega (arith, rows_fit kind bytes d is, rows, some, same)

-- a site has no more cells than its document has bytes
pub site_fits : (bytes : List ℕ) (site : SiteState) → ReadsAsSite bytes site
    → length site.cells ≤ length bytes
site_fits bytes site (d, json, passes, is) = entries_fit Site bytes d (entry_in
    (version_of d)) site.cells json.1 is.cells

-- a delta has no more cells than its document has bytes
pub delta_fits : (bytes : List ℕ) (delta : DeltaState) → ReadsAsDelta bytes delta
    → length delta.cells ≤ length bytes
delta_fits bytes delta (d, json, passes, is) = entries_fit Delta bytes d (entry_in
    (version_of d)) delta.cells json.1 is.cells
