-- The whole text of a document.
--
-- A text reads as a value if its tokens are those of the value, none is left, and its numbers are
-- in range. A reader that stops at the first value has to see that nothing comes after it. For each
-- of its three endings (an object alone, something after it, no object) there is a lemma, and a
-- text that begins with no brace is no object.
use Rattle.std.proofs.Common.{◌≡◌, ◌∙◌, ◌+◌, ◌≤◌, ℕ, List, [], ◌∷◌, Bool, true, false, length}
use Rattle.std.proofs.Common.{ap, sym, refl, inl, inr, arith}
use Rattle.std.specs.Prelude.{Option, None, Some, is_some, option_map}
use Rattle.std.proofs.lemmas.List.Folds.{list_all-append}
use Rattle.lang_core.proofs.Basics.{and_true}
use Rattle.json.specs.Json as json
use Rattle.json.specs.Json.{Json, parse_map, skip_value, value}
use Rattle.json.specs.Lex.{Class, Lexeme, Mode, Place, lex, lex_byte, class, place_token, punctuate}
use Rattle.json.specs.Lex.{tokens, token, comma, colon, between, in_word, in_string, in_escape}
use Rattle.json.specs.Lex.{quote, backslash, operator, space, other, fresh, after_value}
use Rattle.json.specs.Lex.{after_comma, after_key, begins_colon, if_allowed, may_begin, may_close}
use Rattle.json.specs.Token as spec
use Rattle.json.specs.Token.{Token, begin_object}
use Rattle.json.specs.Tree.{json_tokens}
use Rattle.json.proofs.Grammar.{value_is, value-begin_array, value-begin_object}
use Rattle.json.proofs.Unique.Spelling.{value-json_tokens_back}
use Rattle.serde_json.specs.Data.{Data, Items, Members, Num, array, boolean, no_members, null}
use Rattle.serde_json.specs.Data.{number, object, string}
use Rattle.serde_json.specs.Find.{as_object}
use Rattle.serde_json.specs.Read.{converted, number_of, of_items, of_json, of_members, read}
use Rattle.json_docs.specs.ObjectMembersRead.{NoObject}
use Rattle.json_docs.specs.inner.ObjectMembersRead.{IsNotWhole, ReadsMembers, ReadsNoMembers}
use Rattle.json_docs.specs.Numbers.{are_in_range, is_token_in_range}
use Rattle.json_docs.proofs.ObjectMembersLemmas.{skipped}
use Rattle.json_docs.proofs.ScanningReadableLemmas.{is_some-of_json}
use Rattle.json_docs.proofs.ScanningReadingLemmas.{converted-object, whole, whole_and_more}
use Rattle.json_docs.proofs.ScanningReadingLemmas.{whole_read}
use Rattle.json_docs.proofs.ScanningReadingLemmas.{whole_refused}

-- ---- how many tokens there are

one_more : (m : Mode) (k : Class) (x n : ℕ) (xs : List ℕ) (rest : Mode → List Lexeme)
    → ((next : Mode) → length (rest next) ≤ n) → length (lex_byte m k x xs rest) ≤ n + 1
one_more between quote x n xs rest h = let l = h in_string in omega (arith, l)
one_more between backslash x n xs rest h = let l = h in_word in omega (arith, l)
one_more between operator x n xs rest h = let l = h between in omega (arith, l)
one_more between space x n xs rest h = let l = h between in omega (arith, l)
one_more between other x n xs rest h = let l = h in_word in omega (arith, l)
one_more in_word quote x n xs rest h = let l = h in_word in omega (arith, l)
one_more in_word backslash x n xs rest h = let l = h in_word in omega (arith, l)
one_more in_word operator x n xs rest h = let l = h between in omega (arith, l)
one_more in_word space x n xs rest h = let l = h between in omega (arith, l)
one_more in_word other x n xs rest h = let l = h in_word in omega (arith, l)
one_more in_string quote x n xs rest h = let l = h between in omega (arith, l)
one_more in_string backslash x n xs rest h = let l = h in_escape in omega (arith, l)
one_more in_string operator x n xs rest h = let l = h in_string in omega (arith, l)
one_more in_string space x n xs rest h = let l = h in_string in omega (arith, l)
one_more in_string other x n xs rest h = let l = h in_string in omega (arith, l)
one_more in_escape k x n xs rest h = let l = h in_string in omega (arith, l)

length-lex : (m : Mode) (xs : List ℕ) → length (lex m xs) ≤ length xs
unfolding lex
length-lex m [] = omega arith
length-lex m (x ∷ xs) = let l =
    one_more m (class x) x (length xs) xs (λ next. lex next xs) (λ next. length-lex next xs) in
    omega (arith, l)

allowed : (b : Bool) (t : Token) (n : ℕ) (rest : Place → List Token) (next : Place)
    → ((p : Place) → length (rest p) ≤ n) → length (if_allowed b t rest next) ≤ n + 1
allowed true t n rest next h = let l = h next in omega (arith, l)
allowed false t n rest next h = omega arith

one_token : (p : Place) (t : Token) (before_colon : Bool) (n : ℕ) (rest : Place → List Token)
    → ((q : Place) → length (rest q) ≤ n) → length (place_token p t before_colon rest) ≤ n + 1
one_token p spec.begin_object b n rest h = allowed (may_begin p) spec.begin_object n rest fresh h
one_token p spec.end_object b n rest h = allowed (may_close p) spec.end_object n rest after_value h
one_token p spec.begin_array b n rest h = allowed (may_begin p) spec.begin_array n rest fresh h
one_token p spec.end_array b n rest h = allowed (may_close p) spec.end_array n rest after_value h
one_token p (spec.key s) b n rest h = omega arith
one_token p (spec.string s) true n rest h = allowed (may_begin p) (spec.key s) n rest after_key h
one_token p (spec.string s) false n rest h =
    allowed (may_begin p) (spec.string s) n rest after_value h
one_token p (spec.number s) b n rest h = allowed (may_begin p) (spec.number s) n rest after_value h
one_token p (spec.boolean v) b n rest h =
    allowed (may_begin p) (spec.boolean v) n rest after_value h
one_token p spec.null b n rest h = allowed (may_begin p) spec.null n rest after_value h
one_token p spec.bad b n rest h = omega arith

length-punctuate : (p : Place) (ls : List Lexeme) → length (punctuate p ls) ≤ length ls + 1
unfolding punctuate
length-punctuate fresh [] = omega arith
length-punctuate after_value [] = omega arith
length-punctuate after_comma [] = omega arith
length-punctuate after_key [] = omega arith
length-punctuate fresh (token t ∷ ls) = let l =
    one_token fresh t (begins_colon ls) (length ls + 1) (λ next. punctuate next ls)
    (λ next. length-punctuate next ls) in omega (arith, l)
length-punctuate after_value (token t ∷ ls) = let l =
    one_token after_value t (begins_colon ls) (length ls + 1) (λ next. punctuate next ls)
    (λ next. length-punctuate next ls) in omega (arith, l)
length-punctuate after_comma (token t ∷ ls) = let l =
    one_token after_comma t (begins_colon ls) (length ls + 1) (λ next. punctuate next ls)
    (λ next. length-punctuate next ls) in omega (arith, l)
length-punctuate after_key (token t ∷ ls) = let l =
    one_token after_key t (begins_colon ls) (length ls + 1) (λ next. punctuate next ls)
    (λ next. length-punctuate next ls) in omega (arith, l)
length-punctuate fresh (comma ∷ ls) = omega arith
length-punctuate after_value (comma ∷ ls) = let l = length-punctuate after_comma ls in
    omega (arith, l)
length-punctuate after_comma (comma ∷ ls) = omega arith
length-punctuate after_key (comma ∷ ls) = omega arith
length-punctuate fresh (colon ∷ ls) = omega arith
length-punctuate after_value (colon ∷ ls) = omega arith
length-punctuate after_comma (colon ∷ ls) = omega arith
length-punctuate after_key (colon ∷ ls) = let l = length-punctuate fresh ls in omega (arith, l)

-- a text has at most one token more than bytes
pub length-tokens : (text : List ℕ) → length (tokens text) ≤ length text + 1
length-tokens text = let l = length-lex between text in
    let p = length-punctuate fresh (lex between text) in omega (arith, l, p)

-- ---- the whole text

module _ (text : List ℕ) (ts : List Token) (is : tokens text ≡ begin_object ∷ ts) where
  opened : converted of_json (value 127 (tokens text))
      ≡ parse_map object
      (converted (λ ms. of_members ms no_members) (json.members (value 126) (length ts) ts))
  opened =
      ap (converted of_json) (ap (value 127) is ∙ value-begin_object 127 ts (omega arith))
      ∙ converted-object (json.members (value 126) (length ts) ts)

  -- a text that is an object and nothing else reads as it
  pub object_whole : (ms : Members) → ReadsMembers 126 ts ms [] → read text ≡ Some (object ms)
  object_whole ms found =
      whole_read (value 127 (tokens text)) (object ms) (opened ∙ ap (parse_map object) found)

  object_and_more : (ms : Members) (t : Token) (r : List Token) → ReadsMembers 126 ts ms (t ∷ r)
      → read text ≡ None
  object_and_more ms t r found =
      whole_and_more (value 127 (tokens text)) (object ms) t r
      (opened ∙ ap (parse_map object) found)

  object_refused : ReadsNoMembers 126 ts → read text ≡ None
  object_refused none =
      whole_refused (value 127 (tokens text)) (opened ∙ ap (parse_map object) none)

  -- a text that begins as an object, and is none or goes on after it, does not read
  pub not_whole : IsNotWhole ts → read text ≡ None
  not_whole why = elim why [
    | inl none ↦ object_refused none
    | inr more ↦ object_and_more more.0 more.1 more.2 more.3
  ]

module _ (text : List ℕ) where
  -- a text that is one value and nothing else reads as data, where its numbers are in range
  pub value_whole : are_in_range (tokens text) ≡ true → skip_value 127 (tokens text) ≡ Some []
      → (d : Data) × (read text ≡ Some d)
  value_whole range passed = let there = skipped 127 (tokens text) [] range passed in
      (there.0, whole_read (value 127 (tokens text)) there.0 there.1)

none_of : (o : Option Data) → is_some o ≡ false → o ≡ None
none_of None h = refl
none_of (Some d) h = cc

out_of_range : (ts : List Token) (o : Option (Json × List Token)) → value 127 ts ≡ o
    → are_in_range ts ≡ false → whole o ≡ None
out_of_range ts None is h = refl
out_of_range ts (Some (j, [])) is h =
    let back =
    ap are_in_range (value-json_tokens_back 127 ts [] j is)
    ∙ list_all-append is_token_in_range (json_tokens j) [] in
    none_of (of_json j)
    (is_some-of_json j ∙ (sym (and_true (are_in_range (json_tokens j))) ∙ (sym back ∙ h)))
out_of_range ts (Some (j, t ∷ r)) is h = refl

-- a text with a number out of range is not read
pub numbers_refused : (text : List ℕ) → are_in_range (tokens text) ≡ false → read text ≡ None
numbers_refused text h = out_of_range (tokens text) (value 127 (tokens text)) refl h

-- ---- a text that begins with no brace is no object

array_of : (o : Option Items) (d : Data) → option_map array o ≡ Some d → as_object d ≡ None
array_of None d h = cc
array_of (Some ds) d h = let same : d ≡ array ds = cc in ap as_object same

array_first : (o : Option (json.Items × List Token)) (d : Data)
    → whole (parse_map json.array o) ≡ Some d → as_object d ≡ None
array_first None d h = cc
array_first (Some (js, [])) d h = array_of (of_items js) d h
array_first (Some (js, t ∷ r)) d h = cc

number_of_text : (o : Option Num) (d : Data) → option_map number o ≡ Some d → as_object d ≡ None
number_of_text None d h = cc
number_of_text (Some n) d h = let same : d ≡ number n = cc in ap as_object same

string_first : (s : List ℕ) (r : List Token) (d : Data) → whole (Some (json.string s, r)) ≡ Some d
    → as_object d ≡ None
string_first s [] d h = let same : d ≡ string s = cc in ap as_object same
string_first s (t ∷ r) d h = cc

number_first : (s : List ℕ) (r : List Token) (d : Data) → whole (Some (json.number s, r)) ≡ Some d
    → as_object d ≡ None
number_first s [] d h = number_of_text (number_of s) d h
number_first s (t ∷ r) d h = cc

boolean_first : (b : Bool) (r : List Token) (d : Data) → whole (Some (json.boolean b, r)) ≡ Some d
    → as_object d ≡ None
boolean_first b [] d h = let same : d ≡ boolean b = cc in ap as_object same
boolean_first b (t ∷ r) d h = cc

null_first : (r : List Token) (d : Data) → whole (Some (json.null, r)) ≡ Some d → as_object d ≡ None
null_first [] d h = let same : d ≡ null = cc in ap as_object same
null_first (t ∷ r) d h = cc

none_read : (o : Option (Json × List Token)) (d : Data) → o ≡ None → whole o ≡ Some d
    → as_object d ≡ None
none_read o d none h = let never : None ≡ Some d = sym (ap whole none) ∙ h in cc

-- a text that begins without a brace is no object
pub not_object : (ts : List Token) (d : Data) → NoObject ts → whole (value 127 ts) ≡ Some d
    → as_object d ≡ None
not_object [] d apart h = none_read (value 127 []) d (value_is 127 []) h
not_object (spec.begin_object ∷ ts) d apart h = absurd (apart ts refl)
not_object (spec.end_object ∷ ts) d apart h =
    none_read (value 127 (spec.end_object ∷ ts)) d (value_is 127 (spec.end_object ∷ ts)) h
not_object (spec.begin_array ∷ ts) d apart h =
    array_first (json.items (value 126) (length ts) ts) d
    (sym (ap whole (value-begin_array 127 ts (omega arith))) ∙ h)
not_object (spec.end_array ∷ ts) d apart h =
    none_read (value 127 (spec.end_array ∷ ts)) d (value_is 127 (spec.end_array ∷ ts)) h
not_object (spec.key s ∷ ts) d apart h =
    none_read (value 127 (spec.key s ∷ ts)) d (value_is 127 (spec.key s ∷ ts)) h
not_object (spec.string s ∷ ts) d apart h =
    string_first s ts d (sym (ap whole (value_is 127 (spec.string s ∷ ts))) ∙ h)
not_object (spec.number s ∷ ts) d apart h =
    number_first s ts d (sym (ap whole (value_is 127 (spec.number s ∷ ts))) ∙ h)
not_object (spec.boolean b ∷ ts) d apart h =
    boolean_first b ts d (sym (ap whole (value_is 127 (spec.boolean b ∷ ts))) ∙ h)
not_object (spec.null ∷ ts) d apart h =
    null_first ts d (sym (ap whole (value_is 127 (spec.null ∷ ts))) ∙ h)
not_object (spec.bad ∷ ts) d apart h =
    none_read (value 127 (spec.bad ∷ ts)) d (value_is 127 (spec.bad ∷ ts)) h
