-- The last of the members that have one name is what an object has by it.
use Rattle.std.proofs.Common.{ℕ, ◌≡◌, List, refl, sym, ◌∙◌, ap, Option, Some, None}
use Rattle.std.specs.Prelude.{◌≢◌, option_and_then}
use Rattle.std.specs.declared.cmp.Ordering.{Ordering}
use Rattle.std.specs.declared.cmp.Ordering.TheVariants.{Less, Equal, Greater}
use Rattle.std.specs.Ordering.{nat_cmp, match_ordering}
use Rattle.std.specs.Cmp.{tied_itself}
use Rattle.std.specs.Cmp.Lexicographic.{slice_cmp, nat_list_cmp_total}
use Rattle.std.proofs.lemmas.Map.Lookups.{exact_bytes}
use Rattle.json.specs.Json as json
use Rattle.serde_json.specs.Data.{Data, Members, no_members, member, put}
use Rattle.serde_json.specs.Find.{get_member}
use Rattle.serde_json.specs.Read.{of_json, of_members}
use Rattle.json_docs.specs.ObjectLastMember.{HasNo, and_then}
use Rattle.catalogue.proofs.Basics.{some_same as same_some}

-- What is put at a name is found by it.
put_found_at : (o : Ordering) (k l : List ℕ) (d e : Data) (ms : Members)
    → slice_cmp nat_cmp k l ≡ o → get_member k (put k d ms) ≡ Some d
    → get_member k (match_ordering o (member k d (member l e ms)) (member l d ms)
    (member l e (put k d ms))) ≡ Some d
put_found_at Less k l d e ms is later = rw (tied_itself nat_list_cmp_total k) refl
put_found_at Equal k l d e ms is later = rw is refl
put_found_at Greater k l d e ms is later = rw is later

put_found : (k : List ℕ) (d : Data) (ms : Members) → get_member k (put k d ms) ≡ Some d
put_found k d no_members = rw (tied_itself nat_list_cmp_total k) refl
put_found k d (member l e ms) =
    put_found_at (slice_cmp nat_cmp k l) k l d e ms refl (put_found k d ms)

other_name_at : (A : Type 0) (o : Ordering) (k l : List ℕ) (x y : A) → l ≢ k
    → slice_cmp nat_cmp k l ≡ o → match_ordering o x y x ≡ x
other_name_at A Less k l x y n is = refl
other_name_at A Equal k l x y n is = absurd (n (sym (exact_bytes k l is)))
other_name_at A Greater k l x y n is = refl

-- A member of another name is passed over.
other_name : (k l : List ℕ) (e : Data) (ms : Members) → l ≢ k
    → get_member k (member l e ms) ≡ get_member k ms
other_name k l e ms n =
    other_name_at (Option Data) (slice_cmp nat_cmp k l) k l (get_member k ms) (Some e) n refl

-- What is put at another name changes nothing.
put_other_at : (o : Ordering) (k l m : List ℕ) (d e : Data) (ms : Members) → l ≢ k
    → slice_cmp nat_cmp l m ≡ o → get_member k (put l d ms) ≡ get_member k ms
    → get_member k (match_ordering o (member l d (member m e ms)) (member m d ms)
    (member m e (put l d ms))) ≡ get_member k (member m e ms)
put_other_at Less k l m d e ms n is later = other_name k l d (member m e ms) n
put_other_at Equal k l m d e ms n is later =
    let other : m ≢ k = λ same. n (exact_bytes l m is ∙ same) in
    other_name k m d ms other ∙ sym (other_name k m e ms other)
put_other_at Greater k l m d e ms n is later =
    ap (λ (found : Option Data). match_ordering (slice_cmp nat_cmp k m) found (Some e) found) later

put_other : (k l : List ℕ) (d : Data) (ms : Members) → l ≢ k
    → get_member k (put l d ms) ≡ get_member k ms
put_other k l d no_members n = other_name k l d no_members n
put_other k l d (member m e ms) n =
    put_other_at (slice_cmp nat_cmp l m) k l m d e ms n refl (put_other k l d ms n)

of_some : {A B : Type 0} (P : Type 0) (f : A → Option B) (o : Option A) (b : B)
    → ((a : A) → f a ≡ Some b → P) → option_and_then f o ≡ Some b → P
of_some P f None b later e = cc
of_some P f (Some a) b later e = later a e

-- Members of other names change nothing.
others_read : (name : List ℕ) (after : json.Members) (found read : Members) → HasNo name after
    → of_members after found ≡ Some read → get_member name read ≡ get_member name found
others_read name json.no_members found read n h =
    sym (ap (get_member name) (same_some found read h))
others_read name (json.member k value after) found read n h =
    of_some (get_member name read ≡ get_member name found)
    (λ d. of_members after (put k d found)) (of_json value) read
    (λ d e. others_read name after (put k d found) read n.1 e ∙ put_other name k d found n.0) h

-- The last member of a name counts, whatever was there before.
pub last_counts : (name : List ℕ) (value : json.Json) (before after : json.Members) (d : Data)
    (found read : Members) → of_json value ≡ Some d → HasNo name after
    → of_members (and_then before (json.member name value after)) found ≡ Some read
    → get_member name read ≡ Some d
last_counts name value json.no_members after d found read v n h =
    let rest : of_members after (put name d found) ≡ Some read =
    sym (ap (option_and_then (λ d. of_members after (put name d found))) v) ∙ h in
    others_read name after (put name d found) read n rest ∙ put_found name d found
last_counts name value (json.member k other before) after d found read v n h =
    of_some (get_member name read ≡ Some d)
    (λ e. of_members (and_then before (json.member name value after)) (put k e found))
    (of_json other) read
    (λ e rest. last_counts name value before after d (put k e found) read v n rest) h
