-- The parts of a tag.
--
-- A langtag (RFC 5646, section 2.1) is its language, extlangs, script, region, variants and the
-- rest, one after another. Each getter takes from the front of what is left those subtags that have
-- the form of its part. What comes next has another form, as the grammar has it, so each part ends
-- where the next begins. The language is the first subtag, and a tag whose first subtag is "x" has
-- no parts.
use Rattle.std.proofs.Common.{ℕ, ◌≡◌, ◌≤◌, inl, inr, List, [], ◌∷◌, ◌++◌, Bool, true, false}
use Rattle.std.proofs.Common.{length, take, drop, refl, sym, ◌∙◌, ap, subst, arith, Some, None}
use Rattle.std.proofs.Common.{Option}
use Rattle.std.proofs.Common.{◌+◌}
use Rattle.std.proofs.lemmas.Bool.Decides.{nat_tests}
use Rattle.std.specs.Prelude.{MatchOption}
use Rattle.std.specs.Option.{option_copied, option_to_list}
use Rattle.std.specs.Borrow.{Bor}
use Rattle.std.specs.List.{list_all, flat_map, AllByRecursion}
use Rattle.lang_core.specs.Text.{pieces, subtags}
use Rattle.lang_core.specs.Tag.{HasSubtags}
use Rattle.lang_core.specs.inner.TagTable.{is_staged}
use Rattle.lang_core.specs.inner.Stage.{accepts}
use Rattle.lang_core.specs.declared.stage.Stage.TheVariants.{Start}
use Rattle.lang_core.specs.Grammar.{is_short_language, is_long_language, is_extlang, is_script}
use Rattle.lang_core.specs.Grammar.{is_region, is_variant, is_x, is_private_piece, AreAll}
use Rattle.lang_core.specs.Grammar.{IsAtMostOne, IsLanguage, IsExtension, IsPrivate}
use Rattle.lang_core.specs.Grammar.{IsMaybePrivate, IsLangtag, are_allowed, tag_piece}
use Rattle.lang_core.specs.inner.SubtagsRuns.{begins_with, IsSplit}
use Rattle.lang_core.specs.Parts.{IsPart, language_of, extlangs_of, script_of, region_of}
use Rattle.lang_core.specs.Parts.{variants_of}
use Rattle.lang_core.specs.inner.Parts.{IsRest, after_language, after_extlangs, after_script}
use Rattle.lang_core.specs.inner.Parts.{after_region, after_variants}
use Rattle.lang_core.proofs.Basics.{each_true, both, one_true}
use Rattle.lang_core.proofs.KindLemmas.{single, size_x, size_singleton, variant_only}
use Rattle.lang_core.proofs.KindLemmas.{region_extlang}
use Rattle.lang_core.proofs.KindLemmas.{region_script, script_extlang, short_run, long_run}
use Rattle.lang_core.proofs.PiecesLemmas.{pieces-lower}
use Rattle.lang_core.proofs.SubtagsRunsLemmas.{one_split, split_none, all_parts}
use Rattle.lang_core.proofs.StageComplete.{accepted}
use Rattle.lang_core.proofs.StageSound.{follows}
use Rattle.lang_core.proofs.SubtagLemmas.{lowered_pieces}

-- ---- each part of a langtag ends where the next begins

not_first : (test other : List ℕ → Bool) (run rest : List (List ℕ))
    → ((s : List ℕ) → other s ≡ true → test s ≡ false) → AreAll other run
    → begins_with test rest ≡ false → begins_with test (run ++ rest) ≡ false
not_first test other [] rest apart a h = h
not_first test other (s ∷ run) rest apart a h =
    apart s (each_true (other s) (list_all other run) a).0

private_first : (test : List ℕ → Bool) (list : List (List ℕ))
    → ((s : List ℕ) → length s ≤ 1 → test s ≡ false) → IsPrivate list
    → begins_with test list ≡ false
private_first test [] apart p = absurd p
private_first test (s ∷ []) apart p = absurd p
private_first test (s ∷ t ∷ more) apart p = apart s (let n = size_x s p.0 in omega arith)

maybe_first : (test : List ℕ → Bool) (list : List (List ℕ))
    → ((s : List ℕ) → length s ≤ 1 → test s ≡ false) → IsMaybePrivate list
    → begins_with test list ≡ false
maybe_first test list apart (inl e) = ap (begins_with test) e
maybe_first test list apart (inr p) = private_first test list apart p

each_first : (test : List ℕ → Bool) (each : List (List (List ℕ))) (rest : List (List ℕ))
    → ((s : List ℕ) → length s ≤ 1 → test s ≡ false) → AllByRecursion IsExtension each
    → begins_with test rest ≡ false
    → begins_with test (flat_map (λ extension. extension) each ++ rest) ≡ false
each_first test [] rest apart a h = h
each_first test ([] ∷ each) rest apart a h = absurd a.0
each_first test ((s ∷ []) ∷ each) rest apart a h = absurd a.0
each_first test ((s ∷ t ∷ more) ∷ each) rest apart a h =
    apart s (let n = size_singleton s a.0.0 in omega arith)

end_first : {list : List (List ℕ)} (test : List ℕ → Bool) (t : IsLangtag list)
    → ((s : List ℕ) → length s ≤ 1 → test s ≡ false)
    → begins_with test (after_variants t) ≡ false
end_first test t apart =
    subst (λ (x : List (List ℕ)). begins_with test (x ++ t.private) ≡ false)
    (sym t.extensions_ok.whole)
    (each_first test t.extensions_ok.each t.private apart t.extensions_ok.extensions
    (maybe_first test t.private apart t.private_ok))

at_most_all : (piece : List ℕ → Bool) (list : List (List ℕ)) → IsAtMostOne piece list
    → AreAll piece list
at_most_all piece [] h = refl
at_most_all piece (s ∷ []) h = both _ _ h refl
at_most_all piece (s ∷ t ∷ more) h = absurd h

extlangs_all : (language : List (List ℕ)) → IsLanguage language
    → AreAll is_extlang (drop 1 language)
extlangs_all [] ok = absurd ok
extlangs_all (s ∷ []) ok = refl
extlangs_all (s ∷ t ∷ more) ok = ok.1

-- What is left after the region begins with all variants.
pub split_variants : {list : List (List ℕ)} (t : IsLangtag list)
    → IsSplit is_variant (after_region t) (variants_of t) (after_variants t)
split_variants t = record {
  whole = refl;
  each = t.variants_ok;
  ends = end_first is_variant t (λ s n. (single s n).variant);
}

-- What is left after the script begins with the region, if there is one.
pub split_region : {list : List (List ℕ)} (t : IsLangtag list)
    → IsSplit is_region (after_script t) (region_of t) (after_region t)
split_region t = record {
  whole = refl;
  each = at_most_all is_region t.region t.region_ok;
  ends =
      not_first is_region is_variant t.variants (after_variants t)
      (λ s v. (variant_only s v).region) t.variants_ok
      (end_first is_region t (λ s n. (single s n).region));
}

-- What is left after the extlangs begins with the script, if there is one.
pub split_script : {list : List (List ℕ)} (t : IsLangtag list)
    → IsSplit is_script (after_extlangs t) (script_of t) (after_script t)
split_script t = record {
  whole = refl;
  each = at_most_all is_script t.script t.script_ok;
  ends =
      not_first is_script is_region t.region (after_region t) region_script
      (at_most_all is_region t.region t.region_ok)
      (not_first is_script is_variant t.variants (after_variants t)
      (λ s v. (variant_only s v).script) t.variants_ok
      (end_first is_script t (λ s n. (single s n).script)));
}

-- What is left after the language begins with all extlangs.
pub split_extlangs : {list : List (List ℕ)} (t : IsLangtag list)
    → IsSplit is_extlang (after_language t) (extlangs_of t) (after_extlangs t)
split_extlangs t = record {
  whole = refl;
  each = extlangs_all t.language t.language_ok;
  ends =
      not_first is_extlang is_script t.script (after_script t) script_extlang
      (at_most_all is_script t.script t.script_ok)
      (not_first is_extlang is_region t.region (after_region t) region_extlang
      (at_most_all is_region t.region t.region_ok)
      (not_first is_extlang is_variant t.variants (after_variants t)
      (λ s v. (variant_only s v).extlang) t.variants_ok
      (end_first is_extlang t (λ s n. (single s n).extlang))));
}

-- ---- from part to part

-- a part is what is at the front of the rest before it, and the rest after it what is left
next_part : (test : List ℕ → Bool) (list left run rest : List (List ℕ))
    (before part after : IsLangtag list → List (List ℕ))
    → ((t : IsLangtag list) → IsSplit test (before t) (part t) (after t))
    → IsRest list before left → IsSplit test left run rest
    → IsPart list part run × IsRest list after rest
next_part test list left run rest before part after splits h x =
    (parts.0, (parts.1, (all_parts is_private_piece run rest each).1)) where
      each : AreAll is_private_piece (run ++ rest)
      each = subst (λ (y : List (List ℕ)). AreAll is_private_piece y) x.whole h.1

      parts : IsPart list part run × IsPart list after rest
      parts = elim h.0 [
        | inl n ↦ (
            let none = split_none test left run rest x n.1 in
            (inl (n.0, none.0), inl (n.0, none.1)))
        | inr y ↦ (
            let same =
            one_split test left run rest (part y.0) (after y.0) x
            (subst (λ (z : List (List ℕ)). IsSplit test z (part y.0) (after y.0)) (sym y.1)
            (splits y.0)) in
            (inr (y.0, same.0), inr (y.0, same.1)))
      ]

-- The extlangs of a tag are the first extlangs after its language.
pub extlangs_part : (list left run rest : List (List ℕ)) → IsRest list after_language left
    → IsSplit is_extlang left run rest
    → IsPart list extlangs_of run × IsRest list after_extlangs rest
extlangs_part list left run rest =
    next_part is_extlang list left run rest after_language extlangs_of after_extlangs split_extlangs

-- The script of a tag is the first script after its extlangs.
pub script_part : (list left run rest : List (List ℕ)) → IsRest list after_extlangs left
    → IsSplit is_script left run rest → IsPart list script_of run × IsRest list after_script rest
script_part list left run rest =
    next_part is_script list left run rest after_extlangs script_of after_script split_script

-- The region of a tag is the first region after its script.
pub region_part : (list left run rest : List (List ℕ)) → IsRest list after_script left
    → IsSplit is_region left run rest → IsPart list region_of run × IsRest list after_region rest
region_part list left run rest =
    next_part is_region list left run rest after_script region_of after_region split_region

-- The variants of a tag are the first variants after its region.
pub variants_part : (list left run rest : List (List ℕ)) → IsRest list after_region left
    → IsSplit is_variant left run rest
    → IsPart list variants_of run × IsRest list after_variants rest
variants_part list left run rest =
    next_part is_variant list left run rest after_region variants_of after_variants split_variants

-- ---- the language

first_of : (language rest : List (List ℕ)) (first : List ℕ) (others : List (List ℕ))
    → IsLanguage language → first ∷ others ≡ language ++ rest
    → (first ∷ [] ≡ take 1 language) × (others ≡ drop 1 language ++ rest)
first_of [] rest first others ok e = absurd ok
first_of (s ∷ language) rest first others ok e =
    let head : first ≡ s = cc in
    let tail : others ≡ language ++ rest = cc in
    (ap (λ (x : List ℕ). x ∷ []) head, tail)

-- The first subtag of a langtag is its language, and the others come after it.
pub langtag_first : (list : List (List ℕ)) (t : IsLangtag list) (first : List ℕ)
    (others : List (List ℕ)) → list ≡ first ∷ others
    → (first ∷ [] ≡ language_of t) × (others ≡ after_language t)
langtag_first list t first others e =
    first_of t.language (after_extlangs t) first others t.language_ok (sym e ∙ t.whole)

allowed_all : (place : ℕ) (list : List (List ℕ)) → are_allowed tag_piece place list ≡ true
    → AreAll is_private_piece list
allowed_all place [] h = refl
allowed_all place (s ∷ list) h =
    let parts = each_true (is_private_piece s) (are_allowed tag_piece (place + 1) list) h in
    both _ _ parts.0 (allowed_all (place + 1) list parts.1)

-- Each subtag of a tag is one to eight letters or digits.
pub tag_all : (text : List ℕ) → HasSubtags text → AreAll is_private_piece (pieces text)
tag_all text h = allowed_all 0 (pieces text) h

-- What is left after the language of a langtag.
pub language_rest : (text : List ℕ) (first : List ℕ) (others : List (List ℕ)) → HasSubtags text
    → IsLangtag (pieces text) → pieces text ≡ first ∷ others
    → IsRest (pieces text) after_language others
language_rest text first others h t e = (
  inr (t, (langtag_first (pieces text) t first others e).1),
  (each_true (is_private_piece first) (list_all is_private_piece others)
      (subst (λ (y : List (List ℕ)). AreAll is_private_piece y) e (tag_all text h))).1,
)

tag_lower : (text : List ℕ) → HasSubtags text → subtags text ≡ pieces text
tag_lower text h = pieces-lower text ∙ lowered_pieces (pieces text) (tag_all text h)

-- The table of states does not accept a tag that is no langtag and not private use alone.
pub unstaged : (text : List ℕ) → HasSubtags text → is_staged (subtags text) ≡ false
    → IsLangtag (pieces text) → ⊥
unstaged text h s t =
    let all : list_all is_private_piece (pieces text) ≡ true = tag_all text h in
    let fine : is_staged (pieces text) ≡ true = both _ _ all (accepted (pieces text) (inr t)) in
    let none : is_staged (pieces text) ≡ false = ap is_staged (sym (tag_lower text h)) ∙ s in
    cc

language_long : (language : List (List ℕ)) (first : List ℕ) → IsLanguage language
    → first ∷ [] ≡ take 1 language → 2 ≤ length first
language_long [] first ok e = absurd ok
language_long (s ∷ []) first ok e =
    let same : first ≡ s = cc in
    elim (one_true (is_short_language s) (is_long_language s) ok) [
      | inl r ↦ rw same (short_run s r).long
      | inr r ↦ rw same (let n = (long_run s r).long in omega arith)
    ]
language_long (s ∷ t ∷ more) first ok e =
    let same : first ≡ s = cc in rw same (short_run s ok.0).long

-- A tag whose first subtag is "x" is no langtag.
pub no_langtag : (list : List (List ℕ)) (first : List ℕ) (others : List (List ℕ))
    → list ≡ first ∷ others → first ≡ 120 ∷ [] → IsLangtag list → ⊥
no_langtag list first others e x t =
    let long =
    language_long t.language first t.language_ok (langtag_first list t first others e).0 in
    let short : length first ≡ 1 = ap length x in
    omega arith

-- The subtag "x" is that text.
pub x_text : (s : List ℕ) → is_x s ≡ true → s ≡ 120 ∷ []
unfolding is_x
x_text [] h = cc
x_text (b ∷ []) h = let e : b ≡ 120 = grind (arith, nat_tests) in ap (λ (c : ℕ). c ∷ []) e
x_text (b ∷ c ∷ s) h = cc

private_x : (list : List (List ℕ)) (first : List ℕ) (others : List (List ℕ)) → IsPrivate list
    → list ≡ first ∷ others → first ≡ 120 ∷ []
private_x [] first others p e = absurd p
private_x (s ∷ []) first others p e = absurd p
private_x (s ∷ t ∷ more) first others p e =
    let same : first ≡ s = cc in same ∙ x_text s p.0

-- A tag that the table of states accepts is a langtag, unless its first subtag is "x".
pub staged_langtag : (text : List ℕ) (first : List ℕ) (others : List (List ℕ)) → HasSubtags text
    → is_staged (subtags text) ≡ true → pieces text ≡ first ∷ others → (first ≡ 120 ∷ [] → ⊥)
    → IsLangtag (pieces text)
staged_langtag text first others h s e x =
    let staged : is_staged (pieces text) ≡ true = ap is_staged (sym (tag_lower text h)) ∙ s in
    let accepts_it =
    (each_true (list_all is_private_piece (pieces text)) (accepts (pieces text) (Some Start))
    staged).1 in
    elim (follows (pieces text) Start accepts_it) [
      | inl p ↦ absurd (x (private_x (pieces text) first others p e))
      | inr t ↦ t
    ]

-- ---- parts of at most one subtag

-- What an iterator gives first is the first that was left.
pub first_is : (list : List (List ℕ)) (first : Option (Bor (List ℕ))) (left : List (List ℕ))
    → MatchOption first ((list ≡ []) × (left ≡ [])) (λ x. list ≡ x.now ∷ left)
    → option_to_list (option_copied first) ≡ take 1 list
first_is list None left h = ap (take 1) (sym h.0)
first_is list (Some x) left h = ap (take 1) (sym h)

-- The first subtag of a part that has one at most is the whole part.
pub only_one : (list : List (List ℕ)) (part : IsLangtag list → List (List ℕ))
    (piece : List ℕ → Bool) (run : List (List ℕ)) (first : List (List ℕ))
    → ((t : IsLangtag list) → IsAtMostOne piece (part t)) → IsPart list part run
    → first ≡ take 1 run → IsPart list part first
only_one list part piece run first few (inl n) e = inl (n.0, e ∙ ap (take 1) n.1)
only_one list part piece run first few (inr y) e =
    inr (y.0, e ∙ (ap (take 1) y.1 ∙ whole (part y.0) (few y.0))) where
      whole : (one : List (List ℕ)) → IsAtMostOne piece one → take 1 one ≡ one
      whole [] h = refl
      whole (s ∷ []) h = refl
      whole (s ∷ t ∷ more) h = absurd h
