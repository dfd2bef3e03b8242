-- A langtag has one derivation, and no other tag has one.
use Rattle.std.proofs.Common.{ℕ, ◌≡◌, inl, inr, List, [], ◌∷◌, ◌++◌, Bool, true, false}
use Rattle.std.proofs.Common.{take, drop, refl, sym, ◌∙◌, ap, subst, arith, Some}
use Rattle.std.proofs.Common.{take-append-drop, append_assoc}
use Rattle.std.specs.Prelude.{not}
use Rattle.std.specs.List.{list_all, list_any, flat_map, AllByRecursion}
use Rattle.std.specs.Str.{bytes_eq}
use Rattle.std.proofs.lemmas.List.Folds.{list_all-append}
use Rattle.std.proofs.lemmas.Slice.Eq.{bytes_eq-Decides}
use Rattle.lang_core.specs.Text.{pieces, pieces_by}
use Rattle.lang_core.specs.inner.Stage.{accepts}
use Rattle.lang_core.specs.declared.stage.Stage.TheVariants.{Start}
use Rattle.lang_core.specs.Grammar.{is_run, is_short_language, is_long_language, is_extlang}
use Rattle.lang_core.specs.Grammar.{is_script, is_region, is_variant, is_x, is_singleton}
use Rattle.lang_core.specs.Grammar.{is_extension_piece, is_private_piece, is_irregular, irregular}
use Rattle.lang_core.specs.Grammar.{AreAll, IsLanguage, IsExtension, IsPrivate, IsMaybePrivate}
use Rattle.lang_core.specs.Grammar.{IsLangtag}
use Rattle.lang_core.specs.inner.SubtagsRuns.{begins_with, IsSplit}
use Rattle.lang_core.specs.Parts.{HaveSameParts}
use Rattle.lang_core.specs.inner.Parts.{after_language, after_extlangs, after_script, after_region}
use Rattle.lang_core.specs.inner.Parts.{after_variants}
use Rattle.lang_core.proofs.Basics.{each_true, both, one_true, is_false, not_true, true_not}
use Rattle.lang_core.proofs.KindLemmas.{single, size_x, x_singleton}
use Rattle.lang_core.proofs.PartsLemmas.{split_extlangs, split_script, split_region, split_variants}
use Rattle.lang_core.proofs.PartsLemmas.{no_langtag, x_text}
use Rattle.lang_core.proofs.SubtagsRunsLemmas.{one_split}
use Rattle.lang_core.proofs.StageComplete.{accepted}

-- ---- the extensions end at the "x" of private use

-- any subtag but "x"
abbrev is_other : List ℕ → Bool
is_other s = not (is_x s)

singleton_other : (s : List ℕ) → is_singleton s ≡ true → is_other s ≡ true
singleton_other s h = not_true (is_x s) (is_false _ (λ x. let n = x_singleton s x in cc))

piece_other : (s : List ℕ) → is_extension_piece s ≡ true → is_other s ≡ true
piece_other s h =
    not_true (is_x s)
    (is_false _
    (λ x. let n = (single s (let one = size_x s x in omega arith)).piece in cc))

pieces_other : (list : List (List ℕ)) → AreAll is_extension_piece list → AreAll is_other list
pieces_other [] h = refl
pieces_other (s ∷ list) h =
    let parts = each_true (is_extension_piece s) (list_all is_extension_piece list) h in
    both _ _ (piece_other s parts.0) (pieces_other list parts.1)

extension_other : (list : List (List ℕ)) → IsExtension list → AreAll is_other list
extension_other [] e = absurd e
extension_other (s ∷ []) e = absurd e
extension_other (s ∷ t ∷ more) e =
    both _ _ (singleton_other s e.0) (pieces_other (t ∷ more) e.1)

each_other : (each : List (List (List ℕ))) → AllByRecursion IsExtension each
    → AreAll is_other (flat_map (λ extension. extension) each)
each_other [] h = refl
each_other (e ∷ each) h =
    list_all-append is_other e (flat_map (λ extension. extension) each)
    ∙ both _ _ (extension_other e h.0) (each_other each h.1)

private_ends : (list : List (List ℕ)) → IsMaybePrivate list → begins_with is_other list ≡ false
private_ends list (inl e) = ap (begins_with is_other) e
private_ends list (inr p) = first list p where
  first : (list : List (List ℕ)) → IsPrivate list → begins_with is_other list ≡ false
  first [] p = absurd p
  first (s ∷ []) p = absurd p
  first (s ∷ t ∷ more) p = ap not p.0

split_extensions : {list : List (List ℕ)} (t : IsLangtag list)
    → IsSplit is_other (after_variants t) t.extensions t.private
split_extensions t = record {
  whole = refl;
  each =
      subst (λ (x : List (List ℕ)). AreAll is_other x) (sym t.extensions_ok.whole)
      (each_other t.extensions_ok.each t.extensions_ok.extensions);
  ends = private_ends t.private t.private_ok;
}

-- ---- from part to part

same_split : (test : List ℕ → Bool) (l m a b c d : List (List ℕ)) → l ≡ m → IsSplit test l a b
    → IsSplit test m c d → (a ≡ c) × (b ≡ d)
same_split test l m a b c d e x y =
    one_split test l a b c d x (subst (λ (z : List (List ℕ)). IsSplit test z c d) (sym e) y)

same_language : (la ra lb rb : List (List ℕ)) → IsLanguage la → IsLanguage lb
    → la ++ ra ≡ lb ++ rb → (take 1 la ≡ take 1 lb) × (drop 1 la ++ ra ≡ drop 1 lb ++ rb)
same_language [] ra lb rb p q e = absurd p
same_language (s ∷ la) ra [] rb p q e = absurd q
same_language (s ∷ la) ra (t ∷ lb) rb p q e =
    let head : s ≡ t = cc in
    let tail : la ++ ra ≡ lb ++ rb = cc in
    (ap (λ (x : List ℕ). x ∷ []) head, tail)

-- two derivations of one list have the same parts
pub same_parts : (list : List (List ℕ)) (a b : IsLangtag list) → HaveSameParts a b
same_parts list a b =
    let first =
    same_language a.language (after_extlangs a) b.language (after_extlangs b) a.language_ok
    b.language_ok (sym a.whole ∙ b.whole) in
    let extlangs =
    same_split is_extlang (after_language a) (after_language b) _ _ _ _ first.1 (split_extlangs a)
    (split_extlangs b) in
    let script =
    same_split is_script (after_extlangs a) (after_extlangs b) _ _ _ _ extlangs.1 (split_script a)
    (split_script b) in
    let region =
    same_split is_region (after_script a) (after_script b) _ _ _ _ script.1 (split_region a)
    (split_region b) in
    let variants =
    same_split is_variant (after_region a) (after_region b) _ _ _ _ region.1 (split_variants a)
    (split_variants b) in
    let end =
    same_split is_other (after_variants a) (after_variants b) _ _ _ _ variants.1
    (split_extensions a) (split_extensions b) in
    let front : take 1 a.language ≡ take 1 b.language = first.0 in
    let back : drop 1 a.language ≡ drop 1 b.language = extlangs.0 in
    record {
      language =
          sym (take-append-drop 1 a.language)
          ∙ (ap (λ (x : List (List ℕ)). x ++ drop 1 a.language) front
          ∙ (ap (λ (x : List (List ℕ)). take 1 b.language ++ x) back
          ∙ take-append-drop 1 b.language));
      script = script.0;
      region = region.0;
      variants = variants.0;
      extensions = end.0;
      private = end.1;
    }

-- the parts of a langtag make its list, in order
pub in_order : (list : List (List ℕ)) (t : IsLangtag list)
    → list ≡ take 1 t.language ++ (drop 1 t.language ++ after_extlangs t)
in_order list t =
    t.whole
    ∙ (ap (λ (x : List (List ℕ)). x ++ after_extlangs t) (sym (take-append-drop 1 t.language))
    ∙ append_assoc (take 1 t.language) (drop 1 t.language) (after_extlangs t))

-- ---- the other tags

-- Private use alone is no langtag.
pub private_apart : (list : List (List ℕ)) → IsPrivate list → IsLangtag list → ⊥
private_apart [] p t = absurd p
private_apart (s ∷ []) p t = absurd p
private_apart (s ∷ u ∷ more) p t =
    no_langtag (s ∷ u ∷ more) s (u ∷ more) refl (x_text s p.0) t

-- the stages do not accept the text
abbrev is_unstaged : List ℕ → Bool
is_unstaged text = not (accepts (pieces text) (Some Start))

irregular_unstaged : list_all is_unstaged irregular ≡ true
unfolding accepts pieces_by is_run is_short_language is_long_language is_extlang is_script is_region
    is_variant is_x is_singleton is_extension_piece is_private_piece
irregular_unstaged = refl

among : (text : List ℕ) (tags : List (List ℕ)) → list_any (λ tag. bytes_eq tag text) tags ≡ true
    → list_all is_unstaged tags ≡ true → is_unstaged text ≡ true
among text [] h all = cc
among text (tag ∷ tags) h all =
    let parts = each_true (is_unstaged tag) (list_all is_unstaged tags) all in
    elim (one_true (bytes_eq tag text) (list_any (λ tag. bytes_eq tag text) tags) h) [
      | inl e ↦ ap is_unstaged (sym ((bytes_eq-Decides tag text).0 e)) ∙ parts.0
      | inr r ↦ among text tags r parts.1
    ]

-- An irregular tag is no langtag.
pub irregular_apart : (text : List ℕ) → is_irregular text ≡ true → IsLangtag (pieces text) → ⊥
unfolding is_irregular
irregular_apart text h t =
    let none : accepts (pieces text) (Some Start) ≡ false =
    true_not _ (among text irregular h irregular_unstaged) in
    let some : accepts (pieces text) (Some Start) ≡ true = accepted (pieces text) (inr t) in
    cc
