-- The stages accept each private tag and each langtag.
--
-- A stage says what may come next in a tag. For the parts of RFC 5646's grammar from the last to
-- the first: a stage at which the tag may end accepts the empty rest, extensions and a private
-- part; one that may vary accepts variants before these; one that may place accepts a region before
-- those; and so on to the language. Each part is accepted by steps of its subtags, and leaves a
-- stage that accepts the rest.
use Rattle.std.proofs.Common.{ℕ, ◌≡◌, ◌≤◌, ◌<◌, ◌-◌, ◌⊎◌, inl, inr, List, [], ◌∷◌, ◌++◌, Some}
use Rattle.std.proofs.Common.{Option, true, length, refl, sym, subst, arith, append_assoc}
use Rattle.std.specs.Prelude.{nat_lt}
use Rattle.std.specs.List.{list_all, flat_map, AllByRecursion}
use Rattle.lang_core.specs.Grammar.{is_short_language, is_long_language, is_extlang, is_script}
use Rattle.lang_core.specs.Grammar.{is_region, is_variant, is_x, is_singleton, is_extension_piece}
use Rattle.lang_core.specs.Grammar.{is_private_piece, AreAll, IsAtMostOne, IsExtension, IsPrivate}
use Rattle.lang_core.specs.Grammar.{IsLanguage, AreExtensions, IsMaybePrivate, IsLangtag}
use Rattle.lang_core.specs.inner.Stage.{next_stage, is_complete, accepts}
use Rattle.lang_core.specs.declared.stage.Stage.{Stage}
use Rattle.lang_core.specs.declared.stage.Stage.TheVariants.{Start, Language, Script, Variants}
use Rattle.lang_core.specs.declared.stage.Stage.TheVariants.{Singleton, Extension, PrivateStart}
use Rattle.lang_core.specs.declared.stage.Stage.TheVariants.{Private}
use Rattle.lang_core.proofs.Basics.{each_true, one_true, and_false, is_lt}
use Rattle.lang_core.proofs.KindLemmas.{size_x, x_singleton, IsSingle, single, variant_only}
use Rattle.lang_core.proofs.KindLemmas.{region_extlang, region_script, script_extlang, long_short}
use Rattle.lang_core.proofs.KindLemmas.{size_singleton}

-- a stage at which a tag may end, and after which an extension or a private part may come
pub record CanEnd (stage : Stage) : Type 0 where
  pub done : is_complete stage ≡ true
  pub private : (s : List ℕ) → is_x s ≡ true → next_stage stage s ≡ Some PrivateStart
  pub extension : (s : List ℕ) → is_singleton s ≡ true → next_stage stage s ≡ Some Singleton

-- A stage at which a tag may end, and after which a variant may come as well.
pub record CanVary (stage : Stage) : Type 0 where
  pub end : CanEnd stage
  pub variant : (s : List ℕ) → is_variant s ≡ true → next_stage stage s ≡ Some Variants

-- A stage at which a tag may end, and after which a region or a variant may come as well.
pub record CanPlace (stage : Stage) : Type 0 where
  pub vary : CanVary stage
  pub region : (s : List ℕ) → is_region s ≡ true → next_stage stage s ≡ Some Variants

one_of_x : (s : List ℕ) → is_x s ≡ true → IsSingle s
one_of_x s h = single s (let n = size_x s h in omega arith)

one_of_singleton : (s : List ℕ) → is_singleton s ≡ true → IsSingle s
one_of_singleton s h = single s (let n = size_singleton s h in omega arith)

extension_end : CanEnd Extension
extension_end = record {
  done = refl;
  private = λ s h. rw ((one_of_x s h).piece, x_singleton s h, h) refl;
  extension = λ s h. rw ((one_of_singleton s h).piece, h) refl;
}

variants_end : CanEnd Variants
variants_end = record {
  done = refl;
  private = λ s h. rw ((one_of_x s h).variant, x_singleton s h, h) refl;
  extension = λ s h. rw ((one_of_singleton s h).variant, h) refl;
}

script_end : CanEnd Script
script_end = record {
  done = refl;
  private = λ s h. rw ((one_of_x s h).region, (one_of_x s h).variant, x_singleton s h, h) refl;
  extension = λ s h. rw ((one_of_singleton s h).region, (one_of_singleton s h).variant, h) refl;
}

language_end : (left : ℕ) → CanEnd (Language left)
language_end left = record {
  done = refl;
  private =
      λ s h.
      rw (
        (one_of_x s h).extlang,
        and_false (nat_lt 0 left),
        (one_of_x s h).script,
        (one_of_x s h).region,
        (one_of_x s h).variant,
        x_singleton s h,
        h,
      ) refl;
  extension =
      λ s h.
      rw (
        (one_of_singleton s h).extlang,
        and_false (nat_lt 0 left),
        (one_of_singleton s h).script,
        (one_of_singleton s h).region,
        (one_of_singleton s h).variant,
        h,
      ) refl;
}

variants_vary : CanVary Variants
variants_vary = record { end = variants_end; variant = λ s h. rw h refl }

script_vary : CanVary Script
script_vary = record { end = script_end; variant = λ s h. rw ((variant_only s h).region, h) refl }

language_vary : (left : ℕ) → CanVary (Language left)
language_vary left = record {
  end = language_end left;
  variant =
      λ s h.
      rw (
        (variant_only s h).extlang,
        and_false (nat_lt 0 left),
        (variant_only s h).script,
        (variant_only s h).region,
        h,
      ) refl;
}

script_place : CanPlace Script
script_place = record { vary = script_vary; region = λ s h. rw h refl }

language_place : (left : ℕ) → CanPlace (Language left)
language_place left = record {
  vary = language_vary left;
  region = λ s h. rw (region_extlang s h, and_false (nat_lt 0 left), region_script s h, h) refl;
}

language_script : (left : ℕ) (s : List ℕ) → is_script s ≡ true
    → next_stage (Language left) s ≡ Some Script
language_script left s h = rw (script_extlang s h, and_false (nat_lt 0 left), h) refl

-- one step
step : (stage next : Stage) (s : List ℕ) (more : List (List ℕ)) → next_stage stage s ≡ Some next
    → accepts more (Some next) ≡ true → accepts (s ∷ more) (Some stage) ≡ true
unfolding accepts
step stage next s more e h =
    let P : Option Stage → Type 0 = λ after. accepts more after ≡ true in
    subst P (sym e) h

ends : (stage : Stage) → is_complete stage ≡ true → accepts [] (Some stage) ≡ true
unfolding accepts
ends stage h = h

accepts_private : (more : List (List ℕ)) → AreAll is_private_piece more
    → accepts more (Some Private) ≡ true
accepts_private [] h = ends Private refl
accepts_private (s ∷ more) h =
    let parts = each_true (is_private_piece s) (list_all is_private_piece more) h in
    step Private Private s more (rw parts.0 refl) (accepts_private more parts.1)

accepts_x : (stage : Stage) (list : List (List ℕ))
    → ((s : List ℕ) → is_x s ≡ true → next_stage stage s ≡ Some PrivateStart) → IsPrivate list
    → accepts list (Some stage) ≡ true
accepts_x stage [] can p = absurd p
accepts_x stage (s ∷ []) can p = absurd p
accepts_x stage (s ∷ t ∷ more) can p =
    let parts = each_true (is_private_piece t) (list_all is_private_piece more) p.1 in
    step stage PrivateStart s (t ∷ more) (can s p.0)
    (step PrivateStart Private t more (rw parts.0 refl) (accepts_private more parts.1))

accepts_maybe : (stage : Stage) (list : List (List ℕ)) → CanEnd stage → IsMaybePrivate list
    → accepts list (Some stage) ≡ true
accepts_maybe stage list can (inl e) = rw e (ends stage can.done)
accepts_maybe stage list can (inr p) = accepts_x stage list can.private p

accepts_pieces : (pieces rest : List (List ℕ)) → AreAll is_extension_piece pieces
    → accepts rest (Some Extension) ≡ true → accepts (pieces ++ rest) (Some Extension) ≡ true
accepts_pieces [] rest a h = h
accepts_pieces (s ∷ pieces) rest a h =
    let parts = each_true (is_extension_piece s) (list_all is_extension_piece pieces) a in
    step Extension Extension s (pieces ++ rest) (rw parts.0 refl)
    (accepts_pieces pieces rest parts.1 h)

accepts_one : (stage : Stage) (extension rest : List (List ℕ)) → CanEnd stage
    → IsExtension extension → accepts rest (Some Extension) ≡ true
    → accepts (extension ++ rest) (Some stage) ≡ true
accepts_one stage [] rest can e h = absurd e
accepts_one stage (s ∷ []) rest can e h = absurd e
accepts_one stage (s ∷ t ∷ pieces) rest can e h =
    let parts = each_true (is_extension_piece t) (list_all is_extension_piece pieces) e.1 in
    step stage Singleton s (t ∷ (pieces ++ rest)) (can.extension s e.0)
    (step Singleton Extension t (pieces ++ rest) (rw parts.0 refl)
    (accepts_pieces pieces rest parts.1 h))

-- Appending is associative.
pub regroup : (a b c : List (List ℕ)) → (a ++ b) ++ c ≡ a ++ (b ++ c)
regroup a b c = rw append_assoc refl

accepts_each : (stage : Stage) (each : List (List (List ℕ))) (private : List (List ℕ))
    → CanEnd stage → AllByRecursion IsExtension each → IsMaybePrivate private
    → accepts (flat_map (λ extension. extension) each ++ private) (Some stage) ≡ true
accepts_each stage [] private can a p = accepts_maybe stage private can p
accepts_each stage (e ∷ es) private can a p =
    let P : List (List ℕ) → Type 0 = λ list. accepts list (Some stage) ≡ true in
    subst P (sym (regroup e (flat_map (λ extension. extension) es) private))
    (accepts_one stage e (flat_map (λ extension. extension) es ++ private) can a.0
    (accepts_each Extension es private extension_end a.1 p))

accepts_end : (stage : Stage) (extensions private : List (List ℕ)) → CanEnd stage
    → AreExtensions extensions → IsMaybePrivate private
    → accepts (extensions ++ private) (Some stage) ≡ true
accepts_end stage extensions private can x p =
    let P : List (List ℕ) → Type 0 = λ list. accepts (list ++ private) (Some stage) ≡ true in
    subst P (sym x.whole) (accepts_each stage x.each private can x.extensions p)

accepts_variants : (stage : Stage) (variants rest : List (List ℕ)) → CanVary stage
    → AreAll is_variant variants → ((can : Stage) → CanEnd can → accepts rest (Some can) ≡ true)
    → accepts (variants ++ rest) (Some stage) ≡ true
accepts_variants stage [] rest can a h = h stage can.end
accepts_variants stage (s ∷ variants) rest can a h =
    let parts = each_true (is_variant s) (list_all is_variant variants) a in
    step stage Variants s (variants ++ rest) (can.variant s parts.0)
    (accepts_variants Variants variants rest variants_vary parts.1 h)

accepts_region : (stage : Stage) (region rest : List (List ℕ)) → CanPlace stage
    → IsAtMostOne is_region region → ((can : Stage) → CanVary can → accepts rest (Some can) ≡ true)
    → accepts (region ++ rest) (Some stage) ≡ true
accepts_region stage [] rest can a h = h stage can.vary
accepts_region stage (s ∷ []) rest can a h =
    step stage Variants s rest (can.region s a) (h Variants variants_vary)
accepts_region stage (s ∷ t ∷ more) rest can a h = absurd a

accepts_script : (left : ℕ) (script rest : List (List ℕ)) → IsAtMostOne is_script script
    → ((can : Stage) → CanPlace can → accepts rest (Some can) ≡ true)
    → accepts (script ++ rest) (Some (Language left)) ≡ true
accepts_script left [] rest a h = h (Language left) (language_place left)
accepts_script left (s ∷ []) rest a h =
    step (Language left) Script s rest (language_script left s a) (h Script script_place)
accepts_script left (s ∷ t ∷ more) rest a h = absurd a

language_extlang : (left : ℕ) (s : List ℕ) → 0 < left → is_extlang s ≡ true
    → next_stage (Language left) s ≡ Some (Language (left - 1))
language_extlang left s n h = rw (is_lt 0 left n, h) refl

accepts_extlangs : (left : ℕ) (extlangs rest : List (List ℕ)) → AreAll is_extlang extlangs
    → length extlangs ≤ left → ((any : ℕ) → accepts rest (Some (Language any)) ≡ true)
    → accepts (extlangs ++ rest) (Some (Language left)) ≡ true
accepts_extlangs left [] rest a few h = h left
accepts_extlangs left (s ∷ extlangs) rest a few h =
    let parts = each_true (is_extlang s) (list_all is_extlang extlangs) a in
    step (Language left) (Language (left - 1)) s (extlangs ++ rest)
    (language_extlang left s (omega arith) parts.0)
    (accepts_extlangs (left - 1) extlangs rest parts.1 (omega arith) h)

start_short : (s : List ℕ) → is_short_language s ≡ true → next_stage Start s ≡ Some (Language 3)
start_short s h = rw h refl

start_long : (s : List ℕ) → is_long_language s ≡ true → next_stage Start s ≡ Some (Language 0)
start_long s h = rw (long_short s h, h) refl

start_x : (s : List ℕ) → is_x s ≡ true → next_stage Start s ≡ Some PrivateStart
start_x s h = rw ((one_of_x s h).short, (one_of_x s h).long, h) refl

accepts_language : (language rest : List (List ℕ)) → IsLanguage language
    → ((any : ℕ) → accepts rest (Some (Language any)) ≡ true)
    → accepts (language ++ rest) (Some Start) ≡ true
accepts_language [] rest ok h = absurd ok
accepts_language (s ∷ []) rest ok h =
    elim (one_true (is_short_language s) (is_long_language s) ok) [
      | inl e ↦ step Start (Language 3) s rest (start_short s e) (h 3)
      | inr e ↦ step Start (Language 0) s rest (start_long s e) (h 0)
    ]
accepts_language (s ∷ t ∷ extlangs) rest ok h =
    step Start (Language 3) s (t ∷ (extlangs ++ rest)) (start_short s ok.0)
    (accepts_extlangs 3 (t ∷ extlangs) rest ok.1 ok.2 h)

accepts_langtag : (list : List (List ℕ)) → IsLangtag list → accepts list (Some Start) ≡ true
accepts_langtag list t =
    let P : List (List ℕ) → Type 0 = λ some. accepts some (Some Start) ≡ true in
    subst P (sym t.whole)
    (accepts_language t.language _ t.language_ok (λ left.
    accepts_script left t.script _ t.script_ok (λ place can_place.
    accepts_region place t.region _ can_place t.region_ok (λ vary can_vary.
    accepts_variants vary t.variants _ can_vary t.variants_ok (λ end can_end.
    accepts_end end t.extensions t.private can_end t.extensions_ok t.private_ok)))))

-- each private tag and each langtag is accepted
pub accepted : (list : List (List ℕ)) → IsPrivate list ⊎ IsLangtag list
    → accepts list (Some Start) ≡ true
accepted list (inl p) = accepts_x Start list start_x p
accepted list (inr t) = accepts_langtag list t
