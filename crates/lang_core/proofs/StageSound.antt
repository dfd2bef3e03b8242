-- The stages accept a list only if it is a private tag or a langtag.
--
-- `Follows` gives for each stage the lists that may follow it to the end of the tag, as RFC 5646's
-- grammar has them. By induction over the list, what the stages accept from a stage on follows it:
-- the first subtag is of one class, and the stage after it says what the rest is. From the first
-- stage this is the grammar itself.
use Rattle.std.proofs.Common.{ℕ, ◌≡◌, ◌≤◌, ◌<◌, ◌-◌, ◌⊎◌, inl, inr, List, [], ◌∷◌, ◌++◌, Some, None}
use Rattle.std.proofs.Common.{Option, Bool, true, false, cond, length, refl, sym, ◌∙◌, ap, arith}
use Rattle.std.specs.Prelude.{IsTrue, nat_lt, ◌&&◌}
use Rattle.std.proofs.lemmas.Bool.{ltb-true}
use Rattle.lang_core.specs.Grammar.{is_short_language, is_long_language, is_extlang, is_script}
use Rattle.lang_core.specs.Grammar.{is_region, is_variant, is_x, is_singleton, is_extension_piece}
use Rattle.lang_core.specs.Grammar.{is_private_piece, AreAll, IsAtMostOne, IsPrivate, IsLanguage}
use Rattle.lang_core.specs.Grammar.{AreExtensions, IsMaybePrivate, IsLangtag}
use Rattle.lang_core.specs.inner.Stage.{private_stage, extension_stage, variant_stage, region_stage}
use Rattle.lang_core.specs.inner.Stage.{script_stage, language_stage, start_stage, accepts}
use Rattle.lang_core.specs.declared.stage.Stage.{Stage}
use Rattle.lang_core.specs.declared.stage.Stage.TheVariants.{Start, Language, Script, Variants}
use Rattle.lang_core.specs.declared.stage.Stage.TheVariants.{Singleton, Extension, PrivateStart}
use Rattle.lang_core.specs.declared.stage.Stage.TheVariants.{Private}
use Rattle.lang_core.proofs.Basics.{each_true, both, or_left, or_right}
use Rattle.lang_core.proofs.StageComplete.{regroup}

-- ---- what may follow each stage

-- The end of a tag: any extensions, then a private part or none.
pub record EndPart (list : List (List ℕ)) : Type 0 where
  pub extensions : List (List ℕ)
  pub private : List (List ℕ)
  pub whole : list ≡ extensions ++ private
  pub extensions_ok : AreExtensions extensions
  pub private_ok : IsMaybePrivate private

-- The end of a tag from its variants on: any variants, then extensions and a private part.
pub record VariantPart (list : List (List ℕ)) : Type 0 where
  pub variants : List (List ℕ)
  pub rest : List (List ℕ)
  pub whole : list ≡ variants ++ rest
  pub variants_ok : AreAll is_variant variants
  pub rest_ok : EndPart rest

-- The end of a tag from its region on: a region or none, then what may follow it.
pub record RegionPart (list : List (List ℕ)) : Type 0 where
  pub region : List (List ℕ)
  pub rest : List (List ℕ)
  pub whole : list ≡ region ++ rest
  pub region_ok : IsAtMostOne is_region region
  pub rest_ok : VariantPart rest

-- The end of a tag from its script on: a script or none, then what may follow it.
pub record ScriptPart (list : List (List ℕ)) : Type 0 where
  pub script : List (List ℕ)
  pub rest : List (List ℕ)
  pub whole : list ≡ script ++ rest
  pub script_ok : IsAtMostOne is_script script
  pub rest_ok : RegionPart rest

-- The end of a tag from its extlangs on: at most `left` of them, then what may follow them.
pub record ExtlangPart (left : ℕ) (list : List (List ℕ)) : Type 0 where
  pub extlangs : List (List ℕ)
  pub rest : List (List ℕ)
  pub whole : list ≡ extlangs ++ rest
  pub extlangs_ok : AreAll is_extlang extlangs
  pub few : length extlangs ≤ left
  pub rest_ok : ScriptPart rest

-- The end of a tag within an extension: more of its subtags, then the end of the tag.
pub record ExtensionPart (list : List (List ℕ)) : Type 0 where
  pub pieces : List (List ℕ)
  pub rest : List (List ℕ)
  pub whole : list ≡ pieces ++ rest
  pub pieces_ok : AreAll is_extension_piece pieces
  pub rest_ok : EndPart rest

-- A subtag of one kind, and after it a list of another form.
abbrev pub AtLeastOne : (List (List ℕ) → Type 0) → (List ℕ → Bool) → List (List ℕ) → Type 0
AtLeastOne P piece [] = ⊥
AtLeastOne P piece (s ∷ more) = IsTrue (piece s) × P more

-- The lists of subtags that may follow a stage, to the end of the tag.
abbrev pub Follows : Stage → List (List ℕ) → Type 0
Follows Start list = IsPrivate list ⊎ IsLangtag list
Follows (Language left) list = ExtlangPart left list
Follows Script list = RegionPart list
Follows Variants list = VariantPart list
Follows Singleton list = AtLeastOne ExtensionPart is_extension_piece list
Follows Extension list = ExtensionPart list
Follows PrivateStart list = AtLeastOne (AreAll is_private_piece) is_private_piece list
Follows Private list = AreAll is_private_piece list

-- ---- what the stages accept has that form

by_test : (b : Bool) (x y : Option Stage) (more : List (List ℕ)) → accepts more (cond b x y) ≡ true
    → ((b ≡ true) × (accepts more x ≡ true)) ⊎ ((b ≡ false) × (accepts more y ≡ true))
by_test true x y more h = inl (refl, h)
by_test false x y more h = inr (refl, h)

not_none : (list : List (List ℕ)) → accepts list None ≡ true → ⊥
unfolding accepts
not_none list h = cc

private_is : (s : List ℕ) (more : List (List ℕ)) → is_x s ≡ true → Follows PrivateStart more
    → IsPrivate (s ∷ more)
private_is s [] x f = absurd f
private_is s (t ∷ more) x f = (x, both _ _ f.0 f.1)

from_private : (s : List ℕ) (more : List (List ℕ)) → accepts more (private_stage s) ≡ true
    → ((stage : Stage) → accepts more (Some stage) ≡ true → Follows stage more)
    → IsPrivate (s ∷ more)
from_private s more h next = elim (by_test (is_x s) (Some PrivateStart) None more h) [
  | inl w ↦ private_is s more w.0 (next PrivateStart w.1)
  | inr w ↦ absurd (not_none more w.1)
]

end_of_private : (list : List (List ℕ)) → IsPrivate list → EndPart list
end_of_private list p = record {
  extensions = [];
  private = list;
  whole = refl;
  extensions_ok = record { each = []; whole = refl; extensions = tt };
  private_ok = inr p;
}

with_extension : (s : List ℕ) (more : List (List ℕ)) → is_singleton s ≡ true
    → Follows Singleton more → EndPart (s ∷ more)
with_extension s [] h f = absurd f
with_extension s (t ∷ more) h f = record {
  extensions = (s ∷ t ∷ f.1.pieces) ++ f.1.rest_ok.extensions;
  private = f.1.rest_ok.private;
  whole =
      ap (λ x. s ∷ t ∷ x)
      (f.1.whole
      ∙ (ap (λ x. f.1.pieces ++ x) f.1.rest_ok.whole
      ∙ sym (regroup f.1.pieces f.1.rest_ok.extensions f.1.rest_ok.private)));
  extensions_ok = record {
    each = (s ∷ t ∷ f.1.pieces) ∷ f.1.rest_ok.extensions_ok.each;
    whole = ap (λ x. (s ∷ t ∷ f.1.pieces) ++ x) f.1.rest_ok.extensions_ok.whole;
    extensions = ((h, both _ _ f.0 f.1.pieces_ok), f.1.rest_ok.extensions_ok.extensions);
  };
  private_ok = f.1.rest_ok.private_ok;
}

from_extension : (s : List ℕ) (more : List (List ℕ)) → accepts more (extension_stage s) ≡ true
    → ((stage : Stage) → accepts more (Some stage) ≡ true → Follows stage more) → EndPart (s ∷ more)
from_extension s more h next =
    elim (by_test (is_singleton s) (Some Singleton) (private_stage s) more h) [
      | inl w ↦ with_extension s more w.0 (next Singleton w.1)
      | inr w ↦ end_of_private (s ∷ more) (from_private s more w.1 next)
    ]

with_variant : (s : List ℕ) (more : List (List ℕ)) → is_variant s ≡ true → VariantPart more
    → VariantPart (s ∷ more)
with_variant s more h f =
    record {
      variants = s ∷ f.variants;
      rest = f.rest;
      whole =
          ap (λ x. s ∷ x) f.whole;
      variants_ok = both _ _ h f.variants_ok;
      rest_ok = f.rest_ok;
    }

from_variant : (s : List ℕ) (more : List (List ℕ)) → accepts more (variant_stage s) ≡ true
    → ((stage : Stage) → accepts more (Some stage) ≡ true → Follows stage more)
    → VariantPart (s ∷ more)
from_variant s more h next =
    elim (by_test (is_variant s) (Some Variants) (extension_stage s) more h) [
      | inl w ↦ with_variant s more w.0 (next Variants w.1)
      | inr w ↦
          record {
            variants = [];
            rest = s ∷ more;
            whole = refl;
            variants_ok = refl;
            rest_ok =
                from_extension s more w.1 next;
          }
    ]

from_region : (s : List ℕ) (more : List (List ℕ)) → accepts more (region_stage s) ≡ true
    → ((stage : Stage) → accepts more (Some stage) ≡ true → Follows stage more)
    → RegionPart (s ∷ more)
from_region s more h next = elim (by_test (is_region s) (Some Variants) (variant_stage s) more h) [
  | inl w ↦
      record {
        region = s ∷ [];
        rest = more;
        whole = refl;
        region_ok = w.0;
        rest_ok =
            next Variants w.1;
      }
  | inr w ↦
      record {
        region = [];
        rest = s ∷ more;
        whole = refl;
        region_ok = tt;
        rest_ok =
            from_variant s more w.1 next;
      }
]

from_script : (s : List ℕ) (more : List (List ℕ)) → accepts more (script_stage s) ≡ true
    → ((stage : Stage) → accepts more (Some stage) ≡ true → Follows stage more)
    → ScriptPart (s ∷ more)
from_script s more h next = elim (by_test (is_script s) (Some Script) (region_stage s) more h) [
  | inl w ↦
      record {
        script = s ∷ [];
        rest = more;
        whole = refl;
        script_ok = w.0;
        rest_ok =
            next Script w.1;
      }
  | inr w ↦
      record {
        script = [];
        rest = s ∷ more;
        whole = refl;
        script_ok = tt;
        rest_ok =
            from_region s more w.1 next;
      }
]

from_language : (left : ℕ) (s : List ℕ) (more : List (List ℕ))
    → accepts more (language_stage left s) ≡ true
    → ((stage : Stage) → accepts more (Some stage) ≡ true → Follows stage more)
    → ExtlangPart left (s ∷ more)
from_language left s more h next =
    elim (by_test (nat_lt 0 left && is_extlang s) (Some (Language (left - 1))) (script_stage s) more
    h) [
      | inl w ↦ (let tests = each_true (nat_lt 0 left) (is_extlang s) w.0 in
          let some : 0 < left = ltb-true _ _ tests.0 in
          let rest : ExtlangPart (left - 1) more = next (Language (left - 1)) w.1 in
          record {
            extlangs = s ∷ rest.extlangs;
            rest = rest.rest;
            whole = ap (λ x. s ∷ x) rest.whole;
            extlangs_ok = both _ _ tests.1 rest.extlangs_ok;
            few = (let few : length rest.extlangs ≤ left - 1 = rest.few in omega arith);
            rest_ok = rest.rest_ok;
          })
      | inr w ↦
          record {
            extlangs = [];
            rest = s ∷ more;
            whole = refl;
            extlangs_ok = refl;
            few =
                omega arith;
            rest_ok = from_script s more w.1 next;
          }
    ]

-- the end of a tag may come after each complete stage
no_end : EndPart []
no_end =
    record {
      extensions = [];
      private = [];
      whole = refl;
      extensions_ok =
          record { each = []; whole = refl; extensions = tt };
      private_ok = inl refl;
    }

no_variants : VariantPart []
no_variants =
    record { variants = []; rest = []; whole = refl; variants_ok = refl; rest_ok = no_end }

no_region : RegionPart []
no_region = record { region = []; rest = []; whole = refl; region_ok = tt; rest_ok = no_variants }

no_script : ScriptPart []
no_script = record { script = []; rest = []; whole = refl; script_ok = tt; rest_ok = no_region }

langtag_of : (s : List ℕ) (more : List (List ℕ)) (left : ℕ) → (rest : ExtlangPart left more)
    → IsLanguage (s ∷ rest.extlangs) → IsLangtag (s ∷ more)
langtag_of s more left rest ok = record {
  language = s ∷ rest.extlangs;
  script = rest.rest_ok.script;
  region = rest.rest_ok.rest_ok.region;
  variants = rest.rest_ok.rest_ok.rest_ok.variants;
  extensions = rest.rest_ok.rest_ok.rest_ok.rest_ok.extensions;
  private = rest.rest_ok.rest_ok.rest_ok.rest_ok.private;
  whole = cc;
  language_ok = ok;
  script_ok = rest.rest_ok.script_ok;
  region_ok = rest.rest_ok.rest_ok.region_ok;
  variants_ok = rest.rest_ok.rest_ok.rest_ok.variants_ok;
  extensions_ok = rest.rest_ok.rest_ok.rest_ok.rest_ok.extensions_ok;
  private_ok = rest.rest_ok.rest_ok.rest_ok.rest_ok.private_ok;
}

short_language : (s : List ℕ) (extlangs : List (List ℕ)) → is_short_language s ≡ true
    → AreAll is_extlang extlangs → length extlangs ≤ 3 → IsLanguage (s ∷ extlangs)
short_language s [] h a few = or_left _ _ h
short_language s (e ∷ es) h a few = (h, a, few)

long_language : (s : List ℕ) (extlangs : List (List ℕ)) → is_long_language s ≡ true
    → length extlangs ≤ 0 → IsLanguage (s ∷ extlangs)
long_language s [] h few = or_right _ _ h
long_language s (e ∷ es) h few = absurd (omega arith)

from_start : (s : List ℕ) (more : List (List ℕ)) → accepts more (start_stage s) ≡ true
    → ((stage : Stage) → accepts more (Some stage) ≡ true → Follows stage more)
    → IsPrivate (s ∷ more) ⊎ IsLangtag (s ∷ more)
from_start s more h next =
    elim (by_test (is_short_language s) (Some (Language 3))
    (cond (is_long_language s) (Some (Language 0)) (private_stage s)) more h) [
      | inl w ↦
          (let rest : ExtlangPart 3 more = next (Language 3) w.1 in
          inr (langtag_of s more 3 rest
          (short_language s rest.extlangs w.0 rest.extlangs_ok rest.few)))
      | inr w ↦ elim (by_test (is_long_language s) (Some (Language 0)) (private_stage s) more w.1) [
        | inl v ↦
            (let rest : ExtlangPart 0 more = next (Language 0) v.1 in
            inr (langtag_of s more 0 rest (long_language s rest.extlangs v.0 rest.few)))
        | inr v ↦ inl (from_private s more v.1 next)
      ]
    ]

with_piece : (s : List ℕ) (more : List (List ℕ)) → is_extension_piece s ≡ true → ExtensionPart more
    → ExtensionPart (s ∷ more)
with_piece s more h f =
    record {
      pieces = s ∷ f.pieces;
      rest = f.rest;
      whole = ap (λ x. s ∷ x) f.whole;
      pieces_ok =
          both _ _ h f.pieces_ok;
      rest_ok = f.rest_ok;
    }

-- what the stages accept from a stage on may follow it
pub follows : (list : List (List ℕ)) (stage : Stage) → accepts list (Some stage) ≡ true
    → Follows stage list
unfolding accepts
follows [] Start h = cc
follows [] (Language left) h =
    record {
      extlangs = [];
      rest = [];
      whole = refl;
      extlangs_ok = refl;
      few =
          omega arith;
      rest_ok = no_script;
    }
follows [] Script h = no_region
follows [] Variants h = no_variants
follows [] Singleton h = cc
follows [] Extension h =
    record { pieces = []; rest = []; whole = refl; pieces_ok = refl; rest_ok = no_end }
follows [] PrivateStart h = cc
follows [] Private h = refl
follows (s ∷ more) Start h = from_start s more h (follows more)
follows (s ∷ more) (Language left) h = from_language left s more h (follows more)
follows (s ∷ more) Script h = from_region s more h (follows more)
follows (s ∷ more) Variants h = from_variant s more h (follows more)
follows (s ∷ more) Singleton h =
    elim (by_test (is_extension_piece s) (Some Extension) None more h) [
      | inl w ↦ (w.0, follows more Extension w.1)
      | inr w ↦ absurd (not_none more w.1)
    ]
follows (s ∷ more) Extension h =
    elim (by_test (is_extension_piece s) (Some Extension) (extension_stage s) more h) [
      | inl w ↦ with_piece s more w.0 (follows more Extension w.1)
      | inr w ↦
          record {
            pieces = [];
            rest = s ∷ more;
            whole = refl;
            pieces_ok = refl;
            rest_ok =
                from_extension s more w.1 (follows more);
          }
    ]
follows (s ∷ more) PrivateStart h = elim (by_test (is_private_piece s) (Some Private) None more h) [
  | inl w ↦ (w.0, follows more Private w.1)
  | inr w ↦ absurd (not_none more w.1)
]
follows (s ∷ more) Private h = elim (by_test (is_private_piece s) (Some Private) None more h) [
  | inl w ↦ both _ _ w.0 (follows more Private w.1)
  | inr w ↦ absurd (not_none more w.1)
]
