-- Languages are in lower case.
use Rattle.std.proofs.Common.{◌≡◌, ◌∙◌, ℕ, List, [], ◌∷◌, true, map, refl, ap}
use Rattle.std.proofs.Common.{ap₂, sym, subst, inl, inr, ◌+◌}
use Rattle.std.specs.List.{list_all}
use Rattle.std.specs.Str.{str_to_ascii_lowercase}
use Rattle.lang_core.specs.Tag.{IsTag}
use Rattle.lang_core.specs.Grammar.{are_allowed, is_alphanum, is_private_piece, is_run, tag_piece}
use Rattle.lang_core.specs.Lang.{IsLang, SpellsLang}
use Rattle.lang_core.specs.Text.{joined, pieces}
use Rattle.lang_core.proofs.PiecesLemmas.{joined-pieces, pieces-lower}
use Rattle.lang_core.proofs.Basics.{each_true}
use Rattle.lang_core.proofs.SubtagCaseLemmas.{lower_alphanums as lower_piece}
use Rattle.catalogue.proofs.Basics.{second_so as second_true}

run_bytes : (s : List ℕ) → is_private_piece s ≡ true → list_all is_alphanum s ≡ true
unfolding is_private_piece is_run
run_bytes s h = second_true _ (list_all is_alphanum s) h

lower_pieces : (k : ℕ) (ss : List (List ℕ)) → are_allowed tag_piece k ss ≡ true
    → map str_to_ascii_lowercase ss ≡ ss
lower_pieces k [] h = refl
lower_pieces k (s ∷ ss) h = let both = each_true (is_private_piece s) _ h in
    ap₂ (λ x xs. x ∷ xs) (lower_piece s (run_bytes s both.0)) (lower_pieces (k + 1) ss both.1)

lower_tag : (text : List ℕ) → are_allowed tag_piece 0 (pieces text) ≡ true
    → str_to_ascii_lowercase text ≡ text
lower_tag text h =
    sym (joined-pieces (str_to_ascii_lowercase text))
    ∙ (ap joined (pieces-lower text ∙ lower_pieces 0 (pieces text) h)
    ∙ joined-pieces text)

-- a language is its own lower case
pub lower-IsLang : (text : List ℕ) → IsLang text → str_to_ascii_lowercase text ≡ text
lower-IsLang text is = elim is [ inl none ↦ rw none refl | inr tag ↦ lower_tag text tag.1 ]

-- and it spells itself
pub spells-IsLang : (text : List ℕ) → IsLang text → SpellsLang text text
spells-IsLang text is = elim is [
  | inl none ↦ inl (none, none)
  | inr tag ↦ let same = lower_tag text tag.1 in inr (subst IsTag (sym same) tag, sym same)
]
