-- A question has one answer over a catalogue.
use Rattle.std.proofs.Common.{◌≡◌, ℕ, List, Option, Some, None, refl, sym, ap, ◌∙◌}
use Rattle.std.specs.FinMap.Entries.{find}
use Rattle.lang_core.specs.Text.{pieces, joined}
use Rattle.list_core.specs.Item.{Item}
use Rattle.list_core.specs.declared.scheme.Scheme.{Scheme}
use Rattle.nego_core.specs.declared.widening.Widening.{Widening}
use Rattle.nego_core.specs.declared.widening.Widening.TheVariants.{Off, By}
use Rattle.nego_core.proofs.FilteringLemmas.{one_filtered}
use Rattle.nego_core.proofs.ChoosingCandidatesLemmas.{one_lookup}
use Rattle.nego_core.proofs.WideningLemmas.{one_widened}
use Rattle.catalogue.specs.declared.reply.Reply.{Reply}
use Rattle.catalogue.specs.declared.reply.Reply.TheVariants.{Matched, Default, Nothing}
use Rattle.cell_core.specs.Entry.{text_cmp}
use Rattle.catalogue.specs.Entries.{Entries}
use Rattle.catalogue.specs.Live.{Labelled, live, languages, is_live}
use Rattle.catalogue.specs.Asking.{Weighed, picked, Finds, IsFilterAnswer, IsLookedUpIn}
use Rattle.catalogue.specs.Asking.{IsLookupAnswer, IsLookupAnswerBy}
use Rattle.catalogue.proofs.Basics.{some_same}
use Rattle.lang_core.proofs.PiecesLemmas.{joined-pieces}

-- texts with the same pieces are one
same_text : (x y : List ℕ) → pieces x ≡ pieces y → x ≡ y
same_text x y e = sym (joined-pieces x) ∙ ap joined e ∙ joined-pieces y

-- A filter has only one answer over a catalogue.
pub one_filter_answer : (cells : Entries) (id : List ℕ) (scheme : Scheme) (items : List Item)
    (a b : Weighed) → IsFilterAnswer cells id scheme items a
    → IsFilterAnswer cells id scheme items b → a ≡ b
one_filter_answer cells id scheme items a b f g =
    f.answer_is
    ∙ ap (picked (live cells id))
    (one_filtered scheme items (languages (live cells id)) f.picks g.picks f.filtered
    g.filtered) ∙ sym g.answer_is

-- lookup finds one language, widened or not
one_found : (widening : Widening) (labels : Labelled) (items : List Item)
    (a b : Option (List (List ℕ))) → Finds widening labels items a → Finds widening labels items b
    → a ≡ b
one_found Off labels items a b f g = one_lookup items (is_live labels) a b f g
one_found (By scheme) labels items a b f g = one_widened scheme items (languages labels) a b f g

module _ (widening : Widening) (labels : Labelled) (items : List Item) where
  -- what was found is not also not found
  found_or_none : (lang : List ℕ) → Finds widening labels items (Some (pieces lang))
      → Finds widening labels items None → ⊥
  found_or_none lang f g =
      let e = one_found widening labels items (Some (pieces lang)) None f g in cc

  -- a language has one label
  one_label : (lang lang2 : List ℕ) (label label2 : List (List ℕ)) → lang ≡ lang2
      → find text_cmp lang labels ≡ Some label → find text_cmp lang2 labels ≡ Some label2
      → label ≡ label2
  one_label lang lang2 label label2 e f g =
      some_same label label2 (sym f ∙ ap (λ x. find text_cmp x labels) e ∙ g)

  -- an answer over the labels is one
  pub one_reply : (default : Option (List ℕ)) (a b : Reply)
      → IsLookedUpIn widening labels items default a → IsLookedUpIn widening labels items default b
      → a ≡ b
  one_reply default (Matched x p) (Matched y q) f g =
      let found = one_found widening labels items (Some (pieces x)) (Some (pieces y)) f.0 g.0 in
      let e : x ≡ y = same_text x y (some_same (pieces x) (pieces y) found) in
      let l : p ≡ q = one_label x y p q e f.1 g.1 in
      λ i. Matched (e i) (l i)
  one_reply default (Matched x p) (Default y q) f g = absurd (found_or_none x f.0 g.0)
  one_reply default (Matched x p) Nothing f g = absurd (found_or_none x f.0 g.0)
  one_reply default (Default x p) (Matched y q) f g = absurd (found_or_none y g.0 f.0)
  one_reply default (Default x p) (Default y q) f g =
      let e : x ≡ y = some_same x y (sym f.2 ∙ g.2) in
      let l : p ≡ q = one_label x y p q e f.3 g.3 in
      λ i. Default (e i) (l i)
  one_reply default (Default x p) Nothing f g = absurd (g.1 f.1)
  one_reply default Nothing (Matched y q) f g = absurd (found_or_none y g.0 f.0)
  one_reply default Nothing (Default y q) f g = absurd (f.1 g.1)
  one_reply default Nothing Nothing f g = refl

-- a lookup over a catalogue has one answer, widened or not
pub one_lookup_answer_by : (widening : Widening) (cells : Entries) (id : List ℕ)
    (items : List Item) (default : Option (List ℕ)) (a b : Reply)
    → IsLookupAnswerBy widening cells id items default a
    → IsLookupAnswerBy widening cells id items default b → a ≡ b
one_lookup_answer_by widening cells id items default a b f g =
    one_reply widening (live cells id) items default a b f g

-- a lookup over a catalogue has one answer
pub one_lookup_answer : (cells : Entries) (id : List ℕ) (items : List Item)
    (default : Option (List ℕ)) (a b : Reply) → IsLookupAnswer cells id items default a
    → IsLookupAnswer cells id items default b → a ≡ b
one_lookup_answer = one_lookup_answer_by Off
