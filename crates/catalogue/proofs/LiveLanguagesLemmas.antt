-- The languages of live labels, as lookup and widened lookup search them.
use Rattle.std.proofs.Common.{◌≡◌, ◌∙◌, ℕ, List, [], ◌∷◌, Option, Some, None, Bool, true, false}
use Rattle.std.proofs.Common.{◌++◌, append-nil, append_assoc, inl, inr, refl, sym, ap, subst}
use Rattle.std.proofs.Common.{true≢false}
use Rattle.std.specs.Ordering.{is_eq}
use Rattle.std.specs.Str.{bytes_eq}
use Rattle.std.specs.Cmp.Lexicographic.{nat_list_cmp_total}
use Rattle.std.proofs.lemmas.Bool.{cases_Bool}
use Rattle.std.proofs.lemmas.Cmp.{tied_itself}
use Rattle.std.proofs.lemmas.List.Elements.{All-nil}
use Rattle.std.proofs.lemmas.Slice.Eq.{bytes_eq-Decides}
use Rattle.lang_core.specs.Text.{pieces}
use Rattle.nego_core.specs.Choosing.{IsChosen, HasOpenDefault}
use Rattle.list_core.specs.Item.{Item}
use Rattle.nego_core.specs.LangSet.{is_among}
use Rattle.nego_core.specs.WidenedChoice.{IsChosenWidened, IsTriedAt, MatchEarliest}
use Rattle.nego_core.specs.declared.choosing.Choice.{Choice}
use Rattle.nego_core.specs.declared.choosing.Choice.TheVariants as choice
use Rattle.list_core.specs.declared.scheme.Scheme.{Scheme}
use Rattle.nego_core.specs.declared.widened_choice.Earliest.{Earliest}
use Rattle.nego_core.specs.declared.widening.Widening.{Widening}
use Rattle.nego_core.specs.declared.widening.Widening.TheVariants.{Off, By}
use Rattle.nego_core.proofs.WideningLemmas.{found_there}
use Rattle.cell_core.specs.Entry.{text_cmp}
use Rattle.nego_core.specs.Shortlist.{IsChosenBy as IsChosenAmong, IsThere}
use Rattle.catalogue.specs.declared.reply.Reply.{Reply}
use Rattle.catalogue.specs.declared.reply.Reply.TheVariants.{Matched, Default, Nothing}
use Rattle.catalogue.specs.Asking.{Finds, IsLookedUpIn}
use Rattle.catalogue.specs.inner.Asking.{IsChosenIn}
use Rattle.catalogue.specs.LiveReplies.{IsOfLabels}
use Rattle.catalogue.specs.inner.LiveReplies.{IsReplyTo}
use Rattle.std.specs.Prelude.{filter}
use Rattle.nego_core.specs.Offer.{is_offered}
use Rattle.catalogue.specs.Live.{Labelled, languages, is_live}
use Rattle.catalogue.specs.EntriesOffered.{offered_labels}
use Rattle.catalogue.proofs.EntriesOfferedLemmas.{languages_more}
use Rattle.lang_core.proofs.Basics.{is_false as false_if}
use Rattle.cell_core.proofs.Basics.{tied_order as tied}
use Rattle.catalogue.proofs.CatalogueNestedLemmas.{text_exact}
use Rattle.lang_core.proofs.PiecesLemmas.{joined-pieces}

-- ---- which texts are live

-- a language is among those of the labels just where it is live
pub among_live : (labels : Labelled) (text : List ℕ)
    → is_among (languages labels) text ≡ is_live labels text
among_live [] text = refl
among_live (e ∷ es) text = elim (cases_Bool (bytes_eq e.0 text)) [
  | inl h ↦
      let same : e.0 ≡ text = (bytes_eq-Decides e.0 text).0 h in
      let tie : is_eq (text_cmp text e.0) ≡ true =
      ap (λ x. is_eq (text_cmp text x)) same ∙ ap is_eq (tied_itself nat_list_cmp_total text) in
      rw (h, tie) refl
  | inr h ↦
      let other : is_eq (text_cmp text e.0) ≡ false =
      false_if (is_eq (text_cmp text e.0)) (λ t.
      let same = text_exact text e.0 (tied (text_cmp text e.0) t) in
      true≢false (sym ((bytes_eq-Decides e.0 text).1 (sym same)) ∙ h)) in
      rw (h, other) (among_live es text)
]

-- both are one set
same_sets : (labels : Labelled) → is_among (languages labels) ≡ is_live labels
same_sets labels = λ i text. among_live labels text i

-- what lookup finds, widened or not, is live
pub found_live : (widening : Widening) (labels : Labelled) (items : List Item) (text : List ℕ)
    → Finds widening labels items (Some (pieces text)) → is_live labels text ≡ true
found_live Off labels items text l =
    subst (λ t. is_live labels t ≡ true) (joined-pieces text) l.found_is.passes.0
found_live (By scheme) labels items text l =
    sym (among_live labels text) ∙ found_there scheme items (languages labels) text l

-- what is chosen without widening
pub chosen_off : (labels : Labelled) (items : List Item) (default : Option (List ℕ)) (c : Choice)
    → IsChosen items (is_live labels) default c → IsChosenIn Off labels items default c
chosen_off labels items default (choice.Matched text) h = h
chosen_off labels items default choice.Default h = h
chosen_off labels items default choice.Nothing h = h

-- what is chosen by a widened lookup
pub chosen_by : (scheme : Scheme) (labels : Labelled) (items : List Item)
    (default : Option (List ℕ)) (c : Choice)
    → IsChosenWidened scheme items (languages labels) default c
    → IsChosenIn (By scheme) labels items default c
chosen_by scheme labels items default (choice.Matched text) h = h
chosen_by scheme labels items default choice.Default h = (
  h.0,
  subst (λ (held : List ℕ → Bool). HasOpenDefault items held default) (same_sets labels)
      h.1,
)
chosen_by scheme labels items default choice.Nothing h = (
  h.0,
  subst (λ (held : List ℕ → Bool). ¬ HasOpenDefault items held default) (same_sets labels)
      h.1,
)

-- what is chosen among the languages is chosen among the labels
pub chosen_within : (widening : Widening) (labels : Labelled) (items : List Item)
    (default : Option (List ℕ)) (c : Choice)
    → IsChosenAmong widening items (languages labels) default c
    → IsChosenIn widening labels items default c
chosen_within Off labels items default c h = chosen_off labels items default c
    (subst (λ (held : List ℕ → Bool). IsChosen items held default c) (same_sets labels) h)
chosen_within (By scheme) labels items default c h = chosen_by scheme labels items default c h

-- what is chosen is live
pub chosen_there : (widening : Widening) (labels : Labelled) (items : List Item)
    (default : Option (List ℕ)) (c : Choice) → IsChosenIn widening labels items default c
    → IsThere (languages labels) default c
chosen_there widening labels items default (choice.Matched text) h =
    among_live labels text.now ∙ found_live widening labels items text.now h
chosen_there widening labels items None choice.Default h = absurd h.1
chosen_there widening labels items (Some lang) choice.Default h = among_live labels lang ∙ h.1.0
chosen_there widening labels items default choice.Nothing h = tt

-- the reply to a choice is the answer
pub replied : (widening : Widening) (labels : Labelled) (items : List Item)
    (default : Option (List ℕ)) (c : Choice) (reply : Reply)
    → IsChosenIn widening labels items default c → IsReplyTo labels default c reply
    → IsLookedUpIn widening labels items default reply
replied widening labels items default (choice.Matched text) (Matched lang label) h r =
    (subst (λ t. Finds widening labels items (Some (pieces t))) (sym r.0) h, r.1)
replied widening labels items default (choice.Matched text) (Default lang label) h r = absurd r
replied widening labels items default (choice.Matched text) Nothing h r = absurd r
replied widening labels items default choice.Default (Matched lang label) h r = absurd r
replied widening labels items default choice.Default (Default lang label) h r =
    (h.0, h.1, r.0, r.1)
replied widening labels items default choice.Default Nothing h r = absurd r
replied widening labels items default choice.Nothing (Matched lang label) h r = absurd r
replied widening labels items default choice.Nothing (Default lang label) h r = absurd r
replied widening labels items default choice.Nothing Nothing h r = h

-- The reply to a choice has one of the labels, or none.
pub of_labels : (labels : Labelled) (default : Option (List ℕ)) (c : Choice) (reply : Reply)
    → IsReplyTo labels default c reply → IsOfLabels labels reply
of_labels labels default (choice.Matched text) (Matched lang label) r = r.1
of_labels labels default (choice.Matched text) (Default lang label) r = absurd r
of_labels labels default (choice.Matched text) Nothing r = absurd r
of_labels labels default choice.Default (Matched lang label) r = absurd r
of_labels labels default choice.Default (Default lang label) r = r.1
of_labels labels default choice.Default Nothing r = absurd r
of_labels labels default choice.Nothing (Matched lang label) r = absurd r
of_labels labels default choice.Nothing (Default lang label) r = absurd r
of_labels labels default choice.Nothing Nothing r = tt

-- ---- the earliest that is matched

-- the earliest of the offered labels before those that are left
abbrev pub IsEarliestBefore : Scheme → List Item → List Item → Labelled → Labelled
    → Option Earliest → Type 0
IsEarliestBefore scheme items offer all left earliest =
    (seen : Labelled) × (seen ++ left ≡ all)
    × MatchEarliest scheme items (languages (offered_labels offer seen)) earliest

-- before all labels there is none
pub none_before : (scheme : Scheme) (items offer : List Item) (all : Labelled)
    → IsEarliestBefore scheme items offer all all None
none_before scheme items offer all =
    ([], refl, All-nil (λ l. (n : ℕ) → ¬ IsTriedAt scheme items l n))

-- the next label may be earlier, if it is offered
pub next_before : (scheme : Scheme) (items offer : List Item) (all left : Labelled)
    (e : List ℕ × List (List ℕ)) (rest : Labelled) (earliest next : Option Earliest)
    → IsEarliestBefore scheme items offer all left earliest → left ≡ e ∷ rest
    → ((langs : List (List ℕ)) → MatchEarliest scheme items langs earliest
    → MatchEarliest scheme items (langs ++ filter (is_offered offer) (e.0 ∷ [])) next)
    → IsEarliestBefore scheme items offer all rest next
next_before scheme items offer all left e rest earliest next h is step = (
  h.0 ++ e ∷ [],
  append_assoc h.0 (e ∷ []) rest ∙ (ap (λ (x : Labelled). h.0 ++ x) (sym is) ∙ h.1),
  subst (λ (x : List (List ℕ)). MatchEarliest scheme items x next)
      (sym (languages_more offer h.0 e)) (step (languages (offered_labels offer h.0)) h.2),
)

-- where none is left, it is that of all
pub all_before : (scheme : Scheme) (items offer : List Item) (all left : Labelled)
    (earliest : Option Earliest) → IsEarliestBefore scheme items offer all left earliest
    → left ≡ [] → MatchEarliest scheme items (languages (offered_labels offer all)) earliest
all_before scheme items offer all left earliest h is =
    subst (λ (x : Labelled). MatchEarliest scheme items (languages (offered_labels offer x))
    earliest) (sym (append-nil h.0) ∙ (ap (λ (x : Labelled). h.0 ++ x) (sym is) ∙ h.1)) h.2
