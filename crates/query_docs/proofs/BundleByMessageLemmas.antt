-- The labels of one reader, with one message more.
use Rattle.std.proofs.Common.{◌≡◌, ◌++◌, [], ◌∷◌, ℕ, List, ap, false, inl, inr}
use Rattle.std.proofs.Common.{refl, subst, sym, true}
use Rattle.std.specs.Prelude.{All, Contains, None, Option, Some}
use Rattle.std.proofs.lemmas.List.Elements.{All-contains, All-contains_itself, All-head}
use Rattle.std.proofs.lemmas.List.Elements.{All-weaker}
use Rattle.std.proofs.lemmas.List.Elements.{Contains-append_cases, Contains-append_left}
use Rattle.std.proofs.lemmas.List.Elements.{Contains-append_right}
use Rattle.std.specs.Ordering.{is_eq, ordering_then}
use Rattle.std.specs.declared.cmp.Ordering.TheVariants.{Less}
use Rattle.cell_core.specs.Keyed.{IsMap}
use Rattle.list_core.specs.Item.{Item}
use Rattle.nego_core.specs.declared.widening.Widening.{Widening}
use Rattle.catalogue.specs.Asking.{IsLookedUpIn, IsLookupAnswerBy}
use Rattle.cell_core.specs.Entry.{key_cmp, text_cmp}
use Rattle.catalogue.specs.Entries.{Entries, Entry, IsAboveAll}
use Rattle.catalogue.specs.Live.{Labelled as Labels, live}
use Rattle.catalogue.specs.declared.reply.Reply.{Reply}
use Rattle.catalogue.specs.declared.reply.Reply.TheVariants.{Default, Matched}
use Rattle.catalogue.proofs.Basics.{append_nil}
use Rattle.catalogue.proofs.CatalogueAboveLemmas.{IsMap-behind}
use Rattle.catalogue.proofs.CatalogueNestedLemmas.{text_exact}
use Rattle.map_docs.specs.Maps.{Labelled}
use Rattle.query_docs.specs.inner.BundleByMessage.{HasBundled, default_of}
use Rattle.query_docs.specs.Bundling.{IsAnswer, IsBundleBy}
use Rattle.query_docs.specs.inner.ByMessage.{IsNextMessage, cell_of, cells_of}
use Rattle.query_docs.specs.declared.by_message.MessageCell.{MessageCell}
use Rattle.query_docs.specs.inner.Draft.{HasWritten}
use Rattle.query_docs.specs.Exporting.{live_labels}
use Rattle.query_docs.specs.LiveCellsLookup.{answered}
use Rattle.query_docs.specs.inner.LiveCellsLookup.{answered_of}
use Rattle.query_docs.specs.declared.bundle_by_message.Bundle.{Bundle}
use Rattle.query_docs.specs.declared.draft.Draft.{Draft}
use Rattle.cell_core.proofs.Basics.{tied_order as tied}
use Rattle.query_docs.proofs.BundlingLemmas.{answer_of, answered_here, bundle_live}
use Rattle.query_docs.proofs.ByMessageLemmas.{live_before, live_own}
use Rattle.query_docs.proofs.ChosenLemmas.{ids_live}

-- an answer is one wherever its message has the same live labels
same_answer : (widening : Widening) (cells other : Entries) (items : List Item)
    (default : Option (List ℕ)) (e : Labelled) → live cells e.0.0 ≡ live other e.0.0
    → IsAnswer widening cells items default e → IsAnswer widening other items default e
same_answer widening cells other items default e same answer = elim answer [
  | inl matched ↦ inl (subst
      (λ (labels : Labels). IsLookedUpIn widening labels items default (Matched e.0.1 e.1)) same
      matched)
  | inr chosen ↦ inr (subst
      (λ (labels : Labels). IsLookedUpIn widening labels items default (Default e.0.1 e.1)) same
      chosen)
]

module _ (widening : Widening) (items : List Item) (default : Option (List ℕ)) where
  module _ (before cells : Entries) (next : IsNextMessage before cells) (labels : List Labelled)
      (bundle : IsBundleBy widening before items default labels)
    where
      -- the id of each label before is less
      id_less : (e : Labelled) → Contains labels e → text_cmp e.0.0 next.id ≡ Less
      id_less e at =
          All-contains (λ (l : Labelled). text_cmp l.0.0 next.id ≡ Less) (live_labels before) e
          (ids_live (λ id. text_cmp id next.id ≡ Less) before next.above)
          (bundle_live widening before items default labels e bundle at)

      above_labels : (lang : List ℕ) → IsAboveAll (next.id, lang) labels
      above_labels lang =
          All-weaker (Contains labels) (λ (e : Labelled). key_cmp e.0 (next.id, lang) ≡ Less)
          (λ e at. ap (λ o. ordering_then o (text_cmp e.0.1 lang)) (id_less e at)) labels
          (All-contains_itself labels)

      still_ascending : (found : Option (List ℕ × List (List ℕ)))
          → IsMap key_cmp (labels ++ answered_of next.id found)
      still_ascending None = subst (IsMap key_cmp) (sym (append_nil labels)) bundle.ascending
      still_ascending (Some (lang, label)) =
          IsMap-behind labels (next.id, lang) label bundle.ascending (above_labels lang)

      -- With one message more there is the label that its lookup answers, if any.
      pub bundle_more : (reply : Reply)
          → IsLookedUpIn widening (live cells next.id) items default reply
          → IsBundleBy widening (before ++ cells) items default
          (labels ++ answered_of next.id (answered reply))
      bundle_more reply is =
          let all = before ++ cells in
          let last = answered_of next.id (answered reply) in
          let own : IsLookupAnswerBy widening all next.id items default reply =
          subst (λ (l : Labels). IsLookedUpIn widening l items default reply)
          (sym (live_own before cells next)) is in record {
            ascending = still_ascending (answered reply);
            answered = λ e. (
              λ at. elim (Contains-append_cases labels last e at) [
                | inl here ↦
                    same_answer widening before all items default e
                    (sym (live_before before cells next e.0.0 (ap is_eq (id_less e here))))
                    ((bundle.answered e).0 here)
                | inr here ↦ answer_of widening all items default next.id reply e own here
              ],
              λ answer. elim (is_eq (text_cmp e.0.0 next.id)) as
                  (λ t. is_eq (text_cmp e.0.0 next.id) ≡ t → Contains (labels ++ last) e) [
                    | true ↦ λ t.
                        Contains-append_right labels last e
                        (answered_here widening all items default next.id reply e own
                        (sym (text_exact e.0.0 next.id (tied (text_cmp e.0.0 next.id) t))) answer)
                    | false ↦ λ t.
                        Contains-append_left labels last e
                        ((bundle.answered e).1 (same_answer widening all before items default e
                        (live_before before cells next e.0.0 t) answer))
                  ] refl,
            );
          }

-- ---- what is written

-- Cells that are of one message have its id.
pub own_id : (id own : List ℕ) (cells : List MessageCell) → (cells ≡ [] → ⊥)
    → All (λ e. e.0.0 ≡ own) (cells_of id cells) → id ≡ own
own_id id own [] some all = absurd (some refl)
own_id id own (c ∷ cs) some all =
    All-head (λ (x : Entry). x.0.0 ≡ own) (cell_of id c) (cells_of id cs) all

-- Of one message more its label is written, if any.
pub bundled_more : (first old : Bundle) (draft : Draft) (before cells : Entries) (own : List ℕ)
    (reply : Reply) (next : IsNextMessage before cells) → own ≡ next.id
    → IsLookupAnswerBy old.widening cells own old.list.now (default_of old) reply
    → ((labels : List Labelled) → HasWritten old.draft labels
    → HasWritten draft (labels ++ answered_of own (answered reply)))
    → HasBundled first old before
    → HasBundled first
    (record {
      list = old.list;
      widening = old.widening;
      default = old.default;
      draft = draft;
    }) (before ++ cells)
bundled_more first old draft before cells own reply next id answer adds has =
    let looked_up =
    subst
    (λ (i : List ℕ). IsLookedUpIn first.widening (live cells i) first.list.now (default_of first)
    reply) id
    (subst
    (λ (d : Option (List ℕ)). IsLookedUpIn first.widening (live cells own) first.list.now d reply)
    has.default_is
    (subst
    (λ (items : List Item). IsLookedUpIn first.widening (live cells own) items (default_of old)
    reply) has.list_is
    (subst
    (λ (w : Widening). IsLookedUpIn w (live cells own) old.list.now (default_of old) reply)
    has.widening_is answer))) in record {
      list_is = has.list_is;
      widening_is = has.widening_is;
      default_is = has.default_is;
      labels = has.labels ++ answered_of next.id (answered reply);
      labels_are =
          bundle_more first.widening first.list.now (default_of first) before cells next has.labels
          has.labels_are reply looked_up;
      written =
          subst (λ (i : List ℕ). HasWritten draft (has.labels ++ answered_of i (answered reply))) id
          (adds has.labels has.written);
    }
