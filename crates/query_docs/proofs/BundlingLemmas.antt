-- What lookups answer, message by message.
--
-- A bundle is the list of the answers of the lookups over each message. `IsBundling` is the
-- invariant of the loop: the labels that are written, and those that are answered for the messages
-- left, are those of all. A message adds its answer or nothing. That a shortlist may take the place
-- of the whole priority list follows since it has all languages of the catalogue, and so those of
-- each message.
use Rattle.std.proofs.Common.{◌≡◌, ◌≢◌, ◌∙◌, ◌++◌, ℕ, zero, suc, true, false, cond, List, [], ◌∷◌}
use Rattle.std.proofs.Common.{map, refl, sym, ap, subst, inl, inr, append_assoc, arith}
use Rattle.std.specs.Prelude.{⊤, ◌&&◌, Bool, Contains, Err, MatchResult, Ok, Result, None, Option}
use Rattle.std.specs.Prelude.{Some, T, filter, slice_get}
use Rattle.std.specs.List.{cons_option}
use Rattle.std.proofs.lemmas.List.Elements.{Contains-append_cases, Contains-append_left}
use Rattle.std.proofs.lemmas.List.Elements.{Contains-append_right}
use Rattle.std.specs.Option.{option_map}
use Rattle.std.specs.Cmp.Lexicographic.{nat_list_cmp_total}
use Rattle.std.specs.Ordering.{eq_by_cmp, is_eq, is_lt, ordering_then}
use Rattle.std.specs.declared.cmp.Ordering.TheVariants.{Less}
use Rattle.std.specs.FinMap.Entries.{below_all, find, is_sorted}
use Rattle.cell_core.specs.Keyed.{IsMap}
use Rattle.list_core.specs.Item.{Item}
use Rattle.nego_core.specs.Shortlist.{AreAmong, IsShortlist, Shortlist}
use Rattle.nego_core.specs.declared.widening.Widening.{Widening}
use Rattle.catalogue.specs.Asking.{IsLookedUpIn, IsLookupAnswerBy}
use Rattle.cell_core.specs.Entry.{key_cmp, text_cmp}
use Rattle.catalogue.specs.Entries.{Entries, Entry}
use Rattle.catalogue.specs.Languages.{AreLanguages, LanguageMap, texts_in}
use Rattle.catalogue.specs.Live.{languages, live, live_of}
use Rattle.catalogue.specs.EntriesOffered.{offered_cells, offered_labels}
use Rattle.catalogue.proofs.EntriesOfferedLemmas.{live_offered}
use Rattle.catalogue.specs.LiveMessages.{AreMessages, LiveMessage, if_any}
use Rattle.catalogue.specs.declared.reply.Reply.{Reply}
use Rattle.catalogue.specs.declared.reply.Reply.TheVariants.{Default, Matched, Nothing}
use Rattle.catalogue.proofs.Basics.{append_nil}
use Rattle.catalogue.proofs.Basics.{some_same}
use Rattle.catalogue.proofs.LanguageLemmas.{live_among}
use Rattle.catalogue.proofs.CatalogueNestedLemmas.{text_exact}
use Rattle.catalogue.proofs.PlacesSearchLemmas.{find_get}
use Rattle.catalogue.proofs.AskingLemmas.{one_lookup_answer_by}
use Rattle.map_docs.specs.Maps.{Labelled}
use Rattle.query_docs.specs.Bundling.{IsAnswer, IsBundleBy, IsBundled, IsBundledUnder}
use Rattle.nego_core.specs.Offer.{all_items}
use Rattle.nego_core.specs.declared.widening.Widening.TheVariants.{Off}
use Rattle.catalogue.proofs.EntriesOfferedLemmas.{all_cells}
use Rattle.query_docs.specs.inner.Draft.{HasWritten}
use Rattle.query_docs.specs.Exporting.{live_labels}
use Rattle.query_docs.specs.LiveCellsLookup.{answered}
use Rattle.query_docs.specs.inner.LiveCellsLookup.{LooksUp, answered_of}
use Rattle.query_docs.specs.declared.draft.Draft.{Draft}
use Rattle.list_core.proofs.Basics.{contains_later as member_later, contains_cases as member_cases}
use Rattle.cell_core.proofs.Basics.{both_parts, first_part, less_than, second_part}
use Rattle.cell_core.proofs.Basics.{tied_order as tied}

-- ---- members of lists

member_first : {A : Type 0} (x y : A) (xs : List A) → x ≡ y → Contains (x ∷ xs) y
member_first x y xs same = (zero, omega arith, same)

member_none : {A : Type 0} (y : A) → Contains [] y → ⊥
member_none y (k, within, is) = omega (arith, within)

-- ---- messages

-- the labels of a message
abbrev Texts : Type 0
Texts = List (List ℕ × List (List ℕ))

-- the ids of messages
abbrev ids_of : List LiveMessage → List (List ℕ)
ids_of messages = map (λ m. m.0) messages

-- each has all its live labels
abbrev pub AreLive : Entries → List LiveMessage → Type 0
AreLive cells [] = ⊤
AreLive cells (m ∷ ms) = (m.1 ≡ live cells m.0) × AreLive cells ms

some_labels : (found labels : Texts) → if_any found ≡ Some labels → found ≡ labels
some_labels [] labels = λ e. absurd (cc)
some_labels (x ∷ xs) labels = λ e. some_same (x ∷ xs) labels e

no_labels : (found : Texts) → if_any found ≡ None → found ≡ []
no_labels [] = λ e. refl
no_labels (x ∷ xs) = λ e. absurd (cc)

each_live : (cells : Entries) (ms : List LiveMessage)
    → ((i : ℕ) (id : List ℕ) (labels : Texts) → slice_get ms i ≡ Some (id, labels)
    → labels ≡ live cells id) → AreLive cells ms
each_live cells [] h = tt
each_live cells (m ∷ ms) h = (h zero m.0 m.1 refl, each_live cells ms (λ i. h (suc i)))

-- the messages of a catalogue have them
pub are_live : (cells : Entries) (messages : List LiveMessage) → AreMessages cells messages
    → AreLive cells messages
are_live cells messages are =
    each_live cells messages
    (λ i id labels at. sym
    (some_labels (live cells id) labels
    (sym (are.each id)
    ∙ find_get text_cmp nat_list_cmp_total messages i id labels are.ascend at)))

-- messages in ascending order of id, each with all its live labels, and all that have such; others
-- may be there
pub record HasMessages (cells : Entries) (messages : List LiveMessage) : Type 0 where
  pub ascend : IsMap text_cmp messages
  pub each : AreLive cells messages
  pub rest : (id : List ℕ) → find text_cmp id messages ≡ None → live cells id ≡ []

-- ---- messages of what is offered

-- a message with those of its labels that are offered
abbrev pub shown : List Item → LiveMessage → LiveMessage
shown offer m = (m.0, offered_labels offer m.1)

-- the same of several
abbrev pub shown_all : List Item → List LiveMessage → List LiveMessage
shown_all offer messages = map (shown offer) messages

shown_below : (offer : List Item) (x : List ℕ) (ms : List LiveMessage)
    → below_all text_cmp x (shown_all offer ms) ≡ below_all text_cmp x ms
shown_below offer x [] = refl
shown_below offer x (m ∷ ms) =
    ap (λ (b : Bool). is_lt (text_cmp x m.0) && b) (shown_below offer x ms)

shown_sorted : (offer : List Item) (ms : List LiveMessage)
    → is_sorted text_cmp (shown_all offer ms) ≡ is_sorted text_cmp ms
shown_sorted offer [] = refl
shown_sorted offer (m ∷ ms) =
    ap (λ (b : Bool). b && is_sorted text_cmp (shown_all offer ms)) (shown_below offer m.0 ms)
    ∙ ap (λ (b : Bool). below_all text_cmp m.0 ms && b) (shown_sorted offer ms)

shown_live : (offer : List Item) (cells : Entries) (ms : List LiveMessage) → AreLive cells ms
    → AreLive (offered_cells offer cells) (shown_all offer ms)
shown_live offer cells [] h = tt
shown_live offer cells (m ∷ ms) h = (
  ap (offered_labels offer) h.0 ∙ sym (live_offered offer cells m.0),
  shown_live offer cells ms h.1,
)

find_shown : (offer : List Item) (id : List ℕ) (ms : List LiveMessage)
    → find text_cmp id (shown_all offer ms) ≡ None → find text_cmp id ms ≡ None
find_shown offer id [] none = refl
find_shown offer id (m ∷ ms) none =
    elim (is_eq (text_cmp id m.0)) as
    (λ t. cond t (Some (offered_labels offer m.1)) (find text_cmp id (shown_all offer ms)) ≡ None
    → cond t (Some m.1) (find text_cmp id ms) ≡ None) [
      | true ↦ λ e. absurd (cc)
      | false ↦ λ e. find_shown offer id ms e
    ] none

-- The messages of a catalogue, with those of their labels that are offered, are those of what is
-- offered of it.
pub offered_messages : (offer : List Item) (cells : Entries) (messages : List LiveMessage)
    → AreMessages cells messages
    → HasMessages (offered_cells offer cells) (shown_all offer messages)
offered_messages offer cells messages are = record {
  ascend = subst T (sym (shown_sorted offer messages)) are.ascend;
  each = shown_live offer cells messages (are_live cells messages are);
  rest = λ id none.
      live_offered offer cells id
      ∙ ap (offered_labels offer)
      (no_labels (live cells id) (sym (are.each id) ∙ find_shown offer id messages none));
}

-- ---- answers

module _ (widening : Widening) (cells : Entries) (items : List Item) (default : Option (List ℕ))
  where
    -- An answer is of its message.
    pub answer_of : (id : List ℕ) (reply : Reply) (e : Labelled)
        → IsLookupAnswerBy widening cells id items default reply
        → Contains (answered_of id (answered reply)) e → IsAnswer widening cells items default e
    answer_of id (Matched lang label) e is at = elim (member_cases ((id, lang), label) e [] at) [
      | inl same ↦
          inl (subst
          (λ (x : Labelled). IsLookupAnswerBy widening cells x.0.0 items default
          (Matched x.0.1 x.1))
          same is)
      | inr none ↦ absurd (member_none e none)
    ]
    answer_of id (Default lang label) e is at = elim (member_cases ((id, lang), label) e [] at) [
      | inl same ↦
          inr (subst
          (λ (x : Labelled). IsLookupAnswerBy widening cells x.0.0 items default
          (Default x.0.1 x.1))
          same is)
      | inr none ↦ absurd (member_none e none)
    ]
    answer_of id Nothing e is at = absurd (member_none e at)

    -- what a message with all its live labels answers, the catalogue answers
    in_cells : (m : LiveMessage) (reply : Reply) → m.1 ≡ live cells m.0
        → IsLookedUpIn widening m.1 items default reply
        → IsLookupAnswerBy widening cells m.0 items default reply
    in_cells m reply same is =
        subst (λ (l : Texts). IsLookedUpIn widening l items default reply) same is

    -- what is there is an answer
    each_answered : (ms : List LiveMessage) (labels : List Labelled) → AreLive cells ms
        → LooksUp widening items default ms labels → (e : Labelled) → Contains labels e
        → IsAnswer widening cells items default e
    each_answered [] labels live is e at =
        absurd (member_none e (subst (λ (ls : List Labelled). Contains ls e) is at))
    each_answered (m ∷ ms) labels live (reply, rest, is, more, all) e at =
        elim (Contains-append_cases (answered_of m.0 (answered reply)) rest e
        (subst (λ (ls : List Labelled). Contains ls e) all at)) [
          | inl here ↦ answer_of m.0 reply e (in_cells m reply live.0 is) here
          | inr later ↦ each_answered ms rest live.1 more e later
        ]

    -- The answer of a message is there.
    pub answered_here : (id : List ℕ) (reply : Reply) (e : Labelled)
        → IsLookupAnswerBy widening cells id items default reply → id ≡ e.0.0
        → IsAnswer widening cells items default e → Contains (answered_of id (answered reply)) e
    answered_here id reply e is same answer = elim answer [
      | inl matched ↦
          let one : reply ≡ Matched e.0.1 e.1 =
          one_lookup_answer_by widening cells id items default reply (Matched e.0.1 e.1) is
          (subst
          (λ (x : List ℕ). IsLookupAnswerBy widening cells x items default (Matched e.0.1 e.1))
          (sym same) matched) in
          subst (λ (r : Reply). Contains (answered_of id (answered r)) e) (sym one)
          (member_first ((id, e.0.1), e.1) e [] (λ i. ((same i, e.0.1), e.1)))
      | inr chosen ↦
          let one : reply ≡ Default e.0.1 e.1 =
          one_lookup_answer_by widening cells id items default reply (Default e.0.1 e.1) is
          (subst
          (λ (x : List ℕ). IsLookupAnswerBy widening cells x items default (Default e.0.1 e.1))
          (sym same) chosen) in
          subst (λ (r : Reply). Contains (answered_of id (answered r)) e) (sym one)
          (member_first ((id, e.0.1), e.1) e [] (λ i. ((same i, e.0.1), e.1)))
    ]

    answers_there : (ms : List LiveMessage) (labels : List Labelled) → AreLive cells ms
        → LooksUp widening items default ms labels → (e : Labelled)
        → IsAnswer widening cells items default e → Contains (ids_of ms) e.0.0 → Contains labels e
    answers_there [] labels live is e answer at = absurd (member_none e.0.0 at)
    answers_there (m ∷ ms) labels live (reply, rest, is, more, all) e answer at =
        subst (λ (ls : List Labelled). Contains ls e) (sym all)
        (elim (member_cases m.0 e.0.0 (ids_of ms) at) [
          | inl same ↦
              Contains-append_left (answered_of m.0 (answered reply)) rest e
              (answered_here m.0 reply e (in_cells m reply live.0 is) same answer)
          | inr later ↦
              Contains-append_right (answered_of m.0 (answered reply)) rest e
              (answers_there ms rest live.1 more e answer later)
        ])

    -- ---- they ascend

    is_less : (id lang other : List ℕ) (found : List ℕ × List (List ℕ)) → text_cmp id other ≡ Less
        → T (is_lt (key_cmp (id, lang) (other, found.0)))
    is_less id lang other found less =
        subst (λ o. T (is_lt (ordering_then o (text_cmp lang found.0)))) (sym less) tt

    below_rest : (id lang : List ℕ) (messages : List LiveMessage) (labels : List Labelled)
        → T (below_all text_cmp id messages) → LooksUp widening items default messages labels
        → T (below_all key_cmp (id, lang) labels)
    below_rest id lang [] labels h is =
        subst (λ (ls : List Labelled). T (below_all key_cmp (id, lang) ls)) (sym is) tt
    below_rest id lang (m ∷ ms) labels h (reply, rest, is, more, all) =
        let less =
        less_than (text_cmp id m.0)
        (first_part (is_lt (text_cmp id m.0)) (below_all text_cmp id ms) h) in
        let others =
        below_rest id lang ms rest
        (second_part (is_lt (text_cmp id m.0)) (below_all text_cmp id ms) h) more in
        subst (λ (ls : List Labelled). T (below_all key_cmp (id, lang) ls)) (sym all)
        (elim (answered reply) as
        (λ o. T (below_all key_cmp (id, lang) (answered_of m.0 o ++ rest))) [
          | None ↦ others
          | Some found ↦
              both_parts (is_lt (key_cmp (id, lang) (m.0, found.0)))
              (below_all key_cmp (id, lang) rest) (is_less id lang m.0 found less) others
        ])

    answers_ascend : (messages : List LiveMessage) (labels : List Labelled)
        → IsMap text_cmp messages
        → LooksUp widening items default messages labels → IsMap key_cmp labels
    answers_ascend [] labels m is = subst (λ (ls : List Labelled). IsMap key_cmp ls) (sym is) tt
    answers_ascend (x ∷ ms) labels m (reply, rest, is, more, all) =
        let others =
        answers_ascend ms rest (second_part (below_all text_cmp x.0 ms) (is_sorted text_cmp ms) m)
        more in
        subst (λ (ls : List Labelled). IsMap key_cmp ls) (sym all)
        (elim (answered reply) as (λ o. IsMap key_cmp (answered_of x.0 o ++ rest)) [
          | None ↦ others
          | Some found ↦
              both_parts (below_all key_cmp (x.0, found.0) rest) (is_sorted key_cmp rest)
              (below_rest x.0 found.0 ms rest
              (first_part (below_all text_cmp x.0 ms) (is_sorted text_cmp ms) m) more) others
        ])

    -- ---- a message that is answered has cells

    id_there : (id : List ℕ) (messages : List LiveMessage) → find text_cmp id messages ≢ None
        → Contains (ids_of messages) id
    id_there id [] found = absurd (found refl)
    id_there id (m ∷ ms) found =
        elim (eq_by_cmp text_cmp id m.0) as
        (λ t. eq_by_cmp text_cmp id m.0 ≡ t → cond t (Some m.1) (find text_cmp id ms) ≢ None
        → Contains (m.0 ∷ ids_of ms) id) [
          | true ↦
              λ t _.
              member_first m.0 id (ids_of ms) (sym (text_exact id m.0 (tied (text_cmp id m.0) t)))
          | false ↦ λ t more. member_later m.0 id (ids_of ms) (id_there id ms more)
        ] refl found

    -- a label of the bundle is the live one of its message and language
    pub label_of : (e : Labelled) → IsAnswer widening cells items default e
        → find text_cmp e.0.1 (live cells e.0.0) ≡ Some e.1
    label_of e answer = elim answer [ inl matched ↦ matched.1 | inr chosen ↦ chosen.3 ]

    answered_id : (messages : List LiveMessage) → HasMessages cells messages → (e : Labelled)
        → IsAnswer widening cells items default e → Contains (ids_of messages) e.0.0
    answered_id messages are e answer =
        id_there e.0.0 messages (λ none.
        let nothing : live cells e.0.0 ≡ [] = are.rest e.0.0 none in
        let no : None ≡ Some e.1 = ap (find text_cmp e.0.1) (sym nothing) ∙ label_of e answer in cc)

    bundle_of : (messages : List LiveMessage) (labels : List Labelled) → HasMessages cells messages
        → LooksUp widening items default messages labels
        → IsBundleBy widening cells items default labels
    bundle_of messages labels are all =
        record {
          ascending = answers_ascend messages labels are.ascend all;
          answered =
              λ e. (
                λ at.
                    each_answered messages labels are.each all e at,
                λ answer. answers_there messages labels
                    are.each all e answer (answered_id messages are e answer),
              );
        }

-- ---- message by message

-- language maps that are being written: the labels so far, and those that are answered for the
-- messages that are left, are those of all
pub record IsBundling (widening : Widening) (cells : Entries) (items : List Item)
    (default : Option (List ℕ)) (draft : Draft) (left : List LiveMessage) : Type 0 where
  pub messages : List LiveMessage
  pub are : HasMessages cells messages
  pub done : List Labelled
  pub written : HasWritten draft done
  pub looks : (rest : List Labelled) → LooksUp widening items default left rest
      → LooksUp widening items default messages (done ++ rest)

module _ (widening : Widening) (cells : Entries) (items : List Item) (default : Option (List ℕ))
  where
    -- at first nothing is written, and all messages are left
    pub bundling_first : (draft : Draft) (messages : List LiveMessage)
        → HasMessages cells messages → HasWritten draft []
        → IsBundling widening cells items default draft messages
    bundling_first draft messages are written = record {
      messages = messages;
      are = are;
      done = [];
      written = written;
      looks = λ rest looks. looks;
    }

    found_at : (old new : Draft) (m : LiveMessage) (left : List LiveMessage) (reply : Reply)
        (lang : List ℕ) (label : List (List ℕ))
        → IsBundling widening cells items default old (m ∷ left)
        → IsLookedUpIn widening m.1 items default reply → Some (lang, label) ≡ answered reply
        → ((labels : List Labelled) → HasWritten old labels
        → HasWritten new (labels ++ ((m.0, lang), label) ∷ []))
        → IsBundling widening cells items default new left
    found_at old new m left reply lang label b is found adds =
        let e : Labelled = ((m.0, lang), label) in record {
          messages = b.messages;
          are = b.are;
          done = b.done ++ e ∷ [];
          written = adds b.done b.written;
          looks =
              λ rest looks.
              subst (λ (all : List Labelled). LooksUp widening items default b.messages all)
              (sym (append_assoc b.done (e ∷ []) rest))
              (b.looks (e ∷ rest)
              (reply, rest, is, looks, ap (λ o. answered_of m.0 o ++ rest) found));
        }

    -- a message whose lookup finds a label adds it
    pub bundling_found : (old new : Draft) (m : LiveMessage) (left : List LiveMessage)
        (reply : Reply) (id lang : List ℕ) (label : List (List ℕ)) → id ≡ m.0
        → IsBundling widening cells items default old (m ∷ left)
        → IsLookedUpIn widening m.1 items default reply → Some (lang, label) ≡ answered reply
        → ((labels : List Labelled) → HasWritten old labels
        → HasWritten new (labels ++ ((id, lang), label) ∷ []))
        → IsBundling widening cells items default new left
    bundling_found old new m left reply id lang label same b is found adds =
        found_at old new m left reply lang label b is found
        (λ labels has. subst (λ (x : List ℕ). HasWritten new (labels ++ ((x, lang), label) ∷ []))
        same (adds labels has))

    -- a message that is not answered is left out
    pub bundling_passed : (draft : Draft) (m : LiveMessage) (left : List LiveMessage)
        (reply : Reply) → IsBundling widening cells items default draft (m ∷ left)
        → IsLookedUpIn widening m.1 items default reply → None ≡ answered reply
        → IsBundling widening cells items default draft left
    bundling_passed draft m left reply b is none = record {
      messages = b.messages;
      are = b.are;
      done = b.done;
      written = b.written;
      looks = λ rest looks.
          b.looks rest (reply, rest, is, looks, ap (λ o. answered_of m.0 o ++ rest) none);
    }

    -- where no message is left, the draft has the bundle
    pub bundling_last : (draft : Draft) → IsBundling widening cells items default draft []
        → (labels : List Labelled) × IsBundleBy widening cells items default labels
        × HasWritten draft labels
    bundling_last draft b = (
      b.done,
      bundle_of widening cells items default b.messages b.done b.are
          (subst (λ (all : List Labelled). LooksUp widening items default b.messages all)
          (append_nil b.done) (b.looks [] refl)),
      b.written,
    )

-- ---- a list that is cut to the languages of the catalogue

-- what a message answers by a list that is cut to the languages it answers by the whole list, over
-- those of its labels that are offered
pub shortlisted : (widening : Widening) (cells : Entries) (items : List Item)
    (langs : LanguageMap) (s : Shortlist) (m : LiveMessage) (labels : Texts)
    (default : Option (List ℕ)) (reply : Reply) (texts : List (List ℕ))
    → IsShortlist items widening texts s
    → texts ≡ texts_in langs → AreLanguages cells langs → m.1 ≡ live cells m.0
    → (AreAmong (languages m.1) s.langs → IsLookedUpIn s.widening labels s.items default reply)
    → IsLookedUpIn widening labels items default reply
shortlisted widening cells items langs s m labels default reply texts is all are same found =
    let among = subst (λ (l : Texts). AreAmong (languages l) (texts_in langs)) (sym same)
    (live_among cells langs are m.0) in
    let own = subst (AreAmong (languages m.1)) (sym (is.langs_are ∙ all)) among in
    subst (λ (w : Widening). IsLookedUpIn w labels items default reply) is.widening_is
    (subst (λ (i : List Item). IsLookedUpIn s.widening labels i default reply) is.items_are
    (found own))

-- ---- all is offered

-- Where all is offered, the bundle is that of all labels.
pub bundled_all : (bytes : List ℕ) (items : List Item) (default : Option (List ℕ)) (doc : List ℕ)
    (found : Bool) → IsBundledUnder all_items Off bytes items default doc found
    → IsBundled bytes items default doc found
bundled_all bytes items default doc found h = (
  h.0,
  h.1,
  h.2,
  subst (λ (cells : Entries). IsBundleBy Off cells items default h.1) (all_cells h.0.cells) h.3,
  h.4,
)

-- The same of what a call answers, with its refusals.
pub bundled_result : {E : Type 0} (bytes : List ℕ) (items : List Item)
    (default : Option (List ℕ)) (r : Result (List ℕ × Bool) E) (Refuses : E → Type 0)
    → MatchResult r
    (λ answer. IsBundledUnder all_items Off bytes items default answer.0 answer.1) Refuses
    → MatchResult r (λ answer. IsBundled bytes items default answer.0 answer.1) Refuses
bundled_result bytes items default (Ok answer) Refuses h =
    bundled_all bytes items default answer.0 answer.1 h
bundled_result bytes items default (Err fault) Refuses h = h

-- ---- they are live labels

live_member : (es : Entries) (id lang : List ℕ) (label : List (List ℕ))
    → find text_cmp lang (live es id) ≡ Some label → Contains (live_labels es) ((id, lang), label)
live_member [] id lang label found = cc
live_member (e ∷ es) id lang label found =
    let more = live_member es id lang label in
    elim (is_eq (text_cmp id e.0.0)) as (λ t. is_eq (text_cmp id e.0.0) ≡ t
    → find text_cmp lang
    (live_of
    (map (λ (x : Entry). (x.0.1, x.1))
    (cond t (e ∷ filter (λ x. is_eq (text_cmp id x.0.0)) es)
    (filter (λ x. is_eq (text_cmp id x.0.0)) es)))) ≡ Some label
    → Contains (cons_option (option_map (λ l. (e.0, l)) e.1.label) (live_labels es))
    ((id, lang), label)) [
      | true ↦
          λ t. elim e.1.label as
          (λ o. find text_cmp lang (cons_option (option_map (λ l. (e.0.1, l)) o) (live es id))
          ≡ Some label
          → Contains (cons_option (option_map (λ l. (e.0, l)) o) (live_labels es))
          ((id, lang), label)) [
            | None ↦ λ rest. more rest
            | Some l ↦
                λ rest. elim (eq_by_cmp text_cmp lang e.0.1) as
                (λ u. eq_by_cmp text_cmp lang e.0.1 ≡ u
                → cond u (Some l) (find text_cmp lang (live es id)) ≡ Some label
                → Contains ((e.0, l) ∷ live_labels es) ((id, lang), label)) [
                  | true ↦ λ u is.
                      let same_id : e.0.0 ≡ id =
                      sym (text_exact id e.0.0 (tied (text_cmp id e.0.0) t)) in
                      let same_lang : e.0.1 ≡ lang =
                      sym (text_exact lang e.0.1 (tied (text_cmp lang e.0.1) u)) in
                      let same_label : l ≡ label = cc in
                      member_first (e.0, l) ((id, lang), label) (live_labels es)
                      (λ i. ((same_id i, same_lang i), same_label i))
                  | false ↦
                      λ u is. member_later (e.0, l) ((id, lang), label) (live_labels es) (more is)
                ] refl rest
          ]
      | false ↦
          λ t rest. elim e.1.label as
          (λ o. Contains (cons_option (option_map (λ l. (e.0, l)) o) (live_labels es))
          ((id, lang), label)) [
            | None ↦ more rest
            | Some l ↦ member_later (e.0, l) ((id, lang), label) (live_labels es) (more rest)
          ]
    ] refl found

-- What a lookup answers for a message is one of the live labels of the cells.
pub answer_live : (widening : Widening) (cells : Entries) (items : List Item)
    (default : Option (List ℕ)) (e : Labelled) → IsAnswer widening cells items default e
    → Contains (live_labels cells) e
answer_live widening cells items default e answer =
    live_member cells e.0.0 e.0.1 e.1 (label_of widening cells items default e answer)

-- Each label of a bundle is one of the live labels of the cells.
pub bundle_live : (widening : Widening) (cells : Entries) (items : List Item)
    (default : Option (List ℕ)) (labels : List Labelled) (e : Labelled)
    → IsBundleBy widening cells items default labels → Contains labels e
    → Contains (live_labels cells) e
bundle_live widening cells items default labels e bundle at =
    answer_live widening cells items default e ((bundle.answered e).0 at)
