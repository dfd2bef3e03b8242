-- The labels that are written of messages, one message after another.
use Rattle.std.proofs.Common.{◌≡◌, ◌∙◌, ◌++◌, [], ◌∷◌, ℕ, Bool, List, ap, ap₂, cond, false, refl}
use Rattle.std.proofs.Common.{subst, sym, true}
use Rattle.std.specs.Prelude.{All, None, Option, Some, filter, option_and_then, option_map}
use Rattle.std.proofs.lemmas.List.Elements.{All-cons, All-head, All-nil, All-tail, All-weaker}
use Rattle.std.proofs.lemmas.List.Elements.{filter-append, filter_map-append}
use Rattle.std.specs.List.{cons_option}
use Rattle.std.specs.FinMap.Entries.{find}
use Rattle.std.specs.Option.{is_none}
use Rattle.std.specs.Cmp.Lexicographic.{nat_list_cmp_total}
use Rattle.std.specs.Cmp.{tied_itself}
use Rattle.std.specs.Ordering.{is_eq}
use Rattle.std.specs.declared.cmp.Ordering.TheVariants.{Equal, Less}
use Rattle.cell_core.specs.declared.cell.Cell.{Cell}
use Rattle.cell_core.specs.Entry.{key_cmp, text_cmp}
use Rattle.catalogue.specs.Entries.{Entries, Entry}
use Rattle.map_docs.specs.Maps.{Labelled}
use Rattle.query_docs.specs.inner.ByMessage.{IsNextMessage, cell_of, cells_of}
use Rattle.query_docs.specs.inner.Chosen.{HasChosen, chosen_labels, is_chosen}
use Rattle.query_docs.specs.inner.Draft.{HasWritten}
use Rattle.query_docs.specs.Exporting.{live_labels}
use Rattle.query_docs.specs.Outdated.{is_before, labelled_at, live_time}
use Rattle.query_docs.specs.declared.by_message.MessageCell.{MessageCell}
use Rattle.query_docs.specs.declared.chosen.ChosenLabels.{ChosenLabels}
use Rattle.query_docs.specs.declared.messages.Messages.{Messages}
use Rattle.query_docs.specs.declared.messages.Messages.TheVariants as messages
use Rattle.map_docs.proofs.MapsLabelsLemmas.{same_id as same_keys}
use Rattle.query_docs.proofs.ByMessageLemmas.{found_before, found_own}

-- ---- lists of labels

-- What is so of the ids of all cells is so of those of all live labels.
pub ids_live : (P : List ℕ → Type 0) (es : Entries) → All (λ e. P e.0.0) es
    → All (λ l. P l.0.0) (live_labels es)
ids_live P [] all = All-nil (λ (l : Labelled). P l.0.0)
ids_live P (e ∷ es) all =
    let rest = ids_live P es (All-tail (λ (x : Entry). P x.0.0) e es all) in
    elim e.1.label as
    (λ o. All (λ (l : Labelled). P l.0.0)
    (cons_option (option_map (λ label. (e.0, label)) o) (live_labels es))) [
      | None ↦ rest
      | Some label ↦
          All-cons (λ (l : Labelled). P l.0.0) (e.0, label) (live_labels es)
          (All-head (λ (x : Entry). P x.0.0) e es all) rest
    ]

-- tests that are equal for all items let the same ones pass
filter_same : {X : Type 0} (p q : X → Bool) (xs : List X) → All (λ x. p x ≡ q x) xs
    → filter p xs ≡ filter q xs
filter_same p q [] all = refl
filter_same {X} p q (x ∷ xs) all =
    let same = All-head (λ (y : X). p y ≡ q y) x xs all in
    ap (λ t. cond t (x ∷ filter p xs) (filter p xs)) same
    ∙ ap (λ ys. cond (q x) (x ∷ ys) ys)
    (filter_same p q xs (All-tail (λ (y : X). p y ≡ q y) x xs all))

-- ---- one message more

-- whether a message is chosen depends on its own cells alone
chosen_by_own : (messages : Messages) (cells other : Entries) (id : List ℕ)
    → ((lang : List ℕ) → find key_cmp (id, lang) cells ≡ find key_cmp (id, lang) other)
    → is_chosen messages cells id ≡ is_chosen messages other id
chosen_by_own (messages.Lacking lang) cells other id same =
    ap (λ (o : Option Cell). is_none (option_and_then (λ c. c.label) o)) (same lang.now)
chosen_by_own (messages.Outdated lang source) cells other id same =
    ap₂ (λ (a b : Option Cell). is_before (labelled_at a) (labelled_at b)) (same lang.now)
    (same source.now)

-- With one message more the chosen labels are those before and those of the message.
pub chosen_more : (messages : Messages) (before cells : Entries) → IsNextMessage before cells
    → chosen_labels messages (before ++ cells)
    ≡ chosen_labels messages before ++ chosen_labels messages cells
chosen_more messages before cells next =
    let p : Labelled → Bool = λ l. is_chosen messages (before ++ cells) l.0.0 in
    let of_before : Labelled → Bool = λ l. is_chosen messages before l.0.0 in
    let of_cells : Labelled → Bool = λ l. is_chosen messages cells l.0.0 in
    let same_before =
    ids_live (λ id. is_chosen messages (before ++ cells) id ≡ is_chosen messages before id) before
    (All-weaker (λ (e : Entry). text_cmp e.0.0 next.id ≡ Less)
    (λ (e : Entry). is_chosen messages (before ++ cells) e.0.0 ≡ is_chosen messages before e.0.0)
    (λ e less. chosen_by_own messages (before ++ cells) before e.0.0
    (λ lang. found_before before cells next (e.0.0, lang) (ap is_eq less))) before next.above) in
    let same_own =
    ids_live (λ id. is_chosen messages (before ++ cells) id ≡ is_chosen messages cells id) cells
    (All-weaker (λ (e : Entry). e.0.0 ≡ next.id)
    (λ (e : Entry). is_chosen messages (before ++ cells) e.0.0 ≡ is_chosen messages cells e.0.0)
    (λ e is. subst
    (λ (id : List ℕ). is_chosen messages (before ++ cells) id ≡ is_chosen messages cells id)
    (sym is)
    (chosen_by_own messages (before ++ cells) cells next.id (found_own before cells next))) cells
    next.own) in
    ap (filter p) (filter_map-append (λ (e : Entry). option_map (λ label. (e.0, label)) e.1.label)
    before cells)
    ∙ filter-append p (live_labels before) (live_labels cells)
    ∙ ap₂ (λ (xs ys : List Labelled). xs ++ ys)
    (filter_same p of_before (live_labels before) same_before)
    (filter_same p of_cells (live_labels cells) same_own)

-- Of one message more the chosen labels are written.
pub has_more : (first old new : ChosenLabels) (before cells : Entries)
    → new.messages ≡ old.messages
    → ((labels : List Labelled) → HasWritten old.draft labels
    → HasWritten new.draft (labels ++ chosen_labels old.messages cells))
    → HasChosen first old before → IsNextMessage before cells
    → HasChosen first new (before ++ cells)
has_more first old new before cells same adds has next = record {
  messages_are = same ∙ has.messages_are;
  labels_are =
      subst (HasWritten new.draft) (sym (chosen_more first.messages before cells next))
      (subst
      (λ (m : Messages). HasWritten new.draft
      (chosen_labels first.messages before ++ chosen_labels m cells)) has.messages_are
      (adds (chosen_labels first.messages before) has.labels_are));
}

-- a test that is the same for all lets all pass, or none
filter_all : {X : Type 0} (b : Bool) (xs : List X) → filter (λ _. b) xs ≡ cond b xs []
filter_all true [] = refl
filter_all true (x ∷ xs) = ap (λ ys. x ∷ ys) (filter_all true xs)
filter_all false [] = refl
filter_all false (x ∷ xs) = filter_all false xs

-- The cells of a message have its id.
pub all_own : (id : List ℕ) (cells : List MessageCell) → All (λ e. e.0.0 ≡ id) (cells_of id cells)
all_own id [] = All-nil (λ (e : Entry). e.0.0 ≡ id)
all_own id (c ∷ cs) =
    All-cons (λ (e : Entry). e.0.0 ≡ id) (cell_of id c) (cells_of id cs) refl (all_own id cs)

-- Of a message all live labels are chosen, or none.
pub chosen_or_none : (messages : Messages) (id : List ℕ) (cells : List MessageCell) (b : Bool)
    → b ≡ is_chosen messages (cells_of id cells) id
    → chosen_labels messages (cells_of id cells) ≡ cond b (live_labels (cells_of id cells)) []
chosen_or_none messages id cells b is =
    let es = cells_of id cells in
    let p : Labelled → Bool = λ l. is_chosen messages es l.0.0 in
    let same = ids_live (λ i. is_chosen messages es i ≡ b) es
    (All-weaker (λ (e : Entry). e.0.0 ≡ id) (λ (e : Entry). is_chosen messages es e.0.0 ≡ b)
    (λ e own. ap (is_chosen messages es) own ∙ sym is) es (all_own id cells)) in
    filter_same p (λ _. b) (live_labels es) same ∙ filter_all b (live_labels es)

-- ---- the cells of a message

-- A text is tied with itself.
pub same_text : (id : List ℕ) → text_cmp id id ≡ Equal
same_text id = tied_itself nat_list_cmp_total id

-- The time of the first cell of this language is that of the key.
pub time_here : (id lang : List ℕ) (c : MessageCell) (cs : List MessageCell)
    → is_eq (text_cmp lang c.lang) ≡ true
    → live_time (id, lang) (cells_of id (c ∷ cs)) ≡ labelled_at (Some (cell_of id c).1)
time_here id lang c cs eq =
    ap
    (λ t. labelled_at (cond t (Some (cell_of id c).1) (find key_cmp (id, lang) (cells_of id cs))))
    (ap is_eq (same_keys id lang c.lang) ∙ eq)

-- A cell of another language is not that of the key.
pub time_after : (id lang : List ℕ) (c : MessageCell) (cs : List MessageCell)
    → is_eq (text_cmp lang c.lang) ≡ false
    → live_time (id, lang) (cells_of id (c ∷ cs)) ≡ live_time (id, lang) (cells_of id cs)
time_after id lang c cs ne =
    ap
    (λ t. labelled_at (cond t (Some (cell_of id c).1) (find key_cmp (id, lang) (cells_of id cs))))
    (ap is_eq (same_keys id lang c.lang) ∙ ne)
