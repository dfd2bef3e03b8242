-- Labels in a list, and the tokens that they are written as.
use Rattle.std.proofs.Common.{◌≡◌, ◌∙◌, ℕ, Bool, true, false, List, [], ◌∷◌, ◌++◌, refl, sym, ap}
use Rattle.std.proofs.Common.{append_assoc}
use Rattle.std.specs.Prelude.{Option, None, Some, if◌then◌else◌}
use Rattle.std.specs.Str.{bytes_eq}
use Rattle.json.specs.Print.{print}
use Rattle.json.specs.Token.{Token, begin_object, end_object, key}
use Rattle.json.specs.Tree.{members_tokens}
use Rattle.json.specs.Written.{Written}
use Rattle.serde_json.specs.Written.{members_outline}
use Rattle.row_docs.specs.WritingTexts.{text, value_tokens}
use Rattle.map_docs.specs.Maps.{Labelled}
use Rattle.map_docs.specs.MapsValue.{Messages, by_message, langmaps_value, language_value}
use Rattle.map_docs.specs.MapsValue.{languages_members, messages_members, with_label}
use Rattle.map_docs.specs.WritingMaps.{label_tokens, labels_tokens, opening_tokens}
use Rattle.row_docs.proofs.WritingTextsLemmas.{printed}

-- ---- the tokens of all labels are those of the document

-- the tokens of messages, with the brace that closes the outer object
abbrev messages_tokens : Messages → List Token
messages_tokens ms = members_tokens (members_outline (messages_members ms))

-- the tokens of messages where one is open: those of the first go on with it, if it is that one
abbrev tokens_after : List ℕ → Messages → List Token
tokens_after id [] = end_object ∷ end_object ∷ []
tokens_after id (m ∷ ms) =
    if bytes_eq id m.0
    then members_tokens (members_outline (languages_members m.1)) ++ messages_tokens ms
    else end_object ∷ messages_tokens (m ∷ ms)

abbrev tokens_from : Option (List ℕ) → Messages → List Token
tokens_from None ms = messages_tokens ms
tokens_from (Some id) ms = tokens_after id ms

-- the tokens of the first message after its opening brace, and of those after it
abbrev tokens_within : Messages → List Token
tokens_within [] = []
tokens_within (m ∷ ms) =
    members_tokens (members_outline (languages_members m.1)) ++ messages_tokens ms

within : (e : Labelled) (ms : Messages)
    → tokens_within (with_label e ms) ≡ label_tokens e ++ tokens_after e.0.0 ms
within e [] =
    ap (λ t. key e.0.1 ∷ t)
    (append_assoc (value_tokens (language_value e.1)) (end_object ∷ []) (end_object ∷ []))
within e (m ∷ ms) =
    let texts = value_tokens (language_value e.1) in
    let here : List ℕ × List (List ℕ) = (e.0.1, e.1) in
    elim (bytes_eq e.0.0 m.0) as (λ b.
    tokens_within (if b then (e.0.0, here ∷ m.1) ∷ ms else (e.0.0, here ∷ []) ∷ m ∷ ms)
    ≡ label_tokens e
    ++ (if b then members_tokens (members_outline (languages_members m.1)) ++ messages_tokens ms
    else end_object ∷ messages_tokens (m ∷ ms))) [
      | true ↦ ap (λ t. key e.0.1 ∷ t)
          (append_assoc texts (members_tokens (members_outline (languages_members m.1)))
          (messages_tokens ms))
      | false ↦ ap (λ t. key e.0.1 ∷ t)
          (append_assoc texts (end_object ∷ []) (messages_tokens (m ∷ ms)))
    ]

-- the first message is that of the label
whole_first : (e : Labelled) (ms : Messages)
    → messages_tokens (with_label e ms) ≡ key e.0.0 ∷ begin_object ∷ tokens_within (with_label e ms)
whole_first e [] = refl
whole_first e (m ∷ ms) =
    let here : List ℕ × List (List ℕ) = (e.0.1, e.1) in
    let two : Bool
    → Messages = λ b. if b then (e.0.0, here ∷ m.1) ∷ ms else (e.0.0, here ∷ []) ∷ m ∷ ms in
    elim (bytes_eq e.0.0 m.0) as (λ b. messages_tokens (two b)
    ≡ key e.0.0 ∷ begin_object ∷ tokens_within (two b)) [ true ↦ refl | false ↦ refl ]

after_first : (id : List ℕ) (e : Labelled) (ms : Messages)
    → tokens_after id (with_label e ms)
    ≡ (if bytes_eq id e.0.0 then tokens_within (with_label e ms)
    else end_object ∷ messages_tokens (with_label e ms))
after_first id e [] = refl
after_first id e (m ∷ ms) =
    let here : List ℕ × List (List ℕ) = (e.0.1, e.1) in
    let two : Bool
    → Messages = λ b. if b then (e.0.0, here ∷ m.1) ∷ ms else (e.0.0, here ∷ []) ∷ m ∷ ms in
    elim (bytes_eq e.0.0 m.0) as (λ b. tokens_after id (two b)
    ≡ (if bytes_eq id e.0.0 then tokens_within (two b)
    else end_object ∷ messages_tokens (two b))) [ true ↦ refl | false ↦ refl ]

-- a label in front of the messages: what opens its own, its tokens, and what follows it
from_label : (current : Option (List ℕ)) (e : Labelled) (ms : Messages)
    → tokens_from current (with_label e ms)
    ≡ opening_tokens current e.0.0 ++ (label_tokens e ++ tokens_after e.0.0 ms)
from_label None e ms = whole_first e ms ∙ ap (λ t. key e.0.0 ∷ begin_object ∷ t) (within e ms)
from_label (Some id) e ms =
    let rest = label_tokens e ++ tokens_after e.0.0 ms in
    after_first id e ms
    ∙ elim (bytes_eq id e.0.0) as (λ b.
    (if b then tokens_within (with_label e ms)
    else end_object ∷ messages_tokens (with_label e ms))
    ≡ (if b then [] else end_object ∷ key e.0.0 ∷ begin_object ∷ []) ++ rest) [
      | true ↦ within e ms
      | false ↦ ap (λ t. end_object ∷ t)
          (whole_first e ms ∙ ap (λ t. key e.0.0 ∷ begin_object ∷ t) (within e ms))
    ]

-- labels are written as their messages
pub all_tokens : (current : Option (List ℕ)) (es : List Labelled)
    → labels_tokens current es ≡ tokens_from current (by_message es)
all_tokens None [] = refl
all_tokens (Some id) [] = refl
all_tokens current (e ∷ es) =
    ap (λ t. opening_tokens current e.0.0 ++ (label_tokens e ++ t)) (all_tokens (Some e.0.0) es)
    ∙ sym (from_label current e (by_message es))

-- one label more is written
pub one_written : (all before more after : List Token) (current : Option (List ℕ)) (e : Labelled)
    (es : List Labelled)
    → before ++ labels_tokens current (e ∷ es) ≡ all → after ≡ before ++ more
    → more ≡ opening_tokens current e.0.0 ++ label_tokens e
    → after ++ labels_tokens (Some e.0.0) es ≡ all
one_written all before more after current e es so_far wrote is =
    ap (λ t. t ++ labels_tokens (Some e.0.0) es) (wrote ∙ ap (λ t. before ++ t) is)
    ∙ append_assoc before (opening_tokens current e.0.0 ++ label_tokens e)
    (labels_tokens (Some e.0.0) es)
    ∙ ap (λ t. before ++ t)
    (append_assoc (opening_tokens current e.0.0) (label_tokens e)
    (labels_tokens (Some e.0.0) es))
    ∙ so_far

-- the document is whole once all labels are written
pub written_whole : (draft : Written) (labels : List Labelled) → draft.before ≡ []
    → draft.tokens ≡ begin_object ∷ labels_tokens None labels
    → draft.before ++ (print draft.tokens ++ 10 ∷ []) ≡ text (langmaps_value labels)
written_whole draft labels none is =
    ap (λ b. b ++ (print draft.tokens ++ 10 ∷ [])) none
    ∙ printed draft.tokens (langmaps_value labels)
    (is ∙ ap (λ t. begin_object ∷ t) (all_tokens None labels))
