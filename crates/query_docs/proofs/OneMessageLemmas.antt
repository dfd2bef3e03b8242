-- What a site that is read for one message answers of it.
use Rattle.std.proofs.Common.{◌≡◌, ◌∙◌, ◌++◌, [], ◌∷◌, ℕ, Bool, List, ap, cond, false, map, refl}
use Rattle.std.proofs.Common.{subst, sym, true}
use Rattle.std.specs.Prelude.{filter}
use Rattle.std.proofs.lemmas.List.Elements.{All-filter, filter-append}
use Rattle.std.specs.Ordering.{is_eq}
use Rattle.std.specs.declared.cmp.Ordering.TheVariants.{Less}
use Rattle.catalogue.specs.Asking.{IsFilteredOf, IsLookedUpIn}
use Rattle.nego_core.specs.declared.widening.Widening.TheVariants.{Off}
use Rattle.cell_core.specs.Entry.{EntryKey, key_cmp, text_cmp}
use Rattle.catalogue.specs.Entries.{Entries, Entry, IsAboveAll}
use Rattle.catalogue.specs.Live.{Labelled, live, live_of}
use Rattle.query_docs.specs.Asking.{Answers}
use Rattle.query_docs.specs.inner.OneMessage.{KeepsMessage, is_of}
use Rattle.query_docs.specs.declared.asking.Ask.{Ask}
use Rattle.query_docs.specs.declared.asking.Ask.TheVariants.{Filter, Lookup}
use Rattle.query_docs.specs.declared.one_message.OneMessage.{OneMessage}

-- ---- the cells of the message

-- A key above all cells is above all that were kept.
pub above_kept : (first message : OneMessage) (before : Entries) (key : EntryKey)
    → KeepsMessage first message before → IsAboveAll key before → IsAboveAll key message.cells
above_kept first message before key keeps above =
    subst (λ (es : Entries). IsAboveAll key es) (sym keeps.cells_are)
    (All-filter (λ (e : Entry). is_of first.id.now e.0.0)
    (λ (e : Entry). key_cmp e.0 key ≡ Less) before above)

-- Of the cells with one cell more of the message that one is kept too.
pub kept_more : (first old : OneMessage) (new before : Entries) (e : Entry)
    → is_eq (text_cmp old.id.now e.0.0) ≡ true → new ≡ old.cells ++ e ∷ []
    → KeepsMessage first old before
    → KeepsMessage first (record { id = old.id; cells = new }) (before ++ e ∷ [])
kept_more first old new before e own pushed keeps =
    let p : Entry → Bool = λ x. is_of first.id.now x.0.0 in
    let kept : p e ≡ true =
    ap (λ (id : List ℕ). is_eq (text_cmp id e.0.0)) (sym keeps.id_is) ∙ own in record {
      id_is = keeps.id_is;
      cells_are =
          pushed ∙ ap (λ (es : Entries). es ++ e ∷ []) keeps.cells_are
          ∙ sym (filter-append p before (e ∷ [])
          ∙ ap (λ b. filter p before ++ cond b (e ∷ []) []) kept);
    }

filtered_twice : {X : Type 0} (p : X → Bool) (xs : List X)
    → filter p (filter p xs) ≡ filter p xs
filtered_twice p [] = refl
filtered_twice p (x ∷ xs) =
    let rest = filter p xs in
    elim (p x) as (λ b. p x ≡ b → filter p (cond b (x ∷ rest) rest) ≡ cond b (x ∷ rest) rest) [
      | true ↦ λ b. ap (λ u. cond u (x ∷ filter p rest) (filter p rest)) b
          ∙ ap (λ ys. x ∷ ys) (filtered_twice p xs)
      | false ↦ λ b. filtered_twice p xs
    ] refl

-- The cells that were kept have the live labels of the message.
pub kept_live : (first message : OneMessage) (taken : Entries) → KeepsMessage first message taken
    → live message.cells first.id.now ≡ live taken first.id.now
kept_live first message taken keeps =
    ap (λ (es : Entries). live es first.id.now) keeps.cells_are
    ∙ ap (λ (es : Entries). live_of (map (λ (e : Entry). (e.0.1, e.1)) es))
    (filtered_twice (λ (e : Entry). is_of first.id.now e.0.0) taken)

-- ---- answers

-- What answers a question about a message depends on its live labels alone.
pub same_answers : (cells other : Entries) (id : List ℕ) (asked : Ask) (text : List ℕ)
    (found : Bool) → live cells id ≡ live other id → Answers cells id asked text found
    → Answers other id asked text found
same_answers cells other id (Filter scheme list) text found same (entries, answer, lines, any) = (
  entries,
  subst (λ (labels : Labelled). IsFilteredOf labels scheme list entries) same answer,
  lines,
  any,
)
same_answers cells other id (Lookup list default) text found same (reply, answer, lines, any) = (
  reply,
  subst (λ (labels : Labelled). IsLookedUpIn Off labels list default reply) same answer,
  lines,
  any,
)
