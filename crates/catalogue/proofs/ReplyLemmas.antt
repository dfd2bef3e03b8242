-- What a lookup answers, by what was chosen and found.
use Rattle.std.proofs.Common.{◌≡◌, ℕ, List, Option, Some, None, sym, ap, ◌∙◌, true, true≢false}
use Rattle.std.proofs.Common.{refl}
use Rattle.std.specs.Prelude.{IsTrue}
use Rattle.std.specs.Borrow.{Bor}
use Rattle.std.specs.Option.{is_some}
use Rattle.std.specs.FinMap.Entries.{find}
use Rattle.cell_core.specs.Entry.{text_cmp}
use Rattle.cell_core.specs.KeyedFound.{with_key}
use Rattle.catalogue.specs.inner.ReplyBorrowed.{lent_pair}
use Rattle.catalogue.specs.Live.{Labelled, is_live}

nothing_of : {K J : Type 0} (k : K) (o : Option J) → None ≡ with_key k o → o ≡ None
nothing_of k None = λ e. refl
nothing_of k (Some w) = λ e. absurd (cc)

-- what is not found is not live
pub not_live : (labels : Labelled) (text : List ℕ)
    → None ≡ with_key text (find text_cmp text labels) → IsTrue (is_live labels text) → ⊥
not_live labels text none live =
    true≢false (sym live ∙ ap is_some (nothing_of text (find text_cmp text labels) none))

-- what is found is there just where it is live
pub is_there : (labels : Labelled) (text : List ℕ)
    (found : Option (Bor (List ℕ) × Bor (List (List ℕ))))
    → lent_pair found ≡ with_key text (find text_cmp text labels)
    → is_some found ≡ is_live labels text
is_there labels text None e =
    ap is_some (sym (nothing_of text (find text_cmp text labels) e))
is_there labels text (Some x) e =
    elim (find text_cmp text labels) as
    (λ o. lent_pair (Some x) ≡ with_key text o → true ≡ is_some o) [
      | None ↦ λ f. absurd (cc)
      | Some label ↦ λ f. refl
    ] e
