-- Tests of a list, and of what follows it.
use Rattle.std.proofs.Common.{◌≡◌, ◌++◌, List, [], ◌∷◌, sym, subst, append_assoc, append-nil, inl}
use Rattle.std.proofs.Common.{inr}
use Rattle.serde_json.specs.Data.{Data}
use Rattle.json_docs.specs.FaultChecks.{AllPass, Check, FirstFails, rows_checks}
use Rattle.json_docs.specs.declared.fault.DocCause.{DocCause}

-- two lists of tests that pass are one that passes
pub AllPass-both : (xs ys : List Check) → AllPass xs → AllPass ys → AllPass (xs ++ ys)
AllPass-both [] ys p q = q
AllPass-both (x ∷ xs) ys p q = (p.0, AllPass-both xs ys p.1 q)

-- of tests that all pass the first ones pass
pub AllPass-front : (xs ys : List Check) → AllPass (xs ++ ys) → AllPass xs
AllPass-front [] ys p = tt
AllPass-front (x ∷ xs) ys p = (p.0, AllPass-front xs ys p.1)

-- of tests that all pass the last ones pass
pub AllPass-rest : (xs ys : List Check) → AllPass (xs ++ ys) → AllPass ys
AllPass-rest [] ys p = p
AllPass-rest (x ∷ xs) ys p = AllPass-rest xs ys p.1

-- a test that fails is the first that fails, whatever follows it
pub FirstFails-front : (xs ys : List Check) (e : DocCause) → FirstFails xs e
    → FirstFails (xs ++ ys) e
FirstFails-front [] ys e p = absurd p
FirstFails-front (x ∷ xs) ys e p = elim p [
  | inl h ↦ inl h
  | inr h ↦ inr (h.0, FirstFails-front xs ys e h.1)
]

-- after tests that pass the first that fails is that of the others
pub FirstFails-rest : (xs ys : List Check) (e : DocCause) → AllPass xs → FirstFails ys e
    → FirstFails (xs ++ ys) e
FirstFails-rest [] ys e p q = q
FirstFails-rest (x ∷ xs) ys e p q = inr (p.0, FirstFails-rest xs ys e p.1 q)

-- what fails after the first tests may be any longer list that fails likewise
fail_in : (xs ys zs : List Check) (e : DocCause) → (FirstFails ys e → FirstFails zs e)
    → FirstFails (xs ++ ys) e → FirstFails (xs ++ zs) e
fail_in [] ys zs e f p = f p
fail_in (x ∷ xs) ys zs e f p = elim p [
  | inl h ↦ inl h
  | inr h ↦ inr (h.0, fail_in xs ys zs e f h.1)
]

-- ---- rows

module _ (checks : List Data → Data → List Check) where
  one : (before xs : List Data) (x : Data) → (before ++ x ∷ []) ++ xs ≡ before ++ x ∷ xs
  one before xs x = append_assoc before (x ∷ []) xs

  -- where the first rows pass, and the rest after them, all rows pass
  pub rows-pass : (before xs ys : List Data) → AllPass (rows_checks checks before xs)
      → AllPass (rows_checks checks (before ++ xs) ys)
      → AllPass (rows_checks checks before (xs ++ ys))
  rows-pass before [] ys p q = subst (λ b. AllPass (rows_checks checks b ys)) (append-nil before) q
  rows-pass before (x ∷ xs) ys p q =
      let first = checks before x in
      let rest = rows_checks checks (before ++ x ∷ []) xs in
      AllPass-both first (rows_checks checks (before ++ x ∷ []) (xs ++ ys))
      (AllPass-front first rest p)
      (rows-pass (before ++ x ∷ []) xs ys (AllPass-rest first rest p)
      (subst (λ b. AllPass (rows_checks checks b ys)) (sym (one before xs x)) q))

  -- what fails first among the first rows fails first among all
  pub rows-fail-front : (before xs ys : List Data) (e : DocCause)
      → FirstFails (rows_checks checks before xs) e
      → FirstFails (rows_checks checks before (xs ++ ys)) e
  rows-fail-front before [] ys e p = absurd p
  rows-fail-front before (x ∷ xs) ys e p =
      fail_in (checks before x) (rows_checks checks (before ++ x ∷ []) xs)
      (rows_checks checks (before ++ x ∷ []) (xs ++ ys)) e
      (rows-fail-front (before ++ x ∷ []) xs ys e) p

  -- where the first rows pass, what fails first among the rest fails first among all
  pub rows-fail-rest : (before xs ys : List Data) (e : DocCause)
      → AllPass (rows_checks checks before xs) → FirstFails (rows_checks checks (before ++ xs) ys) e
      → FirstFails (rows_checks checks before (xs ++ ys)) e
  rows-fail-rest before [] ys e p q =
      subst (λ b. FirstFails (rows_checks checks b ys) e) (append-nil before) q
  rows-fail-rest before (x ∷ xs) ys e p q =
      let first = checks before x in
      let rest = rows_checks checks (before ++ x ∷ []) xs in
      FirstFails-rest first (rows_checks checks (before ++ x ∷ []) (xs ++ ys)) e
      (AllPass-front first rest p)
      (rows-fail-rest (before ++ x ∷ []) xs ys e (AllPass-rest first rest p)
      (subst (λ b. FirstFails (rows_checks checks b ys) e) (sym (one before xs x)) q))
