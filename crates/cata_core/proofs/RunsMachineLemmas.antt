-- Runs step by step, from a state on: soundness, the first fault and the answers.
use Rattle.std.proofs.Common.{◌≡◌, ℕ, ◌+◌, List, [], ◌∷◌, ◌++◌, ◌⊎◌, length, inl, inr, refl, sym}
use Rattle.std.proofs.Common.{ap, subst, arith}
use Rattle.std.specs.Prelude.{⊤}
use Rattle.cata_core.specs.declared.step.Step.{Step}
use Rattle.cata_core.specs.declared.play_fault.PlayFault.{PlayFault}
use Rattle.cata_core.specs.declared.play_fault.PlayFault.TheVariants.{NoMemory, NoSuchPost}
use Rattle.cata_core.specs.declared.play_fault.PlayFault.TheVariants.{NoSuchSite, StampReused}
use Rattle.cata_core.specs.declared.answer.Answer.{Answer}
use Rattle.catalogue.specs.Edits.{catalogue_of}
use Rattle.cata_core.specs.RunsTaken.{Taken, taken_step, taken_after, nothing_taken, taken}
use Rattle.cata_core.specs.WorldHeld.{Held, held_step, held_after, nothing_held, held}
use Rattle.cata_core.specs.Answer.{IsAnswered, AreAnswersBy, AreHeldAnswers, AreAnswers}
use Rattle.cata_core.specs.PlayFault.{IsSound, IsFaultOf, NoneFaulty, IsFirstFault}
use Rattle.cata_core.specs.inner.PlayFault.{RefusesStep}

-- no step is faulty, from a state on
abbrev pub AllSound : ℕ → Held → List Step → Type 0
AllSound sites w [] = ⊤
AllSound sites w (step ∷ steps) = IsSound sites w step × AllSound sites (held_step w step) steps

-- the fault is that of a step before which none is faulty, from a state and a number on
abbrev pub FaultFrom : ℕ → Held → ℕ → List Step → PlayFault → Type 0
FaultFrom sites w n [] fault = fault ≡ NoMemory
FaultFrom sites w n (step ∷ steps) fault =
    RefusesStep sites w n step fault
    ⊎ (IsSound sites w step × FaultFrom sites (held_step w step) (n + 1) steps fault)

-- the answers by what is held, from a state on
abbrev pub HeldAnswersFrom : Held → List Step → List Answer → Type 0
HeldAnswersFrom w [] answers = answers ≡ []
HeldAnswersFrom w (step ∷ steps) answers =
    (now : List Answer) × (later : List Answer) × (answers ≡ now ++ later)
    × IsAnswered w.of_site step now × HeldAnswersFrom (held_step w step) steps later

-- the answers by what was taken, from a state on
abbrev pub TakenAnswersFrom : Taken → List Step → List Answer → Type 0
TakenAnswersFrom w [] answers = answers ≡ []
TakenAnswersFrom w (step ∷ steps) answers =
    (now : List Answer) × (later : List Answer) × (answers ≡ now ++ later)
    × IsAnswered (λ s. catalogue_of (w.of_site s)) step now
    × TakenAnswersFrom (taken_step w step) steps later

-- The edits taken after one more step are those that the step makes of the state before it.
pub taken_one_more : (w : Taken) (steps : List Step) (step : Step)
    → taken_after w (steps ++ step ∷ []) ≡ taken_step (taken_after w steps) step
taken_one_more w [] step = refl
taken_one_more w (s ∷ steps) step = taken_one_more (taken_step w s) steps step

-- The cells after one more step are those that the step makes of the state before it.
pub held_one_more : (w : Held) (steps : List Step) (step : Step)
    → held_after w (steps ++ step ∷ []) ≡ held_step (held_after w steps) step
held_one_more w [] step = refl
held_one_more w (s ∷ steps) step = held_one_more (held_step w s) steps step

-- the same by the steps before
held_where : (before steps : List Step) (answers : List Answer)
    → HeldAnswersFrom (held_after nothing_held before) steps answers
    → AreAnswersBy held before steps answers
held_where before [] answers h = h
held_where before (step ∷ steps) answers h = (
  h.0,
  h.1,
  h.2,
  h.3,
  held_where (before ++ step ∷ []) steps h.1
      (subst (λ w. HeldAnswersFrom w steps h.1) (sym (held_one_more nothing_held before step))
      h.4),
)

taken_where : (before steps : List Step) (answers : List Answer)
    → TakenAnswersFrom (taken_after nothing_taken before) steps answers
    → AreAnswersBy (λ b site. catalogue_of (taken b site)) before steps answers
taken_where before [] answers h = h
taken_where before (step ∷ steps) answers h = (
  h.0,
  h.1,
  h.2,
  h.3,
  taken_where (before ++ step ∷ []) steps h.1
      (subst (λ w. TakenAnswersFrom w steps h.1) (sym (taken_one_more nothing_taken before step))
      h.4),
)

-- Answers given step by step from the sites' cells are the run's answers by those cells.
pub held_answers : (steps : List Step) (answers : List Answer)
    → HeldAnswersFrom nothing_held steps answers → AreHeldAnswers steps answers
held_answers steps answers h = held_where [] steps answers h

-- Answers given step by step from the taken edits are the expected answers of the run.
pub taken_answers : (steps : List Step) (answers : List Answer)
    → TakenAnswersFrom nothing_taken steps answers → AreAnswers steps answers
taken_answers steps answers h = taken_where [] steps answers h

sound_at : (sites : ℕ) (w : Held) (steps : List Step) → AllSound sites w steps
    → (before : List Step) (step : Step) (after : List Step) → steps ≡ before ++ step ∷ after
    → IsSound sites (held_after w before) step
sound_at sites w [] h [] step after e = absurd (cc)
sound_at sites w [] h (b ∷ before) step after e = absurd (cc)
sound_at sites w (s ∷ steps) h [] step after e = let same : s ≡ step = cc in
    subst (IsSound sites w) same h.0
sound_at sites w (s ∷ steps) h (b ∷ before) step after e =
    let same : s ≡ b = cc in
    let rest : steps ≡ before ++ step ∷ after = cc in
    subst (λ x. IsSound sites (held_after (held_step w x) before) step) same
    (sound_at sites (held_step w s) steps h.1 before step after rest)

-- Where each step is sound in the state before it, no step of the run is faulty.
pub none_faulty : (sites : ℕ) (steps : List Step) → AllSound sites nothing_held steps
    → NoneFaulty sites steps
none_faulty sites steps h = sound_at sites nothing_held steps h

sound_from : (sites : ℕ) (w : Held) (steps : List Step)
    → ((before : List Step) (step : Step) (after : List Step) → steps ≡ before ++ step ∷ after
    → IsSound sites (held_after w before) step) → AllSound sites w steps
sound_from sites w [] h = tt
sound_from sites w (s ∷ steps) h = (
  h [] s steps refl,
  sound_from sites (held_step w s) steps
      (λ before step after e. h (s ∷ before) step after (ap (λ xs. s ∷ xs) e)),
)

-- Where no step of a run is faulty, each is sound in the state before it.
pub all_sound : (sites : ℕ) (steps : List Step) → NoneFaulty sites steps
    → AllSound sites nothing_held steps
all_sound sites steps h = sound_from sites nothing_held steps h

-- the first fault, from a state and a number on
record FirstFrom (sites : ℕ) (w : Held) (n : ℕ) (steps : List Step) (fault : PlayFault) : Type 0
  where
    before : List Step
    step : Step
    after : List Step
    steps_are : steps ≡ before ++ step ∷ after
    sound : AllSound sites w before
    fault_of : IsFaultOf sites (held_after w before) (n + length before) step fault

-- what refuses a step is out of memory, or why it is faulty
memory_or_faulty : (sites : ℕ) (w : Held) (n : ℕ) (step : Step) (fault : PlayFault)
    → RefusesStep sites w n step fault → (fault ≡ NoMemory) ⊎ IsFaultOf sites w n step fault
memory_or_faulty sites w n step (NoSuchSite at) h = inr h
memory_or_faulty sites w n step (NoSuchPost at) h = inr h
memory_or_faulty sites w n step (StampReused at place stamp) h = inr h
memory_or_faulty sites w n step NoMemory h = inl refl

first_from : (sites : ℕ) (w : Held) (n : ℕ) (steps : List Step) (fault : PlayFault)
    → FaultFrom sites w n steps fault → (fault ≡ NoMemory) ⊎ FirstFrom sites w n steps fault
first_from sites w n [] fault h = inl h
first_from sites w n (step ∷ steps) fault h =
    elim h as (λ _. (fault ≡ NoMemory) ⊎ FirstFrom sites w n (step ∷ steps) fault) [
      | inl now ↦ let same : n ≡ n + 0 = omega arith in
          elim (memory_or_faulty sites w n step fault now) as
          (λ _. (fault ≡ NoMemory) ⊎ FirstFrom sites w n (step ∷ steps) fault) [
            | inl memory ↦ inl memory
            | inr faulty ↦ inr (record {
              before = [];
              step = step;
              after = steps;
              steps_are = refl;
              sound =
                  tt;
              fault_of = subst (λ m. IsFaultOf sites w m step fault) same faulty;
            })
          ]
      | inr later ↦
          elim (first_from sites (held_step w step) (n + 1) steps fault later.1) as
          (λ _. (fault ≡ NoMemory) ⊎ FirstFrom sites w n (step ∷ steps) fault) [
            | inl memory ↦ inl memory
            | inr r ↦
                let same : n + 1 + length r.before ≡ n + length (step ∷ r.before) = omega arith in
                inr (record {
                  before = step ∷ r.before;
                  step = r.step;
                  after = r.after;
                  steps_are = ap (λ xs. step ∷ xs) r.steps_are;
                  sound = (later.0, r.sound);
                  fault_of =
                      subst (λ m. IsFaultOf sites (held_after (held_step w step) r.before) m r.step
                      fault)
                      same r.fault_of;
                })
          ]
    ]

-- A fault found step by step is out of memory, or that of the first faulty step of the run.
pub first_fault : (sites : ℕ) (steps : List Step) (fault : PlayFault)
    → FaultFrom sites nothing_held 0 steps fault
    → (fault ≡ NoMemory) ⊎ IsFirstFault sites steps fault
first_fault sites steps fault h =
    elim (first_from sites nothing_held 0 steps fault h) as
    (λ _. (fault ≡ NoMemory) ⊎ IsFirstFault sites steps fault) [
      | inl memory ↦ inl memory
      | inr r ↦
          let same : 0 + length r.before ≡ length r.before = omega arith in
          inr (record {
            before = r.before;
            step = r.step;
            after = r.after;
            steps_are = r.steps_are;
            none_before = none_faulty sites r.before r.sound;
            fault_of =
                subst (λ m. IsFaultOf sites (held_after nothing_held r.before) m r.step fault) same
                r.fault_of;
          })
    ]
