-- What holds of a run after some of its steps.
use Rattle.std.proofs.Common.{◌≡◌, ℕ, ◌+◌, ◌<◌, ◌≤◌, List, [], ◌∷◌, ◌++◌, length, drop, get_or, inl}
use Rattle.std.proofs.Common.{inr, refl, sym, ap, ◌∙◌, subst, append_assoc}
use Rattle.std.proofs.lemmas.List.{drop_more, drop_all}
use Rattle.cata_core.specs.declared.step.Step.{Step}
use Rattle.cata_core.specs.declared.answer.Answer.{Answer}
use Rattle.cata_core.specs.declared.play_fault.PlayFault.{PlayFault}
use Rattle.cata_core.specs.declared.runs.world.World.{World}
use Rattle.catalogue.specs.Edits.{IsConsistent}
use Rattle.cata_core.specs.RunsTaken.{edits_of}
use Rattle.cata_core.specs.WorldHeld.{nothing_held}
use Rattle.cata_core.specs.Answer.{AreHeldAnswers, AreAnswers}
use Rattle.cata_core.specs.PlayFault.{IsSound, NoneFaulty, NoDelivers}
use Rattle.cata_core.specs.inner.PlayFault.{RefusesStep}
use Rattle.cata_core.specs.inner.World.{held_in, IsRunning, IsStepped}
use Rattle.catalogue.proofs.Basics.{append_nil}
use Rattle.cata_core.proofs.RunsMachineLemmas.{AllSound, FaultFrom, HeldAnswersFrom, held_answers}
use Rattle.cata_core.proofs.RunsMachineLemmas.{none_faulty}
use Rattle.cata_core.proofs.RunsTakenAndHeldLemmas.{consistent_answers}
use Rattle.cata_core.proofs.RunsSettledLemmas.{undelivered_answers}

-- after n steps what is answered and found of the steps that are left is so of all steps
pub record IsPlayed (sites : ℕ) (steps : List Step) (n : ℕ) (world : World) : Type 0 where
  pub len : length world.sites.items ≡ sites
  pub addressed : IsRunning (length world.sites.items) (held_in world)
  pub answered : (later : List Answer) → HeldAnswersFrom (held_in world) (drop n steps) later
      → HeldAnswersFrom nothing_held steps (world.answers.items ++ later)
  pub sound : AllSound sites (held_in world) (drop n steps) → AllSound sites nothing_held steps
  pub refused : (fault : PlayFault) → FaultFrom sites (held_in world) n (drop n steps) fault
      → FaultFrom sites nothing_held 0 steps fault

module _ (sites : ℕ) (steps : List Step) (n : ℕ) (old : World) (step : Step)
    (played : IsPlayed sites steps n old) (lt : n < length steps) (is : step ≡ get_or steps n step)
  where
    rest : drop n steps ≡ step ∷ drop (n + 1) steps
    rest = drop_more steps n step lt ∙ ap (λ x. x ∷ drop (n + 1) steps) (sym is)

    -- a step that is not faulty is played
    pub played_on : (new : World) → IsStepped old new step → IsPlayed sites steps (n + 1) new
    played_on new s =
        let sound_now : IsSound sites (held_in old) step =
        subst (λ m. IsSound m (held_in old) step) played.len s.sound in
        record {
          len = s.sites ∙ played.len;
          addressed = subst (λ m. IsRunning m (held_in new)) (sym s.sites) s.addressed;
          answered = λ later h.
              subst (HeldAnswersFrom nothing_held steps)
              (sym (ap (λ xs. xs ++ later) s.answers
              ∙ append_assoc old.answers.items s.answered later))
              (played.answered (s.answered ++ later)
              (subst (λ xs. HeldAnswersFrom (held_in old) xs (s.answered ++ later)) (sym rest) (
                s.answered,
                later,
                refl,
                s.are_answers,
                subst (λ w. HeldAnswersFrom w (drop (n + 1) steps) later) s.held h,
              )));
          sound =
              λ h. played.sound
              (subst (AllSound sites (held_in old)) (sym rest)
              (sound_now, subst (λ w. AllSound sites w (drop (n + 1) steps)) s.held h));
          refused =
              λ fault h.
              played.refused fault
              (subst (λ xs. FaultFrom sites (held_in old) n xs fault) (sym rest)
              (inr (
                sound_now,
                subst (λ w. FaultFrom sites w (n + 1) (drop (n + 1) steps) fault)
                    s.held h,
              )));
        }

    -- a fault of the step is one of the run
    pub refused_now : (fault : PlayFault)
        → RefusesStep (length old.sites.items) (held_in old) n step fault
        → FaultFrom sites nothing_held 0 steps fault
    refused_now fault h =
        played.refused fault
        (subst (λ xs. FaultFrom sites (held_in old) n xs fault) (sym rest)
        (inl (subst (λ m. RefusesStep m (held_in old) n step fault) played.len h)))

-- after all steps
module _ (sites : ℕ) (steps : List Step) (n : ℕ) (world : World)
    (played : IsPlayed sites steps n world) (all : length steps ≤ n) where
  all_sound : AllSound sites nothing_held steps
  all_sound = played.sound (subst (AllSound sites (held_in world)) (sym (drop_all n steps all)) tt)

  answered : HeldAnswersFrom nothing_held steps world.answers.items
  answered =
      subst (HeldAnswersFrom nothing_held steps) (append_nil world.answers.items)
      (played.answered []
      (subst (λ xs. HeldAnswersFrom (held_in world) xs []) (sym (drop_all n steps all)) refl))

  -- where all steps were played none is faulty
  pub none_is_faulty : NoneFaulty sites steps
  none_is_faulty = none_faulty sites steps all_sound

  -- the answers are over what the sites hold
  pub answers_held : AreHeldAnswers steps world.answers.items
  answers_held = held_answers steps world.answers.items answered

  -- where no two edits clash, they are over the edits that the sites took
  pub answers_consistent : IsConsistent (edits_of steps) → AreAnswers steps world.answers.items
  answers_consistent consistent = consistent_answers steps consistent world.answers.items answered

  -- so they are where nothing was delivered
  pub answers_undelivered : NoDelivers steps → AreAnswers steps world.answers.items
  answers_undelivered none =
      undelivered_answers sites steps none all_sound world.answers.items answered
