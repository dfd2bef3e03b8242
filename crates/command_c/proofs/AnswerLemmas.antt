-- An input that is not read has no part in what the command leaves.
--
-- The run is over an input of one byte, which no read gives. So nothing has read it to its end, and
-- of the faults of a read only the lack of memory is left: each other one says that a read failed,
-- or that many bytes were given. What does not read its input says nothing of it.
use Rattle.std.proofs.Common.{◌≡◌, ◌⊎◌, ◌∙◌, ◌++◌, ◌∷◌, ◌+◌, [], ℕ, List, true, false, Option}
use Rattle.std.proofs.Common.{Some, None, inl, inr, refl, sym, ap, subst, length, arith, true≢false}
use Rattle.std.proofs.lemmas.List.{length-append}
use Rattle.std.specs.Prelude.{MatchOption}
use Rattle.clap.specs.Words.{Row, Text}
use Rattle.clap.specs.Kinds.{Kinds}
use Rattle.json_docs.specs.Sources.{IsCauseOfRead, IsReadFault, ReadsWhole, is_read_cause}
use Rattle.json_docs.specs.declared.fault.DocCause.{DocCause}
use Rattle.json_docs.specs.declared.fault.DocCause.TheVariants as cause
use Rattle.json_docs.specs.declared.fault.DocFault.{DocFault}
use Rattle.front_core.specs.Fault.{cause_fault, document_fault}
use Rattle.front_core.specs.declared.fault.FrontFault.{FrontFault}
use Rattle.front_core.specs.declared.fault.FrontFault.TheVariants.{NoMemory}
use Rattle.command_core.specs.OutputEndings.{EndsForMemory, EndsRefused}
use Rattle.command_core.specs.OutputStreams.{Writer, streams}
use Rattle.command_core.specs.Program.{Does, RunsBy}
use Rattle.command_core.specs.ProgramHelp.{words_meant}
use Rattle.front_core.specs.Ask.{RefusesFilter, RefusesLookup}
use Rattle.front_core.specs.Reader.{RefusesReader}
use Rattle.front_core.specs.Translate.{RefusesMissing, RefusesOutdated}
use Rattle.command_core.specs.TaskActs.{ActsBy, Answers, IsMisused, Refuses, RefusesChangeOf}
use Rattle.command_core.specs.TaskActs.{Treats}
use Rattle.command_core.specs.TaskReading.{RefusesInput, RefusesNothing}
use Rattle.command_core.specs.TaskWords.{TaskWords}
use Rattle.command_core.specs.TaskWords as task
use Rattle.command_c.specs.Answer.{AnswersTexts, Ended, Runs, out_of_memory}
use Rattle.command_c.specs.Memory.{absent, byte_left, fails, given, keeps}

-- ---- the reading

-- it is not read to its end
not_whole : (bytes : List ℕ) → ReadsWhole fails byte_left false false bytes → ⊥
not_whole bytes h = let left : 0 ∷ [] ≡ [] = h.all.1 in
    let size : 1 ≡ 0 = ap length left in omega (arith, size)

no_bytes : (bytes : List ℕ) → 0 ∷ [] ≡ bytes ++ 0 ∷ [] → length bytes ≡ 67108865 → ⊥
no_bytes bytes e long =
    let size : 1 ≡ length bytes + 1 = ap length e ∙ length-append bytes (0 ∷ []) in
    omega (arith, size, long)

of_cause : (fault : DocFault) (c : DocCause) → fault.cause ≡ c
    → IsReadFault fails byte_left false false fault → cause_fault fault c ≡ NoMemory
of_cause fault cause.NoMemory e h = refl
of_cause fault cause.ReadFault e h =
    absurd (true≢false (sym (h.failing ∙ ap is_read_cause e)))
of_cause fault cause.TooLarge e h =
    let gives = h.too_large (λ i. record { document = h.refused.0 i; cause = e i }) in
    absurd (no_bytes gives.0 gives.2 gives.1)
of_cause fault (cause.NotUtf8 offset) e h = absurd (subst IsCauseOfRead e h.refused.1)
of_cause fault cause.NotJson e h = absurd (subst IsCauseOfRead e h.refused.1)
of_cause fault (cause.Shape spot) e h = absurd (subst IsCauseOfRead e h.refused.1)
of_cause fault (cause.Field row refused) e h = absurd (subst IsCauseOfRead e h.refused.1)
of_cause fault (cause.CellOrder row) e h = absurd (subst IsCauseOfRead e h.refused.1)
of_cause fault (cause.RepeatedTag row) e h = absurd (subst IsCauseOfRead e h.refused.1)
of_cause fault cause.WriteFault e h = absurd (subst IsCauseOfRead e h.refused.1)
of_cause fault cause.SiteName e h = absurd (subst IsCauseOfRead e h.refused.1)
of_cause fault cause.VersionUnknown e h = absurd (subst IsCauseOfRead e h.refused.1)
of_cause fault (cause.TimeAhead row) e h = absurd (subst IsCauseOfRead e h.refused.1)
of_cause fault (cause.OwnEditMissing row) e h = absurd (subst IsCauseOfRead e h.refused.1)
of_cause fault (cause.Site refused) e h = absurd (subst IsCauseOfRead e h.refused.1)
of_cause fault (cause.Step refused) e h = absurd (subst IsCauseOfRead e h.refused.1)

-- it is not read for lack of memory alone
read_for_memory : (fault : DocFault) → IsReadFault fails byte_left false false fault
    → document_fault fault ≡ NoMemory
read_for_memory fault h = of_cause fault fault.cause refl h

-- ---- a task

-- its words are refused, or memory is lacking
by_input : (Has : Type 0) (RefusesWords : FrontFault → Type 0)
    (RefusesIt : List ℕ → DocFault → Type 0) (input : List ℕ) (refused : FrontFault)
    → RefusesInput Has RefusesWords RefusesIt (absent false) refused
    → RefusesInput Has RefusesWords RefusesIt (given input input) refused ⊎ (refused ≡ NoMemory)
by_input Has RefusesWords RefusesIt input refused h =
    elim h as
    (λ _. RefusesInput Has RefusesWords RefusesIt (given input input) refused
    ⊎ (refused ≡ NoMemory)) [
      | inl words ↦ inl (inl (words.0, refl))
      | inr read ↦
          elim read.1.1 as
          (λ _. RefusesInput Has RefusesWords RefusesIt (given input input) refused
          ⊎ (refused ≡ NoMemory)) [
            | inl fault ↦ inr (read.1.2 ∙ read_for_memory read.1.0 fault)
            | inr whole ↦ absurd (not_whole whole.0 whole.1)
          ]
    ]

moves : (asked : TaskWords) (input : List ℕ) (refused : FrontFault)
    → Refuses asked (absent false) refused
    → Refuses asked (given input input) refused ⊎ (refused ≡ NoMemory)
moves (task.Pick words) input refused h = inl (refl, h.1)
moves (task.PickAll words) input refused h = inl (refl, h.1)
moves (task.New name) input refused h = inl (refl, h.1)
moves (task.Edit words) input refused h =
    by_input _ (RefusesChangeOf words) _ input refused h
moves (task.Document task) input refused h =
    by_input _ RefusesNothing _ input refused h
moves (task.View view) input refused h =
    by_input _ RefusesNothing _ input refused h
moves (task.Missing word) input refused h =
    by_input _ (RefusesMissing word) _ input refused h
moves (task.Outdated words) input refused h =
    by_input _ (RefusesOutdated words.lang words.source) _ input refused h
moves task.Changes input refused h =
    by_input _ RefusesNothing _ input refused h
moves (task.Filter words) input refused h =
    by_input _ (RefusesFilter words.id words.offers words.field) _ input refused h
moves (task.Lookup words) input refused h =
    by_input _ (RefusesLookup words.id words.reader.offers words.reader.preferences.field
    words.reader.preferences.default) _ input refused h
moves (task.Bundle words) input refused h =
    by_input _ (RefusesReader words.offers words.preferences.field words.preferences.default) _
    input refused h
moves (task.Sync checks) input refused h =
    by_input _ RefusesNothing _ input refused h
moves task.Replay input refused h =
    by_input _ RefusesNothing _ input refused h
moves (task.Explain number) input refused h = inl (refl, h.1)

answers : (asked : TaskWords) (input text : List ℕ) (answered : ℕ)
    → Answers asked (absent false) text answered → Answers asked (given input input) text answered
answers (task.Pick words) input text answered h = (refl, h.1)
answers (task.PickAll words) input text answered h = (refl, h.1)
answers (task.New name) input text answered h = (refl, h.1)
answers (task.Edit words) input text answered h = absurd (not_whole h.0 h.1)
answers (task.Document task) input text answered h = absurd (not_whole h.0 h.1)
answers (task.View view) input text answered h = absurd (not_whole h.0 h.1)
answers (task.Missing word) input text answered h = absurd (not_whole h.0 h.1)
answers (task.Outdated words) input text answered h = absurd (not_whole h.0 h.1)
answers task.Changes input text answered h = absurd (not_whole h.0 h.1)
answers (task.Filter words) input text answered h = absurd (not_whole h.0 h.1)
answers (task.Lookup words) input text answered h = absurd (not_whole h.0 h.1)
answers (task.Bundle words) input text answered h = absurd (not_whole h.0 h.1)
answers (task.Sync checks) input text answered h = absurd (not_whole h.0 h.1)
answers task.Replay input text answered h = absurd (not_whole h.0 h.1)
answers (task.Explain number) input text answered h = (refl, h.1)

module _ {W F : Type 0} (input : List ℕ) (writer : Writer W) (faults : Writer F) (status : ℕ) where
  treats : (asked : TaskWords) → Treats asked (streams (absent false) writer faults) status
      → Treats asked (streams (given input input) writer faults) status
      ⊎ EndsForMemory writer faults status
  treats asked h =
      elim h as
      (λ _. Treats asked (streams (given input input) writer faults) status
      ⊎ EndsForMemory writer faults status) [
        | inl a ↦ inl (inl (a.0, a.1, answers asked input a.0 a.1 a.2, a.3))
        | inr r ↦
            elim (moves asked input r.0 r.1) as
            (λ _. Treats asked (streams (given input input) writer faults) status
            ⊎ EndsForMemory writer faults status) [
              | inl refuses ↦ inl (inr (r.0, refuses, r.2))
              | inr memory ↦
                  inr (subst (λ (f : FrontFault). EndsRefused f writer faults status) memory r.2)
            ]
      ]

  acts_of : (asked : Option TaskWords)
      → MatchOption asked (IsMisused (streams (absent false) writer faults) status)
      (λ t. Treats t (streams (absent false) writer faults) status)
      → MatchOption asked (IsMisused (streams (given input input) writer faults) status)
      (λ t. Treats t (streams (given input input) writer faults) status)
      ⊎ EndsForMemory writer faults status
  acts_of None h = inl (refl, h.1, h.2)
  acts_of (Some asked) h = treats asked h

  acts : (met : Option (Text × List Row))
      → ActsBy met (streams (absent false) writer faults) status
      → ActsBy met (streams (given input input) writer faults) status
      ⊎ EndsForMemory writer faults status
  acts met h =
      elim (acts_of h.0 h.2) as
      (λ _. ActsBy met (streams (given input input) writer faults) status
      ⊎ EndsForMemory writer faults status) [
        | inl done ↦ inl (h.0, h.1, done)
        | inr memory ↦ inr memory
      ]

  does : (kinds : Kinds) (met : Option (Text × List Row))
      → Does kinds met (streams (absent false) writer faults) status
      → Does kinds met (streams (given input input) writer faults) status
      ⊎ EndsForMemory writer faults status
  does [] met h = acts met h
  does (k ∷ ks) met h = inl (refl, h.1)

  runs_by : (words : List Text) → RunsBy words (streams (absent false) writer faults) status
      → RunsBy words (streams (given input input) writer faults) status
  runs_by words run = record {
    app = run.app;
    app_ok = run.app_ok;
    done = elim run.done [
      | inl done ↦ elim (does _ _ done) [
        | inl same ↦ inl same
        | inr memory ↦ inr (refl, memory)
      ]
      | inr memory ↦ inr (refl, memory.1)
    ];
  }

-- What a run leaves that does not read its input it leaves over every input.
pub unread_runs : (words : List Text) (ended : Ended) → Runs words (absent false) ended
    → (input : List ℕ) → Runs words (given input input) ended
unread_runs words ended run input =
    runs_by input (keeps ended.output) (keeps ended.errors) ended.status (words_meant words) run

-- What is answered without the input is left over every input, unless memory ended.
pub unread_answers : (words : List Text) (input : List ℕ) (ended : Ended)
    → AnswersTexts words input false ended → (other : List ℕ)
    → Runs words (given other other) ended ⊎ (ended ≡ out_of_memory)
unread_answers words input ended h other =
    elim h as (λ _. Runs words (given other other) ended ⊎ (ended ≡ out_of_memory)) [
      | inl run ↦ inl (unread_runs words ended run other)
      | inr memory ↦ inr memory
    ]
