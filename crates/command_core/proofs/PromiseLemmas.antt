-- How the promise is composed. The contract of `replay` gives a script, and answers that are those
-- by the catalogues of what the sites took, as its edits are consistent. Such a list of answers is
-- cut where the steps before a question end: what comes then are the lines of that question's
-- answer. It has one answer over a catalogue, and sites that took the same edits have one
-- catalogue.
--
-- In the one word of `lexicat replay` clap finds no fault, and the command without arguments. So a
-- run did that task: it answered, since a refusal has another status than 0.
use Rattle.std.proofs.Common.{Contains, List, None, Option, Some, [], ap, append-nil, append_assoc}
use Rattle.std.proofs.Common.{codes, false, inl, inr, length, refl, subst, sym, true, ℕ, ◌++◌, ◌∙◌}
use Rattle.std.proofs.Common.{◌∷◌, ◌≡◌, ◌≢◌, ◌⊎◌}
use Rattle.std.specs.Prelude.{MatchOption, if◌then◌else◌, ◌==◌, ◌||◌, ◌↔◌}
use Rattle.std.proofs.lemmas.Bool.{eqb-false}
use Rattle.std.specs.FinMap.Entries.{find}
use Rattle.std.specs.Ordering.{ordering_reverse}
use Rattle.std.specs.declared.cmp.Ordering.{Ordering}
use Rattle.std.specs.declared.cmp.Ordering.TheVariants.{Equal, Greater, Less}
use Rattle.cell_core.specs.inner.Cell.{stamp_cmp_exact, stamp_cmp_total}
use Rattle.cell_core.specs.Entry.{EntryKey, key_cmp}
use Rattle.cell_core.specs.Stamp.{stamp_cmp}
use Rattle.cell_core.specs.declared.cell.Cell.{Cell}
use Rattle.catalogue.specs.Edits.{IsBest, IsConsistent, IsSettled, SameMembers, catalogue_of}
use Rattle.catalogue.specs.Entries.{Agree, Entries, Entry, joined}
use Rattle.catalogue.proofs.AskingLemmas.{one_filter_answer, one_lookup_answer}
use Rattle.catalogue.proofs.CatalogueLemmas.{best_found, found_best, has_cell, same_catalogue}
use Rattle.catalogue.proofs.CatalogueMembersLemmas.{Contains-from_in, In, in_append_left}
use Rattle.catalogue.proofs.CatalogueMembersLemmas.{in_append_cases, in_from_Contains}
use Rattle.catalogue.proofs.CatalogueSettledLemmas.{catalogue_of_both, settled_part}
use Rattle.cata_core.specs.Answer.{AreAnswers, AreAnswersBy, IsAnswered}
use Rattle.cata_core.specs.RunsTaken.{edits_by, edits_of, taken}
use Rattle.cata_core.specs.WorldHeld.{Held, held, joins, nothing_held}
use Rattle.cata_core.specs.declared.answer.Answer.{Answer}
use Rattle.cata_core.specs.declared.step.Step.{Step}
use Rattle.cata_core.specs.declared.step.Step.TheVariants.{Edit, Merge}
use Rattle.cata_core.proofs.RunsMachineLemmas.{held_one_more}
use Rattle.cata_core.proofs.RunsSpreadingLemmas.{only_edits_taken}
use Rattle.cata_core.proofs.RunsTakenAndHeldLemmas.{held_is_catalogue}
use Rattle.cata_core.proofs.SiteEqualLemmas.{equal_sites}
use Rattle.script_docs.proofs.ReadingOneScript.{one_script}
use Rattle.query_docs.specs.Lines.{cells_lines, filter_lines, lines, lines_of, reply_line}
use Rattle.command_core.specs.Promise.{AreLinesOf, Asks, GoesOn, HasConsistentEdits, Question}
use Rattle.command_core.specs.Promise.{all_cells, asked, filter_of, lookup_of}
use Rattle.docs_core.specs.Replaying.{Replays}
use Rattle.clap.specs.Words.{fault_of, subcommand_of}
use Rattle.clap.proofs.OnLiterals.{clap_on_literals}
use Rattle.front_core.specs.Fault.{number_of}
use Rattle.command_core.specs.ArgumentsWords.{ErrorNames, Schemes, lexicat_app}
use Rattle.command_core.specs.OutputEndings.{Writes}
use Rattle.command_core.specs.OutputStreams.{Streams}
use Rattle.command_core.specs.Program.{Does}
use Rattle.command_core.specs.Promise.{RunsReplay, WasReplayed}
use Rattle.command_core.specs.Status.{status_of}
use Rattle.command_core.specs.TaskActs.{ActsBy, Answers, IsMisused, Treats}
use Rattle.command_core.specs.TaskWords.{GivesTask, TaskWords}
use Rattle.command_core.specs.TaskWords as task

-- ---- what a text says

-- the lines of some answers and then of others
lines_append : (xs ys : List Answer) → lines (xs ++ ys) ≡ lines xs ++ lines ys
lines_append [] ys = refl
lines_append (x ∷ xs) ys =
    ap (λ l. lines_of x ++ l) (lines_append xs ys)
    ∙ sym (append_assoc (lines_of x) (lines xs) (lines ys))

-- the answers to some steps and then to others, cut between them
record Cut (cells : List Step → ℕ → Entries) (before p rest : List Step)
    (answers : List Answer) : Type 0 where
  front : List Answer
  back : List Answer
  whole : answers ≡ front ++ back
  first : AreAnswersBy cells before p front
  second : AreAnswersBy cells (before ++ p) rest back

cut : (cells : List Step → ℕ → Entries) (before p rest : List Step) (answers : List Answer)
    → AreAnswersBy cells before (p ++ rest) answers → Cut cells before p rest answers
cut cells before [] rest answers h = record {
  front = [];
  back = answers;
  whole = refl;
  first = refl;
  second = subst (λ b. AreAnswersBy cells b rest answers) (sym (append-nil before)) h;
}
cut cells before (step ∷ p) rest answers h =
    let c = cut cells (before ++ step ∷ []) p rest h.1 h.4 in
    record {
      front = h.0 ++ c.front;
      back = c.back;
      whole = h.2 ∙ ap (λ l. h.0 ++ l) c.whole ∙ sym (append_assoc h.0 c.front c.back);
      first = (h.0, c.front, refl, h.3, c.first);
      second =
          subst (λ b. AreAnswersBy cells b rest c.back) (append_assoc before (step ∷ []) p)
          c.second;
    }

-- the answer to a question, as lines
said_of : (question : Question) (cells : ℕ → Entries) (site : ℕ) (now : List Answer)
    → IsAnswered cells (asked question site) now
    → (said : List ℕ) × (lines now ≡ said) × AreLinesOf question (cells site) said
said_of (filter_of id scheme list) cells site now h =
    (filter_lines h.0, ap lines h.1 ∙ append-nil (filter_lines h.0), (h.0, h.2, refl))
said_of (lookup_of id list default) cells site now h =
    (reply_line h.0, ap lines h.1 ∙ append-nil (reply_line h.0), (h.0, h.2, refl))
said_of all_cells cells site now h =
    (cells_lines (cells site), ap lines h ∙ append-nil (cells_lines (cells site)), refl)

-- a question has one answer over a catalogue
one_answer : (question : Question) (cells : Entries) (x y : List ℕ) → AreLinesOf question cells x
    → AreLinesOf question cells y → x ≡ y
one_answer (filter_of id scheme list) cells x y f g =
    f.2 ∙ ap filter_lines (one_filter_answer cells id scheme list f.0 g.0 f.1 g.1) ∙ sym g.2
one_answer (lookup_of id list default) cells x y f g =
    f.2 ∙ ap reply_line (one_lookup_answer cells id list default f.0 g.0 f.1 g.1) ∙ sym g.2
one_answer all_cells cells x y f g = f ∙ sym g

-- a replayed text has the answer to each question after the answers to the steps before it
answered : (bytes text : List ℕ) (p : List Step) (question : Question) (site : ℕ)
    → Replays bytes text → HasConsistentEdits bytes → Asks bytes p question site
    → (said : List ℕ) × GoesOn text p said × AreLinesOf question (catalogue_of (taken p site)) said
answered bytes text p question site replays consistent asks =
    let expected = λ (before : List Step) (s : ℕ). catalogue_of (taken before s) in
    let steps = p ++ asked question site ∷ asks.after in
    let answers = replays.2.0 in
    let script : replays.0 ≡ asks.script =
    one_script bytes replays.0 asks.script replays.1 asks.reads in
    let are : AreAnswers replays.0.steps answers =
    replays.2.1.consistent (consistent replays.0 replays.1) in
    let of_steps : AreAnswers steps answers =
    subst (λ all. AreAnswers all answers) (ap (λ x. x.steps) script ∙ asks.steps) are in
    let c = cut expected [] p (asked question site ∷ asks.after) answers of_steps in
    let now = c.second.0 in
    let later = c.second.1 in
    let n = said_of question (expected p) site now c.second.3 in
    let text_is : text ≡ lines c.front ++ n.0 ++ lines later =
    replays.2.2
    ∙ ap lines (c.whole ∙ ap (λ l. c.front ++ l) c.second.2)
    ∙ lines_append c.front (now ++ later)
    ∙ ap (λ l. lines c.front ++ l) (lines_append now later ∙ ap (λ l. l ++ lines later) n.1)
    ∙ sym (append_assoc (lines c.front) n.0 (lines later)) in (
      n.0,
      record { earlier = c.front; answered = c.first; later = lines later; text_is = text_is },
      n.2,
    )

-- ---- what sites took

-- the edits of some steps and then of others
edits_append : (p rest : List Step) → edits_of (p ++ rest) ≡ edits_of p ++ edits_of rest
edits_append [] rest = refl
edits_append (step ∷ p) rest =
    ap (λ l. edits_by step ++ l) (edits_append p rest)
    ∙ sym (append_assoc (edits_by step) (edits_of p) (edits_of rest))

-- what a site took before a question is settled, if the script's edits are consistent
settled_before : (bytes : List ℕ) (p : List Step) (question : Question) (site : ℕ)
    → HasConsistentEdits bytes → Asks bytes p question site → IsSettled (taken p site)
settled_before bytes p question site consistent asks =
    let rest = asked question site ∷ asks.after in
    let all : IsConsistent (edits_of p ++ edits_of rest) =
    subst IsConsistent (ap edits_of asks.steps ∙ edits_append p rest)
    (consistent asks.script asks.reads) in
    settled_part (edits_of p ++ edits_of rest) (taken p site) all
    (λ f h. in_append_left (edits_of p) (edits_of rest) f (only_edits_taken p site f h))

-- Sites that took the same edits answer a question by the same bytes, in one text or in two.
pub same_bytes : (a b x y : List ℕ) (p q : List Step) (question : Question) (s t : ℕ)
    → Replays a x → Replays b y → HasConsistentEdits a → HasConsistentEdits b
    → Asks a p question s → Asks b q question t → SameMembers (taken p s) (taken q t)
    → (said : List ℕ) × GoesOn x p said × GoesOn y q said
    × AreLinesOf question (catalogue_of (taken p s)) said
same_bytes a b x y p q question s t played replayed h k f g same =
    let mine = answered a x p question s played h f in
    let theirs = answered b y q question t replayed k g in
    let one : catalogue_of (taken p s) ≡ catalogue_of (taken q t) =
    same_catalogue (taken p s) (taken q t) (settled_before a p question s h f) same in
    let said : theirs.0 ≡ mine.0 =
    one_answer question (catalogue_of (taken p s)) theirs.0 mine.0
    (subst (λ c. AreLinesOf question c theirs.0) (sym one) theirs.2) mine.2 in
    (mine.0, mine.1, subst (λ l. GoesOn y q l) said theirs.1, mine.2)

-- They hold the catalogue of these edits.
pub same_held : (p q : List Step) (s t : ℕ) → IsConsistent (edits_of p)
    → IsConsistent (edits_of q) → SameMembers (taken p s) (taken q t)
    → (held p s ≡ held q t) × (held p s ≡ catalogue_of (taken p s))
same_held p q s t h k same = (equal_sites p q s t h k same, held_is_catalogue p h s)

module _ (steps : List Step) (consistent : IsConsistent (edits_of steps)) where
  settled : (site : ℕ) → IsSettled (taken steps site)
  settled site =
      settled_part (edits_of steps) (taken steps site) consistent (only_edits_taken steps site)

  -- A site holds of each key the greatest edit that it took.
  pub greatest_held : (site : ℕ) (key : EntryKey) (cell : Cell)
      → (find key_cmp key (held steps site) ≡ Some cell) ↔ IsBest (taken steps site) key cell
  greatest_held site key cell =
      let is = held_is_catalogue steps consistent site in (
        (λ h. found_best (taken steps site) key cell
            (subst (λ m. find key_cmp key m ≡ Some cell) is h)),
        (λ best. subst (λ m. find key_cmp key m ≡ Some cell) (sym is)
            (best_found (taken steps site) (settled site) key cell best)),
      )

  -- What a site took it holds, or a later edit of the same key.
  pub kept : (site : ℕ) (edit : Entry) → Contains (taken steps site) edit
      → (cell : Cell) × (find key_cmp edit.0 (held steps site) ≡ Some cell)
      × ((cell ≡ edit.1) ⊎ (stamp_cmp edit.1.stamp cell.stamp ≡ Less))
  kept site edit has =
      let mine = taken steps site in
      let there = has_cell mine edit.0 edit.1 (in_from_Contains mine edit has) in
      let best = found_best mine edit.0 there.0 there.1 in (
        there.0,
        subst (λ m. find key_cmp edit.0 m ≡ Some there.0)
            (sym (held_is_catalogue steps consistent site)) there.1,
        by_order there.0 best (stamp_cmp there.0.stamp edit.1.stamp) refl,
      )
    where
      among : (x : Cell) → Contains (taken steps site) (edit.0, x)
          → Contains (edits_of steps) (edit.0, x)
      among x h =
          Contains-from_in (edits_of steps) (edit.0, x)
          (only_edits_taken steps site (edit.0, x)
          (in_from_Contains (taken steps site) (edit.0, x) h))

      by_order : (cell : Cell) → IsBest (taken steps site) edit.0 cell → (o : Ordering)
          → stamp_cmp cell.stamp edit.1.stamp ≡ o
          → (cell ≡ edit.1) ⊎ (stamp_cmp edit.1.stamp cell.stamp ≡ Less)
      by_order cell best Less e = absurd (best.greatest edit.1 has e)
      by_order cell best Equal e =
          inl (consistent edit.0 cell edit.1 (among cell best.member) (among edit.1 has)
          (stamp_cmp_exact cell.stamp edit.1.stamp e))
      by_order cell best Greater e =
          inr (stamp_cmp_total.antisymm edit.1.stamp cell.stamp ∙ ap ordering_reverse e)

  -- what two sites took makes catalogues that agree
  agree : (s t : ℕ) → Agree (catalogue_of (taken steps s)) (catalogue_of (taken steps t))
  agree s t =
      let mine = taken steps s in
      let theirs = taken steps t in
      let laws = catalogue_of_both mine theirs (settled s) (settled t) in
      let iff = laws.0 in
      iff.0
      (settled_part (edits_of steps) (mine ++ theirs) consistent
      (λ f h. elim (in_append_cases mine theirs f h) as (λ _. In (edits_of steps) f) [
        | inl a ↦ only_edits_taken steps s f a
        | inr b ↦ only_edits_taken steps t f b
      ]))

  -- A merge leaves the join of what both hold, which agree.
  pub merged : (into source : ℕ) → Agree (held steps into) (held steps source)
      × (held (steps ++ Merge into source ∷ []) into
      ≡ joined (held steps into) (held steps source))
  merged into source =
      let is = held_is_catalogue steps consistent in (
        subst (λ m. Agree m (held steps source)) (sym (is into))
            (subst (Agree (catalogue_of (taken steps into))) (sym (is source)) (agree into source)),
        ap (λ (w : Held). w.of_site into) (held_one_more nothing_held steps (Merge into source))
            ∙ here (held steps) into (held steps source),
      )
    where
      here : (of : ℕ → Entries) (site : ℕ) (cells : Entries)
          → joins of (Some (site, cells)) site ≡ joined (of site) cells
      here of site cells =
          elim (site == site) as
          (λ b. (site == site) ≡ b
          → (if b then joined (of site) cells else of site) ≡ joined (of site) cells) [
            | true ↦ λ b. refl
            | false ↦ λ b. absurd (eqb-false site site b refl)
          ] refl

-- ---- that sites have to take the same

-- a deletion at the least key and stamp
abbrev one : Entry
one = (([], []), record { stamp = record { time = 0; site = []; count = 0 }; label = None })

one_is_consistent : IsConsistent (one ∷ [])
one_is_consistent key c d p q same =
    let is =
    λ (x : Cell) (m : In (one ∷ []) (key, x)). elim m as
    (λ _. one ≡ (key, x)) [ inl s ↦ s | inr n ↦ absurd n ] in
    ap (λ (e : Entry). e.1)
    (sym (is c (in_from_Contains (one ∷ []) (key, c) p))
    ∙ is d (in_from_Contains (one ∷ []) (key, d) q))

-- Sites of consistent edits that did not take the same may hold different cells.
pub other_edits : (p : List Step) × (q : List Step) × (s : ℕ) × IsConsistent (edits_of p)
    × IsConsistent (edits_of q) × (held p s ≢ held q s)
other_edits = (
  Edit 0 one ∷ [],
  [],
  0,
  one_is_consistent,
  (λ key c d p q same. absurd (in_from_Contains [] (key, c) p)),
  λ (e : held (Edit 0 one ∷ []) 0 ≡ held [] 0). let n : 1 ≡ 0 = ap length e in cc,
)

-- ---- of the command

-- clap finds no fault in the word
no_fault : (schemes : Schemes) (names : ErrorNames)
    → fault_of (lexicat_app schemes names) (codes "replay" ∷ []) ≡ []
unfolding clap_on_literals
no_fault schemes names = refl

-- and the command of that name, without arguments
met : (schemes : Schemes) (names : ErrorNames)
    → subcommand_of (lexicat_app schemes names) (codes "replay" ∷ [])
    ≡ Some (codes "replay", [])
unfolding clap_on_literals
met schemes names = refl

-- 0 is no other status
not_three : ◌≡◌ {A = ℕ} 0 3 → ⊥
not_three e = cc

not_four : ◌≡◌ {A = ℕ} 0 4 → ⊥
not_four e = cc

not_five : ◌≡◌ {A = ℕ} 0 5 → ⊥
not_five e = cc

-- no refusal has status 0
not_zero : (number : ℕ) → 0 ≡ status_of number → ⊥
not_zero number = elim ((number == 24) || (number == 25)) as
    (λ b. ◌≡◌ {A = ℕ} 0 (if b then 4 else (if number == 26 then 5 else 3)) → ⊥) [
      | true ↦ not_four
      | false ↦
          elim (number == 26) as
          (λ b. ◌≡◌ {A = ℕ} 0 (if b then 5 else 3) → ⊥) [ true ↦ not_five | false ↦ not_three ]
    ]

module _ {R W F : Type 0} (run : Streams R W F) where
  -- the task of the command is to replay
  replaying : (asked : Option TaskWords) → GivesTask (Some (codes "replay", [])) asked
      → asked ≡ Some task.Replay
  replaying asked gives = gives.2

  -- what a replay with status 0 did
  treated : Treats task.Replay run 0 → (bytes text : List ℕ) × WasReplayed run bytes text
  treated (inl done) = written done.1 done.2 done.3
    where
      written : (answered : ℕ) → Answers task.Replay run.reader done.0 answered
          → Writes done.0 answered run.writer run.faults 0
          → (bytes text : List ℕ) × WasReplayed run bytes text
      written answered answers (inl all) = (
        answers.0,
        done.0,
        record { read = answers.1; written = all.1; replays = answers.2.0 },
      )
      written answered answers (inr front) = absurd (not_four front.0)
  treated (inr refused) = absurd (not_zero (number_of refused.0) refused.2.0)

  acted : ActsBy (Some (codes "replay", [])) run 0
      → (bytes text : List ℕ) × WasReplayed run bytes text
  acted done = treated
      (subst (λ asked. MatchOption asked (IsMisused run 0) (λ t. Treats t run 0))
      (replaying done.0 done.1) done.2)

  -- A run with status 0 replayed its input to its output.
  pub replayed : RunsReplay run → (bytes text : List ℕ) × WasReplayed run bytes text
  replayed done =
      let words = codes "replay" ∷ [] in
      let is = done.app_ok in
      let faults : fault_of done.app words ≡ [] =
      ap (λ app. fault_of app words) is.app_is ∙ no_fault is.schemes is.names in
      let command : subcommand_of done.app words ≡ Some (codes "replay", []) =
      ap (λ app. subcommand_of app words) is.app_is ∙ met is.schemes is.names in
      elim done.done as
      (λ _. (bytes text : List ℕ) × WasReplayed run bytes text) [
        | inl does ↦
            acted
            (subst (λ kinds. Does kinds (Some (codes "replay", [])) run 0) faults
            (subst (λ found. Does (fault_of done.app words) found run 0) command does))
        | inr memory ↦
            absurd (not_zero 26 memory.1.0)
      ]
