-- The promise from bytes to bytes: what a replayed script says of its sites, and what a run of
-- `lexicat replay` reads and writes.
use Rattle.std.specs.Prelude.{◌≡◌, ◌∷◌, ◌++◌, [], ℕ, List, Option, codes}
use Rattle.list_core.specs.Item.{Item}
use Rattle.list_core.specs.declared.scheme.Scheme.{Scheme}
use Rattle.catalogue.specs.Asking.{IsFilterAnswer, IsLookupAnswer, Weighed}
use Rattle.catalogue.specs.Edits.{IsConsistent}
use Rattle.catalogue.specs.Entries.{Entries}
use Rattle.catalogue.specs.declared.reply.Reply.{Reply}
use Rattle.cata_core.specs.Answer.{AreAnswers}
use Rattle.cata_core.specs.RunsTaken.{edits_of}
use Rattle.cata_core.specs.declared.answer.Answer.{Answer}
use Rattle.cata_core.specs.declared.step.Step.{Step}
use Rattle.cata_core.specs.declared.step.Step.TheVariants.{AskCells, AskFilter, AskLookup}
use Rattle.script_docs.specs.Reading.{ReadsAsScript}
use Rattle.script_docs.specs.Scripts.{ScriptState}
use Rattle.query_docs.specs.Lines.{cells_lines, filter_lines, lines, reply_line}
use Rattle.std.specs.Io.KnownBytes.{Appends}
use Rattle.json_docs.specs.Sources.{ReadsWhole}
use Rattle.docs_core.specs.Replaying.{Replays}
use Rattle.command_core.specs.OutputStreams.{Streams}
use Rattle.command_core.specs.Program.{RunsBy}

-- a question to a site: which languages of a message a priority list takes under a scheme, which
-- label of a message it finds or else this default, or all cells
pub data Question : Type 0 where
  filter_of : List ℕ → Scheme → List Item → Question
  lookup_of : List ℕ → List Item → Option (List ℕ) → Question
  all_cells : Question

-- the step of a script that puts the question to this site
abbrev pub asked : Question → ℕ → Step
asked (filter_of id scheme list) site = AskFilter site id scheme list
asked (lookup_of id list default) site = AskLookup site id list default
asked all_cells site = AskCells site

-- the bytes say what RFC 4647's filtering (3.3) or lookup (3.4) answers to the question over the
-- live labels of these cells, or they list the cells
abbrev pub AreLinesOf : Question → Entries → List ℕ → Type 0
AreLinesOf (filter_of id scheme list) cells said =
    (entries : Weighed) × IsFilterAnswer cells id scheme list entries
    × (said ≡ filter_lines entries)
AreLinesOf (lookup_of id list default) cells said =
    (reply : Reply) × IsLookupAnswer cells id list default reply × (said ≡ reply_line reply)
AreLinesOf all_cells cells said = said ≡ cells_lines cells

-- after the answers to the steps before, the text goes on with these bytes
pub record GoesOn (text : List ℕ) (before : List Step) (said : List ℕ) : Type 0 where
  pub earlier : List Answer
  pub answered : AreAnswers before earlier
  pub later : List ℕ
  pub text_is : text ≡ lines earlier ++ said ++ later

-- the bytes are a script that puts the question to this site after these steps
pub record Asks (bytes : List ℕ) (before : List Step) (question : Question) (site : ℕ) : Type 0
  where
    pub script : ScriptState
    pub reads : ReadsAsScript bytes script
    pub after : List Step
    pub steps : script.steps ≡ before ++ asked question site ∷ after

-- the edits of the script are consistent: no stamp is of two different edits of one key
abbrev pub HasConsistentEdits : List ℕ → Type 0
HasConsistentEdits bytes =
    (script : ScriptState) → ReadsAsScript bytes script → IsConsistent (edits_of script.steps)

-- ---- of the command

-- `lexicat replay` ended with status 0
abbrev pub RunsReplay : {R W F : Type 0} → Streams R W F → Type 0
RunsReplay run = RunsBy (codes "replay" ∷ []) run 0

-- these bytes were all of the input, the output was given this text, and that is their replay
pub record WasReplayed {R W F : Type 0} (run : Streams R W F) (bytes text : List ℕ) : Type 0 where
  pub read : ReadsWhole run.reader.failed run.reader.remaining run.reader.old run.reader.new bytes
  pub written : Appends (run.writer.contents run.writer.old) (run.writer.contents run.writer.new)
      text
  pub replays : Replays bytes text
