-- What the program does with its words (project rules).
use Rattle.std.specs.Prelude.{◌≡◌, ◌⊎◌, ◌++◌, ℕ, Bool, true, false, List, [], ◌∷◌, Option, codes}
use Rattle.std.specs.Prelude.{map, MatchBool}
use Rattle.clap.specs.Words.{App, Row, Text, fault_of, subcommand_of}
use Rattle.clap.specs.Kinds.{Kinds, IsAmong}
use Rattle.clap.specs.declared.error.kind.ErrorKind.{ErrorKind}
use Rattle.clap.specs.declared.error.kind.ErrorKind.TheVariants.{DisplayHelp, DisplayVersion}
use Rattle.json_docs.specs.Sinks.{AppendsFront}
use Rattle.front_core.specs.Refusal.{refusals}
use Rattle.command_core.specs.TaskActs.{ActsBy}
use Rattle.command_core.specs.OutputEndings.{EndsForMemory}
use Rattle.command_core.specs.OutputStreams.{IsUnread, IsUnwritten, Streams, Writer}
use Rattle.command_core.specs.ArgumentsWords.{ErrorNames, Schemes, lexicat_app}

-- help and the version are answers, and no faults
abbrev pub is_shown : ErrorKind → Bool
is_shown DisplayHelp = true
is_shown DisplayVersion = true
is_shown _ = false

-- the numbers of refusals in decimal, 1 to 30
abbrev error_numerals : List Text
error_numerals =
    codes "1" ∷ codes "2" ∷ codes "3" ∷ codes "4" ∷ codes "5" ∷ codes "6" ∷ codes "7" ∷ codes "8"
    ∷ codes "9" ∷ codes "10" ∷ codes "11" ∷ codes "12" ∷ codes "13" ∷ codes "14" ∷ codes "15"
    ∷ codes "16" ∷ codes "17" ∷ codes "18" ∷ codes "19" ∷ codes "20" ∷ codes "21" ∷ codes "22"
    ∷ codes "23" ∷ codes "24" ∷ codes "25" ∷ codes "26" ∷ codes "27" ∷ codes "28" ∷ codes "29"
    ∷ codes "30" ∷ codes "31" ∷ []

-- the names of refusals: their numbers, then their words
abbrev pub error_names : List Text
error_names = error_numerals ++ map (λ texts. texts.code) refusals

-- the command line of the program
pub record IsProgram (app : App) : Type 0 where
  pub schemes : Schemes
  pub scheme_words : map (λ s. s.now) schemes.now ≡ codes "basic" ∷ codes "extended" ∷ []
  pub names : ErrorNames
  pub name_words : map (λ s. s.now) names.now ≡ error_names
  pub app_is : app ≡ lexicat_app schemes names

-- of help and the version some bytes are written, as far as writes go; of any other fault in the
-- words some bytes are on the faults' stream, and the output has nothing
abbrev pub Reports : {W F : Type 0} → ErrorKind → Writer W → Writer F → ℕ → Type 0
Reports kind writer faults status = MatchBool (is_shown kind)
    ((status ≡ 0)
    × ((text : List ℕ)
    × AppendsFront (writer.contents writer.old) (writer.contents writer.new) text)
    × IsUnwritten faults)
    ((status ≡ 2) × IsUnwritten writer
    × ((text : List ℕ)
    × AppendsFront (faults.contents faults.old) (faults.contents faults.new) text))

-- what is done at these words, by the kinds of fault that clap finds in them and by the command
-- that it meets
abbrev pub Does : {R W F : Type 0} → Kinds → Option (Text × List Row) → Streams R W F → ℕ → Type 0
Does [] met run status = ActsBy met run status
Does (k ∷ ks) met run status = IsUnread run.reader
    × ((kind : ErrorKind) × IsAmong kind (k ∷ ks) × Reports kind run.writer run.faults status)

-- the words' task is done, unless memory runs out
pub record RunsBy {R W F : Type 0} (words : List Text) (run : Streams R W F) (status : ℕ) : Type 0
  where
    pub app : App
    pub app_ok : IsProgram app
    pub done : Does (fault_of app words) (subcommand_of app words) run status
        ⊎ (IsUnread run.reader × EndsForMemory run.writer run.faults status)
