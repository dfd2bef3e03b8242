-- From what clap says of the words to what the program does.
use Rattle.std.proofs.Common.{◌≡◌, ℕ, List, Option, [], ◌∷◌, inl, inr, codes, map, refl, Result, Ok}
use Rattle.std.proofs.Common.{Err}
use Rattle.std.specs.Prelude.{◌⊎◌, IsErrAnd}
use Rattle.clap.specs.Words.{Row, Text, kind_of}
use Rattle.clap.specs.Kinds.{Kinds, HasKind}
use Rattle.clap.specs.declared.error.Error.{Error}
use Rattle.clap.specs.declared.error.kind.ErrorKind.TheVariants.{OutOfMemory}
use Rattle.clap.specs.declared.parser.matches.ArgMatches.{ArgMatches}
use Rattle.command_core.specs.OutputEndings.{EndsForMemory}
use Rattle.command_core.specs.Program.{Does, error_names}
use Rattle.command_core.specs.inner.Program.{MatchesBy, ReportsBy}
use Rattle.command_core.specs.OutputStreams.{IsUnread, Streams}
use Rattle.command_core.specs.ArgumentsWords.{ErrorNames, Schemes, lexicat_app}

-- That memory ends before clap is called is a possible result of parsing the words.
pub no_memory : (schemes : Schemes) (names : ErrorNames)
    → map (λ s. s.now) schemes.now ≡ codes "basic" ∷ codes "extended" ∷ []
    → map (λ s. s.now) names.now ≡ error_names
    → (words : List Text) (r : Result ArgMatches Error)
    → IsErrAnd r (λ e. kind_of e ≡ OutOfMemory) → MatchesBy words r
no_memory schemes names are told words (Ok matches) h = absurd h
no_memory schemes names are told words (Err error) h = record {
  app = lexicat_app schemes names;
  app_ok = record {
    schemes = schemes;
    scheme_words = are;
    names = names;
    name_words = told;
    app_is = refl;
  };
  matches = tt;
  fails = inl h;
}

-- Where clap finds a fault, the program reports it, or memory ran out.
pub reported : {R W F : Type 0} (kinds : Kinds) (met : Option (Text × List Row)) (error : Error)
    (run : Streams R W F) (status : ℕ)
    → IsUnread run.reader
    → HasKind kinds error
    → ReportsBy (kind_of error) run.writer run.faults status
    → Does kinds met run status ⊎ (IsUnread run.reader × EndsForMemory run.writer run.faults status)
reported kinds met error run status unread has (inl memory) = inr (unread, memory)
reported kinds met error run status unread (inl memory) (inr reports) = absurd (reports.0 memory)
reported [] met error run status unread (inr among) (inr reports) = absurd among
reported (k ∷ ks) met error run status unread (inr among) (inr reports) =
    inl (unread, (kind_of error, among, reports.1))
