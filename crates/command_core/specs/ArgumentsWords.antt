-- The command line: what a parse reads of the command and of its subcommands.
use Rattle.std.specs.Prelude.{ℕ, List, Some, true, codes}
use Rattle.std.specs.Borrow.{Bor}
use Rattle.clap.specs.Words.{App, Rule, Text, new_app, new_rule, with_rule, with_subcommand}
use Rattle.clap.specs.declared.builder.action.ArgAction.TheVariants.{Append, SetTrue}
use Rattle.clap.specs.declared.builder.value_parser.ValueParser.TheVariants.{Names, Unsigned}

-- the words that a scheme may be, where they lie in memory
abbrev pub Schemes : Type 0
Schemes = Bor (List (Bor (List ℕ)))

-- the names that a refusal may have, likewise
abbrev pub ErrorNames : Type 0
ErrorNames = Bor (List (Bor (List ℕ)))

-- `--scheme SCHEME`, one of these words
abbrev pub scheme_rule : Schemes → Rule
scheme_rule schemes =
    record
    (new_rule (codes "scheme")) {
      long = Some (codes "scheme");
      value_names = 1;
      parser =
          Some (Names schemes);
    }

-- an option without a value
abbrev pub flag_rule : Text → Rule
flag_rule name = record (new_rule name) { long = Some name; action = Some SetTrue }

-- `--default LANG`
abbrev pub default_rule : Rule
default_rule =
    record (new_rule (codes "default")) { long = Some (codes "default"); value_names = 1 }

-- `--offer FIELD`
abbrev pub offer_rule : Rule
offer_rule = record (new_rule (codes "offer")) { long = Some (codes "offer"); value_names = 1 }

-- `--fallbacks TABLE`
abbrev pub fallbacks_rule : Rule
fallbacks_rule =
    record (new_rule (codes "fallbacks")) { long = Some (codes "fallbacks"); value_names = 1 }

-- a priority list of language ranges
abbrev pub field_rule : Text → Rule
field_rule name = record (new_rule name) { value_names = 1; required = true }

-- one word or more
abbrev pub words_rule : Text → Rule
words_rule name =
    record
    (new_rule name) {
      value_names = 1;
      required = true;
      range =
          Some (record { start_inclusive = 1; end_inclusive = 18446744073709551615 });
      action =
          Some Append;
    }

-- what a reader prefers: `[--scheme SCHEME] [--lenient] [--widen] [--fallbacks TABLE]
-- [--default LANG]` and the ranges, by this name
abbrev pub preferences_app : App → Schemes → Text → App
preferences_app app schemes name =
    with_rule (with_rule (with_rule (with_rule (with_rule (with_rule app (scheme_rule schemes))
    (flag_rule (codes "lenient"))) (flag_rule (codes "widen"))) fallbacks_rule) default_rule)
    (field_rule name)

-- `pick [--scheme SCHEME] [--lenient] [--widen] [--fallbacks TABLE] [--default LANG] [--all]
-- RANGES TAG..`
abbrev pub pick_app : Schemes → App
pick_app schemes =
    with_rule (with_rule (preferences_app (new_app (codes "pick")) schemes (codes "ranges"))
    (flag_rule (codes "all"))) (words_rule (codes "tags"))

-- `--now N`, a number of 64 bits
abbrev pub now_rule : Rule
now_rule =
    record
    (new_rule (codes "now")) {
      long = Some (codes "now");
      value_names = 1;
      required = true;
      parser =
          Some (Unsigned 0 18446744073709551615);
    }

-- an option that must be given, with a value
abbrev pub required_rule : Text → Rule
required_rule name = record (new_rule name) { long = Some name; value_names = 1; required = true }

-- `--site NAME`, which must be given
abbrev pub site_rule : Rule
site_rule = required_rule (codes "site")

-- `--id ID`, which must be given
abbrev pub id_rule : Rule
id_rule = required_rule (codes "id")

-- `--lang LANG`, which must be given
abbrev pub lang_rule : Rule
lang_rule = required_rule (codes "lang")

-- `--source LANG`, which must be given
abbrev pub source_rule : Rule
source_rule = required_rule (codes "source")

-- `--not-after N`, a number of 64 bits
abbrev pub not_after_rule : Rule
not_after_rule = record (new_rule (codes "not-after")) {
  long = Some (codes "not-after");
  value_names = 1;
  parser = Some (Unsigned 0 18446744073709551615);
}

-- the name of a refusal, one of these
abbrev pub error_rule : ErrorNames → Rule
error_rule names =
    record
    (new_rule (codes "error")) {
      value_names = 1;
      required = true;
      parser =
          Some (Names names);
    }

-- `new --site NAME`
abbrev pub new_site_app : App
new_site_app = with_rule (new_app (codes "new")) site_rule

-- an edit of one label: `--now N --id ID --lang LANG`
abbrev pub edit_app : App → App
edit_app app = with_rule (with_rule (with_rule app now_rule) id_rule) lang_rule

-- `put --now N --id ID --lang LANG TEXT..`
abbrev pub put_app : App
put_app = with_rule (edit_app (new_app (codes "put"))) (words_rule (codes "texts"))

-- `delete --now N --id ID --lang LANG`
abbrev pub delete_app : App
delete_app = edit_app (new_app (codes "delete"))

-- `status`, without arguments
abbrev pub status_app : App
status_app = new_app (codes "status")

-- `import --now N`
abbrev pub import_app : App
import_app = with_rule (new_app (codes "import")) now_rule

-- `export`, without arguments
abbrev pub export_app : App
export_app = new_app (codes "export")

-- `filter --id ID [--offer FIELD] [--scheme SCHEME] [--lenient] FIELD`
abbrev pub filter_app : Schemes → App
filter_app schemes =
    with_rule
    (with_rule (with_rule (with_rule (with_rule (new_app (codes "filter")) id_rule) offer_rule)
    (scheme_rule schemes)) (flag_rule (codes "lenient"))) (field_rule (codes "field"))

-- `lookup --id ID [--offer FIELD] [--scheme SCHEME] [--lenient] [--widen] [--fallbacks TABLE]
-- [--default LANG] FIELD`
abbrev pub lookup_app : Schemes → App
lookup_app schemes =
    preferences_app (with_rule (with_rule (new_app (codes "lookup")) id_rule) offer_rule) schemes
    (codes "field")

-- `bundle [--offer FIELD] [--scheme SCHEME] [--lenient] [--widen] [--fallbacks TABLE]
-- [--default LANG] FIELD`
abbrev pub bundle_app : Schemes → App
bundle_app schemes =
    preferences_app (with_rule (new_app (codes "bundle")) offer_rule) schemes (codes "field")

-- `missing --lang LANG`
abbrev pub missing_app : App
missing_app = with_rule (new_app (codes "missing")) lang_rule

-- `outdated --lang LANG --source LANG`
abbrev pub outdated_app : App
outdated_app = with_rule (with_rule (new_app (codes "outdated")) lang_rule) source_rule

-- `changes`, without arguments
abbrev pub changes_app : App
changes_app = new_app (codes "changes")

-- `labels`, without arguments
abbrev pub label_counts_app : App
label_counts_app = new_app (codes "labels")

-- `update --now N`
abbrev pub update_app : App
update_app = with_rule (new_app (codes "update")) now_rule

-- `summary [--labels]`
abbrev pub summary_app : App
summary_app = with_rule (new_app (codes "summary")) (flag_rule (codes "labels"))

-- `delta`, without arguments
abbrev pub delta_app : App
delta_app = new_app (codes "delta")

-- what an exchange tests: `[--not-after N] [--check-own]`
abbrev pub checks_app : App → App
checks_app app = with_rule (with_rule app not_after_rule) (flag_rule (codes "check-own"))

-- `take [--not-after N] [--check-own]`
abbrev pub take_app : App
take_app = checks_app (new_app (codes "take"))

-- `sync [--not-after N] [--check-own]`
abbrev pub sync_app : App
sync_app = checks_app (new_app (codes "sync"))

-- `merge [--not-after N] [--check-own]`
abbrev pub merge_app : App
merge_app = checks_app (new_app (codes "merge"))

-- `replay`, without arguments
abbrev pub replay_app : App
replay_app = new_app (codes "replay")

-- `explain ERROR`
abbrev pub explain_app : ErrorNames → App
explain_app names = with_rule (new_app (codes "explain")) (error_rule names)

-- the words do not begin with the program's name, and one of them names a subcommand
abbrev pub bare_app : App
bare_app =
    record
    (new_app (codes "lexicat")) {
      top =
          record
          (new_app (codes "lexicat")).top {
            has_version = true;
            no_binary_name =
                true;
            subcommand_required = true;
            disable_help_subcommand = true;
          };
    }

-- the program with one subcommand more
abbrev pub under : App → App → App
under app command = with_subcommand app command.top

-- with what is done at a site
abbrev pub sites_app : App → App
sites_app app = under (under (under (under app new_site_app) put_app) delete_app) status_app

-- with what reads or writes many labels
abbrev pub labels_app : App → App
labels_app app =
    under (under (under (under (under (under (under app import_app) update_app) export_app)
    missing_app) outdated_app) changes_app) label_counts_app

-- with the questions of a reader: `pick`, and those to a site
abbrev pub questions_app : App → Schemes → App
questions_app app schemes =
    under (under (under (under app (pick_app schemes)) (filter_app schemes)) (lookup_app schemes))
    (bundle_app schemes)

-- with what sites exchange, with a replay of what they did, and with what a refusal is
abbrev pub exchange_app : App → ErrorNames → App
exchange_app app names =
    under (under (under (under (under (under (under app summary_app) delta_app) take_app) sync_app)
    merge_app) replay_app) (explain_app names)

-- the program with all its subcommands
abbrev pub lexicat_app : Schemes → ErrorNames → App
lexicat_app schemes names =
    exchange_app (questions_app (labels_app (sites_app bare_app)) schemes) names
