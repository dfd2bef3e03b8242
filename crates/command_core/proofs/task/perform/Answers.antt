use Rattle.std.proofs.Common.{◌≡◌, refl, rules}
use Rattle.std.specs.Prelude.{Ok, option_map}
use Rattle.front_core.specs.Exchange.{ShowsView}
use Rattle.front_core.specs.Offering.{offers_of}
use Rattle.front_core.specs.Preferences.{field_text}
use Rattle.front_core.specs.Reader.{IsReader, RefusesReader}
use Rattle.front_core.specs.Ask.{AnswersBundle, AnswersFilter, AnswersLookup, IsFilter, IsLookup}
use Rattle.front_core.specs.Ask.{RefusesFilter, RefusesLookup}
use Rattle.front_core.specs.Translate.{AnswersMissing, AnswersOutdated, IsMissing, IsOutdated}
use Rattle.front_core.specs.Translate.{RefusesMissing, RefusesOutdated}
use Rattle.command_core.specs.inner.TaskActs.{Performs}
use Rattle.command_core.specs.TaskReading.{RefusesNothing}
use Rattle.command_core.specs.OutputStreams.{reads, streams, writes}
use Rattle.command_core.specs.inner.TaskValues.{task_values}
use Rattle.command_core.proofs.TaskActsLemmas.{treated}
use Rattle.command_core.proofs.QuestionsLemmas.{asks_as}
use Rattle.command_core.proofs.task.perform.Goals as goal
use Rattle.command_core.proofs.task.perform.Goals.{in-Pick, in-PickAll, in-New, in-Edit}
use Rattle.command_core.proofs.task.perform.Goals.{in-Document, in-Missing, in-Outdated, in-View}
use Rattle.command_core.proofs.task.perform.Goals.{in-Changes, in-Filter, in-Lookup, in-Bundle}
use Rattle.command_core.proofs.task.perform.Goals.{in-Explain}

pub returns-in-Sync : goal.returns-in-Sync
returns-in-Sync g c = rw c.in-Sync.is c.sync.ensures

pub returns-in-Replay : goal.returns-in-Replay
returns-in-Replay g c = rw c.in-Replay.is c.replay.ensures

-- Each task is answered or refused as its own function says, and the answer is written, or the
-- refusal reported, as the end of a run says.
pub returns : goal.returns
returns g c =
    let asked = task_values c.args.task in
    let reader =
    reads g.R.Source.remaining g.R.Source.failed c.args.reader.now c.match-task.reader in
    let reader_at = reads g.R.Source.remaining g.R.Source.failed c.args.reader.now in
    let performed = elim c.match-task.branch as (λ _. Performs asked reader c.match-task.answered) [
      | in-Pick w ↦ rw (w.in-Pick.is, w.reader-is, w.answered-is) (search rules)
      | in-PickAll w ↦ rw (w.in-PickAll.is, w.reader-is, w.answered-is) (search rules)
      | in-New w ↦ rw (w.in-New.is, w.reader-is, w.answered-is) (search rules)
      | in-Edit w ↦ rw (w.in-Edit.is, w.reader-is, w.answered-is) w.answer_of-answered.ensures
      | in-Document w ↦
          rw (w.in-Document.is, w.reader-is, w.answered-is) w.answer_of-answered-in-Document.ensures
      | in-View w ↦
          let view = w.in-View.view in
          rw (w.in-View.is, w.reader-is, w.answered-is)
          (asks_as (Ok view) (λ it. it ≡ view) RefusesNothing refl ShowsView
          (reader_at w.ask-answered.new.reader) w.ask-answered.result w.ask-answered.ensures)
      | in-Missing w ↦
          let lang = w.in-Missing.lang.now in
          rw (w.in-Missing.is, w.reader-is, w.answered-is)
          (asks_as w.read.result (IsMissing lang) (RefusesMissing lang) w.read.ensures
          AnswersMissing (reader_at w.ask-answered-in-Missing.new.reader)
          w.ask-answered-in-Missing.result w.ask-answered-in-Missing.ensures)
      | in-Outdated w ↦
          let lang = w.in-Outdated.lang.now in
          let source = w.in-Outdated.source.now in
          rw (w.in-Outdated.is, w.reader-is, w.answered-is)
          (asks_as w.read-in-Outdated.result (IsOutdated lang source) (RefusesOutdated lang source)
          w.read-in-Outdated.ensures AnswersOutdated
          (reader_at w.ask-answered-in-Outdated.new.reader) w.ask-answered-in-Outdated.result
          w.ask-answered-in-Outdated.ensures)
      | in-Changes w ↦ rw (w.in-Changes.is, w.reader-is, w.answered-is) w.changes-answered.ensures
      | in-Filter w ↦
          let id = w.in-Filter.id.now in
          let offers = offers_of w.in-Filter.offering in
          let field = field_text w.in-Filter.field in
          rw (w.in-Filter.is, w.reader-is, w.answered-is)
          (asks_as w.read-in-Filter.result (IsFilter id offers field)
          (RefusesFilter id offers field)
          w.read-in-Filter.ensures (λ it site. AnswersFilter site.cells it)
          (reader_at w.ask-answered-in-Filter.new.reader) w.ask-answered-in-Filter.result
          w.ask-answered-in-Filter.ensures)
      | in-Lookup w ↦
          let id = w.in-Lookup.id.now in
          let offers = offers_of w.in-Lookup.values.offering in
          let field = field_text w.in-Lookup.values.preferences.field in
          let default = option_map (λ s. s.now) w.in-Lookup.values.preferences.default in
          rw (w.in-Lookup.is, w.reader-is, w.answered-is)
          (asks_as w.read-asked.result (IsLookup id offers field default)
          (RefusesLookup id offers field default) w.read-asked.ensures
          (λ it site. AnswersLookup site.cells it)
          (reader_at w.ask-answered-in-Lookup.new.reader) w.ask-answered-in-Lookup.result
          w.ask-answered-in-Lookup.ensures)
      | in-Bundle w ↦
          let offers = offers_of w.in-Bundle.values.offering in
          let field = field_text w.in-Bundle.values.preferences.field in
          let default = option_map (λ s. s.now) w.in-Bundle.values.preferences.default in
          rw (w.in-Bundle.is, w.reader-is, w.answered-is)
          (asks_as w.read-asked-in-Bundle.result (IsReader offers field default)
          (RefusesReader offers field default) w.read-asked-in-Bundle.ensures
          (λ it site. AnswersBundle site.cells it)
          (reader_at w.ask-answered-in-Bundle.new.reader) w.ask-answered-in-Bundle.result
          w.ask-answered-in-Bundle.ensures)
      | in-Explain w ↦ rw (w.in-Explain.is, w.reader-is, w.answered-is) (search rules)
    ] in
    let run = streams reader
    (writes g.W.Sink.contents g.W.Sink.failed c.args.writer.now c.finish.new.writer)
    (writes g.F.Sink.contents g.F.Sink.failed c.args.faults.now c.finish.new.faults) in
    record {
      acts =
          treated asked run c.finish.result c.match-task.answered performed
          c.finish.ensures.ends;
    }
