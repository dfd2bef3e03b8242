use Rattle.std.proofs.Common.{◌≡◌, map, take, string_bytes}
use Rattle.std.specs.List.{filter_map}
use Rattle.serde_json.specs.Find.{as_str}
use Rattle.json_docs.specs.ScanningReads.{seen}
use Rattle.row_docs.proofs.fields.copied_texts.Given as goal

abbrev pub invariant-loop-value : goal.invariant-loop-value
invariant-loop-value l = map string_bytes l.texts.items
    ≡ filter_map as_str (map seen (take l.value-index l.values))
