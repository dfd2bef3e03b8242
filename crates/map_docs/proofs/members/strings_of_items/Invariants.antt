use Rattle.std.proofs.Common.{◌≡◌, map, take, true}
use Rattle.std.specs.List.{filter_map, list_all}
use Rattle.cell_core.specs.Label.{texts_of}
use Rattle.serde_json.specs.Find.{as_str}
use Rattle.json_docs.specs.ScanningReads.{seen}
use Rattle.map_docs.specs.MembersRows.{is_string_or_null}
use Rattle.map_docs.proofs.members.strings_of_items.Given as goal

-- the items so far are strings and nulls, and their strings were taken
abbrev pub invariant-loop-item : goal.invariant-loop-item
invariant-loop-item l = record {
  strings : texts_of l.strings.items ≡ filter_map as_str (map seen (take l.item-index l.items));
  each : list_all is_string_or_null (map seen (take l.item-index l.items)) ≡ true;
}
