-- What the loop of `each` keeps from turn to turn.
use Rattle.std.proofs.Common.{map, ◌≡◌, drop, length}
use Rattle.std.specs.List.{All}
use Rattle.vss_json.specs.Values.{json_of}
use Rattle.vss_json.specs.Readings.{each_from}
use Rattle.vss_json.proofs.ListLemmas.{behind}
use Rattle.vss_json.proofs.lists.each.Given as goal

abbrev pub invariant-loop-item : goal.invariant-loop-item
invariant-loop-item g l = record {
  read : each_from (g.R.Reader.reading l.reader) 0 (map json_of l.values)
      ≡ behind l.parts.items (each_from (g.R.Reader.reading l.reader) l.item (map json_of (drop l.item l.values)));
  count : length l.parts.items ≡ l.item;
  keeps : All (g.R.Reader.keeps l.reader) l.parts.items;
}
