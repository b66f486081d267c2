-- What the loop of `each_text` keeps from turn to turn.
use Rattle.std.proofs.Common.{map, ◌≡◌, drop, length}
use Rattle.std.specs.Prelude.{ok_or}
use Rattle.vss_json.specs.Values.{json_of, text_of}
use Rattle.vss_json.specs.Readings.{each_from}
use Rattle.vss_json.proofs.ListLemmas.{behind}
use Rattle.vss_json.proofs.text_lists.each_text.Given as goal

abbrev pub invariant-loop-item : goal.invariant-loop-item
invariant-loop-item g l = record {
  read : each_from (λ number d. ok_or (text_of d) l.fault) 0 (map json_of l.values)
      ≡ behind l.texts.items (each_from (λ number d. ok_or (text_of d) l.fault) l.item (map json_of (drop l.item l.values)));
  count : length l.texts.items ≡ l.item;
}
