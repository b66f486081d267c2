-- Why `degrees_of` does what its contract says.
use Rattle.std.proofs.Common.{◌≡◌, ◌<◌, ◌+◌, subst, sym, ap, ◌∙◌}
use Rattle.std.specs.Prelude.{slice_index}
use Rattle.rail_net.specs.Parts.{node_names}
use Rattle.rail_net.specs.Rules.{begin_count, end_count}
use Rattle.rail_net.proofs.NodeLemmas.{from_within, to_within, node_within, one_node, begins_same, ends_same}
use Rattle.rail_net.proofs.marks.degrees_of.Goals as goal

pub begin_counts-requires : goal.begin_counts-requires
begin_counts-requires c = from_within c.args.parts.now c.args.ends.now c.requires.ends c.len-nodes.result c.len-nodes.ensures

pub end_counts-requires : goal.end_counts-requires
end_counts-requires c = to_within c.args.parts.now c.args.ends.now c.requires.ends c.len-nodes.result c.len-nodes.ensures

pub returns : goal.returns
returns c =
    let p = c.args.parts.now in
    let ends = c.args.ends.now in
    record {
      begin_len = c.in_ok-begins.ensures.len ∙ c.len-nodes.ensures;
      end_len = c.in_ok-ends.ensures.len ∙ c.len-nodes.ensures;
      at_node = λ node name is.
          let low : node < c.len-nodes.result = subst (λ n. node < n) (sym c.len-nodes.ensures) (node_within p node name is) in
          let begun : slice_index c.in_ok-begins.begins.items node ≡ begin_count p name =
          c.in_ok-begins.ensures.counts node low ∙ begins_same (node_names p) (one_node p c.requires.new) node name is p.tracks ends c.requires.ends.count c.requires.ends.each in
          let ended : slice_index c.in_ok-ends.ends.items node ≡ end_count p name =
          c.in_ok-ends.ensures.counts node low ∙ ends_same (node_names p) (one_node p c.requires.new) node name is p.tracks ends c.requires.ends.count c.requires.ends.each in
          ap (λ n. n + slice_index c.in_ok-ends.ends.items node) begun ∙ ap (λ n. begin_count p name + n) ended;
    }
