-- Laws of segments that touch, and of what they reach
use Rattle.std.proofs.Common.{ℕ, ◌<◌, List, length, sym}
use Rattle.std.proofs.lemmas.Option.{slice_get_within}
use Rattle.node_groups.specs.declared.segments.Segment.{Segment}
use Rattle.node_groups.specs.Reach.{Reaches}
use Rattle.node_groups.specs.Touch.{Touch}
use Rattle.node_groups.proofs.ReachLaws.{Reaches-keeps, Reaches-sym}

module _ (segments : List Segment) (barriers : List ℕ) where
  pub Touch-sym : (i j : ℕ) → Touch segments barriers i j → Touch segments barriers j i
  Touch-sym i j touch = record {
    first = touch.second;
    second = touch.first;
    at_first = touch.at_second;
    at_second = touch.at_first;
    one_part = sym touch.one_part;
    node = touch.node;
    end_of_first = touch.end_of_second;
    end_of_second = touch.end_of_first;
    no_barrier = touch.no_barrier;
  }

  -- what touches is in the list
  pub Touch-within : (i j : ℕ) → Touch segments barriers i j → j < length segments
  Touch-within i j touch = slice_get_within segments j touch.second touch.at_second

  pub Touch-reach_back : (i j : ℕ) → Reaches (Touch segments barriers) i j → Reaches (Touch segments barriers) j i
  Touch-reach_back = Reaches-sym (Touch segments barriers) Touch-sym

  -- what a place of the list reaches is in the list
  pub Touch-reach_within : (i j : ℕ) → Reaches (Touch segments barriers) i j → i < length segments → j < length segments
  Touch-reach_within i j = Reaches-keeps (Touch segments barriers) (λ k. k < length segments) (λ x y touch _. Touch-within x y touch) i j
