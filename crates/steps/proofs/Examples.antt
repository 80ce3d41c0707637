-- Document 01's whole example, as far as its steps: one out of the seed, none out of the goal polygon. antt computes them. specs/Example has the floor,
-- the seed and the step. Assumes nothing.
use mathlib.Core.Path.{◌≡◌, refl}
use mathlib.Core.List.{[], ◌∷◌}
use lib.Ieee.{add, neg, lt, le, eq, of_bits, odd, size}
use Rattle.counts.specs.Counts.{first, table}
use Rattle.point.specs.Point.{point_of, from_bits_of, plus_of, same_of}
use Rattle.stored.specs.Stored.{corner, neighbour, corner_count, corner_after, polygon_in, vertex_in, edge}
use Rattle.steps.specs.Steps.{is_finite, is_interval, whole_edge, whole_edges, candidates, is_allowed, clipped, step_of, steps_over, steps_from}
use Rattle.steps.specs.Steps.{seed_node, enter}
use Rattle.steps.specs.Example.{whole_floor, only_step, whole_seed}

pub one_step : steps_from whole_floor 1 whole_seed ≡ only_step ∷ []
unfolding whole_floor only_step whole_seed steps_from seed_node candidates whole_edges whole_edge steps_over step_of is_allowed clipped is_interval is_finite same_of
    polygon_in vertex_in edge corner neighbour corner_count corner_after first table point_of from_bits_of plus_of add neg lt le eq of_bits odd size
one_step = refl

pub none_out_of_the_goal : steps_from whole_floor 1 (enter whole_floor.vertices whole_seed only_step) ≡ []
unfolding only_step steps_from enter
none_out_of_the_goal = refl
