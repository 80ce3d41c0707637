-- Every starred example of document 01 comes out: antt computes each. Assumes nothing.
use mathlib.Core.Path.{refl}
use lib.Ieee.{add, sub, mul, div, neg, lt, le, eq, of_bits, to_bits, odd, size}
use Rattle.float.specs.Units.{units_of}
use Rattle.root.specs.Root.{root_of, rounded_root, dropped, nearest_root, whole_root}
use Rattle.point.specs.Point.{point_of, from_bits_of, minus_of, plus_of, times_of, same_of, ends_at_of, dot_of, perp_dot_of, length_of, distance_of, project_onto_of}
use Rattle.point.specs.Sides.{magnitude_of, side_of, same_side_of, mirror_of}
use Rattle.helpers.specs.Helpers.{intersection_time_of, crosses_of, clamp_of, line_intersect_segment_of, goal_beyond_of, heuristic_of, turning_point_of}
use Rattle.cone.specs.Cone.{ray_of, cone_of, has_short_ray_of, from_right_of, from_left_of, both_outside_of, fraction_of, raised_of, lowered_of, cut_of, part_inside_of}
use Rattle.cone.specs.Cone.{part_of, clip_of, clip_to_cone_of}
use Rattle.starred.specs.Examples.{table, Every}

pub starred : Every table
unfolding table side_of line_intersect_segment_of intersection_time_of heuristic_of turning_point_of clip_to_cone_of clip_of cone_of ray_of has_short_ray_of from_right_of
    from_left_of both_outside_of fraction_of raised_of lowered_of cut_of part_inside_of part_of goal_beyond_of mirror_of same_side_of magnitude_of crosses_of clamp_of
    point_of from_bits_of minus_of plus_of times_of same_of ends_at_of dot_of perp_dot_of length_of distance_of project_onto_of root_of rounded_root dropped nearest_root
    whole_root units_of add sub mul div neg lt le eq of_bits to_bits odd size
starred = (refl, (refl, (refl, (refl, (refl, (refl, (refl, (refl, (refl, (refl, (refl, (refl, (refl, tt)))))))))))))
