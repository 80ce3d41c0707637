-- Document 01's whole example: antt computes what the search writes and what the judge says of it. Assumes nothing.
use mathlib.Core.Path.{refl}
use lib.Ieee.{add, sub, mul, div, neg, lt, le, eq, of_bits, to_bits, odd, size, is_nan}
use Rattle.counts.specs.Counts as Counts
use Rattle.word.specs.Word as Word
use Rattle.float.specs.Units as Units
use Rattle.root.specs.Root as Root
use Rattle.helpers.specs.Helpers as Helpers
use Rattle.point.specs.Point as Point
use Rattle.point.specs.Sides as Sides
use Rattle.floor.specs.Look as Look
use Rattle.stored.specs.Stored as Stored
use Rattle.faults.specs.Tests as Tests
use Rattle.edges.specs.Where as Where
use Rattle.route.specs.Judge as Judge
use Rattle.route.specs.Record as Record
use Rattle.route.specs.Step as Step
use Rattle.steps.specs.Steps as Steps
use Rattle.steps.specs.World as World
use Rattle.queue.specs.Queue as Queue
use Rattle.queue.specs.Words as Words
use Rattle.judge.specs.Verdict as Verdict
use Rattle.places.specs.Layout as Layout
use Rattle.seen.specs.Table as Table
use Rattle.machine.specs.Search as Search
use Rattle.writing.specs.Delivered as Delivered
use Rattle.search.specs.Whole as Whole
use Rattle.whole_example.specs.Example.{vertices, polygons, question, route, work, room, WholeExample}

pub whole_example : WholeExample
unfolding vertices polygons question route work room Counts.every Counts.first Counts.some Counts.table Word.bytes_of Word.little_endian Word.word_at
    Units.units_of Root.dropped Root.nearest_root Root.root_of Root.rounded_root Root.whole_root Sides.between_of Helpers.clamp_of Helpers.crosses_of
    Helpers.goal_beyond_of Helpers.heuristic_of Helpers.intersection_time_of Helpers.line_intersect_segment_of Sides.magnitude_of Sides.max_of Sides.min_of
    Sides.mirror_of Sides.same_side_of Sides.side_of Helpers.turning_point_of Point.distance_of Point.distance_squared_of Point.dot_of Point.ends_at_of
    Point.from_bits_of Point.length_of Point.minus_of Point.perp_dot_of Point.plus_of Point.point_of Point.project_onto_of Point.same_of Point.times_of
    Look.ask_of Look.bad_corners Look.bad_links Look.bad_vertex Look.floor_look_of Look.records_look_of Look.corners_look_of Look.links_look_of
    Look.vertices_look_of Look.polygons_look_of Look.look_of Stored.corner Stored.corner_after Stored.corner_count Stored.edge Stored.polygons_of
    Stored.vertices_of Stored.is_listed Stored.neighbour Stored.polygon_in Stored.polygon_at Stored.question_of Stored.slot_at Stored.vertex_in
    Stored.vertex_at Tests.coordinate_right Tests.corners_listed Tests.corners_right Tests.distinct Tests.is_back Tests.length_right Tests.link_right
    Tests.links_right Tests.names_back Tests.point_right Tests.question_right Tests.rest_unused Tests.unlike_earlier Where.contains Where.is_turn
    Where.polygon_of Where.turns_at Judge.find_step Judge.judge_end Judge.judge_from Judge.judge_of Judge.length_right Judge.onwards Judge.same_bytes
    Record.end_bytes Record.end_words Record.record_at Record.records Record.seed_bytes Record.seed_words Record.step_bytes Record.step_words
    Record.words_bytes Step.kind_number Step.kind_of Steps.candidates Steps.clipped Steps.enter Steps.entry_of Steps.is_allowed Steps.is_finite
    Steps.is_interval Steps.place_of Steps.root_after Steps.seed_node Steps.step_of Steps.steps_from Steps.steps_over Steps.successors_in Steps.whole_edge
    Steps.whole_edges World.ending_of World.is_in_goal World.world_in Queue.before Queue.better Queue.least_below Queue.least_of Queue.own_of Queue.put
    Queue.tree_words Queue.word_at Words.cleared Words.column Words.queued_in Words.queue_of Verdict.verdict_of Layout.depth_in Layout.distance_put
    Layout.float_at Layout.interval_in Layout.node_in Layout.number_in Layout.parent_in Layout.places_in Layout.put_floats Layout.put_words Layout.puts
    Layout.record_distance Layout.record_for Layout.record_put Layout.record_root Layout.step_in Layout.word_at Table.remembered Search.beaten_in Search.begun
    Search.counted Search.kept Search.made Search.made_all Search.noticed Search.origin_at Search.outset Search.placed Search.planted Search.popped
    Search.pursued Search.queued Search.recorded Search.run Search.searched_from Search.seed_origin Search.step Search.table_after Search.taken
    Search.took_place Search.took_record Search.visited Search.watched Whole.between_of Delivered.chain_bytes Delivered.end_after Delivered.route_bytes
    Whole.routed Whole.search_of Delivered.straight_bytes Delivered.delivered Delivered.written add sub mul div neg lt le eq of_bits to_bits odd size is_nan
whole_example = record { found = λ table. refl; written = λ table. refl; untouched = λ table. refl; accepted = refl }
