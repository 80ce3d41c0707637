-- `stand::is_on` meets its contract: the floor has as many records as its lists hold. Assumes nothing.
use Rattle.std.proofs.Common.{ℕ, ◌<◌, ◌≤◌, ◌≡◌, Bool, false, List, arith}
use borrow.Author.Tests.{le-ltb, lt-ltb}
use Rattle.plan.specs.Plan.{vertex_count_in, polygon_count_in}
use Rattle.stored.specs.Stored.{PolygonsPlanned, polygons_in, record_in}
use Rattle.stored.proofs.Records.{polygons_counted, polygon_read}
use Rattle.steps.specs.declared.Node.{Node}
use Rattle.steps_c.specs.Ask.{is_entered, is_on}
use Rattle.steps_c.proofs.stand.is_on.Goals as goal

module _ (plan ps : List ℕ) (node : Node) (planned : PolygonsPlanned plan ps) where
  no_polygon : polygon_count_in plan ≤ node.polygon → false ≡ is_on (vertex_count_in plan) (polygons_in plan ps) node
  unfolding is_on
  no_polygon out = rw (polygons_counted planned, le-ltb _ _ out)

  module _ (listed : node.polygon < polygon_count_in plan) where
    no_first : vertex_count_in plan ≤ node.first → {r : Bool} → r ≡ false → r ≡ is_on (vertex_count_in plan) (polygons_in plan ps) node
    unfolding is_on
    no_first out e = rw (polygons_counted planned, lt-ltb _ _ listed, le-ltb _ _ out) e

    no_second : node.first < vertex_count_in plan → vertex_count_in plan ≤ node.second → {r : Bool} → r ≡ false
        → r ≡ is_on (vertex_count_in plan) (polygons_in plan ps) node
    unfolding is_on
    no_second first out e = rw (polygons_counted planned, lt-ltb _ _ listed, lt-ltb _ _ first, le-ltb _ _ out) e

    all_listed : node.first < vertex_count_in plan → node.second < vertex_count_in plan → {entered : Bool}
        → entered ≡ is_entered (record_in plan ps node.polygon) node → entered ≡ is_on (vertex_count_in plan) (polygons_in plan ps) node
    unfolding is_on
    all_listed first second e =
        rw (polygons_counted planned, lt-ltb _ _ listed, lt-ltb _ _ first, lt-ltb _ _ second, polygon_read planned node.polygon listed) e

pub returns-then-node-count-2 : goal.returns-then-node-count-2
returns-then-node-count-2 c = all_listed _ _ _ c.requires (omega arith) (omega arith) (omega arith) (rw c.at-polygon.ensures at c.is_entered.ensures)

pub returns-else-node-count-2 : goal.returns-else-node-count-2
returns-else-node-count-2 c = no_second _ _ _ c.requires (omega arith) (omega arith) (omega arith) (le-ltb _ _ c.if-node-count-2.false)

pub returns-else-node-count : goal.returns-else-node-count
returns-else-node-count c = no_first _ _ _ c.requires (omega arith) (omega arith) (le-ltb _ _ c.if-node-count.false)

pub returns : goal.returns
returns c = no_polygon _ _ _ c.requires (omega arith)
