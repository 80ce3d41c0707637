-- `readout::list_points` meets its contract. The loop's invariant: the points that are left, put behind those that stand, are all the points. Assumes nothing.
use Rattle.stored.specs.Stored.{vertices_of}
use Rattle.readout.proofs.Listing.{Places}
use Rattle.readout.proofs.list_points.Given as goal

abbrev pub invariant-loop-i : goal.invariant-loop-i
invariant-loop-i l = Places (vertices_of l.vertices) l.trip l.route l.last l.initial.points l.points l.node l.i
