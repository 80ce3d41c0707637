-- `edges::edge` meets its contract: both vertices of an edge are inside the vertex list. Assumes nothing.
use Rattle.edges.proofs.Inside.{slot_inside, edge_stored}
use Rattle.edges.proofs.edge.Goals as goal

pub corner-requires : goal.corner-requires
corner-requires c = slot_inside _ _ c.requires.0

pub corner_after-requires : goal.corner_after-requires
corner_after-requires c = slot_inside _ _ c.requires.0

pub returns : goal.returns
returns c =
    rw (
      edge_stored _ _ _ c.requires.1 c.requires.2,
      ← c.corner.ensures,
      ← c.corner_after.ensures,
      ← c.used_vertex-start.ensures,
      ← c.used_vertex-end.ensures,
    )
