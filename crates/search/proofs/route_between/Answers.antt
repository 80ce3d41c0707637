-- `search::route_between` meets its contract. Assumes nothing.
use Rattle.std.proofs.Common.{arith}
use Rattle.places.proofs.Rows.{places_room}
use Rattle.search.proofs.Doors.{between_none, between_on}
use Rattle.search.proofs.route_between.Goals as goal

-- ---- no place

pub returns-then-places-eq0-clause-searched : goal.returns-then-places-eq0-clause-searched
returns-then-places-eq0-clause-searched c = between_none _ _ _ _ _ c.places_of-places.ensures c.if-places-eq0.true

-- ---- a route

pub route_from-requires-clause-room : goal.route_from-requires-clause-room
route_from-requires-clause-room c = (places_room _ c.places_of-places.ensures, omega (arith, c.if-places-eq0.false))

pub returns-clause-searched : goal.returns-clause-searched
returns-clause-searched c = between_on _ _ _ _ _ c.places_of-places.ensures c.if-places-eq0.false c.route_from.ensures.searched
