-- `search::route_from` meets its contract. Assumes nothing.
use Rattle.std.proofs.Common.{ne_eqb}
use Rattle.edges.proofs.Held.{ground}
use Rattle.search.proofs.Doors.{routes_straight, routes_search, routes_told}
use Rattle.search.proofs.route_from.Goals as goal

-- ---- one polygon

pub returns-then-trip-clause-searched : goal.returns-then-trip-clause-searched
returns-then-trip-clause-searched c = routes_straight _ _ _ _ _ c.if-trip.true c.write_straight.ensures.value c.write_straight.ensures.out_after

-- ---- a search

pub search_from-ended-requires : goal.search_from-ended-requires
search_from-ended-requires c =
    let h = c.requires in
    record {
      ground = ground c.args.floor.now.accepted;
      room = h.room.0;
      places = h.room.1;
      listed = h.ground;
      apart = ne_eqb _ _ c.if-trip.false;
      self = h.start_value;
    }

pub tell_by-requires : goal.tell_by-requires
tell_by-requires c =
    let h = c.requires in
    routes_told _ _ _ _ _ _ _ (ground c.args.floor.now.accepted) h.room.0 h.room.1 h.ground _ _ c.search_from-ended.ensures.rest

pub returns-clause-searched : goal.returns-clause-searched
returns-clause-searched c =
    routes_search _ _ _ _ _ c.if-trip.false _ _ c.search_from-ended.ensures.rest c.tell_by.ensures.answer c.tell_by.ensures.out_after
