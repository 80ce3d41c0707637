-- `readout::put_last` meets its contract, by the cases of the last points. Assumes nothing.
use Rattle.std.proofs.Common.{arith, ◌∙◌}
use Rattle.readout.proofs.Placed.{put_one, last_of_seed, last_around, last_straight, room_for_one, room_for_two, long_after, two_after}
use Rattle.readout.proofs.put_last.Goals as goal

-- ---- the goal alone

pub put_point-requires : goal.put_point-requires
put_point-requires c = room_for_one _ c.args.node c.args.points.now _ (last_of_seed _ _ c.if-node.true) c.requires

pub returns-then-node : goal.returns-then-node
returns-then-node c = c.put_point.ensures ∙ rw (last_of_seed c.args.goal c.args.node c.if-node.true) (put_one _ _ _)

pub put_point-requires-in-None : goal.put_point-requires-in-None
put_point-requires-in-None c =
    room_for_one _ c.args.node c.args.points.now _ (last_straight _ _ _ c.if-node.false c.turning_point.ensures c.in-None.is) c.requires

pub returns-in-None : goal.returns-in-None
returns-in-None c =
    c.put_point-in-None.ensures
    ∙ rw (last_straight c.args.goal c.args.node _ c.if-node.false c.turning_point.ensures c.in-None.is) (put_one _ _ _)

-- ---- a corner before it

pub put_point-requires-in-Some : goal.put_point-requires-in-Some
put_point-requires-in-Some c =
    let around = last_around c.args.goal c.args.node _ _ c.if-node.false c.turning_point.ensures c.in-Some.is in
    omega (arith, room_for_two _ c.args.node c.args.points.now _ _ around c.requires)

pub put_point-requires-in-Some-2 : goal.put_point-requires-in-Some-2
put_point-requires-in-Some-2 c =
    let around = last_around c.args.goal c.args.node _ _ c.if-node.false c.turning_point.ensures c.in-Some.is in
    omega (
      arith,
      room_for_two _ c.args.node c.args.points.now _ _ around c.requires,
      long_after c.args.points.now c.put_point-in-Some.new.points c.args.node.points _ c.put_point-in-Some.ensures,
    )

pub returns-in-Some : goal.returns-in-Some
returns-in-Some c =
    rw (last_around c.args.goal c.args.node _ _ c.if-node.false c.turning_point.ensures c.in-Some.is)
    (two_after _ _ _ _ _ _ c.put_point-in-Some.ensures c.put_point-in-Some-2.ensures)
