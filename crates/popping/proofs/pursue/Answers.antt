-- `popping::pursue` meets its contract. Assumes nothing.
use Rattle.popping.proofs.Stepping.{pursues_goal, pursues_full, pursues_on, leaves_of}
use Rattle.popping.proofs.pursue.Goals as goal

pub returns-then-node-task-clause-outcome : goal.returns-then-node-task-clause-outcome
returns-then-node-task-clause-outcome c =
    let h = c.requires in
    pursues_goal h.sound_from h.place_lt_taken.0 h.place_lt_taken.1 c.if-node-task.true

pub make_steps-made-requires-clause-leaves : goal.make_steps-made-requires-clause-leaves
make_steps-made-requires-clause-leaves c =
    let h = c.requires in
    leaves_of h.sound_from h.place_lt_taken.0 h.place_lt_taken.1

pub returns-then-made-clause-outcome : goal.returns-then-made-clause-outcome
returns-then-made-clause-outcome c =
    let h = c.requires in
    pursues_full h.sound_from h.place_lt_taken.0 h.place_lt_taken.1 c.if-node-task.false c.make_steps-made.ensures.state_after c.if-made.true

pub returns-clause-outcome : goal.returns-clause-outcome
returns-clause-outcome c =
    let h = c.requires in
    pursues_on h.sound_from h.place_lt_taken.0 h.place_lt_taken.1 c.if-node-task.false c.make_steps-made.ensures.state_after c.if-made.false
