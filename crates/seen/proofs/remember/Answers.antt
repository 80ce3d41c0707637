-- `seen::remember` meets its contract: where looking up stops tells whether the node was seen, and whether there is room. Assumes nothing.
use Rattle.std.proofs.Common.{sym, ◌∙◌}
use Rattle.seen.proofs.Remembering.{found_inside}
use Rattle.seen.proofs.LookedUp.{looked_held, looked_free, looked_nowhere}
use Rattle.seen.proofs.remember.Goals as goal

pub put_entry-requires : goal.put_entry-requires
put_entry-requires c = found_inside _ _ _ (sym c.look_up.ensures ∙ c.in-Free.is)

pub returns-in-Held : goal.returns-in-Held
returns-in-Held c =
    looked_held _ _ _ _ _ c.if-not-recording.false c.requires.records c.requires.key c.key_of-key.ensures c.look_up.ensures c.in-Held.is

pub returns-in-Free : goal.returns-in-Free
returns-in-Free c =
    looked_free _ _ _ _ _ c.if-not-recording.false c.requires.records c.requires.key c.key_of-key.ensures c.look_up.ensures _ c.in-Free.is _
    c.put_entry.ensures

pub returns-in-Nowhere : goal.returns-in-Nowhere
returns-in-Nowhere c =
    looked_nowhere _ _ _ _ _ c.if-not-recording.false c.requires.records c.requires.key c.key_of-key.ensures c.look_up.ensures c.in-Nowhere.is
