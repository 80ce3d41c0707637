-- `faults::link_right` meets its contract: each way is one of proofs/Linked. Assumes nothing.
use Rattle.std.proofs.Common.{sym, ◌∙◌}
use Rattle.stored.proofs.Records.{record_slots, across_none, across_some}
use Rattle.faults.proofs.Linked.{wall_right, self_wrong, unlisted_wrong, other_names_back}
use Rattle.faults.proofs.link_right.Goals as goal

pub across-requires : goal.across-requires
across-requires c = rw (record_slots _ _ _ c.at-here.ensures) c.requires.2

pub returns-in_default : goal.returns-in_default
returns-in_default c =
    wall_right c.requires.0 _ _ c.requires.1 c.at-here.ensures (across_none _ _ (sym c.across.ensures ∙ c.in_default.is))

pub returns-then-q-p : goal.returns-then-q-p
returns-then-q-p c =
    self_wrong c.requires.0 _ _ c.requires.1 c.at-here.ensures (across_some _ _ (sym c.across.ensures ∙ c.in-Some.is)) c.if-q-p.true

pub returns-then-polygon_count-q : goal.returns-then-polygon_count-q
returns-then-polygon_count-q c =
    unlisted_wrong c.requires.0 _ _ c.requires.1 c.at-here.ensures (across_some _ _ (sym c.across.ensures ∙ c.in-Some.is)) c.if-q-p.false
    c.polygon_count.ensures c.if-polygon_count-q.true

pub corner-requires : goal.corner-requires
corner-requires c = rw (record_slots _ _ _ c.at-here.ensures) c.requires.2

pub corner_after-requires : goal.corner_after-requires
corner_after-requires c = rw (record_slots _ _ _ c.at-here.ensures) c.requires.2

pub returns : goal.returns
returns c =
    other_names_back c.requires.0 _ _ c.requires.1 c.at-here.ensures (across_some _ _ (sym c.across.ensures ∙ c.in-Some.is)) c.if-q-p.false
    c.polygon_count.ensures c.if-polygon_count-q.false c.corner.ensures c.corner_after.ensures c.at-other.ensures c.names_back.ensures
