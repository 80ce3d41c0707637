-- The end, the steps down the chain and the seed, put into the output one after the other, are the route's bytes in front of what stood behind. Rests on
-- specs/Writing. Assumes nothing.
use Prim.Native.Nat.{ℕ, zero, suc, ◌+◌, ◌-◌, ◌*◌, ◌≤◌, ◌<◌, ◌^◌}
use native.Mathlib.Omega.{arith}
use mathlib.Core.Path.{◌≡◌, refl, sym, ap, ◌∙◌, subst}
use mathlib.Core.List.{List, [], ◌++◌, append_assoc}
use borrow.Author.Tests.{lt-ltb, le-ltb}
use lib.Ieee.{Float}
use lib.ListN.{length, take, drop, length-append, length-drop, take-append-drop}
use lib.Seq.{sets-eq, take_at, drop_at, length-take-le, drop-drop}
use Rattle.point.specs.declared.Point.{Point}
use Rattle.records.specs.declared.Record.{Record}
use Rattle.route.specs.Record.{seed_bytes, step_bytes, end_bytes, put_record}
use Rattle.records.specs.Records.{seed_record, end_record, record_bytes}
use Rattle.records.proofs.Stored.{seed_record_bytes, end_record_bytes, put_keeps_length}
use Rattle.route.proofs.Bytes.{seed_is_32, step_is_32, end_is_32}
use Rattle.steps.specs.declared.Trip.{Trip}
use Rattle.steps.specs.declared.Node.{Node}
use Rattle.steps.specs.Steps.{seed_node}
use Rattle.steps.specs.World.{ending_of}
use Rattle.places.specs.Layout.{Work, work_of, node_in, step_in, parent_in, depth_in}
use Rattle.writing.specs.Delivered.{Delivered, delivered_of, chain_bytes, end_after, route_bytes, straight_bytes, written, delivered}
use Rattle.writing.specs.declared.Answer.{Answer}
use Rattle.writing.specs.declared.Answer.TheVariants.{Found, NotFound, Full, Spent, Short, TableFull}
use Rattle.machine.specs.declared.Counts.{Counts}
use Rattle.machine.specs.declared.Finish.{Finish}
use Rattle.machine.specs.declared.Finish.TheVariants.{Arrived, Emptied, Filled, Stopped, Crowded}
use Rattle.machine.specs.Search.{state_of, ending}
use Rattle.writing.specs.Writing.{put_chain}

-- ---- as the contracts say it

-- this answer and this output are what is delivered
abbrev Delivers : Delivered → Answer → List ℕ → Type 0
Delivers d r after = (r ≡ d.answer) × (after ≡ d.out)

delivers : {d : Delivered} {r : Answer} {after : List ℕ} → d ≡ delivered_of r after → Delivers d r after
delivers e = (sym (ap (λ (t : Delivered). t.answer) e), sym (ap (λ (t : Delivered). t.out) e))

-- so they are whatever the queue holds, which is not read
abbrev AnyDelivers : (List ℕ → Delivered) → Answer → List ℕ → Type 0
AnyDelivers d r after = ((queue : List ℕ) → r ≡ (d queue).answer) × ((queue : List ℕ) → after ≡ (d queue).out)

any_delivers : (d : List ℕ → Delivered) {r : Answer} {after : List ℕ} → ((queue : List ℕ) → d queue ≡ delivered_of r after)
    → AnyDelivers d r after
any_delivers d e = ((λ queue. (delivers (e queue)).0), (λ queue. (delivers (e queue)).1))

-- ---- one record

-- a record put between what stands before it and what stands behind
put_between : (i : ℕ) (before old behind bytes : List ℕ) → length before ≡ i * 32 → length old ≡ 32 → length bytes ≡ 32
    → put_record (before ++ (old ++ behind)) i bytes ≡ before ++ (bytes ++ behind)
unfolding put_record
put_between i before old behind bytes a b c =
    let whole = before ++ (old ++ behind) in
    let joined : whole ≡ (before ++ old) ++ behind = sym (append_assoc before old behind) in
    let long : length (before ++ old) ≡ i * 32 + length bytes = length-append before old ∙ omega (arith, a, b, c) in
    let all : length whole ≡ length before + (length old + length behind)
    = length-append before (old ++ behind) ∙ ap (λ (n : ℕ). length before + n) (length-append old behind) in
    sets-eq bytes whole (i * 32) (omega (arith, all, a, b, c))
    ∙ ap (λ (l : List ℕ). l ++ bytes ++ drop (i * 32 + length bytes) whole) (take_at before (old ++ behind) (i * 32) a)
    ∙ ap (λ (l : List ℕ). before ++ bytes ++ l) (ap (drop (i * 32 + length bytes)) joined ∙ drop_at (before ++ old) behind (i * 32 + length bytes) long)
    ∙ append_assoc before bytes behind

-- ---- the chain

module _ (floats : List Float) (words queue : List ℕ) (first : List ℕ) (seed_long : length first ≡ 32) where
  abbrev w : Work
  w = work_of floats words queue

  pub chain_long : (depth i : ℕ) → length (chain_bytes w first depth i) ≡ (depth + 1) * 32
  unfolding chain_bytes
  chain_long zero i = seed_long
  chain_long (suc depth) i =
      let step = step_in floats words i in
      let parent = parent_in words i in
      length-append (chain_bytes w first depth parent) (step_bytes step) ∙ omega (arith, chain_long depth parent, step_is_32 step)

  -- the steps and then the seed, in front of what stands behind them
  chain_put : (depth i : ℕ) (front behind : List ℕ) → length front ≡ (depth + 1) * 32
      → put_record (put_chain floats words depth i (front ++ behind)) 0 first ≡ chain_bytes w first depth i ++ behind
  unfolding put_chain chain_bytes
  chain_put zero i front behind l = put_between 0 [] front behind first refl (omega (arith, l)) seed_long
  chain_put (suc depth) i front behind l =
      let step = step_bytes (step_in floats words i) in
      let parent = parent_in words i in
      let low = take ((depth + 1) * 32) front in
      let last = drop ((depth + 1) * 32) front in
      let split : front ++ behind ≡ low ++ (last ++ behind)
      = ap (λ (x : List ℕ). x ++ behind) (sym (take-append-drop ((depth + 1) * 32) front)) ∙ append_assoc low last behind in
      let low_long : length low ≡ (depth + 1) * 32 = length-take-le ((depth + 1) * 32) front (omega (arith, l)) in
      let last_long : length last ≡ 32 = length-drop ((depth + 1) * 32) front ∙ omega (arith, l) in
      let put : put_record (front ++ behind) (suc depth) step ≡ low ++ (step ++ behind)
      = ap (λ (x : List ℕ). put_record x (suc depth) step) split
      ∙ put_between (suc depth) low last behind step (omega (arith, low_long)) last_long (step_is_32 (step_in floats words i)) in
      ap (λ (x : List ℕ). put_record (put_chain floats words depth parent x) 0 first) put
      ∙ chain_put depth parent low (step ++ behind) low_long
      ∙ sym (append_assoc (chain_bytes w first depth parent) step behind)

-- ---- the whole route

pub end_long : (goal : Point) (node : Node) → length (end_after goal node) ≡ 32
unfolding end_after
end_long goal node = end_is_32 _ goal _

-- the seed's bytes, those of the end after a node, and the node of the seed
abbrev first_of : Trip → List ℕ
first_of trip = seed_bytes trip.from trip.start

first_long : (trip : Trip) → length (first_of trip) ≡ 32
first_long trip = seed_is_32 trip.from trip.start

abbrev last_of : Trip → Node → List ℕ
last_of trip node = end_after trip.goal node

abbrev seed_of : Trip → Node
seed_of trip = seed_node trip.start trip.from

-- the end, the steps and the seed
module _ (floats : List Float) (words queue : List ℕ) (trip : Trip) (node : Node) (depth i : ℕ) where
  abbrev chain : List ℕ
  chain = chain_bytes (work_of floats words queue) (first_of trip) depth i

  abbrev bytes : List ℕ
  bytes = chain ++ last_of trip node

  all_long : length bytes ≡ (depth + 2) * 32
  all_long =
      length-append chain (last_of trip node)
      ∙ omega (arith, chain_long floats words queue (first_of trip) (first_long trip) depth i, end_long trip.goal node)

  all_put : (out : List ℕ) → (depth + 2) * 32 ≤ length out
      → put_record (put_chain floats words depth i (put_record out (depth + 1) (last_of trip node))) 0 (first_of trip) ≡ bytes ++ drop (length bytes) out
  all_put out room =
      let last = last_of trip node in
      let front = take ((depth + 1) * 32) out in
      let after = drop ((depth + 1) * 32) out in
      let old = take 32 after in
      let behind = drop 32 after in
      let front_long : length front ≡ (depth + 1) * 32 = length-take-le ((depth + 1) * 32) out (omega arith) in
      let after_long : length after ≡ length out - (depth + 1) * 32 = length-drop ((depth + 1) * 32) out in
      let old_long : length old ≡ 32 = length-take-le 32 after (omega (arith, after_long)) in
      let split : out ≡ front ++ (old ++ behind)
      = sym (take-append-drop ((depth + 1) * 32) out) ∙ ap (λ (x : List ℕ). front ++ x) (sym (take-append-drop 32 after)) in
      let put : put_record out (depth + 1) last ≡ front ++ (last ++ behind)
      = ap (λ (x : List ℕ). put_record x (depth + 1) last) split
      ∙ put_between (depth + 1) front old behind last front_long old_long (end_long trip.goal node) in
      let same : (depth + 1) * 32 + 32 ≡ length bytes = omega (arith, all_long) in
      let rest : behind ≡ drop (length bytes) out = drop-drop 32 ((depth + 1) * 32) out ∙ ap (λ (n : ℕ). drop n out) same in
      ap (λ (x : List ℕ). put_record (put_chain floats words depth i x) 0 (first_of trip)) put
      ∙ chain_put floats words queue (first_of trip) (first_long trip) depth i front (last ++ behind) front_long
      ∙ sym (append_assoc chain last behind)
      ∙ ap (λ (x : List ℕ). bytes ++ x) rest

-- ---- what the output holds then, and what is answered

module _ (floats : List Float) (words queue : List ℕ) (trip : Trip) (i steps : ℕ) (out : List ℕ) where
  abbrev route : List ℕ
  route = route_bytes (work_of floats words queue) trip i

  route_size : length route ≡ (depth_in words i + 2) * 32
  unfolding route_bytes
  route_size = all_long floats words queue trip (node_in floats words i) (depth_in words i) i

  -- the end, the chain and the seed, put one after the other
  abbrev put : List ℕ
  put =
      let last = last_of trip (node_in floats words i) in
      let depth = depth_in words i in
      put_record (put_chain floats words depth i (put_record out (depth + 1) last)) 0 (first_of trip)

  route_short : length out < (depth_in words i + 2) * 32 → written route steps out ≡ delivered_of (Short steps) out
  unfolding written
  route_short l = rw (lt-ltb (length out) (length route) (omega (arith, route_size)))

  route_written : (depth_in words i + 2) * 32 ≤ length out
      → written route steps out ≡ delivered_of (Found steps ((depth_in words i + 2) * 32)) put
  unfolding written route_bytes
  route_written l =
      let whole = all_put floats words queue trip (node_in floats words i) (depth_in words i) i out l in
      rw (le-ltb (length out) (length route) (omega (arith, route_size)), whole, route_size)

module _ (trip : Trip) (out : List ℕ) where
  abbrev straight : List ℕ
  straight = straight_bytes trip

  straight_size : length straight ≡ 2 * 32
  unfolding straight_bytes
  straight_size =
      length-append (first_of trip) (last_of trip (seed_of trip)) ∙ omega (arith, first_long trip, end_long trip.goal (seed_of trip))

  -- the end and the seed
  abbrev straight_put : List ℕ
  straight_put = put_record (put_record out 1 (last_of trip (seed_of trip))) 0 (first_of trip)

  pub straight_short : length out < 2 * 32 → Delivers (written straight 0 out) (Short 0) out
  straight_short l = delivers (none_written l)
    where
      none_written : length out < 2 * 32 → written straight 0 out ≡ delivered_of (Short 0) out
      none_written l = unfold written in rw (lt-ltb (length out) (length straight) (omega (arith, straight_size)))

  straight_written : 2 * 32 ≤ length out → written straight 0 out ≡ delivered_of (Found 0 (2 * 32)) straight_put
  unfolding written straight_bytes put_chain chain_bytes
  straight_written l =
      let whole = all_put [] [] [] trip (seed_of trip) 0 0 out (omega arith) in
      rw (le-ltb (length out) (length straight) (omega (arith, straight_size)), whole, straight_size)

-- ---- by the records that the code makes

abbrev last_record : Trip → Node → Record
last_record trip node = end_record (ending_of trip.goal node).points trip.goal (ending_of trip.goal node).length

end_bytes_lem : (trip : Trip) (node was : Node) (last : Record) → node ≡ was → last ≡ last_record trip node → record_bytes last ≡ last_of trip was
unfolding end_after
end_bytes_lem trip node was last e h =
    ap record_bytes h ∙ end_record_bytes _ trip.goal _
    ∙ ap (λ (n : Node). end_bytes (ending_of trip.goal n).points trip.goal (ending_of trip.goal n).length) e

seed_bytes_lem : (trip : Trip) (seed : Record) → seed ≡ seed_record trip.from trip.start → record_bytes seed ≡ first_of trip
seed_bytes_lem trip seed h = ap record_bytes h ∙ seed_record_bytes trip.from trip.start

pub straight_told : (trip : Trip) (out : List ℕ) {node : Node} {last seed : Record} {after end : List ℕ}
    → 2 * 32 ≤ length out → node ≡ seed_of trip → last ≡ last_record trip node → after ≡ put_record out 1 (record_bytes last)
    → seed ≡ seed_record trip.from trip.start → end ≡ put_record after 0 (record_bytes seed)
    → Delivers (written (straight_bytes trip) 0 out) (Found 0 (2 * 32)) end
straight_told trip out {node} {last} {seed} {after} {end} l a b c d e =
    let its : end ≡ straight_put trip out = e ∙ rw (c, end_bytes_lem trip node (seed_of trip) last a b, seed_bytes_lem trip seed d) in
    delivers (straight_written trip out l ∙ ap (delivered_of (Found 0 (2 * 32))) (sym its))

module _ (floats : List Float) (words : List ℕ) (trip : Trip) (i steps : ℕ) (out : List ℕ) {depth : ℕ} (its_depth : depth ≡ depth_in words i) where
  abbrev its_route : List ℕ → Delivered
  its_route queue = written (route_bytes (work_of floats words queue) trip i) steps out

  pub route_told_short : length out < (depth + 2) * 32 → AnyDelivers its_route (Short steps) out
  route_told_short l = any_delivers its_route (λ queue. route_short floats words queue trip i steps out (rw its_depth at l))

  pub route_told : {node : Node} {last seed : Record} {after chained end : List ℕ}
      → (depth + 2) * 32 ≤ length out → node ≡ node_in floats words i → last ≡ last_record trip node
      → after ≡ put_record out (depth + 1) (record_bytes last) → chained ≡ put_chain floats words depth i after
      → seed ≡ seed_record trip.from trip.start → end ≡ put_record chained 0 (record_bytes seed)
      → AnyDelivers its_route (Found steps ((depth + 2) * 32)) end
  route_told {node} {last} {seed} {after} {chained} {end} l a b c d e g =
      let its : end ≡ put_record (put_chain floats words depth i (put_record out (depth + 1) (last_of trip (node_in floats words i)))) 0 (first_of trip)
      = g ∙ rw (d, c, end_bytes_lem trip node (node_in floats words i) last a b, seed_bytes_lem trip seed e) in
      any_delivers its_route (λ queue. route_written floats words queue trip i steps out (rw its_depth at l) ∙ rw its (rw (← its_depth) refl))

pub seed_few : (trip : Trip) {node : Node} → node ≡ seed_of trip → node.points + 2 < 2 ^ 32
seed_few trip e = subst (λ (n : Node). n.points + 2 < 2 ^ 32) (sym e) none
  where
    none : (seed_of trip).points + 2 < 2 ^ 32
    none = unfold seed_node in (omega arith)

-- a record that was put takes no room away
pub room_kept : (depth i : ℕ) (out bytes : List ℕ) {after : List ℕ} → after ≡ put_record out i bytes → (depth + 2) * 32 ≤ length out
    → (depth + 1) * 32 ≤ length after
room_kept depth i out bytes e l = omega (arith, ap length e ∙ put_keeps_length out i bytes)

-- ---- how the search ended

module _ (floats : List Float) (words : List ℕ) (trip : Trip) (counts : Counts) (finish : Finish) (out : List ℕ) where
  abbrev told : List ℕ → Delivered
  told queue = delivered trip (ending (state_of (work_of floats words queue) counts) finish) out

  pub told_arrived : {i : ℕ} → finish ≡ Arrived i → {r : Answer} {after : List ℕ}
      → AnyDelivers (λ queue. written (route_bytes (work_of floats words queue) trip i) counts.pops out) r after → AnyDelivers told r after
  unfolding delivered
  told_arrived e h = rw e h

  pub told_emptied : finish ≡ Emptied → AnyDelivers told (NotFound counts.pops) out
  unfolding delivered
  told_emptied e = any_delivers told (λ queue. rw e)

  pub told_filled : finish ≡ Filled → AnyDelivers told (Full counts.pops) out
  unfolding delivered
  told_filled e = any_delivers told (λ queue. rw e)

  pub told_stopped : finish ≡ Stopped → AnyDelivers told (Spent counts.pops) out
  unfolding delivered
  told_stopped e = any_delivers told (λ queue. rw e)

  pub told_crowded : finish ≡ Crowded → AnyDelivers told (TableFull counts.pops) out
  unfolding delivered
  told_crowded e = any_delivers told (λ queue. rw e)
