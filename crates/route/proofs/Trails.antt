-- Trails and the bytes of a file: how long a trail's bytes are, that they tell its node, and that the judge follows a trail record by record. Rests on
-- what a step's bytes tell. Assumes nothing.
use Prim.Native.Nat.{ℕ, suc, ◌+◌, ◌*◌, ◌≤◌}
use native.Mathlib.Omega.{arith}
use mathlib.Core.Path.{◌≡◌, refl, sym, ap, ap₂, ◌∙◌}
use mathlib.Core.List.{List, ◌++◌}
use lib.ListN.{length, take, drop, length-append, length-take}
use lib.Seq.{take_at, drop_at, take-add, length-take-le}
use Rattle.route.specs.declared.Step.{Step}
use Rattle.route.specs.Record.{record_at, step_bytes}
use Rattle.route.specs.World.{World, ◌∈◌, Lawful, Trail, seeded, stepped, TrueRoute}
use Rattle.route.specs.Judge.{judge_from}
use Rattle.route.proofs.Bytes.{step_is_32, step_bytes_tell}
use Rattle.route.proofs.Find.{find_is}
use Rattle.route.proofs.Turns.{goes_on}

-- ---- lists cut at one place

pub same_parts : (n : ℕ) (a b c d : List ℕ) → length a ≡ n → length c ≡ n → a ++ b ≡ c ++ d → (a ≡ c) × (b ≡ d)
same_parts n a b c d h k e = (
  sym (take_at a b n h) ∙ ap (take n) e ∙ take_at c d n k,
  sym (drop_at a b n h) ∙ ap (drop n) e ∙ drop_at c d n k,
)

-- what the first n and 32 bytes are, told apart
pub cut_record : (n : ℕ) (file bs rec : List ℕ) → length bs ≡ n → take (n + 32) file ≡ bs ++ rec
    → (take n file ≡ bs) × (take 32 (drop n file) ≡ rec)
cut_record n file bs rec h e =
    let l : length (take (n + 32) file) ≡ length bs + length rec = ap length e ∙ length-append bs rec in
    let inside : n ≤ length file = omega (arith, length-take (n + 32) file) in
    same_parts n (take n file) (take 32 (drop n file)) bs rec (length-take-le n file inside) h (sym (take-add n 32 file) ∙ e)

pub join_record : (n : ℕ) (file bs rec : List ℕ) → take n file ≡ bs → take 32 (drop n file) ≡ rec → take (n + 32) file ≡ bs ++ rec
join_record n file bs rec h k = take-add n 32 file ∙ ap₂ ◌++◌ h k

next : (d : ℕ) → (d + 1 + 1) * 32 ≡ (d + 1) * 32 + 32
next d = omega arith

-- the same with records: the first d + 2 of them, and record d + 1
pub cut_next : (d : ℕ) (file bs rec : List ℕ) → length bs ≡ (d + 1) * 32 → take ((d + 1 + 1) * 32) file ≡ bs ++ rec
    → (take ((d + 1) * 32) file ≡ bs) × (record_at file (d + 1) ≡ rec)
unfolding record_at
cut_next d file bs rec h e = cut_record ((d + 1) * 32) file bs rec h (ap (λ (x : ℕ). take x file) (sym (next d)) ∙ e)

pub join_next : (d : ℕ) (file bs rec : List ℕ) → take ((d + 1) * 32) file ≡ bs → record_at file (d + 1) ≡ rec
    → take ((d + 1 + 1) * 32) file ≡ bs ++ rec
unfolding record_at
join_next d file bs rec h k = ap (λ (x : ℕ). take x file) (next d) ∙ join_record ((d + 1) * 32) file bs rec h k

-- ---- trails of a lawful world

module _ {Node : Type 0} {w : World Node} (lawful : Lawful w) where
  pub trail_long : {d : ℕ} {n : Node} {bs : List ℕ} → Trail w d n bs → length bs ≡ (d + 1) * 32
  trail_long seeded = lawful.seed_long
  trail_long (stepped {d = d} {bytes = bs} {s = s} t m) = length-append bs (step_bytes s) ∙ omega (arith, trail_long t, step_is_32 s)

  -- how long a true route is
  pub route_long : {file : List ℕ} (r : TrueRoute w file) → length file ≡ 32 * (r.steps + 2)
  route_long r = ap length r.whole ∙ length-append r.bytes (w.end_bytes r.last) ∙ omega (arith, trail_long r.trail, lawful.end_long r.last)

  -- Two steps out of one node with the same bytes are the same step.
  pub step_is_one : (n : Node) (s t : Step) → s ∈ w.steps_from n → t ∈ w.steps_from n → step_bytes s ≡ step_bytes t → s ≡ t
  step_is_one n s t p q e = step_bytes_tell s t (lawful.steps_held n s p) (lawful.steps_held n t q) e

  -- Two trails with the same bytes are of as many steps and lead to the same node.
  pub trail_is_one : {d e : ℕ} {n m : Node} {bs cs : List ℕ} → Trail w d n bs → Trail w e m cs → bs ≡ cs → (d ≡ e) × (n ≡ m)
  trail_is_one seeded seeded k = (refl, refl)
  trail_is_one seeded (stepped {d = d} {bytes = bs} {s = s} t q) k =
      absurd (omega (arith, lawful.seed_long, ap length k, length-append bs (step_bytes s), trail_long t, step_is_32 s))
  trail_is_one (stepped {d = d} {bytes = bs} {s = s} t p) seeded k =
      absurd (omega (arith, lawful.seed_long, ap length k, length-append bs (step_bytes s), trail_long t, step_is_32 s))
  trail_is_one (stepped {d = d} {n = n} {bytes = bs} {s = s} t p) (stepped {d = e} {n = m} {bytes = cs} {s = r} u q) k =
      let long : length bs ≡ length cs =
      omega (arith, ap length k, length-append bs (step_bytes s), length-append cs (step_bytes r), step_is_32 s, step_is_32 r) in
      let parts = same_parts (length cs) bs (step_bytes s) cs (step_bytes r) long refl k in
      let below = trail_is_one t u parts.0 in
      let same : s ≡ r = step_bytes_tell s r (lawful.steps_held n s p) (lawful.steps_held m r q) parts.1 in
      (ap (λ (x : ℕ). x + 1) below.0, ap₂ w.enter below.1 same)

  -- ---- a file that begins with a trail

  pub trail_begins : {d : ℕ} {n : Node} {bs : List ℕ} → Trail w d n bs → (file : List ℕ) → take ((d + 1) * 32) file ≡ bs
      → record_at file 0 ≡ w.seed_bytes
  unfolding record_at
  trail_begins seeded file e = e
  trail_begins (stepped {d = d} {bytes = bs} {s = s} t m) file e = trail_begins t file (cut_next d file bs (step_bytes s) (trail_long t) e).0

  -- The judge follows it to its node.
  pub judge_along : {d : ℕ} {n : Node} {bs : List ℕ} → Trail w d n bs → (file : List ℕ) (left : ℕ) → take ((d + 1) * 32) file ≡ bs
      → judge_from w file w.seed 1 (d + left) ≡ judge_from w file n (d + 1) left
  judge_along seeded file left e = let z : 0 + left ≡ left = omega arith in ap (judge_from w file w.seed 1) z
  judge_along (stepped {d = d} {n = n} {bytes = bs} {s = s} t m) file left e =
      let parts = cut_next d file bs (step_bytes s) (trail_long t) e in
      let z : d + 1 + left ≡ d + suc left = omega arith in
      ap (judge_from w file w.seed 1) z
      ∙ judge_along t file (suc left) parts.0
      ∙ goes_on w file n (d + 1) left s (find_is (w.steps_from n) (record_at file (d + 1)) s (lawful.steps_held n) m parts.1)
