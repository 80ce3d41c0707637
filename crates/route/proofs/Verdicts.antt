-- "Each number is given exactly in its case", over any lawful world: the judge accepts exactly the true routes, and gives 20, 21, 22 and 23 with their
-- records exactly in their cases. Assumes nothing.
use Prim.Native.Nat.{ℕ, zero, suc, ◌+◌, ◌-◌, ◌*◌, ◌/◌, ◌%◌, ◌≤◌}
use native.Mathlib.Omega.{arith}
use mathlib.Core.Path.{◌≡◌, refl, sym, ap, ◌∙◌, subst}
use mathlib.Core.Bool.{Bool, true, false, ◌&&◌, cond}
use mathlib.Core.List.{List, ◌++◌}
use mathlib.Core.Logic.{◌↔◌, ◌⊎◌, inl, inr}
use borrow.Author.Tests.{eq-eqb, le-leb}
use lib.ListN.{length, take}
use lib.Seq.{take_all}
use Rattle.std.specs.Prelude.{Option, Some, None, Result, Ok, Err}
use Rattle.float.proofs.Tests.{untrue, failed}
use Rattle.route.specs.declared.Step.{Step}
use Rattle.route.specs.declared.Fault.{Fault}
use Rattle.route.specs.declared.Fault.TheVariants.{Length, NotSeed, NotStep, NotEnd}
use Rattle.route.specs.Record.{record_at, records, step_bytes}
use Rattle.route.specs.World.{World, Lawful, Trail, seeded, stepped, TrueRoute}
use Rattle.route.specs.Judge.{same_bytes, length_right, find_step, judge_end, judge_from, judge_of}
use Rattle.route.specs.Verdict.{RouteLength, LeadsTo, SeedFault, StepFault, EndFault, Case}
use Rattle.route.proofs.Find.{same_true, same_of, same_false, other_of, find_found, find_missing, find_none}
use Rattle.route.proofs.Turns.{length_gives, begins_length, begins_wrong, begins, goes_on, stops, ends, end_accepted, end_outside, end_wrong}
use Rattle.route.proofs.Trails.{join_next, cut_next, trail_long, route_long, trail_begins, judge_along}

-- ---- 20

pub length_told : (file : List ℕ) → length_right file ≡ true → RouteLength file
length_told file h =
    let g = length_gives file h in
    record { records = length file / 32; least = g.0; most = g.1; whole = omega (arith, g.2) }

pub records_are : (file : List ℕ) (r : RouteLength file) → length file / 32 ≡ r.records
records_are file r = omega (arith, r.whole)

pub length_right_lem : (file : List ℕ) → RouteLength file → length_right file ≡ true
unfolding length_right records
length_right_lem file r =
    let q : length file / 32 ≡ r.records = omega (arith, r.whole) in
    let m : length file % 32 ≡ 0 = omega (arith, r.whole) in
    rw (eq-eqb (length file % 32) 0 m, le-leb 2 (length file / 32) (omega (arith, r.least)), le-leb (length file / 32) 4097 (omega (arith, r.most)))

pub length_decided : (file : List ℕ) → length_right file ≡ true ↔ RouteLength file
length_decided file = (length_told file, length_right_lem file)

-- ---- what the judge says holds

module _ {Node : Type 0} {w : World Node} (lawful : Lawful w) (file : List ℕ) where
  leads : {d : ℕ} {n : Node} {bs : List ℕ} → Trail w d n bs → take ((d + 1) * 32) file ≡ bs → LeadsTo w file (d + 1) n
  leads {d} {n} t e = record { steps = d; count = refl; trail = subst (Trail w d n) (sym e) t }

  whole_file : (d : ℕ) (bs rec : List ℕ) (long : RouteLength file) → long.records ≡ d + 2 → take ((d + 1) * 32) file ≡ bs
      → record_at file (d + 1) ≡ rec → file ≡ bs ++ rec
  whole_file d bs rec long c e k =
      let all : length file ≤ (d + 1 + 1) * 32 = omega (arith, long.whole) in
      sym (take_all ((d + 1 + 1) * 32) file all) ∙ join_next d file bs rec e k

  end_told : {d : ℕ} {n : Node} {bs : List ℕ} → Trail w d n bs → take ((d + 1) * 32) file ≡ bs → (long : RouteLength file)
      → long.records ≡ d + 2 → Case w file (judge_end w file n (d + 1))
  unfolding judge_end
  end_told {d} {n} {bs} t e long c = go (w.in_goal n) refl (same_bytes (record_at file (d + 1)) (w.end_bytes n)) refl
    where
      go : (g : Bool) → w.in_goal n ≡ g → (b : Bool) → same_bytes (record_at file (d + 1)) (w.end_bytes n) ≡ b
          → Case w file (cond (g && b) (Ok tt) (Err (NotEnd (d + 1))))
      go true g true b = record {
        steps = d;
        few = omega (arith, long.most);
        last = n;
        bytes = bs;
        trail = t;
        arrived = g;
        whole = whole_file d bs (w.end_bytes n) long c e (same_true (record_at file (d + 1)) (w.end_bytes n) b);
      }
      go true g false b = record {
        long = long;
        last = omega arith;
        node = n;
        before = leads t e;
        wrong = inr (same_false (record_at file (d + 1)) (w.end_bytes n) b);
      }
      go false g b h = record { long = long; last = omega arith; node = n; before = leads t e; wrong = inl g }

  from_told : (left : ℕ) {d : ℕ} {n : Node} {bs : List ℕ} → Trail w d n bs → take ((d + 1) * 32) file ≡ bs → (long : RouteLength file)
      → long.records ≡ d + left + 2
      → Case w file (judge_from w file n (d + 1) left)
  from_told zero {d} {n} t e long c = subst (Case w file) (sym (ends w file n (d + 1))) (end_told t e long (omega arith))
  from_told (suc left) {d} {n} {bs} t e long c =
      go (find_step (w.steps_from n) (record_at file (d + 1))) refl (λ m cs u k. from_told left u k long (omega arith))
    where
      go : (f : Option Step) → find_step (w.steps_from n) (record_at file (d + 1)) ≡ f
          → ((m : Node) (cs : List ℕ) → Trail w (d + 1) m cs → take ((d + 1 + 1) * 32) file ≡ cs
          → Case w file (judge_from w file m (d + 1 + 1) left))
          → Case w file (judge_from w file n (d + 1) (suc left))
      go (Some s) f below =
          let p = find_found (w.steps_from n) (record_at file (d + 1)) s f in
          subst (Case w file) (sym (goes_on w file n (d + 1) left s f))
          (below (w.enter n s) (bs ++ step_bytes s) (stepped t p.0) (join_next d file bs (step_bytes s) e p.1))
      go None f below =
          subst (Case w file) (sym (stops w file n (d + 1) left f))
          (record { long = long; middle = omega arith; node = n; before = leads t e; wrong = find_missing (w.steps_from n) (record_at file (d + 1)) f })

  seed_taken : same_bytes (record_at file 0) w.seed_bytes ≡ true → take ((0 + 1) * 32) file ≡ w.seed_bytes
  unfolding record_at
  seed_taken b = same_true (take 32 file) w.seed_bytes b

  pub judge_told : Case w file (judge_of w file)
  judge_told = go (length_right file) refl (same_bytes (record_at file 0) w.seed_bytes) refl
    where
      go : (a : Bool) → length_right file ≡ a → (b : Bool) → same_bytes (record_at file 0) w.seed_bytes ≡ b → Case w file (judge_of w file)
      go false a b h = subst (Case w file) (sym (begins_length w file a)) (λ r. untrue (sym a ∙ length_right_lem file r))
      go true a false b =
          subst (Case w file) (sym (begins_wrong w file a b)) (record { long = length_told file a; wrong = same_false (record_at file 0) w.seed_bytes b })
      go true a true b =
          let long = length_told file a in
          let n : length file / 32 ≡ long.records = records_are file long in
          subst (Case w file) (sym (begins w file a b (long.records - 1) (omega (arith, long.least))))
          (from_told (long.records - 1 - 1) seeded (seed_taken b) long (omega (arith, long.least)))

  -- ---- what holds the judge says

  pub judge_reaches : {d : ℕ} {n : Node} {bs : List ℕ} → Trail w d n bs → take ((d + 1) * 32) file ≡ bs
      → (long : RouteLength file) (left : ℕ) → long.records ≡ d + left + 2
      → judge_of w file ≡ judge_from w file n (d + 1) left
  judge_reaches {d} t e long left c =
      let n : length file / 32 ≡ long.records = records_are file long in
      let l : d + left + 1 - 1 ≡ d + left = omega arith in
      begins w file (length_right_lem file long) (same_of (record_at file 0) w.seed_bytes (trail_begins lawful t file e)) (d + left + 1) (omega arith)
      ∙ ap (judge_from w file w.seed 1) l
      ∙ judge_along lawful t file left e

  pub judge_says : (v : Result Unit Fault) → Case w file v → judge_of w file ≡ v
  judge_says (Ok tt) r =
      let long : length file ≡ 32 * (r.steps + 2) = route_long lawful r in
      let parts = cut_next r.steps file r.bytes (w.end_bytes r.last) (trail_long lawful r.trail)
      (take_all ((r.steps + 1 + 1) * 32) file (omega arith) ∙ r.whole) in
      judge_reaches r.trail parts.0 (record { records = r.steps + 2; least = omega arith; most = omega (arith, r.few); whole = long }) 0 (omega arith)
      ∙ ends w file r.last (r.steps + 1)
      ∙ end_accepted w file r.last (r.steps + 1) r.arrived (same_of (record_at file (r.steps + 1)) (w.end_bytes r.last) parts.1)
  judge_says (Err Length) r = begins_length w file (failed (length_right file) (λ h. r (length_told file h)))
  judge_says (Err NotSeed) r = begins_wrong w file (length_right_lem file r.long) (other_of (record_at file 0) w.seed_bytes r.wrong)
  judge_says (Err (NotStep k)) r =
      let t = r.before in
      let e : take ((t.steps + 1) * 32) file ≡ take (k * 32) file = ap (λ (x : ℕ). take (x * 32) file) (sym t.count) in
      let f : record_at file (t.steps + 1) ≡ record_at file k = ap (record_at file) (sym t.count) in
      judge_reaches t.trail e r.long (suc (r.long.records - (k + 2))) (omega (arith, t.count, r.middle))
      ∙ stops w file r.node (t.steps + 1) (r.long.records - (k + 2))
      (find_none (w.steps_from r.node) (record_at file (t.steps + 1)) (λ s m g. r.wrong s m (sym f ∙ g)))
      ∙ ap (λ (x : ℕ). Err (NotStep x)) (sym t.count)
  judge_says (Err (NotEnd k)) r =
      let t = r.before in
      let e : take ((t.steps + 1) * 32) file ≡ take (k * 32) file = ap (λ (x : ℕ). take (x * 32) file) (sym t.count) in
      let f : record_at file (t.steps + 1) ≡ record_at file k = ap (record_at file) (sym t.count) in
      judge_reaches t.trail e r.long 0 (omega (arith, t.count, r.last))
      ∙ ends w file r.node (t.steps + 1)
      ∙ refused (w.in_goal r.node) refl (t.steps + 1) f r.wrong
      ∙ ap (λ (x : ℕ). Err (NotEnd x)) (sym t.count)
    where
      refused : (g : Bool) → w.in_goal r.node ≡ g → (i : ℕ) → record_at file i ≡ record_at file k
          → (w.in_goal r.node ≡ false) ⊎ (record_at file k ≡ w.end_bytes r.node → ⊥) → judge_end w file r.node i ≡ Err (NotEnd i)
      refused false g i f o = end_outside w file r.node i g
      refused true g i f (inl h) = untrue (sym h ∙ g)
      refused true g i f (inr h) = end_wrong w file r.node i g (other_of (record_at file i) (w.end_bytes r.node) (λ e. h (sym f ∙ e)))

  -- Each verdict is given exactly in its case.
  pub judged_exactly : (v : Result Unit Fault) → judge_of w file ≡ v ↔ Case w file v
  judged_exactly v = ((λ e. subst (Case w file) e judge_told), judge_says v)

  -- ---- verdict by verdict

  -- Demand 3: the judge accepts exactly the true routes.
  pub accepted_exactly : judge_of w file ≡ Ok tt ↔ TrueRoute w file
  accepted_exactly = judged_exactly (Ok tt)

  pub length_exactly : judge_of w file ≡ Err Length ↔ (RouteLength file → ⊥)
  length_exactly = judged_exactly (Err Length)

  pub seed_exactly : judge_of w file ≡ Err NotSeed ↔ SeedFault w file
  seed_exactly = judged_exactly (Err NotSeed)

  pub step_exactly : (k : ℕ) → judge_of w file ≡ Err (NotStep k) ↔ StepFault w file k
  step_exactly k = judged_exactly (Err (NotStep k))

  pub end_exactly : (k : ℕ) → judge_of w file ≡ Err (NotEnd k) ↔ EndFault w file k
  end_exactly k = judged_exactly (Err (NotEnd k))
