-- Document 01's whole example: the three records byte for byte; a world with that one step, which is lawful; and what the judge says of that file
-- there. So a lawful world with a true route exists. Assumes nothing.
use Prim.Native.Nat.{ℕ}
use mathlib.Core.Path.{◌≡◌, refl, sym, ap₂, subst}
use mathlib.Core.Bool.{Bool, true, false}
use mathlib.Core.List.Memᴰ
use mathlib.Core.List.{List, [], ◌∷◌, ◌++◌}
use lib.Dec.{lit<, lit≤}
use lib.Ieee.{binary32, of_bits, to_bits}
use lib.Ieee.Bits.{of_bits-fits}
use Rattle.std.specs.Prelude.{Ok, Err}
use Rattle.float.proofs.Tests.{untrue}
use Rattle.word.specs.Word.{bytes_of}
use Rattle.told.specs.declared.Told.TheVariants.{AtRecord}
use Rattle.point.specs.declared.Point.{Point}
use Rattle.cut.specs.declared.SuccessorType.TheVariants.{Observable}
use Rattle.route.specs.declared.Step.{Step}
use Rattle.route.specs.declared.Fault.TheVariants.{Length, NotSeed, NotStep, NotEnd}
use Rattle.route.specs.Step.{kind_number, HeldPoint, Held}
use Rattle.route.specs.Record.{records, record_at, words_bytes, seed_words, step_words, end_words, seed_bytes, step_bytes, end_bytes}
use Rattle.route.specs.World.{World, ◌∈◌, Lawful, seeded, stepped, TrueRoute}
use Rattle.route.specs.Judge.{same_bytes, length_right, find_step, onwards, judge_end, judge_from, judge_of, fault_told, judged_told}
use Rattle.route.proofs.Bytes.{seed_is_32, end_is_32}
use Rattle.route.proofs.Verdicts.{accepted_exactly}

-- ---- the records

point : ℕ → ℕ → Point
point x y = record { x = of_bits binary32 x; y = of_bits binary32 y }

-- "02000000 01000000 01000000 04000000 00000040 00000000 00000040 00000040": into polygon 1, over the edge from vertex 1 to vertex 4, from (2, 0) to (2, 2)
only : Step
unfolding point
only = record { kind = Observable; polygon = 1; first = 1; second = 4; interval = (point 0x40000000 0, point 0x40000000 0x40000000) }

seed_record_lem : List ℕ
seed_record_lem =
    1 ∷ 0 ∷ 0 ∷ 0 ∷ 0 ∷ 0 ∷ 0 ∷ 0 ∷ 0 ∷ 0 ∷ 0x80 ∷ 0x3F ∷ 0 ∷ 0 ∷ 0x80 ∷ 0x3F
    ∷ 0 ∷ 0 ∷ 0 ∷ 0 ∷ 0 ∷ 0 ∷ 0 ∷ 0 ∷ 0 ∷ 0 ∷ 0 ∷ 0 ∷ 0 ∷ 0 ∷ 0 ∷ 0 ∷ []

step_record_lem : List ℕ
step_record_lem =
    2 ∷ 0 ∷ 0 ∷ 0 ∷ 1 ∷ 0 ∷ 0 ∷ 0 ∷ 1 ∷ 0 ∷ 0 ∷ 0 ∷ 4 ∷ 0 ∷ 0 ∷ 0
    ∷ 0 ∷ 0 ∷ 0 ∷ 0x40 ∷ 0 ∷ 0 ∷ 0 ∷ 0 ∷ 0 ∷ 0 ∷ 0 ∷ 0x40 ∷ 0 ∷ 0 ∷ 0 ∷ 0x40 ∷ []

end_record_lem : List ℕ
end_record_lem =
    5 ∷ 0 ∷ 0 ∷ 0 ∷ 1 ∷ 0 ∷ 0 ∷ 0 ∷ 0 ∷ 0 ∷ 0x40 ∷ 0x40 ∷ 0 ∷ 0 ∷ 0x80 ∷ 0x3F
    ∷ 0 ∷ 0 ∷ 0 ∷ 0x40 ∷ 0 ∷ 0 ∷ 0 ∷ 0 ∷ 0 ∷ 0 ∷ 0 ∷ 0 ∷ 0 ∷ 0 ∷ 0 ∷ 0 ∷ []

seed_is : seed_bytes 0 (point 0x3F800000 0x3F800000) ≡ seed_record_lem
unfolding seed_bytes seed_words words_bytes bytes_of to_bits of_bits point seed_record_lem
seed_is = refl

step_is : step_bytes only ≡ step_record_lem
unfolding step_bytes step_words words_bytes bytes_of kind_number to_bits of_bits only point step_record_lem
step_is = refl

end_is : end_bytes 1 (point 0x40400000 0x3F800000) (of_bits binary32 0x40000000) ≡ end_record_lem
unfolding end_bytes end_words words_bytes bytes_of to_bits of_bits point end_record_lem
end_is = refl

-- ---- a world with this one step: a node is whether the goal polygon was entered

steps_out : Bool → List Step
steps_out false = only ∷ []
steps_out true = []

small : World Bool
small = record {
  seed = false;
  steps_from = steps_out;
  enter = λ n s. true;
  in_goal = λ n. n;
  seed_bytes = seed_bytes 0 (point 0x3F800000 0x3F800000);
  end_bytes = λ n. end_bytes 1 (point 0x40400000 0x3F800000) (of_bits binary32 0x40000000);
}

point_held : (x y : ℕ) → HeldPoint (point x y)
unfolding point
point_held x y = record { x_held = of_bits-fits binary32 x; y_held = of_bits-fits binary32 y }

only_held : Held only
unfolding only
only_held = record {
  polygon_held = lit< tt;
  first_held = lit< tt;
  second_held = lit< tt;
  right_held = point_held 0x40000000 0;
  left_held = point_held 0x40000000 0x40000000;
}

small_is_lawful : Lawful small
unfolding small steps_out
small_is_lawful = record {
  steps_held = held;
  seed_long = seed_is_32 0 (point 0x3F800000 0x3F800000);
  end_long = λ n. end_is_32 1 (point 0x40400000 0x3F800000) (of_bits binary32 0x40000000);
  goal_ends = none;
}
  where
    held : (n : Bool) (s : Step) → s ∈ steps_out n → Held s
    held false s m = subst Held (sym (Memᴰ.eq_of_singleton m)) only_held
    held true s m = absurd (Memᴰ.not-nil m)

    none : (n : Bool) → n ≡ true → steps_out n ≡ []
    none false e = untrue e
    none true e = refl

-- ---- the judge there

route_is_true : TrueRoute small (seed_record_lem ++ step_record_lem ++ end_record_lem)
unfolding small steps_out
route_is_true = record {
  steps = 1;
  few = lit≤ tt;
  last = true;
  bytes = seed_bytes 0 (point 0x3F800000 0x3F800000) ++ step_bytes only;
  trail = stepped seeded (Memᴰ.head refl);
  arrived = refl;
  whole = ap₂ ◌++◌ (ap₂ ◌++◌ (sym seed_is) (sym step_is)) (sym end_is);
}

route_is_accepted : judge_of small (seed_record_lem ++ step_record_lem ++ end_record_lem) ≡ Ok tt
route_is_accepted = (accepted_exactly small_is_lawful (seed_record_lem ++ step_record_lem ++ end_record_lem)).1 route_is_true

-- "Empty route file is 20."
empty_is_20 : judge_of small [] ≡ Err Length
unfolding judge_of length_right records
empty_is_20 = refl

-- the other numbers, each with its record
others :
    (judge_of small (step_record_lem ++ end_record_lem) ≡ Err NotSeed)
    × (judge_of small (seed_record_lem ++ step_record_lem ++ step_record_lem ++ end_record_lem) ≡ Err (NotStep 2))
    × (judge_of small (seed_record_lem ++ end_record_lem) ≡ Err (NotEnd 1))
    × (judge_of small (seed_record_lem ++ step_record_lem) ≡ Err (NotEnd 1))
    × (judge_of small (seed_record_lem ++ step_record_lem ++ seed_record_lem) ≡ Err (NotEnd 2))
    × (judged_told (Err (NotEnd 2)) ≡ AtRecord 23 2)
unfolding judge_of judge_from judge_end judged_told fault_told length_right records record_at same_bytes find_step onwards small steps_out only point
    seed_record_lem step_record_lem end_record_lem seed_bytes seed_words step_bytes step_words end_bytes end_words words_bytes bytes_of kind_number to_bits of_bits
others = (refl, refl, refl, refl, refl, refl)
