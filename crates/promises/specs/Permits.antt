-- What is said of a contract itself. `permits` is what it permits, of the lifetimes, the arguments, the answer and the arguments at exit: the `Post` of the
-- function. proofs/Coincide and proofs/Refusals have one statement for each function. Definitions only. Assumes nothing.
use Rattle.std.specs.Prelude.{ℕ, ◌≡◌, List, Float}
use Rattle.writing.specs.declared.Answer.{Answer}
use Rattle.search.proofs.search.Reads as search
use Rattle.search.proofs.search_default.Reads as search-default

-- "For each input, refusals included, a public function's contract decides the answer and each lent buffer afterwards; prove that any two permitted answers
-- coincide": whatever a contract permits of the same arguments, a caller sees the same. What is seen of an answer z and of the arguments e at exit is said by
-- `seen`: the answer, and what each lent buffer holds then. `e.0` is the first argument, `e.1.0` the second and so on, and `.now` is what a reference then
-- refers to.
abbrev pub Coincide : {L A Z E S : Type 0} → (L → A → Z → E → Type 0) → (Z → E → S) → Type 0
Coincide {L} {A} {Z} {E} permits seen = (κs : L) (a : A) (z y : Z) (e f : E) → permits κs a z e → permits κs a y f → seen z e ≡ seen y f

-- What two contracts permit is the same, where the second gets the arguments of the first as `given` has them.
abbrev pub Agree : {L A Z E M B Y F S : Type 0} → (L → A → Z → E → Type 0) → (Z → E → S) → (M → B → Y → F → Type 0)
    → (Y → F → S) → (A → B) → Type 0
Agree {L} {A} {Z} {E} {M} {B} {Y} {F} permits seen permits-too seen-too given =
    (κs : L) (ιs : M) (a : A) (z : Z) (y : Y) (e : E) (f : F) → permits κs a z e → permits-too ιs (given a) y f → seen z e ≡ seen-too y f

-- what is seen of a search: the answer, the three work buffers, the table and the output
abbrev pub SeenOfSearch : Type 0
SeenOfSearch = Answer × List Float × List ℕ × List ℕ × List ℕ × List ℕ

-- "The entry without a budget uses 4,096": it permits just what the entry with a budget permits of 4,096, all else being the same.
abbrev pub DefaultIs4096 : Type 0
DefaultIs4096 =
    Agree {S = SeenOfSearch} search-default.Post
    (λ z e. (
      z,
      e.1.1.1.0.now,
      e.1.1.1.1.0.now,
      e.1.1.1.1.1.0.now,
      e.1.1.1.1.1.1.0.now,
      e.1.1.1.1.1.1.1.0.now,
    ))
    search.Post
    (λ z e. (
      z,
      e.1.1.1.1.0.now,
      e.1.1.1.1.1.0.now,
      e.1.1.1.1.1.1.0.now,
      e.1.1.1.1.1.1.1.0.now,
      e.1.1.1.1.1.1.1.1.0.now,
    ))
    (λ a. (a.0, (a.1.0, (a.1.1.0, (4096, a.1.1.1)))))

-- what is seen of one in C: the number, the three work buffers, the table, the output, the counted steps and the value
abbrev pub SeenInC : Type 0
SeenInC = ℕ × List Float × List ℕ × List ℕ × List ℕ × List ℕ × ℕ × ℕ

-- "Other than 0, nothing in the output changes": whatever a contract permits with another number than 0 leaves this as it was.
abbrev pub UnchangedUnlessZero : {L A Z E S : Type 0} → (L → A → Z → E → Type 0) → (Z → ℕ) → (A → S) → (E → S) → Type 0
UnchangedUnlessZero {L} {A} {Z} {E} permits number before after =
    (κs : L) (a : A) (z : Z) (e : E) → permits κs a z e → (number z ≡ 0 → ⊥) → after e ≡ before a
