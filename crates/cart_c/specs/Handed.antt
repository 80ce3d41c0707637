-- What a search hands to C: the number, the lent buffers, the counted steps and the value. Rests on `search`'s definition of the search. Assumes nothing.
use Rattle.std.specs.Prelude.{ℕ, List}
use Rattle.writing.specs.Answers.{answer_number, answer_steps, answer_values}
use Rattle.search.specs.Whole.{Lent, Searched}
use Rattle.cart_c.specs.Written.{value_written}

-- all that C sees after the call
pub record Handed : Type 0 where
  pub number : ℕ
  pub lent : Lent
  pub out : List ℕ
  pub steps : ℕ
  pub value : ℕ

abbrev pub handed_of : ℕ → Lent → List ℕ → ℕ → ℕ → Handed
handed_of number lent out steps value = record { number = number; lent = lent; out = out; steps = steps; value = value }

-- what a search that ended so hands over; where no value comes with its number, the one that stood there stays
unfoldable pub handed_by : Searched → ℕ → Handed
handed_by s before =
    handed_of (answer_number s.answer) s.lent s.out (answer_steps s.answer) (value_written (answer_values s.answer) before)
