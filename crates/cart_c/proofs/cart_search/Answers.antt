-- `cart_c::cart_search` meets its contract: it is made of what its callees ensure. Assumes nothing.
use Rattle.std.proofs.Common.{ℕ, ◌≡◌, ap, List}
use Rattle.told.specs.declared.Told.{Told}
use Rattle.told.specs.Told.{number_of, values_of}
use Rattle.writing.specs.declared.Answer.{Answer}
use Rattle.writing.specs.Answers.{answer_told, answer_steps}
use Rattle.search.specs.Whole.{Lent, Searched, searched_of}
use Rattle.cart_c.specs.Handed.{handed_of, handed_by}
use Rattle.cart_c.specs.Written.{value_written}
use Rattle.cart_c.proofs.cart_search.Goals as goal

module _ (s : Searched) (answer : Answer) (told : Told) (lent : Lent) (out : List ℕ) (number steps value before : ℕ) where
  -- what is told of the answer is what is told of the search
  handed :
      searched_of answer lent out ≡ s
      → steps ≡ answer_steps answer
      → told ≡ answer_told answer
      → value ≡ value_written (values_of told) before
      → number ≡ number_of told
      → handed_of number lent out steps value ≡ handed_by s before
  unfolding handed_by
  handed searched k t v n = rw (n, k, v, t) (ap (λ x. handed_by x before) searched)

pub returns : goal.returns
returns c = handed _ _ _ _ _ _ _ _ _ c.search-answer.ensures c.steps.ensures c.from-told.ensures c.put.ensures c.number.ensures
