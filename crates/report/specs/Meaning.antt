-- An answer of this crate as document 01 has it: the call's letter and its values; and what a call's line says, which may be a refusal's number. Rests on model's
-- Machine. Assumes nothing.
use Rattle.std.specs.Prelude.{ℕ, ◌≡◌, refl, Result, Ok, Err}
use Rattle.model.specs.Machine.{Answer as ModelAnswer, says_j, says_s, says_m, says_b, says_w, says_p, says_a, says_x, says_n, says_no}
use Rattle.model.specs.Report.{refusal}
use Rattle.report.specs.declared.answers.Answer.{Answer}
use Rattle.report.specs.declared.answers.Answer.TheVariants.{Contracted, Uncontracted, Moved, Reversed, Walked, Polished, Cycled, Withdrawn, Added}

abbrev pub answer_of : Answer → ModelAnswer
answer_of (Contracted weight) = says_j weight
answer_of (Uncontracted into gone) = says_s into gone
answer_of (Moved freed drawn total) = says_m freed drawn total
answer_of (Reversed vertex block total) = says_b vertex block total
answer_of (Walked tried kept total) = says_w tried kept total
answer_of (Polished moves total) = says_p moves total
answer_of (Cycled contractions tried kept moves total) = says_a contractions tried kept moves total
answer_of (Withdrawn total) = says_x total
answer_of (Added lot total) = says_n lot total

-- what the line of a call says: its answer, or its refusal's number
abbrev pub said : Result Answer ℕ → ModelAnswer
said (Ok a) = answer_of a
said (Err n) = says_no n

-- an answer is no refusal
pub done-none : (a : Answer) → refusal (answer_of a) ≡ 0
unfolding refusal
done-none (Contracted a) = refl
done-none (Uncontracted a b) = refl
done-none (Moved a b c) = refl
done-none (Reversed a b c) = refl
done-none (Walked a b c) = refl
done-none (Polished a b) = refl
done-none (Cycled a b c d e) = refl
done-none (Withdrawn a) = refl
done-none (Added a b) = refl
