use Rattle.std.proofs.Common.{arith}
use Rattle.best_contraction.specs.RatingLaw.{term-none, term-some}
use Rattle.best_contraction.proofs.rating.term.Goals as goal

pub returns-then-n-lt2 : goal.returns-then-n-lt2
returns-then-n-lt2 c = term-none _ _ (omega arith)

pub returns : goal.returns
returns c = term-some _ _ (omega arith)
