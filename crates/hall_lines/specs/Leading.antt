-- What a call line of a hall, led by a number and a comma, is read as. Rests on lines' Late. Assumes nothing.
use Rattle.std.specs.Prelude.{ℕ, ◌≡◌, true, cond, List, [], length, get_or, take, drop, Option, Some, None}
use Rattle.model.specs.Grammar.{Fields, at, is_number, Asked, nothing, asked}
use Rattle.lines.specs.Late.{Asking}
use Rattle.hall_lines.specs.declared.LedAsk.{LedAsk}

-- the call behind a lead that is a number, or none
abbrev pub asked_behind : Fields → Asked
asked_behind fs = cond (is_number (get_or fs 0 [])) (asked (drop 1 fs)) nothing

-- the lead is the number d; three numbers and the operands stand for the call behind it
pub record LedAsking (fs : Fields) (end used d k a b n : ℕ) (operands : List ℕ) : Type 0 where
  pub number : is_number (get_or fs 0 []) ≡ true
  pub lead : at fs 0 ≡ d
  pub asking : Asking (drop 1 fs) end used k a b n operands

abbrev pub leading : Fields → ℕ → ℕ → Option LedAsk → List ℕ → Type 0
leading fs end used (Some y) operands = LedAsking fs end used y.catalogue y.ask.letter y.ask.first y.ask.second y.ask.used operands
leading fs end used None operands = asked_behind fs ≡ nothing

-- the operands in use are kept, and those behind them may change whatever the line is
pub record LedRead (fs : Fields) (end used : ℕ) (r : Option LedAsk) (operands operands' : List ℕ) : Type 0 where
  pub keep : take used operands' ≡ take used operands
  pub len : length operands' ≡ length operands
  pub says : leading fs end used r operands'
