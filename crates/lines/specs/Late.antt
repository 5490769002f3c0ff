-- The numbers of an N line in the table of operands, and a call line of any kind. Rests on Line. Assumes nothing.
use Rattle.std.specs.Prelude.{ℕ, ◌+◌, ◌-◌, ◌*◌, ◌≤◌, ◌≡◌, true, false, List, length, take, Option, Some, None}
use Rattle.std.proofs.Math.Seq.{slice}
use Rattle.laws.specs.Fold.{all}
use Rattle.model.specs.Sale.{Request}
use Rattle.model.specs.Grammar.{Fields, is_number, values, asks, nothing, asked, stretch_of, late_of, call_of}
use Rattle.model.specs.ListEntry.{is_entry}
use Rattle.lines.specs.Line.{is_late, late_asked}
use Rattle.lines.specs.declared.Ask.{Ask}

-- fields that end at the byte `end` are numbers, and stand in the operands from `first` to r
pub record Operands (fs : Fields) (first end r : ℕ) (operands : List ℕ) : Type 0 where
  pub form : all fs is_number ≡ true
  pub is : slice first r operands ≡ values fs
  pub count : r ≡ first + length fs
  pub room : 2 * r ≤ end

-- where the operands end, if each field is a number; operands before `first` are kept
abbrev pub operands_seen : Fields → ℕ → ℕ → Option ℕ → List ℕ → Type 0
operands_seen fs first end (Some r) operands = Operands fs first end r operands
operands_seen fs first end None operands = all fs is_number ≡ false

pub record OperandsRead (fs : Fields) (first end : ℕ) (r : Option ℕ) (operands operands' : List ℕ) : Type 0 where
  pub keep : take first operands' ≡ take first operands
  pub len : length operands' ≡ length operands
  pub says : operands_seen fs first end r operands'

-- the same of an N line: bales, session and buyers
pub record Late (fs : Fields) (first end r : ℕ) (operands : List ℕ) : Type 0 where
  pub form : is_late fs ≡ true
  pub is : late_of (stretch_of operands first (r - first)) ≡ late_asked fs
  pub two : first + 2 ≤ r
  pub room : 2 * r ≤ end

-- where the operands end, if the line is an N line
abbrev pub late_seen : Fields → ℕ → ℕ → Option ℕ → List ℕ → Type 0
late_seen fs first end (Some r) operands = Late fs first end r operands
late_seen fs first end None operands = is_late fs ≡ false

pub record LateRead (fs : Fields) (first end : ℕ) (r : Option ℕ) (operands operands' : List ℕ) : Type 0 where
  pub keep : take first operands' ≡ take first operands
  pub len : length operands' ≡ length operands
  pub says : late_seen fs first end r operands'

-- three numbers and the operands stand for a line's call, which has no use for operands from n on; two bytes for each of the n
pub record Asking (fs : Fields) (end used k a b n : ℕ) (operands : List ℕ) : Type 0 where
  pub call : Request
  pub is : call_of operands k a b ≡ asks call
  pub says : asked fs ≡ asks call
  pub entry : is_entry n k a b ≡ true
  pub more : used ≤ n
  pub room : 2 * n ≤ end

abbrev pub answered : Fields → ℕ → ℕ → Option Ask → List ℕ → Type 0
answered fs end used (Some c) operands = Asking fs end used c.letter c.first c.second c.used operands
answered fs end used None operands = nothing ≡ asked fs

-- a call line; the operands in use are kept, and those behind them may change whatever the line is
pub record CallRead (fs : Fields) (end used : ℕ) (r : Option Ask) (operands operands' : List ℕ) : Type 0 where
  pub keep : take used operands' ≡ take used operands
  pub len : length operands' ≡ length operands
  pub says : answered fs end used r operands'
