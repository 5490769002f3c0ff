-- Answers and the closing report, as bytes; an answer's refusal number. Rests on Measure and Machine. Assumes nothing.
use Rattle.std.specs.Prelude.{ℕ, zero, suc, ◌+◌, ◌/◌, ◌%◌, cond, List, [], ◌∷◌, ◌++◌, ltb}
use Prim.Native.String.{String}
use Rattle.laws.specs.Sum.{fold_to}
use Rattle.model.specs.Catalogue.{Net, Hypergraph, vertices, in_sale}
use Rattle.model.specs.Measure.{representative, connectivity, metric}
use Rattle.model.specs.Machine.{Answer, says_j, says_s, says_m, says_b, says_w, says_p, says_a, says_x, says_n, says_no, State, fresh}
use Rattle.model.specs.Grammar.{bytes}

-- the digits of n, of which there are at most suc fuel
unfoldable pub digits_of : ℕ → ℕ → List ℕ
digits_of zero n = (48 + n) ∷ []
digits_of (suc fuel) n =
    let more : List ℕ = digits_of fuel (n / 10) ++ ((48 + n % 10) ∷ []) in
    cond (ltb n 10) ((48 + n) ∷ []) more

-- a number has fewer digits than it counts
unfoldable pub digits : ℕ → List ℕ
digits n = digits_of n n

-- the fields after the word, each behind a comma, and the line feed
unfoldable pub tail : List (List ℕ) → List ℕ
tail [] = 10 ∷ []
tail (f ∷ fs) = 44 ∷ (f ++ tail fs)

-- a line of the report: a word and fields
unfoldable pub row : String → List (List ℕ) → List ℕ
row word fs = bytes word ++ tail fs

-- the number of a call's refusal (9 to 16, 20, 22, 23, 25), and 0 for an accepted call
unfoldable pub refusal : Answer → ℕ
refusal (says_j w) = 0
refusal (says_s u v) = 0
refusal (says_m f d c) = 0
refusal (says_b v b c) = 0
refusal (says_w t k c) = 0
refusal (says_p m c) = 0
refusal (says_a j t k m c) = 0
refusal (says_x c) = 0
refusal (says_n v c) = 0
refusal (says_no q) = q

-- the line of an answer
unfoldable pub answer_row : Answer → List ℕ
answer_row (says_j w) = row "J" (digits w ∷ [])
answer_row (says_s u v) = row "S" (digits u ∷ digits v ∷ [])
answer_row (says_m f d c) = row "M" (digits f ∷ digits d ∷ digits c ∷ [])
answer_row (says_b v b c) = row "B" (digits v ∷ digits b ∷ digits c ∷ [])
answer_row (says_w t k c) = row "W" (digits t ∷ digits k ∷ digits c ∷ [])
answer_row (says_p m c) = row "P" (digits m ∷ digits c ∷ [])
answer_row (says_a j t k m c) = row "A" (digits j ∷ digits t ∷ digits k ∷ digits m ∷ digits c ∷ [])
answer_row (says_x c) = row "X" (digits c ∷ [])
answer_row (says_n v c) = row "N" (digits v ∷ digits c ∷ [])
answer_row (says_no q) = row "NO" (digits q ∷ [])

-- LOT,number,session of stand: the lots in the sale, in order of number
unfoldable pub lot_rows : Hypergraph → State → List ℕ
lot_rows h s = fold_to (vertices h) (λ out v. cond (in_sale h v) (out ++ row "LOT" (digits v ∷ digits (s.block (representative s.stack v)) ∷ [])) out) []

-- BUY,number,visited: the buyers from number i on
unfoldable pub buy_rows : Hypergraph → State → ℕ → List Net → List ℕ
buy_rows h s i [] = []
buy_rows h s i (e ∷ es) = row "BUY" (digits i ∷ digits (connectivity h s.stack s.block e) ∷ []) ++ buy_rows h s (suc i) es

-- the closing report, behind the draft's total
unfoldable pub closing : ℕ → Hypergraph → State → List ℕ
closing draft h s =
    row "TOTAL" (digits draft ∷ digits (metric h s.stack s.block) ∷ [])
    ++ lot_rows h s
    ++ buy_rows h s 1 h.nets
