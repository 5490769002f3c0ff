-- Document 01, "The sale file" and "When the hammer stays up": lines, fields, numbers, and the refusals 1 to 7 and 21 in order. Rests on
-- Sale for the calls and on Measure for the draft's weights. Assumes nothing.
use Rattle.std.specs.Prelude.{ℕ, zero, suc, ◌+◌, ◌-◌, ◌*◌, Bool, true, false, not, ◌&&◌, ◌||◌, cond, List, [], ◌∷◌, ◌++◌, map, eqb, leb, ltb, length, get_or, drop, take}
use Prim.Native.String.{String, [] as end_text, ◌∷◌ as ◌then◌}
use Prim.Native.Char.{code}
use Rattle.laws.specs.Choice.{one}
use Rattle.laws.specs.Fold.{all, any}
use Rattle.laws.specs.Sum.{fold_to}
use Rattle.model.specs.Catalogue.{Limits, Hypergraph, vertices, is_vertex, is_block, capacity, drafted}
use Rattle.model.specs.Measure.{block_weight}
use Rattle.model.specs.Machine.{call_j, call_s, call_m, call_b, call_w, call_p, call_a}
use Rattle.model.specs.Sale.{Request, runs, call_x, call_n}

-- ---- bytes
-- the bytes of a text of ASCII
unfoldable pub bytes : String → List ℕ
bytes end_text = []
bytes (◌then◌ c s) = code c ∷ bytes s

-- two lists of bytes are one
unfoldable pub same : List ℕ → List ℕ → Bool
same [] [] = true
same [] (y ∷ ys) = false
same (x ∷ xs) [] = false
same (x ∷ xs) (y ∷ ys) = eqb x y && same xs ys

-- b before the first of the parts
abbrev pub onto : ℕ → List (List ℕ) → List (List ℕ)
onto b [] = (b ∷ []) ∷ []
onto b (p ∷ ps) = (b ∷ p) ∷ ps

-- the parts between the separators: one more than there are separators
unfoldable pub parts : ℕ → List ℕ → List (List ℕ)
parts sep [] = [] ∷ []
parts sep (b ∷ bs) = cond (eqb b sep) ([] ∷ parts sep bs) (onto b (parts sep bs))

-- ---- a number: 1 to 9 digits without a leading zero
abbrev pub is_digit : ℕ → Bool
is_digit b = leb 48 b && leb b 57

-- a 0 before another digit
abbrev pub leading_zero : List ℕ → Bool
leading_zero f = ltb 1 (length f) && eqb (get_or f 0 0) 48

-- a field is a number
unfoldable pub is_number : List ℕ → Bool
is_number f = leb 1 (length f) && leb (length f) 9 && not (leading_zero f) && all f is_digit

-- the value of digits that stand after others whose value is v
unfoldable pub onward : ℕ → List ℕ → ℕ
onward v [] = v
onward v (b ∷ bs) = onward (v * 10 + (b - 48)) bs

-- the number that a field of digits is
unfoldable pub value : List ℕ → ℕ
value f = onward 0 f

-- ---- a line: a word and then numbers
abbrev pub Fields : Type 0
Fields = List (List ℕ)

-- a line, parted by commas
unfoldable pub fields : List ℕ → Fields
fields line = parts 44 line

-- the number in a field, the first after the word being 1
abbrev pub at : Fields → ℕ → ℕ
at fs i = value (get_or fs i [])

-- the line begins with the word, and numbers follow
unfoldable pub is_line : String → Fields → Bool
is_line word fs = same (get_or fs 0 []) (bytes word) && all (drop 1 fs) is_number

-- the same, and so many of them
abbrev pub is_line_of : String → ℕ → Fields → Bool
is_line_of word n fs = is_line word fs && eqb (length fs) (suc n)

-- ---- reading, line by line
-- what has been read: whether the file is an estimate (M-109), the numbers of lots and buyers that the first line announces, the catalogue so
-- far, its marks, the calls
pub record Book : Type 0 where
  pub estimated : Bool
  pub lots : ℕ
  pub buyers : ℕ
  pub graph : Hypergraph
  pub marks : ℕ
  pub calls : List Request

-- nothing yet; the first line and perhaps more; or refused, with the refusal's number and the line's
pub data Reading : Type 0 where
  unread : Reading
  reading : Book → Reading
  stopped : ℕ → ℕ → Reading

-- a field within its range
abbrev pub within : ℕ → ℕ → ℕ → Bool
within low high x = leb low x && leb x high

-- SALE,lots,buyers,sessions,slack; an estimate starts with EST in place of SALE (M-109)
unfoldable pub sale_line : Limits → ℕ → Fields → Reading
sale_line limits n fs =
    cond (not (is_line_of "SALE" 4 fs || is_line_of "EST" 4 fs)) (stopped 2 n)
    (cond (not (within 1 limits.vertex_limit (at fs 1) && within 0 limits.net_limit (at fs 2) && within 2 limits.block_limit (at fs 3) && within 0 1000 (at fs 4))) (stopped 3 n)
    (reading (record {
      estimated = is_line_of "EST" 4 fs;
      lots = at fs 1;
      buyers = at fs 2;
      graph = record { blocks = at fs 3; imbalance = at fs 4; total_weight = 0; lows = []; weights = []; draft = []; fixed = []; nets = [] };
      marks = 0;
      calls = [];
    })))

-- the whole catalogue is there
abbrev pub whole : Book → Bool
whole k = eqb (vertices k.graph) k.lots && eqb (length k.graph.nets) k.buyers

-- a session of the draft is above its cap
unfoldable pub overfull : Hypergraph → Bool
overfull h = fold_to h.blocks (λ b s. b || ltb (capacity h) (block_weight h [] (drafted h) s)) false

-- after a line of the catalogue: on the last one, 6
unfoldable pub grown : ℕ → Book → Reading
grown n k = cond (whole k && overfull k.graph) (stopped 6 n) (reading k)

-- one lot more, with its least and its most bales, its session and whether it is kept
unfoldable pub with_lot : Hypergraph → ℕ → ℕ → ℕ → Bool → Hypergraph
with_lot h low high b fixed = record {
  blocks = h.blocks;
  imbalance = h.imbalance;
  total_weight = h.total_weight + low;
  lows = h.lows ++ (low ∷ []);
  weights = h.weights ++ (high ∷ []);
  draft = h.draft ++ (b ∷ []);
  fixed = h.fixed ++ (one fixed ∷ []);
  nets = h.nets;
}

-- a LOT line may end in `,K` (M-104)
unfoldable pub ends_in_k : List ℕ → Bool
ends_in_k l = leb 2 (length l) && eqb (get_or l (length l - 2) 0) 44 && eqb (get_or l (length l - 1) 0) 75

-- what stands before that end, or the whole line where there is none
unfoldable pub before_k : List ℕ → List ℕ
before_k l = cond (ends_in_k l) (take (length l - 2) l) l

-- LOT,bales,session, or in an estimate LOT,low,high,session; and whether `,K` stood behind it. A low above its high is 21
unfoldable pub lot_line : ℕ → Book → Bool → Fields → Reading
lot_line n k fixed fs =
    let numbers : ℕ = cond k.estimated 3 2 in
    let low : ℕ = at fs 1 in
    let high : ℕ = at fs (numbers - 1) in
    let session : ℕ = at fs numbers in
    cond (not (is_line_of "LOT" numbers fs)) (stopped 2 n)
    (cond (not (within 1 65535 low && within 1 65535 high)) (stopped 3 n)
    (cond (ltb high low) (stopped 21 n)
    (cond (not (is_block k.graph session)) (stopped 3 n)
    (grown n (record {
      estimated = k.estimated;
      lots = k.lots;
      buyers = k.buyers;
      graph = with_lot k.graph low high session fixed;
      marks = k.marks;
      calls = [];
    })))))

-- the marks of a buyer so far, with how many there are in all; or the first refusal
pub data Marking : Type 0 where
  marked : List ℕ → ℕ → Marking
  wrong : ℕ → Marking

-- one mark: a lot that there is (3), not marked yet (4), and at most so many in all (5)
unfoldable pub mark : Limits → Hypergraph → Marking → ℕ → Marking
mark limits h (wrong q) v = wrong q
mark limits h (marked vs m) v =
    cond (not (is_vertex h v)) (wrong 3)
    (cond (any vs (λ x. eqb x v)) (wrong 4)
    (cond (leb limits.pin_limit m) (wrong 5) (marked (vs ++ (v ∷ [])) (suc m))))

-- the marks of a line, from left to right
unfoldable pub marking : Limits → Hypergraph → Marking → Fields → Marking
marking limits h m [] = m
marking limits h m (f ∷ fs) = marking limits h (mark limits h m (value f)) fs

-- one buyer more
unfoldable pub with_net : Hypergraph → ℕ → List ℕ → Hypergraph
with_net h w vs = record { blocks = h.blocks; imbalance = h.imbalance; total_weight = h.total_weight; lows = h.lows; weights = h.weights; draft = h.draft; fixed = h.fixed; nets = h.nets ++ (record { weight = w; pins = vs } ∷ []) }

-- a buyer with its marks
unfoldable pub net_read : ℕ → Book → ℕ → Marking → Reading
net_read n k w (wrong q) = stopped q n
net_read n k w (marked vs m) = grown n (record {
  estimated = k.estimated;
  lots = k.lots;
  buyers = k.buyers;
  graph = with_net k.graph w vs;
  marks = m;
  calls = [];
})

-- BUY,weight,lot,..
unfoldable pub buy_line : Limits → ℕ → Book → Fields → Reading
buy_line limits n k fs =
    cond (not (is_line "BUY" fs && leb 3 (length fs))) (stopped 2 n)
    (cond (not (within 1 1000 (at fs 1))) (stopped 3 n)
    (net_read n k (at fs 1) (marking limits k.graph (marked [] k.marks) (drop 2 fs))))

-- a call line's call, or none
pub data Asked : Type 0 where
  asks : Request → Asked
  nothing : Asked

-- the numbers of a line
unfoldable pub values : Fields → List ℕ
values fs = map value fs

-- the call lines: J,u,v · S · M,u,t · B · W,u,v · P · A · X,u · N,bales,session,buyer,.. with zero or more buyers
unfoldable pub asked : Fields → Asked
asked fs =
    cond (is_line_of "J" 2 fs) (asks (runs (call_j (at fs 1) (at fs 2))))
    (cond (is_line_of "S" 0 fs) (asks (runs call_s))
    (cond (is_line_of "M" 2 fs) (asks (runs (call_m (at fs 1) (at fs 2))))
    (cond (is_line_of "B" 0 fs) (asks (runs call_b))
    (cond (is_line_of "W" 2 fs) (asks (runs (call_w (at fs 1) (at fs 2))))
    (cond (is_line_of "P" 0 fs) (asks (runs call_p))
    (cond (is_line_of "A" 0 fs) (asks (runs call_a))
    (cond (is_line_of "X" 1 fs) (asks (call_x (at fs 1)))
    (cond (is_line "N" fs && leb 3 (length fs)) (asks (call_n (at fs 1) (at fs 2) (values (drop 3 fs)))) nothing))))))))

-- one call more, or 2
unfoldable pub with_call : ℕ → Book → Asked → Reading
with_call n k nothing = stopped 2 n
with_call n k (asks c) = reading (record { estimated = k.estimated; lots = k.lots; buyers = k.buyers; graph = k.graph; marks = k.marks; calls = k.calls ++ (c ∷ []) })

-- 512 calls are there
abbrev pub full : Book → Bool
full k = whole k && leb 512 (length k.calls)

-- a call line: 7 before its form
unfoldable pub call_line : ℕ → Book → Fields → Reading
call_line n k fs = cond (full k) (stopped 7 n) (with_call n k (asked fs))

-- the n-th line, which ends in a line feed
unfoldable pub line : Limits → ℕ → Reading → List ℕ → Reading
line limits n (stopped q m) l = stopped q m
line limits n unread l = sale_line limits n (fields l)
line limits n (reading k) l =
    cond (ltb (vertices k.graph) k.lots) (lot_line n k (ends_in_k l) (fields (before_k l)))
    (cond (ltb (length k.graph.nets) k.buyers) (buy_line limits n k (fields l))
    (call_line n k (fields l)))

-- what stands behind the last line feed: nothing, and no line is missing; or a line that lacks its line feed
unfoldable pub ending : ℕ → Reading → List ℕ → Reading
ending n (stopped q m) l = stopped q m
ending n unread l = stopped 2 n
ending n (reading k) [] = cond (whole k) (reading k) (stopped 2 n)
ending n (reading k) (b ∷ bs) = cond (full k) (stopped 7 n) (stopped 2 n)

-- the lines from the n-th on; the last part stands behind the last line feed
unfoldable pub lines : Limits → ℕ → Reading → List (List ℕ) → Reading
lines limits n r [] = r
lines limits n r (l ∷ []) = ending n r l
lines limits n r (l ∷ (m ∷ ls)) = lines limits (suc n) (line limits n r l) (m ∷ ls)

-- what a sale file says: 1 on line 0, or its lines
unfoldable pub parse : Limits → List ℕ → Reading
parse limits file = cond (ltb 60000 (length file)) (stopped 1 0) (lines limits 1 unread (parts 10 file))

-- ---- calls as three numbers each, and operands
-- the letters of calls, as bytes
abbrev pub letter_j : ℕ
letter_j = 74

abbrev pub letter_s : ℕ
letter_s = 83

abbrev pub letter_m : ℕ
letter_m = 77

abbrev pub letter_b : ℕ
letter_b = 66

abbrev pub letter_w : ℕ
letter_w = 87

abbrev pub letter_p : ℕ
letter_p = 80

abbrev pub letter_a : ℕ
letter_a = 65

abbrev pub letter_x : ℕ
letter_x = 88

abbrev pub letter_n : ℕ
letter_n = 78

-- N's numbers: a stretch of the operands, its first place and how many
abbrev pub stretch_of : List ℕ → ℕ → ℕ → List ℕ
stretch_of operands first count = take count (drop first operands)

-- N by its stretch: bales, session, buyers
unfoldable pub late_of : List ℕ → Asked
late_of [] = nothing
late_of (bales ∷ []) = nothing
late_of (bales ∷ (session ∷ buyers)) = asks (call_n bales session buyers)

-- a call by its letter's byte and its two numbers, as tables hold it, with the operands; numbers that a call has no use for are not read
unfoldable pub call_of : List ℕ → ℕ → ℕ → ℕ → Asked
call_of operands letter x y =
    cond (eqb letter letter_j) (asks (runs (call_j x y)))
    (cond (eqb letter letter_s) (asks (runs call_s))
    (cond (eqb letter letter_m) (asks (runs (call_m x y)))
    (cond (eqb letter letter_b) (asks (runs call_b))
    (cond (eqb letter letter_w) (asks (runs (call_w x y)))
    (cond (eqb letter letter_p) (asks (runs call_p))
    (cond (eqb letter letter_a) (asks (runs call_a))
    (cond (eqb letter letter_x) (asks (call_x x))
    (cond (eqb letter letter_n) (late_of (stretch_of operands x y)) nothing))))))))
