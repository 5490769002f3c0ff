-- One line of each kind, written and read: SALE begins a book (sale-line), LOT and BUY add to it what was written (lot-line, buy-line);
-- a LOT line is a sale's, and is written without `,K`.
-- Rests on Rows, Numbers and Marks. Assumes nothing.
use Rattle.std.specs.Prelude.{ℕ, suc, ◌+◌, ◌≤◌, ◌<◌, ◌≡◌, refl, Bool, true, false, not, cond, ◌||◌, List, [], ◌∷◌, length}
use Prim.Native.String.{String}
use Rattle.std.proofs.Common.{arith, ap, lt-ltb, le-ltb, le-leb}
use Rattle.laws.specs.Fold.{All, all_map}
use Rattle.laws.specs.Occurrence.{Distinct}
use Rattle.model.specs.Catalogue.{Limits, Net, vertices}
use Rattle.model.specs.Grammar.{bytes, same, fields, is_line, is_line_of, Book, unread, reading, sale_line, grown, lot_line, net_read, buy_line, line}
use Rattle.guarantees.specs.Numbers.{value-digits}
use Rattle.guarantees.specs.Reading.{blank, lotted, netted}
use Rattle.guarantees.specs.Clumps.{Within}
use Rattle.model.specs.CatalogueText.{numbers}
use Rattle.written.specs.Rows.{Above, joined, fields-joined}
use Rattle.written.specs.Numbers.{Short, both, inside, numbers-above, is-line, plain-line, plain-before}
use Rattle.written.specs.Marks.{marks-read}

fields-numbers : (word : String) (ns : List ℕ) → Above 44 (bytes word) → fields (joined (bytes word) (numbers ns)) ≡ bytes word ∷ numbers ns
fields-numbers word ns a = fields-joined (bytes word) (numbers ns) a (numbers-above ns)

-- the three words
pub words : Above 44 (bytes "SALE") × Above 44 (bytes "LOT") × Above 44 (bytes "BUY")
unfolding bytes
words = omega arith

-- a line's form and its ranges both pass
passed : {A : Type 0} {a b : Bool} (x y z : A) → a ≡ true → b ≡ true → cond (not a) x (cond (not b) y z) ≡ z
passed x y z p q = rw (p, q)

-- the tests of a lot line pass
lot-passed : {A : Type 0} {a b c d : Bool} (x y z u v : A) → a ≡ true → b ≡ true → c ≡ false → d ≡ true → cond (not a) x (cond (not b) y (cond c z (cond (not d) u v))) ≡ v
lot-passed x y z u v p q r s = rw (p, q, r, s)

no-estimate : (ns : List ℕ) → is_line_of "EST" 4 (bytes "SALE" ∷ numbers ns) ≡ false
unfolding is_line same bytes
no-estimate ns = refl

pub sale-line : (limits : Limits) (n l b k s : ℕ) → Short limits.vertex_limit → Short limits.block_limit → 1 ≤ l → l ≤ limits.vertex_limit → b ≤ 1024 → b ≤ limits.net_limit → 2 ≤ k → k ≤ limits.block_limit → s ≤ 1000
    → line limits n unread (joined (bytes "SALE") (numbers (l ∷ b ∷ k ∷ s ∷ []))) ≡ reading (blank false l b k s)
unfolding line sale_line
sale-line limits n l b k s small narrow ll lu bs bu kl ku su =
    rw (fields-numbers "SALE" (l ∷ b ∷ k ∷ s ∷ []) words.0, value-digits l, value-digits b, value-digits k, value-digits s, no-estimate (l ∷ b ∷ k ∷ s ∷ []))
    (passed _ _ _ (ap (λ (t : Bool). t || false) (both (is-line "SALE" (l ∷ b ∷ k ∷ s ∷ []) (omega arith)) refl))
    (both (both (both (inside 1 limits.vertex_limit l ll lu) (inside 0 limits.net_limit b (omega arith) bu)) (inside 2 limits.block_limit k kl ku)) (inside 0 1000 s (omega arith) su)))

pub lot-line : (limits : Limits) (n : ℕ) (k : Book) (w b : ℕ) → k.estimated ≡ false → Short k.graph.blocks → vertices k.graph < k.lots → 1 ≤ w → w ≤ 65535 → 1 ≤ b → b ≤ k.graph.blocks
    → line limits n (reading k) (joined (bytes "LOT") (numbers (w ∷ b ∷ []))) ≡ grown n (lotted k w w b false)
unfolding line lot_line
lot-line limits n k w b sale narrow more wl wu bl bu =
    rw (sale, lt-ltb (vertices k.graph) k.lots more, plain-line (bytes "LOT") w (b ∷ []), plain-before (bytes "LOT") w (b ∷ []), fields-numbers "LOT" (w ∷ b ∷ []) words.1, value-digits w, value-digits b)
    (lot-passed _ _ _ _ _ (both (is-line "LOT" (w ∷ b ∷ []) (omega arith)) refl) (both (inside 1 65535 w wl wu) (inside 1 65535 w wl wu)) (le-ltb w w (omega arith)) (inside 1 k.graph.blocks b bl bu))

-- ---- a buyer whose marks are all lots that there are, none twice
pub record Buyer (n : ℕ) (e : Net) : Type 0 where
  pub weight-low : 1 ≤ e.weight
  pub weight-high : e.weight ≤ 1000
  pub some : 1 ≤ length e.pins
  pub in-range : Within n e
  pub distinct : Distinct e.pins 0 (length e.pins)

size : (ns : List ℕ) → length (numbers ns) ≡ length ns
size [] = refl
size (n ∷ ns) = ap suc (size ns)

pub buy-line : (limits : Limits) (n : ℕ) (k : Book) (e : Net) → Short (vertices k.graph) → k.lots ≤ vertices k.graph → length k.graph.nets < k.buyers → Buyer (vertices k.graph) e → k.marks + length e.pins ≤ limits.pin_limit
    → line limits n (reading k) (joined (bytes "BUY") (numbers (e.weight ∷ e.pins))) ≡ grown n (netted k e.weight e.pins (k.marks + length e.pins))
unfolding line buy_line net_read
buy-line limits n k e small none more good few =
    let short : All (e.weight ∷ e.pins) Short = (omega (arith, good.weight-high), all_map e.pins _ _ (λ v r. omega (arith, r.1)) good.in-range) in
    rw (
      le-ltb (vertices k.graph) k.lots none,
      lt-ltb (length k.graph.nets) k.buyers more,
      fields-numbers "BUY" (e.weight ∷ e.pins) words.2,
      value-digits e.weight,
      marks-read limits k.graph [] e.pins k.marks good.distinct good.in-range few,
    )
    (passed _ _ _
    (both (is-line "BUY" (e.weight ∷ e.pins) short) (le-leb 3 (suc (suc (length (numbers e.pins)))) (omega (arith, size e.pins, good.some))))
    (inside 1 1000 e.weight good.weight-low good.weight-high))
