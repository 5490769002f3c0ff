-- A lot line as the code reads it: its form, its numbers, and the first refusal of those. Rests on Line of specs.
use Prim.Native.Nat.{ℕ, ◌+◌, ◌-◌, ◌≤◌}
use mathlib.Core.Path.{◌≡◌, refl, ap, sym, ◌∙◌}
use mathlib.Core.Bool.{Bool, true, false, not, ◌&&◌, cond}
use mathlib.Core.List.{List, [], ◌∷◌}
use native.Mathlib.Omega.{arith}
use lib.Dec.{eqb, leb, ltb}
use lib.ListN.{get_or, drop}
use lib.Seq.{slice}
use Rattle.std.proofs.Math.Decide.{ℕ_discrete}
use borrow.Author.Tests.{eq-eqb, ne_eqb, leb-true}
use Rattle.laws.specs.Choice.{and_right}
use Rattle.model.specs.Catalogue.{is_block}
use Rattle.model.specs.Grammar.{Fields, Book, Reading, stopped, at as field_at, fields, is_line_of, within, ends_in_k, before_k, grown, with_lot, lot_line}
use Rattle.text.specs.Field.{form_of, Kept}
use Rattle.text.proofs.Lines.{kept_at, line-yes, line-no}
use Rattle.lines.specs.Line.{book, FieldsEnd, numbers_of, bales_refusal, session_refusal, first_of, LotRead}
use Rattle.std.specs.Prelude.{Result, Ok, Err}
use Rattle.std.specs.Result.{result_and}
use Rattle.refusal.specs.declared.Refusal.{Refusal}
use Rattle.refusal.specs.declared.Refusal.TheVariants.{BadlyWritten}
use Rattle.refusal.specs.Number.{number_of, refused_as}
use Rattle.refusal.proofs.Numbers.{never-none}
use Rattle.lines.proofs.Asks.{word-LOT}

-- ---- the refusal of a lot's bales
module _ (low high : ℕ) where
  pub bales-low : within 1 65535 low ≡ false → ◌≡◌ {A = ℕ} 3 (bales_refusal low high)
  bales-low e = go (within 1 65535 low) (within 1 65535 high) (ltb high low) e
    where
      go : (x y z : Bool) → x ≡ false → ◌≡◌ {A = ℕ} 3 (cond (not (x && y)) 3 (cond z 21 0))
      go x y z e = rw e

  module _ (l : within 1 65535 low ≡ true) where
    pub bales-high : within 1 65535 high ≡ false → ◌≡◌ {A = ℕ} 3 (bales_refusal low high)
    bales-high e = go (within 1 65535 low) (within 1 65535 high) (ltb high low) l e
      where
        go : (x y z : Bool) → x ≡ true → y ≡ false → ◌≡◌ {A = ℕ} 3 (cond (not (x && y)) 3 (cond z 21 0))
        go x y z d e = rw (d, e)

    module _ (h : within 1 65535 high ≡ true) where
      pub bales-right : (crossed : Bool) → ltb high low ≡ crossed → ◌≡◌ {A = ℕ} (cond crossed 21 0) (bales_refusal low high)
      bales-right crossed e = go (within 1 65535 low) (within 1 65535 high) (ltb high low) l h e
        where
          go : (x y z : Bool) → x ≡ true → y ≡ true → z ≡ crossed → ◌≡◌ {A = ℕ} (cond crossed 21 0) (cond (not (x && y)) 3 (cond z 21 0))
          go x y z c d e = rw (c, d, e)

-- ---- the tests of a lot line in their order: form, ranges of low and high, low above high, session
abbrev tried : Bool → Bool → Bool → Bool → ℕ → Reading → Reading
tried form ranges crossed session n r = cond (not form) (stopped 2 n) (cond (not ranges) (stopped 3 n) (cond crossed (stopped 21 n) (cond (not session) (stopped 3 n) r)))

-- the first refusal of a lot's numbers, behind the form
abbrev refused : Bool → Bool → Bool → ℕ
refused ranges crossed session = first_of (cond (not ranges) 3 (cond crossed 21 0)) (cond session 0 3)

tried-first : (ranges crossed session : Bool) (n : ℕ) (r : Reading) → tried true ranges crossed session n r ≡ cond (eqb (refused ranges crossed session) 0) r (stopped (refused ranges crossed session) n)
tried-first false crossed session n r = refl
tried-first true true session n r = refl
tried-first true false false n r = refl
tried-first true false true n r = refl

-- the lot is taken
abbrev taken : ℕ → Book → Bool → ℕ → ℕ → ℕ → Reading
taken n k fixed low high b = grown n (book k.estimated k.lots k.buyers (with_lot k.graph low high b fixed) k.marks [])

module _ (n : ℕ) (k : Book) (fixed : Bool) (fs : Fields) (estimated : Bool) (kind : k.estimated ≡ estimated) where
  abbrev many : ℕ
  many = numbers_of estimated

  line-is : (form : Bool) → is_line_of "LOT" many fs ≡ form → lot_line n k fixed fs
      ≡ tried form (within 1 65535 (field_at fs 1) && within 1 65535 (field_at fs (many - 1))) (ltb (field_at fs (many - 1)) (field_at fs 1)) (is_block k.graph (field_at fs many)) n (taken n k fixed (field_at fs 1) (field_at fs (many - 1)) (field_at fs many))
  unfolding lot_line
  line-is form p = rw (← p, ← kind)

  line-says : (low high b m q : ℕ) → is_line_of "LOT" many fs ≡ true → low ≡ field_at fs 1 → high ≡ field_at fs (many - 1) → b ≡ field_at fs many → k.graph.blocks ≡ m → q ≡ first_of (bales_refusal low high) (session_refusal b m)
      → lot_line n k fixed fs ≡ cond (eqb q 0) (taken n k fixed low high b) (stopped q n)
  line-says low high b m q is el eh eb em eq = line-is true is ∙ rw (eq, el, eh, eb, ← em)
      (tried-first (within 1 65535 (field_at fs 1) && within 1 65535 (field_at fs (many - 1))) (ltb (field_at fs (many - 1)) (field_at fs 1)) (is_block k.graph (field_at fs many)) n (taken n k fixed (field_at fs 1) (field_at fs (many - 1)) (field_at fs many)))

-- the session of a lot that is not refused
pub lot-block : (b blocks : ℕ) → ◌≡◌ {A = ℕ} 0 (session_refusal b blocks) → b ≤ blocks
lot-block b blocks e = leb-true b blocks (and_right (leb 1 b) _ (go (within 1 blocks b) e))
  where
    go : (t : Bool) → ◌≡◌ {A = ℕ} 0 (cond t 0 3) → t ≡ true
    go true z = refl
    go false z = absurd (omega arith)

-- the refusal of the first check, and of the second behind a first that passes
pub first-refused : (one other : ℕ) (r : Refusal) → one ≡ number_of r → first_of one other ≡ number_of r
first-refused one other r e = ap (λ (t : Bool). cond t other one) (ne_eqb one 0 (λ z. never-none r (sym e ∙ z))) ∙ e

pub second-refused : (one other : ℕ) → one ≡ 0 → first_of one other ≡ other
second-refused one other e = ap (λ (t : Bool). cond t other one) (eq-eqb one 0 e)

pub both-pass : (one other : ℕ) → ◌≡◌ {A = ℕ} 0 (first_of one other) → ◌≡◌ {A = ℕ} 0 other
both-pass one other z = go (ℕ_discrete one 0)
  where
    go : Dec (one ≡ 0) → ◌≡◌ {A = ℕ} 0 other
    go (yes e) = z ∙ second-refused one other e
    go (no n) = absurd (n (sym (z ∙ ap (λ (t : Bool). cond t other one) (ne_eqb one 0 n))))

-- two checks, of which the first that refuses is told
pub checks-in-turn : {A : Type 0} (one other : Result A Refusal) {r : Result A Refusal} → r ≡ result_and one other → refused_as r ≡ first_of (refused_as one) (refused_as other)
checks-in-turn (Ok a) other e = ap refused_as e ∙ sym (second-refused 0 (refused_as other) refl)
checks-in-turn (Err q) other e = ap refused_as e ∙ sym (first-refused (number_of q) (refused_as other) q refl)

-- ---- where the fields end at `last`, and the form is told
pub numbers-low : (estimated : Bool) → 2 ≤ numbers_of estimated
numbers-low true = omega arith
numbers-low false = omega arith

pub numbers-high : (estimated : Bool) → numbers_of estimated ≤ 3
numbers-high true = omega arith
numbers-high false = omega arith

module _ (s : List ℕ) (at end last numbers form blocks : ℕ) (estimated : Bool) (ends : FieldsEnd s at end last) (many : numbers ≡ numbers_of estimated) (told : form ≡ form_of (76 ∷ 79 ∷ 84 ∷ []) (fields (slice at last s))) where
  abbrev fs : Fields
  fs = fields (slice at last s)

  by_end : (n : ℕ) (k : Book) (r : Reading) → r ≡ lot_line n k (ltb last end) fs → r ≡ lot_line n k (ends_in_k (slice at end s)) (fields (before_k (slice at end s)))
  by_end n k r e = e ∙ ap (λ (t : Bool). lot_line n k t fs) ends.fixed ∙ ap (λ (l : List ℕ). lot_line n k (ends_in_k (slice at end s)) (fields l)) ends.before

  pub lot-form : (form ≡ numbers + 1 → ⊥) → LotRead blocks estimated (slice at end s) (Err BadlyWritten)
  lot-form other n k kind eb = by_end n k _ (sym (line-is n k (ltb last end) fs estimated kind false (line-no "LOT" (76 ∷ 79 ∷ 84 ∷ []) (numbers_of estimated) form (slice at last s) word-LOT told (λ e. other (omega arith)))))

  module _ (right : form ≡ numbers + 1) where
    module _ (values : List ℕ) (kept : Kept (drop 1 fs) form values) where
      value : (i j : ℕ) → i ≡ j + 1 → i ≤ numbers → get_or values j 0 ≡ field_at fs i
      value i j e u =
          let z : j ≡ i - 1 = omega arith in
          ap (λ (m : ℕ). get_or values m 0) z ∙ kept_at fs form values kept i (omega arith) (omega arith) (omega (arith, numbers-high estimated))

      abbrev low : ℕ
      low = get_or values 0 0

      abbrev high : ℕ
      high = get_or values (numbers - 2) 0

      abbrev block : ℕ
      block = get_or values (numbers - 1) 0

      abbrev refusal : ℕ
      refusal = first_of (bales_refusal low high) (session_refusal block blocks)

      says : (n : ℕ) (k : Book) → k.estimated ≡ estimated → k.graph.blocks ≡ blocks → lot_line n k (ltb last end) fs ≡ cond (eqb refusal 0) (taken n k (ltb last end) low high block) (stopped refusal n)
      says n k kind em =
          let two = numbers-low estimated in
          line-says n k (ltb last end) fs estimated kind low high block blocks refusal (line-yes "LOT" (76 ∷ 79 ∷ 84 ∷ []) (numbers_of estimated) form (slice at last s) word-LOT told (omega arith))
          (value 1 0 (omega arith) (omega arith))
          (value (numbers - 1) (numbers - 2) (omega arith) (omega arith) ∙ ap (λ (m : ℕ). field_at fs (m - 1)) many)
          (value numbers (numbers - 1) (omega arith) (omega arith) ∙ ap (field_at fs) many)
          em refl

      pub lot-refused : (r : Refusal) → refusal ≡ number_of r → LotRead blocks estimated (slice at end s) (Err r)
      lot-refused r x n k kind em =
          by_end n k _ (ap (λ (y : ℕ). stopped y n) (sym x) ∙ sym (says n k kind em ∙ ap (λ (t : Bool). cond t (taken n k (ltb last end) low high block) (stopped refusal n)) (ne_eqb refusal 0 (λ z. never-none r (sym x ∙ z)))))

      pub lot-read : refusal ≡ 0 → LotRead blocks estimated (slice at end s) (Ok (record { low = low; high = high; block = block; fixed = ltb last end }))
      lot-read x n k kind em = by_end n k _ (sym (says n k kind em ∙ ap (λ (t : Bool). cond t (taken n k (ltb last end) low high block) (stopped refusal n)) (eq-eqb refusal 0 x)))
