-- A buyer's line: its form, its weight, its marks. Rests on Fields.
use Prim.Native.Nat.{ℕ, suc, ◌+◌, ◌≤◌, ◌<◌}
use mathlib.Core.Path.{◌≡◌, refl, ap, sym, ◌∙◌}
use mathlib.Core.List.{List, [], ◌∷◌}
use mathlib.Core.Bool.{Bool, true, false, not, ◌&&◌, cond, and-false}
use native.Mathlib.Omega.{arith}
use lib.ListN.{length, drop}
use lib.Seq.{slice}
use lib.Dec.{leb}
use borrow.Author.Tests.{le-leb, lt-leb}
use Rattle.laws.specs.Fold.{all}
use Rattle.model.specs.Catalogue.{Limits, vertices}
use Rattle.model.specs.Grammar.{Fields, bytes, same, parts, fields, at, is_line, is_number, within, Book, stopped, marked, wrong, marking, net_read, buy_line}
use Rattle.text.specs.Field.{FirstAt, NumberRead, NumberSeen}
use Rattle.lines.specs.Mark.{refusal_of, tested, MarksRead, marks_seen, is_buy, WeightRead, WeightSeen, BuyRead}
use Rattle.std.specs.Prelude.{None, Result, Ok, Err}
use Rattle.refusal.specs.declared.Refusal.{Refusal}
use Rattle.refusal.specs.declared.Refusal.TheVariants.{BadlyWritten}
use Rattle.refusal.specs.Number.{number_of}
use Rattle.lines.specs.declared.Buyer.{Buyer}
use Rattle.text.proofs.Walk.{parts-some}
use Rattle.text.proofs.Lines.{parts-on, parts_last, parts_first, field_end, field_found}
use Rattle.lines.proofs.Fields.{all_yes, all-no}

-- ---- the form
-- the word's test and the numbers' tests
buy-of : (f : List ℕ) (fs : Fields) (a b : Bool) → same f (bytes "BUY") ≡ a → all fs is_number ≡ b → is_buy (f ∷ fs) ≡ (a && b && leb 3 (suc (length fs)))
unfolding is_line
buy-of f fs a b p q = rw (← p, ← q)

other_word : (f : List ℕ) (fs : Fields) → same f (bytes "BUY") ≡ false → is_buy (f ∷ fs) ≡ false
other_word f fs e = buy-of f fs false _ e refl

too_short : (f : List ℕ) (fs : Fields) → length fs < 2 → is_buy (f ∷ fs) ≡ false
too_short f fs h = ap (λ (t : Bool). is_line "BUY" (f ∷ fs) && t) (lt-leb 3 (suc (length fs)) (omega arith)) ∙ and-false (is_line "BUY" (f ∷ fs))

no-weight : (f w : List ℕ) (fs : Fields) → is_number w ≡ false → is_buy (f ∷ w ∷ fs) ≡ false
no-weight f w fs e = buy-of f (w ∷ fs) _ false refl (all-no w fs e) ∙ go (same f (bytes "BUY"))
  where
    go : (t : Bool) → (t && false && leb 3 (suc (suc (length fs)))) ≡ false
    go true = refl
    go false = refl

has-lots : (f w : List ℕ) (fs : Fields) → same f (bytes "BUY") ≡ true → is_number w ≡ true → 1 ≤ length fs → is_buy (f ∷ w ∷ fs) ≡ all fs is_number
has-lots f w fs e n some = buy-of f (w ∷ fs) true (all fs is_number) e (all_yes w fs n) ∙ go (all fs is_number)
  where
    go : (t : Bool) → (t && leb 3 (suc (suc (length fs)))) ≡ t
    go true = le-leb 3 (suc (suc (length fs))) (omega arith)
    go false = refl

some-part : (l : List ℕ) → 1 ≤ length (parts 44 l)
some-part l = go (parts 44 l) (parts-some 44 l)
  where
    go : (ps : Fields) → (ps ≡ [] → ⊥) → 1 ≤ length ps
    go [] n = absurd (n refl)
    go (p ∷ ps) n = omega arith

-- where `find` answered a, and `word` said whether BUY stands there
module _ (s : List ℕ) (at₀ end a : ℕ) (le : at₀ ≤ end) (inside : end ≤ length s) (found : FirstAt s at₀ end 44 a) where
  pub weight-other : same (slice at₀ a s) (bytes "BUY") ≡ false → WeightSeen s at₀ end None
  unfolding fields
  weight-other e = let p = parts_first s at₀ end 44 a le inside found in ap is_buy p.1 ∙ other_word (slice at₀ a s) p.0 e

  pub weight-none : a ≡ end → WeightSeen s at₀ end None
  unfolding fields
  weight-none z = ap is_buy (parts_last s at₀ end 44 a le inside found z) ∙ too_short (slice at₀ a s) [] (omega arith)

  module _ (more : a < end) where
    split : fields (slice at₀ end s) ≡ slice at₀ a s ∷ parts 44 (slice (a + 1) end s)
    unfolding fields
    split = parts-on s at₀ end 44 a le inside found more

    -- where `read_number` answered none
    pub weight-bad : NumberSeen s (a + 1) end None → WeightSeen s at₀ end None
    weight-bad none =
        let f = field_end s (a + 1) end in
        let there = field_found s (a + 1) end (omega arith) inside in
        let p = parts_first s (a + 1) end 44 f (omega arith) inside there in
        ap is_buy (split ∙ ap (λ (ps : Fields). slice at₀ a s ∷ ps) p.1) ∙ no-weight (slice at₀ a s) (slice (a + 1) f s) p.0 (none f there)

    -- where it answered w and e
    module _ (w e : ℕ) (some : a + 1 < e) (read : NumberRead s (a + 1) end w e) where
      pub weight-last : e ≡ end → WeightSeen s at₀ end None
      weight-last z =
          ap is_buy (split ∙ ap (λ (ps : Fields). slice at₀ a s ∷ ps) (parts_last s (a + 1) end 44 e (omega arith) inside (read.ends.ends some) z))
          ∙ too_short (slice at₀ a s) (slice (a + 1) e s ∷ []) (omega arith)

      pub weight-here : same (slice at₀ a s) (bytes "BUY") ≡ true → (e ≡ end → ⊥) → WeightRead s at₀ end w e
      weight-here word n =
          let there = read.ends.ends some in
          let more : e < end = omega (arith, read.ends.high) in
          let on : fields (slice at₀ end s) ≡ slice at₀ a s ∷ slice (a + 1) e s ∷ parts 44 (slice (e + 1) end s) =
          split ∙ ap (λ (ps : Fields). slice at₀ a s ∷ ps) (parts-on s (a + 1) end 44 e (omega arith) inside there more) in
          record {
            more = more;
            form = ap is_buy on ∙ has-lots (slice at₀ a s) (slice (a + 1) e s) (parts 44 (slice (e + 1) end s)) word (read.ends.is some) (some-part (slice (e + 1) end s));
            is = read.is some ∙ sym (ap (λ (ps : Fields). at ps 1) on);
            rest = sym (ap (drop 2) on);
          }

-- ---- the line
module _ (limits : Limits) (n : ℕ) (k : Book) (fs : Fields) where
  buy-is : (a b : Bool) → is_buy fs ≡ a → within 1 1000 (at fs 1) ≡ b
      → buy_line limits n k fs ≡ cond (not a) (stopped 2 n) (cond (not b) (stopped 3 n) (net_read n k (at fs 1) (marking limits k.graph (marked [] k.marks) (drop 2 fs))))
  unfolding buy_line
  buy-is a b p q = rw (← p, ← q)

module _ (s : List ℕ) (at₀ end lots most j first : ℕ) (marks stamps : List ℕ) (slen : length stamps ≡ 1024) where
  abbrev fs : Fields
  fs = fields (slice at₀ end s)

  none : (q : Refusal) → ((limits : Limits) (n : ℕ) (k : Book) → stopped (number_of q) n ≡ buy_line limits n k fs) → BuyRead fs lots most j first (Err q) marks marks stamps
  none q f = record {
    keep = refl;
    past = λ a e. absurd (let z : ◌≡◌ {A = ℕ} 0 1 = cc in omega arith);
    len = refl;
    slen = slen;
    says = λ limits n k is e z. f limits n k;
    next = λ a e. absurd (let z : ◌≡◌ {A = ℕ} 0 1 = cc in omega arith);
  }

  -- where `read_weight` answered none
  pub buy-bad : WeightSeen s at₀ end None → BuyRead fs lots most j first (Err BadlyWritten) marks marks stamps
  buy-bad z = none BadlyWritten (λ limits n k. sym (buy-is limits n k fs false _ z refl))

  -- where it answered w and e
  module _ (w e : ℕ) (read : WeightRead s at₀ end w e) where
    abbrev ps : Fields
    ps = parts 44 (slice (e + 1) end s)

    range-is : (t : Bool) → within 1 1000 w ≡ t → within 1 1000 (at fs 1) ≡ t
    range-is t u = ap (within 1 1000) (sym read.is) ∙ u

    pub buy-range : within 1 1000 w ≡ false → (q : Refusal) → number_of q ≡ refusal_of 3 ps → BuyRead fs lots most j first (Err q) marks marks stamps
    buy-range u q is = none q (λ limits n k.
        ap (λ (x : ℕ). stopped x n) is ∙ sym (buy-is limits n k fs (all ps is_number) false read.form (range-is false u) ∙ go n (all ps is_number)))
      where
        go : (n : ℕ) (t : Bool) → cond (not t) (stopped 2 n) (stopped 3 n) ≡ stopped (cond t 3 2) n
        go n true = refl
        go n false = refl

    module _ (in-range : within 1 1000 w ≡ true) (m : Result ℕ Refusal) (marks' stamps' : List ℕ) (pins : MarksRead ps lots most j first m marks marks' stamps') where
      says : (limits : Limits) (n : ℕ) (k : Book) → limits.pin_limit ≡ most → vertices k.graph ≡ lots → k.marks ≡ first → net_read n k w (marks_seen first m marks') ≡ buy_line limits n k fs
      unfolding tested net_read
      says limits n k is c z =
          ap (net_read n k w) (pins.says limits k.graph is c ∙ ap (λ (f : ℕ). tested limits k.graph (marked [] f) ps) (sym z))
          ∙ go (all ps is_number)
          ∙ ap (λ (v : ℕ). cond (not (all ps is_number)) (stopped 2 n) (net_read n k v (marking limits k.graph (marked [] k.marks) ps))) read.is
          ∙ ap (λ (gs : Fields). cond (not (all ps is_number)) (stopped 2 n) (net_read n k (at fs 1) (marking limits k.graph (marked [] k.marks) gs))) read.rest
          ∙ sym (buy-is limits n k fs (all ps is_number) true read.form (range-is true in-range))
        where
          go : (t : Bool) → net_read n k w (cond t (marking limits k.graph (marked [] k.marks) ps) (wrong 2)) ≡ cond (not t) (stopped 2 n) (net_read n k w (marking limits k.graph (marked [] k.marks) ps))
          go true = refl
          go false = refl

      pub buy-read : (f : ℕ) → m ≡ Ok f → BuyRead fs lots most j first (Ok (record { weight = w; pins = f })) marks marks' stamps'
      buy-read f q = record {
        keep = pins.keep;
        past = λ a z. let u : f ≡ a.pins = ap pins_of z in rw (← u) (pins.past f q);
        len = pins.len;
        slen = pins.slen;
        says = λ limits n k is c z. ap (λ (y : Result ℕ Refusal). net_read n k w (marks_seen first y marks')) (sym q) ∙ says limits n k is c z;
        next = λ a z. let u : f ≡ a.pins = ap pins_of z in rw (← u) (pins.next f q);
      }
        where
          pins_of : Result Buyer Refusal → ℕ
          pins_of (Ok a) = a.pins
          pins_of (Err e) = 0

      pub buy-wrong : (f : Refusal) → m ≡ Err f → BuyRead fs lots most j first (Err f) marks marks' stamps'
      unfolding net_read
      buy-wrong f q = record {
        keep = pins.keep;
        past = λ a z. absurd (let u : ◌≡◌ {A = ℕ} 0 1 = cc in omega arith);
        len = pins.len;
        slen = pins.slen;
        says = λ limits n k is c z. ap (λ (y : Result ℕ Refusal). net_read n k w (marks_seen first y marks')) (sym q) ∙ says limits n k is c z;
        next = λ a z. absurd (let u : ◌≡◌ {A = ℕ} 0 1 = cc in omega arith);
      }
