-- A verdict on a well-written input, its text, and the converter's answer. Rests on Checks and on conversion's Loads.
use Prim.Native.Nat.{ℕ, suc, ◌+◌, ◌≤◌, ◌<◌}
use native.Mathlib.Nat.{zero-add}
use native.Mathlib.Omega.{arith}
use mathlib.Core.Path.{◌≡◌, refl, ap, ap₂, sym, ◌∙◌, subst}
use mathlib.Core.Bool.{Bool, true, false, not, ◌&&◌, cond, and-false}
use mathlib.Core.List.{List, [], ◌∷◌, ◌++◌, map, append-nil}
use borrow.Author.Tests.{eq-eqb, ne_eqb, le-leb, lt-leb, le-ltb, lt-ltb, leb-true, not-false}
use lib.Dec.{leb, ltb}
use lib.ListN.{length, take, drop, length-append, length-map, length-take}
use lib.Seq.{take_all}
use Rattle.laws.specs.Choice.{cond-zero, and_right}
use Rattle.laws.specs.Fold.{sum_over}
use Rattle.model.specs.Catalogue.{Hypergraph, vertices}
use Rattle.model.specs.Grammar.{bytes, overfull}
use Rattle.model.specs.Report.{digits, tail, row}
use Rattle.model.specs.Memory.{Written}
use Rattle.guarantees.specs.Numbers.{digits_le}
use Rattle.text.specs.Output.{written}
use Rattle.model.specs.CatalogueText.{numbers, lot_text, buy_text, catalogue_text}
use Rattle.fields.specs.Wrote.{Wrote, Remains}
use Rattle.fields.proofs.Laws.{remains-all, remains-more, remains-none, remains-room}
use Rattle.reader.specs.Seen.{lots_graph}
use Rattle.reader.specs.Buyers.{with_nets}
use Rattle.reader.specs.Whole.{overfull_is}
use Rattle.model.specs.Hmetis.{Edge, edges_weighted, Hmetis, well_written, said}
use Rattle.model.specs.Convert.{carried, listed, net_of, catalogue_of, fits, refusal, converted, Answered, Converts}
use Rattle.conversion.specs.Well.{vertices-are}
use Rattle.conversion.specs.Loads.{loads-as}
use Rattle.passes.specs.Read.{edges_at}
use Rattle.hgr.specs.Number.{number_of, code_of}
use Rattle.hgr.specs.declared.Refusal.{Refusal}
use Rattle.hgr.specs.declared.Refusal.TheVariants.{OutputTooShort, BadlyWritten, NotCarried, BadListing}
use Rattle.hgr.specs.Form.{Sound}
use Rattle.hgr.specs.Check.{Seen, Within, verdict, Tabled, sale_row}
use Rattle.hgr.specs.declared.Plan.{Plan}
use Rattle.hgr.proofs.Checks.{blocks-said, vertices-said, edges-long, edges-said, carried-within}

-- ---- the verdict
verdict-is : (s : List ℕ) (a b c : Bool) → carried (said s) ≡ a → listed (said s) ≡ b → fits (catalogue_of (said s)) ≡ c → verdict s ≡ cond (not a) 18 (cond (not b) 19 (cond (not c) 18 0))
unfolding verdict
verdict-is s a b c p q r = rw (← p, ← q, ← r)

fits-is : (h : Hypergraph) (a b : Bool) → overfull h ≡ a → leb (length (catalogue_text h)) 60000 ≡ b → fits h ≡ (not a && b)
unfolding fits
fits-is h a b p q = rw (← p, ← q)

pub sale-size : (a b c d : ℕ) → length (row "SALE" (numbers (a ∷ b ∷ c ∷ d ∷ []))) ≡ 9 + length (digits a) + length (digits b) + length (digits c) + length (digits d)
unfolding row bytes tail
sale-size a b c d = omega (
  arith,
  length-append (digits a) (44 ∷ (digits b ++ (44 ∷ (digits c ++ (44 ∷ (digits d ++ (10 ∷ []))))))),
  length-append (digits b) (44 ∷ (digits c ++ (44 ∷ (digits d ++ (10 ∷ []))))),
  length-append (digits c) (44 ∷ (digits d ++ (10 ∷ []))),
  length-append (digits d) (10 ∷ []),
)

module _ (s : List ℕ) (p : Plan) (sound : Sound s p) where
  abbrev f : Hmetis
  f = said s

  -- the catalogue's text by the plan
  sale-is : row "SALE" (numbers (vertices (catalogue_of f) ∷ length (catalogue_of f).nets ∷ (catalogue_of f).blocks ∷ (catalogue_of f).imbalance ∷ [])) ≡ sale_row p
  unfolding catalogue_of said
  sale-is =
      let v = vertices-are s sound.well ∙ sym sound.vertices-is in
      let e = length-map f.edges net_of ∙ edges-long s p sound in
      ap₂ (λ (x y : ℕ). row "SALE" (numbers (x ∷ y ∷ f.blocks ∷ f.imbalance ∷ []))) v e
      ∙ ap₂ (λ (x y : ℕ). row "SALE" (numbers (p.vertices ∷ p.edges ∷ x ∷ y ∷ []))) (sym sound.blocks_is) (sym sound.imbalance-is)

  module _ (w d : List ℕ) (weights-are : take p.vertices w ≡ f.weights) (draft-is : take p.vertices d ≡ map suc f.listing) where
    abbrev lots : List ℕ
    lots = lot_text (take p.vertices w) (take p.vertices d)

    abbrev nets : List ℕ
    nets = buy_text (map net_of f.edges)

    pub text-is : catalogue_text (catalogue_of f) ≡ sale_row p ++ (lots ++ nets)
    unfolding catalogue_text catalogue_of
    text-is = ap₂ (λ (x y : List ℕ). x ++ (y ++ nets)) sale-is (ap₂ lot_text (sym weights-are) (sym draft-is))

    pub text-length : length (catalogue_text (catalogue_of f)) ≡ length (sale_row p) + length lots + length nets
    text-length = omega (arith, ap length text-is, length-append (sale_row p) (lots ++ nets), length-append lots nets)

    -- no vertex is fixed
    abbrev fixed : List ℕ
    fixed = map (λ b. 0) f.listing

    fixed-is : take p.vertices fixed ≡ fixed
    fixed-is = take_all p.vertices fixed (omega (arith, length-map {B = ℕ} f.listing (λ b. 0), length-map f.listing suc, ap length draft-is, length-take p.vertices d))

    pub graph_is : with_nets (lots_graph p.blocks p.imbalance p.vertices w d fixed w) (map net_of f.edges) ≡ catalogue_of f
    unfolding catalogue_of said
    graph_is =
        ap₂ (λ (k t : ℕ). record { blocks = k; imbalance = t; total_weight = sum_over (take p.vertices w) (λ v. v); lows = take p.vertices w; weights = take p.vertices w; draft = take p.vertices d; fixed = take p.vertices fixed; nets = map net_of f.edges }) sound.blocks_is sound.imbalance-is
        ∙ ap₂ (λ (x y : List ℕ). record { blocks = f.blocks; imbalance = f.imbalance; total_weight = sum_over x (λ v. v); lows = x; weights = x; draft = y; fixed = take p.vertices fixed; nets = map net_of f.edges }) weights-are draft-is
        ∙ ap (λ (x : List ℕ). record { blocks = f.blocks; imbalance = f.imbalance; total_weight = sum_over f.weights (λ v. v); lows = f.weights; weights = f.weights; draft = map suc f.listing; fixed = x; nets = map net_of f.edges }) fixed-is

  -- ---- the verdict, test by test
  module _ (w d : List ℕ) (seen : Seen s p.carried p.listed p.size w d) where
    pub judged-carried : p.carried ≡ false → 18 ≡ verdict s
    judged-carried q = sym (verdict-is s false _ _ (sym seen.carried-is ∙ q) refl refl)

    module _ (yes : p.carried ≡ true) where
      pub within : Within p
      within = carried-within s p sound (sym seen.carried-is ∙ yes)

      pub weights-in : take p.vertices w ≡ f.weights
      weights-in = let v = vertices-said s p sound in ap (λ (n : ℕ). take n w) v ∙ seen.weights-are (omega (arith, v, within.vertices-high))

      pub judged-listed : p.listed ≡ false → 19 ≡ verdict s
      judged-listed q = sym (verdict-is s true false _ (sym seen.carried-is ∙ yes) (sym seen.listed-is ∙ q) refl)

      module _ (good : p.listed ≡ true) where
        pub draft-in : take p.vertices d ≡ map suc f.listing
        draft-in =
            let v = vertices-said s p sound in
            let k = blocks-said s p sound in
            ap (λ (n : ℕ). take n d) v ∙ seen.draft-is good (omega (arith, k, within.blocks-high)) (omega (arith, v, within.vertices-high))

        module _ (o : Bool) (over : overfull_is p.vertices p.blocks p.imbalance w d w o) where
          over-is : overfull (catalogue_of f) ≡ o
          over-is = sym (over (fixed w d weights-in draft-in) (map net_of f.edges) ∙ ap overfull (graph_is w d weights-in draft-in))

          says : (b c : Bool) → leb (length (catalogue_text (catalogue_of f))) 60000 ≡ b → (not o && b) ≡ c → verdict s ≡ cond (not c) 18 0
          says b c q e = verdict-is s true true c (sym seen.carried-is ∙ yes) (sym seen.listed-is ∙ good) (fits-is (catalogue_of f) o b over-is q ∙ e)

          pub judged-full : o ≡ true → 18 ≡ verdict s
          judged-full q = sym (says _ false refl (ap (λ (b : Bool). not b && leb (length (catalogue_text (catalogue_of f))) 60000) q))

          module _ (free : o ≡ false) (n : ℕ) (long : n ≡ length (sale_row p) + length (lots w d weights-in draft-in) + p.size) where
            length-is : n ≡ length (catalogue_text (catalogue_of f))
            length-is = long ∙ ap (λ (k : ℕ). length (sale_row p) + length (lots w d weights-in draft-in) + k) seen.size_is ∙ sym (text-length w d weights-in draft-in)

            pub judged-long : 60000 < n → 18 ≡ verdict s
            judged-long q = sym (says false false (lt-leb (length (catalogue_text (catalogue_of f))) 60000 (omega (arith, length-is))) (and-false (not o)))

            pub judged-good : n ≤ 60000 → (verdict s ≡ 0) × Tabled s p w d
            judged-good q = (
              says true true (le-leb (length (catalogue_text (catalogue_of f))) 60000 (omega (arith, length-is))) (ap (λ (b : Bool). not b && true) free),
              record { few = within.vertices-high; weights-len = seen.weights-len; draft-len = seen.draft-len; weights-are = weights-in; draft-is = draft-in },
            )

-- ---- the text written
module _ (s : List ℕ) (p : Plan) (sound : Sound s p) (w d : List ℕ) (tabled : Tabled s p w d) (weighted : Bool) (we : weighted ≡ edges_weighted (code_of p.code)) (out : List ℕ) (room : length (catalogue_text (catalogue_of (said s))) ≤ length out) where
  abbrev whole : List ℕ
  whole = catalogue_text (catalogue_of (said s))

  abbrev lot_lines : List ℕ
  lot_lines = lot_text (take p.vertices w) (take p.vertices d)

  abbrev net_lines : List ℕ
  net_lines = buy_text (map net_of (edges_at weighted s p.first p.edges))

  room_0 : 0 + length whole ≤ length out
  room_0 = omega arith

  left-sale : Remains out 0 whole out 0 (sale_row p ++ (lot_lines ++ net_lines))
  left-sale = subst (λ (t : List ℕ). Remains out 0 whole out 0 t)
      (text-is s p sound w d tabled.weights-are tabled.draft-is ∙ ap (λ (t : List ℕ). sale_row p ++ (lot_lines ++ t)) (ap (λ (es : List Edge). buy_text (map net_of es)) (sym (edges-said s p sound weighted we))))
      (remains-all out 0 whole)

  pub sale-room : 0 + length (sale_row p) ≤ length out
  sale-room = remains-room room_0 (sale_row p) (lot_lines ++ net_lines) left-sale

  module _ (out1 : List ℕ) (a : ℕ) (w1 : Wrote out out1 0 (sale_row p) a) where
    left-lots : Remains out 0 whole out1 a (lot_lines ++ net_lines)
    left-lots = remains-more room_0 (sale_row p) (lot_lines ++ net_lines) left-sale w1

    pub lots-room : a + length lot_lines ≤ length out1
    lots-room = remains-room room_0 lot_lines net_lines left-lots

    module _ (out2 : List ℕ) (b : ℕ) (w2 : Wrote out1 out2 a lot_lines b) where
      left-nets : Remains out 0 whole out2 b (net_lines ++ [])
      left-nets = subst (λ (t : List ℕ). Remains out 0 whole out2 b t) (sym (append-nil net_lines)) (remains-more room_0 lot_lines net_lines left-lots w2)

      pub nets-room : b + length net_lines ≤ length out2
      nets-room = remains-room room_0 net_lines [] left-nets

      pub all-written : (out3 : List ℕ) (c : ℕ) → Wrote out2 out3 b net_lines c → Wrote out out3 0 whole c
      all-written out3 c w3 = remains-none (remains-more room_0 net_lines [] left-nets w3)

-- ---- the answer
refusal_is : (s : List ℕ) (a b : Bool) → ltb 60000 (length s) ≡ a → well_written s ≡ b → refusal s ≡ cond a 18 (cond (not b) 17 (verdict s))
unfolding refusal verdict
refusal_is s a b p q = rw (← p, ← q)

pub refusal-long : (s : List ℕ) → 60000 < length s → refusal s ≡ 18
refusal-long s l = refusal_is s true _ (lt-ltb 60000 (length s) l) refl

module _ (s : List ℕ) (short : length s ≤ 60000) where
  pub refusal-bad : well_written s ≡ false → refusal s ≡ 17
  refusal-bad q = refusal_is s false false (le-ltb 60000 (length s) short) q

  pub refusal-judged : well_written s ≡ true → refusal s ≡ verdict s
  refusal-judged q = refusal_is s false true (le-ltb 60000 (length s) short) q

output-is : {old new text : List ℕ} {n : ℕ} → Wrote old new 0 text n → Written text old new n
unfolding written
output-is {old} {new} {text} {n} w =
    let e : n ≡ length text = w.ends ∙ zero-add (length text) in
    record { bytes = e; output = w.is ∙ ap (λ (k : ℕ). text ++ drop k old) (zero-add (length text) ∙ sym e) }

converted-no : (s : List ℕ) (q : ℕ) → refusal s ≡ q → 1 ≤ q → converted s ≡ row "NO" (digits q ∷ [])
unfolding converted
converted-no s q e l = ap (λ (b : Bool). cond b (catalogue_text (catalogue_of (said s))) (row "NO" (digits (refusal s) ∷ []))) (ne_eqb (refusal s) 0 (λ z. omega arith)) ∙ ap (λ (k : ℕ). row "NO" (digits k ∷ [])) e

converted-yes : (s : List ℕ) → refusal s ≡ 0 → converted s ≡ catalogue_text (catalogue_of (said s))
unfolding converted
converted-yes s e = ap (λ (b : Bool). cond b (catalogue_text (catalogue_of (said s))) (row "NO" (digits (refusal s) ∷ []))) (eq-eqb (refusal s) 0 e)

module _ (s old new : List ℕ) (n : ℕ) where
  pub answer-no : (q r : ℕ) → refusal s ≡ q → 1 ≤ q → r ≡ q → Wrote old new 0 (row "NO" (digits q ∷ [])) n → Answered s old new r n
  answer-no q r e l z w = record {
    code_is = z ∙ sym e;
    output = subst (λ (t : List ℕ). Written t old new n) (sym (converted-no s q e l)) (output-is w);
    loads = λ y. absurd (omega arith);
  }

  pub answer-yes : refusal s ≡ 0 → Wrote old new 0 (catalogue_text (catalogue_of (said s))) n → Answered s old new 0 n
  answer-yes e w = record {
    code_is = sym e;
    output = subst (λ (t : List ℕ). Written t old new n) (sym (converted-yes s e)) (output-is w);
    loads = λ _. loads-as s e;
  }

pub converts-long : (s old new : List ℕ) (r n : ℕ) → 60000 ≤ length old → Answered s old new r n → Converts s old new r n
converts-long s old new r n l a = record { short = λ h. absurd (omega arith); long = λ _. a }

-- a refusal's number has two digits at most
pub numbers-small : (r : Refusal) → number_of r < 100
numbers-small OutputTooShort = omega arith
numbers-small BadlyWritten = omega arith
numbers-small NotCarried = omega arith
numbers-small BadListing = omega arith

pub numbers-some : (r : Refusal) → 1 ≤ number_of r
numbers-some OutputTooShort = omega arith
numbers-some BadlyWritten = omega arith
numbers-some NotCarried = omega arith
numbers-some BadListing = omega arith

-- a refusal's line is short
no_length : (q : ℕ) → length (row "NO" (digits q ∷ [])) ≡ 4 + length (digits q)
unfolding row bytes tail
no_length q = omega (arith, length-append (digits q) (10 ∷ []))

pub no_room : (q n : ℕ) → q < 100 → 60000 ≤ n → length (row "NO" (digits q ∷ [])) ≤ n
no_room q n l h = omega (arith, no_length q, digits_le 1 q l)

-- a verdict of 0 is of a text that fits
pub verdict-fits : (s : List ℕ) → verdict s ≡ 0 → length (catalogue_text (catalogue_of (said s))) ≤ 60000
unfolding verdict fits
verdict-fits s e =
    let a = cond-zero (not (carried (said s))) 18 _ (omega arith) e in
    let b = cond-zero (not (listed (said s))) 19 _ (omega arith) a.1 in
    let c = cond-zero (not (fits (catalogue_of (said s)))) 18 0 (omega arith) b.1 in
    leb-true _ _ (and_right (not (overfull (catalogue_of (said s)))) _ (not-false _ c.0))
