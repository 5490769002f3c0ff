-- An input that is carried over gives a text that loads as that input's hypergraph, with its partition and its metric (loads-as).
-- Rests on Carries, Metric and written's `loads-again`. Assumes nothing.
use Rattle.std.specs.Prelude.{ℕ, ◌≤◌, ◌<◌, ◌≡◌, Bool, true, not, cond, List, [], ◌∷◌, map, ltb, length, drop}
use Rattle.std.proofs.Math.Decide.{dec_lt}
use Rattle.std.proofs.Common.{arith, sym, ap, subst, length-append}
use Rattle.std.proofs.Math.Path.{refl}
use borrow.Author.Tests.{leb-true, eq-eqb, not-true, not-false}
use Rattle.laws.specs.Choice.{and_left, and_right, cond-zero}
use Rattle.model.specs.Catalogue.{main_limits}
use Rattle.model.specs.Grammar.{overfull}
use Rattle.model.specs.Report.{digits, row}
use Rattle.model.specs.CatalogueText.{catalogue_text}
use Rattle.written.specs.LoadsAgain.{book_of, loads-again}
use Rattle.model.specs.Hmetis.{Edge, well_written, said}
use Rattle.model.specs.Convert.{carried, listed, net_of, catalogue_of, fits, refusal, converted, LoadsAs, Converts}
use Rattle.conversion.specs.Well.{well-parts}
use Rattle.conversion.specs.Carries.{ranges, loaded, none-fixed, vertices-is, pins-in, listing-long}
use Rattle.conversion.specs.Metric.{metric-is}

-- an input that is not refused
pub record Accepts (s : List ℕ) : Type 0 where
  pub well : well_written s ≡ true
  pub carries : carried (said s) ≡ true
  pub lists : listed (said s) ≡ true
  pub fit : fits (catalogue_of (said s)) ≡ true

pub accepts : (s : List ℕ) → refusal s ≡ 0 → Accepts s
unfolding refusal
accepts s e =
    let a = cond-zero (ltb 60000 (length s)) 18 _ (omega arith) e in
    let b = cond-zero (not (well_written s)) 17 _ (omega arith) a.1 in
    let c = cond-zero (not (carried (said s))) 18 _ (omega arith) b.1 in
    let d = cond-zero (not (listed (said s))) 19 _ (omega arith) c.1 in
    let g = cond-zero (not (fits (catalogue_of (said s)))) 18 0 (omega arith) d.1 in
    record { well = not-false _ b.0; carries = not-false _ c.0; lists = not-false _ d.0; fit = not-false _ g.0 }

nets-pins : (es : List Edge) → map (λ e. e.pins) (map net_of es) ≡ map (λ e. e.pins) es
nets-pins [] = refl
nets-pins (e ∷ es) = ap (λ (l : List (List ℕ)). e.pins ∷ l) (nets-pins es)

nets-weights : (es : List Edge) → map (λ e. e.weight) (map net_of es) ≡ map (λ e. e.weight) es
nets-weights [] = refl
nets-weights (e ∷ es) = ap (λ (l : List ℕ). e.weight ∷ l) (nets-weights es)

text-is : (s : List ℕ) → refusal s ≡ 0 → converted s ≡ catalogue_text (catalogue_of (said s))
unfolding converted
text-is s e = ap (λ (b : Bool). cond b (catalogue_text (catalogue_of (said s))) (row "NO" (digits (refusal s) ∷ []))) (eq-eqb (refusal s) 0 e)

module _ (s : List ℕ) (e : refusal s ≡ 0) where
  loads-text : LoadsAs (said s) (catalogue_text (catalogue_of (said s)))
  unfolding fits catalogue_of
  loads-text =
      let a = accepts s e in
      let w = well-parts s a.well in
      let over = not-true _ (and_left _ _ a.fit) in
      let short = leb-true _ _ (and_right (not (overfull (catalogue_of (said s)))) _ a.fit) in
      record {
        book = book_of (catalogue_of (said s));
        loads = loads-again main_limits (omega arith) (omega arith) (omega arith) (omega arith) (catalogue_of (said s)) (ranges s w a.carries a.lists over) (loaded s w a.carries a.lists) (none-fixed s w a.carries a.lists) refl short;
        blocks = refl;
        imbalance = refl;
        weights = refl;
        draft = refl;
        marks = nets-pins (said s).edges;
        costs = nets-weights (said s).edges;
        calls = refl;
        total = metric-is (said s) (vertices-is s w a.carries a.lists) (listing-long s w a.carries a.lists) (pins-in s w a.carries a.lists);
      }

  pub loads-as : LoadsAs (said s) (converted s)
  loads-as = subst (LoadsAs (said s)) (sym (text-is s e)) loads-text

-- the bytes written lie within the output
pub bytes-in : (s old new : List ℕ) (code n : ℕ) → Converts s old new code n → n ≤ length new
bytes-in s old new code n c = go (dec_lt (length old) 60000)
  where
    go : Dec (length old < 60000) → n ≤ length new
    go (yes l) = omega (arith, (c.short l).nothing)
    go (no l) =
        let a = c.long (omega arith) in
        omega (arith, a.output.bytes, ap length a.output.output, length-append (converted s) (drop n old))
