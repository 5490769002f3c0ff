-- The engine's answer in model's terms: is lent memory long enough, and what is promised either way. Rests on sale's Files and on model's
-- Memory. Assumes nothing.
use Rattle.std.specs.Prelude.{ℕ, ◌*◌, ◌≤◌, ◌≡◌, refl, Bool, true, false, ◌&&◌, List, leb, length, drop, ℤ}
use Rattle.std.proofs.Common.{arith, sym, ap, ◌∙◌, subst, leb-true, length-append}
use Rattle.laws.specs.Choice.{and_left, and_right}
use Rattle.model.specs.Catalogue.{Limits}
use Rattle.model.specs.Grammar.{Reading, parse}
use Rattle.model.specs.Engine.{outcome}
use Rattle.model.specs.Memory.{Tables as Lent, Memory, long_lists, long_tables, long_memory, Worked, Served, Serves}
use Rattle.model.specs.Lent.{Lists, lent, memory}
use Rattle.lines.specs.Line.{Within}
use Rattle.sale.specs.Files.{lots_known, Long}

-- ---- the lots of a file
-- how many lots' entries are written, by whether lent memory is long enough
abbrev pub lots_written : Limits → Bool → Reading → ℕ
lots_written limits true r = lots_known limits r
lots_written limits false r = 0

-- the engine's promise, with that number
pub record ServesLots (limits : Limits) (file : List ℕ) (old new : Memory) (code bytes lots : ℕ) : Type 0 where
  pub serves : Serves limits file old new code bytes
  pub lots-are : lots ≡ lots_written limits (long_memory limits old) (parse limits file)

-- ---- is lent memory long enough
-- what is long enough has its lengths
cut : (b : Bool) (n l : ℕ) → (b && leb n l) ≡ true → (b ≡ true) × (n ≤ l)
cut b n l q = (and_left b (leb n l) q, leb-true n l (and_right b (leb n l) q))

lists_of : (t : Lent) → long_lists t ≡ true → (8192 ≤ length t.loaded_pins) × (8192 ≤ length t.present_pins) × (1024 ≤ length t.firsts) × (1024 ≤ length t.loaded_sizes) × (1024 ≤ length t.present_sizes)
unfolding long_lists
lists_of t q =
    let s = cut (leb 8192 (length t.loaded_pins) && leb 8192 (length t.present_pins) && leb 1024 (length t.firsts) && leb 1024 (length t.loaded_sizes)) 1024 (length t.present_sizes) q in
    let z = cut (leb 8192 (length t.loaded_pins) && leb 8192 (length t.present_pins) && leb 1024 (length t.firsts)) 1024 (length t.loaded_sizes) s.0 in
    let f = cut (leb 8192 (length t.loaded_pins) && leb 8192 (length t.present_pins)) 1024 (length t.firsts) z.0 in
    let p = cut (leb 8192 (length t.loaded_pins)) 8192 (length t.present_pins) f.0 in
    (leb-true 8192 (length t.loaded_pins) p.0, p.1, f.1, z.1, s.1)

pub long-is : (limits : Limits) (out : List ℕ) (t : Lists) (counts : List ℕ) (gains : List ℤ) (index visited : List ℕ) {r : Bool} → Within limits
    → r ≡ long_memory limits (memory out (lent t counts gains index visited)) → r ≡ true → Long limits out t counts gains index visited
unfolding long_memory long_tables
long-is limits out t counts gains index visited within e q =
    let m : Lent = lent t counts gains index visited in
    let n : ℕ = limits.vertex_limit in
    let vs : Bool = leb n (length t.weights) && leb n (length t.blocks) && leb n (length t.aboves) && leb n (length t.fixed) in
    let all : (leb 60000 (length out) && (vs && long_lists m && leb 16384 (length counts) && leb (16 * n) (length gains) && leb (16 * n) (length index) && leb 1024 (length visited))) ≡ true = sym e ∙ q in
    let v = cut (vs && long_lists m && leb 16384 (length counts) && leb (16 * n) (length gains) && leb (16 * n) (length index)) 1024 (length visited) (and_right (leb 60000 (length out)) _ all) in
    let i = cut (vs && long_lists m && leb 16384 (length counts) && leb (16 * n) (length gains)) (16 * n) (length index) v.0 in
    let g = cut (vs && long_lists m && leb 16384 (length counts)) (16 * n) (length gains) i.0 in
    let c = cut (vs && long_lists m) 16384 (length counts) g.0 in
    let l = lists_of m (and_right vs (long_lists m) c.0) in
    let x = cut (leb n (length t.weights) && leb n (length t.blocks) && leb n (length t.aboves)) n (length t.fixed) (and_left vs (long_lists m) c.0) in
    let a = cut (leb n (length t.weights) && leb n (length t.blocks)) n (length t.aboves) x.0 in
    let b = cut (leb n (length t.weights)) n (length t.blocks) a.0 in
    record {
      within = within;
      spacious = leb-true 60000 (length out) (and_left (leb 60000 (length out)) _ all);
      lists-long = record {
        weights = leb-true n (length t.weights) b.0;
        blocks = b.1;
        aboves = a.1;
        fixed = x.1;
        loaded_pins = l.0;
        present_pins = l.1;
        firsts = l.2;
        loaded_sizes = l.3;
        present_sizes = l.4;
      };
      counts-long = c.1;
      gains-long = g.1;
      index-long = i.1;
      visited-long = v.1;
    }

module _ (limits : Limits) (file : List ℕ) (m : Memory) {r : Bool} (e : r ≡ long_memory limits m) where
  pub too_short : r ≡ false → ServesLots limits file m m 8 0 0
  too_short q = record {
    serves = subst (λ (b : Bool). Served limits b (parse limits file) m m 8 0) (sym (sym e ∙ q)) (record { code_is = refl; nothing = refl; kept = refl });
    lots-are = ap (λ (b : Bool). lots_written limits b (parse limits file)) (sym (sym e ∙ q));
  }

  pub served : (m' : Memory) {code bytes lots : ℕ} → r ≡ true → Worked limits (parse limits file) m m' code bytes × (lots ≡ lots_known limits (parse limits file)) → ServesLots limits file m m' code bytes lots
  served m' {code} {bytes} q w = record {
    serves = subst (λ (b : Bool). Served limits b (parse limits file) m m' code bytes) (sym (sym e ∙ q)) w.0;
    lots-are = w.1 ∙ ap (λ (b : Bool). lots_written limits b (parse limits file)) (sym (sym e ∙ q));
  }

-- the bytes written lie in the output
pub bytes-in : (limits : Limits) (file : List ℕ) (m m' : Memory) (code bytes : ℕ) → Serves limits file m m' code bytes → bytes ≤ length m'.output
bytes-in limits file m m' code bytes s = go (long_memory limits m) s
  where
    go : (b : Bool) → Served limits b (parse limits file) m m' code bytes → bytes ≤ length m'.output
    go false u = omega (arith, u.nothing)
    go true w = omega (arith, w.output.bytes, ap length w.output.output, length-append (outcome limits (parse limits file)).report (drop bytes m.output))
