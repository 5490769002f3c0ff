-- The tests of lent memory's lengths, one by one, are model's `long_memory`. Rests on model's Memory and Lent. Assumes nothing.
use Rattle.std.specs.Prelude.{ℕ, ◌*◌, ◌<◌, ◌≤◌, ◌≡◌, refl, Bool, true, false, ◌&&◌, leb, length}
use Rattle.std.proofs.Common.{sym, ap, ◌∙◌, le-leb}
use Rattle.std.proofs.lemmas.Bool.{lt-leb}
use Rattle.model.specs.Catalogue.{Limits}
use Rattle.model.specs.Memory.{Tables as Lent, Memory, long_lists, long_tables, long_memory}
use Rattle.model.specs.Lent.{net_tables}

-- nine tests, one by one
regroup : (a b c d e f g h i : Bool) → (a && (b && (c && (d && (e && (f && (g && (h && i)))))))) ≡ (a && b && c && d && e && f && g && h && i)
regroup false b c d e f g h i = refl
regroup true false c d e f g h i = refl
regroup true true false d e f g h i = refl
regroup true true true false e f g h i = refl
regroup true true true true false f g h i = refl
regroup true true true true true false g h i = refl
regroup true true true true true true false h i = refl
regroup true true true true true true true false i = refl
regroup true true true true true true true true i = refl

-- n: the limit of lots
abbrev tests : ℕ → Memory → Bool
tests n m =
    let t : Lent = m.tables in
    leb 60000 (length m.output) && (leb n (length t.weights) && (leb n (length t.blocks) && (leb n (length t.aboves) && (leb n (length t.fixed)
    && (long_lists t && (leb 16384 (length t.counts) && (leb (16 * n) (length t.gains) && (leb (16 * n) (length t.index) && leb 1024 (length t.visited)))))))))

pub by_tests : (limits : Limits) (m : Memory) {n : ℕ} {r : Bool} → limits.vertex_limit ≡ n → r ≡ tests n m → r ≡ long_memory limits m
unfolding long_memory long_tables
by_tests limits m q e =
    let t : Lent = m.tables in
    let v : ℕ = limits.vertex_limit in
    e ∙ ap (λ (n : ℕ). tests n m) (sym q) ∙ ap (λ (b : Bool). leb 60000 (length m.output) && b)
    (regroup (leb v (length t.weights)) (leb v (length t.blocks)) (leb v (length t.aboves)) (leb v (length t.fixed)) (long_lists t) (leb 16384 (length t.counts)) (leb (16 * v) (length t.gains)) (leb (16 * v) (length t.index)) (leb 1024 (length t.visited)))

pub short-no : (n l : ℕ) (b : Bool) → l < n → false ≡ (leb n l && b)
short-no n l b q = sym (ap (λ (t : Bool). t && b) (lt-leb n l q))

pub short-yes : (n l : ℕ) {b r : Bool} → n ≤ l → r ≡ b → r ≡ (leb n l && b)
short-yes n l {b} q e = e ∙ sym (ap (λ (t : Bool). t && b) (le-leb n l q))

-- the buyers' and the mark tables alone
pub lists-test : (t : Lent) {r : Bool} → r ≡ long_lists (net_tables t.loaded_pins t.present_pins t.firsts t.loaded_sizes t.present_sizes) → r ≡ long_lists t
unfolding long_lists
lists-test t e = e
