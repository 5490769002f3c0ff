-- The numbers withdrawn and still free as an array and a length, the latest last: one more, the latest one taken, and the number of the next lot. Rests on
-- operations's Pairs. Assumes nothing.
use Rattle.std.specs.Prelude.{ℕ, zero, suc, ◌+◌, ◌-◌, ◌≤◌, ◌<◌, ◌≡◌, refl, cond, List, [], ◌∷◌, eqb, length, get_or, set, drop, Option, Some, None}
use Rattle.std.proofs.Common.{arith, sub-one, sym, ap, ◌∙◌}
use Rattle.laws.specs.Choice.{cond_yes, cond_no}
use Rattle.model.specs.Catalogue.{Hypergraph, vertices}
use Rattle.model.specs.Lent.{pairs}
use Rattle.model.specs.Sale.{number_for}
use Rattle.operations.specs.Pairs.{pairs-none, pairs-push, pairs-length}

-- the first `len` numbers, the last one first
abbrev pub free_of : List ℕ → ℕ → List ℕ
free_of numbers len = pairs (λ x y. x) numbers numbers len

pub free-none : (numbers : List ℕ) → free_of numbers 0 ≡ []
free-none numbers = pairs-none (λ x y. x) numbers numbers

pub free-length : (numbers : List ℕ) (len : ℕ) → length (free_of numbers len) ≡ len
free-length numbers len = pairs-length (λ x y. x) numbers numbers len

pub free_more : (numbers : List ℕ) (len v : ℕ) {numbers' : List ℕ} {len' : ℕ} → len < length numbers → numbers' ≡ set numbers len v → len' ≡ len + 1 → free_of numbers' len' ≡ v ∷ free_of numbers len
free_more numbers len v l e q = pairs-push (λ x y. x) {x = v} {y = v} l l (record { xs-are = e; ys-are = e; len_is = q })

pub free-less : (numbers : List ℕ) (len : ℕ) → free_of numbers (len - 1) ≡ drop 1 (free_of numbers len)
unfolding pairs
free-less numbers zero = refl
free-less numbers (suc len) = ap (free_of numbers) (let z : suc len - 1 ≡ len = omega arith in z)

-- the latest, where there is one
abbrev pub latest_of : List ℕ → ℕ → Option ℕ
latest_of numbers zero = None
latest_of numbers (suc len) = Some (get_or numbers len 0)

-- N's number: the latest, or the one behind n
unfoldable pub next_of : List ℕ → ℕ → ℕ → ℕ
next_of numbers len n = cond (eqb len 0) (n + 1) (get_or numbers (len - 1) 0)

next-go : (h : Hypergraph) (numbers : List ℕ) (n len : ℕ) → n ≡ vertices h → next_of numbers len n ≡ number_for h (free_of numbers len)
unfolding next_of number_for pairs
next-go h numbers n zero q = omega (arith, q)
next-go h numbers n (suc len) q = cond_no (suc len) 0 (n + 1) (get_or numbers (suc len - 1) 0) (λ e. omega arith) ∙ ap (λ (i : ℕ). get_or numbers i 0) (let z : suc len - 1 ≡ len = omega arith in z)

pub next-is : (h : Hypergraph) (numbers : List ℕ) (len n : ℕ) (free : List ℕ) → n ≡ vertices h → free_of numbers len ≡ free → next_of numbers len n ≡ number_for h free
next-is h numbers len n free q e = next-go h numbers n len q ∙ ap (number_for h) e

-- the arms of the code's test
pub next-first : (numbers : List ℕ) (len n : ℕ) → len ≡ 0 → n + 1 ≡ next_of numbers len n
unfolding next_of
next-first numbers len n e = sym (cond_yes len 0 (n + 1) (get_or numbers (len - 1) 0) e)

pub next-latest : (numbers : List ℕ) (len n : ℕ) → (len ≡ 0 → ⊥) → get_or numbers (len - 1) 0 ≡ next_of numbers len n
unfolding next_of
next-latest numbers len n e = sym (cond_no len 0 (n + 1) (get_or numbers (len - 1) 0) e)

pub next_some : (numbers : List ℕ) (len n v : ℕ) → Some v ≡ latest_of numbers len → v ≡ next_of numbers len n
next_some numbers zero n v e = absurd cc
next_some numbers (suc len) n v e =
    let same : v ≡ get_or numbers (suc len - 1) 0 = rw sub-one cc in
    same ∙ next-latest numbers (suc len) n (λ z. omega arith)

pub next_none : (numbers : List ℕ) (len n : ℕ) → None ≡ latest_of numbers len → n + 1 ≡ next_of numbers len n
next_none numbers zero n e = next-first numbers 0 n refl
next_none numbers (suc len) n e = absurd cc
