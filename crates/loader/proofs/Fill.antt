-- A table filled entry by entry, none, one more, or its first entries at once; a column from its entries in use and those kept. Rests on model's `Filled`.
use Prim.Native.Nat.{ℕ, ◌+◌, ◌-◌, ◌≤◌, ◌<◌}
use mathlib.Core.Path.{◌≡◌, refl, ap, sym, ◌∙◌}
use mathlib.Core.Bool.{Bool, true, false, cond}
use mathlib.Core.List.{List, ◌++◌}
use native.Mathlib.Omega.{arith}
use native.Mathlib.Decide.{ℕ_discrete}
use borrow.Author.Tests.{lt-ltb, le-ltb, ltb-true, ltb-false}
use lib.Dec.{ltb}
use lib.ListN.{length, get_or, set, take, drop, replicate, length-set, length-append, length-drop, length-replicate, get_or-replicate}
use lib.Seq.{length-take-le, get_or-drop, get_or-set_same, get_or-set_other}
use Rattle.std.proofs.lemmas.List.{get_or_append_left, get_or-append_right}
use Rattle.model.specs.Memory.{Filled}
use Rattle.lines.specs.Line.{Past}

-- entries below n are told, and the others kept
pub filled : (n : ℕ) (value : ℕ → ℕ) (old new : List ℕ) → length new ≡ length old → ((i : ℕ) → i < n → i < length old → get_or new i 0 ≡ value i) → Past n old new → Filled 0 (λ i. ltb i n) value old new
filled n value old new len told past = record {
  as_long = len;
  entries = λ i u. go i u (ltb i n) refl;
}
  where
    go : (i : ℕ) → i < length old → (t : Bool) → ltb i n ≡ t → get_or new i 0 ≡ cond (ltb i n) (value i) (get_or old i 0)
    go i u true e = rw e (told i (ltb-true i n e) u)
    go i u false e = rw e (past i (ltb-false i n e))

pub filled_in : (n : ℕ) (value : ℕ → ℕ) (old new : List ℕ) → Filled 0 (λ i. ltb i n) value old new → (i : ℕ) → i < n → i < length old → get_or new i 0 ≡ value i
filled_in n value old new f i l u = f.entries i u ∙ ap (λ (t : Bool). cond t (value i) (get_or old i 0)) (lt-ltb i n l)

pub filled-out : (n : ℕ) (value : ℕ → ℕ) (old new : List ℕ) → Filled 0 (λ i. ltb i n) value old new → (i : ℕ) → n ≤ i → i < length old → get_or new i 0 ≡ get_or old i 0
filled-out n value old new f i l u = f.entries i u ∙ ap (λ (t : Bool). cond t (value i) (get_or old i 0)) (le-ltb i n l)

pub filled_none : (value : ℕ → ℕ) (l : List ℕ) → Filled 0 (λ i. ltb i 0) value l l
filled_none value l = filled 0 value l l refl (λ i u _. absurd (omega arith)) (λ i u. refl)

pub filled_more : (n v : ℕ) (value : ℕ → ℕ) (old new : List ℕ) → Filled 0 (λ i. ltb i n) value old new → n < length old → v ≡ value n → Filled 0 (λ i. ltb i (n + 1)) value old (set new n v)
filled_more n v value old new f l e = record {
  as_long = length-set new n v ∙ f.as_long;
  entries = λ i u. go i u (ℕ_discrete i n);
}
  where
    go : (i : ℕ) → i < length old → Dec (i ≡ n) → get_or (set new n v) i 0 ≡ cond (ltb i (n + 1)) (value i) (get_or old i 0)
    go i u (yes q) =
        ap (λ (j : ℕ). get_or (set new n v) j 0) q ∙ get_or-set_same new n v 0 (omega (arith, f.as_long)) ∙ e ∙ ap value (sym q)
        ∙ ap (λ (t : Bool). cond t (value i) (get_or old i 0)) (sym (lt-ltb i (n + 1) (omega arith)))
    go i u (no m) = get_or-set_other new n i v 0 m ∙ f.entries i u ∙ ap (λ (t : Bool). cond t (value i) (get_or old i 0)) (same i m (ltb i n) refl)
      where
        same : (i : ℕ) → (i ≡ n → ⊥) → (t : Bool) → ltb i n ≡ t → ltb i n ≡ ltb i (n + 1)
        same i m true q = q ∙ sym (lt-ltb i (n + 1) (omega (arith, ltb-true i n q)))
        same i m false q = q ∙ sym (le-ltb i (n + 1) (omega (arith, ltb-false i n q, m)))

-- the first n entries become those of `front`
filled-front : (n : ℕ) (value : ℕ → ℕ) (old front : List ℕ) → length front ≡ n → n ≤ length old → ((i : ℕ) → i < n → get_or front i 0 ≡ value i) → Filled 0 (λ i. ltb i n) value old (front ++ drop n old)
filled-front n value old front e le told =
    filled n value old (front ++ drop n old)
    (length-append front (drop n old) ∙ omega (arith, length-drop n old))
    (λ i u _. get_or_append_left front (drop n old) 0 i (omega arith) ∙ told i u)
    (λ i u. get_or-append_right front (drop n old) n i 0 e u ∙ get_or-drop n old (i - n) 0 ∙ ap (λ (k : ℕ). get_or old k 0) (omega arith))

-- they become 0
pub filled-zero : (n : ℕ) (old front : List ℕ) → n ≤ length old → front ≡ replicate (length (take n old)) 0 → Filled 0 (λ i. ltb i n) (λ i. 0) old (front ++ drop n old)
filled-zero n old front le e =
    let size : length (take n old) ≡ n = length-take-le n old le in
    filled-front n (λ i. 0) old front (ap length e ∙ length-replicate (length (take n old)) 0 ∙ size) le (λ i u. ap (λ (l : List ℕ). get_or l i 0) e ∙ get_or-replicate (length (take n old)) i 0 0 (omega arith))

-- the same entries by other names
pub filled-as : (n n' : ℕ) (value value' : ℕ → ℕ) (old new : List ℕ) → Filled 0 (λ i. ltb i n) value old new → n ≡ n' → ((i : ℕ) → i < n → value i ≡ value' i) → Filled 0 (λ i. ltb i n') value' old new
filled-as n n' value value' old new f e v = record {
  as_long = f.as_long;
  entries = λ i u. go i u (ltb i n) refl;
}
  where
    go : (i : ℕ) → i < length old → (t : Bool) → ltb i n ≡ t → get_or new i 0 ≡ cond (ltb i n') (value' i) (get_or old i 0)
    go i u true q = filled_in n value old new f i (ltb-true i n q) u ∙ v i (ltb-true i n q) ∙ ap (λ (t : Bool). cond t (value' i) (get_or old i 0)) (sym (ap (ltb i) (sym e) ∙ q))
    go i u false q = filled-out n value old new f i (ltb-false i n q) u ∙ ap (λ (t : Bool). cond t (value' i) (get_or old i 0)) (sym (ap (ltb i) (sym e) ∙ q))
