-- The table of calls and the operands: the form of its entries, each of which is a call; what later operands leave as it was; one call more. Rests on model's Lent and ListEntry.
use Prim.Native.Nat.{ℕ, zero, suc, ◌+◌, ◌*◌, ◌≤◌, ◌<◌}
use mathlib.Core.Path.{◌≡◌, refl, ap, sym, ◌∙◌}
use mathlib.Core.List.{List, [], ◌∷◌, ◌++◌}
use mathlib.Core.Bool.{Bool, true, false, not, ◌&&◌, ◌||◌, cond, true≢false}
use native.Mathlib.Decide.{ℕ_discrete}
use native.Mathlib.Omega.{arith}
use native.Mathlib.Numerals.{add-one}
use lib.ListN.{length, get_or, set, take, drop, length-set, length-append, length-drop}
use lib.Seq.{get_or-set_same, get_or-set_other, take-take, length-take-le}
use lib.Dec.{eqb, leb}
use borrow.Author.Tests.{le-leb, leb-true}
use Rattle.laws.specs.Choice.{and_left, and_right}
use Rattle.model.specs.Machine.{call_j, call_s, call_m, call_b, call_w, call_p, call_a}
use Rattle.model.specs.Sale.{Request, runs, call_x}
use Rattle.model.specs.Grammar.{Asked, asks, nothing, call_of, late_of, stretch_of, letter_j, letter_s, letter_m, letter_b, letter_w, letter_p, letter_a, letter_x, letter_n}
use Rattle.model.specs.Lent.{listed, calls_of}
use Rattle.model.specs.ListEntry.{is_letter, is_entry, entries_to}
use Rattle.text.proofs.Walk.{slice_is}

-- ---- the form of an entry
entry_of : (x y z w w' : Bool) → (w ≡ true → w' ≡ true) → (x && (y || (z && w))) ≡ true → (x && (y || (z && w'))) ≡ true
entry_of true true z w w' f e = refl
entry_of true false true w w' f e = f e
entry_of true false false w w' f e = e
entry_of false y z w w' f e = e

-- more operands
entry_more : (m n k a b : ℕ) → m ≤ n → is_entry m k a b ≡ true → is_entry n k a b ≡ true
unfolding is_entry
entry_more m n k a b l e = entry_of (is_letter k) (not (eqb k letter_n)) (leb 2 b) (leb (a + b) m) (leb (a + b) n) (λ z. le-leb (a + b) n (omega (arith, leb-true (a + b) m z))) e

pub entries-more : (m n c : ℕ) (t : List ℕ) → m ≤ n → entries_to m c t ≡ true → entries_to n c t ≡ true
unfolding entries_to
entries-more m n zero t l e = refl
entries-more m n (suc c) t l e =
    ap (λ (x : Bool). x && is_entry n (get_or t (3 * c) 0) (get_or t (3 * c + 1) 0) (get_or t (3 * c + 2) 0)) (entries-more m n c t l (and_left (entries_to m c t) _ e))
    ∙ entry_more m n (get_or t (3 * c) 0) (get_or t (3 * c + 1) 0) (get_or t (3 * c + 2) 0) l (and_right (entries_to m c t) _ e)

pub entries_at : (n c : ℕ) (t : List ℕ) → entries_to n c t ≡ true → (i : ℕ) → i < c → is_entry n (get_or t (3 * i) 0) (get_or t (3 * i + 1) 0) (get_or t (3 * i + 2) 0) ≡ true
unfolding entries_to
entries_at n zero t e i l = absurd (omega arith)
entries_at n (suc c) t e i l = go (ℕ_discrete i c) (entries_at n c t (and_left (entries_to n c t) _ e) i)
  where
    go : Dec (i ≡ c) → (i < c → is_entry n (get_or t (3 * i) 0) (get_or t (3 * i + 1) 0) (get_or t (3 * i + 2) 0) ≡ true) → is_entry n (get_or t (3 * i) 0) (get_or t (3 * i + 1) 0) (get_or t (3 * i + 2) 0) ≡ true
    go (yes q) below = ap (λ (j : ℕ). is_entry n (get_or t (3 * j) 0) (get_or t (3 * j + 1) 0) (get_or t (3 * j + 2) 0)) q ∙ and_right (entries_to n c t) _ e
    go (no q) below = below (omega arith)

-- N's stretch: bales and session at least, and nothing past the operands
pub stretch-in : (n k a b : ℕ) → is_entry n k a b ≡ true → eqb k letter_n ≡ true → (2 ≤ b) × (a + b ≤ n)
unfolding is_entry
stretch-in n k a b e is = go (is_letter k) (leb 2 b) (leb (a + b) n) refl refl (ap (λ (y : Bool). is_letter k && (not y || (leb 2 b && leb (a + b) n))) (sym is) ∙ e)
  where
    go : (x z w : Bool) → leb 2 b ≡ z → leb (a + b) n ≡ w → (x && (z && w)) ≡ true → (2 ≤ b) × (a + b ≤ n)
    go true true true p q h = (leb-true 2 b p, leb-true (a + b) n q)
    go true true false p q h = absurd (true≢false (sym h))
    go true false w p q h = absurd (true≢false (sym h))
    go false z w p q h = absurd (true≢false (sym h))

-- ---- operands that agree as far as the entries go
-- a call, where N's numbers stand for the asked z
abbrev call_by : ℕ → ℕ → ℕ → Asked → Asked
call_by k x y z =
    cond (eqb k letter_j) (asks (runs (call_j x y)))
    (cond (eqb k letter_s) (asks (runs call_s))
    (cond (eqb k letter_m) (asks (runs (call_m x y)))
    (cond (eqb k letter_b) (asks (runs call_b))
    (cond (eqb k letter_w) (asks (runs (call_w x y)))
    (cond (eqb k letter_p) (asks (runs call_p))
    (cond (eqb k letter_a) (asks (runs call_a))
    (cond (eqb k letter_x) (asks (call_x x))
    (cond (eqb k letter_n) z nothing))))))))

call-by : (ops : List ℕ) (k x y : ℕ) → call_of ops k x y ≡ call_by k x y (late_of (stretch_of ops x y))
unfolding call_of
call-by ops k x y = refl

-- each entry is a call
late-one : (l : List ℕ) → 2 ≤ length l → length (listed (late_of l)) ≡ 1
unfolding late_of
late-one [] h = absurd (omega arith)
late-one (x ∷ []) h = absurd (omega arith)
late-one (x ∷ (y ∷ l)) h = refl

call-one : (ops : List ℕ) (k x y : ℕ) → is_entry (length ops) k x y ≡ true → length (listed (call_of ops k x y)) ≡ 1
unfolding is_entry
call-one ops k x y e =
    ap (λ (q : Asked). length (listed q)) (call-by ops k x y)
    ∙ go (eqb k letter_j) (eqb k letter_s) (eqb k letter_m) (eqb k letter_b) (eqb k letter_w) (eqb k letter_p) (eqb k letter_a) (eqb k letter_x) (eqb k letter_n) (and_left (is_letter k) _ e) late
  where
    late : eqb k letter_n ≡ true → length (listed (late_of (stretch_of ops x y))) ≡ 1
    late q = let r = stretch-in (length ops) k x y e q in late-one (stretch_of ops x y) (omega (arith, r.0, r.1, length-take-le y (drop x ops) (omega (arith, r.1, length-drop x ops))))

    go : (j s m b w p a x' n : Bool) → ((j || s) || ((m || (b || (w || p))) || (a || (x' || n)))) ≡ true → (n ≡ true → length (listed (late_of (stretch_of ops x y))) ≡ 1)
        → length (listed (cond j (asks (runs (call_j x y))) (cond s (asks (runs call_s)) (cond m (asks (runs (call_m x y))) (cond b (asks (runs call_b)) (cond w (asks (runs (call_w x y))) (cond p (asks (runs call_p)) (cond a (asks (runs call_a)) (cond x' (asks (call_x x)) (cond n (late_of (stretch_of ops x y)) nothing)))))))))) ≡ 1
    go true s m b w p a x' n q f = refl
    go false true m b w p a x' n q f = refl
    go false false true b w p a x' n q f = refl
    go false false false true w p a x' n q f = refl
    go false false false false true p a x' n q f = refl
    go false false false false false true a x' n q f = refl
    go false false false false false false true x' n q f = refl
    go false false false false false false false true n q f = refl
    go false false false false false false false false true q f = f refl
    go false false false false false false false false false q f = absurd (true≢false (sym q))

pub entries-known : (ops : List ℕ) (c : ℕ) (t : List ℕ) → entries_to (length ops) c t ≡ true → length (calls_of ops c t) ≡ c
unfolding entries_to calls_of
entries-known ops zero t e = refl
entries-known ops (suc c) t e = omega (
  arith,
  length-append (calls_of ops c t) (listed (call_of ops (get_or t (3 * c) 0) (get_or t (3 * c + 1) 0) (get_or t (3 * c + 2) 0))),
  entries-known ops c t (and_left (entries_to (length ops) c t) _ e),
  call-one ops (get_or t (3 * c) 0) (get_or t (3 * c + 1) 0) (get_or t (3 * c + 2) 0) (and_right (entries_to (length ops) c t) _ e),
)

module _ (n : ℕ) (ops ops' : List ℕ) (same : take n ops' ≡ take n ops) where
  same-stretch : (x y : ℕ) → x + y ≤ n → stretch_of ops' x y ≡ stretch_of ops x y
  same-stretch x y l =
      sym (slice_is x y ops')
      ∙ ap (drop x) (sym (take-take (x + y) n ops' l) ∙ ap (take (x + y)) same ∙ take-take (x + y) n ops l)
      ∙ slice_is x y ops

  same-call : (k x y : ℕ) → is_entry n k x y ≡ true → call_of ops' k x y ≡ call_of ops k x y
  same-call k x y e = call-by ops' k x y ∙ go (eqb k letter_n) refl ∙ sym (call-by ops k x y)
    where
      go : (t : Bool) → eqb k letter_n ≡ t → call_by k x y (late_of (stretch_of ops' x y)) ≡ call_by k x y (late_of (stretch_of ops x y))
      go true q = ap (λ (l : List ℕ). call_by k x y (late_of l)) (same-stretch x y (stretch-in n k x y e q).1)
      go false q = rw q

  pub same-calls : (c : ℕ) (t : List ℕ) → entries_to n c t ≡ true → calls_of ops' c t ≡ calls_of ops c t
  unfolding calls_of entries_to
  same-calls zero t e = refl
  same-calls (suc c) t e =
      ap (λ (l : List Request). l ++ listed (call_of ops' (get_or t (3 * c) 0) (get_or t (3 * c + 1) 0) (get_or t (3 * c + 2) 0))) (same-calls c t (and_left (entries_to n c t) _ e))
      ∙ ap (λ (y : Asked). calls_of ops c t ++ listed y) (same-call (get_or t (3 * c) 0) (get_or t (3 * c + 1) 0) (get_or t (3 * c + 2) 0) (and_right (entries_to n c t) _ e))

-- ---- one call more
calls-frame : (ops : List ℕ) (c : ℕ) (t : List ℕ) (x v : ℕ) → 3 * c ≤ x → calls_of ops c (set t x v) ≡ calls_of ops c t
unfolding calls_of
calls-frame ops zero t x v l = refl
calls-frame ops (suc c) t x v l =
    rw (calls-frame ops c t x v (omega arith), get_or-set_other t x (3 * c) v 0 (λ e. omega arith), get_or-set_other t x (3 * c + 1) v 0 (λ e. omega arith), get_or-set_other t x (3 * c + 2) v 0 (λ e. omega arith))

entries-frame : (n c : ℕ) (t : List ℕ) (x v : ℕ) → 3 * c ≤ x → entries_to n c (set t x v) ≡ entries_to n c t
unfolding entries_to
entries-frame n zero t x v l = refl
entries-frame n (suc c) t x v l =
    rw (entries-frame n c t x v (omega arith), get_or-set_other t x (3 * c) v 0 (λ e. omega arith), get_or-set_other t x (3 * c + 1) v 0 (λ e. omega arith), get_or-set_other t x (3 * c + 2) v 0 (λ e. omega arith))

module _ (t : List ℕ) (c k a b : ℕ) (inside : 3 * c + 2 < length t) where
  abbrev put : List ℕ
  put = set (set (set t (3 * c) k) (3 * c + 1) a) (3 * c + 2) b

  put-0 : get_or put (3 * c) 0 ≡ k
  put-0 = get_or-set_other (set (set t (3 * c) k) (3 * c + 1) a) (3 * c + 2) (3 * c) b 0 (λ e. omega arith) ∙ get_or-set_other (set t (3 * c) k) (3 * c + 1) (3 * c) a 0 (λ e. omega arith) ∙ get_or-set_same t (3 * c) k 0 (omega arith)

  put_1 : get_or put (3 * c + 1) 0 ≡ a
  put_1 = get_or-set_other (set (set t (3 * c) k) (3 * c + 1) a) (3 * c + 2) (3 * c + 1) b 0 (λ e. omega arith) ∙ get_or-set_same (set t (3 * c) k) (3 * c + 1) a 0 (simp length-set (omega arith))

  put_2 : get_or put (3 * c + 2) 0 ≡ b
  put_2 = get_or-set_same (set (set t (3 * c) k) (3 * c + 1) a) (3 * c + 2) b 0 (simp length-set (omega arith))

  calls-below : (ops : List ℕ) → calls_of ops c put ≡ calls_of ops c t
  calls-below ops = calls-frame ops c (set (set t (3 * c) k) (3 * c + 1) a) (3 * c + 2) b (omega arith) ∙ calls-frame ops c (set t (3 * c) k) (3 * c + 1) a (omega arith) ∙ calls-frame ops c t (3 * c) k (omega arith)

  entries_below : (n : ℕ) → entries_to n c put ≡ entries_to n c t
  entries_below n = entries-frame n c (set (set t (3 * c) k) (3 * c + 1) a) (3 * c + 2) b (omega arith) ∙ entries-frame n c (set t (3 * c) k) (3 * c + 1) a (omega arith) ∙ entries-frame n c t (3 * c) k (omega arith)

  pub calls-put : (ops : List ℕ) → calls_of ops (c + 1) put ≡ calls_of ops c t ++ listed (call_of ops k a b)
  unfolding calls_of
  calls-put ops = rw add-one (ap (λ (l : List Request). l ++ listed (call_of ops (get_or put (3 * c) 0) (get_or put (3 * c + 1) 0) (get_or put (3 * c + 2) 0))) (calls-below ops)
      ∙ ap (λ (x : ℕ). calls_of ops c t ++ listed (call_of ops x (get_or put (3 * c + 1) 0) (get_or put (3 * c + 2) 0))) put-0
      ∙ ap (λ (x : ℕ). calls_of ops c t ++ listed (call_of ops k x (get_or put (3 * c + 2) 0))) put_1
      ∙ ap (λ (x : ℕ). calls_of ops c t ++ listed (call_of ops k a x)) put_2)

  pub entries-put : (n : ℕ) → entries_to n (c + 1) put ≡ (entries_to n c t && is_entry n k a b)
  unfolding entries_to
  entries-put n = rw add-one (ap (λ (y : Bool). y && is_entry n (get_or put (3 * c) 0) (get_or put (3 * c + 1) 0) (get_or put (3 * c + 2) 0)) (entries_below n)
      ∙ ap (λ (x : ℕ). entries_to n c t && is_entry n x (get_or put (3 * c + 1) 0) (get_or put (3 * c + 2) 0)) put-0
      ∙ ap (λ (x : ℕ). entries_to n c t && is_entry n k x (get_or put (3 * c + 2) 0)) put_1
      ∙ ap (λ (x : ℕ). entries_to n c t && is_entry n k a x) put_2)
