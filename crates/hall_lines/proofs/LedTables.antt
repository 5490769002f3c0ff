-- The table of led calls: what later operands leave as it was, and one led call more. Rests on reader's CallTable.
use Prim.Native.Nat.{ℕ, zero, suc, ◌+◌, ◌*◌, ◌≤◌, ◌<◌}
use mathlib.Core.Path.{◌≡◌, refl, ap, sym, ◌∙◌}
use mathlib.Core.List.{List, [], ◌∷◌, ◌++◌, map}
use mathlib.Core.Bool.{Bool, true, ◌&&◌}
use native.Mathlib.Omega.{arith}
use native.Mathlib.Numerals.{add-one}
use lib.ListN.{length, get_or, set, take, length-set}
use lib.Seq.{get_or-set_same, get_or-set_other}
use Rattle.laws.specs.Choice.{and_left, and_right}
use Rattle.model.specs.Sale.{Request}
use Rattle.model.specs.Grammar.{within, call_of}
use Rattle.model.specs.Lent.{listed, calls_of}
use Rattle.model.specs.ListEntry.{is_entry, entries_to}
use Rattle.model.specs.Hall.{Led}
use Rattle.reader.proofs.CallTable.{entries-more, same-calls}
use Rattle.hall_lines.specs.LedTable.{led, led_calls_of, led_entries_to}

-- ---- one call: a table of three numbers
entry_in : (n k a b : ℕ) → is_entry n k a b ≡ true → entries_to n (suc zero) (k ∷ a ∷ b ∷ []) ≡ true
unfolding entries_to
entry_in n k a b e = e

entry-out : (n k a b : ℕ) → entries_to n (suc zero) (k ∷ a ∷ b ∷ []) ≡ true → is_entry n k a b ≡ true
unfolding entries_to
entry-out n k a b e = e

entry_more : (m n k a b : ℕ) → m ≤ n → is_entry m k a b ≡ true → is_entry n k a b ≡ true
entry_more m n k a b l e = entry-out n k a b (entries-more m n (suc zero) (k ∷ a ∷ b ∷ []) l (entry_in m k a b e))

calls-three : (ops : List ℕ) (k a b : ℕ) → calls_of ops (suc zero) (k ∷ a ∷ b ∷ []) ≡ listed (call_of ops k a b)
unfolding calls_of
calls-three ops k a b = refl

same-call : (n : ℕ) (ops ops' : List ℕ) → take n ops' ≡ take n ops → (k a b : ℕ) → is_entry n k a b ≡ true → listed (call_of ops' k a b) ≡ listed (call_of ops k a b)
same-call n ops ops' same k a b e = sym (calls-three ops' k a b) ∙ same-calls n ops ops' same (suc zero) (k ∷ a ∷ b ∷ []) (entry_in n k a b e) ∙ calls-three ops k a b

-- ---- more operands
pub led-entries-more : (count m n c : ℕ) (t : List ℕ) → m ≤ n → led_entries_to count m c t ≡ true → led_entries_to count n c t ≡ true
unfolding led_entries_to
led-entries-more count m n zero t l e = refl
led-entries-more count m n (suc c) t l e =
    let own = and_right (led_entries_to count m c t) _ e in
    let d = within 1 count (get_or t (4 * c) 0) in
    ap (λ (x : Bool). x && (d && is_entry n (get_or t (4 * c + 1) 0) (get_or t (4 * c + 2) 0) (get_or t (4 * c + 3) 0))) (led-entries-more count m n c t l (and_left (led_entries_to count m c t) _ e))
    ∙ ap (λ (x : Bool). x && is_entry n (get_or t (4 * c + 1) 0) (get_or t (4 * c + 2) 0) (get_or t (4 * c + 3) 0)) (and_left d _ own)
    ∙ entry_more m n (get_or t (4 * c + 1) 0) (get_or t (4 * c + 2) 0) (get_or t (4 * c + 3) 0) l (and_right d _ own)

-- operands that agree as far as the entries go
pub same-led-calls : (count n : ℕ) (ops ops' : List ℕ) → take n ops' ≡ take n ops → (c : ℕ) (t : List ℕ) → led_entries_to count n c t ≡ true → led_calls_of ops' c t ≡ led_calls_of ops c t
unfolding led_calls_of led_entries_to
same-led-calls count n ops ops' same zero t e = refl
same-led-calls count n ops ops' same (suc c) t e =
    ap (λ (l : List Led). l ++ map (led (get_or t (4 * c) 0)) (listed (call_of ops' (get_or t (4 * c + 1) 0) (get_or t (4 * c + 2) 0) (get_or t (4 * c + 3) 0)))) (same-led-calls count n ops ops' same c t (and_left (led_entries_to count n c t) _ e))
    ∙ ap (λ (l : List Request). led_calls_of ops c t ++ map (led (get_or t (4 * c) 0)) l)
    (same-call n ops ops' same (get_or t (4 * c + 1) 0) (get_or t (4 * c + 2) 0) (get_or t (4 * c + 3) 0) (and_right (within 1 count (get_or t (4 * c) 0)) _ (and_right (led_entries_to count n c t) _ e)))

-- ---- one call more
calls-frame : (ops : List ℕ) (c : ℕ) (t : List ℕ) (x v : ℕ) → 4 * c ≤ x → led_calls_of ops c (set t x v) ≡ led_calls_of ops c t
unfolding led_calls_of
calls-frame ops zero t x v l = refl
calls-frame ops (suc c) t x v l =
    rw (calls-frame ops c t x v (omega arith), get_or-set_other t x (4 * c) v 0 (λ e. omega arith), get_or-set_other t x (4 * c + 1) v 0 (λ e. omega arith), get_or-set_other t x (4 * c + 2) v 0 (λ e. omega arith), get_or-set_other t x (4 * c + 3) v 0 (λ e. omega arith))

entries-frame : (count n c : ℕ) (t : List ℕ) (x v : ℕ) → 4 * c ≤ x → led_entries_to count n c (set t x v) ≡ led_entries_to count n c t
unfolding led_entries_to
entries-frame count n zero t x v l = refl
entries-frame count n (suc c) t x v l =
    rw (entries-frame count n c t x v (omega arith), get_or-set_other t x (4 * c) v 0 (λ e. omega arith), get_or-set_other t x (4 * c + 1) v 0 (λ e. omega arith), get_or-set_other t x (4 * c + 2) v 0 (λ e. omega arith), get_or-set_other t x (4 * c + 3) v 0 (λ e. omega arith))

module _ (t : List ℕ) (c d k a b : ℕ) (inside : 4 * c + 3 < length t) where
  abbrev t1 : List ℕ
  t1 = set t (4 * c) d

  abbrev t2 : List ℕ
  t2 = set t1 (4 * c + 1) k

  abbrev t3 : List ℕ
  t3 = set t2 (4 * c + 2) a

  abbrev pub put : List ℕ
  put = set t3 (4 * c + 3) b

  put-0 : get_or put (4 * c) 0 ≡ d
  put-0 = get_or-set_other t3 (4 * c + 3) (4 * c) b 0 (λ e. omega arith) ∙ get_or-set_other t2 (4 * c + 2) (4 * c) a 0 (λ e. omega arith) ∙ get_or-set_other t1 (4 * c + 1) (4 * c) k 0 (λ e. omega arith) ∙ get_or-set_same t (4 * c) d 0 (omega arith)

  put_1 : get_or put (4 * c + 1) 0 ≡ k
  put_1 = get_or-set_other t3 (4 * c + 3) (4 * c + 1) b 0 (λ e. omega arith) ∙ get_or-set_other t2 (4 * c + 2) (4 * c + 1) a 0 (λ e. omega arith) ∙ get_or-set_same t1 (4 * c + 1) k 0 (simp length-set (omega arith))

  put_2 : get_or put (4 * c + 2) 0 ≡ a
  put_2 = get_or-set_other t3 (4 * c + 3) (4 * c + 2) b 0 (λ e. omega arith) ∙ get_or-set_same t2 (4 * c + 2) a 0 (simp length-set (omega arith))

  put_3 : get_or put (4 * c + 3) 0 ≡ b
  put_3 = get_or-set_same t3 (4 * c + 3) b 0 (simp length-set (omega arith))

  calls-below : (ops : List ℕ) → led_calls_of ops c put ≡ led_calls_of ops c t
  calls-below ops = calls-frame ops c t3 (4 * c + 3) b (omega arith) ∙ calls-frame ops c t2 (4 * c + 2) a (omega arith) ∙ calls-frame ops c t1 (4 * c + 1) k (omega arith) ∙ calls-frame ops c t (4 * c) d (omega arith)

  entries_below : (count n : ℕ) → led_entries_to count n c put ≡ led_entries_to count n c t
  entries_below count n = entries-frame count n c t3 (4 * c + 3) b (omega arith) ∙ entries-frame count n c t2 (4 * c + 2) a (omega arith) ∙ entries-frame count n c t1 (4 * c + 1) k (omega arith) ∙ entries-frame count n c t (4 * c) d (omega arith)

  pub led-calls-put : (ops : List ℕ) → led_calls_of ops (c + 1) put ≡ led_calls_of ops c t ++ map (led d) (listed (call_of ops k a b))
  unfolding led_calls_of
  led-calls-put ops = rw add-one (ap (λ (l : List Led). l ++ map (led (get_or put (4 * c) 0)) (listed (call_of ops (get_or put (4 * c + 1) 0) (get_or put (4 * c + 2) 0) (get_or put (4 * c + 3) 0)))) (calls-below ops)
      ∙ ap (λ (x : ℕ). led_calls_of ops c t ++ map (led x) (listed (call_of ops (get_or put (4 * c + 1) 0) (get_or put (4 * c + 2) 0) (get_or put (4 * c + 3) 0)))) put-0
      ∙ ap (λ (x : ℕ). led_calls_of ops c t ++ map (led d) (listed (call_of ops x (get_or put (4 * c + 2) 0) (get_or put (4 * c + 3) 0)))) put_1
      ∙ ap (λ (x : ℕ). led_calls_of ops c t ++ map (led d) (listed (call_of ops k x (get_or put (4 * c + 3) 0)))) put_2
      ∙ ap (λ (x : ℕ). led_calls_of ops c t ++ map (led d) (listed (call_of ops k a x))) put_3)

  pub led-entries-put : (count n : ℕ) → led_entries_to count n (c + 1) put ≡ (led_entries_to count n c t && (within 1 count d && is_entry n k a b))
  unfolding led_entries_to
  led-entries-put count n = rw add-one (ap (λ (y : Bool). y && (within 1 count (get_or put (4 * c) 0) && is_entry n (get_or put (4 * c + 1) 0) (get_or put (4 * c + 2) 0) (get_or put (4 * c + 3) 0))) (entries_below count n)
      ∙ ap (λ (x : ℕ). led_entries_to count n c t && (within 1 count x && is_entry n (get_or put (4 * c + 1) 0) (get_or put (4 * c + 2) 0) (get_or put (4 * c + 3) 0))) put-0
      ∙ ap (λ (x : ℕ). led_entries_to count n c t && (within 1 count d && is_entry n x (get_or put (4 * c + 2) 0) (get_or put (4 * c + 3) 0))) put_1
      ∙ ap (λ (x : ℕ). led_entries_to count n c t && (within 1 count d && is_entry n k x (get_or put (4 * c + 3) 0))) put_2
      ∙ ap (λ (x : ℕ). led_entries_to count n c t && (within 1 count d && is_entry n k a x)) put_3)
