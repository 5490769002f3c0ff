-- The call line that a letter's byte and two numbers are, with the operands: X, N or a call of the machine. Rests on model's Grammar and on any_call's Kinds.
-- Assumes nothing.
use Rattle.std.specs.Prelude.{ℕ, zero, suc, ◌+◌, ◌-◌, ◌≤◌, ◌≡◌, refl, Bool, true, false, cond, ◌||◌, List, [], ◌∷◌, eqb, length, get_or, take, drop}
use Rattle.std.proofs.Math.Decide.{ℕ_discrete}
use Rattle.std.proofs.Common.{arith, sym, ap, ◌∙◌, true≢false, eq-eqb, ne_eqb}
use Rattle.model.specs.Machine.{call_j, call_s, call_m, call_b, call_w, call_p, call_a}
use Rattle.model.specs.Grammar.{asks, nothing, call_of, late_of, stretch_of, letter_j, letter_s, letter_m, letter_b, letter_w, letter_p, letter_a, letter_x, letter_n}
use Rattle.model.specs.Sale.{Request, runs, call_x, call_n}
use Rattle.any_call.specs.Kinds.{any_call}

-- N's numbers: bales, session and buyers, from a place of the operands on
abbrev pub late_at : List ℕ → ℕ → ℕ → Request
late_at operands x y = call_n (get_or operands x 0) (get_or operands (x + 1) 0) (take (y - 2) (drop (x + 2) operands))

-- X, N, or a call of the machine for every other letter
abbrev pub request_of : List ℕ → ℕ → ℕ → ℕ → Request
request_of operands letter x y = cond (eqb letter letter_x) (call_x x) (cond (eqb letter letter_n) (late_at operands x y) (runs (any_call letter x y)))

-- ---- which it is, by the letter
module _ (operands : List ℕ) (letter x y : ℕ) where
  pub request-X : letter ≡ letter_x → request_of operands letter x y ≡ call_x x
  request-X q = ap (λ (b : Bool). cond b (call_x x) (cond (eqb letter letter_n) (late_at operands x y) (runs (any_call letter x y)))) (eq-eqb letter letter_x q)

  others : (letter ≡ letter_x → ⊥) → request_of operands letter x y ≡ cond (eqb letter letter_n) (late_at operands x y) (runs (any_call letter x y))
  others n = ap (λ (b : Bool). cond b (call_x x) (cond (eqb letter letter_n) (late_at operands x y) (runs (any_call letter x y)))) (ne_eqb letter letter_x n)

  pub request-N : (letter ≡ letter_x → ⊥) → letter ≡ letter_n → request_of operands letter x y ≡ late_at operands x y
  request-N n q = others n ∙ ap (λ (b : Bool). cond b (late_at operands x y) (runs (any_call letter x y))) (eq-eqb letter letter_n q)

  pub request-runs : (letter ≡ letter_x → ⊥) → (letter ≡ letter_n → ⊥) → request_of operands letter x y ≡ runs (any_call letter x y)
  request-runs n q = others n ∙ ap (λ (b : Bool). cond b (late_at operands x y) (runs (any_call letter x y))) (ne_eqb letter letter_n q)

-- N's numbers as the code takes them from the operands
pub late-part : (operands : List ℕ) (x y bales session : ℕ) (buyers : List ℕ) → bales ≡ get_or operands x 0 → session ≡ get_or operands (x + 1) 0 → buyers ≡ take (y - 2) (drop (x + 2) operands)
    → call_n bales session buyers ≡ late_at operands x y
late-part operands x y bales session buyers p q r = λ i. call_n (p i) (q i) (r i)

-- ---- an entry of the table of calls
drop_at : (l : List ℕ) (x : ℕ) → suc x ≤ length l → drop x l ≡ get_or l x 0 ∷ drop (suc x) l
drop_at [] x h = absurd (omega arith)
drop_at (y ∷ l) zero h = refl
drop_at (y ∷ l) (suc x) h = drop_at l x (omega arith)

stretch-at : (l : List ℕ) (x z : ℕ) → x + suc (suc z) ≤ length l → take (suc (suc z)) (drop x l) ≡ get_or l x 0 ∷ (get_or l (suc x) 0 ∷ take z (drop (suc (suc x)) l))
stretch-at l x z h =
    ap (take (suc (suc z))) (drop_at l x (omega arith))
    ∙ ap (λ (r : List ℕ). get_or l x 0 ∷ take (suc z) r) (drop_at l (suc x) (omega arith))

late_is : (operands : List ℕ) (x y : ℕ) (next : Request) → 2 ≤ y → x + y ≤ length operands → late_of (stretch_of operands x y) ≡ asks next → late_at operands x y ≡ next
unfolding late_of
late_is operands x y next l u e =
    let two : y ≡ suc (suc (y - 2)) = omega arith in
    let one : x + 1 ≡ suc x = omega arith in
    let both : x + 2 ≡ suc (suc x) = omega arith in
    let s : stretch_of operands x y ≡ get_or operands x 0 ∷ (get_or operands (x + 1) 0 ∷ take (y - 2) (drop (x + 2) operands)) = rw (one, both) (ap (λ (n : ℕ). take n (drop x operands)) two ∙ stretch-at operands x (y - 2) (omega arith)) in
    same (sym (ap late_of s) ∙ e)
  where
    same : {a b : Request} → asks a ≡ asks b → a ≡ b
    same q = cc

-- a call of the machine
runs-is : (operands : List ℕ) (letter x y : ℕ) (next : Request) → eqb letter letter_x ≡ false → eqb letter letter_n ≡ false → call_of operands letter x y ≡ asks next → runs (any_call letter x y) ≡ next
unfolding call_of
runs-is operands letter x y next o n = go (eqb letter letter_j) (eqb letter letter_s) (eqb letter letter_m) (eqb letter letter_b) (eqb letter letter_w) (eqb letter letter_p) (eqb letter letter_a) (eqb letter letter_x) (eqb letter letter_n) o n
  where
    same : {a b : Request} → asks a ≡ asks b → a ≡ b
    same q = cc

    go : (j s m b w p a o n : Bool) → o ≡ false → n ≡ false → cond j (asks (runs (call_j x y))) (cond s (asks (runs call_s)) (cond m (asks (runs (call_m x y))) (cond b (asks (runs call_b)) (cond w (asks (runs (call_w x y))) (cond p (asks (runs call_p)) (cond a (asks (runs call_a))
        (cond o (asks (call_x x)) (cond n (late_of (stretch_of operands x y)) nothing)))))))) ≡ asks next
        → runs (cond (j || s) (cond j (call_j x y) call_s) (cond (m || (b || (w || p))) (cond m (call_m x y) (cond b call_b (cond w (call_w x y) call_p))) call_a)) ≡ next
    go true s m b w p a o n f g e = same e
    go false true m b w p a o n f g e = same e
    go false false true b w p a o n f g e = same e
    go false false false true w p a o n f g e = same e
    go false false false false true p a o n f g e = same e
    go false false false false false true a o n f g e = same e
    go false false false false false false true o n f g e = same e
    go false false false false false false false true n f g e = absurd (true≢false f)
    go false false false false false false false false true f g e = absurd (true≢false g)
    go false false false false false false false false false f g e = absurd (let z : ◌≡◌ {A = ℕ} 0 1 = cc in omega arith)

-- an entry of the table of calls is taken for the call line that it is
pub request-is : (operands : List ℕ) (letter x y : ℕ) (next : Request) → (letter ≡ letter_n → (2 ≤ y) × (x + y ≤ length operands)) → call_of operands letter x y ≡ asks next → request_of operands letter x y ≡ next
unfolding call_of
request-is operands letter x y next stretch e = go (ℕ_discrete letter letter_x) (ℕ_discrete letter letter_n)
  where
    same : {a b : Request} → asks a ≡ asks b → a ≡ b
    same q = cc

    go : Dec (letter ≡ letter_x) → Dec (letter ≡ letter_n) → request_of operands letter x y ≡ next
    go (yes q) d = request-X operands letter x y q ∙ same (sym (ap (λ (c : ℕ). call_of operands c x y) q) ∙ e)
    go (no nx) (yes q) = request-N operands letter x y nx q ∙ late_is operands x y next (stretch q).0 (stretch q).1 (sym (ap (λ (c : ℕ). call_of operands c x y) q) ∙ e)
    go (no nx) (no nn) = request-runs operands letter x y nx nn ∙ runs-is operands letter x y next (ne_eqb letter letter_x nx) (ne_eqb letter letter_n nn) e
